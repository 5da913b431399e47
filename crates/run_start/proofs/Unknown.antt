-- Names and sites that are none.
use Rattle.std.proofs.Common.{◌≡◌, ℕ, zero, suc, ◌≤◌, Bool, not, ◌&&◌, Option, Some, None, is_some, List, [], ◌∷◌, length, slice_get, refl, sym, ap, ◌∙◌, arith}
use Rattle.std.specs.List.{list_all}
use Rattle.std.proofs.lemmas.Option.{slice_get_past}
use Rattle.formula.specs.Atoms.{is_among, has_twin}
use Rattle.fort_syntax.specs.declared.name.Name.{Name}
use Rattle.fort_syntax.specs.declared.unit.Unit.{Unit as Routine}
use Rattle.fort_notes.specs.declared.cases.Given.{Given}
use Rattle.fort_notes.specs.declared.cases.Passing.{Passing}
use Rattle.fort_notes.specs.declared.cases.Passing.TheVariants.{Reference, Copy, Listed}
use Rattle.fort_notes.specs.declared.cases.Site.{Site}
use Rattle.fort_model.specs.CallFacts.{sites_of_unit}
use Rattle.fort_model.specs.Calls.{CallSite}
use Rattle.run_shapes.specs.Coded.{calls_coded, IsCodeOf}
use Rattle.run_shapes.specs.declared.unit_code.Code.{Code}
use Rattle.run_shapes.specs.declared.unit_code.UnitCode.{UnitCode}
use Rattle.run_state.proofs.Slots.{unit_coded, unit_there}
use Rattle.unit_tables.specs.Tables.{told}
use Rattle.run_start.specs.Cases.{AreTables}
use Rattle.run_start.specs.Decks.{coded_place, coded_call, coded_site, coded_site_in, all_coded, are_coded_sites}
use Rattle.run_start.specs.Places.{ArePlacesOf}
use Rattle.run_start.specs.Starts.{are_names, are_sites, call_in, entities, has_place, is_site_in, is_site_of, is_unknown_in, names_given, unit_named}
use Rattle.run_start.specs.declared.tables.Tables.{Tables}
use Rattle.run_start.proofs.Firsts.{placed, units_placed}

known_all : (ents : List Name) (table : List (Name × ℕ)) → ArePlacesOf ents table → (ws : List Name) → list_all (λ x. is_some (told table x)) ws ≡ list_all (λ x. is_among x ents) ws
known_all ents table are [] = refl
known_all ents table are (w ∷ ws) =
    ap (λ (b : Bool). b && list_all (λ x. is_some (told table x)) ws) (ap is_some (are w) ∙ placed ents w 0) ∙ ap (λ (b : Bool). is_among w ents && b) (known_all ents table are ws)

-- ---- sites

call_same : (units : List Routine) (n : ℕ) (sites : List CallSite) (k p : ℕ) → coded_place (slice_get (calls_coded units n sites) k) p ≡ has_place (slice_get sites k) p
call_same units n [] k p = refl
call_same units n (s ∷ sites) zero p = refl
call_same units n (s ∷ sites) (suc k) p = call_same units (suc n) sites k p

numbered : (units : List Routine) (u : Routine) (call p : ℕ) → coded_place (coded_call (calls_coded units 1 (sites_of_unit u)) call) p ≡ has_place (call_in u call) p
numbered units u zero p = refl
numbered units u (suc k) p = call_same units 1 (sites_of_unit u) k p

past : {X : Type 0} (xs : List X) (i : ℕ) → slice_get xs i ≡ None → length xs ≤ i
past [] i e = omega arith
past (x ∷ xs) zero e = absurd (cc)
past (x ∷ xs) (suc i) e = let r : length xs ≤ i = past xs i e in omega arith

module _ (units : List Routine) (code : Code) (coded : IsCodeOf code.dialect units code) where
  site_at : (i : ℕ) (s : Site) → coded_site (slice_get code.units i) s ≡ is_site_of (slice_get units i) s
  site_at i s = by (slice_get units i) refl
    where
      by : (o : Option Routine) → slice_get units i ≡ o → coded_site (slice_get code.units i) s ≡ is_site_of (slice_get units i) s
      by (Some u) e =
          ap (λ (c : Option UnitCode). coded_site c s) (unit_there code.dialect units code coded i u e)
          ∙ (ap (λ cs. coded_place (coded_call cs s.call) s.place) (unit_coded code.dialect units code coded i u e).calls_told
          ∙ (numbered units u s.call s.place ∙ ap (λ (o : Option Routine). is_site_of o s) (sym e)))
      by None e =
          let l : length units ≤ i = past units i e in
          let q : length code.units ≡ length units = coded.long in
          ap (λ (c : Option UnitCode). coded_site c s) (slice_get_past code.units i (let r : length code.units ≤ i = omega arith in r)) ∙ ap (λ (o : Option Routine). is_site_of o s) (sym e)

  site_in : (o : Option ℕ) (s : Site) → coded_site_in code.units o s ≡ is_site_in units o s
  site_in None s = refl
  site_in (Some i) s = site_at i s

  all_sites : (sites : List Site) → all_coded units code.units sites ≡ list_all (λ s. is_site_in units (unit_named units s.unit) s) sites
  all_sites [] = refl
  all_sites (s ∷ sites) =
      ap (λ (b : Bool). b && all_coded units code.units sites) (ap (λ (o : Option ℕ). coded_site_in code.units o s) (sym (units_placed units s.unit 0)) ∙ site_in (unit_named units s.unit) s)
      ∙ ap (λ (b : Bool). is_site_in units (unit_named units s.unit) s && b) (all_sites sites)

  sites_same : (p : Passing) → are_coded_sites units code.units p ≡ are_sites units p
  sites_same Reference = refl
  sites_same Copy = refl
  sites_same (Listed sites) = all_sites sites

  pub unknown_is : (u : Routine) (given : List Given) (t : Tables) (p : Passing) (known sites : Bool) → AreTables u given t → known ≡ list_all (λ x. is_some (told t.places x)) t.words.items
      → sites ≡ are_coded_sites units code.units p → not ((not t.twice && known) && sites) ≡ is_unknown_in units p (Some u) given
  unknown_is u given t p known sites are k s =
      ap (λ (b : Bool). not ((not b && known) && sites)) are.twice
      ∙ (ap (λ (b : Bool). not ((not (has_twin (names_given given)) && b) && sites))
      (k ∙ (known_all (entities u) t.places are.places t.words.items ∙ ap (λ (ws : List Name). list_all (λ x. is_among x (entities u)) ws) are.words))
      ∙ ap (λ (b : Bool). not (are_names u given && b)) (s ∙ sites_same p))
