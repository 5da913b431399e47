-- The names of a well-formed unit are apart.
use Rattle.std.proofs.Common.{◌≡◌, zero, suc, Bool, true, false, cond, ◌||◌, List, [], ◌∷◌, Option, Some, None, refl, sym, ap, ◌∙◌, subst}
use Rattle.formula.specs.Atoms.{is_among, has_twin}
use Rattle.fort_syntax.specs.Names.{commons, data_name, has_common, has_role, is_in_common, is_own, own_in}
use Rattle.fort_syntax.specs.WellFormed.{IsWellFormedUnit, commons_of_unit}
use Rattle.fort_syntax.specs.declared.dialect.Dialect.{Dialect}
use Rattle.fort_syntax.specs.declared.name.Name.{Name}
use Rattle.fort_syntax.specs.declared.unit.DataName.{DataName}
use Rattle.fort_syntax.specs.declared.unit.Role.{Role}
use Rattle.fort_syntax.specs.declared.unit.Role.TheVariants.{Dummy, InCommon, OwnValue, Local}
use Rattle.fort_syntax.specs.declared.unit.Unit.{Unit as Routine}
use Rattle.fort_model.specs.Lists.{IsAmong}
use Rattle.fort_laws.proofs.DeclaredNames.{among_mapped, data_among, found_named, named_among, names_of_data, no_twin_apart, no_twin_left, has_own_name}
use Rattle.fort_laws.proofs.DeclaredUnits.{blocks_hold_commons, common_role, dummy_role, is_common, no_twins, no_twins_held}
use Rattle.fort_laws.proofs.FrameSeats.{clash}
use Rattle.fort_laws.proofs.Near.{known}
use Rattle.fort_laws.proofs.RulesKept.{neither}
use Rattle.run_state.specs.Shows.{HasApartNames, own_names_of}

-- ---- names with new cells are data names

record IsOwnName (ds : List DataName) (x : Name) : Type 0 where
  its : DataName
  among : IsAmong its ds
  name : its.name ≡ x
  own : is_own its.role ≡ true

own_later : (e : DataName) (ds : List DataName) (d : DataName) → IsAmong d ds × (is_own d.role ≡ true) → IsAmong d (e ∷ ds) × (is_own d.role ≡ true)
own_later e ds d r = ((suc r.0.0, r.0.1), r.1)

own_first : (e : DataName) (ds : List DataName) (d : DataName) → (IsAmong d (own_in ds) → IsAmong d ds × (is_own d.role ≡ true)) → is_own e.role ≡ true → IsAmong d (e ∷ own_in ds)
    → IsAmong d (e ∷ ds) × (is_own d.role ≡ true)
own_first e ds d rec t (zero, q) = let same : e ≡ d = cc in ((0, q), ap (λ (z : DataName). is_own z.role) (sym same) ∙ t)
own_first e ds d rec t (suc k, q) = own_later e ds d (rec (k, q))

own_either : (e : DataName) (ds : List DataName) (d : DataName) → (IsAmong d (own_in ds) → IsAmong d ds × (is_own d.role ≡ true)) → (b : Bool) → is_own e.role ≡ b
    → IsAmong d (cond b (e ∷ own_in ds) (own_in ds)) → IsAmong d (e ∷ ds) × (is_own d.role ≡ true)
own_either e ds d rec true t m = own_first e ds d rec t m
own_either e ds d rec false t m = own_later e ds d (rec m)

own_data : (ds : List DataName) (d : DataName) → IsAmong d (own_in ds) → IsAmong d ds × (is_own d.role ≡ true)
own_data [] d m = absurd (cc)
own_data (e ∷ ds) d m = own_either e ds d (own_data ds d) (is_own e.role) refl m

own_name : (ds : List DataName) (x : Name) → is_among x (names_of_data (own_in ds)) ≡ true → IsOwnName ds x
own_name ds x h =
    let m = among_mapped (λ d. d.name) (own_in ds) x (named_among (names_of_data (own_in ds)) x h) in
    let r = own_data ds m.0 m.1 in
    record { its = m.0; among = r.0; name = m.2; own = r.1 }

no_own_twin : (d : DataName) (ds : List DataName) → is_among d.name (names_of_data ds) ≡ false → has_twin (names_of_data (own_in ds)) ≡ false → (b : Bool)
    → has_twin (names_of_data (cond b (d ∷ own_in ds) (own_in ds))) ≡ false
no_own_twin d ds n rest false = rest
no_own_twin d ds n rest true = ap (λ (t : Bool). t || has_twin (names_of_data (own_in ds))) alone ∙ rest
  where
    twice : IsOwnName ds d.name → ⊥
    twice o = clash (is_among d.name (names_of_data ds)) (subst (λ (x : Name). is_among x (names_of_data ds) ≡ true) o.name (has_own_name ds o.its o.among)) n

    alone : is_among d.name (names_of_data (own_in ds)) ≡ false
    alone = known (is_among d.name (names_of_data (own_in ds))) (λ t. absurd (twice (own_name ds d.name t))) (λ f. f)

no_own_twins : (ds : List DataName) → has_twin (names_of_data ds) ≡ false → has_twin (names_of_data (own_in ds)) ≡ false
no_own_twins [] h = refl
no_own_twins (d ∷ ds) h = let n = neither (is_among d.name (names_of_data ds)) (has_twin (names_of_data ds)) h in no_own_twin d ds n.0 (no_own_twins ds n.1) (is_own d.role)

module _ (dialect : Dialect) (u : Routine) (w : IsWellFormedUnit dialect u) where
  no_dummy_owned : (x : Name) → is_among x u.dummies ≡ true → IsOwnName u.names x → ⊥
  no_dummy_owned x h o =
      let r : o.its.role ≡ Dummy = dummy_role dialect u w o.its o.among (ap (λ y. is_among y u.dummies) o.name ∙ h) in
      clash (is_own o.its.role) o.own (ap is_own r)

  no_common_owned : (x : Name) → is_among x (commons_of_unit u) ≡ true → IsOwnName u.names x → ⊥
  no_common_owned x h o =
      let r : o.its.role ≡ InCommon = common_role dialect u w o.its o.among (ap (λ y. is_among y (commons_of_unit u)) o.name ∙ h) in
      clash (is_own o.its.role) o.own (ap is_own r)

  stands : (x : Name) → has_common u x ≡ true → is_among x (commons_of_unit u) ≡ true
  stands x h = by_data (data_name u x) refl h
    where
      by_role : (r : Role) → is_in_common r ≡ true → r ≡ InCommon
      by_role Dummy t = absurd (cc)
      by_role InCommon t = refl
      by_role OwnValue t = absurd (cc)
      by_role Local t = absurd (cc)

      by_data : (o : Option DataName) → data_name u x ≡ o → has_role is_in_common o ≡ true → is_among x (commons_of_unit u) ≡ true
      by_data None e t = absurd (cc)
      by_data (Some d) e t =
          subst (λ (z : Name). is_among z (commons_of_unit u) ≡ true) (found_named u.names x d e) (is_common dialect u w d (data_among u.names x d e) (by_role d.role t))

  no_dummy : (x : Name) → is_among x (commons_of_unit u) ≡ true → is_among x u.dummies ≡ false
  no_dummy x h =
      known (is_among x u.dummies)
      (λ t. absurd (clash (is_among x (commons_of_unit u)) h (no_twin_apart u.dummies (commons_of_unit u) x (no_twins_held dialect u w) t)))
      (λ f. f)

  not_owned : (x : Name) → (IsOwnName u.names x → ⊥) → is_among x (own_names_of u) ≡ false
  not_owned x never = known (is_among x (own_names_of u)) (λ t. absurd (never (own_name u.names x t))) (λ f. f)

  pub apart : HasApartNames u
  apart = record {
    dummies_once = no_twin_left u.dummies (commons_of_unit u) (no_twins_held dialect u w);
    own_once = no_own_twins u.names (no_twins dialect u w);
    dummies_apart = λ x h. not_owned x (no_dummy_owned x h);
    commons_apart = λ x h. (no_dummy x (stands x h), not_owned x (no_common_owned x (stands x h)));
    commons_held = λ x h. blocks_hold_commons dialect u w x (named_among (commons u) x h);
  }
