-- The table that is made in the order of calls is the table of smashed names, and there is one.
use Rattle.std.proofs.Common.{◌≡◌, ℕ, zero, suc, ◌+◌, ◌<◌, Bool, true, false, List, [], ◌∷◌, map, length, reverse, Option, Some, None, slice_get, refl, sym, ap, ◌∙◌, subst, arith}
use Rattle.std.proofs.lemmas.Option.{slice_get_within}
use Rattle.formula.specs.Atoms.{is_among}
use Rattle.fort_syntax.specs.WellFormed.{IsWellFormedUnit, IsWellFormed}
use Rattle.fort_syntax.specs.declared.deck.Deck.{Deck}
use Rattle.fort_syntax.specs.declared.dialect.Dialect.{Dialect}
use Rattle.fort_syntax.specs.declared.name.Name.{Name}
use Rattle.fort_syntax.specs.declared.unit.Unit.{Unit as Routine}
use Rattle.fort_model.specs.CallOrder.{IsCallOrder}
use Rattle.fort_model.specs.Lists.{IsAmong}
use Rattle.fort_model.specs.Program.{Program, names_if_any, is_smashed}
use Rattle.fort_model.specs.SmashTables.{IsSmashTable, smashed_data, are_smashed_data}
use Rattle.fort_model.specs.Smashes.{Smashes, HoldsSmashed}
use Rattle.fort_laws.proofs.DeclaredDecks.{well_at}
use Rattle.smash_laws.specs.Ordered.{with_table, unit_smashes, smash_table, TablesByOrder, OneSmashTable}
use Rattle.smash_laws.proofs.Growing.{AreRight, made, stands}
use Rattle.smash_laws.proofs.Holding.{smashed_is_held, grown_smashes}
use Rattle.smash_laws.proofs.Tests.{filter_same, among_filtered}

-- rows that are right one by one are right together
rows_hold : (p : Program) (k : ℕ) (us : List Routine) (rows : List (List Name)) → length rows ≡ length us
    → ((n : ℕ) (u : Routine) → slice_get us n ≡ Some u → slice_get rows n ≡ Some (smashed_data p (k + n) u)) → are_smashed_data p k us rows
rows_hold p k [] [] long h = tt
rows_hold p k [] (row ∷ rows) long h = absurd (omega arith)
rows_hold p k (u ∷ us) [] long h = absurd (omega arith)
rows_hold p k (u ∷ us) (row ∷ rows) long h =
    (first, rows_hold p (suc k) us rows (omega arith) (λ n v is. h (suc n) v is ∙ ap (λ (m : ℕ). Some (smashed_data p m v)) (place n)))
  where
    place : (n : ℕ) → k + suc n ≡ suc k + n
    place n = omega arith

    at_k : k + 0 ≡ k
    at_k = omega arith

    some_is : {a b : List Name} → Some a ≡ Some b → a ≡ b
    some_is q = cc

    first : row ≡ smashed_data p k u
    first = some_is (h 0 u refl ∙ ap (λ (m : ℕ). Some (smashed_data p m u)) at_k)

module _ (dialect : Dialect) (deck : Deck) (order : List ℕ) (well : IsWellFormed dialect deck) (calls : IsCallOrder deck.units order) where
  abbrev units : List Routine
  units = deck.units

  abbrev made_table : List (List Name)
  made_table = smash_table deck.units order

  abbrev its : Program
  its = with_table units made_table

  right : AreRight units (reverse order) made_table
  right = made units order calls

  whole : (i : ℕ) (u : Routine) → slice_get units i ≡ Some u → IsAmong i (reverse order)
  whole = stands units order calls

  well_units : (i : ℕ) (u : Routine) → slice_get units i ≡ Some u → IsWellFormedUnit dialect u
  well_units i u is = well_at dialect units i u well.units is

  no_row : (i : ℕ) (x : Name) → slice_get units i ≡ None → is_smashed its i x ≡ true → Smashes units i x
  no_row i x none t = by_unit (slice_get made_table i) refl t
    where
      by_unit : (o : Option (List Name)) → slice_get made_table i ≡ o → is_among x (names_if_any o) ≡ true → Smashes units i x
      by_unit None e h = absurd (cc)
      by_unit (Some row) e h =
          let inside : i < length made_table = slice_get_within made_table i row e in
          absurd (past (slice_get units i) refl (omega (arith, right.long)))
        where
          past : (o : Option Routine) → slice_get units i ≡ o → i < length units → ⊥
          past None f h = no_item units i none h
            where
              no_item : (us : List Routine) (n : ℕ) → slice_get us n ≡ None → n < length us → ⊥
              no_item [] n e h = absurd (omega arith)
              no_item (u ∷ us) zero e h = absurd (cc)
              no_item (u ∷ us) (suc n) e h = no_item us n e (omega arith)
          past (Some u) f h = absurd (cc (sym f ∙ none))

  holds : HoldsSmashed its
  holds i x = (λ t. by_unit (slice_get units i) refl t, smashed_is_held units (reverse order) made_table right whole dialect well_units i x)
    where
      by_unit : (o : Option Routine) → slice_get units i ≡ o → is_smashed its i x ≡ true → Smashes units i x
      by_unit None e t = no_row i x e t
      by_unit (Some u) e t = grown_smashes units (reverse order) made_table right whole dialect well_units no_row (reverse order) calls.grows i x (whole i u e) t

  made_rows : are_smashed_data its 0 units made_table
  made_rows = rows_hold its 0 units made_table right.long (λ n u is. at_row n u is ∙ ap (λ (m : ℕ). Some (smashed_data its m u)) (from_zero n))
    where
      from_zero : (n : ℕ) → n ≡ 0 + n
      from_zero n = omega arith

      at_row : (n : ℕ) (u : Routine) → slice_get units n ≡ Some u → slice_get made_table n ≡ Some (smashed_data its n u)
      at_row n u is =
          let e = right.rows n u (whole n u is) is in
          e ∙ ap Some (filter_same (unit_smashes its u) (is_smashed its n) (map (λ d. d.name) u.names)
          (λ x m. sym (ap (λ (o : Option (List Name)). is_among x (names_if_any o)) e ∙ among_filtered (unit_smashes its u) (map (λ d. d.name) u.names) x m)))

  is_table : IsSmashTable its
  is_table = record { holds = holds; rows = made_rows }

-- to be a table rests on the units and the table alone
pub of_units : (p : Program) (units : List Routine) (table : List (List Name)) → p.units ≡ units → p.smashes ≡ table → IsSmashTable (with_table units table) → IsSmashTable p
of_units p units table e f h =
    let own : IsSmashTable (with_table p.units p.smashes) =
    subst (λ (us : List Routine). IsSmashTable (with_table us p.smashes)) (sym e) (subst (λ (rows : List (List Name)). IsSmashTable (with_table units rows)) (sym f) h) in
    record { holds = own.holds; rows = moved p.units p.smashes 0 own.rows }
  where
    moved : (us : List Routine) (rows : List (List Name)) (k : ℕ) → are_smashed_data (with_table p.units p.smashes) k us rows → are_smashed_data p k us rows
    moved [] [] k h = tt
    moved [] (row ∷ rows) k h = h
    moved (u ∷ us) [] k h = h
    moved (u ∷ us) (row ∷ rows) k h = (h.0, moved us rows (suc k) h.1)

pub tables_by_order : TablesByOrder
tables_by_order dialect deck order well calls p e f = of_units p deck.units (smash_table deck.units order) e f (is_table dialect deck order well calls)

-- ---- one table

same_holds : (p q : Program) → p.units ≡ q.units → HoldsSmashed p → HoldsSmashed q → (i : ℕ) (x : Name) → is_smashed p i x ≡ is_smashed q i x
same_holds p q e h k i x = both (is_smashed p i x) (is_smashed q i x)
    (λ t. (k i x).1 (subst (λ (us : List Routine). Smashes us i x) e ((h i x).0 t)))
    (λ t. (h i x).1 (subst (λ (us : List Routine). Smashes us i x) (sym e) ((k i x).0 t)))
  where
    both : (a b : Bool) → (a ≡ true → b ≡ true) → (b ≡ true → a ≡ true) → a ≡ b
    both true b f g = sym (f refl)
    both false true f g = g refl
    both false false f g = refl

pub one_smash_table : OneSmashTable
one_smash_table p q e h k = go p.units 0 p.smashes q.smashes h.rows (subst (λ (us : List Routine). are_smashed_data q 0 us q.smashes) (sym e) k.rows)
  where
    go : (us : List Routine) (n : ℕ) (rows others : List (List Name)) → are_smashed_data p n us rows → are_smashed_data q n us others → rows ≡ others
    go [] n [] [] a b = refl
    go [] n [] (other ∷ others) a b = absurd b
    go [] n (row ∷ rows) others a b = absurd a
    go (u ∷ us) n [] others a b = absurd a
    go (u ∷ us) n (row ∷ rows) [] a b = absurd b
    go (u ∷ us) n (row ∷ rows) (other ∷ others) a b =
        let first : row ≡ other =
        a.0 ∙ (filter_same (is_smashed p n) (is_smashed q n) (map (λ d. d.name) u.names) (λ x m. same_holds p q e h.holds k.holds n x) ∙ sym b.0) in
        ap (λ (r : List Name). r ∷ rows) first ∙ ap (λ (rs : List (List Name)). other ∷ rs) (go us (suc n) rows others a.1 b.1)
