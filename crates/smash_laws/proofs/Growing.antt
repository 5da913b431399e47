-- Made in the order of calls, each row of the table is right by the table itself.
use Rattle.std.proofs.Common.{◌≡◌, ℕ, zero, suc, ◌<◌, List, [], ◌∷◌, ◌++◌, length, set, Some, slice_get, reverse, refl, sym, ap, ◌∙◌, subst, arith}
use Rattle.std.proofs.lemmas.List.{length-replicate, length-set}
use Rattle.std.proofs.lemmas.Option.{slice_get_within}
use Rattle.fort_syntax.specs.declared.name.Name.{Name}
use Rattle.fort_syntax.specs.declared.unit.Unit.{Unit as Routine}
use Rattle.fort_model.specs.CallOrder.{CanStand, Grows, start, next, IsCallOrder}
use Rattle.fort_model.specs.Calls.{Calls}
use Rattle.fort_model.specs.Lists.{IsAmong}
use Rattle.smash_laws.specs.Ordered.{with_table, smashed_row, row_if_any, with_row, with_rows, nothing_smashed, smash_table}
use Rattle.smash_laws.proofs.Agreeing.{row_same}
use Rattle.smash_laws.proofs.Tests.{at_place, at_other, turned, nothing_behind, among_turned}

-- the table of some units, the last of which was the first to come
abbrev pub rows_of : List Routine → List ℕ → List (List Name)
rows_of units [] = nothing_smashed units
rows_of units (i ∷ done) = with_row units (rows_of units done) i

-- The rows of these units are right by the table, and what they call is among them.
pub record AreRight (units : List Routine) (done : List ℕ) (table : List (List Name)) : Type 0 where
  pub long : length table ≡ length units
  pub rows : (i : ℕ) (u : Routine) → IsAmong i done → slice_get units i ≡ Some u → slice_get table i ≡ Some (smashed_row (with_table units table) u)
  pub closed : (i j : ℕ) → IsAmong i done → Calls units i j → IsAmong j done

step : (units : List Routine) (done : List ℕ) (table : List (List Name)) (i : ℕ) → AreRight units done table → CanStand units done i → AreRight units (i ∷ done) (with_row units table i)
step units done table i right stand = record {
  long = length-set table i row ∙ right.long;
  rows = λ k u m is. by_place k u m is;
  closed = λ k j m c. by_member k j m c;
}
  where
    row : List Name
    row = row_if_any (with_table units table) (slice_get units i)

    after : List (List Name)
    after = set table i row

    kept : (k : ℕ) → IsAmong k done → slice_get table k ≡ slice_get after k
    kept k m = sym (at_other table i k row (λ e. stand.new (subst (λ n. IsAmong n done) e m)))

    same : (k : ℕ) (u : Routine) → slice_get units k ≡ Some u → ((j : ℕ) → Calls units k j → IsAmong j done)
        → smashed_row (with_table units table) u ≡ smashed_row (with_table units after) u
    same k u is below = row_same units table after k u is (λ j c. kept j (below j c))

    by_place : (k : ℕ) (u : Routine) → IsAmong k (i ∷ done) → slice_get units k ≡ Some u → slice_get after k ≡ Some (smashed_row (with_table units after) u)
    by_place k u (zero, e) is =
        let q : i ≡ k = cc in
        let own : slice_get units i ≡ Some u = ap (slice_get units) q ∙ is in
        let inside : i < length table = omega (arith, stand.unit, right.long) in
        ap (slice_get after) (sym q) ∙ (at_place table i row inside ∙ (ap (λ o. Some (row_if_any (with_table units table) o)) own ∙ ap Some (same i u own stand.behind)))
    by_place k u (suc n, e) is =
        sym (kept k (n, e)) ∙ (right.rows k u (n, e) is ∙ ap Some (same k u is (λ j c. right.closed k j (n, e) c)))

    by_member : (k j : ℕ) → IsAmong k (i ∷ done) → Calls units k j → IsAmong j (i ∷ done)
    by_member k j (zero, e) c =
        let q : i ≡ k = cc in
        let m = stand.behind j (subst (λ n. Calls units n j) (sym q) c) in (suc m.0, m.1)
    by_member k j (suc n, e) c = let m = right.closed k j (n, e) c in (suc m.0, m.1)

grown : (units : List Routine) (done : List ℕ) → Grows units done → AreRight units done (rows_of units done)
grown units [] start = record {
  long = length-replicate (length units) [];
  rows = λ i u m is. absurd (cc);
  closed = λ i j m c. absurd (cc);
}
grown units (i ∷ done) (next g stand least) = step units done (rows_of units done) i (grown units done g) stand

in_order : (units : List Routine) (done order : List ℕ) → with_rows units (rows_of units done) order ≡ rows_of units (reverse order ++ done)
in_order units done [] = refl
in_order units done (i ∷ order) = in_order units (i ∷ done) order ∙ ap (rows_of units) (sym (turned i order done))

-- the table that is made in an order of calls
pub made : (units : List Routine) (order : List ℕ) → IsCallOrder units order → AreRight units (reverse order) (smash_table units order)
made units order o =
    subst (AreRight units (reverse order)) (sym (in_order units [] order ∙ ap (rows_of units) (nothing_behind (reverse order)))) (grown units (reverse order) o.grows)

-- each unit stands in it
pub stands : (units : List Routine) (order : List ℕ) → IsCallOrder units order → (i : ℕ) (u : Routine) → slice_get units i ≡ Some u → IsAmong i (reverse order)
stands units order o i u is = among_turned order i (o.whole i (slice_get_within units i u is))
