-- Sets of units.
use Rattle.std.proofs.Common.{◌≡◌, ℕ, zero, suc, ◌+◌, ◌<◌, ◌≤◌, Bool, true, false, List, [], ◌∷◌, ◌++◌, length, drop, get_or, refl, sym, ap, ◌∙◌, arith}
use Rattle.std.specs.Prelude.{◌&&◌, ◌||◌, ◌==◌, nat_eq, if◌then◌else◌}
use Rattle.std.specs.List.{list_any}
use Rattle.std.proofs.lemmas.List.{at_drop_more, at_drop_all}
use Rattle.std.proofs.lemmas.Bool.{eqb-true, eq-eqb}
use Rattle.indexmap.specs.IndexSet.{insert_key}
use Rattle.fort_syntax.specs.declared.deck.Placed.{Placed}
use Rattle.fort_notes.specs.Judging as judging
use Rattle.fort_notes.specs.Judging.{begins_with, stands_in}
use Rattle.note_places.specs.Places.{is_known, AreUnitsWith}

swap : (a b c : Bool) → (a || (b || c)) ≡ (b || (a || c))
swap true true c = refl
swap true false c = refl
swap false b c = refl

known_more : (i v : ℕ) (ns : List ℕ) → is_known i (ns ++ v ∷ []) ≡ (nat_eq i v || is_known i ns)
known_more i v [] = refl
known_more i v (n ∷ ns) = ap (λ b. nat_eq i n || b) (known_more i v ns) ∙ swap (nat_eq i n) (nat_eq i v) (is_known i ns)

already : (i v : ℕ) (ns : List ℕ) (same : Bool) → nat_eq i v ≡ same → is_known v ns ≡ true → is_known i ns ≡ (same || is_known i ns)
already i v ns true e h = ap (λ k. is_known k ns) (eqb-true i v e) ∙ h
already i v ns false e h = refl

known_insert : (i v : ℕ) (ns : List ℕ) (there : Bool) → is_known v ns ≡ there → is_known i (if there then ns else ns ++ v ∷ []) ≡ (nat_eq i v || is_known i ns)
known_insert i v ns true h = already i v ns (nat_eq i v) refl h
known_insert i v ns false h = known_more i v ns

pub known_after : (i v : ℕ) (ns new : List ℕ) → new ≡ insert_key nat_eq ns v → is_known i new ≡ (nat_eq i v || is_known i ns)
known_after i v ns new e = ap (is_known i) e ∙ known_insert i v ns (is_known v ns) refl

decided : (b c : Bool) → (b ≡ true → c ≡ true) → (c ≡ true → b ≡ true) → b ≡ c
decided true c there back = sym (there refl)
decided false true there back = back refl
decided false false there back = refl

same_sides : (a b : ℕ) → nat_eq a b ≡ nat_eq b a
same_sides a b = decided (nat_eq a b) (nat_eq b a) (λ e. eq-eqb b a (sym (eqb-true a b e))) (λ e. eq-eqb a b (sym (eqb-true b a e)))

front : (b : Bool) (x y : ℕ) (r : Bool) → ((nat_eq x y && b) || r) ≡ ((nat_eq y x && b) || r)
front b x y r = ap (λ e. (e && b) || r) (same_sides x y)

-- one more note in front
pub units_step : (kind : judging.Word) (notes : List Placed) (old new : List ℕ) (i n : ℕ) (d : Placed) → n ≡ suc i → n ≤ length notes
    → AreUnitsWith kind (drop n notes) old
    → ((k : ℕ) → is_known k new ≡ ((nat_eq k (get_or notes i d).unit && begins_with kind (get_or notes i d)) || is_known k old))
    → AreUnitsWith kind (drop i notes) new
units_step kind notes old new i n d next within had put k =
    let lt : i < length notes = omega arith in
    let one : n ≡ i + 1 = omega arith in
    let e = get_or notes i d in
    put k
    ∙ ap (λ b. (nat_eq k e.unit && begins_with kind e) || b) (had k ∙ ap (λ (m : ℕ). stands_in kind k (drop m notes)) one)
    ∙ front (begins_with kind e) k e.unit (stands_in kind k (drop (i + 1) notes))
    ∙ sym (at_drop_more (λ (rest : List Placed). stands_in kind k rest) notes i d lt)
