-- An order is not longer than its graph, and numbers grow along ways.
use Rattle.std.proofs.Common.{◌≡◌, ℕ, zero, suc, ◌+◌, ◌<◌, ◌≤◌, ◌⊎◌, inl, inr, Bool, true, false, List, [], ◌∷◌, ◌++◌, length, get_or, take, reverse, refl, sym, ap, ◌∙◌, subst, arith}
use Rattle.std.specs.Prelude.{◌==◌, ◌||◌}
use lib.Dec.{eqb}
use Rattle.std.specs.List.{IsDistinct, list_any, AllByRecursion}
use Rattle.std.proofs.lemmas.Bool.Decides.{nat_tests}
use Rattle.std.proofs.lemmas.List.{get_or-take, length-take-le, length-reverse}
use Rattle.std.proofs.lemmas.Map.Steps.{length-le_from_distinct_below}
use Rattle.digraph.specs.Graphs.{Has, Edge, Reaches, edge, further, IsAcyclic}
use Rattle.digraph.specs.Orders.{Grows, start, next, IsOrder, GrowAlong}
use Rattle.flow_nodes.specs.Cycles.{AreNumbers}

any_has : (q : ℕ) (xs : List ℕ) → list_any (eqb q) xs ≡ true → Has q xs
any_has q [] h = absurd cc
any_has q (x ∷ xs) h = by (any_has q xs) (eqb q x) refl h
  where
    by : (list_any (eqb q) xs ≡ true → Has q xs) → (b : Bool) → eqb q x ≡ b → (b || list_any (eqb q) xs) ≡ true → Has q (x ∷ xs)
    by rec true e t = inl (grind (arith, nat_tests, e))
    by rec false e t = inr (rec t)

differ : (p x : ℕ) → (p ≡ x → ⊥) → eqb p x ≡ false
differ p x n = by (eqb p x) refl
  where
    by : (b : Bool) → eqb p x ≡ b → eqb p x ≡ false
    by true e = absurd (n (grind (arith, nat_tests, e)))
    by false e = e

all_differ : (p : ℕ) (xs : List ℕ) → (Has p xs → ⊥) → AllByRecursion (λ y. eqb p y ≡ false) xs
all_differ p [] n = tt
all_differ p (x ∷ xs) n = (differ p x (λ e. n (inl e)), all_differ p xs (λ h. n (inr h)))

distinct : (g : List (List ℕ)) (done : List ℕ) → Grows g done → IsDistinct eqb done
unfolding IsDistinct
distinct g [] start = tt
distinct g (p ∷ done) (next before can least) = (all_differ p done can.new, distinct g done before)

inside : (g : List (List ℕ)) (done : List ℕ) → Grows g done → (q : ℕ) → Has q done → q < length g
inside g [] start q h = absurd h
inside g (p ∷ done) (next before can least) q (inl e) = subst (λ z. z < length g) (sym e) can.point
inside g (p ∷ done) (next before can least) q (inr h) = inside g done before q h

pub order_short : (g : List (List ℕ)) (order : List ℕ) → IsOrder g order → length order ≤ length g
order_short g order is =
    let l = length-le_from_distinct_below (reverse order) (length g) (distinct g (reverse order) is.grows)
    (λ q t. inside g (reverse order) is.grows q (any_has q (reverse order) t)) in
    let r = length-reverse order in
    omega (arith, l, r)

grow_along : (g : List (List ℕ)) (ranks : List ℕ) → GrowAlong g ranks → (p q : ℕ) → Reaches g p q → get_or ranks p 0 < get_or ranks q 0
grow_along g ranks grows p q (edge e) = grows p q e
grow_along g ranks grows p q (further {q = r} h e) =
    let a = grow_along g ranks grows p r h in
    let b = grows r q e in
    omega (arith, a, b)

pub are_numbers : (g : List (List ℕ)) (size : ℕ) (ranks : List ℕ) → size ≤ length ranks → IsAcyclic g → GrowAlong g ranks → AreNumbers g size (take size ranks)
are_numbers g size ranks le free grows = record {
  free = free;
  long = length-take-le size ranks le;
  growing = λ p q hp hq r.
      let a = grow_along g ranks grows p q r in
      let x = get_or-take size ranks p 0 hp in
      let y = get_or-take size ranks q 0 hq in
      omega (arith, a, x, y);
}
