-- The paths of a unit in order.
use Rattle.std.proofs.Common.{◌≡◌, ◌⊎◌, ℕ, zero, suc, ◌+◌, ◌<◌, List, [], ◌∷◌, Option, Some, None, slice_get, refl, sym, ◌∙◌, subst, inl, inr, arith}
use Rattle.std.specs.List.{concat}
use Rattle.fort_syntax.specs.declared.dialect.Dialect.{Dialect}
use Rattle.fort_syntax.specs.declared.unit.Unit.{Unit as Routine}
use Rattle.fort_model.specs.Paths.{cut_at, IsWay, IsWayIn, Path, starts_at, IsPath, ascend_from, Ascend}
use Rattle.fort_notes.specs.Assertions.{Assertion, Notes}
use Rattle.fort_laws.proofs.Near.{near_all}
use Rattle.fort_laws.specs.Ways.{IsCutUp}
use Rattle.path_laws.specs.Laws.{PathsExist}
use Rattle.path_laws.proofs.Pairs.{Below, below_heads, below_front, below_itself, Pairs, Listing, none_listed, both_listed, made_listed}
use Rattle.path_laws.proofs.WaysListed.{over_listed, ways_from}

abbrev pub key : Path → List ℕ
key path = path.start ∷ concat path.choices

-- paths with one start, whose choices are of some kind
abbrev Starts : ℕ → (List (List ℕ) → Type 0) → Path → Type 0
Starts s P path = (path.start ≡ s) × P path.choices

from_start : (s : ℕ) (P : List (List ℕ) → Type 0) → Listing P concat → Listing (Starts s P) key
from_start s P l =
    made_listed P (Starts s P) concat key (λ way. record { start = s; choices = way }) l (λ x y h. below_front (s ∷ []) (concat x) (concat y) h) (λ way h. (refl, h))
    (λ path h. (path.choices, h.1, (λ z. record { start = sym h.0 z; choices = path.choices })))

-- what begins at a lesser start comes first
starts_below : (x y : Path) → x.start < y.start → Below (key x) (key y)
starts_below x y lt = below_heads x.start y.start (concat x.choices) (concat y.choices) lt

module _ (dialect : Dialect) (u : Routine) (notes : Notes) (cut : IsCutUp dialect u notes) where
  -- from ASSERTs of a list, of which the first has the number k
  record FromAsserts (k : ℕ) (asserts : List Assertion) (path : Path) : Type 0 where
    place : ℕ
    assert : Assertion
    at : slice_get asserts place ≡ Some assert
    start : path.start ≡ k + place
    way : IsWay dialect u notes assert.point path.choices

  asserts_listed : (k : ℕ) (asserts : List Assertion) → Listing (FromAsserts k asserts) key
  asserts_listed k [] = none_listed (FromAsserts k []) key no
    where
      no : (path : Path) → FromAsserts k [] path → ⊥
      no path h = let e = h.at in absurd (cc)
  asserts_listed k (a ∷ asserts) =
      both_listed (Starts k (IsWay dialect u notes a.point)) (FromAsserts (suc k) asserts) (FromAsserts k (a ∷ asserts)) key
      (from_start k (IsWay dialect u notes a.point) (ways_from dialect u notes a.point (near_all dialect u notes cut a.point)))
      (asserts_listed (suc k) asserts)
      (λ x y h n. starts_below x y (less x.start y.start h.0 n.place n.start))
      (λ path h. let zeroth : k ≡ k + 0 = omega arith in record { place = 0; assert = a; at = refl; start = h.0 ∙ zeroth; way = h.1 })
      (λ path n. let next : suc k + n.place ≡ k + suc n.place = omega arith in
      record { place = suc n.place; assert = n.assert; at = n.at; start = n.start ∙ next; way = n.way })
      (λ path n. split path n.place n.assert n.at n.start n.way)
    where
      less : (s t : ℕ) → s ≡ k → (i : ℕ) → t ≡ suc k + i → s < t
      less s t e i f = omega arith

      split : (path : Path) (i : ℕ) (b : Assertion) → slice_get (a ∷ asserts) i ≡ Some b → path.start ≡ k + i → IsWay dialect u notes b.point path.choices
          → Starts k (IsWay dialect u notes a.point) path ⊎ FromAsserts (suc k) asserts path
      split path zero b e s w =
          let same : a ≡ b = cc in
          let start : path.start ≡ k = omega arith in
          inl (start, subst (λ (x : Assertion). IsWay dialect u notes x.point path.choices) (sym same) w)
      split path (suc i) b e s w =
          let start : path.start ≡ suc k + i = omega arith in
          inr (record { place = i; assert = b; at = e; start = start; way = w })

  entry_listed : Listing (Starts 0 (IsWayIn dialect u notes)) key
  entry_listed =
      from_start 0 (IsWayIn dialect u notes)
      (over_listed dialect u notes (IsWay dialect u notes 0) (cut_at u notes 0) (λ c. ways_from dialect u notes 0 (near_all dialect u notes cut 0)))

  entry_path : (path : Path) → Starts 0 (IsWayIn dialect u notes) path → IsPath dialect u notes path
  entry_path path h = subst (IsPath dialect u notes) (λ z. record { start = sym h.0 z; choices = path.choices }) h.1

  assert_path : (path : Path) → FromAsserts 1 notes.asserts path → IsPath dialect u notes path
  assert_path path h =
      let next : 1 + h.place ≡ suc h.place = omega arith in
      subst (IsPath dialect u notes) (λ z. record { start = sym (h.start ∙ next) z; choices = path.choices })
      (subst (λ (o : Option Assertion). starts_at dialect u notes o path.choices) (sym h.at) h.way)

  paths_split : (path : Path) → IsPath dialect u notes path → Starts 0 (IsWayIn dialect u notes) path ⊎ FromAsserts 1 notes.asserts path
  paths_split path h = by path.start refl (subst (IsPath dialect u notes) whole h)
    where
      whole : path ≡ record { start = path.start; choices = path.choices }
      whole = refl

      by : (s : ℕ) → path.start ≡ s → IsPath dialect u notes (record { start = path.start; choices = path.choices }) → Starts 0 (IsWayIn dialect u notes) path ⊎ FromAsserts 1 notes.asserts path
      by zero e k = inl (e, subst (λ (s : ℕ). IsPath dialect u notes (record { start = s; choices = path.choices })) e k)
      by (suc i) e k = inr (at (slice_get notes.asserts i) refl (subst (λ (s : ℕ). IsPath dialect u notes (record { start = s; choices = path.choices })) e k))
        where
          at : (o : Option Assertion) → slice_get notes.asserts i ≡ o → starts_at dialect u notes o path.choices → FromAsserts 1 notes.asserts path
          at None f k = absurd k
          at (Some a) f k = let next : suc i ≡ 1 + i = omega arith in record { place = i; assert = a; at = f; start = e ∙ next; way = k }

  paths_listed : Listing (IsPath dialect u notes) key
  paths_listed =
      both_listed (Starts 0 (IsWayIn dialect u notes)) (FromAsserts 1 notes.asserts) (IsPath dialect u notes) key entry_listed (asserts_listed 1 notes.asserts)
      (λ x y h n. starts_below x y (first x.start y.start h.0 n.place n.start)) entry_path assert_path paths_split
    where
      first : (s t : ℕ) → s ≡ 0 → (i : ℕ) → t ≡ 1 + i → s < t
      first s t e i f = omega arith

-- ---- in order

ascend_pairs : (paths : List Path) → Pairs (λ x y. Below (key x) (key y)) paths → Ascend paths
ascend_pairs [] h = tt
ascend_pairs (a ∷ paths) h = from a paths h
  where
    from : (a : Path) (paths : List Path) → Pairs (λ x y. Below (key x) (key y)) (a ∷ paths) → ascend_from a paths
    from a [] h = tt
    from a (b ∷ paths) h = (below_itself (key a) (key b) (h.0 b (0, refl)), from b paths h.1)

pub paths_exist : PathsExist
paths_exist dialect u notes cut =
    let l = paths_listed dialect u notes cut in
    (l.list, record { ascending = ascend_pairs l.list l.apart; whole = λ path. (λ h. l.whole path h, λ m. l.sound path m) })
