-- The first condition of a name in lists.
use Rattle.std.proofs.Common.{◌≡◌, ℕ, suc, ◌+◌, ◌-◌, ◌<◌, ◌≤◌, Bool, true, false, cond, Option, Some, None, List, [], ◌∷◌, length, drop, map, get_or, slice_get, refl, sym, ap, subst, ◌∙◌, arith}
use Rattle.std.proofs.lemmas.List.{at_drop_more, at_drop_all}
use Rattle.std.proofs.lemmas.List.Elements.{All-head, All-tail}
use Rattle.std.specs.List.{All}
use Rattle.std.specs.Prelude.{IfSome, option_map}
use Rattle.formula.specs.Atoms.{same_bytes}
use Rattle.formula.specs.declared.node.Node.{Node}
use Rattle.formula.specs.declared.value.Value.{Value}
use Rattle.formula.specs.Worth.{Function}
use Rattle.fort_syntax.specs.declared.condition.Condition.{Condition}
use Rattle.fort_syntax.specs.Conditions.{ConditionTree}
use Rattle.event_text.specs.Conditions.{condition_tree}
use Rattle.try_lines.specs.Lemmas.{condition_at, told, Tells, first_place, first_named, name_of}
use Rattle.try_lines.specs.Tries.{named, tried}
use Rattle.try_lines.specs.declared.verdict.Verdict.{Verdict}
use Rattle.try_lines.specs.declared.verdict.Verdict.TheVariants.{Unknown}

-- a table of the conditions behind a place, told of the one there, is one of the conditions from there on
pub place_step : (cs : List Condition) (old new : List (List ℕ × ℕ)) (i n : ℕ) (name : List ℕ) (c : Condition) → n ≡ suc i → n ≤ length cs → c ≡ get_or cs i c → name ≡ name_of c
    → ((w : List ℕ) → told old w ≡ first_place w (drop n cs) n) → Tells old new name i
    → (i ≤ length cs) × ((w : List ℕ) → told new w ≡ first_place w (drop i cs) i)
place_step cs old new i n name c next within read called had tells = (omega arith, step)
  where
    lt : i < length cs
    lt = omega arith

    one : suc i ≡ i + 1
    one = omega arith

    step : (w : List ℕ) → told new w ≡ first_place w (drop i cs) i
    step w =
        tells w ∙ ap (λ (o : Option ℕ). cond (same_bytes name w) (Some i) o) (had w ∙ ap (λ (m : ℕ). first_place w (drop m cs) m) next)
        ∙ ap (λ (k : List ℕ). cond (same_bytes k w) (Some i) (first_place w (drop (suc i) cs) (suc i))) called
        ∙ ap (λ (e : Condition). first_place w (e ∷ drop (suc i) cs) i) read
        ∙ ap (λ (m : ℕ). first_place w (get_or cs i c ∷ drop m cs) i) one
        ∙ sym (at_drop_more (λ (rest : List Condition). first_place w rest i) cs i c lt)

pub place_start : (cs : List Condition) (w : List ℕ) → told [] w ≡ first_place w (drop (length cs) cs) (length cs)
place_start cs w = sym (at_drop_all (λ (rest : List Condition). first_place w rest (length cs)) cs (length cs) (omega arith))

-- what stands in a list at a place that counts i others before it
abbrev at_behind : ℕ → List Condition → Option ℕ → Option Condition
at_behind i cs None = None
at_behind i cs (Some k) = slice_get cs (k - i)

shifted : (i : ℕ) (c : Condition) (cs : List Condition) (o : Option ℕ) → ((k : ℕ) → o ≡ Some k → suc i ≤ k) → at_behind i (c ∷ cs) o ≡ at_behind (suc i) cs o
shifted i c cs None h = refl
shifted i c cs (Some k) h =
    let lt : suc i ≤ k = h k refl in
    let e : k - i ≡ suc (k - suc i) = omega arith in
    ap (λ (j : ℕ). slice_get (c ∷ cs) j) e

own_place : (i : ℕ) (c : Condition) (cs : List Condition) → slice_get (c ∷ cs) (i - i) ≡ Some c
own_place i c cs = let e : i - i ≡ 0 = omega arith in ap (λ (j : ℕ). slice_get (c ∷ cs) j) e

from_by : (b : Bool) (i k : ℕ) (o : Option ℕ) → cond b (Some i) o ≡ Some k → (o ≡ Some k → suc i ≤ k) → i ≤ k
from_by true i k o e rest = let same : i ≡ k = cc in subst (λ (j : ℕ). i ≤ j) same (omega arith)
from_by false i k o e rest = let h = rest e in omega arith

place_from : (w : List ℕ) (cs : List Condition) (i k : ℕ) → first_place w cs i ≡ Some k → i ≤ k
place_from w [] i k e = absurd cc
place_from w (c ∷ cs) i k e = from_by (same_bytes (name_of c) w) i k (first_place w cs (suc i)) e (place_from w cs (suc i) k)

entry_by : (b : Bool) (i : ℕ) (c : Condition) (cs : List Condition) (o : Option ℕ) (found : Option Condition)
    → at_behind i (c ∷ cs) o ≡ found → at_behind i (c ∷ cs) (cond b (Some i) o) ≡ cond b (Some c) found
entry_by true i c cs o found e = own_place i c cs
entry_by false i c cs o found e = e

-- at the place of a name stands the condition of that name
place_entry : (w : List ℕ) (cs : List Condition) (i : ℕ) → at_behind i cs (first_place w cs i) ≡ first_named w cs
place_entry w [] i = refl
place_entry w (c ∷ cs) i =
    entry_by (same_bytes (name_of c) w) i c cs (first_place w cs (suc i)) (first_named w cs)
    (shifted i c cs (first_place w cs (suc i)) (place_from w cs (suc i)) ∙ place_entry w cs (suc i))

from_zero : (cs : List Condition) (o : Option ℕ) → condition_at cs o ≡ at_behind 0 cs o
from_zero cs None = refl
from_zero cs (Some k) = let e : k ≡ k - 0 = omega arith in ap (λ (j : ℕ). slice_get cs j) e

pub entry_there : (w : List ℕ) (cs : List Condition) (o : Option ℕ) → o ≡ first_place w cs 0 → condition_at cs o ≡ first_named w cs
entry_there w cs o is = ap (condition_at cs) is ∙ from_zero cs (first_place w cs 0) ∙ place_entry w cs 0

below_by : (b : Bool) (i k n : ℕ) (o : Option ℕ) → cond b (Some i) o ≡ Some k → (o ≡ Some k → k < suc i + n) → k < i + suc n
below_by true i k n o e rest = let same : i ≡ k = cc in subst (λ (j : ℕ). j < i + suc n) same (omega arith)
below_by false i k n o e rest = let h = rest e in omega arith

place_below : (w : List ℕ) (cs : List Condition) (i k : ℕ) → first_place w cs i ≡ Some k → k < i + length cs
place_below w [] i k e = absurd cc
place_below w (c ∷ cs) i k e = below_by (same_bytes (name_of c) w) i k (length cs) (first_place w cs (suc i)) e (place_below w cs (suc i) k)

pub within_there : (w : List ℕ) (cs : List Condition) (o : Option ℕ) → o ≡ first_place w cs 0 → IfSome o (λ i. i < length cs)
within_there w cs None is = tt
within_there w cs (Some k) is = let less = place_below w cs 0 k (sym is) in omega arith

-- ---- as trees

tree_by : (pool : List Node) (b : Bool) (c : Condition) (o : Option Condition) (t : Option ConditionTree) → t ≡ option_map (condition_tree pool) o
    → cond b (Some (condition_tree pool c)) t ≡ option_map (condition_tree pool) (cond b (Some c) o)
tree_by pool true c o t e = refl
tree_by pool false c o t e = e

-- the first condition with a name, as a tree
pub named_trees : (pool : List Node) (w : List ℕ) (cs : List Condition) → named w (map (condition_tree pool) cs) ≡ option_map (condition_tree pool) (first_named w cs)
named_trees pool w [] = refl
named_trees pool w (c ∷ cs) = tree_by pool (same_bytes (name_of c) w) c (first_named w cs) (named w (map (condition_tree pool) cs)) (named_trees pool w cs)

-- ---- a condition that is named

first_by : (P : Condition → Type 0) (b : Bool) (c d : Condition) (o : Option Condition) → P c → (o ≡ Some d → P d) → cond b (Some c) o ≡ Some d → P d
first_by P true c d o here later e = let same : c ≡ d = cc in subst P same here
first_by P false c d o here later e = later e

-- it is one of the list
pub named_in : (P : Condition → Type 0) (w : List ℕ) (cs : List Condition) (d : Condition) → All P cs → first_named w cs ≡ Some d → P d
named_in P w [] d h e = absurd cc
named_in P w (c ∷ cs) d h e =
    first_by P (same_bytes (name_of c) w) c d (first_named w cs) (All-head P c cs h) (λ k. named_in P w cs d (All-tail P c cs h) k) e

module _ (fs : List Function) (pool : List Node) (name lemma : List ℕ) (cs : List Condition) (sheet : List (List ℕ × Value)) (same : name ≡ lemma) where
  named_is : (o : Option Condition) → o ≡ first_named name cs → tried fs (option_map (condition_tree pool) o) sheet ≡ tried fs (named lemma (map (condition_tree pool) cs)) sheet
  named_is o is =
      ap (λ (x : Option Condition). tried fs (option_map (condition_tree pool) x) sheet) (is ∙ ap (λ (w : List ℕ). first_named w cs) same)
      ∙ ap (λ (x : Option ConditionTree). tried fs x sheet) (sym (named_trees pool lemma cs))

  pub not_named : None ≡ first_named name cs → Unknown ≡ tried fs (named lemma (map (condition_tree pool) cs)) sheet
  not_named is = named_is None is

  pub one_named : (c : Condition) → Some c ≡ first_named name cs → (v : Verdict) → v ≡ tried fs (Some (condition_tree pool c)) sheet → v ≡ tried fs (named lemma (map (condition_tree pool) cs)) sheet
  one_named c is v e = e ∙ named_is (Some c) is
