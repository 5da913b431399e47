-- Terms that stand among others, by their ids and as trees.
use Rattle.std.proofs.Common.{◌≡◌, ◌↔◌, Some, inl, inr, ◌⊎◌, ℕ, zero, suc, ℤ, ◌<◌, Bool, true, false, cond, not, ◌&&◌, List, [], ◌∷◌, length, map, IsTrue, Contains, refl, sym, ap, ◌∙◌, subst, true≢false, arith, slice_index_or, get_or}
use Rattle.std.specs.List.{list_all}
use Rattle.std.specs.Ordering.{int_eq}
use Rattle.std.proofs.lemmas.Bool.Decides.{Decides-int_eq}
use Rattle.formula.specs.declared.function.BuiltIn.TheVariants.{Equal}
use Rattle.formula.specs.declared.function.Func.TheVariants.{BuiltIn}
use Rattle.formula.specs.declared.value.Cell.{Cell}
use Rattle.formula.specs.declared.value.Cell.TheVariants as cell
use Rattle.formula.specs.declared.value.Value.{Value}
use Rattle.formula.specs.declared.value.Value.TheVariants.{Int, Logical, Undefined, Cells}
use Rattle.formula.specs.Tree.{Tree, truth, apply, none, more}
use Rattle.formula.specs.Values.{same_cell, same_cells, same_value}
use Rattle.formula.specs.Worth.{Function, nothing_known, assigned, worth, is_true_under, IsValid}
use Rattle.formula.specs.declared.node.Node.{Node}
use Rattle.formula.specs.declared.node.Node.TheVariants.{Apply}
use Rattle.formula.specs.declared.node.TermId.{TermId}
use Rattle.formula.specs.Pool.{tree_of, tree_in, row_in, trees}
use Rattle.formula.specs.declared.definition.Definition.{Definition}
use Rattle.formula.specs.Worth.{functions_of}
use Rattle.fort_syntax.specs.declared.condition.Condition.{Condition}
use Rattle.prover_box.specs.Answers.{IsAnswer}
use Rattle.prover_box.specs.Tests.{IsSubsumed}

first_of : (p q : Bool) → p && q ≡ true → p ≡ true
first_of true q e = refl
first_of false q e = e

second_of : (p q : Bool) → p && q ≡ true → q ≡ true
second_of true q e = e
second_of false q e = absurd (true≢false (sym e))

-- hypotheses that are all true make each of them true
all_true : (test : Tree → Bool) (hyps : List Tree) (t : Tree) → Contains hyps t → list_all test hyps ≡ true → test t ≡ true
all_true test [] t (k, below, at) h = absurd (omega (arith, below))
all_true test (x ∷ hyps) t (zero, below, at) h = subst (λ s. test s ≡ true) at (first_of (test x) (list_all test hyps) h)
all_true test (x ∷ hyps) t (suc k, below, at) h = all_true test hyps t (k, omega (arith, below), at) (second_of (test x) (list_all test hyps) h)

-- a condition is not false where its hypotheses make its goal true
implied : (hyps goal : Bool) → (hyps ≡ true → goal ≡ true) → IsTrue (not (hyps && not goal))
implied true true h = refl
implied false true h = refl
implied true false h = absurd (true≢false (sym (h refl)))
implied false false h = refl

-- ---- a value equals itself

int_itself : (z : ℤ) → int_eq z z ≡ true
int_itself z = (Decides-int_eq z z).1 refl

bool_itself : (b : Bool) → cond b b (not b) ≡ true
bool_itself true = refl
bool_itself false = refl

cell_itself : (c : Cell) → same_cell c c ≡ true
cell_itself (cell.Int z) = int_itself z
cell_itself (cell.Logical b) = bool_itself b
cell_itself cell.Undefined = refl

both_so : (p q : Bool) → p ≡ true → q ≡ true → p && q ≡ true
both_so true q hp hq = hq
both_so false q hp hq = hp

cells_itself : (cs : List Cell) → same_cells cs cs ≡ true
cells_itself [] = refl
cells_itself (c ∷ cs) = both_so (same_cell c c) (same_cells cs cs) (cell_itself c) (cells_itself cs)

value_itself : (v : Value) → same_value v v ≡ true
value_itself (Int z) = int_itself z
value_itself (Logical b) = bool_itself b
value_itself Undefined = refl
value_itself (Cells cs) = cells_itself cs

-- ---- the second test is sound

pub subsumed_is_valid : (fs : List Function) (hyps : List Tree) (goal : Tree) → IsSubsumed hyps goal → IsValid fs hyps goal
subsumed_is_valid fs hyps goal s assignment =
    let test : Tree → Bool = is_true_under fs (assigned assignment) nothing_known in
    implied (list_all test hyps) (test goal) (by_cases s)
  where
    by_cases : IsSubsumed hyps goal → list_all (is_true_under fs (assigned assignment) nothing_known) hyps ≡ true → is_true_under fs (assigned assignment) nothing_known goal ≡ true
    by_cases (inl among) h = all_true (is_true_under fs (assigned assignment) nothing_known) hyps goal among h
    by_cases (inr (inl falsehood)) h = absurd (true≢false (sym (all_true (is_true_under fs (assigned assignment) nothing_known) hyps (truth false) falsehood h)))
    by_cases (inr (inr (inl is_t))) h = ap (is_true_under fs (assigned assignment) nothing_known) is_t
    by_cases (inr (inr (inr (t, is_twice)))) h = ap (is_true_under fs (assigned assignment) nothing_known) is_twice ∙ value_itself (worth fs (assigned assignment) nothing_known t)

-- ---- what the code finds

abbrev pub nowhere : TermId
nowhere = record { place = 0 }

mapped_length : {A B : Type 0} (f : A → B) (xs : List A) → length (map f xs) ≡ length xs
mapped_length f [] = refl
mapped_length f (x ∷ xs) = ap suc (mapped_length f xs)

mapped_at : {A B : Type 0} (f : A → B) (xs : List A) (i : ℕ) (d : A) (y : B) → i < length xs → slice_index_or (map f xs) i y ≡ f (get_or xs i d)
mapped_at f [] i d y below = absurd (omega (arith, below))
mapped_at f (x ∷ xs) zero d y below = refl
mapped_at f (x ∷ xs) (suc i) d y below = mapped_at f xs i d y (omega (arith, below))

module _ (pool : List Node) (hyps : List TermId) (goal : Tree) where
  -- a hypothesis is the goal, or F
  abbrev pub Stands : TermId → Type 0
  Stands hyp = (tree_of pool hyp ≡ goal) ⊎ (tree_of pool hyp ≡ truth false)

  abbrev pub Among : Type 0
  Among = Contains (map (tree_of pool) hyps) goal ⊎ Contains (map (tree_of pool) hyps) (truth false)

  at_contains : (t : Tree) → Contains (map (tree_of pool) hyps) t → (i : ℕ) × (i < length hyps) × (tree_of pool (get_or hyps i nowhere) ≡ t)
  at_contains t (k, below, at) =
      let within : k < length hyps = subst (λ n. k < n) (mapped_length (tree_of pool) hyps) below in
      (k, within, sym (mapped_at (tree_of pool) hyps k nowhere t within) ∙ at)

  pub found_nowhere : ((k : ℕ) → k < length hyps → Stands (get_or hyps k nowhere) → ⊥) → Among → ⊥
  found_nowhere absent (inl among) = let h = at_contains goal among in absent h.0 h.1 (inl h.2)
  found_nowhere absent (inr among) = let h = at_contains (truth false) among in absent h.0 h.1 (inr h.2)

-- ---- equations

-- a term is an equation with one term twice
abbrev pub IsTwice : Tree → Type 0
IsTwice t = (x : Tree) × (t ≡ apply (BuiltIn Equal) (more x (more x none)))

module _ (pool : List Node) (node : Node) (args : List TermId) (t : Tree) (is : t ≡ tree_in (trees pool) node) (shape : node ≡ Apply (BuiltIn Equal) args) where
  spelled : t ≡ apply (BuiltIn Equal) (row_in (trees pool) args)
  spelled = is ∙ ap (tree_in (trees pool)) shape

  pub untwice_few : length args < 2 → IsTwice t → ⊥
  untwice_few few h = none_two args few (sym spelled ∙ h.1)
    where
      none_two : (xs : List TermId) → length xs < 2 → apply (BuiltIn Equal) (row_in (trees pool) xs) ≡ apply (BuiltIn Equal) (more h.0 (more h.0 none)) → ⊥
      none_two [] few e = absurd (cc)
      none_two (a ∷ []) few e = absurd (cc)
      none_two (a ∷ b ∷ xs) few e = absurd (omega (arith, few))

  pub untwice_many : 2 < length args → IsTwice t → ⊥
  untwice_many many h = none_two args many (sym spelled ∙ h.1)
    where
      none_two : (xs : List TermId) → 2 < length xs → apply (BuiltIn Equal) (row_in (trees pool) xs) ≡ apply (BuiltIn Equal) (more h.0 (more h.0 none)) → ⊥
      none_two [] many e = absurd (omega (arith, many))
      none_two (a ∷ []) many e = absurd (omega (arith, many))
      none_two (a ∷ b ∷ []) many e = absurd (omega (arith, many))
      none_two (a ∷ b ∷ c ∷ xs) many e = absurd (cc)

-- ---- the whole test

-- where the other parts fail, the last one decides
pub last_decides : (hyps : List Tree) (goal : Tree) (p q r : Bool) → ((p ≡ true) ↔ (Contains hyps goal ⊎ Contains hyps (truth false))) → ((q ≡ true) ↔ (goal ≡ truth true)) → ((r ≡ true) ↔ IsTwice goal)
    → p ≡ false → q ≡ false → (r ≡ true) ↔ IsSubsumed hyps goal
last_decides hyps goal p q r among is_t twice not_among not_t = ((λ h. inr (inr (inr (twice.0 h)))), by_cases)
  where
    by_cases : IsSubsumed hyps goal → r ≡ true
    by_cases (inl h) = absurd (true≢false (sym (among.1 (inl h)) ∙ not_among))
    by_cases (inr (inl h)) = absurd (true≢false (sym (among.1 (inr h)) ∙ not_among))
    by_cases (inr (inr (inl h))) = absurd (true≢false (sym (is_t.1 h) ∙ not_t))
    by_cases (inr (inr (inr h))) = twice.1 h

-- what the test answers is what the prover answers
pub answer_by : (pool : List Node) (ds : List Definition) (c : Condition) (r : Bool) → ((r ≡ true) ↔ IsSubsumed (map (tree_of pool) c.hyps) (tree_of pool c.goal)) → IsAnswer pool ds c (Some 2) r
answer_by pool ds c r h = record {
  sound = λ t. subsumed_is_valid (functions_of pool ds) (map (tree_of pool) c.hyps) (tree_of pool c.goal) (h.0 t);
  told = (h.0, h.1);
}
