-- A goal that passes the first test is true under every assignment.
use Rattle.std.proofs.Common.{◌≡◌, ℕ, Some, Result, Ok, Err, IfOk, Bool, true, false, not, ◌&&◌, ◌||◌, List, [], ◌∷◌, map, IsTrue, refl, sym, ap, ◌∙◌, true≢false}
use Rattle.std.specs.List.{list_all}
use Rattle.formula.specs.declared.definition.Definition.{Definition}
use Rattle.formula.specs.declared.node.Node.{Node}
use Rattle.formula.specs.declared.value.Value.{Value}
use Rattle.formula.specs.Adding.{AreAdded}
use Rattle.formula.specs.Bounded.{Outcome, got, beyond, spent, bounded}
use Rattle.formula.specs.Facts.{has_symbol, row_has_symbol}
use Rattle.formula.specs.Tree.{Tree, num, truth, symbol, old, apply, Row, none, more}
use Rattle.formula.specs.Values.{holds}
use Rattle.formula.specs.Worth.{Uses, Valuation, Function, function_worth, worth_by, worths_by, used, functions_of, nothing_known, assigned, is_true_under, IsValid}
use Rattle.formula.proofs.BoundedWorth.{bounded_worth_is_worth}
use Rattle.edge_io.specs.declared.errors.NoMemory.{NoMemory}
use Rattle.fort_syntax.specs.declared.condition.Condition.{Condition}
use Rattle.formula.specs.Pool.{tree_of}
use Rattle.prover_box.specs.Answers.{IsAnswer}
use Rattle.prover_box.specs.Tests.{comes_true, is_true_closed}

left_of : (p q : Bool) → p || q ≡ false → p ≡ false
left_of true q h = h
left_of false q h = refl

right_of : (p q : Bool) → p || q ≡ false → q ≡ false
right_of true q h = absurd (true≢false h)
right_of false q h = h

module _ (uses : Uses) (a b entries : Valuation) where
  mutual
    -- a term without symbols is worth the same whatever symbols are worth
    closed_same : (t : Tree) → has_symbol t ≡ false → worth_by uses a entries t ≡ worth_by uses b entries t
    closed_same (num z) h = refl
    closed_same (truth c) h = refl
    closed_same (symbol s) h = absurd (true≢false h)
    closed_same (old s) h = refl
    closed_same (apply f row) h = ap (function_worth uses f) (closed_row row h)

    closed_row : (row : Row) → row_has_symbol row ≡ false → worths_by uses a entries row ≡ worths_by uses b entries row
    closed_row none h = refl
    closed_row (more t rest) h =
        let head = closed_same t (left_of (has_symbol t) (row_has_symbol rest) h) in
        let tail = closed_row rest (right_of (has_symbol t) (row_has_symbol rest) h) in
        λ i. head i ∷ tail i

-- what an evaluation that came to a value other than F came to
record Came (o : Outcome Value) : Type 0 where
  value : Value
  left : ℕ
  is : o ≡ got value left
  true_value : holds value ≡ true

came : (o : Outcome Value) → comes_true o ≡ true → Came o
came (got v n) h = record { value = v; left = n; is = refl; true_value = h }
came beyond h = absurd (true≢false (sym h))
came spent h = absurd (true≢false (sym h))

first_part : (p q : Bool) → not p && q ≡ true → p ≡ false
first_part true q h = absurd (true≢false (sym h))
first_part false q h = refl

second_part : (p q : Bool) → not p && q ≡ true → q ≡ true
second_part true q h = absurd (true≢false (sym h))
second_part false q h = h

not_false : (hyps goal : Bool) → goal ≡ true → IsTrue (not (hyps && not goal))
not_false true true h = refl
not_false false true h = refl
not_false true false h = absurd (true≢false (sym h))
not_false false false h = absurd (true≢false (sym h))

-- a goal that passes the first test makes its condition valid
pub closed_is_valid : (pool : List Node) (ds : List Definition) → AreAdded pool ds → (hyps : List Tree) (goal : Tree) → is_true_closed (functions_of pool ds) goal ≡ true → IsValid (functions_of pool ds) hyps goal
closed_is_valid pool ds added hyps goal passed assignment =
    let fs = functions_of pool ds in
    let closed = first_part (has_symbol goal) (comes_true (bounded fs (assigned []) nothing_known goal 10000)) passed in
    let c = came (bounded fs (assigned []) nothing_known goal 10000) (second_part (has_symbol goal) (comes_true (bounded fs (assigned []) nothing_known goal 10000)) passed) in
    let at_nothing = bounded_worth_is_worth pool ds added (assigned []) nothing_known goal 10000 c.left c.value c.is in
    let same = closed_same (used fs) (assigned assignment) (assigned []) nothing_known goal closed in
    not_false (list_all (is_true_under fs (assigned assignment) nothing_known) hyps) (is_true_under fs (assigned assignment) nothing_known goal)
    (ap holds (same ∙ at_nothing) ∙ c.true_value)

-- ---- what the code finds

module _ (fs : List Function) (t : Tree) (sheet : List (List ℕ × Value)) (b : Bool) (empty : sheet ≡ []) where
  -- no symbol stands in the goal, and the evaluation came to a value
  pub passed_by : (v : Value) (m : ℕ) → has_symbol t ≡ false → bounded fs (assigned sheet) nothing_known t 10000 ≡ got v m → b ≡ holds v → b ≡ is_true_closed fs t
  passed_by v m closed came is =
      let here : bounded fs (assigned []) nothing_known t 10000 ≡ got v m = ap (λ s. bounded fs (assigned s) nothing_known t 10000) (sym empty) ∙ came in
      is ∙ sym (λ i. not (closed i) && comes_true (here i))

  -- the evaluation came to nothing
  pub unpassed_by : (o : Outcome Value) → comes_true o ≡ false → has_symbol t ≡ false → bounded fs (assigned sheet) nothing_known t 10000 ≡ o → false ≡ is_true_closed fs t
  unpassed_by o nothing closed came =
      let here : bounded fs (assigned []) nothing_known t 10000 ≡ o = ap (λ s. bounded fs (assigned s) nothing_known t 10000) (sym empty) ∙ came in
      sym ((λ i. not (closed i) && comes_true (here i)) ∙ nothing)

-- what the test answers is what the prover answers
pub answer_by : (pool : List Node) (ds : List Definition) (c : Condition) → AreAdded pool ds → (r : Result Bool NoMemory)
    → IfOk r (λ closed. closed ≡ is_true_closed (functions_of pool ds) (tree_of pool c.goal)) → IfOk r (λ closed. IsAnswer pool ds c (Some 1) closed)
answer_by pool ds c added (Ok b) h = record {
  sound = λ t. closed_is_valid pool ds added (map (tree_of pool) c.hyps) (tree_of pool c.goal) (sym h ∙ t);
  told = ((λ t. sym h ∙ t), (λ t. h ∙ t));
}
answer_by pool ds c added (Err e) h = tt
