-- The bodies of definitions.
use Rattle.std.proofs.Common.{◌≡◌, ℕ, zero, suc, ◌+◌, ◌-◌, ◌<◌, ◌≤◌, ℤ, pos, Bool, true, false, if◌then◌else◌, List, [], ◌∷◌, ◌++◌, max, refl, sym, ap, ◌∙◌, arith, subst, Some, None}
use Rattle.std.specs.Prelude.{int_le}
use Rattle.formula.specs.declared.definition.Body.{Body}
use Rattle.formula.specs.declared.definition.Body.TheVariants.{Plain, Counting}
use Rattle.formula.specs.declared.definition.Definition.{Definition}
use Rattle.formula.specs.declared.function.Func.TheVariants.{Defined}
use Rattle.term_worth.specs.declared.machine.Held.{Held}
use Rattle.term_worth.specs.declared.machine.Held.TheVariants as held
use Rattle.term_worth.specs.declared.machine.Machine.{Machine}
use Rattle.term_worth.specs.declared.machine.Parameters.{Parameters}
use Rattle.term_worth.specs.declared.machine.Scope.TheVariants.{Arguments}
use Rattle.term_worth.specs.declared.machine.Task.TheVariants.{Eval, Combine, Leave}
use Rattle.formula.specs.declared.node.Node.{Node}
use Rattle.formula.specs.declared.value.Cell.{Cell}
use Rattle.formula.specs.declared.value.Value.{Value}
use Rattle.formula.specs.declared.word.Word.{Word}
use Rattle.formula.specs.Adding.{definition_at, IsBodyIn, AreBodiesIn}
use Rattle.formula.specs.Bounded.{chosen, function_at}
use Rattle.term_worth.specs.Machine.{newest, all_but, size, body_size, greatest, value_of, values_of, params_in, first_held, held_num, chosen_id, IsWhole, Does}
use Rattle.formula.specs.Pool.{Grows, IsIn, tree_of}
use Rattle.formula.specs.Values.{num}
use Rattle.formula.specs.Worth.{function_of, functions_of, body_of, first_of}
use Rattle.formula.proofs.Added.{IsBodyIn-Grows}
use Rattle.term_worth.proofs.Doing.{does-Unknown, does-Use}

-- ---- the function of a number

pub function_at-none : (pool : List Node) (ds : List Definition) (k : ℕ) → definition_at ds k ≡ None → function_at (functions_of pool ds) k ≡ None
function_at-none pool ds zero e = refl
function_at-none pool [] (suc k) e = refl
function_at-none pool (d ∷ ds) (suc zero) e = absurd (cc)
function_at-none pool (d ∷ ds) (suc (suc k)) e = function_at-none pool ds (suc k) e

pub function_at-some : (pool : List Node) (ds : List Definition) (k : ℕ) (d : Definition) → definition_at ds k ≡ Some d → function_at (functions_of pool ds) k ≡ Some (function_of pool d)
function_at-some pool ds zero d e = absurd (cc)
function_at-some pool [] (suc k) d e = absurd (cc)
function_at-some pool (x ∷ ds) (suc zero) d e = let same : x ≡ d = cc in ap (λ y. Some (function_of pool y)) same
function_at-some pool (x ∷ ds) (suc (suc k)) d e = function_at-some pool ds (suc k) d e

pub body_small : (pool : List Node) (ds : List Definition) (k : ℕ) (d : Definition) → definition_at ds k ≡ Some d → body_size (body_of pool d.body) + 1 ≤ greatest (functions_of pool ds)
body_small pool ds zero d e = absurd (cc)
body_small pool [] (suc k) d e = absurd (cc)
body_small pool (x ∷ ds) (suc zero) d e =
    let same : x ≡ d = cc in
    let z : body_size (body_of pool d.body) ≡ body_size (body_of pool x.body) = ap (λ y. body_size (body_of pool y.body)) (sym same) in
    omega arith
body_small pool (x ∷ ds) (suc (suc k)) d e = let z = body_small pool ds (suc k) d e in omega arith

pub body_in : (pool : List Node) (ds : List Definition) (k : ℕ) (d : Definition) → definition_at ds k ≡ Some d → AreBodiesIn pool ds → IsBodyIn pool d.body
body_in pool ds zero d e h = absurd (cc)
body_in pool [] (suc k) d e h = absurd (cc)
body_in pool (x ∷ ds) (suc zero) d e h = let same : x ≡ d = cc in subst (λ y. IsBodyIn pool y.body) same h.0
body_in pool (x ∷ ds) (suc (suc k)) d e h = body_in pool ds (suc k) d e h.1

-- ---- the term that a use comes to

pub num_held : (sheet : List (Word × Value)) (made : List (List Cell)) (h : Held) → num (value_of sheet made h) ≡ held_num h
num_held sheet made (held.Int z) = refl
num_held sheet made (held.Logical b) = refl
num_held sheet made held.Undefined = refl
num_held sheet made (held.Given i) = refl
num_held sheet made (held.Made i) = refl

pub first-values_of : (sheet : List (Word × Value)) (made : List (List Cell)) (hs : List Held) → first_of (values_of sheet made hs) ≡ value_of sheet made (first_held hs)
first-values_of sheet made [] = refl
first-values_of sheet made (h ∷ hs) = refl

chosen_tree : (pool : List Node) (b : Body) (vs : List Value) (z : ℤ) → num (first_of vs) ≡ z → tree_of pool (chosen_id b z) ≡ chosen (body_of pool b) vs
chosen_tree pool (Plain t) vs z e = refl
chosen_tree pool (Counting base step) vs z e = by_test (int_le z (pos 0)) ∙ ap (λ y. if int_le y (pos 0) then tree_of pool base else tree_of pool step) (sym e)
  where
    by_test : (t : Bool) → tree_of pool (if t then base else step) ≡ (if t then tree_of pool base else tree_of pool step)
    by_test true = refl
    by_test false = refl

chosen_in : (pool : List Node) (b : Body) (z : ℤ) → IsBodyIn pool b → IsIn pool (chosen_id b z)
chosen_in pool (Plain t) z h = h
chosen_in pool (Counting base step) z h = by_test (int_le z (pos 0))
  where
    by_test : (t : Bool) → IsIn pool (if t then base else step)
    by_test true = h.0
    by_test false = h.1

chosen_small : (pool : List Node) (b : Body) (z : ℤ) → size (tree_of pool (chosen_id b z)) ≤ body_size (body_of pool b)
chosen_small pool (Plain t) z = omega arith
chosen_small pool (Counting base step) z = by_test (int_le z (pos 0))
  where
    by_test : (t : Bool) → size (tree_of pool (if t then base else step)) ≤ max (size (tree_of pool base)) (size (tree_of pool step))
    by_test true = omega arith
    by_test false = omega arith

-- ---- uses

one_less : (n : ℕ) → 0 < n → n ≡ suc (n - 1)
one_less n h = omega arith

module _ (pool : List Node) (ds : List Definition) (sheet : List (Word × Value)) (m m' : Machine) (k c : ℕ) (left : 0 < m.turns) (w : IsWhole pool m) where
  pub used_none : definition_at ds k ≡ None → m' ≡ record m { turns = m.turns - 1; values = all_but c m.values ++ held.Undefined ∷ [] } → Does pool ds sheet (Combine (Defined k) c) m m'
  used_none e same = does-Unknown pool ds sheet m m' k c (m.turns - 1) (one_less m.turns left) (function_at-none pool ds k e) w same

  pub used_some : (d : Definition) (ps : Parameters) → definition_at ds k ≡ Some d → params_in ds ps ≡ d.params → AreBodiesIn pool ds
      → m' ≡ record {
        scope = Arguments ps (newest c m.values);
        turns = m.turns - 1;
        tasks = Eval (chosen_id d.body (held_num (first_held (newest c m.values)))) ∷ Leave m.scope ∷ m.tasks;
        values = all_but c m.values;
        made = m.made;
      }
      → Does pool ds sheet (Combine (Defined k) c) m m'
  used_some d ps e is h same =
      let args = newest c m.values in
      let z = held_num (first_held args) in
      let number : num (first_of (values_of sheet m.made args)) ≡ z = ap num (first-values_of sheet m.made args) ∙ num_held sheet m.made (first_held args) in
      let s = chosen_small pool d.body z in
      let b = body_small pool ds k d e in
      does-Use pool ds sheet m m' k c (m.turns - 1) ps (chosen_id d.body z) (function_of pool d) (one_less m.turns left) (function_at-some pool ds k d e) is
      (chosen_tree pool d.body (values_of sheet m.made args) z number) (omega arith) (chosen_in pool d.body z (body_in pool ds k d e h)) w same

-- ---- a pool that grows

pub AreBodiesIn-Grows : (old new : List Node) (ds : List Definition) → Grows old new → AreBodiesIn old ds → AreBodiesIn new ds
AreBodiesIn-Grows old new [] g h = tt
AreBodiesIn-Grows old new (d ∷ ds) g h = (IsBodyIn-Grows old new d.body g h.0, AreBodiesIn-Grows old new ds g h.1)

pub AreBodiesIn-append : (pool : List Node) (ds : List Definition) (d : Definition) → AreBodiesIn pool ds → IsBodyIn pool d.body → AreBodiesIn pool (ds ++ d ∷ [])
AreBodiesIn-append pool [] d h b = (b, tt)
AreBodiesIn-append pool (x ∷ ds) d h b = (h.0, AreBodiesIn-append pool ds d h.1 b)

pub AreBodiesIn-added : (pool : List Node) (old new : List Definition) (d : Definition) → new ≡ old ++ d ∷ [] → AreBodiesIn pool old → IsBodyIn pool d.body → AreBodiesIn pool new
AreBodiesIn-added pool old new d e h b = subst (AreBodiesIn pool) (sym e) (AreBodiesIn-append pool old d h b)
