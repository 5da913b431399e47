-- Terms that wait to be weighed.
use Rattle.std.proofs.Common.{◌≡◌, ℕ, suc, ◌+◌, ◌<◌, ◌≤◌, Bool, true, false, cond, List, [], ◌∷◌, length, Option, Some, refl, sym, ap, ◌∙◌, subst, arith}
use Rattle.std.specs.Prelude.{unwrap_or, sum}
use Rattle.std.specs.Map.{lookup}
use Rattle.formula.specs.Atoms.{same_bytes}
use Rattle.formula.specs.Facts.{tree_size, tree_row_size}
use Rattle.formula.specs.Pool.{AllBelow, HasArgumentsBelow, arguments_of, row_in, tree_in, tree_of, trees}
use Rattle.formula.specs.declared.node.Node.{Node}
use Rattle.formula.specs.declared.node.Node.TheVariants.{Num, Truth, Symbol, Old, Apply}
use Rattle.formula.specs.declared.node.TermId.{TermId}
use Rattle.formula.proofs.Growth.{AllBelow-more}
use Rattle.fort_syntax.specs.declared.name.Name.{Name}
use Rattle.fort_model.specs.Seen.{Named}
use Rattle.fort_model.specs.Senses.{note, with_bounds}
use Rattle.fort_model.specs.WalkStmt.{with_name}
use Rattle.path_sizes.specs.Weights.{of_weights, row_weight}
use Rattle.weight_caps.specs.Capped.{capped}
use Rattle.weight_caps.proofs.CappedSums.{cap_first, cap_twice, sum_more}
use Rattle.weight_terms.specs.Held.{Weights, held, Sets}
use Rattle.weight_terms.specs.Terms.{own_weight, pushed}

-- ---- names

told_by : (b : Bool) (n : ℕ) (o : Option ℕ) → unwrap_or (cond b (Some n) o) 1 ≡ cond b n (unwrap_or o 1)
told_by true n o = refl
told_by false n o = refl

pub set_held : (old new : Weights) (x : Name) (n : ℕ) → Sets old.entries new.entries x n → held new ≡ with_name (held old) x n
set_held old new x n e = λ i y. (ap (λ o. unwrap_or o 1) (e y) ∙ told_by (same_bytes x y) n (lookup (same_bytes y) old.entries)) i

-- ---- terms

module _ (pool : List Node) (past now : Named ℕ) where
  -- what the terms that wait weigh together
  abbrev pub waiting_weight : List TermId → ℕ
  waiting_weight [] = 0
  waiting_weight (id ∷ ids) = note of_weights past now (tree_of pool id) + waiting_weight ids

  abbrev row_of : List TermId → ℕ
  row_of ids = row_weight (with_bounds of_weights now) past (row_in (trees pool) ids)

  added_up : (a b d e : ℕ) → e ≡ b + (a + d) → e ≡ a + b + d
  added_up a b d e f = omega arith

  pushed_weight : (ids stack : List TermId) → waiting_weight (pushed ids stack) ≡ row_of ids + waiting_weight stack
  pushed_weight [] stack = let e : waiting_weight stack ≡ 0 + waiting_weight stack = omega arith in e
  pushed_weight (id ∷ ids) stack = added_up (note of_weights past now (tree_of pool id)) (row_of ids) (waiting_weight stack) (waiting_weight (pushed (id ∷ ids) stack)) (pushed_weight ids (id ∷ stack))

  one_more : (n : ℕ) → suc n ≡ 1 + n
  one_more n = omega arith

  no_more : (n : ℕ) → n ≡ n + 0
  no_more n = omega arith

  node_weight : (node : Node) → note of_weights past now (tree_in (trees pool) node) ≡ own_weight past now node + row_of (arguments_of node)
  node_weight (Num z) = refl
  node_weight (Truth b) = refl
  node_weight (Symbol s) = no_more (with_bounds of_weights now s)
  node_weight (Old s) = no_more (past s)
  node_weight (Apply f args) = one_more (row_of args)

  regrouped : (all own row rest : ℕ) → (all + own) + (row + rest) ≡ all + ((own + row) + rest)
  regrouped all own row rest = omega arith

  -- one of those that wait is weighed, and its arguments wait
  pub visited : (id : TermId) (rest : List TermId) (node : Node) (all : ℕ) → tree_of pool id ≡ tree_in (trees pool) node
      → capped (capped (all + own_weight past now node) + waiting_weight (pushed (arguments_of node) rest)) ≡ capped (all + waiting_weight (id ∷ rest))
  visited id rest node all e =
      cap_first (all + own_weight past now node) (waiting_weight (pushed (arguments_of node) rest))
      ∙ ap capped
      (ap (λ k. (all + own_weight past now node) + k) (pushed_weight (arguments_of node) rest)
      ∙ (regrouped all (own_weight past now node) (row_of (arguments_of node)) (waiting_weight rest)
      ∙ ap (λ k. all + (k + waiting_weight rest)) (sym (node_weight node) ∙ ap (note of_weights past now) (sym e))))

-- ---- how much waits

module _ (pool : List Node) where
  abbrev pub waiting_size : List TermId → ℕ
  waiting_size [] = 0
  waiting_size (id ∷ ids) = tree_size (tree_of pool id) + waiting_size ids

  abbrev row_size : List TermId → ℕ
  row_size ids = tree_row_size (row_in (trees pool) ids)

  size_up : (a b d e : ℕ) → e ≡ b + (a + d) → e ≡ a + b + d
  size_up a b d e f = omega arith

  pushed_size : (ids stack : List TermId) → waiting_size (pushed ids stack) ≡ row_size ids + waiting_size stack
  pushed_size [] stack = let e : waiting_size stack ≡ 0 + waiting_size stack = omega arith in e
  pushed_size (id ∷ ids) stack = size_up (tree_size (tree_of pool id)) (row_size ids) (waiting_size stack) (waiting_size (pushed (id ∷ ids) stack)) (pushed_size ids (id ∷ stack))

  node_size : (node : Node) → tree_size (tree_in (trees pool) node) ≡ row_size (arguments_of node) + 1
  node_size (Num z) = refl
  node_size (Truth b) = refl
  node_size (Symbol s) = refl
  node_size (Old s) = refl
  node_size (Apply f args) = refl

  pub less_waits : (id : TermId) (rest : List TermId) (node : Node) → tree_of pool id ≡ tree_in (trees pool) node
      → waiting_size (pushed (arguments_of node) rest) < waiting_size (id ∷ rest)
  less_waits id rest node e =
      let a = pushed_size (arguments_of node) rest in
      let b = node_size node in
      let d = ap tree_size e in
      omega arith

  pushed_below : (n : ℕ) (ids stack : List TermId) → AllBelow n ids → AllBelow n stack → AllBelow n (pushed ids stack)
  pushed_below n [] stack h k = k
  pushed_below n (id ∷ ids) stack h k = pushed_below n ids (id ∷ stack) h.1 (h.0, k)

  arguments_wait : (n m : ℕ) (node : Node) (rest : List TermId) → HasArgumentsBelow n node → AllBelow m rest → n < m → AllBelow m (pushed (arguments_of node) rest)
  arguments_wait n m (Num z) rest h k l = k
  arguments_wait n m (Truth b) rest h k l = k
  arguments_wait n m (Symbol s) rest h k l = k
  arguments_wait n m (Old s) rest h k l = k
  arguments_wait n m (Apply f args) rest h k l = let le : n ≤ m = omega arith in pushed_below m args rest (AllBelow-more n m args le h) k

  pub still_below : (id : TermId) (rest : List TermId) (node : Node) → HasArgumentsBelow id.place node → AllBelow (length pool) (id ∷ rest) → AllBelow (length pool) (pushed (arguments_of node) rest)
  still_below id rest node h k = arguments_wait id.place (length pool) node rest h k.1 k.0

-- ---- sums

abbrev pub summed : ℕ → List ℕ → ℕ
summed all [] = all
summed all (n ∷ ns) = summed (capped (all + n)) ns

plus_none : (n : ℕ) → n ≡ n + 0
plus_none n = omega arith

plus_more : (a n s : ℕ) → (a + n) + s ≡ a + (n + s)
plus_more a n s = omega arith

summed_from : (ns : List ℕ) (all : ℕ) → capped all ≡ all → summed all ns ≡ capped (all + sum ns)
summed_from [] all e = sym e ∙ ap capped (plus_none all)
summed_from (n ∷ ns) all e =
    summed_from ns (capped (all + n)) (cap_twice (all + n))
    ∙ (cap_first (all + n) (sum ns) ∙ ap capped (plus_more all n (sum ns) ∙ ap (λ k. all + k) (sym (sum_more n ns))))

from_none : (n : ℕ) → 0 + n ≡ n
from_none n = omega arith

pub summed_is : (ns : List ℕ) → summed 0 ns ≡ capped (sum ns)
summed_is ns = summed_from ns 0 refl ∙ ap capped (from_none (sum ns))

-- ---- one step of the loops

pub smaller : (pool : List Node) (id : TermId) (waiting rest new : List TermId) (node : Node) → tree_of pool id ≡ tree_in (trees pool) node → waiting ≡ id ∷ rest → new ≡ pushed (arguments_of node) rest
    → waiting_size pool new < waiting_size pool waiting
smaller pool id waiting rest new node e f g =
    let a = less_waits pool id rest node e in
    let b = ap (waiting_size pool) f in
    let d = ap (waiting_size pool) g in
    omega arith

pub stepped : (pool : List Node) (past now : Named ℕ) (id : TermId) (waiting rest new : List TermId) (node : Node) (all own next whole : ℕ) → tree_of pool id ≡ tree_in (trees pool) node
    → waiting ≡ id ∷ rest → new ≡ pushed (arguments_of node) rest → own ≡ own_weight past now node → next ≡ capped (all + own) → capped (all + waiting_weight pool past now waiting) ≡ whole
    → capped (next + waiting_weight pool past now new) ≡ whole
stepped pool past now id waiting rest new node all own next whole e f g h k l =
    (λ i. capped ((k ∙ ap (λ n. capped (all + n)) h) i + waiting_weight pool past now (g i)))
    ∙ (visited pool past now id rest node all e ∙ (ap (λ ids. capped (all + waiting_weight pool past now ids)) (sym f) ∙ l))

pub next_capped : (next n : ℕ) → next ≡ capped n → capped next ≡ next
next_capped next n e = ap capped e ∙ (cap_twice n ∙ sym e)

pub wait_below : (pool : List Node) (id : TermId) (waiting rest new : List TermId) (node : Node) → waiting ≡ id ∷ rest → new ≡ pushed (arguments_of node) rest → HasArgumentsBelow id.place node
    → AllBelow (length pool) waiting → AllBelow (length pool) new
wait_below pool id waiting rest new node f g h k =
    let T : List TermId → Type 0 = AllBelow (length pool) in
    subst T (sym g) (still_below pool id rest node h (subst T f k))

pub summed_end : (ns ms : List ℕ) (all : ℕ) → ms ≡ [] → summed all ms ≡ summed 0 ns → all ≡ capped (sum ns)
summed_end ns ms all e f = sym (ap (summed all) e) ∙ (f ∙ summed_is ns)
