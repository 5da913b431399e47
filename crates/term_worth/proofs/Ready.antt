-- What is left when the values of the first arguments were put.
use Rattle.std.proofs.Common.{◌≡◌, ℕ, zero, suc, ◌≤◌, true, false, List, [], ◌∷◌, ◌++◌, length, map, drop, refl, sym, ap, ◌∙◌, subst, arith}
use Rattle.formula.specs.declared.definition.Definition.{Definition}
use Rattle.formula.specs.declared.function.BuiltIn.TheVariants.{If}
use Rattle.formula.specs.declared.function.Func.{Func}
use Rattle.formula.specs.declared.function.Func.TheVariants.{BuiltIn}
use Rattle.formula.specs.declared.node.Node.{Node}
use Rattle.formula.specs.declared.node.Node.TheVariants.{Num, Truth, Symbol, Old, Apply}
use Rattle.formula.specs.declared.node.TermId.{TermId}
use Rattle.formula.specs.declared.value.Value.{Value}
use Rattle.formula.specs.declared.word.Word.{Word}
use Rattle.formula.specs.Bounded.{beyond, ranged, is_in_range, Calls, bounded_by}
use Rattle.formula.specs.Pool.{AllBelow, tree_of, trees, tree_in, row_in}
use Rattle.formula.specs.Tree.{Tree, apply}
use Rattle.formula.specs.Worth.{Valuation, nothing_known}
use Rattle.term_worth.specs.declared.machine.Held.{Held}
use Rattle.term_worth.specs.declared.machine.Machine.{Machine}
use Rattle.term_worth.specs.declared.machine.Task.{Task}
use Rattle.term_worth.specs.declared.machine.Task.TheVariants.{Eval, Combine}
use Rattle.term_worth.specs.Leaves.{is_leaf, leaf_value, under, Prepares, IsBeyondFrom}
use Rattle.term_worth.specs.Machine.{tree_row_size, cost, is_branch, taken_apart, value_of, symbols_of, jobs_of, held_small, AreHeld, IsHeld, IsScope, IsWhole, meaning, meaning_with, Does}
use Rattle.term_worth.proofs.Combined.{ranged_got, leaf_done, leaf_beyond, small_value}
use Rattle.term_worth.proofs.Doing.{worth_here, same-leaf, does-apply, does-branching}
use Rattle.term_worth.proofs.Held.{AreHeld-append, AreTasks-evals, jobs_of-evals}
use Rattle.term_worth.proofs.Steps.{evals, cost-append, cost-evals}

-- a node that is no function is worth its value
leaf_worth : (calls : Calls) (s : Valuation) (done : List Tree) (node : Node) (n : ℕ) → is_leaf node ≡ true → bounded_by calls s nothing_known (tree_in done node) n ≡ ranged (leaf_value s node) n
leaf_worth calls s done (Num z) n e = refl
leaf_worth calls s done (Truth b) n e = refl
leaf_worth calls s done (Symbol w) n e = refl
leaf_worth calls s done (Old w) n e = refl
leaf_worth calls s done (Apply f args) n e = absurd (cc)

-- a node that is no use of a function
pub no_function : (node : Node) → ((f : Func) (args : List TermId) → ¬ (node ≡ Apply f args)) → is_leaf node ≡ true
no_function (Num z) h = refl
no_function (Truth b) h = refl
no_function (Symbol w) h = refl
no_function (Old w) h = refl
no_function (Apply f args) h = absurd (h f args refl)

AllBelow-drop : (n k : ℕ) (args : List TermId) → AllBelow n args → AllBelow n (drop k args)
AllBelow-drop n zero args h = h
AllBelow-drop n (suc k) [] h = tt
AllBelow-drop n (suc k) (id ∷ args) h = AllBelow-drop n k args h.1

row-drop : (done : List Tree) (k : ℕ) (args : List TermId) → tree_row_size (row_in done (drop k args)) ≤ tree_row_size (row_in done args)
row-drop done zero args = omega arith
row-drop done (suc k) [] = omega arith
row-drop done (suc k) (id ∷ args) = let h = row-drop done k args in omega arith

module _ (pool : List Node) (ds : List Definition) (sheet : List (Word × Value)) where
  -- ---- a term that is no function

  module _ (m : Machine) (id : TermId) (node : Node) (h : Held) (tree : tree_of pool id ≡ tree_in (trees pool) node) (leaf : is_leaf node ≡ true)
      (value : value_of sheet m.made h ≡ leaf_value (symbols_of ds sheet m.made m.scope) node) where
    here : (n : ℕ) → worth_here pool ds sheet m (tree_of pool id) ≡ ranged (leaf_value (symbols_of ds sheet m.made m.scope) node) m.turns
    here n = ap (worth_here pool ds sheet m) tree ∙ leaf_worth _ _ (trees pool) node m.turns leaf

    pub leaf_put : (m' : Machine) → held_small h ≡ true → IsHeld (length m.made) h → IsWhole pool m → m' ≡ record m { values = m.values ++ h ∷ [] } → Does pool ds sheet (Eval id) m m'
    leaf_put m' small k w same = leaf_done pool ds sheet m m' id h _ (here 0) value small k w same

    pub leaf_large : held_small h ≡ false → meaning_with pool ds sheet (Eval id) m ≡ beyond
    leaf_large large = leaf_beyond pool ds sheet m id h _ (here 0) value large

  -- ---- the first arguments

  pub prepared-none : (args : List TermId) (m : Machine) → IsWhole pool m → Prepares pool ds sheet args 0 m m
  prepared-none args m w = record { frame = refl; values = w.values; same = λ rest. refl }

  module _ (args : List TermId) (k : ℕ) (old mid new : Machine) (p : Prepares pool ds sheet args k old mid) (w : IsWhole pool old)
      (id : TermId) (next : drop k args ≡ id ∷ drop (suc k) args) (node : Node) (h : Held) (tree : tree_of pool id ≡ tree_in (trees pool) node) (leaf : is_leaf node ≡ true)
      (value : value_of sheet mid.made h ≡ leaf_value (symbols_of ds sheet mid.made mid.scope) node) where
    -- the tasks from the k-th argument on, with what comes behind them
    from_here : (rest : List Task) → map Eval (drop k args) ++ rest ≡ Eval id ∷ map Eval (drop (suc k) args) ++ rest
    from_here rest = ap (λ l. map Eval l ++ rest) next

    -- one argument more
    pub prepared-more : held_small h ≡ true → ((n : ℕ) → IsScope n mid.scope → IsHeld n h) → new ≡ record mid { values = mid.values ++ h ∷ [] } → Prepares pool ds sheet args (suc k) old new
    prepared-more small held same = record {
      frame = same ∙ (λ i. record (p.frame i) { values = mid.values ++ h ∷ [] }) ∙ (λ i. record old { values = (sym same i).values });
      values =
          subst (AreHeld (length old.made)) (λ i. (sym same i).values)
          (AreHeld-append (length old.made) mid.values (h ∷ []) p.values (held (length old.made) (subst (λ m. IsScope (length old.made) m.scope) (sym p.frame) w.scope), tt));
      same = λ rest.
          let ts = map Eval (drop (suc k) args) ++ rest in
          ap (λ m. meaning pool ds sheet (under ts m)) same
          ∙ same-leaf pool ds sheet (under ts mid) id h (here (under ts mid) id node h tree leaf value 0 ∙ ranged_got _ _ mid.turns value (ap is_in_range (sym value) ∙ small_value sheet mid.made h ∙ small))
          ∙ ap (λ l. meaning pool ds sheet (under l mid)) (sym (from_here rest))
          ∙ p.same rest;
    }

    -- a number out of range
    pub prepared-beyond : held_small h ≡ false → IsBeyondFrom pool ds sheet args old
    prepared-beyond large = λ rest.
        sym (p.same rest) ∙ ap (λ l. meaning pool ds sheet (under l mid)) (from_here rest)
        ∙ leaf_large (under (map Eval (drop (suc k) args) ++ rest) mid) id node h tree leaf value large

  -- ---- a function is taken apart

  module _ (old : Machine) (id : TermId) (f : Func) (args : List TermId) (tree : tree_of pool id ≡ apply f (row_in (trees pool) args)) (below : AllBelow (length pool) args) (w : IsWhole pool old) where
    -- a function behind its first arguments
    done_apart : (mid : Machine) (k : ℕ) → Prepares pool ds sheet args k old mid
        → ((rest : List Task) → Does pool ds sheet (Eval id) old (record old { tasks = map Eval args ++ Combine f (length args) ∷ old.tasks }))
        → Does pool ds sheet (Eval id) old (record old { values = mid.values; tasks = map Eval (drop k args) ++ Combine f (length args) ∷ old.tasks })
    done_apart mid k p whole =
        let d = whole [] in
        let rest = Combine f (length args) ∷ old.tasks in
        let all = jobs_of-evals pool ds sheet old.made args rest in
        let some = jobs_of-evals pool ds sheet old.made (drop k args) rest in
        let few : cost (jobs_of pool ds sheet old.made (map Eval (drop k args) ++ rest)) ≤ cost (jobs_of pool ds sheet old.made (map Eval args ++ rest)) =
        (let a = ap cost all ∙ cost-append (evals (row_in (trees pool) args)) (jobs_of pool ds sheet old.made rest) in
        let b = ap cost some ∙ cost-append (evals (row_in (trees pool) (drop k args))) (jobs_of pool ds sheet old.made rest) in
        let c = cost-evals (row_in (trees pool) args) in
        let e = cost-evals (row_in (trees pool) (drop k args)) in
        let r = row-drop (trees pool) k args in
        omega arith) in
        record {
          same = ap (λ m. meaning pool ds sheet (under (map Eval (drop k args) ++ rest) m)) (sym p.frame) ∙ p.same rest ∙ d.same;
          smaller = let s = d.smaller in omega arith;
          whole = record {
            scope = w.scope;
            tasks = AreTasks-evals pool (length old.made) (drop k args) rest (AllBelow-drop (length pool) k args below) (tt, w.tasks);
            values = p.values;
          };
        }

    frame_of : (mid new : Machine) (k : ℕ) → Prepares pool ds sheet args k old mid → new ≡ record mid { tasks = map Eval (drop k args) ++ Combine f (length args) ∷ mid.tasks }
        → new ≡ record old { values = mid.values; tasks = map Eval (drop k args) ++ Combine f (length args) ∷ old.tasks }
    frame_of mid new k p same = same ∙ (λ i. record (p.frame i) { tasks = map Eval (drop k args) ++ Combine f (length args) ∷ (p.frame i).tasks })

-- a function whose first arguments are evaluated
pub apart_ready : (pool : List Node) (ds : List Definition) (sheet : List (Word × Value)) (old mid new : Machine) (id : TermId) (f : Func) (args : List TermId) (k : ℕ)
    → tree_of pool id ≡ apply f (row_in (trees pool) args) → AllBelow (length pool) args → IsWhole pool old → is_branch f args ≡ false → Prepares pool ds sheet args k old mid
    → new ≡ record mid { tasks = taken_apart f args k mid.tasks } → Does pool ds sheet (Eval id) old new
apart_ready pool ds sheet old mid new id (BuiltIn If) (c ∷ a ∷ b ∷ []) k tree below w e p same = absurd (cc)
apart_ready pool ds sheet old mid new id f args k tree below w e p same =
    subst (Does pool ds sheet (Eval id) old) (sym (frame_of pool ds sheet old id f args tree below w mid new k p same))
    (done_apart pool ds sheet old id f args tree below w mid k p (λ rest. does-apply pool ds sheet old _ id f args tree refl below w refl))

-- IF with its three arguments
pub apart_branch : (pool : List Node) (ds : List Definition) (sheet : List (Word × Value)) (old new : Machine) (id : TermId) (f : Func) (args : List TermId) (k : ℕ)
    → tree_of pool id ≡ apply f (row_in (trees pool) args) → AllBelow (length pool) args → IsWhole pool old → is_branch f args ≡ true
    → new ≡ record old { tasks = taken_apart f args k old.tasks } → Does pool ds sheet (Eval id) old new
apart_branch pool ds sheet old new id (BuiltIn If) (c ∷ a ∷ b ∷ []) k tree below w e same = does-branching pool ds sheet old new id c a b tree below w same
apart_branch pool ds sheet old new id f args k tree below w e same = absurd (cc)

-- a number out of range among the first arguments
pub apart_beyond : (pool : List Node) (ds : List Definition) (sheet : List (Word × Value)) (old : Machine) (id : TermId) (f : Func) (args : List TermId)
    → tree_of pool id ≡ apply f (row_in (trees pool) args) → AllBelow (length pool) args → IsWhole pool old → is_branch f args ≡ false → IsBeyondFrom pool ds sheet args old
    → meaning_with pool ds sheet (Eval id) old ≡ beyond
apart_beyond pool ds sheet old id (BuiltIn If) (c ∷ a ∷ b ∷ []) tree below w e h = absurd (cc)
apart_beyond pool ds sheet old id f args tree below w e h =
    let d : Does pool ds sheet (Eval id) old (record old { tasks = map Eval args ++ Combine f (length args) ∷ old.tasks }) = does-apply pool ds sheet old _ id f args tree refl below w refl in
    sym d.same ∙ h (Combine f (length args) ∷ old.tasks)
