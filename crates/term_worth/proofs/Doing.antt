-- What is left when a task was done.
use Rattle.std.proofs.Common.{◌≡◌, ℕ, suc, ◌+◌, ◌*◌, ◌≤◌, Bool, true, false, if◌then◌else◌, List, [], ◌∷◌, ◌++◌, length, map, refl, sym, ap, ◌∙◌, arith, subst, length-append, Option, Some, None}
use Rattle.formula.specs.declared.function.BuiltIn.{BuiltIn as Builtin}
use Rattle.formula.specs.declared.function.BuiltIn.TheVariants.{If}
use Rattle.formula.specs.declared.function.Func.{Func}
use Rattle.formula.specs.declared.function.Func.TheVariants.{BuiltIn, Defined}
use Rattle.formula.specs.declared.definition.Definition.{Definition}
use Rattle.term_worth.specs.declared.machine.Held.{Held}
use Rattle.term_worth.specs.declared.machine.Held.TheVariants as held
use Rattle.term_worth.specs.declared.machine.Parameters.{Parameters}
use Rattle.term_worth.specs.declared.machine.Scope.{Scope}
use Rattle.term_worth.specs.declared.machine.Scope.TheVariants.{Arguments}
use Rattle.term_worth.specs.declared.machine.Task.TheVariants.{Eval, Branch, Combine, Leave}
use Rattle.term_worth.specs.declared.machine.Machine.{Machine}
use Rattle.formula.specs.declared.node.Node.{Node}
use Rattle.formula.specs.declared.node.TermId.{TermId}
use Rattle.formula.specs.declared.value.Cell.{Cell}
use Rattle.formula.specs.declared.value.Value.{Value}
use Rattle.formula.specs.declared.value.Value.TheVariants.{Cells}
use Rattle.formula.specs.declared.word.Word.{Word}
use Rattle.formula.specs.Bounded.{Outcome, got, beyond, spent, and_then, ranged, function_bounded, bounded_by, body_bounded, chosen, function_at}
use Rattle.term_worth.specs.Machine.{Job, eval, combine, newest, all_but, finish, calls_of, size, tree_row_size, cost, greatest, value_of, values_of, params_in, symbols_of, jobs_of, IsHeld, AreHeld, IsScope, IsWhole, meaning, meaning_with, Does}
use Rattle.formula.specs.Pool.{AllBelow, IsIn, tree_of, trees, row_in}
use Rattle.formula.specs.Tree.{Tree, apply, row_count}
use Rattle.formula.specs.Values.{holds, applied}
use Rattle.formula.specs.Worth.{Valuation, Function, functions_of, bound_to, first_of, nothing_known}
use Rattle.term_worth.proofs.Depth.{calls_of-suc}
use Rattle.term_worth.proofs.Steps.{is_branch, evals, finish-apply, finish-branch, cost-append, cost-evals, size_pos, then_got}
use Rattle.formula.proofs.Turns.{row_count-row_in}
use Rattle.term_worth.proofs.Held.{symbols_of-append, values_of-append, jobs_of-append, value_of-made, AreHeld-more, IsScope-more, AreTasks-more, AreHeld-append, AreHeld-take, AreHeld-drop, values_of-put, values_of-newest, values_of-all_but, jobs_of-evals, AreTasks-evals}

module _ (pool : List Node) (ds : List Definition) (sheet : List (Word × Value)) (m : Machine) where
  fs : List Function
  fs = functions_of pool ds

  -- the values of symbols, the jobs and the values of the machine
  abbrev s : Valuation
  s = symbols_of ds sheet m.made m.scope

  abbrev js : List Job
  js = jobs_of pool ds sheet m.made m.tasks

  abbrev vs : List Value
  vs = values_of sheet m.made m.values

  -- the worth of a term that stands in the machine
  abbrev pub worth_here : Tree → Outcome Value
  worth_here t = bounded_by (calls_of (functions_of pool ds)) (symbols_of ds sheet m.made m.scope) nothing_known t m.turns

  -- the newest values of the machine
  abbrev pub values_here : ℕ → List Value
  values_here n = values_of sheet m.made (newest n m.values)

  -- a value is put
  put_whole : (h : Held) → IsHeld (length m.made) h → IsWhole pool m → IsWhole pool (record m { values = m.values ++ h ∷ [] })
  put_whole h k w = record { scope = w.scope; tasks = w.tasks; values = AreHeld-append (length m.made) m.values (h ∷ []) w.values (k, tt) }

  -- ---- terms

  pub same-leaf : (id : TermId) (h : Held) → worth_here (tree_of pool id) ≡ got (value_of sheet m.made h) m.turns
      → meaning pool ds sheet (record m { values = m.values ++ h ∷ [] }) ≡ meaning_with pool ds sheet (Eval id) m
  same-leaf id h e =
      ap (λ l. finish (calls_of (functions_of pool ds)) s js l m.turns) (values_of-put sheet m.made m.values h)
      ∙ ap (λ o. and_then o (λ v n. finish (calls_of (functions_of pool ds)) s js (vs ++ v ∷ []) n)) (sym e)

  pub does-leaf : (m' : Machine) (id : TermId) (h : Held) → worth_here (tree_of pool id) ≡ got (value_of sheet m.made h) m.turns → IsHeld (length m.made) h → IsWhole pool m
      → m' ≡ record m { values = m.values ++ h ∷ [] } → Does pool ds sheet (Eval id) m m'
  does-leaf m' id h e k w same = subst (Does pool ds sheet (Eval id) m) (sym same) (record {
    same = same-leaf id h e;
    smaller = let p = size_pos (tree_of pool id) in omega arith;
    whole = put_whole h k w;
  })

  pub beyond-leaf : (id : TermId) → worth_here (tree_of pool id) ≡ beyond → meaning_with pool ds sheet (Eval id) m ≡ beyond
  beyond-leaf id e = ap (λ o. and_then o (λ v n. finish (calls_of (functions_of pool ds)) s js (vs ++ v ∷ []) n)) e

  -- a function's arguments come first
  pub does-apply : (m' : Machine) (id : TermId) (f : Func) (args : List TermId) → tree_of pool id ≡ apply f (row_in (trees pool) args) → is_branch f (row_in (trees pool) args) ≡ false
      → AllBelow (length pool) args → IsWhole pool m → m' ≡ record m { tasks = map Eval args ++ Combine f (length args) ∷ m.tasks } → Does pool ds sheet (Eval id) m m'
  does-apply m' id f args e b below w same = subst (Does pool ds sheet (Eval id) m) (sym same) (
      let row = row_in (trees pool) args in
      let c = row_count-row_in (trees pool) args in
      let jobs : jobs_of pool ds sheet m.made (map Eval args ++ Combine f (length args) ∷ m.tasks) ≡ evals row ++ combine f (row_count row) ∷ js =
      jobs_of-evals pool ds sheet m.made args (Combine f (length args) ∷ m.tasks) ∙ ap (λ k. evals row ++ combine f k ∷ js) (sym c) in
      record {
        same =
            ap (λ l. finish (calls_of (functions_of pool ds)) s l vs m.turns) jobs
            ∙ finish-apply (calls_of (functions_of pool ds)) s f row js vs m.turns b
            ∙ ap (λ t. finish (calls_of (functions_of pool ds)) s (eval t ∷ js) vs m.turns) (sym e);
        smaller =
            let a : cost (jobs_of pool ds sheet m.made (map Eval args ++ Combine f (length args) ∷ m.tasks)) ≡ cost (evals row) + (1 + cost js) =
            ap cost jobs ∙ cost-append (evals row) (combine f (row_count row) ∷ js) in
            let r = cost-evals row in
            let t : size (tree_of pool id) ≡ tree_row_size row + 3 = ap size e in
            omega arith;
        whole = record { scope = w.scope; tasks = AreTasks-evals pool (length m.made) args (Combine f (length args) ∷ m.tasks) below (tt, w.tasks); values = w.values };
      })

  -- a condition comes before its branches
  pub does-branching : (m' : Machine) (id c a b : TermId) → tree_of pool id ≡ apply (BuiltIn If) (row_in (trees pool) (c ∷ a ∷ b ∷ [])) → AllBelow (length pool) (c ∷ a ∷ b ∷ [])
      → IsWhole pool m → m' ≡ record m { tasks = Eval c ∷ Branch a b ∷ m.tasks } → Does pool ds sheet (Eval id) m m'
  does-branching m' id c a b e below w same = subst (Does pool ds sheet (Eval id) m) (sym same) (record {
    same =
        finish-branch (calls_of (functions_of pool ds)) s (tree_of pool c) (tree_of pool a) (tree_of pool b) js vs m.turns
        ∙ ap (λ t. finish (calls_of (functions_of pool ds)) s (eval t ∷ js) vs m.turns) (sym e);
    smaller =
        let t : size (tree_of pool id) ≡ size (tree_of pool c) + (size (tree_of pool a) + (size (tree_of pool b) + 0)) + 3 = ap size e in
        omega arith;
    whole = record { scope = w.scope; tasks = (below.0, ((below.1.0, below.1.1.0), w.tasks)); values = w.values };
  })

  -- ---- the other tasks

  pub does-Branch : (m' : Machine) (a b id : TermId) → id ≡ (if holds (first_of (values_here 1)) then a else b) → IsIn pool a → IsIn pool b → IsWhole pool m
      → m' ≡ record m { tasks = Eval id ∷ m.tasks; values = all_but 1 m.values } → Does pool ds sheet (Branch a b) m m'
  does-Branch m' a b id e ina inb w same = subst (Does pool ds sheet (Branch a b) m) (sym same) (by_test (holds (first_of (values_here 1))) refl)
    where
      by_test : (t : Bool) → holds (first_of (values_here 1)) ≡ t → Does pool ds sheet (Branch a b) m (record m { tasks = Eval id ∷ m.tasks; values = all_but 1 m.values })
      by_test t was =
          let calls = calls_of (functions_of pool ds) in
          let rest = λ (v : Value) (n : ℕ). finish calls s js (all_but 1 vs ++ v ∷ []) n in
          let test : holds (first_of (newest 1 vs)) ≡ t = ap (λ l. holds (first_of l)) (sym (values_of-newest sheet m.made 1 m.values)) ∙ was in
          let there : id ≡ (if t then a else b) = e ∙ ap (λ u. if u then a else b) was in
          let worths : bounded_by calls s nothing_known (tree_of pool id) m.turns
          ≡ (if t then bounded_by calls s nothing_known (tree_of pool a) m.turns else bounded_by calls s nothing_known (tree_of pool b) m.turns) = which t there in
          record {
            same =
                ap (λ l. and_then (bounded_by calls s nothing_known (tree_of pool id) m.turns) (λ v n. finish calls s js (l ++ v ∷ []) n)) (values_of-all_but sheet m.made 1 m.values)
                ∙ ap (λ o. and_then o rest) worths
                ∙ ap (λ u. and_then (if u then bounded_by calls s nothing_known (tree_of pool a) m.turns else bounded_by calls s nothing_known (tree_of pool b) m.turns) rest) (sym test);
            smaller = let z : size (tree_of pool id) ≤ size (tree_of pool a) + size (tree_of pool b) = small t there in omega arith;
            whole = record { scope = w.scope; tasks = (within t there, w.tasks); values = AreHeld-take (length m.made) _ m.values w.values };
          }
        where
          which : (t : Bool) → id ≡ (if t then a else b) → bounded_by (calls_of (functions_of pool ds)) s nothing_known (tree_of pool id) m.turns
              ≡ (if t then bounded_by (calls_of (functions_of pool ds)) s nothing_known (tree_of pool a) m.turns else bounded_by (calls_of (functions_of pool ds)) s nothing_known (tree_of pool b) m.turns)
          which true h = ap (λ i. bounded_by (calls_of (functions_of pool ds)) s nothing_known (tree_of pool i) m.turns) h
          which false h = ap (λ i. bounded_by (calls_of (functions_of pool ds)) s nothing_known (tree_of pool i) m.turns) h

          small : (t : Bool) → id ≡ (if t then a else b) → size (tree_of pool id) ≤ size (tree_of pool a) + size (tree_of pool b)
          small true h = let z : size (tree_of pool id) ≡ size (tree_of pool a) = ap (λ i. size (tree_of pool i)) h in omega arith
          small false h = let z : size (tree_of pool id) ≡ size (tree_of pool b) = ap (λ i. size (tree_of pool i)) h in omega arith

          within : (t : Bool) → id ≡ (if t then a else b) → IsIn pool id
          within true h = subst (IsIn pool) (sym h) ina
          within false h = subst (IsIn pool) (sym h) inb

  pub does-Leave : (m' : Machine) (r : Scope) → IsScope (length m.made) r → IsWhole pool m → m' ≡ record m { scope = r } → Does pool ds sheet (Leave r) m m'
  does-Leave m' r k w same = subst (Does pool ds sheet (Leave r) m) (sym same) (record { same = refl; smaller = omega arith; whole = record { scope = k; tasks = w.tasks; values = w.values } })

  -- what a function makes of the newest values is put in their place
  combined : (f : Func) (c : ℕ) (o : Outcome Value) → function_bounded (calls_of (functions_of pool ds)) f (values_here c) m.turns ≡ o
      → meaning_with pool ds sheet (Combine f c) m ≡ and_then o (λ v n. finish (calls_of (functions_of pool ds)) s js (all_but c vs ++ v ∷ []) n)
  combined f c o e =
      ap (λ o. and_then o (λ v n. finish (calls_of (functions_of pool ds)) s js (all_but c vs ++ v ∷ []) n))
      (ap (λ l. function_bounded (calls_of (functions_of pool ds)) f l m.turns) (sym (values_of-newest sheet m.made c m.values)) ∙ e)

  replaced : (c : ℕ) (h : Held) → values_of sheet m.made (all_but c m.values ++ h ∷ []) ≡ all_but c vs ++ value_of sheet m.made h ∷ []
  replaced c h = values_of-put sheet m.made (all_but c m.values) h ∙ ap (λ l. l ++ value_of sheet m.made h ∷ []) (values_of-all_but sheet m.made c m.values)

  pub does-Combine : (m' : Machine) (f : Builtin) (c : ℕ) (h : Held) → ranged (applied f (values_here c)) m.turns ≡ got (value_of sheet m.made h) m.turns → IsHeld (length m.made) h → IsWhole pool m
      → m' ≡ record m { values = all_but c m.values ++ h ∷ [] } → Does pool ds sheet (Combine (BuiltIn f) c) m m'
  does-Combine m' f c h e k w same = subst (Does pool ds sheet (Combine (BuiltIn f) c) m) (sym same) (record {
    same = ap (λ l. finish (calls_of (functions_of pool ds)) s js l m.turns) (replaced c h) ∙ sym (combined (BuiltIn f) c _ e);
    smaller = omega arith;
    whole = record { scope = w.scope; tasks = w.tasks; values = AreHeld-append (length m.made) (all_but c m.values) (h ∷ []) (AreHeld-take (length m.made) _ m.values w.values) (k, tt) };
  })

  pub beyond-Combine : (f : Builtin) (c : ℕ) → ranged (applied f (values_here c)) m.turns ≡ beyond → meaning_with pool ds sheet (Combine (BuiltIn f) c) m ≡ beyond
  beyond-Combine f c e = combined (BuiltIn f) c beyond e

  -- a list of cells is made
  pub does-Making : (m' : Machine) (f : Builtin) (c : ℕ) (cs : List Cell) → ranged (applied f (values_here c)) m.turns ≡ got (Cells cs) m.turns → IsWhole pool m
      → m' ≡ record m { values = all_but c m.values ++ held.Made (length m.made) ∷ []; made = m.made ++ cs ∷ [] } → Does pool ds sheet (Combine (BuiltIn f) c) m m'
  does-Making m' f c cs e w same = subst (Does pool ds sheet (Combine (BuiltIn f) c) m) (sym same) (
      let calls = calls_of (functions_of pool ds) in
      let made = m.made ++ cs ∷ [] in
      let long : length made ≡ length m.made + 1 = simp length-append (omega arith) in
      let rest : AreHeld (length m.made) (all_but c m.values) = AreHeld-take (length m.made) _ m.values w.values in
      let jobs : jobs_of pool ds sheet made m.tasks ≡ js = jobs_of-append sheet m.made (cs ∷ []) ds pool m.tasks w.tasks in
      let values : values_of sheet made (all_but c m.values ++ held.Made (length m.made) ∷ []) ≡ all_but c vs ++ Cells cs ∷ [] =
      values_of-put sheet made (all_but c m.values) (held.Made (length m.made))
      ∙ (λ i. (values_of-append sheet m.made (cs ∷ []) (all_but c m.values) rest ∙ values_of-all_but sheet m.made c m.values) i ++ value_of-made sheet m.made cs i ∷ []) in
      record {
        same =
            (λ i. finish calls (symbols_of-append sheet m.made (cs ∷ []) ds m.scope w.scope i) (jobs i) (values i) m.turns)
            ∙ sym (combined (BuiltIn f) c _ e);
        smaller = let z : cost (jobs_of pool ds sheet made m.tasks) ≡ cost js = ap cost jobs in omega arith;
        whole = record {
          scope = IsScope-more (length m.made) (length made) m.scope (omega arith) w.scope;
          tasks = AreTasks-more pool (length m.made) (length made) m.tasks (omega arith) w.tasks;
          values = AreHeld-append (length made) (all_but c m.values) (held.Made (length m.made) ∷ []) (AreHeld-more (length m.made) (length made) (all_but c m.values) (omega arith) rest) (omega arith, tt);
        };
      })

  -- ---- uses of definitions

  -- a use without a turn
  pub spent-Use : (k c : ℕ) → m.turns ≡ 0 → meaning_with pool ds sheet (Combine (Defined k) c) m ≡ spent
  spent-Use k c e = combined (Defined k) c spent (ap (λ n. calls_of (functions_of pool ds) k (values_here c) n) e)

  -- what a use comes to with a turn
  used : (k c j : ℕ) (f : Option Function) → m.turns ≡ suc j → function_at (functions_of pool ds) k ≡ f
      → function_bounded (calls_of (functions_of pool ds)) (Defined k) (values_here c) m.turns ≡ body_bounded (calls_of (functions_of pool ds)) f (values_here c) j
  used k c j f e at =
      ap (λ n. calls_of (functions_of pool ds) k (values_here c) n) e ∙ calls_of-suc (functions_of pool ds) k (values_here c) j
      ∙ ap (λ f. body_bounded (calls_of (functions_of pool ds)) f (values_here c) j) at

  -- a use of no definition
  pub does-Unknown : (m' : Machine) (k c j : ℕ) → m.turns ≡ suc j → function_at (functions_of pool ds) k ≡ None → IsWhole pool m
      → m' ≡ record m { turns = j; values = all_but c m.values ++ held.Undefined ∷ [] } → Does pool ds sheet (Combine (Defined k) c) m m'
  does-Unknown m' k c j e at w same = subst (Does pool ds sheet (Combine (Defined k) c) m) (sym same) (record {
    same = ap (λ l. finish (calls_of (functions_of pool ds)) s js l j) (replaced c held.Undefined) ∙ sym (combined (Defined k) c _ (used k c j None e at));
    smaller = let t : m.turns * greatest (functions_of pool ds) ≡ suc j * greatest (functions_of pool ds) = ap (λ n. n * greatest (functions_of pool ds)) e in omega arith;
    whole = record { scope = w.scope; tasks = w.tasks; values = AreHeld-append (length m.made) (all_but c m.values) (held.Undefined ∷ []) (AreHeld-take (length m.made) _ m.values w.values) (tt, tt) };
  })

  -- a use of a definition whose term stands at id in the pool
  pub does-Use : (m' : Machine) (k c j : ℕ) (ps : Parameters) (id : TermId) (f : Function) → m.turns ≡ suc j → function_at (functions_of pool ds) k ≡ Some f → params_in ds ps ≡ f.params
      → tree_of pool id ≡ chosen f.body (values_here c) → size (tree_of pool id) + 1 ≤ greatest (functions_of pool ds) → IsIn pool id → IsWhole pool m
      → m' ≡ record m { scope = Arguments ps (newest c m.values); turns = j; tasks = Eval id ∷ Leave m.scope ∷ m.tasks; values = all_but c m.values }
      → Does pool ds sheet (Combine (Defined k) c) m m'
  does-Use m' k c j ps id f e at params tree small within w same = subst (Does pool ds sheet (Combine (Defined k) c) m) (sym same) (
      let calls = calls_of (functions_of pool ds) in
      record {
        same =
            (λ i. and_then (bounded_by calls (bound_to (params i) (values_here c)) nothing_known (tree i) j) (λ v n. finish calls s js (values_of-all_but sheet m.made c m.values i ++ v ∷ []) n))
            ∙ sym (combined (Defined k) c _ (used k c j (Some f) e at));
        smaller =
            let t : m.turns * greatest (functions_of pool ds) ≡ suc j * greatest (functions_of pool ds) = ap (λ n. n * greatest (functions_of pool ds)) e in
            omega arith;
        whole = record {
          scope = AreHeld-drop (length m.made) _ m.values w.values;
          tasks = (within, (w.scope, w.tasks));
          values = AreHeld-take (length m.made) _ m.values w.values;
        };
      })

  -- ---- the end

  pub ended : (o : Outcome Value) → meaning pool ds sheet m ≡ and_then o (λ v n. got v n) → m.tasks ≡ [] → o ≡ got (first_of (values_here 1)) m.turns
  ended o h e =
      sym (then_got o) ∙ sym h ∙ ap (λ l. finish (calls_of (functions_of pool ds)) s (jobs_of pool ds sheet m.made l) vs m.turns) e
      ∙ ap (λ l. got (first_of l) m.turns) (sym (values_of-newest sheet m.made 1 m.values))
