-- What the stage of the rules on calls tells.
use Rattle.std.proofs.Common.{◌≡◌, ℕ, List, refl, sym, ap, subst, ◌∙◌}
use Rattle.std.specs.Prelude.{Option, Some, None, Result, Ok, Err, IfOk, slice_get}
use Rattle.fort_model.specs.CallFacts.{IsCalleesTable}
use Rattle.fort_model.specs.Calls.{Reaches, directly, through}
use Rattle.fort_model.specs.Program.{Program}
use Rattle.fort_model.specs.Stages.{IsBrokenOf, KeepsAll, rules_of_calls}
use Rattle.fort_syntax.specs.FirstFaults.{AreKept, TellsLeast}
use Rattle.fort_syntax.specs.declared.refusal.Fault.{Fault}
use Rattle.fort_syntax.specs.declared.rule.Rule.TheVariants.{UnknownUnit, Recursion}
use Rattle.fort_syntax.specs.declared.unit.Unit.{Unit as Routine}
use Rattle.stage_faults.proofs.Least.{stage_fault_is_first}
use Rattle.call_order.specs.CallGraphs.{AreInOrder, AreOrdered, HaveNoRecursion, IsFirstRecursive}
use Rattle.call_order.specs.Orderings.{TellsOrdering}
use Rattle.call_order.specs.declared.orders.Ordered.{Ordered}
use Rattle.call_order.specs.declared.orders.Ordering.{Ordering}
use Rattle.call_order.specs.declared.orders.Ordering.TheVariants.{Acyclic, Recursive}
use Rattle.call_rules.specs.CallFaults.{call_fault, head_rule, program_of, stmt_rule}
use Rattle.call_rules.specs.Stage.{AreCallsOrdered, IsCallFault, recursive_of}
use Rattle.call_rules.proofs.KnownCallees.{callees_are_tabled}
use Rattle.call_rules.proofs.ToldCalls.{calls_are_told}

told_of : (p : Program) (recursive : Option ℕ) → AreInOrder p.units → IsFirstRecursive p.units recursive
    → TellsLeast (IsBrokenOf p rules_of_calls) (call_fault p.units recursive)
told_of p recursive order first =
    stage_fault_is_first p rules_of_calls (head_rule p.units recursive) (stmt_rule p.units) order.0 order.1 order.2
    (calls_are_told p order.0 order.1 order.2 recursive first)

-- in every program of some units
told_in : (units : List Routine) (recursive : Option ℕ) → AreInOrder units → IsFirstRecursive units recursive → (p : Program) → p.units ≡ units
    → TellsLeast (IsBrokenOf p rules_of_calls) (call_fault units recursive)
told_in units recursive order first p e =
    subst (λ (us : List Routine). AreInOrder us → IsFirstRecursive us recursive → TellsLeast (IsBrokenOf p rules_of_calls) (call_fault us recursive)) e
    (told_of p recursive) order first

first_of : (units : List Routine) (found : Ordering) → TellsOrdering units found → IsFirstRecursive units (recursive_of found)
first_of units (Acyclic o) h = h.0
first_of units (Recursive i) h = h

pub fault_told : (units : List Routine) (found : Ordering) (f : Fault) → AreInOrder units → TellsOrdering units found
    → Some f ≡ call_fault units (recursive_of found) → IsCallFault units f
fault_told units found f order told e p same =
    subst (TellsLeast (IsBrokenOf p rules_of_calls)) (sym e) (told_in units (recursive_of found) order (first_of units found told) p same)

kept_of : (units : List Routine) (recursive : Option ℕ) → AreInOrder units → IsFirstRecursive units recursive → None ≡ call_fault units recursive
    → (p : Program) → p.units ≡ units → KeepsAll p rules_of_calls
kept_of units recursive order first e p same =
    let kept : AreKept (IsBrokenOf p rules_of_calls) =
    subst (TellsLeast (IsBrokenOf p rules_of_calls)) (sym e) (told_in units recursive order first p same) in
    λ rule m i card b. kept rule card (record { among = m; unit = i; broken = b })

pub ordered_told : (units : List Routine) (numbers : List ℕ) (rows : List (List ℕ)) → AreInOrder units → HaveNoRecursion units
    → AreOrdered units numbers rows → None ≡ call_fault units None → AreCallsOrdered units numbers rows
ordered_told units numbers rows order none is e =
    let kept = kept_of units None order none e in
    record {
      order = is.order;
      callees = subst (IsCalleesTable units) (sym is.graph) (callees_are_tabled units (kept (program_of units) refl UnknownUnit (1, refl)));
      kept = kept;
    }

caller : (units : List Routine) (i j : ℕ) → Reaches units i j → (u : Routine) × (slice_get units i ≡ Some u)
caller units i j (directly c) = (c.caller, c.is_caller)
caller units i j (through c r) = (c.caller, c.is_caller)

-- a unit that calls itself is a fault
pub recursion_is_told : (units : List Routine) (i : ℕ) → AreInOrder units → IsFirstRecursive units (Some i) → None ≡ call_fault units (Some i) → ⊥
recursion_is_told units i order first e =
    let u = caller units i i first.0 in
    kept_of units (Some i) order first e (program_of units) refl Recursion (2, refl) i u.0.head
    (record { unit = u.0; is_unit = u.1; breaks = record { is_card = refl; way = first.0 } })

-- ---- by the units of a table

pub stage_fault : (units us : List Routine) (found : Ordering) (recursive : Option ℕ) (o : Option Fault) (f : Fault) → us ≡ units → AreInOrder units
    → TellsOrdering us found → recursive ≡ recursive_of found → o ≡ call_fault us recursive → o ≡ Some f → IsCallFault units f
stage_fault units us found recursive o f same order told r e is =
    fault_told units found f order (subst (λ (x : List Routine). TellsOrdering x found) same told) (sym is ∙ e ∙ (λ k. call_fault (same k) (r k)))

pub stage_ordered : (units us : List Routine) (found : Ordering) (recursive : Option ℕ) (o : Option Fault) (ordered : Ordered) → us ≡ units
    → AreInOrder units → TellsOrdering us found → recursive ≡ recursive_of found → o ≡ call_fault us recursive → o ≡ None → found ≡ Acyclic ordered
    → AreCallsOrdered units ordered.order ordered.callees
stage_ordered units us found recursive o ordered same order told r e is a =
    let here : TellsOrdering units (Acyclic ordered) = subst (TellsOrdering units) a (subst (λ (x : List Routine). TellsOrdering x found) same told) in
    ordered_told units ordered.order ordered.callees order here.0 here.1 (sym is ∙ e ∙ (λ k. call_fault (same k) ((r ∙ ap recursive_of a) k)))

pub stage_recursive : (units us : List Routine) (found : Ordering) (recursive : Option ℕ) (o : Option Fault) (i : ℕ) → us ≡ units → AreInOrder units
    → TellsOrdering us found → recursive ≡ recursive_of found → o ≡ call_fault us recursive → o ≡ None → found ≡ Recursive i → ⊥
stage_recursive units us found recursive o i same order told r e is a =
    let here : TellsOrdering units (Recursive i) = subst (TellsOrdering units) a (subst (λ (x : List Routine). TellsOrdering x found) same told) in
    recursion_is_told units i order here (sym is ∙ e ∙ (λ k. call_fault (same k) ((r ∙ ap recursive_of a) k)))

-- ---- answers

pub if_ok : {A E : Type 0} (r : Result A E) (P Q : A → Type 0) → ((x : A) → P x → Q x) → IfOk r P → IfOk r Q
if_ok (Ok x) P Q f h = f x h
if_ok (Err e) P Q f h = h
