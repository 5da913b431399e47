-- Where each call is of some unit, the rows of the graph are the callees.
use Rattle.std.proofs.Common.{◌≡◌, ℕ, zero, suc, Bool, true, false, List, [], ◌∷◌, refl, ap, ◌∙◌}
use Rattle.std.specs.Prelude.{◌||◌, Option, Some, None, map}
use Rattle.std.specs.List.{list_any}
use Rattle.fort_model.specs.CallFacts.{IsCalleesTable, are_callees, sites_of_unit}
use Rattle.fort_model.specs.CallRules.{is_nobody}
use Rattle.fort_model.specs.Calls.{CallSite, callee_of, sites_of}
use Rattle.fort_model.specs.Lists.{IsAmong}
use Rattle.fort_model.specs.Rules.{KeepsRule, calls_nobody}
use Rattle.fort_syntax.specs.declared.rule.Rule.TheVariants.{UnknownUnit}
use Rattle.fort_syntax.specs.declared.unit.Line.{Line}
use Rattle.fort_syntax.specs.declared.unit.Unit.{Unit as Routine}
use Rattle.stage_faults.proofs.Cards.{passing}
use Rattle.call_order.specs.CallGraphs.{known, callees, call_graph}
use Rattle.call_order.proofs.Bridge.{of_lines}
use Rattle.call_rules.specs.CallFaults.{program_of}

or_true : (a : Bool) → (a || true) ≡ true
or_true true = refl
or_true false = refl

in_any : {X : Type 0} (test : X → Bool) (xs : List X) (x : X) → IsAmong x xs → test x ≡ true → list_any test xs ≡ true
in_any test [] x (k, e) h = absurd cc
in_any test (y ∷ ys) x (zero, e) h = let same : y ≡ x = cc in ap (λ b. b || list_any test ys) (ap test same ∙ h)
in_any test (y ∷ ys) x (suc k, e) h = ap (λ b. test y || b) (in_any test ys x (k, e) h) ∙ or_true (test y)

all_known : (f : CallSite → Option ℕ) (sites : List CallSite) → ((site : CallSite) → IsAmong site sites → f site ≡ None → ⊥)
    → map (λ j. Some j) (known (map f sites)) ≡ map f sites
all_known f [] h = refl
all_known f (s ∷ sites) h = by (all_known f sites (λ site m. h site (suc m.0, m.1))) (h s (zero, refl)) (f s) refl
  where
    by : map (λ j. Some j) (known (map f sites)) ≡ map f sites → (f s ≡ None → ⊥) → (o : Option ℕ) → f s ≡ o
        → map (λ j. Some j) (known (o ∷ map f sites)) ≡ o ∷ map f sites
    by rest some (Some j) e = ap (λ os. Some j ∷ os) rest
    by rest some None e = absurd (some e)

tabled : (units us : List Routine)
    → ((u : Routine) → IsAmong u us → (site : CallSite) → IsAmong site (sites_of_unit u) → callee_of units site ≡ None → ⊥)
    → are_callees units us (map (callees units) us)
tabled units [] h = tt
tabled units (u ∷ us) h =
    (all_known (callee_of units) (sites_of_unit u) (h u (zero, refl)), tabled units us (λ v m. h v (suc m.0, m.1)))

pub callees_are_tabled : (units : List Routine) → KeepsRule (program_of units) UnknownUnit → IsCalleesTable units (call_graph units)
callees_are_tabled units kept = tabled units units (λ u m site n e. none u m site e (of_lines u u.lines site n))
  where
    none : (u : Routine) → IsAmong u units → (site : CallSite) → callee_of units site ≡ None
        → (line : Line) × IsAmong line u.lines × IsAmong site (sites_of u line.stmt) → ⊥
    none u m site e found =
        kept m.0 found.0.card
        (record {
          unit = u;
          is_unit = m.1;
          breaks = passing (λ s. calls_nobody (program_of units) u s) 0 u.lines found.0 found.1
              (in_any (λ c. is_nobody (callee_of units c)) (sites_of u found.0.stmt) site found.2 (ap is_nobody e));
        })
