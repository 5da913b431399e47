-- The rules on the flow, all three.
use Rattle.std.proofs.Common.{◌≡◌, ℕ, zero, suc, ◌⊎◌, inl, inr, Option, Some, None, Result, Ok, Err, IfOk, slice_get, refl, sym, ap, ◌∙◌, subst}
use Rattle.fort_syntax.specs.FirstFaults.{TellsLeast}
use Rattle.fort_syntax.specs.declared.refusal.Fault.{Fault}
use Rattle.fort_syntax.specs.declared.refusal.Refusal.{Refusal}
use Rattle.fort_syntax.specs.declared.rule.Rule.{Rule}
use Rattle.fort_syntax.specs.declared.rule.Rule.TheVariants.{DoSmashed, FallsOffEnd, UncutCycle}
use Rattle.fort_syntax.specs.declared.unit.Unit.{Unit as Routine}
use Rattle.fort_model.specs.Program.{Program}
use Rattle.fort_model.specs.Rules.{Breaks}
use Rattle.fort_model.specs.Stages.{rules_of_flow}
use Rattle.fort_model.specs.declared.graph.Graph.{Graph}
use Rattle.unit_faults.specs.Breaking.{BreaksOneOf}
use Rattle.unit_faults.specs.Sooner.{sooner}
use Rattle.unit_faults.proofs.Least.{sooner_tells, tells_of}
use Rattle.path_scene.specs.declared.scene.Scene.{Scene}
use Rattle.flow_cycles.specs.Routes.{IsUncutAt, IsGraphIn, fault_in}
use Rattle.flow_cycles.specs.declared.graphs.Routes.{Routes}
use Rattle.flow_cycles.specs.declared.graphs.Routes.TheVariants.{Whole}
use Rattle.flow_graph.specs.Units.{IsEarly, TellsEarly, TellsRoutesIn, TellsFlow, IsGraphOfUnit}

module _ (p : Program) (i : ℕ) (u : Routine) where
  abbrev AnyOf : Rule → ℕ → Type 0
  AnyOf rule card = IsEarly p u rule card ⊎ IsUncutAt p i u rule card

  abbrev Of : Rule → ℕ → Type 0
  Of rule card = BreaksOneOf p rules_of_flow i u rule card

  as_one : (one : Rule) (place : ℕ) → (◌≡◌ {A = Option Rule} (slice_get rules_of_flow place) (Some one)) → (card : ℕ) → Breaks p one i u card
      → (rule : Rule) → rule ≡ one → Of rule card
  as_one one place at card breaks rule e = subst (λ r. Of r card) (sym e) (record { among = (place, at); breaks = breaks })

  to : (rule : Rule) (card : ℕ) → AnyOf rule card → Of rule card
  to rule card (inl (inl h)) = as_one DoSmashed 0 refl card h.1 rule h.0
  to rule card (inl (inr h)) = as_one FallsOffEnd 1 refl card h.1 rule h.0
  to rule card (inr h) = as_one UncutCycle 2 refl card h.1 rule h.0

  same_rule : (a b : Rule) → ◌≡◌ {A = Option Rule} (Some a) (Some b) → b ≡ a
  same_rule a b e = cc

  back : (rule : Rule) (card : ℕ) → Of rule card → AnyOf rule card
  back rule card h = by h.among.0 h.among.1
    where
      by : (k : ℕ) → ◌≡◌ {A = Option Rule} (slice_get rules_of_flow k) (Some rule) → AnyOf rule card
      by zero e = (let s = same_rule DoSmashed rule e in inl (inl (s, subst (λ r. Breaks p r i u card) s h.breaks)))
      by (suc zero) e = (let s = same_rule FallsOffEnd rule e in inl (inr (s, subst (λ r. Breaks p r i u card) s h.breaks)))
      by (suc (suc zero)) e = (let s = same_rule UncutCycle rule e in inr (s, subst (λ r. Breaks p r i u card) s h.breaks))
      by (suc (suc (suc k))) e = absurd (cc)

  both_told : (early uncut : Option Fault) → TellsLeast (IsEarly p u) early → TellsLeast (IsUncutAt p i u) uncut → TellsLeast (BreaksOneOf p rules_of_flow i u) (sooner early uncut)
  both_told early uncut a b = tells_of AnyOf Of to back (sooner early uncut) (sooner_tells (IsEarly p u) (IsUncutAt p i u) early uncut a b)

all_told : (scene : Scene) (n : ℕ) (early : Option Fault) (routes : Routes) → TellsEarly scene n early → TellsRoutesIn scene n routes
    → TellsFlow scene n (sooner early (fault_in routes))
all_told scene n early routes a b pool p u ready at = both_told p n u early (fault_in routes) (a pool p u ready at) (b pool p u ready at).0

pub first_told : (scene : Scene) (n : ℕ) (early : Option Fault) (routes : Routes) (f : Fault) → TellsEarly scene n early → TellsRoutesIn scene n routes
    → sooner early (fault_in routes) ≡ Some f → TellsFlow scene n (Some f)
first_told scene n early routes f a b is = subst (TellsFlow scene n) is (all_told scene n early routes a b)

pub none_told : (scene : Scene) (n : ℕ) (early : Option Fault) (routes : Routes) (g : Graph) → TellsEarly scene n early → TellsRoutesIn scene n routes
    → routes ≡ Whole g → early ≡ None → TellsFlow scene n None
none_told scene n early routes g a b whole none =
    subst (TellsFlow scene n) (ap (λ (r : Routes). sooner early (fault_in r)) whole ∙ ap (λ (o : Option Fault). sooner o None) none) (all_told scene n early routes a b)

pub graph_told : (scene : Scene) (n : ℕ) (routes : Routes) (g : Graph) → TellsRoutesIn scene n routes → routes ≡ Whole g → IsGraphOfUnit scene n g
graph_told scene n routes g b whole pool p u ready at = subst (IsGraphIn p n u) whole (b pool p u ready at).1

-- ---- what was decided

pub graph_decided : (scene : Scene) (n : ℕ) (early : Option Fault) (routes : Routes) (r : Result Graph Refusal) → TellsRoutesIn scene n routes
    → IfOk r (λ g. (routes ≡ Whole g) × (early ≡ None)) → IfOk r (IsGraphOfUnit scene n)
graph_decided scene n early routes (Ok g) b h = graph_told scene n routes g b h.0
graph_decided scene n early routes (Err e) b h = h

pub none_decided : (scene : Scene) (n : ℕ) (early : Option Fault) (routes : Routes) (r : Result Graph Refusal) → TellsEarly scene n early → TellsRoutesIn scene n routes
    → IfOk r (λ g. (routes ≡ Whole g) × (early ≡ None)) → IfOk r (λ g. TellsFlow scene n None)
none_decided scene n early routes (Ok g) a b h = none_told scene n early routes g a b h.0 h.1
none_decided scene n early routes (Err e) a b h = h
