-- The faults of the four rules are those of the stage.
use Rattle.std.proofs.Common.{◌≡◌, ℕ, zero, suc, ◌⊎◌, inl, inr, IsTrue, List, Option, Some, slice_get, refl, sym, ap, ◌∙◌, subst}
use Rattle.formula.specs.declared.node.Node.{Node}
use Rattle.fort_syntax.specs.DeckOrder.{stand_between}
use Rattle.fort_syntax.specs.FirstFaults.{TellsLeast}
use Rattle.fort_syntax.specs.declared.refusal.Fault.{Fault}
use Rattle.fort_syntax.specs.declared.rule.Rule.{Rule}
use Rattle.fort_syntax.specs.declared.rule.Rule.TheVariants.{BadLastOfDo, CrossedDo, JumpIntoDo, ClockLength}
use Rattle.fort_syntax.specs.declared.unit.Unit.{Unit as Routine}
use Rattle.fort_notes.specs.Assertions.{Notes, notes_tree}
use Rattle.fort_notes.specs.declared.notes.UnitSpec.{UnitSpec}
use Rattle.fort_model.specs.Program.{Program, notes_of}
use Rattle.fort_model.specs.Ranges.{has_bad_last, crosses, jumps_badly}
use Rattle.fort_model.specs.Rules.{Breaks, at_lines, all_clocks}
use Rattle.fort_model.specs.Stages.{rules_of_ranges}
use Rattle.unit_faults.specs.Breaking.{BreaksOneOf, IsBrokenAt}
use Rattle.unit_faults.specs.Sooner.{first_at, sooner}
use Rattle.unit_faults.proofs.Least.{sooner_tells, tells_of, first_tells}
use Rattle.do_ranges.specs.Clocks.{clock_fault}
use Rattle.do_ranges.proofs.LeastClock.{clocks_tell}

module _ (u : Routine) (p : Program) (i : ℕ) where
  abbrev Last : Rule → ℕ → Type 0
  Last = IsBrokenAt BadLastOfDo (at_lines u (has_bad_last u))

  abbrev Crossed : Rule → ℕ → Type 0
  Crossed = IsBrokenAt CrossedDo (at_lines u (crosses u))

  abbrev Jumped : Rule → ℕ → Type 0
  Jumped = IsBrokenAt JumpIntoDo (at_lines u (jumps_badly u))

  abbrev Clocked : Rule → ℕ → Type 0
  Clocked = IsBrokenAt ClockLength (all_clocks (notes_of p i).asserts)

  abbrev AnyOf : Rule → ℕ → Type 0
  AnyOf rule card = (Last rule card ⊎ Crossed rule card) ⊎ (Jumped rule card ⊎ Clocked rule card)

  abbrev Of : Rule → ℕ → Type 0
  Of rule card = BreaksOneOf p rules_of_ranges i u rule card

  as_one : (one : Rule) (place : ℕ) → (◌≡◌ {A = Option Rule} (slice_get rules_of_ranges place) (Some one)) → (card : ℕ) → Breaks p one i u card
      → (rule : Rule) → rule ≡ one → Of rule card
  as_one one place at card breaks rule e = subst (λ r. Of r card) (sym e) (record { among = (place, at); breaks = breaks })

  to : (rule : Rule) (card : ℕ) → AnyOf rule card → Of rule card
  to rule card (inl (inl h)) = as_one BadLastOfDo 0 refl card h.1 rule h.0
  to rule card (inl (inr h)) = as_one CrossedDo 1 refl card h.1 rule h.0
  to rule card (inr (inl h)) = as_one JumpIntoDo 2 refl card h.1 rule h.0
  to rule card (inr (inr h)) = as_one ClockLength 3 refl card h.1 rule h.0

  same_rule : (a b : Rule) → ◌≡◌ {A = Option Rule} (Some a) (Some b) → b ≡ a
  same_rule a b e = cc

  back : (rule : Rule) (card : ℕ) → Of rule card → AnyOf rule card
  back rule card h = by h.among.0 h.among.1
    where
      by : (k : ℕ) → ◌≡◌ {A = Option Rule} (slice_get rules_of_ranges k) (Some rule) → AnyOf rule card
      by zero e = (let s = same_rule BadLastOfDo rule e in inl (inl (s, subst (λ r. Breaks p r i u card) s h.breaks)))
      by (suc zero) e = (let s = same_rule CrossedDo rule e in inl (inr (s, subst (λ r. Breaks p r i u card) s h.breaks)))
      by (suc (suc zero)) e = (let s = same_rule JumpIntoDo rule e in inr (inl (s, subst (λ r. Breaks p r i u card) s h.breaks)))
      by (suc (suc (suc zero))) e = (let s = same_rule ClockLength rule e in inr (inr (s, subst (λ r. Breaks p r i u card) s h.breaks)))
      by (suc (suc (suc (suc k)))) e = absurd (cc)

  pub stage_tells : (spec : UnitSpec) (pool : List Node) → notes_of p i ≡ notes_tree pool spec → IsTrue (stand_between u.head u.lines u.«end»)
      → TellsLeast (BreaksOneOf p rules_of_ranges i u)
      (sooner (sooner (first_at BadLastOfDo (has_bad_last u) 0 u.lines) (first_at CrossedDo (crosses u) 0 u.lines))
      (sooner (first_at JumpIntoDo (jumps_badly u) 0 u.lines) (clock_fault spec.asserts)))
  stage_tells spec pool notes order =
      tells_of AnyOf Of to back _
      (sooner_tells (λ rule card. Last rule card ⊎ Crossed rule card) (λ rule card. Jumped rule card ⊎ Clocked rule card) _ _
      (sooner_tells Last Crossed _ _ (first_tells BadLastOfDo (has_bad_last u) 0 u.lines u.head u.«end» order) (first_tells CrossedDo (crosses u) 0 u.lines u.head u.«end» order))
      (sooner_tells Jumped Clocked _ _ (first_tells JumpIntoDo (jumps_badly u) 0 u.lines u.head u.«end» order)
      (subst (λ (n : Notes). TellsLeast (IsBrokenAt ClockLength (all_clocks n.asserts)) (clock_fault spec.asserts)) (sym notes) (clocks_tell pool spec.asserts))))

-- the same by the faults of the four rules, joined in turn
pub joined_tells : (u : Routine) (p : Program) (i : ℕ) (spec : UnitSpec) (pool : List Node) → notes_of p i ≡ notes_tree pool spec → IsTrue (stand_between u.head u.lines u.«end»)
    → (last crossed jump clock first second told : Option Fault) → last ≡ first_at BadLastOfDo (has_bad_last u) 0 u.lines
    → crossed ≡ first_at CrossedDo (crosses u) 0 u.lines → jump ≡ first_at JumpIntoDo (jumps_badly u) 0 u.lines → clock ≡ clock_fault spec.asserts
    → first ≡ sooner last crossed → second ≡ sooner jump clock → told ≡ sooner first second → TellsLeast (BreaksOneOf p rules_of_ranges i u) told
joined_tells u p i spec pool notes order last crossed jump clock first second told a b c d e f g =
    subst (TellsLeast (BreaksOneOf p rules_of_ranges i u)) (sym (g ∙ ap (λ x. sooner x second) (e ∙ ap (λ x. sooner x crossed) a ∙ ap (λ x. sooner (first_at BadLastOfDo (has_bad_last u) 0 u.lines) x) b)
    ∙ ap (λ x. sooner (sooner (first_at BadLastOfDo (has_bad_last u) 0 u.lines) (first_at CrossedDo (crosses u) 0 u.lines)) x)
    (f ∙ ap (λ x. sooner x clock) c ∙ ap (λ x. sooner (first_at JumpIntoDo (jumps_badly u) 0 u.lines) x) d)))
    (stage_tells u p i spec pool notes order)
