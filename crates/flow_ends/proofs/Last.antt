-- What the last statement says.
use Rattle.std.proofs.Common.{◌≡◌, ℕ, zero, suc, ◌-◌, ◌≤◌, inr, List, [], ◌∷◌, length, Option, Some, None, slice_get, refl, sym, ap, ◌∙◌, subst, arith}
use Rattle.fort_syntax.specs.FirstFaults.{TellsLeast}
use Rattle.fort_syntax.specs.declared.dialect.Dialect.{Dialect}
use Rattle.fort_syntax.specs.declared.rule.Rule.{Rule}
use Rattle.fort_syntax.specs.Rules.{rule_number}
use Rattle.fort_syntax.specs.declared.rule.Rule.TheVariants.{FallsOffEnd}
use Rattle.fort_syntax.specs.declared.unit.Line.{Line}
use Rattle.fort_syntax.specs.declared.unit.Unit.{Unit as Routine}
use Rattle.fort_model.specs.Rules.{off_end}
use Rattle.unit_faults.specs.Breaking.{IsBrokenAt}
use Rattle.flow_ends.specs.Ends.{cards_behind}

none_some : {X : Type 0} (a : X) → ◌≡◌ {A = Option X} None (Some a) → ⊥
none_some a e = cc

some_is : {X : Type 0} (a b : X) → ◌≡◌ {A = Option X} (Some a) (Some b) → a ≡ b
some_is a b e = cc

-- the cards by the last statement, if there is one
abbrev pub by_last : Dialect → Routine → Option Line → List ℕ
by_last dialect u None = u.«end» ∷ []
by_last dialect u (Some line) = cards_behind dialect line

less_one : (n : ℕ) → suc n - 1 ≡ n
less_one n = omega arith

pub last_tells : (dialect : Dialect) (u : Routine) (lines : List Line) → off_end dialect u lines ≡ by_last dialect u (slice_get lines (length lines - 1))
last_tells dialect u [] = refl
last_tells dialect u (line ∷ []) = ap (λ k. by_last dialect u (slice_get (line ∷ []) k)) (sym (less_one 0))
last_tells dialect u (line ∷ (next ∷ lines)) =
    last_tells dialect u (next ∷ lines) ∙ ap (λ k. by_last dialect u (slice_get (next ∷ lines) k)) (less_one (length lines))
    ∙ ap (λ k. by_last dialect u (slice_get (line ∷ (next ∷ lines)) k)) (sym (less_one (suc (length lines))))

-- the same by what stands last
pub last_is : (dialect : Dialect) (u : Routine) (lines : List Line) (o : Option Line) → o ≡ slice_get lines (length lines - 1) → by_last dialect u o ≡ off_end dialect u lines
last_is dialect u lines o e = ap (by_last dialect u) e ∙ sym (last_tells dialect u lines)

-- one card, or none, is the least
pub tells_none : (cards : List ℕ) → [] ≡ cards → TellsLeast (IsBrokenAt FallsOffEnd cards) None
tells_none cards e = subst (λ cs. TellsLeast (IsBrokenAt FallsOffEnd cs) None) e (λ rule card h. none_some card h.1.1)

same_rule : (rule : Rule) (h : rule ≡ FallsOffEnd) → rule_number FallsOffEnd ≤ rule_number rule
same_rule rule h = subst (λ (r : Rule). rule_number FallsOffEnd ≤ rule_number r) (sym h) (omega arith)

only : (card at k : ℕ) → slice_get (card ∷ []) k ≡ Some at → card ≡ at
only card at zero e = some_is card at e
only card at (suc k) e = absurd (none_some at e)

pub tells_one : (cards : List ℕ) (card : ℕ) → card ∷ [] ≡ cards → TellsLeast (IsBrokenAt FallsOffEnd cards) (Some (record { rule = FallsOffEnd; card = card }))
tells_one cards card e = subst (λ cs. TellsLeast (IsBrokenAt FallsOffEnd cs) (Some (record { rule = FallsOffEnd; card = card }))) e (
  (refl, (zero, refl)),
  λ rule at h. inr (only card at h.1.0 h.1.1, same_rule rule h.0),
)
