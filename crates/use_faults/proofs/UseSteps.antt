-- One statement more of a scan for the uses of names.
use Rattle.std.proofs.Common.{◌≡◌, ◌<◌, ◌+◌, ℕ, suc, zero, Bool, false, List, [], ◌∷◌, length, drop, slice_index_or, sym, ap, ◌∙◌, rules, arith}
use Rattle.std.specs.Prelude.{Option, Some, None}
use Rattle.fort_syntax.specs.CardRules.{fault_or}
use Rattle.fort_syntax.specs.Uses.{uses_of}
use Rattle.fort_syntax.specs.declared.dialect.Dialect.{Dialect}
use Rattle.fort_syntax.specs.declared.refusal.Fault.{Fault}
use Rattle.fort_syntax.specs.declared.rule.Rule.{Rule}
use Rattle.fort_syntax.specs.declared.unit.Line.{Line}
use Rattle.use_faults.specs.declared.used.Used.{Used}
use Rattle.use_faults.specs.UseScans.{UseFacts, used_with, use_rule, use_scan}

dropped_one : {X : Type 0} (xs : List X) (i : ℕ) (x : X) → i < length xs → x ≡ slice_index_or xs i x → drop i xs ≡ x ∷ drop (suc i) xs
dropped_one [] i x h e = search rules
dropped_one (y ∷ ys) zero x h e = λ j. sym e j ∷ ys
dropped_one (y ∷ ys) (suc i) x h e = dropped_one ys i x (grind (arith, h)) e

one_up : (i : ℕ) → suc i ≡ i + 1
one_up i = omega arith

dropped : {X : Type 0} (xs : List X) (i : ℕ) (x : X) → i < length xs → x ≡ slice_index_or xs i x → drop i xs ≡ x ∷ drop (i + 1) xs
dropped xs i x h e = dropped_one xs i x h e ∙ ap (λ n. x ∷ drop n xs) (one_up i)

module _ (d : Dialect) (f : UseFacts) (first : Bool) (used : Used) (unit : List Line) (i : ℕ) (line : Line) (within : i < length unit) (at : line ≡ slice_index_or unit i line) (whole : Option Fault)
    (before : use_scan d f first used (drop i unit) ≡ whole) where
  step : fault_or (use_rule d f first used line) line.card (use_scan d f false (used_with f.scope used (uses_of line.stmt) line.label) (drop (i + 1) unit)) ≡ whole
  step = ap (use_scan d f first used) (sym (dropped unit i line within at)) ∙ before

  pub scan_some : (rule : Rule) → Some rule ≡ use_rule d f first used line → Some (record { rule = rule; card = line.card }) ≡ whole
  scan_some rule e =
      ap (λ r. fault_or r line.card (use_scan d f false (used_with f.scope used (uses_of line.stmt) line.label) (drop (i + 1) unit))) e ∙ step

  pub scan_none : (after : Used) → None ≡ use_rule d f first used line → after ≡ used_with f.scope used (uses_of line.stmt) line.label
      → use_scan d f false after (drop (i + 1) unit) ≡ whole
  scan_none after e u =
      ap (λ v. use_scan d f false v (drop (i + 1) unit)) u
      ∙ ap (λ r. fault_or r line.card (use_scan d f false (used_with f.scope used (uses_of line.stmt) line.label) (drop (i + 1) unit))) e ∙ step
