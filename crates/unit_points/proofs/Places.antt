-- Tables of labels and the points of labels.
use Rattle.std.proofs.Common.{◌≡◌, ℕ, suc, ◌+◌, Bool, true, false, cond, List, [], ◌∷◌, length, Some, refl, sym, ap, ◌∙◌, arith}
use Rattle.std.specs.Prelude.{◌==◌}
use Rattle.std.specs.Option.{unwrap_or}
use Rattle.fort_syntax.specs.declared.unit.Line.{Line}
use Rattle.fort_model.specs.Flow.{target}
use Rattle.unit_points.specs.Labels.{place_from}

more : (i n : ℕ) → suc i + n ≡ i + suc n
more i n = omega arith

pub placed : (i : ℕ) (lines : List Line) (label : ℕ) → unwrap_or (place_from i lines label) (i + length lines) ≡ i + target lines label
placed i [] label = refl
placed i (line ∷ lines) label = by (line.label == label) (placed (suc i) lines label)
  where
    by : (b : Bool) → unwrap_or (place_from (suc i) lines label) (suc i + length lines) ≡ suc i + target lines label
        → unwrap_or (cond b (Some i) (place_from (suc i) lines label)) (i + suc (length lines)) ≡ i + cond b 0 (suc (target lines label))
    by true rec = omega arith
    by false rec = ap (λ n. unwrap_or (place_from (suc i) lines label) n) (sym (more i (length lines))) ∙ rec ∙ more i (target lines label)

pub placed_first : (lines : List Line) (label : ℕ) → unwrap_or (place_from 0 lines label) (length lines) ≡ target lines label
placed_first lines label = ap (λ n. unwrap_or (place_from 0 lines label) n) (sym (none (length lines))) ∙ placed 0 lines label ∙ none (target lines label)
  where
    none : (n : ℕ) → 0 + n ≡ n
    none n = omega arith
