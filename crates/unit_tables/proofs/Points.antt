-- The first statement with a label.
use Rattle.std.proofs.Common.{◌≡◌, ℕ, suc, ◌+◌, ◌<◌, ◌≤◌, Bool, true, false, cond, Option, Some, List, [], ◌∷◌, length, drop, get_or, sym, ap, ◌∙◌, arith}
use Rattle.std.specs.Prelude.{◌==◌, nat_eq, unwrap_or}
use Rattle.std.proofs.lemmas.List.{at_drop_more, at_drop_all}
use Rattle.fort_syntax.specs.declared.unit.Line.{Line}
use Rattle.fort_model.specs.Flow.{target}
use Rattle.unit_tables.specs.Tables.{told_point, TellsPoint}

one_more : (i n : ℕ) → suc i + n ≡ i + suc n
one_more i n = omega arith

at_itself : (i : ℕ) → i ≡ i + 0
at_itself i = omega arith

point_by : (b : Bool) (i n t : ℕ) (o : Option ℕ) → unwrap_or o n ≡ suc i + t → unwrap_or (cond b (Some i) o) n ≡ i + cond b 0 (suc t)
point_by true i n t o e = at_itself i
point_by false i n t o e = e ∙ one_more i t

pub point_step : (lines : List Line) (old new : List (ℕ × ℕ)) (i n : ℕ) (d : Line) → i < length lines
    → ((x : ℕ) → unwrap_or (told_point old x) n ≡ suc i + target (drop (i + 1) lines) x) → TellsPoint old new (get_or lines i d).label i
    → (x : ℕ) → unwrap_or (told_point new x) n ≡ i + target (drop i lines) x
point_step lines old new i n d lt had tells x =
    ap (λ (o : Option ℕ). unwrap_or o n) (tells x)
    ∙ point_by (nat_eq (get_or lines i d).label x) i n (target (drop (i + 1) lines) x) (told_point old x) (had x)
    ∙ ap (λ (k : ℕ). i + k) (sym (at_drop_more (λ (rest : List Line). target rest x) lines i d lt))

pub point_start : (lines : List Line) (x : ℕ) → unwrap_or (told_point [] x) (length lines) ≡ length lines + target (drop (length lines) lines) x
point_start lines x =
    at_itself (length lines) ∙ ap (λ (k : ℕ). length lines + k) (sym (at_drop_all (λ (rest : List Line). target rest x) lines (length lines) (omega arith)))

within_by : (b : Bool) (t n : ℕ) → t ≤ n → cond b 0 (suc t) ≤ suc n
within_by true t n h = omega arith
within_by false t n h = omega arith

-- the point of a label is one of the unit, or its end
pub target_within : (lines : List Line) (x : ℕ) → target lines x ≤ length lines
target_within [] x = omega arith
target_within (line ∷ lines) x = within_by (line.label == x) (target lines x) (length lines) (target_within lines x)
