-- Marks stand where ASSERTs do.
use Rattle.std.proofs.Common.{◌≡◌, ℕ, zero, suc, ◌<◌, ◌≤◌, ◌⊎◌, inl, inr, Bool, true, false, cond, true≢false, List, [], ◌∷◌, map, length, replicate, get_or, set, Option, Some, None, slice_get, refl, sym, ap, ◌∙◌, subst, arith}
use Rattle.std.specs.Prelude.{◌==◌}
use Rattle.std.proofs.lemmas.Bool.{cases_lt}
use Rattle.std.proofs.lemmas.Bool.Decides.{nat_tests}
use Rattle.std.proofs.lemmas.List.{length-set, length-replicate, get_or-set_same, get_or-set_other, get_or-replicate, get_or_past}
use Rattle.std.proofs.lemmas.Option.{slice_get_within}
use Rattle.digraph.specs.Steps.{marks_after}
use Rattle.fort_syntax.specs.declared.unit.Line.{Line}
use Rattle.fort_syntax.specs.declared.unit.Unit.{Unit as Routine}
use Rattle.fort_notes.specs.Assertions.{Assertion, Notes}
use Rattle.fort_model.specs.Paths.{NoCut, cut_of, cut_in, cut_at}
use Rattle.fort_model.specs.Program.{assertion_in, assertion_at}
use Rattle.flow_nodes.specs.Nodes.{cut_marks}

abbrev pub points : List Assertion → List ℕ
points asserts = map (λ (a : Assertion). a.point) asserts

abbrev seen : Option Assertion → Bool → Bool
seen None b = b
seen (Some a) b = true

seen_true : (o : Option Assertion) → seen o true ≡ true
seen_true None = refl
seen_true (Some a) = refl

equal : (p q : ℕ) → (p == q) ≡ true → q ≡ p
equal p q e = grind (arith, nat_tests, e)

unequal : (p q : ℕ) → (p == q) ≡ false → q ≡ p → ⊥
unequal p q e same = true≢false (sym (grind (arith, nat_tests, same)) ∙ e)

marked : (asserts : List Assertion) (m : List Bool) (q : ℕ) → q < length m
    → get_or (marks_after m (points asserts)) q true ≡ seen (assertion_in asserts q) (get_or m q true)
marked [] m q lt = refl
marked (a ∷ rest) m q lt = by (a.point == q) refl (marked rest (set m a.point true) q (subst (λ n. q < n) (sym (length-set m a.point true)) lt))
  where
    by : (b : Bool) → (a.point == q) ≡ b
        → get_or (marks_after (set m a.point true) (points rest)) q true ≡ seen (assertion_in rest q) (get_or (set m a.point true) q true)
        → get_or (marks_after (set m a.point true) (points rest)) q true ≡ seen (cond b (Some a) (assertion_in rest q)) (get_or m q true)
    by true e rec =
        let same = equal a.point q e in
        let there : get_or (set m a.point true) q true ≡ true =
        ap (λ (z : ℕ). get_or (set m a.point true) z true) same ∙ get_or-set_same m a.point true true (subst (λ z. z < length m) same lt) in
        rec ∙ ap (seen (assertion_in rest q)) there ∙ seen_true (assertion_in rest q)
    by false e rec = rec ∙ ap (seen (assertion_in rest q)) (get_or-set_other m a.point q true true (unequal a.point q e))

module _ (u : Routine) (notes : Notes) where
  clear_in : (o : Option Line) (a : Option Assertion) → cut_in o a ≡ NoCut → ((line : Line) × (o ≡ Some line)) × (a ≡ None)
  clear_in None a h = absurd cc
  clear_in (Some line) None h = ((line, refl), refl)
  clear_in (Some line) (Some a) h = absurd cc

  pub clear_line : (q : ℕ) → cut_at u notes q ≡ NoCut → (line : Line) × (slice_get u.lines q ≡ Some line)
  clear_line q h = (clear_in (slice_get u.lines q) (assertion_at notes q) h).0

  pub clear_within : (q : ℕ) → cut_at u notes q ≡ NoCut → q < length u.lines
  clear_within q h = (let line = clear_line q h in slice_get_within u.lines q line.0 line.1)

  mark_is : (q : ℕ) → q < length u.lines → get_or (cut_marks (length u.lines) (points notes.asserts)) q true ≡ seen (assertion_at notes q) false
  mark_is q lt =
      marked notes.asserts (replicate (length u.lines) false) q (subst (λ n. q < n) (sym (length-replicate (length u.lines) false)) lt)
      ∙ ap (seen (assertion_at notes q)) (get_or-replicate (length u.lines) q false true lt)

  pub clear_unmarked : (q : ℕ) → cut_at u notes q ≡ NoCut → get_or (cut_marks (length u.lines) (points notes.asserts)) q true ≡ false
  clear_unmarked q h =
      mark_is q (clear_within q h) ∙ ap (λ (o : Option Assertion). seen o false) (clear_in (slice_get u.lines q) (assertion_at notes q) h).1

  marks_long : (m : List Bool) (qs : List ℕ) → length (marks_after m qs) ≡ length m
  marks_long m [] = refl
  marks_long m (x ∷ qs) = marks_long (set m x true) qs ∙ length-set m x true

  line_at : (lines : List Line) (q : ℕ) → q < length lines → (line : Line) × (slice_get lines q ≡ Some line)
  line_at [] q lt = absurd (omega (arith, lt))
  line_at (line ∷ lines) zero lt = (line, refl)
  line_at (line ∷ lines) (suc q) lt = line_at lines q (omega (arith, lt))

  none_seen : (o : Option Assertion) → seen o false ≡ false → o ≡ None
  none_seen None e = refl
  none_seen (Some a) e = absurd (true≢false e)

  clear_by : (o : Option Line) (a : Option Assertion) (line : Line) → o ≡ Some line → a ≡ None → cut_in o a ≡ NoCut
  clear_by o a line e n = ap (λ (x : Option Line). cut_in x a) e ∙ ap cut_of n

  pub unmarked_clear : (q : ℕ) → get_or (cut_marks (length u.lines) (points notes.asserts)) q true ≡ false → cut_at u notes q ≡ NoCut
  unmarked_clear q e = by (cases_lt q (length u.lines))
    where
      long : length (cut_marks (length u.lines) (points notes.asserts)) ≡ length u.lines
      long = marks_long (replicate (length u.lines) false) (points notes.asserts) ∙ length-replicate (length u.lines) false

      by : (q < length u.lines) ⊎ (length u.lines ≤ q) → cut_at u notes q ≡ NoCut
      by (inl lt) =
          let line = line_at u.lines q lt in
          clear_by (slice_get u.lines q) (assertion_at notes q) line.0 line.1 (none_seen (assertion_at notes q) (sym (mark_is q lt) ∙ e))
      by (inr le) = absurd (true≢false (sym (get_or_past (cut_marks (length u.lines) (points notes.asserts)) q true (subst (λ n. n ≤ q) (sym long) le)) ∙ e))
