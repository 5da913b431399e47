-- The instructions of statements stand where they are said to stand.
use Rattle.std.proofs.Common.{◌≡◌, ◌≤◌, ℕ, zero, suc, ◌+◌, ◌-◌, List, [], ◌∷◌, ◌++◌, drop, take, map, length, Some, slice_get, refl, sym, ap, ◌∙◌, subst, append_assoc, arith}
use Rattle.std.proofs.lemmas.List.{length-append}
use Rattle.std.proofs.lemmas.Option.{slice_get_within}
use Rattle.std.proofs.Math.Seq.{drop-append_seam, take-append_seam}
use Rattle.fort_syntax.specs.declared.unit.Line.{Line}
use Rattle.fort_syntax.specs.declared.unit.Unit.{Unit as Routine}
use Rattle.fort_model.specs.Calls.{sites_of}
use Rattle.fort_model.specs.Sites.{calls_before, calls_of, calls_of_lines}
use Rattle.run_code.specs.Code as code
use Rattle.run_shapes.specs.Coded.{IsLineOf}
use Rattle.run_shapes.specs.Seen.{piece, seen, seen_in}
use Rattle.run_shapes.specs.declared.instr.Instr.{Instr}
use Rattle.run_shapes.specs.declared.unit_code.LineCode.{LineCode}
use Rattle.run_shapes.specs.declared.unit_code.UnitCode.{UnitCode}
use Rattle.run_doing.specs.declared.table.TestTable.{TestTable}
use Rattle.run_known.proofs.Placed.{stmt_long}
use Rattle.run_lines.specs.Stated.{StmtPushedIsCode, aims}
use Rattle.run_made.specs.Laws.{HasLines, LinesAreCode}
use Rattle.run_made.specs.Lined.{aims_of_lines, code_at, codes_from, line_pushed, lines_pushed}
use Rattle.run_made.specs.Made.{behind_at, over_at}
use Rattle.run_made.proofs.Behind.{behind_seen, over_seen}

none_more : (n : ℕ) → n ≡ n + 0
none_more n = omega arith

-- one statement more, and its calls
pub calls_more : (u : Routine) (lines : List Line) (pc : ℕ) (line : Line) → slice_get lines pc ≡ Some line
    → calls_of_lines u (take (suc pc) lines) ≡ calls_of_lines u (take pc lines) + calls_of u line.stmt
calls_more u [] pc line e = absurd (cc)
calls_more u (l ∷ lines) zero line e = let same : l ≡ line = cc in only (calls_of u l.stmt) ∙ ap (λ (z : Line). 0 + calls_of u z.stmt) same
  where
    only : (n : ℕ) → n + 0 ≡ 0 + n
    only n = omega arith
calls_more u (l ∷ lines) (suc pc) line e =
    ap (λ n. calls_of u l.stmt + n) (calls_more u lines pc line e) ∙ joined (calls_of u l.stmt) (calls_of_lines u (take pc lines)) (calls_of u line.stmt)
  where
    joined : (a b c : ℕ) → a + (b + c) ≡ (a + b) + c
    joined a b c = omega arith

no_more : (n : ℕ) → 0 + n ≡ n
no_more n = omega arith

one_more : (m n : ℕ) → suc m + n ≡ suc (m + n)
one_more m n = omega arith

nothing_left : (xs : List ℕ) (n : ℕ) → xs ≡ [] → drop n xs ≡ xs
nothing_left xs zero e = refl
nothing_left [] (suc n) e = refl
nothing_left (x ∷ xs) (suc n) e = absurd (cc)

-- what is left out in two parts
dropped : (xs : List ℕ) (m n : ℕ) → drop (m + n) xs ≡ drop n (drop m xs)
dropped xs zero n = ap (λ k. drop k xs) (no_more n)
dropped [] (suc m) n = nothing_left [] (suc m + n) refl ∙ sym (nothing_left [] n refl)
dropped (x ∷ xs) (suc m) n = ap (λ k. drop k (x ∷ xs)) (one_more m n) ∙ dropped xs m n

module _ (law : StmtPushedIsCode) (u : Routine) (units : List Routine) (table : TestTable) (unit : UnitCode) (h : HasLines u units table unit) where
  abbrev pushed_at : ℕ → ℕ → ℕ → Line → List Instr
  pushed_at pc place k line = line_pushed u unit.slots.names table pc place k line

  abbrev rest_at : ℕ → ℕ → ℕ → List Line → List Instr
  rest_at pc place k lines = lines_pushed u unit.slots.names table pc place k lines

  -- the code of a statement
  meant : (pc place k : ℕ) (line : Line) (more : List ℕ) → slice_get u.lines pc ≡ Some line → drop place unit.targets ≡ aims u line.stmt ++ more → k ≡ calls_before u pc
      → map (seen_in unit) (pushed_at pc place k line) ≡ code.stmt_code u units line.card pc (calls_before u pc) line.stmt
  meant pc place k line more there aimed count =
      let behind = behind_at table line.card pc in
      let over = over_at u table pc line.stmt in
      ap (λ ts. map (seen unit.slots ts unit.calls unit.targets) (pushed_at pc place k line)) (sym h.tests)
      ∙ ap (λ n. map (seen unit.slots table.tests.items unit.calls unit.targets) (pushed_at pc place n line)) count
      ∙ law u units unit.slots table.tests.items unit.calls unit.targets behind over line.card pc place (calls_before u pc) line.stmt more h.slots
      (behind_seen u unit.slots table unit.calls unit.targets h.told line.card pc (slice_get_within u.lines pc line there)) aimed
      (h.here pc line (seen unit.slots table.tests.items unit.calls unit.targets over) there (over_seen u unit.slots table unit.calls unit.targets h.told pc line there))

  cut_out : (before is rest : List Instr) (start : ℕ) → unit.instrs ≡ before ++ (is ++ rest) → length before ≡ start → piece start (start + length is) unit.instrs ≡ is
  cut_out before is rest start whole long =
      let n : start + length is - start ≡ length is = omega arith in
      ap (λ m. take m (drop start unit.instrs)) n
      ∙ ap (take (length is)) ((λ i. drop (sym long i) (whole i)) ∙ drop-append_seam before (is ++ rest))
      ∙ take-append_seam is rest

  inside : (before is rest : List Instr) (start : ℕ) → unit.instrs ≡ before ++ (is ++ rest) → length before ≡ start → start + length is ≤ length unit.instrs
  inside before is rest start whole long =
      let n : length unit.instrs ≡ length before + (length is + length rest) = ap length whole ∙ length-append before (is ++ rest) ∙ ap (λ m. length before + m) (length-append is rest) in
      omega arith

  one : (pc place k start : ℕ) (line : Line) (l : LineCode) (before rest : List Instr) (more : List ℕ) → slice_get u.lines pc ≡ Some line
      → drop place unit.targets ≡ aims u line.stmt ++ more → k ≡ calls_before u pc → unit.instrs ≡ before ++ (pushed_at pc place k line ++ rest) → length before ≡ start
      → code_at line start (pushed_at pc place k line) ≡ l → IsLineOf u units pc line unit l
  one pc place k start line l before rest more there aimed count whole long same =
      let is = pushed_at pc place k line in
      subst (IsLineOf u units pc line unit) same
      (record {
        carded = refl;
        ordered = omega arith;
        within = inside before is rest start whole long;
        told = ap (map (seen_in unit)) (cut_out before is rest start whole long) ∙ meant pc place k line more there aimed count;
      })

  and_next : (pc j : ℕ) → suc pc + j ≡ pc + suc j
  and_next pc j = omega arith

  walk : (lines : List Line) (pc place k start : ℕ) (before : List Instr) (j : ℕ) (line : Line) (l : LineCode)
      → ((i : ℕ) → slice_get u.lines (pc + i) ≡ slice_get lines i) → drop place unit.targets ≡ aims_of_lines u lines → k ≡ calls_before u pc
      → unit.instrs ≡ before ++ rest_at pc place k lines → length before ≡ start → slice_get lines j ≡ Some line
      → slice_get (codes_from u unit.slots.names table pc place k start lines) j ≡ Some l → IsLineOf u units (pc + j) line unit l
  walk [] pc place k start before j line l at aimed count whole long e f = absurd (cc)
  walk (x ∷ lines) pc place k start before zero line l at aimed count whole long e f =
      let same : x ≡ line = cc in
      let first : slice_get u.lines pc ≡ Some x = ap (slice_get u.lines) (none_more pc) ∙ at 0 in
      let is = pushed_at pc place k x in
      let code : code_at x start is ≡ l = cc in
      subst (λ n. IsLineOf u units n line unit l) (none_more pc)
      (subst (λ (z : Line). IsLineOf u units pc z unit l) same
      (one pc place k start x l before (rest_at (suc pc) (place + length (aims u x.stmt)) (k + length (sites_of u x.stmt)) lines) (aims_of_lines u lines) first aimed count whole long code))
  walk (x ∷ lines) pc place k start before (suc j) line l at aimed count whole long e f =
      let is = pushed_at pc place k x in
      let first : slice_get u.lines pc ≡ Some x = ap (slice_get u.lines) (none_more pc) ∙ at 0 in
      subst (λ n. IsLineOf u units n line unit l) (and_next pc j)
      (walk lines (suc pc) (place + length (aims u x.stmt)) (k + length (sites_of u x.stmt)) (start + length is) (before ++ is) j line l
      (λ i. ap (slice_get u.lines) (and_next pc i) ∙ at (suc i))
      (later place (aims u x.stmt) (aims_of_lines u lines) aimed)
      ((λ i. count i + stmt_long u x.stmt i) ∙ sym (calls_more u u.lines pc x first))
      (whole ∙ sym (append_assoc before is (rest_at (suc pc) (place + length (aims u x.stmt)) (k + length (sites_of u x.stmt)) lines)))
      (length-append before is ∙ ap (λ n. n + length is) long) e f)
    where
      later : (place : ℕ) (xs ys : List ℕ) → drop place unit.targets ≡ xs ++ ys → drop (place + length xs) unit.targets ≡ ys
      later place xs ys e = dropped unit.targets place (length xs) ∙ ap (drop (length xs)) e ∙ drop-append_seam xs ys

  none_and : (n : ℕ) → 0 + n ≡ n
  none_and n = omega arith

  pub line_is : (pc : ℕ) (line : Line) (l : LineCode) → slice_get u.lines pc ≡ Some line → slice_get unit.lines pc ≡ Some l → IsLineOf u units pc line unit l
  line_is pc line l e f =
      subst (λ n. IsLineOf u units n line unit l) (none_and pc)
      (walk u.lines 0 0 0 0 [] pc line l (λ i. ap (slice_get u.lines) (none_and i)) h.targets refl h.instrs refl e (ap (λ ls. slice_get ls pc) (sym h.lines) ∙ f))

pub lines_are_code : StmtPushedIsCode → LinesAreCode
lines_are_code law u units table unit pc line l h e f = line_is law u units table unit h pc line l e f
