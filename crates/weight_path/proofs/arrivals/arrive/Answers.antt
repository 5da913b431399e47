use Rattle.std.proofs.Common.{◌∙◌, ◌≡◌, ◌≤◌, ◌<◌, List, length, sym, ap, arith}
use Rattle.fort_notes.specs.Assertions.{assertion_tree}
use Rattle.fort_syntax.specs.declared.unit.Line.{Line}
use Rattle.fort_model.specs.Paths.{AtAssert, NoCut, cut_at, cut_of}
use Rattle.fort_model.specs.Program.{assertion_at}
use Rattle.weight_caps.specs.Loads.{with_tests}
use Rattle.weight_calls.specs.Subjects.{sight_of}
use Rattle.weight_terms.specs.Held.{held}
use Rattle.weight_tallies.specs.Tallies as tally
use Rattle.weight_path.specs.Noted.{own_notes}
use Rattle.weight_path.proofs.Parts.{cut_beyond, cut_within}
use Rattle.weight_path.proofs.arrivals.arrive.Goals as goal

pub returns-in_default-assert_at : goal.returns-in_default-assert_at
returns-in_default-assert_at c =
    let s = c.args.subject.now in
    let w = sight_of s in
    let lines = s.book.now.unit.now.lines in
    let long : length c.as_slice-lines.result.now ≡ length lines = ap (λ (xs : List Line). length xs) c.as_slice-lines.ensures in
    let inside : c.args.end < length lines = omega arith in
    let cut : NoCut ≡ cut_at s.book.now.unit.now (own_notes s) c.args.end = ap cut_of c.in_default-assert_at.ensures.tree ∙ sym (cut_within lines c.args.end (assertion_at (own_notes s) c.args.end) inside) in
    λ i. (tally.arrive w c.args.clock (cut i) (held c.args.names.now) c.args.load.now).load

pub returns : goal.returns
returns c =
    let s = c.args.subject.now in
    let w = sight_of s in
    let lines = s.book.now.unit.now.lines in
    let long : length c.as_slice-lines.result.now ≡ length lines = ap (λ (xs : List Line). length xs) c.as_slice-lines.ensures in
    let inside : c.args.end < length lines = omega arith in
    let cut : AtAssert (assertion_tree s.pool.now c.in-Some.assert.now) ≡ cut_at s.book.now.unit.now (own_notes s) c.args.end =
    ap cut_of c.in-Some.ensures.tree ∙ sym (cut_within lines c.args.end (assertion_at (own_notes s) c.args.end) inside) in
    c.in-Ok-arrive_at_assert.ensures ∙ (λ i. (tally.arrive w c.args.clock (cut i) (held c.args.names.now) c.args.load.now).load)

pub returns-then-end-lines : goal.returns-then-end-lines
returns-then-end-lines c =
    let s = c.args.subject.now in
    let w = sight_of s in
    let lines = s.book.now.unit.now.lines in
    let long : length c.as_slice-lines.result.now ≡ length lines = ap (λ (xs : List Line). length xs) c.as_slice-lines.ensures in
    let past : length lines ≤ c.args.end = omega arith in
    c.in-Ok.ensures
    ∙ ((λ i. with_tests c.args.load.now (tally.told w (held c.args.names.now) (c.output-output.ensures.terms i)))
    ∙ (λ i. (tally.arrive w c.args.clock (sym (cut_beyond lines c.args.end (assertion_at (own_notes s) c.args.end) past) i) (held c.args.names.now) c.args.load.now).load))
