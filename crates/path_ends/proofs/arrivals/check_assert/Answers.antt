use Rattle.std.proofs.Common.{◌≡◌, ◌++◌, ◌∙◌, List, ap, subst, sym}
use Rattle.formula.specs.declared.node.TermId.{TermId}
use Rattle.fort_model.specs.Events.{checks}
use Rattle.fort_syntax.specs.declared.condition.Kind.TheVariants.{AssertCheck}
use Rattle.path_ends.proofs.Checked.{clock_grows, clock_in_grows, met_same, then_met}
use Rattle.path_ends.specs.Ends.{clock_checks}
use Rattle.path_starts.proofs.Begun.{start_follows, told_follows}
use Rattle.path_starts.specs.Starts.{IsStartOf, told_by}
use Rattle.walk_state.proofs.Parts.{follows_then}
use Rattle.walk_state.specs.Moments.{Moment, moment}
use Rattle.path_ends.proofs.arrivals.check_assert.Goals as goal

pub check_notes-requires-clause-terms : goal.check_notes-requires-clause-terms
check_notes-requires-clause-terms c = subst (λ (ids : List TermId). IsStartOf c.args.walk.now c.args.entry.now ids) (sym c.as_slice-terms.ensures) c.requires.terms

pub check_clock-requires-clause-terms : goal.check_clock-requires-clause-terms
check_clock-requires-clause-terms c =
    subst (λ (ids : List TermId). IsStartOf c.check_notes.new.walk c.args.entry.now ids) (sym c.as_slice-parts.ensures)
    (start_follows c.args.walk.now c.check_notes.new.walk c.args.entry.now c.args.assert.now.clock c.in-Ok.ensures.on c.requires.parts)

pub check_clock-requires-clause-clock : goal.check_clock-requires-clause-clock
check_clock-requires-clause-clock c = clock_in_grows c.args.walk.now.pool c.check_notes.new.walk.pool c.args.clock.now c.in-Ok.ensures.on.grows c.requires.clock

pub returns-clause-on : goal.returns-clause-on
returns-clause-on c = follows_then c.args.walk.now c.check_notes.new.walk c.check_clock.new.walk c.in-Ok.ensures.on c.in-Ok-check_clock.ensures.on

pub returns-clause-did : goal.returns-clause-did
returns-clause-did c =
    let w0 = c.args.walk.now in
    let w1 = c.check_notes.new.walk in
    let entry = c.args.entry.now in
    let a = c.args.assert.now in
    let g = c.in-Ok.ensures.on.grows in
    let one = met_same (moment w0) (moment w1) _ (checks AssertCheck a.card (told_by w0 entry a.terms)) c.in-Ok.ensures.did (λ i. checks AssertCheck a.card (told_by w0 entry (c.as_slice-terms.ensures i))) in
    let parts : told_by w1 entry c.as_slice-parts.result.now ≡ told_by w0 entry a.clock = ap (told_by w1 entry) c.as_slice-parts.ensures ∙ told_follows w0 w1 entry a.clock c.in-Ok.ensures.on (ap (λ (m : Moment). m.now) one.is) c.requires.parts in
    then_met (moment w0) (moment w1) (moment c.check_clock.new.walk) _ _ _ one c.in-Ok-check_clock.ensures.did
    (λ i. checks AssertCheck a.card (told_by w0 entry a.terms) ++ clock_checks a.card (sym (clock_grows w0.pool w1.pool c.args.clock.now g c.requires.clock) i) (sym parts i))
