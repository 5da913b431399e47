use Rattle.std.proofs.Common.{◌≡◌, ◌++◌, ◌∙◌, List, ap, length, map, refl, subst, sym}
use Rattle.formula.specs.Pool.{AllBelow}
use Rattle.formula.specs.declared.node.TermId.{TermId}
use Rattle.formula.proofs.Grown.{AllBelow-Grows, Grows-trans}
use Rattle.fort_model.specs.Events.{checks}
use Rattle.fort_syntax.specs.declared.condition.Kind.TheVariants.{ClockCheck}
use Rattle.note_terms.proofs.Added.{trees_grow}
use Rattle.note_terms.specs.Stated.{at_least_0, trees_in}
use Rattle.path_ends.proofs.Checked.{clock_grows, clock_in_grows, then_met, went}
use Rattle.path_ends.specs.Ends.{fall_in}
use Rattle.path_starts.proofs.Begun.{start_known}
use Rattle.path_starts.specs.Starts.{told_by}
use Rattle.walk_state.proofs.Parts.{follows_then, grew}
use Rattle.walk_state.specs.declared.walk.Walk.{Walk}
use Rattle.walk_state.specs.Moments.{moment}
use Rattle.path_ends.proofs.notes.check_clock.Goals as goal

pub note_terms-requires-clause-kept : goal.note_terms-requires-clause-kept
note_terms-requires-clause-kept c = c.requires.well.names

pub note_terms-requires-clause-entry : goal.note_terms-requires-clause-entry
note_terms-requires-clause-entry c = c.requires.terms.framed.below

pub note_terms-requires-clause-ids : goal.note_terms-requires-clause-ids
note_terms-requires-clause-ids c = c.requires.terms.inside

pub note_terms-requires-clause-known : goal.note_terms-requires-clause-known
note_terms-requires-clause-known c = start_known c.args.walk.now c.args.entry.now c.args.ids.now c.requires.terms

pub at_least_zero-requires : goal.at_least_zero-requires
at_least_zero-requires c = subst (λ (ids : List TermId). AllBelow (length c.note_terms.new.pool) ids) (sym c.deref.ensures.value) c.in-Ok.ensures.known

pub check_all-requires-clause-well : goal.check_all-requires-clause-well
check_all-requires-clause-well c = (grew c.args.walk.now _ c.requires.well (Grows-trans _ _ _ c.in-Ok.ensures.grows c.in-Ok-at_least_zero.ensures.grows) refl refl refl).on.kept

pub check_all-requires-clause-goals : goal.check_all-requires-clause-goals
check_all-requires-clause-goals c = subst (λ (ids : List TermId). AllBelow (length c.at_least_zero.new.pool) ids) (sym c.deref-2.ensures.value) c.in-Ok-at_least_zero.ensures.known

pub check_fall-requires-clause-clock : goal.check_fall-requires-clause-clock
check_fall-requires-clause-clock c =
    clock_in_grows c.args.walk.now.pool c.check_all.new.walk.pool c.args.clock.now
    (Grows-trans _ _ _ c.in-Ok.ensures.grows (Grows-trans _ _ _ c.in-Ok-at_least_zero.ensures.grows c.check_all.ensures.on.grows)) c.requires.clock

pub check_fall-requires-clause-new : goal.check_fall-requires-clause-new
check_fall-requires-clause-new c =
    subst (λ (ids : List TermId). AllBelow (length c.check_all.new.walk.pool) ids) (sym c.deref-3.ensures.value)
    (AllBelow-Grows c.note_terms.new.pool c.check_all.new.walk.pool c.in-Ok.parts.items (Grows-trans _ _ _ c.in-Ok-at_least_zero.ensures.grows c.check_all.ensures.on.grows) c.in-Ok.ensures.known)

pub returns-clause-on : goal.returns-clause-on
returns-clause-on c =
    let w0 = c.args.walk.now in
    let entry = c.args.entry.now in
    let p1 = c.note_terms.new.pool in
    let p2 = c.at_least_zero.new.pool in
    let w2 : Walk = record { pool = p2; names = w0.names; met = w0.met; calls = w0.calls; alloc = w0.alloc } in
    let w3 = c.check_all.new.walk in
    let w4 = c.check_fall.new.walk in
    let ts = told_by w0 entry c.args.ids.now in
    let told : trees_in p1 c.in-Ok.parts.items ≡ ts = c.in-Ok.ensures.is in
    let second = c.in-Ok-at_least_zero.ensures in
    let g2 = Grows-trans w0.pool p1 p2 c.in-Ok.ensures.grows second.grows in
    let one = went w0 w2 w3 _ (checks ClockCheck c.args.card (map at_least_0 ts)) c.requires.well g2 refl refl refl c.check_all.ensures.on c.in-Ok-check_all.ensures.did
    (ap (checks ClockCheck c.args.card) (ap (trees_in p2) c.deref-2.ensures.value ∙ (second.is ∙ ap (map at_least_0) (ap (trees_in p1) c.deref.ensures.value ∙ told)))) in
    follows_then w0 w3 w4 one.on c.in-Ok-check_fall.ensures.on

pub returns-clause-did : goal.returns-clause-did
returns-clause-did c =
    let w0 = c.args.walk.now in
    let entry = c.args.entry.now in
    let p1 = c.note_terms.new.pool in
    let p2 = c.at_least_zero.new.pool in
    let w2 : Walk = record { pool = p2; names = w0.names; met = w0.met; calls = w0.calls; alloc = w0.alloc } in
    let w3 = c.check_all.new.walk in
    let w4 = c.check_fall.new.walk in
    let ts = told_by w0 entry c.args.ids.now in
    let told : trees_in p1 c.in-Ok.parts.items ≡ ts = c.in-Ok.ensures.is in
    let second = c.in-Ok-at_least_zero.ensures in
    let g2 = Grows-trans w0.pool p1 p2 c.in-Ok.ensures.grows second.grows in
    let one = went w0 w2 w3 _ (checks ClockCheck c.args.card (map at_least_0 ts)) c.requires.well g2 refl refl refl c.check_all.ensures.on c.in-Ok-check_all.ensures.did
    (ap (checks ClockCheck c.args.card) (ap (trees_in p2) c.deref-2.ensures.value ∙ (second.is ∙ ap (map at_least_0) (ap (trees_in p1) c.deref.ensures.value ∙ told)))) in
    let parts : trees_in w3.pool c.deref-3.result.now ≡ ts =
    ap (trees_in w3.pool) c.deref-3.ensures.value
    ∙ (trees_grow p1 w3.pool c.in-Ok.parts.items (Grows-trans _ _ _ second.grows c.check_all.ensures.on.grows) c.in-Ok.ensures.known ∙ told) in
    then_met (moment w0) (moment w3) (moment w4) _ _ _ one.did c.in-Ok-check_fall.ensures.did
    (λ i. checks ClockCheck c.args.card (map at_least_0 ts)
    ++ fall_in c.args.card (sym (clock_grows w0.pool w3.pool c.args.clock.now (Grows-trans _ _ _ g2 c.check_all.ensures.on.grows) c.requires.clock) i) (sym parts i))
