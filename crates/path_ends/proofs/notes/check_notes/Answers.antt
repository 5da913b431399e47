use Rattle.std.proofs.Common.{◌≡◌, ◌∙◌, List, ap, length, refl, subst, sym}
use Rattle.formula.specs.Pool.{AllBelow}
use Rattle.formula.specs.declared.node.TermId.{TermId}
use Rattle.fort_model.specs.Events.{checks}
use Rattle.note_terms.specs.Stated.{trees_in}
use Rattle.path_ends.proofs.Checked.{went}
use Rattle.path_starts.proofs.Begun.{start_known}
use Rattle.path_starts.specs.Starts.{told_by}
use Rattle.walk_state.proofs.Parts.{grew}
use Rattle.walk_state.specs.declared.walk.Walk.{Walk}
use Rattle.path_ends.proofs.notes.check_notes.Goals as goal

pub note_terms-requires-clause-kept : goal.note_terms-requires-clause-kept
note_terms-requires-clause-kept c = c.requires.well.names

pub note_terms-requires-clause-entry : goal.note_terms-requires-clause-entry
note_terms-requires-clause-entry c = c.requires.terms.framed.below

pub note_terms-requires-clause-ids : goal.note_terms-requires-clause-ids
note_terms-requires-clause-ids c = c.requires.terms.inside

pub note_terms-requires-clause-known : goal.note_terms-requires-clause-known
note_terms-requires-clause-known c = start_known c.args.walk.now c.args.entry.now c.args.ids.now c.requires.terms

pub check_all-requires-clause-well : goal.check_all-requires-clause-well
check_all-requires-clause-well c = (grew c.args.walk.now _ c.requires.well c.in-Ok.ensures.grows refl refl refl).on.kept

pub check_all-requires-clause-goals : goal.check_all-requires-clause-goals
check_all-requires-clause-goals c = subst (λ (ids : List TermId). AllBelow (length c.note_terms.new.pool) ids) (sym c.deref.ensures.value) c.in-Ok.ensures.known

pub returns-clause-on : goal.returns-clause-on
returns-clause-on c =
    let w0 = c.args.walk.now in
    let entry = c.args.entry.now in
    let p1 = c.note_terms.new.pool in
    let w1 : Walk = record { pool = p1; names = w0.names; met = w0.met; calls = w0.calls; alloc = w0.alloc } in
    let ts = told_by w0 entry c.args.ids.now in
    let told : trees_in p1 c.in-Ok.goals.items ≡ ts = c.in-Ok.ensures.is in
    let all = went w0 w1 c.check_all.new.walk _ (checks c.args.kind c.args.card ts) c.requires.well c.in-Ok.ensures.grows refl refl refl c.check_all.ensures.on c.in-Ok-check_all.ensures.did
    (ap (checks c.args.kind c.args.card) (ap (trees_in p1) c.deref.ensures.value ∙ told)) in
    all.on

pub returns-clause-did : goal.returns-clause-did
returns-clause-did c =
    let w0 = c.args.walk.now in
    let entry = c.args.entry.now in
    let p1 = c.note_terms.new.pool in
    let w1 : Walk = record { pool = p1; names = w0.names; met = w0.met; calls = w0.calls; alloc = w0.alloc } in
    let ts = told_by w0 entry c.args.ids.now in
    let told : trees_in p1 c.in-Ok.goals.items ≡ ts = c.in-Ok.ensures.is in
    let all = went w0 w1 c.check_all.new.walk _ (checks c.args.kind c.args.card ts) c.requires.well c.in-Ok.ensures.grows refl refl refl c.check_all.ensures.on c.in-Ok-check_all.ensures.did
    (ap (checks c.args.kind c.args.card) (ap (trees_in p1) c.deref.ensures.value ∙ told)) in
    all.did
