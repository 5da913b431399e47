use Rattle.std.proofs.Common.{List, length, refl, subst, sym}
use Rattle.formula.specs.Pool.{AllBelow}
use Rattle.formula.specs.declared.node.TermId.{TermId}
use Rattle.path_starts.proofs.Begun.{start_known}
use Rattle.path_starts.proofs.Taken.{listed}
use Rattle.path_starts.specs.Starts.{told_by}
use Rattle.walk_state.proofs.Parts.{grew}
use Rattle.walk_state.specs.declared.walk.Walk.{Walk}
use Rattle.path_starts.proofs.notes.take_notes.Goals as goal

pub note_terms-requires-clause-kept : goal.note_terms-requires-clause-kept
note_terms-requires-clause-kept c = c.requires.well.names

pub note_terms-requires-clause-entry : goal.note_terms-requires-clause-entry
note_terms-requires-clause-entry c = c.requires.terms.framed.below

pub note_terms-requires-clause-ids : goal.note_terms-requires-clause-ids
note_terms-requires-clause-ids c = c.requires.terms.inside

pub note_terms-requires-clause-known : goal.note_terms-requires-clause-known
note_terms-requires-clause-known c = start_known c.args.walk.now c.args.entry.now c.args.ids.now c.requires.terms

pub take_all-requires-clause-well : goal.take_all-requires-clause-well
take_all-requires-clause-well c = (grew c.args.walk.now _ c.requires.well c.in-Ok.ensures.grows refl refl refl).on.kept

pub take_all-requires-clause-facts : goal.take_all-requires-clause-facts
take_all-requires-clause-facts c = subst (λ (ids : List TermId). AllBelow (length c.note_terms.new.pool) ids) (sym c.deref.ensures.value) c.in-Ok.ensures.known

pub returns-clause-on : goal.returns-clause-on
returns-clause-on c =
    let w0 = c.args.walk.now in
    let w1 : Walk = record { pool = c.note_terms.new.pool; names = w0.names; met = w0.met; calls = w0.calls; alloc = w0.alloc } in
    (listed w0 w1 c.take_all.new.walk c.in-Ok.facts.items c.deref.result.now (told_by w0 c.args.entry.now c.args.ids.now) c.requires.well c.in-Ok.ensures refl refl refl c.deref.ensures.value c.take_all.ensures.on
    c.in-Ok-take_all.ensures.did).on

pub returns-clause-did : goal.returns-clause-did
returns-clause-did c =
    let w0 = c.args.walk.now in
    let w1 : Walk = record { pool = c.note_terms.new.pool; names = w0.names; met = w0.met; calls = w0.calls; alloc = w0.alloc } in
    (listed w0 w1 c.take_all.new.walk c.in-Ok.facts.items c.deref.result.now (told_by w0 c.args.entry.now c.args.ids.now) c.requires.well c.in-Ok.ensures refl refl refl c.deref.ensures.value c.take_all.ensures.on
    c.in-Ok-take_all.ensures.did).did
