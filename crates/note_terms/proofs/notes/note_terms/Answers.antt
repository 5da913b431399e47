use Rattle.std.proofs.Common.{◌≡◌, suc, ◌+◌, arith}
use Rattle.formula.proofs.Grown.{AllBelow-Grows, IsIn-Grows}
use Rattle.walk_names.proofs.NameTables.{names_grow}
use Rattle.note_terms.proofs.Added.{below_at}
use Rattle.note_terms.proofs.NotesStated.{known_at, notes_more}
use Rattle.note_terms.proofs.notes.note_terms.Goals as goal

pub note_term-requires-clause-kept : goal.note_term-requires-clause-kept
note_term-requires-clause-kept c = names_grow c.args.pool.now c.loop-id.pool c.args.names.now c.loop-id.invariant.grows c.requires.kept

pub note_term-requires-clause-entry : goal.note_term-requires-clause-entry
note_term-requires-clause-entry c = AllBelow-Grows c.args.pool.now c.loop-id.pool c.args.entry.now c.loop-id.invariant.grows c.requires.entry

pub note_term-requires-clause-id : goal.note_term-requires-clause-id
note_term-requires-clause-id c =
    IsIn-Grows c.args.pool.now c.loop-id.pool _ c.loop-id.invariant.grows (below_at _ c.args.ids.now c.loop-id.id-index (record { place = 0 }) c.requires.ids c.loop-id-test.true)

pub note_term-requires-clause-known : goal.note_term-requires-clause-known
note_term-requires-clause-known c =
    known_at c.args.names.now.table c.args.entry.now c.args.pool.now c.loop-id.pool c.args.ids.now c.loop-id.id-index (record { place = 0 }) c.loop-id.invariant.grows c.requires.ids c.loop-id-test.true c.requires.known

pub loop-id-preserved : goal.loop-id-preserved
loop-id-preserved c =
    let k = c.loop-id.id-index in
    let next : k + 1 ≡ suc k = omega arith in
    notes_more c.args.pool.now c.loop-id.pool c.note_term.new.pool c.args.names.now c.args.entry.now c.args.ids.now _ _ k (k + 1) (record { place = 0 }) c.in_ok-term.term
    c.requires.kept c.requires.entry c.requires.ids c.loop-id-test.true next c.loop-id.invariant c.note_term.ensures.grows c.in_ok-term.ensures.is_in c.in_ok-term.ensures.tree c.in_ok-push.ensures.items
