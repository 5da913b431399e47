use Rattle.std.proofs.Common.{◌≡◌, suc, ◌+◌, refl, arith}
use Rattle.formula.specs.Pool.{tree_of}
use Rattle.formula.proofs.Grown.{AllBelow-Grows, IsIn-Grows}
use Rattle.note_terms.specs.Stated.{stated}
use Rattle.note_terms.proofs.Added.{below_at}
use Rattle.note_terms.proofs.NotesStated.{known_at}
use Rattle.walk_names.proofs.NameTables.{names_grow}
use Rattle.walk_state.specs.declared.walk.Walk.{Walk}
use Rattle.walk_state.specs.Moments.{moment}
use Rattle.walk_state.proofs.Parts.{follows_then, grew}
use Rattle.call_facts.proofs.Behind.{take_more, stated_later}
use Rattle.call_facts.proofs.notes.take_output.Goals as goal

pub note_term-requires-clause-kept : goal.note_term-requires-clause-kept
note_term-requires-clause-kept c = names_grow c.args.walk.now.pool c.loop-id.walk.pool c.args.frame.now c.loop-id.invariant.on.grows c.requires.frame

pub note_term-requires-clause-entry : goal.note_term-requires-clause-entry
note_term-requires-clause-entry c = AllBelow-Grows c.args.walk.now.pool c.loop-id.walk.pool c.args.entry.now c.loop-id.invariant.on.grows c.requires.entry

pub note_term-requires-clause-id : goal.note_term-requires-clause-id
note_term-requires-clause-id c =
    IsIn-Grows c.args.walk.now.pool c.loop-id.walk.pool _ c.loop-id.invariant.on.grows (below_at _ c.args.ids.now c.loop-id.id-index (record { place = 0 }) c.requires.ids c.loop-id-test.true)

pub note_term-requires-clause-known : goal.note_term-requires-clause-known
note_term-requires-clause-known c =
    known_at c.args.frame.now.table c.args.entry.now c.args.walk.now.pool c.loop-id.walk.pool c.args.ids.now c.loop-id.id-index (record { place = 0 }) c.loop-id.invariant.on.grows c.requires.ids c.loop-id-test.true c.requires.known

pub returns-in_default-clause-on : goal.returns-in_default-clause-on
returns-in_default-clause-on c =
    follows_then c.args.walk.now c.loop-id.walk _ c.loop-id.invariant.on (grew c.loop-id.walk _ c.loop-id.invariant.on.kept c.note_term.ensures.grows refl refl refl).on

pub take-requires-clause-well : goal.take-requires-clause-well
take-requires-clause-well c = (grew c.loop-id.walk _ c.loop-id.invariant.on.kept c.note_term.ensures.grows refl refl refl).on.kept

pub loop-id-preserved : goal.loop-id-preserved
loop-id-preserved c =
    let w0 = c.args.walk.now in
    let w1 = c.loop-id.walk in
    let w2 : Walk = record { pool = c.note_term.new.pool; names = w1.names; met = w1.met; calls = w1.calls; alloc = w1.alloc } in
    let w3 = c.take.new.self in
    let g = grew w1 w2 c.loop-id.invariant.on.kept c.note_term.ensures.grows refl refl refl in
    let k = c.loop-id.id-index in
    let next : k + 1 ≡ suc k = omega arith in
    let tree = stated_later w0.pool w1.pool w2.pool c.args.frame.now c.args.entry.now c.args.ids.now k (record { place = 0 }) c.in-Ok.fact c.loop-id.invariant.on.grows
    c.requires.frame c.requires.entry c.requires.ids c.loop-id-test.true c.in-Ok.ensures.tree in
    record {
      on = follows_then w0 w2 w3 (follows_then w0 w1 w2 c.loop-id.invariant.on g.on) c.take.ensures.on;
      is =
          take_more (stated w0.pool c.args.frame.now c.args.entry.now) (moment w0) (moment w1) (moment w2) (moment w3) w0.pool c.args.ids.now k (k + 1) (record { place = 0 })
          (tree_of w2.pool c.in-Ok.fact) c.loop-id.invariant.is g.same c.in_ok-take.ensures.met tree c.loop-id-test.true next;
    }
