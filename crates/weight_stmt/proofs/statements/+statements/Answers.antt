use Rattle.weight_calls.specs.Subjects.{sight_of}
use Rattle.weight_terms.specs.Held.{held}
use Rattle.weight_tallies.specs.Tallies as tally
use Rattle.weight_stmt.specs.Parts.{call_part, decided_part}
use Rattle.weight_stmt.proofs.StmtViews.{call_path, load_by, logical_path, names_by}
use Rattle.weight_stmt.proofs.statements.+statements.Goals as goal

pub perform-returns-in-LogicalIf-clause-load : goal.perform-returns-in-LogicalIf-clause-load
perform-returns-in-LogicalIf-clause-load t c =
    let w = sight_of c.args.course.now.subject.now in
    let now = held c.args.names.now in
    let at = c.args.spot.now.at in
    let cs = c.args.spot.now.choices.now in
    load_by c.decided.result c.decided.new.load (decided_part w at now c.in-LogicalIf.condition c.get.result.now cs)
    (tally.performed w at now c.args.stmt.now cs) c.args.load.now
    (logical_path w now at c.args.stmt.now c.get.result.now c.in-LogicalIf.carried c.in-LogicalIf.condition cs c.in-LogicalIf.is c.get.ensures)
    c.decided.ensures.load

pub perform-returns-in-LogicalIf-clause-names : goal.perform-returns-in-LogicalIf-clause-names
perform-returns-in-LogicalIf-clause-names t c =
    let w = sight_of c.args.course.now.subject.now in
    let now = held c.args.names.now in
    let at = c.args.spot.now.at in
    let cs = c.args.spot.now.choices.now in
    names_by c.decided.result (held c.decided.new.names) (decided_part w at now c.in-LogicalIf.condition c.get.result.now cs)
    (tally.performed w at now c.args.stmt.now cs) c.args.load.now
    (logical_path w now at c.args.stmt.now c.get.result.now c.in-LogicalIf.carried c.in-LogicalIf.condition cs c.in-LogicalIf.is c.get.ensures)
    c.decided.ensures.names

pub perform-returns-in-Call-clause-load : goal.perform-returns-in-Call-clause-load
perform-returns-in-Call-clause-load t c =
    let w = sight_of c.args.course.now.subject.now in
    let now = held c.args.names.now in
    let at = c.args.spot.now.at in
    let cs = c.args.spot.now.choices.now in
    load_by c.called.result c.called.new.load (call_part w at now c.in-Call.name c.as_slice-args.result.now cs)
    (tally.performed w at now c.args.stmt.now cs) c.args.load.now
    (call_path w now at c.args.stmt.now c.in-Call.name c.in-Call.args c.as_slice-args.result.now cs c.in-Call.is c.as_slice-args.ensures) c.called.ensures.load

pub perform-returns-in-Call-clause-names : goal.perform-returns-in-Call-clause-names
perform-returns-in-Call-clause-names t c =
    let w = sight_of c.args.course.now.subject.now in
    let now = held c.args.names.now in
    let at = c.args.spot.now.at in
    let cs = c.args.spot.now.choices.now in
    names_by c.called.result (held c.called.new.names) (call_part w at now c.in-Call.name c.as_slice-args.result.now cs)
    (tally.performed w at now c.args.stmt.now cs) c.args.load.now
    (call_path w now at c.args.stmt.now c.in-Call.name c.in-Call.args c.as_slice-args.result.now cs c.in-Call.is c.as_slice-args.ensures) c.called.ensures.names
