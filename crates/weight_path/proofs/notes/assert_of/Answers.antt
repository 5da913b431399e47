use Rattle.std.proofs.Common.{Some, None, length, sym}
use Rattle.weight_path.specs.Noted.{own_notes}
use Rattle.weight_path.proofs.AssertFacts.{nth_in, nth_is}
use Rattle.weight_path.proofs.notes.assert_of.Goals as goal

pub returns-in_default-clause-tree : goal.returns-in_default-clause-tree
returns-in_default-clause-tree c =
    nth_is c.args.subject.now.pool.now c.asserts-all.result.now (own_notes c.args.subject.now).asserts c.args.number None c.in_default.ensures c.asserts-all.ensures.asserts

pub returns-clause-tree : goal.returns-clause-tree
returns-clause-tree c =
    nth_is c.args.subject.now.pool.now c.asserts-all.result.now (own_notes c.args.subject.now).asserts c.args.number (Some c.in-Some.assert.now) c.in-Some.ensures c.asserts-all.ensures.asserts

pub returns-clause-inside : goal.returns-clause-inside
returns-clause-inside c =
    nth_in (length c.args.subject.now.pool.now) c.asserts-all.result.now c.args.number c.in-Some.assert.now c.asserts-all.ensures.inside (sym c.in-Some.ensures)
