use Rattle.std.proofs.Common.{Some, None, length, sym}
use Rattle.weight_path.specs.Noted.{own_notes}
use Rattle.weight_path.proofs.AssertFacts.{first_in, first_is}
use Rattle.weight_path.proofs.notes.assert_at.Goals as goal

pub returns-in_default-clause-tree : goal.returns-in_default-clause-tree
returns-in_default-clause-tree c =
    first_is c.args.subject.now.pool.now c.asserts-all.result.now (own_notes c.args.subject.now).asserts c.args.point None c.in_default.ensures c.asserts-all.ensures.asserts

pub returns-clause-tree : goal.returns-clause-tree
returns-clause-tree c =
    first_is c.args.subject.now.pool.now c.asserts-all.result.now (own_notes c.args.subject.now).asserts c.args.point (Some c.in-Some.assert.now) c.in-Some.ensures c.asserts-all.ensures.asserts

pub returns-clause-inside : goal.returns-clause-inside
returns-clause-inside c =
    first_in (length c.args.subject.now.pool.now) c.asserts-all.result.now c.args.point c.in-Some.assert.now c.asserts-all.ensures.inside (sym c.in-Some.ensures)
