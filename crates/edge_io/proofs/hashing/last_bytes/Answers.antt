use Rattle.std.specs.Prelude.{◌-◌, length}
use borrow.Author.Tests.{le-leb, lt-leb, lt-ltb, le-ltb}
use Rattle.edge_io.specs.Hashing.{last_bytes}
use Rattle.edge_io.proofs.hashing.last_bytes.Goals as goal

pub returns-then-rest-ge4 : goal.returns-then-rest-ge4
unfolding last_bytes
returns-then-rest-ge4 c = rw (c.four_bytes.ensures, c.four_bytes-then-rest-ge4.ensures, le-leb 4 (length c.args.bytes.now - c.args.at) c.if-rest-ge4.true)

pub returns-then-rest-gt0 : goal.returns-then-rest-gt0
unfolding last_bytes
returns-then-rest-gt0 c = rw (lt-leb 4 (length c.args.bytes.now - c.args.at) c.if-rest-ge4.false, lt-ltb 0 (length c.args.bytes.now - c.args.at) c.if-rest-gt0.true)

pub returns-else-rest-gt0 : goal.returns-else-rest-gt0
unfolding last_bytes
returns-else-rest-gt0 c = rw (lt-leb 4 (length c.args.bytes.now - c.args.at) c.if-rest-ge4.false, le-ltb 0 (length c.args.bytes.now - c.args.at) c.if-rest-gt0.false)
