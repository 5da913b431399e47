use Rattle.std.specs.Prelude.{◌≡◌, ℕ, suc, ◌+◌, ◌-◌, ◌*◌, ◌/◌, length}
use mathlib.Core.Path.{refl}
use native.Mathlib.Omega.{arith}
use Rattle.edge_io.specs.Hashing.{grouped, write}
use Rattle.edge_io.proofs.hashing.KeyedHasherHasher.write.Goals as goal

pub loop-at-init : goal.loop-at-init
unfolding grouped
loop-at-init c = (refl, omega arith, refl)

pub loop-at-preserved : goal.loop-at-preserved
unfolding grouped
loop-at-preserved c =
    let at : ℕ = c.loop-at.at in
    let whole : at ≡ 8 * (at / 8) = omega (arith, c.loop-at.invariant.0) in
    let more : (at + 8) / 8 ≡ suc (at / 8) = omega arith in (
      omega arith,
      omega arith,
      rw (more, c.folded-state.ensures, c.eight_bytes.ensures, ← c.loop-at.invariant.2, ← whole),
    )

pub returns : goal.returns
unfolding write
returns c =
    let n : ℕ = length c.args.bytes.now in
    let count : (n - 1) / 8 ≡ c.loop-at.at / 8 = omega (arith, c.loop-at.invariant.0, c.loop-at.invariant.1, c.loop-at-test.false) in
    let whole : 8 * (c.loop-at.at / 8) ≡ c.loop-at.at = omega (arith, c.loop-at.invariant.0) in
    rw (count, whole, ← c.loop-at.invariant.2, c.folded-self.ensures, c.last_bytes.ensures)
