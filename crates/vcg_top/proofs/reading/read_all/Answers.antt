use Rattle.std.proofs.Common.{◌≡◌, ◌≤◌, ◌<◌, ◌++◌, ◌∙◌, ap, append-nil, length, arith, subst, take}
use Rattle.std.proofs.lemmas.Grind.{common_steps}
use Rattle.std.proofs.KnownBytes.{Consumes-trans}
use Rattle.std.specs.Io.KnownBytes.{Consumes}
use Rattle.vcg_top.specs.Commands.{most_read}
use Rattle.vcg_top.proofs.Taken.{Consumes-front, Consumes-end}
use Rattle.vcg_top.proofs.reading.read_all.Goals as goal

pub returns-then-count-eq0-clause-told : goal.returns-then-count-eq0-clause-told
returns-then-count-eq0-clause-told g c bytes told =
    let items = c.loop-buffer.bytes.items in
    let short : length items ≤ most_read = omega arith in
    let room : 0 < length c.read.new.buf = grind (arith, common_steps) in
    let none : items ++ take c.in-Ok.count c.read.new.buf ≡ items = ap (λ n. items ++ take n c.read.new.buf) c.if-count-eq0.true ∙ append-nil items in
    let taken = Consumes-trans _ _ _ items _ c.loop-buffer.invariant.taken c.in-Ok.ensures.bytes.0 in
    Consumes-end most_read _ _ bytes items told short (subst (Consumes _ _) none taken) (c.in-Ok.ensures.bytes.1 c.if-count-eq0.true room)

pub returns-clause-told : goal.returns-clause-told
returns-clause-told g c bytes told =
    let full : length c.loop-buffer.bytes.items ≡ most_read = omega arith in
    Consumes-front most_read _ _ bytes c.loop-buffer.bytes.items told full c.loop-buffer.invariant.taken
