use Rattle.std.proofs.Common.{rules, ◌≡◌, ◌∙◌, ◌+◌, ◌<◌, suc, true, false, length, sym, arith}
use Rattle.fort_notes.specs.Judging.{lacks_note}
use Rattle.note_places.proofs.Lacking.{lacks_by, lacking_here, lacking_on}
use Rattle.note_places.proofs.missing.lacking.Goals as goal

pub returns-then-lacks : goal.returns-then-lacks
returns-then-lacks c =
    let i = c.loop-i.i in
    let lt : i < length c.args.units.now = search rules in
    let next : i + 1 ≡ suc i = omega arith in
    let yes : c.lacks.result ≡ true = search rules in
    let here : lacks_note c.args.notes.now (suc i) ≡ true = lacks_by c.args.notes.now _ _ i (i + 1) c.lacks.result next c.in_ok-inputs.ensures c.in_ok-outputs.ensures c.lacks.ensures ∙ yes in
    lacking_here c.args.notes.now c.args.units.now i _ _ lt here c.loop-i.invariant

pub loop-i-preserved : goal.loop-i-preserved
loop-i-preserved c =
    let i = c.loop-i.i in
    let lt : i < length c.args.units.now = search rules in
    let next : i + 1 ≡ suc i = omega arith in
    let no : c.lacks.result ≡ false = search rules in
    let here : lacks_note c.args.notes.now (suc i) ≡ false = lacks_by c.args.notes.now _ _ i (i + 1) c.lacks.result next c.in_ok-inputs.ensures c.in_ok-outputs.ensures c.lacks.ensures ∙ no in
    lacking_on c.args.notes.now c.args.units.now i _ lt here c.loop-i.invariant
