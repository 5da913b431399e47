use Rattle.std.proofs.Common.{rules, arith, ◌≡◌, ◌∙◌, ap, sym}
use Rattle.fort_notes.specs.Parts.{parsed, parts_up_to, begins, is_closing, is_over, inside, rest_of}
use Rattle.note_parts.proofs.Rounds.{round_first, round_ends, round_step, round_fails, round_over}
use Rattle.note_parts.proofs.lists.to_end.Goals as goal

pub loop-left-init : goal.loop-left-init
loop-left-init g c = round_first is_over g.X.Part.part c.new-all.result.items c.args.text.now c.new-all.ensures.items

pub returns-then-is_over : goal.returns-then-is_over
returns-then-is_over g c =
    sym c.loop-left.invariant
    ∙ round_ends is_over g.X.Part.part c.loop-left.left c.loop-left.all.items c.loop-left.rest.now (omega arith) (search rules)
    ∙ ap (λ l. parsed l c.loop-left.rest.now) (sym c.from_vec.ensures)

pub returns-in_err-x : goal.returns-in_err-x
returns-in_err-x g c =
    let failed = round_fails is_over g.X.Part.part c.loop-left.left c.loop-left.all.items c.loop-left.rest.now _ c.in_err-x.field-0.0 (omega arith) (search rules) (search rules) c.loop-left.invariant in
    search rules

pub loop-left-preserved : goal.loop-left-preserved
loop-left-preserved g c =
    round_step is_over g.X.Part.part c.loop-left.left c.loop-left.all.items c.push.new.self.items c.loop-left.rest.now c.in_ok-x.behind.now c.in_ok-x.x _
    (omega arith) (search rules) (search rules) (search rules) c.loop-left.invariant

pub returns : goal.returns
returns g c = sym c.loop-left.invariant ∙ round_over is_over g.X.Part.part c.loop-left.left c.loop-left.all.items c.loop-left.rest.now (omega arith)
