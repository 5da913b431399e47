use Rattle.std.proofs.Common.{ap, ◌∙◌}
use Rattle.reply_lines.specs.Lines.{made_line}
use Rattle.vcg_top.specs.Answers.{count_of_marked}
use Rattle.vcg_top.proofs.replies.tell_made.Goals as goal

pub returns-clause-done : goal.returns-clause-done
returns-clause-done g c is = (
  c.as_slice-2.result.now,
  record {
    marks = c.in-Ok.marks;
    given = c.in-Ok.ensures.marks;
    is = c.as_slice-2.ensures ∙ c.in-Ok-made_line.ensures ∙ (λ i. made_line c.args.number (c.sizes.ensures i) ((c.count_of_marked-marked.ensures ∙ ap count_of_marked c.as_slice.ensures) i));
  },
  c.write_text.ensures.done is,
)

pub returns-clause-part : goal.returns-clause-part
returns-clause-part g c is = (
  c.as_slice-2.result.now,
  record {
    marks = c.in-Ok.marks;
    given = c.in-Ok.ensures.marks;
    is = c.as_slice-2.ensures ∙ c.in-Ok-made_line.ensures ∙ (λ i. made_line c.args.number (c.sizes.ensures i) ((c.count_of_marked-marked.ensures ∙ ap count_of_marked c.as_slice.ensures) i));
  },
  c.write_text.ensures.part is,
)
