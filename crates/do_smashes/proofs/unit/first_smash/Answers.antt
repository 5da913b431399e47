use Rattle.std.proofs.Common.{ap, ◌∙◌, arith}
use Rattle.fort_syntax.specs.declared.rule.Rule.TheVariants.{DoSmashed}
use Rattle.fort_syntax.specs.declared.unit.Line.{Line}
use Rattle.fort_model.specs.Ranges.{do_of}
use Rattle.fort_model.specs.Rules.{breaks_do}
use Rattle.do_smashes.specs.Guards.{kept_by, kept_to}
use Rattle.do_smashes.specs.Hits.{unit_of, program_of}
use Rattle.do_smashes.proofs.Clearing.{clear_behind_forgotten}
use Rattle.do_smashes.proofs.Keeping.{kept_read}
use Rattle.do_smashes.proofs.Passing.{line_read}
use Rattle.do_smashes.proofs.unit.first_smash.Goals as goal

pub loop-at-preserved : goal.loop-at-preserved
loop-at-preserved c =
    let u = unit_of c.args.caller.now in
    record {
      kept = kept_read u c.loop-at.at c.as_slice-lines.result.now c.index-lines-at.result c.loop-at.guards c.keep_do.new.guards
          c.as_slice-lines.ensures (omega arith) c.loop-at.invariant.kept
          (λ x. c.in-Ok-keep_do.ensures x ∙ ap (λ (l : Line). kept_by (do_of u c.loop-at.at l.stmt) x (kept_to c.loop-at.guards x)) c.index-lines-at.is);
      clear = clear_behind_forgotten (program_of c.args.caller.now) u c.index-lines-at.result.stmt c.loop-at.guards c.keep_do.new.guards c.loop-at.at c.breaks_do.new.clear c.forget.new.clear
          c.in-Ok.ensures.clear c.in-Ok-keep_do.ensures c.forget.ensures;
      so_far = line_read DoSmashed (breaks_do (program_of c.args.caller.now) u) c.loop-at.at c.as_slice-lines.result.now u.lines c.index-lines-at.result c.in-Ok.broken _
          c.as_slice-lines.ensures (omega arith) (c.in-Ok.ensures.broken ∙ ap (λ (l : Line). breaks_do (program_of c.args.caller.now) u c.loop-at.at l.stmt) c.index-lines-at.is) c.loop-at.invariant.so_far c.if-broken.false;
    }
