use Rattle.std.proofs.Common.{rules, ◌≡◌, ◌∙◌, ◌-◌, suc, ap, arith}
use Rattle.std.specs.Prelude.{◌&&◌, ◌||◌, nat_eq}
use Rattle.fort_syntax.specs.declared.deck.Placed.{Placed}
use Rattle.fort_notes.specs.Judging as judging
use Rattle.fort_notes.specs.Judging.{begins_with}
use Rattle.note_places.specs.Places.{is_known}
use Rattle.note_places.proofs.Sets.{units_step}
use Rattle.note_places.proofs.unit_set.UnitSet.of_outputs.Goals as goal

pub loop-left-preserved : goal.loop-left-preserved
loop-left-preserved c =
    let within = c.loop-left.invariant.within in
    let next : c.loop-left.left ≡ suc (c.loop-left.left - 1) = omega arith in
    let wanted : c.begins_with_output-wanted.result ≡ begins_with judging.Output c.index-notes-left.result = search rules in
    record {
      within = omega arith;
      told = units_step judging.Output c.args.notes.now c.loop-left.set c.add_where.new.self (c.loop-left.left - 1) c.loop-left.left c.index-notes-left.result next within c.loop-left.invariant.told
          (λ k. c.in_ok-add_where.ensures k ∙ ap (λ b. (nat_eq k c.index-notes-left.result.unit && b) || is_known k c.loop-left.set) wanted
          ∙ ap (λ (d : Placed). (nat_eq k d.unit && begins_with judging.Output d) || is_known k c.loop-left.set) c.index-notes-left.is);
    }
