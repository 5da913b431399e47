use Rattle.std.proofs.Common.{◌≡◌, ◌-◌, ◌∙◌, ap, suc, arith}
use Rattle.fort_syntax.specs.declared.unit.DataName.{DataName}
use Rattle.note_names.proofs.RoleTables.{roles_step}
use Rattle.note_names.proofs.roles.Roles.of_names.Goals as goal

pub loop-left-preserved : goal.loop-left-preserved
loop-left-preserved c =
    let within = c.loop-left.invariant.within in
    let next : c.loop-left.left ≡ suc (c.loop-left.left - 1) = omega arith in
    record {
      within = omega arith;
      told = roles_step c.args.names.now c.loop-left.roles c.put.new.self (c.loop-left.left - 1) c.loop-left.left c.index-names-left.result _ _ next within
          (c.word_of.ensures ∙ ap (λ (d : DataName). d.name) c.index-names-left.is) (ap (λ (d : DataName). d.role) c.index-names-left.is) c.loop-left.invariant.told c.in_ok-put.ensures;
    }
