use Rattle.walk_setting.proofs.Units.{drop_there}
use Rattle.walk_setting.proofs.setting.Setting.new.Goals as goal

pub invariant_of-result : goal.invariant_of-result
invariant_of-result c =
    record { numbers_are = c.requires.numbers; unit_is = drop_there c.args.scene.now.books.now.units.now c.args.number c.book.result.now.unit.now c.book.ensures }
