use Rattle.std.proofs.Common.{◌∙◌, ◌∷◌, ap, refl}
use Rattle.walk_names.specs.declared.names.Logged.TheVariants.{Was}
use Rattle.walk_names.proofs.NameTables.{set_there}
use Rattle.walk_names.proofs.names.Names.set.Goals as goal

pub returns-clause-set : goal.returns-clause-set
returns-clause-set c =
    let k = c.in_ok-place.place in
    let log = c.in_ok-push.ensures.ok ∙ ap (λ t. Was k t ∷ c.place.new.self.log) c.index-was.ensures in
    set_there _ _ c.args.self.now c.place.new.self _ c.args.name.now k c.args.id c.index-was.result.now c.place.ensures.grows c.requires.id c.in_ok-place.ensures.same c.in_ok-place.ensures.place refl refl log
