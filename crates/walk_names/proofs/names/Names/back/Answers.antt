use Rattle.std.proofs.Common.{◌∙◌, ◌∷◌, ap, refl}
use Rattle.walk_names.proofs.NameTables.{put_one_back}
use Rattle.walk_names.proofs.names.Names.back.Goals as goal

pub loop-entry-preserved : goal.loop-entry-preserved
loop-entry-preserved c =
    let log = c.pop.new.self in
    put_one_back c.args.self.now c.loop-entry.self _ c.in-Was.place c.in-Was.term log c.loop-entry.invariant (c.in-Some.ensures ∙ ap (λ x. x ∷ log) c.in-Was.is) refl c.put_back.ensures refl
