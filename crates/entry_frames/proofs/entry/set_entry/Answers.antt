use Rattle.entry_frames.proofs.Entered.{one_set}
use Rattle.entry_frames.specs.Entries.{value_of}
use Rattle.walk_names.proofs.NameTables.{names_grow}
use Rattle.entry_frames.proofs.entry.set_entry.Goals as goal

pub know-requires : goal.know-requires
know-requires c = names_grow _ _ _ c.value_of.ensures.grows c.requires.kept

pub returns : goal.returns
returns c =
    one_set c.args.pool.now c.value_of.new.pool c.know.new.pool c.set.new.pool c.args.names.now c.know.new.self c.set.new.self c.args.entity.now.name c.in-Ok.value (value_of c.args.entity.now)
    c.requires.kept c.value_of.ensures.grows c.in-Ok.ensures.is_in c.in-Ok.ensures.tree c.know.ensures.grows c.know.ensures.same c.in-Ok-know.ensures.known c.set.ensures.grows c.in-Ok-set.ensures.set
