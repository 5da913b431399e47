use Rattle.std.proofs.Common.{◌∙◌}
use Rattle.try_lines.proofs.Firsts.{entry_there, within_there}
use Rattle.try_lines.proofs.lemmas.Places.place.Goals as goal

pub returns-clause-within : goal.returns-clause-within
returns-clause-within c = within_there c.args.name.now c.args.conditions.now c.told.result (c.told.ensures ∙ c.requires c.args.name.now)

pub returns-clause-entry : goal.returns-clause-entry
returns-clause-entry c = entry_there c.args.name.now c.args.conditions.now c.told.result (c.told.ensures ∙ c.requires c.args.name.now)
