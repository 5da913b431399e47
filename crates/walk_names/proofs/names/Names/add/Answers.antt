use Rattle.std.proofs.Common.{◌∙◌, ap, refl, take}
use Rattle.walk_names.proofs.NameTables.{cut_back, put_new, same_added, same_grows, same_parts}
use Rattle.walk_names.proofs.names.Names.add.Goals as goal

pub returns-in_err-symbol-clause-same : goal.returns-in_err-symbol-clause-same
returns-in_err-symbol-clause-same c = same_grows _ _ _ c.entry_symbol.ensures.grows c.requires.kept

pub returns-in_default-clause-same : goal.returns-in_default-clause-same
returns-in_default-clause-same c = same_parts _ _ c.args.self.now _ c.entry_symbol.ensures.grows c.requires.kept refl c.in_default.ensures.items refl

pub returns-in_default-add-clause-same : goal.returns-in_default-add-clause-same
returns-in_default-add-clause-same c =
    let count = c.len-count.ensures ∙ c.args.self.now.terms.ok.0 in
    let terms =
    c.truncate.ensures.items ∙ ap (take c.len-count.result) c.in-Ok.ensures.items ∙ cut_back c.args.self.now.terms.items c.len-count.result c.in_ok-symbol.symbol count in
    same_parts _ _ c.args.self.now _ c.entry_symbol.ensures.grows c.requires.kept c.in_default-add.ensures.unchanged terms refl

pub returns-clause-same : goal.returns-clause-same
returns-clause-same c =
    let table = put_new c.args.self.now.table c.add.new.self c.word_of.result c.args.name.now c.word_of.ensures c.requires.new c.in-Ok-add.ensures.names in
    same_added _ _ c.args.self.now _ c.args.name.now c.in_ok-symbol.symbol c.entry_symbol.ensures.grows c.requires.kept c.in_ok-symbol.ensures.is_in c.in_ok-symbol.ensures.tree table c.in-Ok.ensures.items refl
