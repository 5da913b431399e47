use Rattle.std.proofs.Common.{◌≡◌, ◌<◌, ◌+◌, ℕ, List, Option, Some, None, length, ap, sym, ◌∙◌, arith}
use Rattle.fort_syntax.specs.declared.name.Name.{Name}
use Rattle.unit_tables.specs.Tables.{told, first_name, data_at}
use Rattle.unit_tables.proofs.Firsts.{name_below, entry_there}
use Rattle.unit_tables.proofs.name_places.NamePlaces.place.Goals as goal

pub returns-in_default-clause-entry : goal.returns-in_default-clause-entry
returns-in_default-clause-entry c =
    let missed : first_name c.args.name.now c.args.unit.now.names 0 ≡ None =
    sym (c.requires c.args.name.now) ∙ ap (λ (t : List (Name × ℕ)). told t c.args.name.now) (sym c.self.view_is) ∙ sym (c.in_default.ensures) in
    ap (λ (o : Option ℕ). data_at c.args.unit.now.names o) (sym missed) ∙ entry_there c.args.name.now c.args.unit.now.names

pub prove-unreachable-requires : goal.prove-unreachable-requires
prove-unreachable-requires c =
    let found : first_name c.args.name.now c.args.unit.now.names 0 ≡ Some c.in-Some.place =
    sym (c.requires c.args.name.now) ∙ ap (λ (t : List (Name × ℕ)). told t c.args.name.now) (sym c.self.view_is) ∙ sym (c.in-Some.ensures) in
    let below : c.in-Some.place < 0 + length c.args.unit.now.names = name_below c.args.name.now c.args.unit.now.names 0 c.in-Some.place found in
    let same : length c.as_slice-names.result.now ≡ length c.args.unit.now.names = ap length c.as_slice-names.ensures in
    let high = c.if-prove.true in
    grind arith

pub returns-clause-entry : goal.returns-clause-entry
returns-clause-entry c =
    let found : first_name c.args.name.now c.args.unit.now.names 0 ≡ Some c.in-Some.place =
    sym (c.requires c.args.name.now) ∙ ap (λ (t : List (Name × ℕ)). told t c.args.name.now) (sym c.self.view_is) ∙ sym (c.in-Some.ensures) in
    ap (λ (o : Option ℕ). data_at c.args.unit.now.names o) (sym found) ∙ entry_there c.args.name.now c.args.unit.now.names
