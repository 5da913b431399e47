use Rattle.std.proofs.Common.{◌≡◌, true, false, List, [], ℕ, ap, sym, subst, ◌∙◌, rules}
use Rattle.std.specs.Prelude.{option_copied, Option, Some, None}
use Rattle.formula.specs.Atoms.{is_among}
use Rattle.fort_syntax.specs.declared.name.Name.{Name}
use Rattle.name_tables.specs.Tables.{all_told, first_of}
use Rattle.run_slots.specs.Slotted.{slotted}
use Rattle.run_slots.proofs.Found.{IsAt, found}
use Rattle.run_slots.proofs.slot_table.SlotTable.slot.Goals as goal

-- what the table tells is a slot that the name stands at
at : (xs : List Name) (x : Name) (table : List (Name × ℕ)) (o : Option ℕ)
    → table ≡ all_told [] (slotted xs 0) → is_among x xs ≡ true → o ≡ first_of table x → IsAt xs x o
at xs x table o t h e = subst (IsAt xs x) (sym (e ∙ ap (λ t. first_of t x) t)) (found xs x h)

pub returns-in-Some-clause-within : goal.returns-in-Some-clause-within
returns-in-Some-clause-within c =
    (at c.args.names.now c.args.name.now c.self.inside.table (Some c.in-Some.slot.now) (c.self.view_is ∙ c.requires.table) c.requires.there
    (ap option_copied (sym c.in-Some.is) ∙ c.get.ensures)).0

pub returns-in-Some-clause-told : goal.returns-in-Some-clause-told
returns-in-Some-clause-told c =
    (at c.args.names.now c.args.name.now c.self.inside.table (Some c.in-Some.slot.now) (c.self.view_is ∙ c.requires.table) c.requires.there
    (ap option_copied (sym c.in-Some.is) ∙ c.get.ensures)).1

pub returns-in-None-clause-told : goal.returns-in-None-clause-told
returns-in-None-clause-told c =
    let no : true ≡ false = at c.args.names.now c.args.name.now c.self.inside.table None (c.self.view_is ∙ c.requires.table) c.requires.there
    (ap option_copied (sym c.in-None.is) ∙ c.get.ensures) in
    search rules
