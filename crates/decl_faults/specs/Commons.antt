-- The COMMON blocks of a unit, and of the units before it.
use Rattle.std.specs.Prelude.{◌&&◌, ◌||◌, not, Bool, false, cond, List, [], ◌∷◌, ◌++◌, map, Option, Some, None}
use Rattle.std.specs.List.{list_any}
use Rattle.formula.specs.Atoms.{same_bytes, is_among}
use Rattle.indexmap.specs.IndexMap.{insert_entry}
use Rattle.fort_syntax.specs.Scopes.{Scope}
use Rattle.fort_syntax.specs.Units.{Segment, gathered, own_name, dummies_of, scope_of, name_of_block, groups_by, blocks_by, names_of_items}
use Rattle.fort_syntax.specs.NameRules.{Member, same_members, member_of, members, is_adjustable}
use Rattle.fort_syntax.specs.declared.dialect.Dialect.{Dialect}
use Rattle.fort_syntax.specs.declared.name.Name.{Name}
use Rattle.fort_syntax.specs.declared.refusal.Fault.{Fault}
use Rattle.fort_syntax.specs.declared.stmt.Group.{Group}
use Rattle.fort_syntax.specs.declared.stmt.Stmt.{Stmt}
use Rattle.fort_syntax.specs.declared.unit.Line.{Line}
use Rattle.fort_syntax.specs.UnitRules.{fault_before}
use Rattle.name_tables.specs.Sets.{with_name, with_names}
use Rattle.name_tables.specs.Tables.{first_of, told}
use Rattle.decl_faults.specs.NameScans.{Facts, nothing_done, name_scan}

abbrev pub names_or_none : Option (List Name) → List Name
names_or_none None = []
names_or_none (Some names) = names

-- the names of a block in a table
abbrev pub listed : List (Name × List Name) → Name → List Name
listed table b = names_or_none (first_of table b)

-- a table with more names of a block
abbrev pub appended : List (Name × List Name) → Name → List Name → List (Name × List Name)
appended table b names = insert_entry same_bytes (insert_entry same_bytes table b []) b (listed table b ++ names)

abbrev pub with_groups : List (Name × List Name) → List Group → List (Name × List Name)
with_groups table [] = table
with_groups table (group ∷ groups) = with_groups (appended table (name_of_block group.block) (names_of_items group.items)) groups

-- a table with the blocks that statements declare
abbrev pub tabled : List (Name × List Name) → List Line → List (Name × List Name)
tabled table [] = table
tabled table (line ∷ lines) = tabled (with_groups table (groups_by line.stmt)) lines

-- a set of names with those that statements give
abbrev pub given_from : (Stmt → List Name) → List Name → List Line → List Name
given_from give names [] = names
given_from give names (line ∷ lines) = given_from give (with_names names (give line.stmt)) lines

-- a block of these members differs from what is kept of its name
abbrev pub differs : Option (List Member) → List Member → Bool
differs None own = false
differs (Some kept) own = not (same_members own kept)

abbrev pub is_bad_with : List (Name × List Member) → List Member → Name → Bool
is_bad_with table own b = differs (first_of table b) own || list_any (λ m. is_adjustable m.dims) own

abbrev pub is_bad_by : List (Name × List Member) → Scope → List (Name × List Name) → Name → Bool
is_bad_by earlier scope table b = is_bad_with earlier (map (member_of scope) (listed table b)) b

-- a set of bad blocks with the bad ones of some that were not seen before
abbrev pub bad_in : (Name → Bool) → List Name → List Name → List Name → List Name
bad_in test seen bad [] = bad
bad_in test seen bad (b ∷ bs) = bad_in test (with_name seen b) (cond (not (is_among b seen) && test b) (with_name bad b) bad) bs

abbrev pub bad_from : (Name → Bool) → List Name → List Name → List Line → List Name
bad_from test seen bad [] = bad
bad_from test seen bad (line ∷ lines) =
    bad_from test (with_names seen (blocks_by line.stmt)) (bad_in test seen bad (blocks_by line.stmt)) lines

-- what is kept of blocks, with that of some more
abbrev pub remembered : (Name → List Member) → List (Name × List Member) → List Name → List (Name × List Member)
remembered mem table [] = table
remembered mem table (b ∷ bs) = remembered mem (told table b (mem b)) bs

abbrev pub remembered_from : (Name → List Member) → List (Name × List Member) → List Line → List (Name × List Member)
remembered_from mem table [] = table
remembered_from mem table (line ∷ lines) = remembered_from mem (remembered mem table (blocks_by line.stmt)) lines

-- what is known of a unit, by what is kept of the blocks of the units before it
abbrev pub facts_with : List (Name × List Member) → Segment → Facts
facts_with table unit = record {
  own = own_name unit;
  scope = scope_of unit;
  is_dummy = λ x. is_among x (dummies_of unit);
  is_bad_block = λ b. is_among b (gathered blocks_by unit) && is_bad_with table (members unit b) b;
}

-- the first fault of units by the rules on declarations
abbrev pub name_scans : Dialect → List (Name × List Member) → List Segment → Option Fault
name_scans dialect table [] = None
name_scans dialect table (unit ∷ units) =
    fault_before (name_scan dialect (facts_with table unit) nothing_done [] unit)
    (name_scans dialect (remembered_from (members unit) table unit) units)
