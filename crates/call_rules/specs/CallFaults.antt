-- The first rule on calls that is broken at the head of a unit, and at a statement.
use Rattle.std.specs.Prelude.{ℕ, ◌==◌, Bool, false, ◌||◌, List, [], Option, Some, None, is_some, take}
use Rattle.std.specs.List.{list_any}
use Rattle.formula.specs.Atoms.{same_bytes}
use Rattle.fort_model.specs.CallRules.{is_nobody, lacks_block, mismatches, of_unit}
use Rattle.fort_model.specs.Calls.{CallSite, callee_of, sites_of}
use Rattle.fort_model.specs.Program.{Program}
use Rattle.fort_model.specs.Rules.{is_block_name}
use Rattle.fort_syntax.specs.Names.{intrinsic}
use Rattle.fort_syntax.specs.declared.dialect.Dialect.TheVariants.{Common}
use Rattle.fort_syntax.specs.declared.refusal.Fault.{Fault}
use Rattle.fort_syntax.specs.declared.rule.Rule.{Rule}
use Rattle.fort_syntax.specs.declared.rule.Rule.TheVariants.{UnitTwice, UnknownUnit, Recursion, BadArguments, BlockMissing}
use Rattle.fort_syntax.specs.declared.stmt.Stmt.{Stmt}
use Rattle.fort_syntax.specs.declared.unit.Unit.{Unit as Routine}
use Rattle.stage_faults.specs.Scans.{first_in_units, first_of_three, first_of_two}

-- a program of units: nothing else of it counts for these rules
abbrev pub program_of : List Routine → Program
program_of units = record { dialect = Common; units = units; notes = []; functions = []; bound = 0; smashes = [] }

-- ---- heads

-- the name of the unit of number i is that of an earlier unit, of an intrinsic function, or of a block
abbrev pub name_taken : List Routine → ℕ → Routine → Bool
name_taken units i u =
    list_any (λ g. same_bytes g.name u.name) (take i units)
    || (is_some (intrinsic u.name) || list_any (λ g. list_any (λ group. is_block_name u.name group.block) g.blocks) units)

-- a number is this one, if there is one
abbrev pub is_number : Option ℕ → ℕ → Bool
is_number None i = false
is_number (Some j) i = j == i

-- the rule that is broken at the head of the unit of number i, where the first unit that calls itself is known
abbrev pub head_rule : List Routine → Option ℕ → ℕ → Routine → Option Rule
head_rule units recursive i u = first_of_two UnitTwice Recursion (name_taken units i u) (is_number recursive i)

-- ---- statements

-- one of some calls is of no unit
abbrev pub some_unknown : List Routine → List CallSite → Bool
some_unknown units sites = list_any (λ site. is_nobody (callee_of units site)) sites

-- the actuals of one of some calls in a unit do not match
abbrev pub some_mismatch : List Routine → Routine → List CallSite → Bool
some_mismatch units u sites = list_any (λ site. of_unit (program_of units) (callee_of units site) (mismatches u site)) sites

-- a unit that one of some calls is of declares a block that the caller does not
abbrev pub some_lack : List Routine → Routine → List CallSite → Bool
some_lack units u sites = list_any (λ site. of_unit (program_of units) (callee_of units site) (lacks_block u)) sites

abbrev pub sites_rule : List Routine → Routine → List CallSite → Option Rule
sites_rule units u sites =
    first_of_three UnknownUnit BadArguments BlockMissing (some_unknown units sites) (some_mismatch units u sites)
    (some_lack units u sites)

-- the rule that is broken at a statement of a unit
abbrev pub stmt_rule : List Routine → Routine → Stmt → Option Rule
stmt_rule units u s = sites_rule units u (sites_of u s)

-- the first fault of units by these rules
abbrev pub call_fault : List Routine → Option ℕ → Option Fault
call_fault units recursive = first_in_units (head_rule units recursive) (stmt_rule units) 0 units
