-- The names that calls, statements and units smash, as lists.
use Rattle.std.specs.Prelude.{ℕ, ◌&&◌, List, [], ◌++◌, flat_map, Option, Some, None, slice_get}
use Rattle.std.specs.List.{filter}
use Rattle.formula.specs.Atoms.{is_among}
use Rattle.fort_syntax.specs.Names.{has_common, commons}
use Rattle.fort_syntax.specs.declared.expr.Expr.{Expr}
use Rattle.fort_syntax.specs.declared.name.Name.{Name}
use Rattle.fort_syntax.specs.declared.stmt.Stmt.{Stmt}
use Rattle.fort_syntax.specs.declared.unit.Unit.{Unit as Routine}
use Rattle.fort_model.specs.CallRules.{bare_names}
use Rattle.fort_model.specs.Calls.{CallSite, sites_of, callee_of}
use Rattle.fort_model.specs.Program.{Program, smashed_names}
use Rattle.fort_model.specs.Smashes.{set_by}

-- the COMMON entities of both units that the called one smashes
abbrev pub shared_in : Routine → Routine → List Name → List Name
shared_in u g smashed = filter (λ x. has_common g x && is_among x smashed) (commons u)

-- the same ones, in the order of what the called unit smashes
abbrev pub shared_row : Routine → Routine → List Name → List Name
shared_row u g smashed = filter (λ x. has_common g x && has_common u x) smashed

abbrev pub shared_with : Routine → List Name → Option Routine → List Name
shared_with u smashed None = []
shared_with u smashed (Some g) = shared_row u g smashed

-- the COMMON entities of a unit that the unit of a number smashes, by a table
abbrev pub shared_by : Program → Routine → ℕ → List Name
shared_by p u j = shared_with u (smashed_names p j) (slice_get p.units j)

-- what a call of g in u smashes, where g smashes these
abbrev pub call_names : Routine → Routine → List Name → List Expr → List Name
call_names u g smashed actuals = bare_names (λ d. is_among d smashed) g.dummies actuals ++ shared_row u g smashed

abbrev pub names_by : Routine → List Name → List Expr → Option Routine → List Name
names_by u smashed actuals None = []
names_by u smashed actuals (Some g) = call_names u g smashed actuals

-- what a call smashes, by a table; one of no unit smashes nothing
abbrev pub names_of_callee : Program → Routine → List Expr → Option ℕ → List Name
names_of_callee p u actuals None = []
names_of_callee p u actuals (Some j) = names_by u (smashed_names p j) actuals (slice_get p.units j)

abbrev pub site_names : Program → Routine → CallSite → List Name
site_names p u site = names_of_callee p u site.actuals (callee_of p.units site)

-- what a statement smashes
abbrev pub stmt_names : Program → Routine → Stmt → List Name
stmt_names p u s = set_by s ++ flat_map (site_names p u) (sites_of u s)

-- what a unit smashes
abbrev pub unit_names : Program → Routine → List Name
unit_names p u = flat_map (λ line. stmt_names p u line.stmt) u.lines
