-- COMMON entities of both units of a call that are smashed.
use Rattle.std.specs.Prelude.{Bool, ◌&&◌, ◌||◌, List}
use Rattle.std.specs.List.{list_any}
use Rattle.formula.specs.Atoms.{is_among}
use Rattle.fort_syntax.specs.Names.{has_common}
use Rattle.fort_syntax.specs.declared.expr.Expr.{Expr}
use Rattle.fort_syntax.specs.declared.name.Name.{Name}
use Rattle.fort_syntax.specs.declared.unit.Unit.{Unit as Routine}
use Rattle.fort_model.specs.CallRules.{some_smashed, is_bare_common}
use Rattle.call_tests.specs.Mentioned.{names_in}

-- a name is in the caller's COMMON and in that of the called unit, which smashes it
abbrev pub is_shared : Routine → Routine → List Name → Name → Bool
is_shared u g smashed x = has_common u x && (has_common g x && is_among x smashed)

-- an actual mentions such a name, or a smashed dummy gets a COMMON entity of both units
abbrev pub meets_common : Routine → Routine → List Name → List Name → List Expr → Bool
meets_common u g smashed dummies actuals =
    list_any (λ e. list_any (is_shared u g smashed) (names_in e)) actuals
    || some_smashed (λ d. is_among d smashed) (λ n e. is_bare_common u g e) 0 dummies actuals
