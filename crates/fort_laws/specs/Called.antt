-- The calls of a unit: its references to FUNCTIONs, and its CALLs.
use Rattle.std.specs.Prelude.{ℕ, ◌≡◌, true, false, List, Some}
use Rattle.fort_syntax.specs.declared.name.Name.{Name}
use Rattle.fort_syntax.specs.declared.dialect.Sort.{Sort}
use Rattle.fort_syntax.specs.declared.expr.Expr.{Expr}
use Rattle.fort_syntax.specs.declared.unit.Unit.{Unit as Routine}
use Rattle.fort_model.specs.Arguments.{reference_sort}
use Rattle.fort_model.specs.Calls.{Calls}
use Rattle.fort_model.specs.Program.{Program}

-- a reference in the text of a unit, with these actuals, to a FUNCTION of a type, which the unit takes it to have
pub record IsReferenceTo (program : Program) (i : ℕ) (u : Routine) (q : Sort) (f : Name) (es : List Expr) : Type 0 where
  pub number : ℕ
  pub call : Calls program.units i number
  pub caller_is : call.caller ≡ u
  pub reference_is : call.site.reference ≡ true
  pub callee_is : call.site.callee ≡ f
  pub actuals_are : call.site.actuals ≡ es
  pub sort_is : call.callee.sort ≡ Some q
  pub told : reference_sort u.functions f ≡ Some q

-- a CALL in the text of a unit, with these actuals
pub record IsCallTo (program : Program) (i : ℕ) (u : Routine) (f : Name) (es : List Expr) : Type 0 where
  pub number : ℕ
  pub call : Calls program.units i number
  pub caller_is : call.caller ≡ u
  pub reference_is : call.site.reference ≡ false
  pub callee_is : call.site.callee ≡ f
  pub actuals_are : call.site.actuals ≡ es
