-- How names stand in statements, as the code tells it.
use Rattle.fort_syntax.specs.Uses.{Use, read, assigned, assigned_element, counted, applied, argument_of, actual, called}
use Rattle.stmt_names.specs.declared.seen.How.{How}
use Rattle.stmt_names.specs.declared.seen.How.TheVariants.{Read, Assigned, Element, Counted, Applied, Argument, Actual, Called}

abbrev pub use_by : How → Use
use_by Read = read
use_by Assigned = assigned
use_by (Element n) = assigned_element n
use_by Counted = counted
use_by (Applied n) = applied n
use_by (Argument f) = argument_of f
use_by Actual = actual
use_by Called = called
