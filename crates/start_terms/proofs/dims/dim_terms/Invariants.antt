use Rattle.std.proofs.Common.{take}
use Rattle.note_terms.specs.Stated.{Makes}
use Rattle.walk_names.specs.Names.{named}
use Rattle.start_terms.specs.Starts.{facts_of_dims}
use Rattle.start_terms.proofs.dims.dim_terms.Given as goal

abbrev pub invariant-loop-name : goal.invariant-loop-name
invariant-loop-name l = Makes l.fn.pool l.pool l.terms.items (facts_of_dims (named l.fn.pool l.names) (take l.name-index l.dims))
