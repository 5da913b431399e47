-- The symbols of the answer of a call.
use Rattle.std.specs.Prelude.{ℕ}
use Rattle.formula.specs.Tree.{Tree, symbol}
use Rattle.fort_model.specs.Seen.{Named}
use Rattle.fort_model.specs.Symbols.{ByCall, word_of}

-- what the call of a number gives for each name
abbrev pub called : ℕ → Named Tree
called number x = symbol (word_of (ByCall x number))
