-- The names that sets and tables are searched by.
use Rattle.std.specs.Prelude.{[], Option, Some, None}
use Rattle.fort_syntax.specs.declared.name.Name.{Name}

-- none is the name without letters
abbrev pub key_name : Option Name → Name
key_name None = []
key_name (Some x) = x
