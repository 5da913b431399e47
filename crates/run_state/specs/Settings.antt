-- The processor of a setting.
use Rattle.std.specs.Prelude.{ℕ, ◌==◌, Bool, true, false, ◌&&◌}
use Rattle.std.specs.List.{list_any}
use Rattle.formula.specs.Atoms.{same_bytes}
use Rattle.fort_syntax.specs.declared.dialect.Dialect.{Dialect}
use Rattle.fort_syntax.specs.declared.name.Name.{Name}
use Rattle.fort_notes.specs.declared.cases.Passing.{Passing}
use Rattle.fort_notes.specs.declared.cases.Passing.TheVariants.{Reference, Copy, Listed}
use Rattle.fort_notes.specs.declared.cases.Site.{Site}
use Rattle.fort_model.specs.Processor.{Processor}
use Rattle.run_held.specs.Sums.{processor_of}
use Rattle.run_state.specs.declared.machine.Setting.{Setting}

-- a site is that of an argument: the calling unit's name, the number of the call, and that of the argument
abbrev pub is_site : Name → ℕ → ℕ → Site → Bool
is_site unit call place s = same_bytes s.unit unit && (s.call == call && s.place == place)

-- an argument passes by copy
abbrev pub copies_by : Passing → Name → ℕ → ℕ → Bool
copies_by Reference unit call place = false
copies_by Copy unit call place = true
copies_by (Listed sites) unit call place = list_any (is_site unit call place) sites

abbrev pub processor_in : Dialect → Setting → Processor
processor_in dialect s = processor_of s.bounds (record { dialect = dialect; lazy = s.lazy; copies = copies_by s.passing })
