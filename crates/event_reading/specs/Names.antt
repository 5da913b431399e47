-- The names of definitions by their headings.
use Rattle.std.specs.Prelude.{ℕ, List, map}
use Rattle.formula.specs.declared.definition.Heading.{Heading}
use Rattle.formula.specs.Headings.{with_next}
use Rattle.event_reading.specs.declared.known.Known.{Known}

abbrev pub heading_names : List Heading → List (List ℕ)
heading_names hs = map (λ h. h.name) hs

-- the headings, and the one whose body is being read behind them
abbrev pub known_headings : Known → List Heading
known_headings k = with_next k.headings.now k.next

abbrev pub known_names : Known → List (List ℕ)
known_names k = heading_names (known_headings k)
