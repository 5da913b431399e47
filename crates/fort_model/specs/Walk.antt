-- The walk along a path: what holds at its start, the statements that it performs, and the checks at its end.
use Rattle.std.specs.Prelude.{ℕ, zero, suc, pos, neg_ℤ, Bool, cond, List, [], ◌∷◌, ◌++◌, map, Option, Some, None, slice_get}
use Rattle.std.specs.List.{filter, list_any}
use Rattle.formula.specs.Atoms.{same_bytes}
use Rattle.fort_syntax.specs.Names.{data_name, is_own, has_role, is_own_value, is_local, commons, names_with}
use Rattle.formula.specs.declared.function.BuiltIn.TheVariants.{And, Or, Less, AtMost}
use Rattle.fort_syntax.specs.declared.name.Name.{Name}
use Rattle.fort_syntax.specs.declared.condition.Kind.TheVariants.{AssertCheck, ClockCheck, FallCheck, OutputCheck}
use Rattle.fort_syntax.specs.declared.stmt.Dim.{Dim}
use Rattle.fort_syntax.specs.declared.stmt.Dim.TheVariants.{Fixed, Named as Adjustable}
use Rattle.fort_syntax.specs.declared.unit.Line.{Line}
use Rattle.fort_syntax.specs.declared.unit.Unit.{Unit as Routine}
use Rattle.fort_model.specs.Flow.{leads}
use Rattle.fort_notes.specs.Assertions.{Assertion, Notes}
use Rattle.fort_model.specs.Program.{notes_of, is_smashed}
use Rattle.fort_model.specs.Symbols.{AtEntry, AtStart}
use Rattle.fort_model.specs.Senses.{natural, make2, least_integer, greatest_integer, is_defined, note}
use Rattle.fort_model.specs.Events.{Event, Check, checks, takes}
use Rattle.fort_model.specs.Seen.{Named, Answers, symbols_of_calls}
use Rattle.fort_model.specs.Paths.{Cut, NoCut, AtEnd, AtAssert, cut_at, Path}
use Rattle.fort_model.specs.WalkPlaces.{sorts, blank}
use Rattle.fort_model.specs.WalkCalls.{Sight}
use Rattle.fort_model.specs.WalkStmt.{performed}

-- ---- dimensions

abbrev pub is_dim : Name → Dim → Bool
is_dim x (Fixed n) = Bool.false
is_dim x (Adjustable y) = same_bytes x y

-- a name is a dimension of an array of the unit
abbrev pub is_some_dim : Routine → Name → Bool
is_some_dim u x = list_any (λ d. list_any (is_dim x) d.dims) u.names

-- the dummies of a unit that are dimensions, in order
abbrev pub dim_dummies : Routine → List Name
dim_dummies u = filter (is_some_dim u) u.dummies

module _ {V : Type 0} (w : Sight V) where
  abbrev pub notes_here : Notes
  notes_here = notes_of w.program w.number

  -- (ZLEQ 0 t)
  abbrev pub not_negative : V → V
  not_negative t = make2 w.sense AtMost (natural w.sense 0) t

  -- ---- the start

  -- the symbol of a name's entry value
  abbrev pub entry_symbol : Named V
  entry_symbol x = w.sense.named (AtEntry x)

  -- what names stand for at the entry: dummies and COMMON entities for the symbols of their entry values, the other data
  -- names for new cells
  abbrev pub at_entry : Named V
  at_entry x = cond (has_role is_own (data_name w.unit x)) (blank w.sense w.unit entry_symbol x) (entry_symbol x)

  -- what names stand for at an ASSERT where the path starts: a smashed name for a symbol of its own
  abbrev pub at_start : Named V
  at_start x = cond (is_smashed w.program w.number x) (w.sense.named (AtStart x)) (at_entry x)

  -- the processor has the integers up to the bound
  abbrev pub bound_facts : List V
  bound_facts =
      make2 w.sense AtMost (least_integer w.sense) (w.sense.number (neg_ℤ (pos w.program.bound)))
      ∷ make2 w.sense AtMost (natural w.sense w.program.bound) (greatest_integer w.sense)
      ∷ []

  -- a dimension is defined and at least 1
  abbrev pub dim_facts : List Name → List V
  dim_facts [] = []
  dim_facts (x ∷ xs) = is_defined w.sense (at_entry x) ∷ make2 w.sense AtMost (natural w.sense 1) (at_entry x) ∷ dim_facts xs

  -- what holds at the entry
  abbrev pub entry_facts : List V
  entry_facts =
      bound_facts
      ++ sorts w.sense w.unit at_entry w.unit.dummies
      ++ sorts w.sense w.unit at_entry (commons w.unit)
      ++ dim_facts (dim_dummies w.unit)
      ++ map (note w.sense at_entry at_entry) notes_here.input

  -- the smashed names: dummies, COMMON entities, a FUNCTION's own value, locals
  abbrev pub smashed_in_order : List Name
  smashed_in_order =
      filter (is_smashed w.program w.number)
      (w.unit.dummies ++ commons w.unit ++ names_with is_own_value w.unit ++ names_with is_local w.unit)

  -- what holds at an ASSERT where the path starts
  abbrev pub start_facts : Assertion → List V
  start_facts a =
      sorts w.sense w.unit at_start smashed_in_order
      ++ map (note w.sense at_entry at_start) a.terms
      ++ map (λ t. not_negative (note w.sense at_entry at_start t)) a.clock

  -- ---- the end

  -- the new parts of a clock are lexicographically below the old ones
  abbrev pub falls : List V → List V → V
  falls (n ∷ []) (o ∷ []) = make2 w.sense Less n o
  falls (n ∷ (m ∷ ns)) (o ∷ (q ∷ os)) = make2 w.sense Or (make2 w.sense Less n o) (make2 w.sense And (make2 w.sense AtMost n o) (falls (m ∷ ns) (q ∷ os)))
  falls _ _ = w.sense.truth_value Bool.false

  -- where the path started at an ASSERT, whose clock parts are told, the clock has fallen
  abbrev pub fall : ℕ → Option (List V) → List V → List (Event V)
  fall card None new = []
  fall card (Some old) new = Check FallCheck card (falls new old) ∷ []

  -- a path arrives at a cut point, where names stand for `now`: at an ASSERT, told at its card; or at the end, told at
  -- the card of the last statement. At no cut point it goes on.
  abbrev pub arrive : Option (List V) → ℕ → Cut → Named V → List (Event V) → List (Event V)
  arrive clock card NoCut now on = on
  arrive clock card AtEnd now on = checks OutputCheck card (map (note w.sense at_entry now) notes_here.output)
  arrive clock card (AtAssert a) now on =
      checks AssertCheck a.card (map (note w.sense at_entry now) a.terms)
      ++ checks ClockCheck a.card (map (λ t. not_negative (note w.sense at_entry now t)) a.clock)
      ++ fall a.card clock (map (note w.sense at_entry now) a.clock)

  -- ---- between

  abbrev pub go_on : Option (List V) → ℕ → Option ℕ → Named V → (ℕ → List (Event V)) → List (Event V)
  go_on clock card None now on = []
  go_on clock card (Some q) now on = arrive clock card (cut_at w.unit notes_here q) now (on q)

  abbrev pub perform_line : Option (List V) → Option Line → ℕ → Named V → Answers V → List ℕ
      → (ℕ → Named V → Answers V → List (Event V)) → List (Event V)
  perform_line clock None pc now answers cs on = []
  perform_line clock (Some line) pc now answers cs on =
      let done = performed w line.card pc now line.stmt cs answers in
      done.events ++ go_on clock line.card (leads w.program.dialect w.unit pc line.stmt cs) done.value
      (λ q. on q done.value done.rest)

  -- the statements from a point on, where names stand for `now`, under the choices of each
  abbrev pub walk_from : Option (List V) → ℕ → Named V → Answers V → List (List ℕ) → List (Event V)
  walk_from clock pc now answers [] = []
  walk_from clock pc now answers (cs ∷ way) =
      perform_line clock (slice_get w.unit.lines pc) pc now answers cs (λ q after rest. walk_from clock q after rest way)

  abbrev pub from_entry : Answers V → List (List ℕ) → List (Event V)
  from_entry answers way = takes entry_facts ++ arrive None 0 (cut_at w.unit notes_here 0) at_entry
      (walk_from None 0 at_entry answers way)

  abbrev pub from_assert : Answers V → Option Assertion → List (List ℕ) → List (Event V)
  from_assert answers None way = []
  from_assert answers (Some a) way =
      takes entry_facts ++ takes (start_facts a)
      ++ walk_from (Some (map (note w.sense at_entry at_start) a.clock)) a.point at_start answers way

  abbrev pub from_start : Answers V → ℕ → List (List ℕ) → List (Event V)
  from_start answers zero way = from_entry answers way
  from_start answers (suc k) way = from_assert answers (slice_get notes_here.asserts k) way

  -- the walk along a path
  abbrev pub walk : Path → List (Event V)
  walk path = from_start (symbols_of_calls w.sense) path.start path.choices
