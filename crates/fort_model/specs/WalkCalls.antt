-- A call on a walk.
use Rattle.std.specs.Prelude.{ℕ, Bool, cond, ◌&&◌, List, [], ◌∷◌, ◌++◌, map, Option, Some, None}
use Rattle.std.specs.List.{filter}
use Rattle.formula.specs.Atoms.{same_bytes, is_among}
use Rattle.fort_syntax.specs.Names.{unit_at, has_common, commons}
use Rattle.formula.specs.Tree.{Tree}
use Rattle.fort_syntax.specs.declared.name.Name.{Name}
use Rattle.fort_syntax.specs.declared.dialect.Sort.{Sort}
use Rattle.fort_syntax.specs.declared.condition.Kind.TheVariants.{InputCheck}
use Rattle.fort_syntax.specs.declared.unit.Unit.{Unit as Routine}
use Rattle.fort_model.specs.Program.{Program, notes_of, is_smashed}
use Rattle.fort_model.specs.Senses.{Sense, undefined, is_defined, note}
use Rattle.fort_model.specs.Events.{checks, takes}
use Rattle.fort_model.specs.Seen.{Named, See, ◌>>=◌, ◌>>◌, see, meet, next_answer}
use Rattle.fort_model.specs.WalkPlaces.{cell_sort, sorts}

-- where a walk is: the sense in which it is read, the program, and the unit with its number
pub record Sight (V : Type 0) : Type 0 where
  pub sense : Sense V
  pub program : Program
  pub number : ℕ
  pub unit : Routine

-- an operand, not read yet: what a bare name or an element stands for; or computed
pub data Operand (V : Type 0) : Type 0 where
  Bare : Name → V → Operand V
  Part Computed : V → Operand V

-- what an operand stands for
abbrev pub stands_for : {V : Type 0} → Operand V → V
stands_for (Bare x v) = v
stands_for (Part v) = v
stands_for (Computed v) = v

module _ {V : Type 0} (w : Sight V) where
  -- what the dummies of a unit stand for by its actuals, in order; every other name as told
  abbrev pub with_actuals : List Name → List V → Named V → Named V
  with_actuals [] vs other x = other x
  with_actuals (d ∷ ds) [] other x = other x
  with_actuals (d ∷ ds) (v ∷ vs) other x = cond (same_bytes d x) v (with_actuals ds vs other x)

  -- what the names of a called unit stand for: a dummy for its actual, a COMMON entity for what it is to the caller,
  -- and the unit's own name for the value of the function
  abbrev pub seen_by : Routine → List V → Named V → V → Named V
  seen_by g actuals now result =
      with_actuals g.dummies actuals λ x.
      cond (same_bytes g.name x) result (cond (has_common g x) (now x) (undefined w.sense))

  -- the bare actuals of smashed dummies, in order
  abbrev pub smashed_actuals : (Name → Bool) → List Name → List (Operand V) → List Name
  smashed_actuals smashed [] xs = []
  smashed_actuals smashed (d ∷ ds) [] = []
  smashed_actuals smashed (d ∷ ds) (Bare x v ∷ xs) =
      let rest = smashed_actuals smashed ds xs in
      cond (smashed d) (x ∷ rest) rest
  smashed_actuals smashed (d ∷ ds) (Part v ∷ xs) = smashed_actuals smashed ds xs
  smashed_actuals smashed (d ∷ ds) (Computed v ∷ xs) = smashed_actuals smashed ds xs

  -- the COMMON entities of the caller that a called unit smashes, in the caller's order
  abbrev pub smashed_commons : (Name → Bool) → Routine → List Name
  smashed_commons smashed g = filter (λ x. has_common g x && smashed x) (commons w.unit)

  -- the names of the caller that a call smashes: actuals, then COMMON entities
  abbrev pub hits : ℕ → Routine → List (Operand V) → List Name
  hits i g xs = smashed_actuals (is_smashed w.program i) g.dummies xs ++ smashed_commons (is_smashed w.program i) g

  -- after a call the smashed names stand for its answer, and the others for what they stood for
  abbrev pub changed : List Name → Named V → Named V → Named V
  changed xs new now x = cond (is_among x xs) (new x) (now x)

  -- what an actual stands for after a call
  abbrev pub stands_after : Named V → Operand V → V
  stands_after after (Bare x v) = after x
  stands_after after (Part v) = v
  stands_after after (Computed v) = v

  -- the value of a function is defined and has its type
  abbrev pub result_facts : Option Sort → V → List V
  result_facts None v = []
  result_facts (Some sort) v = is_defined w.sense v ∷ cell_sort w.sense sort v ∷ []

  -- the terms of a called unit's notes, by what its names stand for at its entry and now
  abbrev pub notes_told : Named V → Named V → List Tree → List V
  notes_told entry now ts = map (note w.sense entry now) ts

  -- A call of the unit g, which has the number i, where actuals are taken. Each term of its INPUT is a check. Then the
  -- smashed names and the function have what the answer says, of which sorts and each term of its OUTPUT are facts. It
  -- answers what names stand for afterwards, and the function's value.
  abbrev pub call_unit : ℕ → ℕ → Routine → Named V → List (Operand V) → Named V → See V (Named V × V)
  call_unit card i g now xs answer =
      let before = seen_by g (map stands_for xs) now (undefined w.sense) in
      let smashed = hits i g xs in
      let after = changed smashed answer now in
      let result = answer g.name in
      do
        meet (checks InputCheck card (notes_told before before (notes_of w.program i).input))
        meet (takes (sorts w.sense w.unit after smashed))
        meet (takes (result_facts g.sort result))
        meet (takes (notes_told before (seen_by g (map (stands_after after) xs) after result) (notes_of w.program i).output))
        see (after, result)

  abbrev pub call_in : ℕ → ℕ → Option Routine → Named V → List (Operand V) → See V (Named V × V)
  call_in card i None now xs = see (now, undefined w.sense)
  call_in card i (Some g) now xs = next_answer >>= call_unit card i g now xs

  -- a call of the unit of a number; nothing where there is none
  abbrev pub call : ℕ → Option ℕ → Named V → List (Operand V) → See V (Named V × V)
  call card None now xs = see (now, undefined w.sense)
  call card (Some i) now xs = call_in card i (unit_at w.program.units (Some i)) now xs
