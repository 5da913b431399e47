-- What is written of the outcome of a run.
use Rattle.std.specs.Prelude.{ℕ, Bool, cond, List, [], ◌∷◌, ◌++◌, codes, decimal}
use Rattle.std.specs.Fmt.{signed_decimal}
use Rattle.formula.specs.declared.value.Cell.{Cell}
use Rattle.formula.specs.declared.value.Cell.TheVariants.{Int, Logical, Undefined}
use Rattle.fort_syntax.specs.Conditions.{kind_word}
use Rattle.fort_syntax.specs.Names.{is_function}
use Rattle.fort_syntax.specs.declared.condition.Kind.{Kind}
use Rattle.fort_syntax.specs.declared.name.Name.{Name}
use Rattle.fort_syntax.specs.declared.unit.Unit.{Unit as Routine}
use Rattle.fort_model.specs.Outcome.{Outcome, Ended, Erred, Running}
use Rattle.fort_model.specs.Storage.{Environment, Storage, contents}
use Rattle.run_start.specs.Starts.{entities}

-- a number, T, F or U
abbrev pub cell_text : Cell → List ℕ
cell_text (Int z) = signed_decimal z
cell_text (Logical b) = cond b (codes "T") (codes "F")
cell_text Undefined = codes "U"

-- one blank before it
abbrev pub next_text : Cell → List ℕ
next_text c = codes " " ++ cell_text c

-- so for some cells
abbrev pub cells_text : List Cell → List ℕ
cells_text [] = []
cells_text (c ∷ cs) = next_text c ++ cells_text cs

-- ` (A 1 2 1 1)`
abbrev pub entry_text : Name → List Cell → List ℕ
entry_text x cs = codes " (" ++ x ++ cells_text cs ++ codes ")"

-- names with what their cells hold, in order of place
abbrev pub entries_text : Environment → Storage → List Name → List ℕ
entries_text env st [] = []
entries_text env st (x ∷ xs) = entry_text x (contents st (env x).first (env x).size) ++ entries_text env st xs

-- ` (F 5)`
abbrev pub value_text : Name → Cell → List ℕ
value_text x c = codes " (" ++ x ++ next_text c ++ codes ")"

-- the value of a FUNCTION
abbrev pub own_text : Routine → Cell → List ℕ
own_text u v = cond (is_function u) (value_text u.name v) []

-- `ERRED RANGE CARD 6`
abbrev pub erred_text : Kind → ℕ → List ℕ
erred_text kind card = codes "ERRED " ++ kind_word kind ++ codes " CARD " ++ decimal card

-- What a run of a unit comes to: where it ends, what its dummies in order, its COMMON entities in order of declaration, and the
-- value of a FUNCTION are.
abbrev pub outcome_text : Routine → Environment → Outcome Cell → List ℕ
outcome_text u env (Ended v st left) = codes "ENDED" ++ entries_text env st (entities u) ++ own_text u v
outcome_text u env (Erred kind card st) = erred_text kind card
outcome_text u env (Running st) = codes "RUNNING"
