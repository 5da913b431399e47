-- What a table of weights tells, and what it told before.
use Rattle.std.specs.Prelude.{◌≡◌, ℕ, cond, List, [], ◌∷◌, Some, unwrap_or}
use Rattle.std.specs.Map.{lookup}
use Rattle.formula.specs.Atoms.{same_bytes}
use Rattle.fort_syntax.specs.declared.name.Name.{Name}
use Rattle.fort_model.specs.Seen.{Named}
use Rattle.indexmap.specs.IndexMap.{set_value_at}
use Rattle.weight_terms.specs.declared.log.Logged.{Logged}
use Rattle.weight_terms.specs.declared.log.Logged.TheVariants.{Mark, New, Was}

-- names with their weights, and a log of what is to be undone to go back to each mark, the last of it first
pub record Weights : Type 0 where
  pub entries : List (List ℕ × ℕ)
  pub log : List Logged

-- no name is told, and there is no mark
abbrev pub nothing_told : Weights
nothing_told = record { entries = []; log = [] }

-- what names weigh by some entries; one that they lack weighs 1
abbrev pub told_by : List (List ℕ × ℕ) → Named ℕ
told_by entries x = unwrap_or (lookup (same_bytes x) entries) 1

-- what names weigh by a table
abbrev pub held : Weights → Named ℕ
held table x = unwrap_or (lookup (same_bytes x) table.entries) 1

-- without the last of some entries
abbrev pub but_last : List (List ℕ × ℕ) → List (List ℕ × ℕ)
but_last [] = []
but_last (e ∷ []) = []
but_last (e ∷ f ∷ es) = e ∷ but_last (f ∷ es)

-- what names weighed at each mark of a log, the last mark first
abbrev pub pasts : List (List ℕ × ℕ) → List Logged → List (Named ℕ)
pasts entries [] = []
pasts entries (Mark ∷ log) = told_by entries ∷ pasts entries log
pasts entries (New ∷ log) = pasts (but_last entries) log
pasts entries (Was place n ∷ log) = pasts (set_value_at entries place n) log

abbrev pub marked : Weights → List (Named ℕ)
marked table = pasts table.entries table.log

-- what undoes something is logged behind a mark, and needs no log where there is none
abbrev pub logged : Logged → List Logged → List Logged
logged l [] = []
logged l (m ∷ log) = l ∷ m ∷ log

-- what is logged undoes a change of entries
abbrev pub Undoes : List (List ℕ × ℕ) → List (List ℕ × ℕ) → Logged → Type 0
Undoes old new l = (log : List Logged) → pasts new (l ∷ log) ≡ pasts old log

-- entries tell a weight of one name, and of the others what they told before
abbrev pub Sets : List (List ℕ × ℕ) → List (List ℕ × ℕ) → Name → ℕ → Type 0
Sets old new x n = (y : Name) → lookup (same_bytes y) new ≡ cond (same_bytes x y) (Some n) (lookup (same_bytes y) old)

-- a name was set, and what names weighed at the marks stays
pub record IsSet (old new : Weights) (x : Name) (n : ℕ) : Type 0 where
  pub sets : Sets old.entries new.entries x n
  pub stays : marked new ≡ marked old

-- names weigh what they weighed at the last mark, which is taken away
pub record IsBack (new : Weights) (told : Named ℕ) (earlier : List (Named ℕ)) : Type 0 where
  pub weights : held new ≡ told
  pub marks : marked new ≡ earlier

abbrev pub GoesBack : Weights → Weights → Type 0
GoesBack old new = (told : Named ℕ) (earlier : List (Named ℕ)) → marked old ≡ told ∷ earlier → IsBack new told earlier
