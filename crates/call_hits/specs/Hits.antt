-- The names of a caller that a call smashes, by the bare names among its actuals.
use Rattle.std.specs.Prelude.{ℕ, ◌≡◌, Bool, cond, ◌&&◌, List, [], ◌∷◌, ◌++◌, map, Option, Some, None}
use Rattle.formula.specs.Tree.{Tree}
use Rattle.fort_model.specs.Program.{smashed_names}
use Rattle.fort_model.specs.WalkCalls.{Operand, Bare, Part, Computed, Sight, hits}
use Rattle.fort_syntax.specs.Names.{has_common}
use Rattle.fort_syntax.specs.declared.name.Name.{Name}
use Rattle.fort_syntax.specs.declared.stmt.Group.{Group}
use Rattle.fort_syntax.specs.declared.stmt.Item.{Item}
use Rattle.fort_syntax.specs.declared.unit.Unit.{Unit as Routine}

-- the name of an operand that is a bare name
abbrev pub bare_of : Operand Tree → Option Name
bare_of (Bare x v) = Some x
bare_of (Part v) = None
bare_of (Computed v) = None

-- the bare actual of a dummy that is smashed
abbrev pub hit : (Name → Bool) → Name → Option Name → List Name
hit smashed d None = []
hit smashed d (Some x) = cond (smashed d) (x ∷ []) []

abbrev pub actual_hits : (Name → Bool) → List Name → List (Option Name) → List Name
actual_hits smashed [] bs = []
actual_hits smashed (d ∷ ds) [] = []
actual_hits smashed (d ∷ ds) (b ∷ bs) = hit smashed d b ++ actual_hits smashed ds bs

-- a COMMON entity that the called unit has too, and smashes
abbrev pub is_hit : (Name → Bool) → Routine → Name → Bool
is_hit smashed g x = has_common g x && smashed x

abbrev pub item_hits : (Name → Bool) → Routine → List Item → List Name
item_hits smashed g [] = []
item_hits smashed g (item ∷ items) = cond (is_hit smashed g item.name) (item.name ∷ item_hits smashed g items)
    (item_hits smashed g items)

abbrev pub group_hits : (Name → Bool) → Routine → List Group → List Name
group_hits smashed g [] = []
group_hits smashed g (group ∷ groups) = item_hits smashed g group.items ++ group_hits smashed g groups

-- names are those that a call of a unit smashes in another one, in every program where the called unit smashes
-- these, and whatever the actuals stand for
abbrev pub AreHits : (u g : Routine) (smashed : List Name) (bare : List (Option Name)) → List Name → Type 0
AreHits u g smashed bare names =
    (w : Sight Tree) (i : ℕ) (xs : List (Operand Tree)) → w.unit ≡ u → smashed_names w.program i ≡ smashed → map bare_of xs ≡ bare
    → names ≡ hits w i g xs
