-- Which definitions may be added to others, and the first fault of one that may not.
use Rattle.std.specs.Prelude.{ℕ, zero, suc, ◌≡◌, ◌==◌, ◌&&◌, nat_le, nat_lt, Bool, true, false, not, is_some, if◌then◌else◌, pos, List, [], ◌∷◌, ◌++◌, length, Option, Some, None, slice_get}
use Rattle.std.specs.Ordering.{int_eq}
use Rattle.formula.specs.declared.function.BuiltIn.TheVariants.{Difference}
use Rattle.formula.specs.declared.function.Func.TheVariants.{BuiltIn}
use Rattle.formula.specs.declared.definition.Body.{Body}
use Rattle.formula.specs.declared.definition.Body.TheVariants.{Plain, Counting}
use Rattle.formula.specs.declared.definition.Definition.{Definition}
use Rattle.formula.specs.declared.definition.Heading.{Heading}
use Rattle.formula.specs.declared.definition_fault.DefFault.{DefFault}
use Rattle.formula.specs.declared.definition_fault.DefFault.TheVariants.{KnownName, UnknownFunction, BadCount, BadRecursion, FreeName, SameParameter}
use Rattle.formula.specs.declared.node.Node.{Node}
use Rattle.formula.specs.Atoms.{same_bytes, is_among, has_twin}
use Rattle.formula.specs.Headings.{heading_with, heading_of, is_headed}
use Rattle.formula.specs.Pool.{Grows, IsIn}
use Rattle.formula.specs.Reading.{head_named}
use Rattle.formula.specs.TermTests.{names_pass, uses_pass}
use Rattle.formula.specs.Tree.{Tree, num, symbol, apply, Row, none, more}
use Rattle.formula.specs.Worth.{FunctionBody, plain, counting, body_of}

-- each term of a body passes a test
abbrev pub body_passes : (Tree → Bool) → FunctionBody → Bool
body_passes test (plain t) = test t
body_passes test (counting base step) = test base && test step

-- ---- the faults, by the numbers of definitions, which count from 1

-- an earlier definition, or the one that is added, which has the number k
abbrev pub is_known_use : ℕ → ℕ → Row → Bool
is_known_use k j row = nat_lt 0 j && nat_le j k

-- another definition than that of number k
abbrev pub is_other : ℕ → ℕ → Row → Bool
is_other k j row = not (j == k)

-- the term (ZDIFF p 1)
abbrev pub is_one_less : List ℕ → Tree → Bool
is_one_less p (apply (BuiltIn Difference) (more (symbol s) (more (num z) none))) = same_bytes p s && int_eq z (pos 1)
is_one_less p t = false

abbrev pub first_is_one_less : List (List ℕ) → Row → Bool
first_is_one_less (p ∷ ps) (more t rest) = is_one_less p t
first_is_one_less ps row = false

-- a use of the definition of number k counts its first parameter down by one
abbrev pub counts_down : ℕ → List (List ℕ) → ℕ → Row → Bool
counts_down k params j row = if j == k then first_is_one_less params row else true

abbrev pub has_one : List (List ℕ) → Bool
has_one [] = false
has_one (p ∷ ps) = true

-- a plain term and a base don't use the definition itself; a step does so only while it counts down
abbrev pub recurs_well : ℕ → List (List ℕ) → FunctionBody → Bool
recurs_well k params (plain t) = uses_pass (is_other k) t
recurs_well k params (counting base step) = has_one params && (uses_pass (is_other k) base && uses_pass
    (counts_down k params) step)

-- each symbol is one of these, and no entry value stands in the term
abbrev pub has_names_of : List (List ℕ) → Tree → Bool
has_names_of params t = names_pass (λ s. is_among s params) (λ s. false) t

-- a name is that of a built-in function or of an earlier definition, or OLD
abbrev pub is_known_name : List Heading → List ℕ → Bool
is_known_name earlier name = is_some (head_named earlier None name)

-- the first fault, by the order of the list, of a definition after earlier ones
abbrev pub adding_fault : List Heading → List ℕ → List (List ℕ) → FunctionBody → Option DefFault
adding_fault earlier name params body =
    if is_known_name earlier name then Some KnownName
    else if not (body_passes (uses_pass (is_known_use (suc (length earlier)))) body) then Some UnknownFunction
    else if not (body_passes (uses_pass (is_headed (earlier ++ heading_with name params ∷ []))) body) then Some BadCount
    else if not (recurs_well (suc (length earlier)) params body) then Some BadRecursion
    else if not (body_passes (has_names_of params) body) then Some FreeName
    else if has_twin params then Some SameParameter
    else None

-- ---- definitions that were added

-- the definition of a number
abbrev pub definition_at : List Definition → ℕ → Option Definition
definition_at ds zero = None
definition_at ds (suc k) = slice_get ds k

-- the terms of a body are of the pool
abbrev pub IsBodyIn : List Node → Body → Type 0
IsBodyIn pool (Plain t) = IsIn pool t
IsBodyIn pool (Counting base step) = IsIn pool base × IsIn pool step

-- the bodies of definitions are of the pool
abbrev pub AreBodiesIn : List Node → List Definition → Type 0
AreBodiesIn pool [] = Unit {0}
AreBodiesIn pool (d ∷ rest) = IsBodyIn pool d.body × AreBodiesIn pool rest

-- definitions were added, one after another, to those of earlier headings
abbrev pub AreAddedTo : List Node → List Heading → List Definition → Type 0
AreAddedTo pool earlier [] = Unit {0}
AreAddedTo pool earlier (d ∷ rest) =
    (IsBodyIn pool d.body × (adding_fault earlier d.name d.params (body_of pool d.body) ≡ None))
    × AreAddedTo pool (earlier ++ heading_of d ∷ []) rest

-- definitions were added, one after another, with this pool
abbrev pub AreAdded : List Node → List Definition → Type 0
AreAdded pool ds = AreAddedTo pool [] ds

-- each use in the bodies is of an earlier definition or of the one that the body is of, with its number of arguments
abbrev pub AreUsesKnownTo : List Node → List Heading → List Definition → Type 0
AreUsesKnownTo pool earlier [] = Unit {0}
AreUsesKnownTo pool earlier (d ∷ rest) =
    (body_passes (uses_pass (is_headed (earlier ++ heading_of d ∷ []))) (body_of pool d.body) ≡ true)
    × AreUsesKnownTo pool (earlier ++ heading_of d ∷ []) rest

abbrev pub AreUsesKnown : List Node → List Definition → Type 0
AreUsesKnown pool ds = AreUsesKnownTo pool [] ds

-- the bodies of definitions that were added are in the pool, and use only what is known there
abbrev pub AddedAreSound : Type 0
AddedAreSound = (pool : List Node) (ds : List Definition) → AreAdded pool ds → AreBodiesIn pool ds × AreUsesKnown pool ds

-- definitions that were added with a pool stay so when nodes are added to it
abbrev pub AddedStay : Type 0
AddedStay = (old new : List Node) (ds : List Definition) → Grows old new → AreAdded old ds → AreAdded new ds
