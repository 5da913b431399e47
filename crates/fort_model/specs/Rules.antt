-- The rules on calls, storage and flow: which unit of a program breaks one, and at which card.
use Rattle.std.specs.Prelude.{◌≡◌, ℕ, suc, ◌==◌, Bool, true, false, not, ◌&&◌, ◌||◌, cond, nat_lt, is_some, List, [], ◌∷◌, ◌++◌, length, take, Some, slice_get}
use Rattle.std.specs.List.{list_any}
use Rattle.formula.specs.Atoms.{same_bytes, is_among}
use Rattle.fort_syntax.specs.Names.{intrinsic, is_own, is_function}
use Rattle.fort_syntax.specs.declared.name.Name.{Name}
use Rattle.fort_syntax.specs.declared.dialect.Dialect.{Dialect}
use Rattle.fort_syntax.specs.declared.dialect.Dialect.TheVariants.{Common, SeventySeven}
use Rattle.fort_syntax.specs.declared.rule.Rule.{Rule}
use Rattle.fort_syntax.specs.declared.rule.Rule.TheVariants.{BadLastOfDo, CrossedDo, JumpIntoDo, DoSmashed, FallsOffEnd, UncutCycle, ClockLength, UnitTwice, UnknownUnit, Recursion, BadArguments, SmashedNotName, SmashedTwice, SmashedCommon, BlockMissing, FunctionSmashes, DimensionSmashed}
use Rattle.fort_syntax.specs.declared.stmt.BlockName.{BlockName}
use Rattle.fort_syntax.specs.declared.stmt.BlockName.TheVariants.{Bare, Slashes, Named}
use Rattle.fort_syntax.specs.declared.stmt.Stmt.{Stmt}
use Rattle.fort_syntax.specs.declared.stmt.Stmt.TheVariants.{GoTo, Computed, ArithIf, Do, Return}
use Rattle.fort_syntax.specs.declared.unit.Line.{Line}
use Rattle.fort_syntax.specs.declared.unit.Unit.{Unit as Routine}
use Rattle.fort_model.specs.Lists.{IsAmong}
use Rattle.fort_notes.specs.Assertions.{Assertion}
use Rattle.fort_model.specs.Program.{Program, notes_of, is_smashed}
use Rattle.fort_model.specs.Paths.{Uncut}
use Rattle.fort_model.specs.Calls.{Reaches, callee_of, sites_of}
use Rattle.fort_model.specs.Walk.{is_some_dim}
use Rattle.fort_model.specs.Ranges.{DoRange, lies_in, dos, param_names, step_names, has_bad_last, crosses, jumps_badly}
use Rattle.fort_model.specs.CallRules.{some_call, stmt_smashes, is_nobody, mismatches, passes_no_name, passes_twice, passes_common, lacks_block}

-- the cards of the statements that pass a test of their points, the first of which is pc
abbrev pub cards_of_lines : (ℕ → Stmt → Bool) → ℕ → List Line → List ℕ
cards_of_lines test pc [] = []
cards_of_lines test pc (line ∷ lines) =
    let rest = cards_of_lines test (suc pc) lines in
    cond (test pc line.stmt) (line.card ∷ rest) rest

abbrev pub at_lines : Routine → (ℕ → Stmt → Bool) → List ℕ
at_lines u test = cards_of_lines test 0 u.lines

-- the card of the head, where the unit as a whole breaks a rule
abbrev pub at_head : Routine → Bool → List ℕ
at_head u broken = cond broken (u.head ∷ []) []

-- ---- 29: a statement in the range of a DO smashes a name of that DO, or a DO has its variable as a parameter

abbrev pub smashes_do : Program → Routine → ℕ → Stmt → DoRange → Bool
smashes_do p u pc s d = lies_in pc d.range && list_any (stmt_smashes p u s) d.names

abbrev pub uses_itself : Stmt → Bool
uses_itself (Do label x first last step) = is_among x (param_names first ++ param_names last ++ step_names step)
uses_itself _ = false

abbrev pub breaks_do : Program → Routine → ℕ → Stmt → Bool
breaks_do p u pc s = uses_itself s || list_any (smashes_do p u pc s) (dos u)

-- ---- 30: the flow goes on behind the last statement

-- what ends a unit; under 77 a computed GO TO may go on behind itself
abbrev pub ends_flow : Dialect → Stmt → Bool
ends_flow dialect (GoTo l) = true
ends_flow dialect (ArithIf e l m n) = true
ends_flow dialect Return = true
ends_flow Common (Computed ls x) = true
ends_flow SeventySeven (Computed ls x) = false
ends_flow dialect _ = false

abbrev pub off_end : Dialect → Routine → List Line → List ℕ
off_end dialect u [] = u.«end» ∷ []
off_end dialect u (line ∷ []) = cond (ends_flow dialect line.stmt) [] (line.card ∷ [])
off_end dialect u (line ∷ (next ∷ lines)) = off_end dialect u (next ∷ lines)

-- ---- 36: clocks have 1 to 4 parts, and as many as the first of the unit

abbrev pub is_bad_clock : ℕ → Assertion → Bool
is_bad_clock parts a = (length a.clock == 0) || (nat_lt 4 (length a.clock) || not (length a.clock == parts))

abbrev pub bad_clocks : ℕ → List Assertion → List ℕ
bad_clocks parts [] = []
bad_clocks parts (a ∷ rest) =
    let more = bad_clocks parts rest in
    cond (is_bad_clock parts a) (a.card ∷ more) more

abbrev pub all_clocks : List Assertion → List ℕ
all_clocks [] = []
all_clocks (a ∷ rest) = bad_clocks (length a.clock) (a ∷ rest)

-- ---- 37: the name of a unit

abbrev pub is_block_name : Name → BlockName → Bool
is_block_name x (Named y) = same_bytes x y
is_block_name x Bare = false
is_block_name x Slashes = false

-- it is that of an earlier unit, of an intrinsic function, or of a COMMON block of the deck
abbrev pub is_name_taken : Program → ℕ → Routine → Bool
is_name_taken p i u =
    list_any (λ g. same_bytes g.name u.name) (take i p.units)
    || (is_some (intrinsic u.name) || list_any (λ g. list_any (λ group. is_block_name u.name group.block) g.blocks) p.units)

-- ---- 38: a call of a unit that the deck has not

abbrev pub calls_nobody : Program → Routine → Stmt → Bool
calls_nobody p u s = list_any (λ site. is_nobody (callee_of p.units site)) (sites_of u s)

-- ---- 45 and 49

-- a FUNCTION smashes what its caller sees
abbrev pub function_smashes : Program → ℕ → Routine → Bool
function_smashes p i u = is_function u && list_any (λ d. not (is_own d.role) && is_smashed p i d.name) u.names

-- a unit smashes a name that is a dimension of one of its arrays
abbrev pub dim_smashed : Program → ℕ → Routine → Bool
dim_smashed p i u = list_any (λ d. is_some_dim u d.name && is_smashed p i d.name) u.names

-- ---- all of them

-- the cards at which the unit of number i breaks a rule, for the rules that are judged by looking
abbrev pub cards_breaking : Program → Rule → ℕ → Routine → List ℕ
cards_breaking p BadLastOfDo i u = at_lines u (has_bad_last u)
cards_breaking p CrossedDo i u = at_lines u (crosses u)
cards_breaking p JumpIntoDo i u = at_lines u (jumps_badly u)
cards_breaking p DoSmashed i u = at_lines u (breaks_do p u)
cards_breaking p FallsOffEnd i u = off_end p.dialect u u.lines
cards_breaking p ClockLength i u = all_clocks (notes_of p i).asserts
cards_breaking p UnitTwice i u = at_head u (is_name_taken p i u)
cards_breaking p UnknownUnit i u = at_lines u (λ pc s. calls_nobody p u s)
cards_breaking p BadArguments i u = at_lines u (λ pc s. some_call p u s (mismatches u))
cards_breaking p SmashedNotName i u = at_lines u (λ pc s. some_call p u s (passes_no_name p))
cards_breaking p SmashedTwice i u = at_lines u (λ pc s. some_call p u s (passes_twice p))
cards_breaking p SmashedCommon i u = at_lines u (λ pc s. some_call p u s (passes_common p u))
cards_breaking p BlockMissing i u = at_lines u (λ pc s. some_call p u s (λ site. lacks_block u))
cards_breaking p FunctionSmashes i u = at_head u (function_smashes p i u)
cards_breaking p DimensionSmashed i u = at_head u (dim_smashed p i u)
cards_breaking p _ i u = []

-- 31: the statement at a card lies on a cycle of the flow on which no statement has an ASSERT
pub record LiesOnUncutCycle (p : Program) (i : ℕ) (u : Routine) (card : ℕ) : Type 0 where
  pub point : ℕ
  pub line : Line
  pub at : slice_get u.lines point ≡ Some line
  pub is_card : line.card ≡ card
  pub cycle : Uncut p.dialect u (notes_of p i) point point

-- 39: a unit calls itself, directly or through others; the card is that of its head
pub record CallsItself (p : Program) (i : ℕ) (u : Routine) (card : ℕ) : Type 0 where
  pub is_card : u.head ≡ card
  pub way : Reaches p.units i i

abbrev pub Breaks : Program → Rule → ℕ → Routine → ℕ → Type 0
Breaks p UncutCycle i u card = LiesOnUncutCycle p i u card
Breaks p Recursion i u card = CallsItself p i u card
Breaks p rule i u card = IsAmong card (cards_breaking p rule i u)

-- a rule is broken by the unit of number i at a card
pub record IsBroken (p : Program) (rule : Rule) (i card : ℕ) : Type 0 where
  pub unit : Routine
  pub is_unit : slice_get p.units i ≡ Some unit
  pub breaks : Breaks p rule i unit card

-- a program keeps a rule: no unit breaks it
abbrev pub KeepsRule : Program → Rule → Type 0
KeepsRule p rule = (i card : ℕ) → IsBroken p rule i card → ⊥

-- a program keeps all of these rules
abbrev pub KeepsRules : Program → Type 0
KeepsRules p = (rule : Rule) → KeepsRule p rule
