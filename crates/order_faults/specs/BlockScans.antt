-- What passes over the statements of a unit find of its block IFs.
use Rattle.std.specs.Prelude.{ℕ, zero, suc, pred, Bool, true, false, cond, List, [], ◌∷◌, Option, Some, None}
use Rattle.fort_syntax.specs.UnitRules.{fault_before}
use Rattle.fort_syntax.specs.Units.{Segment}
use Rattle.fort_syntax.specs.OrderRules.{blocks_behind, has_no_branch, is_outside}
use Rattle.fort_syntax.specs.declared.refusal.Fault.{Fault}
use Rattle.fort_syntax.specs.declared.rule.Rule.TheVariants.{BadBlockIf}
use Rattle.fort_syntax.specs.declared.stmt.Stmt.{Stmt}
use Rattle.fort_syntax.specs.declared.stmt.Stmt.TheVariants.{BlockIf, ElseIf, Else, EndIf}
use Rattle.fort_syntax.specs.declared.unit.Line.{Line}

-- a branch or an end that no block IF is open for
abbrev pub is_misplaced : Stmt → List Bool → Bool
is_misplaced (ElseIf e) blocks = has_no_branch blocks
is_misplaced Else blocks = has_no_branch blocks
is_misplaced EndIf blocks = is_outside blocks
is_misplaced _ blocks = false

-- how many statements stand before the first such one, by the block IFs that are open
abbrev pub before_misplaced : List Bool → List Line → ℕ
before_misplaced blocks [] = 0
before_misplaced blocks (line ∷ lines) =
    cond (is_misplaced line.stmt blocks) 0 (suc (before_misplaced (blocks_behind line.stmt blocks) lines))

-- a statement before so many END IFs that are of no block IF behind it
abbrev pub ends_with : Stmt → ℕ → ℕ
ends_with (BlockIf e) n = pred n
ends_with EndIf n = suc n
ends_with _ n = n

-- how many END IFs of some statements are of no block IF of theirs
abbrev pub ends : List Line → ℕ
ends [] = 0
ends (line ∷ lines) = ends_with line.stmt (ends lines)

-- a block IF that none of so many END IFs is of
abbrev pub is_unclosed : Stmt → ℕ → Bool
is_unclosed (BlockIf e) zero = true
is_unclosed _ n = false

abbrev pub before_unclosed : List Line → ℕ
before_unclosed [] = 0
before_unclosed (line ∷ lines) = cond (is_unclosed line.stmt (ends lines)) 0 (suc (before_unclosed lines))

-- the fault at the statement behind so many
abbrev pub fault_behind : ℕ → List Line → Option Fault
fault_behind n [] = None
fault_behind zero (line ∷ lines) = Some (record { rule = BadBlockIf; card = line.card })
fault_behind (suc n) (line ∷ lines) = fault_behind n lines

abbrev pub sooner : ℕ → ℕ → ℕ
sooner zero b = zero
sooner (suc a) zero = zero
sooner (suc a) (suc b) = suc (sooner a b)

-- the first fault of statements by the rule on block IFs
abbrev pub block_scan : List Bool → List Line → Option Fault
block_scan blocks lines = fault_behind (sooner (before_misplaced blocks lines) (before_unclosed lines)) lines

-- the first fault of units by this rule
abbrev pub block_scans : List Segment → Option Fault
block_scans [] = None
block_scans (unit ∷ units) = fault_before (block_scan [] unit) (block_scans units)
