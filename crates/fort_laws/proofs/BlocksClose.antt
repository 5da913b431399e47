-- In a well-formed unit each block IF, and each branch of one, is closed by an END IF behind it.
use Rattle.std.proofs.Common.{◌≡◌, ◌≤◌, ℕ, zero, suc, ◌+◌, ◌⊎◌, inl, inr, Bool, true, false, cond, not, ◌&&◌, List, [], ◌∷◌, ◌++◌, length, drop, Some, slice_get, nat_lt, refl, sym, ap, ◌∙◌, subst, arith}
use Rattle.fort_syntax.specs.OrderRules.{blocks_behind, blocks_open, has_no_branch, is_outside, still_open, stays_open, is_bad_block}
use Rattle.fort_syntax.specs.UseRules.{has_label}
use Rattle.fort_syntax.specs.WellFormed.{IsWellFormedUnit, are_in_order}
use Rattle.fort_syntax.specs.declared.dialect.Dialect.{Dialect}
use Rattle.fort_syntax.specs.declared.stmt.Stmt.{Stmt}
use Rattle.fort_syntax.specs.declared.stmt.Stmt.TheVariants.{Subroutine, Function, Declare, Dimension, Common, Assign, GoTo, Computed, ArithIf, LogicalIf', Do, Continue, Call, Return, End, BlockIf, ElseIf, Else, EndIf}
use Rattle.fort_syntax.specs.declared.unit.Line.{Line}
use Rattle.fort_syntax.specs.declared.unit.Unit.{Unit as Routine}
use Rattle.fort_model.specs.Flow.{Part, Opens, Branches, Closes, Plain, part_of, level_behind, lines_before}
use Rattle.fort_laws.proofs.FrameSeats.{clash}
use Rattle.fort_laws.proofs.RulesKept.{split}
use Rattle.fort_laws.proofs.Tests.{not_so}

-- a statement stands at a point
abbrev pub IsAt : List Line → ℕ → Type 0
IsAt lines q = (line : Line) × (slice_get lines q ≡ Some line)

-- ---- how many block IFs are open

still_level : (s : Stmt) (n : ℕ) → still_open s n ≡ level_behind (part_of s) n
still_level (Subroutine f dummies) n = refl
still_level (Function sort f dummies) n = refl
still_level (Declare sort items) n = refl
still_level (Dimension items) n = refl
still_level (Common groups) n = refl
still_level (Assign left right) n = refl
still_level (GoTo label) n = refl
still_level (Computed labels x) n = refl
still_level (ArithIf e l m k) n = refl
still_level (LogicalIf' e shape s) n = refl
still_level (Do label x first last step) n = refl
still_level Continue n = refl
still_level (Call f args) n = refl
still_level Return n = refl
still_level End n = refl
still_level (BlockIf e) n = refl
still_level (ElseIf e) n = refl
still_level Else n = refl
still_level EndIf zero = refl
still_level EndIf (suc n) = refl

depth_level : (s : Stmt) (open_blocks : List Bool) → length (blocks_behind s open_blocks) ≡ level_behind (part_of s) (length open_blocks)
depth_level (Subroutine f dummies) bs = refl
depth_level (Function sort f dummies) bs = refl
depth_level (Declare sort items) bs = refl
depth_level (Dimension items) bs = refl
depth_level (Common groups) bs = refl
depth_level (Assign left right) bs = refl
depth_level (GoTo label) bs = refl
depth_level (Computed labels x) bs = refl
depth_level (ArithIf e l m k) bs = refl
depth_level (LogicalIf' e shape s) bs = refl
depth_level (Do label x first last step) bs = refl
depth_level Continue bs = refl
depth_level (Call f args) bs = refl
depth_level Return bs = refl
depth_level End bs = refl
depth_level (BlockIf e) bs = refl
depth_level (ElseIf e) bs = refl
depth_level Else [] = refl
depth_level Else (had ∷ bs) = refl
depth_level EndIf [] = refl
depth_level EndIf (had ∷ bs) = refl

-- what the rule on block IFs says of a statement, with so many block IFs open before it
abbrev BlockFact : Part → ℕ → List Line → Type 0
BlockFact Opens depth behind = stays_open 1 behind ≡ false
BlockFact Branches depth behind = 1 ≤ depth
BlockFact Closes depth behind = 1 ≤ depth
BlockFact Plain depth behind = Unit {0}

some_open : (bs : List Bool) → is_outside bs ≡ false → 1 ≤ length bs
some_open [] h = absurd (cc)
some_open (had ∷ bs) h = omega arith

some_branch : (bs : List Bool) → has_no_branch bs ≡ false → 1 ≤ length bs
some_branch [] h = absurd (cc)
some_branch (had ∷ bs) h = omega arith

block_fact : (before : List Line) (s : Stmt) (behind : List Line) → is_bad_block before s behind ≡ false → BlockFact (part_of s) (length (blocks_open [] before)) behind
block_fact before (Subroutine f dummies) behind h = tt
block_fact before (Function sort f dummies) behind h = tt
block_fact before (Declare sort items) behind h = tt
block_fact before (Dimension items) behind h = tt
block_fact before (Common groups) behind h = tt
block_fact before (Assign left right) behind h = tt
block_fact before (GoTo label) behind h = tt
block_fact before (Computed labels x) behind h = tt
block_fact before (ArithIf e l m k) behind h = tt
block_fact before (LogicalIf' e shape s) behind h = tt
block_fact before (Do label x first last step) behind h = tt
block_fact before Continue behind h = tt
block_fact before (Call f args) behind h = tt
block_fact before Return behind h = tt
block_fact before End behind h = tt
block_fact before (BlockIf e) behind h = h
block_fact before (ElseIf e) behind h = some_branch (blocks_open [] before) h
block_fact before Else behind h = some_branch (blocks_open [] before) h
block_fact before EndIf behind h = some_open (blocks_open [] before) h

-- ---- the first END IF of a level

step_up : (part : Part) (level n : ℕ) → suc level ≤ n → (part ≡ Closes → level ≡ 0 → ⊥) → suc (level_behind part level) ≤ level_behind part n
step_up Opens level n le h = omega (arith, le)
step_up Closes zero n le h = absurd (h refl refl)
step_up Closes (suc level) zero le h = absurd (omega (arith, le))
step_up Closes (suc level) (suc n) le h = omega (arith, le)
step_up Branches level n le h = le
step_up Plain level n le h = le

-- one statement on
shift : (line : Line) (lines : List Line) (n : ℕ) → 1 ≤ n → stays_open n (line ∷ lines) ≡ false → stays_open (level_behind (part_of line.stmt) n) lines ≡ false
shift line lines zero le h = absurd (omega (arith, le))
shift line lines (suc n) le h = ap (λ k. stays_open k lines) (sym (still_level line.stmt (suc n))) ∙ h

-- where block IFs are closed, the first END IF of the level, or a branch before it, is found
found_close : (sought : Part → ℕ → Bool) → sought Closes 0 ≡ true → (lines : List Line) (n level : ℕ) → suc level ≤ n → stays_open n lines ≡ false → IsAt lines (lines_before sought lines level)
found_close sought stops [] zero level le h = absurd (omega (arith, le))
found_close sought stops [] (suc n) level le h = absurd (cc)
found_close sought stops (line ∷ lines) n level le h =
    by_test (sought (part_of line.stmt) level) refl
    (λ up. found_close sought stops lines (level_behind (part_of line.stmt) n) (level_behind (part_of line.stmt) level) up (shift line lines n (omega (arith, le)) h))
  where
    by_test : (t : Bool) → sought (part_of line.stmt) level ≡ t
        → (suc (level_behind (part_of line.stmt) level) ≤ level_behind (part_of line.stmt) n → IsAt lines (lines_before sought lines (level_behind (part_of line.stmt) level)))
        → IsAt (line ∷ lines) (cond t 0 (suc (lines_before sought lines (level_behind (part_of line.stmt) level))))
    by_test true e rec = (line, refl)
    by_test false e rec =
        rec (step_up (part_of line.stmt) level n le (λ p z. clash (sought (part_of line.stmt) level) (ap (λ q. sought q level) p ∙ (ap (sought Closes) z ∙ stops)) e))

-- ---- all open block IFs are closed

-- so many open block IFs are closed behind
abbrev AllClose : ℕ → List Line → Type 0
AllClose depth lines = (n : ℕ) → 1 ≤ n → n ≤ depth → stays_open n lines ≡ false

after_line : (part : Part) (depth : ℕ) (lines : List Line) → BlockFact part depth lines → ((n : ℕ) → 1 ≤ n → n ≤ depth → stays_open (level_behind part n) lines ≡ false) → AllClose (level_behind part depth) lines
after_line Opens depth lines fact h zero low high = absurd (omega (arith, low))
after_line Opens depth lines fact h (suc zero) low high = fact
after_line Opens depth lines fact h (suc (suc n)) low high = h (suc n) (omega arith) (omega (arith, high))
after_line Closes zero lines fact h n low high = absurd (omega (arith, fact))
after_line Closes (suc depth) lines fact h n low high = h (suc n) (omega arith) (omega (arith, high))
after_line Branches depth lines fact h n low high = h n low high
after_line Plain depth lines fact h n low high = h n low high

open_behind : (open_blocks : List Bool) (before : List Line) (line : Line) → blocks_open open_blocks (before ++ line ∷ []) ≡ blocks_behind line.stmt (blocks_open open_blocks before)
open_behind open_blocks [] line = refl
open_behind open_blocks (x ∷ xs) line = open_behind (blocks_behind x.stmt open_blocks) xs line

-- a block IF or a branch
abbrev pub IsFork : Stmt → Type 0
IsFork s = (part_of s ≡ Opens) ⊎ (part_of s ≡ Branches)

closed_behind : (line : Line) (lines : List Line) (depth : ℕ) → IsFork line.stmt → BlockFact (part_of line.stmt) depth lines → AllClose depth (line ∷ lines) → stays_open 1 lines ≡ false
closed_behind line lines depth (inl opens) fact all = subst (λ q. BlockFact q depth lines) opens fact
closed_behind line lines depth (inr branches) fact all =
    subst (λ q. stays_open (level_behind q 1) lines ≡ false) branches (shift line lines 1 (omega arith) (all 1 (omega arith) (subst (λ q. BlockFact q depth lines) branches fact)))

fork_closed : (before : List Line) (lines : List Line) (k : ℕ) (line : Line) → are_in_order before lines ≡ true → AllClose (length (blocks_open [] before)) lines
    → slice_get lines k ≡ Some line → IsFork line.stmt → stays_open 1 (drop (suc k) lines) ≡ false
fork_closed before [] k line ordered all e fork = absurd (cc)
fork_closed before (x ∷ xs) k line ordered all e fork = by_place k e (λ j q. fork_closed (before ++ x ∷ []) xs j line behind.1 further q fork)
  where
    behind : ((not (is_bad_block before x.stmt xs) && not (has_label x.label before)) ≡ true) × (are_in_order (before ++ x ∷ []) xs ≡ true)
    behind = split (not (is_bad_block before x.stmt xs) && not (has_label x.label before)) (are_in_order (before ++ x ∷ []) xs) ordered

    fact : BlockFact (part_of x.stmt) (length (blocks_open [] before)) xs
    fact =
        block_fact before x.stmt xs
        (not_so (is_bad_block before x.stmt xs)
        (split (not (is_bad_block before x.stmt xs)) (not (has_label x.label before)) behind.0).0)

    further : AllClose (length (blocks_open [] (before ++ x ∷ []))) xs
    further =
        subst (λ d. AllClose d xs) (sym (ap length (open_behind [] before x) ∙ depth_level x.stmt (blocks_open [] before)))
        (after_line (part_of x.stmt) (length (blocks_open [] before)) xs fact (λ n low high. shift x xs n low (all n low high)))

    by_place : (k : ℕ) → slice_get (x ∷ xs) k ≡ Some line → ((j : ℕ) → slice_get xs j ≡ Some line → stays_open 1 (drop (suc j) xs) ≡ false) → stays_open 1 (drop k xs) ≡ false
    by_place zero q rec =
        let s : x ≡ line = cc in
        closed_behind x xs (length (blocks_open [] before)) (subst (λ (z : Line). IsFork z.stmt) (sym s) fork) fact all
    by_place (suc j) q rec = rec j q

drop_at : (k : ℕ) (lines : List Line) (m : ℕ) → slice_get (drop k lines) m ≡ slice_get lines (k + m)
drop_at zero lines m = let e : m ≡ 0 + m = omega arith in ap (slice_get lines) e
drop_at (suc k) [] m = refl
drop_at (suc k) (x ∷ xs) m = let e : suc (k + m) ≡ suc k + m = omega arith in drop_at k xs m ∙ ap (slice_get (x ∷ xs)) e

-- behind a block IF or a branch, its END IF is found, or a branch before it
pub fork_ends : (dialect : Dialect) (u : Routine) → IsWellFormedUnit dialect u → (sought : Part → ℕ → Bool) → sought Closes 0 ≡ true → (pc : ℕ) (line : Line) → slice_get u.lines pc ≡ Some line → IsFork line.stmt
    → IsAt u.lines (suc pc + lines_before sought (drop (suc pc) u.lines) 0)
fork_ends dialect u w sought stops pc line e fork =
    let closed = fork_closed [] u.lines pc line w.order (λ n low high. absurd (omega (arith, low, high))) e fork in
    let found = found_close sought stops (drop (suc pc) u.lines) 1 0 (omega arith) closed in
    (found.0, sym (drop_at (suc pc) u.lines (lines_before sought (drop (suc pc) u.lines) 0)) ∙ found.1)
