-- A unit without ranges can only break the rule on clocks.
use Rattle.std.proofs.Common.{◌≡◌, ℕ, zero, suc, Bool, true, false, cond, ◌||◌, List, [], ◌∷◌, ◌++◌, Option, Some, None, slice_get, refl, sym, ap, ◌∙◌}
use Rattle.std.specs.Prelude.{IsTrue}
use Rattle.std.specs.List.{list_any}
use Rattle.formula.specs.declared.node.Node.{Node}
use Rattle.fort_syntax.specs.DeckOrder.{stand_between}
use Rattle.fort_syntax.specs.FirstFaults.{TellsLeast}
use Rattle.fort_syntax.specs.declared.refusal.Fault.{Fault}
use Rattle.fort_syntax.specs.declared.rule.Rule.{Rule}
use Rattle.fort_syntax.specs.declared.rule.Rule.TheVariants.{BadLastOfDo, CrossedDo, JumpIntoDo}
use Rattle.fort_syntax.specs.declared.stmt.Stmt.{Stmt}
use Rattle.fort_syntax.specs.declared.stmt.Stmt.TheVariants.{Do, BlockIf, ElseIf, Else}
use Rattle.fort_syntax.specs.declared.unit.Line.{Line}
use Rattle.fort_syntax.specs.declared.unit.Unit.{Unit as Routine}
use Rattle.fort_notes.specs.Assertions.{notes_tree}
use Rattle.fort_notes.specs.declared.notes.UnitSpec.{UnitSpec}
use Rattle.fort_model.specs.Program.{Program, notes_of}
use Rattle.fort_model.specs.Ranges.{DoRange, Range, do_of, dos_from, block_of, blocks_from, blocks, has_bad_last, crosses, jumps_of, enters, is_branch_stmt, is_branch_line, is_bad_jump, jumps_badly}
use Rattle.fort_model.specs.Flow.{target}
use Rattle.fort_model.specs.Stages.{rules_of_ranges}
use Rattle.unit_faults.specs.Breaking.{BreaksOneOf}
use Rattle.unit_faults.specs.Sooner.{first_at, fault_at}
use Rattle.do_ranges.specs.Begun.{begins_range}
use Rattle.do_ranges.specs.Clocks.{clock_fault}
use Rattle.do_ranges.proofs.Joined.{joined_tells}

neither : (a b : Bool) → (a || b) ≡ false → (a ≡ false) × (b ≡ false)
neither true b h = absurd (cc)
neither false b h = (refl, h)

-- ---- one statement

no_do : (u : Routine) (pc : ℕ) (s : Stmt) → begins_range s ≡ false → do_of u pc s ≡ []
no_do u pc (Do label x first last step) h = absurd (cc)
no_do u pc s h = refl

no_block : (u : Routine) (pc : ℕ) (s : Stmt) → begins_range s ≡ false → block_of u pc s ≡ []
no_block u pc (BlockIf e) h = absurd (cc)
no_block u pc (ElseIf e) h = absurd (cc)
no_block u pc Else h = absurd (cc)
no_block u pc s h = refl

no_last : (u : Routine) (pc : ℕ) (s : Stmt) → begins_range s ≡ false → has_bad_last u pc s ≡ false
no_last u pc (Do label x first last step) h = absurd (cc)
no_last u pc s h = refl

no_crossing : (u : Routine) (pc : ℕ) (s : Stmt) → begins_range s ≡ false → crosses u pc s ≡ false
no_crossing u pc (Do label x first last step) h = absurd (cc)
no_crossing u pc (BlockIf e) h = absurd (cc)
no_crossing u pc s h = refl

no_branch : (s : Stmt) → begins_range s ≡ false → is_branch_stmt s ≡ false
no_branch (ElseIf e) h = absurd (cc)
no_branch Else h = absurd (cc)
no_branch s h = refl

-- ---- all statements

abbrev some_begins : List Line → Bool
some_begins lines = list_any (λ line. begins_range line.stmt) lines

no_dos : (u : Routine) (pc : ℕ) (lines : List Line) → some_begins lines ≡ false → dos_from u pc lines ≡ []
no_dos u pc [] h = refl
no_dos u pc (line ∷ lines) h =
    let parts = neither (begins_range line.stmt) (some_begins lines) h in
    ap (λ (ds : List DoRange). ds ++ dos_from u (suc pc) lines) (no_do u pc line.stmt parts.0) ∙ no_dos u (suc pc) lines parts.1

no_blocks : (u : Routine) (pc : ℕ) (lines : List Line) → some_begins lines ≡ false → blocks_from u pc lines ≡ []
no_blocks u pc [] h = refl
no_blocks u pc (line ∷ lines) h =
    let parts = neither (begins_range line.stmt) (some_begins lines) h in
    ap (λ (rs : List Range). rs ++ blocks_from u (suc pc) lines) (no_block u pc line.stmt parts.0) ∙ no_blocks u (suc pc) lines parts.1

no_branch_at : (lines : List Line) (q : ℕ) → some_begins lines ≡ false → is_branch_line (slice_get lines q) ≡ false
no_branch_at [] q h = refl
no_branch_at (line ∷ lines) zero h = no_branch line.stmt (neither (begins_range line.stmt) (some_begins lines) h).0
no_branch_at (line ∷ lines) (suc q) h = no_branch_at lines q (neither (begins_range line.stmt) (some_begins lines) h).1

-- no statement passes a test that none passes behind which no range begins
none_at : (rule : Rule) (test : ℕ → Stmt → Bool) → ((pc : ℕ) (s : Stmt) → begins_range s ≡ false → test pc s ≡ false) → (n : ℕ) (lines : List Line) → some_begins lines ≡ false
    → None ≡ first_at rule test n lines
none_at rule test none n [] h = refl
none_at rule test none n (line ∷ lines) h =
    let parts = neither (begins_range line.stmt) (some_begins lines) h in
    none_at rule test none (suc n) lines parts.1
    ∙ sym (ap (λ (b : Bool). cond b (Some (fault_at rule line.card)) (first_at rule test (suc n) lines)) (none n line.stmt parts.0))

none_of : (test : ℕ → Bool) → ((n : ℕ) → test n ≡ false) → (ns : List ℕ) → list_any test ns ≡ false
none_of test none [] = refl
none_of test none (n ∷ ns) = ap (λ (b : Bool). b || list_any test ns) (none n) ∙ none_of test none ns

module _ (u : Routine) (h : some_begins u.lines ≡ false) where
  no_jump : (pc : ℕ) (s : Stmt) → jumps_badly u pc s ≡ false
  no_jump pc s = none_of (λ l. is_bad_jump u pc (target u.lines l)) (λ l. one (target u.lines l)) (jumps_of s)
    where
      one : (q : ℕ) → is_bad_jump u pc q ≡ false
      one q =
          ap (λ (ds : List DoRange). list_any (λ d. enters pc q d.range) ds || (list_any (enters pc q) (blocks u) || is_branch_line (slice_get u.lines q))) (no_dos u 0 u.lines h)
          ∙ (ap (λ (rs : List Range). list_any (enters pc q) rs || is_branch_line (slice_get u.lines q)) (no_blocks u 0 u.lines h) ∙ no_branch_at u.lines q h)

-- the fault of a unit without ranges
pub clock_alone : (u : Routine) (p : Program) (i : ℕ) (spec : UnitSpec) (pool : List Node) → notes_of p i ≡ notes_tree pool spec → IsTrue (stand_between u.head u.lines u.«end»)
    → (lines : List Line) (has : Bool) (clock : Option Fault) → lines ≡ u.lines → has ≡ some_begins lines → has ≡ false → clock ≡ clock_fault spec.asserts
    → TellsLeast (BreaksOneOf p rules_of_ranges i u) clock
clock_alone u p i spec pool notes order lines has clock same is lacks told =
    let none : some_begins u.lines ≡ false = sym (ap (λ (ls : List Line). some_begins ls) same) ∙ (sym is ∙ lacks) in
    joined_tells u p i spec pool notes order None None None clock None clock clock
    (none_at BadLastOfDo (has_bad_last u) (no_last u) 0 u.lines none)
    (none_at CrossedDo (crosses u) (no_crossing u) 0 u.lines none)
    (none_at JumpIntoDo (jumps_badly u) (λ pc s b. no_jump u none pc s) 0 u.lines none)
    told refl refl refl
