-- Where statements may stand: rules 12 to 14 on heads, declarations and END, and rule 50 on block IFs.
use Rattle.std.specs.Prelude.{ℕ, zero, suc, ◌&&◌, ◌||◌, not, Bool, true, false, List, [], ◌∷◌, ◌++◌}
use Rattle.std.specs.List.{list_any}
use Rattle.fort_syntax.specs.Units.{Segment, class_of, is_heading, is_declaring, is_performing, is_ending}
use Rattle.fort_syntax.specs.declared.dialect.Dialect.{Dialect}
use Rattle.fort_syntax.specs.declared.stmt.Stmt.{Stmt}
use Rattle.fort_syntax.specs.declared.stmt.Stmt.TheVariants.{BlockIf, ElseIf, Else, EndIf}
use Rattle.fort_syntax.specs.declared.unit.Line.{Line}

-- a statement and what stands around it: the units before, all of its own unit, and of that what
-- stands before it and behind it
pub record Place : Type 0 where
  pub dialect : Dialect
  pub earlier : List Segment
  pub unit : Segment
  pub before : List Line
  pub line : Line
  pub behind : List Line

-- the statements of a unit behind some of them, each with what stands around it
abbrev pub places_in : Dialect → List Segment → Segment → List Line → List Line → List Place
places_in dialect earlier unit before [] = []
places_in dialect earlier unit before (line ∷ behind) =
    record { dialect = dialect; earlier = earlier; unit = unit; before = before; line = line; behind = behind }
    ∷ places_in dialect earlier unit (before ++ line ∷ []) behind

abbrev pub places_from : Dialect → List Segment → List Segment → List Place
places_from dialect earlier [] = []
places_from dialect earlier (unit ∷ rest) =
    places_in dialect earlier unit [] unit ++ places_from dialect (earlier ++ unit ∷ []) rest

-- the statements of some units in order, each with what stands around it
abbrev pub places : Dialect → List Segment → List Place
places dialect units = places_from dialect [] units

abbrev pub is_empty : List Line → Bool
is_empty [] = true
is_empty (line ∷ lines) = false

abbrev pub has_executable : List Line → Bool
has_executable lines = list_any (λ line. is_performing (class_of line.stmt)) lines

-- 12: a head inside a unit, or a declaration behind an executable statement of its unit
abbrev pub breaks_12 : Place → Bool
breaks_12 p =
    (is_heading (class_of p.line.stmt) && not (is_empty p.before))
    || (is_declaring (class_of p.line.stmt) && has_executable p.before)

-- 13: the first statement of the deck, or the first behind an END, is no head
abbrev pub breaks_13 : Place → Bool
breaks_13 p = is_empty p.before && not (is_heading (class_of p.line.stmt))

-- 14: the last statement of the deck is not END
abbrev pub breaks_14 : Place → Bool
breaks_14 p = is_empty p.behind && not (is_ending (class_of p.line.stmt))

-- ---- block IF

-- the block IFs that are open, the innermost first: each has had its ELSE or not
abbrev pub blocks_behind : Stmt → List Bool → List Bool
blocks_behind (BlockIf e) open_blocks = false ∷ open_blocks
blocks_behind Else (had ∷ open_blocks) = true ∷ open_blocks
blocks_behind EndIf (had ∷ open_blocks) = open_blocks
blocks_behind _ open_blocks = open_blocks

abbrev pub blocks_open : List Bool → List Line → List Bool
blocks_open open_blocks [] = open_blocks
blocks_open open_blocks (line ∷ lines) = blocks_open (blocks_behind line.stmt open_blocks) lines

-- no block IF is open, or the innermost one has had its ELSE
abbrev pub has_no_branch : List Bool → Bool
has_no_branch [] = true
has_no_branch (had ∷ open_blocks) = had

abbrev pub is_outside : List Bool → Bool
is_outside [] = true
is_outside (had ∷ open_blocks) = false

-- so many block IFs and one more are open, and not all of them are ended
-- behind a statement so many block IFs are still to be ended
abbrev pub still_open : Stmt → ℕ → ℕ
still_open (BlockIf e) n = suc n
still_open EndIf zero = zero
still_open EndIf (suc n) = n
still_open _ n = n

abbrev pub is_ended : ℕ → Bool
is_ended zero = true
is_ended (suc n) = false

-- so many block IFs are to be ended, and the statements do not end them all
abbrev pub stays_open : ℕ → List Line → Bool
stays_open n [] = not (is_ended n)
stays_open n (line ∷ lines) = not (is_ended n) && stays_open (still_open line.stmt n) lines

-- a branch or an end of a block IF that none is open for, or a block IF without an end, of which some
-- statements stand before and behind
abbrev pub is_bad_block : List Line → Stmt → List Line → Bool
is_bad_block before (BlockIf e) behind = stays_open 1 behind
is_bad_block before (ElseIf e) behind = has_no_branch (blocks_open [] before)
is_bad_block before Else behind = has_no_branch (blocks_open [] before)
is_bad_block before EndIf behind = is_outside (blocks_open [] before)
is_bad_block before _ behind = false

-- 50: an ELSE IF, ELSE or END IF where no block IF is open; an ELSE IF or ELSE behind the ELSE of its
-- block IF; a block IF that has no END IF
abbrev pub breaks_50 : Place → Bool
breaks_50 p = is_bad_block p.before p.line.stmt p.behind
