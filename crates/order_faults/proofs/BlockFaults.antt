-- Two passes find the first fault of block IFs.
use Rattle.std.proofs.Common.{◌≡◌, ◌<◌, ◌≤◌, length, slice_index_or, ℕ, zero, suc, List, [], ◌∷◌, ◌++◌, Bool, true, false, refl, ap, ◌∙◌, sym, arith, rules}
use Rattle.std.specs.Prelude.{◌||◌, ◌&&◌, not, cond, nat_lt, Some, None}
use Rattle.fort_syntax.specs.CardRules.{fault_or}
use Rattle.fort_syntax.specs.Units.{Segment}
use Rattle.fort_syntax.specs.OrderRules.{places_in, places_from, places, blocks_behind, blocks_open, stays_open, still_open, is_ended, is_bad_block, has_no_branch, is_outside}
use Rattle.fort_syntax.specs.UnitRules.{block_rules, fault_in_stage, fault_before}
use Rattle.fort_syntax.specs.declared.dialect.Dialect.{Dialect}
use Rattle.fort_syntax.specs.declared.rule.Rule.TheVariants.{BadBlockIf}
use Rattle.fort_syntax.specs.declared.expr.Expr.{Expr}
use Rattle.fort_syntax.specs.declared.stmt.Stmt.{Stmt}
use Rattle.fort_syntax.specs.declared.stmt.Stmt.TheVariants.{BlockIf, ElseIf, Else, EndIf}
use Rattle.fort_syntax.specs.declared.unit.Line.{Line}
use Rattle.order_faults.proofs.OrderScans.{fault_in_both}
use Rattle.order_faults.specs.BlockScans.{is_misplaced, before_misplaced, ends_with, ends, is_unclosed, before_unclosed, fault_behind, sooner, block_scan, block_scans}

none_below : (m : ℕ) → nat_lt m 0 ≡ false
none_below m = grind arith

-- behind a statement block IFs are to be ended, where those before it are
opened : (s : Stmt) (n m : ℕ) → (not (is_ended n) && nat_lt m (still_open s n)) ≡ nat_lt (ends_with s m) n
opened s zero m = sym (none_below (ends_with s m))
opened (BlockIf e) (suc n) zero = grind arith
opened (BlockIf e) (suc n) (suc m) = grind arith
opened EndIf (suc n) m = grind arith
opened s (suc n) m = refl

-- n block IFs stay open where fewer END IFs are left for them
stays : (n : ℕ) (lines : List Line) → stays_open n lines ≡ nat_lt (ends lines) n
stays zero [] = refl
stays (suc n) [] = grind arith
stays n (line ∷ lines) =
    ap (λ b. not (is_ended n) && b) (stays (still_open line.stmt n) lines) ∙ opened line.stmt n (ends lines)

not_one : (e : Expr) (m : ℕ) → nat_lt m 1 ≡ is_unclosed (BlockIf e) m
not_one e zero = refl
not_one e (suc m) = grind arith

or_false : (b : Bool) → b ≡ (b || false)
or_false true = refl
or_false false = refl

bad : (before : List Line) (s : Stmt) (behind : List Line)
    → is_bad_block before s behind ≡ (is_misplaced s (blocks_open [] before) || is_unclosed s (ends behind))
bad before (BlockIf e) behind = stays 1 behind ∙ not_one e (ends behind)
bad before (ElseIf e) behind = or_false (has_no_branch (blocks_open [] before))
bad before Else behind = or_false (has_no_branch (blocks_open [] before))
bad before EndIf behind = or_false (is_outside (blocks_open [] before))
bad before s behind = refl

one_more : (blocks : List Bool) (before : List Line) (line : Line)
    → blocks_open blocks (before ++ line ∷ []) ≡ blocks_behind line.stmt (blocks_open blocks before)
one_more blocks [] line = refl
one_more blocks (x ∷ xs) line = one_more (blocks_behind x.stmt blocks) xs line

first_of : (m u : Bool) (x y : ℕ) (line : Line) (lines : List Line)
    → fault_or (cond (m || u) (Some BadBlockIf) None) line.card (fault_behind (sooner x y) lines)
    ≡ fault_behind (sooner (cond m 0 (suc x)) (cond u 0 (suc y))) (line ∷ lines)
first_of true u x y line lines = refl
first_of false true x y line lines = refl
first_of false false x y line lines = refl

scanned : (dialect : Dialect) (earlier : List Segment) (unit before lines : List Line)
    → fault_in_stage block_rules (places_in dialect earlier unit before lines) ≡ block_scan (blocks_open [] before) lines
scanned dialect earlier unit before [] = refl
scanned dialect earlier unit before (line ∷ lines) =
    ap (λ b. fault_or (cond b (Some BadBlockIf) None) line.card (fault_in_stage block_rules (places_in dialect earlier unit (before ++ line ∷ []) lines)))
    (bad before line.stmt lines)
    ∙ ap (fault_or (cond (is_misplaced line.stmt (blocks_open [] before) || is_unclosed line.stmt (ends lines)) (Some BadBlockIf) None) line.card)
    (scanned dialect earlier unit (before ++ line ∷ []) lines
    ∙ ap (λ blocks. block_scan blocks lines) (one_more [] before line))
    ∙ first_of (is_misplaced line.stmt (blocks_open [] before)) (is_unclosed line.stmt (ends lines))
    (before_misplaced (blocks_behind line.stmt (blocks_open [] before)) lines) (before_unclosed lines) line lines

-- two passes over a unit find its fault
pub found : (dialect : Dialect) (earlier : List Segment) (unit : List Line)
    → fault_in_stage block_rules (places_in dialect earlier unit [] unit) ≡ block_scan [] unit
found dialect earlier unit = scanned dialect earlier unit [] unit

-- the sooner of two is the smaller one
pub sooner_is : (a b : ℕ) → sooner a b ≡ cond (nat_lt a b) a b
sooner_is zero zero = refl
sooner_is zero (suc b) = grind arith
sooner_is (suc a) zero = grind arith
sooner_is (suc a) (suc b) = grind (arith, sooner_is a b)

-- the fault is that of the statement with a number, and none where there is none
pub fault_at : (n : ℕ) (lines : List Line) (d : Line) → n < length lines
    → fault_behind n lines ≡ Some (record { rule = BadBlockIf; card = (slice_index_or lines n d).card })
fault_at n [] d h = search rules
fault_at zero (line ∷ lines) d h = refl
fault_at (suc n) (line ∷ lines) d h = fault_at n lines d (grind arith)

pub no_fault : (n : ℕ) (lines : List Line) → length lines ≤ n → fault_behind n lines ≡ None
no_fault n [] h = refl
no_fault zero (line ∷ lines) h = search rules
no_fault (suc n) (line ∷ lines) h = no_fault n lines (grind arith)

scanned_units : (dialect : Dialect) (earlier units : List Segment)
    → fault_in_stage block_rules (places_from dialect earlier units) ≡ block_scans units
scanned_units dialect earlier [] = refl
scanned_units dialect earlier (unit ∷ units) =
    fault_in_both block_rules (places_in dialect earlier unit [] unit) (places_from dialect (earlier ++ unit ∷ []) units)
    ∙ ap (λ f. fault_before f (fault_in_stage block_rules (places_from dialect (earlier ++ unit ∷ []) units))) (found dialect earlier unit)
    ∙ ap (fault_before (block_scan [] unit)) (scanned_units dialect (earlier ++ unit ∷ []) units)

-- the first fault of a deck is found unit by unit
pub all_found : (dialect : Dialect) (units : List Segment) → fault_in_stage block_rules (places dialect units) ≡ block_scans units
all_found dialect units = scanned_units dialect [] units
