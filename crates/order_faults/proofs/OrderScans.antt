-- One pass finds the first fault in the order of statements.
use Rattle.std.proofs.Common.{◌≡◌, ℕ, List, [], ◌∷◌, ◌++◌, Bool, true, false, refl, ap, ◌∙◌, sym}
use Rattle.std.specs.Prelude.{◌||◌, Option, Some, None}
use Rattle.fort_syntax.specs.CardRules.{fault_or}
use Rattle.fort_syntax.specs.Units.{Segment, class_of, is_performing}
use Rattle.fort_syntax.specs.OrderRules.{Place, places_in, places_from, places, is_empty, has_executable}
use Rattle.fort_syntax.specs.UnitRules.{order_rules, first_broken, fault_in_stage, fault_before}
use Rattle.fort_syntax.specs.declared.dialect.Dialect.{Dialect}
use Rattle.fort_syntax.specs.declared.refusal.Fault.{Fault}
use Rattle.fort_syntax.specs.declared.rule.Rule.{Rule}
use Rattle.fort_syntax.specs.declared.unit.Line.{Line}
use Rattle.order_faults.specs.Scans.{order_rule, order_scan, order_scans}

not_empty : (before : List Line) (line : Line) → is_empty (before ++ line ∷ []) ≡ false
not_empty [] line = refl
not_empty (x ∷ xs) line = refl

or_false : (b : Bool) → (b || false) ≡ b
or_false true = refl
or_false false = refl

or_assoc : (a b c : Bool) → ((a || b) || c) ≡ (a || (b || c))
or_assoc true b c = refl
or_assoc false b c = refl

one_more : (before : List Line) (line : Line) → has_executable (before ++ line ∷ []) ≡ (has_executable before || is_performing (class_of line.stmt))
one_more [] line = or_false (is_performing (class_of line.stmt))
one_more (x ∷ xs) line =
    ap (λ b. is_performing (class_of x.stmt) || b) (one_more xs line)
    ∙ sym (or_assoc (is_performing (class_of x.stmt)) (has_executable xs) (is_performing (class_of line.stmt)))

pub scanned : (dialect : Dialect) (earlier : List Segment) (unit : Segment) (before lines : List Line)
    → fault_in_stage order_rules (places_in dialect earlier unit before lines) ≡ order_scan (is_empty before) (has_executable before) lines
scanned dialect earlier unit before [] = refl
scanned dialect earlier unit before (line ∷ lines) =
    ap (fault_or (order_rule (class_of line.stmt) (is_empty before) (has_executable before) (is_empty lines)) line.card)
    (scanned dialect earlier unit (before ++ line ∷ []) lines
    ∙ ap (λ b. order_scan b (has_executable (before ++ line ∷ [])) lines) (not_empty before line)
    ∙ ap (λ b. order_scan false b lines) (one_more before line))

or_before : (rule : Option Rule) (card : ℕ) (a b : Option Fault) → fault_or rule card (fault_before a b) ≡ fault_before (fault_or rule card a) b
or_before (Some rule) card a b = refl
or_before None card a b = refl

-- the first fault of two lists is that of the first one, or else that of the second
pub fault_in_both : (stage : List Rule) (ps qs : List Place)
    → fault_in_stage stage (ps ++ qs) ≡ fault_before (fault_in_stage stage ps) (fault_in_stage stage qs)
fault_in_both stage [] qs = refl
fault_in_both stage (p ∷ ps) qs =
    ap (fault_or (first_broken stage p) p.line.card) (fault_in_both stage ps qs) ∙ or_before (first_broken stage p) p.line.card (fault_in_stage stage ps) (fault_in_stage stage qs)

scanned_units : (dialect : Dialect) (earlier units : List Segment)
    → fault_in_stage order_rules (places_from dialect earlier units) ≡ order_scans units
scanned_units dialect earlier [] = refl
scanned_units dialect earlier (unit ∷ units) =
    fault_in_both order_rules (places_in dialect earlier unit [] unit) (places_from dialect (earlier ++ unit ∷ []) units)
    ∙ ap (λ f. fault_before f (fault_in_stage order_rules (places_from dialect (earlier ++ unit ∷ []) units))) (scanned dialect earlier unit [] unit)
    ∙ ap (fault_before (order_scan true false unit)) (scanned_units dialect (earlier ++ unit ∷ []) units)

pub all_scanned : (dialect : Dialect) (units : List Segment) → fault_in_stage order_rules (places dialect units) ≡ order_scans units
all_scanned dialect units = scanned_units dialect [] units
