-- One pass finds the first fault in the uses of the names and labels of a unit.
use Rattle.std.proofs.Common.{◌≡◌, ℕ, Bool, true, false, List, [], ◌∷◌, ◌++◌, refl, sym, ap, ◌∙◌, rules}
use Rattle.std.specs.Prelude.{◌==◌, ◌||◌, ◌&&◌, not, cond, map, Option, Some, None}
use Rattle.std.specs.List.{list_any}
use Rattle.formula.specs.Atoms.{same_bytes, is_among}
use Rattle.fort_syntax.specs.CardRules.{fault_or}
use Rattle.fort_syntax.specs.Scopes.{Scope, kept}
use Rattle.fort_syntax.specs.OrderRules.{Place, places_in, places_from, places, is_empty}
use Rattle.fort_syntax.specs.UnitRules.{use_rules, first_broken, fault_in_stage, fault_before}
use Rattle.fort_syntax.specs.Units.{Segment, gathered, scope_of, is_reference, references_in}
use Rattle.fort_syntax.specs.Uses.{Occurrence, uses_of}
use Rattle.fort_syntax.specs.UseRules.{is_misused, is_bare, is_reference_to, is_bare_use_of, is_second_kind_of_use, breaks_20, breaks_22, breaks_23}
use Rattle.fort_syntax.specs.declared.dialect.Dialect.{Dialect}
use Rattle.fort_syntax.specs.declared.name.Name.{Name}
use Rattle.fort_syntax.specs.declared.refusal.Fault.{Fault}
use Rattle.fort_syntax.specs.declared.rule.Rule.{Rule}
use Rattle.fort_syntax.specs.declared.unit.Line.{Line}
use Rattle.use_faults.specs.declared.used.Used.{Used}
use Rattle.name_tables.specs.Labels.{is_known}
use Rattle.name_tables.specs.Sets.{with_names}
use Rattle.use_faults.specs.UseScans.{UseFacts, use_facts_of, nothing_used, bares_in, used_with, is_both, is_of_other_kind, is_bad_use, has_bad_use, first_use_rule, use_rule, use_scan, use_scans}
use Rattle.name_tables.proofs.Told.{same_names, swapped}
use Rattle.decl_faults.proofs.Among.{any_both}
use Rattle.decl_faults.proofs.NameScanned.{with_names_of, gathered_one}
use Rattle.order_faults.proofs.OrderScans.{fault_in_both}
use Rattle.use_faults.proofs.RoleFacts.{known_more, labels_swapped}

or_false : (b : Bool) → (b || false) ≡ b
or_false true = refl
or_false false = refl

and_true : (b : Bool) → (b && true) ≡ b
and_true true = refl
and_true false = refl

and_false : (b : Bool) → (b && false) ≡ false
and_false true = refl
and_false false = refl

left_false : (a b : Bool) → (a || b) ≡ false → a ≡ false
left_false true b h = search rules
left_false false b h = refl

right_false : (a b : Bool) → (a || b) ≡ false → b ≡ false
right_false true b h = search rules
right_false false b h = h

-- ---- what statements have used

named_one : (t : Bool) (o : Occurrence) (more : List Occurrence) (x : Name) (rest : Bool) → is_among x (map (λ p. p.name) more) ≡ rest
    → is_among x (map (λ p. p.name) (cond t (o ∷ []) [] ++ more)) ≡ ((same_bytes o.name x && t) || rest)
named_one true o more x rest h = (λ i. swapped x o.name i || h i) ∙ ap (λ b. b || rest) (sym (and_true (same_bytes o.name x)))
named_one false o more x rest h = h ∙ ap (λ b. b || rest) (sym (and_false (same_bytes o.name x)))

named : (test : Occurrence → Bool) (uses : List Occurrence) (x : Name)
    → is_among x (map (λ o. o.name) (kept test uses)) ≡ list_any (λ o. same_bytes o.name x && test o) uses
named test [] x = refl
named test (o ∷ uses) x =
    named_one (test o) o (kept test uses) x (list_any (λ p. same_bytes p.name x && test p) uses) (named test uses x)

pub record UsedBy (scope : Scope) (used : Used) (before : List Line) : Type 0 where
  pub references : (x : Name) → is_among x used.references ≡ list_any (is_reference_to scope x) (gathered uses_of before)
  pub bares : (x : Name) → is_among x used.bares ≡ list_any (is_bare_use_of x) (gathered uses_of before)
  pub labels : (l : ℕ) → is_known l used.labels ≡ list_any (λ r. r.label == l) before

references_with : (scope : Scope) (used : Used) (before : List Line) (line : Line) → UsedBy scope used before → (x : Name)
    → is_among x (with_names used.references (references_in scope (uses_of line.stmt)))
    ≡ list_any (is_reference_to scope x) (gathered uses_of before ++ uses_of line.stmt)
references_with scope used before line u x =
    with_names_of used.references (references_in scope (uses_of line.stmt)) x
    ∙ (λ i. u.references x i || named (is_reference scope) (uses_of line.stmt) x i)
    ∙ sym (any_both (is_reference_to scope x) (gathered uses_of before) (uses_of line.stmt))

bares_with : (scope : Scope) (used : Used) (before : List Line) (line : Line) → UsedBy scope used before → (x : Name)
    → is_among x (with_names used.bares (bares_in (uses_of line.stmt)))
    ≡ list_any (is_bare_use_of x) (gathered uses_of before ++ uses_of line.stmt)
bares_with scope used before line u x =
    with_names_of used.bares (bares_in (uses_of line.stmt)) x
    ∙ (λ i. u.bares x i || named (λ o. is_bare o.«use») (uses_of line.stmt) x i)
    ∙ sym (any_both (is_bare_use_of x) (gathered uses_of before) (uses_of line.stmt))

used_more : (scope : Scope) (used : Used) (before : List Line) (line : Line) → UsedBy scope used before
    → UsedBy scope (used_with scope used (uses_of line.stmt) line.label) (before ++ line ∷ [])
used_more scope used before line u = record {
  references = λ x. references_with scope used before line u x ∙ ap (list_any (is_reference_to scope x)) (sym (gathered_one uses_of before line));
  bares = λ x. bares_with scope used before line u x ∙ ap (list_any (is_bare_use_of x)) (sym (gathered_one uses_of before line));
  labels = λ l. known_more used.labels line.label l ∙ (λ i. u.labels l i || (labels_swapped l line.label ∙ sym (or_false (line.label == l))) i)
      ∙ sym (any_both (λ r. r.label == l) before (line ∷ []));
}

-- ---- no name was used both ways

abbrev pub Apart : Used → Type 0
Apart used = (x : Name) → is_both used x ≡ false

found : (facts : UseFacts) (used : Used) (uses : List Occurrence) (x : Name) → has_bad_use facts used uses ≡ false
    → list_any (λ o. same_bytes o.name x) uses ≡ true → is_both used x ≡ false
found facts used [] x h m = search rules
found facts used (o ∷ uses) x h m = by (found facts used uses x (right_false (is_bad_use facts used o) (has_bad_use facts used uses) h)) (same_bytes o.name x) refl m
  where
    by : (list_any (λ p. same_bytes p.name x) uses ≡ true → is_both used x ≡ false) → (s : Bool) → same_bytes o.name x ≡ s
        → (s || list_any (λ p. same_bytes p.name x) uses) ≡ true → is_both used x ≡ false
    by rest true e n =
        ap (is_both used) (sym (same_names o.name x e))
        ∙ right_false (is_misused facts.scope o.name o.«use» || is_of_other_kind facts o) (is_both used o.name)
        (left_false (is_bad_use facts used o) (has_bad_use facts used uses) h)
    by rest false e n = rest n

not_named : (test : Occurrence → Bool) (uses : List Occurrence) (x : Name) → list_any (λ o. same_bytes o.name x) uses ≡ false
    → list_any (λ o. same_bytes o.name x && test o) uses ≡ false
not_named test [] x h = refl
not_named test (o ∷ uses) x h =
    (λ i. (left_false (same_bytes o.name x) (list_any (λ p. same_bytes p.name x) uses) h i && test o) || list_any (λ p. same_bytes p.name x && test p) uses)
    ∙ not_named test uses x (right_false (same_bytes o.name x) (list_any (λ p. same_bytes p.name x) uses) h)

apart_more : (facts : UseFacts) (used : Used) (uses : List Occurrence) (label : ℕ) → Apart used
    → has_bad_use facts (used_with facts.scope used uses label) uses ≡ false → Apart (used_with facts.scope used uses label)
apart_more facts used uses label apart h x = by (list_any (λ o. same_bytes o.name x) uses) refl
  where
    by : (m : Bool) → list_any (λ o. same_bytes o.name x) uses ≡ m → is_both (used_with facts.scope used uses label) x ≡ false
    by true m = found facts (used_with facts.scope used uses label) uses x h m
    by false m =
        (λ i. (with_names_of used.references (references_in facts.scope uses) x
        ∙ ap (λ b. is_among x used.references || b) (named (is_reference facts.scope) uses x ∙ not_named (is_reference facts.scope) uses x m)
        ∙ or_false (is_among x used.references)) i
        && (with_names_of used.bares (bares_in uses) x
        ∙ ap (λ b. is_among x used.bares || b) (named (λ o. is_bare o.«use») uses x ∙ not_named (λ o. is_bare o.«use») uses x m)
        ∙ or_false (is_among x used.bares)) i)
        ∙ apart x

-- ---- the rules at a statement

abbrev placed : Dialect → List Segment → Segment → List Line → Line → List Line → Place
placed dialect earlier unit before line lines =
    record { dialect = dialect; earlier = earlier; unit = unit; before = before; line = line; behind = lines }

second_is : (dialect : Dialect) (earlier : List Segment) (unit before lines : List Line) (line : Line) (used : Used)
    → UsedBy (scope_of unit) used before → Apart used → (o : Occurrence)
    → is_second_kind_of_use (placed dialect earlier unit before line lines) o
    ≡ is_both (used_with (scope_of unit) used (uses_of line.stmt) line.label) o.name
second_is dialect earlier unit before lines line used u apart o =
    let scope = scope_of unit in
    (λ i. (sym (references_with scope used before line u o.name) i && sym (bares_with scope used before line u o.name) i)
    && not (sym (u.references o.name) i && sym (u.bares o.name) i))
    ∙ ap (λ b. is_both (used_with scope used (uses_of line.stmt) line.label) o.name && not b) (apart o.name)
    ∙ and_true (is_both (used_with scope used (uses_of line.stmt) line.label) o.name)

rule_is : (dialect : Dialect) (earlier : List Segment) (unit before lines : List Line) (line : Line) (used : Used)
    → UsedBy (scope_of unit) used before → Apart used
    → first_broken use_rules (placed dialect earlier unit before line lines) ≡ use_rule dialect (use_facts_of unit) (is_empty before) used line
rule_is dialect earlier unit before lines line used u apart =
    let p = placed dialect earlier unit before line lines in
    λ i. first_use_rule
    (list_any (λ o. is_misused (scope_of unit) o.name o.«use» || is_of_other_kind (use_facts_of unit) o
    || second_is dialect earlier unit before lines line used u apart o i) (uses_of line.stmt))
    (breaks_20 p) (not (line.label == 0) && sym (u.labels line.label) i) (breaks_22 p) (breaks_23 p)

no_bad_use : (a b c d e : Bool) → first_use_rule a b c d e ≡ None → a ≡ false
no_bad_use true b c d e h = search rules
no_bad_use false b c d e h = refl

joined : (r : Option Rule) (card : ℕ) (x y : Option Fault) → (r ≡ None → x ≡ y) → fault_or r card x ≡ fault_or r card y
joined (Some rule) card x y h = refl
joined None card x y h = h refl

not_empty : (before : List Line) (line : Line) → is_empty (before ++ line ∷ []) ≡ false
not_empty [] line = refl
not_empty (x ∷ xs) line = refl

scanned : (dialect : Dialect) (earlier : List Segment) (unit before lines : List Line) (used : Used)
    → UsedBy (scope_of unit) used before → Apart used
    → fault_in_stage use_rules (places_in dialect earlier unit before lines) ≡ use_scan dialect (use_facts_of unit) (is_empty before) used lines
scanned dialect earlier unit before [] used u apart = refl
scanned dialect earlier unit before (line ∷ lines) used u apart =
    let facts = use_facts_of unit in
    let after = used_with (scope_of unit) used (uses_of line.stmt) line.label in
    let p = placed dialect earlier unit before line lines in
    let rule = use_rule dialect facts (is_empty before) used line in
    let rest = fault_in_stage use_rules (places_in dialect earlier unit (before ++ line ∷ []) lines) in
    ap (λ r. fault_or r line.card rest) (rule_is dialect earlier unit before lines line used u apart)
    ∙ joined rule line.card rest (use_scan dialect facts false after lines)
    (λ h.
    scanned dialect earlier unit (before ++ line ∷ []) lines after (used_more (scope_of unit) used before line u)
    (apart_more facts used (uses_of line.stmt) line.label apart
    (no_bad_use (has_bad_use facts after (uses_of line.stmt)) (breaks_20 p) (not (line.label == 0) && is_known line.label used.labels) (breaks_22 p) (breaks_23 p) h))
    ∙ ap (λ b. use_scan dialect facts b after lines) (not_empty before line))

scanned_units : (dialect : Dialect) (earlier units : List Segment) → fault_in_stage use_rules (places_from dialect earlier units) ≡ use_scans dialect units
scanned_units dialect earlier [] = refl
scanned_units dialect earlier (unit ∷ units) =
    fault_in_both use_rules (places_in dialect earlier unit [] unit) (places_from dialect (earlier ++ unit ∷ []) units)
    ∙ ap (λ f. fault_before f (fault_in_stage use_rules (places_from dialect (earlier ++ unit ∷ []) units)))
    (scanned dialect earlier unit [] unit nothing_used (record { references = λ x. refl; bares = λ x. refl; labels = λ l. refl }) (λ x. refl))
    ∙ ap (fault_before (use_scan dialect (use_facts_of unit) true nothing_used unit)) (scanned_units dialect (earlier ++ unit ∷ []) units)

-- the first fault of a deck is found unit by unit
pub uses_found : (dialect : Dialect) (units : List Segment) → fault_in_stage use_rules (places dialect units) ≡ use_scans dialect units
uses_found dialect units = scanned_units dialect [] units
