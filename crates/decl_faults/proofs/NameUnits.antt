-- Unit by unit the first fault in declarations is found.
use Rattle.std.proofs.Common.{◌≡◌, ℕ, Bool, true, false, List, [], ◌∷◌, ◌++◌, refl, sym, ap, ◌∙◌, rules}
use Rattle.std.specs.Prelude.{◌||◌, ◌&&◌, not, cond, Option, Some, None}
use Rattle.std.specs.List.{list_any}
use Rattle.formula.specs.Atoms.{same_bytes, is_among}
use Rattle.formula.specs.Reading.{or_else}
use Rattle.fort_syntax.specs.CardRules.{fault_or}
use Rattle.fort_syntax.specs.Units.{Segment, gathered, own_name, dummies_of, scope_of, blocks_by, items_by, names_in}
use Rattle.fort_syntax.specs.OrderRules.{places_in, places_from, places}
use Rattle.fort_syntax.specs.NameRules.{Member, same_members, members, declares_otherwise, is_adjustable}
use Rattle.fort_syntax.specs.UnitRules.{name_rules, fault_in_stage, fault_before}
use Rattle.fort_syntax.specs.declared.dialect.Dialect.{Dialect}
use Rattle.fort_syntax.specs.declared.name.Name.{Name}
use Rattle.fort_syntax.specs.declared.refusal.Fault.{Fault}
use Rattle.fort_syntax.specs.declared.rule.Rule.{Rule}
use Rattle.fort_syntax.specs.declared.unit.Line.{Line}
use Rattle.decl_faults.specs.declared.done.Done.{Done}
use Rattle.name_tables.specs.Sets.{with_names}
use Rattle.name_tables.specs.Tables.{first_of, told}
use Rattle.decl_faults.specs.NameScans.{Facts, facts_of, given_of, nothing_done, done_with, names_twice, has_untyped, has_bad_shape, has_new_bad, is_bad_item, first_rule, name_rule, name_scan}
use Rattle.decl_faults.specs.Commons.{differs, is_bad_with, remembered, remembered_from, facts_with, name_scans}
use Rattle.name_tables.proofs.Told.{same_names, told_of}
use Rattle.decl_faults.proofs.Among.{any_both, among_both}
use Rattle.decl_faults.proofs.NameScanned.{with_names_of, names_scanned}
use Rattle.order_faults.proofs.OrderScans.{fault_in_both}
use Rattle.unit_scope.proofs.SameMembers.{members_equal}

or_false : (b : Bool) → (b || false) ≡ b
or_false true = refl
or_false false = refl

-- what is kept of blocks tells how a block differs from those of earlier units
abbrev pub Agrees : List (Name × List Member) → List Segment → Type 0
Agrees table earlier = (b : Name) (own : List Member) → list_any (declares_otherwise b own) earlier ≡ differs (first_of table b) own

facts_agree : (table : List (Name × List Member)) (earlier : List Segment) (unit : Segment) → Agrees table earlier
    → facts_of earlier unit ≡ facts_with table unit
facts_agree table earlier unit agrees = λ i. record {
  own = own_name unit;
  scope = scope_of unit;
  is_dummy = λ x. is_among x (dummies_of unit);
  is_bad_block = λ b. is_among b (gathered blocks_by unit) && (agrees b (members unit b) i || list_any (λ m. is_adjustable m.dims) (members unit b));
}

-- ---- what is kept

or_both : {V : Type 0} (m g : Bool) (o : Option V) (v : V)
    → or_else (or_else o (cond m (Some v) None)) (cond g (Some v) None) ≡ or_else o (cond (m || g) (Some v) None)
or_both m g (Some w) v = refl
or_both true g None v = refl
or_both false g None v = refl

or_none : {V : Type 0} (o : Option V) → o ≡ or_else o None
or_none (Some v) = refl
or_none None = refl

kept_if : (mem : Name → List Member) (b x : Name) (s : Bool) → same_bytes x b ≡ s → cond s (Some (mem b)) None ≡ cond s (Some (mem x)) None
kept_if mem b x true h = ap (λ y. Some (mem y)) (sym (same_names x b h))
kept_if mem b x false h = refl

remembered_of : (mem : Name → List Member) (table : List (Name × List Member)) (bs : List Name) (x : Name)
    → first_of (remembered mem table bs) x ≡ or_else (first_of table x) (cond (is_among x bs) (Some (mem x)) None)
remembered_of mem table [] x = or_none (first_of table x)
remembered_of mem table (b ∷ bs) x =
    remembered_of mem (told table b (mem b)) bs x
    ∙ ap (λ o. or_else o (cond (is_among x bs) (Some (mem x)) None))
    (told_of table b (mem b) x ∙ ap (or_else (first_of table x)) (kept_if mem b x (same_bytes x b) refl))
    ∙ or_both (same_bytes x b) (is_among x bs) (first_of table x) (mem x)

remembered_from_of : (mem : Name → List Member) (table : List (Name × List Member)) (lines : List Line) (x : Name)
    → first_of (remembered_from mem table lines) x ≡ or_else (first_of table x) (cond (is_among x (gathered blocks_by lines)) (Some (mem x)) None)
remembered_from_of mem table [] x = or_none (first_of table x)
remembered_from_of mem table (line ∷ lines) x =
    remembered_from_of mem (remembered mem table (blocks_by line.stmt)) lines x
    ∙ ap (λ o. or_else o (cond (is_among x (gathered blocks_by lines)) (Some (mem x)) None)) (remembered_of mem table (blocks_by line.stmt) x)
    ∙ or_both (is_among x (blocks_by line.stmt)) (is_among x (gathered blocks_by lines)) (first_of table x) (mem x)
    ∙ ap (λ m. or_else (first_of table x) (cond m (Some (mem x)) None)) (sym (among_both x (blocks_by line.stmt) (gathered blocks_by lines)))

-- ---- a unit without a fault has no bad block

rule_none : (r : Option Rule) (card : ℕ) (rest : Option Fault) → fault_or r card rest ≡ None → r ≡ None
rule_none (Some rule) card rest h = search rules
rule_none None card rest h = refl

rest_none : (r : Option Rule) (card : ℕ) (rest : Option Fault) → fault_or r card rest ≡ None → rest ≡ None
rest_none (Some rule) card rest h = search rules
rest_none None card rest h = h

no_block : (a b c d e : Bool) → first_rule a b c d e ≡ None → d ≡ false
no_block true b c d e h = search rules
no_block false true c d e h = search rules
no_block false false true d e h = search rules
no_block false false false true e h = search rules
no_block false false false false e h = refl

left_false : (a b : Bool) → (a || b) ≡ false → a ≡ false
left_false true b h = search rules
left_false false b h = refl

right_false : (a b : Bool) → (a || b) ≡ false → b ≡ false
right_false true b h = search rules
right_false false b h = h

none_passes : (test : Name → Bool) (bs : List Name) (b : Name) → list_any test bs ≡ false → is_among b bs ≡ true → test b ≡ false
none_passes test [] b h m = search rules
none_passes test (c ∷ bs) b h m = by (none_passes test bs b (right_false (test c) (list_any test bs) h)) (same_bytes b c) refl m
  where
    by : (is_among b bs ≡ true → test b ≡ false) → (s : Bool) → same_bytes b c ≡ s → (s || is_among b bs) ≡ true → test b ≡ false
    by rest true e n = ap test (same_names b c e) ∙ left_false (test c) (list_any test bs) h
    by rest false e n = rest n

good : (dialect : Dialect) (facts : Facts) (done : Done) (blocks : List Name) (lines : List Line)
    → name_scan dialect facts done blocks lines ≡ None → (b : Name) → is_among b (gathered blocks_by lines) ≡ true
    → (not (is_among b blocks) && facts.is_bad_block b) ≡ false
good dialect facts done blocks [] h b m = search rules
good dialect facts done blocks (line ∷ lines) h b m =
    by (good dialect facts (done_with done line.stmt (given_of line.stmt)) (with_names blocks (blocks_by line.stmt)) lines rest b)
    (is_among b (blocks_by line.stmt)) refl (sym (among_both b (blocks_by line.stmt) (gathered blocks_by lines)) ∙ m)
  where
    rest : name_scan dialect facts (done_with done line.stmt (given_of line.stmt)) (with_names blocks (blocks_by line.stmt)) lines ≡ None
    rest = rest_none (name_rule dialect facts done blocks line.stmt) line.card (name_scan dialect facts (done_with done line.stmt (given_of line.stmt)) (with_names blocks (blocks_by line.stmt)) lines) h

    here : has_new_bad facts.is_bad_block blocks (blocks_by line.stmt) ≡ false
    here =
        no_block (names_twice facts done line.stmt (given_of line.stmt)) (has_untyped facts.scope (names_in line.stmt)) (has_bad_shape dialect (items_by line.stmt))
        (has_new_bad facts.is_bad_block blocks (blocks_by line.stmt)) (list_any (is_bad_item facts.is_dummy facts.scope) (items_by line.stmt))
        (rule_none (name_rule dialect facts done blocks line.stmt) line.card (name_scan dialect facts (done_with done line.stmt (given_of line.stmt)) (with_names blocks (blocks_by line.stmt)) lines) h)

    by : (is_among b (gathered blocks_by lines) ≡ true → (not (is_among b (with_names blocks (blocks_by line.stmt))) && facts.is_bad_block b) ≡ false)
        → (t : Bool) → is_among b (blocks_by line.stmt) ≡ t → (t || is_among b (gathered blocks_by lines)) ≡ true
        → (not (is_among b blocks) && facts.is_bad_block b) ≡ false
    by later true e n = none_passes (λ c. not (is_among c blocks) && facts.is_bad_block c) (blocks_by line.stmt) b here e
    by later false e n =
        ap (λ c. not c && facts.is_bad_block b)
        (sym (with_names_of blocks (blocks_by line.stmt) b ∙ ap (λ t. is_among b blocks || t) e ∙ or_false (is_among b blocks)))
        ∙ later n

not_false : (b : Bool) → not b ≡ false → b ≡ true
not_false true h = refl
not_false false h = search rules

twice : (b : Bool) → (b || (b || false)) ≡ b
twice true = refl
twice false = refl

-- what is kept of one more unit without a fault
agrees_more : (dialect : Dialect) (table : List (Name × List Member)) (earlier : List Segment) (unit : Segment) → Agrees table earlier
    → name_scan dialect (facts_with table unit) nothing_done [] unit ≡ None
    → Agrees (remembered_from (members unit) table unit) (earlier ++ unit ∷ [])
agrees_more dialect table earlier unit agrees h b own =
    any_both (declares_otherwise b own) earlier (unit ∷ [])
    ∙ ap (λ d. d || (declares_otherwise b own unit || false)) (agrees b own)
    ∙ by (first_of table b) refl (is_among b (gathered blocks_by unit)) refl
    ∙ ap (λ o. differs o own) (sym (remembered_from_of (members unit) table unit b))
  where
    equal : (kept : List Member) → first_of table b ≡ Some kept → is_among b (gathered blocks_by unit) ≡ true → members unit b ≡ kept
    equal kept e a =
        members_equal (members unit b) kept
        (not_false (same_members (members unit b) kept)
        (left_false (not (same_members (members unit b) kept)) (list_any (λ m. is_adjustable m.dims) (members unit b))
        (ap (λ o. differs o (members unit b) || list_any (λ m. is_adjustable m.dims) (members unit b)) (sym e)
        ∙ ap (λ c. c && is_bad_with table (members unit b) b) (sym a)
        ∙ good dialect (facts_with table unit) nothing_done [] unit h b a)))

    by : (o : Option (List Member)) → first_of table b ≡ o → (a : Bool) → is_among b (gathered blocks_by unit) ≡ a
        → (differs o own || ((a && not (same_members own (members unit b))) || false)) ≡ differs (or_else o (cond a (Some (members unit b)) None)) own
    by None e true a = or_false (not (same_members own (members unit b)))
    by None e false a = refl
    by (Some kept) e true a =
        ap (λ m. not (same_members own kept) || (not (same_members own m) || false)) (equal kept e a) ∙ twice (not (same_members own kept))
    by (Some kept) e false a = or_false (not (same_members own kept))

joined : (o : Option Fault) (x y : Option Fault) → (o ≡ None → x ≡ y) → fault_before o x ≡ fault_before o y
joined (Some fault) x y h = refl
joined None x y h = h refl

scanned_units : (dialect : Dialect) (table : List (Name × List Member)) (earlier units : List Segment) → Agrees table earlier
    → fault_in_stage name_rules (places_from dialect earlier units) ≡ name_scans dialect table units
scanned_units dialect table earlier [] agrees = refl
scanned_units dialect table earlier (unit ∷ units) agrees =
    let scan = name_scan dialect (facts_with table unit) nothing_done [] unit in
    let first = names_scanned dialect earlier unit ∙ ap (λ f. name_scan dialect f nothing_done [] unit) (facts_agree table earlier unit agrees) in
    let later = fault_in_stage name_rules (places_from dialect (earlier ++ unit ∷ []) units) in
    fault_in_both name_rules (places_in dialect earlier unit [] unit) (places_from dialect (earlier ++ unit ∷ []) units)
    ∙ ap (λ f. fault_before f later) first
    ∙ joined scan later (name_scans dialect (remembered_from (members unit) table unit) units)
    (λ h. scanned_units dialect (remembered_from (members unit) table unit) (earlier ++ unit ∷ []) units (agrees_more dialect table earlier unit agrees h))

-- the first fault of a deck is found unit by unit
pub names_found : (dialect : Dialect) (units : List Segment) → fault_in_stage name_rules (places dialect units) ≡ name_scans dialect [] units
names_found dialect units = scanned_units dialect [] [] units (λ b own. refl)
