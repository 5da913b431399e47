-- One pass finds the first fault in the declarations of a unit.
use Rattle.std.proofs.Common.{◌≡◌, Bool, true, false, List, [], ◌∷◌, ◌++◌, refl, sym, ap, ◌∙◌, append_assoc, rules}
use Rattle.std.specs.Prelude.{◌||◌, ◌&&◌, not, cond}
use Rattle.std.specs.List.{list_any}
use Rattle.formula.specs.Atoms.{same_bytes, is_among, has_twin}
use Rattle.fort_syntax.specs.CardRules.{fault_or}
use Rattle.fort_syntax.specs.Scopes.{do_meet}
use Rattle.fort_syntax.specs.Units.{Segment, gathered, own_name, dummies_of, dummies_by, blocks_by}
use Rattle.fort_syntax.specs.OrderRules.{Place, places_in}
use Rattle.fort_syntax.specs.NameRules.{typed_by, dimensioned_by, commons_by, breaks_15, breaks_16, breaks_17, breaks_24, breaks_25, is_bad_block_of}
use Rattle.fort_syntax.specs.UnitRules.{name_rules, first_broken, fault_in_stage}
use Rattle.fort_syntax.specs.declared.dialect.Dialect.{Dialect}
use Rattle.fort_syntax.specs.declared.name.Name.{Name}
use Rattle.fort_syntax.specs.declared.stmt.Stmt.{Stmt}
use Rattle.fort_syntax.specs.declared.unit.Line.{Line}
use Rattle.decl_faults.specs.declared.done.Done.{Done}
use Rattle.name_tables.specs.Sets.{with_name, with_names, repeats}
use Rattle.decl_faults.specs.NameScans.{given_of, nothing_done, done_with, facts_of, is_bad_in, names_twice, has_new_bad, first_rule, name_rule, name_scan}
use Rattle.name_tables.proofs.Told.{same_names, swapped}
use Rattle.decl_faults.proofs.Among.{or_assoc, among_both}

-- two lists have the same names
abbrev pub SameNames : List Name → List Name → Type 0
SameNames xs ys = (x : Name) → is_among x xs ≡ is_among x ys

pub with_name_of : (xs : List Name) (y x : Name) → is_among x (with_name xs y) ≡ (is_among x xs || same_bytes x y)
with_name_of xs y x = by (is_among y xs) refl
  where
    or_false : (b : Bool) → (b || false) ≡ b
    or_false true = refl
    or_false false = refl

    there : (b : Bool) → same_bytes x y ≡ b → is_among y xs ≡ true → is_among x xs ≡ (is_among x xs || b)
    there true e h = ap (λ z. is_among z xs) (same_names x y e) ∙ h ∙ sym (ap (λ z. is_among z xs || true) (same_names x y e) ∙ ap (λ b. b || true) h)
    there false e h = sym (or_false (is_among x xs))

    by : (b : Bool) → is_among y xs ≡ b → is_among x (cond b xs (xs ++ y ∷ [])) ≡ (is_among x xs || same_bytes x y)
    by true h = there (same_bytes x y) refl h
    by false h = among_both x xs (y ∷ []) ∙ ap (λ b. is_among x xs || b) (or_false (same_bytes x y))

pub with_names_of : (xs ys : List Name) (x : Name) → is_among x (with_names xs ys) ≡ (is_among x xs || is_among x ys)
with_names_of xs [] x = none (is_among x xs)
  where
    none : (b : Bool) → b ≡ (b || false)
    none true = refl
    none false = refl
with_names_of xs (y ∷ ys) x =
    with_names_of (with_name xs y) ys x
    ∙ ap (λ b. b || is_among x ys) (with_name_of xs y x)
    ∙ or_assoc (is_among x xs) (same_bytes x y) (is_among x ys)

four : (a t b m : Bool) → ((a || t) || (b || m)) ≡ (b || (t || (m || a)))
four true true true m = refl
four true true false m = refl
four true false true m = refl
four true false false true = refl
four true false false false = refl
four false true true m = refl
four false true false m = refl
four false false true m = refl
four false false false true = refl
four false false false false = refl

three : (b s m a : Bool) → ((b || (s || false)) || (m || a)) ≡ ((b || m) || (s || a))
three true s m a = refl
three false true true a = refl
three false true false a = refl
three false false m a = refl

meet_behind : (ys before : List Name) (y : Name) → do_meet ys (before ++ y ∷ []) ≡ (do_meet ys before || is_among y ys)
meet_behind [] before y = refl
meet_behind (x ∷ ys) before y =
    ap (λ b. b || do_meet ys (before ++ y ∷ [])) (among_both x before (y ∷ []))
    ∙ ap (λ b. (is_among x before || (same_bytes x y || false)) || b) (meet_behind ys before y)
    ∙ three (is_among x before) (same_bytes x y) (do_meet ys before) (is_among y ys)
    ∙ ap (λ b. (is_among x before || do_meet ys before) || (b || is_among y ys)) (swapped x y)

pub repeats_is : (xs ys before : List Name) → SameNames xs before → (has_twin ys || do_meet ys before) ≡ repeats xs ys
repeats_is xs [] before same = refl
repeats_is xs (y ∷ ys) before same =
    four (is_among y ys) (has_twin ys) (is_among y before) (do_meet ys before)
    ∙ ap (λ b. is_among y before || (has_twin ys || b)) (sym (meet_behind ys before y))
    ∙ ap (λ b. is_among y before || b) (repeats_is (with_name xs y) ys (before ++ y ∷ []) more)
    ∙ ap (λ b. b || repeats (with_name xs y) ys) (sym (same y))
  where
    or_false : (b : Bool) → b ≡ (b || false)
    or_false true = refl
    or_false false = refl

    more : SameNames (with_name xs y) (before ++ y ∷ [])
    more x =
        with_name_of xs y x ∙ ap (λ b. b || same_bytes x y) (same x)
        ∙ ap (λ b. is_among x before || b) (or_false (same_bytes x y))
        ∙ sym (among_both x before (y ∷ []))

pub gathered_both : {X : Type 0} (give : Stmt → List X) (xs ys : List Line) → gathered give (xs ++ ys) ≡ gathered give xs ++ gathered give ys
gathered_both give [] ys = refl
gathered_both give (x ∷ xs) ys =
    ap (λ zs. give x.stmt ++ zs) (gathered_both give xs ys) ∙ sym (append_assoc (give x.stmt) (gathered give xs) (gathered give ys))

no_more : {X : Type 0} (xs : List X) → xs ++ [] ≡ xs
no_more [] = refl
no_more (x ∷ xs) = ap (λ ys. x ∷ ys) (no_more xs)

pub gathered_one : {X : Type 0} (give : Stmt → List X) (before : List Line) (line : Line)
    → gathered give (before ++ line ∷ []) ≡ gathered give before ++ give line.stmt
gathered_one give before line = gathered_both give before (line ∷ []) ∙ ap (λ xs. gathered give before ++ xs) (no_more (give line.stmt))

pub grown : (give : Stmt → List Name) (set : List Name) (before : List Line) (line : Line)
    → SameNames set (gathered give before) → SameNames (with_names set (give line.stmt)) (gathered give (before ++ line ∷ []))
grown give set before line same x =
    with_names_of set (give line.stmt) x
    ∙ ap (λ b. b || is_among x (give line.stmt)) (same x)
    ∙ sym (among_both x (gathered give before) (give line.stmt))
    ∙ ap (is_among x) (sym (gathered_one give before line))

same_letters : (x : Name) → same_bytes x x ≡ true
same_letters [] = refl
same_letters (c ∷ cs) = same_letter c cs (same_letters cs)
  where
    same_letter : (c : _) (cs : Name) → same_bytes cs cs ≡ true → same_bytes (c ∷ cs) (c ∷ cs) ≡ true
    same_letter c cs h = search rules

or_true : (a b : Bool) → b ≡ true → (a || b) ≡ true
or_true true b h = refl
or_true false b h = h

true_or : (a b : Bool) → a ≡ true → (a || b) ≡ true
true_or true b h = refl
true_or false b h = search rules

any_same : (f g : Name → Bool) (bs : List Name) → ((b : Name) → is_among b bs ≡ true → f b ≡ g b) → list_any f bs ≡ list_any g bs
any_same f g [] h = refl
any_same f g (b ∷ bs) h =
    ap (λ c. c || list_any f bs) (h b (true_or (same_bytes b b) (is_among b bs) (same_letters b)))
    ∙ ap (λ c. g b || c) (any_same f g bs (λ x m. h x (or_true (same_bytes x b) (is_among x bs) m)))

stated : (give : Stmt → List Name) (unit before lines : List Line) (line : Line) (b : Name) → unit ≡ before ++ line ∷ lines
    → is_among b (give line.stmt) ≡ true → is_among b (gathered give unit) ≡ true
stated give unit before lines line b whole m =
    ap (λ u. is_among b (gathered give u)) whole
    ∙ ap (is_among b) (gathered_both give before (line ∷ lines))
    ∙ among_both b (gathered give before) (give line.stmt ++ gathered give lines)
    ∙ or_true (is_among b (gathered give before)) (is_among b (give line.stmt ++ gathered give lines))
    (among_both b (give line.stmt) (gathered give lines) ∙ true_or (is_among b (give line.stmt)) (is_among b (gathered give lines)) m)

-- what the statements before have done
pub record DoneBy (done : Done) (before : List Line) : Type 0 where
  pub dummies : SameNames done.dummies (gathered dummies_by before)
  pub typed : SameNames done.typed (gathered typed_by before)
  pub dimensioned : SameNames done.dimensioned (gathered dimensioned_by before)
  pub commons : SameNames done.commons (gathered commons_by before)

done_more : (done : Done) (before : List Line) (line : Line) → DoneBy done before
    → DoneBy (done_with done line.stmt (given_of line.stmt)) (before ++ line ∷ [])
done_more done before line d = record {
  dummies = grown dummies_by done.dummies before line d.dummies;
  typed = grown typed_by done.typed before line d.typed;
  dimensioned = grown dimensioned_by done.dimensioned before line d.dimensioned;
  commons = grown commons_by done.commons before line d.commons;
}

abbrev placed : Dialect → List Segment → Segment → List Line → Line → List Line → Place
placed dialect earlier unit before line lines =
    record { dialect = dialect; earlier = earlier; unit = unit; before = before; line = line; behind = lines }

twice_is : (dialect : Dialect) (earlier : List Segment) (unit before lines : List Line) (line : Line) (done : Done) → DoneBy done before
    → breaks_15 (placed dialect earlier unit before line lines) ≡ names_twice (facts_of earlier unit) done line.stmt (given_of line.stmt)
twice_is dialect earlier unit before lines line done d =
    let s = line.stmt in
    let dummies = repeats_is done.dummies (dummies_by s) (gathered dummies_by before) d.dummies in
    let typed = repeats_is done.typed (typed_by s) (gathered typed_by before) d.typed in
    let dimensioned = repeats_is done.dimensioned (dimensioned_by s) (gathered dimensioned_by before) d.dimensioned in
    let commons = repeats_is done.commons (commons_by s) (gathered commons_by before) d.commons in
    λ i. dummies i || typed i || dimensioned i || commons i || do_meet (commons_by s) (dummies_of unit)
    || is_among (own_name unit) (dummies_by s ++ typed_by s ++ dimensioned_by s ++ commons_by s)

new_bad_is : (dialect : Dialect) (earlier : List Segment) (unit before lines : List Line) (line : Line) (blocks : List Name)
    → unit ≡ before ++ line ∷ lines → SameNames blocks (gathered blocks_by before)
    → breaks_24 (placed dialect earlier unit before line lines) ≡ has_new_bad (facts_of earlier unit).is_bad_block blocks (blocks_by line.stmt)
new_bad_is dialect earlier unit before lines line blocks whole same =
    any_same
    (λ b. not (is_among b (gathered blocks_by before)) && is_bad_block_of (placed dialect earlier unit before line lines) b)
    (λ b. not (is_among b blocks) && (facts_of earlier unit).is_bad_block b)
    (blocks_by line.stmt)
    (λ b m.
    ap (λ c. not c && is_bad_in earlier unit b) (sym (same b))
    ∙ ap (λ c. not (is_among b blocks) && (c && is_bad_in earlier unit b)) (sym (stated blocks_by unit before lines line b whole m)))

rule_is : (dialect : Dialect) (earlier : List Segment) (unit before lines : List Line) (line : Line) (done : Done) (blocks : List Name)
    → unit ≡ before ++ line ∷ lines → DoneBy done before → SameNames blocks (gathered blocks_by before)
    → first_broken name_rules (placed dialect earlier unit before line lines) ≡ name_rule dialect (facts_of earlier unit) done blocks line.stmt
rule_is dialect earlier unit before lines line done blocks whole d same =
    let p = placed dialect earlier unit before line lines in
    λ i. first_rule (twice_is dialect earlier unit before lines line done d i) (breaks_16 p) (breaks_17 p)
    (new_bad_is dialect earlier unit before lines line blocks whole same i) (breaks_25 p)

scanned : (dialect : Dialect) (earlier : List Segment) (unit before lines : List Line) (done : Done) (blocks : List Name)
    → unit ≡ before ++ lines → DoneBy done before → SameNames blocks (gathered blocks_by before)
    → fault_in_stage name_rules (places_in dialect earlier unit before lines) ≡ name_scan dialect (facts_of earlier unit) done blocks lines
scanned dialect earlier unit before [] done blocks whole d same = refl
scanned dialect earlier unit before (line ∷ lines) done blocks whole d same =
    ap (λ r. fault_or r line.card (fault_in_stage name_rules (places_in dialect earlier unit (before ++ line ∷ []) lines)))
    (rule_is dialect earlier unit before lines line done blocks whole d same)
    ∙ ap (fault_or (name_rule dialect (facts_of earlier unit) done blocks line.stmt) line.card)
    (scanned dialect earlier unit (before ++ line ∷ []) lines (done_with done line.stmt (given_of line.stmt)) (with_names blocks (blocks_by line.stmt))
    (whole ∙ sym (append_assoc before (line ∷ []) lines)) (done_more done before line d) (grown blocks_by blocks before line same))

-- one pass over a unit finds its fault
pub names_scanned : (dialect : Dialect) (earlier : List Segment) (unit : Segment)
    → fault_in_stage name_rules (places_in dialect earlier unit [] unit) ≡ name_scan dialect (facts_of earlier unit) nothing_done [] unit
names_scanned dialect earlier unit =
    scanned dialect earlier unit [] unit nothing_done [] refl
    (record { dummies = λ x. refl; typed = λ x. refl; dimensioned = λ x. refl; commons = λ x. refl }) (λ x. refl)
