-- What the tables of a unit tell of the uses of its names.
use Rattle.std.proofs.Common.{◌≡◌, ℕ, Bool, true, false, List, [], ◌∷◌, ◌++◌, refl, sym, ap, ◌∙◌, rules, arith}
use Rattle.std.specs.Prelude.{◌==◌, ◌||◌, ◌&&◌, not, nat_eq, cond, map}
use Rattle.std.specs.List.{list_any}
use Rattle.formula.specs.Atoms.{same_bytes, is_among}
use Rattle.fort_syntax.specs.Scopes.{Scope, kept, once}
use Rattle.fort_syntax.specs.NameRules.{commons_by}
use Rattle.fort_syntax.specs.Units.{Segment, gathered, class_of, is_performing, executables, own_name, is_function_segment, dummies_by, dummies_of, common_items_by, commons_of, names_of_items, scope_of, names_in, is_reference, references_in, references_of, held_by, own_value_of, data_names}
use Rattle.fort_syntax.specs.Uses.{Occurrence, uses_of}
use Rattle.fort_syntax.specs.UseRules.{is_assigned, assigns}
use Rattle.fort_syntax.specs.declared.name.Name.{Name}
use Rattle.fort_syntax.specs.declared.stmt.Item.{Item}
use Rattle.fort_syntax.specs.declared.unit.Line.{Line}
use Rattle.unit_scope.specs.declared.scoped.Scoped.{Scoped}
use Rattle.decl_faults.specs.Commons.{given_from}
use Rattle.name_tables.specs.Labels.{is_known, with_label}
use Rattle.use_faults.specs.Roles.{use_facts_by}
use Rattle.unit_scope.specs.Scoping.{scope_by}
use Rattle.use_faults.specs.UseScans.{use_facts_of, lines_from, assigned_from}
use Rattle.name_tables.proofs.Told.{same_names, swapped}
use Rattle.decl_faults.proofs.Among.{or_assoc, any_both, among_both}
use Rattle.decl_faults.proofs.CommonFacts.{given_of_all}

or_false : (b : Bool) → (b || false) ≡ b
or_false true = refl
or_false false = refl

-- ---- names that pass a test, and names each once

kept_case : (e t k m : Bool) → (e ≡ true → t ≡ k) → ((cond t e false) || (m && k)) ≡ ((e || m) && k)
kept_case true true k m h = h refl
kept_case true false true m h = search (h refl, rules)
kept_case true false false true h = refl
kept_case true false false false h = refl
kept_case false true k m h = refl
kept_case false false k m h = refl

among_if : (t : Bool) (x y : Name) → is_among x (cond t (y ∷ []) []) ≡ cond t (same_bytes x y) false
among_if true x y = or_false (same_bytes x y)
among_if false x y = refl

among_kept : (test : Name → Bool) (xs : List Name) (x : Name) → is_among x (kept test xs) ≡ (is_among x xs && test x)
among_kept test [] x = refl
among_kept test (y ∷ xs) x =
    among_both x (cond (test y) (y ∷ []) []) (kept test xs)
    ∙ (λ i. among_if (test y) x y i || among_kept test xs x i)
    ∙ kept_case (same_bytes x y) (test y) (test x) (is_among x xs) (λ e. ap test (sym (same_names x y e)))

once_case : (e m : Bool) → (e || (m && not e)) ≡ (e || m)
once_case true m = refl
once_case false true = refl
once_case false false = refl

pub among_once : (xs : List Name) (x : Name) → is_among x (once xs) ≡ is_among x xs
among_once [] x = refl
among_once (y ∷ xs) x =
    ap (λ b. same_bytes x y || b) (among_kept (λ z. not (same_bytes y z)) (once xs) x)
    ∙ (λ i. same_bytes x y || (among_once xs x i && not (swapped y x i)))
    ∙ once_case (same_bytes x y) (is_among x xs)

-- ---- functions

one_name : (t : Bool) (o : Occurrence) (more some : List Occurrence) (ys : List Name) → map (λ p. p.name) more ≡ map (λ p. p.name) some ++ ys
    → map (λ p. p.name) (cond t (o ∷ []) [] ++ more) ≡ map (λ p. p.name) (cond t (o ∷ []) [] ++ some) ++ ys
one_name true o more some ys h = ap (λ ns. o.name ∷ ns) h
one_name false o more some ys h = h

references_both : (scope : Scope) (xs ys : List Occurrence) → references_in scope (xs ++ ys) ≡ references_in scope xs ++ references_in scope ys
references_both scope [] ys = refl
references_both scope (o ∷ xs) ys =
    one_name (is_reference scope o) o (kept (is_reference scope) (xs ++ ys)) (kept (is_reference scope) xs) (references_in scope ys)
    (references_both scope xs ys)

pub references_listed : (scope : Scope) (lines : List Line)
    → gathered (λ s. references_in scope (uses_of s)) lines ≡ references_in scope (gathered uses_of lines)
references_listed scope [] = refl
references_listed scope (line ∷ lines) =
    ap (λ xs. references_in scope (uses_of line.stmt) ++ xs) (references_listed scope lines)
    ∙ sym (references_both scope (uses_of line.stmt) (gathered uses_of lines))

-- ---- COMMON entities

names_both : (xs ys : List Item) → names_of_items (xs ++ ys) ≡ names_of_items xs ++ names_of_items ys
names_both [] ys = refl
names_both (x ∷ xs) ys = ap (λ zs. x.name ∷ zs) (names_both xs ys)

commons_gathered : (lines : List Line) → gathered commons_by lines ≡ names_of_items (gathered common_items_by lines)
commons_gathered [] = refl
commons_gathered (line ∷ lines) =
    ap (λ zs. commons_by line.stmt ++ zs) (commons_gathered lines)
    ∙ sym (names_both (common_items_by line.stmt) (gathered common_items_by lines))

-- ---- data names

pub own_if : (f : Bool) (x own : Name) → is_among x (cond f (own ∷ []) []) ≡ (f && same_bytes x own)
own_if true x own = or_false (same_bytes x own)
own_if false x own = refl

pub held_is : (unit : Segment) (x : Name)
    → is_among x (held_by unit) ≡ (is_among x (dummies_of unit) || is_among x (commons_of unit) || (is_function_segment unit && same_bytes x (own_name unit)))
held_is unit x =
    among_both x (dummies_of unit ++ commons_of unit) (own_value_of unit)
    ∙ (λ i. among_both x (dummies_of unit) (commons_of unit) i || own_if (is_function_segment unit) x (own_name unit) i)

data_is : (unit : Segment) (x : Name)
    → is_among x (data_names unit)
    ≡ (is_among x (gathered names_in unit)
    && (is_among x (dummies_of unit) || is_among x (commons_of unit) || (is_function_segment unit && same_bytes x (own_name unit))
    || not (is_among x (references_in (scope_of unit) (gathered uses_of unit)))))
data_is unit x =
    among_kept (λ y. is_among y (held_by unit) || not (is_among y (references_of unit))) (once (gathered names_in unit)) x
    ∙ (λ i. among_once (gathered names_in unit) x i
    && (held_is unit x i || not (among_once (references_in (scope_of unit) (gathered uses_of unit)) x i)))

-- ---- labels

pub labels_swapped : (m n : ℕ) → nat_eq m n ≡ nat_eq n m
labels_swapped m n = grind arith

label_equal : (m n : ℕ) → nat_eq m n ≡ true → m ≡ n
label_equal m n h = grind (arith, h)

pub known_more : (xs : List ℕ) (n l : ℕ) → is_known l (with_label xs n) ≡ (is_known l xs || nat_eq l n)
known_more xs n l = by (is_known n xs) refl
  where
    there : (b : Bool) → nat_eq l n ≡ b → is_known n xs ≡ true → is_known l xs ≡ (is_known l xs || b)
    there true e h = ap (λ z. is_known z xs) (label_equal l n e) ∙ h ∙ sym (ap (λ z. is_known z xs || true) (label_equal l n e) ∙ ap (λ b. b || true) h)
    there false e h = sym (or_false (is_known l xs))

    by : (b : Bool) → is_known n xs ≡ b → is_known l (cond b xs (xs ++ n ∷ [])) ≡ (is_known l xs || nat_eq l n)
    by true h = there (nat_eq l n) refl h
    by false h = any_both (nat_eq l) xs (n ∷ []) ∙ ap (λ b. is_known l xs || b) (or_false (nat_eq l n))

lines_is : (labels : List ℕ) (lines : List Line) (l : ℕ)
    → is_known l (lines_from labels lines) ≡ (is_known l labels || list_any (λ line. line.label == l) (executables lines))
lines_is labels [] l = sym (or_false (is_known l labels))
lines_is labels (line ∷ lines) l =
    lines_is (cond (is_performing (class_of line.stmt)) (with_label labels line.label) labels) lines l
    ∙ step (is_performing (class_of line.stmt))
  where
    step : (p : Bool)
        → (is_known l (cond p (with_label labels line.label) labels) || list_any (λ r. r.label == l) (executables lines))
        ≡ (is_known l labels || list_any (λ r. r.label == l) (cond p (line ∷ []) [] ++ executables lines))
    step true =
        ap (λ b. b || list_any (λ r. r.label == l) (executables lines)) (known_more labels line.label l)
        ∙ or_assoc (is_known l labels) (nat_eq l line.label) (list_any (λ r. r.label == l) (executables lines))
        ∙ ap (λ b. is_known l labels || (b || list_any (λ r. r.label == l) (executables lines))) (labels_swapped l line.label)
    step false = refl

-- ---- assignments

assigned_is : (own : Name) (lines : List Line) → assigned_from own lines ≡ assigns own (gathered uses_of lines)
assigned_is own [] = refl
assigned_is own (line ∷ lines) =
    ap (λ b. assigns own (uses_of line.stmt) || b) (assigned_is own lines)
    ∙ sym (any_both (λ o. same_bytes o.name own && is_assigned o.«use») (uses_of line.stmt) (gathered uses_of lines))

-- what the tables of a unit tell is what the unit says
pub roles_made : (unit : Segment) (scope : Scoped) (dummies commons names references : List Name) (lines : List ℕ) (assigned function : Bool)
    → scope_by scope ≡ scope_of unit → dummies ≡ given_from dummies_by [] unit → commons ≡ given_from commons_by [] unit
    → names ≡ given_from names_in [] unit → references ≡ given_from (λ s. references_in (scope_by scope) (uses_of s)) [] unit
    → lines ≡ lines_from [] unit → assigned ≡ assigned_from (own_name unit) unit → function ≡ is_function_segment unit
    → use_facts_by (record {
      function = function;
      assigned = assigned;
      scope = scope;
      dummies = dummies;
      commons = commons;
      names = names;
      references = references;
      lines = lines;
    }) (own_name unit)
    ≡ use_facts_of unit
roles_made unit scope dummies commons names references lines assigned function s d c n r l a f =
    let own = own_name unit in
    let is_dummy = λ (x : Name). ap (is_among x) d ∙ given_of_all dummies_by [] unit x in
    let is_common = λ (x : Name). ap (is_among x) c ∙ given_of_all commons_by [] unit x ∙ ap (is_among x) (commons_gathered unit) in
    let is_name = λ (x : Name). ap (is_among x) n ∙ given_of_all names_in [] unit x in
    let is_used = λ (x : Name).
    ap (is_among x) r ∙ given_of_all (λ t. references_in (scope_by scope) (uses_of t)) [] unit x ∙ ap (is_among x) (references_listed (scope_by scope) unit)
    ∙ ap (λ t. is_among x (references_in t (gathered uses_of unit))) s in
    λ i. record {
      own = own;
      is_function = f i;
      scope = s i;
      is_dummy = λ x. is_dummy x i;
      is_common = λ x. is_common x i;
      is_data = λ x. ((λ j. is_name x j && (is_dummy x j || is_common x j || (f j && same_bytes x own) || not (is_used x j))) ∙ sym (data_is unit x)) i;
      has_line = λ label. (ap (λ ls. not (label == 0) && is_known label ls) l ∙ ap (λ b. not (label == 0) && b) (lines_is [] unit label)) i;
      is_assigned = (a ∙ assigned_is own unit) i;
    }
