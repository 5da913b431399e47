-- What the tables of a unit tell of its COMMON blocks.
use Rattle.std.proofs.Common.{◌≡◌, Bool, true, false, List, [], ◌∷◌, ◌++◌, refl, sym, ap, ◌∙◌, append_assoc, rules}
use Rattle.std.specs.Prelude.{◌||◌, ◌&&◌, not, cond, map, Option, Some}
use Rattle.formula.specs.Atoms.{same_bytes, is_among}
use Rattle.indexmap.specs.IndexMap.{insert_entry}
use Rattle.fort_syntax.specs.Units.{Segment, gathered, own_name, dummies_by, scope_of, name_of_block, groups_by, blocks_by, names_of_items, items_of_block_in}
use Rattle.fort_syntax.specs.NameRules.{Member, member_of, members}
use Rattle.fort_syntax.specs.declared.name.Name.{Name}
use Rattle.fort_syntax.specs.declared.stmt.Group.{Group}
use Rattle.fort_syntax.specs.declared.stmt.Item.{Item}
use Rattle.fort_syntax.specs.declared.stmt.Stmt.{Stmt}
use Rattle.fort_syntax.specs.declared.unit.Line.{Line}
use Rattle.unit_scope.specs.declared.scoped.Scoped.{Scoped}
use Rattle.name_tables.specs.Sets.{with_name, with_names}
use Rattle.name_tables.specs.Tables.{first_of}
use Rattle.unit_scope.specs.Scoping.{scope_by}
use Rattle.decl_faults.specs.Facts.{facts_by, members_by}
use Rattle.decl_faults.specs.Commons.{names_or_none, listed, appended, with_groups, tabled, given_from, is_bad_with, is_bad_by, bad_in, bad_from, facts_with}
use Rattle.name_tables.proofs.Told.{same_names, swapped}
use Rattle.decl_faults.proofs.Among.{or_assoc, among_both}
use Rattle.decl_faults.proofs.NameScanned.{with_name_of, with_names_of}

-- ---- tables of blocks

put_over : {V : Type 0} (b : Bool) (v w : V) (o : Option V) → cond b (Some v) o ≡ cond b (Some v) (cond b (Some w) o)
put_over true v w o = refl
put_over false v w o = refl

moved : {V : Type 0} (a b : Bool) (v w : V) (o : Option V) → (a ≡ true → b ≡ true → false ≡ true)
    → cond a (Some w) (cond b (Some v) o) ≡ cond b (Some v) (cond a (Some w) o)
moved true true v w o h = search (h refl refl, rules)
moved true false v w o h = refl
moved false true v w o h = refl
moved false false v w o h = refl

-- a table has for a name what was put for it last
insert_of : {V : Type 0} (es : List (Name × V)) (k : Name) (v : V) (x : Name)
    → first_of (insert_entry same_bytes es k v) x ≡ cond (same_bytes x k) (Some v) (first_of es x)
insert_of [] k v x = refl
insert_of {V} (e ∷ es) k v x = by (insert_of es k v x) (same_bytes k e.0) refl
  where
    by : first_of (insert_entry same_bytes es k v) x ≡ cond (same_bytes x k) (Some v) (first_of es x) → (b : Bool) → same_bytes k e.0 ≡ b
        → first_of (cond b ((e.0, v) ∷ es) (e ∷ insert_entry same_bytes es k v)) x
        ≡ cond (same_bytes x k) (Some v) (cond (same_bytes x e.0) (Some e.1) (first_of es x))
    by rest true h =
        put_over (same_bytes x e.0) v e.1 (first_of es x)
        ∙ ap (λ y. cond (same_bytes x y) (Some v) (cond (same_bytes x e.0) (Some e.1) (first_of es x))) (sym (same_names k e.0 h))
    by rest false h =
        ap (cond (same_bytes x e.0) (Some e.1)) rest
        ∙ moved (same_bytes x e.0) (same_bytes x k) v e.1 (first_of es x)
        (λ p q. sym h ∙ ap (λ y. same_bytes y e.0) (sym (same_names x k q)) ∙ p)

no_more : {X : Type 0} (xs : List X) → xs ++ [] ≡ xs
no_more [] = refl
no_more (x ∷ xs) = ap (λ ys. x ∷ ys) (no_more xs)

appended_of : (table : List (Name × List Name)) (k : Name) (names : List Name) (b : Name)
    → listed (appended table k names) b ≡ listed table b ++ cond (same_bytes k b) names []
appended_of table k names b =
    ap names_or_none (insert_of (insert_entry same_bytes table k []) k (listed table k ++ names) b)
    ∙ ap (λ o. names_or_none (cond (same_bytes b k) (Some (listed table k ++ names)) o)) (insert_of table k [] b)
    ∙ by (same_bytes b k) refl
    ∙ ap (λ s. listed table b ++ cond s names []) (swapped b k)
  where
    by : (s : Bool) → same_bytes b k ≡ s
        → names_or_none (cond s (Some (listed table k ++ names)) (cond s (Some []) (first_of table b))) ≡ listed table b ++ cond s names []
    by true h = ap (λ y. listed table y ++ names) (sym (same_names b k h))
    by false h = sym (no_more (listed table b))

names_both : (xs ys : List Item) → names_of_items (xs ++ ys) ≡ names_of_items xs ++ names_of_items ys
names_both [] ys = refl
names_both (x ∷ xs) ys = ap (λ zs. x.name ∷ zs) (names_both xs ys)

names_if : (s : Bool) (items : List Item) → cond s (names_of_items items) [] ≡ names_of_items (cond s items [])
names_if true items = refl
names_if false items = refl

groups_of : (table : List (Name × List Name)) (groups : List Group) (b : Name)
    → listed (with_groups table groups) b ≡ listed table b ++ names_of_items (items_of_block_in groups b)
groups_of table [] b = sym (no_more (listed table b))
groups_of table (g ∷ groups) b =
    let s = same_bytes (name_of_block g.block) b in
    let rest = items_of_block_in groups b in
    groups_of (appended table (name_of_block g.block) (names_of_items g.items)) groups b
    ∙ ap (λ xs. xs ++ names_of_items rest) (appended_of table (name_of_block g.block) (names_of_items g.items) b)
    ∙ append_assoc (listed table b) (cond s (names_of_items g.items) []) (names_of_items rest)
    ∙ ap (λ xs. listed table b ++ xs)
    (ap (λ xs. xs ++ names_of_items rest) (names_if s g.items) ∙ sym (names_both (cond s g.items []) rest))

items_both : (xs ys : List Group) (b : Name) → items_of_block_in (xs ++ ys) b ≡ items_of_block_in xs b ++ items_of_block_in ys b
items_both [] ys b = refl
items_both (x ∷ xs) ys b =
    ap (λ zs. cond (same_bytes (name_of_block x.block) b) x.items [] ++ zs) (items_both xs ys b)
    ∙ sym (append_assoc (cond (same_bytes (name_of_block x.block) b) x.items []) (items_of_block_in xs b) (items_of_block_in ys b))

pub tabled_of : (table : List (Name × List Name)) (lines : List Line) (b : Name)
    → listed (tabled table lines) b ≡ listed table b ++ names_of_items (items_of_block_in (gathered groups_by lines) b)
tabled_of table [] b = sym (no_more (listed table b))
tabled_of table (line ∷ lines) b =
    let first = items_of_block_in (groups_by line.stmt) b in
    let rest = items_of_block_in (gathered groups_by lines) b in
    tabled_of (with_groups table (groups_by line.stmt)) lines b
    ∙ ap (λ xs. xs ++ names_of_items rest) (groups_of table (groups_by line.stmt) b)
    ∙ append_assoc (listed table b) (names_of_items first) (names_of_items rest)
    ∙ ap (λ xs. listed table b ++ xs)
    (sym (names_both first rest) ∙ ap names_of_items (sym (items_both (groups_by line.stmt) (gathered groups_by lines) b)))

-- ---- sets of names

pub given_of_all : (give : Stmt → List Name) (names : List Name) (lines : List Line) (x : Name)
    → is_among x (given_from give names lines) ≡ (is_among x names || is_among x (gathered give lines))
given_of_all give names [] x = none (is_among x names)
  where
    none : (b : Bool) → b ≡ (b || false)
    none true = refl
    none false = refl
given_of_all give names (line ∷ lines) x =
    given_of_all give (with_names names (give line.stmt)) lines x
    ∙ ap (λ b. b || is_among x (gathered give lines)) (with_names_of names (give line.stmt) x)
    ∙ or_assoc (is_among x names) (is_among x (give line.stmt)) (is_among x (gathered give lines))
    ∙ ap (λ b. is_among x names || b) (sym (among_both x (give line.stmt) (gathered give lines)))

-- ---- sets of bad blocks

or_none : (b s : Bool) (t : Bool) → b ≡ (b || (not s && (false && t)))
or_none true s t = refl
or_none false true t = refl
or_none false false t = refl

one_bad : (e b s m t : Bool)
    → ((b || (e && (not s && t))) || (not (s || e) && (m && t))) ≡ (b || (not s && ((e || m) && t)))
one_bad e true s m t = refl
one_bad true false true m t = refl
one_bad true false false m true = refl
one_bad true false false m false = refl
one_bad false false true m t = refl
one_bad false false false m t = refl

one_added : (test : Name → Bool) (seen bad : List Name) (k b : Name)
    → is_among b (cond (not (is_among k seen) && test k) (with_name bad k) bad)
    ≡ (is_among b bad || (same_bytes b k && (not (is_among b seen) && test b)))
one_added test seen bad k b = by (same_bytes b k) refl
  where
    or_false : (c : Bool) → (c || false) ≡ c
    or_false true = refl
    or_false false = refl

    added : (c : Bool) → is_among b (cond c (with_name bad k) bad) ≡ (is_among b bad || (same_bytes b k && c))
    added true = with_name_of bad k b ∙ ap (λ d. is_among b bad || d) (and_true (same_bytes b k))
      where
        and_true : (d : Bool) → d ≡ (d && true)
        and_true true = refl
        and_true false = refl
    added false = sym (ap (λ d. is_among b bad || d) (and_none (same_bytes b k)) ∙ or_false (is_among b bad))
      where
        and_none : (d : Bool) → (d && false) ≡ false
        and_none true = refl
        and_none false = refl

    by : (e : Bool) → same_bytes b k ≡ e
        → is_among b (cond (not (is_among k seen) && test k) (with_name bad k) bad)
        ≡ (is_among b bad || (same_bytes b k && (not (is_among b seen) && test b)))
    by true h =
        added (not (is_among k seen) && test k)
        ∙ ap (λ y. is_among b bad || (same_bytes b k && (not (is_among y seen) && test y))) (sym (same_names b k h))
    by false h =
        added (not (is_among k seen) && test k)
        ∙ ap (λ e. is_among b bad || (e && (not (is_among k seen) && test k))) h
        ∙ sym (ap (λ e. is_among b bad || (e && (not (is_among b seen) && test b))) h)

bad_in_of : (test : Name → Bool) (seen bad bs : List Name) (b : Name)
    → is_among b (bad_in test seen bad bs) ≡ (is_among b bad || (not (is_among b seen) && (is_among b bs && test b)))
bad_in_of test seen bad [] b = or_none (is_among b bad) (is_among b seen) (test b)
bad_in_of test seen bad (k ∷ bs) b =
    let more = cond (not (is_among k seen) && test k) (with_name bad k) bad in
    bad_in_of test (with_name seen k) more bs b
    ∙ (λ i. one_added test seen bad k b i || (not (with_name_of seen k b i) && (is_among b bs && test b)))
    ∙ one_bad (same_bytes b k) (is_among b bad) (is_among b seen) (is_among b bs) (test b)

all_bad : (b s m g t : Bool)
    → ((b || (not s && (m && t))) || (not (s || m) && (g && t))) ≡ (b || (not s && ((m || g) && t)))
all_bad true s m g t = refl
all_bad false true m g t = refl
all_bad false false true g true = refl
all_bad false false true g false = refl
all_bad false false false g t = refl

bad_from_of : (test : Name → Bool) (seen bad : List Name) (lines : List Line) (b : Name)
    → is_among b (bad_from test seen bad lines) ≡ (is_among b bad || (not (is_among b seen) && (is_among b (gathered blocks_by lines) && test b)))
bad_from_of test seen bad [] b = or_none (is_among b bad) (is_among b seen) (test b)
bad_from_of test seen bad (line ∷ lines) b =
    let bs = blocks_by line.stmt in
    let rest = gathered blocks_by lines in
    bad_from_of test (with_names seen bs) (bad_in test seen bad bs) lines b
    ∙ (λ i. bad_in_of test seen bad bs b i || (not (with_names_of seen bs b i) && (is_among b rest && test b)))
    ∙ all_bad (is_among b bad) (is_among b seen) (is_among b bs) (is_among b rest) (test b)
    ∙ ap (λ c. is_among b bad || (not (is_among b seen) && (c && test b))) (sym (among_both b bs rest))

-- ---- what is known of a unit

pub members_made : (unit : Segment) (scope : Scoped) (dummies bad : List Name) (commons : List (Name × List Name))
    → scope_by scope ≡ scope_of unit → commons ≡ tabled [] unit
    → members_by (record { scope = scope; dummies = dummies; commons = commons; bad_blocks = bad }) ≡ members unit
members_made unit scope dummies bad commons s c = λ i b. map (member_of (s i)) ((ap (λ t. listed t b) c ∙ tabled_of [] unit b) i)

pub facts_made : (earlier : List (Name × List Member)) (unit : Segment) (scope : Scoped) (dummies bad : List Name) (commons : List (Name × List Name))
    → scope_by scope ≡ scope_of unit → dummies ≡ given_from dummies_by [] unit → commons ≡ tabled [] unit
    → bad ≡ bad_from (is_bad_by earlier (scope_by scope) commons) [] [] unit
    → facts_by (record { scope = scope; dummies = dummies; commons = commons; bad_blocks = bad }) (own_name unit) ≡ facts_with earlier unit
facts_made earlier unit scope dummies bad commons s d c e =
    let mem = members_made unit scope dummies bad commons s c in
    λ i. record {
      own = own_name unit;
      scope = s i;
      is_dummy = λ x. (ap (is_among x) d ∙ given_of_all dummies_by [] unit x) i;
      is_bad_block = λ b. (ap (is_among b) e ∙ bad_from_of (is_bad_by earlier (scope_by scope) commons) [] [] unit b
          ∙ ap (λ m. is_among b (gathered blocks_by unit) && is_bad_with earlier (m b) b) mem) i;
    }
