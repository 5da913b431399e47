-- The terms of notes, stated by a table.
use Rattle.std.proofs.Common.{◌≡◌, ℕ, zero, suc, ◌<◌, Bool, true, false, cond, ◌&&◌, ◌||◌, Option, Some, None, List, [], ◌∷◌, ◌++◌, map, length, take, get_or, is_some, codes, if◌then◌else◌, refl, sym, ap, ◌∙◌, arith}
use Rattle.std.specs.Cmp.Lexicographic.{same_text}
use Rattle.formula.specs.Atoms.{is_among, same_bytes}
use Rattle.formula.specs.Pool.{AllBelow, Grows, IsIn, tree_of}
use Rattle.formula.specs.Substitution.{substituted, row_substituted, tree_or, put_for, present_term, term_named, under_names}
use Rattle.formula.specs.TermTests.{names_pass, row_names_pass}
use Rattle.formula.specs.Tree.{Tree, num, truth, symbol, old, apply, Row, none, more}
use Rattle.formula.specs.declared.node.Node.{Node}
use Rattle.formula.specs.declared.node.TermId.{TermId}
use Rattle.fort_model.specs.Senses.{of_terms, with_bounds, least_integer, greatest_integer, note}
use Rattle.walk_names.specs.declared.names.Names.{Names}
use Rattle.walk_names.specs.Names.{IsNames, entry_of, named, named_by}
use Rattle.walk_names.proofs.NameTables.{named_grows}
use Rattle.formula.proofs.Grown.{tree_of-Grows}
use Rattle.note_terms.specs.Stated.{Makes, are_known_terms, has_entry, is_known_term, is_told, stated, trees_in}
use Rattle.note_terms.proofs.Added.{below_at, made_more, makes_more}

known : (b : Bool) {C : Type 0} → (b ≡ true → C) → (b ≡ false → C) → C
known true f g = f refl
known false f g = g refl

both_parts : (a b : Bool) → (a && b) ≡ true → (a ≡ true) × (b ≡ true)
both_parts true b e = (refl, e)
both_parts false b e = absurd (cc)

-- ---- substitutions that agree on the names of a term

module _ (s r e f : List ℕ → Tree) (may may_entry : List ℕ → Bool) (now : (x : List ℕ) → may x ≡ true → s x ≡ r x) (entry : (x : List ℕ) → may_entry x ≡ true → e x ≡ f x) where
  mutual
    agree : (t : Tree) → names_pass may may_entry t ≡ true → substituted s e t ≡ substituted r f t
    agree (num z) h = refl
    agree (truth b) h = refl
    agree (symbol x) h = now x h
    agree (old x) h = entry x h
    agree (apply g row) h = ap (λ (w : Row). apply g w) (rows_agree row h)

    rows_agree : (row : Row) → row_names_pass may may_entry row ≡ true → row_substituted s e row ≡ row_substituted r f row
    rows_agree none h = refl
    rows_agree (more t rest) h =
        let b = both_parts (names_pass may may_entry t) (row_names_pass may may_entry rest) h in
        λ i. more (agree t b.0 i) (rows_agree rest b.1 i)

-- ---- names of a table

-- a name of a table has a term
has_term : (table : List (List ℕ)) (ids : List TermId) (x : List ℕ) → length table ≡ length ids → is_among x table ≡ true → (id : TermId) × (term_named table ids x ≡ Some id)
has_term [] ids x e h = absurd (cc)
has_term (n ∷ table) [] x e h = absurd (cc)
has_term (n ∷ table) (id ∷ ids) x e h = known (same_bytes x n)
    (λ t. (id, ap (λ (b : Bool). if b then Some id else term_named table ids x) t))
    (λ f. let r = has_term table ids x (let k : length table ≡ length ids = cc in k) (sym (ap (λ (b : Bool). b || is_among x table) f) ∙ h) in
    (r.0, ap (λ (b : Bool). if b then Some id else term_named table ids x) f ∙ r.1))

either_way : (nodes : List Node) (o : Option TermId) (id : TermId) (s t : Tree) → o ≡ Some id → tree_or nodes o s ≡ tree_or nodes o t
either_way nodes o id s t e = ap (λ (p : Option TermId). tree_or nodes p s) e ∙ sym (ap (λ (p : Option TermId). tree_or nodes p t) e)

some_either : (nodes : List Node) (o : Option TermId) (s t : Tree) → is_some o ≡ true → tree_or nodes o s ≡ tree_or nodes o t
some_either nodes None s t e = absurd (cc)
some_either nodes (Some id) s t e = refl

module _ (nodes : List Node) (names : Names) (h : IsNames nodes names) where
  now_same : (x : List ℕ) → is_told names.table x ≡ true → put_for nodes (present_term names.table names.terms.items) symbol x ≡ with_bounds of_terms (named nodes names) x
  now_same x e = known (same_bytes (codes "LEAST") x)
      (λ t. ap (λ (b : Bool). tree_or nodes (if b || same_bytes (codes "GREATEST") x then None else term_named names.table names.terms.items x) (symbol x)) t
      ∙ (ap symbol (sym (same_text (codes "LEAST") x (sym t)))
      ∙ sym (ap (λ (b : Bool). cond b (least_integer of_terms) (cond (same_bytes (codes "GREATEST") x) (greatest_integer of_terms) (named nodes names x))) t)))
      (λ f. ap (λ (b : Bool). tree_or nodes (if b || same_bytes (codes "GREATEST") x then None else term_named names.table names.terms.items x) (symbol x)) f
      ∙ (known (same_bytes (codes "GREATEST") x)
      (λ t. ap (λ (b : Bool). tree_or nodes (if b then None else term_named names.table names.terms.items x) (symbol x)) t
      ∙ (ap symbol (sym (same_text (codes "GREATEST") x (sym t)))
      ∙ sym (ap (λ (b : Bool). cond b (greatest_integer of_terms) (named nodes names x)) t)))
      (λ g. ap (λ (b : Bool). tree_or nodes (if b then None else term_named names.table names.terms.items x) (symbol x)) g
      ∙ (let r = has_term names.table names.terms.items x h.count (among f g) in
      either_way nodes (term_named names.table names.terms.items x) r.0 (symbol x) (entry_of x) r.1
      ∙ sym (ap (λ (b : Bool). cond b (greatest_integer of_terms) (named nodes names x)) g)))
      ∙ sym (ap (λ (b : Bool). cond b (least_integer of_terms) (cond (same_bytes (codes "GREATEST") x) (greatest_integer of_terms) (named nodes names x))) f)))
    where
      among : same_bytes (codes "LEAST") x ≡ false → same_bytes (codes "GREATEST") x ≡ false → is_among x names.table ≡ true
      among f g = sym (ap (λ (b : Bool). b || is_among x names.table) (ap (λ (b : Bool). b || same_bytes (codes "GREATEST") x) f ∙ g)) ∙ e

  -- what a table puts for the names of a term is what they stand for
  pub stated_is : (entry : List TermId) (t : Tree) → is_known_term names.table entry t ≡ true → under_names nodes names.table names.terms.items entry t ≡ stated nodes names entry t
  stated_is entry t e =
      agree (put_for nodes (present_term names.table names.terms.items) symbol) (with_bounds of_terms (named nodes names))
      (put_for nodes (term_named names.table entry) old) (named_by nodes names.table entry)
      (is_told names.table) (has_entry names.table entry) now_same
      (λ x k. some_either nodes (term_named names.table entry x) (old x) (entry_of x) k) t e

-- ---- terms one after another

pub stated_grows : (first next : List Node) (names : Names) (entry : List TermId) → Grows first next → IsNames first names → AllBelow (length first) entry → stated next names entry ≡ stated first names entry
stated_grows first next names entry g h k =
    λ i t. note of_terms (named_grows first next names.table entry g k i) (named_grows first next names.table names.terms.items g h.terms i) t

-- one of some known terms is known while the pool grows
pub known_at : (table : List (List ℕ)) (entry : List TermId) (first next : List Node) (ids : List TermId) (k : ℕ) (d : TermId) → Grows first next → AllBelow (length first) ids → k < length ids
    → are_known_terms table entry (trees_in first ids) ≡ true → is_known_term table entry (tree_of next (get_or ids k d)) ≡ true
known_at table entry first next ids k d g below lt h =
    ap (is_known_term table entry) (tree_of-Grows first next (get_or ids k d) g (below_at (length first) ids k d below lt)) ∙ at ids k lt h
  where
    at : (ids : List TermId) (k : ℕ) → k < length ids → are_known_terms table entry (trees_in first ids) ≡ true → is_known_term table entry (tree_of first (get_or ids k d)) ≡ true
    at [] k lt h = absurd (omega arith)
    at (x ∷ ids) zero lt h = (both_parts (is_known_term table entry (tree_of first x)) (are_known_terms table entry (trees_in first ids)) h).0
    at (x ∷ ids) (suc k) lt h = at ids k (omega arith) ((both_parts (is_known_term table entry (tree_of first x)) (are_known_terms table entry (trees_in first ids)) h).1)

-- one more term was stated
pub notes_more : (a b c : List Node) (names : Names) (entry ids terms after : List TermId) (k n : ℕ) (d id : TermId)
    → IsNames a names → AllBelow (length a) entry → AllBelow (length a) ids → k < length ids → n ≡ suc k
    → Makes a b terms (map (stated a names entry) (trees_in a (take k ids))) → Grows b c → IsIn c id → tree_of c id ≡ stated b names entry (tree_of b (get_or ids k d)) → after ≡ terms ++ id ∷ []
    → Makes a c after (map (stated a names entry) (trees_in a (take n ids)))
notes_more a b c names entry ids terms after k n d id h e below lt next m g within tree pushed =
    makes_more a b c terms after id (stated a names entry (tree_of a (get_or ids k d))) (map (stated a names entry) (trees_in a (take k ids))) (map (stated a names entry) (trees_in a (take n ids)))
    m g within
    (tree ∙ (λ i. stated_grows a b names entry m.grows h e i (tree_of-Grows a b (get_or ids k d) m.grows (below_at (length a) ids k d below lt) i)))
    pushed (made_more (stated a names entry) a ids k n d lt next)
