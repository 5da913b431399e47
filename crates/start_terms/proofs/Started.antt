-- Names that are started one after another, and dimensions.
use Rattle.std.proofs.Common.{◌≡◌, ℕ, zero, suc, ◌<◌, Bool, true, false, cond, ◌||◌, List, [], ◌∷◌, ◌++◌, length, take, get_or, refl, sym, ap, ◌∙◌, arith}
use Rattle.std.specs.Cmp.Lexicographic.{same_text, nat_list_eq_equiv}
use Rattle.formula.specs.Atoms.{is_among, same_bytes}
use Rattle.formula.specs.Pool.{Grows, IsIn, tree_of}
use Rattle.formula.specs.Tree.{Tree, symbol}
use Rattle.formula.specs.declared.node.Node.{Node}
use Rattle.formula.specs.declared.node.TermId.{TermId}
use Rattle.formula.proofs.Grown.{tree_of-Grows, Grows-trans}
use Rattle.fort_syntax.specs.declared.name.Name.{Name}
use Rattle.fort_model.specs.Seen.{Named}
use Rattle.fort_model.specs.Senses.{of_terms, is_defined}
use Rattle.fort_model.specs.Symbols.{AtStart, word_of}
use Rattle.fort_model.specs.WalkStmt.{with_name}
use Rattle.note_terms.specs.Stated.{Makes}
use Rattle.note_terms.proofs.Added.{makes_more}
use Rattle.walk_names.specs.declared.names.Names.{Names}
use Rattle.walk_names.specs.Names.{IsNames, IsSet, named}
use Rattle.walk_names.proofs.NameTables.{extends_more, extends_not, named_grows, same_grows}
use Rattle.start_terms.specs.Starts.{IsStarted, at_least_1, facts_of_dims, started}

abbrev own : Name → Tree
own x = symbol (word_of (AtStart x))

-- ---- a name more is started

among_more : (y x : Name) (xs : List Name) → is_among y (xs ++ x ∷ []) ≡ (is_among y xs || same_bytes y x)
among_more y x [] = or_false (same_bytes y x)
  where
    or_false : (b : Bool) → (b || false) ≡ b
    or_false true = refl
    or_false false = refl
among_more y x (z ∷ xs) = ap (λ (b : Bool). same_bytes y z || b) (among_more y x xs) ∙ or_assoc (same_bytes y z) (is_among y xs) (same_bytes y x)
  where
    or_assoc : (a b c : Bool) → (a || (b || c)) ≡ ((a || b) || c)
    or_assoc true b c = refl
    or_assoc false b c = refl

by_test : (now : Tree) (x y : Name) (among : Bool) (b : Bool) → same_bytes x y ≡ b → cond b (own x) (cond among (own y) now) ≡ cond (among || b) (own y) now
by_test now x y true true e = ap own (same_text x y (sym e))
by_test now x y false true e = ap own (same_text x y (sym e))
by_test now x y true false e = refl
by_test now x y false false e = refl

one_started : (now : Named Tree) (x y : Name) (xs : List Name) → with_name (started xs now) x (own x) y ≡ started (xs ++ x ∷ []) now y
one_started now x y xs =
    by_test (now y) x y (is_among y xs) (same_bytes x y) refl
    ∙ ap (λ (b : Bool). cond b (own y) (now y)) (ap (λ (b : Bool). is_among y xs || b) (nat_list_eq_equiv.symm x y) ∙ sym (among_more y x xs))

pub taken_more : (xs : List Name) (k n : ℕ) (x : Name) → k < length xs → x ≡ get_or xs k x → n ≡ suc k → take n xs ≡ take k xs ++ x ∷ []
taken_more xs k n x lt is e = ap (λ (m : ℕ). take m xs) e ∙ more xs k lt is
  where
    more : (xs : List Name) (k : ℕ) → k < length xs → x ≡ get_or xs k x → take (suc k) xs ≡ take k xs ++ x ∷ []
    more [] k lt is = absurd (omega arith)
    more (y ∷ xs) zero lt is = ap (λ (z : Name). z ∷ []) (sym is)
    more (y ∷ xs) (suc k) lt is = ap (λ (ys : List Name). y ∷ ys) (more xs k (omega arith) is)

-- no name was started
pub started_none : (nodes : List Node) (names : Names) (xs : List Name) → IsNames nodes names → xs ≡ [] → IsStarted nodes names nodes names xs
started_none nodes names xs h e = record {
  kept = h;
  now = (λ i. started (sym e i) (named nodes names));
  before = refl;
  extends = extends_not names.table;
}

pub started_more : (p0 p1 p2 p3 : List Node) (n0 n1 n2 : Names) (xs ys : List Name) (x : Name) (t : Tree) → IsStarted p0 n0 p1 n1 xs → Grows p1 p2 → t ≡ own x
    → IsSet p2 n1 p3 n2 x t → ys ≡ xs ++ x ∷ [] → IsStarted p0 n0 p3 n2 ys
started_more p0 p1 p2 p3 n0 n1 n2 xs ys x t s g same set e =
    let grown = same_grows p1 p2 n1 g s.kept in
    record {
      kept = set.kept;
      now =
          set.now
          ∙ ((λ i. with_name ((grown.now ∙ s.now) i) x (same i))
          ∙ ((λ i y. one_started (named p0 n0) x y xs i)
          ∙ (λ i. started (sym e i) (named p0 n0))));
      before = set.before ∙ (grown.before ∙ s.before);
      extends = extends_more n0.table n1.table n2.table s.extends set.extends;
    }

-- ---- dimensions

facts_behind : (now : Named Tree) (xs : List Name) (x : Name) → facts_of_dims now (xs ++ x ∷ []) ≡ (facts_of_dims now xs ++ is_defined of_terms (now x) ∷ []) ++ at_least_1 (now x) ∷ []
facts_behind now [] x = refl
facts_behind now (y ∷ xs) x = ap (λ (ts : List Tree). is_defined of_terms (now y) ∷ at_least_1 (now y) ∷ ts) (facts_behind now xs x)

pub dims_more : (p0 p1 p2 p3 p4 : List Node) (names : Names) (xs ys : List Name) (x : Name) (ids mid after : List TermId) (value first second : TermId) → IsNames p0 names
    → Makes p0 p1 ids (facts_of_dims (named p0 names) xs) → Grows p1 p2 → IsIn p2 value → tree_of p2 value ≡ named p1 names x
    → Grows p2 p3 → IsIn p3 first → tree_of p3 first ≡ is_defined of_terms (tree_of p2 value) → mid ≡ ids ++ first ∷ []
    → Grows p3 p4 → IsIn p4 second → tree_of p4 second ≡ at_least_1 (tree_of p3 value) → after ≡ mid ++ second ∷ []
    → ys ≡ xs ++ x ∷ [] → Makes p0 p4 after (facts_of_dims (named p0 names) ys)
dims_more p0 p1 p2 p3 p4 names xs ys x ids mid after value first second h m g1 in2 is2 g2 in3 is3 e3 g3 in4 is4 e4 e =
    let now = named p0 names in
    let still : tree_of p2 value ≡ now x = is2 ∙ (λ i. named_grows p0 p1 names.table names.terms.items m.grows h.terms i x) in
    let later : tree_of p3 value ≡ now x = tree_of-Grows p2 p3 value g2 in2 ∙ still in
    let one = makes_more p0 p1 p3 ids mid first (is_defined of_terms (now x)) (facts_of_dims now xs) (facts_of_dims now xs ++ is_defined of_terms (now x) ∷ []) m
    (through p1 p2 p3 g1 g2) in3 (is3 ∙ ap (is_defined of_terms) still) e3 refl in
    makes_more p0 p3 p4 mid after second (at_least_1 (now x)) (facts_of_dims now xs ++ is_defined of_terms (now x) ∷ []) (facts_of_dims now ys) one g3 in4 (is4 ∙ ap at_least_1 later) e4
    (ap (facts_of_dims now) e ∙ facts_behind now xs x)
  where
    through : (a b c : List Node) → Grows a b → Grows b c → Grows a c
    through a b c g k = Grows-trans a b c g k
