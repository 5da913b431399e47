-- Names that are put into a frame, one after another.
use Rattle.std.proofs.Common.{◌≡◌, ℕ, zero, suc, ◌<◌, ◌||◌, Bool, true, false, cond, List, [], ◌∷◌, ◌++◌, length, take, get_or, append_assoc, refl, sym, ap, ◌∙◌, subst, arith}
use Rattle.std.specs.Cmp.Lexicographic.{same_text, nat_list_eq_equiv}
use Rattle.formula.specs.Atoms.{is_among, same_bytes}
use Rattle.formula.specs.Pool.{Grows, IsIn, tree_of}
use Rattle.formula.specs.Tree.{Tree}
use Rattle.formula.specs.declared.node.Node.{Node}
use Rattle.formula.specs.declared.node.TermId.{TermId}
use Rattle.formula.proofs.Grown.{tree_of-Grows}
use Rattle.fort_model.specs.Seen.{Named}
use Rattle.fort_model.specs.WalkStmt.{with_name}
use Rattle.fort_syntax.specs.declared.name.Name.{Name}
use Rattle.fort_syntax.specs.declared.unit.DataName.{DataName}
use Rattle.walk_names.specs.declared.names.Names.{Names}
use Rattle.walk_names.specs.Names.{Extends, IsNames, IsSame, IsSet, named}
use Rattle.walk_names.proofs.NameTables.{extends_more, extends_not, named_grows}
use Rattle.call_frames.specs.Frames.{IsFilled, IsPut, all_shared, filled, shared_in}

-- ---- tests

or_assoc : (a b c : Bool) → (a || (b || c)) ≡ ((a || b) || c)
or_assoc true b c = refl
or_assoc false b c = refl

or_false : (b : Bool) → b ≡ (b || false)
or_false true = refl
or_false false = refl

pub or_second : (a b : Bool) → b ≡ true → (a || b) ≡ true
or_second true b h = refl
or_second false b h = h

either : (a b : Bool) {C : Type 0} → (a || b) ≡ true → (a ≡ true → C) → (b ≡ true → C) → C
either true b h f g = f refl
either false b h f g = g h

-- ---- names among others

pub among_both : (x : Name) (xs ys : List Name) → is_among x (xs ++ ys) ≡ (is_among x xs || is_among x ys)
among_both x [] ys = refl
among_both x (z ∷ xs) ys = ap (λ (b : Bool). same_bytes x z || b) (among_both x xs ys) ∙ or_assoc (same_bytes x z) (is_among x xs) (is_among x ys)

pub among_extends : (old new : List Name) (x : Name) → Extends old new → is_among x old ≡ true → is_among x new ≡ true
among_extends old new x e h = ap (is_among x) e.is ∙ (among_both x old e.added ∙ ap (λ (b : Bool). b || is_among x e.added) h)

-- ---- one name

pub put_known : (n0 n1 n2 : List Node) (a b c : Names) (x : Name) (id : TermId) → Grows n0 n1 → IsIn n0 id → IsSame n0 a n1 b → is_among x b.table ≡ true → IsSet n1 b n2 c x (tree_of n1 id)
    → IsPut n0 a n2 c x (tree_of n0 id)
put_known n0 n1 n2 a b c x id g h s known p = record {
  kept = p.kept;
  now = p.now ∙ (λ i. with_name (s.now i) x (tree_of-Grows n0 n1 id g h i));
  known = among_extends b.table c.table x p.extends known;
  extends = extends_more a.table b.table c.table s.extends p.extends;
}

-- ---- some names

pub filled_none : (nodes : List Node) (names : Names) (own : Named Tree) → IsNames nodes names → IsFilled nodes names nodes names [] own
filled_none nodes names own h = record { kept = h; now = refl; known = λ x e. absurd (cc); extends = extends_not names.table }

one_filled : (own before : Named Tree) (x y : Name) → with_name before x (own x) y ≡ filled (x ∷ []) own before y
one_filled own before x y = by (same_bytes x y) refl ∙ ap (λ (b : Bool). cond b (own y) (before y)) (nat_list_eq_equiv.symm x y ∙ or_false (same_bytes y x))
  where
    by : (b : Bool) → same_bytes x y ≡ b → cond b (own x) (before y) ≡ cond b (own y) (before y)
    by true e = ap own (same_text x y (sym e))
    by false e = refl

pub filled_one : (n0 n1 n2 : List Node) (a c : Names) (x : Name) (t : Tree) (own : Named Tree) → Grows n0 n1 → IsNames n0 a → IsPut n1 a n2 c x t → t ≡ own x → IsFilled n0 a n2 c (x ∷ []) own
filled_one n0 n1 n2 a c x t own g h p e = record {
  kept = p.kept;
  now =
      p.now ∙ (λ i. with_name (named_grows n0 n1 a.table a.terms.items g h.terms i) x (e i))
      ∙ (λ i y. one_filled own (named n0 a) x y i);
  known = λ y k. ap (λ (z : Name). is_among z c.table) (same_text y x (sym (or_false (same_bytes y x) ∙ k))) ∙ p.known;
  extends = p.extends;
}

both_filled : (own before : Named Tree) (xs ys : List Name) (y : Name) → filled ys own (filled xs own before) y ≡ filled (xs ++ ys) own before y
both_filled own before xs ys y = by (is_among y xs) (is_among y ys) ∙ ap (λ (b : Bool). cond b (own y) (before y)) (sym (among_both y xs ys))
  where
    by : (a b : Bool) → cond b (own y) (cond a (own y) (before y)) ≡ cond (a || b) (own y) (before y)
    by true true = refl
    by true false = refl
    by false true = refl
    by false false = refl

pub filled_then : (n0 n1 n2 : List Node) (a b c : Names) (xs ys zs : List Name) (own next : Named Tree) → IsFilled n0 a n1 b xs own → IsFilled n1 b n2 c ys next → next ≡ own → zs ≡ xs ++ ys
    → IsFilled n0 a n2 c zs own
filled_then n0 n1 n2 a b c xs ys zs own next p q e is = subst (λ (ws : List Name). IsFilled n0 a n2 c ws own) (sym is) (record {
  kept = q.kept;
  now = q.now ∙ (λ i. filled ys (e i) (p.now i)) ∙ (λ i y. both_filled own (named n0 a) xs ys y i);
  known = λ x h.
      either (is_among x xs) (is_among x ys) (sym (among_both x xs ys) ∙ h)
      (λ k. among_extends b.table c.table x q.extends (p.known x k))
      (λ k. q.known x k);
  extends = extends_more a.table b.table c.table p.extends q.extends;
})

-- ---- the names of a unit

nothing_more : (xs : List Name) → xs ++ [] ≡ xs
nothing_more [] = refl
nothing_more (x ∷ xs) = ap (λ (ys : List Name). x ∷ ys) (nothing_more xs)

shared_behind : (ds : List DataName) (d : DataName) → all_shared (ds ++ d ∷ []) ≡ all_shared ds ++ shared_in d
shared_behind [] d = nothing_more (shared_in d)
shared_behind (e ∷ ds) d = ap (λ (xs : List Name). shared_in e ++ xs) (shared_behind ds d) ∙ sym (append_assoc (shared_in e) (all_shared ds) (shared_in d))

pub shared_more : (ds : List DataName) (k n : ℕ) (d : DataName) → k < length ds → d ≡ get_or ds k d → n ≡ suc k → all_shared (take n ds) ≡ all_shared (take k ds) ++ shared_in d
shared_more ds k n d lt is e = ap (λ (m : ℕ). all_shared (take m ds)) e ∙ (ap all_shared (more ds k lt is) ∙ shared_behind (take k ds) d)
  where
    more : (ds : List DataName) (k : ℕ) → k < length ds → d ≡ get_or ds k d → take (suc k) ds ≡ take k ds ++ d ∷ []
    more [] k lt is = absurd (omega arith)
    more (y ∷ ds) zero lt is = ap (λ (z : DataName). z ∷ []) (sym is)
    more (y ∷ ds) (suc k) lt is = ap (λ (zs : List DataName). y ∷ zs) (more ds k (omega arith) is)
