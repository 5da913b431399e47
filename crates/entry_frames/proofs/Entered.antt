-- Names that are set to what they stand for at the entry, one after another.
use Rattle.std.proofs.Common.{◌≡◌, ℕ, zero, suc, ◌<◌, Bool, true, false, cond, ◌||◌, Some, List, [], ◌∷◌, ◌++◌, length, drop, get_or, refl, sym, ap, ◌∙◌, subst, arith}
use Rattle.std.specs.Cmp.Lexicographic.{same_text}
use Rattle.formula.specs.Atoms.{is_among, same_bytes}
use Rattle.formula.specs.Pool.{AllBelow, Grows, IsIn, tree_of}
use Rattle.formula.specs.Tree.{Tree}
use Rattle.formula.specs.declared.node.Node.{Node}
use Rattle.formula.specs.declared.node.TermId.{TermId}
use Rattle.formula.proofs.Grown.{Grows-refl, Grows-trans, tree_of-Grows}
use Rattle.fort_model.specs.Fitting.{any_role}
use Rattle.fort_model.specs.WalkStmt.{with_name}
use Rattle.fort_syntax.specs.Names.{data_name_in, has_role}
use Rattle.fort_syntax.specs.declared.name.Name.{Name}
use Rattle.fort_syntax.specs.declared.unit.DataName.{DataName}
use Rattle.walk_names.specs.declared.names.Logged.{Logged}
use Rattle.walk_names.specs.declared.names.Names.{Names}
use Rattle.walk_names.specs.Names.{AreLogged, Extends, IsNames, IsSame, IsSet, entry_of, named, named_by}
use Rattle.walk_names.proofs.NameTables.{extends_more, extends_not, same_grows}
use Rattle.entry_frames.specs.Entries.{AreGoodShapes, HasGoodShape, HasNames, IsEntered, IsOneSet, at_entry_in, entry_with, value_of}
use Rattle.entry_frames.specs.Laws.{EntriesAreAtEntry}

pub entries_are_at_entry : EntriesAreAtEntry
entries_are_at_entry p i u = refl

-- ---- one more name

one_entered : (d : DataName) (ds : List DataName) (y : Name) → with_name (at_entry_in ds) d.name (value_of d) y ≡ at_entry_in (d ∷ ds) y
one_entered d ds y = by (same_bytes d.name y) refl
  where
    by : (b : Bool) → same_bytes d.name y ≡ b → cond b (value_of d) (at_entry_in ds y) ≡ entry_with (cond b (Some d) (data_name_in ds y)) y
    by true e = ap (λ (x : Name). entry_with (Some d) x) (same_text d.name y (sym e))
    by false e = refl

pub among_extends : (old new : List Name) (x : Name) → Extends old new → is_among x old ≡ true → is_among x new ≡ true
among_extends old new x e h = ap (is_among x) e.is ∙ more old h
  where
    or_true : (a b : Bool) → b ≡ true → (a || b) ≡ true
    or_true true b h = refl
    or_true false b h = h

    by : (a b c : Bool) → (b ≡ true → c ≡ true) → (a || b) ≡ true → (a || c) ≡ true
    by true b c f h = refl
    by false b c f h = f h

    more : (xs : List Name) → is_among x xs ≡ true → is_among x (xs ++ e.added) ≡ true
    more [] h = absurd (cc)
    more (y ∷ xs) h = by (same_bytes x y) (is_among x xs) (is_among x (xs ++ e.added)) (more xs) h

has_more : (d : DataName) (ds : List DataName) (old new : List Name) → Extends old new → is_among d.name new ≡ true → HasNames ds old → HasNames (d ∷ ds) new
has_more d ds old new e there has x = by (same_bytes d.name x) refl
  where
    by : (b : Bool) → same_bytes d.name x ≡ b → has_role any_role (cond b (Some d) (data_name_in ds x)) ≡ true → is_among x new ≡ true
    by true s h = ap (λ (z : Name). is_among z new) (sym (same_text d.name x (sym s))) ∙ there
    by false s h = among_extends old new x e (has x h)

drop_at : {A : Type 0} (xs : List A) (k n : ℕ) (y : A) → k < length xs → y ≡ get_or xs k y → n ≡ suc k → drop k xs ≡ y ∷ drop n xs
drop_at xs k n y lt is e = at xs k lt is ∙ (λ i. y ∷ drop (sym e i) xs)
  where
    at : (xs : List _) (k : ℕ) → k < length xs → y ≡ get_or xs k y → drop k xs ≡ y ∷ drop (suc k) xs
    at [] k lt is = absurd (omega arith)
    at (x ∷ xs) zero lt is = λ i. sym is i ∷ xs
    at (x ∷ xs) (suc k) lt is = at xs k (omega arith) is

pub shape_at : (ds : List DataName) (k : ℕ) (d : DataName) → AreGoodShapes ds → k < length ds → d ≡ get_or ds k d → HasGoodShape d
shape_at [] k d h lt is = absurd (omega arith)
shape_at (x ∷ ds) zero d h lt is = subst HasGoodShape (sym is) h.0
shape_at (x ∷ ds) (suc k) d h lt is = shape_at ds k d h.1 (omega arith) is

-- a name was made known, and set
pub one_set : (p0 p1 p2 p3 : List Node) (n0 n1 n2 : Names) (x : Name) (id : TermId) (t : Tree) → IsNames p0 n0 → Grows p0 p1 → IsIn p1 id → tree_of p1 id ≡ t
    → Grows p1 p2 → IsSame p1 n0 p2 n1 → is_among x n1.table ≡ true → Grows p2 p3 → IsSet p2 n1 p3 n2 x (tree_of p2 id) → IsOneSet p0 n0 p3 n2 x t
one_set p0 p1 p2 p3 n0 n1 n2 x id t h g1 within tree g2 same there g3 set =
    let s = same_grows p0 p1 n0 g1 h in
    record {
      grows = Grows-trans p0 p2 p3 (Grows-trans p0 p1 p2 g1 g2) g3;
      kept = set.kept;
      now = set.now ∙ (λ i. with_name ((same.now ∙ s.now) i) x ((tree_of-Grows p1 p2 id g2 within ∙ tree) i));
      before = set.before ∙ (same.before ∙ s.before);
      extends = extends_more n0.table n1.table n2.table same.extends set.extends;
      there = among_extends n1.table n2.table x set.extends there;
    }

pub entered_none : (nodes : List Node) (names : Names) (ds : List DataName) → IsNames nodes names → named nodes names ≡ entry_of → ds ≡ [] → IsEntered nodes names nodes names ds
entered_none nodes names ds h first e = record {
  grows = Grows-refl nodes;
  kept = h;
  now = first ∙ (λ i. at_entry_in (sym e i));
  before = refl;
  extends = extends_not names.table;
  has = subst (λ (xs : List DataName). HasNames xs names.table) (sym e) (λ x k. absurd (cc));
}

pub entered_more : (p0 p1 p2 : List Node) (n0 n1 n2 : Names) (all : List DataName) (k n : ℕ) (d : DataName) → IsEntered p0 n0 p1 n1 (drop n all)
    → IsOneSet p1 n1 p2 n2 d.name (value_of d) → k < length all → d ≡ get_or all k d → n ≡ suc k → IsEntered p0 n0 p2 n2 (drop k all)
entered_more p0 p1 p2 n0 n1 n2 all k n d was set lt is next =
    let e = drop_at all k n d lt is next in
    record {
      grows = Grows-trans p0 p1 p2 was.grows set.grows;
      kept = set.kept;
      now =
          set.now ∙ ((λ i. with_name (was.now i) d.name (value_of d)) ∙ ((λ i y. one_entered d (drop n all) y i) ∙ (λ i. at_entry_in (sym e i))));
      before = set.before ∙ was.before;
      extends = extends_more n0.table n1.table n2.table was.extends set.extends;
      has = subst (λ (xs : List DataName). HasNames xs n2.table) (sym e) (has_more d (drop n all) n1.table n2.table set.extends set.there was.has);
    }

-- ---- names without a table

pub record Fresh (nodes : List Node) (names : Names) : Type 0 where
  pub kept : IsNames nodes names
  pub now : named nodes names ≡ entry_of

pub fresh : (nodes : List Node) (names : Names) → names.table ≡ [] → names.terms.items ≡ [] → names.log ≡ [] → Fresh nodes names
fresh nodes names table terms log = record {
  kept = record {
    count = ap length table ∙ sym (ap length terms);
    terms = subst (AllBelow (length nodes)) (sym terms) tt;
    log = subst (λ (l : List Logged). AreLogged (length nodes) (length names.terms.items) l) (sym log) tt;
  };
  now = λ i. named_by nodes (table i) (terms i);
}
