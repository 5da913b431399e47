-- Frames of called units.
use Rattle.std.proofs.Common.{◌≡◌, ℕ, ◌||◌, Bool, true, false, cond, Option, Some, is_some, if◌then◌else◌, List, [], ◌∷◌, ◌++◌, length, refl, sym, ap, ◌∙◌, subst}
use Rattle.std.specs.Cmp.Lexicographic.{nat_list_eq_equiv}
use Rattle.formula.specs.Atoms.{is_among, same_bytes}
use Rattle.formula.specs.Pool.{AllBelow, Grows}
use Rattle.formula.specs.Substitution.{term_named, tree_or}
use Rattle.formula.specs.Tree.{Tree}
use Rattle.formula.specs.declared.node.Node.{Node}
use Rattle.formula.specs.declared.node.TermId.{TermId}
use Rattle.formula.proofs.Grown.{AllBelow-Grows}
use Rattle.fort_model.specs.Seen.{Named}
use Rattle.fort_syntax.specs.Names.{data_name_in, has_role}
use Rattle.fort_syntax.specs.declared.name.Name.{Name}
use Rattle.fort_syntax.specs.declared.unit.DataName.{DataName}
use Rattle.fort_syntax.specs.declared.unit.Unit.{Unit as Routine}
use Rattle.note_terms.specs.Stated.{has_entry}
use Rattle.walk_names.specs.declared.names.Logged.{Logged}
use Rattle.walk_names.specs.declared.names.Names.{Names}
use Rattle.walk_names.specs.Names.{AreLogged, Extends, IsNames, entry_of, named, named_by}
use Rattle.walk_names.proofs.NameTables.{extends_more, named_grows}
use Rattle.call_frames.specs.Frames.{Fills, HasEntry, IsFilled, IsFrame, IsPlaced, all_shared, is_shared, is_shared_role, shared_in, with_terms}
use Rattle.call_frames.proofs.Put.{among_both, among_extends, or_second}

-- ---- a frame of no names

pub no_names : (nodes : List Node) (names : Names) → names.table ≡ [] → names.terms.items ≡ [] → names.log ≡ [] → IsNames nodes names
no_names nodes names table terms log = record {
  count = ap length table ∙ sym (ap length terms);
  terms = subst (AllBelow (length nodes)) (sym terms) tt;
  log = subst (λ (l : List Logged). AreLogged (length nodes) (length names.terms.items) l) (sym log) tt;
}

-- ---- all names are put

same_other : (ds : List Name) (ts : List Tree) (before after : Named Tree) (x : Name) → before x ≡ after x → with_terms ds ts before x ≡ with_terms ds ts after x
same_other [] ts before after x e = e
same_other (d ∷ ds) [] before after x e = e
same_other (d ∷ ds) (t ∷ ts) before after x e = ap (λ (s : Tree). cond (same_bytes d x) t s) (same_other ds ts before after x e)

-- a shared data name is among all of them
shared_among : (ds : List DataName) (x : Name) → has_role is_shared_role (data_name_in ds x) ≡ true → is_among x (all_shared ds) ≡ true
shared_among [] x h = absurd (cc)
shared_among (d ∷ ds) x h = by (same_bytes d.name x) refl (shared_among ds x)
  where
    front : (b : Bool) → b ≡ true → same_bytes x d.name ≡ true → is_among x (cond b (d.name ∷ []) [] ++ all_shared ds) ≡ true
    front true e like = ap (λ (c : Bool). c || is_among x (all_shared ds)) like
    front false e like = absurd (cc)

    by : (b : Bool) → same_bytes d.name x ≡ b → (has_role is_shared_role (data_name_in ds x) ≡ true → is_among x (all_shared ds) ≡ true) → is_among x (all_shared (d ∷ ds)) ≡ true
    by true e rest =
        front (is_shared_role d.role) (sym (ap (λ (c : Bool). has_role is_shared_role (cond c (Some d) (data_name_in ds x))) e) ∙ h) (nat_list_eq_equiv.symm x d.name ∙ e)
    by false e rest =
        among_both x (shared_in d) (all_shared ds)
        ∙ or_second (is_among x (shared_in d)) (is_among x (all_shared ds)) (rest (sym (ap (λ (c : Bool). has_role is_shared_role (cond c (Some d) (data_name_in ds x))) e) ∙ h))

pub fills : (n0 n1 n2 : List Node) (a b c : Names) (g : Routine) (ts us : List Tree) (own : Named Tree) → IsFilled n0 a n1 b (all_shared g.names) own → IsPlaced n1 b n2 c g.dummies us → us ≡ ts
    → Fills a.table n2 c g (with_terms g.dummies ts own)
fills n0 n1 n2 a b c g ts us own p q e = record {
  frame = record {
    kept = q.kept;
    known = λ x h. among_extends b.table c.table x q.extends (p.known x (shared_among g.names x h));
    tells = λ x h.
        (λ i. q.now i x)
        ∙ same_other g.dummies us (named n1 b) own x
        ((λ i. p.now i x) ∙ ap (λ (t : Bool). cond t (own x) (named n0 a x)) (shared_among g.names x h))
        ∙ (λ i. with_terms g.dummies (e i) own x);
  };
  extends = extends_more a.table b.table c.table p.extends q.extends;
}

pub frame_as : (nodes : List Node) (names : Names) (g : Routine) (told other : Named Tree) → IsFrame nodes names g told → told ≡ other → IsFrame nodes names g other
frame_as nodes names g told other f e = subst (λ (t : Named Tree). IsFrame nodes names g t) e f

-- ---- terms at the entry

has_term : (table : List (List ℕ)) (ids : List TermId) (x : List ℕ) → length table ≡ length ids → is_among x table ≡ true → has_entry table ids x ≡ true
has_term [] ids x e h = absurd (cc)
has_term (n ∷ table) [] x e h = absurd (cc)
has_term (n ∷ table) (id ∷ ids) x e h = by (same_bytes x n) refl (has_term table ids x (let k : length table ≡ length ids = cc in k))
  where
    by : (b : Bool) → same_bytes x n ≡ b → (is_among x table ≡ true → has_entry table ids x ≡ true) → has_entry (n ∷ table) (id ∷ ids) x ≡ true
    by true t rest = ap (λ (b : Bool). is_some (if b then Some id else term_named table ids x)) t
    by false f rest =
        ap (λ (b : Bool). is_some (if b then Some id else term_named table ids x)) f ∙ rest (sym (ap (λ (b : Bool). b || is_among x table) f) ∙ h)

pub entry_now : (nodes : List Node) (names : Names) (entry : List TermId) (g : Routine) (told : Named Tree) → IsFrame nodes names g told → entry ≡ names.terms.items → HasEntry nodes names.table entry g told
entry_now nodes names entry g told f e = record {
  below = subst (AllBelow (length nodes)) (sym e) f.kept.terms;
  known = λ x h. ap (λ (ids : List TermId). has_entry names.table ids x) e ∙ has_term names.table names.terms.items x f.kept.count (f.known x h);
  tells = λ x h. ap (λ (ids : List TermId). named_by nodes names.table ids x) e ∙ f.tells x h;
}

found_still : (table more : List (List ℕ)) (entry : List TermId) (x : List ℕ) → has_entry table entry x ≡ true → term_named (table ++ more) entry x ≡ term_named table entry x
found_still [] more entry x h = absurd (cc)
found_still (n ∷ table) more [] x h = absurd (cc)
found_still (n ∷ table) more (id ∷ entry) x h = by (same_bytes x n) refl (found_still table more entry x)
  where
    by : (b : Bool) → same_bytes x n ≡ b → (has_entry table entry x ≡ true → term_named (table ++ more) entry x ≡ term_named table entry x)
        → term_named ((n ∷ table) ++ more) (id ∷ entry) x ≡ term_named (n ∷ table) (id ∷ entry) x
    by true t rest =
        ap (λ (b : Bool). if b then Some id else term_named (table ++ more) entry x) t
        ∙ sym (ap (λ (b : Bool). if b then Some id else term_named table entry x) t)
    by false f rest =
        ap (λ (o : Option TermId). if same_bytes x n then Some id else o)
        (rest (sym (ap (λ (b : Bool). is_some (if b then Some id else term_named table entry x)) f) ∙ h))

pub entry_stays : (old new : List Node) (table longer : List (List ℕ)) (entry : List TermId) (g : Routine) (told : Named Tree) → Grows old new → Extends table longer → HasEntry old table entry g told
    → HasEntry new longer entry g told
entry_stays old new table longer entry g told grows ext h = record {
  below = AllBelow-Grows old new entry grows h.below;
  known = λ x s. ap is_some (found x s) ∙ h.known x s;
  tells = λ x s. ap (λ (o : Option TermId). tree_or new o (entry_of x)) (found x s) ∙ ((λ i. named_grows old new table entry grows h.below i x) ∙ h.tells x s);
}
  where
    found : (x : Name) → is_shared g x ≡ true → term_named longer entry x ≡ term_named table entry x
    found x s = ap (λ (t : List (List ℕ)). term_named t entry x) ext.is ∙ found_still table ext.added entry x (h.known x s)
