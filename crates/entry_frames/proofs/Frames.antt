-- Frames.
use Rattle.std.proofs.Common.{◌≡◌, ◌≤◌, Bool, true, false, ◌||◌, Option, Some, List, [], ◌∷◌, ◌++◌, length, is_some, if◌then◌else◌, refl, sym, ap, ◌∙◌, subst, arith}
use Rattle.std.proofs.lemmas.Grind.{common_steps}
use Rattle.formula.specs.Atoms.{is_among, same_bytes}
use Rattle.formula.specs.Pool.{AllBelow, Grows}
use Rattle.formula.specs.Substitution.{term_named, tree_or}
use Rattle.formula.specs.Tree.{Tree}
use Rattle.formula.specs.declared.node.Node.{Node}
use Rattle.formula.specs.declared.node.TermId.{TermId}
use Rattle.formula.proofs.Grown.{AllBelow-Grows}
use Rattle.fort_model.specs.Seen.{Named}
use Rattle.fort_syntax.specs.declared.name.Name.{Name}
use Rattle.fort_syntax.specs.declared.unit.Unit.{Unit as Routine}
use Rattle.walk_names.specs.declared.names.Names.{Names}
use Rattle.walk_names.specs.Names.{Extends, IsNames, entry_of, named, named_by}
use Rattle.walk_names.proofs.NameTables.{named_grows, names_grow}
use Rattle.entry_frames.proofs.Entered.{among_extends}
use Rattle.entry_frames.specs.Entries.{HasNames, IsFrame, at_entry_in}

-- a name of a table has a term
has_term : (table : List Name) (ids : List TermId) (x : Name) → length table ≡ length ids → is_among x table ≡ true → is_some (term_named table ids x) ≡ true
has_term [] ids x e h = absurd (cc)
has_term (n ∷ table) [] x e h = absurd (cc)
has_term (n ∷ table) (id ∷ ids) x e h = by (same_bytes x n) refl (λ k. has_term table ids x (let s : length table ≡ length ids = cc in s) k)
  where
    by : (b : Bool) → same_bytes x n ≡ b → (is_among x table ≡ true → is_some (term_named table ids x) ≡ true) → is_some (if b then Some id else term_named table ids x) ≡ true
    by true s f = refl
    by false s f = f (sym (ap (λ (b : Bool). b || is_among x table) s) ∙ h)

-- terms stay at their names while a table is extended
term_extends : (table added : List Name) (ids : List TermId) (x : Name) → length ids ≤ length table → term_named (table ++ added) ids x ≡ term_named table ids x
term_extends [] [] [] x le = refl
term_extends [] (n ∷ added) [] x le = refl
term_extends [] added (id ∷ ids) x le = absurd (omega arith)
term_extends (n ∷ table) added [] x le = refl
term_extends (n ∷ table) added (id ∷ ids) x le = ap (λ (o : Option TermId). if same_bytes x n then Some id else o) (term_extends table added ids x (omega arith))

longer : (old new : List Name) → Extends old new → length old ≤ length new
longer old new e =
    let long : length new ≡ length (old ++ e.added) = ap length e.is in
    grind (arith, common_steps)

pub framed : (nodes : List Node) (u : Routine) (names : Names) (entry : List TermId) → IsNames nodes names → named nodes names ≡ at_entry_in u.names → HasNames u.names names.table
    → entry ≡ names.terms.items → IsFrame nodes u names entry (at_entry_in u.names)
framed nodes u names entry kept stand has e =
    let count : length names.table ≡ length entry = kept.count ∙ sym (ap length e) in
    record {
      kept = kept;
      stand = stand;
      has = has;
      terms = λ x k. has_term names.table entry x count (has x k);
      count = omega (arith, count);
      below = subst (AllBelow (length nodes)) (sym e) kept.terms;
      entered = (λ i. named_by nodes names.table (e i)) ∙ stand;
    }

pub frame_grows : (p0 p1 : List Node) (u : Routine) (names : Names) (entry : List TermId) (now : Named Tree) → Grows p0 p1 → IsFrame p0 u names entry now → IsFrame p1 u names entry now
frame_grows p0 p1 u names entry now g h = record {
  kept = names_grow p0 p1 names g h.kept;
  stand = named_grows p0 p1 names.table names.terms.items g h.kept.terms ∙ h.stand;
  has = h.has;
  terms = h.terms;
  count = h.count;
  below = AllBelow-Grows p0 p1 entry g h.below;
  entered = named_grows p0 p1 names.table entry g h.below ∙ h.entered;
}

-- its names stand for something else now
pub frame_set : (p0 p1 : List Node) (u : Routine) (names later : Names) (entry : List TermId) (was now : Named Tree) → Grows p0 p1 → IsFrame p0 u names entry was → IsNames p1 later
    → named p1 later ≡ now → Extends names.table later.table → IsFrame p1 u later entry now
frame_set p0 p1 u names later entry was now g h kept stand e =
    let more = longer names.table later.table e in
    let still : (x : Name) → term_named later.table entry x ≡ term_named names.table entry x =
    λ x. (λ i. term_named (e.is i) entry x) ∙ term_extends names.table e.added entry x h.count in
    record {
      kept = kept;
      stand = stand;
      has = λ x k. among_extends names.table later.table x e (h.has x k);
      terms = λ x k. ap is_some (still x) ∙ h.terms x k;
      count = omega (arith, h.count, more);
      below = AllBelow-Grows p0 p1 entry g h.below;
      entered =
          (λ i x. tree_or p1 (still x i) (entry_of x))
          ∙ (named_grows p0 p1 names.table entry g h.below ∙ h.entered);
    }
