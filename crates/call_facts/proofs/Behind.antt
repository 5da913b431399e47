-- Events that are met one after another, and names that are smashed one after another.
use Rattle.std.proofs.Common.{◌≡◌, ℕ, zero, suc, ◌<◌, ◌≤◌, Bool, true, false, cond, ◌||◌, List, [], ◌∷◌, ◌++◌, length, map, take, get_or, append_assoc, refl, sym, ap, ◌∙◌, arith}
use Rattle.std.proofs.lemmas.Grind.{common_steps}
use Rattle.std.specs.Cmp.Lexicographic.{same_text, nat_list_eq_equiv}
use Rattle.formula.specs.Atoms.{is_among, same_bytes}
use Rattle.formula.specs.Pool.{AllBelow, Grows, IsIn, tree_of}
use Rattle.formula.specs.Tree.{Tree}
use Rattle.formula.specs.declared.node.Node.{Node}
use Rattle.formula.specs.declared.node.TermId.{TermId}
use Rattle.formula.proofs.Grown.{tree_of-Grows}
use Rattle.fort_syntax.specs.declared.condition.Kind.{Kind}
use Rattle.fort_syntax.specs.declared.name.Name.{Name}
use Rattle.fort_syntax.specs.declared.unit.Unit.{Unit as Routine}
use Rattle.fort_model.specs.Events.{Event, Check, Take, checks, takes}
use Rattle.fort_model.specs.Seen.{Named, meet}
use Rattle.fort_model.specs.Senses.{of_terms}
use Rattle.fort_model.specs.WalkCalls.{Sight, changed}
use Rattle.fort_model.specs.WalkPlaces.{sort_of, sorts}
use Rattle.fort_model.specs.WalkStmt.{with_name}
use Rattle.note_terms.specs.Stated.{stated, trees_in}
use Rattle.note_terms.proofs.Added.{below_at, made_all, made_more}
use Rattle.note_terms.proofs.NotesStated.{stated_grows}
use Rattle.walk_names.specs.declared.names.Names.{Names}
use Rattle.walk_names.specs.Names.{IsNames}
use Rattle.walk_state.specs.Moments.{Did, Moment, met, with_event, with_names}

-- ---- events

append_nothing : {A : Type 0} (xs : List A) → xs ≡ xs ++ []
append_nothing [] = refl
append_nothing (x ∷ xs) = ap (λ (ys : List _). x ∷ ys) (append_nothing xs)

pub event_none : (m : Moment) (es : List (Event Tree)) → es ≡ [] → m ≡ met m (meet es)
event_none m es e = λ i. record { now = m.now; past = m.past; events = (append_nothing m.events ∙ ap (λ (xs : List (Event Tree)). m.events ++ xs) (sym e)) i; answers = m.answers }

pub event_more : (m0 m1 m2 : Moment) (es more : List (Event Tree)) (e : Event Tree) → m1 ≡ met m0 (meet es) → m2 ≡ with_event m1 e → more ≡ es ++ e ∷ [] → m2 ≡ met m0 (meet more)
event_more m0 m1 m2 es more e one two is =
    two
    ∙ ((λ i. with_event (one i) e)
    ∙ (λ i. record { now = m0.now; past = m0.past; events = (append_assoc m0.events es (e ∷ []) ∙ ap (λ (xs : List (Event Tree)). m0.events ++ xs) (sym is)) i; answers = m0.answers }))

pub met_all : (m0 m1 : Moment) (es all : List (Event Tree)) → m1 ≡ met m0 (meet es) → es ≡ all → Did m0 (meet all) m1 tt
met_all m0 m1 es all h e = record { is = h ∙ (λ i. met m0 (meet (e i))); gives = refl }

checks_behind : (kind : Kind) (card : ℕ) (ts : List Tree) (t : Tree) → checks kind card (ts ++ t ∷ []) ≡ checks kind card ts ++ Check kind card t ∷ []
checks_behind kind card [] t = refl
checks_behind kind card (x ∷ ts) t = ap (λ (es : List (Event Tree)). Check kind card x ∷ es) (checks_behind kind card ts t)

takes_behind : (ts : List Tree) (t : Tree) → takes (ts ++ t ∷ []) ≡ takes ts ++ Take t ∷ []
takes_behind [] t = refl
takes_behind (x ∷ ts) t = ap (λ (es : List (Event Tree)). Take x ∷ es) (takes_behind ts t)

-- ---- terms of notes

-- a term that was stated in a pool that had grown is the one that is stated in the first
pub stated_later : (p0 p1 p2 : List Node) (frame : Names) (entry ids : List TermId) (k : ℕ) (d id : TermId) → Grows p0 p1 → IsNames p0 frame → AllBelow (length p0) entry → AllBelow (length p0) ids
    → k < length ids → tree_of p2 id ≡ stated p1 frame entry (tree_of p1 (get_or ids k d)) → tree_of p2 id ≡ stated p0 frame entry (tree_of p0 (get_or ids k d))
stated_later p0 p1 p2 frame entry ids k d id g h e below lt tree =
    tree ∙ (λ i. stated_grows p0 p1 frame entry g h e i (tree_of-Grows p0 p1 (get_or ids k d) g (below_at (length p0) ids k d below lt) i))

pub check_more : (f : Tree → Tree) (m0 m1 m2 m3 : Moment) (nodes : List Node) (kind : Kind) (card : ℕ) (ids : List TermId) (k n : ℕ) (d : TermId) (t : Tree)
    → m1 ≡ met m0 (meet (checks kind card (map f (trees_in nodes (take k ids))))) → m2 ≡ m1 → m3 ≡ with_event m2 (Check kind card t) → t ≡ f (tree_of nodes (get_or ids k d))
    → k < length ids → n ≡ suc k → m3 ≡ met m0 (meet (checks kind card (map f (trees_in nodes (take n ids)))))
check_more f m0 m1 m2 m3 nodes kind card ids k n d t one same two is lt next =
    let s = f (tree_of nodes (get_or ids k d)) in
    let before = map f (trees_in nodes (take k ids)) in
    event_more m0 m1 m3 (checks kind card before) (checks kind card (map f (trees_in nodes (take n ids)))) (Check kind card s) one
    (two ∙ (λ i. with_event (same i) (Check kind card (is i))))
    (ap (checks kind card) (made_more f nodes ids k n d lt next) ∙ checks_behind kind card before s)

pub take_more : (f : Tree → Tree) (m0 m1 m2 m3 : Moment) (nodes : List Node) (ids : List TermId) (k n : ℕ) (d : TermId) (t : Tree)
    → m1 ≡ met m0 (meet (takes (map f (trees_in nodes (take k ids))))) → m2 ≡ m1 → m3 ≡ with_event m2 (Take t) → t ≡ f (tree_of nodes (get_or ids k d))
    → k < length ids → n ≡ suc k → m3 ≡ met m0 (meet (takes (map f (trees_in nodes (take n ids)))))
take_more f m0 m1 m2 m3 nodes ids k n d t one same two is lt next =
    let s = f (tree_of nodes (get_or ids k d)) in
    let before = map f (trees_in nodes (take k ids)) in
    event_more m0 m1 m3 (takes before) (takes (map f (trees_in nodes (take n ids)))) (Take s) one
    (two ∙ (λ i. with_event (same i) (Take (is i))))
    (ap takes (made_more f nodes ids k n d lt next) ∙ takes_behind before s)

pub check_all : (f : Tree → Tree) (m0 m1 : Moment) (nodes : List Node) (kind : Kind) (card : ℕ) (ids : List TermId) (k : ℕ)
    → m1 ≡ met m0 (meet (checks kind card (map f (trees_in nodes (take k ids))))) → length ids ≤ k → Did m0 (meet (checks kind card (map f (trees_in nodes ids)))) m1 tt
check_all f m0 m1 nodes kind card ids k h le = met_all m0 m1 _ _ h (ap (checks kind card) (made_all f nodes ids k le))

pub take_all : (f : Tree → Tree) (m0 m1 : Moment) (nodes : List Node) (ids : List TermId) (k : ℕ)
    → m1 ≡ met m0 (meet (takes (map f (trees_in nodes (take k ids))))) → length ids ≤ k → Did m0 (meet (takes (map f (trees_in nodes ids)))) m1 tt
take_all f m0 m1 nodes ids k h le = met_all m0 m1 _ _ h (ap takes (made_all f nodes ids k le))

-- two facts one behind the other
pub two_taken : (m0 m1 m2 m3 : Moment) (s t a b : Tree) → m1 ≡ m0 → m2 ≡ with_event m1 (Take s) → s ≡ a → m3 ≡ with_event m2 (Take t) → t ≡ b → Did m0 (meet (takes (a ∷ b ∷ []))) m3 tt
two_taken m0 m1 m2 m3 s t a b same one first two second = record {
  is =
      two
      ∙ ((λ i. with_event (one i) (Take (second i)))
      ∙ ((λ i. with_event (with_event (same i) (Take (first i))) (Take b))
      ∙ (λ i. record { now = m0.now; past = m0.past; events = append_assoc m0.events (Take a ∷ []) (Take b ∷ []) i; answers = m0.answers })));
  gives = refl;
}

-- ---- types of names

pub taken_more : (xs : List Name) (k n : ℕ) (x : Name) → k < length xs → x ≡ get_or xs k x → n ≡ suc k → take n xs ≡ take k xs ++ x ∷ []
taken_more xs k n x lt is e = ap (λ (m : ℕ). take m xs) e ∙ more xs k lt is
  where
    more : (xs : List Name) (k : ℕ) → k < length xs → x ≡ get_or xs k x → take (suc k) xs ≡ take k xs ++ x ∷ []
    more [] k lt is = absurd (omega arith)
    more (y ∷ xs) zero lt is = ap (λ (z : Name). z ∷ []) (sym is)
    more (y ∷ xs) (suc k) lt is = ap (λ (ys : List Name). y ∷ ys) (more xs k (omega arith) is)

pub taken_all : (xs : List Name) (k : ℕ) → length xs ≤ k → take k xs ≡ xs
taken_all xs k le = grind (arith, common_steps)

sorts_behind : (u : Routine) (now : Named Tree) (xs : List Name) (x : Name) → sorts of_terms u now (xs ++ x ∷ []) ≡ sorts of_terms u now xs ++ sort_of of_terms u now x ∷ []
sorts_behind u now [] x = refl
sorts_behind u now (y ∷ xs) x = ap (λ (ts : List Tree). sort_of of_terms u now y ∷ ts) (sorts_behind u now xs x)

pub sort_more : (u : Routine) (m0 m1 m2 m3 : Moment) (xs ys : List Name) (x : Name) (t : Tree) → m1 ≡ met m0 (meet (takes (sorts of_terms u m0.now xs))) → m2 ≡ m1 → m3 ≡ with_event m2 (Take t)
    → t ≡ sort_of of_terms u m1.now x → ys ≡ xs ++ x ∷ [] → m3 ≡ met m0 (meet (takes (sorts of_terms u m0.now ys)))
sort_more u m0 m1 m2 m3 xs ys x t one same two is e =
    let s = sort_of of_terms u m0.now x in
    let before = sorts of_terms u m0.now xs in
    event_more m0 m1 m3 (takes before) (takes (sorts of_terms u m0.now ys)) (Take s) one
    (two ∙ (λ i. with_event (same i) (Take ((is ∙ (λ j. sort_of of_terms u ((one j).now) x)) i))))
    (ap (λ (zs : List Name). takes (sorts of_terms u m0.now zs)) e ∙ (ap takes (sorts_behind u m0.now xs x) ∙ takes_behind before s))

-- ---- names that are smashed

among_more : (y x : Name) (xs : List Name) → is_among y (xs ++ x ∷ []) ≡ (is_among y xs || same_bytes y x)
among_more y x [] = or_false (same_bytes y x)
  where
    or_false : (b : Bool) → (b || false) ≡ b
    or_false true = refl
    or_false false = refl
among_more y x (z ∷ xs) = ap (λ (b : Bool). same_bytes y z || b) (among_more y x xs) ∙ or_assoc (same_bytes y z) (is_among y xs) (same_bytes y x)
  where
    or_assoc : (a b c : Bool) → (a || (b || c)) ≡ ((a || b) || c)
    or_assoc true b c = refl
    or_assoc false b c = refl

by_test : (own : Named Tree) (now : Tree) (x y : Name) (among : Bool) (b : Bool) → same_bytes x y ≡ b → cond b (own x) (cond among (own y) now) ≡ cond (among || b) (own y) now
by_test own now x y true true e = ap own (same_text x y (sym e))
by_test own now x y false true e = ap own (same_text x y (sym e))
by_test own now x y true false e = refl
by_test own now x y false false e = refl

one_changed : (w : Sight Tree) (own now : Named Tree) (x y : Name) (xs : List Name) → with_name (changed w xs own now) x (own x) y ≡ changed w (xs ++ x ∷ []) own now y
one_changed w own now x y xs =
    by_test own (now y) x y (is_among y xs) (same_bytes x y) refl
    ∙ ap (λ (b : Bool). cond b (own y) (now y)) (ap (λ (b : Bool). is_among y xs || b) (nat_list_eq_equiv.symm x y) ∙ sym (among_more y x xs))

pub changed_none : (w : Sight Tree) (own : Named Tree) (m : Moment) (xs : List Name) → xs ≡ [] → m ≡ with_names m (changed w xs own m.now)
changed_none w own m xs e = λ i. with_names m (changed w (sym e i) own m.now)

pub changed_more : (w : Sight Tree) (own : Named Tree) (m0 m1 m2 m3 : Moment) (xs ys : List Name) (x : Name) (t : Tree) → m1 ≡ with_names m0 (changed w xs own m0.now) → m2 ≡ m1
    → m3 ≡ with_names m2 (with_name m2.now x t) → t ≡ own x → ys ≡ xs ++ x ∷ [] → m3 ≡ with_names m0 (changed w ys own m0.now)
changed_more w own m0 m1 m2 m3 xs ys x t one same two is e =
    let at = same ∙ one in
    two
    ∙ ((λ i. with_names (at i) (with_name ((at i).now) x (is i)))
    ∙ ((λ i. with_names m0 (λ y. one_changed w own m0.now x y xs i))
    ∙ (λ i. with_names m0 (changed w (sym e i) own m0.now))))
