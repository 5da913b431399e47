-- What names stand for when a name is added or set, when they go back, and when the pool grows.
use Rattle.std.proofs.Common.{◌≡◌, ℕ, zero, suc, ◌+◌, ◌<◌, ◌≤◌, ◌||◌, Bool, true, false, cond, not, List, [], ◌∷◌, ◌++◌, length, take, Option, Some, None, refl, sym, ap, ◌∙◌, subst, arith, true≢false, slice_get, get_or, position, if◌then◌else◌, length-append, is_some}
use Rattle.std.specs.Prelude.{slice_set}
use Rattle.std.specs.Cmp.Lexicographic.{same_text, nat_list_eq_equiv}
use Rattle.std.proofs.lemmas.Grind.{common_steps}
use Rattle.std.proofs.lemmas.List.Quantifiers.{position-Some}
use Rattle.formula.specs.declared.node.Node.{Node}
use Rattle.formula.specs.declared.node.TermId.{TermId}
use Rattle.formula.specs.Atoms.{is_among, same_bytes}
use Rattle.formula.specs.Pool.{AllBelow, Grows, IsIn, tree_of}
use Rattle.formula.specs.Substitution.{term_named, tree_or}
use Rattle.formula.specs.Tree.{Tree}
use Rattle.formula.proofs.Grown.{AllBelow-Grows, IsIn-Grows, tree_of-Grows}
use Rattle.formula.proofs.TableTerms.{named-nowhere, named-place}
use Rattle.fort_model.specs.Seen.{Named}
use Rattle.fort_model.specs.WalkStmt.{with_name}
use Rattle.walk_names.specs.declared.names.Logged.{Logged}
use Rattle.walk_names.specs.declared.names.Logged.TheVariants.{Mark, Was}
use Rattle.walk_names.specs.declared.names.Names.{Names}
use Rattle.walk_names.specs.Names.{AreLogged, Extends, IsBack, IsKept, IsNames, IsSame, IsSet, entry_of, named, named_by, past, pasts}

-- ---- tests of names

pub same_self : (x : List ℕ) → same_bytes x x ≡ true
same_self x = nat_list_eq_equiv.refl x

both_ways : (x y : List ℕ) → same_bytes x y ≡ same_bytes y x
both_ways x y = nat_list_eq_equiv.symm x y

-- a name that is like the first of two is like the other as the first is
like_first : (x y n : List ℕ) → same_bytes x n ≡ true → same_bytes y n ≡ same_bytes x y
like_first x y n h = ap (same_bytes y) (sym (same_text x n (sym h))) ∙ both_ways y x

-- a name is not like two that are apart
not_both : (x y n : List ℕ) → same_bytes x n ≡ false → same_bytes y n ≡ true → same_bytes x y ≡ false
not_both x y n apart like = ap (same_bytes x) (same_text y n (sym like)) ∙ apart

-- ---- a name that is set

by_like : (a : Bool) (id old : TermId) (rest : Option TermId) → (if a then Some id else rest) ≡ (if a then Some id else (if a then Some old else rest))
by_like true id old rest = refl
by_like false id old rest = refl

by_other : (a b : Bool) (id old : TermId) (rest : Option TermId) → (b ≡ true → a ≡ false)
    → (if b then Some old else (if a then Some id else rest)) ≡ (if a then Some id else (if b then Some old else rest))
by_other true true id old rest h = absurd (true≢false (h refl))
by_other true false id old rest h = refl
by_other false b id old rest h = refl

set_found : (table : List (List ℕ)) (ids : List TermId) (k : ℕ) (id : TermId) (x y : List ℕ) → length table ≡ length ids → k < length table → same_bytes x (get_or table k []) ≡ true
    → ((j : ℕ) → j < k → same_bytes x (get_or table j []) ≡ false) → term_named table (slice_set ids k id) y ≡ (if same_bytes x y then Some id else term_named table ids y)
set_found [] ids k id x y e within here before = absurd (omega arith)
set_found (n ∷ table) [] k id x y e within here before = absurd (omega arith)
set_found (n ∷ table) (old ∷ ids) zero id x y e within here before =
    let like = like_first x y n here in
    ap (λ (b : Bool). if b then Some id else term_named table ids y) like
    ∙ by_like (same_bytes x y) id old (term_named table ids y)
    ∙ ap (λ (b : Bool). if same_bytes x y then Some id else (if b then Some old else term_named table ids y)) (sym like)
set_found (n ∷ table) (old ∷ ids) (suc k) id x y e within here before =
    ap (λ (r : Option TermId). if same_bytes y n then Some old else r) (set_found table ids k id x y (omega arith) (omega arith) here (λ j low. before (suc j) (omega arith)))
    ∙ by_other (same_bytes x y) (same_bytes y n) id old (term_named table ids y) (not_both x y n (before 0 (omega arith)))

by_found : (nodes : List Node) (b : Bool) (id : TermId) (found : Option TermId) (t : Tree) → tree_or nodes (if b then Some id else found) t ≡ cond b (tree_of nodes id) (tree_or nodes found t)
by_found nodes true id found t = refl
by_found nodes false id found t = refl

pub named_set : (nodes : List Node) (table : List (List ℕ)) (ids : List TermId) (k : ℕ) (id : TermId) (x : List ℕ) → length table ≡ length ids → Some k ≡ position (same_bytes x) table
    → named_by nodes table (slice_set ids k id) ≡ with_name (named_by nodes table ids) x (tree_of nodes id)
named_set nodes table ids k id x e at =
    let r = position-Some (same_bytes x) table k [] (sym at) in
    λ i y. (ap (λ (o : Option TermId). tree_or nodes o (entry_of y)) (set_found table ids k id x y e r.0 r.1 r.2) ∙ by_found nodes (same_bytes x y) id (term_named table ids y) (entry_of y)) i

pub place_within : (table : List (List ℕ)) (k : ℕ) (x : List ℕ) → Some k ≡ position (same_bytes x) table → k < length table
place_within table k x at = (position-Some (same_bytes x) table k [] (sym at)).0

-- ---- a name that is added

-- the same where a first term may be found, and something else is found behind it
either : (nodes : List Node) (b : Bool) (u : TermId) (o p : Option TermId) (t : Tree) → tree_or nodes o t ≡ tree_or nodes p t → tree_or nodes (if b then Some u else o) t ≡ tree_or nodes (if b then Some u else p) t
either nodes true u o p t h = refl
either nodes false u o p t h = h

add_found : (table : List (List ℕ)) (ids : List TermId) (x y : List ℕ) (t : TermId) (nodes : List Node) → length table ≡ length ids → tree_of nodes t ≡ entry_of x
    → tree_or nodes (term_named (table ++ x ∷ []) (ids ++ t ∷ []) y) (entry_of y) ≡ tree_or nodes (term_named table ids y) (entry_of y)
add_found [] [] x y t nodes e is = by_test (same_bytes y x) refl
  where
    by_test : (b : Bool) → same_bytes y x ≡ b → tree_or nodes (if b then Some t else None) (entry_of y) ≡ entry_of y
    by_test true like = is ∙ ap entry_of (sym (same_text y x (sym like)))
    by_test false like = refl
add_found [] (u ∷ ids) x y t nodes e is = absurd (omega arith)
add_found (n ∷ table) [] x y t nodes e is = absurd (omega arith)
add_found (n ∷ table) (u ∷ ids) x y t nodes e is = either nodes (same_bytes y n) u _ _ (entry_of y) (add_found table ids x y t nodes (omega arith) is)

pub named_add : (nodes : List Node) (table : List (List ℕ)) (ids : List TermId) (x : List ℕ) (t : TermId) → length table ≡ length ids → tree_of nodes t ≡ entry_of x
    → named_by nodes (table ++ x ∷ []) (ids ++ t ∷ []) ≡ named_by nodes table ids
named_add nodes table ids x t e is = λ i y. add_found table ids x y t nodes e is i

set_append : (ids : List TermId) (k : ℕ) (id t : TermId) → k < length ids → slice_set (ids ++ t ∷ []) k id ≡ slice_set ids k id ++ t ∷ []
set_append [] k id t h = absurd (omega arith)
set_append (u ∷ ids) zero id t h = refl
set_append (u ∷ ids) (suc k) id t h = ap (λ (r : List TermId). u ∷ r) (set_append ids k id t (omega arith))

pub length_set : (ids : List TermId) (k : ℕ) (id : TermId) → length (slice_set ids k id) ≡ length ids
length_set [] k id = refl
length_set (u ∷ ids) zero id = refl
length_set (u ∷ ids) (suc k) id = ap suc (length_set ids k id)

pub pasts_add : (nodes : List Node) (table : List (List ℕ)) (ids : List TermId) (log : List Logged) (x : List ℕ) (t : TermId) (n : ℕ) → length table ≡ length ids → tree_of nodes t ≡ entry_of x
    → AreLogged n (length ids) log → pasts nodes (table ++ x ∷ []) (ids ++ t ∷ []) log ≡ pasts nodes table ids log
pasts_add nodes table ids [] x t n e is h = refl
pasts_add nodes table ids (Mark ∷ log) x t n e is h = λ i. named_add nodes table ids x t e is i ∷ pasts_add nodes table ids log x t n e is h i
pasts_add nodes table ids (Was place id ∷ log) x t n e is h =
    let same : length (slice_set ids place id) ≡ length ids = length_set ids place id in
    ap (λ (l : List TermId). pasts nodes (table ++ x ∷ []) l log) (set_append ids place id t h.0.0)
    ∙ pasts_add nodes table (slice_set ids place id) log x t n (e ∙ sym same) is (subst (λ (m : ℕ). AreLogged n m log) (sym same) h.1)

pub logged_more : (n m k j : ℕ) (log : List Logged) → n ≤ m → k ≤ j → AreLogged n k log → AreLogged m j log
logged_more n m k j [] le more h = tt
logged_more n m k j (Mark ∷ log) le more h = logged_more n m k j log le more h
logged_more n m k j (Was place id ∷ log) le more h =
    let a : place < k = h.0.0 in
    let b : id.place < n = h.0.1 in
    ((omega arith, omega arith), logged_more n m k j log le more h.1)

pub below_push : (n : ℕ) (ids : List TermId) (t : TermId) → AllBelow n ids → t.place < n → AllBelow n (ids ++ t ∷ [])
below_push n [] t h here = (here, tt)
below_push n (u ∷ ids) t h here = (h.0, below_push n ids t h.1 here)

pub below_set : (n : ℕ) (ids : List TermId) (k : ℕ) (t : TermId) → AllBelow n ids → t.place < n → AllBelow n (slice_set ids k t)
below_set n [] k t h here = tt
below_set n (u ∷ ids) zero t h here = (here, h.1)
below_set n (u ∷ ids) (suc k) t h here = (h.0, below_set n ids k t h.1 here)

pub below_at : (n : ℕ) (ids : List TermId) (k : ℕ) (d : TermId) → AllBelow n ids → k < length ids → (get_or ids k d).place < n
below_at n [] k d h within = absurd (omega arith)
below_at n (u ∷ ids) zero d h within = h.0
below_at n (u ∷ ids) (suc k) d h within = below_at n ids k d h.1 (omega arith)

or_true : (b r : Bool) → r ≡ true → (b || r) ≡ true
or_true true r h = refl
or_true false r h = h

true_or : (b r : Bool) → b ≡ true → (b || r) ≡ true
true_or true r h = refl
true_or false r h = absurd (true≢false (sym h))

among_here : (table : List (List ℕ)) (k : ℕ) (x : List ℕ) → k < length table → same_bytes x (get_or table k []) ≡ true → is_among x table ≡ true
among_here [] k x within h = absurd (omega arith)
among_here (n ∷ table) zero x within h = true_or (same_bytes x n) (is_among x table) h
among_here (n ∷ table) (suc k) x within h = or_true (same_bytes x n) (is_among x table) (among_here table k x (omega arith) h)

pub among_at : (table : List (List ℕ)) (k : ℕ) (x : List ℕ) → Some k ≡ position (same_bytes x) table → is_among x table ≡ true
among_at table k x at =
    let r = position-Some (same_bytes x) table k [] (sym at) in
    among_here table k x r.0 r.1

among_push : (table : List (List ℕ)) (x : List ℕ) → is_among x (table ++ x ∷ []) ≡ true
among_push [] x = ap (λ (b : Bool). b || false) (same_self x)
among_push (n ∷ table) x = or_true (same_bytes x n) (is_among x (table ++ x ∷ [])) (among_push table x)

pub among_after : (table after : List (List ℕ)) (x : List ℕ) → after ≡ table ++ x ∷ [] → is_among x after ≡ true
among_after table after x e = ap (is_among x) e ∙ among_push table x

-- a name that was put back after it was set
set_twice : (ids : List TermId) (k : ℕ) (id d : TermId) → k < length ids → slice_set (slice_set ids k id) k (get_or ids k d) ≡ ids
set_twice [] k id d h = absurd (omega arith)
set_twice (u ∷ ids) zero id d h = refl
set_twice (u ∷ ids) (suc k) id d h = ap (λ (r : List TermId). u ∷ r) (set_twice ids k id d (omega arith))

-- ---- a pool that grows

either_grows : (old new : List Node) (b : Bool) (u : TermId) (o : Option TermId) (t : Tree) → tree_of new u ≡ tree_of old u → tree_or new o t ≡ tree_or old o t
    → tree_or new (if b then Some u else o) t ≡ tree_or old (if b then Some u else o) t
either_grows old new true u o t h k = h
either_grows old new false u o t h k = k

found_grows : (old new : List Node) (table : List (List ℕ)) (ids : List TermId) (x : List ℕ) (t : Tree) → Grows old new → AllBelow (length old) ids
    → tree_or new (term_named table ids x) t ≡ tree_or old (term_named table ids x) t
found_grows old new [] ids x t g h = refl
found_grows old new (n ∷ table) [] x t g h = refl
found_grows old new (n ∷ table) (u ∷ ids) x t g h = either_grows old new (same_bytes x n) u (term_named table ids x) t (tree_of-Grows old new u g h.0) (found_grows old new table ids x t g h.1)

pub named_grows : (old new : List Node) (table : List (List ℕ)) (ids : List TermId) → Grows old new → AllBelow (length old) ids → named_by new table ids ≡ named_by old table ids
named_grows old new table ids g h = λ i x. found_grows old new table ids x (entry_of x) g h i

pub pasts_grows : (old new : List Node) (table : List (List ℕ)) (ids : List TermId) (log : List Logged) (k : ℕ) → Grows old new → AllBelow (length old) ids → AreLogged (length old) k log
    → pasts new table ids log ≡ pasts old table ids log
pasts_grows old new table ids [] k g h l = refl
pasts_grows old new table ids (Mark ∷ log) k g h l = λ i. named_grows old new table ids g h i ∷ pasts_grows old new table ids log k g h l i
pasts_grows old new table ids (Was place id ∷ log) k g h l = pasts_grows old new table (slice_set ids place id) log k g (below_set (length old) ids place id h l.0.1) l.1

longer : (old new : List Node) → Grows old new → length old ≤ length new
longer old new g =
    let long : length new ≡ length (old ++ g.added) = ap length g.is in
    omega (arith, simp length-append at long)

pub names_grow : (old new : List Node) (names : Names) → Grows old new → IsNames old names → IsNames new names
names_grow old new names g h = record {
  count = h.count;
  terms = AllBelow-Grows old new names.terms.items g h.terms;
  log = logged_more (length old) (length new) (length names.terms.items) (length names.terms.items) names.log (longer old new g) (omega arith) h.log;
}

pub extends_not : (table : List (List ℕ)) → Extends table table
extends_not table = record { added = []; is = grind (arith, common_steps) }

-- names that are as they were, with a pool that grows
pub same_grows : (old new : List Node) (names : Names) → Grows old new → IsNames old names → IsSame old names new names
same_grows old new names g h = record {
  kept = names_grow old new names g h;
  now = named_grows old new names.table names.terms.items g h.terms;
  before = pasts_grows old new names.table names.terms.items names.log (length names.terms.items) g h.terms h.log;
  extends = extends_not names.table;
}

-- the same for names whose parts are as they were
pub same_parts : (old new : List Node) (names later : Names) → Grows old new → IsNames old names → later.table ≡ names.table → later.terms.items ≡ names.terms.items → later.log ≡ names.log
    → IsSame old names new later
same_parts old new names later g h table terms log =
    let s = same_grows old new names g h in
    record {
      kept = record {
        count = ap length table ∙ h.count ∙ sym (ap length terms);
        terms = subst (AllBelow (length new)) (sym terms) s.kept.terms;
        log = subst (λ (l : List Logged). AreLogged (length new) (length later.terms.items) l) (sym log) (subst (λ (ids : List TermId). AreLogged (length new) (length ids) names.log) (sym terms) s.kept.log);
      };
      now = (λ i. named_by new (table i) (terms i)) ∙ s.now;
      before = (λ i. pasts new (table i) (terms i) (log i)) ∙ s.before;
      extends = record { added = s.extends.added; is = table ∙ s.extends.is };
    }

-- a name was added with the symbol of its value at the entry
pub same_added : (old new : List Node) (names later : Names) (x : List ℕ) (t : TermId) → Grows old new → IsNames old names → IsIn new t → tree_of new t ≡ entry_of x
    → later.table ≡ names.table ++ x ∷ [] → later.terms.items ≡ names.terms.items ++ t ∷ [] → later.log ≡ names.log → IsSame old names new later
same_added old new names later x t g h within is table terms log =
    let s = same_grows old new names g h in
    let more : length (names.terms.items ++ t ∷ []) ≡ length names.terms.items + 1 = simp length-append (omega arith) in
    let count : length (names.table ++ x ∷ []) ≡ length names.table + 1 = simp length-append (omega arith) in
    let same : length names.table ≡ length names.terms.items = h.count in
    let both : length (names.table ++ x ∷ []) ≡ length (names.terms.items ++ t ∷ []) = omega arith in
    record {
      kept = record {
        count = ap length table ∙ both ∙ sym (ap length terms);
        terms = subst (AllBelow (length new)) (sym terms) (below_push (length new) names.terms.items t s.kept.terms within);
        log = subst (λ (l : List Logged). AreLogged (length new) (length later.terms.items) l) (sym log) (subst (λ (ids : List TermId). AreLogged (length new) (length ids) names.log) (sym terms)
            (logged_more (length new) (length new) (length names.terms.items) (length (names.terms.items ++ t ∷ [])) names.log (omega arith) (omega arith) s.kept.log));
      };
      now = (λ i. named_by new (table i) (terms i)) ∙ named_add new names.table names.terms.items x t h.count is ∙ s.now;
      before =
          (λ i. pasts new (table i) (terms i) (log i)) ∙ pasts_add new names.table names.terms.items names.log x t (length new) h.count is s.kept.log ∙ s.before;
      extends = record { added = x ∷ []; is = table };
    }

pub extends_more : (first next last : List (List ℕ)) → Extends first next → Extends next last → Extends first last
extends_more first next last p q =
    record { added = p.added ++ q.added; is = q.is ∙ ap (λ (l : List (List ℕ)). l ++ q.added) p.is ∙ (let whole : (first ++ p.added) ++ q.added ≡ first ++ (p.added ++ q.added) = grind (arith, common_steps) in whole) }

pub same_then : (n0 n1 n2 : List Node) (a b c : Names) → IsSame n0 a n1 b → IsSame n1 b n2 c → IsSame n0 a n2 c
same_then n0 n1 n2 a b c p q =
    record { kept = q.kept; now = q.now ∙ p.now; before = q.before ∙ p.before; extends = extends_more a.table b.table c.table p.extends q.extends }

-- a name was set at its place
pub set_there : (old new : List Node) (names mid later : Names) (x : List ℕ) (k : ℕ) (id d : TermId) → Grows old new → IsIn old id → IsSame old names new mid → Some k ≡ position (same_bytes x) mid.table
    → later.table ≡ mid.table → later.terms.items ≡ slice_set mid.terms.items k id → later.log ≡ Was k (get_or mid.terms.items k d) ∷ mid.log
    → IsSet old names new later x (tree_of old id)
set_there old new names mid later x k id d g within s at table terms log =
    let inside : k < length mid.table = place_within mid.table k x at in
    let count : length mid.table ≡ length mid.terms.items = s.kept.count in
    let there : k < length mid.terms.items = omega arith in
    let same : length (slice_set mid.terms.items k id) ≡ length mid.terms.items = length_set mid.terms.items k id in
    let whole : AreLogged (length new) (length (slice_set mid.terms.items k id)) (Was k (get_or mid.terms.items k d) ∷ mid.log) =
    subst (λ (m : ℕ). AreLogged (length new) m (Was k (get_or mid.terms.items k d) ∷ mid.log)) (sym same) ((there, below_at (length new) mid.terms.items k d s.kept.terms there), s.kept.log) in
    record {
      kept = record {
        count = ap length table ∙ count ∙ sym same ∙ sym (ap length terms);
        terms = subst (AllBelow (length new)) (sym terms) (below_set (length new) mid.terms.items k id s.kept.terms (IsIn-Grows old new id g within));
        log = subst (λ (l : List Logged). AreLogged (length new) (length later.terms.items) l) (sym log)
            (subst (λ (ids : List TermId). AreLogged (length new) (length ids) (Was k (get_or mid.terms.items k d) ∷ mid.log)) (sym terms) whole);
      };
      now =
          (λ i. named_by new (table i) (terms i)) ∙ named_set new mid.table mid.terms.items k id x count at
          ∙ (λ i. with_name (s.now i) x (tree_of-Grows old new id g within i));
      before =
          (λ i. pasts new (table i) (terms i) (log i)) ∙ ap (λ (ids : List TermId). pasts new mid.table ids mid.log) (set_twice mid.terms.items k id d there) ∙ s.before;
      extends = record { added = s.extends.added; is = table ∙ s.extends.is };
    }

-- ---- a name that is looked up

get_there : (ids : List TermId) (k : ℕ) (d : TermId) → k < length ids → slice_get ids k ≡ Some (get_or ids k d)
get_there [] k d h = absurd (omega arith)
get_there (u ∷ ids) zero d h = refl
get_there (u ∷ ids) (suc k) d h = get_there ids k d (omega arith)

pub there_within : (nodes : List Node) (names : Names) (x : List ℕ) (k : ℕ) → IsNames nodes names → Some k ≡ position (same_bytes x) names.table → k < length names.terms.items
there_within nodes names x k h at =
    let inside : k < length names.table = place_within names.table k x at in
    let count : length names.table ≡ length names.terms.items = h.count in
    omega arith

pub named_there : (nodes : List Node) (names : Names) (x : List ℕ) (k : ℕ) (d : TermId) → IsNames nodes names → Some k ≡ position (same_bytes x) names.table
    → tree_of nodes (get_or names.terms.items k d) ≡ named nodes names x
named_there nodes names x k d h at =
    sym (ap (λ (o : Option TermId). tree_or nodes o (entry_of x)) (named-place names.table names.terms.items x k at ∙ get_there names.terms.items k d (there_within nodes names x k h at)))

pub named_not : (nodes : List Node) (names : Names) (x : List ℕ) → is_among x names.table ≡ false → entry_of x ≡ named nodes names x
named_not nodes names x h = sym (ap (λ (o : Option TermId). tree_or nodes o (entry_of x)) (named-nowhere names.table names.terms.items x h))

-- ---- a name that is put into a table

by_known : (table after : List (List ℕ)) (x : List ℕ) (b : Bool) → b ≡ false → after ≡ (if b then table else table ++ x ∷ []) → after ≡ table ++ x ∷ []
by_known table after x true h e = absurd (true≢false h)
by_known table after x false h e = e

pub put_new : (table after : List (List ℕ)) (w x : List ℕ) → w ≡ x → is_among x table ≡ false → after ≡ (if is_among w table then table else table ++ w ∷ []) → after ≡ table ++ x ∷ []
put_new table after w x same new e =
    by_known table after x (is_among x table) new (e ∙ ap (λ (v : List ℕ). if is_among v table then table else table ++ v ∷ []) same)

pub cut_back : (ids : List TermId) (n : ℕ) (t : TermId) → n ≡ length ids → take n (ids ++ t ∷ []) ≡ ids
cut_back [] zero t h = refl
cut_back [] (suc n) t h = absurd (omega arith)
cut_back (u ∷ ids) zero t h = absurd (omega arith)
cut_back (u ∷ ids) (suc n) t h = ap (λ (r : List TermId). u ∷ r) (cut_back ids n t (omega arith))

pub set_beyond : (ids : List TermId) (k : ℕ) (t : TermId) → length ids ≤ k → ids ≡ slice_set ids k t
set_beyond [] k t h = refl
set_beyond (u ∷ ids) zero t h = absurd (omega arith)
set_beyond (u ∷ ids) (suc k) t h = ap (λ (r : List TermId). u ∷ r) (set_beyond ids k t (omega arith))

-- ---- going back

-- what names stood for is as it was
pub record IsOnWay (nodes : List Node) (old new : Names) (told : Named Tree) (earlier : List (Named Tree)) : Type 0 where
  pub kept : IsNames nodes new
  pub before : past nodes new ≡ told ∷ earlier
  pub table : new.table ≡ old.table

abbrev pub GoesBack : Names → Names → Type 0
GoesBack old new = (nodes : List Node) (told : Named Tree) (earlier : List (Named Tree)) → IsNames nodes old → past nodes old ≡ told ∷ earlier → IsOnWay nodes old new told earlier

pub from_here : (names : Names) → GoesBack names names
from_here names nodes told earlier h e = record { kept = h; before = e; table = refl }

pub put_one_back : (old cur later : Names) (place : ℕ) (t : TermId) (log : List Logged) → GoesBack old cur → cur.log ≡ Was place t ∷ log
    → later.table ≡ cur.table → later.terms.items ≡ slice_set cur.terms.items place t → later.log ≡ log → GoesBack old later
put_one_back old cur later place t log way is table terms rest nodes told earlier h e =
    let w = way nodes told earlier h e in
    let logged = subst (λ (l : List Logged). AreLogged (length nodes) (length cur.terms.items) l) is w.kept.log in
    let same : length (slice_set cur.terms.items place t) ≡ length cur.terms.items = length_set cur.terms.items place t in
    record {
      kept = record {
        count = ap length table ∙ w.kept.count ∙ sym same ∙ sym (ap length terms);
        terms = subst (AllBelow (length nodes)) (sym terms) (below_set (length nodes) cur.terms.items place t w.kept.terms logged.0.1);
        log = subst (λ (l : List Logged). AreLogged (length nodes) (length later.terms.items) l) (sym rest)
            (subst (λ (ids : List TermId). AreLogged (length nodes) (length ids) log) (sym terms) (subst (λ (n : ℕ). AreLogged (length nodes) n log) (sym same) logged.1));
      };
      before =
          (λ i. pasts nodes (table i) (terms i) (rest i)) ∙ ap (λ (l : List Logged). pasts nodes cur.table cur.terms.items l) (sym is) ∙ w.before;
      table = table ∙ w.table;
    }

pub at_mark : (old cur later : Names) (log : List Logged) → GoesBack old cur → cur.log ≡ Mark ∷ log → later.table ≡ cur.table → later.terms.items ≡ cur.terms.items → later.log ≡ log
    → (nodes : List Node) (told : Named Tree) (earlier : List (Named Tree)) → IsNames nodes old → past nodes old ≡ told ∷ earlier → IsBack nodes old later told earlier
at_mark old cur later log way is table terms rest nodes told earlier h e =
    let w = way nodes told earlier h e in
    let both : named_by nodes cur.table cur.terms.items ∷ pasts nodes cur.table cur.terms.items log ≡ told ∷ earlier = ap (λ (l : List Logged). pasts nodes cur.table cur.terms.items l) (sym is) ∙ w.before in
    let logged = subst (λ (l : List Logged). AreLogged (length nodes) (length cur.terms.items) l) is w.kept.log in
    record {
      kept = record {
        count = ap length table ∙ w.kept.count ∙ sym (ap length terms);
        terms = subst (AllBelow (length nodes)) (sym terms) w.kept.terms;
        log = subst (λ (l : List Logged). AreLogged (length nodes) (length later.terms.items) l) (sym rest)
            (subst (λ (ids : List TermId). AreLogged (length nodes) (length ids) log) (sym terms) logged);
      };
      now = (λ i. named_by nodes (table i) (terms i)) ∙ (let first : named_by nodes cur.table cur.terms.items ≡ told = cc in first);
      before = (λ i. pasts nodes (table i) (terms i) (rest i)) ∙ (let second : pasts nodes cur.table cur.terms.items log ≡ earlier = cc in second);
      table = table ∙ w.table;
    }

pub at_end : (old cur later : Names) → GoesBack old cur → cur.log ≡ [] → (nodes : List Node) (told : Named Tree) (earlier : List (Named Tree)) → IsNames nodes old → past nodes old ≡ told ∷ earlier
    → IsBack nodes old later told earlier
at_end old cur later way is nodes told earlier h e =
    let w = way nodes told earlier h e in
    let none : [] ≡ told ∷ earlier = ap (λ (l : List Logged). pasts nodes cur.table cur.terms.items l) (sym is) ∙ w.before in
    absurd (cc)

-- ---- a mark

pub marked : (old later : Names) → later.table ≡ old.table → later.terms.items ≡ old.terms.items → later.log ≡ Mark ∷ old.log → (nodes : List Node) → IsNames nodes old → IsKept nodes old later
marked old later table terms log nodes h = record {
  kept = record {
    count = ap length table ∙ h.count ∙ sym (ap length terms);
    terms = subst (AllBelow (length nodes)) (sym terms) h.terms;
    log = subst (λ (l : List Logged). AreLogged (length nodes) (length later.terms.items) l) (sym log)
        (subst (λ (ids : List TermId). AreLogged (length nodes) (length ids) old.log) (sym terms) h.log);
  };
  now = λ i. named_by nodes (table i) (terms i);
  before = λ i. pasts nodes (table i) (terms i) (log i);
  table = table;
}
