-- Calls are the edges of the graph.
use Rattle.std.proofs.Common.{◌≡◌, ℕ, zero, suc, ◌+◌, ◌<◌, Bool, true, false, cond, List, [], ◌∷◌, ◌++◌, ◌⊎◌, inl, inr, length, map, get_or, reverse, refl, sym, ap, subst, ◌∙◌, arith, All}
use Rattle.std.specs.Prelude.{Option, Some, None, slice_get}
use Rattle.digraph.specs.Graphs.{Has, Edge, IsGraph, edge, further, IsAcyclic, IsLeastOnCycle}
use Rattle.digraph.specs.Graphs as graph
use Rattle.digraph.specs.Orders.{IsOrder, OrdersTellCycles}
use Rattle.digraph.specs.Orders as points
use Rattle.digraph.proofs.Members.{all_below}
use Rattle.digraph.proofs.Numbers.{order_inside}
use Rattle.std.proofs.lemmas.List.{reverse-append}
use Rattle.fort_model.specs.CallFacts.{sites_of_lines, sites_of_unit}
use Rattle.fort_model.specs.CallOrder.{CanStand, Grows, start, next, IsCallOrder}
use Rattle.fort_model.specs.Calls.{CallSite, Calls, Reaches, directly, through, callee_of, sites_of}
use Rattle.fort_model.specs.Lists.{IsAmong}
use Rattle.fort_syntax.specs.Names.{first_unit, function, subroutine}
use Rattle.fort_syntax.specs.declared.unit.Line.{Line}
use Rattle.fort_syntax.specs.declared.unit.Unit.{Unit as Routine}
use Rattle.call_order.specs.CallGraphs.{known, callees, call_graph, HaveNoRecursion, IsFirstRecursive}

-- ---- members of lists

pub among_has : (x : ℕ) (xs : List ℕ) → IsAmong x xs → Has x xs
among_has x [] (k, e) = absurd cc
among_has x (y ∷ ys) (zero, e) = inl cc
among_has x (y ∷ ys) (suc k, e) = inr (among_has x ys (k, e))

pub has_among : (x : ℕ) (xs : List ℕ) → Has x xs → IsAmong x xs
has_among x [] h = absurd h
has_among x (y ∷ ys) (inl e) = (zero, ap Some (sym e))
has_among x (y ∷ ys) (inr h) = let found = has_among x ys h in (suc found.0, found.1)

among_first : {A : Type 0} (a : A) (xs ys : List A) → IsAmong a xs → IsAmong a (xs ++ ys)
among_first a [] ys (k, e) = absurd cc
among_first a (x ∷ xs) ys (zero, e) = (zero, e)
among_first a (x ∷ xs) ys (suc k, e) = let found = among_first a xs ys (k, e) in (suc found.0, found.1)

among_second : {A : Type 0} (a : A) (xs ys : List A) → IsAmong a ys → IsAmong a (xs ++ ys)
among_second a [] ys h = h
among_second a (x ∷ xs) ys h = let found = among_second a xs ys h in (suc found.0, found.1)

among_either : {A : Type 0} (a : A) (xs ys : List A) → IsAmong a (xs ++ ys) → IsAmong a xs ⊎ IsAmong a ys
among_either a [] ys h = inr h
among_either a (x ∷ xs) ys (zero, e) = inl (zero, e)
among_either {A} a (x ∷ xs) ys (suc k, e) = move (among_either a xs ys (k, e))
  where
    move : IsAmong a xs ⊎ IsAmong a ys → IsAmong a (x ∷ xs) ⊎ IsAmong a ys
    move (inl m) = inl (suc m.0, m.1)
    move (inr m) = inr m

-- ---- the calls of a unit

in_lines : (u : Routine) (lines : List Line) (line : Line) (site : CallSite) → IsAmong line lines → IsAmong site (sites_of u line.stmt)
    → IsAmong site (sites_of_lines u lines)
in_lines u [] line site (k, e) h = absurd cc
in_lines u (l ∷ lines) line site (zero, e) h =
    let same : line ≡ l = cc in
    among_first site (sites_of u l.stmt) (sites_of_lines u lines) (subst (λ (x : Line). IsAmong site (sites_of u x.stmt)) same h)
in_lines u (l ∷ lines) line site (suc k, e) h =
    among_second site (sites_of u l.stmt) (sites_of_lines u lines) (in_lines u lines line site (k, e) h)

pub of_lines : (u : Routine) (lines : List Line) (site : CallSite) → IsAmong site (sites_of_lines u lines)
    → (line : Line) × IsAmong line lines × IsAmong site (sites_of u line.stmt)
of_lines u [] site (k, e) = absurd cc
of_lines u (l ∷ lines) site h = by (of_lines u lines site) (among_either site (sites_of u l.stmt) (sites_of_lines u lines) h)
  where
    by : (IsAmong site (sites_of_lines u lines) → (line : Line) × IsAmong line lines × IsAmong site (sites_of u line.stmt))
        → IsAmong site (sites_of u l.stmt) ⊎ IsAmong site (sites_of_lines u lines)
        → (line : Line) × IsAmong line (l ∷ lines) × IsAmong site (sites_of u line.stmt)
    by later (inl m) = (l, (zero, refl), m)
    by later (inr m) = let found = later m in (found.0, (suc found.1.0, found.1.1), found.2)

with_known : (o : Option ℕ) (os : List (Option ℕ)) (j : ℕ) → o ≡ Some j → Has j (known (o ∷ os))
with_known (Some k) os j e = inl cc
with_known None os j e = absurd cc

behind_known : (o : Option ℕ) (os : List (Option ℕ)) (j : ℕ) → Has j (known os) → Has j (known (o ∷ os))
behind_known (Some k) os j h = inr h
behind_known None os j h = h

in_known : (f : CallSite → Option ℕ) (sites : List CallSite) (site : CallSite) (j : ℕ) → IsAmong site sites → f site ≡ Some j
    → Has j (known (map f sites))
in_known f [] site j (k, e) h = absurd cc
in_known f (s ∷ sites) site j (zero, e) h =
    let same : s ≡ site = cc in
    with_known (f s) (map f sites) j (ap f same ∙ h)
in_known f (s ∷ sites) site j (suc k, e) h = behind_known (f s) (map f sites) j (in_known f sites site j (k, e) h)

of_known : (f : CallSite → Option ℕ) (sites : List CallSite) (j : ℕ) → Has j (known (map f sites))
    → (site : CallSite) × IsAmong site sites × (f site ≡ Some j)
of_known f [] j h = absurd h
of_known f (s ∷ sites) j h = by (of_known f sites j) (f s) refl h
  where
    by : (Has j (known (map f sites)) → (site : CallSite) × IsAmong site sites × (f site ≡ Some j))
        → (o : Option ℕ) → f s ≡ o → Has j (known (o ∷ map f sites))
        → (site : CallSite) × IsAmong site (s ∷ sites) × (f site ≡ Some j)
    by later (Some k) e (inl m) = (s, (zero, refl), e ∙ ap Some (sym m))
    by later (Some k) e (inr m) = let found = later m in (found.0, (suc found.1.0, found.1.1), found.2)
    by later None e m = let found = later m in (found.0, (suc found.1.0, found.1.1), found.2)

-- ---- the rows of the graph

row_at : (f : Routine → List ℕ) (us : List Routine) (i : ℕ) (u : Routine) → slice_get us i ≡ Some u → get_or (map f us) i [] ≡ f u
row_at f [] i u e = absurd cc
row_at f (v ∷ us) zero u e = let same : v ≡ u = cc in ap f same
row_at f (v ∷ us) (suc i) u e = row_at f us i u e

of_row : (f : Routine → List ℕ) (us : List Routine) (i j : ℕ) → Has j (get_or (map f us) i [])
    → (u : Routine) × (slice_get us i ≡ Some u) × Has j (f u)
of_row f [] i j h = absurd h
of_row f (v ∷ us) zero j h = (v, refl, h)
of_row f (v ∷ us) (suc i) j h = of_row f us i j h

first_at : (is : Routine → Bool) (us : List Routine) (i j : ℕ) → first_unit is us i ≡ Some j
    → (k : ℕ) × (g : Routine) × (j ≡ i + k) × (slice_get us k ≡ Some g)
first_at is [] i j e = absurd cc
first_at is (u ∷ us) i j e = by (first_at is us (suc i) j) (is u) e
  where
    by : (first_unit is us (suc i) ≡ Some j → (k : ℕ) × (g : Routine) × (j ≡ suc i + k) × (slice_get us k ≡ Some g))
        → (b : Bool) → cond b (Some i) (first_unit is us (suc i)) ≡ Some j
        → (k : ℕ) × (g : Routine) × (j ≡ i + k) × (slice_get (u ∷ us) k ≡ Some g)
    by later true h = let same : i ≡ j = cc in (zero, u, (let e : j ≡ i + 0 = omega arith in e), refl)
    by later false h =
        let found = later h in
        let same : j ≡ suc i + found.0 = found.2 in
        (suc found.0, found.1, (let e : j ≡ i + suc found.0 = omega arith in e), found.3)

callee_at : (units : List Routine) (site : CallSite) (j : ℕ) → callee_of units site ≡ Some j → (g : Routine) × (slice_get units j ≡ Some g)
callee_at units site j = by site.reference
  where
    found : (is : Routine → Bool) → first_unit is units 0 ≡ Some j → (g : Routine) × (slice_get units j ≡ Some g)
    found is e =
        let first = first_at is units 0 j e in
        let same : first.0 ≡ j = (let s : j ≡ 0 + first.0 = first.2 in omega arith) in
        (first.1, subst (λ (n : ℕ). slice_get units n ≡ Some first.1) same first.3)

    by : (b : Bool) → cond b (function units site.callee) (subroutine units site.callee) ≡ Some j → (g : Routine) × (slice_get units j ≡ Some g)
    by true e = found _ e
    by false e = found _ e

pub edge_of : (units : List Routine) (i j : ℕ) → Calls units i j → Edge (call_graph units) i j
edge_of units i j c =
    subst (Has j) (sym (row_at (callees units) units i c.caller c.is_caller))
    (in_known (callee_of units) (sites_of_unit c.caller) c.site j
    (in_lines c.caller c.caller.lines c.line c.site c.is_line c.is_site) c.is_of)

pub calls_of : (units : List Routine) (i j : ℕ) → Edge (call_graph units) i j → Calls units i j
calls_of units i j e =
    let row = of_row (callees units) units i j e in
    let found = of_known (callee_of units) (sites_of_unit row.0) j row.2 in
    let line = of_lines row.0 row.0.lines found.0 found.1 in
    let callee = callee_at units found.0 j found.2 in
    record {
      caller = row.0;
      callee = callee.0;
      is_caller = row.1;
      is_callee = callee.1;
      line = line.0;
      is_line = line.1;
      site = found.0;
      is_site = line.2;
      is_of = found.2;
    }

rows_long : (f : Routine → List ℕ) (us : List Routine) → length (map f us) ≡ length us
rows_long f [] = refl
rows_long f (u ∷ us) = ap suc (rows_long f us)

pub graph_long : (units : List Routine) → length (call_graph units) ≡ length units
graph_long units = rows_long (callees units) units

within : (us : List Routine) (j : ℕ) (g : Routine) → slice_get us j ≡ Some g → j < length us
within [] j g e = absurd cc
within (u ∷ us) zero g e = omega arith
within (u ∷ us) (suc j) g e = let rec = within us j g e in omega arith

pub is_graph : (units : List Routine) → IsGraph (call_graph units)
is_graph units p q e =
    let c = calls_of units p q e in
    let inside : q < length units = within units q c.callee c.is_callee in
    let same : length (call_graph units) ≡ length units = graph_long units in
    omega arith

-- ---- units that call themselves

edge_first : (g : List (List ℕ)) (i j k : ℕ) → Edge g i j → graph.Reaches g j k → graph.Reaches g i k
edge_first g i j k e (edge f) = further (edge e) f
edge_first g i j k e (further r f) = further (edge_first g i j _ e r) f

call_last : (units : List Routine) (i j k : ℕ) → Reaches units i j → Calls units j k → Reaches units i k
call_last units i j k (directly c) d = through c (directly d)
call_last units i j k (through c r) d = through c (call_last units _ j k r d)

pub way_to : (units : List Routine) (i j : ℕ) → Reaches units i j → graph.Reaches (call_graph units) i j
way_to units i j (directly c) = edge (edge_of units i j c)
way_to units i k (through c r) = edge_first (call_graph units) i _ k (edge_of units i _ c) (way_to units _ k r)

pub way_of : (units : List Routine) (i j : ℕ) → graph.Reaches (call_graph units) i j → Reaches units i j
way_of units i j (edge e) = directly (calls_of units i j e)
way_of units i k (further r e) = call_last units i _ k (way_of units i _ r) (calls_of units _ k e)

pub first_recursive : (units : List Routine) (found : Option ℕ) → IsLeastOnCycle (call_graph units) found → IsFirstRecursive units found
first_recursive units None h = λ i r. h i (way_to units i i r)
first_recursive units (Some p) h = (way_of units p p h.0, λ j l r. h.1 j l (way_to units j j r))

pub acyclic : (units : List Routine) → HaveNoRecursion units → IsAcyclic (call_graph units)
acyclic units h = λ p r. h p (way_of units p p r)

-- ---- the order

stands : (units : List Routine) (done : List ℕ) (i : ℕ) → points.CanStand (call_graph units) done i → CanStand units done i
stands units done i c =
    let inside : i < length (call_graph units) = c.point in
    let same : length (call_graph units) ≡ length units = graph_long units in
    record {
      unit = omega arith;
      new = λ m. c.new (among_has i done m);
      behind = λ j d. has_among j done (c.behind j (edge_of units i j d));
    }

stands_back : (units : List Routine) (done : List ℕ) (i : ℕ) → CanStand units done i → points.CanStand (call_graph units) done i
stands_back units done i c =
    let inside : i < length units = c.unit in
    let same : length (call_graph units) ≡ length units = graph_long units in
    record {
      point = omega arith;
      new = λ m. c.new (has_among i done m);
      behind = λ j d. among_has j done (c.behind j (calls_of units i j d));
    }

grown : (units : List Routine) (done : List ℕ) → points.Grows (call_graph units) done → Grows units done
grown units _ points.start = start
grown units _ (points.next g c l) = next (grown units _ g) (stands units _ _ c) (λ j d. l j (stands_back units _ j d))

has_append : (xs ys : List ℕ) (q : ℕ) → Has q (xs ++ ys) → Has q xs ⊎ Has q ys
has_append [] ys q h = inr h
has_append (x ∷ xs) ys q (inl e) = inl (inl e)
has_append (x ∷ xs) ys q (inr h) = move (has_append xs ys q h)
  where
    move : Has q xs ⊎ Has q ys → (((q ≡ x) ⊎ Has q xs) ⊎ Has q ys)
    move (inl m) = inl (inr m)
    move (inr m) = inr m

has_reverse : (xs : List ℕ) (q : ℕ) → Has q (reverse xs) → Has q xs
has_reverse [] q h = h
has_reverse (x ∷ xs) q h =
    by (has_reverse xs q) (has_append (reverse xs) (x ∷ []) q (subst (Has q) (reverse-append (x ∷ []) xs) h))
  where
    by : (Has q (reverse xs) → Has q xs) → Has q (reverse xs) ⊎ Has q (x ∷ []) → (q ≡ x) ⊎ Has q xs
    by later (inl m) = inr (later m)
    by later (inr (inl e)) = inl e
    by later (inr (inr m)) = absurd m

-- the order of the graph is the order of calls
pub call_order_is : (units : List Routine) (order : List ℕ) → OrdersTellCycles → HaveNoRecursion units → IsOrder (call_graph units) order
    → IsCallOrder units order
call_order_is units order law none is = record {
  grows = grown units (reverse order) is.grows;
  whole = λ i l.
      let same : length (call_graph units) ≡ length units = graph_long units in
      let inside : i < length (call_graph units) = omega arith in
      has_among i order (has_reverse order i ((law (call_graph units) order (is_graph units) is).0 (acyclic units none) i inside));
}

-- ---- the numbers

pub order_within : (units : List Routine) (order : List ℕ) → IsOrder (call_graph units) order → All (λ n. n < length units) order
order_within units order is =
    subst (λ (m : ℕ). All (λ n. n < m) order) (graph_long units) (order_inside (call_graph units) order is)

rows_within : (rows : List (List ℕ)) (m : ℕ) → ((p q : ℕ) → Edge rows p q → q < m) → All (All (λ n. n < m)) rows
rows_within rows m h = λ k d l. all_below m (get_or rows k d) (λ q e. h k q (same rows k d q l e))
  where
    same : (xs : List (List ℕ)) (k : ℕ) (d : List ℕ) (q : ℕ) → k < length xs → Has q (get_or xs k d) → Has q (get_or xs k [])
    same [] k d q l e = absurd (omega (arith, l))
    same (x ∷ xs) zero d q l e = e
    same (x ∷ xs) (suc k) d q l e = same xs k d q (omega (arith, l)) e

pub graph_within : (units : List Routine) → All (All (λ n. n < length units)) (call_graph units)
graph_within units = rows_within (call_graph units) (length units)
    (λ p q e. subst (λ (m : ℕ). q < m) (graph_long units) (is_graph units p q e))
