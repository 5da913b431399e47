-- Ways through nodes are ways through the statements of a unit.
use Rattle.std.proofs.Common.{◌≡◌, ℕ, zero, suc, ◌+◌, ◌<◌, ◌⊎◌, inl, inr, Bool, true, false, cond, List, [], ◌∷◌, length, get_or, Option, Some, None, slice_get, refl, sym, ap, ◌∙◌, subst, arith}
use Rattle.std.proofs.lemmas.Option.{slice_get_within}
use Rattle.digraph.specs.Graphs.{Edge as NodeEdge, Reaches, edge, further, LiesOnCycle}
use Rattle.fort_syntax.specs.declared.dialect.Dialect.{Dialect}
use Rattle.fort_syntax.specs.declared.unit.Line.{Line}
use Rattle.fort_syntax.specs.declared.unit.Unit.{Unit as Routine}
use Rattle.fort_notes.specs.Assertions.{Notes}
use Rattle.fort_model.specs.declared.graph.Fork.{Fork}
use Rattle.fort_model.specs.declared.graph.Target.{Target}
use Rattle.fort_model.specs.declared.graph.Target.TheVariants.{Point, Fork as AtFork}
use Rattle.fort_model.specs.Graphs.{taken, goes_to, follow, IsTargetOf, AreTargetsOf}
use Rattle.fort_model.specs.Lists.{IsAmong}
use Rattle.fort_model.specs.Paths.{NoCut, cut_at, Edge, Uncut, one, more}
use Rattle.fort_model.proofs.GraphLeads.{at_target}
use Rattle.flow_nodes.specs.Nodes.{node, nodes}
use Rattle.flow_nodes.proofs.Stepping.{Steps, of_start, of_fork, steps_of, start_leads, fork_leads}
use Rattle.flow_nodes.proofs.Falls.{reach_on}
use Rattle.flow_cycles.proofs.Marking.{clear_line, clear_within}

none_some : {X : Type 0} (a : X) → ◌≡◌ {A = Option X} None (Some a) → ⊥
none_some a e = cc

some_is : {X : Type 0} (a b : X) → ◌≡◌ {A = Option X} (Some a) (Some b) → a ≡ b
some_is a b e = cc

next_by_one : (n k : ℕ) → suc n + k ≡ n + suc k
next_by_one n k = omega arith

plus_zero : (n : ℕ) → n ≡ n + 0
plus_zero n = omega arith

zero_plus : (n : ℕ) → 0 + n ≡ n
zero_plus n = omega arith

module _ (dialect : Dialect) (u : Routine) (forks : List Fork) where
  pub targets_long : (n : ℕ) (lines : List Line) (ts : List Target) → AreTargetsOf dialect u forks n lines ts → length ts ≡ length lines
  targets_long n [] [] h = refl
  targets_long n [] (t ∷ ts) h = absurd h
  targets_long n (line ∷ lines) [] h = absurd h
  targets_long n (line ∷ lines) (t ∷ ts) h = ap suc (targets_long (suc n) lines ts h.1)

  -- the target at a place is that of the statement there
  place : (n : ℕ) (lines : List Line) (ts : List Target) → AreTargetsOf dialect u forks n lines ts → (k : ℕ) (line : Line) → slice_get lines k ≡ Some line
      → (t : Target) × (slice_get ts k ≡ Some t) × IsTargetOf dialect u forks (n + k) line.stmt t
  place n [] ts h k line e = absurd (none_some line e)
  place n (l ∷ lines) [] h k line e = absurd h
  place n (l ∷ lines) (t ∷ ts) h zero line e =
      (t, refl, subst (λ (x : ℕ). IsTargetOf dialect u forks x line.stmt t) (plus_zero n) (subst (λ (x : Line). IsTargetOf dialect u forks n x.stmt t) (some_is l line e) h.0))
  place n (l ∷ lines) (t ∷ ts) h (suc k) line e =
      let found = place (suc n) lines ts h.1 k line e in
      (found.0, found.1, subst (λ (x : ℕ). IsTargetOf dialect u forks x line.stmt found.0) (next_by_one n k) found.2)

module _ (dialect : Dialect) (u : Routine) (notes : Notes) (marks : List Bool) (starts : List Target) (forks : List Fork)
    (targets : AreTargetsOf dialect u forks 0 u.lines starts)
    (unmarked : (q : ℕ) → cut_at u notes q ≡ NoCut → get_or marks q true ≡ false)
    (clear : (q : ℕ) → get_or marks q true ≡ false → cut_at u notes q ≡ NoCut) where
  abbrev size : ℕ
  size = length starts

  abbrev g : List (List ℕ)
  g = nodes (length starts) marks starts forks

  abbrev at : Target → ℕ
  at t = node (length starts) marks t

  long : length starts ≡ length u.lines
  long = targets_long dialect u forks 0 u.lines starts targets

  target_at : (p : ℕ) (line : Line) → slice_get u.lines p ≡ Some line → (t : Target) × (slice_get starts p ≡ Some t) × IsTargetOf dialect u forks p line.stmt t
  target_at p line e =
      let found = place dialect u forks 0 u.lines starts targets p line e in
      (found.0, found.1, subst (λ (x : ℕ). IsTargetOf dialect u forks x line.stmt found.0) (zero_plus p) found.2)

  inside : (q : ℕ) → cut_at u notes q ≡ NoCut → q < length starts
  inside q n = (let w = clear_within u notes q n in let l = long in omega (arith, w, l))

  -- ---- choices are ways through forks

  node_point : (p : ℕ) → get_or marks p true ≡ false → at (Point p) ≡ p
  node_point p e = ap (λ (b : Bool). cond b (length starts) p) e

  Reached : Target → ℕ → Type 0
  Reached t q = (at t ≡ q) ⊎ Reaches g (at t) q

  behind : (p q : ℕ) (t : Target) → NodeEdge g p (at t) → (at t ≡ q) ⊎ Reaches g (at t) q → Reaches g p q
  behind p q t e (inl same) = edge (subst (λ (x : ℕ). NodeEdge g p x) same e)
  behind p q t e (inr r) = reach_on g p (at t) q (edge e) r

  at_choice : (k : ℕ) (f : Fork) (i : ℕ) (cs : List ℕ) (q : ℕ) → slice_get forks k ≡ Some f
      → ((t : Target) → follow forks t cs ≡ Some q → (at t ≡ q) ⊎ Reaches g (at t) q)
      → (o : Option Target) → slice_get f.targets i ≡ o → goes_to o (λ t. follow forks t cs) ≡ Some q → Reaches g (length starts + 1 + k) q
  at_choice k f i cs q is rec None e h = absurd (none_some q h)
  at_choice k f i cs q is rec (Some t) e h = behind (length starts + 1 + k) q t (fork_leads (length starts) marks starts forks k f t is (i, e)) (rec t h)

  at_fork : (k : ℕ) (c : ℕ) (cs : List ℕ) (q : ℕ) → ((t : Target) → follow forks t cs ≡ Some q → (at t ≡ q) ⊎ Reaches g (at t) q)
      → (o : Option Fork) → slice_get forks k ≡ o → goes_to (taken o c) (λ t. follow forks t cs) ≡ Some q → Reaches g (length starts + 1 + k) q
  at_fork k c cs q rec None e h = absurd (none_some q h)
  at_fork k zero cs q rec (Some f) e h = absurd (none_some q h)
  at_fork k (suc i) cs q rec (Some f) e h = at_choice k f i cs q e rec (slice_get f.targets i) refl h

  way : (cs : List ℕ) (t : Target) (q : ℕ) → cut_at u notes q ≡ NoCut → follow forks t cs ≡ Some q → (at t ≡ q) ⊎ Reaches g (at t) q
  way [] (Point p) q n e =
      let same = some_is p q e in
      inl (node_point p (subst (λ (x : ℕ). get_or marks x true ≡ false) (sym same) (unmarked q n)) ∙ same)
  way [] (AtFork k) q n e = absurd (none_some q e)
  way (c ∷ cs) (Point p) q n e = absurd (none_some q e)
  way (c ∷ cs) (AtFork k) q n e = inr (at_fork k c cs q (λ t h. way cs t q n h) (slice_get forks k) refl e)

  -- ---- edges of the unit are ways through nodes

  pub edge_reaches : (p q : ℕ) (cs : List ℕ) → Edge dialect u p cs q → cut_at u notes q ≡ NoCut → Reaches g p q
  edge_reaches p q cs e n =
      let found = target_at p e.line e.at in
      behind p q found.0 (start_leads (length starts) marks starts forks p found.0 found.1)
      (way cs found.0 q n (at_target forks u p dialect e.line.stmt found.0 found.2 cs ∙ e.to))

  uncut_left : (p q : ℕ) → Uncut dialect u notes p q → cut_at u notes p ≡ NoCut
  uncut_left p q (one cs n e) = n
  uncut_left p q (more cs n e rest) = n

  pub uncut_reaches : (p r : ℕ) → Uncut dialect u notes p r → cut_at u notes r ≡ NoCut → Reaches g p r
  uncut_reaches p r (one cs n e) nr = edge_reaches p r cs e nr
  uncut_reaches p r (more {q = q} cs n e rest) nr = reach_on g p q r (edge_reaches p q cs e (uncut_left q r rest)) (uncut_reaches q r rest nr)

  pub uncut_cycle : (p : ℕ) → Uncut dialect u notes p p → LiesOnCycle g p
  uncut_cycle p h = uncut_reaches p p h (uncut_left p p h)

  pub edge_inside : (p q : ℕ) (cs : List ℕ) → Edge dialect u p cs q → p < length starts
  edge_inside p q cs e = (let w = slice_get_within u.lines p e.line e.at in let l = long in omega (arith, w, l))

  pub clear_inside : (q : ℕ) → cut_at u notes q ≡ NoCut → q < length starts
  clear_inside q n = inside q n

  -- ---- ways through nodes are ways of the unit

  -- from a point a statement is reached, from which choices lead on by a target
  record OnWay (p : ℕ) (t : Target) : Type 0 where
    from : ℕ
    bare : cut_at u notes from ≡ NoCut
    come : (from ≡ p) ⊎ Uncut dialect u notes p from
    leads : (cs : List ℕ) (q : ℕ) → follow forks t cs ≡ Some q → (ds : List ℕ) × Edge dialect u from ds q

  uncut_on : (p r q : ℕ) (ds : List ℕ) → Uncut dialect u notes p r → cut_at u notes r ≡ NoCut → Edge dialect u r ds q → Uncut dialect u notes p q
  uncut_on p r q ds (one cs n e) nr f = more cs n e (one ds nr f)
  uncut_on p r q ds (more {q = s} cs n e rest) nr f = more cs n e (uncut_on s r q ds rest nr f)

  come_on : (p r q : ℕ) (ds : List ℕ) → (r ≡ p) ⊎ Uncut dialect u notes p r → cut_at u notes r ≡ NoCut → Edge dialect u r ds q → Uncut dialect u notes p q
  come_on p r q ds (inl same) nr e = subst (λ (x : ℕ). Uncut dialect u notes x q) same (one ds nr e)
  come_on p r q ds (inr h) nr e = uncut_on p r q ds h nr e

  data Stands (p : ℕ) : ℕ → Type 0 where
    on_point : {x : ℕ} → cut_at u notes x ≡ NoCut → Uncut dialect u notes p x → Stands p x
    on_fork : {x : ℕ} (k : ℕ) → x ≡ length starts + 1 + k → OnWay p (AtFork k) → Stands p x
    on_end : {x : ℕ} → x ≡ length starts → Stands p x

  on_target : (p q y : ℕ) → OnWay p (Point q) → (b : Bool) → get_or marks q true ≡ b → y ≡ cond b (length starts) q → Stands p y
  on_target p q y w true m same = on_end same
  on_target p q y w false m same =
      let found = w.leads [] q refl in
      subst (Stands p) (sym same) (on_point (clear q m) (come_on p w.from q found.0 w.come w.bare found.1))

  land : (p : ℕ) (t : Target) (y : ℕ) → OnWay p t → y ≡ at t → Stands p y
  land p (Point q) y w same = on_target p q y w (get_or marks q true) refl same
  land p (AtFork k) y w same = on_fork k same w

  from_start : (p x : ℕ) (t : Target) → slice_get starts x ≡ Some t → cut_at u notes x ≡ NoCut → (x ≡ p) ⊎ Uncut dialect u notes p x → OnWay p t
  from_start p x t e n come =
      let line = clear_line u notes x n in
      let found = target_at x line.0 line.1 in
      let same : found.0 ≡ t = some_is found.0 t (sym found.1 ∙ e) in
      let is : IsTargetOf dialect u forks x line.0.stmt t = subst (λ (s : Target). IsTargetOf dialect u forks x line.0.stmt s) same found.2 in
      record {
        from = x;
        bare = n;
        come = come;
        leads = λ cs q h. (cs, record { line = line.0; at = line.1; to = sym (at_target forks u x dialect line.0.stmt t is cs) ∙ h });
      }

  from_fork : (p k : ℕ) (f : Fork) (t : Target) → slice_get forks k ≡ Some f → IsAmong t f.targets → OnWay p (AtFork k) → OnWay p t
  from_fork p k f t is among w = record {
    from = w.from;
    bare = w.bare;
    come = w.come;
    leads = λ cs q h. w.leads (suc among.0 ∷ cs) q (
        ap (λ (o : Option Fork). goes_to (taken o (suc among.0)) (λ s. follow forks s cs)) is
        ∙ ap (λ (o : Option Target). goes_to o (λ s. follow forks s cs)) among.1 ∙ h);
  }

  step : (p x y : ℕ) → Stands p x → Steps (length starts) marks starts forks x y → Stands p y
  step p x y (on_point n h) (of_start t e same) = land p t y (from_start p x t e n (inr h)) same
  step p x y (on_point n h) (of_fork k f t place e among same) = (let w = inside x n in absurd (omega (arith, w, place)))
  step p x y (on_fork k place w) (of_start t e same) = (let l = slice_get_within starts x t e in absurd (omega (arith, l, place)))
  step p x y (on_fork k place w) (of_fork j f t place' e among same) =
      let k_is : k ≡ j = omega (arith, place, place') in
      land p t y (from_fork p j f t e among (subst (λ (i : ℕ). OnWay p (AtFork i)) k_is w)) same
  step p x y (on_end place) (of_start t e same) = (let l = slice_get_within starts x t e in absurd (omega (arith, l, place)))
  step p x y (on_end place) (of_fork j f t place' e among same) = absurd (omega (arith, place, place'))

  first_step : (p y : ℕ) → cut_at u notes p ≡ NoCut → Steps (length starts) marks starts forks p y → Stands p y
  first_step p y n (of_start t e same) = land p t y (from_start p p t e n (inl refl)) same
  first_step p y n (of_fork k f t place e among same) = (let w = inside p n in absurd (omega (arith, w, place)))

  walk : (p x : ℕ) → cut_at u notes p ≡ NoCut → Reaches g p x → Stands p x
  walk p x n (edge e) = first_step p x n (steps_of (length starts) marks starts forks p x e)
  walk p x n (further {q = z} h e) = step p z x (walk p z n h) (steps_of (length starts) marks starts forks z x e)

  -- what an edge leads to that is a statement has no mark
  bare_by : (p q : ℕ) → p < length starts → (b : Bool) → get_or marks q true ≡ b → p ≡ cond b (length starts) q → cut_at u notes p ≡ NoCut
  bare_by p q lt true m same = absurd (omega (arith, lt, same))
  bare_by p q lt false m same = subst (λ (x : ℕ). cut_at u notes x ≡ NoCut) (sym same) (clear q m)

  bare_target : (p : ℕ) (t : Target) → p < length starts → p ≡ at t → cut_at u notes p ≡ NoCut
  bare_target p (Point q) lt same = bare_by p q lt (get_or marks q true) refl same
  bare_target p (AtFork k) lt same = absurd (omega (arith, lt, same))

  bare_step : (z p : ℕ) → p < length starts → Steps (length starts) marks starts forks z p → cut_at u notes p ≡ NoCut
  bare_step z p lt (of_start t e same) = bare_target p t lt same
  bare_step z p lt (of_fork k f t place e among same) = bare_target p t lt same

  bare_reached : (x p : ℕ) → p < length starts → Reaches g x p → cut_at u notes p ≡ NoCut
  bare_reached x p lt (edge e) = bare_step x p lt (steps_of (length starts) marks starts forks x p e)
  bare_reached x p lt (further {q = z} h e) = bare_step z p lt (steps_of (length starts) marks starts forks z p e)

  pub cycle_uncut : (p : ℕ) → p < length starts → LiesOnCycle g p → Uncut dialect u notes p p
  cycle_uncut p lt h = by (walk p p (bare_reached p p lt h) h)
    where
      by : Stands p p → Uncut dialect u notes p p
      by (on_point n w) = w
      by (on_fork k place w) = absurd (omega (arith, lt, place))
      by (on_end place) = absurd (omega (arith, lt, place))
