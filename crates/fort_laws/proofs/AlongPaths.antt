-- The points along a path, and flat lists of choices.
use Rattle.std.proofs.Common.{◌≡◌, ℕ, zero, suc, ◌==◌, Bool, true, false, cond, List, [], ◌∷◌, ◌++◌, map, length, Option, Some, None, slice_get, refl, sym, ap, ◌∙◌, subst}
use Rattle.std.specs.List.{concat}
use Rattle.std.proofs.lemmas.List.{append_cancel_left}
use Rattle.fort_syntax.specs.TreePatterns.{carried}
use Rattle.fort_syntax.specs.declared.dialect.Dialect.{Dialect}
use Rattle.fort_syntax.specs.declared.dialect.Dialect.TheVariants.{Common, SeventySeven}
use Rattle.fort_syntax.specs.declared.stmt.Stmt.TheVariants.{Subroutine, Function, Declare, Dimension, Common as CommonBlock, Assign, GoTo, Computed, ArithIf, LogicalIf', Do, Continue, Call, Return, End, BlockIf, ElseIf, Else, EndIf}
use Rattle.fort_syntax.specs.declared.unit.Line.{Line}
use Rattle.fort_syntax.specs.declared.unit.Unit.{Unit as Routine}
use Rattle.fort_model.specs.Flow.{Loop, target, one_way, one_of, through, behind, leads_do, leads_computed, leads, leads_by, leads_at, loops_at, loops_around, next_point, next_branch}
use Rattle.fort_model.specs.PathPoints.{on_from, points_from, point_in, start_point}
use Rattle.fort_model.specs.Paths.{Cut, NoCut, AtEnd, AtAssert, cut_at, over_or, goes_on, goes_from, IsWay, is_path_from, starts_at}
use Rattle.fort_notes.specs.Assertions.{Assertion, Notes}
use Rattle.fort_laws.specs.Trails.{LeadThrough, IsCut, StopAtCut, GoToCut, PathsLeadThrough, ChoicesEnd, FlatChoicesTellPaths}

-- ---- choices that lead on are no front of others

-- what takes choices takes none behind those that it has taken
abbrev Ends : (List ℕ → Option ℕ) → Type 0
Ends f = (cs : List ℕ) (q x : ℕ) (more : List ℕ) → f cs ≡ Some q → f (cs ++ x ∷ more) ≡ None

one_way_ends : (p : ℕ) → Ends (one_way p)
one_way_ends p [] q x more e = refl
one_way_ends p (c ∷ cs) q x more e = refl

one_of_ends : (qs : List ℕ) → Ends (one_of qs)
one_of_ends qs [] q x more e = absurd cc
one_of_ends qs (c ∷ []) q x more e = refl
one_of_ends qs (c ∷ (d ∷ cs)) q x more e = refl

through_ends : (p : ℕ) (ds : List Loop) → Ends (through p ds)
through_ends p [] cs q x more e = one_way_ends p cs q x more e
through_ends p (d ∷ ds) [] q x more e = absurd cc
through_ends p (d ∷ ds) (zero ∷ cs) q x more e = refl
through_ends p (d ∷ ds) (suc zero ∷ cs) q x more e = one_way_ends (suc d.at) cs q x more e
through_ends p (d ∷ ds) (suc (suc zero) ∷ cs) q x more e = through_ends p ds cs q x more e
through_ends p (d ∷ ds) (suc (suc (suc i)) ∷ cs) q x more e = refl

do_ends : (dialect : Dialect) (u : Routine) (last pc : ℕ) → Ends (leads_do dialect u last pc)
do_ends Common u last pc cs q x more e = one_way_ends (suc pc) cs q x more e
do_ends SeventySeven u last pc [] q x more e = absurd cc
do_ends SeventySeven u last pc (zero ∷ cs) q x more e = refl
do_ends SeventySeven u last pc (suc zero ∷ cs) q x more e = one_way_ends (suc pc) cs q x more e
do_ends SeventySeven u last pc (suc (suc zero) ∷ cs) q x more e = through_ends (next_point u last) (loops_around u last pc) cs q x more e
do_ends SeventySeven u last pc (suc (suc (suc i)) ∷ cs) q x more e = refl

cond_ends : (b : Bool) (f g : List ℕ → Option ℕ) → Ends f → Ends g → (cs : List ℕ) (q x : ℕ) (more : List ℕ) → cond b (f cs) (g cs) ≡ Some q
    → cond b (f (cs ++ x ∷ more)) (g (cs ++ x ∷ more)) ≡ None
cond_ends true f g F G cs q x more e = F cs q x more e
cond_ends false f g F G cs q x more e = G cs q x more e

computed_ends : (dialect : Dialect) (u : Routine) (pc : ℕ) (qs : List ℕ) → Ends (leads_computed dialect u pc qs)
computed_ends Common u pc qs cs q x more e = one_of_ends qs cs q x more e
computed_ends SeventySeven u pc qs [] q x more e = absurd cc
computed_ends SeventySeven u pc qs (i ∷ cs) q x more e =
    cond_ends (i == suc (length qs)) (behind u pc) (λ (ds : List ℕ). one_of qs (i ∷ ds)) (through_ends (next_point u pc) (loops_at u pc)) (λ ds r y rest f. one_of_ends qs (i ∷ ds) r y rest f) cs q x more e

pub choices_end : ChoicesEnd
choices_end dialect u pc (Assign left right) cs q x more e = through_ends (next_point u pc) (loops_at u pc) cs q x more e
choices_end dialect u pc (GoTo label) cs q x more e = one_way_ends (target u.lines label) cs q x more e
choices_end dialect u pc (Computed labels s) cs q x more e = computed_ends dialect u pc (map (target u.lines) labels) cs q x more e
choices_end dialect u pc (ArithIf c l m n) cs q x more e = one_of_ends (map (target u.lines) (l ∷ m ∷ n ∷ [])) cs q x more e
choices_end dialect u pc (LogicalIf' c _ (carried s)) [] q x more e = absurd cc
choices_end dialect u pc (LogicalIf' c _ (carried s)) (zero ∷ cs) q x more e = refl
choices_end dialect u pc (LogicalIf' c _ (carried s)) (suc zero ∷ cs) q x more e = choices_end dialect u pc s cs q x more e
choices_end dialect u pc (LogicalIf' c _ (carried s)) (suc (suc zero) ∷ cs) q x more e = through_ends (next_point u pc) (loops_at u pc) cs q x more e
choices_end dialect u pc (LogicalIf' c _ (carried s)) (suc (suc (suc i)) ∷ cs) q x more e = refl
choices_end dialect u pc (Do label y first last step) cs q x more e = do_ends dialect u (target u.lines label) pc cs q x more e
choices_end dialect u pc Continue cs q x more e = through_ends (next_point u pc) (loops_at u pc) cs q x more e
choices_end dialect u pc (Call f args) cs q x more e = through_ends (next_point u pc) (loops_at u pc) cs q x more e
choices_end dialect u pc Return cs q x more e = one_way_ends (length u.lines) cs q x more e
choices_end dialect u pc (BlockIf c) cs q x more e = one_of_ends (next_point u pc ∷ next_branch u pc ∷ []) cs q x more e
choices_end dialect u pc (ElseIf c) cs q x more e = one_of_ends (next_point u pc ∷ next_branch u pc ∷ []) cs q x more e
choices_end dialect u pc Else cs q x more e = through_ends (next_point u pc) (loops_at u pc) cs q x more e
choices_end dialect u pc EndIf cs q x more e = through_ends (next_point u pc) (loops_at u pc) cs q x more e
choices_end dialect u pc (Subroutine y xs) cs q x more e = absurd cc
choices_end dialect u pc (Function o y xs) cs q x more e = absurd cc
choices_end dialect u pc (Declare o items) cs q x more e = absurd cc
choices_end dialect u pc (Dimension items) cs q x more e = absurd cc
choices_end dialect u pc (CommonBlock groups) cs q x more e = absurd cc
choices_end dialect u pc End cs q x more e = absurd cc

-- ---- the first of flat choices

-- one of two lists with a common front is a front of the other, or they are equal
data Fronts (a b : List ℕ) : Type 0 where
  same : a ≡ b → Fronts a b
  first : (x : ℕ) (more : List ℕ) → b ≡ a ++ x ∷ more → Fronts a b
  second : (x : ℕ) (more : List ℕ) → a ≡ b ++ x ∷ more → Fronts a b

fronts_on : (x : ℕ) {a b : List ℕ} → Fronts a b → Fronts (x ∷ a) (x ∷ b)
fronts_on x (same e) = same (ap (λ (l : List ℕ). x ∷ l) e)
fronts_on x (first y more e) = first y more (ap (λ (l : List ℕ). x ∷ l) e)
fronts_on x (second y more e) = second y more (ap (λ (l : List ℕ). x ∷ l) e)

fronts : (a b r s : List ℕ) → a ++ r ≡ b ++ s → Fronts a b
fronts [] [] r s e = same refl
fronts [] (y ∷ b) r s e = first y b refl
fronts (x ∷ a) [] r s e = second x a refl
fronts (x ∷ a) (y ∷ b) r s e =
    let h : x ≡ y = cc in
    let t : a ++ r ≡ b ++ s = cc in
    subst (λ (z : ℕ). Fronts (x ∷ a) (z ∷ b)) h (fronts_on x (fronts a b r s t))

-- of two lists that one statement takes from the front of flat choices
taken_once : (f : List ℕ → Option ℕ) → Ends f → (a b r s : List ℕ) (p q : ℕ) → f a ≡ Some p → f b ≡ Some q → a ++ r ≡ b ++ s → a ≡ b
taken_once f h a b r s p q e k same_whole = go (fronts a b r s same_whole)
  where
    go : Fronts a b → a ≡ b
    go (same i) = i
    go (first x more i) = let n : f b ≡ None = ap f i ∙ h a p x more e in absurd cc
    go (second x more i) = let n : f a ≡ None = ap f i ∙ h b q x more k in absurd cc

at_ends : (dialect : Dialect) (u : Routine) (pc : ℕ) → Ends (leads_at dialect u pc)
at_ends dialect u pc cs q x more e = go (slice_get u.lines pc) e
  where
    go : (o : Option Line) → leads_by dialect u pc o cs ≡ Some q → leads_by dialect u pc o (cs ++ x ∷ more) ≡ None
    go None f = refl
    go (Some line) f = choices_end dialect u pc line.stmt cs q x more f

-- ---- ways step by step

module _ (dialect : Dialect) (u : Routine) (notes : Notes) where
  -- a way from a point: its first choices lead to a point, from which the rest goes on
  record Step (pc : ℕ) (cs : List ℕ) (path : List (List ℕ)) : Type 0 where
    to : ℕ
    leads : leads_at dialect u pc cs ≡ Some to
    on : over_or dialect u notes (cut_at u notes to) path (IsWay dialect u notes to path)

  step_of : (pc : ℕ) (cs : List ℕ) (path : List (List ℕ)) → IsWay dialect u notes pc (cs ∷ path) → Step pc cs path
  step_of pc cs path w = by_line (slice_get u.lines pc) refl w
    where
      by_point : (line : Line) → slice_get u.lines pc ≡ Some line → (o : Option ℕ) → leads dialect u pc line.stmt cs ≡ o → goes_on dialect u notes o path (λ q. IsWay dialect u notes q path) → Step pc cs path
      by_point line e None f w = absurd w
      by_point line e (Some q) f w = record { to = q; leads = ap (λ (o : Option Line). leads_by dialect u pc o cs) e ∙ f; on = w }

      by_line : (o : Option Line) → slice_get u.lines pc ≡ o → goes_from dialect u notes o pc cs path (λ q. IsWay dialect u notes q path) → Step pc cs path
      by_line None e w = absurd w
      by_line (Some line) e w = by_point line e (leads dialect u pc line.stmt cs) refl w

  -- at a cut point nothing is left, and elsewhere a way goes on
  data Left (q : ℕ) (path : List (List ℕ)) : Type 0 where
    over : IsCut (cut_at u notes q) → path ≡ [] → Left q path
    further : cut_at u notes q ≡ NoCut → IsWay dialect u notes q path → Left q path

  left_of : (q : ℕ) (path : List (List ℕ)) → over_or dialect u notes (cut_at u notes q) path (IsWay dialect u notes q path) → Left q path
  left_of q path h = go (cut_at u notes q) refl h
    where
      go : (c : Cut) → cut_at u notes q ≡ c → over_or dialect u notes c path (IsWay dialect u notes q path) → Left q path
      go NoCut e w = further e w
      go AtEnd e w = over (subst IsCut (sym e) tt) w
      go (AtAssert a) e w = over (subst IsCut (sym e) tt) w

abbrev no_way : List (List ℕ)
no_way = []

cut_or_not : (c : Cut) → IsCut c → c ≡ NoCut → ⊥
cut_or_not c h e = subst IsCut e h

-- ---- the points of a way

module _ (dialect : Dialect) (u : Routine) (notes : Notes) where
  abbrev points : ℕ → List (List ℕ) → List ℕ
  points pc path = points_from dialect u pc path

  points_behind : (pc q : ℕ) (cs : List ℕ) (path : List (List ℕ)) → leads_at dialect u pc cs ≡ Some q → points pc (cs ∷ path) ≡ pc ∷ points q path
  points_behind pc q cs path e = ap (λ (o : Option ℕ). pc ∷ on_from o (λ r. points_from dialect u r path)) e

  first_point : (pc : ℕ) (path : List (List ℕ)) → slice_get (points pc path) 0 ≡ Some pc
  first_point pc [] = refl
  first_point pc (cs ∷ path) = refl

  lead_on : (pc q : ℕ) (cs : List ℕ) (path : List (List ℕ)) → leads_at dialect u pc cs ≡ Some q → LeadThrough dialect u path (points q path) → LeadThrough dialect u (cs ∷ path) (pc ∷ points q path)
  lead_on pc q cs [] e h = (e, h)
  lead_on pc q cs (ds ∷ path) e h = (e, h)

  lead_through : (pc : ℕ) (way : List (List ℕ)) → IsWay dialect u notes pc way → LeadThrough dialect u way (points pc way)
  lead_through pc [] w = absurd w
  lead_through pc (cs ∷ path) w =
      let s = step_of dialect u notes pc cs path w in
      subst (LeadThrough dialect u (cs ∷ path)) (sym (points_behind pc s.to cs path s.leads))
      (lead_on pc s.to cs path s.leads (go s.to (left_of dialect u notes s.to path s.on) (λ v. lead_through s.to path v)))
    where
      go : (q : ℕ) → Left dialect u notes q path → (IsWay dialect u notes q path → LeadThrough dialect u path (points q path)) → LeadThrough dialect u path (points q path)
      go q (over c e) rec = subst (λ (r : List (List ℕ)). LeadThrough dialect u r (points q r)) (sym e) refl
      go q (further c v) rec = rec v

  stop_on : (p q : ℕ) (path : List (List ℕ)) → cut_at u notes p ≡ NoCut → StopAtCut u notes (points q path) → StopAtCut u notes (p ∷ points q path)
  stop_on p q [] e h = (e, h)
  stop_on p q (cs ∷ path) e h = (e, h)

  go_on : (p q : ℕ) (path : List (List ℕ)) → StopAtCut u notes (points q path) → GoToCut u notes (p ∷ points q path)
  go_on p q [] h = h
  go_on p q (cs ∷ path) h = h

  stop_at_cut : (q : ℕ) (path : List (List ℕ)) → Left dialect u notes q path → StopAtCut u notes (points q path)
  stop_at_cut q [] (over c e) = c
  stop_at_cut q [] (further c w) = absurd w
  stop_at_cut q (cs ∷ path) (over c e) = absurd cc
  stop_at_cut q (cs ∷ path) (further c w) =
      let s = step_of dialect u notes q cs path w in
      subst (StopAtCut u notes) (sym (points_behind q s.to cs path s.leads)) (stop_on q s.to path c (stop_at_cut s.to path (left_of dialect u notes s.to path s.on)))

  go_to_cut : (pc : ℕ) (way : List (List ℕ)) → IsWay dialect u notes pc way → GoToCut u notes (points pc way)
  go_to_cut pc [] w = absurd w
  go_to_cut pc (cs ∷ path) w =
      let s = step_of dialect u notes pc cs path w in
      subst (GoToCut u notes) (sym (points_behind pc s.to cs path s.leads)) (go_on pc s.to path (stop_at_cut s.to path (left_of dialect u notes s.to path s.on)))

  same_points : (pc : ℕ) (path : List (List ℕ)) (ps : List ℕ) → LeadThrough dialect u path ps → slice_get ps 0 ≡ Some pc → ps ≡ points pc path
  same_points pc path [] h e = absurd h
  same_points pc [] (p ∷ ps) h e = let f : p ≡ pc = cc in ap (λ (l : List ℕ). p ∷ l) h ∙ ap (λ (q : ℕ). q ∷ []) f
  same_points pc (cs ∷ path) (p ∷ []) h e = absurd h
  same_points pc (cs ∷ path) (p ∷ (q ∷ ps)) h e =
      let f : p ≡ pc = cc in
      let rest = same_points q path (q ∷ ps) h.1 refl in
      ap (λ (l : List ℕ). p ∷ l) rest ∙ ap (λ (r : ℕ). r ∷ points q path) f ∙ sym (points_behind pc q cs path (subst (λ (r : ℕ). leads_at dialect u r cs ≡ Some q) f h.0))

  -- what holds of the points of a path
  abbrev Along : Option ℕ → List (List ℕ) → List ℕ → Type 0
  Along start path ps =
      LeadThrough dialect u path ps × (slice_get ps 0 ≡ start) × GoToCut u notes ps
      × ((qs : List ℕ) → LeadThrough dialect u path qs → slice_get qs 0 ≡ start → qs ≡ ps)

  along_way : (pc : ℕ) (way : List (List ℕ)) → IsWay dialect u notes pc way → Along (Some pc) way (points pc way)
  along_way pc way w = (lead_through pc way w, first_point pc way, go_to_cut pc way w, λ qs h e. same_points pc way qs h e)

  along_entry : (way : List (List ℕ)) → Left dialect u notes 0 way → Along (Some 0) way (points 0 way)
  along_entry way (over c e) =
      subst (λ (r : List (List ℕ)). Along (Some 0) r (points 0 r)) (sym e) (refl, refl, c, λ qs h f. same_points 0 no_way qs h f)
  along_entry way (further c w) = along_way 0 way w

  along_from : (start : ℕ) (way : List (List ℕ)) → is_path_from dialect u notes start way → Along (start_point notes start) way (on_from (start_point notes start) (λ pc. points_from dialect u pc way))
  along_from zero way w = along_entry way (left_of dialect u notes 0 way w)
  along_from (suc k) way w = go (slice_get notes.asserts k) w
    where
      go : (o : Option Assertion) → starts_at dialect u notes o way → Along (point_in o) way (on_from (point_in o) (λ pc. points_from dialect u pc way))
      go None h = absurd h
      go (Some a) h = along_way a.point way h

pub paths_lead_through : PathsLeadThrough
paths_lead_through dialect u notes path h = along_from dialect u notes path.start path.choices h

-- ---- flat choices

module _ (dialect : Dialect) (u : Routine) (notes : Notes) where
  abbrev Alike : List (List ℕ) → Type 0
  Alike a = (pc : ℕ) (b : List (List ℕ)) → IsWay dialect u notes pc a → IsWay dialect u notes pc b → concat a ≡ concat b → a ≡ b

  left_alike : (q : ℕ) (a b : List (List ℕ)) → Alike a → Left dialect u notes q a → Left dialect u notes q b → concat a ≡ concat b → a ≡ b
  left_alike q a b rec (over c e) (over d f) h = e ∙ sym f
  left_alike q a b rec (over c e) (further d w) h = absurd (cut_or_not (cut_at u notes q) c d)
  left_alike q a b rec (further c v) (over d f) h = absurd (cut_or_not (cut_at u notes q) d c)
  left_alike q a b rec (further c v) (further d w) h = rec q b v w h

  ways_alike : (a : List (List ℕ)) → Alike a
  ways_alike [] pc b v w h = absurd v
  ways_alike (cs ∷ a) pc [] v w h = absurd w
  ways_alike (cs ∷ a) pc (ds ∷ b) v w h =
      let s = step_of dialect u notes pc cs a v in
      let t = step_of dialect u notes pc ds b w in
      let same_first = taken_once (leads_at dialect u pc) (at_ends dialect u pc) cs ds (concat a) (concat b) s.to t.to s.leads t.leads h in
      go s t (ways_alike a) same_first (append_cancel_left ds (concat a) (concat b) (ap (λ (l : List ℕ). l ++ concat a) (sym same_first) ∙ h))
    where
      same_some : {p q : ℕ} → Some p ≡ Some q → p ≡ q
      same_some k = cc

      go : (s : Step dialect u notes pc cs a) (t : Step dialect u notes pc ds b) → Alike a → cs ≡ ds → concat a ≡ concat b → (cs ∷ a) ≡ (ds ∷ b)
      go s t rec e f =
          let same_to : s.to ≡ t.to = same_some (sym s.leads ∙ ap (leads_at dialect u pc) e ∙ t.leads) in
          let rest = left_alike t.to a b rec (subst (λ (q : ℕ). Left dialect u notes q a) same_to (left_of dialect u notes s.to a s.on)) (left_of dialect u notes t.to b t.on) f in
          ap (λ (l : List ℕ). l ∷ a) e ∙ ap (λ (l : List (List ℕ)). ds ∷ l) rest

  from_alike : (start : ℕ) (a b : List (List ℕ)) → is_path_from dialect u notes start a → is_path_from dialect u notes start b → concat a ≡ concat b → a ≡ b
  from_alike zero a b v w h = left_alike 0 a b (ways_alike a) (left_of dialect u notes 0 a v) (left_of dialect u notes 0 b w) h
  from_alike (suc k) a b v w h = go (slice_get notes.asserts k) v w
    where
      go : (o : Option Assertion) → starts_at dialect u notes o a → starts_at dialect u notes o b → a ≡ b
      go None v w = absurd v
      go (Some x) v w = ways_alike a x.point b v w h

pub flat_choices_tell_paths : FlatChoicesTellPaths
flat_choices_tell_paths dialect u notes a b v w e h =
    let same_choices = from_alike dialect u notes b.start a.choices b.choices (subst (λ (k : ℕ). is_path_from dialect u notes k a.choices) e v) w h in
    ap (λ (k : ℕ). record { start = k; choices = a.choices }) e ∙ ap (λ (l : List (List ℕ)). record { start = b.start; choices = l }) same_choices
