-- What computed GO TOs do, by their first choice.
use Rattle.std.proofs.Common.{◌≡◌, ℕ, suc, ◌+◌, Bool, true, false, cond, List, [], ◌∷◌, ◌++◌, length, Some, slice_get, refl, sym, ap, ◌∙◌, subst, arith}
use Rattle.std.specs.Prelude.{◌==◌}
use Rattle.formula.specs.declared.node.Node.{Node}
use Rattle.formula.specs.declared.node.TermId.{TermId}
use Rattle.formula.specs.declared.function.BuiltIn.TheVariants.{Equal}
use Rattle.formula.specs.Pool.{Grows, IsIn, tree_of}
use Rattle.formula.specs.Tree.{Tree}
use Rattle.formula.proofs.Grown.{tree_of-Grows}
use Rattle.fort_syntax.specs.declared.dialect.Dialect.{Dialect}
use Rattle.fort_syntax.specs.declared.dialect.Dialect.TheVariants.{Common, SeventySeven}
use Rattle.fort_syntax.specs.declared.name.Name.{Name}
use Rattle.fort_syntax.specs.declared.unit.Unit.{Unit as Routine}
use Rattle.fort_model.specs.Graphs.{IsBehind, points_of_labels}
use Rattle.fort_model.specs.declared.graph.Target.{Target}
use Rattle.fort_model.specs.Seen.{◌>>◌, see}
use Rattle.fort_model.specs.Senses.{make2, natural, negated, of_terms}
use Rattle.fort_model.specs.WalkExpr.{read}
use Rattle.fort_model.specs.WalkStmt as forms
use Rattle.fort_model.specs.WalkStmt.{behind, choice_check, counts_label, select, taken}
use Rattle.walk_flow.specs.declared.flow.UnitFlow.{UnitFlow}
use Rattle.walk_setting.specs.declared.setting.Setting.{Setting}
use Rattle.walk_setting.specs.Settings.{PerformsIn, seen_from}
use Rattle.walk_setting.proofs.Done.{does_here, performs_as, performs_past, performs_then}
use Rattle.walk_state.specs.declared.walk.Walk.{Walk}
use Rattle.walk_state.specs.Moments.{Did, Follows, Moment, moment}
use Rattle.walk_values.specs.Parts.{Does}
use Rattle.walk_choices.specs.Choices.{passed, selected}

-- ---- the target behind the labels

-- behind the labels stands the target behind the statement
pub on_there : (u : Routine) (labels : List ℕ) (on : Target) → slice_get (points_of_labels u labels ++ on ∷ []) (length labels) ≡ Some on
on_there u [] on = refl
on_there u (label ∷ labels) on = on_there u labels on

-- where a statement stands that goes on elsewhere
pub behind_there : (f0 f1 : UnitFlow) (p0 p1 : ℕ) (t0 t1 : Target) → f1 ≡ f0 → p1 ≡ p0 → t1 ≡ t0
    → IsBehind f0.setting.now.book.now.unit.now f0.graph.now.forks p0 t0 → IsBehind f1.setting.now.book.now.unit.now f1.graph.now.forks p1 t1
behind_there f0 f1 p0 p1 t0 t1 flow point goal h =
    subst (λ (f : UnitFlow). IsBehind f.setting.now.book.now.unit.now f.graph.now.forks p1 t1) (sym flow)
    (subst (λ (q : ℕ). IsBehind f0.setting.now.book.now.unit.now f0.graph.now.forks q t1) (sym point)
    (subst (λ (t : Target). IsBehind f0.setting.now.book.now.unit.now f0.graph.now.forks p0 t) (sym goal) h))

-- what is done there
behind_at : (pool : List Node) (m0 m1 : Moment) (f0 f1 : UnitFlow) (c0 c1 p0 p1 : ℕ) (cs : List ℕ) → f1 ≡ f0 → c1 ≡ c0 → p1 ≡ p0
    → PerformsIn pool f1.setting.now m0 (λ w. behind w c1 p1 m0.now cs) m1 → PerformsIn pool f0.setting.now m0 (λ w. behind w c0 p0 m0.now cs) m1
behind_at pool m0 m1 f0 f1 c0 c1 p0 p1 cs flow card point h =
    subst (λ (q : ℕ). PerformsIn pool f0.setting.now m0 (λ w. behind w c0 q m0.now cs) m1) point
    (subst (λ (c : ℕ). PerformsIn pool f0.setting.now m0 (λ w. behind w c p1 m0.now cs) m1) card
    (subst (λ (f : UnitFlow). PerformsIn pool f.setting.now m0 (λ w. behind w c1 p1 m0.now cs) m1) flow h))

-- a number counts none of the labels, and the flow goes on behind the statement
pub passes : (f0 f1 : UnitFlow) (c0 c1 p0 p1 labels : ℕ) (t : Tree) (cs : List ℕ) (w0 w1 w2 : Walk) → f1 ≡ f0 → c1 ≡ c0 → p1 ≡ p0 → Grows w0.pool w1.pool
    → Does (moment w0) (λ w. taken w (negated w.sense (counts_label w labels t))) (moment w1) tt
    → PerformsIn w1.pool f1.setting.now (moment w1) (λ w. behind w c1 p1 (moment w1).now cs) (moment w2)
    → PerformsIn w0.pool f0.setting.now (moment w0) (λ w. passed w c0 (moment w0).now p0 labels t cs) (moment w2)
passes f0 f1 c0 c1 p0 p1 labels t cs w0 w1 w2 flow card point g d h =
    let s = f0.setting.now in
    performs_then s w0 w1 w2 (λ w. taken w (negated w.sense (counts_label w labels t))) (λ w now _. behind w c0 p0 now cs) tt g
    (does_here w0.pool s (moment w0) (moment w1) (λ w. taken w (negated w.sense (counts_label w labels t))) tt d)
    (behind_at w1.pool (moment w1) (moment w2) f0 f1 c0 c1 p0 p1 cs flow card point h)

-- ---- the first choice

pub is_past : (c n : ℕ) → c ≡ n + 1 → (c == suc n) ≡ true
is_past c n e = grind arith

pub is_not_past : (c n : ℕ) → (c ≡ n + 1 → ⊥) → (c == suc n) ≡ false
is_not_past c n h = grind arith

module _ (s : Setting) (card pc labels : ℕ) (t : Tree) (w0 : Walk) (m1 : Moment) where
  module _ (c : ℕ) (cs choices : List ℕ) where
    -- the dialect of a scene is that of its program
    selects : (dialect : Dialect) → s.scene.now.dialect ≡ dialect → choices ≡ c ∷ cs → PerformsIn w0.pool s (moment w0) (λ w. select w dialect card pc (moment w0).now labels t c cs) m1
        → PerformsIn w0.pool s (moment w0) (λ w. forms.selected w card pc (moment w0).now labels t choices) m1
    selects dialect is e h =
        performs_as w0.pool s (moment w0) m1 (λ w. select w dialect card pc (moment w0).now labels t c cs) (λ w. forms.selected w card pc (moment w0).now labels t choices)
        (λ p r.
        (λ i. select (seen_from s p) ((sym is ∙ r.is_scene.dialect) i) card pc (moment w0).now labels t c cs) ∙ ap (forms.selected (seen_from s p) card pc (moment w0).now labels t) (sym e))
        h

    -- the number is that of the label
    counted : Does (moment w0) (λ w. taken w (make2 of_terms Equal t (natural of_terms c))) m1 tt → PerformsIn w0.pool s (moment w0) (λ w. taken w (make2 of_terms Equal t (natural of_terms c)) >> see (moment w0).now) m1
    counted d =
        performs_past w0.pool s (moment w0) m1 (λ w. taken w (make2 of_terms Equal t (natural of_terms c))) tt (does_here w0.pool s (moment w0) m1 (λ w. taken w (make2 of_terms Equal t (natural of_terms c))) tt d)

    pub counts_common : s.scene.now.dialect ≡ Common → choices ≡ c ∷ cs → Does (moment w0) (λ w. taken w (make2 of_terms Equal t (natural of_terms c))) m1 tt
        → PerformsIn w0.pool s (moment w0) (λ w. forms.selected w card pc (moment w0).now labels t choices) m1
    counts_common is e d = selects Common is e (counted d)

    -- under 77 too, where the choice is not behind the last label
    pub counts_seventy_seven : s.scene.now.dialect ≡ SeventySeven → choices ≡ c ∷ cs → (c == suc labels) ≡ false → Does (moment w0) (λ w. taken w (make2 of_terms Equal t (natural of_terms c))) m1 tt
        → PerformsIn w0.pool s (moment w0) (λ w. forms.selected w card pc (moment w0).now labels t choices) m1
    counts_seventy_seven is e other d =
        selects SeventySeven is e
        (performs_as w0.pool s (moment w0) m1 (λ w. taken w (make2 of_terms Equal t (natural of_terms c)) >> see (moment w0).now) (λ w. select w SeventySeven card pc (moment w0).now labels t c cs)
        (λ p r.
        let w = seen_from s p in
        ap (λ (b : Bool). cond b (taken w (negated w.sense (counts_label w labels t)) >> behind w card pc (moment w0).now cs) (taken w (make2 w.sense Equal t (natural w.sense c)) >> see (moment w0).now)) (sym other))
        (counted d))

    -- the choice is behind the last label
    pub passes_seventy_seven : s.scene.now.dialect ≡ SeventySeven → choices ≡ c ∷ cs → (c == suc labels) ≡ true → PerformsIn w0.pool s (moment w0) (λ w. passed w card (moment w0).now pc labels t cs) m1
        → PerformsIn w0.pool s (moment w0) (λ w. forms.selected w card pc (moment w0).now labels t choices) m1
    passes_seventy_seven is e past h =
        selects SeventySeven is e
        (performs_as w0.pool s (moment w0) m1 (λ w. passed w card (moment w0).now pc labels t cs) (λ w. select w SeventySeven card pc (moment w0).now labels t c cs)
        (λ p r.
        let w = seen_from s p in
        ap (λ (b : Bool). cond b (taken w (negated w.sense (counts_label w labels t)) >> behind w card pc (moment w0).now cs) (taken w (make2 w.sense Equal t (natural w.sense c)) >> see (moment w0).now)) (sym past))
        h)

-- ---- the whole

-- a number is read and checked, and one of the labels is chosen
pub selected_then : (s : Setting) (dialect : Dialect) (card pc labels : ℕ) (x : Name) (cs : List ℕ) (w0 w1 w2 w3 : Walk) (id : TermId) → s.scene.now.dialect ≡ dialect → Follows w0 w1 → Follows w1 w2 → IsIn w1.pool id
    → Does (moment w0) (λ w. read w card ((moment w0).now x)) (moment w1) (tree_of w1.pool id)
    → Does (moment w1) (λ w. choice_check w dialect card labels (tree_of w1.pool id)) (moment w2) tt
    → PerformsIn w2.pool s (moment w2) (λ w. forms.selected w card pc (moment w2).now labels (tree_of w2.pool id) cs) (moment w3)
    → PerformsIn w0.pool s (moment w0) (λ w. selected w card (moment w0).now pc x labels cs) (moment w3)
selected_then s dialect card pc labels x cs w0 w1 w2 w3 id is f1 f2 in1 d1 d2 h =
    let t = tree_of w1.pool id in
    let same = tree_of-Grows w1.pool w2.pool id f2.grows in1 in
    performs_then s w0 w1 w3 (λ w. read w card ((moment w0).now x)) (λ w now i. choice_check w w.program.dialect card labels i >> forms.selected w card pc now labels i cs) t f1.grows
    (does_here w0.pool s (moment w0) (moment w1) (λ w. read w card ((moment w0).now x)) t d1)
    (performs_then s w1 w2 w3 (λ w. choice_check w w.program.dialect card labels t) (λ w now _. forms.selected w card pc now labels t cs) tt f2.grows
    (λ p r. subst (λ (d : Dialect). Did (moment w1) (choice_check (seen_from s p) d card labels t) (moment w2) tt) (sym is ∙ r.is_scene.dialect) (d2 p s.number s.book.now.unit.now))
    (performs_as w2.pool s (moment w2) (moment w3) (λ w. forms.selected w card pc (moment w2).now labels (tree_of w2.pool id) cs) (λ w. forms.selected w card pc (moment w2).now labels t cs)
    (λ p r i. forms.selected (seen_from s p) card pc (moment w2).now labels (same i) cs) h))
