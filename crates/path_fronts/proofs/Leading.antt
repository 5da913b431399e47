-- Statements that lead from one moment to another.
use Rattle.std.proofs.Common.{◌≡◌, ℕ, suc, ◌<◌, ◌≤◌, get_or, Some, None, List, [], ◌∷◌, ◌++◌, length, drop, slice_get, append_assoc, refl, sym, ◌∙◌, subst}
use Rattle.formula.specs.Tree.{Tree}
use Rattle.fort_model.specs.WalkCalls.{Sight}
use Rattle.fort_model.specs.WalkStmt.{performed}
use Rattle.fort_syntax.specs.declared.unit.Line.{Line}
use Rattle.path_cut.specs.declared.step.Step.{Step}
use Rattle.path_cut.specs.declared.step.Step.TheVariants.{At, Choice}
use Rattle.shared_fronts.proofs.Firsts.{firsts_at, firsts_choice, firsts_then}
use Rattle.path_fronts.specs.Fronts.{Leads, total}
use Rattle.shared_fronts.specs.Firsts.{firsts}
use Rattle.path_fronts.proofs.Stepped.{all_dropped, beyond, drop_at}
use Rattle.walk_setting.specs.Settings.{performed_at}
use Rattle.walk_state.specs.Moments.{Moment}
use Rattle.way_laws.specs.PathsOf.{turns}
use Rattle.way_walks.specs.Along.{Gone, gone, gone_on, stops}

pub leads_first : (w : Sight Tree) (m0 : Moment) → Leads w m0 [] 0 m0
leads_first w m0 more = refl

-- one statement more
pub leads_step : (w : Sight Tree) (m0 m1 m2 : Moment) (front : List (ℕ × List ℕ)) (card pc : ℕ) (cs : List ℕ) (line : Line) → slice_get w.unit.lines pc ≡ Some line
    → m2 ≡ performed_at m1 (performed w line.card pc m1.now line.stmt cs) → Leads w m0 front card m1 → Leads w m0 (front ++ (pc, cs) ∷ []) line.card m2
leads_step w m0 m1 m2 front card pc cs line is did h more =
    let done = performed w line.card pc m1.now line.stmt cs m1.answers in
    let later = gone w more line.card done.value done.rest in
    let whole : gone w ((pc, cs) ∷ more) card m1.now m1.answers ≡ gone_on w (Some line) pc cs card m1.now m1.answers (λ c after rest. gone w more c after rest) =
    (λ i. gone_on w (is i) pc cs card m1.now m1.answers (λ c after rest. gone w more c after rest)) in
    (λ i. total (did i) (gone w more line.card (did i).now (did i).answers))
    ∙ ((λ i. record { card = later.card; now = later.now; events = append_assoc m1.events done.events later.events i; rest = later.rest })
    ∙ ((λ i. total m1 (sym whole i))
    ∙ (h ((pc, cs) ∷ more)
    ∙ (λ i. total m0 (gone w (sym (append_assoc front ((pc, cs) ∷ []) more) i) 0 m0.now m0.answers)))))

-- the statement of a step
pub leads_at : (w : Sight Tree) (m0 m1 m2 : Moment) (steps : List Step) (k card pc : ℕ) (line : Line) → slice_get steps k ≡ Some (At pc) → slice_get w.unit.lines pc ≡ Some line
    → m2 ≡ performed_at m1 (performed w line.card pc m1.now line.stmt (turns (drop (suc k) steps))) → Leads w m0 (firsts k steps) card m1 → Leads w m0 (firsts (suc k) steps) line.card m2
leads_at w m0 m1 m2 steps k card pc line at is did h =
    subst (λ (front : List (ℕ × List ℕ)). Leads w m0 front line.card m2) (sym (firsts_at k steps pc at))
    (leads_step w m0 m1 m2 (firsts k steps) card pc (turns (drop (suc k) steps)) line is did h)

-- no statement at a choice
pub leads_choice : (w : Sight Tree) (m0 m1 : Moment) (steps : List Step) (k card f c : ℕ) → slice_get steps k ≡ Some (Choice f c) → Leads w m0 (firsts k steps) card m1 → Leads w m0 (firsts (suc k) steps) card m1
leads_choice w m0 m1 steps k card f c at h = subst (λ (front : List (ℕ × List ℕ)). Leads w m0 front card m1) (sym (firsts_choice k steps f c at)) h

abbrev pub nothing_on : ℕ → Moment → Gone Tree
nothing_on card m = record { card = card; now = m.now; events = []; rest = m.answers }

-- behind all steps
pub all_gone : (w : Sight Tree) (m0 m1 : Moment) (steps : List Step) (k card : ℕ) → length steps ≤ k → Leads w m0 (firsts k steps) card m1
    → total m1 (nothing_on card m1) ≡ total m0 (gone w (stops steps) 0 m0.now m0.answers)
all_gone w m0 m1 steps k card le h =
    let none = all_dropped steps k le in
    (λ i. total m1 (gone w (stops (sym none i)) card m1.now m1.answers))
    ∙ (h (stops (drop k steps))
    ∙ (λ i. total m0 (gone w (sym (firsts_then k steps) i) 0 m0.now m0.answers)))

-- before a statement that the unit lacks
pub gone_beyond : (w : Sight Tree) (m0 m1 : Moment) (steps : List Step) (k card pc : ℕ) (d : Step) → k < length steps → get_or steps k d ≡ At pc → slice_get w.unit.lines pc ≡ None
    → Leads w m0 (firsts k steps) card m1 → total m1 (nothing_on card m1) ≡ total m0 (gone w (stops steps) 0 m0.now m0.answers)
gone_beyond w m0 m1 steps k card pc d lt is none h =
    (λ i. total m1 (sym (beyond w m1 (drop k steps) (drop (suc k) steps) card pc (drop_at steps k (suc k) d (At pc) lt is refl) none) i))
    ∙ (h (stops (drop k steps))
    ∙ (λ i. total m0 (gone w (sym (firsts_then k steps) i) 0 m0.now m0.answers)))
