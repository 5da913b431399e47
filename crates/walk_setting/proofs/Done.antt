-- One part of a walk behind another, in a program that is told by where the walk is.
use Rattle.std.proofs.Common.{◌≡◌, List, [], ◌∷◌, ◌++◌, refl, sym, ap, ◌∙◌, subst, append_assoc}
use Rattle.formula.specs.declared.node.Node.{Node}
use Rattle.formula.specs.Pool.{Grows}
use Rattle.formula.specs.Tree.{Tree}
use Rattle.fort_model.specs.Program.{Program}
use Rattle.fort_model.specs.Seen.{Named, See, ◌>>=◌, ◌>>◌, see}
use Rattle.fort_model.specs.WalkCalls.{Sight}
use Rattle.path_scene.specs.Scenes.{IsReady}
use Rattle.walk_state.specs.declared.walk.Walk.{Walk}
use Rattle.walk_state.specs.Moments.{Did, Moment, moment, with_names}
use Rattle.walk_state.proofs.Parts.{did_then_by}
use Rattle.walk_values.specs.Parts.{Does, DoesWithin}
use Rattle.walk_setting.specs.declared.setting.Setting.{Setting}
use Rattle.walk_setting.specs.Settings.{DoesIn, PerformsIn, performed_at, seen_from}
use Rattle.path_scene.proofs.Staying.{ready_stays}

-- what is done in every program is done in that of a setting
pub does_here : {A : Type 0} (pool : List Node) (s : Setting) (m0 m1 : Moment) (part : Sight Tree → See Tree A) (a : A) → Does m0 part m1 a → DoesIn pool s m0 part m1 a
does_here pool s m0 m1 part a d = λ p r. d p s.number s.book.now.unit.now

-- so is what is done in those with its bound
pub within_here : {A : Type 0} (pool : List Node) (s : Setting) (m0 m1 : Moment) (part : Sight Tree → See Tree A) (a : A) → DoesWithin s.scene.now.bound m0 part m1 a → DoesIn pool s m0 part m1 a
within_here pool s m0 m1 part a d = λ p r. d p s.number s.book.now.unit.now (sym r.is_scene.bound)

-- one part behind another, where it depends on what names stand for
pub does_then : {A B : Type 0} (s : Setting) (w0 w1 w2 : Walk) (part : Sight Tree → See Tree A) (next : Sight Tree → Named Tree → A → See Tree B) (a : A) (b : B) → Grows w0.pool w1.pool
    → DoesIn w0.pool s (moment w0) part (moment w1) a → DoesIn w1.pool s (moment w1) (λ w. next w (moment w1).now a) (moment w2) b
    → DoesIn w0.pool s (moment w0) (λ w. part w >>= next w (moment w0).now) (moment w2) b
does_then s w0 w1 w2 part next a b g first second =
    λ p r.
    did_then_by (moment w0) (moment w1) (moment w2) (part (seen_from s p)) (next (seen_from s p)) a b (first p r) (second p (ready_stays w0.pool w1.pool g s.scene.now p r))

-- ---- parts that answer what names stand for

performed_behind : {A : Type 0} (m0 m1 m2 : Moment) (part : See Tree A) (next : Named Tree → A → See Tree (Named Tree)) (a : A) → Did m0 part m1 a → m2 ≡ performed_at m1 (next m1.now a)
    → m2 ≡ performed_at m0 (part >>= next m0.now)
performed_behind m0 m1 m2 part next a first second =
    let seen = part m0.answers in
    let rest = next m0.now seen.value seen.rest in
    second
    ∙ (λ i. performed_at (first.is i) (next ((first.is i).now) (first.gives i)))
    ∙ (λ i. record { now = rest.value; past = m0.past; events = append_assoc m0.events seen.events rest.events i; answers = rest.rest })

performed_on : (m0 m1 m2 : Moment) (part : See Tree (Named Tree)) (next : Named Tree → See Tree (Named Tree)) → m1 ≡ performed_at m0 part → m2 ≡ performed_at m1 (next m1.now)
    → m2 ≡ performed_at m0 (part >>= next)
performed_on m0 m1 m2 part next first second =
    let seen = part m0.answers in
    let rest = next seen.value seen.rest in
    second
    ∙ (λ i. performed_at (first i) (next ((first i).now)))
    ∙ (λ i. record { now = rest.value; past = m0.past; events = append_assoc m0.events seen.events rest.events i; answers = rest.rest })

append_nothing : {A : Type 0} (xs : List A) → xs ≡ xs ++ []
append_nothing [] = refl
append_nothing (x ∷ xs) = ap (λ (ys : List _). x ∷ ys) (append_nothing xs)

performed_set : (m0 m1 : Moment) (now : Named Tree) → m1 ≡ with_names m0 now → m1 ≡ performed_at m0 (see now)
performed_set m0 m1 now set = set ∙ (λ i. record { now = now; past = m0.past; events = append_nothing m0.events i; answers = m0.answers })

performed_not : (m0 m1 : Moment) → m1 ≡ m0 → m1 ≡ performed_at m0 (see m0.now)
performed_not m0 m1 same = same ∙ (λ i. record { now = m0.now; past = m0.past; events = append_nothing m0.events i; answers = m0.answers })

performed_past : {A : Type 0} (m0 m1 : Moment) (part : See Tree A) (a : A) → Did m0 part m1 a → m1 ≡ performed_at m0 (part >> see m0.now)
performed_past m0 m1 part a d =
    let seen = part m0.answers in
    d.is ∙ (λ i. record { now = m0.now; past = m0.past; events = m0.events ++ append_nothing seen.events i; answers = seen.rest })

-- a part that answers what names stand for, behind another part
pub performs_then : {A : Type 0} (s : Setting) (w0 w1 w2 : Walk) (part : Sight Tree → See Tree A) (next : Sight Tree → Named Tree → A → See Tree (Named Tree)) (a : A) → Grows w0.pool w1.pool
    → DoesIn w0.pool s (moment w0) part (moment w1) a → PerformsIn w1.pool s (moment w1) (λ w. next w (moment w1).now a) (moment w2)
    → PerformsIn w0.pool s (moment w0) (λ w. part w >>= next w (moment w0).now) (moment w2)
performs_then s w0 w1 w2 part next a g first second =
    λ p r.
    performed_behind (moment w0) (moment w1) (moment w2) (part (seen_from s p)) (next (seen_from s p)) a (first p r) (second p (ready_stays w0.pool w1.pool g s.scene.now p r))

-- a part behind one that answers what names stand for
pub performs_on : (s : Setting) (w0 w1 w2 : Walk) (part : Sight Tree → See Tree (Named Tree)) (next : Sight Tree → Named Tree → See Tree (Named Tree)) → Grows w0.pool w1.pool
    → PerformsIn w0.pool s (moment w0) part (moment w1) → PerformsIn w1.pool s (moment w1) (λ w. next w (moment w1).now) (moment w2)
    → PerformsIn w0.pool s (moment w0) (λ w. part w >>= next w) (moment w2)
performs_on s w0 w1 w2 part next g first second =
    λ p r.
    performed_on (moment w0) (moment w1) (moment w2) (part (seen_from s p)) (next (seen_from s p)) (first p r) (second p (ready_stays w0.pool w1.pool g s.scene.now p r))

-- the same, where the walk went on behind them
pub performs_on_to : (s : Setting) (w0 w1 : Walk) (m : Moment) (part : Sight Tree → See Tree (Named Tree)) (next : Sight Tree → Named Tree → See Tree (Named Tree)) → Grows w0.pool w1.pool
    → PerformsIn w0.pool s (moment w0) part (moment w1) → PerformsIn w1.pool s (moment w1) (λ w. next w (moment w1).now) m → PerformsIn w0.pool s (moment w0) (λ w. part w >>= next w) m
performs_on_to s w0 w1 m part next g first second =
    λ p r. performed_on (moment w0) (moment w1) m (part (seen_from s p)) (next (seen_from s p)) (first p r) (second p (ready_stays w0.pool w1.pool g s.scene.now p r))

-- nothing is done
pub performs_not : (pool : List Node) (s : Setting) (m0 m1 : Moment) → m1 ≡ m0 → PerformsIn pool s m0 (λ w. see m0.now) m1
performs_not pool s m0 m1 same = λ p r. performed_not m0 m1 same

-- a name is set
pub performs_set : (pool : List Node) (s : Setting) (m0 m1 : Moment) (now : Named Tree) → m1 ≡ with_names m0 now → PerformsIn pool s m0 (λ w. see now) m1
performs_set pool s m0 m1 now set = λ p r. performed_set m0 m1 now set

-- ---- parts that do the same

-- parts one behind another may be taken together in either way
pub bind_assoc : {A B C : Type 0} (p : See Tree A) (f : A → See Tree B) (g : B → See Tree C) → ((p >>= f) >>= g) ≡ (p >>= λ a. f a >>= g)
bind_assoc p f g =
    λ i answers.
    let s = p answers in
    let t = f s.value s.rest in
    let r = g t.value t.rest in
    record { value = r.value; events = append_assoc s.events t.events r.events i; rest = r.rest }

pub does_as : {A : Type 0} (pool : List Node) (s : Setting) (m0 m1 : Moment) (part other : Sight Tree → See Tree A) (a : A) → ((p : Program) → IsReady pool s.scene.now p → part (seen_from s p) ≡ other (seen_from s p))
    → DoesIn pool s m0 part m1 a → DoesIn pool s m0 other m1 a
does_as pool s m0 m1 part other a same d = λ p r. subst (λ (x : See Tree _). Did m0 x m1 a) (same p r) (d p r)

pub performs_as : (pool : List Node) (s : Setting) (m0 m1 : Moment) (part other : Sight Tree → See Tree (Named Tree)) → ((p : Program) → IsReady pool s.scene.now p → part (seen_from s p) ≡ other (seen_from s p))
    → PerformsIn pool s m0 part m1 → PerformsIn pool s m0 other m1
performs_as pool s m0 m1 part other same d = λ p r. d p r ∙ ap (performed_at m0) (same p r)

-- a part that leaves all names as they are
pub performs_past : {A : Type 0} (pool : List Node) (s : Setting) (m0 m1 : Moment) (part : Sight Tree → See Tree A) (a : A) → DoesIn pool s m0 part m1 a → PerformsIn pool s m0 (λ w. part w >> see m0.now) m1
performs_past pool s m0 m1 part a d = λ p r. performed_past m0 m1 (part (seen_from s p)) a (d p r)
