-- Marks, where another way has the same first steps and where a walk goes on.
use Rattle.std.proofs.Common.{◌≡◌, ℕ, suc, ◌<◌, ◌≤◌, List, [], ◌∷◌, ◌++◌, take, append_assoc, sym, ◌∙◌, subst, arith}
use Rattle.formula.specs.Tree.{Tree}
use Rattle.fort_model.specs.Events.{Event}
use Rattle.fort_model.specs.Seen.{Named}
use Rattle.fort_model.specs.WalkCalls.{Sight}
use Rattle.path_cut.specs.declared.step.Step.{Step}
use Rattle.shared_fronts.proofs.Firsts.{get_same, same_firsts, take_fewer}
use Rattle.path_fronts.specs.Fronts.{AreMarks, ArePlaces, Leads}
use Rattle.path_fronts.specs.declared.front.Mark.{Mark}
use Rattle.walk_state.specs.Moments.{Moment}

pub places_moved : (n : ℕ) (before steps : List Step) (bound : ℕ) (marks : List Mark) → take n steps ≡ take n before → bound ≤ n → ArePlaces before bound marks → ArePlaces steps bound marks
places_moved n before steps bound [] same le h = tt
places_moved n before steps bound (mark ∷ marks) same le h =
    let lt : mark.place < bound = h.0.0 in
    let here : suc mark.place ≤ n = omega (arith, le, lt) in
    let less : mark.place ≤ n = omega (arith, here) in
    let e = take_fewer (suc mark.place) n steps before here same in
    ((lt, (h.0.1.0, get_same mark.place steps before e ∙ h.0.1.1)), places_moved n before steps mark.place marks same less h.1)

pub marks_moved : (w : Sight Tree) (m0 : Moment) (n : ℕ) (before steps : List Step) (bound : ℕ) (told : List (Named Tree)) (events : List (Event Tree)) (marks : List Mark)
    → take n steps ≡ take n before → bound ≤ n → ArePlaces before bound marks → AreMarks w m0 before told events marks → AreMarks w m0 steps told events marks
marks_moved w m0 n before steps bound told events [] same le places h = tt
marks_moved w m0 n before steps bound told events (mark ∷ marks) same le places h =
    let lt : mark.place < bound = places.0.0 in
    let here : suc mark.place ≤ n = omega (arith, le, lt) in
    let less : mark.place ≤ n = omega (arith, here) in
    let e = take_fewer (suc mark.place) n steps before here same in
    let is = h.0 in (
      record {
        at = is.at;
        more = is.more;
        names = is.names;
        met = is.met;
        count = is.count;
        answers = is.answers;
        leads = subst (λ (front : List (ℕ × List ℕ)). Leads w m0 front mark.card is.at) (same_firsts mark.place before steps places.0.1.0 places.0.1.1 (sym e)) is.leads;
      },
      marks_moved w m0 n before steps mark.place is.at.past is.at.events marks same less places.1 h.1,
    )

-- more was met
pub marks_on : (w : Sight Tree) (m0 : Moment) (steps : List Step) (told : List (Named Tree)) (events es : List (Event Tree)) (marks : List Mark) → AreMarks w m0 steps told events marks
    → AreMarks w m0 steps told (events ++ es) marks
marks_on w m0 steps told events es [] h = tt
marks_on w m0 steps told events es (mark ∷ marks) h =
    let is = h.0 in (
      record {
        at = is.at;
        more = is.more ++ es;
        names = is.names;
        met = (λ i. is.met i ++ es) ∙ append_assoc is.at.events is.more es;
        count = is.count;
        answers = is.answers;
        leads = is.leads;
      },
      h.1,
    )
