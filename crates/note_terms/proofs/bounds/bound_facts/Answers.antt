use Rattle.std.proofs.Common.{[], ◌∷◌, refl}
use Rattle.note_terms.proofs.Added.{makes_none, makes_more}
use Rattle.note_terms.proofs.bounds.bound_facts.Goals as goal

pub returns : goal.returns
returns c =
    let p0 = c.args.pool.now in
    let p1 = c.low_bound.new.pool in
    let p2 = c.high_bound.new.pool in
    let none = makes_none p0 c.new-terms.result.items [] c.new-terms.ensures.items refl in
    let one = makes_more p0 p0 p1 c.new-terms.result.items c.push.new.self.items c.in_ok-low.low _ [] (_ ∷ []) none c.low_bound.ensures.grows c.in_ok-low.ensures.is_in c.in_ok-low.ensures.tree c.in_ok-push.ensures.items refl in
    makes_more p0 p1 p2 c.push.new.self.items c.push-2.new.self.items c.in_ok-high.high _ _ _ one c.high_bound.ensures.grows c.in_ok-high.ensures.is_in c.in_ok-high.ensures.tree c.in_ok-push-2.ensures.items refl
