use Rattle.std.proofs.Common.{Option, Some, [], cond, sym, ap, ◌∙◌, subst}
use Rattle.run_start.specs.Counting.{IsStartOf}
use Rattle.run_start.specs.Shapes.{shapes_from}
use Rattle.run_start.specs.Started.{range_refusal}
use Rattle.run_start.specs.declared.refusal.RunRefusal.{RunRefusal}
use Rattle.run_start.specs.declared.refusal.RunRefusal.TheVariants.{BadShape}
use Rattle.run_start.proofs.Shaped.{all_shaped, none_shaped}
use Rattle.run_start.proofs.shaping.shaped.Goals as goal

pub ranged-requires-clause-sizes : goal.ranged-requires-clause-sizes
ranged-requires-clause-sizes c =
    let s =
    all_shaped c.args.case.now.entries.now.unit.now c.args.case.now.entries.now.given.now c.in-Some.sizes
    (ap (shapes_from c.args.case.now.entries.now.unit.now c.args.case.now.entries.now.given.now []) (sym c.args.case.now.names_are) ∙ (sym c.in-Ok.ensures ∙ c.in-Some.is)) in
    record { shaped = s.0; sizes_are = c.as_slice.ensures ∙ s.1 }

pub returns-in-Some : goal.returns-in-Some
returns-in-Some c =
    let s =
    all_shaped c.args.case.now.entries.now.unit.now c.args.case.now.entries.now.given.now c.in-Some.sizes
    (ap (shapes_from c.args.case.now.entries.now.unit.now c.args.case.now.entries.now.given.now []) (sym c.args.case.now.names_are) ∙ (sym c.in-Ok.ensures ∙ c.in-Some.is)) in
    subst (λ (o : Option RunRefusal). IsStartOf c.args.deck.now c.args.setting.now c.args.case.now.entries.now o c.ranged.result)
    (sym (ap (λ b. cond b (Some BadShape) (range_refusal c.args.deck.now.units.now c.args.setting.now c.args.case.now.entries.now.unit.now c.args.case.now.entries.now.given.now)) s.0)) c.ranged.ensures

pub returns-in-None : goal.returns-in-None
returns-in-None c =
    ap (λ b. cond b (Some BadShape) (range_refusal c.args.deck.now.units.now c.args.setting.now c.args.case.now.entries.now.unit.now c.args.case.now.entries.now.given.now))
    (none_shaped c.args.case.now.entries.now.unit.now c.args.case.now.entries.now.given.now
    (ap (shapes_from c.args.case.now.entries.now.unit.now c.args.case.now.entries.now.given.now []) (sym c.args.case.now.names_are) ∙ (sym c.in-Ok.ensures ∙ c.in-None.is)))
