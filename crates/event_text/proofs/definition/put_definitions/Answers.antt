use Rattle.std.proofs.Common.{◌≡◌, ◌<◌, ◌+◌, ◌-◌, ◌++◌, ◌∙◌, Some, ap, arith, length, map, subst, sym, take}
use Rattle.std.proofs.lemmas.Option.{get_or_from_slice_get}
use Rattle.std.specs.List.{flat_map, slice_get}
use Rattle.formula.specs.declared.definition.Definition.{Definition}
use Rattle.formula.specs.Worth.{function_of}
use Rattle.event_text.specs.EventText.{definition_line}
use Rattle.event_text.specs.Sending.{Goes}
use Rattle.event_text.proofs.Lines.{flat_map-more}
use Rattle.event_text.proofs.Sent.{goes}
use Rattle.event_text.proofs.definition.put_definitions.Goals as goal

pub loop-k-preserved : goal.loop-k-preserved
loop-k-preserved g c =
    let ds = c.args.definitions.now in
    let k = c.loop-k.k in
    let d = c.get.result.now in
    let f = λ (e : Definition). definition_line (map (λ h. h.name) ds) (function_of c.args.pool.now e) in
    let more : k < length ds = omega arith in
    let same : k + 1 - 1 ≡ k = omega arith in
    let there : slice_get ds k ≡ Some d = subst (λ i. slice_get ds i ≡ Some d) same c.get.ensures in
    record {
      room = omega (arith, c.loop-k.invariant.room, c.put_definition.ensures.room);
      goes = subst (Goes _ _ _ _ _ _)
          (ap (λ e. flat_map f (take k ds) ++ f e) (sym (get_or_from_slice_get ds k d d there)) ∙ sym (flat_map-more f ds k d more))
          (goes c.loop-k.invariant.goes c.put_definition.ensures.goes);
    }
