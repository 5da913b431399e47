use Rattle.std.proofs.Common.{◌++◌, ◌∙◌, ap, codes, map, subst}
use Rattle.formula.specs.Worth.{body_of}
use Rattle.event_text.specs.EventText.{body_text, spaced}
use Rattle.event_text.specs.Sending.{Goes}
use Rattle.event_text.proofs.Sent.{goes}
use Rattle.event_text.proofs.definition.put_definition.Goals as goal

pub returns-clause-goes : goal.returns-clause-goes
returns-clause-goes g c =
    let held = c.args.definition.now in
    let body = body_text (map (λ d. d.name) c.args.definitions.now) held.params (body_of c.args.pool.now held.body) in
    let front = goes (goes (goes c.put.ensures c.put-2.ensures) c.put-3.ensures) c.put_words.ensures in
    let whole = goes (goes (goes front c.put-4.ensures) c.put_body.ensures.goes) c.put-5.ensures in
    subst (Goes _ _ _ _ _ _)
    (ap (λ n. codes "(DEFN " ++ n ++ codes " (" ++ spaced c.as_slice.result.now ++ codes ") " ++ body ++ codes ")\n") c.as_bytes.ensures
    ∙ ap (λ ps. codes "(DEFN " ++ held.name ++ codes " (" ++ spaced ps ++ codes ") " ++ body ++ codes ")\n") c.as_slice.ensures)
    whole
