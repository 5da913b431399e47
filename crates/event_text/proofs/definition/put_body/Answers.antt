use Rattle.std.proofs.Common.{◌++◌, ◌∙◌, ap, codes, map, subst, sym}
use Rattle.formula.specs.Pool.{tree_of}
use Rattle.formula.specs.Worth.{body_of}
use Rattle.event_text.specs.EventText.{body_text, first_word}
use Rattle.event_text.specs.Sending.{Goes}
use Rattle.event_text.specs.TermText.{term_text}
use Rattle.event_text.proofs.Sent.{goes}
use Rattle.event_text.proofs.definition.put_body.Goals as goal

pub returns-in-Counting-clause-goes : goal.returns-in-Counting-clause-goes
returns-in-Counting-clause-goes g c =
    let pool = c.args.pool.now in
    let names = map (λ d. d.name) c.args.definitions.now in
    let front = goes (goes (goes c.put.ensures c.put_first_word.ensures) c.put-in-Counting.ensures) c.put_term-in-Counting.ensures.goes in
    let whole = goes (goes (goes front c.put-in-Counting-2.ensures) c.put_term-in-Counting-2.ensures.goes) c.put-in-Counting-3.ensures in
    subst (Goes _ _ _ _ _ _)
    (ap
    (λ ps. codes "(IF (ZLEQ " ++ first_word ps ++ codes " 0) " ++ term_text names (tree_of pool c.in-Counting.base) ++ codes " " ++ term_text names (tree_of pool c.in-Counting.step) ++ codes ")")
    c.as_slice.ensures
    ∙ sym (ap (λ b. body_text names c.args.definition.now.params (body_of pool b)) c.in-Counting.is))
    whole
