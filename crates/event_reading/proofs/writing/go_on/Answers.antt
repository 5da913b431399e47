use Rattle.std.proofs.Common.{◌++◌, ◌∙◌, ap, sym, codes}
use Rattle.std.proofs.lemmas.Result.{on_ok_weaker}
use Rattle.formula.specs.Pool.{tree_of}
use Rattle.event_text.specs.TermText.{term_text}
use Rattle.event_reading.specs.Names.{known_names}
use Rattle.event_reading.specs.Rests.{pending}
use Rattle.event_reading.proofs.Matching.{matches}
use Rattle.event_reading.proofs.Rests.{gone_on}
use Rattle.event_reading.proofs.writing.go_on.Goals as goal

pub returns-clause-nears : goal.returns-clause-nears
returns-clause-nears c =
    let pool = c.args.pool.now in
    let names = known_names c.args.known.now in
    on_ok_weaker c.begin_term.result (λ n. record {
      front = codes " " ++ n.front;
      put = matches c.put-2.ensures n.put;
      is = ap (λ l. codes " " ++ l) (n.is ∙ ap (λ bs. term_text names (tree_of pool c.in-Some.id) ++ pending names pool bs) c.in_ok-push.ensures.ok)
          ∙ sym (gone_on names pool c.args.bracket c.in-Some.behind c.in-Some.id c.args.stack.now c.in-Some.ensures.rest);
    }) c.begin_term.ensures.nears
