use Rattle.std.proofs.Common.{◌++◌, ◌∙◌, ap, sym, codes}
use Rattle.formula.specs.Pool.{trees, tree_in, tree_of}
use Rattle.event_text.specs.TermText.{function_text, term_text}
use Rattle.event_reading.specs.Names.{known_names}
use Rattle.event_reading.specs.Rests.{pending}
use Rattle.event_reading.proofs.Matching.{matches}
use Rattle.event_reading.proofs.Rests.{opened, behind_shorter}
use Rattle.event_reading.proofs.writing.begin_term.Goals as goal

pub returns-in-Old-clause-nears : goal.returns-in-Old-clause-nears
returns-in-Old-clause-nears c =
    let names = known_names c.args.known.now in
    let ts = trees c.args.pool.now in
    record {
      front = _;
      put = matches (matches c.put-in-Old.ensures c.put-in-Old-2.ensures) c.put-in-Old-3.ensures;
      is = ap (λ l. l ++ pending names c.args.pool.now c.args.stack.now)
          (ap (λ s. codes "(OLD " ++ s ++ codes ")") c.as_bytes-in-Old.ensures ∙ sym (ap (term_text names) (c.node.ensures.tree ∙ ap (tree_in ts) c.in-Old.is)));
    }

pub returns-in_ok-push-in-Apply-clause-nears : goal.returns-in_ok-push-in-Apply-clause-nears
returns-in_ok-push-in-Apply-clause-nears c =
    let names = known_names c.args.known.now in
    record {
      front = codes "(" ++ function_text names c.in-Apply.function;
      put = matches c.put-in-Apply.ensures c.put_function.ensures;
      is = ap (λ bs. codes "(" ++ function_text names c.in-Apply.function ++ pending names c.args.pool.now bs) c.in_ok-push-in-Apply.ensures.ok
          ∙ opened names c.args.pool.now c.args.id _ c.in-Apply.function _ c.args.stack.now c.node.ensures.node c.in-Apply.is c.node.ensures.tree;
    }

pub returns-in_ok-push-in-Apply-clause-shorter : goal.returns-in_ok-push-in-Apply-clause-shorter
returns-in_ok-push-in-Apply-clause-shorter c =
    let names = known_names c.args.known.now in
    behind_shorter (codes "(" ++ function_text names c.in-Apply.function) (pending names c.args.pool.now c.push.new.self) (term_text names (tree_of c.args.pool.now c.args.id) ++ pending names c.args.pool.now c.args.stack.now)
    (ap (λ bs. codes "(" ++ function_text names c.in-Apply.function ++ pending names c.args.pool.now bs) c.in_ok-push-in-Apply.ensures.ok
    ∙ opened names c.args.pool.now c.args.id _ c.in-Apply.function _ c.args.stack.now c.node.ensures.node c.in-Apply.is c.node.ensures.tree)
