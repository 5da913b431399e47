use Rattle.std.proofs.Common.{◌++◌, ◌∙◌, ap, sym, map, codes}
use Rattle.formula.specs.Pool.{trees, tree_in}
use Rattle.event_text.specs.Rests.{pending}
use Rattle.event_text.specs.TermText.{function_text, term_text}
use Rattle.event_text.proofs.Rests.{opened}
use Rattle.event_text.proofs.Sent.{goes}
use Rattle.event_text.proofs.terms.begin_term.Goals as goal

pub returns-in-Old-clause-nears : goal.returns-in-Old-clause-nears
returns-in-Old-clause-nears g c =
    let names = map (λ d. d.name) c.args.definitions.now in
    let ts = trees c.args.pool.now in
    record {
      front = _;
      put = goes (goes c.put-in-Old.ensures c.put-in-Old-2.ensures) c.put-in-Old-3.ensures;
      is = ap (λ l. l ++ pending names c.args.pool.now c.args.stack.now.brackets)
          (ap (λ s. codes "(OLD " ++ s ++ codes ")") c.as_bytes-in-Old.ensures ∙ sym (ap (term_text names) (c.node.ensures.tree ∙ ap (tree_in ts) c.in-Old.is)));
    }

pub returns-in-Apply-clause-nears : goal.returns-in-Apply-clause-nears
returns-in-Apply-clause-nears g c =
    let names = map (λ d. d.name) c.args.definitions.now in
    record {
      front = codes "(" ++ function_text names c.in-Apply.function;
      put = goes c.put-in-Apply.ensures c.put_function.ensures;
      is = ap (λ bs. codes "(" ++ function_text names c.in-Apply.function ++ pending names c.args.pool.now bs) c.open.ensures.brackets
          ∙ opened names c.args.pool.now c.args.id _ c.in-Apply.function _ c.args.stack.now.brackets c.node.ensures.node c.in-Apply.is c.node.ensures.tree;
    }
