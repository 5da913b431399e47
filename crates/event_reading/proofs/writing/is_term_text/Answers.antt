use Rattle.std.proofs.Common.{◌∙◌, ap, refl, true}
use Rattle.formula.specs.Pool.{tree_of}
use Rattle.event_text.specs.TermText.{term_text}
use Rattle.event_reading.specs.declared.comparing.Comparing.{Comparing}
use Rattle.event_reading.specs.Names.{known_names}
use Rattle.event_reading.specs.Rests.{pending}
use Rattle.event_reading.proofs.Matching.{nears, nears_same, whole_same}
use Rattle.event_reading.proofs.writing.is_term_text.Goals as goal

pub loop-bracket-preserved : goal.loop-bracket-preserved
loop-bracket-preserved c =
    let names = known_names c.args.known.now in
    record {
      inside = c.in_ok-go_on.ensures.inside;
      nears = λ start s r. nears (nears_same (ap (pending names c.args.pool.now) c.in-Some.ensures) (c.loop-bracket.invariant.nears start s r)) c.in_ok-go_on.ensures.nears;
    }

pub returns : goal.returns
returns c =
    let names = known_names c.args.known.now in
    let start : Comparing = record { rest = c.args.text; same = true } in
    c.is_done.ensures ∙ whole_same start c.loop-bracket.out (term_text names (tree_of c.args.pool.now c.args.id)) refl
    (nears_same (ap (pending names c.args.pool.now) c.in_default.ensures.0) (c.loop-bracket.invariant.nears start refl refl))
