use Rattle.formula.specs.Pool.{tree_of}
use Rattle.formula.specs.Tree.{Tree}
use Rattle.formula.proofs.Grown.{IsIn-Grows, tree_of-Grows}
use Rattle.fort_model.specs.Conditions.{sight}
use Rattle.fort_model.specs.Senses.{of_terms}
use Rattle.fort_model.specs.WalkExpr as steps
use Rattle.walk_state.specs.Moments.{moment}
use Rattle.walk_state.proofs.Parts.{follows_then}
use Rattle.walk_values.proofs.Checked.{did_after}
use Rattle.walk_facts.proofs.parameters.read_name.Goals as goal

pub returns-in_err-read-clause-on : goal.returns-in_err-read-clause-on
returns-in_err-read-clause-on c = follows_then c.args.walk.now c.term.new.self c.read.new.walk c.term.ensures.on c.read.ensures.on

pub returns-clause-on : goal.returns-clause-on
returns-clause-on c = follows_then c.args.walk.now c.term.new.self c.read.new.walk c.term.ensures.on c.read.ensures.on

pub returns-clause-is_in : goal.returns-clause-is_in
returns-clause-is_in c = IsIn-Grows _ _ c.in_ok-value.value c.read.ensures.on.grows c.in_ok-value.ensures.is_in

pub returns-clause-did : goal.returns-clause-did
returns-clause-did c p i u =
    let w0 = c.args.walk.now in
    let w1 = c.term.new.self in
    let w2 = c.read.new.walk in
    did_after (moment w0) (moment w1) (moment w2) (λ (t : Tree). steps.read (sight of_terms p i u) c.args.card t) ((moment w0).now c.args.name.now) (tree_of w1.pool c.in_ok-value.value)
    (tree_of w2.pool c.in_ok-value.value) (tree_of w1.pool c.in_ok-value.value) c.term.ensures.same c.in_ok-value.ensures.tree
    (tree_of-Grows w1.pool w2.pool c.in_ok-value.value c.read.ensures.on.grows c.in_ok-value.ensures.is_in) (c.in_ok-read.ensures.did p i u)
