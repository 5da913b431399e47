use Rattle.std.proofs.Common.{◌∙◌, ap, refl}
use Rattle.fort_syntax.specs.declared.condition.Kind.TheVariants.{ResultCheck}
use Rattle.fort_model.specs.Senses.{is_defined, of_terms}
use Rattle.walk_state.specs.declared.walk.Walk.{Walk}
use Rattle.walk_state.proofs.Parts.{Grew, follows_then, grew}
use Rattle.walk_values.proofs.Checked.{checked_after}
use Rattle.walk_facts.proofs.selectors.check_result.Goals as goal

pub returns-in_default-clause-on : goal.returns-in_default-clause-on
returns-in_default-clause-on c =
    let w0 = c.args.walk.now in
    let w1 = c.term.new.self in
    let w2 : Walk = record { pool = c.defined.new.pool; names = w1.names; met = w1.met; calls = w1.calls; alloc = w1.alloc } in
    follows_then w0 w1 w2 c.term.ensures.on (grew w1 w2 c.term.ensures.on.kept c.defined.ensures.grows refl refl refl).on

pub check-requires-clause-well : goal.check-requires-clause-well
check-requires-clause-well c =
    let w1 = c.term.new.self in
    let w2 : Walk = record { pool = c.defined.new.pool; names = w1.names; met = w1.met; calls = w1.calls; alloc = w1.alloc } in
    (grew w1 w2 c.term.ensures.on.kept c.defined.ensures.grows refl refl refl).on.kept

pub returns-in_err-check-clause-on : goal.returns-in_err-check-clause-on
returns-in_err-check-clause-on c =
    let w0 = c.args.walk.now in
    let w1 = c.term.new.self in
    let w2 : Walk = record { pool = c.defined.new.pool; names = w1.names; met = w1.met; calls = w1.calls; alloc = w1.alloc } in
    follows_then w0 w2 _ (follows_then w0 w1 w2 c.term.ensures.on (grew w1 w2 c.term.ensures.on.kept c.defined.ensures.grows refl refl refl).on) c.check.ensures.on

pub returns-clause-on : goal.returns-clause-on
returns-clause-on c =
    let w0 = c.args.walk.now in
    let w1 = c.term.new.self in
    let w2 : Walk = record { pool = c.defined.new.pool; names = w1.names; met = w1.met; calls = w1.calls; alloc = w1.alloc } in
    follows_then w0 w2 _ (follows_then w0 w1 w2 c.term.ensures.on (grew w1 w2 c.term.ensures.on.kept c.defined.ensures.grows refl refl refl).on) c.check.ensures.on

pub returns-clause-did : goal.returns-clause-did
returns-clause-did c p i u =
    let w0 = c.args.walk.now in
    let w1 = c.term.new.self in
    let w2 : Walk = record { pool = c.defined.new.pool; names = w1.names; met = w1.met; calls = w1.calls; alloc = w1.alloc } in
    let g : Grew w0 w2 = record { on = follows_then w0 w1 w2 c.term.ensures.on (grew w1 w2 c.term.ensures.on.kept c.defined.ensures.grows refl refl refl).on; same = (grew w1 w2 c.term.ensures.on.kept c.defined.ensures.grows refl refl refl).same ∙ c.term.ensures.same } in
    record { is = checked_after w0 w2 _ ResultCheck c.args.card _ _ g c.in_ok-check.ensures.met (c.in-Ok.ensures.tree ∙ ap (is_defined of_terms) c.in_ok-value.ensures.tree); gives = refl }
