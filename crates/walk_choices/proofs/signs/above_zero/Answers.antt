use Rattle.std.proofs.Common.{refl}
use Rattle.std.proofs.lemmas.Result.{on_ok_weaker}
use Rattle.formula.specs.Pool.{tree_of}
use Rattle.formula.specs.declared.function.BuiltIn.TheVariants.{Less}
use Rattle.formula.proofs.Grown.{tree_of-Grows}
use Rattle.fort_model.specs.Senses.{make2, natural, of_terms}
use Rattle.walk_state.specs.declared.walk.Walk.{Walk}
use Rattle.walk_state.specs.Moments.{moment}
use Rattle.walk_state.proofs.Parts.{follows_then, grew}
use Rattle.walk_choices.proofs.Facts.{took_after}
use Rattle.walk_choices.proofs.signs.above_zero.Goals as goal

pub returns-in_default-clause-on : goal.returns-in_default-clause-on
returns-in_default-clause-on c = (grew c.args.walk.now _ c.requires.well c.natural.ensures.grows refl refl refl).on

pub take_less-requires-clause-well : goal.take_less-requires-clause-well
take_less-requires-clause-well c = (grew c.args.walk.now _ c.requires.well c.natural.ensures.grows refl refl refl).on.kept

pub returns-clause-on : goal.returns-clause-on
returns-clause-on c =
    let w0 = c.args.walk.now in
    let w1 : Walk = record { pool = c.natural.new.pool; names = w0.names; met = w0.met; calls = w0.calls; alloc = w0.alloc } in
    follows_then w0 w1 _ (grew w0 w1 c.requires.well c.natural.ensures.grows refl refl refl).on c.take_less.ensures.on

pub returns-clause-did : goal.returns-clause-did
returns-clause-did c =
    let w0 = c.args.walk.now in
    let w1 : Walk = record { pool = c.natural.new.pool; names = w0.names; met = w0.met; calls = w0.calls; alloc = w0.alloc } in
    let g = grew w0 w1 c.requires.well c.natural.ensures.grows refl refl refl in
    let number = tree_of-Grows w0.pool w1.pool c.args.number c.natural.ensures.grows c.requires.number in
    on_ok_weaker c.take_less.result
    (took_after w0 w1 (moment c.take_less.new.walk) (make2 of_terms Less (natural of_terms 0) (tree_of w0.pool c.args.number)) (make2 of_terms Less (tree_of w1.pool c.in-Ok.zero) (tree_of w1.pool c.args.number)) g
    (λ j. make2 of_terms Less (c.in-Ok.ensures.tree j) (number j)))
    c.take_less.ensures.did
