use Rattle.std.proofs.Common.{◌∙◌, arith, refl}
use Rattle.formula.specs.Pool.{tree_of}
use Rattle.formula.specs.declared.function.BuiltIn.TheVariants.{AtMost}
use Rattle.formula.proofs.Grown.{tree_of-Grows}
use Rattle.fort_syntax.specs.declared.condition.Kind.TheVariants.{RangeCheck}
use Rattle.fort_model.specs.Events.{Check}
use Rattle.fort_model.specs.Senses.{greatest_integer, make2, of_terms}
use Rattle.walk_state.specs.declared.walk.Walk.{Walk}
use Rattle.walk_state.specs.Moments.{moment, with_event}
use Rattle.walk_state.proofs.Parts.{grew}
use Rattle.walk_values.proofs.Checked.{constant_free, constant_limited}
use Rattle.walk_values.proofs.checks.constant.Goals as goal

pub returns-in_default-clause-on : goal.returns-in_default-clause-on
returns-in_default-clause-on c = (grew c.args.walk.now _ c.requires c.natural.ensures.grows refl refl refl).on

pub returns-then-bound-c-clause-on : goal.returns-then-bound-c-clause-on
returns-then-bound-c-clause-on c = (grew c.args.walk.now _ c.requires c.natural.ensures.grows refl refl refl).on

pub returns-then-bound-c-clause-did : goal.returns-then-bound-c-clause-did
returns-then-bound-c-clause-did c p i u e =
    let w0 = c.args.walk.now in
    let w1 : Walk = record { pool = c.natural.new.pool; names = w0.names; met = w0.met; calls = w0.calls; alloc = w0.alloc } in
    let g = grew w0 w1 c.requires c.natural.ensures.grows refl refl refl in
    constant_free (moment w0) (moment w1) p i u c.args.bound c.args.card c.args.c _ e (omega (arith, c.if-bound-c.true)) g.same c.in-Ok.ensures.tree

pub not_too_great-requires-clause-well : goal.not_too_great-requires-clause-well
not_too_great-requires-clause-well c = (grew c.args.walk.now _ c.requires c.natural.ensures.grows refl refl refl).on.kept

pub returns-clause-did : goal.returns-clause-did
returns-clause-did c p i u e =
    let w0 = c.args.walk.now in
    let w1 : Walk = record { pool = c.natural.new.pool; names = w0.names; met = w0.met; calls = w0.calls; alloc = w0.alloc } in
    let g = grew w0 w1 c.requires c.natural.ensures.grows refl refl refl in
    let met = c.in_ok-not_too_great.ensures.met ∙ (λ j. with_event (g.same j) (Check RangeCheck c.args.card (make2 of_terms AtMost (c.in-Ok.ensures.tree j) (greatest_integer of_terms)))) in
    let number = tree_of-Grows w1.pool c.not_too_great.new.walk.pool c.in-Ok.number c.not_too_great.ensures.on.grows c.in-Ok.ensures.is_in ∙ c.in-Ok.ensures.tree in
    constant_limited (moment w0) (moment c.not_too_great.new.walk) p i u c.args.bound c.args.card c.args.c (tree_of c.not_too_great.new.walk.pool c.in-Ok.number) e (omega (arith, c.if-bound-c.false)) met number
