use Rattle.std.proofs.Common.{◌∙◌, refl}
use Rattle.formula.specs.Pool.{tree_of}
use Rattle.formula.specs.Tree.{Tree}
use Rattle.formula.specs.declared.function.BuiltIn.TheVariants.{Quotient, Remainder}
use Rattle.formula.proofs.Grown.{Grows-trans, IsIn-Grows, tree_of-Grows}
use Rattle.fort_model.specs.Conditions.{sight}
use Rattle.fort_model.specs.Seen.{◌>>=◌, see}
use Rattle.fort_model.specs.Senses.{make2, of_terms}
use Rattle.fort_model.specs.WalkExpr as steps
use Rattle.walk_state.specs.declared.walk.Walk.{Walk}
use Rattle.walk_state.specs.Moments.{moment}
use Rattle.walk_state.proofs.Parts.{did_then, follows_then, grew}
use Rattle.walk_values.proofs.Checked.{did_after, did_see}
use Rattle.walk_elements.proofs.functions.modulo.Goals as goal

pub quotient_ranged-requires-clause-a : goal.quotient_ranged-requires-clause-a
quotient_ranged-requires-clause-a c = IsIn-Grows _ _ c.args.a c.divisor.ensures.on.grows c.requires.a

pub quotient_ranged-requires-clause-b : goal.quotient_ranged-requires-clause-b
quotient_ranged-requires-clause-b c = IsIn-Grows _ _ c.args.b c.divisor.ensures.on.grows c.requires.b

pub binary-requires-clause-a : goal.binary-requires-clause-a
binary-requires-clause-a c = IsIn-Grows _ _ c.args.a (Grows-trans _ _ _ c.divisor.ensures.on.grows c.quotient_ranged.ensures.on.grows) c.requires.a

pub binary-requires-clause-b : goal.binary-requires-clause-b
binary-requires-clause-b c = IsIn-Grows _ _ c.args.b (Grows-trans _ _ _ c.divisor.ensures.on.grows c.quotient_ranged.ensures.on.grows) c.requires.b

pub returns-in_err-quotient_ranged-clause-on : goal.returns-in_err-quotient_ranged-clause-on
returns-in_err-quotient_ranged-clause-on c = follows_then c.args.walk.now c.divisor.new.walk c.quotient_ranged.new.walk c.divisor.ensures.on c.quotient_ranged.ensures.on

pub returns-in_default-clause-on : goal.returns-in_default-clause-on
returns-in_default-clause-on c =
    let w0 = c.args.walk.now in
    let w2 = c.quotient_ranged.new.walk in
    let w3 : Walk = record { pool = c.binary.new.self; names = w2.names; met = w2.met; calls = w2.calls; alloc = w2.alloc } in
    follows_then w0 w2 w3 (follows_then w0 c.divisor.new.walk w2 c.divisor.ensures.on c.quotient_ranged.ensures.on) (grew w2 w3 c.quotient_ranged.ensures.on.kept c.binary.ensures.grows refl refl refl).on

pub returns-clause-on : goal.returns-clause-on
returns-clause-on c =
    let w0 = c.args.walk.now in
    let w2 = c.quotient_ranged.new.walk in
    let w3 : Walk = record { pool = c.binary.new.self; names = w2.names; met = w2.met; calls = w2.calls; alloc = w2.alloc } in
    follows_then w0 w2 w3 (follows_then w0 c.divisor.new.walk w2 c.divisor.ensures.on c.quotient_ranged.ensures.on) (grew w2 w3 c.quotient_ranged.ensures.on.kept c.binary.ensures.grows refl refl refl).on

pub returns-clause-did : goal.returns-clause-did
returns-clause-did c p i u =
    let s = sight of_terms p i u in
    let card = c.args.card in
    let w0 = c.args.walk.now in
    let w1 = c.divisor.new.walk in
    let w2 = c.quotient_ranged.new.walk in
    let w3 : Walk = record { pool = c.binary.new.self; names = w2.names; met = w2.met; calls = w2.calls; alloc = w2.alloc } in
    let near = c.divisor.ensures.on.grows in
    let far = Grows-trans w0.pool w1.pool w2.pool near c.quotient_ranged.ensures.on.grows in
    let a0 = tree_of w0.pool c.args.a in
    let b0 = tree_of w0.pool c.args.b in
    let quotient = tree_of w2.pool c.in_ok-quotient_ranged.field-0 in
    let remainder = tree_of w3.pool c.in-Ok.value in
    let a1 = tree_of-Grows w0.pool w1.pool c.args.a near c.requires.a in
    let b1 = tree_of-Grows w0.pool w1.pool c.args.b near c.requires.b in
    let a2 = tree_of-Grows w0.pool w2.pool c.args.a far c.requires.a in
    let b2 = tree_of-Grows w0.pool w2.pool c.args.b far c.requires.b in
    let last = did_see (moment w2) (moment w3) (make2 of_terms Remainder a0 b0) remainder (grew w2 w3 c.quotient_ranged.ensures.on.kept c.binary.ensures.grows refl refl refl).same
    (c.in-Ok.ensures.tree ∙ (λ j. make2 of_terms Remainder (a2 j) (b2 j))) in
    let second = did_after (moment w1) (moment w1) (moment w2) (λ (t : Tree). steps.ranged s card t) (make2 of_terms Quotient a0 b0) (make2 of_terms Quotient (tree_of w1.pool c.args.a) (tree_of w1.pool c.args.b))
    quotient quotient refl (λ j. make2 of_terms Quotient (a1 j) (b1 j)) refl (c.in_ok-quotient_ranged.ensures.did p i u) in
    let rest = did_then (moment w1) (moment w2) (moment w3) (steps.ranged s card (make2 of_terms Quotient a0 b0)) (λ _. see (make2 of_terms Remainder a0 b0)) quotient remainder second last in
    did_then (moment w0) (moment w1) (moment w3) (steps.divisor s card b0) (λ _. steps.ranged s card (make2 of_terms Quotient a0 b0) >>= λ _. see (make2 of_terms Remainder a0 b0)) tt remainder
    (c.in_ok-divisor.ensures.did p i u) rest
