use Rattle.std.proofs.Common.{ap, sym, ◌∙◌}
use Rattle.std.specs.Prelude.{◌&&◌}
use Rattle.std.specs.List.{list_all}
use Rattle.unit_scope.specs.Scoping.{scope_by}
use Rattle.type_faults.specs.Parts.{test_by, inner, holds}
use Rattle.type_faults.proofs.Fittings.{one_inside, two_inside, inner_apply, inner_paren, inner_pos, inner_neg, inner_not, inner_power, inner_bin, inner_rel, inner_and, inner_or}
use Rattle.type_faults.proofs.fitting.+fit.Goals as goal

pub parts_fit-returns-in-Apply : goal.parts_fit-returns-in-Apply
parts_fit-returns-in-Apply t c =
    let test = test_by c.args.check (scope_by c.args.scope.now) in
    one_inside test c.args.e.now c.args.ok c.fits-here.result (list_all (holds test) c.as_slice.result.now) c.args_fit.result c.fits-here.ensures
    (ap (λ e. list_all test (inner e)) c.in-Apply.is ∙ inner_apply test c.in-Apply.field-0 c.in-Apply.args ∙ ap (list_all (holds test)) (sym c.as_slice.ensures))
    c.args_fit.ensures

pub parts_fit-returns-in-Paren : goal.parts_fit-returns-in-Paren
parts_fit-returns-in-Paren t c =
    let test = test_by c.args.check (scope_by c.args.scope.now) in
    one_inside test c.args.e.now c.args.ok c.fits-here.result (holds test c.get.result.now) c.parts_fit.result c.fits-here.ensures
    (ap (λ e. list_all test (inner e)) c.in-Paren.is ∙ inner_paren test c.in-Paren.a ∙ ap (holds test) (sym c.get.ensures))
    c.parts_fit.ensures

pub parts_fit-returns-in-Pos : goal.parts_fit-returns-in-Pos
parts_fit-returns-in-Pos t c =
    let test = test_by c.args.check (scope_by c.args.scope.now) in
    one_inside test c.args.e.now c.args.ok c.fits-here.result (holds test c.get-in-Pos.result.now) c.parts_fit-in-Pos.result c.fits-here.ensures
    (ap (λ e. list_all test (inner e)) c.in-Pos.is ∙ inner_pos test c.in-Pos.a ∙ ap (holds test) (sym c.get-in-Pos.ensures))
    c.parts_fit-in-Pos.ensures

pub parts_fit-returns-in-Neg : goal.parts_fit-returns-in-Neg
parts_fit-returns-in-Neg t c =
    let test = test_by c.args.check (scope_by c.args.scope.now) in
    one_inside test c.args.e.now c.args.ok c.fits-here.result (holds test c.get-in-Neg.result.now) c.parts_fit-in-Neg.result c.fits-here.ensures
    (ap (λ e. list_all test (inner e)) c.in-Neg.is ∙ inner_neg test c.in-Neg.a ∙ ap (holds test) (sym c.get-in-Neg.ensures))
    c.parts_fit-in-Neg.ensures

pub parts_fit-returns-in-Not : goal.parts_fit-returns-in-Not
parts_fit-returns-in-Not t c =
    let test = test_by c.args.check (scope_by c.args.scope.now) in
    one_inside test c.args.e.now c.args.ok c.fits-here.result (holds test c.get-in-Not.result.now) c.parts_fit-in-Not.result c.fits-here.ensures
    (ap (λ e. list_all test (inner e)) c.in-Not.is ∙ inner_not test c.in-Not.a ∙ ap (holds test) (sym c.get-in-Not.ensures))
    c.parts_fit-in-Not.ensures

pub parts_fit-returns-in-Power : goal.parts_fit-returns-in-Power
parts_fit-returns-in-Power t c =
    let test = test_by c.args.check (scope_by c.args.scope.now) in
    one_inside test c.args.e.now c.args.ok c.fits-here.result (holds test c.get-in-Power.result.now) c.parts_fit-in-Power.result c.fits-here.ensures
    (ap (λ e. list_all test (inner e)) c.in-Power.is ∙ inner_power test c.in-Power.a c.in-Power.field-1 ∙ ap (holds test) (sym c.get-in-Power.ensures))
    c.parts_fit-in-Power.ensures

pub parts_fit-returns-in-Bin : goal.parts_fit-returns-in-Bin
parts_fit-returns-in-Bin t c =
    let test = test_by c.args.check (scope_by c.args.scope.now) in
    two_inside test c.args.e.now c.args.ok c.fits-here.result (holds test c.get-in-Bin-2.result.now) (holds test c.get-in-Bin.result.now)
    c.parts_fit-in-Bin.result c.parts_fit-in-Bin-2.result c.fits-here.ensures
    (ap (λ e. list_all test (inner e)) c.in-Bin.is ∙ inner_bin test c.in-Bin.field-0 c.in-Bin.a c.in-Bin.b
    ∙ sym (λ j. holds test (c.get-in-Bin-2.ensures j) && holds test (c.get-in-Bin.ensures j)))
    c.parts_fit-in-Bin.ensures c.parts_fit-in-Bin-2.ensures

pub parts_fit-returns-in-Rel : goal.parts_fit-returns-in-Rel
parts_fit-returns-in-Rel t c =
    let test = test_by c.args.check (scope_by c.args.scope.now) in
    two_inside test c.args.e.now c.args.ok c.fits-here.result (holds test c.get-in-Rel-2.result.now) (holds test c.get-in-Rel.result.now)
    c.parts_fit-in-Rel.result c.parts_fit-in-Rel-2.result c.fits-here.ensures
    (ap (λ e. list_all test (inner e)) c.in-Rel.is ∙ inner_rel test c.in-Rel.field-0 c.in-Rel.a c.in-Rel.b
    ∙ sym (λ j. holds test (c.get-in-Rel-2.ensures j) && holds test (c.get-in-Rel.ensures j)))
    c.parts_fit-in-Rel.ensures c.parts_fit-in-Rel-2.ensures

pub parts_fit-returns-in-And : goal.parts_fit-returns-in-And
parts_fit-returns-in-And t c =
    let test = test_by c.args.check (scope_by c.args.scope.now) in
    two_inside test c.args.e.now c.args.ok c.fits-here.result (holds test c.get-in-And-2.result.now) (holds test c.get-in-And.result.now)
    c.parts_fit-in-And.result c.parts_fit-in-And-2.result c.fits-here.ensures
    (ap (λ e. list_all test (inner e)) c.in-And.is ∙ inner_and test c.in-And.a c.in-And.b
    ∙ sym (λ j. holds test (c.get-in-And-2.ensures j) && holds test (c.get-in-And.ensures j)))
    c.parts_fit-in-And.ensures c.parts_fit-in-And-2.ensures

pub parts_fit-returns-in-Or : goal.parts_fit-returns-in-Or
parts_fit-returns-in-Or t c =
    let test = test_by c.args.check (scope_by c.args.scope.now) in
    two_inside test c.args.e.now c.args.ok c.fits-here.result (holds test c.get-in-Or-2.result.now) (holds test c.get-in-Or.result.now)
    c.parts_fit-in-Or.result c.parts_fit-in-Or-2.result c.fits-here.ensures
    (ap (λ e. list_all test (inner e)) c.in-Or.is ∙ inner_or test c.in-Or.a c.in-Or.b
    ∙ sym (λ j. holds test (c.get-in-Or-2.ensures j) && holds test (c.get-in-Or.ensures j)))
    c.parts_fit-in-Or.ensures c.parts_fit-in-Or-2.ensures
