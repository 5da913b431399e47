use Rattle.std.proofs.Common.{rules, ◌+◌, ◌∙◌, codes, refl, sym, ap, subst}
use Rattle.fort_syntax.specs.Spelled.{tightness, operator, relation}
use Rattle.stmt_parse.specs.Writing.{put, ◌⊕◌, tight, write_name, write_expression, in_round, write_list}
use Rattle.stmt_parse.specs.Wrote.{Wrote}
use Rattle.stmt_parse.proofs.WritingTrees.{write_apply, write_bin, write_rel, write_and, write_or, joined_written, first_fails, then_wrote}
use Rattle.stmt_parse.proofs.writing.+written.Goals as goal

pub write_expression-returns-in-Apply : goal.write_expression-returns-in-Apply
write_expression-returns-in-Apply t c =
    let old = c.args.out.now.items in
    subst (Wrote c.write_applied.result c.write_applied.new.out.items)
    (sym (ap (λ e. write_expression e old) c.in-Apply.is ∙ write_apply c.in-Apply.name c.in-Apply.args old
    ∙ sym (λ i. (write_name c.in-Apply.name ⊕ in_round (write_list write_expression (c.as_slice.ensures i))) old)))
    c.write_applied.ensures

pub write_expression-returns-in_err-write_tight-in-Bin : goal.write_expression-returns-in_err-write_tight-in-Bin
write_expression-returns-in_err-write_tight-in-Bin t c =
    let old = c.args.out.now.items in
    let o = c.in-Bin.o in
    let k = c.tightness-k.result in
    let failed = first_fails c.in_err-write_tight-in-Bin.field-0.0
    (tight k c.get-in-Bin.result.now (write_expression c.get-in-Bin.result.now))
    (put (operator o) ⊕ tight (tightness o + 1) c.in-Bin.b (write_expression c.in-Bin.b))
    old (write_expression c.args.e.now old)
    (joined_written c.args.e.now (tightness o) (tightness o + 1) (operator o) old c.in-Bin.a c.in-Bin.b
    c.get-in-Bin.result.now c.in-Bin.b k (tightness o + 1) (operator o)
    (ap (λ e. write_expression e old) c.in-Bin.is ∙ write_bin o c.in-Bin.a c.in-Bin.b old)
    c.tightness-k.ensures c.get-in-Bin.ensures refl refl refl)
    c.in_err-write_tight-in-Bin.ensures in
    search (rules, failed)

pub write_expression-returns-in_err-write_tight-in-Rel : goal.write_expression-returns-in_err-write_tight-in-Rel
write_expression-returns-in_err-write_tight-in-Rel t c =
    let old = c.args.out.now.items in
    let o = c.in-Rel.o in
    let failed = first_fails c.in_err-write_tight-in-Rel.field-0.0
    (tight 4 c.get-in-Rel.result.now (write_expression c.get-in-Rel.result.now))
    (put (relation o) ⊕ tight 4 c.in-Rel.b (write_expression c.in-Rel.b))
    old (write_expression c.args.e.now old)
    (joined_written c.args.e.now 4 4 (relation o) old c.in-Rel.a c.in-Rel.b
    c.get-in-Rel.result.now c.in-Rel.b 4 4 (relation o)
    (ap (λ e. write_expression e old) c.in-Rel.is ∙ write_rel o c.in-Rel.a c.in-Rel.b old)
    refl c.get-in-Rel.ensures refl refl refl)
    c.in_err-write_tight-in-Rel.ensures in
    search (rules, failed)

pub write_expression-returns-in_ok-write_tight-in-Bin : goal.write_expression-returns-in_ok-write_tight-in-Bin
write_expression-returns-in_ok-write_tight-in-Bin t c =
    let old = c.args.out.now.items in
    let o = c.in-Bin.o in
    let k = c.tightness-k.result in
    then_wrote c.write_signed-in-Bin.result c.write_signed-in-Bin.new.out.items c.write_tight.new.out.items old
    (tight k c.get-in-Bin.result.now (write_expression c.get-in-Bin.result.now))
    (put c.operator.result.now ⊕ tight (k + 1) c.get-in-Bin-2.result.now (write_expression c.get-in-Bin-2.result.now))
    (write_expression c.args.e.now old)
    (joined_written c.args.e.now (tightness o) (tightness o + 1) (operator o) old c.in-Bin.a c.in-Bin.b
    c.get-in-Bin.result.now c.get-in-Bin-2.result.now k (k + 1) c.operator.result.now
    (ap (λ e. write_expression e old) c.in-Bin.is ∙ write_bin o c.in-Bin.a c.in-Bin.b old)
    c.tightness-k.ensures c.get-in-Bin.ensures c.operator.ensures (ap (λ k. k + 1) c.tightness-k.ensures) c.get-in-Bin-2.ensures)
    c.in_ok-write_tight-in-Bin.ensures c.write_signed-in-Bin.ensures

pub write_expression-returns-in_ok-write_tight-in-Rel : goal.write_expression-returns-in_ok-write_tight-in-Rel
write_expression-returns-in_ok-write_tight-in-Rel t c =
    let old = c.args.out.now.items in
    let o = c.in-Rel.o in
    then_wrote c.write_signed-in-Rel.result c.write_signed-in-Rel.new.out.items c.write_tight-in-Rel.new.out.items old
    (tight 4 c.get-in-Rel.result.now (write_expression c.get-in-Rel.result.now))
    (put c.relation.result.now ⊕ tight 4 c.get-in-Rel-2.result.now (write_expression c.get-in-Rel-2.result.now))
    (write_expression c.args.e.now old)
    (joined_written c.args.e.now 4 4 (relation o) old c.in-Rel.a c.in-Rel.b
    c.get-in-Rel.result.now c.get-in-Rel-2.result.now 4 4 c.relation.result.now
    (ap (λ e. write_expression e old) c.in-Rel.is ∙ write_rel o c.in-Rel.a c.in-Rel.b old)
    refl c.get-in-Rel.ensures c.relation.ensures refl c.get-in-Rel-2.ensures)
    c.in_ok-write_tight-in-Rel.ensures c.write_signed-in-Rel.ensures

pub write_expression-returns-in_ok-write_tight-in-And : goal.write_expression-returns-in_ok-write_tight-in-And
write_expression-returns-in_ok-write_tight-in-And t c =
    let old = c.args.out.now.items in
    then_wrote c.write_signed-in-And.result c.write_signed-in-And.new.out.items c.write_tight-in-And.new.out.items old
    (tight 1 c.get-in-And.result.now (write_expression c.get-in-And.result.now))
    (put (codes ".AND.") ⊕ tight 2 c.get-in-And-2.result.now (write_expression c.get-in-And-2.result.now))
    (write_expression c.args.e.now old)
    (joined_written c.args.e.now 1 2 (codes ".AND.") old c.in-And.a c.in-And.b
    c.get-in-And.result.now c.get-in-And-2.result.now 1 2 (codes ".AND.")
    (ap (λ e. write_expression e old) c.in-And.is ∙ write_and c.in-And.a c.in-And.b old)
    refl c.get-in-And.ensures refl refl c.get-in-And-2.ensures)
    c.in_ok-write_tight-in-And.ensures c.write_signed-in-And.ensures

pub write_expression-returns-in_ok-write_tight-in-Or : goal.write_expression-returns-in_ok-write_tight-in-Or
write_expression-returns-in_ok-write_tight-in-Or t c =
    let old = c.args.out.now.items in
    then_wrote c.write_signed-in-Or.result c.write_signed-in-Or.new.out.items c.write_tight-in-Or.new.out.items old
    (tight 0 c.get-in-Or.result.now (write_expression c.get-in-Or.result.now))
    (put (codes ".OR.") ⊕ tight 1 c.get-in-Or-2.result.now (write_expression c.get-in-Or-2.result.now))
    (write_expression c.args.e.now old)
    (joined_written c.args.e.now 0 1 (codes ".OR.") old c.in-Or.a c.in-Or.b
    c.get-in-Or.result.now c.get-in-Or-2.result.now 0 1 (codes ".OR.")
    (ap (λ e. write_expression e old) c.in-Or.is ∙ write_or c.in-Or.a c.in-Or.b old)
    refl c.get-in-Or.ensures refl refl c.get-in-Or-2.ensures)
    c.in_ok-write_tight-in-Or.ensures c.write_signed-in-Or.ensures
