use Rattle.std.proofs.Common.{◌≡◌, List, Some, None, length, map, slice_get, sym, ap, ◌∙◌, subst}
use Rattle.formula.specs.Pool.{AllBelow, tree_of}
use Rattle.formula.specs.declared.node.TermId.{TermId}
use Rattle.fort_notes.specs.Assertions.{Notes}
use Rattle.weight_calls.proofs.NoteTerms.{output_below, notes_none, notes_some}
use Rattle.weight_calls.proofs.subject.Subject.output.Goals as goal

pub returns-in-Some-clause-terms : goal.returns-in-Some-clause-terms
returns-in-Some-clause-terms c =
    let there : slice_get c.args.self.now.scene.now.notes.now c.args.number ≡ Some c.in-Some.spec.now = sym c.in-Some.ensures in
    ap (map (tree_of c.args.self.now.pool.now)) c.as_slice.ensures
    ∙ sym (ap (λ (n : Notes). n.output) (notes_some c.args.self.now.pool.now c.args.self.now.scene.now.notes.now c.args.number c.in-Some.spec.now there))

pub returns-in-Some-clause-below : goal.returns-in-Some-clause-below
returns-in-Some-clause-below c =
    let there : slice_get c.args.self.now.scene.now.notes.now c.args.number ≡ Some c.in-Some.spec.now = sym c.in-Some.ensures in
    let T : List TermId → Type 0 = AllBelow (length c.args.self.now.pool.now) in
    subst T (sym c.as_slice.ensures) (output_below (length c.args.self.now.pool.now) c.args.self.now.scene.now.notes.now c.args.number c.in-Some.spec.now c.args.self.now.notes_in there)

pub returns-in-None-clause-terms : goal.returns-in-None-clause-terms
returns-in-None-clause-terms c =
    let none : slice_get c.args.self.now.scene.now.notes.now c.args.number ≡ None = sym c.in-None.ensures in
    sym (ap (λ (n : Notes). n.output) (notes_none c.args.self.now.pool.now c.args.self.now.scene.now.notes.now c.args.number none))
