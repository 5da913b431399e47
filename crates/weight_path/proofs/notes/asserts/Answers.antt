use Rattle.std.proofs.Common.{◌≡◌, Some, None, length, map, slice_get, sym, ap, ◌∙◌}
use Rattle.fort_notes.specs.Assertions.{Notes, assertion_tree}
use Rattle.weight_calls.specs.Inside.{asserts_inside}
use Rattle.weight_calls.proofs.NoteTerms.{notes_none, notes_some}
use Rattle.weight_path.proofs.AssertFacts.{asserts_below}
use Rattle.weight_path.proofs.notes.asserts.Goals as goal

pub returns-in-Some-clause-asserts : goal.returns-in-Some-clause-asserts
returns-in-Some-clause-asserts c =
    let there : slice_get c.args.subject.now.scene.now.notes.now c.args.subject.now.number ≡ Some c.in-Some.spec.now = sym c.in-Some.ensures in
    ap (map (assertion_tree c.args.subject.now.pool.now)) c.as_slice.ensures
    ∙ sym (ap (λ (n : Notes). n.asserts) (notes_some c.args.subject.now.pool.now c.args.subject.now.scene.now.notes.now c.args.subject.now.number c.in-Some.spec.now there))

pub returns-in-Some-clause-inside : goal.returns-in-Some-clause-inside
returns-in-Some-clause-inside c =
    let there : slice_get c.args.subject.now.scene.now.notes.now c.args.subject.now.number ≡ Some c.in-Some.spec.now = sym c.in-Some.ensures in
    ap (asserts_inside (length c.args.subject.now.pool.now)) c.as_slice.ensures
    ∙ asserts_below (length c.args.subject.now.pool.now) c.args.subject.now.scene.now.notes.now c.args.subject.now.number c.in-Some.spec.now c.args.subject.now.notes_in there

pub returns-in-None-clause-asserts : goal.returns-in-None-clause-asserts
returns-in-None-clause-asserts c =
    let none : slice_get c.args.subject.now.scene.now.notes.now c.args.subject.now.number ≡ None = sym c.in-None.ensures in
    sym (ap (λ (n : Notes). n.asserts) (notes_none c.args.subject.now.pool.now c.args.subject.now.scene.now.notes.now c.args.subject.now.number none))
