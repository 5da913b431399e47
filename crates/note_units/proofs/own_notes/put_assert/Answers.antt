use Rattle.std.proofs.Common.{◌≡◌, ◌<◌, ◌-◌, length, suc, inl, inr, arith}
use Rattle.note_reading.specs.declared.note_form.NoteForm.TheVariants as note
use Rattle.note_units.specs.Sorting.{note_tree}
use Rattle.note_units.proofs.Units.{assert_in_pool, assert_put, no_unit}
use Rattle.note_units.proofs.own_notes.put_assert.Goals.{then-at-eq0-via-then-at-eq0, then-at-eq0-via-else-at-eq0+then-len-at}
use Rattle.note_units.proofs.own_notes.put_assert.Goals as goal

pub returns-then-at-eq0-clause-units : goal.returns-then-at-eq0-clause-units
returns-then-at-eq0-clause-units c pool d =
    no_unit pool c.args.units.now.items (note_tree pool c.args.unit c.args.assert.line c.args.assert.card (note.Assertion (record { terms = c.args.assert.terms; has_clock = d; clock = c.args.assert.clock })))
    (elim c.then-at-eq0.branch [
      | then-at-eq0-via-then-at-eq0 w ↦ inl w.if-at-eq0.true
      | then-at-eq0-via-else-at-eq0+then-len-at w ↦ inr (omega (arith, w.len.ensures, w.if-len-at.true))
    ])

pub returns-clause-units : goal.returns-clause-units
returns-clause-units c pool d =
    let lt : c.args.unit - 1 < length c.args.units.now.items = omega (arith, c.if-at-eq0.false, c.if-len-at.false, c.len.ensures) in
    let is : c.args.unit ≡ suc (c.args.unit - 1) = omega (arith, c.if-at-eq0.false) in
    assert_put pool c.args.units.now.items c.args.unit (c.args.unit - 1) c.args.assert d c.add_assert.new.asserts c.index_mut-own.result.now lt is c.index_mut-own.ensures.value c.in-Ok.ensures

pub returns-clause-inside : goal.returns-clause-inside
returns-clause-inside c n b h =
    let lt : c.args.unit - 1 < length c.args.units.now.items = omega (arith, c.if-at-eq0.false, c.if-len-at.false, c.len.ensures) in
    assert_in_pool n c.args.units.now.items (c.args.unit - 1) c.args.assert c.add_assert.new.asserts c.index_mut-own.result.now lt c.index_mut-own.ensures.value c.in-Ok.ensures b h
