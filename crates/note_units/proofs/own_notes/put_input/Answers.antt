use Rattle.std.proofs.Common.{◌≡◌, ◌<◌, ◌-◌, length, suc, inl, inr, arith}
use Rattle.note_reading.specs.declared.note_form.NoteForm.TheVariants as note
use Rattle.note_units.specs.Sorting.{note_tree}
use Rattle.note_units.proofs.Units.{input_in_pool, input_put, no_unit}
use Rattle.note_units.proofs.own_notes.put_input.Goals.{then-at-eq0-via-then-at-eq0, then-at-eq0-via-else-at-eq0+then-len-at}
use Rattle.note_units.proofs.own_notes.put_input.Goals as goal

pub returns-then-at-eq0-clause-units : goal.returns-then-at-eq0-clause-units
returns-then-at-eq0-clause-units c pool line card =
    no_unit pool c.args.units.now.items (note_tree pool c.args.unit line card (note.Input c.args.terms))
    (elim c.then-at-eq0.branch [
      | then-at-eq0-via-then-at-eq0 w ↦ inl w.if-at-eq0.true
      | then-at-eq0-via-else-at-eq0+then-len-at w ↦ inr (omega (arith, w.len.ensures, w.if-len-at.true))
    ])

pub returns-clause-units : goal.returns-clause-units
returns-clause-units c pool line card =
    let lt : c.args.unit - 1 < length c.args.units.now.items = omega (arith, c.if-at-eq0.false, c.if-len-at.false, c.len.ensures) in
    let is : c.args.unit ≡ suc (c.args.unit - 1) = omega (arith, c.if-at-eq0.false) in
    input_put pool c.args.units.now.items c.args.unit line card (c.args.unit - 1) c.args.terms c.add_terms.new.terms c.index_mut-own.result.now lt is c.index_mut-own.ensures.value c.in-Ok.ensures

pub returns-clause-inside : goal.returns-clause-inside
returns-clause-inside c n b h =
    let lt : c.args.unit - 1 < length c.args.units.now.items = omega (arith, c.if-at-eq0.false, c.if-len-at.false, c.len.ensures) in
    input_in_pool n c.args.units.now.items (c.args.unit - 1) c.args.terms c.add_terms.new.terms c.index_mut-own.result.now lt c.index_mut-own.ensures.value c.in-Ok.ensures b h
