use Rattle.std.proofs.Common.{◌≡◌, ◌++◌, List, length, OnOk, slice_get, slice_index_or, refl, ap, ◌∙◌, subst}
use Rattle.std.proofs.lemmas.Option.{slice_get_past, slice_get_read}
use Rattle.run_state.specs.declared.machine.Extent.{Extent}
use Rattle.run_eval.specs.declared.entries.Entry.{Entry}
use Rattle.run_eval.proofs.Listed.{none_found, some_found}
use Rattle.run_eval.proofs.entries.add_found.Goals as goal

pub returns-in-Some : goal.returns-in-Some
returns-in-Some c =
    let names = c.args.names.now in
    let es = c.args.state.now.extents.items in
    subst (λ (l : List Entry). OnOk c.add.result (c.add.new.entries.items ≡ c.args.entries.now.items ++ l))
    (some_found (slice_get names c.args.place) c.in-Some.name.now c.item_or.result _
    (slice_get_read names (length names) c.args.place c.in-Some.name.now refl c.in-Some.ensures.lookup.3.0 c.in-Some.ensures.lookup.1)
    (c.item_or.ensures ∙ ap (λ (d : Extent). slice_index_or es c.args.place d) c.no_cells.ensures))
    c.add.ensures

pub returns-in-None : goal.returns-in-None
returns-in-None c = none_found c.args.entries.now.items (slice_get c.args.names.now c.args.place) _ (slice_get_past c.args.names.now c.args.place c.in-None.ensures.lookup.3)
