use Rattle.std.proofs.Common.{◌≡◌, Err, length, refl, ap}
use Rattle.fort_syntax.specs.declared.refusal.Refusal.TheVariants.{Broken}
use Rattle.deck_judging.proofs.Faults.{scene_fault}
use Rattle.deck_judging.proofs.Scenes.{are_conditions, found_program, is_aliased}
use Rattle.deck_judging.proofs.deck.judged_books.Goals as goal

pub conditions_of_scene-found-requires : goal.conditions_of_scene-found-requires
conditions_of_scene-found-requires c =
    let known = c.args.known in
    record {
      aliased = (
        found_program known.dialect c.args.deck.now known.noted.pool known.noted.definitions known.noted.specs known.smashes.items,
        is_aliased known.dialect c.args.deck.now known.noted.pool known.noted.definitions known.noted.specs known.smashes.items c.requires.well c.requires.notes
            (record { dialect = known.dialect; bound = known.noted.specs.bound; books = c.args.books; notes = c.as_slice.result; smashes = c.as_slice-2.result })
            refl refl c.requires.books c.as_slice.ensures c.as_slice-2.ensures.value c.requires.calls c.requires.smashing c.requires.short,
      );
    }

pub returns-in-Ok-clause-judged : goal.returns-in-Ok-clause-judged
returns-in-Ok-clause-judged c =
    let known = c.args.known in
    let p = found_program known.dialect c.args.deck.now known.noted.pool known.noted.definitions known.noted.specs known.smashes.items in
    let a =
    is_aliased known.dialect c.args.deck.now known.noted.pool known.noted.definitions known.noted.specs known.smashes.items c.requires.well c.requires.notes
    (record { dialect = known.dialect; bound = known.noted.specs.bound; books = c.args.books; notes = c.as_slice.result; smashes = c.as_slice-2.result })
    refl refl c.requires.books c.as_slice.ensures c.as_slice-2.ensures.value c.requires.calls c.requires.smashing c.requires.short in
    are_conditions known.dialect c.args.deck.now known.noted.pool known.noted.definitions known.noted.specs known.smashes.items c.requires.well c.requires.notes
    c.in-Ok.field-0.pool c.in-Ok.field-0.conditions c.in-Ok.field-0.paths (length c.as_slice-in-Ok.result.now) (ap length c.as_slice-in-Ok.ensures) c.requires.table c.requires.calls c.requires.smashing
    known.order c.requires.known_calls (c.in-Ok.ensures.kept p a) (c.in-Ok.ensures.conditions p a) c.in-Ok.ensures.grows c.in-Ok.ensures.inside

pub returns-in-Err-clause-broken : goal.returns-in-Err-clause-broken
returns-in-Err-clause-broken c f q =
    let known = c.args.known in
    let same : c.in-Err.refusal ≡ Broken f = cc in
    let p = found_program known.dialect c.args.deck.now known.noted.pool known.noted.definitions known.noted.specs known.smashes.items in
    let a =
    is_aliased known.dialect c.args.deck.now known.noted.pool known.noted.definitions known.noted.specs known.smashes.items c.requires.well c.requires.notes
    (record { dialect = known.dialect; bound = known.noted.specs.bound; books = c.args.books; notes = c.as_slice.result; smashes = c.as_slice-2.result })
    refl refl c.requires.books c.as_slice.ensures c.as_slice-2.ensures.value c.requires.calls c.requires.smashing c.requires.short in
    scene_fault known.dialect c.args.deck.now known.noted.pool known.noted.definitions known.noted.specs c.requires.well c.requires.notes f known.smashes.items
    c.requires.table c.requires.calls c.requires.smashing (c.in-Err.ensures.broken f (ap Err same) p a)
