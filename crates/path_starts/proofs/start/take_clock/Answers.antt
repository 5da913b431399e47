use Rattle.std.proofs.Common.{◌≡◌, ◌∙◌, List, ap, length, map, refl, subst, sym}
use Rattle.formula.specs.Pool.{AllBelow}
use Rattle.formula.specs.declared.node.TermId.{TermId}
use Rattle.formula.proofs.Grown.{AllBelow-Grows, Grows-trans}
use Rattle.note_terms.proofs.Added.{trees_grow}
use Rattle.note_terms.specs.Stated.{Makes, at_least_0, trees_in}
use Rattle.path_starts.proofs.Begun.{start_known}
use Rattle.path_starts.proofs.Taken.{listed}
use Rattle.path_starts.specs.Starts.{told_by}
use Rattle.walk_state.proofs.Parts.{grew}
use Rattle.walk_state.specs.declared.walk.Walk.{Walk}
use Rattle.path_starts.proofs.start.take_clock.Goals as goal

pub note_terms-requires-clause-kept : goal.note_terms-requires-clause-kept
note_terms-requires-clause-kept c = c.requires.well.names

pub note_terms-requires-clause-entry : goal.note_terms-requires-clause-entry
note_terms-requires-clause-entry c = c.requires.start.framed.below

pub note_terms-requires-clause-ids : goal.note_terms-requires-clause-ids
note_terms-requires-clause-ids c = c.requires.start.inside

pub note_terms-requires-clause-known : goal.note_terms-requires-clause-known
note_terms-requires-clause-known c = start_known c.args.walk.now c.args.entry.now c.args.clock.now c.requires.start

pub at_least_zero-requires : goal.at_least_zero-requires
at_least_zero-requires c = subst (λ (ids : List TermId). AllBelow (length c.note_terms.new.pool) ids) (sym c.deref.ensures.value) c.in-Ok.ensures.known

pub take_all-requires-clause-well : goal.take_all-requires-clause-well
take_all-requires-clause-well c = (grew c.args.walk.now _ c.requires.well (Grows-trans _ _ _ c.in-Ok.ensures.grows c.in-Ok-at_least_zero.ensures.grows) refl refl refl).on.kept

pub take_all-requires-clause-facts : goal.take_all-requires-clause-facts
take_all-requires-clause-facts c = subst (λ (ids : List TermId). AllBelow (length c.at_least_zero.new.pool) ids) (sym c.deref-2.ensures.value) c.in-Ok-at_least_zero.ensures.known

pub returns-clause-on : goal.returns-clause-on
returns-clause-on c =
    let w0 = c.args.walk.now in
    let entry = c.args.entry.now in
    let p1 = c.note_terms.new.pool in
    let p2 = c.at_least_zero.new.pool in
    let w2 : Walk = record { pool = p2; names = w0.names; met = w0.met; calls = w0.calls; alloc = w0.alloc } in
    let ts = told_by w0 entry c.args.clock.now in
    let told : trees_in p1 c.in-Ok.told.items ≡ ts = c.in-Ok.ensures.is in
    let second = c.in-Ok-at_least_zero.ensures in
    let made : Makes w0.pool p2 c.in-Ok-at_least_zero.facts.items (map at_least_0 ts) = record {
      grows = Grows-trans w0.pool p1 p2 c.in-Ok.ensures.grows second.grows;
      known = second.known;
      is = second.is ∙ ap (map at_least_0) (ap (trees_in p1) c.deref.ensures.value ∙ told);
    } in
    let took = listed w0 w2 c.take_all.new.walk c.in-Ok-at_least_zero.facts.items c.deref-2.result.now (map at_least_0 ts) c.requires.well made refl refl refl c.deref-2.ensures.value c.take_all.ensures.on
    c.in-Ok-take_all.ensures.did in
    took.on

pub returns-clause-did : goal.returns-clause-did
returns-clause-did c =
    let w0 = c.args.walk.now in
    let entry = c.args.entry.now in
    let p1 = c.note_terms.new.pool in
    let p2 = c.at_least_zero.new.pool in
    let w2 : Walk = record { pool = p2; names = w0.names; met = w0.met; calls = w0.calls; alloc = w0.alloc } in
    let ts = told_by w0 entry c.args.clock.now in
    let told : trees_in p1 c.in-Ok.told.items ≡ ts = c.in-Ok.ensures.is in
    let second = c.in-Ok-at_least_zero.ensures in
    let made : Makes w0.pool p2 c.in-Ok-at_least_zero.facts.items (map at_least_0 ts) = record {
      grows = Grows-trans w0.pool p1 p2 c.in-Ok.ensures.grows second.grows;
      known = second.known;
      is = second.is ∙ ap (map at_least_0) (ap (trees_in p1) c.deref.ensures.value ∙ told);
    } in
    let took = listed w0 w2 c.take_all.new.walk c.in-Ok-at_least_zero.facts.items c.deref-2.result.now (map at_least_0 ts) c.requires.well made refl refl refl c.deref-2.ensures.value c.take_all.ensures.on
    c.in-Ok-take_all.ensures.did in
    let on = Grows-trans p1 p2 c.take_all.new.walk.pool second.grows c.take_all.ensures.on.grows in
    record {
      known = AllBelow-Grows p1 c.take_all.new.walk.pool c.in-Ok.told.items on c.in-Ok.ensures.known;
      is = trees_grow p1 c.take_all.new.walk.pool c.in-Ok.told.items on c.in-Ok.ensures.known ∙ told;
      did = took.did;
    }
