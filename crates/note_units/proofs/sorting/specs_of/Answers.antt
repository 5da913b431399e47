use Rattle.std.proofs.Common.{◌∙◌, length}
use Rattle.std.proofs.lemmas.Iterator.Adapters.{YieldsList-from_vec}
use Rattle.std.proofs.lemmas.Iterator.Consumers.{YieldsList-end}
use Rattle.note_units.specs.Sorting.{AreEmpty}
use Rattle.note_units.proofs.Kept.{all_inside, all_said, inside_more, inside_none, sorted_more_noted, sorted_none, taken_all}
use Rattle.note_units.proofs.sorting.specs_of.Goals as goal

pub loop-note-init : goal.loop-note-init
loop-note-init c =
    let none : AreEmpty (length c.args.units.now) c.in-Ok.sorted = c.in-Ok.ensures in
    record {
      sorted = λ pool. sorted_none c.args.units.now pool c.in-Ok.sorted none;
      inside = λ pool h. inside_none pool (length c.args.units.now) c.in-Ok.sorted none;
    }

pub loop-note-preserved : goal.loop-note-preserved
loop-note-preserved c = record {
  sorted = λ pool. sorted_more_noted c.args.units.now pool c.loop-note.sorted c.put.new.sorted c.loop-note.yielded c.in-Some.note (c.in-Ok-put.ensures.puts pool) (c.loop-note.invariant.sorted pool);
  inside = λ pool. inside_more pool c.loop-note.sorted c.put.new.sorted c.loop-note.yielded c.in-Some.note (c.in-Ok-put.ensures.inside pool) (c.loop-note.invariant.inside pool);
}

pub returns-clause-says : goal.returns-clause-says
returns-clause-says c =
    let gives = c.into_iter-note-iterator.ensures.into_iter_gives in
    let all = YieldsList-end (YieldsList-from_vec c.args.noted.items gives.0 (gives.1 ∙ c.args.noted.ok.0)) c.loop-note.yielded _ c.loop-note.yielded_by c.next.result c.next.new.self c.in-None.is c.next.ensures.steps in
    all_said c.loop-note.sorted c.specs.result c.loop-note.yielded c.args.noted.items (taken_all c.loop-note.yielded c.args.noted.items all.0) c.specs.ensures c.args.units.now c.loop-note.invariant.sorted

pub returns-clause-inside : goal.returns-clause-inside
returns-clause-inside c =
    let gives = c.into_iter-note-iterator.ensures.into_iter_gives in
    let all = YieldsList-end (YieldsList-from_vec c.args.noted.items gives.0 (gives.1 ∙ c.args.noted.ok.0)) c.loop-note.yielded _ c.loop-note.yielded_by c.next.result c.next.new.self c.in-None.is c.next.ensures.steps in
    all_inside c.loop-note.sorted c.specs.result c.loop-note.yielded c.args.noted.items (taken_all c.loop-note.yielded c.args.noted.items all.0) c.specs.ensures c.loop-note.invariant.inside
