use Rattle.std.proofs.Common.{ap, ◌∙◌}
use Rattle.path_sizes.specs.Weights.{all_one}
use Rattle.weight_calls.specs.Subjects.{sight_of}
use Rattle.weight_terms.specs.Held.{held}
use Rattle.weight_tallies.specs.Tallied.{all}
use Rattle.weight_tallies.specs.Tallies as tally
use Rattle.weight_path.specs.Noted.{own_weights}
use Rattle.weight_path.proofs.Parts.{entry_is}
use Rattle.weight_path.proofs.starts.entry_weight.Goals as goal

pub returns : goal.returns
returns c =
    entry_is (sight_of c.args.subject.now) c.as_slice.result.now (own_weights c.args.subject.now all_one c.input-input.result.now) c.count_of-count.result c.plus-known.result c.in-Ok.sum c.plus.result
    c.as_slice.ensures
    (ap (λ ts. tally.told (sight_of c.args.subject.now) all_one ts) c.input-input.ensures.terms)
    c.count_of-count.ensures c.plus-known.ensures
    (c.in-Ok.ensures ∙ ap (λ ns. all (own_weights c.args.subject.now (held ns) c.input-input.result.now)) c.new-ones.ensures) c.plus.ensures
