use Rattle.unit_stages.proofs.Joined.{none_before, one_more, all_before, kept_by_all}
use Rattle.unit_stages.proofs.laws.first_of_units.Goals as goal

pub returns-clause-none : goal.returns-clause-none
returns-clause-none c = none_before

pub returns-clause-more : goal.returns-clause-more
returns-clause-more c = one_more

pub returns-clause-whole : goal.returns-clause-whole
returns-clause-whole c = all_before

pub returns-clause-kept : goal.returns-clause-kept
returns-clause-kept c = kept_by_all
