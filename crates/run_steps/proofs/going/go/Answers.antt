use Rattle.run_steps.proofs.going.go.Goals as goal

pub proceed-requires : goal.proceed-requires
proceed-requires c = record {
  coded = c.requires.runnable.coded;
  ranked = c.requires.runnable.ranked;
  sized = c.requires.runnable.sized;
  most = c.requires.room.most;
  room = c.requires.room.room;
  own_within = c.requires.room.own_within;
}

pub returns-clause-kept : goal.returns-clause-kept
returns-clause-kept c = record { most = c.proceed.ensures.can.most; room = c.proceed.ensures.can.room; own_within = c.proceed.ensures.can.own_within }
