-- Where paths are weighed.
use Rattle.std.specs.Prelude.{ℕ}
use Rattle.fort_model.specs.WalkCalls.{Sight}
use Rattle.weight_tallies.specs.Tallies.{weighed_at}
use Rattle.weight_calls.specs.Programs.{seen_program}
use Rattle.weight_calls.specs.declared.subject.Subject.{Subject}

-- where a subject is weighed
abbrev pub sight_of : Subject → Sight ℕ
sight_of s = weighed_at (seen_program s.pool.now s.scene.now) s.number s.book.now.unit.now
