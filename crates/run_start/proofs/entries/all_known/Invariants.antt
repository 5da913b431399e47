use Rattle.std.proofs.Common.{◌≡◌, ◌&&◌, drop}
use Rattle.std.specs.Prelude.{is_some}
use Rattle.std.specs.List.{list_all}
use Rattle.unit_tables.specs.Tables.{told}
use Rattle.run_start.proofs.entries.all_known.Given as goal

abbrev pub invariant-loop-word : goal.invariant-loop-word
invariant-loop-word l = (l.all && list_all (λ x. is_some (told l.entities x)) (drop l.word-index l.words)) ≡ list_all (λ x. is_some (told l.entities x)) l.words
