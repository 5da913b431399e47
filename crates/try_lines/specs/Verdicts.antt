-- The words for what conditions come to.
use Rattle.std.specs.Prelude.{ℕ, List, codes}
use Rattle.try_lines.specs.declared.verdict.Verdict.{Verdict}
use Rattle.try_lines.specs.declared.verdict.Verdict.TheVariants.{True, False, Beyond, Spent, Unknown}

abbrev pub verdict_word : Verdict → List ℕ
verdict_word True = codes "TRUE"
verdict_word False = codes "FALSE"
verdict_word Beyond = codes "BEYOND"
verdict_word Spent = codes "SPENT"
verdict_word Unknown = codes "UNKNOWN"
