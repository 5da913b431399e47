use Rattle.std.proofs.Common.{◌≡◌, drop, map}
use Rattle.fort_syntax.specs.Misspelled.{first_word}
use Rattle.stmt_parse.specs.Stems.{stem_text}
use Rattle.stmt_parse.proofs.stems.first_stem.Given as goal

-- no word before this one begins the text
abbrev pub invariant-loop-stem : goal.invariant-loop-stem
invariant-loop-stem l = first_word (map stem_text (drop l.stem-index l.stems)) l.text ≡ first_word (map stem_text l.stems) l.text
