-- How far a text was read: what its lines give, and what stands behind them.
use Rattle.std.specs.Prelude.{ℕ, ◌≡◌, true, List, [], ◌++◌, length}
use Rattle.std.specs.List.{All, flat_map, list_all, zip}
use Rattle.formula.specs.declared.definition.Heading.{Heading}
use Rattle.formula.specs.Worth.{Function}
use Rattle.fort_syntax.specs.Conditions.{ConditionTree}
use Rattle.event_text.specs.EventText.{asked_line, condition_line, definition_line, names_of}
use Rattle.event_text.specs.Readable.{body_term, is_mark, AreReadableAfter, IsAsked, IsReadableCondition}
use Rattle.event_reading.specs.Lines.{counted}
use Rattle.event_reading.specs.Names.{heading_names}

-- a definition that counts wherever its term is that of one that counts
abbrev pub IsCounting : Function → Type 0
IsCounting d = d.body ≡ counted d.params (body_term d.params d.body)

-- lines of definitions, whatever the names of further ones
pub record AreDefinitions (text : List ℕ) (ds : List Function) (rest : List ℕ) : Type 0 where
  pub readable : AreReadableAfter [] ds
  pub counting : All IsCounting ds
  pub is : (later : List (List ℕ)) → text ≡ flat_map (definition_line (names_of ds ++ later)) ds ++ rest

-- lines of conditions with marks
pub record AreConditions (hs : List Heading) (text : List ℕ) (cs : List ConditionTree) (ls : List ℕ)
    (rest : List ℕ) : Type 0 where
  pub readable : All (IsReadableCondition hs) cs
  pub count : length ls ≡ length cs
  pub letters : list_all is_mark ls ≡ true
  pub is : text ≡ flat_map (λ p. condition_line (heading_names hs) p.0 p.1) (zip cs ls) ++ rest

-- lines of provers
pub record AreAsked (text : List ℕ) (qs : List (ℕ × ℕ)) (rest : List ℕ) : Type 0 where
  pub asked : All IsAsked qs
  pub is : text ≡ flat_map asked_line qs ++ rest
