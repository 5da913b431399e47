-- What was read of a text.
use Rattle.std.specs.Prelude.{ℕ, ◌≡◌, Some, None, List, [], ◌∷◌, ◌++◌, map}
use Rattle.std.specs.List.{All}
use Rattle.formula.specs.declared.definition.Definition.{Definition}
use Rattle.formula.specs.declared.node.Node.{Node}
use Rattle.formula.specs.declared.definition.Heading.{Heading}
use Rattle.formula.specs.Adding.{AreAdded}
use Rattle.formula.specs.Headings.{headings_of}
use Rattle.formula.specs.Worth.{function_of}
use Rattle.fort_syntax.specs.declared.condition.Condition.{Condition}
use Rattle.event_text.specs.Conditions.{condition_tree, IsConditionIn}
use Rattle.event_reading.specs.Fronts.{AreAsked, AreConditions, AreDefinitions}
use Rattle.event_reading.specs.Lines.{asked_at, condition_at, definition_at}

-- one more definition was read, which is that of the text
pub record ReadsDefinition (pool : List Node) (old new : List Definition) (text rest : List ℕ) : Type 0 where
  pub read : Definition
  pub is : new ≡ old ++ read ∷ []
  pub gives : definition_at (headings_of old) text ≡ Some (function_of pool read, rest)

-- all definitions that begin a text were read
pub record ReadsDefinitions (pool : List Node) (text : List ℕ) (ds : List Definition) (rest : List ℕ) : Type 0 where
  pub lines : AreDefinitions text (map (function_of pool) ds) rest
  pub none : definition_at (headings_of ds) rest ≡ None
  pub added : AreAdded pool ds

-- all conditions that begin a text were read, with their marks
pub record ReadsConditions (pool : List Node) (hs : List Heading) (text : List ℕ) (cs : List Condition)
    (ls : List ℕ) (rest : List ℕ) : Type 0 where
  pub lines : AreConditions hs text (map (condition_tree pool) cs) ls rest
  pub none : condition_at hs rest ≡ None
  pub inside : All (IsConditionIn pool) cs

-- the counts of all provers that begin a text were read
pub record ReadsAsked (text : List ℕ) (qs : List (ℕ × ℕ)) (rest : List ℕ) : Type 0 where
  pub lines : AreAsked text qs rest
  pub none : asked_at rest ≡ None
