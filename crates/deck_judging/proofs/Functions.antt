-- Definitions stay the same where their pool grows.
use Rattle.std.proofs.Common.{◌≡◌, List, [], ◌∷◌, refl, ap, ◌∙◌}
use Rattle.std.specs.List.{All}
use Rattle.std.proofs.lemmas.List.Elements.{All-head, All-tail, All-weaker}
use Rattle.formula.specs.Adding.{IsBodyIn}
use Rattle.formula.specs.Pool.{Grows, tree_of}
use Rattle.formula.specs.Worth.{Function, FunctionBody, plain, counting, body_of, function_of, functions_of}
use Rattle.formula.specs.declared.definition.Body.{Body}
use Rattle.formula.specs.declared.definition.Body.TheVariants.{Plain, Counting}
use Rattle.formula.specs.declared.definition.Definition.{Definition}
use Rattle.formula.specs.declared.node.Node.{Node}
use Rattle.formula.specs.Tree.{Tree}
use Rattle.formula.proofs.Grown.{IsIn-Grows, tree_of-Grows}
use Rattle.event_text.specs.Conditions.{IsDefinitionIn}

module _ (old new : List Node) (g : Grows old new) where
  body_stays : (b : Body) → IsBodyIn old b → IsBodyIn new b
  body_stays (Plain t) h = IsIn-Grows old new t g h
  body_stays (Counting base step) h = (IsIn-Grows old new base g h.0, IsIn-Grows old new step g h.1)

  pub bodies_stay : (ds : List Definition) → All (IsDefinitionIn old) ds → All (IsDefinitionIn new) ds
  bodies_stay ds h = All-weaker (IsDefinitionIn old) (IsDefinitionIn new) (λ d inside. body_stays d.body inside) ds h

  body_same : (b : Body) → IsBodyIn old b → body_of new b ≡ body_of old b
  body_same (Plain t) h = ap plain (tree_of-Grows old new t g h)
  body_same (Counting base step) h =
      ap (λ (t : Tree). counting t (tree_of new step)) (tree_of-Grows old new base g h.0)
      ∙ ap (λ (t : Tree). counting (tree_of old base) t) (tree_of-Grows old new step g h.1)

  function_same : (d : Definition) → IsDefinitionIn old d → function_of new d ≡ function_of old d
  function_same d h = ap (λ (b : FunctionBody). record { name = d.name; params = d.params; body = b }) (body_same d.body h)

  pub functions_same : (ds : List Definition) → All (IsDefinitionIn old) ds → functions_of new ds ≡ functions_of old ds
  functions_same [] h = refl
  functions_same (d ∷ ds) h =
      ap (λ (f : Function). f ∷ functions_of new ds) (function_same d (All-head (IsDefinitionIn old) d ds h))
      ∙ ap (λ (fs : List Function). function_of old d ∷ fs) (functions_same ds (All-tail (IsDefinitionIn old) d ds h))
