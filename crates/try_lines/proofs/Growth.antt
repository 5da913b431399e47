-- What stays where a pool grows.
use Rattle.std.proofs.Common.{◌≡◌, List, [], ◌∷◌, length, map, refl, ap, ◌∙◌}
use Rattle.std.specs.List.{All}
use Rattle.std.proofs.lemmas.List.Elements.{All-head, All-tail, All-weaker}
use Rattle.formula.proofs.Added.{added-Grows, added_sound, body_of-Grows}
use Rattle.formula.proofs.Grown.{AllBelow-Grows, IsIn-Grows, tree_of-Grows}
use Rattle.formula.specs.Adding.{AreAdded, AreBodiesIn}
use Rattle.formula.specs.Pool.{AllBelow, Grows, tree_of}
use Rattle.formula.specs.Worth.{Function, FunctionBody, functions_of, function_of}
use Rattle.formula.specs.declared.definition.Definition.{Definition}
use Rattle.formula.specs.declared.node.Node.{Node}
use Rattle.formula.specs.declared.node.TermId.{TermId}
use Rattle.fort_syntax.specs.declared.condition.Condition.{Condition}
use Rattle.event_text.specs.Conditions.{IsConditionIn, condition_tree}

module _ (old new : List Node) (g : Grows old new) where
  same_functions : (ds : List Definition) → AreBodiesIn old ds → functions_of new ds ≡ functions_of old ds
  same_functions [] h = refl
  same_functions (d ∷ ds) h =
      ap (λ (b : FunctionBody). (record { name = d.name; params = d.params; body = b }) ∷ functions_of new ds) (body_of-Grows old new d.body g h.0)
      ∙ ap (λ (fs : List Function). function_of old d ∷ fs) (same_functions ds h.1)

  pub functions_same : (ds : List Definition) → AreAdded old ds → functions_of new ds ≡ functions_of old ds
  functions_same ds h = same_functions ds (added_sound old ds h).0

  pub added_grows : (ds : List Definition) → AreAdded old ds → AreAdded new ds
  added_grows ds h = added-Grows old new ds g h

  inside_grows : (c : Condition) → IsConditionIn old c → IsConditionIn new c
  inside_grows c h = (AllBelow-Grows old new c.hyps g h.0, IsIn-Grows old new c.goal g h.1)

  pub conditions_in : (cs : List Condition) → All (IsConditionIn old) cs → All (IsConditionIn new) cs
  conditions_in cs h = All-weaker (IsConditionIn old) (IsConditionIn new) inside_grows cs h

  hyps_same : (ids : List TermId) → AllBelow (length old) ids → map (tree_of new) ids ≡ map (tree_of old) ids
  hyps_same [] h = refl
  hyps_same (id ∷ ids) h = λ i. tree_of-Grows old new id g h.0 i ∷ hyps_same ids h.1 i

  tree_same : (c : Condition) → IsConditionIn old c → condition_tree new c ≡ condition_tree old c
  tree_same c h = λ i. record {
    unit = c.unit;
    path = c.path;
    check = c.check;
    kind = c.kind;
    card = c.card;
    hyps = hyps_same c.hyps h.0 i;
    goal = tree_of-Grows old new c.goal g h.1 i;
  }

  pub trees_same : (cs : List Condition) → All (IsConditionIn old) cs → map (condition_tree new) cs ≡ map (condition_tree old) cs
  trees_same [] h = refl
  trees_same (c ∷ cs) h =
      λ i. tree_same c (All-head (IsConditionIn old) c cs h) i ∷ trees_same cs (All-tail (IsConditionIn old) c cs h) i
