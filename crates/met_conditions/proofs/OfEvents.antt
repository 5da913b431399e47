-- Conditions of a pool are those of events.
use Rattle.std.proofs.Common.{◌≡◌, ℕ, zero, suc, ◌<◌, arith, List, [], ◌∷◌, ◌++◌, length, map, refl, ap, ◌∙◌}
use Rattle.std.specs.List.{All}
use Rattle.std.proofs.lemmas.List.Elements.{All-nil}
use Rattle.event_text.specs.Conditions.{IsConditionIn, condition_tree}
use Rattle.formula.specs.Pool.{AllBelow, tree_of}
use Rattle.formula.specs.Tree.{Tree}
use Rattle.formula.specs.declared.node.Node.{Node}
use Rattle.formula.specs.declared.node.TermId.{TermId}
use Rattle.fort_model.specs.Conditions.{conditions_from}
use Rattle.fort_syntax.specs.Conditions.{ConditionTree}
use Rattle.fort_syntax.specs.declared.condition.Condition.{Condition}
use Rattle.fort_syntax.specs.declared.name.Name.{Name}
use Rattle.met_conditions.specs.Laws.{ConditionsAreIn, ConditionsAreOfEvents}
use Rattle.met_conditions.specs.Numbered.{condition_of, conditions_at}
use Rattle.walk_state.specs.Moments.{AreMet, events_in}
use Rattle.walk_state.specs.declared.walk.Met.{Met}
use Rattle.walk_state.specs.declared.walk.Met.TheVariants.{Check, Take}

map_behind : (nodes : List Node) (ids : List TermId) (id : TermId) → map (tree_of nodes) (ids ++ id ∷ []) ≡ map (tree_of nodes) ids ++ tree_of nodes id ∷ []
map_behind nodes [] id = refl
map_behind nodes (x ∷ ids) id = ap (λ (ts : List Tree). tree_of nodes x ∷ ts) (map_behind nodes ids id)

of_events : (nodes : List Node) (unit : Name) (path k : ℕ) (hyps : List TermId) (ms : List Met)
    → map (condition_tree nodes) (conditions_at unit path k hyps ms) ≡ conditions_from unit path (suc k) (map (tree_of nodes) hyps) (events_in nodes ms)
of_events nodes unit path k hyps [] = refl
of_events nodes unit path k hyps (Check kind card goal ∷ ms) =
    ap (λ (cs : List ConditionTree). condition_tree nodes (condition_of unit path (suc k) hyps kind card goal) ∷ cs)
    (of_events nodes unit path (suc k) (hyps ++ goal ∷ []) ms ∙ ap (λ (hs : List Tree). conditions_from unit path (suc (suc k)) hs (events_in nodes ms)) (map_behind nodes hyps goal))
of_events nodes unit path k hyps (Take fact ∷ ms) =
    of_events nodes unit path k (hyps ++ fact ∷ []) ms ∙ ap (λ (hs : List Tree). conditions_from unit path (suc k) hs (events_in nodes ms)) (map_behind nodes hyps fact)

pub conditions_are_of_events : ConditionsAreOfEvents
conditions_are_of_events nodes unit path ms = of_events nodes unit path 0 [] ms

below_behind : (n : ℕ) (ids : List TermId) (id : TermId) → AllBelow n ids → id.place < n → AllBelow n (ids ++ id ∷ [])
below_behind n [] id h k = (k, tt)
below_behind n (x ∷ ids) id h k = (h.0, below_behind n ids id h.1 k)

all_cons : (P : Condition → Type 0) (c : Condition) (cs : List Condition) → P c → All P cs → All P (c ∷ cs)
all_cons P c cs h t zero d lt = h
all_cons P c cs h t (suc k) d lt = t k d (omega arith)

all_in : (nodes : List Node) (unit : Name) (path k : ℕ) (hyps : List TermId) (ms : List Met) → AllBelow (length nodes) hyps → AreMet (length nodes) ms
    → All (IsConditionIn nodes) (conditions_at unit path k hyps ms)
all_in nodes unit path k hyps [] b h = All-nil (IsConditionIn nodes)
all_in nodes unit path k hyps (Check kind card goal ∷ ms) b h =
    all_cons (IsConditionIn nodes) (condition_of unit path (suc k) hyps kind card goal) (conditions_at unit path (suc k) (hyps ++ goal ∷ []) ms) (b, h.0)
    (all_in nodes unit path (suc k) (hyps ++ goal ∷ []) ms (below_behind (length nodes) hyps goal b h.0) h.1)
all_in nodes unit path k hyps (Take fact ∷ ms) b h = all_in nodes unit path k (hyps ++ fact ∷ []) ms (below_behind (length nodes) hyps fact b h.0) h.1

pub conditions_are_in : ConditionsAreIn
conditions_are_in nodes unit path ms h = all_in nodes unit path 0 [] ms tt h
