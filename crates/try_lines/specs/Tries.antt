-- What TRY cards come to.
use Rattle.std.specs.Prelude.{ℕ, suc, Bool, cond, if◌then◌else◌, List, [], ◌∷◌, ◌++◌, Option, Some, None, codes, decimal}
use Rattle.formula.specs.Atoms.{same_bytes}
use Rattle.formula.specs.Bounded.{Outcome, got, beyond, spent, bounded}
use Rattle.formula.specs.Tree.{Tree, truth, apply, none, more, tree_row}
use Rattle.formula.specs.Values.{holds}
use Rattle.formula.specs.Worth.{Function, assigned, nothing_known}
use Rattle.formula.specs.declared.function.BuiltIn.TheVariants.{And, Implies}
use Rattle.formula.specs.declared.function.Func.TheVariants.{BuiltIn}
use Rattle.formula.specs.declared.value.Value.{Value}
use Rattle.fort_syntax.specs.Conditions.{ConditionTree}
use Rattle.fort_notes.specs.declared.cases.TryCard.{TryCard}
use Rattle.event_text.specs.EventText.{lemma_name}
use Rattle.try_lines.specs.Verdicts.{verdict_word}
use Rattle.try_lines.specs.declared.verdict.Verdict.{Verdict}
use Rattle.try_lines.specs.declared.verdict.Verdict.TheVariants.{True, False, Beyond, Spent, Unknown}

-- the term of hypotheses, as text has it: T stands where there is none
abbrev pub hyps_term : List Tree → Tree
hyps_term [] = truth Bool.true
hyps_term (h ∷ hs) = apply (BuiltIn And) (tree_row (h ∷ hs))

-- the term of a condition: the hypotheses imply the goal
abbrev pub condition_term : ConditionTree → Tree
condition_term c = apply (BuiltIn Implies) (more (hyps_term c.hyps) (more c.goal none))

-- the first condition of a name
abbrev pub named : List ℕ → List ConditionTree → Option ConditionTree
named w [] = None
named w (c ∷ cs) = cond (same_bytes (lemma_name c) w) (Some c) (named w cs)

-- each value but F counts as true
abbrev pub verdict_of : Outcome Value → Verdict
verdict_of (got v turns) = if holds v then True else False
verdict_of beyond = Beyond
verdict_of spent = Spent

-- the term of a condition, with values for symbols and 10,000 turns
abbrev pub tried : List Function → Option ConditionTree → List (List ℕ × Value) → Verdict
tried fs None sheet = Unknown
tried fs (Some c) sheet = verdict_of (bounded fs (assigned sheet) nothing_known (condition_term c) 10000)

-- `TRY 1 FALSE`: the number of a card, and what its condition comes to
abbrev pub line_of : ℕ → Verdict → List ℕ
line_of n v = codes "TRY " ++ decimal n ++ codes " " ++ verdict_word v ++ codes "\n"

-- a line for each card, the first of which has the number n
abbrev pub try_text : List Function → List ConditionTree → ℕ → List TryCard → List ℕ
try_text fs cs n [] = []
try_text fs cs n (card ∷ cards) = line_of n (tried fs (named card.lemma cs) card.sheet) ++ try_text fs cs (suc n) cards
