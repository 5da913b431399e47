-- A program with a loop meets all that soundness wants.
use Rattle.std.proofs.Common.{◌≡◌, ℕ, zero, suc, true, ◌&&◌, ℤ, pos, neg_ℤ, ◌-ℤ◌, List, [], ◌∷◌, Some, slice_get, refl, sym, ap, ◌∙◌, subst, arith}
use Rattle.std.specs.Prelude.{int_le, codes}
use Rattle.fort_syntax.specs.SmallDecks.{bin, N}
use Rattle.formula.specs.declared.function.BuiltIn.TheVariants.{And, Not}
use Rattle.formula.specs.declared.value.Value.{Value}
use Rattle.formula.specs.declared.value.Value.TheVariants.{Int}
use Rattle.formula.specs.Tree.{Tree, num as numeral}
use Rattle.formula.specs.Values.{num, same_value}
use Rattle.formula.specs.Worth.{Valuation}
use Rattle.fort_syntax.specs.WellFormed.{IsWellFormedUnit}
use Rattle.fort_syntax.specs.declared.dialect.BinOp.TheVariants.{Sub}
use Rattle.fort_syntax.specs.declared.dialect.Dialect.TheVariants.{Common}
use Rattle.fort_syntax.specs.declared.expr.Expr.TheVariants.{Const, Var}
use Rattle.fort_syntax.specs.declared.stmt.Stmt.TheVariants.{Assign}
use Rattle.fort_model.specs.CheckRows.{from_assert, less, difference}
use Rattle.fort_model.specs.ConditionRows.{start, is_defined, is_equal, is_integer}
use Rattle.fort_model.specs.Conditions.{AreAllPaths, conditions_of}
use Rattle.fort_model.specs.Decks.{line}
use Rattle.fort_model.specs.Fitting.{FitsAssertion, HasFittingNotes}
use Rattle.fort_model.specs.Lists.{IsAmong}
use Rattle.fort_model.specs.Paths.{Path, ArePathsInOrder, IsPath, IsWay, is_path_from}
use Rattle.fort_notes.specs.Assertions.{Assertion, Notes}
use Rattle.fort_model.specs.Program.{notes_of}
use Rattle.fort_model.specs.Rules.{KeepsRules}
use Rattle.fort_model.specs.Smashes.{Smashes, HoldsSmashed, sets}
use Rattle.fort_model.specs.WalkRows.{term, number, at_most, LEAST, GREATEST, the_path}
use Rattle.fort_laws.specs.Witnesses.{down, down_program, LoopMeetsPremises}
use Rattle.fort_laws.proofs.Exact.{conditions_are_exact}
use Rattle.fort_laws.proofs.InRange.{below_greatest}
use Rattle.fort_laws.proofs.Small.{both_hold}
use Rattle.fort_laws.proofs.WitnessLists.{at_each, ◌also◌}
use Rattle.fort_laws.proofs.WitnessNotes.{notes_fit}
use Rattle.fort_laws.proofs.WitnessRules.{rules_are_kept, leads_lower}
use Rattle.fort_laws.proofs.WitnessSmashes.{table_is_right}
use Rattle.fort_laws.proofs.WitnessWorths.{IsTrueBy, Follows, AllFollow, all_valid, stands, IsInteger, integer, zero_is, still_natural, still_below, above_least, less_by_one}

unit_well_formed : IsWellFormedUnit Common down
unit_well_formed = record { names = refl; held = refl; data_names = refl; roles = refl; functions = refl; dimensions = refl; blocks = refl; statements = refl; order = refl; cards = refl; result = refl }

abbrev notes : Notes
notes = notes_of down_program 0

assertion_fits : (k : ℕ) (a : Assertion) → slice_get notes.asserts k ≡ Some a → FitsAssertion down notes a
assertion_fits = at_each notes.asserts (λ k a. FitsAssertion down notes a) (record { terms = refl; clock = refl; stands = omega arith; only = refl } also tt)

fitting : HasFittingNotes down_program
fitting = notes_fit down_program refl (record { input = refl; output = refl; asserts = λ a m. assertion_fits m.0 a m.1 } also tt)

-- from the assignment to the GO TO, and from there to the ASSERT
abbrev rank : ℕ → ℕ
rank zero = 0
rank (suc zero) = 2
rank (suc (suc pc)) = 1

keeps : KeepsRules down_program
keeps =
    rules_are_kept down_program (refl also tt) rank
    (((λ cs q cut e. absurd (cc)) also leads_lower rank 2 1 (omega arith) also leads_lower rank 0 2 (omega arith) also tt) also tt)

sets_n : Smashes (down ∷ []) 0 N
sets_n = sets down (line 6 (Assign (Var N) (bin Sub (Var N) (Const 1)))) refl (1, refl) (0, refl)

table : HoldsSmashed down_program
table = table_is_right down_program (refl also tt) ((sets_n also tt) also tt)

-- ---- paths

-- to the ASSERT, out of the loop, and round it
abbrev paths : List Path
paths = the_path [] ∷ from_assert 1 ((1 ∷ []) ∷ []) ∷ from_assert 1 ((2 ∷ []) ∷ [] ∷ [] ∷ []) ∷ []

abbrev Listed : ℕ → List (List ℕ) → Type 0
Listed k way = IsAmong (record { start = k; choices = way }) paths

from_go_to : (way : List (List ℕ)) → IsWay Common down notes 2 way → Listed 1 ((2 ∷ []) ∷ [] ∷ way)
from_go_to [] h = absurd h
from_go_to ([] ∷ way) h = subst (λ (w : List (List ℕ)). Listed 1 ((2 ∷ []) ∷ [] ∷ [] ∷ w)) (sym h) (2, refl)
from_go_to ((c ∷ cs) ∷ way) h = absurd h

from_assignment : (way : List (List ℕ)) → IsWay Common down notes 1 way → Listed 1 ((2 ∷ []) ∷ way)
from_assignment [] h = absurd h
from_assignment ([] ∷ way) h = from_go_to way h
from_assignment ((c ∷ cs) ∷ way) h = absurd h

from_if : (way : List (List ℕ)) → IsWay Common down notes 0 way → Listed 1 way
from_if [] h = absurd h
from_if ([] ∷ way) h = absurd h
from_if ((zero ∷ cs) ∷ way) h = absurd h
from_if ((suc zero ∷ []) ∷ way) h = subst (λ (w : List (List ℕ)). Listed 1 ((1 ∷ []) ∷ w)) (sym h) (1, refl)
from_if ((suc zero ∷ (c ∷ cs)) ∷ way) h = absurd h
from_if ((suc (suc zero) ∷ []) ∷ way) h = from_assignment way h
from_if ((suc (suc zero) ∷ (c ∷ cs)) ∷ way) h = absurd h
from_if ((suc (suc (suc i)) ∷ cs) ∷ way) h = absurd h

listed : (k : ℕ) (way : List (List ℕ)) → is_path_from Common down notes k way → Listed k way
listed zero way h = subst (λ (w : List (List ℕ)). Listed 0 w) (sym h) (0, refl)
listed (suc zero) way h = from_if way h
listed (suc (suc k)) way h = absurd h

are_paths : (k : ℕ) (path : Path) → slice_get paths k ≡ Some path → IsPath Common down notes path
are_paths = at_each paths (λ k path. IsPath Common down notes path) (refl also refl also refl also tt)

in_order : ArePathsInOrder Common down notes paths
in_order = record { ascending = refl also refl also tt; whole = λ path. (λ h. listed path.start path.choices h, λ m. are_paths m.0 path m.1) }

all_paths : AreAllPaths down_program (paths ∷ [])
all_paths = in_order also tt

-- ---- conditions

-- the value of N at the ASSERT, and one less
abbrev at_assert : Valuation → Value
at_assert words = words (codes "N-AT")

abbrev before : Valuation → ℤ
before words = num (at_assert words) -ℤ pos 1

abbrev least : Valuation → ℤ
least words = num (words (codes "LEAST"))

abbrev greatest : Valuation → ℤ
greatest words = num (words (codes "GREATEST"))

-- what is known at the ASSERT, and behind the IF on each way
abbrev natural : Tree
natural = at_most (number 0) (start N)

abbrev at_zero : Tree
at_zero = at_most (start N) (number 0)

abbrev above_zero : Tree
above_zero = term Not (at_zero ∷ [])

abbrev bounded : Tree
bounded = at_most LEAST (numeral (neg_ℤ (pos 32767)))

abbrev one_less : Tree
one_less = difference (start N) (number 1)

positive : (words : Valuation) → IsTrueBy words above_zero → int_le (pos 0) (before words) ≡ true
positive words h = still_natural (num (at_assert words)) h

is_number : (words : Valuation) → IsTrueBy words (is_integer (start N)) → IsTrueBy words (is_defined (start N)) → IsInteger (least words) (greatest words) (at_assert words)
is_number words integral defined = integer (least words) (greatest words) (at_assert words) integral defined

-- N is 0 where the loop is left
is_zero : {hyps : List Tree} → slice_get hyps 5 ≡ Some (is_integer (start N)) → slice_get hyps 6 ≡ Some (is_defined (start N))
    → slice_get hyps 7 ≡ Some natural → slice_get hyps 9 ≡ Some at_zero → Follows hyps (is_equal (start N) (number 0))
is_zero integral defined low high = record {
  by_words = λ words given.
      by_number words (given 7 natural low) (given 9 at_zero high)
      (is_number words (given 5 (is_integer (start N)) integral) (given 6 (is_defined (start N)) defined));
}
  where
    by_number : (words : Valuation) → IsTrueBy words natural → IsTrueBy words at_zero → IsInteger (least words) (greatest words) (at_assert words) → same_value (at_assert words) (Int (pos 0)) ≡ true
    by_number words low high v =
        ap (λ (x : Value). same_value x (Int (pos 0))) v.is
        ∙ zero_is v.number (ap (λ (x : Value). int_le (pos 0) (num x)) (sym v.is) ∙ low) (ap (λ (x : Value). int_le (num x) (pos 0)) (sym v.is) ∙ high)

-- one less is an integer of the processor where the loop goes on
has_room : {hyps : List Tree} → slice_get hyps 0 ≡ Some bounded → slice_get hyps 5 ≡ Some (is_integer (start N))
    → slice_get hyps 6 ≡ Some (is_defined (start N)) → slice_get hyps 9 ≡ Some above_zero → Follows hyps (term And (at_most LEAST one_less ∷ at_most one_less GREATEST ∷ []))
has_room bound integral defined more = record {
  by_words = λ words given.
      by_number words (given 0 bounded bound) (positive words (given 9 above_zero more))
      (is_number words (given 5 (is_integer (start N)) integral) (given 6 (is_defined (start N)) defined));
}
  where
    by_number : (words : Valuation) → IsTrueBy words bounded → int_le (pos 0) (before words) ≡ true → IsInteger (least words) (greatest words) (at_assert words)
        → (int_le (least words) (before words) && (int_le (before words) (greatest words) && true)) ≡ true
    by_number words bound low v =
        let below = ap (λ (x : Value). int_le (num x) (greatest words)) v.is ∙ below_greatest (least words) (greatest words) v.number v.between in
        both_hold (int_le (least words) (before words)) (int_le (before words) (greatest words) && true) (above_least (least words) (before words) 32767 bound low)
        (both_hold (int_le (before words) (greatest words)) true (still_below (num (at_assert words)) (greatest words) below) refl)

-- the clock is not negative, and has fallen, where the loop goes on
stays_natural : {hyps : List Tree} → slice_get hyps 9 ≡ Some above_zero → Follows hyps (at_most (number 0) one_less)
stays_natural more = record { by_words = λ words given. positive words (given 9 above_zero more) }

falls : {hyps : List Tree} → Follows hyps (less one_less (start N))
falls = record { by_words = λ words given. less_by_one (num (at_assert words)) }

number_defined : {hyps : List Tree} → Follows hyps (is_defined one_less)
number_defined = record { by_words = λ words given. refl }

-- to the ASSERT, out of the loop, and round it
all_follow : AllFollow (conditions_of down_program (paths ∷ []))
all_follow =
    stands 3 refl also stands 4 refl
    also stands 6 refl also is_zero refl refl refl refl
    also stands 6 refl also stands 6 refl also has_room refl refl refl refl also number_defined also stays_natural refl also falls also tt

pub loop_meets_premises : LoopMeetsPremises
loop_meets_premises = (
  record {
    deck = record { units = down ∷ []; notes = [] };
    same_units = refl;
    well_formed = record { units = unit_well_formed also tt; blocks = refl; order = refl; notes = refl; places = refl };
    notes = fitting;
    rules = keeps;
    smashed = table;
    paths = paths ∷ [];
    all_paths = all_paths;
    exact = conditions_are_exact down_program (paths ∷ []) all_paths;
    valid = all_valid (conditions_of down_program (paths ∷ [])) all_follow;
  },
  refl,
)
