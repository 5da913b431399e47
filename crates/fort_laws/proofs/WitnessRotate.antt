-- A program of two units with two calls meets all that soundness wants.
use Rattle.std.proofs.Common.{◌≡◌, ℕ, zero, suc, false, List, [], ◌∷◌, Some, slice_get, refl, sym, ap, ◌∙◌, subst, arith}
use Rattle.std.specs.Prelude.{codes}
use Rattle.fort_syntax.specs.SmallDecks.{I, J, K}
use Rattle.formula.specs.Tree.{Tree}
use Rattle.formula.specs.Values as value
use Rattle.formula.specs.Worth.{Valuation}
use Rattle.fort_syntax.specs.WellFormed.{IsWellFormedUnit}
use Rattle.fort_syntax.specs.declared.dialect.Dialect.TheVariants.{Common}
use Rattle.fort_syntax.specs.declared.expr.Expr.TheVariants.{Var}
use Rattle.fort_syntax.specs.declared.name.Name.{Name}
use Rattle.fort_syntax.specs.declared.stmt.Stmt.TheVariants.{Assign, Call}
use Rattle.fort_syntax.specs.declared.unit.Unit.{Unit as Routine}
use Rattle.fort_model.specs.Calls.{Calls}
use Rattle.fort_model.specs.ConditionRows.{entry, after, is_defined, is_equal}
use Rattle.fort_model.specs.Conditions.{AreAllPaths, conditions_of}
use Rattle.fort_model.specs.Decks.{line}
use Rattle.fort_model.specs.Fitting.{HasFittingNotes}
use Rattle.fort_model.specs.Lists.{IsAmong}
use Rattle.fort_model.specs.Paths.{ArePathsInOrder, Path, IsPath, IsWay, is_path_from}
use Rattle.fort_model.specs.Rows.{swap, rotate}
use Rattle.fort_model.specs.Rules.{KeepsRules}
use Rattle.fort_model.specs.Smashes.{Smashes, HoldsSmashed, sets, passes}
use Rattle.fort_model.specs.Symbols.{AtEntry, word_of}
use Rattle.fort_model.specs.VerdictRows.{rotate_program, swap_notes, rotate_notes}
use Rattle.fort_model.specs.WalkRows.{the_path}
use Rattle.fort_laws.specs.Witnesses.{RotMeetsPremises}
use Rattle.fort_laws.proofs.Exact.{conditions_are_exact}
use Rattle.fort_laws.proofs.WitnessLists.{at_each, nothing_among, ◌also◌}
use Rattle.fort_laws.proofs.WitnessNotes.{notes_fit}
use Rattle.fort_laws.proofs.WitnessRules.{LeadsDown, rules_are_kept, leads_lower}
use Rattle.fort_laws.proofs.WitnessSmashes.{table_is_right}
use Rattle.fort_laws.proofs.WitnessWorths.{IsTrueBy, Follows, AllFollow, all_valid, stands, are_same, same_as_itself}

abbrev pub units : List Routine
units = swap ∷ rotate ∷ []

swap_well_formed : IsWellFormedUnit Common swap
swap_well_formed = record { names = refl; held = refl; data_names = refl; roles = refl; functions = refl; dimensions = refl; blocks = refl; statements = refl; order = refl; cards = refl; result = refl }

rotate_well_formed : IsWellFormedUnit Common rotate
rotate_well_formed = record { names = refl; held = refl; data_names = refl; roles = refl; functions = refl; dimensions = refl; blocks = refl; statements = refl; order = refl; cards = refl; result = refl }

fitting : HasFittingNotes rotate_program
fitting = notes_fit rotate_program refl (
    record { input = refl; output = refl; asserts = λ a m. absurd (nothing_among a m) }
    also record { input = refl; output = refl; asserts = λ a m. absurd (nothing_among a m) } also tt)

-- each statement leads to the next one
abbrev rank : ℕ → ℕ
rank zero = 4
rank (suc zero) = 3
rank (suc (suc zero)) = 2
rank (suc (suc (suc zero))) = 1
rank (suc (suc (suc (suc pc)))) = 0

swap_leads_down : LeadsDown Common swap swap_notes rank
swap_leads_down = leads_lower rank 1 0 (omega arith) also leads_lower rank 2 1 (omega arith) also leads_lower rank 3 2 (omega arith) also leads_lower rank 4 3 (omega arith) also tt

rotate_leads_down : LeadsDown Common rotate rotate_notes rank
rotate_leads_down = leads_lower rank 1 0 (omega arith) also leads_lower rank 2 1 (omega arith) also leads_lower rank 3 2 (omega arith) also tt

keeps : KeepsRules rotate_program
keeps = rules_are_kept rotate_program (refl also refl also tt) rank (swap_leads_down also rotate_leads_down also tt)

-- ---- smashed names

abbrev first_call : Calls units 1 0
first_call = record {
  caller = rotate;
  callee = swap;
  is_caller = refl;
  is_callee = refl;
  line = line 12 (Call (codes "SWAP") (Var I ∷ Var J ∷ []));
  is_line = (0, refl);
  site = record { reference = false; callee = codes "SWAP"; actuals = Var I ∷ Var J ∷ [] };
  is_site = (0, refl);
  is_of = refl;
}

abbrev second_call : Calls units 1 0
second_call = record {
  caller = rotate;
  callee = swap;
  is_caller = refl;
  is_callee = refl;
  line = line 13 (Call (codes "SWAP") (Var J ∷ Var K ∷ []));
  is_line = (1, refl);
  site = record { reference = false; callee = codes "SWAP"; actuals = Var J ∷ Var K ∷ [] };
  is_site = (0, refl);
  is_of = refl;
}

sets_i : Smashes units 0 I
sets_i = sets swap (line 5 (Assign (Var I) (Var J))) refl (1, refl) (0, refl)

sets_j : Smashes units 0 J
sets_j = sets swap (line 6 (Assign (Var J) (Var K))) refl (2, refl) (0, refl)

sets_k : Smashes units 0 K
sets_k = sets swap (line 4 (Assign (Var K) (Var I))) refl (0, refl) (0, refl)

pub table : HoldsSmashed rotate_program
table = table_is_right rotate_program (refl also refl also tt) (
    (sets_i also sets_j also sets_k also tt)
    also (passes first_call 0 refl refl sets_i also passes first_call 1 refl refl sets_j also passes second_call 1 refl refl sets_j also tt) also tt)

-- ---- paths

abbrev swap_paths : List Path
swap_paths = the_path ([] ∷ [] ∷ [] ∷ [] ∷ []) ∷ []

abbrev rotate_paths : List Path
rotate_paths = the_path ([] ∷ [] ∷ [] ∷ []) ∷ []

abbrev paths : List (List Path)
paths = swap_paths ∷ rotate_paths ∷ []

abbrev Listed : List Path → ℕ → List (List ℕ) → Type 0
Listed paths k way = IsAmong (record { start = k; choices = way }) paths

swap_from_return : (way : List (List ℕ)) → IsWay Common swap swap_notes 3 way → Listed swap_paths 0 ([] ∷ [] ∷ [] ∷ way)
swap_from_return [] h = absurd h
swap_from_return ([] ∷ way) h = subst (λ (w : List (List ℕ)). Listed swap_paths 0 ([] ∷ [] ∷ [] ∷ [] ∷ w)) (sym h) (0, refl)
swap_from_return ((c ∷ cs) ∷ way) h = absurd h

swap_from_third : (way : List (List ℕ)) → IsWay Common swap swap_notes 2 way → Listed swap_paths 0 ([] ∷ [] ∷ way)
swap_from_third [] h = absurd h
swap_from_third ([] ∷ way) h = swap_from_return way h
swap_from_third ((c ∷ cs) ∷ way) h = absurd h

swap_from_second : (way : List (List ℕ)) → IsWay Common swap swap_notes 1 way → Listed swap_paths 0 ([] ∷ way)
swap_from_second [] h = absurd h
swap_from_second ([] ∷ way) h = swap_from_third way h
swap_from_second ((c ∷ cs) ∷ way) h = absurd h

swap_listed : (k : ℕ) (way : List (List ℕ)) → is_path_from Common swap swap_notes k way → Listed swap_paths k way
swap_listed zero [] h = absurd h
swap_listed zero ([] ∷ way) h = swap_from_second way h
swap_listed zero ((c ∷ cs) ∷ way) h = absurd h
swap_listed (suc k) way h = absurd h

rotate_from_return : (way : List (List ℕ)) → IsWay Common rotate rotate_notes 2 way → Listed rotate_paths 0 ([] ∷ [] ∷ way)
rotate_from_return [] h = absurd h
rotate_from_return ([] ∷ way) h = subst (λ (w : List (List ℕ)). Listed rotate_paths 0 ([] ∷ [] ∷ [] ∷ w)) (sym h) (0, refl)
rotate_from_return ((c ∷ cs) ∷ way) h = absurd h

rotate_from_second : (way : List (List ℕ)) → IsWay Common rotate rotate_notes 1 way → Listed rotate_paths 0 ([] ∷ way)
rotate_from_second [] h = absurd h
rotate_from_second ([] ∷ way) h = rotate_from_return way h
rotate_from_second ((c ∷ cs) ∷ way) h = absurd h

rotate_listed : (k : ℕ) (way : List (List ℕ)) → is_path_from Common rotate rotate_notes k way → Listed rotate_paths k way
rotate_listed zero [] h = absurd h
rotate_listed zero ([] ∷ way) h = rotate_from_second way h
rotate_listed zero ((c ∷ cs) ∷ way) h = absurd h
rotate_listed (suc k) way h = absurd h

swap_in_order : ArePathsInOrder Common swap swap_notes swap_paths
swap_in_order = record { ascending = tt; whole = λ path. (λ h. swap_listed path.start path.choices h, λ m. at_each swap_paths (λ k path. IsPath Common swap swap_notes path) (refl also tt) m.0 path m.1) }

rotate_in_order : ArePathsInOrder Common rotate rotate_notes rotate_paths
rotate_in_order = record { ascending = tt; whole = λ path. (λ h. rotate_listed path.start path.choices h, λ m. at_each rotate_paths (λ k path. IsPath Common rotate rotate_notes path) (refl also tt) m.0 path m.1) }

all_paths : AreAllPaths rotate_program paths
all_paths = swap_in_order also rotate_in_order also tt

-- ---- conditions

equal_to_itself : {hyps : List Tree} (x : Name) → Follows hyps (is_equal (entry x) (entry x))
equal_to_itself x = record { by_words = λ words given. same_as_itself (words (word_of (AtEntry x))) }

abbrev swapped : Tree
swapped = is_equal (after J 1) (entry I)

abbrev swapped_again : Tree
swapped_again = is_equal (after K 2) (after J 1)

same_values : (words : Valuation) → IsTrueBy words swapped → words (codes "J-1") ≡ words (codes "I-IN")
same_values words same = are_same (words (codes "J-1")) (words (codes "I-IN")) same

-- after the first call J is defined, as I was
stays_defined : {hyps : List Tree} → slice_get hyps 5 ≡ Some (is_defined (entry I)) → slice_get hyps 13 ≡ Some swapped → Follows hyps (is_defined (after J 1))
stays_defined defined same = record { by_words = λ words given. ap value.is_defined (same_values words (given 13 swapped same)) ∙ given 5 (is_defined (entry I)) defined }

-- after both calls K is what I was
turned : {hyps : List Tree} → slice_get hyps 13 ≡ Some swapped → slice_get hyps 19 ≡ Some swapped_again → Follows hyps (is_equal (after K 2) (entry I))
turned first second = record { by_words = λ words given. ap (value.same_value (words (codes "K-2"))) (sym (same_values words (given 13 swapped first))) ∙ given 19 swapped_again second }

-- of SWAP, and of ROT
all_follow : AllFollow (conditions_of rotate_program paths)
all_follow =
    stands 4 refl also stands 5 refl also stands 4 refl also equal_to_itself J also equal_to_itself I
    also stands 5 refl also stands 6 refl also stays_defined refl refl also stands 7 refl
    also stands 12 refl also stands 18 refl also turned refl refl also tt

pub rot_meets_premises : RotMeetsPremises
rot_meets_premises = (
  record {
    deck = record { units = units; notes = [] };
    same_units = refl;
    well_formed = record { units = swap_well_formed also rotate_well_formed also tt; blocks = refl; order = refl; notes = refl; places = refl };
    notes = fitting;
    rules = keeps;
    smashed = table;
    paths = paths;
    all_paths = all_paths;
    exact = conditions_are_exact rotate_program paths all_paths;
    valid = all_valid (conditions_of rotate_program paths) all_follow;
  },
  refl,
)
