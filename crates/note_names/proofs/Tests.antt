-- Tests by a table of roles are tests by the unit.
use Rattle.std.proofs.Common.{◌≡◌, ℕ, Bool, true, false, List, [], ◌∷◌, ◌++◌, refl, sym, ap, ◌∙◌}
use Rattle.std.specs.Prelude.{Option, Some, None, not, ◌&&◌, ◌||◌, if◌then◌else◌}
use Rattle.std.specs.List.{list_all}
use Rattle.std.proofs.lemmas.Grind.{common_steps}
use Rattle.formula.specs.Substitution.{is_bound}
use Rattle.formula.specs.TermTests.{names_pass}
use Rattle.formula.specs.Tree.{Tree}
use Rattle.fort_syntax.specs.Names.{data_name, has_role, is_own, is_local}
use Rattle.fort_syntax.specs.declared.unit.DataName.{DataName}
use Rattle.fort_syntax.specs.declared.unit.Role.{Role}
use Rattle.fort_syntax.specs.declared.unit.Unit.{Unit as Routine}
use Rattle.fort_notes.specs.Judging.{Judged, names_broken, is_of_role, any_role, has_good_old, has_known_names, has_none_of}
use Rattle.fort_notes.specs.Forms.{assertion}
use Rattle.fort_syntax.specs.declared.rule.Rule.TheVariants.{BadNote, UnknownNoteName}
use Rattle.note_names.specs.NameTests.{AreRolesOf, role_in, role_of, role_of_data, role_passes, term_passes}
use Rattle.note_names.specs.declared.name_test.NameTest.TheVariants.{NoOld, GoodOld, KnownNames, NoOwn, NoLocal}

of_data : (is : Role → Bool) (d : Option DataName) → role_passes is (role_of_data d) ≡ has_role is d
of_data is None = refl
of_data is (Some d) = refl

of_unit : (is : Role → Bool) (u : Option Routine) (x : List ℕ) → role_passes is (role_of u x) ≡ is_of_role u is x
of_unit is None x = refl
of_unit is (Some u) x = of_data is (data_name u x)

module _ (u : Option Routine) (table : List (List ℕ × Role)) (right : AreRolesOf u table) where
  is_told : (is : Role → Bool) (x : List ℕ) → role_passes is (role_in table x) ≡ is_of_role u is x
  is_told is x = ap (role_passes is) (right x) ∙ of_unit is u x

  pub good_old_by : term_passes GoodOld table ≡ has_good_old u
  good_old_by = λ i t. names_pass (λ s. true) (λ s. is_bound s || not (is_told is_own s i)) t

  pub known_names_by : term_passes KnownNames table ≡ has_known_names u
  known_names_by = λ i t. names_pass (λ s. is_bound s || is_told any_role s i) (λ s. not (is_bound s) && is_told any_role s i) t

  pub none_own_by : term_passes NoOwn table ≡ has_none_of u is_own
  none_own_by = λ i t. names_pass (λ s. is_bound s || not (is_told is_own s i)) (λ s. true) t

  pub none_local_by : term_passes NoLocal table ≡ has_none_of u is_local
  none_local_by = λ i t. names_pass (λ s. is_bound s || not (is_told is_local s i)) (λ s. true) t

  pub good_old : (ts : List Tree) → list_all (term_passes GoodOld table) ts ≡ list_all (has_good_old u) ts
  good_old ts = ap (λ p. list_all p ts) good_old_by

  pub known_names : (ts : List Tree) → list_all (term_passes KnownNames table) ts ≡ list_all (has_known_names u) ts
  known_names ts = ap (λ p. list_all p ts) known_names_by

  pub none_own : (ts : List Tree) → list_all (term_passes NoOwn table) ts ≡ list_all (has_none_of u is_own) ts
  none_own ts = ap (λ p. list_all p ts) none_own_by

  pub none_local : (ts : List Tree) → list_all (term_passes NoLocal table) ts ≡ list_all (has_none_of u is_local) ts
  none_local ts = ap (λ p. list_all p ts) none_local_by

pub all_of_both : (p : Tree → Bool) (xs ys : List Tree) → list_all p (xs ++ ys) ≡ (list_all p xs && list_all p ys)
all_of_both p [] ys = refl
all_of_both p (x ∷ xs) ys = one (p x) (list_all p xs) (list_all p ys) (list_all p (xs ++ ys)) (all_of_both p xs ys)
  where
    one : (a b c d : Bool) → d ≡ (b && c) → (a && d) ≡ ((a && b) && c)
    one true b c d e = e
    one false b c d e = refl

module _ (u : Option Routine) (table : List (List ℕ × Role)) (right : AreRolesOf u table) where
  pub good_old_of_both : (ts clock : List Tree) → list_all (has_good_old u) (ts ++ clock) ≡ (list_all (term_passes GoodOld table) ts && list_all (term_passes GoodOld table) clock)
  good_old_of_both ts clock = all_of_both (has_good_old u) ts clock ∙ sym (λ i. good_old u table right ts i && good_old u table right clock i)

  pub known_names_of_both : (ts clock : List Tree) → list_all (has_known_names u) (ts ++ clock) ≡ (list_all (term_passes KnownNames table) ts && list_all (term_passes KnownNames table) clock)
  known_names_of_both ts clock = all_of_both (has_known_names u) ts clock ∙ sym (λ i. known_names u table right ts i && known_names u table right clock i)

  -- the rule that an ASSERT breaks, test by test
  pub assertion_rules : (done : List Judged) (ts clock : List Tree) (stands : Bool) → names_broken done u (assertion ts stands clock)
      ≡ (if list_all (term_passes GoodOld table) ts && list_all (term_passes GoodOld table) clock
      then (if list_all (term_passes KnownNames table) ts && list_all (term_passes KnownNames table) clock then None else Some UnknownNoteName)
      else Some BadNote)
  assertion_rules done ts clock stands = λ i. if good_old_of_both ts clock i then (if known_names_of_both ts clock i then None else Some UnknownNoteName) else Some BadNote
