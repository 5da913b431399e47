-- Names in terms: tests that together make another one.
use Rattle.std.proofs.Common.{◌≡◌, ℕ, Bool, true, false, ◌||◌, ◌&&◌, Option, Some, None, List, [], ◌∷◌, refl}
use Rattle.std.specs.Prelude.{not}
use Rattle.std.specs.List.{list_all}
use Rattle.formula.specs.Substitution.{is_bound}
use Rattle.formula.specs.TermTests.{names_pass, row_names_pass}
use Rattle.formula.specs.Tree.{Tree, num, truth, symbol, old, apply, Row, none, more}
use Rattle.fort_syntax.specs.Names.{data_name, has_role, is_own, is_local}
use Rattle.fort_syntax.specs.declared.unit.DataName.{DataName}
use Rattle.fort_syntax.specs.declared.unit.Role.{Role}
use Rattle.fort_syntax.specs.declared.unit.Unit.{Unit as Routine}
use Rattle.fort_notes.specs.Judging.{is_of_role, has_no_old, has_good_old, has_known_names, has_none_of}
use Rattle.fort_model.specs.Fitting.{may_name, is_visible_role, any_role, has_entry, no_entry}
use Rattle.note_laws.proofs.Small.{both_parts, both_hold}

-- three tests of a name that together make a fourth
abbrev Together : (List ℕ → Bool) → (List ℕ → Bool) → (List ℕ → Bool) → (List ℕ → Bool) → Type 0
Together a b c d = (x : List ℕ) → a x ≡ true → b x ≡ true → c x ≡ true → d x ≡ true

module _ (a a' b b' c c' d d' : List ℕ → Bool) (now : Together a b c d) (entry : Together a' b' c' d') where
  mutual
    term_together : (t : Tree) → names_pass a a' t ≡ true → names_pass b b' t ≡ true → names_pass c c' t ≡ true → names_pass d d' t ≡ true
    term_together (num z) e f g = refl
    term_together (truth v) e f g = refl
    term_together (symbol x) e f g = now x e f g
    term_together (old x) e f g = entry x e f g
    term_together (apply h row) e f g = row_together row e f g

    row_together : (row : Row) → row_names_pass a a' row ≡ true → row_names_pass b b' row ≡ true → row_names_pass c c' row ≡ true → row_names_pass d d' row ≡ true
    row_together none e f g = refl
    row_together (more t rest) e f g =
        let p = both_parts (names_pass a a' t) (row_names_pass a a' rest) e in
        let q = both_parts (names_pass b b' t) (row_names_pass b b' rest) f in
        let r = both_parts (names_pass c c' t) (row_names_pass c c' rest) g in
        both_hold (names_pass d d' t) (row_names_pass d d' rest) (term_together t p.0 q.0 r.0) (row_together rest p.1 q.1 r.1)

  all_together : (ts : List Tree) → list_all (names_pass a a') ts ≡ true → list_all (names_pass b b') ts ≡ true → list_all (names_pass c c') ts ≡ true
      → list_all (names_pass d d') ts ≡ true
  all_together [] e f g = refl
  all_together (t ∷ ts) e f g =
      let p = both_parts (names_pass a a' t) (list_all (names_pass a a') ts) e in
      let q = both_parts (names_pass b b' t) (list_all (names_pass b b') ts) f in
      let r = both_parts (names_pass c c' t) (list_all (names_pass c c') ts) g in
      both_hold (names_pass d d' t) (list_all (names_pass d d') ts) (term_together t p.0 q.0 r.0) (all_together ts p.1 q.1 r.1)

-- ---- names by what they are

-- a known name that has no such role has another one
other_role : (is : Role → Bool) (b : Bool) (o : Option DataName) → (b || has_role any_role o) ≡ true → (b || not (has_role is o)) ≡ true → (b || has_role (λ role. not (is role)) o) ≡ true
other_role is true o e f = refl
other_role is false None e f = absurd (cc)
other_role is false (Some d) e f = f

-- the entry value of a known name that is no local and no function's own value
visible_entry : (b : Bool) (o : Option DataName) → (b || not (has_role is_own o)) ≡ true → (not b && has_role any_role o) ≡ true → (not b && has_role is_visible_role o) ≡ true
visible_entry true o e f = absurd (cc)
visible_entry false None e f = absurd (cc)
visible_entry false (Some d) e f = e

module _ (u : Routine) where
  pub input_names : (ts : List Tree) → list_all has_no_old ts ≡ true → list_all (has_known_names (Some u)) ts ≡ true → list_all (has_none_of (Some u) is_own) ts ≡ true
      → list_all (names_pass (may_name u is_visible_role) no_entry) ts ≡ true
  input_names ts e f g =
      all_together (λ s. true) (λ s. false)
      (λ s. is_bound s || is_of_role (Some u) any_role s) (λ s. not (is_bound s) && is_of_role (Some u) any_role s)
      (λ s. is_bound s || not (is_of_role (Some u) is_own s)) (λ s. true)
      (may_name u is_visible_role) no_entry
      (λ x h i j. other_role is_own (is_bound x) (data_name u x) i j) (λ x h i j. h) ts e f g

  pub output_names : (ts : List Tree) → list_all (has_good_old (Some u)) ts ≡ true → list_all (has_known_names (Some u)) ts ≡ true → list_all (has_none_of (Some u) is_local) ts ≡ true
      → list_all (names_pass (may_name u (λ role. not (is_local role))) (has_entry u)) ts ≡ true
  output_names ts e f g =
      all_together (λ s. true) (λ s. is_bound s || not (is_of_role (Some u) is_own s))
      (λ s. is_bound s || is_of_role (Some u) any_role s) (λ s. not (is_bound s) && is_of_role (Some u) any_role s)
      (λ s. is_bound s || not (is_of_role (Some u) is_local s)) (λ s. true)
      (may_name u (λ role. not (is_local role))) (has_entry u)
      (λ x h i j. other_role is_local (is_bound x) (data_name u x) i j) (λ x h i j. visible_entry (is_bound x) (data_name u x) h i) ts e f g

  pub assert_names : (ts : List Tree) → list_all (has_good_old (Some u)) ts ≡ true → list_all (has_known_names (Some u)) ts ≡ true
      → list_all (names_pass (may_name u any_role) (has_entry u)) ts ≡ true
  assert_names ts e f =
      all_together (λ s. true) (λ s. is_bound s || not (is_of_role (Some u) is_own s))
      (λ s. is_bound s || is_of_role (Some u) any_role s) (λ s. not (is_bound s) && is_of_role (Some u) any_role s)
      (λ s. is_bound s || is_of_role (Some u) any_role s) (λ s. not (is_bound s) && is_of_role (Some u) any_role s)
      (may_name u any_role) (has_entry u)
      (λ x h i j. i) (λ x h i j. visible_entry (is_bound x) (data_name u x) h i) ts e f f
