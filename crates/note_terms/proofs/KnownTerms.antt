-- Terms that fit a unit are known by a table of its data names.
use Rattle.std.proofs.Common.{◌≡◌, ℕ, Bool, true, false, ◌&&◌, ◌||◌, Option, Some, None, List, [], ◌∷◌, map, refl, ap, ◌∙◌}
use Rattle.std.specs.Prelude.{not}
use Rattle.std.specs.List.{list_all}
use Rattle.formula.specs.Atoms.{is_among}
use Rattle.formula.specs.Substitution.{is_bound}
use Rattle.formula.specs.TermTests.{names_pass, row_names_pass}
use Rattle.formula.specs.Tree.{Tree, num, truth, symbol, old, apply, Row, none, more}
use Rattle.fort_syntax.specs.Names.{data_name, has_role}
use Rattle.fort_syntax.specs.declared.unit.DataName.{DataName}
use Rattle.fort_syntax.specs.declared.unit.Role.{Role}
use Rattle.fort_model.specs.Fitting.{any_role, is_visible_role, may_name, has_entry as may_have_entry}
use Rattle.fort_model.specs.Conditions.{sight}
use Rattle.fort_model.specs.Senses.{of_terms, note}
use Rattle.fort_model.specs.Walk.{falls as falls_on}
use Rattle.note_terms.specs.Laws.{FactsAreThoseOfWalks, FittingTermsAreKnown, StatedByNames}
use Rattle.note_terms.specs.Stated.{below, falls_in, has_entry, is_told}

both_parts : (a b : Bool) → (a && b) ≡ true → (a ≡ true) × (b ≡ true)
both_parts true b e = (refl, e)
both_parts false b e = absurd (cc)

both_hold : (a b : Bool) → a ≡ true → b ≡ true → (a && b) ≡ true
both_hold a b x y = ap (λ (z : Bool). z && b) x ∙ y

-- a name with a role is a data name
some_role : (is : Role → Bool) (o : Option DataName) → has_role is o ≡ true → has_role any_role o ≡ true
some_role is None e = absurd (cc)
some_role is (Some d) e = refl

module _ (a a' b b' : List ℕ → Bool) (now : (x : List ℕ) → a x ≡ true → b x ≡ true) (entry : (x : List ℕ) → a' x ≡ true → b' x ≡ true) where
  mutual
    passes : (t : Tree) → names_pass a a' t ≡ true → names_pass b b' t ≡ true
    passes (num z) e = refl
    passes (truth v) e = refl
    passes (symbol x) e = now x e
    passes (old x) e = entry x e
    passes (apply f row) e = row_passes row e

    row_passes : (row : Row) → row_names_pass a a' row ≡ true → row_names_pass b b' row ≡ true
    row_passes none e = refl
    row_passes (more t rest) e =
        let p = both_parts (names_pass a a' t) (row_names_pass a a' rest) e in
        both_hold (names_pass b b' t) (row_names_pass b b' rest) (passes t p.0) (row_passes rest p.1)

  all_pass : (ts : List Tree) → list_all (names_pass a a') ts ≡ true → list_all (names_pass b b') ts ≡ true
  all_pass [] e = refl
  all_pass (t ∷ ts) e =
      let p = both_parts (names_pass a a' t) (list_all (names_pass a a') ts) e in
      both_hold (names_pass b b' t) (list_all (names_pass b b') ts) (passes t p.0) (all_pass ts p.1)

pub fitting_terms_are_known : FittingTermsAreKnown
fitting_terms_are_known u is entries table entry ts names terms may fit =
    all_pass (may_name u is) entries (is_told table) (has_entry table entry) told (λ x e. entered x (may x e)) ts fit
  where
    told : (x : List ℕ) → may_name u is x ≡ true → is_told table x ≡ true
    told x e = by (is_bound x) e
      where
        by : (b : Bool) → (b || has_role is (data_name u x)) ≡ true → (b || is_among x table) ≡ true
        by true e = refl
        by false e = names x (some_role is (data_name u x) e)

    entered : (x : List ℕ) → may_have_entry u x ≡ true → has_entry table entry x ≡ true
    entered x e =
        let p = both_parts (not (is_bound x)) (has_role is_visible_role (data_name u x)) e in
        terms x (some_role is_visible_role (data_name u x) p.1)

pub stated_by_names : StatedByNames
stated_by_names nodes names entry before now ts e f = λ i. map (note of_terms (e i) (f i)) ts

pub facts_are_those_of_walks : FactsAreThoseOfWalks
facts_are_those_of_walks p i u = record { bound = refl; not_negative = λ t. refl; falls = falls }
  where
    falls : (new was : List Tree) → falls_in new was ≡ falls_on (sight of_terms p i u) new was
    falls [] was = refl
    falls (n ∷ []) [] = refl
    falls (n ∷ []) (o ∷ []) = refl
    falls (n ∷ []) (o ∷ (q ∷ os)) = refl
    falls (n ∷ (m ∷ ns)) [] = refl
    falls (n ∷ (m ∷ ns)) (o ∷ []) = refl
    falls (n ∷ (m ∷ ns)) (o ∷ (q ∷ os)) = ap (λ (t : Tree). below n o t) (falls (m ∷ ns) (q ∷ os))
