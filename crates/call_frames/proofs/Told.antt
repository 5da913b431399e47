-- What a frame tells of notes, and what a call tells of names.
use Rattle.std.proofs.Common.{◌≡◌, Bool, true, false, cond, ◌&&◌, ◌||◌, codes, List, [], ◌∷◌, map, Option, Some, None, refl, sym, ap, ◌∙◌}
use Rattle.std.specs.List.{list_all}
use Rattle.formula.specs.Atoms.{is_among, same_bytes}
use Rattle.formula.specs.Substitution.{is_bound, substituted, row_substituted}
use Rattle.formula.specs.TermTests.{names_pass, row_names_pass}
use Rattle.formula.specs.Tree.{Tree, num, truth, symbol, old, apply, Row, none, more}
use Rattle.fort_model.specs.Conditions.{sight}
use Rattle.fort_model.specs.Fitting.{may_name}
use Rattle.fort_model.specs.Seen.{Named}
use Rattle.fort_model.specs.Senses.{of_terms, with_bounds, least_integer, greatest_integer}
use Rattle.fort_model.specs.WalkCalls.{Sight, with_actuals}
use Rattle.fort_syntax.specs.Names.{data_name, has_role}
use Rattle.fort_syntax.specs.declared.name.Name.{Name}
use Rattle.fort_syntax.specs.declared.unit.DataName.{DataName}
use Rattle.fort_syntax.specs.declared.unit.Role.{Role}
use Rattle.note_terms.specs.Stated.{has_entry, is_told}
use Rattle.walk_names.specs.Names.{named, named_by}
use Rattle.call_frames.specs.Frames.{is_shared_role, own_of, with_terms}
use Rattle.call_frames.specs.Laws.{FramesTellNotes, ToldByCalls}

both_parts : (a b : Bool) → (a && b) ≡ true → (a ≡ true) × (b ≡ true)
both_parts true b e = (refl, e)
both_parts false b e = absurd (cc)

both_hold : (a b : Bool) → a ≡ true → b ≡ true → (a && b) ≡ true
both_hold a b x y = ap (λ (z : Bool). z && b) x ∙ y

-- ---- terms whose names pass

module _ (may may_entry : Name → Bool) where
  -- weaker tests
  module _ (test test_entry : Name → Bool) (now : (x : Name) → may x ≡ true → test x ≡ true) (entry : (x : Name) → may_entry x ≡ true → test_entry x ≡ true) where
    mutual
      passes : (t : Tree) → names_pass may may_entry t ≡ true → names_pass test test_entry t ≡ true
      passes (num z) e = refl
      passes (truth v) e = refl
      passes (symbol x) e = now x e
      passes (old x) e = entry x e
      passes (apply f row) e = row_passes row e

      row_passes : (row : Row) → row_names_pass may may_entry row ≡ true → row_names_pass test test_entry row ≡ true
      row_passes none e = refl
      row_passes (more t rest) e =
          let p = both_parts (names_pass may may_entry t) (row_names_pass may may_entry rest) e in
          both_hold (names_pass test test_entry t) (row_names_pass test test_entry rest) (passes t p.0) (row_passes rest p.1)

    all_pass : (ts : List Tree) → list_all (names_pass may may_entry) ts ≡ true → list_all (names_pass test test_entry) ts ≡ true
    all_pass [] e = refl
    all_pass (t ∷ ts) e =
        let p = both_parts (names_pass may may_entry t) (list_all (names_pass may may_entry) ts) e in
        both_hold (names_pass test test_entry t) (list_all (names_pass test test_entry) ts) (passes t p.0) (all_pass ts p.1)

  -- substitutions that agree
  module _ (s r e f : Named Tree) (now : (x : Name) → may x ≡ true → s x ≡ r x) (entry : (x : Name) → may_entry x ≡ true → e x ≡ f x) where
    mutual
      agree : (t : Tree) → names_pass may may_entry t ≡ true → substituted s e t ≡ substituted r f t
      agree (num z) h = refl
      agree (truth b) h = refl
      agree (symbol x) h = now x h
      agree (old x) h = entry x h
      agree (apply g row) h = ap (λ (w : Row). apply g w) (rows_agree row h)

      rows_agree : (row : Row) → row_names_pass may may_entry row ≡ true → row_substituted s e row ≡ row_substituted r f row
      rows_agree none h = refl
      rows_agree (more t rest) h =
          let b = both_parts (names_pass may may_entry t) (row_names_pass may may_entry rest) h in
          λ i. more (agree t b.0 i) (rows_agree rest b.1 i)

    all_agree : (ts : List Tree) → list_all (names_pass may may_entry) ts ≡ true → map (substituted s e) ts ≡ map (substituted r f) ts
    all_agree [] h = refl
    all_agree (t ∷ ts) h =
        let p = both_parts (names_pass may may_entry t) (list_all (names_pass may may_entry) ts) h in
        λ i. agree t p.0 i ∷ all_agree ts p.1 i

-- ---- notes

bounds_or : (a b : Bool) (l g m n : Tree) → ((a || b) ≡ false → m ≡ n) → cond a l (cond b g m) ≡ cond a l (cond b g n)
bounds_or true b l g m n h = refl
bounds_or false true l g m n h = refl
bounds_or false false l g m n h = h refl

wider_role : (is : Role → Bool) → ((role : Role) → is role ≡ true → is_shared_role role ≡ true) → (o : Option DataName) → has_role is o ≡ true → has_role is_shared_role o ≡ true
wider_role is wide None e = absurd (cc)
wider_role is wide (Some d) e = wide d.role e

pub frames_tell_notes : FramesTellNotes
frames_tell_notes nodes names entry g before now is entries ts frame has wide fits fit = record {
  known = all_pass (may_name g is) entries (is_told names.table) (has_entry names.table entry) told (λ x e. has.known x (fits x e)) ts fit;
  same =
      all_agree (may_name g is) entries (with_bounds of_terms (named nodes names)) (with_bounds of_terms now) (named_by nodes names.table entry) before
      bounded (λ x e. has.tells x (fits x e)) ts fit;
}
  where
    told : (x : Name) → may_name g is x ≡ true → is_told names.table x ≡ true
    told x e = by (is_bound x) e
      where
        by : (b : Bool) → (b || has_role is (data_name g x)) ≡ true → (b || is_among x names.table) ≡ true
        by true e = refl
        by false e = frame.known x (wider_role is wide (data_name g x) e)

    bounded : (x : Name) → may_name g is x ≡ true → with_bounds of_terms (named nodes names) x ≡ with_bounds of_terms now x
    bounded x e =
        bounds_or (same_bytes (codes "LEAST") x) (same_bytes (codes "GREATEST") x) (least_integer of_terms) (greatest_integer of_terms) (named nodes names x) (now x)
        (λ f. frame.tells x (wider_role is wide (data_name g x) (sym (ap (λ (b : Bool). b || has_role is (data_name g x)) f) ∙ e)))

-- ---- names

as_actuals : (w : Sight Tree) (ds : List Name) (ts : List Tree) (other : Named Tree) (x : Name) → with_terms ds ts other x ≡ with_actuals w ds ts other x
as_actuals w [] ts other x = refl
as_actuals w (d ∷ ds) [] other x = refl
as_actuals w (d ∷ ds) (t ∷ ts) other x = ap (λ (s : Tree). cond (same_bytes d x) t s) (as_actuals w ds ts other x)

pub told_by_calls : ToldByCalls
told_by_calls p i u g actuals now value = λ j x. as_actuals (sight of_terms p i u) g.dummies actuals (own_of g now value) x j
