-- One DO more is tested, or none.
use Rattle.std.proofs.Common.{◌≡◌, ℕ, zero, suc, ◌+◌, ◌<◌, ◌≤◌, ◌⊎◌, inl, inr, true, false, cond, Bool, List, [], ◌∷◌, ◌++◌, length, set, take, drop, Option, Some, None, slice_get, refl, sym, ap, ◌∙◌, subst, add-one, arith}
use Rattle.std.specs.Prelude.{◌==◌, nat_lt}
use Rattle.std.proofs.lemmas.Bool.Decides.{nat_tests}
use Rattle.std.proofs.lemmas.List.{length-set, length-drop}
use Rattle.std.proofs.lemmas.Option.{slice_get_within}
use Rattle.fort_syntax.specs.declared.stmt.Stmt.{Stmt}
use Rattle.fort_syntax.specs.declared.stmt.Stmt.TheVariants.{Do}
use Rattle.fort_syntax.specs.declared.unit.Line.{Line}
use Rattle.fort_syntax.specs.declared.unit.Unit.{Unit as Routine}
use Rattle.fort_model.specs.declared.graph.Fork.{Fork}
use Rattle.fort_model.specs.declared.graph.Target.{Target}
use Rattle.fort_model.specs.declared.graph.Target.TheVariants.{Point}
use Rattle.fort_model.specs.Flow.{Part, Opens, Branches, Closes, Plain, part_of, part_in, is_close, next_by, target, Loop, loop_of, loops_from, next_point}
use Rattle.fort_model.specs.Graphs.{IsForkTo, AreTests, IsWithin}
use Rattle.unit_points.proofs.Scanning.{within}
use Rattle.flow_tests.specs.Growing.{Extends, AreFalling, AreWithin, Grown}
use Rattle.flow_tests.specs.Tests.{do_label, is_flowing, IsFlowing, AreTestsOfFirst, IsOver, LeadsTo, AreChains}
use Rattle.flow_tests.proofs.Extending.{same_some, none_some, stands, two_within, pushed, was_set, tests_kept, within_more}

-- ---- the DOs among the first statements

plus_none : (k : ℕ) → k ≡ k + 0
plus_none k = omega arith

plus_suc : (k n : ℕ) → suc k + n ≡ k + suc n
plus_suc k n = omega arith

one_more : (all : List Line) (q k n : ℕ) (lines : List Line) (line : Line) (ds : List Loop) → slice_get lines n ≡ Some line
    → loops_from all q k (take (suc n) lines) ds ≡ loop_of all q (k + n) line.stmt (loops_from all q k (take n lines) ds)
one_more all q k n [] line ds e = absurd (none_some line e)
one_more all q k zero (x ∷ lines) line ds e =
    ap (λ (l : Line). loop_of all q k l.stmt ds) (same_some x line e) ∙ ap (λ (n : ℕ). loop_of all q n line.stmt ds) (plus_none k)
one_more all q k (suc n) (x ∷ lines) line ds e =
    one_more all q (suc k) n lines line (loop_of all q k x.stmt ds) e
    ∙ ap (λ (j : ℕ). loop_of all q j line.stmt (loops_from all q (suc k) (take n lines) (loop_of all q k x.stmt ds))) (plus_suc k n)

none_plus : (n : ℕ) → 0 + n ≡ n
none_plus n = omega arith

pub next_of : (u : Routine) (q n : ℕ) (line : Line) → slice_get u.lines n ≡ Some line
    → loops_from u.lines q 0 (take (suc n) u.lines) [] ≡ loop_of u.lines q n line.stmt (loops_from u.lines q 0 (take n u.lines) [])
next_of u q n line e = one_more u.lines q 0 n u.lines line [] e ∙ ap (λ (j : ℕ). loop_of u.lines q j line.stmt (loops_from u.lines q 0 (take n u.lines) [])) (none_plus n)

is_less : (a b : ℕ) → nat_lt a b ≡ true → a < b
is_less a b h = grind (arith, nat_tests)

-- ---- one statement

test_of : (forks : List Fork) (p : ℕ) (prev : List Loop) (t : Target) (d : Loop) (b : Bool) → b ≡ true → AreTests forks p (d ∷ prev) t → AreTests forks p (cond b (d ∷ prev) prev) t
test_of forks p prev t d true e h = h
test_of forks p prev t d false e h = absurd (cc)

same_true : (a b : ℕ) → a ≡ b → (a == b) ≡ true
same_true a b e = grind (arith, nat_tests)

same_false : (a b : ℕ) → (a ≡ b → ⊥) → (a == b) ≡ false
same_false a b e = grind (arith, nat_tests)

looped : (forks : List Fork) (all : List Line) (p q i : ℕ) (s : Stmt) (label : ℕ) (prev : List Loop) (t next : Target) → do_label s ≡ Some label → target all label ≡ q
    → IsForkTo forks t (Some i) (Point (suc i) ∷ next ∷ []) → AreTests forks p prev next → AreTests forks p (loop_of all q i s prev) t
looped forks all p q i (Do l x first last step) label prev t next e same h rest =
    let labels = same_some l label e in
    test_of forks p prev t (record { at = i; variable = x; last = last; step = step }) (target all l == q)
    (same_true (target all l) q (ap (target all) labels ∙ same)) (next, h, rest)
looped forks all p q i s label prev t next e same h rest = absurd (none_some label e)

cond_no : (b : Bool) (d : Loop) (prev : List Loop) → b ≡ false → cond b (d ∷ prev) prev ≡ prev
cond_no true d prev e = absurd (cc)
cond_no false d prev e = refl

unlooped : (all : List Line) (q i : ℕ) (s : Stmt) (prev : List Loop) → ((label : ℕ) → do_label s ≡ Some label → target all label ≡ q → ⊥) → loop_of all q i s prev ≡ prev
unlooped all q i (Do l x first last step) prev other =
    cond_no (target all l == q) (record { at = i; variable = x; last = last; step = step }) prev (same_false (target all l) q (λ e. other l refl e))
unlooped all q i s prev other = refl

-- ---- all that is known

leads : (u : Routine) (o : Option ℕ) (last : ℕ) → LeadsTo u o last → (label : ℕ) × (o ≡ Some label) × (target u.lines label ≡ last)
leads u None last h = absurd h
leads u (Some label) last h = (label, refl, h)

over_kept : (u : Routine) (old new : List Fork) → Extends old new → (pc : ℕ) (o : Option ℕ) (t : Target) → IsOver u old pc o t → IsOver u new pc o t
over_kept u old new x pc None t h = tt
over_kept u old new x pc (Some label) t h = tests_kept old new x (next_point u (target u.lines label)) (loops_from u.lines (target u.lines label) 0 (take pc u.lines) []) t h

over_at : (u : Routine) (forks : List Fork) (pc : ℕ) (o : Option ℕ) (label last : ℕ) (t : Target) → o ≡ Some label → target u.lines label ≡ last → AreTestsOfFirst u pc forks last t → IsOver u forks pc o t
over_at u forks pc None label last t e same h = absurd (none_some label e)
over_at u forks pc (Some l) label last t e same h = subst (λ q. AreTestsOfFirst u pc forks q t) (sym (ap (target u.lines) (same_some l label e) ∙ same)) h

module _ (u : Routine) (at : ℕ) (line : Line) (here : slice_get u.lines at ≡ Some line) (forks new : List Fork) (behind over : List Target) (is : AreChains u at forks behind over) where
  long_push : {X : Type 0} (xs : List X) (y : X) → length (xs ++ y ∷ []) ≡ suc (length xs)
  long_push [] y = refl
  long_push (x ∷ xs) y = ap suc (long_push xs y)

  same_line : (q : ℕ) (l : Line) → q ≡ at → slice_get u.lines q ≡ Some l → line ≡ l
  same_line q l e h = same_some line l (sym here ∙ ap (λ n. slice_get u.lines n) (sym e) ∙ h)

  pub put_test : (last : ℕ) (t next : Target) → LeadsTo u (do_label line.stmt) last → slice_get behind last ≡ Some next
      → IsForkTo new t (Some at) (Point (suc at) ∷ next ∷ []) → Grown (length u.lines) 1 forks new t
      → AreChains u (suc at) new (set behind last t) (over ++ next ∷ [])
  put_test last t next to was fork grown = record {
    behind_long = length-set behind last t ∙ is.behind_long;
    over_long = long_push over next ∙ ap suc is.over_long;
    few = (let a = grown.few in let b = is.few in omega (arith, a, b));
    falling = grown.falling;
    tests = λ q x e. tests q x (was_set behind last t q x e);
    overs = λ q x l e h. overs q x l h (pushed over next q x e);
  }
    where
      old_tests : AreTestsOfFirst u at new last next
      old_tests = tests_kept forks new grown.extends (next_point u last) (loops_from u.lines last 0 (take at u.lines) []) next (is.tests last next was).0

      made : AreTestsOfFirst u (suc at) new last t
      made =
          let l = leads u (do_label line.stmt) last to in
          subst (λ ds. AreTests new (next_point u last) ds t) (sym (next_of u last at line here))
          (looped new u.lines (next_point u last) last at line.stmt l.0 (loops_from u.lines last 0 (take at u.lines) []) t next l.1 l.2 fork old_tests)

      tests : (q : ℕ) (x : Target) → ((q ≡ last) × (t ≡ x)) ⊎ ((q ≡ last → ⊥) × (slice_get behind q ≡ Some x)) → AreTestsOfFirst u (suc at) new q x × IsWithin (length u.lines) (length new) x
      tests q x (inl h) = (
        subst (λ k. AreTestsOfFirst u (suc at) new k x) (sym h.0) (subst (λ y. AreTestsOfFirst u (suc at) new last y) h.1 made),
        subst (IsWithin (length u.lines) (length new)) h.1 grown.within,
      )
      tests q x (inr h) =
          let l = leads u (do_label line.stmt) last to in
          let was_tests = is.tests q x h.1 in (
            subst (λ ds. AreTests new (next_point u q) ds x)
                (sym (next_of u q at line here
                ∙ unlooped u.lines q at line.stmt (loops_from u.lines q 0 (take at u.lines) [])
                (λ label e same. h.0 (sym same ∙ ap (target u.lines) (same_some label l.0 (sym e ∙ l.1)) ∙ l.2))))
                (tests_kept forks new grown.extends (next_point u q) (loops_from u.lines q 0 (take at u.lines) []) x was_tests.0),
            within_more (length u.lines) (length forks) (length new) x grown.longer was_tests.1,
          )

      overs : (q : ℕ) (x : Target) (l : Line) → slice_get u.lines q ≡ Some l → (slice_get over q ≡ Some x) ⊎ ((q ≡ length over) × (next ≡ x)) → IsOver u new q (do_label l.stmt) x × IsWithin (length u.lines) (length new) x
      overs q x l h (inl e) =
          let o = is.overs q x l e h in
          (over_kept u forks new grown.extends q (do_label l.stmt) x o.0, within_more (length u.lines) (length forks) (length new) x grown.longer o.1)
      overs q x l h (inr e) =
          let place : q ≡ at = e.0 ∙ is.over_long in
          let g = leads u (do_label line.stmt) last to in
          let first = over_at u new at (do_label line.stmt) g.0 last next g.1 g.2 old_tests in (
            subst (λ y. IsOver u new q (do_label l.stmt) y) e.1
                (subst (λ (m : Line). IsOver u new q (do_label m.stmt) next) (same_line q l place h) (subst (λ k. IsOver u new k (do_label line.stmt) next) (sym place) first)),
            subst (IsWithin (length u.lines) (length new)) e.1 (within_more (length u.lines) (length forks) (length new) next grown.longer (is.tests last next was).1),
          )

  over_none : (pc : ℕ) (o : Option ℕ) (t : Target) → o ≡ None → IsOver u forks pc o t
  over_none pc None t e = tt
  over_none pc (Some label) t e = absurd (cc)

  pub skip_test : (t : Target) → IsWithin (length u.lines) (length forks) t → do_label line.stmt ≡ None → AreChains u (suc at) forks behind (over ++ t ∷ [])
  skip_test t within none = record {
    behind_long = is.behind_long;
    over_long = long_push over t ∙ ap suc is.over_long;
    few = (let b = is.few in omega (arith, b));
    falling = is.falling;
    tests = λ q x e. (
      subst (λ ds. AreTests forks (next_point u q) ds x)
          (sym (next_of u q at line here
          ∙ unlooped u.lines q at line.stmt (loops_from u.lines q 0 (take at u.lines) []) (λ label s same. none_some label (sym none ∙ s))))
          (is.tests q x e).0,
      (is.tests q x e).1,
    );
    overs = λ q x l e h. overs q x l h (pushed over t q x e);
  }
    where
      overs : (q : ℕ) (x : Target) (l : Line) → slice_get u.lines q ≡ Some l → (slice_get over q ≡ Some x) ⊎ ((q ≡ length over) × (t ≡ x)) → IsOver u forks q (do_label l.stmt) x × IsWithin (length u.lines) (length forks) x
      overs q x l h (inl e) = is.overs q x l e h
      overs q x l h (inr e) =
          let place : q ≡ at = e.0 ∙ is.over_long in
          (over_none q (do_label l.stmt) x (ap (λ (m : Line). do_label m.stmt) (sym (same_line q l place h)) ∙ none), subst (IsWithin (length u.lines) (length forks)) e.1 within)

-- ---- no DO is tested

pub no_tests : (u : Routine) (behind : List Target) → length behind ≡ length u.lines
    → ((q : ℕ) (t : Target) → slice_get behind q ≡ Some t → (t ≡ Point (next_point u q)) × (next_point u q ≤ length u.lines)) → AreChains u 0 [] behind []
no_tests u behind long points = record {
  behind_long = long;
  over_long = refl;
  few = omega arith;
  falling = record { falls = λ k f t e h. absurd (none_some f e) };
  tests = λ q t e. ((points q t e).0, subst (IsWithin (length u.lines) 0) (sym (points q t e).0) (points q t e).1);
  overs = λ q t line e h. absurd (none_some t e);
}

-- the flow goes on within the unit
pub next_within : (u : Routine) (q : ℕ) → q < length u.lines → next_point u q ≤ length u.lines
next_within u q lt = by (slice_get u.lines (suc q)) refl
  where
    by : (o : Option Line) → slice_get u.lines (suc q) ≡ o → next_by (part_in o) u q ≤ length u.lines
    by None e = lt
    by (Some line) e = part (part_of line.stmt) (slice_get_within u.lines (suc q) line e)
      where
        part : (p : Part) → suc q < length u.lines → next_by p u q ≤ length u.lines
        part Opens in_it = lt
        part Closes in_it = lt
        part Plain in_it = lt
        part Branches in_it =
            let few = within is_close (drop (suc (suc q)) u.lines) 0 in
            let long = length-drop (suc (suc q)) u.lines in
            omega (arith, few, long, in_it)

pub pushed_point : (u : Routine) (at : ℕ) (behind : List Target) (point : ℕ) → at < length u.lines → length behind ≡ at → point ≡ next_point u at
    → ((q : ℕ) (t : Target) → slice_get behind q ≡ Some t → (t ≡ Point (next_point u q)) × (next_point u q ≤ length u.lines))
    → (q : ℕ) (t : Target) → slice_get (behind ++ Point point ∷ []) q ≡ Some t → (t ≡ Point (next_point u q)) × (next_point u q ≤ length u.lines)
pushed_point u at behind point lt long same each q t e = by (pushed behind (Point point) q t e)
  where
    by : (slice_get behind q ≡ Some t) ⊎ ((q ≡ length behind) × (Point point ≡ t)) → (t ≡ Point (next_point u q)) × (next_point u q ≤ length u.lines)
    by (inl h) = each q t h
    by (inr h) =
        let place : q ≡ at = h.0 ∙ long in
        (sym h.1 ∙ ap (λ (n : ℕ). Point n) (same ∙ ap (next_point u) (sym place)), subst (λ n. next_point u n ≤ length u.lines) (sym place) (next_within u at lt))

-- ---- the same of what calls give

pub put_all : (u : Routine) (at : ℕ) → at < length u.lines → (forks new : List Fork) (behind over slice over_now targets : List Target) (last : ℕ) (t next : Target)
    → AreChains u at forks behind over → ((line : Line) → slice_get u.lines at ≡ Some line → LeadsTo u (do_label line.stmt) last)
    → slice ≡ behind → slice_get slice last ≡ Some next → targets ≡ Point (at + 1) ∷ next ∷ [] → IsForkTo new t (Some at) targets
    → ((size : ℕ) → AreFalling size forks → AreWithin size (length forks) targets → Grown size 1 forks new t) → over_now ≡ over ++ next ∷ []
    → AreChains u (suc at) new (set behind last t) over_now
put_all u at lt forks new behind over slice over_now targets last t next is to same was both fork grown pushed_over =
    let line = stands u.lines at lt in
    let now : slice_get behind last ≡ Some next = ap (λ xs. slice_get xs last) (sym same) ∙ was in
    let two : targets ≡ Point (suc at) ∷ next ∷ [] = both ∙ ap (λ (n : ℕ). Point n ∷ next ∷ []) (add-one at) in
    subst (λ xs. AreChains u (suc at) new (set behind last t) xs) (sym pushed_over)
    (put_test u at line.0 line.1 forks new behind over is last t next (to line.0 line.1) now (subst (λ ts. IsForkTo new t (Some at) ts) two fork)
    (grown (length u.lines) is.falling
    (subst (AreWithin (length u.lines) (length forks)) (sym two) (two_within (length u.lines) (length forks) (Point (suc at)) next lt (is.tests last next now).1))))

pub skip_all : (u : Routine) (at : ℕ) → at < length u.lines → (forks : List Fork) (behind over over_now : List Target) → AreChains u at forks behind over
    → ((line : Line) → slice_get u.lines at ≡ Some line → do_label line.stmt ≡ None) → over_now ≡ over ++ Point 0 ∷ [] → AreChains u (suc at) forks behind over_now
skip_all u at lt forks behind over over_now is none pushed_over =
    let line = stands u.lines at lt in
    subst (λ xs. AreChains u (suc at) forks behind xs) (sym pushed_over)
    (skip_test u at line.0 line.1 forks forks behind over is (Point 0) (omega arith) (none line.0 line.1))

flows : (u : Routine) (s : Stmt) (label : ℕ) → do_label s ≡ Some label → is_flowing u s ≡ true → target u.lines label < length u.lines
flows u (Do l x first last step) label e h = subst (λ n. target u.lines n < length u.lines) (same_some l label e) (is_less (target u.lines l) (length u.lines) h)
flows u s label e h = absurd (none_some label e)

pub last_inside : (u : Routine) → IsFlowing u → (at : ℕ) → at < length u.lines → (label : ℕ) → ((line : Line) → slice_get u.lines at ≡ Some line → do_label line.stmt ≡ Some label)
    → target u.lines label < length u.lines
last_inside u flowing at lt label is = (let line = stands u.lines at lt in flows u line.0.stmt label (is line.0 line.1) (flowing.each at line.0 line.1))
