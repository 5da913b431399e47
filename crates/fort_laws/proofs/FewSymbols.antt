-- Walks read few symbols.
use Rattle.std.proofs.Common.{◌≡◌, ℕ, zero, suc, Bool, List, [], ◌∷◌, ◌++◌, map, Option, Some, None, slice_get, cond, true, false, rules, refl, sym, ap, ◌∙◌, subst}
use Rattle.std.specs.Prelude.{◌==◌}
use Rattle.formula.specs.declared.value.Value.{Value}
use Rattle.formula.specs.Tree.{Tree}
use Rattle.formula.specs.Worth.{Function}
use Rattle.fort_syntax.specs.declared.name.Name.{Name}
use Rattle.fort_syntax.specs.declared.condition.Kind.{Kind}
use Rattle.fort_syntax.specs.declared.unit.Line.{Line}
use Rattle.fort_syntax.specs.declared.unit.Unit.{Unit as Routine}
use Rattle.fort_model.specs.Evaluate.{Scene}
use Rattle.fort_model.specs.Events.{Event, checks, takes}
use Rattle.fort_model.specs.Paths.{AtAssert, cut_in, cut_at, IsWay, starts_at}
use Rattle.fort_notes.specs.Assertions.{Assertion}
use Rattle.fort_model.specs.Program.{Program, notes_of, is_smashed, assertion_in, assertion_at}
use Rattle.fort_model.specs.Seen.{Named, Answers, symbols_of_calls}
use Rattle.fort_model.specs.Senses.{of_values, note}
use Rattle.fort_model.specs.Symbols.{Symbol, LeastInteger, GreatestInteger, AtEntry, AtStart, ByCall}
use Rattle.fort_model.specs.Walk.{arrive, at_entry, at_start, entry_facts, smashed_in_order, start_facts, not_negative, from_assert, walk_from}
use Rattle.fort_model.specs.WalkPlaces.{sorts}
use Rattle.fort_model.specs.WalkCalls.{Sight}
use Rattle.fort_laws.specs.FewSymbols.{WalksReadFewSymbols, PathsAreSafe, PathsMakeEntriesSafe, PathsMakeAssertsSafe, SafePathsEnd}
use Rattle.fort_laws.specs.WholeRuns.{clock_of, IsTrueAt}
use Rattle.fort_laws.specs.Matches.{AllTrue}
use Rattle.fort_laws.specs.Segments.{NoCheckFails, seen, KeepsUnsmashed}
use Rattle.fort_laws.proofs.BothSenses.{pairwise_map, Correspond, note_alike}
use Rattle.fort_laws.proofs.BothParts.{sorts_alike}
use Rattle.fort_laws.proofs.Matching.{all_true_append}
use Rattle.fort_laws.proofs.Descents.{true_left, true_right, safe_runs_end}
use Rattle.fort_laws.proofs.WalkKeeps.{statements_keep}
use Rattle.fort_syntax.specs.declared.condition.Kind.TheVariants.{AssertCheck, ClockCheck}
use Rattle.fort_laws.proofs.BothWalks.{ClocksAlike, walk_from_alike, arrive_alike, entry_alike, entry_facts_alike}
use Rattle.fort_laws.proofs.SafeRuns.{rest_safe}
use Rattle.fort_laws.proofs.SameValues.{Equal, all_equal, events_equal, same_senses, equal_all}

module _ (fs : List Function) (values others : Symbol → Value) (c : Correspond Equal (of_values fs values) (of_values fs others)) (program : Program) (i : ℕ) (u : Routine) where
  equal_clocks : (o : Option (List Value)) → ClocksAlike Equal (of_values fs values) (of_values fs others) c program i u o o
  equal_clocks None = tt
  equal_clocks (Some vs) = equal_all vs

pub walks_read_few_symbols : WalksReadFewSymbols
walks_read_few_symbols fs values others program i u least greatest entries clock pc now answers way =
    let c = same_senses fs values others least greatest entries in
    events_equal _ _
    (walk_from_alike Equal (of_values fs values) (of_values fs others) c program i u clock clock (equal_clocks fs values others c program i u clock)
    way pc now now answers answers (λ x. refl) (λ k x. refl))

-- ---- the entry

-- told answers, as what the symbols of calls stand for
unfoldable pub answered : (Symbol → Value) → Answers Value → Symbol → Value
answered values answers LeastInteger = values LeastInteger
answered values answers GreatestInteger = values GreatestInteger
answered values answers (AtEntry x) = values (AtEntry x)
answered values answers (AtStart x) = values (AtStart x)
answered values answers (ByCall x zero) = values (ByCall x zero)
answered values answers (ByCall x (suc k)) = answers k x

pub paths_make_entries_safe : PathsMakeEntriesSafe
unfolding answered
paths_make_entries_safe fs values program i s safe facts way answers over =
    let others : Symbol → Value = answered values answers in
    let c : Correspond Equal (of_values fs values) (of_values fs others) = same_senses fs values others refl refl (λ x. refl) in
    let one : Sight Value = seen fs values program i s in
    let two : Sight Value = seen fs others program i s in
    let calls : Answers Value = symbols_of_calls (of_values fs others) in
    let same_facts : entry_facts one ≡ entry_facts two = all_equal _ _ (entry_facts_alike Equal (of_values fs values) (of_values fs others) c program i s.unit) in
    let same_walks : arrive one None 0 (cut_at s.unit (notes_of program i) 0) (at_entry one) (walk_from one None 0 (at_entry one) answers way)
    ≡ arrive two None 0 (cut_at s.unit (notes_of program i) 0) (at_entry two) (walk_from two None 0 (at_entry two) calls way) =
    events_equal _ _
    (arrive_alike Equal (of_values fs values) (of_values fs others) c program i s.unit None None tt 0 (cut_at s.unit (notes_of program i) 0) (at_entry one) (at_entry two) _ _
    (entry_alike Equal (of_values fs values) (of_values fs others) c program i s.unit)
    (walk_from_alike Equal (of_values fs values) (of_values fs others) c program i s.unit None None tt way 0 (at_entry one) (at_entry two) answers calls
    (entry_alike Equal (of_values fs values) (of_values fs others) c program i s.unit) (λ k x. refl))) in
    subst (λ (es : List (Event Value)). NoCheckFails es) (sym same_walks)
    (rest_safe (takes (entry_facts two)) _ (subst (λ (ts : List Value). AllTrue (takes ts)) same_facts facts) (safe others (record { start = 0; choices = way }) over))

-- ---- ASSERTs

-- told answers, and what names stand for at an ASSERT
unfoldable pub begun : (Symbol → Value) → Named Value → Answers Value → Symbol → Value
begun values now answers LeastInteger = values LeastInteger
begun values now answers GreatestInteger = values GreatestInteger
begun values now answers (AtEntry x) = values (AtEntry x)
begun values now answers (AtStart x) = now x
begun values now answers (ByCall x zero) = values (ByCall x zero)
begun values now answers (ByCall x (suc k)) = answers k x

-- what is checked true may be taken
taken_checks : (kind : Kind) (card : ℕ) (vs : List Value) → AllTrue (checks kind card vs) → AllTrue (takes vs)
taken_checks kind card [] h = tt
taken_checks kind card (v ∷ vs) h = (h.0, taken_checks kind card vs h.1)

taken_append : (vs ws : List Value) → AllTrue (takes vs) → AllTrue (takes ws) → AllTrue (takes (vs ++ ws))
taken_append [] ws h k = k
taken_append (v ∷ vs) ws h k = (h.0, taken_append vs ws h.1 k)

-- the ASSERT of a cut point
pub record IsNumbered (asserts : List Assertion) (q : ℕ) (a : Assertion) : Type 0 where
  pub number : ℕ
  pub among : slice_get asserts number ≡ Some a
  pub point : a.point ≡ q

pub numbered : (asserts : List Assertion) (q : ℕ) (a : Assertion) → assertion_in asserts q ≡ Some a → IsNumbered asserts q a
numbered [] q a h = absurd (cc)
numbered (b ∷ rest) q a h = by_test (b.point == q) refl h (λ k. later (numbered rest q a k))
  where
    later : IsNumbered rest q a → IsNumbered (b ∷ rest) q a
    later r = record { number = suc r.number; among = r.among; point = r.point }

    here : b ≡ a → (b.point == q) ≡ true → IsNumbered (b ∷ rest) q a
    here e t = record { number = 0; among = ap Some e; point = ap (λ (x : Assertion). x.point) (sym e) ∙ equal b.point q t }
      where
        equal : (m n : ℕ) → (m == n) ≡ true → m ≡ n
        equal m n h = search rules

    some_is : Some b ≡ Some a → b ≡ a
    some_is k = cc

    by_test : (t : Bool) → (b.point == q) ≡ t → cond t (Some b) (assertion_in rest q) ≡ Some a → (assertion_in rest q ≡ Some a → IsNumbered (b ∷ rest) q a) → IsNumbered (b ∷ rest) q a
    by_test true e k on = here (some_is k) e
    by_test false e k on = on k

pub assert_is : (o : Option Line) (b : Option Assertion) (a : Assertion) → cut_in o b ≡ AtAssert a → b ≡ Some a
assert_is None b a h = absurd (cc)
assert_is (Some line) None a h = absurd (cc)
assert_is (Some line) (Some b) a h = ap Some (same_assert b a h)
  where
    same_assert : (b a : Assertion) → AtAssert b ≡ AtAssert a → b ≡ a
    same_assert b a k = cc

module _ (fs : List Function) (values : Symbol → Value) (program : Program) (i : ℕ) (s : Scene) (now : Named Value) (answers : Answers Value) (kept : KeepsUnsmashed fs values program i s now) where
  abbrev others : Symbol → Value
  others = begun values now answers

  abbrev one : Sight Value
  one = seen fs values program i s

  abbrev two : Sight Value
  two = seen fs others program i s

  abbrev calls : Answers Value
  calls = symbols_of_calls (of_values fs others)

  linked : Correspond Equal (of_values fs values) (of_values fs others)
  unfolding begun
  linked = same_senses fs values others refl refl (λ x. refl)

  same_start : (x : Name) → now x ≡ at_start two x
  unfolding begun
  same_start x = by_test (is_smashed program i x) refl
    where
      by_test : (t : Bool) → is_smashed program i x ≡ t → now x ≡ cond t (now x) (at_entry two x)
      by_test true e = refl
      by_test false e = kept x e ∙ entry_alike Equal (of_values fs values) (of_values fs others) linked program i s.unit x

  same_calls : (k : ℕ) (x : Name) → answers k x ≡ calls k x
  unfolding begun
  same_calls k x = refl

  same_entries : (x : Name) → at_entry one x ≡ at_entry two x
  same_entries x = entry_alike Equal (of_values fs values) (of_values fs others) linked program i s.unit x

  same_note : (t : Tree) → note (of_values fs values) (at_entry one) now t ≡ note (of_values fs others) (at_entry two) (at_start two) t
  same_note t = note_alike Equal (of_values fs values) (of_values fs others) linked (at_entry one) now (at_entry two) (at_start two) same_entries same_start t

  pub same_facts : entry_facts one ≡ entry_facts two
  same_facts = all_equal _ _ (entry_facts_alike Equal (of_values fs values) (of_values fs others) linked program i s.unit)

  same_sorts : sorts one.sense s.unit now (smashed_in_order one) ≡ sorts two.sense s.unit (at_start two) (smashed_in_order two)
  same_sorts = all_equal _ _ (sorts_alike Equal (of_values fs values) (of_values fs others) linked now (at_start two) same_start s.unit (smashed_in_order one))

  module _ (a : Assertion) where
    abbrev told_one : Tree → Value
    told_one = note (of_values fs values) (at_entry one) now

    abbrev told_two : Tree → Value
    told_two = note (of_values fs others) (at_entry two) (at_start two)

    same_terms : map told_one a.terms ≡ map told_two a.terms
    same_terms = all_equal _ _ (pairwise_map Equal told_one told_two a.terms same_note)

    same_parts : map (λ t. not_negative one (told_one t)) a.clock ≡ map (λ t. not_negative two (told_two t)) a.clock
    same_parts = all_equal _ _ (pairwise_map Equal (λ t. not_negative one (told_one t)) (λ t. not_negative two (told_two t)) a.clock (λ t. ap (not_negative one) (same_note t)))

    pub start_true : AllTrue (takes (sorts one.sense s.unit now (smashed_in_order one))) → IsTrueAt fs values program i s a now → AllTrue (takes (start_facts two a))
    start_true typed t =
        let both = true_left (checks AssertCheck a.card (map told_one a.terms) ++ checks ClockCheck a.card (map (λ t. not_negative one (told_one t)) a.clock)) [] t in
        let terms : AllTrue (takes (map told_two a.terms)) =
        subst (λ (vs : List Value). AllTrue (takes vs)) same_terms
        (taken_checks AssertCheck a.card (map told_one a.terms) (true_left (checks AssertCheck a.card (map told_one a.terms)) (checks ClockCheck a.card (map (λ t. not_negative one (told_one t)) a.clock)) both)) in
        let clock : AllTrue (takes (map (λ t. not_negative two (told_two t)) a.clock)) =
        subst (λ (vs : List Value). AllTrue (takes vs)) same_parts
        (taken_checks ClockCheck a.card (map (λ t. not_negative one (told_one t)) a.clock)
        (true_right (checks AssertCheck a.card (map told_one a.terms)) (checks ClockCheck a.card (map (λ t. not_negative one (told_one t)) a.clock)) both)) in
        taken_append (sorts two.sense s.unit (at_start two) (smashed_in_order two) ++ map told_two a.terms) (map (λ t. not_negative two (told_two t)) a.clock)
        (taken_append (sorts two.sense s.unit (at_start two) (smashed_in_order two)) (map told_two a.terms) (subst (λ (vs : List Value). AllTrue (takes vs)) same_sorts typed) terms)
        clock

    pub same_walks : (q : ℕ) (way : List (List ℕ)) → walk_from one (Some (clock_of fs values program i s a now)) q now answers way ≡ walk_from two (Some (map told_two a.clock)) q (at_start two) calls way
    same_walks q way =
        events_equal _ _
        (walk_from_alike Equal (of_values fs values) (of_values fs others) linked program i s.unit (Some (clock_of fs values program i s a now)) (Some (map told_two a.clock))
        (pairwise_map Equal told_one told_two a.clock same_note) way q now (at_start two) answers calls same_start same_calls)

    not_failing : PathsAreSafe fs program i s.unit → AllTrue (takes (entry_facts one)) → AllTrue (takes (sorts one.sense s.unit now (smashed_in_order one))) → IsTrueAt fs values program i s a now
        → (q : ℕ) → IsNumbered (notes_of program i).asserts q a → (way : List (List ℕ)) → IsWay program.dialect s.unit (notes_of program i) q way
        → NoCheckFails (walk_from one (Some (clock_of fs values program i s a now)) q now answers way)
    not_failing safe facts typed t q n way is =
        subst (λ (es : List (Event Value)). NoCheckFails es) (sym (same_walks q way))
        (subst (λ (pc : ℕ). NoCheckFails (walk_from two (Some (map told_two a.clock)) pc (at_start two) calls way)) n.point
        (rest_safe (takes (entry_facts two) ++ takes (start_facts two a)) (walk_from two (Some (map told_two a.clock)) a.point (at_start two) calls way)
        (all_true_append (takes (entry_facts two)) (takes (start_facts two a)) (subst (λ (ts : List Value). AllTrue (takes ts)) same_facts facts) (start_true typed t))
        (subst (λ (o : Option Assertion). NoCheckFails (from_assert two calls o way)) n.among
        (safe others (record { start = suc n.number; choices = way })
        (subst (λ (o : Option Assertion). starts_at program.dialect s.unit (notes_of program i) o way) (sym n.among)
        (subst (λ (pc : ℕ). IsWay program.dialect s.unit (notes_of program i) pc way) (sym n.point) is))))))

pub paths_make_asserts_safe : PathsMakeAssertsSafe
paths_make_asserts_safe fs values program i s safe facts typed a q now st c stood kept t way answers is =
    not_failing fs values program i s now answers kept a safe facts (typed now st stood kept) t q
    (numbered (notes_of program i).asserts q a (assert_is (slice_get s.unit.lines q) (assertion_at (notes_of program i) q) a c)) way is

-- ---- whole runs of a unit

pub safe_paths_end : SafePathsEnd
safe_paths_end fs values program i s least greatest strict bounded dialects dims references calls good cut table is_unit blocks parts same safe typed st facts stood =
    safe_runs_end fs values program i s least greatest strict bounded dialects dims references calls good cut
    (statements_keep fs values program i s table is_unit blocks) parts same (paths_make_asserts_safe fs values program i s safe facts typed)
    0 (at_entry (seen fs values program i s)) st stood (λ x h. refl) (paths_make_entries_safe fs values program i s safe facts)
