-- Walks along paths, in the sense of terms, meet readable terms.
use Rattle.std.proofs.Common.{◌≡◌, ℕ, zero, suc, ◌+◌, ◌<◌, ◌^◌, true, false, List, [], ◌∷◌, ◌++◌, map, Option, Some, None, slice_get, refl, subst, arith}
use Rattle.std.specs.List.{AllByRecursion}
use Rattle.fort_syntax.specs.Names.{data_name, commons}
use Rattle.formula.specs.declared.definition.Heading.{Heading}
use Rattle.formula.specs.declared.function.BuiltIn.TheVariants as f
use Rattle.formula.specs.Atoms.{is_name}
use Rattle.formula.specs.Tree.{Tree}
use Rattle.fort_syntax.specs.declared.name.Name.{Name}
use Rattle.fort_syntax.specs.declared.condition.Kind.TheVariants.{AssertCheck, ClockCheck, OutputCheck}
use Rattle.fort_syntax.specs.declared.unit.Line.{Line}
use Rattle.fort_syntax.specs.declared.unit.Unit.{Unit as Routine}
use Rattle.fort_notes.specs.Assertions.{Assertion, Notes}
use Rattle.fort_model.specs.Conditions.{sight}
use Rattle.fort_model.specs.Events.{Event, Check, Take, checks, takes}
use Rattle.fort_model.specs.Flow.{leads}
use Rattle.fort_model.specs.Lists.{IsAmong}
use Rattle.fort_model.specs.Paths.{Cut, NoCut, AtEnd, AtAssert, cut_at, Path, IsPath, IsWay, over_or, goes_on, goes_from, starts_at}
use Rattle.fort_model.specs.Program.{Program, notes_of, is_smashed, assertion_at}
use Rattle.fort_model.specs.Seen.{Named, Answers, Seen, symbols_of_calls}
use Rattle.fort_model.specs.Senses.{of_terms, note}
use Rattle.fort_model.specs.Symbols.{AtEntry, AtStart, ByCall, word_of}
use Rattle.fort_model.specs.Walk.{is_some_dim, dim_dummies, not_negative, entry_symbol, at_entry, at_start, bound_facts, dim_facts, entry_facts, smashed_in_order, start_facts, falls, fall, arrive, go_on, perform_line, walk_from, from_assert, from_start, walk}
use Rattle.fort_model.specs.WalkCalls.{Sight}
use Rattle.fort_model.specs.WalkPlaces.{sorts}
use Rattle.fort_model.specs.WalkStmt.{performed}
use Rattle.fort_laws.proofs.FewSymbols.{numbered, assert_is}
use Rattle.note_laws.proofs.Small.{filter_passes}
use Rattle.readable_laws.proofs.Made.{NamesFine, IsNoted, readable_negative, readable_truth, readable_symbol, note_readable, notes_readable}
use Rattle.readable_laws.proofs.Words.{call_symbol, entry_symbol_is, start_symbol_is}
use Rattle.readable_laws.proofs.Fine.{R, Each, EventsFine, AnswersFine, checks_in, checks_append, events_append, checks_fine, takes_fine, each_append, pick_fine}
use Rattle.readable_laws.proofs.Right.{IsUnitRight, IsAssertRight, AreNotesRight, IsProgramRight}
use Rattle.readable_laws.proofs.Parts.{least_fine, greatest_fine, make2_fine, natural_fine, defined_fine, sorts_fine, entry_by, performed_fine}

module _ (hs : List Heading) (p : Program) (right : IsProgramRight hs p) (i : ℕ) (u : Routine) (is : slice_get p.units i ≡ Some u) where
  abbrev pub w : Sight Tree
  w = sight of_terms p i u

  abbrev notes : Notes
  notes = notes_of p i

  notes_right : AreNotesRight hs notes
  notes_right = right.notes i u is

  unit_right : IsUnitRight u
  unit_right = right.units i u is

  -- ---- the start

  symbol_fine : (x : Name) → is_name x ≡ true → R hs (entry_symbol w x)
  symbol_fine x e = readable_symbol hs (word_of (AtEntry x)) (entry_symbol_is x e)

  entry_fine : NamesFine hs (at_entry w)
  entry_fine x e = entry_by hs u unit_right (entry_symbol w) x (symbol_fine x e) (data_name u x) refl

  start_fine : NamesFine hs (at_start w)
  start_fine x e = pick_fine hs (is_smashed p i x) _ _ (readable_symbol hs (word_of (AtStart x)) (start_symbol_is x e)) (entry_fine x e)

  not_negative_fine : (t : Tree) → R hs t → R hs (not_negative w t)
  not_negative_fine t k = make2_fine hs f.AtMost _ t refl (natural_fine hs 0 (omega arith)) k

  clock_fine : (now : Named Tree) → NamesFine hs now → (ts : List Tree) → AllByRecursion (IsNoted hs) ts → Each hs (map (λ t. not_negative w (note of_terms (at_entry w) now t)) ts)
  clock_fine now h [] k = tt
  clock_fine now h (t ∷ ts) k =
      (not_negative_fine _ (note_readable hs (least_fine hs) (greatest_fine hs) (at_entry w) now entry_fine h t k.0), clock_fine now h ts k.1)

  told_fine : (now : Named Tree) → NamesFine hs now → (ts : List Tree) → AllByRecursion (IsNoted hs) ts → Each hs (map (note of_terms (at_entry w) now) ts)
  told_fine now h ts k = notes_readable hs (least_fine hs) (greatest_fine hs) (at_entry w) now entry_fine h ts k

  bounds_fine : Each hs (bound_facts w)
  bounds_fine =
      (make2_fine hs f.AtMost _ _ refl (least_fine hs) (readable_negative hs p.bound right.bound), (make2_fine hs f.AtMost _ _ refl (natural_fine hs p.bound right.bound) (greatest_fine hs), tt))

  dim_facts_fine : (xs : List Name) → ((x : Name) → IsAmong x xs → is_name x ≡ true) → Each hs (dim_facts w xs)
  dim_facts_fine [] h = tt
  dim_facts_fine (x ∷ xs) h =
      let e = entry_fine x (h x (0, refl)) in
      (defined_fine hs _ e, (make2_fine hs f.AtMost _ _ refl (natural_fine hs 1 (omega arith)) e, dim_facts_fine xs (λ y m. h y (suc m.0, m.1))))

  dummies_fine : Each hs (dim_facts w (dim_dummies u))
  dummies_fine = dim_facts_fine (dim_dummies u) (λ x m. unit_right.dummies x (filter_passes (is_some_dim u) u.dummies x m).0)

  entry_facts_fine : Each hs (entry_facts w)
  entry_facts_fine =
      each_append hs (bound_facts w ++ sorts of_terms u (at_entry w) u.dummies ++ sorts of_terms u (at_entry w) (commons u) ++ dim_facts w (dim_dummies u)) _
      (each_append hs (bound_facts w ++ sorts of_terms u (at_entry w) u.dummies ++ sorts of_terms u (at_entry w) (commons u)) _
      (each_append hs (bound_facts w ++ sorts of_terms u (at_entry w) u.dummies) _
      (each_append hs (bound_facts w) _ bounds_fine (sorts_fine hs (at_entry w) entry_fine u unit_right u.dummies))
      (sorts_fine hs (at_entry w) entry_fine u unit_right (commons u)))
      dummies_fine)
      (told_fine (at_entry w) entry_fine notes.input notes_right.input)

  start_facts_fine : (a : Assertion) → IsAssertRight hs a → Each hs (start_facts w a)
  start_facts_fine a r =
      each_append hs (sorts of_terms u (at_start w) (smashed_in_order w) ++ map (note of_terms (at_entry w) (at_start w)) a.terms) _
      (each_append hs (sorts of_terms u (at_start w) (smashed_in_order w)) _ (sorts_fine hs (at_start w) start_fine u unit_right (smashed_in_order w)) (told_fine (at_start w) start_fine a.terms r.terms))
      (clock_fine (at_start w) start_fine a.clock r.clock)

  -- ---- the end

  falls_fine : (ns os : List Tree) → Each hs ns → Each hs os → R hs (falls w ns os)
  falls_fine [] os k l = readable_truth hs false
  falls_fine (n ∷ []) [] k l = readable_truth hs false
  falls_fine (n ∷ []) (o ∷ []) k l = make2_fine hs f.Less n o refl k.0 l.0
  falls_fine (n ∷ []) (o ∷ (q ∷ os)) k l = readable_truth hs false
  falls_fine (n ∷ (m ∷ ns)) [] k l = readable_truth hs false
  falls_fine (n ∷ (m ∷ ns)) (o ∷ []) k l = readable_truth hs false
  falls_fine (n ∷ (m ∷ ns)) (o ∷ (q ∷ os)) k l =
      make2_fine hs f.Or _ _ refl (make2_fine hs f.Less n o refl k.0 l.0)
      (make2_fine hs f.And _ _ refl (make2_fine hs f.AtMost n o refl k.0 l.0) (falls_fine (m ∷ ns) (q ∷ os) k.1 l.1))

  abbrev ClockFine : Option (List Tree) → Type 0
  ClockFine None = Unit {0}
  ClockFine (Some ts) = Each hs ts

  fall_fine : (card : ℕ) → card < 2 ^ 32 → (o : Option (List Tree)) (new : List Tree) → ClockFine o → Each hs new → EventsFine hs (fall w card o new)
  fall_fine card c None new k l = tt
  fall_fine card c (Some old) new k l = ((c, falls_fine new old l k), tt)

  -- an ASSERT of the unit is right
  found_right : (q : ℕ) (a : Assertion) → cut_at u notes q ≡ AtAssert a → IsAssertRight hs a
  found_right q a e =
      let n = numbered notes.asserts q a (assert_is (slice_get u.lines q) (assertion_at notes q) a e) in notes_right.asserts n.number a n.among

  module _ (clock : Option (List Tree)) (clocks : ClockFine clock) where
    assert_fine : (a : Assertion) → IsAssertRight hs a → (card : ℕ) (now : Named Tree) → NamesFine hs now → (on : List (Event Tree)) → EventsFine hs (arrive w clock card (AtAssert a) now on)
    assert_fine a r card now h on =
        events_append hs (checks AssertCheck a.card (map (note of_terms (at_entry w) now) a.terms) ++ checks ClockCheck a.card (map (λ t. not_negative w (note of_terms (at_entry w) now t)) a.clock)) _
        (events_append hs (checks AssertCheck a.card (map (note of_terms (at_entry w) now) a.terms)) _
        (checks_fine hs AssertCheck a.card _ r.card (told_fine now h a.terms r.terms))
        (checks_fine hs ClockCheck a.card _ r.card (clock_fine now h a.clock r.clock)))
        (fall_fine a.card r.card clock _ clocks (told_fine now h a.clock r.clock))

    -- what a walk meets when it arrives at a point, where it goes on with what is readable
    arrive_fine : (card : ℕ) → card < 2 ^ 32 → (q : ℕ) (now : Named Tree) → NamesFine hs now → (way : List (List ℕ)) (on : List (Event Tree)) (ps : Answers Tree)
        → (IsWay p.dialect u notes q way → AnswersFine hs (checks_in on) ps → EventsFine hs on)
        → (cut : Cut) → cut_at u notes q ≡ cut → over_or p.dialect u notes cut way (IsWay p.dialect u notes q way) → AnswersFine hs (checks_in (arrive w clock card cut now on)) ps
        → EventsFine hs (arrive w clock card cut now on)
    arrive_fine card c q now h way on ps rec NoCut e over answers = rec over answers
    arrive_fine card c q now h way on ps rec AtEnd e over answers = checks_fine hs OutputCheck card _ c (told_fine now h notes.output notes_right.output)
    arrive_fine card c q now h way on ps rec (AtAssert a) e over answers = assert_fine a (found_right q a e) card now h on

    module _ (way : List (List ℕ))
        (rec : (q : ℕ) (now : Named Tree) (ps : Answers Tree) → NamesFine hs now → IsWay p.dialect u notes q way → AnswersFine hs (checks_in (walk_from w clock q now ps way)) ps → EventsFine hs (walk_from w clock q now ps way))
        (pc : ℕ) (now : Named Tree) (ps : Answers Tree) (h : NamesFine hs now) (cs : List ℕ) where
      abbrev on : ℕ → Named Tree → Answers Tree → List (Event Tree)
      on q after rest = walk_from w clock q after rest way

      led_fine : (line : Line) → slice_get u.lines pc ≡ Some line → (l : Option ℕ) → leads p.dialect u pc line.stmt cs ≡ l → goes_on p.dialect u notes l way (λ q. IsWay p.dialect u notes q way)
          → AnswersFine hs
          (checks_in
          ((performed w line.card pc now line.stmt cs ps).events
          ++ go_on w clock line.card l (performed w line.card pc now line.stmt cs ps).value
          (λ q. on q (performed w line.card pc now line.stmt cs ps).value (performed w line.card pc now line.stmt cs ps).rest)))
          ps
          → EventsFine hs
          ((performed w line.card pc now line.stmt cs ps).events
          ++ go_on w clock line.card l (performed w line.card pc now line.stmt cs ps).value
          (λ q. on q (performed w line.card pc now line.stmt cs ps).value (performed w line.card pc now line.stmt cs ps).rest))
      led_fine line e None l goes answers = absurd goes
      led_fine line e (Some q) l goes answers =
          let r = right.lines i u is pc line e in
          let done : Seen Tree (Named Tree) = performed w line.card pc now line.stmt cs ps in
          let rest : List (Event Tree) = arrive w clock line.card (cut_at u notes q) done.value (on q done.value done.rest) in
          let many : AnswersFine hs (checks_in done.events + checks_in rest) ps = subst (λ (n : ℕ). AnswersFine hs n ps) (checks_append done.events rest) answers in
          let s = performed_fine hs p right i u is line.card r.card pc now h line.stmt cs r.stmt q l (checks_in rest) ps many in
          events_append hs done.events rest s.events
          (arrive_fine line.card r.card q done.value s.value way (on q done.value done.rest) done.rest
          (λ way_on more. rec q done.value done.rest s.value way_on more) (cut_at u notes q) refl goes s.rest)

      line_fine : (o : Option Line) → slice_get u.lines pc ≡ o → goes_from p.dialect u notes o pc cs way (λ q. IsWay p.dialect u notes q way)
          → AnswersFine hs (checks_in (perform_line w clock o pc now ps cs on)) ps → EventsFine hs (perform_line w clock o pc now ps cs on)
      line_fine None e goes answers = tt
      line_fine (Some line) e goes answers = led_fine line e (leads p.dialect u pc line.stmt cs) refl goes answers

    walk_from_fine : (way : List (List ℕ)) (pc : ℕ) (now : Named Tree) (ps : Answers Tree) → NamesFine hs now → IsWay p.dialect u notes pc way → AnswersFine hs (checks_in (walk_from w clock pc now ps way)) ps
        → EventsFine hs (walk_from w clock pc now ps way)
    walk_from_fine [] pc now ps h is_way answers = tt
    walk_from_fine (cs ∷ way) pc now ps h is_way answers =
        line_fine way (λ q after rest k l m. walk_from_fine way q after rest k l m) pc now ps h cs (slice_get u.lines pc) refl is_way answers

  -- ---- whole walks

  abbrev calls : Answers Tree
  calls = symbols_of_calls of_terms

  calls_fine : (n : ℕ) → n < 10 ^ 17 → AnswersFine hs n calls
  calls_fine n few j lt x e = readable_symbol hs (word_of (ByCall x (suc j))) (call_symbol x (suc j) e (omega arith))

  fewer_behind : (es fs : List (Event Tree)) → checks_in (es ++ fs) < 10 ^ 17 → checks_in fs < 10 ^ 17
  fewer_behind es fs h = let e = checks_append es fs in omega arith

  assert_walk_fine : (o : Option Assertion) (k : ℕ) → slice_get notes.asserts k ≡ o → (way : List (List ℕ)) → starts_at p.dialect u notes o way → checks_in (from_assert w calls o way) < 10 ^ 17 → EventsFine hs (from_assert w calls o way)
  assert_walk_fine None k e way is_way few = tt
  assert_walk_fine (Some a) k e way is_way few =
      let r = notes_right.asserts k a e in
      events_append hs (takes (entry_facts w) ++ takes (start_facts w a)) _
      (events_append hs (takes (entry_facts w)) _ (takes_fine hs (entry_facts w) entry_facts_fine) (takes_fine hs (start_facts w a) (start_facts_fine a r)))
      (walk_from_fine (Some (map (note of_terms (at_entry w) (at_start w)) a.clock)) (told_fine (at_start w) start_fine a.clock r.clock) way a.point (at_start w) calls start_fine is_way
      (calls_fine _ (fewer_behind (takes (entry_facts w) ++ takes (start_facts w a)) _ few)))

  start_walk_fine : (n : ℕ) (way : List (List ℕ)) → IsPath p.dialect u notes (record { start = n; choices = way }) → checks_in (from_start w calls n way) < 10 ^ 17 → EventsFine hs (from_start w calls n way)
  start_walk_fine zero way is_path few =
      events_append hs (takes (entry_facts w)) _ (takes_fine hs (entry_facts w) entry_facts_fine)
      (arrive_fine None tt 0 (omega arith) 0 (at_entry w) entry_fine way (walk_from w None 0 (at_entry w) calls way) calls
      (λ is_way more. walk_from_fine None tt way 0 (at_entry w) calls entry_fine is_way more) (cut_at u notes 0) refl is_path
      (calls_fine _ (fewer_behind (takes (entry_facts w)) _ few)))
  start_walk_fine (suc n) way is_path few = assert_walk_fine (slice_get notes.asserts n) n refl way is_path few

  pub walk_fine : (path : Path) → IsPath p.dialect u notes path → checks_in (walk w path) < 10 ^ 17 → EventsFine hs (walk w path)
  walk_fine path is_path few = start_walk_fine path.start path.choices is_path few

  -- a walk meets nothing, or a fact first
  abbrev pub Begins : List (Event Tree) → Type 0
  Begins [] = Unit {0}
  Begins (Take t ∷ es) = Unit {0}
  Begins (Check kind card t ∷ es) = ⊥

  assert_begins : (o : Option Assertion) (way : List (List ℕ)) → Begins (from_assert w calls o way)
  assert_begins None way = tt
  assert_begins (Some a) way = tt

  start_begins : (n : ℕ) (way : List (List ℕ)) → Begins (from_start w calls n way)
  start_begins zero way = tt
  start_begins (suc n) way = assert_begins (slice_get notes.asserts n) way

  pub walk_begins : (path : Path) → Begins (walk w path)
  walk_begins path = start_begins path.start path.choices
