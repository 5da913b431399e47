-- Whole walks along one path, in two senses between which things correspond.
use Rattle.std.proofs.Common.{ℕ, zero, suc, false, List, [], ◌∷◌, ◌++◌, map, Option, Some, None, slice_get, refl}
use Rattle.fort_syntax.specs.Names.{data_name, is_own, has_role, commons}
use Rattle.formula.specs.declared.function.BuiltIn.TheVariants as f
use Rattle.fort_syntax.specs.declared.name.Name.{Name}
use Rattle.fort_syntax.specs.declared.condition.Kind.TheVariants.{AssertCheck, ClockCheck, OutputCheck}
use Rattle.fort_syntax.specs.declared.unit.Line.{Line}
use Rattle.fort_syntax.specs.declared.unit.Unit.{Unit as Routine}
use Rattle.fort_model.specs.Flow.{leads}
use Rattle.fort_notes.specs.Assertions.{Assertion}
use Rattle.fort_model.specs.Program.{Program, notes_of, is_smashed}
use Rattle.fort_model.specs.Senses.{Sense, note}
use Rattle.fort_model.specs.Events.{Event, takes}
use Rattle.fort_model.specs.Seen.{Named, Answers, symbols_of_calls}
use Rattle.fort_model.specs.Paths.{Cut, NoCut, AtEnd, AtAssert, cut_at, Path}
use Rattle.fort_model.specs.WalkPlaces.{sorts}
use Rattle.fort_model.specs.Walk.{dim_dummies, not_negative, entry_symbol, at_entry, at_start, bound_facts, dim_facts, entry_facts, smashed_in_order, start_facts, falls, fall, arrive, go_on, perform_line, walk_from, from_assert, from_start, walk}
use Rattle.fort_model.specs.Symbols.{Symbol}
use Rattle.fort_model.specs.WalkCalls.{Sight}
use Rattle.fort_model.specs.Conditions.{sight}
use Rattle.fort_laws.proofs.BothSenses.{Pairwise, pairwise_append, pairwise_map, Correspond, EventsAlike, NamesAlike, AnswersAlike, checks_alike, takes_alike, pick_alike, natural_alike, make1_alike, make2_alike, note_alike}
use Rattle.fort_laws.proofs.BothParts.{sorts_alike, blank_alike, performed_alike}

module _ {V W : Type 0} (R : V → W → Type 0) (s : Sense V) (t : Sense W) (c : Correspond R s t) (p : Program) (i : ℕ) (u : Routine) where
  abbrev one : Sight V
  one = sight s p i u

  abbrev two : Sight W
  two = sight t p i u

  abbrev Events : List (Event V) → List (Event W) → Type 0
  Events es fs = Pairwise (EventsAlike R) es fs

  -- ---- the start

  pub entry_alike : NamesAlike R (at_entry one) (at_entry two)
  entry_alike x =
      pick_alike R (has_role is_own (data_name u x)) _ _ _ _ (blank_alike R s t c (entry_symbol one) (entry_symbol two) c.entries u x) (c.entries x)

  -- all symbols correspond
  abbrev Others : Type 0
  Others = (x : Symbol) → R (s.named x) (t.named x)

  start_alike : Others → NamesAlike R (at_start one) (at_start two)
  start_alike others x = pick_alike R (is_smashed p i x) _ _ _ _ (others _) (entry_alike x)

  not_negative_alike : (v : V) (w : W) → R v w → R (not_negative one v) (not_negative two w)
  not_negative_alike v w k = make2_alike R s t c f.AtMost _ _ _ _ (natural_alike R s t c 0) k

  bound_alike : Pairwise R (bound_facts one) (bound_facts two)
  bound_alike =
      (make2_alike R s t c f.AtMost _ _ _ _ c.least (c.number _), (make2_alike R s t c f.AtMost _ _ _ _ (natural_alike R s t c p.bound) c.greatest, tt))

  dim_facts_alike : (xs : List Name) → Pairwise R (dim_facts one xs) (dim_facts two xs)
  dim_facts_alike [] = tt
  dim_facts_alike (x ∷ xs) =
      (make1_alike R s t c f.Defined _ _ (entry_alike x), (make2_alike R s t c f.AtMost _ _ _ _ (natural_alike R s t c 1) (entry_alike x), dim_facts_alike xs))

  inputs_alike : Pairwise R (map (note s (at_entry one) (at_entry one)) (notes_of p i).input) (map (note t (at_entry two) (at_entry two)) (notes_of p i).input)
  inputs_alike = pairwise_map R _ _ (notes_of p i).input (note_alike R s t c _ _ _ _ entry_alike entry_alike)

  pub entry_facts_alike : Pairwise R (entry_facts one) (entry_facts two)
  entry_facts_alike =
      pairwise_append R
      (bound_facts one ++ sorts s u (at_entry one) u.dummies ++ sorts s u (at_entry one) (commons u) ++ dim_facts one (dim_dummies u))
      (bound_facts two ++ sorts t u (at_entry two) u.dummies ++ sorts t u (at_entry two) (commons u) ++ dim_facts two (dim_dummies u)) _ _
      (pairwise_append R (bound_facts one ++ sorts s u (at_entry one) u.dummies ++ sorts s u (at_entry one) (commons u))
      (bound_facts two ++ sorts t u (at_entry two) u.dummies ++ sorts t u (at_entry two) (commons u)) _ _
      (pairwise_append R (bound_facts one ++ sorts s u (at_entry one) u.dummies) (bound_facts two ++ sorts t u (at_entry two) u.dummies) _ _
      (pairwise_append R (bound_facts one) (bound_facts two) _ _ bound_alike (sorts_alike R s t c _ _ entry_alike u u.dummies))
      (sorts_alike R s t c _ _ entry_alike u (commons u)))
      (dim_facts_alike (dim_dummies u)))
      inputs_alike

  start_facts_alike : Others → (a : Assertion) → Pairwise R (start_facts one a) (start_facts two a)
  start_facts_alike others a =
      pairwise_append R _ _ _ _
      (pairwise_append R _ _ _ _ (sorts_alike R s t c _ _ (start_alike others) u (smashed_in_order one))
      (pairwise_map R (note s (at_entry one) (at_start one)) (note t (at_entry two) (at_start two)) a.terms (note_alike R s t c _ _ _ _ entry_alike (start_alike others))))
      (pairwise_map R (λ term. not_negative one (note s (at_entry one) (at_start one) term)) (λ term. not_negative two (note t (at_entry two) (at_start two) term)) a.clock
      (λ term. not_negative_alike _ _ (note_alike R s t c _ _ _ _ entry_alike (start_alike others) term)))

  -- ---- the end

  falls_alike : (ns os : List V) (ms qs : List W) → Pairwise R ns ms → Pairwise R os qs → R (falls one ns os) (falls two ms qs)
  falls_alike [] os (m ∷ ms) qs k l = absurd k
  falls_alike (n ∷ ns) os [] qs k l = absurd k
  falls_alike [] os [] qs k l = c.truth_value false
  falls_alike (n ∷ ns) [] (m ∷ ms) (q ∷ qs) k l = absurd l
  falls_alike (n ∷ ns) (o ∷ os) (m ∷ ms) [] k l = absurd l
  falls_alike (n ∷ []) [] (m ∷ []) [] k l = c.truth_value false
  falls_alike (n ∷ []) [] (m ∷ (m2 ∷ ms)) [] k l = absurd k.1
  falls_alike (n ∷ (n2 ∷ ns)) [] (m ∷ []) [] k l = absurd k.1
  falls_alike (n ∷ (n2 ∷ ns)) [] (m ∷ (m2 ∷ ms)) [] k l = c.truth_value false
  falls_alike (n ∷ []) (o ∷ []) (m ∷ []) (q ∷ []) k l = make2_alike R s t c f.Less _ _ _ _ k.0 l.0
  falls_alike (n ∷ []) (o ∷ []) (m ∷ []) (q ∷ (q2 ∷ qs)) k l = absurd l.1
  falls_alike (n ∷ []) (o ∷ (o2 ∷ os)) (m ∷ []) (q ∷ []) k l = absurd l.1
  falls_alike (n ∷ []) (o ∷ (o2 ∷ os)) (m ∷ []) (q ∷ (q2 ∷ qs)) k l = c.truth_value false
  falls_alike (n ∷ []) (o ∷ os) (m ∷ (m2 ∷ ms)) (q ∷ qs) k l = absurd k.1
  falls_alike (n ∷ (n2 ∷ ns)) (o ∷ os) (m ∷ []) (q ∷ qs) k l = absurd k.1
  falls_alike (n ∷ (n2 ∷ ns)) (o ∷ []) (m ∷ (m2 ∷ ms)) (q ∷ []) k l = c.truth_value false
  falls_alike (n ∷ (n2 ∷ ns)) (o ∷ []) (m ∷ (m2 ∷ ms)) (q ∷ (q2 ∷ qs)) k l = absurd l.1
  falls_alike (n ∷ (n2 ∷ ns)) (o ∷ (o2 ∷ os)) (m ∷ (m2 ∷ ms)) (q ∷ []) k l = absurd l.1
  falls_alike (n ∷ (n2 ∷ ns)) (o ∷ (o2 ∷ os)) (m ∷ (m2 ∷ ms)) (q ∷ (q2 ∷ qs)) k l =
      make2_alike R s t c f.Or _ _ _ _ (make2_alike R s t c f.Less _ _ _ _ k.0 l.0)
      (make2_alike R s t c f.And _ _ _ _ (make2_alike R s t c f.AtMost _ _ _ _ k.0 l.0) (falls_alike (n2 ∷ ns) (o2 ∷ os) (m2 ∷ ms) (q2 ∷ qs) k.1 l.1))

  -- the clock at the start, where there is one
  abbrev pub ClocksAlike : Option (List V) → Option (List W) → Type 0
  ClocksAlike None None = Unit {0}
  ClocksAlike None (Some ws) = ⊥
  ClocksAlike (Some vs) None = ⊥
  ClocksAlike (Some vs) (Some ws) = Pairwise R vs ws

  fall_alike : (card : ℕ) (o : Option (List V)) (q : Option (List W)) (vs : List V) (ws : List W) → ClocksAlike o q → Pairwise R vs ws
      → Events (fall one card o vs) (fall two card q ws)
  fall_alike card None None vs ws k l = tt
  fall_alike card None (Some olds) vs ws k l = absurd k
  fall_alike card (Some olds) None vs ws k l = absurd k
  fall_alike card (Some olds) (Some olds2) vs ws k l = ((refl, refl, falls_alike vs olds ws olds2 l k), tt)

  module _ (clock : Option (List V)) (clock' : Option (List W)) (clocks : ClocksAlike clock clock') where
    pub arrive_alike : (card : ℕ) (cut : Cut) (now : Named V) (now' : Named W) (on : List (Event V)) (on' : List (Event W)) → NamesAlike R now now' → Events on on'
        → Events (arrive one clock card cut now on) (arrive two clock' card cut now' on')
    arrive_alike card NoCut now now' on on' k l = l
    arrive_alike card AtEnd now now' on on' k l =
        checks_alike R OutputCheck card _ _ (pairwise_map R _ _ (notes_of p i).output (note_alike R s t c _ _ _ _ entry_alike k))
    arrive_alike card (AtAssert a) now now' on on' k l =
        pairwise_append (EventsAlike R) _ _ _ _
        (pairwise_append (EventsAlike R) _ _ _ _
        (checks_alike R AssertCheck a.card _ _ (pairwise_map R (note s (at_entry one) now) (note t (at_entry two) now') a.terms (note_alike R s t c _ _ _ _ entry_alike k)))
        (checks_alike R ClockCheck a.card _ _
        (pairwise_map R (λ term. not_negative one (note s (at_entry one) now term)) (λ term. not_negative two (note t (at_entry two) now' term)) a.clock
        (λ term. not_negative_alike _ _ (note_alike R s t c _ _ _ _ entry_alike k term)))))
        (fall_alike a.card clock clock' _ _ clocks (pairwise_map R (note s (at_entry one) now) (note t (at_entry two) now') a.clock (note_alike R s t c _ _ _ _ entry_alike k)))

    go_on_alike : (card : ℕ) (o : Option ℕ) (now : Named V) (now' : Named W) (on : ℕ → List (Event V)) (on' : ℕ → List (Event W)) → NamesAlike R now now'
        → ((q : ℕ) → Events (on q) (on' q)) → Events (go_on one clock card o now on) (go_on two clock' card o now' on')
    go_on_alike card None now now' on on' k l = tt
    go_on_alike card (Some q) now now' on on' k l = arrive_alike card (cut_at u (notes_of p i) q) now now' _ _ k (l q)

    perform_line_alike : (o : Option Line) (pc : ℕ) (now : Named V) (now' : Named W) (ps : Answers V) (qs : Answers W) (cs : List ℕ)
        (on : ℕ → Named V → Answers V → List (Event V)) (on' : ℕ → Named W → Answers W → List (Event W)) → NamesAlike R now now' → AnswersAlike R ps qs
        → ((q : ℕ) (after : Named V) (after' : Named W) (rs : Answers V) (rs' : Answers W) → NamesAlike R after after' → AnswersAlike R rs rs' → Events (on q after rs) (on' q after' rs'))
        → Events (perform_line one clock o pc now ps cs on) (perform_line two clock' o pc now' qs cs on')
    perform_line_alike None pc now now' ps qs cs on on' k l m = tt
    perform_line_alike (Some line) pc now now' ps qs cs on on' k l m =
        let done = performed_alike R s t c p i u line.card pc now now' k line.stmt cs ps qs l in
        pairwise_append (EventsAlike R) _ _ _ _ done.events
        (go_on_alike line.card (leads p.dialect u pc line.stmt cs) _ _ _ _ done.value (λ q. m q _ _ _ _ done.value done.rest))

    pub walk_from_alike : (way : List (List ℕ)) (pc : ℕ) (now : Named V) (now' : Named W) (ps : Answers V) (qs : Answers W) → NamesAlike R now now' → AnswersAlike R ps qs
        → Events (walk_from one clock pc now ps way) (walk_from two clock' pc now' qs way)
    walk_from_alike [] pc now now' ps qs k l = tt
    walk_from_alike (cs ∷ way) pc now now' ps qs k l =
        perform_line_alike (slice_get u.lines pc) pc now now' ps qs cs _ _ k l (λ q after after' rs rs' m n. walk_from_alike way q after after' rs rs' m n)

  -- ---- whole walks

  calls_alike : Others → AnswersAlike R (symbols_of_calls s) (symbols_of_calls t)
  calls_alike others j x = others _

  from_assert_alike : Others → (o : Option Assertion) (way : List (List ℕ)) → Events (from_assert one (symbols_of_calls s) o way) (from_assert two (symbols_of_calls t) o way)
  from_assert_alike others None way = tt
  from_assert_alike others (Some a) way =
      pairwise_append (EventsAlike R) (takes (entry_facts one) ++ takes (start_facts one a)) (takes (entry_facts two) ++ takes (start_facts two a)) _ _
      (pairwise_append (EventsAlike R) (takes (entry_facts one)) (takes (entry_facts two)) _ _ (takes_alike R (entry_facts one) (entry_facts two) entry_facts_alike) (takes_alike R _ _ (start_facts_alike others a)))
      (walk_from_alike (Some (map (note s (at_entry one) (at_start one)) a.clock)) (Some (map (note t (at_entry two) (at_start two)) a.clock))
      (pairwise_map R (note s (at_entry one) (at_start one)) (note t (at_entry two) (at_start two)) a.clock (note_alike R s t c _ _ _ _ entry_alike (start_alike others)))
      way a.point _ _ _ _ (start_alike others) (calls_alike others))

  from_start_alike : Others → (n : ℕ) (way : List (List ℕ)) → Events (from_start one (symbols_of_calls s) n way) (from_start two (symbols_of_calls t) n way)
  from_start_alike others zero way =
      pairwise_append (EventsAlike R) (takes (entry_facts one)) (takes (entry_facts two)) _ _ (takes_alike R (entry_facts one) (entry_facts two) entry_facts_alike)
      (arrive_alike None None tt 0 (cut_at u (notes_of p i) 0) _ _ _ _ entry_alike (walk_from_alike None None tt way 0 _ _ _ _ entry_alike (calls_alike others)))
  from_start_alike others (suc n) way = from_assert_alike others (slice_get (notes_of p i).asserts n) way

  pub walks_alike : Others → (path : Path) → Events (walk one path) (walk two path)
  walks_alike others path = from_start_alike others path.start path.choices
