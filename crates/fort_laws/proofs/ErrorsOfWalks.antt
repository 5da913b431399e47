-- For given answers of calls a run goes one way alone: so its error is that of each walk that fails.
use Rattle.std.proofs.Common.{◌≡◌, ℕ, ◌⊎◌, inl, inr, List, [], ◌∷◌, ◌++◌, Option, Some, None, slice_get, refl, sym, ap, ◌∙◌, subst}
use Rattle.formula.specs.declared.value.Value.{Value}
use Rattle.formula.specs.Worth.{Function}
use Rattle.fort_syntax.specs.declared.condition.Kind.{Kind}
use Rattle.fort_syntax.specs.declared.condition.Kind.TheVariants.{DefinedCheck, RangeCheck, DivisorCheck, SubscriptCheck, ChoiceCheck, LoopCheck, ResultCheck, InputCheck, AssertCheck, ClockCheck, FallCheck, OutputCheck}
use Rattle.fort_syntax.specs.declared.unit.Line.{Line}
use Rattle.fort_syntax.specs.declared.unit.Unit.{Unit as Routine}
use Rattle.fort_model.specs.Conditions.{sight}
use Rattle.fort_model.specs.Evaluate.{Scene}
use Rattle.fort_model.specs.Events.{Event}
use Rattle.fort_model.specs.Flow.{leads}
use Rattle.fort_model.specs.Outcome.{Erred}
use Rattle.fort_model.specs.Paths.{Cut, NoCut, AtEnd, AtAssert, cut_at, over_or, goes_on, goes_from, IsWay}
use Rattle.fort_model.specs.Program.{Program, notes_of}
use Rattle.fort_model.specs.Seen.{Named, Answers}
use Rattle.fort_model.specs.Senses.{of_values}
use Rattle.fort_model.specs.Storage.{Storage}
use Rattle.fort_model.specs.Symbols.{Symbol}
use Rattle.fort_model.specs.Walk.{arrive, walk_from, perform_line, go_on}
use Rattle.fort_model.specs.WalkCalls.{Sight}
use Rattle.fort_model.specs.WalkStmt.{performed}
use Rattle.fort_laws.specs.Errors.{IsRunError, IsOnArrival, Comes, RunsAs, arrives, fails_there, errs_on_way, RunErrs, ErrorsAreThoseOfWalks}
use Rattle.fort_laws.specs.Matches.{FirstFails, Errs, of_callee, errs}
use Rattle.fort_laws.specs.Segments.{seen}
use Rattle.step_laws.specs.Unfolded.{run_from}
use Rattle.fort_laws.proofs.ErrorsChoices.{choices_part}
use Rattle.fort_laws.proofs.ErrorsOnArrival.{are_on_arrival, failing_kind, checks_stay}
use Rattle.fort_laws.proofs.ErrorsParting.{Part, part_then, after, or_part, GoesOff, failing_stays, fails_behind, off_behind, one_failure, part_fails}

-- ---- ways

-- the same way, or walks that part
abbrev OneWay : List (List ℕ) → List (List ℕ) → List (Event Value) → List (Event Value) → Type 0
OneWay way other es gs = (way ≡ other) ⊎ Part es gs

module _ (fs : List Function) (values : Symbol → Value) (program : Program) (i : ℕ) (u : Routine) (clock : Option (List Value)) where
  abbrev w : Sight Value
  w = sight (of_values fs values) program i u

  -- what is known of the rest of two ways
  abbrev Rest : List (List ℕ) → Type 0
  Rest way =
      (q : ℕ) (next : Named Value) (answers : Answers Value) (other : List (List ℕ)) → IsWay program.dialect u (notes_of program i) q way → IsWay program.dialect u (notes_of program i) q other
      → OneWay way other (walk_from w clock q next answers way) (walk_from w clock q next answers other)

  -- at a cut point both ways are over
  at_cut : (c : Cut) (card q : ℕ) (next : Named Value) (answers : Answers Value) (way other : List (List ℕ)) → Rest way
      → over_or program.dialect u (notes_of program i) c way (IsWay program.dialect u (notes_of program i) q way)
      → over_or program.dialect u (notes_of program i) c other (IsWay program.dialect u (notes_of program i) q other)
      → OneWay way other (arrive w clock card c next (walk_from w clock q next answers way)) (arrive w clock card c next (walk_from w clock q next answers other))
  at_cut NoCut card q next answers way other rest h k = rest q next answers other h k
  at_cut AtEnd card q next answers way other rest h k = inl (h ∙ sym k)
  at_cut (AtAssert a) card q next answers way other rest h k = inl (h ∙ sym k)

  module _ (line : Line) (pc : ℕ) (now : Named Value) (answers : Answers Value) (way : List (List ℕ)) (rest : Rest way) where
    abbrev goes : List ℕ → Option ℕ → List (List ℕ) → List (Event Value)
    goes cs to path =
        (performed w line.card pc now line.stmt cs answers).events
        ++ go_on w clock line.card to (performed w line.card pc now line.stmt cs answers).value
        (λ q. walk_from w clock q (performed w line.card pc now line.stmt cs answers).value (performed w line.card pc now line.stmt cs answers).rest path)

    abbrev Goes : Option ℕ → List (List ℕ) → Type 0
    Goes to path = goes_on program.dialect u (notes_of program i) to path (λ q. IsWay program.dialect u (notes_of program i) q path)

    same_choices : (cs : List ℕ) (to : Option ℕ) (other : List (List ℕ)) → Goes to way → Goes to other → OneWay (cs ∷ way) (cs ∷ other) (goes cs to way) (goes cs to other)
    same_choices cs None other h k = absurd h
    same_choices cs (Some q) other h k =
        or_part (ap (λ (path : List (List ℕ)). cs ∷ path))
        (after (performed w line.card pc now line.stmt cs answers).events _ _ (at_cut (cut_at u (notes_of program i) q) line.card q _ _ way other rest h k))

    by_leads : (cs ks : List ℕ) (a b : Option ℕ) → leads program.dialect u pc line.stmt cs ≡ a → leads program.dialect u pc line.stmt ks ≡ b → (other : List (List ℕ)) → Goes a way → Goes b other
        → OneWay (cs ∷ way) (ks ∷ other) (goes cs a way) (goes ks b other)
    by_leads cs ks None b e f other h k = absurd h
    by_leads cs ks (Some q) None e f other h k = absurd k
    by_leads cs ks (Some q) (Some p) e f other h k = by_choices (choices_part fs values program i u line.stmt line.card pc now cs ks q p answers e f)
      where
        by_choices : (cs ≡ ks) ⊎ Part (performed w line.card pc now line.stmt cs answers).events (performed w line.card pc now line.stmt ks answers).events
            → OneWay (cs ∷ way) (ks ∷ other) (goes cs (Some q) way) (goes ks (Some p) other)
        by_choices (inl same) =
            let one : Some q ≡ Some p = sym e ∙ (ap (λ (zs : List ℕ). leads program.dialect u pc line.stmt zs) same ∙ f) in
            subst (λ (zs : List ℕ). OneWay (cs ∷ way) (zs ∷ other) (goes cs (Some q) way) (goes zs (Some p) other)) same
            (subst (λ (to : Option ℕ). Goes to other → OneWay (cs ∷ way) (cs ∷ other) (goes cs (Some q) way) (goes cs to other)) one (same_choices cs (Some q) other h) k)
        by_choices (inr p) = inr (part_then _ _ _ _ p)

  by_line : (o : Option Line) (pc : ℕ) (now : Named Value) (answers : Answers Value) (cs ks : List ℕ) (way other : List (List ℕ)) → Rest way
      → goes_from program.dialect u (notes_of program i) o pc cs way (λ q. IsWay program.dialect u (notes_of program i) q way)
      → goes_from program.dialect u (notes_of program i) o pc ks other (λ q. IsWay program.dialect u (notes_of program i) q other)
      → OneWay (cs ∷ way) (ks ∷ other) (perform_line w clock o pc now answers cs (λ q next rest. walk_from w clock q next rest way)) (perform_line w clock o pc now answers ks (λ q next rest. walk_from w clock q next rest other))
  by_line None pc now answers cs ks way other rest h k = absurd h
  by_line (Some line) pc now answers cs ks way other rest h k =
      by_leads line pc now answers way rest cs ks (leads program.dialect u pc line.stmt cs) (leads program.dialect u pc line.stmt ks) refl refl other h k

  pub ways_part : (way : List (List ℕ)) → Rest way
  ways_part [] pc now answers other h k = absurd h
  ways_part (cs ∷ way) pc now answers [] h k = absurd k
  ways_part (cs ∷ way) pc now answers (ks ∷ other) h k = by_line (slice_get u.lines pc) pc now answers cs ks way other (ways_part way) h k

-- ---- errors

-- no run error is of a kind of an arrival, or of a called unit's INPUT
pub no_arrival : (kind : Kind) → IsRunError kind → IsOnArrival kind → ⊥
no_arrival DefinedCheck e a = a
no_arrival RangeCheck e a = a
no_arrival DivisorCheck e a = a
no_arrival SubscriptCheck e a = a
no_arrival ChoiceCheck e a = a
no_arrival LoopCheck e a = a
no_arrival ResultCheck e a = a
no_arrival InputCheck e a = e
no_arrival AssertCheck e a = e
no_arrival ClockCheck e a = e
no_arrival FallCheck e a = e
no_arrival OutputCheck e a = e

module _ (fs : List Function) (values : Symbol → Value) (program : Program) (i : ℕ) (s : Scene) (clock : Option (List Value)) (pc : ℕ) (now : Named Value) (st : Storage) (answers : Answers Value) (kind : Kind) (card : ℕ) (is : IsRunError kind) where
  abbrev walked : List (List ℕ) → List (Event Value)
  walked way = walk_from (seen fs values program i s) clock pc now answers way

  -- a walk that comes to a cut point fails by no run error
  comes_well : (own : List (List ℕ)) → Comes fs values program i s clock pc now st answers own → FirstFails kind card (walked own) ⊎ GoesOff (walked own) → ⊥
  comes_well own r (inl f) =
      no_arrival kind is (failing_kind IsOnArrival kind card _ (are_on_arrival fs values program i s clock r.card (cut_at s.unit (notes_of program i) r.point) r.next)
      (fails_behind kind card r.before _ r.before_true (subst (λ (es : List (Event Value)). FirstFails kind card es) r.walk_is f)))
  comes_well own r (inr g) =
      checks_stay IsOnArrival _ (are_on_arrival fs values program i s clock r.card (cut_at s.unit (notes_of program i) r.point) r.next)
      (off_behind r.before _ r.before_true (subst (λ (es : List (Event Value)). GoesOff es) r.walk_is g))

  by_errs : (k : Kind) (c : ℕ) → k ≡ kind → c ≡ card → Errs k c (run_from s.processor s.units s.unit s.environment pc) st → RunErrs fs values program i s kind card pc st
  by_errs k c e f (of_callee q) = absurd (subst IsRunError (sym e ∙ q) is)
  by_errs k c e f (errs last cost h) = record { after = last; cost = cost; errs = λ n. h n ∙ (ap (λ (z : Kind). Erred z c last) e ∙ ap (λ (z : ℕ). Erred kind z last) f) }

  by_run : (own : List (List ℕ)) → RunsAs fs values program i s clock pc now st answers own → FirstFails kind card (walked own) ⊎ GoesOff (walked own) → RunErrs fs values program i s kind card pc st
  by_run own (arrives r t) f = absurd (comes_well own r f)
  by_run own (fails_there r k c a g) f = absurd (comes_well own r f)
  by_run own (errs_on_way k c g h) (inl f) = let one = one_failure k kind c card (walked own) g f in by_errs k c one.0 one.1 h
  by_run own (errs_on_way k c g h) (inr f) = absurd (failing_stays k c (walked own) g f)

  pub errors_are : (own way : List (List ℕ)) → IsWay program.dialect s.unit (notes_of program i) pc own → IsWay program.dialect s.unit (notes_of program i) pc way
      → RunsAs fs values program i s clock pc now st answers own → FirstFails kind card (walked way) → RunErrs fs values program i s kind card pc st
  errors_are own way h k r f = by_ways (ways_part fs values program i s.unit clock own pc now answers way h k)
    where
      by_ways : OneWay own way (walked own) (walked way) → RunErrs fs values program i s kind card pc st
      by_ways (inl same) = by_run own r (inl (subst (λ (path : List (List ℕ)). FirstFails kind card (walked path)) (sym same) f))
      by_ways (inr p) = by_run own r (part_fails kind card (walked own) (walked way) p f)

pub errors_are_those_of_walks : ErrorsAreThoseOfWalks
errors_are_those_of_walks fs values program i s clock pc now st own way h kind card is f =
    errors_are fs values program i s clock pc now st own.answers kind card is own.way way own.is_way h own.runs_as f
