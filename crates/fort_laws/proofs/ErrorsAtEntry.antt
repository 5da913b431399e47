-- A unit that is run errs as the walks from its entry do.
use Rattle.std.proofs.Common.{◌≡◌, ℕ, suc, ◌+◌, List, [], ◌++◌, length, None, refl, ap, ◌∙◌, subst, arith}
use Rattle.formula.specs.declared.value.Cell.TheVariants as cell
use Rattle.formula.specs.declared.value.Value.{Value}
use Rattle.fort_syntax.specs.declared.condition.Kind.{Kind}
use Rattle.fort_syntax.specs.declared.unit.Unit.{Unit as Routine}
use Rattle.fort_model.specs.Conditions.{sight}
use Rattle.fort_model.specs.Correct.{IsMet, names_hold}
use Rattle.fort_model.specs.Events.{Event, takes}
use Rattle.fort_model.specs.Fits.{IsApart, Fits}
use Rattle.fort_model.specs.Fitting.{FitsUnit}
use Rattle.fort_model.specs.Outcome.{Outcome, and_then}
use Rattle.fort_model.specs.Paths.{Cut, NoCut, AtEnd, AtAssert, cut_at, over_or, IsWay, IsWayIn}
use Rattle.fort_model.specs.Processor.{Processor}
use Rattle.fort_model.specs.Program.{Program, notes_of}
use Rattle.fort_model.specs.Run.{run, leave}
use Rattle.fort_model.specs.Seen.{Answers}
use Rattle.fort_model.specs.Senses.{of_values}
use Rattle.fort_model.specs.Storage.{Storage, Environment}
use Rattle.fort_model.specs.Symbols.{Symbol}
use Rattle.fort_model.specs.Walk.{arrive, at_entry, entry_facts, from_entry, walk, walk_from}
use Rattle.fort_model.specs.WalkCalls.{Sight}
use Rattle.fort_laws.specs.CallLaw.{at_home, LieApart}
use Rattle.fort_laws.specs.EntryErrors.{StandAtEntry, UnitErrs, ErrsAsWalksDo, UnitsErrAsWalksDo, FailingPathsErr}
use Rattle.fort_laws.specs.Errors.{IsRunError, IsOnArrival, IsInOrder, AreGood, IsUnderWay, GoesAWay, RunErrs}
use Rattle.fort_laws.specs.Frame.{IsSoundUnit}
use Rattle.fort_laws.specs.Matches.{FirstFails}
use Rattle.fort_laws.proofs.BothWalks.{walk_from_alike, arrive_alike, entry_alike, entry_facts_alike}
use Rattle.fort_laws.proofs.Entering.{own, begun, begun_placed, entry_values, w, entry_stood, entry_true}
use Rattle.fort_laws.proofs.ErrorsOfUnits.{runs_arrive_or_err}
use Rattle.fort_laws.proofs.ErrorsOfWalks.{errors_are_those_of_walks, no_arrival}
use Rattle.fort_laws.proofs.ErrorsOnArrival.{are_on_arrival, failing_kind}
use Rattle.fort_laws.proofs.ErrorsParting.{fails_behind}
use Rattle.fort_laws.proofs.FewSymbols.{answered}
use Rattle.fort_laws.proofs.Near.{line_from}
use Rattle.fort_laws.proofs.SafeRuns.{no_answers}
use Rattle.fort_laws.proofs.SameValues.{Equal, all_equal, events_equal, same_senses}
use Rattle.step_laws.proofs.Unfolding.{runs_unfold}

module _ (program : Program) (p : Processor) (i : ℕ) (u : Routine) (order : IsInOrder program p i u) (fitting : FitsUnit u (notes_of program i))
    (good : (env : Environment) → LieApart program.units i u env → AreGood program i u env) (env : Environment) (st : Storage) (apart : IsApart program.units i u env) (fits : Fits p u env st)
    (met : IsMet program.functions p (names_hold u env st cell.Undefined) (names_hold u env st cell.Undefined) (notes_of program i).input) where
  abbrev pub unit : IsSoundUnit program.units i u
  unit = order.sound.units_are i u order.is

  abbrev pub here : Environment
  here x = own program p i u unit env st apart fits x

  abbrev pub start : Storage
  start = begun program p i u unit env st apart fits

  abbrev pub known : Symbol → Value
  known = entry_values program p i u unit env st apart fits

  abbrev pub at : Sight Value
  at = w program p i u unit env st apart fits

  under_way : cut_at u (notes_of program i) 0 ≡ NoCut → IsUnderWay known program p i u here 0 (at_entry at) start
  under_way c =
      let l = line_from program.dialect u (notes_of program i) 0 c in
      let placed = begun_placed program p i u unit env st apart fits in
      record {
        order = order;
        least = refl;
        greatest = refl;
        apart = placed.apart;
        good = good here placed.apart;
        line = l.0;
        at = l.1;
        stood = entry_stood program p i u unit env st apart fits;
        kept = λ x h. refl;
      }

  -- what the statements of a unit err with, the unit does
  whole : (kind : Kind) (card : ℕ) → RunErrs program.functions known program i (at_home p program u here) kind card 0 start → UnitErrs p program u env st kind card
  whole kind card r = record {
    after = r.after;
    cost = suc r.cost;
    errs = λ n.
        let z : suc r.cost + n ≡ suc (r.cost + n) = omega arith in
        ap (run p program.units u env st) z
        ∙ ((runs_unfold p program.units u env st (suc (r.cost + n))).0
        ∙ ap (λ (o : Outcome (Unit {0})). and_then o (λ _. leave u here (length st))) (r.errs n));
  }

  -- walks from the entry read no other symbols
  pub same_walk : (values : Symbol → Value) → StandAtEntry values p u env st → (answers : Answers Value) (way : List (List ℕ))
      → from_entry (sight (of_values program.functions values) program i u) answers way ≡ from_entry at answers way
  same_walk values h answers way =
      let fs = program.functions in
      let c = same_senses fs values known h.least h.greatest h.entries in
      let one : Sight Value = sight (of_values fs values) program i u in
      let entry = entry_alike Equal (of_values fs values) (of_values fs known) c program i u in
      ap (λ (ts : List Value). takes ts ++ arrive one None 0 (cut_at u (notes_of program i) 0) (at_entry one) (walk_from one None 0 (at_entry one) answers way))
      (all_equal (entry_facts one) (entry_facts at) (entry_facts_alike Equal (of_values fs values) (of_values fs known) c program i u))
      ∙ ap (λ (es : List (Event Value)). takes (entry_facts at) ++ es)
      (events_equal (arrive one None 0 (cut_at u (notes_of program i) 0) (at_entry one) (walk_from one None 0 (at_entry one) answers way))
      (arrive at None 0 (cut_at u (notes_of program i) 0) (at_entry at) (walk_from at None 0 (at_entry at) answers way))
      (arrive_alike Equal (of_values fs values) (of_values fs known) c program i u None None tt 0 (cut_at u (notes_of program i) 0) (at_entry one) (at_entry at) _ _ entry
      (walk_from_alike Equal (of_values fs values) (of_values fs known) c program i u None None tt way 0 (at_entry one) (at_entry at) answers answers entry (λ k x. refl))))

  -- a false check stands behind what is taken at the entry
  fails_inside : (values : Symbol → Value) → StandAtEntry values p u env st → (answers : Answers Value) (way : List (List ℕ)) (kind : Kind) (card : ℕ) (k : Cut) → cut_at u (notes_of program i) 0 ≡ k
      → FirstFails kind card (from_entry (sight (of_values program.functions values) program i u) answers way)
      → FirstFails kind card (arrive at None 0 k (at_entry at) (walk_from at None 0 (at_entry at) answers way))
  fails_inside values h answers way kind card k c f =
      subst (λ (z : Cut). FirstFails kind card (arrive at None 0 z (at_entry at) (walk_from at None 0 (at_entry at) answers way))) c
      (fails_behind kind card (takes (entry_facts at)) _ (entry_true program p i u unit env st apart fits order.bounded fitting met)
      (subst (λ (es : List (Event Value)). FirstFails kind card es) (same_walk values h answers way) f))

  -- at a cut point nothing is run
  none_run : (k : Cut) → cut_at u (notes_of program i) 0 ≡ k → ((way : List (List ℕ)) (answers : Answers Value) → arrive at None 0 k (at_entry at) (walk_from at None 0 (at_entry at) answers way) ≡ arrive at None 0 k (at_entry at) [])
      → ErrsAsWalksDo p program i u env st
  none_run k c over = record {
    answers = no_answers;
    errs = λ values h way is kind card error f. absurd (no_arrival kind error
        (failing_kind IsOnArrival kind card _ (are_on_arrival program.functions known program i (at_home p program u here) None 0 k (at_entry at))
        (subst (λ (es : List (Event Value)). FirstFails kind card es) (over way no_answers) (fails_inside values h no_answers way kind card k c f))));
  }

  by_cut : (k : Cut) → cut_at u (notes_of program i) 0 ≡ k → ErrsAsWalksDo p program i u env st
  by_cut NoCut c =
      let goes : GoesAWay program.functions known program i (at_home p program u here) None 0 (at_entry at) start = runs_arrive_or_err known program p i u here None 0 (at_entry at) start (under_way c) in
      record {
        answers = goes.answers;
        errs = λ values h way is kind card error f. whole kind card
            (errors_are_those_of_walks program.functions known program i (at_home p program u here) None 0 (at_entry at) start goes way
            (subst (λ (z : Cut). over_or program.dialect u (notes_of program i) z way (IsWay program.dialect u (notes_of program i) 0 way)) c is)
            kind card error (fails_inside values h goes.answers way kind card NoCut c f));
      }
  by_cut AtEnd c = none_run AtEnd c (λ way answers. refl)
  by_cut (AtAssert a) c = none_run (AtAssert a) c (λ way answers. refl)

  pub errs_as_walks : ErrsAsWalksDo p program i u env st
  errs_as_walks = by_cut (cut_at u (notes_of program i) 0) refl

  pub path_errs : (way : List (List ℕ)) → IsWayIn program.dialect u (notes_of program i) way → (kind : Kind) (card : ℕ) → IsRunError kind
      → ((values : Symbol → Value) → StandAtEntry values p u env st → FirstFails kind card (walk (sight (of_values program.functions values) program i u) (record { start = 0; choices = way })))
      → UnitErrs p program u env st kind card
  unfolding answered
  path_errs way is kind card error fails =
      let stands : StandAtEntry (answered known errs_as_walks.answers) p u env st = record { least = refl; greatest = refl; entries = λ x. refl } in
      errs_as_walks.errs (answered known errs_as_walks.answers) stands way is kind card error (fails (answered known errs_as_walks.answers) stands)

pub units_err_as_walks_do : UnitsErrAsWalksDo
units_err_as_walks_do program p i u order fitting good env st apart fits met = errs_as_walks program p i u order fitting good env st apart fits met

pub failing_paths_err : FailingPathsErr
failing_paths_err program p i u order fitting good env st apart fits met way is kind card error fails =
    path_errs program p i u order fitting good env st apart fits met way is kind card error fails
