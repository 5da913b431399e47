-- A state in a stage shows no place that belongs to another stage.
use Rattle.std.proofs.Common.{◌≡◌, ℕ, List}
use Rattle.fort_syntax.specs.declared.unit.Unit.{Unit as Routine}
use Rattle.fort_model.specs.Flow.{Loop}
use Rattle.fort_model.specs.Storage.{Storage, Environment}
use Rattle.fort_model.specs.Passing.{Taken}
use Rattle.run_code.specs.Code.{Instr}
use Rattle.run_frames.specs.Frames as frames
use Rattle.run_frames.specs.Frames.{Waiting}
use Rattle.run_frames.specs.Configs.{Config, entering, between, inside, carried, testing, ended, erred, nowhere}
use Rattle.run_shapes.specs.declared.unit_code.Code.{Code}
use Rattle.run_state.specs.Shows.{World, Shows, ShowsEntry, ShowsUnit, ShowsStatement, ShowsTests}
use Rattle.run_state.specs.declared.machine.Stage.TheVariants as stage
use Rattle.run_state.specs.declared.machine.State.{State}

module _ (code : Code) (w : World) (m : State) (A : Config → Storage → Type 0) where
  pub when_entering : m.stage ≡ stage.Entering → ((g : Routine) (env : Environment) (ws : List Waiting) (xs : List Taken) (st : Storage) → ShowsEntry w code m g env ws xs st → A (entering g env ws xs) st) → (c : Config) (st : Storage) → Shows w code m c st → A c st
  when_entering e then (entering g env ws xs) st shows = then g env ws xs st shows.1
  when_entering e then (between f q ws xs) st shows = let f : m.stage ≡ stage.Between = shows.0 in absurd (cc)
  when_entering e then (inside f card is ws xs) st shows = let f : m.stage ≡ stage.Inside = shows.0 in absurd (cc)
  when_entering e then (carried f card is ws xs) st shows = let f : m.stage ≡ stage.Carried = shows.0 in absurd (cc)
  when_entering e then (testing f card q ds ws xs) st shows = let f : m.stage ≡ stage.Testing = shows.0 in absurd (cc)
  when_entering e then (ended v) st shows = let f : m.stage ≡ stage.Ended v = shows.0 in absurd (cc)
  when_entering e then (erred kind card) st shows = let f : m.stage ≡ stage.Erred kind = shows.0 in absurd (cc)
  when_entering e then nowhere st shows = let f : m.stage ≡ stage.Nowhere = shows.0 in absurd (cc)

  pub when_between : m.stage ≡ stage.Between → ((f : frames.Frame) (q : ℕ) (ws : List Waiting) (xs : List Taken) (st : Storage) → m.frame.line ≡ q → ShowsUnit w code m f ws xs st → A (between f q ws xs) st) → (c : Config) (st : Storage) → Shows w code m c st → A c st
  when_between e then (entering g env ws xs) st shows = let f : m.stage ≡ stage.Entering = shows.0 in absurd (cc)
  when_between e then (between f q ws xs) st shows = then f q ws xs st shows.1 shows.2
  when_between e then (inside f card is ws xs) st shows = let f : m.stage ≡ stage.Inside = shows.0 in absurd (cc)
  when_between e then (carried f card is ws xs) st shows = let f : m.stage ≡ stage.Carried = shows.0 in absurd (cc)
  when_between e then (testing f card q ds ws xs) st shows = let f : m.stage ≡ stage.Testing = shows.0 in absurd (cc)
  when_between e then (ended v) st shows = let f : m.stage ≡ stage.Ended v = shows.0 in absurd (cc)
  when_between e then (erred kind card) st shows = let f : m.stage ≡ stage.Erred kind = shows.0 in absurd (cc)
  when_between e then nowhere st shows = let f : m.stage ≡ stage.Nowhere = shows.0 in absurd (cc)

  pub when_carried : m.stage ≡ stage.Carried → ((f : frames.Frame) (card : ℕ) (is : List Instr) (ws : List Waiting) (xs : List Taken) (st : Storage) → ShowsStatement w code m f card is ws xs st → A (carried f card is ws xs) st) → (c : Config) (st : Storage) → Shows w code m c st → A c st
  when_carried e then (entering g env ws xs) st shows = let f : m.stage ≡ stage.Entering = shows.0 in absurd (cc)
  when_carried e then (between f q ws xs) st shows = let f : m.stage ≡ stage.Between = shows.0 in absurd (cc)
  when_carried e then (inside f card is ws xs) st shows = let f : m.stage ≡ stage.Inside = shows.0 in absurd (cc)
  when_carried e then (carried f card is ws xs) st shows = then f card is ws xs st shows.1
  when_carried e then (testing f card q ds ws xs) st shows = let f : m.stage ≡ stage.Testing = shows.0 in absurd (cc)
  when_carried e then (ended v) st shows = let f : m.stage ≡ stage.Ended v = shows.0 in absurd (cc)
  when_carried e then (erred kind card) st shows = let f : m.stage ≡ stage.Erred kind = shows.0 in absurd (cc)
  when_carried e then nowhere st shows = let f : m.stage ≡ stage.Nowhere = shows.0 in absurd (cc)

  pub when_testing : m.stage ≡ stage.Testing → ((f : frames.Frame) (card q : ℕ) (ds : List Loop) (ws : List Waiting) (xs : List Taken) (st : Storage) → ShowsTests w code m f card q ds ws xs st → A (testing f card q ds ws xs) st) → (c : Config) (st : Storage) → Shows w code m c st → A c st
  when_testing e then (entering g env ws xs) st shows = let f : m.stage ≡ stage.Entering = shows.0 in absurd (cc)
  when_testing e then (between f q ws xs) st shows = let f : m.stage ≡ stage.Between = shows.0 in absurd (cc)
  when_testing e then (inside f card is ws xs) st shows = let f : m.stage ≡ stage.Inside = shows.0 in absurd (cc)
  when_testing e then (carried f card is ws xs) st shows = let f : m.stage ≡ stage.Carried = shows.0 in absurd (cc)
  when_testing e then (testing f card q ds ws xs) st shows = then f card q ds ws xs st shows.1
  when_testing e then (ended v) st shows = let f : m.stage ≡ stage.Ended v = shows.0 in absurd (cc)
  when_testing e then (erred kind card) st shows = let f : m.stage ≡ stage.Erred kind = shows.0 in absurd (cc)
  when_testing e then nowhere st shows = let f : m.stage ≡ stage.Nowhere = shows.0 in absurd (cc)
