-- Pieces of work and steps, one after the other.
use Rattle.std.proofs.Common.{◌≡◌, ℕ, suc, ◌+◌, ◌<◌, true, List, [], ◌∷◌, map, Some, slice_get, refl, sym, ap, ◌∙◌, subst, arith}
use Rattle.fort_model.specs.Storage.{Storage}
use Rattle.fort_model.specs.Passing.{Taken}
use Rattle.run_code.specs.Code.{Instr}
use Rattle.run_frames.specs.Frames as frames
use Rattle.run_frames.specs.Frames.{Runs, Waiting, lowest}
use Rattle.run_frames.specs.Configs.{Config, entering, between, inside, carried, testing, ended, erred, nowhere, worked, stepped, waits, rest}
use Rattle.run_frames.proofs.Worked.{work_changes_nothing}
use Rattle.run_frames.proofs.Stepped.{steps_are_taken}
use Rattle.run_shapes.specs.Seen.{seen_in}
use Rattle.run_shapes.specs.declared.instr.Instr.{Instr as Coded}
use Rattle.run_shapes.specs.declared.unit_code.Code.{Code}
use Rattle.run_state.specs.Deeds.{advanced, gone_to}
use Rattle.run_state.specs.Shows.{unit_code, code_left, left_seen, World, Shows, ShowsStatement}
use Rattle.run_state.specs.Rests.{told, GoesSame, GoesOn, Same, Stepped, Went}
use Rattle.run_state.specs.Obeyed.{Obeys}
use Rattle.run_state.specs.declared.machine.Setting.{Setting}
use Rattle.run_state.specs.declared.machine.Stage.TheVariants as stage
use Rattle.run_state.specs.declared.machine.State.{State}
use Rattle.run_state.proofs.Pieces.{piece_next}
use Rattle.run_state.proofs.Arms.{at_point, unit_kept}

module _ (w : World) (code : Code) where
  -- one piece of work
  pub works_so : (c : Config) (st : Storage) (new : State) → Shows w code new (worked w.processor w.units c st).0 (worked w.processor w.units c st).1 → GoesSame w code c st new
  works_so c st new shows = record {
    place = (worked w.processor w.units c st).0;
    held = (worked w.processor w.units c st).1;
    shows = shows;
    same = λ r n. work_changes_nothing w.processor w.units r c st n;
  }

  -- one more piece of work after another
  pub works_on : (c : Config) (st : Storage) (new : State) → GoesSame w code (worked w.processor w.units c st).0 (worked w.processor w.units c st).1 new → GoesSame w code c st new
  works_on c st new g = record { place = g.place; held = g.held; shows = g.shows; same = λ r n. g.same r n ∙ work_changes_nothing w.processor w.units r c st n }

  -- one step
  pub steps_so : (c : Config) (st : Storage) (new : State) → waits c ≡ true → Shows w code new (stepped w.processor w.units c st).0 (stepped w.processor w.units c st).1 → GoesOn w code c st new
  steps_so c st new wait shows = record {
    place = (stepped w.processor w.units c st).0;
    held = (stepped w.processor w.units c st).1;
    shows = shows;
    none = λ r. (steps_are_taken w.processor w.units r c st wait).0;
    one = λ r n. (steps_are_taken w.processor w.units r c st wait).1 n;
  }

module _ (code : Code) (setting : Setting) where
  pub same_none : (m : State) → Same code setting m m
  same_none m w world c st shows = record { place = c; held = st; shows = shows; same = λ r n. refl }

  pub same_then : (a b c : State) → Same code setting a b → Same code setting b c → Same code setting a c
  same_then a b c ab bc w world p st shows =
      let one = ab w world p st shows in
      let two = bc w world one.place one.held one.shows in
      record { place = two.place; held = two.held; shows = two.shows; same = λ r n. two.same r n ∙ one.same r n }

  pub went_none : (m : State) → Went code setting 0 m m
  went_none m w world c st shows = record { place = c; held = st; shows = shows; went = λ r n. ap (λ k. told (rest r c st k)) (let same : 0 + n ≡ n = omega arith in same) }

  pub went_more : (k : ℕ) (a b c d : State) → Went code setting k a b → Stepped code setting b c → Same code setting c d → Went code setting (k + 1) a d
  went_more k a b c d ab bc cd w world p st shows =
      let one = ab w world p st shows in
      let two = bc w world one.place one.held one.shows in
      let three = cd w world two.place two.held two.shows in
      record {
        place = three.place;
        held = three.held;
        shows = three.shows;
        went = λ r n.
            ap (λ j. told (rest r p st j)) (let same : k + 1 + n ≡ k + suc n = omega arith in same)
            ∙ one.went r (suc n) ∙ ap told (two.one r n) ∙ ap told (sym (three.same r n));
      }

  -- a state within a statement shows nothing else
  pub when_inside : (w : World) (m : State) (A : Config → Storage → Type 0) → m.stage ≡ stage.Inside
      → ((f : frames.Frame) (card : ℕ) (is : List Instr) (ws : List Waiting) (xs : List Taken) (st : Storage) → ShowsStatement w code m f card is ws xs st → A (inside f card is ws xs) st)
      → (c : Config) (st : Storage) → Shows w code m c st → A c st
  when_inside w m A e then (inside f card is ws xs) st shows = then f card is ws xs st shows.1
  when_inside w m A e then (entering g env ws xs) st shows = let f : m.stage ≡ stage.Entering = shows.0 in absurd (cc)
  when_inside w m A e then (between f q ws xs) st shows = let f : m.stage ≡ stage.Between = shows.0 in absurd (cc)
  when_inside w m A e then (carried f card is ws xs) st shows = let f : m.stage ≡ stage.Carried = shows.0 in absurd (cc)
  when_inside w m A e then (testing f card q ds ws xs) st shows = let f : m.stage ≡ stage.Testing = shows.0 in absurd (cc)
  when_inside w m A e then (ended v) st shows = let f : m.stage ≡ stage.Ended v = shows.0 in absurd (cc)
  when_inside w m A e then (erred kind card) st shows = let f : m.stage ≡ stage.Erred kind = shows.0 in absurd (cc)
  when_inside w m A e then nowhere st shows = let f : m.stage ≡ stage.Nowhere = shows.0 in absurd (cc)

  -- an instruction was obeyed
  pub acts : (i : Coded) (m new : State) → m.stage ≡ stage.Inside → m.frame.place < m.frame.stop → slice_get (unit_code code m.frame.unit).instrs m.frame.place ≡ Some i
      → Obeys code setting i (advanced m) new → Same code setting m new
  acts i m new e within at obeys w world = when_inside w m (λ c st. GoesSame w code c st new) e inside_one
    where
      left : left_seen w code m.frame ≡ seen_in (unit_code code m.frame.unit) i ∷ left_seen w code (advanced m).frame
      left = ap (map (seen_in (unit_code code m.frame.unit))) (piece_next m.frame.place m.frame.stop (unit_code code m.frame.unit).instrs i within at)

      inside_one : (f : frames.Frame) (card : ℕ) (is : List Instr) (ws : List Waiting) (xs : List Taken) (st : Storage) → ShowsStatement w code m f card is ws xs st → GoesSame w code (inside f card is ws xs) st new
      inside_one f card is ws xs st s =
          subst (λ is. GoesSame w code (inside f card is ws xs) st new) (sym left ∙ s.code_is)
          (works_so w code (inside f card (seen_in (unit_code code m.frame.unit) i ∷ left_seen w code (advanced m).frame) ws xs) st new
          (obeys w world f card (left_seen w code (advanced m).frame) ws xs st e
          (record {
            card_is = s.card_is;
            code_is = refl;
            unit_shown = unit_kept w code m f ws xs st xs st m.stage m.frame.line (m.frame.place + 1) m.frame.card m.values.items m.cells.items s.unit_shown s.unit_shown.rest.values_are s.unit_shown.rest.cells_are;
          })))

  -- no instruction is left
  pub acts_none : (m : State) → m.stage ≡ stage.Inside → code_left (unit_code code m.frame.unit) m.frame ≡ [] → Same code setting m (gone_to 0 m)
  acts_none m e none w world = when_inside w m (λ c st. GoesSame w code c st (gone_to 0 m)) e inside_none
    where
      inside_none : (f : frames.Frame) (card : ℕ) (is : List Instr) (ws : List Waiting) (xs : List Taken) (st : Storage)
          → ShowsStatement w code m f card is ws xs st → GoesSame w code (inside f card is ws xs) st (gone_to 0 m)
      inside_none f card is ws xs st s =
          subst (λ is. GoesSame w code (inside f card is ws xs) st (gone_to 0 m)) (sym (ap (map (seen_in (unit_code code m.frame.unit))) none) ∙ s.code_is)
          (works_so w code (inside f card [] ws xs) st (gone_to 0 m)
          (at_point w code m f ws xs st xs st 0 m.values.items m.cells.items s.unit_shown s.unit_shown.rest.values_are s.unit_shown.rest.cells_are))
