-- Where no DO is tested a point is reached at once.
use Rattle.std.proofs.Common.{◌≡◌, ℕ, ◌<◌, ◌+◌, List, [], ◌∷◌, map, Some, slice_get, sym, ap, ◌∙◌, subst}
use Rattle.fort_model.specs.Storage.{Storage}
use Rattle.fort_model.specs.Passing.{Taken}
use Rattle.run_code.specs.Code.{Instr, test_loops}
use Rattle.run_frames.specs.Frames as frames
use Rattle.run_frames.specs.Frames.{Waiting}
use Rattle.run_frames.specs.Configs.{inside, testing}
use Rattle.run_shapes.specs.Seen.{seen_in}
use Rattle.run_shapes.specs.declared.instr.Instr.TheVariants as instr
use Rattle.run_shapes.specs.declared.unit_code.Code.{Code}
use Rattle.run_state.specs.Deeds.{advanced, gone_to}
use Rattle.run_state.specs.Rests.{GoesSame, Same}
use Rattle.run_state.specs.Shows.{unit_code, left_seen, ShowsStatement}
use Rattle.run_state.specs.declared.machine.Setting.{Setting}
use Rattle.run_state.specs.declared.machine.Stage.TheVariants as stage
use Rattle.run_state.specs.declared.machine.State.{State}
use Rattle.run_state.proofs.Arms.{at_point, unit_kept}
use Rattle.run_state.proofs.Glue.{works_so, works_on, when_inside}
use Rattle.run_state.proofs.Pieces.{piece_next}

pub reached : (code : Code) (setting : Setting) (card q : ℕ) (m : State) → m.stage ≡ stage.Inside → m.frame.place < m.frame.stop
    → slice_get (unit_code code m.frame.unit).instrs m.frame.place ≡ Some (instr.Go card q) → Same code setting m (gone_to q (advanced m))
reached code setting card q m e within at w world = when_inside code setting w m (λ c st. GoesSame w code c st (gone_to q (advanced m))) e inside_one
  where
    left : left_seen w code m.frame ≡ test_loops card q [] ∷ left_seen w code (advanced m).frame
    left = ap (map (seen_in (unit_code code m.frame.unit))) (piece_next m.frame.place m.frame.stop (unit_code code m.frame.unit).instrs (instr.Go card q) within at)

    inside_one : (f : frames.Frame) (c : ℕ) (is : List Instr) (ws : List Waiting) (xs : List Taken) (st : Storage) → ShowsStatement w code m f c is ws xs st
        → GoesSame w code (inside f c is ws xs) st (gone_to q (advanced m))
    inside_one f c is ws xs st s =
        subst (λ is. GoesSame w code (inside f c is ws xs) st (gone_to q (advanced m))) (sym left ∙ s.code_is)
        (works_on w code (inside f c (test_loops card q [] ∷ left_seen w code (advanced m).frame) ws xs) st (gone_to q (advanced m))
        (works_so w code (testing f card q [] ws xs) st (gone_to q (advanced m))
        (at_point w code (advanced m) f ws xs st xs st q m.values.items m.cells.items
        (unit_kept w code m f ws xs st xs st m.stage m.frame.line (m.frame.place + 1) m.frame.card m.values.items m.cells.items s.unit_shown s.unit_shown.rest.values_are s.unit_shown.rest.cells_are)
        s.unit_shown.rest.values_are s.unit_shown.rest.cells_are)))
