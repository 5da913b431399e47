-- A piece of work leaves the rest of a run as it was.
use Rattle.std.proofs.Common.{◌≡◌, ℕ, List, [], ◌∷◌, ◌++◌, length, Option, Some, None, slice_get, refl, sym, ap, ◌∙◌}
use Rattle.formula.specs.declared.value.Cell.{Cell}
use Rattle.fort_syntax.specs.declared.unit.Line.{Line}
use Rattle.fort_syntax.specs.declared.unit.Unit.{Unit as Routine}
use Rattle.fort_model.specs.Sites.{calls_before}
use Rattle.fort_model.specs.Flow.{leads}
use Rattle.fort_model.specs.Storage.{Storage, with_extents}
use Rattle.fort_model.specs.Processor.{Processor}
use Rattle.fort_model.specs.Outcome.{Outcome, Act, ◌>>=◌, ◌>>◌, step, and_then}
use Rattle.fort_model.specs.Passing.{Taken, seats, new_cells}
use Rattle.fort_model.specs.Perform.{perform}
use Rattle.fort_model.specs.Run.{leave, go_to, at_line}
use Rattle.run_code.proofs.Coded.{assoc}
use Rattle.run_moves.specs.Moves.{Move, on, to_point, to_carried, to_tests, to_call, to_error, to_nothing, passed_on, goes_by, moved}
use Rattle.run_moves.proofs.Moved.{moves}
use Rattle.run_frames.specs.Frames.{Runs, Frame, Waiting, lowest, scene_at, goes_on, finish}
use Rattle.run_frames.specs.Configs.{Config, entering, between, inside, carried, testing, ended, erred, nowhere, placed, left, left_at, worked, rest, WorkChangesNothing}
use Rattle.run_frames.proofs.Lowest.{lowest_twice}

module _ {p : Processor} {units : List Routine} (r : Runs p units) where
  -- to a point with the stack as it was when the unit was entered
  lowered : (f : Frame) (ws : List Waiting) (q : ℕ) (xs : List Taken) (st : Storage) (n : ℕ) → goes_on r f (finish r ws) q (lowest f.floor xs) st n ≡ goes_on r f (finish r ws) q xs st n
  lowered f ws q xs st n = ap (λ ys. and_then (r.from f.unit f.environment q st n) (λ _. leave f.unit f.environment f.before >>= (λ v. finish r ws ys v))) (lowest_twice f.floor xs)

  -- where a move leads is what it comes to
  pub placed_on : (f : Frame) (card : ℕ) (ws : List Waiting) (move : Move) (n : ℕ)
      → rest r (placed p units f card ws move).0 (placed p units f card ws move).1 n ≡ goes_by (scene_at p units f) r.run card (goes_on r f (finish r ws)) move n
  placed_on f card ws (on is xs st) n = refl
  placed_on f card ws (to_point q xs st) n = lowered f ws q xs st n
  placed_on f card ws (to_carried is xs st) n = refl
  placed_on f card ws (to_tests c q ds xs st) n = refl
  placed_on f card ws (to_call k g m is xs st) n =
      sym (assoc (r.run g (with_extents g.dummies (seats (passed_on (scene_at p units f) k m xs) (length st)) f.environment) (st ++ new_cells st (passed_on (scene_at p units f) k m xs)) n) _ _)
  placed_on f card ws (to_error kind c st) n = refl
  placed_on f card ws (to_nothing st) n = refl

  -- what the model does from a point on, by the statement there
  abbrev pub act : Frame → ℕ → Option Line → Act (Unit {0})
  act f q o = at_line o (λ line. step >> (perform (scene_at p units f) r.run line.card q (calls_before f.unit q) line.stmt >>= (λ choices. go_to (leads p.dialect f.unit q line.stmt choices) (r.from f.unit f.environment))))

  abbrev pub then : Frame → List Waiting → List Taken → Outcome (Unit {0}) → Outcome Cell
  then f ws xs o = and_then o (λ _. leave f.unit f.environment f.before >>= (λ v. finish r ws (lowest f.floor xs) v))

  -- at a point
  pub found : (f : Frame) (q : ℕ) (ws : List Waiting) (xs : List Taken) (st : Storage) (n : ℕ) (o : Option Line) → slice_get f.unit.lines q ≡ o
      → rest r (between f q ws xs) st n ≡ then f ws xs (act f q o st n)
  found f q ws xs st n o at = ap (then f ws xs) (r.goes f.unit f.environment q st n ∙ ap (λ (o : Option Line). act f q o st n) at)

  leaves : (f : Frame) (ws : List Waiting) (xs : List Taken) (st : Storage) (n : ℕ) (q : ℕ)
      → rest r (left p units f ws xs st).0 (left p units f ws xs st).1 n ≡ then f ws xs (act f q None st n)
  leaves f [] xs st n q = refl
  leaves f (w ∷ ws) xs st n q = refl

  at_point : (f : Frame) (q : ℕ) (ws : List Waiting) (xs : List Taken) (st : Storage) (n : ℕ) (o : Option Line) → slice_get f.unit.lines q ≡ o
      → rest r (left_at p units o f q ws xs st).0 (left_at p units o f q ws xs st).1 n ≡ rest r (between f q ws xs) st n
  at_point f q ws xs st n None at = leaves f ws xs st n q ∙ sym (found f q ws xs st n None at)
  at_point f q ws xs st n (Some line) at = refl

  pub works : (c : Config) (st : Storage) (n : ℕ) → rest r (worked p units c st).0 (worked p units c st).1 n ≡ rest r c st n
  works (entering g env ws xs) st n = refl
  works (between f q ws xs) st n = at_point f q ws xs st n (slice_get f.unit.lines q) refl
  works (inside f card [] ws xs) st n = lowered f ws 0 xs st n
  works (inside f card (c ∷ is) ws xs) st n =
      placed_on f card ws (moved (scene_at p units f) card c is xs st) n ∙ sym (moves (scene_at p units f) r.run card (goes_on r f (finish r ws)) c is xs st n)
  works (carried f card is ws xs) st n = refl
  works (testing f c q [] ws xs) st n = lowered f ws q xs st n
  works (testing f c q (d ∷ ds) ws xs) st n = refl
  works (ended v) st n = refl
  works (erred kind c) st n = refl
  works nowhere st n = refl

pub work_changes_nothing : WorkChangesNothing
work_changes_nothing p units r c st n = works r c st n
