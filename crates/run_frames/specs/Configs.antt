-- Where a run stands, and how it goes on from there: a function for what takes no step, and one for a step.
use Rattle.std.specs.Prelude.{ℕ, suc, ◌+◌, ◌≡◌, ◌<◌, Bool, true, false, is_some, List, [], ◌∷◌, ◌++◌, length, map, sum, take, replicate, Option, Some, None, slice_get}
use Rattle.formula.specs.declared.value.Cell.{Cell}
use Rattle.formula.specs.declared.value.Cell.TheVariants.{Undefined}
use Rattle.fort_syntax.specs.Names.{own_names}
use Rattle.fort_syntax.specs.declared.condition.Kind.{Kind}
use Rattle.fort_syntax.specs.declared.unit.Line.{Line}
use Rattle.fort_syntax.specs.declared.unit.Unit.{Unit as Routine}
use Rattle.fort_model.specs.Sites.{calls_before}
use Rattle.fort_model.specs.Flow.{Loop, through}
use Rattle.fort_model.specs.Storage.{Storage, Environment, with_extents, side_by_side}
use Rattle.fort_model.specs.Processor.{Processor}
use Rattle.fort_model.specs.Outcome.{Erred, Running, Act, ◌>>=◌, ◌>>◌, give, step, stuck}
use Rattle.fort_model.specs.Passing.{Taken, Fresh, seats, new_cells, written_back}
use Rattle.fort_model.specs.Perform.{tests}
use Rattle.fort_model.specs.Run.{own_sizes, own_value, run}
use Rattle.run_code.specs.Code.{Instr, under, led_to, stmt_code, exec}
use Rattle.run_moves.specs.Moves.{Move, on, to_point, to_carried, to_tests, to_call, to_error, to_nothing, passed_on, moved, tested}
use Rattle.run_frames.specs.Frames.{Runs, Frame, Waiting, lowest, scene_at, goes_on, finish}

-- Where a run stands. The units that wait and the stack stand last.
pub data Config : Type 0 where
  -- a unit is to be entered, with the cells of its dummies and COMMON entities
  entering : Routine → Environment → List Waiting → List Taken → Config
  -- a unit at a point; within a statement at a card, with the code that is left
  between : Frame → ℕ → List Waiting → List Taken → Config
  inside : Frame → ℕ → List Instr → List Waiting → List Taken → Config
  -- before a carried statement, with its code
  carried : Frame → ℕ → List Instr → List Waiting → List Taken → Config
  -- before tests of DOs at a card, behind which the flow goes on at a point
  testing : Frame → ℕ → ℕ → List Loop → List Waiting → List Taken → Config
  -- at the end with a value, at an error, and where nothing follows
  ended : Cell → Config
  erred : Kind → ℕ → Config
  nowhere : Config

module _ (p : Processor) (units : List Routine) where
  -- where a move leads, within a statement at a card
  abbrev pub placed : Frame → ℕ → List Waiting → Move → Config × Storage
  placed f card ws (on is xs st) = (inside f card is ws xs, st)
  placed f card ws (to_point q xs st) = (between f q ws (lowest f.floor xs), st)
  placed f card ws (to_carried is xs st) = (carried f card is ws xs, st)
  placed f card ws (to_tests c q ds xs st) = (testing f c q ds ws xs, st)
  placed f card ws (to_call k g m is xs st) = (
    entering g (with_extents g.dummies (seats (passed_on (scene_at p units f) k m xs) (length st)) f.environment)
        (record { frame = f; card = card; left = is; number = k; actuals = m; base = length st } ∷ ws)
        xs,
    st ++ new_cells st (passed_on (scene_at p units f) k m xs),
  )
  placed f card ws (to_error kind c st) = (erred kind c, st)
  placed f card ws (to_nothing st) = (nowhere, st)

  -- a unit is left: the value goes to the caller, copies are written back, and new cells are dropped
  abbrev pub left : Frame → List Waiting → List Taken → Storage → Config × Storage
  left f [] xs st = (ended (own_value f.unit f.environment st), take f.before st)
  left f (w ∷ ws) xs st = (
    inside w.frame w.card w.left ws (Fresh (own_value f.unit f.environment st) ∷ under w.actuals (lowest f.floor xs)),
    take w.base (written_back (passed_on (scene_at p units w.frame) w.number w.actuals (lowest f.floor xs)) w.base (take f.before st)),
  )

  -- at the end of a unit it is left
  abbrev pub left_at : Option Line → Frame → ℕ → List Waiting → List Taken → Storage → Config × Storage
  left_at None f q ws xs st = left f ws xs st
  left_at (Some line) f q ws xs st = (between f q ws xs, st)

  -- one piece of work that takes no step; where a step is wanted first, or nothing is left to do, nothing changes
  abbrev pub worked : Config → Storage → Config × Storage
  worked (inside f card [] ws xs) st = (between f 0 ws (lowest f.floor xs), st)
  worked (inside f card (c ∷ is) ws xs) st = placed f card ws (moved (scene_at p units f) card c is xs st)
  worked (testing f c q [] ws xs) st = (between f q ws (lowest f.floor xs), st)
  worked (between f q ws xs) st = left_at (slice_get f.unit.lines q) f q ws xs st
  worked c st = (c, st)

  -- a unit that was entered
  abbrev pub entered : Routine → Environment → ℕ → Storage → Frame
  entered g env floor st = record {
    unit = g;
    environment = with_extents (map (λ d. d.name) (own_names g)) (side_by_side (own_sizes g env st) (length st)) env;
    before = length st;
    floor = floor;
  }

  -- where a statement stands, its code is begun
  abbrev pub begun_at : Option Line → Frame → ℕ → List Waiting → List Taken → Config
  begun_at None f q ws xs = between f q ws xs
  begun_at (Some line) f q ws xs = inside f line.card (stmt_code f.unit units line.card q (calls_before f.unit q) line.stmt) ws xs

  -- a step, where one is wanted
  abbrev pub stepped : Config → Storage → Config × Storage
  stepped (entering g env ws xs) st = (
    between (entered g env (length xs) st) 0 ws xs,
    st ++ replicate
        (sum (own_sizes g env st)) Undefined,
  )
  stepped (between f q ws xs) st = (begun_at (slice_get f.unit.lines q) f q ws xs, st)
  stepped (carried f card is ws xs) st = (inside f card is ws xs, st)
  stepped (testing f c q (d ∷ ds) ws xs) st = placed f c ws (tested (scene_at p units f) c d q ds xs st)
  stepped c st = (c, st)

-- whether a step is wanted
abbrev pub waits : Config → Bool
waits (entering g env ws xs) = true
waits (between f q ws xs) = is_some (slice_get f.unit.lines q)
waits (carried f card is ws xs) = true
waits (testing f c q (d ∷ ds) ws xs) = true
waits _ = false

-- whether nothing is left to do
abbrev pub is_over : Config → Bool
is_over (ended v) = true
is_over (erred kind card) = true
is_over nowhere = true
is_over _ = false

-- ---- the work until a step is wanted, at most

-- of those that wait
abbrev pub weight_of : List Waiting → ℕ
weight_of [] = 0
weight_of (w ∷ ws) = length w.left + 2 + weight_of ws

-- of a run where it stands
abbrev pub weight : Config → ℕ
weight (entering g env ws xs) = weight_of ws
weight (between f q ws xs) = 1 + weight_of ws
weight (inside f card is ws xs) = length is + 2 + weight_of ws
weight (carried f card is ws xs) = length is + 2 + weight_of ws
weight (testing f c q ds ws xs) = 2 + weight_of ws
weight (ended v) = 0
weight (erred kind card) = 0
weight nowhere = 0

-- ---- what the rest comes to

module _ {p : Processor} {units : List Routine} (r : Runs p units) where
  -- the rest of a run from where it stands
  abbrev pub rest : Config → Act Cell
  rest (entering g env ws xs) = r.run g env >>= finish r ws xs
  rest (between f q ws xs) = goes_on r f (finish r ws) q xs
  rest (inside f card is ws xs) = exec (scene_at p units f) r.run card (goes_on r f (finish r ws)) is 0 xs
  rest (carried f card is ws xs) = step >> exec (scene_at p units f) r.run card (goes_on r f (finish r ws)) is 0 xs
  rest (testing f c q ds ws xs) = tests (scene_at p units f) c ds >>= (λ cs. led_to (through q ds cs)
      (λ q. goes_on r f (finish r ws) q xs))
  rest (ended v) = give v
  rest (erred kind c) = λ st n. Erred kind c st
  rest nowhere = stuck

-- a piece of work leaves the rest of the run as it was
abbrev pub WorkChangesNothing : Type 0
WorkChangesNothing =
    (p : Processor) (units : List Routine) (r : Runs p units) (c : Config) (st : Storage) (n : ℕ)
    → rest r (worked p units c st).0 (worked p units c st).1 n ≡ rest r c st n

-- where a step is wanted and there is none, the run needs one more; with one it goes on behind that step
abbrev pub StepsAreTaken : Type 0
StepsAreTaken =
    (p : Processor) (units : List Routine) (r : Runs p units) (c : Config) (st : Storage) → waits c ≡ true
    → (rest r c st 0 ≡ Running st) × ((n : ℕ) → rest r c st (suc n) ≡ rest r (stepped p units c st).0 (stepped p units c st).1 n)

-- there is an end of work
abbrev pub WorkEnds : Type 0
WorkEnds = (p : Processor) (units : List Routine) (c : Config) (st : Storage) → waits c ≡ false → is_over c ≡ false
    → weight (worked p units c st).0 < weight c

-- runs of the model go on so, and a run is what is left where its unit is to be entered
abbrev pub RunsAreRests : Type 0
RunsAreRests =
    (p : Processor) (units : List Routine) → (r : Runs p units) × ((u : Routine) (env : Environment)
    (st : Storage) (n : ℕ) → rest r (entering u env [] []) st n ≡ run p units u env st n)
