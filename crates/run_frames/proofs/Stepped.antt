-- A step is taken where one is wanted.
use Rattle.std.proofs.Common.{◌≡◌, ℕ, suc, true, List, [], ◌∷◌, ◌++◌, length, sum, replicate, Option, Some, None, slice_get, refl, sym, ap, ◌∙◌}
use Rattle.std.specs.Prelude.{is_some}
use Rattle.formula.specs.declared.value.Cell.TheVariants.{Undefined}
use Rattle.fort_syntax.specs.declared.unit.Line.{Line}
use Rattle.fort_syntax.specs.declared.unit.Unit.{Unit as Routine}
use Rattle.fort_model.specs.Sites.{calls_before}
use Rattle.fort_model.specs.Flow.{leads}
use Rattle.fort_model.specs.Storage.{Storage, Environment}
use Rattle.fort_model.specs.Processor.{Processor}
use Rattle.fort_model.specs.Outcome.{Running, ◌>>=◌, and_then}
use Rattle.fort_model.specs.Passing.{Taken}
use Rattle.fort_model.specs.Perform.{perform}
use Rattle.fort_model.specs.Run.{own_sizes, leave, go_to}
use Rattle.run_code.specs.Code.{led_to, stmt_code}
use Rattle.run_code.proofs.Coded.{assoc, alike}
use Rattle.run_code.proofs.Stated.{performed}
use Rattle.run_moves.specs.Moves.{tested}
use Rattle.run_moves.proofs.Moved.{tests_once}
use Rattle.run_frames.specs.Frames.{Runs, Frame, Waiting, lowest, scene_at, goes_on, finish}
use Rattle.run_frames.specs.Configs.{Config, entering, between, inside, carried, testing, ended, erred, nowhere, entered, begun_at, stepped, waits, rest, StepsAreTaken}
use Rattle.run_frames.proofs.Lowest.{lowest_all}
use Rattle.run_frames.proofs.Worked.{act, then, found, placed_on}

module _ {p : Processor} {units : List Routine} (r : Runs p units) where
  abbrev Steps : Config → Storage → Type 0
  Steps c st = (rest r c st 0 ≡ Running st) × ((n : ℕ) → rest r c st (suc n) ≡ rest r (stepped p units c st).0 (stepped p units c st).1 n)

  -- ---- a unit is entered

  enters : (g : Routine) (env : Environment) (ws : List Waiting) (xs : List Taken) (st : Storage) → Steps (entering g env ws xs) st
  enters g env ws xs st = (
    ap (λ o. and_then o (finish r ws xs)) (r.runs g env st 0),
    λ n.
        let f = entered p units g env (length xs) st in
        let cs = st ++ replicate (sum (own_sizes g env st)) Undefined in
        ap (λ o. and_then o (finish r ws xs)) (r.runs g env st (suc n))
        ∙ assoc (r.from g f.environment 0 cs n) _ _
        ∙ ap (λ ys. and_then (r.from g f.environment 0 cs n) (λ _. leave g f.environment (length st) >>= (λ v. finish r ws ys v))) (sym (lowest_all xs)),
  )

  -- ---- a statement is begun

  led : (o : Option ℕ) (f : Frame) (ws : List Waiting) (xs : List Taken) (st : Storage) (n : ℕ)
      → and_then (go_to o (r.from f.unit f.environment) st n) (λ _. leave f.unit f.environment f.before >>= (λ v. finish r ws (lowest f.floor xs) v)) ≡ led_to o (λ q. goes_on r f (finish r ws) q xs) st n
  led None f ws xs st n = refl
  led (Some q) f ws xs st n = refl

  begins : (f : Frame) (q : ℕ) (line : Line) (ws : List Waiting) (xs : List Taken) (st : Storage) (n : ℕ)
      → then r f ws xs (act r f q (Some line) st (suc n)) ≡ rest r (inside f line.card (stmt_code f.unit units line.card q (calls_before f.unit q) line.stmt) ws xs) st n
  begins f q line ws xs st n =
      let does = perform (scene_at p units f) r.run line.card q (calls_before f.unit q) line.stmt in
      assoc (does st n) _ _
      ∙ alike (does st n) _ _ (λ choices st n. led (leads p.dialect f.unit q line.stmt choices) f ws xs st n)
      ∙ sym (performed (scene_at p units f) r.run line.card (goes_on r f (finish r ws)) q (calls_before f.unit q) line.stmt xs st n)

  at_point : (f : Frame) (q : ℕ) (ws : List Waiting) (xs : List Taken) (st : Storage) (o : Option Line) → slice_get f.unit.lines q ≡ o → is_some o ≡ true
      → (rest r (between f q ws xs) st 0 ≡ Running st) × ((n : ℕ) → rest r (between f q ws xs) st (suc n) ≡ rest r (begun_at p units o f q ws xs) st n)
  at_point f q ws xs st None at h = absurd (cc)
  at_point f q ws xs st (Some line) at h = (found r f q ws xs st 0 (Some line) at, λ n. found r f q ws xs st (suc n) (Some line) at ∙ begins f q line ws xs st n)

  -- ---- all

  pub steps : (c : Config) (st : Storage) → waits c ≡ true → Steps c st
  steps (entering g env ws xs) st h = enters g env ws xs st
  steps (between f q ws xs) st h = at_point f q ws xs st (slice_get f.unit.lines q) refl h
  steps (inside f card is ws xs) st h = absurd (cc)
  steps (carried f card is ws xs) st h = (refl, λ n. refl)
  steps (testing f c q [] ws xs) st h = absurd (cc)
  steps (testing f c q (d ∷ ds) ws xs) st h = (
    refl,
    λ n.
        tests_once (scene_at p units f) r.run c (goes_on r f (finish r ws)) c d q ds xs st n ∙ sym (placed_on r f c ws (tested (scene_at p units f) c d q ds xs st) n),
  )
  steps (ended v) st h = absurd (cc)
  steps (erred kind c) st h = absurd (cc)
  steps nowhere st h = absurd (cc)

pub steps_are_taken : StepsAreTaken
steps_are_taken p units r c st h = steps r c st h
