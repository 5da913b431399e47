-- Where a run of a strict processor ends, that of the lazy one does.
use Rattle.std.proofs.Common.{◌≡◌, ℕ, zero, suc, ◌+◌, ◌-◌, Bool, true, false, List, length, Option, Some, None, slice_get, take, refl, sym, ap, ◌∙◌, subst, arith}
use Rattle.fort_syntax.specs.Names.{unit_at}
use Rattle.formula.specs.declared.value.Cell.{Cell}
use Rattle.fort_syntax.specs.declared.unit.DataName.{DataName}
use Rattle.fort_syntax.specs.declared.unit.Line.{Line}
use Rattle.fort_syntax.specs.declared.unit.Unit.{Unit as Routine}
use Rattle.fort_model.specs.Calls.{CallSite, Calls, callee_of}
use Rattle.fort_model.specs.Evaluate.{Scene}
use Rattle.fort_model.specs.Fits.{IsVisible, IsApart, HasShape}
use Rattle.fort_model.specs.Flow.{leads}
use Rattle.fort_model.specs.Lists.{IsAmong}
use Rattle.fort_model.specs.Outcome.{Ended, Act, ◌>>=◌, ◌>>◌, give, stuck, held, put}
use Rattle.fort_model.specs.Passing.{Taken, Passed, passed, written_back, call}
use Rattle.fort_model.specs.Perform.{perform}
use Rattle.fort_model.specs.Processor.{Processor}
use Rattle.fort_model.specs.Run.{run_within, from_point, go_to, at_line}
use Rattle.fort_model.specs.Sites.{calls_before}
use Rattle.fort_model.specs.Storage.{Storage, Environment}
use Rattle.fort_laws.specs.Frame.{IsPlaced, AreSound, FunctionsSmashNothing}
use Rattle.fort_laws.specs.Lazy.{lazy_one, LazyRunsFollowStrictOnes}
use Rattle.fort_laws.proofs.FrameCalls.{call_frame}
use Rattle.fort_laws.specs.Actuals.{IsPart, AreTakenAs}
use Rattle.fort_laws.proofs.FrameClaims.{IsCalled}
use Rattle.fort_laws.proofs.FrameEnter.{own_env, entered, entered_placed}
use Rattle.fort_laws.proofs.FrameParts.{still_placed}
use Rattle.fort_laws.proofs.FrameReads.{runs_at, lies, still_comes, reference_still}
use Rattle.fort_laws.proofs.FrameRuns.{Kept, After, after, keeps_line}
use Rattle.fort_laws.proofs.FrameSeats.{begun, callee_apart, callee_shapes}
use Rattle.fort_laws.proofs.LazyFollows.{Ahead, FollowsAt, FollowsAll, follows_both, follows_on, follows_stepped, all_give, sure, ended_with, Leaves}
use Rattle.fort_laws.proofs.LazyParts.{lazy_scene}
use Rattle.fort_laws.proofs.LazyStatements.{follows_perform}
use Rattle.step_laws.proofs.Tied.{tied_then, tied_before, tied_give, tied_stuck, tied_held, tied_put}
use Rattle.step_laws.proofs.TiedRuns.{tied_leave, fuels}

module _ (units : List Routine) (sound : AreSound units) (harmless : FunctionsSmashNothing units)
    (p : Processor) (strict : p.lazy ≡ false) where
  abbrev RunsFollow : ℕ → Type 0
  RunsFollow fuel =
      (i : ℕ) (u : Routine) (env : Environment) (st : Storage) → slice_get units i ≡ Some u
      → IsApart units i u env → ((d : DataName) → IsVisible u d → HasShape env st d)
      → FollowsAt st (run_within p units fuel u env) (run_within (lazy_one p) units fuel u env)

  abbrev PointsFollow : ℕ → Type 0
  PointsFollow fuel =
      (i : ℕ) (u : Routine) (env : Environment) (st : Storage) → slice_get units i ≡ Some u
      → IsPlaced units i u env st → (pc : ℕ)
      → FollowsAt st (from_point p units fuel u env pc) (from_point (lazy_one p) units fuel u env pc)

  -- ---- from a statement on

  module _ (fuel : ℕ) (runs : RunsFollow fuel) (i : ℕ) (u : Routine) (env : Environment) (st : Storage)
      (is : slice_get units i ≡ Some u) (placed : IsPlaced units i u env st) where
    abbrev scene : Scene
    scene = record { processor = p; units = units; unit = u; environment = env }

    abbrev strictly : Routine → Environment → Act Cell
    strictly = run_within p units fuel

    abbrev lazily : Routine → Environment → Act Cell
    lazily = run_within (lazy_one p) units fuel

    -- what a call does when the called unit has been run
    abbrev back : ℕ → List Passed → Cell → Act Cell
    back before xs value = held >>= λ last. put (take before (written_back xs before last)) >> give value

    all_back : (before : ℕ) (xs : List Passed) (value : Cell) → FollowsAll (back before xs value) (back before xs value)
    all_back before xs value =
        sure (back before xs value)
        (λ bound. tied_then bound held held _ _ (tied_held bound)
        (λ last. tied_before bound _ _ _ _ (tied_put bound _) (tied_give bound value)))

    module _ (site : CallSite) (called : IsCalled u site) (copies : ℕ → Bool) (xs : List Taken)
        (fit : AreTakenAs env (IsPart u env) site.actuals xs) where
      follows_unit : (j : ℕ) → callee_of units site ≡ Some j → (o : Option Routine) → slice_get units j ≡ o
          → FollowsAt st (call strictly env o (passed copies 1 xs)) (call lazily env o (passed copies 1 xs))
      follows_unit j q None e = sure stuck tied_stuck st
      follows_unit j q (Some g) e =
          let c : Calls units i j = record {
            caller = u;
            callee = g;
            is_caller = is;
            is_callee = e;
            line = called.line;
            is_line = called.is_line;
            site = site;
            is_site = called.is_site;
            is_of = q;
          } in
          let of_caller = sound.units_are i u is in
          let of_callee = sound.units_are j g e in
          let of_call = sound.calls_are i j c in
          let start : Storage = begun units i j c of_caller of_callee of_call env st placed copies xs fit in
          record {
            from = (follows_on start
                (runs j g _ start e (callee_apart units i j c of_caller of_callee of_call env st placed copies xs fit)
                (callee_shapes units i j c of_caller of_callee of_call env st placed copies xs fit))
                (all_back (length st) (passed copies 1 xs))).from;
          }

      follows_number : (o : Option ℕ) → callee_of units site ≡ o
          → FollowsAt st (call strictly env (unit_at units o) (passed copies 1 xs))
          (call lazily env (unit_at units o) (passed copies 1 xs))
      follows_number None q = sure stuck tied_stuck st
      follows_number (Some j) q = follows_unit j q (slice_get units j) refl

    reference_leaves : (site : CallSite) → IsCalled u site × (site.reference ≡ true) → (k : ℕ) (xs : List Taken)
        → AreTakenAs env (IsPart u env) site.actuals xs
        → Leaves st (λ _. Unit {0}) (call strictly env (unit_at units (callee_of units site)) (passed (p.copies u.name k) 1 xs))
    reference_leaves site (called, reference) k xs fit = record {
      from = λ now n q. still_comes units sound p harmless fuel i u env st is placed now _ q
          (reference_still units sound p harmless fuel i u env now is
          (subst (λ (z : Storage). IsPlaced units i u env z) (sym q) placed) site called reference (p.copies u.name k) xs fit n);
    }

    follows_line : (line : Line) (pc : ℕ) → IsAmong line u.lines
        → FollowsAt st (perform scene strictly line.card pc (calls_before u pc) line.stmt)
        (perform (lazy_scene scene) lazily line.card pc (calls_before u pc) line.stmt)
    follows_line line pc m =
        follows_perform scene strict strictly lazily st (IsPart u env)
        (lies units sound p harmless fuel i u env st is placed) (IsCalled u) reference_leaves
        (λ site called k xs fit. follows_number site called (p.copies u.name k) xs fit (callee_of units site) refl)
        line.card pc (calls_before u pc) line.stmt (λ site among. record { line = line; is_line = m; is_site = among })

    -- the names have their places where the statement ends
    placed_behind : (line : Line) (pc : ℕ) → IsAmong line u.lines → (n : ℕ) (choices : List ℕ) (mid : Storage) (k : ℕ)
        → perform scene strictly line.card pc (calls_before u pc) line.stmt st n ≡ Ended choices mid k
        → IsPlaced units i u env mid
    placed_behind line pc m n choices mid k q =
        let calls = call_frame units sound p in
        let frame = runs_at units sound p harmless fuel in
        still_placed units i u (sound.units_are i u is) env st placed mid
        (ended_with (Kept units sound p calls fuel frame i u env st is placed) (After units sound p calls fuel frame i u env st is placed)
        (after units sound p calls fuel frame i u env st is placed) (λ _. Unit {0}) _
        (keeps_line units sound p calls fuel frame i u env st is placed line pc m)
        st (refl, λ j lt unlike. refl) n choices mid k q).0

    follows_go_to : (st : Storage) (q : Option ℕ) (f g : ℕ → Act (Unit {0})) → ((pc : ℕ) → FollowsAt st (f pc) (g pc))
        → FollowsAt st (go_to q f) (go_to q g)
    follows_go_to st None f g h = sure stuck tied_stuck st
    follows_go_to st (Some q) f g h = h q

    follows_at_line : (o : Option Line) (f g : Line → Act (Unit {0}))
        → ((line : Line) → o ≡ Some line → FollowsAt st (f line) (g line)) → FollowsAt st (at_line o f) (at_line o g)
    follows_at_line None f g h = all_give tt st
    follows_at_line (Some line) f g h = h line refl

    follows_point : PointsFollow fuel → (pc : ℕ)
        → FollowsAt st (from_point p units (suc fuel) u env pc) (from_point (lazy_one p) units (suc fuel) u env pc)
    follows_point more pc =
        follows_at_line (slice_get u.lines pc) _ _ λ line e. record {
          from = follows_stepped _ _ tt
              (follows_both st (follows_line line pc (pc, e)) λ n choices mid k q.
              follows_go_to mid (leads p.dialect u pc line.stmt choices) _ _
              (more i u env mid is (placed_behind line pc (pc, e) n choices mid k q))).from;
        }

  -- ---- whole runs

  follows_whole : (fuel : ℕ) → PointsFollow fuel → RunsFollow (suc fuel)
  follows_whole fuel points i u env st is apart shapes =
      let of_unit = sound.units_are i u is in
      let own : Environment = own_env units i u of_unit env st apart shapes in
      let start : Storage = entered units i u of_unit env st apart shapes in
      record {
        from = follows_stepped _ _ tt
            (follows_on start (points i u own start is (entered_placed units i u of_unit env st apart shapes) 0)
            (λ _. sure _ (λ bound. tied_leave bound u own (length st)))).from;
      }

  both : (fuel : ℕ) → RunsFollow fuel × PointsFollow fuel
  both zero = (λ i u env st is apart shapes. sure stuck tied_stuck st, λ i u env st is placed pc. sure stuck tied_stuck st)
  both (suc fuel) =
      let rec = both fuel in
      (follows_whole fuel rec.1, λ i u env st is placed pc. follows_point fuel rec.0 i u env st is placed rec.1 pc)

pub lazy_runs_follow_strict_ones : LazyRunsFollowStrictOnes
lazy_runs_follow_strict_ones units sound harmless p strict i u env st n is apart shapes v after left e m =
    let h : Ahead (run_within (lazy_one p) units (suc (n + m)) u env st) n v after left (n + m) =
    ((both units sound harmless p strict (suc (n + m))).0 i u env st is apart shapes).from n v after left
    (fuels p units u env st n (suc (n + m)) (suc n) (omega arith) (omega arith) ∙ e) (n + m) (omega arith) in
    let enough : h.rest ≡ left + m + (h.rest - (left + m)) = let s = h.no_more in omega arith in
    (h.rest - (left + m), h.ended ∙ ap (λ (k : ℕ). Ended v after k) enough)
