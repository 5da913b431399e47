-- Evaluating an expression changes no cell, where no FUNCTION smashes what its caller sees.
use Rattle.std.proofs.Common.{◌≡◌, ℕ, ◌+◌, Bool, true, false, cond, suc, ◌&&◌, ℤ, List, [], ◌∷◌, length, Option, Some, None, slice_get, refl, sym, ap, ◌∙◌, subst, arith, ext_get_or}
use Rattle.fort_syntax.specs.Names.{Element, applied, first_unit, is_function, function, subroutine, unit_at}
use Rattle.formula.specs.Atoms.{same_bytes}
use Rattle.formula.specs.declared.value.Cell.{Cell}
use Rattle.formula.specs.declared.value.Cell.TheVariants.{Undefined}
use Rattle.fort_syntax.specs.declared.expr.Expr.{Expr}
use Rattle.fort_syntax.specs.declared.unit.Unit.{Unit as Routine}
use Rattle.fort_model.specs.Calls.{CallSite, Calls, sites_in, callee_of}
use Rattle.fort_model.specs.Evaluate.{evaluate}
use Rattle.fort_model.specs.Lists.{IsAmong}
use Rattle.fort_model.specs.Places.{dim_values}
use Rattle.fort_syntax.specs.declared.name.Name.{Name}
use Rattle.fort_syntax.specs.declared.stmt.Dim.{Dim}
use Rattle.fort_model.specs.Outcome.{Outcome, Ended, Erred, Running}
use Rattle.fort_model.specs.Passing.{Taken, passed, call}
use Rattle.fort_model.specs.Processor.{Processor}
use Rattle.fort_model.specs.Run.{run_within}
use Rattle.fort_model.specs.Storage.{Storage, Environment, load}
use Rattle.fort_laws.specs.Actuals.{IsPart, AreTakenAs}
use Rattle.fort_laws.specs.Frame.{IsPlaced, AreSound, Changes, FunctionsSmashNothing, EvaluationChangesNothing}
use Rattle.fort_laws.proofs.FrameCalls.{call_changes, call_frame}
use Rattle.fort_laws.proofs.FrameClaims.{IsCalled, RunFrame}
use Rattle.fort_laws.proofs.FrameRuns.{frames, parts_lie}
use Rattle.fort_laws.proofs.References.{sites_are_references}
use Rattle.fort_laws.proofs.FrameSeats.{callee_apart, callee_shapes}
use Rattle.fort_laws.proofs.Kept.{AreIn, element_at, Comes, Keeps, keeps_evaluate}

-- ---- a reference to a FUNCTION, where these smash nothing

first_is : (is : Routine → Bool) (us : List Routine) (i j : ℕ) → first_unit is us i ≡ Some j → (n : ℕ) × (j ≡ i + n) × ((g : Routine) → slice_get us n ≡ Some g → is g ≡ true)
first_is is [] i j h = absurd (cc)
first_is is (u ∷ us) i j h = by_test (is u) refl (λ q. first_is is us (suc i) j q)
  where
    at_head : (t : Bool) → is u ≡ t → cond t (Some i) (first_unit is us (suc i)) ≡ Some j
    at_head t q = ap (λ (b : Bool). cond b (Some i) (first_unit is us (suc i))) (sym q) ∙ h

    found : (t : Bool) → is u ≡ true → Some i ≡ Some j → (n : ℕ) × (j ≡ i + n) × ((g : Routine) → slice_get (u ∷ us) n ≡ Some g → is g ≡ true)
    found t q e = let f : i ≡ j = cc in (0, omega arith, λ g k. let r : u ≡ g = cc in subst (λ (z : Routine). is z ≡ true) r q)

    by_test : (t : Bool) → is u ≡ t → (first_unit is us (suc i) ≡ Some j → (n : ℕ) × (j ≡ suc i + n) × ((g : Routine) → slice_get us n ≡ Some g → is g ≡ true))
        → (n : ℕ) × (j ≡ i + n) × ((g : Routine) → slice_get (u ∷ us) n ≡ Some g → is g ≡ true)
    by_test true q rec = found true q (at_head true q)
    by_test false q rec = let r = rec (at_head false q) in (suc r.0, let e = r.1 in omega arith, λ g k. r.2 g k)

left_true : (a b : Bool) → (a && b) ≡ true → a ≡ true
left_true true b e = refl
left_true false b e = absurd (cc)

function_is : (units : List Routine) (f : Name) (j : ℕ) (g : Routine) → function units f ≡ Some j → slice_get units j ≡ Some g → is_function g ≡ true
function_is units f j g h e =
    let r = first_is (λ u. is_function u && same_bytes u.name f) units 0 j h in
    let at : j ≡ r.0 = let q = r.1 in omega arith in
    left_true (is_function g) (same_bytes g.name f) (r.2 g (ap (slice_get units) (sym at) ∙ e))

-- storage after, where it is that before
abbrev pub IsStill : Storage → Outcome Cell → Type 0
IsStill st (Ended v after left) = after ≡ st
IsStill st (Erred kind card after) = Unit {0}
IsStill st (Running after) = Unit {0}

unchanged : (May : ℕ → Type 0) (st : Storage) (o : Outcome Cell) → ((k : ℕ) → May k → ⊥) → Changes May st o → IsStill st o
unchanged May st (Ended v after left) none h = ext_get_or Undefined after st h.0 (λ k lt. h.1 k (let l = h.0 in omega arith) (none k))
unchanged May st (Erred kind card after) none h = tt
unchanged May st (Running after) none h = tt

module _ (units : List Routine) (sound : AreSound units) (p : Processor) (harmless : FunctionsSmashNothing units) where
  pub runs_at : (fuel : ℕ) → RunFrame units p fuel
  runs_at fuel = (frames units sound p (call_frame units sound p) fuel).0

  module _ (fuel i : ℕ) (u : Routine) (env : Environment) (st : Storage) (is : slice_get units i ≡ Some u) (placed : IsPlaced units i u env st) (site : CallSite) (called : IsCalled u site) (reference : site.reference ≡ true)
      (copies : ℕ → Bool) (xs : List Taken) (fit : AreTakenAs env (IsPart u env) site.actuals xs) (n : ℕ) where
    still_unit : (j : ℕ) → callee_of units site ≡ Some j → (o : Option Routine) → slice_get units j ≡ o → IsStill st (call (run_within p units fuel) env o (passed copies 1 xs) st n)
    still_unit j q None e = tt
    still_unit j q (Some g) e =
        let c : Calls units i j = record { caller = u; callee = g; is_caller = is; is_callee = e; line = called.line; is_line = called.is_line; site = site; is_site = called.is_site; is_of = q } in
        let is_one : is_function g ≡ true = function_is units site.callee j g (ap (λ (b : Bool). cond b (function units site.callee) (subroutine units site.callee)) (sym reference) ∙ q) e in
        unchanged _ st _ (λ k m. harmless j g m.1.its e is_one m.1.visible m.1.smashed)
        (call_changes units i j c (sound.units_are i u is) (sound.units_are j g e) (sound.calls_are i j c) env st placed copies xs fit _
        (runs_at fuel j g _ _ n e (callee_apart units i j c (sound.units_are i u is) (sound.units_are j g e) (sound.calls_are i j c) env st placed copies xs fit)
        (callee_shapes units i j c (sound.units_are i u is) (sound.units_are j g e) (sound.calls_are i j c) env st placed copies xs fit)))

    still_number : (o : Option ℕ) → callee_of units site ≡ o → IsStill st (call (run_within p units fuel) env (unit_at units o) (passed copies 1 xs) st n)
    still_number None q = tt
    still_number (Some j) q = still_unit j q (slice_get units j) refl

    pub reference_still : IsStill st (call (run_within p units fuel) env (unit_at units (callee_of units site)) (passed copies 1 xs) st n)
    reference_still = still_number (callee_of units site) refl

  -- ---- expressions

  -- storage is that from which evaluation began
  module _ (fuel i : ℕ) (u : Routine) (env : Environment) (st0 : Storage) (is : slice_get units i ≡ Some u) (placed : IsPlaced units i u env st0) where
    abbrev pub Begun : Storage → Type 0
    Begun st = st ≡ st0

    abbrev pub Any : Storage → Type 0
    Any st = Unit {0}

    abbrev pub any : (st : Storage) → Begun st → Any st
    any st h = tt

    record IsReference (site : CallSite) : Type 0 where
      called : IsCalled u site
      reference : site.reference ≡ true

    pub still_comes : (st : Storage) (o : Outcome Cell) → st ≡ st0 → IsStill st o → Comes Begun Any any (λ _. Unit {0}) o
    still_comes st (Ended v after left) e h = (h ∙ e, tt)
    still_comes st (Erred kind card after) e h = tt
    still_comes st (Running after) e h = tt

    pub lies : (f : Name) (dims : List Dim) → applied u f ≡ Element dims → (st : Storage) → st ≡ st0 → (ss : List ℤ) → AreIn ss (dim_values env st dims)
        → IsPart u env f (element_at (env f) ss (dim_values env st dims))
    lies f dims e st q ss within =
        parts_lie units sound p (call_frame units sound p) fuel (runs_at fuel) i u env st0 is placed f dims e st (ap length q, λ k lt closed. ap (λ (z : Storage). load z k) q) ss within

    evaluation_still : (card k : ℕ) (e : Expr) → ((site : CallSite) → IsAmong site (sites_in u e) → IsReference site)
        → Keeps Begun Any any (evaluate (record { processor = p; units = units; unit = u; environment = env }) (run_within p units fuel) card k e)
    evaluation_still card k e sited =
        keeps_evaluate Begun Any any (record { processor = p; units = units; unit = u; environment = env }) (run_within p units fuel) (IsPart u env) lies IsReference
        (λ site r k2 xs fit. record {
          from = λ st n q. still_comes st _ q (reference_still fuel i u env st is (subst (λ (z : Storage). IsPlaced units i u env z) (sym q) placed) site r.called r.reference (p.copies u.name k2) xs fit n);
        })
        card k e sited

same_storage : (st0 : Storage) (v : Cell) (after : Storage) (left : ℕ) (o : Outcome Cell) → o ≡ Ended v after left → Comes (λ st. st ≡ st0) (λ _. Unit {0}) (λ _ _. tt) (λ _. Unit {0}) o → after ≡ st0
same_storage st0 v after left o e h = (subst (λ (z : Outcome Cell). Comes (λ st. st ≡ st0) (λ _. Unit {0}) (λ _ _. tt) (λ _. Unit {0}) z) e h).0

pub evaluation_changes_nothing : EvaluationChangesNothing
evaluation_changes_nothing units sound harmless p i u env st is placed line e m inside depth card k n v after left q =
    same_storage st v after left _ q
    ((evaluation_still units sound p harmless depth i u env st is placed card k e
    (λ site a. record { called = record { line = line; is_line = m; is_site = inside site a }; reference = sites_are_references u e site a })).from st n refl)
