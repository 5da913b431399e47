-- A unit changes only cells of names that it smashes, where its calls do.
use Rattle.std.proofs.Common.{◌≡◌, ℕ, zero, suc, cond, ℤ, pos, List, [], ◌∷◌, length, Option, Some, None, slice_get, refl, sym, ap, ◌∙◌, subst, arith}
use Rattle.fort_syntax.specs.Names.{Applied, Element, Intrinsic, applied, applied_by, data_name_in, dims_of_data, dims_of, intrinsic, unit_at}
use Rattle.formula.specs.declared.value.Cell.{Cell}
use Rattle.fort_syntax.specs.declared.name.Name.{Name}
use Rattle.fort_syntax.specs.declared.stmt.Dim.{Dim}
use Rattle.fort_syntax.specs.declared.unit.DataName.{DataName}
use Rattle.fort_syntax.specs.declared.unit.Line.{Line}
use Rattle.fort_syntax.specs.declared.unit.Unit.{Unit as Routine}
use Rattle.fort_model.specs.Calls.{CallSite, callee_of}
use Rattle.fort_model.specs.Fits.{IsIn, IsVisible, IsApart, HasShape}
use Rattle.fort_model.specs.Lists.{IsAmong}
use Rattle.fort_model.specs.Outcome.{Outcome, Ended, Erred, Running, and_then, Act}
use Rattle.fort_model.specs.Passing.{Taken, passed, call}
use Rattle.fort_model.specs.Perform.{perform}
use Rattle.fort_model.specs.Places.{dim_values, stretch}
use Rattle.fort_model.specs.Processor.{Processor}
use Rattle.fort_model.specs.Run.{run, run_within, from_point, leave, go_to, at_line}
use Rattle.fort_model.specs.Sites.{calls_before}
use Rattle.fort_model.specs.Smashes.{Smashes, set_by, sets}
use Rattle.fort_model.specs.Storage.{Storage, Extent, Environment}
use Rattle.fort_laws.specs.Actuals.{IsPart, AreTakenAs}
use Rattle.fort_laws.specs.Frame.{IsPlaced, HasName, IsSoundUnit, AreSound, IsSmashedCell, Changes}
use Rattle.fort_laws.proofs.FrameClaims.{IsCalled, RunFrame, CallFrame}
use Rattle.fort_laws.proofs.FrameEnter.{SameOrNot, same, other, same_or_not, own_env, entered, entered_placed, seen_late, seen_left}
use Rattle.fort_laws.proofs.FrameParts.{ArePositive, IsOpen, Framed, Late, framed_late, framed_writes, first_in, element_within, positive, still_shaped, still_placed, loops_set}
use Rattle.fort_laws.proofs.Kept.{AreIn, element_at, Comes, Keeps, does_stuck, keeps_give, keeps_step, keeps_then, keeps_before, keeps_perform}

-- the data name that is an array before a bracket
named_in : (ds : List DataName) (f : Name) (d : Dim) (dims : List Dim) → dims_of_data (data_name_in ds f) ≡ d ∷ dims → (e : DataName) × IsAmong e ds × (e.name ≡ f) × (e.dims ≡ d ∷ dims)
named_in [] f d dims h = absurd (cc)
named_in (e ∷ ds) f d dims h = by_name (same_or_not e.name f) (named_in ds f d dims)
  where
    by_name : SameOrNot e.name f → (dims_of_data (data_name_in ds f) ≡ d ∷ dims → (g : DataName) × IsAmong g ds × (g.name ≡ f) × (g.dims ≡ d ∷ dims)) → (g : DataName) × IsAmong g (e ∷ ds) × (g.name ≡ f) × (g.dims ≡ d ∷ dims)
    by_name (same q t) rec = (e, (0, refl), q, sym (ap (λ b. dims_of_data (cond b (Some e) (data_name_in ds f))) t) ∙ h)
    by_name (other q t) rec =
        let r = rec (sym (ap (λ b. dims_of_data (cond b (Some e) (data_name_in ds f))) t) ∙ h) in
        (r.0, (suc r.1.0, r.1.1), r.2, r.3)

abbrev dims_of_applied : Applied → List Dim
dims_of_applied (Element dims) = dims
dims_of_applied _ = []

element_name : (u : Routine) (f : Name) (dims : List Dim) → applied u f ≡ Element dims → (e : DataName) × IsAmong e u.names × (e.name ≡ f) × (e.dims ≡ dims)
element_name u f dims h = by_dims (dims_of u f) refl (intrinsic f) h
  where
    by_dims : (ds : List Dim) → dims_of u f ≡ ds → (i : Option Intrinsic) → applied_by ds i ≡ Element dims → (e : DataName) × IsAmong e u.names × (e.name ≡ f) × (e.dims ≡ dims)
    by_dims [] q None e = absurd (cc)
    by_dims [] q (Some i) e = absurd (cc)
    by_dims (d ∷ ds) q i e = let r = named_in u.names f d ds q in (r.0, r.1, r.2, r.3 ∙ ap dims_of_applied e)

module _ (May : ℕ → Type 0) (st0 : Storage) where
  comes_from : (st : Storage) (o : Outcome Cell) → Framed May st0 st → Changes May st o → Comes (Framed May st0) (Late May st0) (framed_late May st0) (λ _. Unit {0}) o
  comes_from st (Ended v after left) f h = ((h.0 ∙ f.0, λ k lt unlike. h.1 k (let l = f.0 in omega arith) unlike ∙ f.1 k lt unlike), tt)
  comes_from st (Erred kind card after) f h = (let l = f.0 in let m = h.0 in omega arith, λ k lt unlike. h.1 k (let l = f.0 in omega arith) unlike ∙ f.1 k lt unlike)
  comes_from st (Running after) f h = (let l = f.0 in let m = h.0 in omega arith, λ k lt unlike. h.1 k (let l = f.0 in omega arith) unlike ∙ f.1 k lt unlike)

module _ (units : List Routine) (sound : AreSound units) (p : Processor) (calls : (fuel : ℕ) → RunFrame units p fuel → CallFrame units p fuel) where
  abbrev pub FromFrame : ℕ → Type 0
  FromFrame fuel =
      (i : ℕ) (u : Routine) (env : Environment) (st0 : Storage) → slice_get units i ≡ Some u → IsPlaced units i u env st0 → (pc : ℕ)
      → Keeps (Framed (IsOpen units i u env) st0) (Late (IsOpen units i u env) st0) (framed_late (IsOpen units i u env) st0) (from_point p units fuel u env pc)

  -- ---- the run of a unit from a point on

  module _ (fuel : ℕ) (runs : RunFrame units p fuel) (i : ℕ) (u : Routine) (env : Environment) (st0 : Storage) (is : slice_get units i ≡ Some u) (placed : IsPlaced units i u env st0) where
    abbrev pub May : ℕ → Type 0
    May k = IsOpen units i u env k

    abbrev pub Kept : Storage → Type 0
    Kept st = Framed May st0 st

    abbrev pub After : Storage → Type 0
    After st = Late May st0 st

    abbrev pub after : (st : Storage) → Kept st → After st
    after st h = framed_late May st0 st h

    of_unit : IsSoundUnit units i u
    of_unit = sound.units_are i u is

    -- names that the unit sets
    record Sets (x : Name) : Type 0 where
      has : HasName u x
      smashed : Smashes units i x

    sets_free : (x : Name) → Sets x → May (env x).first
    sets_free x s = record {
      its = s.has.its;
      among = s.has.among;
      smashed = subst (λ (z : Name). Smashes units i z) (sym s.has.name) s.smashed;
      cell = subst (λ (z : Name). IsIn (env z).first (env s.has.its.name)) s.has.name (first_in units i u of_unit env st0 placed s.has.its s.has.among);
    }

    line_sets : (line : Line) → IsAmong line u.lines → (x : Name) → IsAmong x (set_by line.stmt) → Sets x
    line_sets line m x s = record { has = of_unit.sets line x m s; smashed = sets u line is m s }

    pub parts_lie : (f : Name) (dims : List Dim) → applied u f ≡ Element dims → (st : Storage) → Kept st → (ss : List ℤ) → AreIn ss (dim_values env st dims)
        → IsPart u env f (element_at (env f) ss (dim_values env st dims))
    parts_lie f dims e st k ss within =
        let n = element_name u f dims e in
        let shape : HasShape env st n.0 = still_shaped units i u of_unit env st0 placed st k n.0 n.1 in
        let size : pos (env f).size ≡ stretch (dim_values env st dims) =
        subst (λ (z : Name). pos (env z).size ≡ stretch (dim_values env st dims)) n.2 (subst (λ (ds : List Dim). pos (env n.0.name).size ≡ stretch (dim_values env st ds)) n.3 shape.size) in
        let good = subst (λ (ds : List Dim). ArePositive (dim_values env st ds)) n.3 (positive units i u of_unit env st (still_placed units i u of_unit env st0 placed st k) n.0 n.1) in
        let w = element_within (env f) ss (dim_values env st dims) size within good in
        record { its = n.0; among = n.1; name = n.2; low = w.0; high = w.1; one = refl }

    parts_free : (f : Name) (e : Extent) → Sets f → IsPart u env f e → May e.first
    parts_free f e s part = record {
      its = part.its;
      among = part.among;
      smashed = subst (λ (z : Name). Smashes units i z) (sym part.name) s.smashed;
      cell = subst (λ (z : Name). IsIn e.first (env z)) (sym part.name) (part.low, let h = part.high in let one = part.one in omega arith);
    }

    calls_keep : (site : CallSite) → IsCalled u site → (k : ℕ) (xs : List Taken) → AreTakenAs env (IsPart u env) site.actuals xs
        → Keeps Kept After after (call (run_within p units fuel) env (unit_at units (callee_of units site))
        (passed (p.copies u.name k) 1 xs))
    calls_keep site called k xs fit = record {
      from = λ st n h. comes_from May st0 st _ h (calls fuel runs i u env st is (still_placed units i u of_unit env st0 placed st h) site called (p.copies u.name k) xs fit n);
    }

    pub keeps_line : (line : Line) (pc : ℕ) → IsAmong line u.lines
        → Keeps Kept After after (perform (record { processor = p; units = units; unit = u; environment = env }) (run_within p units fuel) line.card pc (calls_before u pc) line.stmt)
    keeps_line line pc m =
        keeps_perform Kept After after (record { processor = p; units = units; unit = u; environment = env }) (run_within p units fuel) (IsPart u env) parts_lie (IsCalled u) calls_keep
        May (λ st j c may h. framed_writes May st0 st j c may h) Sets sets_free parts_free
        (λ q d among. let s = loops_set u q d among in line_sets s.line s.among d.variable s.set)
        line.card pc (calls_before u pc) line.stmt
        (λ site among. record { line = line; is_line = m; is_site = among }) (line_sets line m)

    keeps_go_to : (q : Option ℕ) (next : ℕ → Act (Unit {0})) → ((pc : ℕ) → Keeps Kept After after (next pc)) → Keeps Kept After after (go_to q next)
    keeps_go_to None next h = does_stuck Kept After after (λ _. Unit {0})
    keeps_go_to (Some q) next h = h q

    keeps_at_line : (o : Option Line) (act : Line → Act (Unit {0})) → ((line : Line) → o ≡ Some line → Keeps Kept After after (act line)) → Keeps Kept After after (at_line o act)
    keeps_at_line None act h = keeps_give Kept After after tt
    keeps_at_line (Some line) act h = h line refl

    keeps_point : ((pc : ℕ) → Keeps Kept After after (from_point p units fuel u env pc)) → (pc : ℕ) → Keeps Kept After after (from_point p units (suc fuel) u env pc)
    keeps_point more pc =
        keeps_at_line (slice_get u.lines pc) _ (λ line e.
        keeps_before Kept After after _ _ (keeps_step Kept After after)
        (keeps_then Kept After after _ _ (keeps_line line pc (pc, e)) (λ choices. keeps_go_to _ _ more)))

  -- ---- the run of a unit

  module _ (fuel : ℕ) (points : FromFrame fuel) (i : ℕ) (u : Routine) (env : Environment) (st : Storage) (is : slice_get units i ≡ Some u)
      (apart : IsApart units i u env) (shapes : (d : DataName) → IsVisible u d → HasShape env st d) where
    left_by : (o : Outcome (Unit {0}))
        → Comes (Framed (IsOpen units i u (own_env units i u (sound.units_are i u is) env st apart shapes)) (entered units i u (sound.units_are i u is) env st apart shapes))
        (Late (IsOpen units i u (own_env units i u (sound.units_are i u is) env st apart shapes)) (entered units i u (sound.units_are i u is) env st apart shapes))
        (framed_late (IsOpen units i u (own_env units i u (sound.units_are i u is) env st apart shapes)) (entered units i u (sound.units_are i u is) env st apart shapes)) (λ _. Unit {0}) o
        → Changes (IsSmashedCell units i u env) st (and_then o (λ _. leave u (own_env units i u (sound.units_are i u is) env st apart shapes) (length st)))
    left_by (Ended a last n) h = seen_left units i u (sound.units_are i u is) env st apart shapes last h.0
    left_by (Erred kind card last) h = seen_late units i u (sound.units_are i u is) env st apart shapes last h
    left_by (Running last) h = seen_late units i u (sound.units_are i u is) env st apart shapes last h

    run_changes : (n : ℕ) → Changes (IsSmashedCell units i u env) st (run_within p units (suc fuel) u env st n)
    run_changes zero = (omega arith, λ k lt unlike. refl)
    run_changes (suc n) =
        left_by (from_point p units fuel u (own_env units i u (sound.units_are i u is) env st apart shapes) 0 (entered units i u (sound.units_are i u is) env st apart shapes) n)
        ((points i u _ _ is (entered_placed units i u (sound.units_are i u is) env st apart shapes) 0).from _ n (refl, λ k lt unlike. refl))

  pub frames : (fuel : ℕ) → RunFrame units p fuel × FromFrame fuel
  frames zero = (λ i u env st n is apart shapes. (omega arith, λ k lt unlike. refl), λ i u env st0 is placed pc. does_stuck _ _ _ (λ _. Unit {0}))
  frames (suc fuel) =
      let rec = frames fuel in (
        λ i u env st n is apart shapes. run_changes fuel rec.1 i u env st is apart shapes n,
        λ i u env st0 is placed pc. keeps_point fuel rec.0 i u env st0 is placed (rec.1 i u env st0 is placed) pc,
      )

  pub run_frame : (i : ℕ) (u : Routine) (env : Environment) (st : Storage) (n : ℕ) → slice_get units i ≡ Some u → IsApart units i u env → ((d : DataName) → IsVisible u d → HasShape env st d)
      → Changes (IsSmashedCell units i u env) st (run p units u env st n)
  run_frame i u env st n is apart shapes = (frames (suc n)).0 i u env st n is apart shapes
