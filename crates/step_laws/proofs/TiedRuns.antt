-- Runs with different fuels, and with more and fewer steps.
use Rattle.std.proofs.Common.{◌≡◌, ℕ, zero, suc, ◌+◌, ◌-◌, ◌<◌, ◌≤◌, ◌⊎◌, inl, inr, List, length, Option, Some, None, slice_get, sym, ap, ◌∙◌, subst, arith}
use Rattle.formula.specs.declared.value.Cell.{Cell}
use Rattle.fort_syntax.specs.declared.condition.Kind.{Kind}
use Rattle.fort_syntax.specs.declared.unit.Line.{Line}
use Rattle.fort_syntax.specs.declared.unit.Unit.{Unit as Routine}
use Rattle.fort_model.specs.Outcome.{Outcome, Ended, Erred, Running, Act, held}
use Rattle.fort_model.specs.Processor.{Processor}
use Rattle.fort_model.specs.Run.{run, run_within, from_point, leave, go_to, at_line}
use Rattle.fort_model.specs.Storage.{Storage, Environment}
use Rattle.step_laws.specs.Steps.{IsRunning, FuelDoesNotMatter, MoreStepsChangeNothing, FewerStepsAreNotEnough}
use Rattle.step_laws.proofs.Tied.{Behaves, ends, errs, runs, Tied, tied_then, tied_before, tied_give, tied_stuck, tied_held, tied_put, tied_after_step, tied_step_then, at_most_or}
use Rattle.step_laws.proofs.TiedParts.{tied_perform}

-- ---- outcomes

abbrev pub IsEnded : {A : Type 0} → Outcome A → Type 0
IsEnded (Ended a st n) = Unit {0}
IsEnded (Erred kind card st) = ⊥
IsEnded (Running st) = ⊥

abbrev pub left_of : {A : Type 0} → ℕ → Outcome A → ℕ
left_of d (Ended a st n) = n
left_of d (Erred kind card st) = d
left_of d (Running st) = d

abbrev pub with_left : {A : Type 0} → Outcome A → ℕ → Outcome A
with_left (Ended a st n) k = Ended a st k
with_left (Erred kind card st) k = Erred kind card st
with_left (Running st) k = Running st

-- ---- runs

pub tied_go_to : (bound : ℕ) (q : Option ℕ) (f g : ℕ → Act (Unit {0})) → ((pc : ℕ) → Tied bound (f pc) (g pc)) → Tied bound (go_to q f) (go_to q g)
tied_go_to bound None f g h = tied_stuck bound
tied_go_to bound (Some q) f g h = h q

pub tied_at_line : (bound : ℕ) (o : Option Line) (f g : Line → Act (Unit {0})) → ((line : Line) → Tied bound (f line) (g line)) → Tied bound (at_line o f) (at_line o g)
tied_at_line bound None f g h = tied_give bound tt
tied_at_line bound (Some line) f g h = h line

pub tied_leave : (bound : ℕ) (u : Routine) (env : Environment) (before : ℕ) → Tied bound (leave u env before) (leave u env before)
tied_leave bound u env before = tied_then bound held held _ _ (tied_held bound) (λ st. tied_before bound _ _ _ _ (tied_put bound _) (tied_give bound _))

-- nothing is below 0
tied_nothing : {A : Type 0} (a b : Act A) → Tied 0 a b
tied_nothing a b st n lt = absurd (omega arith)

module _ (p : Processor) (units : List Routine) where
  mutual
    pub tied_run : (bound fuel : ℕ) → bound ≤ fuel → (u : Routine) (env : Environment) → Tied bound (run_within p units bound u env) (run_within p units fuel u env)
    tied_run zero fuel le u env = tied_nothing _ _
    tied_run (suc bound) zero le u env = absurd (omega arith)
    tied_run (suc bound) (suc fuel) le u env =
        tied_then (suc bound) held held _ _ (tied_held (suc bound)) λ before.
        tied_step_then bound _ _ _
        (tied_then bound _ _ _ _ (tied_then bound held held _ _ (tied_held bound) (λ st. tied_before bound _ _ _ _ (tied_put bound _) (tied_give bound _))) λ own.
        tied_before bound _ _ _ _ (tied_from bound fuel (omega arith) u own 0) (tied_leave bound u own (length before)))

    pub tied_from : (bound fuel : ℕ) → bound ≤ fuel → (u : Routine) (env : Environment) (pc : ℕ) → Tied bound (from_point p units bound u env pc) (from_point p units fuel u env pc)
    tied_from zero fuel le u env pc = tied_nothing _ _
    tied_from (suc bound) zero le u env pc = absurd (omega arith)
    tied_from (suc bound) (suc fuel) le u env pc =
        tied_at_line (suc bound) (slice_get u.lines pc) _ _ λ line.
        tied_after_step bound _ _
        (tied_then bound _ _ _ _ (tied_perform bound _ _ (tied_run bound fuel (omega arith)) _ line.card pc _ line.stmt) λ choices.
        tied_go_to bound _ _ _ (tied_from bound fuel (omega arith) u env))

  -- the run with a fuel, and what it comes to for all smaller stocks
  module _ (u : Routine) (env : Environment) (st : Storage) where
    fuel_same : (n fuel other : ℕ) → n < fuel → fuel ≤ other → run_within p units fuel u env st n ≡ run_within p units other u env st n
    fuel_same n fuel other lt le = (tied_run fuel other le u env st n lt).1

    fuel_any : (n fuel other : ℕ) → n < fuel → n < other → (fuel < other) ⊎ (other ≤ fuel) → run_within p units fuel u env st n ≡ run_within p units other u env st n
    fuel_any n fuel other lf lo (inl h) = fuel_same n fuel other lf (omega arith)
    fuel_any n fuel other lf lo (inr h) = sym (fuel_same n other fuel lo h)

    pub fuels : (n fuel other : ℕ) → n < fuel → n < other → run_within p units fuel u env st n ≡ run_within p units other u env st n
    fuels n fuel other lf lo = fuel_any n fuel other lf lo (at_most_or fuel other)

    -- the run of a stock, with a greater fuel
    at_fuel : (n bound : ℕ) → n < bound → run p units u env st n ≡ run_within p units bound u env st n
    at_fuel n bound lt = fuels n (suc n) bound (omega arith) lt

    -- what a stock comes to tells what a greater one does
    ended_more : (n more bound : ℕ) → more + n < bound → (v : Cell) (after : Storage) (left : ℕ) → Behaves bound (run_within p units bound u env st) n
        → run_within p units bound u env st n ≡ Ended v after left → run_within p units bound u env st (more + n) ≡ Ended v after (more + left)
    ended_more n more bound lt v after left (ends w last used le at before) e =
        let same : Ended w last (n - used) ≡ Ended v after left = sym (at n le (omega arith)) ∙ e in
        let rest : n - used ≡ left = ap (left_of 0) same in
        at (more + n) (omega arith) lt
        ∙ ap (λ (k : ℕ). Ended w last k) (let value : n - used ≡ left = rest in omega arith)
        ∙ ap (λ (o : Outcome Cell). with_left o (more + left)) same
    ended_more n more bound lt v after left (errs kind card last used le at before) e = absurd (subst IsEnded (sym (sym (at n le (omega arith)) ∙ e)) tt)
    ended_more n more bound lt v after left (runs all) e = absurd (subst IsRunning e (all n (omega arith)))

    erred_more : (n more bound : ℕ) → more + n < bound → (kind : Kind) (card : ℕ) (after : Storage) → Behaves bound (run_within p units bound u env st) n
        → run_within p units bound u env st n ≡ Erred kind card after → run_within p units bound u env st (more + n) ≡ Erred kind card after
    erred_more n more bound lt kind card after (ends w last used le at before) e = absurd (subst IsEnded (sym (at n le (omega arith)) ∙ e) tt)
    erred_more n more bound lt kind card after (errs kind2 card2 last used le at before) e =
        at (more + n) (omega arith) lt ∙ sym (at n le (omega arith)) ∙ e
    erred_more n more bound lt kind card after (runs all) e = absurd (subst IsRunning e (all n (omega arith)))

    fewer : (n bound : ℕ) → n < bound → (v : Cell) (after : Storage) (left : ℕ) → Behaves bound (run_within p units bound u env st) n
        → run_within p units bound u env st n ≡ Ended v after left
        → (left ≤ n) × ((m : ℕ) → m + left < n → IsRunning (run_within p units bound u env st m))
    fewer n bound lt v after left (ends w last used le at before) e =
        let rest : n - used ≡ left = ap (left_of 0) (sym (at n le lt) ∙ e) in
        (omega arith, λ m h. before m (omega arith))
    fewer n bound lt v after left (errs kind card last used le at before) e = absurd (subst IsEnded (sym (sym (at n le lt) ∙ e)) tt)
    fewer n bound lt v after left (runs all) e = absurd (subst IsRunning e (all n (omega arith)))

    behaves : (n bound : ℕ) → n < bound → Behaves bound (run_within p units bound u env st) n
    behaves n bound lt = (tied_run bound bound (omega arith) u env st n lt).0

    pub more_steps : (n more : ℕ)
        → ((v : Cell) (after : Storage) (left : ℕ) → run p units u env st n ≡ Ended v after left → run p units u env st (more + n) ≡ Ended v after (more + left))
        × ((kind : Kind) (card : ℕ) (after : Storage) → run p units u env st n ≡ Erred kind card after → run p units u env st (more + n) ≡ Erred kind card after)
    more_steps n more = (
      λ v after left e. ended_more n more (suc (more + n)) (omega arith) v after left (behaves n (suc (more + n)) (omega arith)) (sym (at_fuel n (suc (more + n)) (omega arith)) ∙ e),
      λ kind card after e. erred_more n more (suc (more + n)) (omega arith) kind card after (behaves n (suc (more + n)) (omega arith)) (sym (at_fuel n (suc (more + n)) (omega arith)) ∙ e),
    )

    pub fewer_steps : (n : ℕ) (v : Cell) (after : Storage) (left : ℕ) → run p units u env st n ≡ Ended v after left
        → (left ≤ n) × ((m : ℕ) → m + left < n → IsRunning (run p units u env st m))
    fewer_steps n v after left e =
        let f = fewer n (suc n) (omega arith) v after left (behaves n (suc n) (omega arith)) e in
        (f.0, λ m h. subst IsRunning (sym (at_fuel m (suc n) (omega arith))) (f.1 m h))

pub fuel_does_not_matter : FuelDoesNotMatter
fuel_does_not_matter p units u env st n fuel other lf lo = fuels p units u env st n fuel other lf lo

pub more_steps_change_nothing : MoreStepsChangeNothing
more_steps_change_nothing p units u env st n more = more_steps p units u env st n more

pub fewer_steps_are_not_enough : FewerStepsAreNotEnough
fewer_steps_are_not_enough p units u env st n v after left e = fewer_steps p units u env st n v after left e
