-- Where no cycle is uncut, each way comes to a cut point.
use Rattle.std.proofs.Common.{◌≡◌, ◌≢◌, ℕ, zero, suc, ◌+◌, ◌<◌, ◌≤◌, Bool, true, false, ◌||◌, List, [], ◌∷◌, length, Option, Some, None, slice_get, eqb, refl, sym, ap, ◌∙◌, subst, arith}
use Rattle.std.specs.List.{IsDistinct, list_any, AllByRecursion}
use Rattle.std.proofs.lemmas.Map.Steps.{length-le_from_distinct_below}
use Rattle.std.proofs.lemmas.Option.{slice_get_within}
use Rattle.fort_syntax.specs.TreePatterns.{carried}
use Rattle.fort_syntax.specs.declared.dialect.Dialect.{Dialect}
use Rattle.fort_syntax.specs.declared.dialect.Dialect.TheVariants.{Common, SeventySeven}
use Rattle.fort_syntax.specs.declared.stmt.Stmt.{Stmt}
use Rattle.fort_syntax.specs.declared.stmt.Stmt.TheVariants.{Subroutine, Function, Declare, Dimension, Common as CommonBlock, Assign, GoTo, Computed, ArithIf, LogicalIf', Do, Continue, Call, Return, End, BlockIf, ElseIf, Else, EndIf}
use Rattle.fort_syntax.specs.declared.unit.Line.{Line}
use Rattle.fort_syntax.specs.declared.unit.Unit.{Unit as Routine}
use Rattle.fort_model.specs.Flow.{leads, target, through, behind, Loop, loops_at, next_point}
use Rattle.fort_model.specs.Paths.{Cut, NoCut, AtEnd, AtAssert, cut_in, cut_at, Edge, Uncut, one, more, over_or, goes_on, goes_from, IsWay}
use Rattle.fort_notes.specs.Assertions.{Notes}
use Rattle.fort_model.specs.Program.{assertion_at}
use Rattle.fort_laws.specs.Ways.{AreExecutable, IsCutUp, LeadsOn, StatementsLeadOn, Completed, WaysCanBeCompleted}

-- a truth value, with what is known of it
pub known : (b : Bool) {C : Type 0} → (b ≡ true → C) → (b ≡ false → C) → C
known true f g = f refl
known false f g = g refl

-- ---- statements lead on

-- all DOs are left
pub record Through (q : ℕ) (ds : List Loop) : Type 0 where
  pub choices : List ℕ
  pub to : through q ds choices ≡ Some q

abbrev no_choices : List ℕ
no_choices = []

pub through_all : (q : ℕ) (ds : List Loop) → Through q ds
through_all q [] = record { choices = no_choices; to = refl }
through_all q (d ∷ ds) = let t = through_all q ds in record { choices = suc (suc zero) ∷ t.choices; to = t.to }

module _ (dialect : Dialect) (u : Routine) (pc : ℕ) where
  goes_behind : (s : Stmt) → ((cs : List ℕ) → leads dialect u pc s cs ≡ behind u pc cs) → LeadsOn dialect u pc s
  goes_behind s e = let t = through_all (next_point u pc) (loops_at u pc) in record { choices = t.choices; point = next_point u pc; to = e t.choices ∙ t.to }

pub statements_lead_on : StatementsLeadOn
statements_lead_on dialect u pc (Assign left right) h = goes_behind dialect u pc (Assign left right) (λ cs. refl)
statements_lead_on dialect u pc (GoTo label) h = record { choices = no_choices; point = target u.lines label; to = refl }
statements_lead_on dialect u pc (Computed [] x) h = absurd h
statements_lead_on Common u pc (Computed (label ∷ labels) x) h = record { choices = suc zero ∷ no_choices; point = target u.lines label; to = refl }
statements_lead_on SeventySeven u pc (Computed (label ∷ labels) x) h = record { choices = suc zero ∷ no_choices; point = target u.lines label; to = search arith }
statements_lead_on dialect u pc (ArithIf e l m n) h = record { choices = suc zero ∷ no_choices; point = target u.lines l; to = refl }
statements_lead_on dialect u pc (LogicalIf' e q (carried s)) h =
    let t = through_all (next_point u pc) (loops_at u pc) in record { choices = suc (suc zero) ∷ t.choices; point = next_point u pc; to = t.to }
statements_lead_on Common u pc (Do label x first last step) h = record { choices = no_choices; point = suc pc; to = refl }
statements_lead_on SeventySeven u pc (Do label x first last step) h = record { choices = suc zero ∷ no_choices; point = suc pc; to = refl }
statements_lead_on dialect u pc Continue h = goes_behind dialect u pc Continue (λ cs. refl)
statements_lead_on dialect u pc (Call f args) h = goes_behind dialect u pc (Call f args) (λ cs. refl)
statements_lead_on dialect u pc Return h = record { choices = no_choices; point = length u.lines; to = refl }
statements_lead_on dialect u pc (BlockIf e) h = record { choices = suc zero ∷ no_choices; point = next_point u pc; to = refl }
statements_lead_on dialect u pc (ElseIf e) h = record { choices = suc zero ∷ no_choices; point = next_point u pc; to = refl }
statements_lead_on dialect u pc Else h = goes_behind dialect u pc Else (λ cs. refl)
statements_lead_on dialect u pc EndIf h = goes_behind dialect u pc EndIf (λ cs. refl)
statements_lead_on dialect u pc (Subroutine x xs) h = absurd h
statements_lead_on dialect u pc (Function o x xs) h = absurd h
statements_lead_on dialect u pc (Declare o items) h = absurd h
statements_lead_on dialect u pc (Dimension items) h = absurd h
statements_lead_on dialect u pc (CommonBlock groups) h = absurd h
statements_lead_on dialect u pc End h = absurd h

-- ---- near a cut point

module _ (dialect : Dialect) (u : Routine) (notes : Notes) where
  -- each way from the point comes to a cut point
  pub data Near : ℕ → Type 0 where
    near : {p : ℕ} → ((cs : List ℕ) (q : ℕ) → Edge dialect u p cs q → cut_at u notes q ≡ NoCut → Near q) → Near p

  -- what stands where no cut is
  pub line_from : (q : ℕ) → cut_at u notes q ≡ NoCut → (line : Line) × (slice_get u.lines q ≡ Some line)
  line_from q h = go (slice_get u.lines q) refl h
    where
      go : (o : Option Line) → slice_get u.lines q ≡ o → cut_in o (assertion_at notes q) ≡ NoCut → (line : Line) × (slice_get u.lines q ≡ Some line)
      go None e c = absurd (grind arith)
      go (Some line) e c = (line, e)

  record Visited (seen : List ℕ) (pc : ℕ) : Type 0 where
    distinct : IsDistinct eqb seen
    below : (x : ℕ) → list_any (eqb x) seen ≡ true → x < length u.lines
    free : (x : ℕ) → list_any (eqb x) seen ≡ true → Uncut dialect u notes x pc

pub apart_all : (pc : ℕ) (seen : List ℕ) → ((x : ℕ) → list_any (eqb x) seen ≡ true → x ≢ pc) → AllByRecursion (λ y. eqb pc y ≡ false) seen
apart_all pc [] h = tt
apart_all pc (y ∷ seen) h =
    (known (eqb pc y) (λ e. absurd (h y (ap (λ b. b || list_any (eqb y) seen) (same y)) (sym (equal pc y e)))) (λ e. e), apart_all pc seen (λ x m. h x (later x y (list_any (eqb x) seen) m)))
  where
    same : (k : ℕ) → eqb k k ≡ true
    same k = grind arith

    equal : (k m : ℕ) → eqb k m ≡ true → k ≡ m
    equal k m e = grind arith

    later : (x k : ℕ) (b : Bool) → b ≡ true → (eqb x k || b) ≡ true
    later x k b e = known (eqb x k) (λ f. ap (λ c. c || b) f) (λ f. ap (λ c. c || b) f ∙ e)

pub split_any : (x y : ℕ) (seen : List ℕ) {C : Type 0} → (eqb x y || list_any (eqb x) seen) ≡ true → (x ≡ y → C) → (list_any (eqb x) seen ≡ true → C) → C
split_any x y seen h f g = known (eqb x y) (λ e. f (equal x y e)) (λ e. g (ap (λ b. b || list_any (eqb x) seen) (sym e) ∙ h))
  where
    equal : (k m : ℕ) → eqb k m ≡ true → k ≡ m
    equal k m e = grind arith

extended : (dialect : Dialect) (u : Routine) (notes : Notes) → IsCutUp dialect u notes → (seen : List ℕ) (pc : ℕ) → cut_at u notes pc ≡ NoCut → Visited dialect u notes seen pc
    → IsDistinct eqb (pc ∷ seen) × ((x : ℕ) → list_any (eqb x) (pc ∷ seen) ≡ true → x < length u.lines)
unfolding IsDistinct
extended dialect u notes cut seen pc nc v = (
  (apart_all pc seen (λ x m e. cut x (subst (Uncut dialect u notes x) (sym e) (v.free x m))), v.distinct),
  λ x m. split_any x pc seen m (λ e. subst (λ y. y < length u.lines) (sym e) (let l = line_from dialect u notes pc nc in slice_get_within u.lines pc l.0 l.1)) (λ h. v.below x h),
)

onto : (dialect : Dialect) (u : Routine) (notes : Notes) {y pc : ℕ} → Uncut dialect u notes y pc → {q : ℕ} (cs : List ℕ) → cut_at u notes pc ≡ NoCut → Edge dialect u pc cs q → Uncut dialect u notes y q
onto dialect u notes (one cs c e) ds nc f = more cs c e (one ds nc f)
onto dialect u notes (more cs c e r) ds nc f = more cs c e (onto dialect u notes r ds nc f)

near_from : (dialect : Dialect) (u : Routine) (notes : Notes) → IsCutUp dialect u notes → (k : ℕ) (seen : List ℕ) (pc : ℕ) → cut_at u notes pc ≡ NoCut → Visited dialect u notes seen pc
    → length u.lines ≤ k + length seen → Near dialect u notes pc
near_from dialect u notes cut zero seen pc nc v le =
    let x = extended dialect u notes cut seen pc nc v in
    let l = length-le_from_distinct_below (pc ∷ seen) (length u.lines) x.0 x.1 in
    absurd (omega arith)
near_from dialect u notes cut (suc k) seen pc nc v le =
    let x = extended dialect u notes cut seen pc nc v in
    near (λ cs q e c. near_from dialect u notes cut k (pc ∷ seen) q c
    (record {
      distinct = x.0;
      below = x.1;
      free = λ y m. split_any y pc seen m (λ f. subst (λ z. Uncut dialect u notes z q) (sym f) (one cs nc e)) (λ h. onto dialect u notes (v.free y h) cs nc e);
    }) (omega arith))

none_seen : (dialect : Dialect) (u : Routine) (notes : Notes) (q : ℕ) → Visited dialect u notes [] q
unfolding IsDistinct
none_seen dialect u notes q = record { distinct = tt; below = λ x m. absurd (grind arith); free = λ x m. absurd (grind arith) }

pub near_all : (dialect : Dialect) (u : Routine) (notes : Notes) → IsCutUp dialect u notes → (pc : ℕ) → Near dialect u notes pc
near_all dialect u notes cut pc = near (λ cs q e c. near_from dialect u notes cut (length u.lines) [] q c (none_seen dialect u notes q) (omega arith))

-- ---- ways

module _ (dialect : Dialect) (u : Routine) (notes : Notes) where
  pub way_on : (pc : ℕ) (line : Line) (cs : List ℕ) (q : ℕ) (way : List (List ℕ)) → slice_get u.lines pc ≡ Some line → leads dialect u pc line.stmt cs ≡ Some q
      → over_or dialect u notes (cut_at u notes q) way (IsWay dialect u notes q way) → IsWay dialect u notes pc (cs ∷ way)
  way_on pc line cs q way e f t =
      subst (λ o. goes_from dialect u notes o pc cs way (λ q. IsWay dialect u notes q way)) (sym e)
      (subst (λ o. goes_on dialect u notes o way (λ q. IsWay dialect u notes q way)) (sym f) t)

abbrev over : List (List ℕ)
over = []

pub complete : (dialect : Dialect) (u : Routine) (notes : Notes) → AreExecutable u → (pc : ℕ) → Near dialect u notes pc → (line : Line) (cs : List ℕ) (q : ℕ)
    → slice_get u.lines pc ≡ Some line → leads dialect u pc line.stmt cs ≡ Some q → Completed dialect u notes pc cs
complete dialect u notes all pc (near h) line cs q e f =
    go (cut_at u notes q) refl (λ c.
    let l = line_from dialect u notes q c in
    let first = statements_lead_on dialect u q l.0.stmt (all q l.0 l.1) in
    let r = complete dialect u notes all q (h cs q (record { line = line; at = e; to = f }) c) l.0 first.choices first.point l.1 first.to in
    (first.choices ∷ r.way, r.is))
  where
    go : (c : Cut) → cut_at u notes q ≡ c → (cut_at u notes q ≡ NoCut → (way : List (List ℕ)) × IsWay dialect u notes q way) → Completed dialect u notes pc cs
    go NoCut c on = let r = on c in record { way = r.0; is = way_on dialect u notes pc line cs q r.0 e f (subst (λ k. over_or dialect u notes k r.0 (IsWay dialect u notes q r.0)) (sym c) r.1) }
    go AtEnd c on = record { way = over; is = way_on dialect u notes pc line cs q over e f (subst (λ k. over_or dialect u notes k over (IsWay dialect u notes q over)) (sym c) refl) }
    go (AtAssert a) c on = record { way = over; is = way_on dialect u notes pc line cs q over e f (subst (λ k. over_or dialect u notes k over (IsWay dialect u notes q over)) (sym c) refl) }

pub ways_can_be_completed : WaysCanBeCompleted
ways_can_be_completed dialect u notes cut all pc line cs q e f = complete dialect u notes all pc (near_all dialect u notes cut pc) line cs q e f
