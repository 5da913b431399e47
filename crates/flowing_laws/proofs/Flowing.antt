-- A well-formed unit whose DOs end as they may has a flow.
use Rattle.std.proofs.Common.{◌≡◌, ℕ, zero, suc, ◌+◌, Bool, true, false, cond, ◌&&◌, List, [], ◌∷◌, length, Option, Some, None, slice_get, nat_lt, refl, subst, arith}
use Rattle.std.specs.List.{list_all}
use Rattle.fort_syntax.specs.Grammar.{is_carried}
use Rattle.fort_syntax.specs.TreePatterns.{carried}
use Rattle.fort_syntax.specs.WellFormed.{is_right_statement, has_right_form}
use Rattle.fort_syntax.specs.declared.dialect.Dialect.{Dialect}
use Rattle.fort_syntax.specs.declared.stmt.Stmt.{Stmt}
use Rattle.fort_syntax.specs.declared.stmt.Stmt.TheVariants.{Subroutine, Function, Declare, Dimension, Common, Assign, GoTo, Computed, ArithIf, LogicalIf', Do, Continue, Call, Return, End, BlockIf, ElseIf, Else, EndIf}
use Rattle.fort_syntax.specs.declared.unit.Line.{Line}
use Rattle.fort_syntax.specs.declared.unit.Unit.{Unit as Routine}
use Rattle.fort_model.specs.Flow.{target}
use Rattle.fort_model.specs.Ranges.{last_of_do, ends_badly, has_bad_last}
use Rattle.fort_model.specs.Rules.{cards_of_lines}
use Rattle.flow_tests.specs.Tests.{is_flowing}
use Rattle.flowing_laws.specs.Laws.{UnitsFlow}

none_some : {X : Type 0} (a : X) → ◌≡◌ {A = Option X} None (Some a) → ⊥
none_some a e = cc

some_is : {X : Type 0} (a b : X) → ◌≡◌ {A = Option X} (Some a) (Some b) → a ≡ b
some_is a b e = cc

no_cons : {X : Type 0} (x : X) (xs : List X) → x ∷ xs ≡ [] → ⊥
no_cons x xs e = cc

both : (a b : Bool) → (a && b) ≡ true → (a ≡ true) × (b ≡ true)
both true b h = (refl, h)
both false b h = (cc, cc)

passes : {X : Type 0} (f : X → Bool) (xs : List X) (k : ℕ) (x : X) → list_all f xs ≡ true → slice_get xs k ≡ Some x → f x ≡ true
passes f [] k x all e = absurd (none_some x e)
passes f (y ∷ ys) zero x all e = subst (λ z. f z ≡ true) (some_is y x e) (both (f y) (list_all f ys) all).0
passes f (y ∷ ys) (suc k) x all e = passes f ys k x (both (f y) (list_all f ys) all).1 e

plus_none : (n : ℕ) → n ≡ n + 0
plus_none n = omega arith

plus_one : (n k : ℕ) → suc n + k ≡ n + suc k
plus_one n k = omega arith

none_plus : (n : ℕ) → 0 + n ≡ n
none_plus n = omega arith

-- where no statement passes a test, none does at its point
fails : (test : ℕ → Stmt → Bool) (pc : ℕ) (lines : List Line) (k : ℕ) (line : Line) → cards_of_lines test pc lines ≡ [] → slice_get lines k ≡ Some line
    → test (pc + k) line.stmt ≡ false
fails test pc [] k line none e = absurd (none_some line e)
fails test pc (first ∷ lines) k line none e = by (λ j. fails test (suc pc) lines j line) (test pc first.stmt) refl none k e
  where
    by : ((j : ℕ) → cards_of_lines test (suc pc) lines ≡ [] → slice_get lines j ≡ Some line → test (suc pc + j) line.stmt ≡ false)
        → (b : Bool) → test pc first.stmt ≡ b → cond b (first.card ∷ cards_of_lines test (suc pc) lines) (cards_of_lines test (suc pc) lines) ≡ []
        → (k : ℕ) → slice_get (first ∷ lines) k ≡ Some line → test (pc + k) line.stmt ≡ false
    by rest true t none k e = absurd (no_cons first.card (cards_of_lines test (suc pc) lines) none)
    by rest false t none zero e =
        subst (λ n. test n line.stmt ≡ false) (plus_none pc) (subst (λ (l : Line). test pc l.stmt ≡ false) (some_is first line e) t)
    by rest false t none (suc k) e = subst (λ n. test n line.stmt ≡ false) (plus_one pc k) (rest k none e)

-- the last statement of a DO that ends as it may stands in the unit
last_stands : (u : Routine) (pc label : ℕ) → ends_badly u (last_of_do u pc label) ≡ false → nat_lt (target u.lines label) (length u.lines) ≡ true
last_stands u pc label h = by (nat_lt pc (target u.lines label) && nat_lt (target u.lines label) (length u.lines)) refl h
  where
    by : (b : Bool) → (nat_lt pc (target u.lines label) && nat_lt (target u.lines label) (length u.lines)) ≡ b
        → ends_badly u (cond b (Some (target u.lines label)) None) ≡ false → nat_lt (target u.lines label) (length u.lines) ≡ true
    by true e h = (both (nat_lt pc (target u.lines label)) (nat_lt (target u.lines label) (length u.lines)) e).1
    by false e h = absurd (cc)

flows : (u : Routine) (pc : ℕ) (s : Stmt) → has_bad_last u pc s ≡ false → has_right_form s ≡ true → is_flowing u s ≡ true
flows u pc (Subroutine f dummies) last form = refl
flows u pc (Function sort f dummies) last form = refl
flows u pc (Declare sort items) last form = refl
flows u pc (Dimension items) last form = refl
flows u pc (Common groups) last form = refl
flows u pc (Assign left right) last form = refl
flows u pc (GoTo label) last form = refl
flows u pc (Computed labels x) last form = refl
flows u pc (ArithIf e l m n) last form = refl
flows u pc (LogicalIf' e shape (carried s)) last form = (both (is_carried s) (has_right_form s) form).0
flows u pc (Do label x first last step) ends form = last_stands u pc label ends
flows u pc Continue last form = refl
flows u pc (Call f args) last form = refl
flows u pc Return last form = refl
flows u pc End last form = refl
flows u pc (BlockIf e) last form = refl
flows u pc (ElseIf e) last form = refl
flows u pc Else last form = refl
flows u pc EndIf last form = refl

-- a right statement is right in form
right_form : (dialect : Dialect) (u : Routine) (s : Stmt) → is_right_statement dialect u s ≡ true → has_right_form s ≡ true
right_form dialect u s h = (both _ _ (both _ _ (both _ _ (both _ _ (both _ _ h).0).0).0).0).1

pub unit_flows : UnitsFlow
unit_flows dialect u well ends few = record {
  each = λ pc line e.
      flows u pc line.stmt
      (subst (λ n. has_bad_last u n line.stmt ≡ false) (none_plus pc) (fails (has_bad_last u) 0 u.lines pc line ends e))
      (right_form dialect u line.stmt (passes (λ (l : Line). is_right_statement dialect u l.stmt) u.lines pc line well.statements e));
  few = few;
}
