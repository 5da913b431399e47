-- Typed statements are good: what they write may be written, where smashed names lie apart.
use Rattle.std.proofs.Common.{◌≡◌, ℕ, suc, Bool, true, false, List, [], ◌∷◌, Some, slice_get, refl, sym, ◌∙◌, subst}
use Rattle.formula.specs.Atoms.{same_bytes}
use Rattle.fort_syntax.specs.Names.{is_function}
use Rattle.fort_syntax.specs.TreePatterns.{carried}
use Rattle.fort_syntax.specs.declared.name.Name.{Name}
use Rattle.fort_syntax.specs.declared.dialect.Sort.{Sort}
use Rattle.fort_syntax.specs.declared.expr.Expr.{Expr}
use Rattle.fort_syntax.specs.declared.expr.Expr.TheVariants.{Const, Truth, Var, Apply', Paren', Pos', Neg', Power', Bin', Rel', Not', And', Or'}
use Rattle.fort_syntax.specs.declared.stmt.Dim.{Dim}
use Rattle.fort_syntax.specs.declared.stmt.Dim.TheVariants.{Fixed, Named as Adjustable}
use Rattle.fort_syntax.specs.declared.stmt.Stmt.{Stmt}
use Rattle.fort_syntax.specs.declared.stmt.Stmt.TheVariants.{Subroutine, Function as FunctionHead, Declare, Dimension, Common as CommonBlock, Assign, GoTo, Computed, ArithIf, LogicalIf', Do, Continue, Call, Return, End, BlockIf, ElseIf, Else, EndIf}
use Rattle.fort_syntax.specs.declared.unit.DataName.{DataName}
use Rattle.fort_syntax.specs.declared.unit.Line.{Line}
use Rattle.fort_syntax.specs.declared.unit.Unit.{Unit as Routine}
use Rattle.fort_model.specs.Fits.{IsIn}
use Rattle.fort_model.specs.Flow.{target, Loop, loops_at, loops_around}
use Rattle.fort_model.specs.Lists.{IsAmong}
use Rattle.fort_model.specs.Smashes.{Smashes, sets, set_by, set_name}
use Rattle.fort_model.specs.Storage.{Environment}
use Rattle.fort_laws.specs.CallLaw.{LieApart}
use Rattle.fort_laws.specs.Frame.{HasName, IsSoundUnit}
use Rattle.fort_laws.specs.GoodStatements.{DimsAreOther, MayBeWritten, AreGoodLoops, IsLeft, HasLabels, HasResult, IsGood}
use Rattle.fort_laws.specs.TypedStatements.{AreTypedLoops, HasSomeLabel, HasOwnValue, IsTypedLeft, IsTypedStatement}
use Rattle.fort_laws.proofs.CallNames.{data_name_is}
use Rattle.fort_laws.proofs.FrameEnter.{SameOrNot, same, other, same_or_not}
use Rattle.fort_laws.proofs.FrameParts.{loops_set}
use Rattle.fort_laws.proofs.FrameSeats.{clash, same_is}
use Rattle.fort_laws.proofs.WalkKeeps.{in_around}

module _ (units : List Routine) (i : ℕ) (u : Routine) (sound : IsSoundUnit units i u) (is : slice_get units i ≡ Some u) (env : Environment) (apart : LieApart units i u env) where
  -- a name that the unit sets may be written
  may_be_written : (x : Name) → HasName u x → Smashes units i x → MayBeWritten u env x
  may_be_written x has s = record {
    apart = λ y d e n k a b.
        let m = data_name_is u.names y d e in
        apart has.its d has.among m.0 (subst (λ (z : Name). Smashes units i z) (sym has.name) s)
        (λ q. clash (same_bytes x y) (same_is x y (sym has.name ∙ (q ∙ m.1))) n) k
        (subst (λ (z : Name). IsIn k (env z)) (sym has.name) a) (subst (λ (z : Name). IsIn k (env z)) (sym m.1) b);
    no_dim = λ y d e. no_dims d (data_name_is u.names y d e).0 d.dims (λ z k. k);
  }
    where
      other_name : (z : Name) → (x ≡ z → ⊥) → same_bytes x z ≡ false
      other_name z n = pick (same_or_not x z)
        where
          pick : SameOrNot x z → same_bytes x z ≡ false
          pick (same q t) = absurd (n q)
          pick (other q t) = t

      no_dims : (d : DataName) → IsAmong d u.names → (ds : List Dim) → ((z : Name) → IsAmong (Adjustable z) ds → IsAmong (Adjustable z) d.dims) → DimsAreOther u env x ds
      no_dims d m [] among = tt
      no_dims d m (Fixed n ∷ ds) among = no_dims d m ds (λ z k. among z (suc k.0, k.1))
      no_dims d m (Adjustable z ∷ ds) among = (
        other_name z (λ q. (sound.adjustables d z m (among z (0, refl))).not_smashed (subst (λ (y : Name). Smashes units i y) q s)),
        no_dims d m ds (λ y k. among y (suc k.0, k.1)),
      )

  -- a name that a statement sets
  set_may : (line : Line) → IsAmong line u.lines → (x : Name) → IsAmong x (set_by line.stmt) → MayBeWritten u env x
  set_may line m x k = may_be_written x (sound.sets line x m k) (sets u line is m k)

  good_loops : (ds : List Loop) → ((d : Loop) → IsAmong d ds → MayBeWritten u env d.variable) → AreTypedLoops u ds → AreGoodLoops u env ds
  good_loops [] may h = tt
  good_loops (d ∷ ds) may h = (record { variable = h.0.variable; may = may d (0, refl); last = h.0.last; step = h.0.step }, good_loops ds (λ e k. may e (suc k.0, k.1)) h.1)

  loop_may : (pc : ℕ) (d : Loop) → IsAmong d (loops_at u pc) → MayBeWritten u env d.variable
  loop_may pc d m = let s = loops_set u pc d m in set_may s.line s.among d.variable s.set

  behind_good : (pc : ℕ) → AreTypedLoops u (loops_at u pc) → AreGoodLoops u env (loops_at u pc)
  behind_good pc h = good_loops (loops_at u pc) (loop_may pc) h

  module _ (IsReference : Sort → Name → List Expr → Type 0) (IsCall : Name → List Expr → Type 0) where
    good_left : (q : Sort) (left : Expr) → ((x : Name) → IsAmong x (set_name left) → MayBeWritten u env x) → IsTypedLeft u IsReference IsCall q left → IsLeft u env IsReference IsCall q left
    good_left q (Var x) may h = (h, may x (0, refl))
    good_left q (Apply' a x args) may h =
        record { dim = h.dim; dims = h.dims; applied_is = h.applied_is; dims_are = h.dims_are; array = h.array; may = may a (0, refl); many = h.many; integers = h.integers }
    good_left q (Const n) may h = absurd h
    good_left q (Truth b) may h = absurd h
    good_left q (Paren' x a) may h = absurd h
    good_left q (Pos' x a) may h = absurd h
    good_left q (Neg' x a) may h = absurd h
    good_left q (Power' x a n) may h = absurd h
    good_left q (Bin' o x a y b) may h = absurd h
    good_left q (Rel' o x a y b) may h = absurd h
    good_left q (Not' x a) may h = absurd h
    good_left q (And' x a y b) may h = absurd h
    good_left q (Or' x a y b) may h = absurd h

    good_labels : (ls : List ℕ) → HasSomeLabel ls → HasLabels u env IsReference IsCall ls
    good_labels [] h = absurd h
    good_labels (l ∷ ls) h = tt

    good_result : (b : Bool) → HasOwnValue u b → HasResult u env IsReference IsCall b
    good_result true h = h
    good_result false h = tt

    good_statement : (pc : ℕ) (stmt : Stmt) → ((x : Name) → IsAmong x (set_by stmt) → MayBeWritten u env x) → IsTypedStatement u IsReference IsCall pc stmt → IsGood u env IsReference IsCall pc stmt
    good_statement pc (Assign left right) may h = (h.0, good_left h.0 left may h.1, h.2, behind_good pc h.3)
    good_statement pc (GoTo l) may h = tt
    good_statement pc (Computed ls x) may h = (h.0, good_labels ls h.1, behind_good pc h.2)
    good_statement pc (ArithIf e l m n) may h = h
    good_statement pc (LogicalIf' e x (carried b)) may h = (h.0, behind_good pc h.1, h.2, good_statement pc b may h.3)
    good_statement pc (Do l x first last by) may h =
        (h.0, may x (0, refl), h.1, h.2, h.3, good_loops (loops_around u (target u.lines l) pc) (λ d k. loop_may (target u.lines l) d (in_around pc (loops_at u (target u.lines l)) d k)) h.4)
    good_statement pc Continue may h = behind_good pc h
    good_statement pc (Call g args) may h = (h.0, h.1, behind_good pc h.2)
    good_statement pc Return may h = good_result (is_function u) h
    good_statement pc (BlockIf e) may h = h
    good_statement pc (ElseIf e) may h = h
    good_statement pc Else may h = behind_good pc h
    good_statement pc EndIf may h = behind_good pc h
    good_statement pc (Subroutine x xs) may h = absurd h
    good_statement pc (FunctionHead o x xs) may h = absurd h
    good_statement pc (Declare o items) may h = absurd h
    good_statement pc (Dimension items) may h = absurd h
    good_statement pc (CommonBlock groups) may h = absurd h
    good_statement pc End may h = absurd h

pub typed_are_good : (units : List Routine) (i : ℕ) (u : Routine) → IsSoundUnit units i u → slice_get units i ≡ Some u → (IsReference : Sort → Name → List Expr → Type 0) (IsCall : Name → List Expr → Type 0)
    → ((pc : ℕ) (line : Line) → slice_get u.lines pc ≡ Some line → IsTypedStatement u IsReference IsCall pc line.stmt)
    → (env : Environment) → LieApart units i u env → (pc : ℕ) (line : Line) → slice_get u.lines pc ≡ Some line → IsGood u env IsReference IsCall pc line.stmt
typed_are_good units i u sound is IsReference IsCall typed env apart pc line e =
    good_statement units i u sound is env apart IsReference IsCall pc line.stmt (set_may units i u sound is env apart line (pc, e)) (typed pc line e)
