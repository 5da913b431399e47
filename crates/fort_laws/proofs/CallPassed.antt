-- The actuals of a call, their operands and what is taken for them, by their numbers.
use Rattle.std.proofs.Common.{◌≡◌, ℕ, zero, suc, List, [], ◌∷◌, Some, slice_get, refl}
use Rattle.formula.specs.declared.value.Value.{Value}
use Rattle.fort_syntax.specs.declared.name.Name.{Name}
use Rattle.fort_syntax.specs.declared.expr.Expr.{Expr}
use Rattle.fort_syntax.specs.declared.expr.Expr.TheVariants.{Var}
use Rattle.fort_model.specs.Evaluate.{Scene}
use Rattle.fort_model.specs.Passing.{Taken}
use Rattle.fort_model.specs.Seen.{Named}
use Rattle.fort_model.specs.Storage.{Storage}
use Rattle.fort_model.specs.WalkCalls.{Operand, Bare, Part, Computed}
use Rattle.fort_laws.specs.Actuals.{IsPart, AreTakenAs, IsOperandOf, IsPassed, ArePassed}

-- a bare name is an operand that is one
pub bare_operand : (now : Named Value) (y : Name) (o : Operand Value) → IsOperandOf now (Var y) o → (v : Value) × (o ≡ Bare y v)
bare_operand now y (Bare x v) h = (v, cc)
bare_operand now y (Part v) h = absurd (h y refl)
bare_operand now y (Computed v) h = absurd (h y refl)

module _ (s : Scene) (st : Storage) (now : Named Value) where
  pub are_taken : (es : List Expr) (os : List (Operand Value)) (ts : List Taken) → ArePassed s st now es os ts → AreTakenAs s.environment (IsPart s.unit s.environment) es ts
  are_taken [] [] [] h = tt
  are_taken [] [] (t ∷ ts) h = absurd h
  are_taken [] (o ∷ os) ts h = absurd h
  are_taken (e ∷ es) [] ts h = absurd h
  are_taken (e ∷ es) (o ∷ os) [] h = absurd h
  are_taken (e ∷ es) (o ∷ os) (t ∷ ts) h = (h.0.taken, are_taken es os ts h.1)

  -- the n-th of them
  pub record PassedAt (es : List Expr) (os : List (Operand Value)) (ts : List Taken) (n : ℕ) : Type 0 where
    pub actual : Expr
    pub operand : Operand Value
    pub taken : Taken
    pub is_actual : slice_get es n ≡ Some actual
    pub is_operand : slice_get os n ≡ Some operand
    pub is_taken : slice_get ts n ≡ Some taken
    pub passed : IsPassed s st now actual operand taken

  one_on : (e : Expr) (o : Operand Value) (t : Taken) (es : List Expr) (os : List (Operand Value)) (ts : List Taken) (n : ℕ) → PassedAt es os ts n → PassedAt (e ∷ es) (o ∷ os) (t ∷ ts) (suc n)
  one_on e o t es os ts n r = record {
    actual = r.actual;
    operand = r.operand;
    taken = r.taken;
    is_actual = r.is_actual;
    is_operand = r.is_operand;
    is_taken = r.is_taken;
    passed = r.passed;
  }

  pub at_actual : (es : List Expr) (os : List (Operand Value)) (ts : List Taken) (n : ℕ) (e : Expr) → ArePassed s st now es os ts → slice_get es n ≡ Some e → PassedAt es os ts n
  at_actual [] os ts n e h q = absurd (cc)
  at_actual (d ∷ es) [] ts n e h q = absurd h
  at_actual (d ∷ es) (o ∷ os) [] n e h q = absurd h
  at_actual (d ∷ es) (o ∷ os) (t ∷ ts) zero e h q = record { actual = d; operand = o; taken = t; is_actual = refl; is_operand = refl; is_taken = refl; passed = h.0 }
  at_actual (d ∷ es) (o ∷ os) (t ∷ ts) (suc n) e h q = one_on d o t es os ts n (at_actual es os ts n e h.1 q)

  pub at_operand : (es : List Expr) (os : List (Operand Value)) (ts : List Taken) (n : ℕ) (o : Operand Value) → ArePassed s st now es os ts → slice_get os n ≡ Some o → PassedAt es os ts n
  at_operand [] [] ts n o h q = absurd (cc)
  at_operand [] (p ∷ os) ts n o h q = absurd h
  at_operand (d ∷ es) [] ts n o h q = absurd h
  at_operand (d ∷ es) (p ∷ os) [] n o h q = absurd h
  at_operand (d ∷ es) (p ∷ os) (t ∷ ts) zero o h q = record { actual = d; operand = p; taken = t; is_actual = refl; is_operand = refl; is_taken = refl; passed = h.0 }
  at_operand (d ∷ es) (p ∷ os) (t ∷ ts) (suc n) o h q = one_on d p t es os ts n (at_operand es os ts n o h.1 q)
