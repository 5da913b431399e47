-- How deep uses may stand one in another decides nothing where it is not less than the turns.
use Rattle.std.proofs.Common.{◌≡◌, ℕ, zero, suc, ◌≤◌, Bool, true, false, if◌then◌else◌, List, [], ◌∷◌, Option, Some, None, refl, ap, ◌∙◌, arith}
use Rattle.formula.specs.declared.function.BuiltIn.TheVariants.{If}
use Rattle.formula.specs.declared.function.Func.{Func}
use Rattle.formula.specs.declared.function.Func.TheVariants.{BuiltIn, Defined}
use Rattle.formula.specs.declared.value.Value.{Value}
use Rattle.formula.specs.declared.value.Value.TheVariants.{Int, Logical, Undefined}
use Rattle.formula.specs.Bounded.{Outcome, got, beyond, spent, and_then, is_in_range, ranged, Calls, function_bounded, bounded_by, arguments_bounded_by, chosen, function_at, body_bounded, calls_within}
use Rattle.formula.specs.Tree.{Tree, num, truth, symbol, old, apply, Row, none, more}
use Rattle.formula.specs.Values.{holds, applied}
use Rattle.formula.specs.Worth.{Valuation, Function, bound_to, nothing_known}
use Rattle.formula.specs.WorthLaws.{TurnsAloneDecide}

-- ---- outcomes that agree

-- a value leaves at most n turns
abbrev pub LeavesAtMost : {A : Type 0} → ℕ → Outcome A → Type 0
LeavesAtMost n (got v m) = m ≤ n
LeavesAtMost n beyond = Unit {0}
LeavesAtMost n spent = Unit {0}

-- the same outcome, which leaves at most n turns
pub record Agrees {A : Type 0} (n : ℕ) (a b : Outcome A) : Type 0 where
  pub same : a ≡ b
  pub left : LeavesAtMost n a

more_left : {A : Type 0} (m n : ℕ) (a : Outcome A) → m ≤ n → LeavesAtMost m a → LeavesAtMost n a
more_left m n (got v k) le h = omega arith
more_left m n beyond le h = tt
more_left m n spent le h = tt

agrees_more : {A : Type 0} (m n : ℕ) (a b : Outcome A) → m ≤ n → Agrees m a b → Agrees n a b
agrees_more m n a b le h = record { same = h.same; left = more_left m n a le h.left }

then_agrees : {A B : Type 0} (n : ℕ) (a b : Outcome A) (f g : A → ℕ → Outcome B) → Agrees n a b → ((v : A) (m : ℕ) → m ≤ n → Agrees m (f v m) (g v m)) → Agrees n (and_then a f) (and_then b g)
then_agrees n (got v m) b f g h k =
    let r = k v m h.left in
    record { same = r.same ∙ ap (λ o. and_then o g) h.same; left = more_left m n (f v m) h.left r.left }
then_agrees n beyond b f g h k = record { same = ap (λ o. and_then o g) h.same; left = tt }
then_agrees n spent b f g h k = record { same = ap (λ o. and_then o g) h.same; left = tt }

if_agrees : {A : Type 0} (n : ℕ) (t : Bool) (a b c d : Outcome A) → Agrees n a b → Agrees n c d → Agrees n (if t then a else c) (if t then b else d)
if_agrees n true a b c d h k = h
if_agrees n false a b c d h k = k

got_agrees : {A : Type 0} (v : A) (n : ℕ) → Agrees n (got v n) (got v n)
got_agrees v n = record { same = refl; left = omega arith }

ranged_agrees : (v : Value) (n : ℕ) → Agrees n (ranged v n) (ranged v n)
ranged_agrees v n = if_agrees n (is_in_range v) (got v n) (got v n) beyond beyond (got_agrees v n) (record { same = refl; left = tt })

-- ---- terms whose uses agree

module _ (most : ℕ) (f g : Calls) (uses : (k : ℕ) (vs : List Value) (m : ℕ) → m ≤ most → Agrees m (f k vs m) (g k vs m)) (symbols entries : Valuation) where
  function_agrees : (h : Func) (vs : List Value) (m : ℕ) → m ≤ most → Agrees m (function_bounded f h vs m) (function_bounded g h vs m)
  function_agrees (BuiltIn b) vs m le = ranged_agrees (applied b vs) m
  function_agrees (Defined k) vs m le = uses k vs m le

  mutual
    pub term_agrees : (t : Tree) (n : ℕ) → n ≤ most → Agrees n (bounded_by f symbols entries t n) (bounded_by g symbols entries t n)
    term_agrees (num z) n le = ranged_agrees (Int z) n
    term_agrees (truth b) n le = got_agrees (Logical b) n
    term_agrees (symbol s) n le = ranged_agrees (symbols s) n
    term_agrees (old s) n le = ranged_agrees (entries s) n
    term_agrees (apply (BuiltIn If) (more c (more a (more b none)))) n le =
        then_agrees n _ _ _ _ (term_agrees c n le)
        (λ v m lem. let low : m ≤ most = omega arith in if_agrees m (holds v) _ _ _ _ (term_agrees a m low) (term_agrees b m low))
    term_agrees (apply h row) n le = then_agrees n _ _ _ _ (row_agrees row n le) (λ vs m lem. function_agrees h vs m (omega arith))

    row_agrees : (row : Row) (n : ℕ) → n ≤ most → Agrees n (arguments_bounded_by f symbols entries row n) (arguments_bounded_by g symbols entries row n)
    row_agrees none n le = got_agrees [] n
    row_agrees (more t rest) n le =
        then_agrees n _ _ _ _ (term_agrees t n le)
        (λ v m lem. then_agrees m _ _ _ _ (row_agrees rest m (omega arith)) (λ vs k lek. got_agrees (v ∷ vs) k))

-- ---- uses

body_agrees : (n : ℕ) (f g : Calls) (found : Option Function) (vs : List Value) → ((k : ℕ) (ws : List Value) (m : ℕ) → m ≤ n → Agrees m (f k ws m) (g k ws m))
    → Agrees n (body_bounded f found vs n) (body_bounded g found vs n)
body_agrees n f g None vs uses = got_agrees Undefined n
body_agrees n f g (Some function) vs uses = term_agrees n f g uses (bound_to function.params vs) nothing_known (chosen function.body vs) n (omega arith)

-- uses within two depths that are not less than the turns
pub depths_agree : (fs : List Function) (d e : ℕ) (k : ℕ) (vs : List Value) (n : ℕ) → n ≤ d → n ≤ e → Agrees n (calls_within fs d k vs n) (calls_within fs e k vs n)
depths_agree fs zero zero k vs n ld le = record { same = refl; left = tt }
depths_agree fs zero (suc e) k vs zero ld le = record { same = refl; left = tt }
depths_agree fs (suc d) zero k vs zero ld le = record { same = refl; left = tt }
depths_agree fs (suc d) (suc e) k vs zero ld le = record { same = refl; left = tt }
depths_agree fs (suc d) (suc e) k vs (suc n) ld le =
    agrees_more n (suc n) _ _ (omega arith)
    (body_agrees n (calls_within fs d) (calls_within fs e) (function_at fs k) vs (λ j ws m lem. depths_agree fs d e j ws m (omega arith) (omega arith)))
depths_agree fs _ _ k vs (suc n) ld le = absurd (omega arith)

pub turns_alone_decide : TurnsAloneDecide
turns_alone_decide fs symbols entries t n depth le =
    (term_agrees n (calls_within fs depth) (calls_within fs n) (λ k vs m lem. depths_agree fs depth n k vs m (omega arith) lem) symbols entries t n (omega arith)).same
