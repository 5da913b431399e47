-- Uses that may stand one in another: as many as there are turns do, and more make no difference.
use Rattle.std.proofs.Common.{◌≡◌, ℕ, zero, suc, ◌≤◌, Bool, true, false, if◌then◌else◌, List, refl, ap, ◌∙◌, arith, Option, Some, None}
use Rattle.formula.specs.declared.function.BuiltIn.TheVariants.{If}
use Rattle.formula.specs.declared.function.Func.{Func}
use Rattle.formula.specs.declared.function.Func.TheVariants.{BuiltIn, Defined}
use Rattle.formula.specs.declared.value.Value.{Value}
use Rattle.formula.specs.declared.value.Value.TheVariants.{Int}
use Rattle.formula.specs.Bounded.{Outcome, got, beyond, spent, and_then, is_in_range, ranged, Calls, function_bounded, bounded_by, arguments_bounded_by, chosen, function_at, body_bounded, calls_within, bounded}
use Rattle.term_worth.specs.Machine.{calls_of}
use Rattle.formula.specs.Tree.{Tree, num, truth, symbol, old, apply, Row, none, more}
use Rattle.formula.specs.Values.{holds, applied}
use Rattle.formula.specs.Worth.{Valuation, Function, bound_to, nothing_known}

-- a value has at most n turns left
abbrev pub AtMost : {A : Type 0} → ℕ → Outcome A → Type 0
AtMost n (got v m) = m ≤ n
AtMost n beyond = Unit {0}
AtMost n spent = Unit {0}

-- the same outcome, with at most n turns left
pub record Agrees {A : Type 0} (n : ℕ) (a b : Outcome A) : Type 0 where
  pub same : a ≡ b
  pub left : AtMost n a

AtMost-more : {A : Type 0} (m n : ℕ) (a : Outcome A) → m ≤ n → AtMost m a → AtMost n a
AtMost-more m n (got v k) le h = omega arith
AtMost-more m n beyond le h = tt
AtMost-more m n spent le h = tt

Agrees-more : {A : Type 0} (m n : ℕ) (a b : Outcome A) → m ≤ n → Agrees m a b → Agrees n a b
Agrees-more m n a b le h = record { same = h.same; left = AtMost-more m n a le h.left }

Agrees-and_then : {A B : Type 0} (n : ℕ) (a b : Outcome A) (f g : A → ℕ → Outcome B) → Agrees n a b → ((v : A) (m : ℕ) → m ≤ n → Agrees m (f v m) (g v m))
    → Agrees n (and_then a f) (and_then b g)
Agrees-and_then n (got v m) b f g h k =
    let r = Agrees-more m n (f v m) (g v m) h.left (k v m h.left) in
    record { same = r.same ∙ ap (λ o. and_then o g) h.same; left = r.left }
Agrees-and_then n beyond b f g h k = record { same = ap (λ o. and_then o g) h.same; left = tt }
Agrees-and_then n spent b f g h k = record { same = ap (λ o. and_then o g) h.same; left = tt }

Agrees-if : {A : Type 0} (n : ℕ) (t : Bool) (a b c d : Outcome A) → Agrees n a b → Agrees n c d → Agrees n (if t then a else c) (if t then b else d)
Agrees-if n true a b c d h k = h
Agrees-if n false a b c d h k = k

got_agrees : {A : Type 0} (n : ℕ) (v : A) → Agrees n (got v n) (got v n)
got_agrees n v = record { same = refl; left = omega arith }

ranged_agrees : (v : Value) (n : ℕ) → Agrees n (ranged v n) (ranged v n)
ranged_agrees v n = record { same = refl; left = by_test (is_in_range v) }
  where
    by_test : (t : Bool) → AtMost n (if t then got v n else beyond)
    by_test true = omega arith
    by_test false = tt

-- the calls agree wherever there are at most `most` turns
module _ (most : ℕ) (calls calls' : Calls) (agree : (k : ℕ) (vs : List Value) (m : ℕ) → m ≤ most → Agrees m (calls k vs m) (calls' k vs m)) (s e : Valuation) where
  functions : (f : Func) (vs : List Value) (m : ℕ) → m ≤ most → Agrees m (function_bounded calls f vs m) (function_bounded calls' f vs m)
  functions (BuiltIn f) vs m le = ranged_agrees (applied f vs) m
  functions (Defined k) vs m le = agree k vs m le

  mutual
    pub terms : (t : Tree) (n : ℕ) → n ≤ most → Agrees n (bounded_by calls s e t n) (bounded_by calls' s e t n)
    terms (num z) n le = ranged_agrees (Int z) n
    terms (truth b) n le = got_agrees n _
    terms (symbol w) n le = ranged_agrees (s w) n
    terms (old w) n le = ranged_agrees (e w) n
    terms (apply (BuiltIn If) (more c (more a (more b none)))) n le =
        Agrees-and_then n _ _ _ _ (terms c n le) (λ v m lem.
        Agrees-if m (holds v) _ _ _ _ (terms a m (omega arith)) (terms b m (omega arith)))
    terms (apply f row) n le = Agrees-and_then n _ _ _ _ (rows row n le) (λ vs m lem. functions f vs m (omega arith))

    pub rows : (row : Row) (n : ℕ) → n ≤ most → Agrees n (arguments_bounded_by calls s e row n) (arguments_bounded_by calls' s e row n)
    rows none n le = got_agrees n _
    rows (more t rest) n le =
        Agrees-and_then n _ _ _ _ (terms t n le) (λ v m lem.
        Agrees-and_then m _ _ _ _ (rows rest m (omega arith)) (λ vs k lek. got_agrees k _))

bodies : (most : ℕ) (calls calls' : Calls) → ((k : ℕ) (vs : List Value) (m : ℕ) → m ≤ most → Agrees m (calls k vs m) (calls' k vs m))
    → (f : Option Function) (vs : List Value) (n : ℕ) → n ≤ most → Agrees n (body_bounded calls f vs n) (body_bounded calls' f vs n)
bodies most calls calls' agree None vs n le = got_agrees n _
bodies most calls calls' agree (Some f) vs n le = terms most calls calls' agree (bound_to f.params vs) nothing_known (chosen f.body vs) n le

-- with as much depth as there are turns the depth does not matter
pub depths : (fs : List Function) (d d' k : ℕ) (vs : List Value) (n : ℕ) → n ≤ d → n ≤ d' → Agrees n (calls_within fs d k vs n) (calls_within fs d' k vs n)
depths fs zero zero k vs n l l' = record { same = refl; left = tt }
depths fs zero (suc d') k vs zero l l' = record { same = refl; left = tt }
depths fs zero (suc d') k vs (suc n) l l' = absurd (omega arith)
depths fs (suc d) zero k vs zero l l' = record { same = refl; left = tt }
depths fs (suc d) zero k vs (suc n) l l' = absurd (omega arith)
depths fs (suc d) (suc d') k vs zero l l' = record { same = refl; left = tt }
depths fs (suc d) (suc d') k vs (suc n) l l' =
    Agrees-more n (suc n) _ _ (omega arith)
    (bodies n (calls_within fs d) (calls_within fs d') (λ j ws m le. depths fs d d' j ws m (omega arith) (omega arith)) (function_at fs k) vs n (omega arith))

-- a term with a stock of turns
pub bounded-calls : (fs : List Function) (s e : Valuation) (t : Tree) (n : ℕ) → bounded fs s e t n ≡ bounded_by (calls_of fs) s e t n
bounded-calls fs s e t n =
    (terms n (calls_within fs n) (calls_of fs) (λ k vs m le. depths fs n m k vs m le (omega arith)) s e t n (omega arith)).same

-- a use takes a turn, and then comes to its body
pub calls_of-suc : (fs : List Function) (k : ℕ) (vs : List Value) (n : ℕ) → calls_of fs k vs (suc n) ≡ body_bounded (calls_of fs) (function_at fs k) vs n
calls_of-suc fs k vs n =
    (bodies n (calls_within fs n) (calls_of fs) (λ j ws m le. depths fs n m j ws m le (omega arith)) (function_at fs k) vs n (omega arith)).same
