-- A value that an evaluation with turns gives is the worth.
use Rattle.std.proofs.Common.{◌≡◌, ℕ, zero, suc, Bool, true, false, if◌then◌else◌, List, ◌∷◌, Option, Some, None, refl, ap, ◌∙◌}
use Rattle.formula.specs.declared.function.BuiltIn.TheVariants.{If}
use Rattle.formula.specs.declared.function.Func.{Func}
use Rattle.formula.specs.declared.function.Func.TheVariants.{BuiltIn, Defined}
use Rattle.formula.specs.declared.value.Value.{Value}
use Rattle.formula.specs.declared.value.Value.TheVariants.{Int}
use Rattle.formula.specs.Bounded.{Outcome, got, beyond, spent, and_then, is_in_range, ranged, Calls, function_bounded, bounded_by, arguments_bounded_by, chosen, function_at, body_bounded, calls_within}
use Rattle.formula.specs.Tree.{Tree, num, truth, symbol, old, apply, Row, none, more}
use Rattle.formula.specs.Values.{holds, applied}
use Rattle.formula.specs.Worth.{Uses, Valuation, Function, function_worth, worth_by, worths_by, bound_to, nothing_known, functions_of, used}
use Rattle.formula.specs.WorthLaws.{term_worth, IsMeaning, BoundedWorthIsWorth}
use Rattle.formula.proofs.UsedFunctions.{functions_sound, uses_mean}

-- ---- outcomes that are values

-- what came first, where two evaluations gave a value
record Came {A B : Type 0} (first : Outcome A) (next : A → ℕ → Outcome B) (v : B) (m : ℕ) : Type 0 where
  middle : A
  left : ℕ
  is : first ≡ got middle left
  goes_on : next middle left ≡ got v m

came : {A B : Type 0} (first : Outcome A) (next : A → ℕ → Outcome B) (v : B) (m : ℕ) → and_then first next ≡ got v m → Came first next v m
came (got w k) next v m e = record { middle = w; left = k; is = refl; goes_on = e }
came beyond next v m e = absurd (cc)
came spent next v m e = absurd (cc)

ranged_is : (v w : Value) (n m : ℕ) → ranged v n ≡ got w m → v ≡ w
ranged_is v w n m e = one (is_in_range v) e
  where
    one : (t : Bool) → (if t then got v n else beyond) ≡ got w m → v ≡ w
    one true e = cc
    one false e = absurd (cc)

-- ---- terms

module _ (calls : Calls) (uses : Uses) (right : (k : ℕ) (vs : List Value) (n m : ℕ) (v : Value) → calls k vs n ≡ got v m → uses k vs ≡ v) (symbols entries : Valuation) where
  function_right : (f : Func) (vs : List Value) (n m : ℕ) (v : Value) → function_bounded calls f vs n ≡ got v m → function_worth uses f vs ≡ v
  function_right (BuiltIn f) vs n m v e = ranged_is (applied f vs) v n m e
  function_right (Defined k) vs n m v e = right k vs n m v e

  if_right : (c : Bool) (a b : Tree) (n m : ℕ) (v : Value) → (if c then bounded_by calls symbols entries a n else bounded_by calls symbols entries b n) ≡ got v m
      → (bounded_by calls symbols entries a n ≡ got v m → worth_by uses symbols entries a ≡ v)
      → (bounded_by calls symbols entries b n ≡ got v m → worth_by uses symbols entries b ≡ v)
      → (if c then worth_by uses symbols entries a else worth_by uses symbols entries b) ≡ v
  if_right true a b n m v e p q = p e
  if_right false a b n m v e p q = q e

  mutual
    pub term_right : (t : Tree) (n m : ℕ) (v : Value) → bounded_by calls symbols entries t n ≡ got v m → worth_by uses symbols entries t ≡ v
    term_right (num z) n m v e = ranged_is (Int z) v n m e
    term_right (truth b) n m v e = cc
    term_right (symbol s) n m v e = ranged_is (symbols s) v n m e
    term_right (old s) n m v e = ranged_is (entries s) v n m e
    term_right (apply (BuiltIn If) (more c (more a (more b none)))) n m v e =
        let h = came (bounded_by calls symbols entries c n) (λ w k. if holds w then bounded_by calls symbols entries a k else bounded_by calls symbols entries b k) v m e in
        ap (λ (w : Value). if holds w then worth_by uses symbols entries a else worth_by uses symbols entries b) (term_right c n h.left h.middle h.is)
        ∙ if_right (holds h.middle) a b h.left m v h.goes_on (term_right a h.left m v) (term_right b h.left m v)
    term_right (apply f row) n m v e =
        let h = came (arguments_bounded_by calls symbols entries row n) (function_bounded calls f) v m e in
        ap (function_worth uses f) (row_right row n h.left h.middle h.is) ∙ function_right f h.middle h.left m v h.goes_on

    row_right : (row : Row) (n m : ℕ) (vs : List Value) → arguments_bounded_by calls symbols entries row n ≡ got vs m → worths_by uses symbols entries row ≡ vs
    row_right none n m vs e = cc
    row_right (more t rest) n m vs e =
        let h = came (bounded_by calls symbols entries t n) (λ w k. and_then (arguments_bounded_by calls symbols entries rest k) (λ ws j. got (w ∷ ws) j)) vs m e in
        let g = came (arguments_bounded_by calls symbols entries rest h.left) (λ ws j. got (h.middle ∷ ws) j) vs m h.goes_on in
        let head = term_right t n h.left h.middle h.is in
        let tail = row_right rest h.left g.left g.middle g.is in
        let all : h.middle ∷ g.middle ≡ vs = let last = g.goes_on in cc in
        (λ i. head i ∷ tail i) ∙ all

-- ---- uses of functions

module _ (fs : List Function) (mean : IsMeaning fs (used fs)) where
  body_right : (calls : Calls) (found : Option Function) (vs : List Value) (n m : ℕ) (v : Value) → ((k : ℕ) (ws : List Value) (i j : ℕ) (w : Value) → calls k ws i ≡ got w j → used fs k ws ≡ w)
      → body_bounded calls found vs n ≡ got v m → term_worth (used fs) found vs ≡ v
  body_right calls None vs n m v right e = cc
  body_right calls (Some f) vs n m v right e = term_right calls (used fs) right (bound_to f.params vs) nothing_known (chosen f.body vs) n m v e

  calls_right : (depth k : ℕ) (vs : List Value) (n m : ℕ) (v : Value) → calls_within fs depth k vs n ≡ got v m → used fs k vs ≡ v
  calls_right zero k vs n m v e = absurd (cc)
  calls_right (suc depth) k vs zero m v e = absurd (cc)
  calls_right (suc depth) k vs (suc n) m v e = mean k vs ∙ body_right (calls_within fs depth) (function_at fs k) vs n m v (calls_right depth) e

pub bounded_worth_is_worth : BoundedWorthIsWorth
bounded_worth_is_worth pool ds h symbols entries t n m v e =
    let fs = functions_of pool ds in
    term_right (calls_within fs n) (used fs) (calls_right fs (uses_mean fs (functions_sound pool ds h)) n) symbols entries t n m v e
