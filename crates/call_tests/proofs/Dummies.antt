-- One more dummy and its actual.
use Rattle.std.proofs.Common.{◌≡◌, ℕ, zero, suc, ◌+◌, ◌<◌, ◌≤◌, Bool, true, false, ◌&&◌, ◌||◌, List, [], ◌∷◌, length, drop, get_or, refl, sym, ap, ◌∙◌, arith, drop-cons}
use Rattle.fort_syntax.specs.declared.expr.Expr.{Expr}
use Rattle.fort_syntax.specs.declared.name.Name.{Name}
use Rattle.fort_model.specs.CallRules.{some_smashed}

-- where no actuals are left
nobody : (smashed : Name → Bool) (test : ℕ → Expr → Bool) (n : ℕ) (ds : List Name) → some_smashed smashed test n ds [] ≡ false
nobody smashed test n [] = refl
nobody smashed test n (d ∷ ds) = refl

pub none_left : (smashed : Name → Bool) (test : ℕ → Expr → Bool) (n : ℕ) (ds : List Name) (es : List Expr) → length es ≤ n → some_smashed smashed test n ds (drop n es) ≡ false
none_left smashed test n ds es h = ap (some_smashed smashed test n ds) (gone n es h) ∙ nobody smashed test n ds
  where
    gone : (k : ℕ) (xs : List Expr) → length xs ≤ k → drop k xs ≡ []
    gone zero [] h = refl
    gone (suc k) [] h = refl
    gone zero (x ∷ xs) h = absurd (omega arith)
    gone (suc k) (x ∷ xs) h = gone k xs (omega arith)

pub one_more : (smashed : Name → Bool) (test : ℕ → Expr → Bool) (n : ℕ) (ds : List Name) (es : List Expr) (d : Name) (e : Expr)
    → n < length ds → d ≡ get_or ds n d → n < length es → e ≡ get_or es n e
    → some_smashed smashed test n (drop n ds) (drop n es) ≡ ((smashed d && test n e) || some_smashed smashed test (n + 1) (drop (n + 1) ds) (drop (n + 1) es))
one_more smashed test n ds es d e in_ds is_d in_es is_e =
    let first : drop n ds ≡ d ∷ drop (n + 1) ds = drop-cons ds n d in_ds ∙ (ap (λ (x : Name). x ∷ drop (suc n) ds) (sym is_d) ∙ ap (λ (k : ℕ). d ∷ drop k ds) next) in
    let second : drop n es ≡ e ∷ drop (n + 1) es = drop-cons es n e in_es ∙ (ap (λ (x : Expr). x ∷ drop (suc n) es) (sym is_e) ∙ ap (λ (k : ℕ). e ∷ drop k es) next) in
    ap (λ (xs : List Name). some_smashed smashed test n xs (drop n es)) first
    ∙ (ap (some_smashed smashed test n (d ∷ drop (n + 1) ds)) second ∙ ap (λ (k : ℕ). (smashed d && test n e) || some_smashed smashed test k (drop (n + 1) ds) (drop (n + 1) es)) next)
  where
    next : suc n ≡ n + 1
    next = omega arith

-- where it passes the test, and where it does not
pub found : (smashed : Name → Bool) (test : ℕ → Expr → Bool) (n : ℕ) (ds : List Name) (es : List Expr) (d : Name) (e : Expr) (whole : Bool)
    → n < length ds → d ≡ get_or ds n d → n < length es → e ≡ get_or es n e
    → some_smashed smashed test n (drop n ds) (drop n es) ≡ whole → (smashed d && test n e) ≡ true → true ≡ whole
found smashed test n ds es d e whole in_ds is_d in_es is_e so_far t =
    sym (one_more smashed test n ds es d e in_ds is_d in_es is_e ∙ ap (λ (b : Bool). b || some_smashed smashed test (n + 1) (drop (n + 1) ds) (drop (n + 1) es)) t) ∙ so_far

pub passed : (smashed : Name → Bool) (test : ℕ → Expr → Bool) (n : ℕ) (ds : List Name) (es : List Expr) (d : Name) (e : Expr) (whole : Bool)
    → n < length ds → d ≡ get_or ds n d → n < length es → e ≡ get_or es n e
    → some_smashed smashed test n (drop n ds) (drop n es) ≡ whole → (smashed d && test n e) ≡ false → some_smashed smashed test (n + 1) (drop (n + 1) ds) (drop (n + 1) es) ≡ whole
passed smashed test n ds es d e whole in_ds is_d in_es is_e so_far t =
    sym (one_more smashed test n ds es d e in_ds is_d in_es is_e ∙ ap (λ (b : Bool). b || some_smashed smashed test (n + 1) (drop (n + 1) ds) (drop (n + 1) es)) t) ∙ so_far
