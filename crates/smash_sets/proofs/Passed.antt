-- Names added one after the other.
use Rattle.std.proofs.Common.{◌≡◌, ℕ, zero, suc, ◌+◌, ◌<◌, ◌≤◌, Bool, List, [], ◌∷◌, ◌++◌, length, drop, get_or, refl, sym, ap, ◌∙◌, arith, drop-cons}
use Rattle.fort_syntax.specs.declared.expr.Expr.{Expr}
use Rattle.fort_syntax.specs.declared.name.Name.{Name}
use Rattle.fort_model.specs.CallRules.{bare_name, bare_names}
use Rattle.name_tables.specs.Sets.{with_name, with_names}

-- a set with two lists of names
pub more_of_both : (set xs ys : List Name) → with_names set (xs ++ ys) ≡ with_names (with_names set xs) ys
more_of_both set [] ys = refl
more_of_both set (x ∷ xs) ys = more_of_both (with_name set x) xs ys

-- where no actuals are left
nobody : (smashed : Name → Bool) (ds : List Name) → bare_names smashed ds [] ≡ []
nobody smashed [] = refl
nobody smashed (d ∷ ds) = refl

pub none_left : (smashed : Name → Bool) (n : ℕ) (ds : List Name) (es : List Expr) → length es ≤ n → bare_names smashed ds (drop n es) ≡ []
none_left smashed n ds es h = ap (bare_names smashed ds) (gone n es h) ∙ nobody smashed ds
  where
    gone : (k : ℕ) (xs : List Expr) → length xs ≤ k → drop k xs ≡ []
    gone zero [] h = refl
    gone (suc k) [] h = refl
    gone zero (x ∷ xs) h = absurd (omega arith)
    gone (suc k) (x ∷ xs) h = gone k xs (omega arith)

one_more : (smashed : Name → Bool) (n : ℕ) (ds : List Name) (es : List Expr) (d : Name) (e : Expr)
    → n < length ds → d ≡ get_or ds n d → n < length es → e ≡ get_or es n e
    → bare_names smashed (drop n ds) (drop n es) ≡ bare_name (smashed d) e ++ bare_names smashed (drop (n + 1) ds) (drop (n + 1) es)
one_more smashed n ds es d e in_ds is_d in_es is_e =
    let first : drop n ds ≡ d ∷ drop (n + 1) ds = drop-cons ds n d in_ds ∙ (ap (λ (x : Name). x ∷ drop (suc n) ds) (sym is_d) ∙ ap (λ (k : ℕ). d ∷ drop k ds) next) in
    let second : drop n es ≡ e ∷ drop (n + 1) es = drop-cons es n e in_es ∙ (ap (λ (x : Expr). x ∷ drop (suc n) es) (sym is_e) ∙ ap (λ (k : ℕ). e ∷ drop k es) next) in
    ap (λ (xs : List Name). bare_names smashed xs (drop n es)) first ∙ ap (bare_names smashed (d ∷ drop (n + 1) ds)) second
  where
    next : suc n ≡ n + 1
    next = omega arith

-- a dummy and its actual are seen to
pub gone_on : (smashed : Name → Bool) (n : ℕ) (ds : List Name) (es : List Expr) (d : Name) (e : Expr) (set after whole : List Name) (is : Bool)
    → n < length ds → d ≡ get_or ds n d → n < length es → e ≡ get_or es n e → is ≡ smashed d → after ≡ with_names set (bare_name is e)
    → with_names set (bare_names smashed (drop n ds) (drop n es)) ≡ whole → with_names after (bare_names smashed (drop (n + 1) ds) (drop (n + 1) es)) ≡ whole
gone_on smashed n ds es d e set after whole is in_ds is_d in_es is_e t a so_far =
    ap (λ (xs : List Name). with_names xs (bare_names smashed (drop (n + 1) ds) (drop (n + 1) es))) (a ∙ ap (λ (b : Bool). with_names set (bare_name b e)) t)
    ∙ (sym (more_of_both set (bare_name (smashed d) e) (bare_names smashed (drop (n + 1) ds) (drop (n + 1) es)))
    ∙ (sym (ap (with_names set) (one_more smashed n ds es d e in_ds is_d in_es is_e)) ∙ so_far))
