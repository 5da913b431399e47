-- A name that one actual is stands in another one exactly where it stands in two of them.
use Rattle.std.proofs.Common.{◌≡◌, ◌≢◌, ℕ, zero, suc, ◌+◌, ◌<◌, Bool, true, false, not, ◌&&◌, ◌||◌, List, [], ◌∷◌, map, Some, slice_get, refl, sym, ap, ◌∙◌, subst, arith, rules, eq-eqb}
use Rattle.std.specs.Prelude.{◌==◌}
use Rattle.std.specs.List.{filter, list_any}
use Rattle.formula.specs.Atoms.{is_among}
use Rattle.fort_syntax.specs.declared.expr.Expr.{Expr}
use Rattle.fort_syntax.specs.declared.expr.Expr.TheVariants.{Const, Truth, Var, Apply', Paren', Pos', Neg', Power', Bin', Rel', Not', And', Or'}
use Rattle.fort_syntax.specs.declared.name.Name.{Name}
use Rattle.fort_model.specs.Arguments.{mentions}
use Rattle.fort_model.specs.CallRules.{some_smashed, stands_elsewhere, bare_elsewhere}
use Rattle.fort_laws.proofs.FrameSeats.{same_self}
use Rattle.fort_laws.proofs.Near.{known}
use Rattle.name_tables.specs.Sets.{with_names}
use Rattle.call_tests.specs.Bare.{bare_in}
use Rattle.call_tests.specs.Mentioned.{names_in}
use Rattle.call_tests.specs.Twice.{twice_after}
use Rattle.call_tests.proofs.Mentions.{mentioned}
use Rattle.call_tests.proofs.Sets.{among_more, among_kept}

-- a test holds of two of some things: again where it did already, once where it held of one
abbrev of_two : {A : Type 0} → (A → Bool) → Bool → Bool → List A → Bool
of_two test again once [] = again
of_two test again once (a ∷ rest) = of_two test (again || (test a && once)) (once || test a) rest

again_stays : {A : Type 0} (test : A → Bool) (once : Bool) (xs : List A) → of_two test true once xs ≡ true
again_stays test once [] = refl
again_stays test once (a ∷ rest) = again_stays test (once || test a) rest

once_any : {A : Type 0} (test : A → Bool) (xs : List A) → of_two test false true xs ≡ list_any test xs
once_any test [] = refl
once_any test (a ∷ rest) = by_test (once_any test rest) (test a)
  where
    by_test : of_two test false true rest ≡ list_any test rest → (b : Bool) → of_two test (b && true) true rest ≡ (b || list_any test rest)
    by_test rec true = again_stays test true rest
    by_test rec false = rec

-- a name is among those that stand twice
twice_is : (x : Name) (before again : List Name) (es : List Expr)
    → is_among x (twice_after before again (map names_in es)) ≡ of_two (λ (e : Expr). is_among x (names_in e)) (is_among x again) (is_among x before) es
twice_is x before again [] = refl
twice_is x before again (e ∷ es) =
    twice_is x (with_names before (names_in e)) (with_names again (filter (λ y. is_among y before) (names_in e))) es
    ∙ (ap (λ (b : Bool). of_two (λ (e : Expr). is_among x (names_in e)) b (is_among x (with_names before (names_in e))) es)
    (among_more x again (filter (λ y. is_among y before) (names_in e)) ∙ ap (λ (b : Bool). is_among x again || b) (among_kept (λ y. is_among y before) x (names_in e)))
    ∙ ap (λ (b : Bool). of_two (λ (e : Expr). is_among x (names_in e)) (is_among x again || (is_among x (names_in e) && is_among x before)) b es) (among_more x before (names_in e)))

two_same : {A : Type 0} (f g : A → Bool) (again once : Bool) (xs : List A) → ((a : A) → f a ≡ g a) → of_two f again once xs ≡ of_two g again once xs
two_same f g again once [] h = refl
two_same f g again once (a ∷ rest) h =
    two_same f g (again || (f a && once)) (once || f a) rest h
    ∙ ap (λ (b : Bool). of_two g (again || (b && once)) (once || b) rest) (h a)

-- ---- the places of actuals

differ : (k n : ℕ) → k ≢ n → (k == n) ≡ false
differ k n h = known (k == n) (λ t. absurd (h (same_number t))) (λ f. f)
  where
    same_number : (k == n) ≡ true → k ≡ n
    same_number t = search rules

-- behind the place itself each place is another one
all_others : (x : Name) (n k : ℕ) (es : List Expr) → n < k → stands_elsewhere n x k es ≡ list_any (λ (e : Expr). mentions e x) es
all_others x n k [] h = refl
all_others x n k (e ∷ es) h =
    ap (λ (b : Bool). (not b && mentions e x) || stands_elsewhere n x (suc k) es) (differ k n (λ q. apart q))
    ∙ ap (λ (b : Bool). mentions e x || b) (all_others x n (suc k) es (omega arith))
  where
    apart : k ≡ n → ⊥
    apart q = omega arith

some_at : {A : Type 0} (test : A → Bool) (xs : List A) (n : ℕ) (a : A) → slice_get xs n ≡ Some a → test a ≡ true → list_any test xs ≡ true
some_at test [] n a e t = absurd (cc)
some_at test (y ∷ ys) zero a e t = let q : y ≡ a = cc in ap (λ (b : Bool). b || list_any test ys) (ap test q ∙ t)
some_at test (y ∷ ys) (suc n) a e t = behind (test y) (some_at test ys n a e t)
  where
    behind : (b : Bool) {c : Bool} → c ≡ true → (b || c) ≡ true
    behind true h = refl
    behind false h = h

elsewhere_is : (x : Name) (k n : ℕ) (es : List Expr) → slice_get es n ≡ Some (Var x) → stands_elsewhere (k + n) x k es ≡ of_two (λ (e : Expr). mentions e x) false false es
elsewhere_is x k n [] h = absurd (cc)
elsewhere_is x k zero (e ∷ es) h =
    let q : e ≡ Var x = cc in
    let own : mentions e x ≡ true = ap (λ (z : Expr). mentions z x) q ∙ same_self x in
    let at : k + 0 ≡ k = omega arith in
    let here : (k == (k + 0)) ≡ true = eq-eqb k (k + 0) (sym at) in
    ap (λ (b : Bool). (not b && mentions e x) || stands_elsewhere (k + 0) x (suc k) es) here
    ∙ (all_others x (k + 0) (suc k) es (omega arith)
    ∙ (sym (once_any (λ (z : Expr). mentions z x) es) ∙ sym (ap (λ (b : Bool). of_two (λ (z : Expr). mentions z x) (false || (b && false)) (false || b) es) own)))
elsewhere_is x k (suc n) (e ∷ es) h =
    ap (λ (b : Bool). (not b && mentions e x) || stands_elsewhere (k + suc n) x (suc k) es) (differ k (k + suc n) (λ q. apart q))
    ∙ by_test (elsewhere_is x (suc k) n es h) (mentions e x)
  where
    apart : k ≡ k + suc n → ⊥
    apart q = omega arith

    by_test : stands_elsewhere (suc k + n) x (suc k) es ≡ of_two (λ (z : Expr). mentions z x) false false es → (b : Bool) → (b || stands_elsewhere (k + suc n) x (suc k) es) ≡ of_two (λ (z : Expr). mentions z x) (b && false) b es
    by_test rec false = let at : k + suc n ≡ suc k + n = omega arith in ap (λ (m : ℕ). stands_elsewhere m x (suc k) es) at ∙ rec
    by_test rec true = sym (once_any (λ (z : Expr). mentions z x) es ∙ some_at (λ (z : Expr). mentions z x) es n (Var x) h (same_self x))

-- ---- smashed dummies

pub smashed_same : (smashed : Name → Bool) (f g : ℕ → Expr → Bool) (n : ℕ) (ds : List Name) (es : List Expr)
    → ((k : ℕ) (e : Expr) → slice_get es k ≡ Some e → f (n + k) e ≡ g (n + k) e) → some_smashed smashed f n ds es ≡ some_smashed smashed g n ds es
smashed_same smashed f g n [] es h = refl
smashed_same smashed f g n (d ∷ ds) [] h = refl
smashed_same smashed f g n (d ∷ ds) (e ∷ es) h =
    let at : n + 0 ≡ n = omega arith in
    let first : f n e ≡ g n e = subst (λ (m : ℕ). f m e ≡ g m e) at (h 0 e refl) in
    ap (λ (b : Bool). (smashed d && b) || some_smashed smashed f (suc n) ds es) first
    ∙ ap (λ (b : Bool). (smashed d && g n e) || b) (smashed_same smashed f g (suc n) ds es (λ k z i. moved k z (h (suc k) z i)))
  where
    moved : (k : ℕ) (z : Expr) → f (n + suc k) z ≡ g (n + suc k) z → f (suc n + k) z ≡ g (suc n + k) z
    moved k z q = let at : n + suc k ≡ suc n + k = omega arith in subst (λ (m : ℕ). f m z ≡ g m z) at q

bare_same : (all : List Expr) (n : ℕ) (e : Expr) → slice_get all n ≡ Some e
    → bare_in (twice_after [] [] (map names_in all)) e ≡ bare_elsewhere all n e
bare_same all n (Var x) h =
    twice_is x [] [] all ∙ (two_same (λ (e : Expr). is_among x (names_in e)) (λ (e : Expr). mentions e x) false false all (λ e. sym (mentioned e x)) ∙ sym (elsewhere_is x 0 n all h)
    ∙ ap (λ (m : ℕ). stands_elsewhere m x 0 all) at)
  where
    at : 0 + n ≡ n
    at = omega arith
bare_same all n (Const c) h = refl
bare_same all n (Truth b) h = refl
bare_same all n (Apply' f shape args) h = refl
bare_same all n (Paren' shape a) h = refl
bare_same all n (Pos' shape a) h = refl
bare_same all n (Neg' shape a) h = refl
bare_same all n (Power' shape a m) h = refl
bare_same all n (Bin' o q a r b) h = refl
bare_same all n (Rel' o q a r b) h = refl
bare_same all n (Not' shape a) h = refl
bare_same all n (And' q a r b) h = refl
bare_same all n (Or' q a r b) h = refl

-- among the names that stand twice is what stands elsewhere too
pub twice_elsewhere : (smashed : Name → Bool) (ds : List Name) (all : List Expr)
    → some_smashed smashed (λ n e. bare_in (twice_after [] [] (map names_in all)) e) 0 ds all ≡ some_smashed smashed (bare_elsewhere all) 0 ds all
twice_elsewhere smashed ds all =
    smashed_same smashed (λ n e. bare_in (twice_after [] [] (map names_in all)) e) (bare_elsewhere all) 0 ds all (λ k e i. placed k e i)
  where
    placed : (k : ℕ) (e : Expr) → slice_get all k ≡ Some e → bare_in (twice_after [] [] (map names_in all)) e ≡ bare_elsewhere all (0 + k) e
    placed k e i = let at : k ≡ 0 + k = omega arith in bare_same all k e i ∙ ap (λ (m : ℕ). bare_elsewhere all m e) at
