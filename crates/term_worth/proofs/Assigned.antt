-- Symbols of an assignment, found by the places of their words.
use Rattle.std.proofs.Common.{◌≡◌, ℕ, suc, ◌+◌, Bool, true, false, cond, ◌||◌, List, [], ◌∷◌, ◌++◌, Option, Some, None, IfSome, IfNone, slice_get, if◌then◌else◌, refl, sym, ap, ◌∙◌, subst, nat_eq, arith, true≢false}
use Rattle.std.specs.Cmp.Lexicographic.{pointwise, same_text}
use Rattle.std.specs.List.{list_any, position, position_from}
use Rattle.std.specs.Map.{keys_of}
use Rattle.std.proofs.lemmas.Cmp.{nat_list_eq_equiv}
use Rattle.std.proofs.lemmas.Iterator.Adapters.{position_from-zero}
use Rattle.indexmap.specs.IndexSet.{insert_key}
use Rattle.formula.specs.declared.value.Value.{Value}
use Rattle.formula.specs.declared.value.Value.TheVariants.{Undefined}
use Rattle.formula.specs.Atoms.{same_bytes}
use Rattle.term_worth.specs.Sheets.{AreDistinct, is_set}
use Rattle.formula.specs.Worth.{assigned}

-- ---- a word among the symbols

pub is_set_keys : (es : List (List ℕ × Value)) (s : List ℕ) → list_any (pointwise nat_eq s) (keys_of es) ≡ is_set es s
is_set_keys [] s = refl
is_set_keys (e ∷ es) s = λ i. nat_list_eq_equiv.symm s e.0 i || is_set_keys es s i

-- ---- the place of a word

-- the entry at a place, counted from i, has the symbol and its value; with no place the symbol has none
abbrev Found : List (List ℕ × Value) → List ℕ → ℕ → Option ℕ → Type 0
Found es s i None = assigned es s ≡ Undefined
Found es s i (Some k) = (j : ℕ) × (k ≡ i + j) × (slice_get es j ≡ Some (s, assigned es s))

later : (e : List ℕ × Value) (es : List (List ℕ × Value)) (s : List ℕ) (i : ℕ) (r : Option ℕ) → same_bytes e.0 s ≡ false → Found es s (i + 1) r → Found (e ∷ es) s i r
later e es s i None other h = ap (λ b. if b then e.1 else assigned es s) other ∙ h
later e es s i (Some k) other h =
    let place : k ≡ i + 1 + h.0 = h.1 in
    (suc h.0, omega arith, h.2 ∙ ap (λ v. Some (s, v)) (sym (ap (λ b. if b then e.1 else assigned es s) other)))

here : (e : List ℕ × Value) (es : List (List ℕ × Value)) (s : List ℕ) (i : ℕ) (rest : Option ℕ) (b : Bool) → same_bytes e.0 s ≡ b → Found es s (i + 1) rest
    → Found (e ∷ es) s i (cond b (Some i) rest)
here e es s i rest true same h =
    let value : e.1 ≡ assigned (e ∷ es) s = sym (ap (λ b. if b then e.1 else assigned es s) same) in
    let symbol : e.0 ≡ s = same_text e.0 s (sym same) in
    (0, omega arith, λ j. Some (symbol j, value j))
here e es s i rest false other h = later e es s i rest other h

found_from : (es : List (List ℕ × Value)) (s : List ℕ) (i : ℕ) → Found es s i (position_from (pointwise nat_eq s) i (keys_of es))
found_from [] s i = refl
found_from (e ∷ es) s i =
    here e es s i (position_from (pointwise nat_eq s) (i + 1) (keys_of es)) (pointwise nat_eq s e.0) (nat_list_eq_equiv.symm e.0 s) (found_from es s (i + 1))

found : (es : List (List ℕ × Value)) (s : List ℕ) (r : Option ℕ) → r ≡ position (pointwise nat_eq s) (keys_of es) → Found es s 0 r
found es s r is = subst (Found es s 0) (sym (is ∙ position_from-zero (pointwise nat_eq s) (keys_of es))) (found_from es s 0)

entry_at : (es : List (List ℕ × Value)) (s : List ℕ) (r : Option ℕ) → Found es s 0 r → IfSome r (λ k. slice_get es k ≡ Some (s, assigned es s))
entry_at es s None h = tt
entry_at es s (Some k) h = let same : h.0 ≡ k = omega (arith, h.1) in subst (λ j. slice_get es j ≡ Some (s, assigned es s)) same h.2

pub entry_found : (es : List (List ℕ × Value)) (s : List ℕ) (r : Option ℕ) → r ≡ position (pointwise nat_eq s) (keys_of es)
    → IfSome r (λ k. slice_get es k ≡ Some (s, assigned es s))
entry_found es s r is = entry_at es s r (found es s r is)

none_at : (es : List (List ℕ × Value)) (s : List ℕ) (r : Option ℕ) → Found es s 0 r → IfNone r (assigned es s ≡ Undefined)
none_at es s None h = h
none_at es s (Some k) h = tt

pub none_found : (es : List (List ℕ × Value)) (s : List ℕ) (r : Option ℕ) → r ≡ position (pointwise nat_eq s) (keys_of es) → IfNone r (assigned es s ≡ Undefined)
none_found es s r is = none_at es s r (found es s r is)

-- ---- an entry more

keys_push : (es : List (List ℕ × Value)) (s : List ℕ) (v : Value) → keys_of (es ++ (s, v) ∷ []) ≡ keys_of es ++ s ∷ []
keys_push [] s v = refl
keys_push (e ∷ es) s v = ap (λ ks. e.0 ∷ ks) (keys_push es s v)

both_false : (a b : Bool) → (a || b) ≡ false → (a ≡ false) × (b ≡ false)
both_false true b e = absurd (true≢false e)
both_false false b e = (refl, e)

none_of : (a b : Bool) → a ≡ false → b ≡ false → (a || b) ≡ false
none_of a b x y = λ i. x i || y i

not_pushed : (es : List (List ℕ × Value)) (s : List ℕ) (v : Value) (q : List ℕ) → is_set es q ≡ false → same_bytes s q ≡ false → is_set (es ++ (s, v) ∷ []) q ≡ false
not_pushed [] s v q none other = none_of (same_bytes s q) false other refl
not_pushed (e ∷ es) s v q none other =
    let h = both_false (same_bytes e.0 q) (is_set es q) none in
    none_of (same_bytes e.0 q) (is_set (es ++ (s, v) ∷ []) q) h.0 (not_pushed es s v q h.1 other)

distinct_push : (es : List (List ℕ × Value)) (s : List ℕ) (v : Value) → AreDistinct es → is_set es s ≡ false → AreDistinct (es ++ (s, v) ∷ [])
distinct_push [] s v h none = (refl, tt)
distinct_push (e ∷ es) s v h none =
    let n = both_false (same_bytes e.0 s) (is_set es s) none in
    (not_pushed es s v e.0 h.0 (nat_list_eq_equiv.symm s e.0 ∙ n.0), distinct_push es s v h.1 n.1)

pub pushed : (es fs : List (List ℕ × Value)) (ks ls : List (List ℕ)) (s : List ℕ) (v : Value) → ks ≡ keys_of es → AreDistinct es → is_set es s ≡ false
    → fs ≡ es ++ (s, v) ∷ [] → ls ≡ insert_key (pointwise nat_eq) ks s → (ls ≡ keys_of fs) × AreDistinct fs
pushed es fs ks ls s v keys distinct none more key =
    let absent : list_any (pointwise nat_eq s) ks ≡ false = ap (list_any (pointwise nat_eq s)) keys ∙ is_set_keys es s ∙ none in (
      key ∙ ap (λ b. if b then ks else ks ++ s ∷ []) absent ∙ ap (λ ms. ms ++ s ∷ []) keys ∙ sym (keys_push es s v) ∙ ap keys_of (sym more),
      subst AreDistinct (sym more) (distinct_push es s v distinct none),
    )
