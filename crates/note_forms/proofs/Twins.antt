-- A table of symbols that is filled from the back.
use Rattle.std.proofs.Common.{◌≡◌, ℕ, zero, suc, ◌<◌, Bool, true, false, not, List, [], ◌∷◌, ◌++◌, length, drop, map, get_or, refl, sym, ap, ◌∙◌, subst, arith}
use Rattle.std.specs.Prelude.{◌||◌, if◌then◌else◌}
use Rattle.formula.specs.Atoms.{same_bytes, has_twin, is_among}
use Rattle.formula.specs.declared.value.Value.{Value}

abbrev pub symbols : List (List ℕ × Value) → List (List ℕ)
symbols sheet = map (λ e. e.0) sheet

swap : (a b c : Bool) → (a || (b || c)) ≡ (b || (a || c))
swap true true c = refl
swap true false c = refl
swap false b c = refl

either : (a : Bool) → (a || true) ≡ true
either true = refl
either false = refl

-- a symbol twice at the back is one twice in all
pub twin_behind : (i : ℕ) (ws : List (List ℕ)) → has_twin (drop i ws) ≡ true → has_twin ws ≡ true
twin_behind zero ws e = e
twin_behind (suc i) [] e = e
twin_behind (suc i) (w ∷ ws) e = ap (λ b. is_among w ws || b) (twin_behind i ws e) ∙ either (is_among w ws)

-- the symbol at a place
pub symbol_at : (sheet : List (List ℕ × Value)) (i : ℕ) (d : List ℕ × Value) → i < length sheet → drop i (symbols sheet) ≡ (get_or sheet i d).0 ∷ drop (suc i) (symbols sheet)
symbol_at [] i d lt = absurd (omega arith)
symbol_at (x ∷ xs) zero d lt = refl
symbol_at (x ∷ xs) (suc i) d lt = symbol_at xs i d (omega arith)

among_more : (x w : List ℕ) (old : List (List ℕ)) → is_among x (old ++ w ∷ []) ≡ (same_bytes x w || is_among x old)
among_more x w [] = refl
among_more x w (y ∷ old) = ap (λ b. same_bytes x y || b) (among_more x w old) ∙ swap (same_bytes x y) (same_bytes x w) (is_among x old)

pub was_among : (b new : Bool) → new ≡ not b → not new ≡ true → b ≡ true
was_among true new e h = refl
was_among false new e h = absurd (cc)

pub was_new : (b new : Bool) → new ≡ not b → not new ≡ false → b ≡ false
was_new false new e h = refl
was_new true new e h = absurd (cc)

module _ (ws : List (List ℕ)) (i n : ℕ) (w : List ℕ) (old : List (List ℕ)) (next : n ≡ suc i) (here : drop i ws ≡ w ∷ drop (suc i) ws)
    (seen : (x : List ℕ) → is_among x old ≡ is_among x (drop n ws)) where
  later : (x : List ℕ) → is_among x old ≡ is_among x (drop (suc i) ws)
  later x = seen x ∙ ap (λ k. is_among x (drop k ws)) next

  -- one that was seen is there twice
  pub twin_found : is_among w old ≡ true → has_twin ws ≡ true
  twin_found e = twin_behind i ws (ap has_twin here ∙ ap (λ b. b || has_twin (drop (suc i) ws)) (sym (later w) ∙ e))

  -- one that was not is seen now
  pub seen_next : (new : List (List ℕ)) → new ≡ (if is_among w old then old else old ++ w ∷ []) → is_among w old ≡ false → (x : List ℕ) → is_among x new ≡ is_among x (drop i ws)
  seen_next new put e x =
      ap (is_among x) (put ∙ ap (λ b. if b then old else old ++ w ∷ []) e) ∙ among_more x w old ∙ ap (λ b. same_bytes x w || b) (later x) ∙ sym (ap (is_among x) here)

  pub differ_next : is_among w old ≡ false → has_twin (drop n ws) ≡ false → has_twin (drop i ws) ≡ false
  differ_next e h =
      ap has_twin here ∙ ap (λ b. b || has_twin (drop (suc i) ws)) (sym (later w) ∙ e) ∙ sym (ap (λ k. has_twin (drop k ws)) next) ∙ h
