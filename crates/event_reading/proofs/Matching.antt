-- Pieces that are passed one after the other.
use Rattle.std.proofs.Common.{◌≡◌, ℕ, Bool, true, false, List, [], ◌∷◌, ◌++◌, refl, sym, ap, ◌∙◌, append_assoc, append-nil, true≢false}
use Rattle.std.specs.Prelude.{◌&&◌}
use Rattle.std.specs.Cmp.Lexicographic.{same_text}
use Rattle.std.proofs.lemmas.Cmp.{nat_list_eq_equiv}
use Rattle.formula.specs.Atoms.{same_bytes}
use Rattle.event_text.proofs.Splits.{one_front}
use Rattle.event_reading.specs.declared.comparing.Comparing.{Comparing}
use Rattle.event_reading.specs.Matches.{Matches, Nears, is_nothing}

pub matches : {a b c : Comparing} {xs ys : List ℕ} → Matches a b xs → Matches b c ys → Matches a c (xs ++ ys)
matches {a} {b} {c} {xs} {ys} h k = record {
  kept = λ s. let later = k.kept s in let sooner = h.kept later.0 in (sooner.0, sooner.1 ∙ ap (λ l. xs ++ l) later.1 ∙ sym (append_assoc xs ys c.rest.now));
  lost = λ s t rest e.
      decide b.same refl
      (λ on. k.lost s on rest (one_front xs b.rest.now (ys ++ rest) (sym (h.kept on).1 ∙ e ∙ append_assoc xs ys rest)))
      (λ off. h.lost off t (ys ++ rest) (e ∙ append_assoc xs ys rest));
}
  where
    decide : (s : Bool) → b.same ≡ s → (b.same ≡ true → ⊥) → (b.same ≡ false → ⊥) → ⊥
    decide true e on off = on e
    decide false e on off = off e

-- nothing was compared any more
pub matches_off : {a : Comparing} (xs : List ℕ) → a.same ≡ false → Matches a a xs
matches_off xs off = record { kept = λ s. absurd (true≢false (sym s ∙ off)); lost = λ s t rest e. absurd (true≢false (sym t ∙ off)) }

pub nears : {a b c : Comparing} {whole mid left : List ℕ} → Nears a b whole mid → Nears b c mid left → Nears a c whole left
nears {a} {b} {c} {whole} {mid} {left} h k = record {
  front = h.front ++ k.front;
  put = matches h.put k.put;
  is = append_assoc h.front k.front left ∙ ap (λ l. h.front ++ l) k.is ∙ h.is;
}

pub nears_same : {a b : Comparing} {whole left other : List ℕ} → left ≡ other → Nears a b whole left → Nears a b whole other
nears_same {a} {b} {whole} e h = record { front = h.front; put = h.put; is = ap (λ l. h.front ++ l) (sym e) ∙ h.is }

pub nears_all : {a b : Comparing} {whole left piece : List ℕ} → Matches a b piece → piece ++ left ≡ whole → Nears a b whole left
nears_all {a} {b} {whole} {left} {piece} m e = record { front = piece; put = m; is = e }

-- the same from a beginning that is alike
pub nears_from : {a b c : Comparing} {whole left : List ℕ} → b.same ≡ a.same → b.rest.now ≡ a.rest.now → Nears a c whole left → Nears b c whole left
nears_from {a} {b} {c} {whole} {left} s r h = record {
  front = h.front;
  put = record {
    kept = λ on. (let k = h.put.kept on in (s ∙ k.0, r ∙ k.1));
    lost = λ off on rest e. h.put.lost off (sym s ∙ on) rest (sym r ∙ e);
  };
  is = h.is;
}

longer : (xs ys : List ℕ) (y : ℕ) → xs ≡ xs ++ y ∷ ys → ⊥
longer [] ys y e = absurd cc
longer (x ∷ xs) ys y e = longer xs ys y (tail e)
  where
    tail : x ∷ xs ≡ x ∷ (xs ++ y ∷ ys) → xs ≡ xs ++ y ∷ ys
    tail p = cc

-- all was passed: the text is the whole just where all was the same and nothing is left
pub whole_same : (a b : Comparing) (whole : List ℕ) → a.same ≡ true → Nears a b whole [] → (b.same && is_nothing b.rest.now) ≡ same_bytes whole a.rest.now
whole_same a b whole on n = by b.same b.rest.now refl refl
  where
    text : b.same ≡ true → a.rest.now ≡ whole ++ b.rest.now
    text s = (n.put.kept s).1 ∙ ap (λ l. l ++ b.rest.now) (sym (append-nil n.front) ∙ n.is)

    test : (t : Bool) → same_bytes whole a.rest.now ≡ t → (whole ≡ a.rest.now → ⊥) → false ≡ t
    test true e f = absurd (f (same_text whole a.rest.now (sym e)))
    test false e f = refl

    differ : (whole ≡ a.rest.now → ⊥) → false ≡ same_bytes whole a.rest.now
    differ f = test (same_bytes whole a.rest.now) refl f

    by : (s : Bool) (r : List ℕ) → b.same ≡ s → b.rest.now ≡ r → (s && is_nothing r) ≡ same_bytes whole a.rest.now
    by true [] p q = sym (ap (same_bytes whole) (text p ∙ ap (λ l. whole ++ l) q ∙ append-nil whole) ∙ nat_list_eq_equiv.refl whole)
    by true (x ∷ r) p q = differ (λ e. longer whole r x (e ∙ text p ∙ ap (λ l. whole ++ l) q))
    by false r p q = differ (λ w. n.put.lost p on [] (sym w ∙ sym n.is))
