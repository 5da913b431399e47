-- What stands behind a word.
use Rattle.std.proofs.Common.{◌≡◌, ℕ, Bool, true, false, if◌then◌else◌, Some, None, List, ◌++◌, length, take, drop, refl, sym, ap, ◌∙◌}
use Rattle.std.proofs.Math.Seq.{take-append_seam, drop-append_seam}
use Rattle.std.proofs.lemmas.Cmp.{nat_list_eq_equiv}
use Rattle.std.proofs.lemmas.List.{take-append-drop}
use Rattle.std.specs.Cmp.Lexicographic.{same_text}
use Rattle.formula.specs.Atoms.{same_bytes}
use Rattle.fort_syntax.specs.Misspelled.{begins}
use Rattle.event_reading.specs.Readings.{after}

-- what a test chooses
pub when_true : {A : Type 0} (b : Bool) (x y : A) → b ≡ true → (if b then x else y) ≡ x
when_true true x y h = refl
when_true false x y h = absurd cc

pub when_false : {A : Type 0} (b : Bool) (x y : A) → b ≡ false → (if b then x else y) ≡ y
when_false false x y h = refl
when_false true x y h = absurd cc

pub same_true : (w : List ℕ) → same_bytes w w ≡ true
same_true w = nat_list_eq_equiv.refl w

-- a word, and what follows
pub after_read : (w r : List ℕ) → after w (w ++ r) ≡ Some r
after_read w r =
    let begun : begins w (w ++ r) ≡ true = ap (same_bytes w) (take-append_seam w r) ∙ same_true w in
    when_true (begins w (w ++ r)) _ _ begun ∙ ap (λ l. Some l) (drop-append_seam w r)

pub begun : (w t : List ℕ) → begins w t ≡ true → t ≡ w ++ drop (length w) t
begun w t h = sym (take-append-drop (length w) t) ∙ ap (λ l. l ++ drop (length w) t) (sym (same_text w (take (length w) t) (sym h)))

pub after_some : (w t r : List ℕ) → after w t ≡ Some r → t ≡ w ++ r
after_some w t r e = by (begins w t) refl e
  where
    by : (b : Bool) → begins w t ≡ b → (if b then Some (drop (length w) t) else None) ≡ Some r → t ≡ w ++ r
    by false h k = absurd cc
    by true h k =
        let rest : drop (length w) t ≡ r = cc in
        let front : w ≡ take (length w) t = same_text w (take (length w) t) (sym h) in
        sym (take-append-drop (length w) t) ∙ (λ i. sym front i ++ rest i)

pub after_none : (w t r : List ℕ) → after w t ≡ None → t ≡ w ++ r → ⊥
after_none w t r e same =
    let bad : Some r ≡ None = sym (after_read w r) ∙ ap (after w) (sym same) ∙ e in
    absurd cc
