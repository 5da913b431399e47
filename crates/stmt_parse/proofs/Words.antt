-- The first word that begins a text.
use Rattle.std.proofs.Common.{◌≡◌, ℕ, zero, suc, ◌+◌, ◌<◌, ◌≤◌, true, false, Some, None, List, [], ◌∷◌, length, map, drop, refl, ap, ◌∙◌, arith}
use Rattle.std.specs.Prelude.{slice_index_or}
use Rattle.fort_syntax.specs.Misspelled.{begins, first_word}
use Rattle.stmt_parse.specs.declared.stems.Stem.{Stem}
use Rattle.stmt_parse.specs.Stems.{stem_text}

pub word_found : (ss : List Stem) (t : List ℕ) (d : Stem) (i : ℕ) → i < length ss → begins (stem_text (slice_index_or ss i d)) t ≡ true
    → first_word (map stem_text (drop i ss)) t ≡ Some (stem_text (slice_index_or ss i d))
word_found [] t d i lt h = absurd (omega arith)
word_found (s ∷ ss) t d zero lt h = rw h refl
word_found (s ∷ ss) t d (suc i) lt h = word_found ss t d i (omega arith) h

passed : (ss : List Stem) (t : List ℕ) (d : Stem) (i : ℕ) → i < length ss → begins (stem_text (slice_index_or ss i d)) t ≡ false
    → first_word (map stem_text (drop i ss)) t ≡ first_word (map stem_text (drop (suc i) ss)) t
passed [] t d i lt h = absurd (omega arith)
passed (s ∷ ss) t d zero lt h = rw h refl
passed (s ∷ ss) t d (suc i) lt h = passed ss t d i (omega arith) h

pub word_passed : (ss : List Stem) (t : List ℕ) (d : Stem) (i : ℕ) → i < length ss → begins (stem_text (slice_index_or ss i d)) t ≡ false
    → first_word (map stem_text (drop i ss)) t ≡ first_word (map stem_text (drop (i + 1) ss)) t
word_passed ss t d i lt h = passed ss t d i lt h ∙ ap (λ k. first_word (map stem_text (drop k ss)) t) (let e : suc i ≡ i + 1 = omega arith in e)

pub no_word_left : (ss : List Stem) (t : List ℕ) (i : ℕ) → length ss ≤ i → first_word (map stem_text (drop i ss)) t ≡ None
no_word_left [] t zero le = refl
no_word_left [] t (suc i) le = refl
no_word_left (s ∷ ss) t zero le = absurd (omega arith)
no_word_left (s ∷ ss) t (suc i) le = no_word_left ss t i (omega arith)
