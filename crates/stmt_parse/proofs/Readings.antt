-- What a reading of a whole text that succeeds has read.
use Rattle.std.proofs.Common.{◌≡◌, ◌⊎◌, ℕ, true, Option, Some, None, List, [], ◌∷◌, ◌++◌, length, drop, inl, inr, refl, sym, ap, ◌∙◌, subst, arith}
use Rattle.std.specs.Prelude.{◌==◌}
use Rattle.std.proofs.lemmas.List.{append-nil}
use Rattle.std.proofs.lemmas.Option.{none-some, same_Some}
use Rattle.std.proofs.lemmas.Bool.Decides.{nat_tests}
use Rattle.fort_syntax.specs.declared.stmt.Stmt.{Stmt}
use Rattle.fort_syntax.specs.Spelled.{Texts, just, ◌⨾◌}
use Rattle.fort_syntax.specs.Misspelled.{begins}
use Rattle.stmt_parse.specs.Tokens.{after}
use Rattle.stmt_parse.specs.Statements.{Reader, whole, is_word, or_other}
use Rattle.stmt_parse.proofs.ExpressionsAnswers.{Begun, both_true, begun, begun_after}

-- whatever is read is spelled
abbrev pub IsSound : {A : Type 0} → Reader A → (A → Texts) → Type 0
IsSound {A} read P = (t : List ℕ) (z : A × List ℕ) → read t ≡ Some z → Begun (P z.0) t z.1

-- an answer is one of two
pub one_of : (m n : Option Stmt) (y : Stmt) → or_other m n ≡ Some y → (m ≡ Some y) ⊎ (n ≡ Some y)
one_of (Some x) n y h = inl h
one_of None n y h = inr h

-- ---- words that are whole texts

same_length : (m n : ℕ) → (m == n) ≡ true → m ≡ n
same_length m n h = grind (arith, nat_tests)

none_behind : (w r : List ℕ) → length (w ++ r) ≡ length w → r ≡ []
none_behind [] [] h = refl
none_behind [] (b ∷ r) h = absurd (omega arith)
none_behind (b ∷ w) r h = none_behind w r (omega arith)

pub word_so : (w t : List ℕ) → is_word w t ≡ true → t ≡ w
word_so w t h =
    let p = both_true (begins w t) _ h in
    let e = begun w t p.0 in
    e ∙ ap (λ r. w ++ r) (none_behind w (drop (length w) t) (sym (ap length e)
    ∙ same_length (length t) (length w) p.1)) ∙ append-nil w

-- ---- texts one behind another

pub word_begun : (w t r : List ℕ) → after w t ≡ Some r → Begun (just w) t r
word_begun w t r h = (w, begun_after w t r h, refl)

last : {A : Type 0} (P : A → Texts) (t r : List ℕ) (x w : A) → whole (x, r) ≡ Some w → Begun (P x) t r → P w t
last P t [] x w h b = subst (λ y. P y t) (same_Some x w h) (subst (P x) (sym (b.1 ∙ append-nil b.0)) b.2)
last P t (c ∷ r) x w h b = absurd (none-some w h)

-- what was read is the whole text
pub ended : {A : Type 0} (P : A → Texts) (t : List ℕ) (z : A × List ℕ) (w : A) → whole z ≡ Some w → Begun (P z.0) t z.1
    → P w t
ended P t z w h b = last P t z.1 z.0 w h b

-- a text is put together
pub first_of_all : {P Q : Texts} (t r : List ℕ) → Begun P t r → Q r → (P ⨾ Q) t
first_of_all t r b q = (b.0, r, b.1, b.2, q)

pub word_and_rest : {Q : Texts} (w t : List ℕ) → Q t → (just w ⨾ Q) (w ++ t)
word_and_rest w t q = (w, t, refl, refl, q)

pub word_then : {Q : Texts} (w t r : List ℕ) → after w t ≡ Some r → Q r → (just w ⨾ Q) t
word_then w t r h q = (w, r, begun_after w t r h, refl, q)
