-- The list that is read is spelled by the text before what is left.
use Rattle.std.proofs.Common.{◌≡◌, ℕ, zero, suc, true, Some, List, [], ◌∷◌, ◌++◌, drop, codes, inl, inr, refl, sym, ◌∙◌, subst, append_assoc}
use Rattle.std.proofs.lemmas.List.{append-nil}
use Rattle.fort_syntax.specs.Spelled.{Texts, just, ◌⨾◌}
use Rattle.fort_syntax.specs.Grammar.{more_listed, comma_list, in_brackets}
use Rattle.fort_syntax.specs.Misspelled.{begins}
use Rattle.stmt_parse.specs.Tokens.{◌>>=◌, after}
use Rattle.stmt_parse.specs.Statements.{Reader, more_of, list_of, rest_of_brackets, brackets_at}
use Rattle.std.proofs.lemmas.Option.{same_Some}
use Rattle.stmt_parse.proofs.ExpressionsAnswers.{Begun, first_step, by_test, begun, followed}
use Rattle.stmt_parse.proofs.Readings.{IsSound, word_begun}

-- what was added to a list is spelled
abbrev More : {A : Type 0} → (A → Texts) → List A → List ℕ → List A × List ℕ → Type 0
More {A} P xs t z = (zs : List A) × (z.0 ≡ xs ++ zs) × Begun (more_listed P zs) t z.1

one_more : {A : Type 0} (P : A → Texts) (xs : List A) (t : List ℕ) (x : A × List ℕ) (z : List A × List ℕ)
    → begins (codes ",") t ≡ true → Begun (P x.0) (drop 1 t) x.1 → More P (xs ++ x.0 ∷ []) x.1 z → More P xs t z
one_more P xs t x z comma first more = (
  x.0 ∷ more.0,
  more.1 ∙ append_assoc xs (x.0 ∷ []) more.0,
  followed _ _ t (drop 1 t) z.1 (codes ",", begun (codes ",") t comma, refl)
      (followed _ _ (drop 1 t) x.1 z.1 first more.2),
)

no_more : {A : Type 0} (P : A → Texts) (xs : List A) (t : List ℕ) (z : List A × List ℕ) → Some (xs, t) ≡ Some z
    → More P xs t z
no_more P xs t z h = subst (More P xs t) (same_Some (xs, t) z h) ([], sym (append-nil xs), ([], refl, refl))

more_spelled : {A : Type 0} (read : Reader A) (P : A → Texts) → IsSound read P
    → (n : ℕ) (xs : List A) (t : List ℕ) (z : List A × List ℕ) → more_of read n xs t ≡ Some z → More P xs t z
more_spelled read P sound zero xs t z h = absurd cc
more_spelled read P sound (suc n) xs t z h =
    elim (by_test (begins (codes ",") t) (read (drop 1 t)
    >>= λ x. more_of read n (xs ++ x.0 ∷ []) x.1) (Some (xs, t)) (Some z) h) [
      | inl p ↦
          let x = first_step (read (drop 1 t)) (λ x. more_of read n (xs ++ x.0 ∷ []) x.1) z p.1 in
          one_more P xs t x.0 z p.0 (sound (drop 1 t) x.0 x.1)
          (more_spelled read P sound n (xs ++ x.0.0 ∷ []) x.0.1 z x.2)
      | inr p ↦ no_more P xs t z p.1
    ]

pub list_spelled : {A : Type 0} (read : Reader A) (P : A → Texts) → IsSound read P
    → (n : ℕ) (t : List ℕ) (z : List A × List ℕ) → list_of read n t ≡ Some z → Begun (comma_list P z.0) t z.1
unfolding list_of
list_spelled read P sound n t z h =
    let x = first_step (read t) (λ x. more_of read n (x.0 ∷ []) x.1) z h in
    let m = more_spelled read P sound n (x.0.0 ∷ []) x.0.1 z x.2 in
    subst (λ l. Begun (comma_list P l) t z.1) (sym m.1) (followed _ _ t x.0.1 z.1 (sound t x.0 x.1) m.2)

pub rest_spelled : {A : Type 0} (read : Reader A) (P : A → Texts) → IsSound read P
    → (n : ℕ) (t : List ℕ) (z : List A × List ℕ) → rest_of_brackets read n t ≡ Some z
    → Begun (comma_list P z.0 ⨾ just (codes ")")) t z.1
unfolding rest_of_brackets
rest_spelled read P sound n t z h =
    let xs = first_step (list_of read n t) (λ xs. after (codes ")") xs.1 >>= λ rest. Some (xs.0, rest)) z h in
    let rest = first_step (after (codes ")") xs.0.1) (λ rest. Some (xs.0.0, rest)) z xs.2 in
    subst (λ y. Begun (comma_list P y.0 ⨾ just (codes ")")) t y.1) (same_Some (xs.0.0, rest.0) z rest.2)
    (followed _ _ t xs.0.1 rest.0 (list_spelled read P sound n t xs.0 xs.1)
    (word_begun (codes ")") xs.0.1 rest.0 rest.1))

in_both : {A : Type 0} (P : A → Texts) (xs : List A) (t r : List ℕ) → begins (codes "(") t ≡ true
    → Begun (comma_list P xs ⨾ just (codes ")")) (drop 1 t) r → Begun (in_brackets P xs) t r
in_both P [] t r opened b = absurd (b.2).3
in_both P (x ∷ xs) t r opened b = followed _ _ t (drop 1 t) r (codes "(", begun (codes "(") t opened, refl) b

pub brackets_spelled : {A : Type 0} (read : Reader A) (P : A → Texts) → IsSound read P
    → (n : ℕ) (t : List ℕ) (z : List A × List ℕ) → brackets_at read n t ≡ Some z → Begun (in_brackets P z.0) t z.1
unfolding brackets_at
brackets_spelled read P sound n t z h =
    elim (by_test (begins (codes "(") t) (rest_of_brackets read n (drop 1 t)) (Some ([], t)) (Some z) h) [
      | inl p ↦ in_both P z.0 t z.1 p.0 (rest_spelled read P sound n (drop 1 t) z p.1)
      | inr p ↦ subst (λ y. Begun (in_brackets P y.0) t y.1) (same_Some ([], t) z p.1) ([], refl, refl)
    ]
