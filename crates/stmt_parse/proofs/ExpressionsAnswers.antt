-- What an answer of a reader says of the steps that led to it.
use Rattle.std.proofs.Common.{◌≡◌, ℕ, Bool, true, false, Option, Some, None, List, ◌++◌, length, take, drop, refl, sym, ap, subst, ◌∙◌, append_assoc, inl, inr, ◌⊎◌}
use Rattle.std.specs.Prelude.{◌&&◌, not, if◌then◌else◌}
use Rattle.std.specs.Cmp.Lexicographic.{same_text}
use Rattle.std.proofs.lemmas.List.{take-append-drop}
use Rattle.std.proofs.lemmas.Option.{none-some, same_Some}
use Rattle.fort_syntax.specs.Misspelled.{begins}
use Rattle.fort_syntax.specs.Spelled.{Texts, just, ◌⨾◌}
use Rattle.stmt_parse.specs.Tokens.{Reading, ◌>>=◌, after}

-- one of these texts begins the text, and the rest is behind it
abbrev pub Begun : Texts → List ℕ → List ℕ → Type 0
Begun P t r = (x : List ℕ) × (t ≡ x ++ r) × P x

-- an answer of two steps has an answer of the first
pub first_step : {A B : Type 0} (first : Option A) (next : A → Option B) (y : B) → (first >>= next) ≡ Some y
    → (x : A) × (first ≡ Some x) × (next x ≡ Some y)
first_step (Some x) next y h = (x, refl, h)
first_step None next y h = absurd (none-some y h)

-- what was chosen by a test
pub by_test : {A : Type 0} (b : Bool) (x y z : A) → (if b then x else y) ≡ z
    → ((b ≡ true) × (x ≡ z)) ⊎ ((b ≡ false) × (y ≡ z))
by_test true x y z h = inl (refl, h)
by_test false x y z h = inr (refl, h)

-- an answer that only a true test gives
pub when_passed : {A : Type 0} (b : Bool) (x : Option A) (y : A) → (if b then x else None) ≡ Some y
    → (b ≡ true) × (x ≡ Some y)
when_passed true x y h = (refl, h)
when_passed false x y h = absurd (none-some y h)

-- an answer that only a false test gives
pub when_refused : {A : Type 0} (b : Bool) (x : Option A) (y : A) → (if b then None else x) ≡ Some y
    → (b ≡ false) × (x ≡ Some y)
when_refused false x y h = (refl, h)
when_refused true x y h = absurd (none-some y h)

-- two answers are the same
abbrev pub Same : {A : Type 0} → A → A → List ℕ → List ℕ → Type 0
Same {A} a b t r = ◌≡◌ {A = Reading A} (Some (a, t)) (Some (b, r))

-- the parts of two answers that are the same
pub same_answer : {A : Type 0} (a b : A) (t r : List ℕ) → Same a b t r → (a ≡ b) × (t ≡ r)
same_answer a b t r h = let p = same_Some (a, t) (b, r) h in (ap (λ z. z.0) p, ap (λ z. z.1) p)

-- the tests of two that hold
pub both_true : (x y : Bool) → (x && y) ≡ true → (x ≡ true) × (y ≡ true)
both_true true y h = (refl, h)
both_true false y h = absurd (let bad : false ≡ true = h in cc)

-- what is not so is false
pub untrue : (b : Bool) → not b ≡ true → b ≡ false
untrue false h = refl
untrue true h = absurd (let bad : false ≡ true = h in cc)

-- the word that begins a text, and what is behind it
pub begun : (word t : List ℕ) → begins word t ≡ true → t ≡ word ++ drop (length word) t
begun word t h =
    sym (take-append-drop (length word) t) ∙ ap (λ x. x ++ drop (length word) t) (sym (same_text word (take (length word) t) (sym h)))

-- the same of what a reader of words answers
pub begun_after : (word t r : List ℕ) → after word t ≡ Some r → t ≡ word ++ r
begun_after word t r h =
    let p = when_passed (begins word t) _ _ h in
    begun word t p.0 ∙ ap (λ x. word ++ x) (same_Some _ _ p.1)

-- ---- texts behind each other

-- a text, and another behind it
pub followed : (P Q : Texts) (t s r : List ℕ) → Begun P t s → Begun Q s r → Begun (P ⨾ Q) t r
followed P Q t s r a b =
    (a.0 ++ b.0, a.1 ∙ ap (λ y. a.0 ++ y) b.1 ∙ sym (append_assoc a.0 b.0 r), (a.0, b.0, refl, a.2, b.2))

-- a word, and a text behind it
pub word_first : (word t : List ℕ) (Q : Texts) (r : List ℕ) → begins word t ≡ true → Begun Q (drop (length word) t) r
    → Begun (just word ⨾ Q) t r
word_first word t Q r h rest = followed (just word) Q t (drop (length word) t) r (word, begun word t h, refl) rest

-- a text, and a word behind it
pub word_last : (P : Texts) (word t s r : List ℕ) → Begun P t s → after word s ≡ Some r → Begun (P ⨾ just word) t r
word_last P word t s r first h = followed P (just word) t s r first (word, begun_after word s r h, refl)

-- what is true of the text implies more
pub begun_so : (P Q : Texts) (t r : List ℕ) → ((x : List ℕ) → P x → Q x) → Begun P t r → Begun Q t r
begun_so P Q t r so h = (h.0, h.1, so h.0 h.2)

-- what was found of one answer is so of the same answer
pub begun_answer : {A : Type 0} (P : A → Texts) (t : List ℕ) (a b : A) (s r : List ℕ) → Same a b s r → Begun (P a) t s
    → Begun (P b) t r
begun_answer P t a b s r same h = subst (λ z. Begun (P z.0) t z.1) (same_Some (a, s) (b, r) same) h
