-- What it takes for a writer to agree with the texts of a grammar, and how it is put together.
use Rattle.std.proofs.Common.{◌≡◌, ℕ, ◌+◌, ◌-◌, Bool, true, false, Some, List, [], ◌∷◌, ◌++◌, refl, sym, ap, ◌∙◌, append_assoc}
use Rattle.std.specs.Prelude.{◌==◌, ◌||◌, nat_le, if◌then◌else◌}
use Rattle.std.proofs.lemmas.Option.{none-some, same_Some}
use Rattle.fort_syntax.specs.Spelled.{Texts, nothing, just, ◌⨾◌}
use Rattle.fort_syntax.specs.Grammar.{is_deep_from}
use Rattle.stmt_parse.specs.Writing.{Writer, never, put, ◌⊕◌, given}
use Rattle.stmt_parse.proofs.ExpressionsAnswers.{first_step, when_passed}
use Rattle.stmt_parse.proofs.TokensRead.{when_true, when_false}
use Rattle.stmt_parse.proofs.PartEnds.{step_to}

-- ---- brackets

abbrev pub is_bracket : ℕ → Bool
is_bracket b = (b == 40) || (b == 41)

-- the brackets in a text
abbrev pub brackets : List ℕ → List ℕ
brackets [] = []
brackets (b ∷ t) = if is_bracket b then b ∷ brackets t else brackets t

one_or_none : (c : Bool) (b : ℕ) (s r : List ℕ) → (if c then b ∷ (s ++ r) else s ++ r) ≡ (if c then b ∷ s else s) ++ r
one_or_none true b s r = refl
one_or_none false b s r = refl

pub brackets-append : (s r : List ℕ) → brackets (s ++ r) ≡ brackets s ++ brackets r
brackets-append [] r = refl
brackets-append (b ∷ s) r =
    ap (λ x. if is_bracket b then b ∷ x
    else x) (brackets-append s r) ∙ one_or_none (is_bracket b) b (brackets s) (brackets r)

either_true : (x y : Bool) → y ≡ true → (x || y) ≡ true
either_true true y h = refl
either_true false y h = h

first_true : (x y : Bool) → x ≡ true → (x || y) ≡ true
first_true true y h = refl
first_true false y h = absurd cc

both_false : (x y : Bool) → x ≡ false → y ≡ false → (x || y) ≡ false
both_false false y h k = k
both_false true y h k = absurd cc

-- what one byte does to the depth
abbrev stepped : ℕ → ℕ → List ℕ → Bool
stepped k b t = is_deep_from k (b ∷ t)

deep_step : (c d : Bool) (b k : ℕ) (t : List ℕ) → (b == 40) ≡ c → (b == 41) ≡ d
    → ((j : ℕ) → is_deep_from j t ≡ is_deep_from j (brackets t))
    → is_deep_from k (b ∷ t) ≡ is_deep_from k (brackets (b ∷ t))
deep_step true d b k t p q same =
    when_true (b == 40) _ _ p ∙ ap (λ x. nat_le 64 k || x) (same (k + 1))
    ∙ sym (ap (is_deep_from k) (when_true (is_bracket b) (b ∷ brackets t) (brackets t) (first_true (b == 40) _ p))
    ∙ when_true (b == 40) _ _ p)
deep_step false true b k t p q same =
    when_false (b == 40) _ _ p ∙ when_true (b == 41) _ _ q ∙ same (k - 1)
    ∙ sym (ap (is_deep_from k) (when_true (is_bracket b) (b ∷ brackets t) (brackets t) (either_true (b == 40) _ q))
    ∙ when_false (b == 40) _ _ p ∙ when_true (b == 41) _ _ q)
deep_step false false b k t p q same =
    when_false (b == 40) _ _ p ∙ when_false (b == 41) _ _ q ∙ same k
    ∙ sym (ap (is_deep_from k) (when_false (is_bracket b) (b ∷ brackets t) (brackets t) (both_false (b == 40) _ p q)))

-- the depth of a text is that of its brackets
pub deep_by_brackets : (t : List ℕ) (k : ℕ) → is_deep_from k t ≡ is_deep_from k (brackets t)
deep_by_brackets [] k = refl
deep_by_brackets (b ∷ t) k = deep_step (b == 40) (b == 41) b k t refl refl (deep_by_brackets t)

-- ---- writers

-- what is written is one of the texts; and where there are texts one is written, with the brackets of each
pub record Agrees (P : Texts) (w : Writer) : Type 0 where
  pub sound : (t c : List ℕ) → w t ≡ Some c → (x : List ℕ) × (c ≡ t ++ x) × P x
  pub complete : (t x : List ℕ) → P x → (y : List ℕ) × (w t ≡ Some (t ++ y)) × (brackets x ≡ brackets y)

pub put_agrees : (s : List ℕ) → Agrees (just s) (put s)
put_agrees s = record {
  sound = λ t c h. (s, sym (same_Some (t ++ s) c h), refl);
  complete = λ t x h. (s, refl, ap brackets h);
}

pub never_agrees : Agrees nothing never
never_agrees = record { sound = λ t c h. absurd (none-some c h); complete = λ t x h. absurd h }

then_sound : {P Q : Texts} {v w : Writer} → Agrees P v → Agrees Q w → (t c : List ℕ) → (v ⊕ w) t ≡ Some c
    → (x : List ℕ) × (c ≡ t ++ x) × (P ⨾ Q) x
then_sound {v = v} {w = w} p q t c h =
    let m = first_step (v t) w c h in
    let a = p.sound t m.0 m.1 in
    let b = q.sound m.0 c m.2 in
    (a.0 ++ b.0, b.1 ∙ ap (λ y. y ++ b.0) a.1 ∙ append_assoc t a.0 b.0, (a.0, b.0, refl, a.2, b.2))

then_complete : {P Q : Texts} {v w : Writer} → Agrees P v → Agrees Q w → (t x : List ℕ) → (P ⨾ Q) x
    → (y : List ℕ) × ((v ⊕ w) t ≡ Some (t ++ y)) × (brackets x ≡ brackets y)
then_complete {v = v} {w = w} p q t x h =
    let a = p.complete t h.0 h.3 in
    let b = q.complete (t ++ a.0) h.1 h.4 in (
      a.0 ++ b.0,
      step_to (v t) (t ++ a.0) w _ a.1 b.1 ∙ ap Some (append_assoc t a.0 b.0),
      ap brackets h.2 ∙ brackets-append h.0 h.1 ∙ (λ i. a.2 i ++ b.2 i) ∙ sym (brackets-append a.0 b.0),
    )

pub then_agrees : {P Q : Texts} {v w : Writer} → Agrees P v → Agrees Q w → Agrees (P ⨾ Q) (v ⊕ w)
then_agrees p q = record { sound = then_sound p q; complete = then_complete p q }

pub given_agrees : {P : Texts} {w : Writer} (b : Bool) (B : Type 0) → (b ≡ true → B) → (B → b ≡ true) → Agrees P w
    → Agrees (λ x. B × P x) (given b w)
given_agrees {w = w} b B to from p = record {
  sound = λ t c h. let q = when_passed b (w t) c h in let a = p.sound t c q.1 in (a.0, a.1, (to q.0, a.2));
  complete = λ t x h. let a = p.complete t x h.1 in (a.0, when_true b _ _ (from h.0) ∙ a.1, a.2);
}

pub same_agrees : {P Q : Texts} {w : Writer} → ((x : List ℕ) → P x → Q x) → ((x : List ℕ) → Q x → P x) → Agrees P w
    → Agrees Q w
same_agrees to from p = record {
  sound = λ t c h. let a = p.sound t c h in (a.0, a.1, to a.0 a.2);
  complete = λ t x h. p.complete t x (from x h);
}
