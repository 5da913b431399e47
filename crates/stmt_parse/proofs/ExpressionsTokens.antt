-- What is read at the beginning of a text is spelled there: names, constants, powers, operators.
use Rattle.std.proofs.Common.{◌≡◌, ℕ, ◌+◌, ◌-◌, ◌≤◌, true, false, Option, Some, None, List, [], ◌∷◌, ◌++◌, length, take, drop, get_or, codes, refl, sym, ap, subst, ◌∙◌, arith, inl, inr, ◌⊎◌}
use Rattle.std.specs.Prelude.{◌==◌, ◌&&◌, if◌then◌else◌, nat_le}
use Rattle.std.proofs.lemmas.Bool.Decides.{nat_tests}
use Rattle.std.proofs.lemmas.List.{take-append-drop}
use Rattle.std.proofs.lemmas.Option.{none-some}
use Rattle.formula.specs.Atoms.{is_digits, is_long, spelled, is_name}
use Rattle.formula.specs.Reading.{or_else}
use Rattle.fort_syntax.specs.Misspelled.{begins}
use Rattle.fort_syntax.specs.Spelled.{constant, exponent, operator, relation, just, ◌⨾◌}
use Rattle.fort_syntax.specs.declared.dialect.BinOp.TheVariants.{Add, Sub, Mul, Div}
use Rattle.fort_syntax.specs.declared.dialect.RelOp.TheVariants.{Lt, Le, Eq, Ne, Ge, Gt}
use Rattle.stmt_parse.specs.declared.joint.Joint.{Joint}
use Rattle.stmt_parse.specs.declared.joint.Joint.TheVariants as joint
use Rattle.stmt_parse.specs.Tokens.{Reading, name_of_length, name_at, constant_of_length, constant_at, power_at, sign_at, relation_at, logical_at, joint_at}
use Rattle.stmt_parse.proofs.ExpressionsAnswers.{Begun, Same, by_test, when_passed, when_refused, same_answer, both_true, begun}

-- a name
name_taken : (n : ℕ) (t x r : List ℕ) → name_of_length n t ≡ Some (x, r) → (t ≡ x ++ r) × (is_name x ≡ true)
name_taken n t x r h =
    let p = when_passed (is_name (take n t)) _ _ h in
    let q = same_answer (take n t) x (drop n t) r p.1 in
    (sym (take-append-drop n t) ∙ (λ i. q.0 i ++ q.1 i), subst (λ y. is_name y ≡ true) q.0 p.0)

pub name_spelled : (t x r : List ℕ) → name_at t ≡ Some (x, r) → (t ≡ x ++ r) × (is_name x ≡ true)
unfolding name_at
name_spelled t x r h = name_taken _ t x r h

-- a number
constant_taken : (n : ℕ) (t : List ℕ) (c : ℕ) (r : List ℕ) → constant_of_length n t ≡ Some (c, r)
    → Begun (constant c) t r
constant_taken n t c r h =
    let p = when_passed (is_digits (take n t)) _ _ h in
    let q = when_refused (is_long (take n t)) _ _ p.1 in
    let s = same_answer (spelled (take n t)) c (drop n t) r q.1 in
    (take n t, sym (take-append-drop n t) ∙ ap (λ y. take n t ++ y) s.1, (p.0, q.0, sym s.0))

pub constant_spelled : (t : List ℕ) (c : ℕ) (r : List ℕ) → constant_at t ≡ Some (c, r) → Begun (constant c) t r
unfolding constant_at
constant_spelled t c r h = constant_taken _ t c r h

-- `**` and its exponent
exponent_is : (b : ℕ) → nat_le 49 b ≡ true → nat_le b 57 ≡ true → (1 ≤ b - 48) × (b - 48 ≤ 9) × (b ≡ 48 + (b - 48))
exponent_is b low high = (grind (arith, nat_tests), grind (arith, nat_tests), grind (arith, nat_tests))

power_text : (t : List ℕ) (n : ℕ) (r : List ℕ)
    → (begins (codes "**") t && nat_le 49 (get_or t 2 0) && nat_le (get_or t 2 0) 57) ≡ true
    → Same (get_or t 2 0 - 48) n (drop 3 t) r
    → Begun (just (codes "**") ⨾ exponent n) t r
power_text [] n r h same = absurd (let bad : false ≡ true = h in cc)
power_text (a ∷ []) n r h same =
    let begin : (42 == a && false) ≡ true = (both_true _ (nat_le 49 0) (both_true _ (nat_le 0 57) h).0).0 in
    absurd (let bad : false ≡ true = (both_true (42 == a) false begin).1 in cc)
power_text (a ∷ b ∷ []) n r h same =
    let digit : false ≡ true = (both_true (begins (codes "**") (a ∷ b ∷ [])) (nat_le 49 0) (both_true _ (nat_le 0 57) h).0).1 in
    absurd cc
power_text (a ∷ b ∷ c ∷ t) n r h same =
    let p = both_true (begins (codes "**") (a ∷ b ∷ c ∷ t) && nat_le 49 c) (nat_le c 57) h in
    let q = both_true (begins (codes "**") (a ∷ b ∷ c ∷ t)) (nat_le 49 c) p.0 in
    let s = same_answer (c - 48) n t r same in
    let e = exponent_is c q.1 p.1 in
    let digit : exponent n (c ∷ []) = subst (λ m. (1 ≤ m) × (m ≤ 9) × (c ∷ [] ≡ (48 + m) ∷ [])) s.0 (e.0, e.1, ap (λ y. y ∷ []) e.2) in (
      a ∷ b ∷ c ∷ [],
      ap (λ y. a ∷ b ∷ c ∷ y) s.1,
      (codes "**", c ∷ [], begun (codes "**") (a ∷ b ∷ c ∷ []) q.0, refl, digit),
    )

pub power_spelled : (t : List ℕ) (n : ℕ) (r : List ℕ) → power_at t ≡ Some (n, r)
    → Begun (just (codes "**") ⨾ exponent n) t r
power_spelled t n r h = let p = when_passed _ _ _ h in power_text t n r p.0 p.1

-- ---- operators

abbrev pub sign_text : Joint → List ℕ
sign_text joint.Or = codes ".OR."
sign_text joint.And = codes ".AND."
sign_text (joint.Rel o) = relation o
sign_text (joint.Bin o) = operator o

-- the first of some words that begins the text, each with its operator
word_or : (word t : List ℕ) (o p : Joint) (other : Reading Joint) (r : List ℕ) → sign_text o ≡ word
    → (if begins word t then Some (o, drop (length word) t) else other) ≡ Some (p, r)
    → (other ≡ Some (p, r) → t ≡ sign_text p ++ r) → t ≡ sign_text p ++ r
word_or word t o p other r same h rest =
    elim (by_test (begins word t) _ _ _ h) [
      | inl b ↦
          let s = same_answer o p (drop (length word) t) r b.1 in
          begun word t b.0 ∙ (λ i. (sym same ∙ ap sign_text s.0) i ++ s.1 i)
      | inr b ↦ rest b.1
    ]

sign_spelled : (t : List ℕ) (p : Joint) (r : List ℕ) → sign_at t ≡ Some (p, r) → t ≡ sign_text p ++ r
sign_spelled t p r h =
    word_or (codes "+") t (joint.Bin Add) p _ r refl h λ h.
    word_or (codes "-") t (joint.Bin Sub) p _ r refl h λ h.
    word_or (codes "*") t (joint.Bin Mul) p _ r refl h λ h.
    word_or (codes "/") t (joint.Bin Div) p _ r refl h λ h. absurd (none-some _ h)

relation_spelled : (t : List ℕ) (p : Joint) (r : List ℕ) → relation_at t ≡ Some (p, r) → t ≡ sign_text p ++ r
relation_spelled t p r h =
    word_or (codes ".LT.") t (joint.Rel Lt) p _ r refl h λ h.
    word_or (codes ".LE.") t (joint.Rel Le) p _ r refl h λ h.
    word_or (codes ".EQ.") t (joint.Rel Eq) p _ r refl h λ h.
    word_or (codes ".NE.") t (joint.Rel Ne) p _ r refl h λ h.
    word_or (codes ".GE.") t (joint.Rel Ge) p _ r refl h λ h.
    word_or (codes ".GT.") t (joint.Rel Gt) p _ r refl h λ h. absurd (none-some _ h)

logical_spelled : (t : List ℕ) (p : Joint) (r : List ℕ) → logical_at t ≡ Some (p, r) → t ≡ sign_text p ++ r
logical_spelled t p r h =
    word_or (codes ".AND.") t joint.And p _ r refl h λ h.
    word_or (codes ".OR.") t joint.Or p _ r refl h λ h. absurd (none-some _ h)

-- an answer of one of two readings
either : {A : Type 0} (a b : Option A) (x : A) → or_else a b ≡ Some x → (a ≡ Some x) ⊎ (b ≡ Some x)
either (Some y) b x h = inl h
either None b x h = inr h

pub joint_spelled : (t : List ℕ) (p : Joint) (r : List ℕ) → joint_at t ≡ Some (p, r) → t ≡ sign_text p ++ r
joint_spelled t p r h =
    elim (either (sign_at t) _ _ h) [
      | inl s ↦ sign_spelled t p r s
      | inr rest ↦ elim (either (relation_at t) _ _ rest) [
        | inl s ↦ relation_spelled t p r s
        | inr s ↦ logical_spelled t p r s
      ]
    ]
