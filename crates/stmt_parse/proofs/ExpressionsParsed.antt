-- What is read as an expression is spelled by the text that was read.
use Rattle.std.proofs.Common.{◌≡◌, ℕ, zero, suc, ◌≤◌, true, false, Some, None, List, [], ◌∷◌, ◌++◌, length, drop, codes, refl, sym, ap, subst, ◌∙◌, append_assoc, append-nil, arith, inl, inr}
use Rattle.std.specs.Prelude.{if◌then◌else◌, nat_le}
use Rattle.std.proofs.lemmas.Bool.Decides.{nat_tests}
use Rattle.std.proofs.lemmas.Option.{none-some}
use Rattle.fort_syntax.specs.TreePatterns.{row_of}
use Rattle.formula.specs.Atoms.{is_digit, starts, is_name}
use Rattle.fort_syntax.specs.Misspelled.{begins}
use Rattle.fort_syntax.specs.Spelled.{Texts, just, ◌⨾◌, constant, exponent, binding, bound, expression, arguments, more_arguments}
use Rattle.fort_syntax.specs.declared.name.Name.{Name}
use Rattle.fort_syntax.specs.declared.expr.Expr.{Expr, Const, Truth, Var, Apply, Paren, Pos, Neg, Power, Not}
use Rattle.stmt_parse.specs.declared.joint.Joint.{Joint}
use Rattle.stmt_parse.specs.Tokens.{Reading, ◌>>=◌, after, name_at, constant_at, power_at, joint_at, strength, left_strength, right_strength}
use Rattle.stmt_parse.specs.Parsing.{Inner, joined, arguments as arguments_at, more_arguments as more_at, bracketed_arguments, named, bracket, primary, signed, front, takes, takes_power, at_joint, at_power, climb, parse}
use Rattle.stmt_parse.proofs.ExpressionsAnswers.{Begun, first_step, by_test, when_passed, same_answer, both_true, begun, followed, word_first, word_last, begun_so, begun_answer}
use Rattle.stmt_parse.proofs.ExpressionsTokens.{name_spelled, constant_spelled, power_spelled, sign_text, joint_spelled}
use Rattle.stmt_parse.proofs.ExpressionsForms.{joined_spelled, joined_binding, right_most, Operand, Behind, apply_behind, var_behind, paren_operand, not_form, pos_form, neg_form}
use Rattle.stmt_parse.proofs.ExpressionsViews.{power_tree}

-- the text spells an expression, which is bound tightly enough where that can be
abbrev pub Spelled : ℕ → Expr → Texts
Spelled k e x = (k ≤ 7 → k ≤ binding e) × expression e x

-- what is read inside is spelled
abbrev pub Sound : Inner → Type 0
Sound inner = (k : ℕ) (t : List ℕ) (e : Expr) (r : List ℕ) → inner k t ≡ Some (e, r) → Begun (Spelled k e) t r

at_most : (k n : ℕ) → nat_le k n ≡ true → k ≤ n
at_most k n h = grind (arith, nat_tests)

-- a number as an expression
abbrev number : ℕ × List ℕ → Reading Expr
number c = Some (Const c.0, c.1)

number_read : (t : List ℕ) (e : Expr) (r : List ℕ) → (constant_at t >>= number) ≡ Some (e, r) → Begun (Operand e) t r
number_read t e r h =
    let s = first_step (constant_at t) _ _ h in
    begun_answer Operand t (Const s.0.0) e s.0.1 r s.2
    (begun_so (constant s.0.0) (Operand (Const s.0.0)) t s.0.1 (λ x q. (omega arith, q)) (constant_spelled t s.0.0 s.0.1 s.1))

-- ---- operators behind an expression

-- an expression that goes on where one of the text x ended
abbrev pub Onward : ℕ → List ℕ → Expr → Texts
Onward k x e y = Spelled k e (x ++ y)

-- what follows is spelled too
abbrev pub Goes : (Expr → List ℕ → Reading Expr) → ℕ → Type 0
Goes next k =
    (x : List ℕ) (a : Expr) (t : List ℕ) (e : Expr) (r : List ℕ) → Spelled k a x → next a t ≡ Some (e, r)
    → Begun (Onward k x e) t r

stays : (k : ℕ) (x : List ℕ) (a : Expr) (t : List ℕ) → Spelled k a x → Begun (Onward k x a) t t
stays k x a t ok = ([], refl, subst (Spelled k a) (sym (append-nil x)) ok)

onward : (P : Texts) (x y t s r : List ℕ) → t ≡ y ++ s → Begun (λ z. P ((x ++ y) ++ z)) s r
    → Begun (λ z. P (x ++ z)) t r
onward P x y t s r first h =
    (y ++ h.0, first ∙ ap (λ z. y ++ z) h.1 ∙ sym (append_assoc y h.0 r), subst P (append_assoc x y h.0) h.2)

-- ---- inside

module _ (inner : Inner) (sound : Sound inner) where
  -- what is read inside, as loosely as can be
  inner_read : (t : List ℕ) (e : Expr) (r : List ℕ) → inner 0 t ≡ Some (e, r) → Begun (expression e) t r
  inner_read t e r h = begun_so (Spelled 0 e) (expression e) t r (λ x s. s.1) (sound 0 t e r h)

  more_spelled : (n : ℕ) (es : List Expr) (t : List ℕ) (fs : List Expr) (r : List ℕ)
      → more_at inner n es t ≡ Some (fs, r)
      → (gs : List Expr) × (fs ≡ es ++ gs) × Begun (more_arguments (row_of gs)) t r
  more_spelled zero es t fs r h = absurd (none-some _ h)
  more_spelled (suc n) es t fs r h =
      elim (by_test (begins (codes ",") t) _ _ _ h) [
        | inl b ↦
            let s = first_step (inner 0 (drop 1 t)) _ _ b.1 in
            let m = more_spelled n (es ++ s.0.0 ∷ []) s.0.1 fs r s.2 in (
              s.0.0 ∷ m.0,
              m.1 ∙ append_assoc es (s.0.0 ∷ []) m.0,
              word_first (codes ",") t _ r b.0
                  (followed (expression s.0.0) (more_arguments (row_of m.0)) (drop 1 t) s.0.1 r
                  (inner_read (drop 1 t) s.0.0 s.0.1 s.1) m.2),
            )
        | inr b ↦ let s = same_answer es fs t r b.1 in ([], sym s.0 ∙ sym (append-nil es), ([], s.1, refl))
      ]

  arguments_read : (n : ℕ) (t : List ℕ) (es : List Expr) (r : List ℕ) → arguments_at inner n t ≡ Some (es, r)
      → Begun (arguments (row_of es)) t r
  arguments_read n t es r h =
      let s = first_step (inner 0 t) _ _ h in
      let m = more_spelled n (s.0.0 ∷ []) s.0.1 es r s.2 in
      subst (λ fs. Begun (arguments (row_of fs)) t r) (sym m.1)
      (followed (expression s.0.0) (more_arguments (row_of m.0)) t s.0.1 r (inner_read t s.0.0 s.0.1 s.1) m.2)

  pub bracketed_read : (n : ℕ) (t : List ℕ) (es : List Expr) (r : List ℕ) → bracketed_arguments inner n t ≡ Some (es, r)
      → Begun (arguments (row_of es) ⨾ just (codes ")")) t r
  bracketed_read n t es r h =
      let s = first_step (arguments_at inner n t) _ _ h in
      let l = first_step (after (codes ")") s.0.1) _ _ s.2 in
      begun_answer (λ fs. arguments (row_of fs) ⨾ just (codes ")")) t s.0.0 es l.0 r l.2
      (word_last (arguments (row_of s.0.0)) (codes ")") t s.0.1 l.0 (arguments_read n t s.0.0 s.0.1 s.1) l.1)

  -- ---- what needs no operator

  pub named_read : (n : ℕ) (x : Name) (t : List ℕ) (e : Expr) (r : List ℕ) → is_name x ≡ true
      → named inner n x t ≡ Some (e, r) → Begun (Behind x e) t r
  named_read n x t e r good h =
      elim (by_test (begins (codes "(") t) _ _ _ h) [
        | inl b ↦
            let s = first_step (bracketed_arguments inner n (drop 1 t)) _ _ b.1 in
            let texts = arguments (row_of s.0.0) ⨾ just (codes ")") in
            begun_answer (Behind x) t (Apply x s.0.0) e s.0.1 r s.2
            (begun_so (just (codes "(") ⨾ texts) (Behind x (Apply x s.0.0)) t s.0.1 (apply_behind x s.0.0 good)
            (word_first (codes "(") t texts s.0.1 b.0 (bracketed_read n (drop 1 t) s.0.0 s.0.1 s.1)))
        | inr b ↦ begun_answer (Behind x) t (Var x) e t r b.1 ([], refl, var_behind x good)
      ]

  bracket_read : (t : List ℕ) (e : Expr) (r : List ℕ)
      → begins (codes "(") t ≡ true → bracket inner (drop 1 t) ≡ Some (e, r) → Begun (Operand e) t r
  bracket_read t e r opened h =
      let s = first_step (inner 0 (drop 1 t)) _ _ h in
      let l = first_step (after (codes ")") s.0.1) _ _ s.2 in
      let texts = expression s.0.0 ⨾ just (codes ")") in
      begun_answer Operand t (Paren s.0.0) e l.0 r l.2
      (begun_so (just (codes "(") ⨾ texts) (Operand (Paren s.0.0)) t l.0 (paren_operand s.0.0)
      (word_first (codes "(") t texts l.0 opened
      (word_last (expression s.0.0) (codes ")") (drop 1 t) s.0.1 l.0 (inner_read (drop 1 t) s.0.0 s.0.1 s.1) l.1)))

  name_read : (n : ℕ) (t : List ℕ) (e : Expr) (r : List ℕ) → (name_at t >>= λ x. named inner n x.0 x.1) ≡ Some (e, r)
      → Begun (Operand e) t r
  name_read n t e r h =
      let s = first_step (name_at t) _ _ h in
      let word = name_spelled t s.0.0 s.0.1 s.1 in
      let rest = named_read n s.0.0 s.0.1 e r word.1 s.2 in
      (s.0.0 ++ rest.0, word.0 ∙ ap (λ y. s.0.0 ++ y) rest.1 ∙ sym (append_assoc s.0.0 rest.0 r), rest.2.1)

  primary_read : (n : ℕ) (t : List ℕ) (e : Expr) (r : List ℕ) → primary inner n t ≡ Some (e, r) → Begun (Operand e) t r
  primary_read n t e r h =
      elim (by_test (begins (codes ".TRUE.") t) _ _ _ h) [
        | inl b ↦ begun_answer Operand t (Truth true) e (drop 6 t) r b.1
            (codes ".TRUE.", begun (codes ".TRUE.") t b.0, (omega arith, refl))
        | inr b ↦ elim (by_test (begins (codes ".FALSE.") t) _ _ _ b.1) [
          | inl c ↦ begun_answer Operand t (Truth false) e (drop 7 t) r c.1
              (codes ".FALSE.", begun (codes ".FALSE.") t c.0, (omega arith, refl))
          | inr c ↦ elim (by_test (begins (codes "(") t) _ _ _ c.1) [
            | inl d ↦ bracket_read t e r d.0 d.1
            | inr d ↦ elim (by_test (starts is_digit t) _ _ _ d.1) [
              | inl g ↦ number_read t e r g.1
              | inr g ↦ name_read n t e r g.1
            ]
          ]
        ]
      ]

  -- ---- signs and .NOT.

  prefixed_read : (word : List ℕ) (sign : Expr → Expr) (k limit least : ℕ) (t : List ℕ) (e : Expr) (r : List ℕ)
      → least ≤ 7
      → ((a : Expr) (x : List ℕ) → (just word ⨾ bound least a (expression a)) x → (limit ≤ binding (sign a)) × expression (sign a) x)
      → begins word t ≡ true
      → (if nat_le k limit then signed sign (inner least (drop (length word) t)) else None) ≡ Some (e, r)
      → Begun (Spelled k e) t r
  prefixed_read word sign k limit least t e r few form begin h =
      let p = when_passed (nat_le k limit) _ _ h in
      let s = first_step (inner least (drop (length word) t)) _ _ p.1 in
      let part = begun_so (Spelled least s.0.0) (bound least s.0.0 (expression s.0.0)) _ _ (λ x q. (q.0 few, q.1))
      (sound least (drop (length word) t) s.0.0 s.0.1 s.1) in
      let low = at_most k limit p.0 in
      begun_answer (Spelled k) t (sign s.0.0) e s.0.1 r s.2
      (begun_so (just word ⨾ bound least s.0.0 (expression s.0.0)) (Spelled k (sign s.0.0)) t s.0.1
      (λ x q. let w = form s.0.0 x q in ((λ _. let high = w.0 in omega arith), w.1))
      (word_first word t (bound least s.0.0 (expression s.0.0)) s.0.1 begin part))

  front_read : (n k : ℕ) (t : List ℕ) (e : Expr) (r : List ℕ) → front inner n k t ≡ Some (e, r)
      → Begun (Spelled k e) t r
  front_read n k t e r h =
      elim (by_test (begins (codes ".NOT.") t) _ _ _ h) [
        | inl b ↦ prefixed_read (codes ".NOT.") Not k 2 3 t e r (omega arith) not_form b.0 b.1
        | inr b ↦ elim (by_test (begins (codes "+") t) _ _ _ b.1) [
          | inl c ↦ prefixed_read (codes "+") Pos k 4 5 t e r (omega arith) pos_form c.0 c.1
          | inr c ↦ elim (by_test (begins (codes "-") t) _ _ _ c.1) [
            | inl d ↦ prefixed_read (codes "-") Neg k 4 5 t e r (omega arith) neg_form d.0 d.1
            | inr d ↦ begun_so (Operand e) (Spelled k e) t r (λ x q. ((λ few. let high = q.0 in omega arith), q.1))
                (primary_read n t e r d.1)
          ]
        ]
      ]

  -- ---- operators behind an expression

  at_joint_read : (next : Expr → List ℕ → Reading Expr) (k : ℕ) → Goes next k
      → (x : List ℕ) (a : Expr) (t : List ℕ) (o : Reading Joint) (e : Expr) (r : List ℕ)
      → joint_at t ≡ o → Spelled k a x → at_joint next inner k a t o ≡ Some (e, r) → Begun (Onward k x e) t r
  at_joint_read next k goes x a t None e r found ok h = begun_answer (Onward k x) t a e t r h (stays k x a t ok)
  at_joint_read next k goes x a t (Some o) e r found ok h =
      elim (by_test (takes k a o.0) _ _ _ h) [
        | inl b ↦
            let s = first_step (inner (right_strength o.0) o.1) _ _ b.1 in
            let p = both_true (nat_le k (strength o.0)) _ b.0 in
            let w = sound (right_strength o.0) o.1 s.0.0 s.0.1 s.1 in
            let right : bound (right_strength o.0) s.0.0 (expression s.0.0) w.0 = (w.2.0 (right_most o.0), w.2.1) in
            let left : bound (left_strength o.0) a (expression a) x = (at_most _ _ p.1, ok.1) in
            let y : List ℕ = sign_text o.0 ++ w.0 in
            let all : t ≡ y ++ s.0.1 =
            joint_spelled t o.0 o.1 found ∙ ap (λ z. sign_text o.0 ++ z) w.1 ∙ sym (append_assoc (sign_text o.0) w.0 s.0.1) in
            let tight : k ≤ 7 → k ≤ binding (joined o.0 a s.0.0) =
            λ _. subst (λ m. k ≤ m) (sym (joined_binding o.0 a s.0.0)) (at_most _ _ p.0) in
            let form =
            joined_spelled o.0 a s.0.0 (x ++ y) (x, y, refl, left, (sign_text o.0, w.0, refl, refl, right)) in
            onward (Spelled k e) x y t s.0.1 r all (goes (x ++ y) (joined o.0 a s.0.0) s.0.1 e r (tight, form) s.2)
        | inr b ↦ begun_answer (Onward k x) t a e t r b.1 (stays k x a t ok)
      ]

  at_power_read : (next : Expr → List ℕ → Reading Expr) (k : ℕ) → Goes next k
      → (x : List ℕ) (a : Expr) (t : List ℕ) (p : Reading ℕ) (e : Expr) (r : List ℕ)
      → power_at t ≡ p → Spelled k a x → at_power next inner k a t p ≡ Some (e, r) → Begun (Onward k x e) t r
  at_power_read next k goes x a t None e r found ok h = at_joint_read next k goes x a t (joint_at t) e r refl ok h
  at_power_read next k goes x a t (Some p) e r found ok h =
      elim (by_test (takes_power k a) _ _ _ h) [
        | inl b ↦
            let q = both_true (nat_le k 6) _ b.0 in
            let w = power_spelled t p.0 p.1 found in
            let form : (bound 7 a (expression a) ⨾ just (codes "**") ⨾ exponent p.0) (x ++ w.0) =
            (x, w.0, refl, (at_most 7 (binding a) q.1, ok.1), w.2) in
            let power : Spelled k (Power a p.0) (x ++ w.0) =
            subst (λ z. Spelled k z (x ++ w.0)) (sym (power_tree a p.0)) ((λ _. at_most k 6 q.0), form) in
            onward (Spelled k e) x w.0 t p.1 r w.1 (goes (x ++ w.0) (Power a p.0) p.1 e r power b.1)
        | inr b ↦ begun_answer (Onward k x) t a e t r b.1 (stays k x a t ok)
      ]

  climb_read : (n k : ℕ) → Goes (climb inner n k) k
  climb_read zero k x a t e r ok h = absurd (none-some _ h)
  climb_read (suc n) k x a t e r ok h =
      at_power_read (climb inner n k) k (climb_read n k) x a t (power_at t) e r refl ok h

-- ---- an expression

pub parsed_sound : (f : ℕ) → Sound (parse f)
parsed_sound zero k t e r h = absurd (none-some _ h)
parsed_sound (suc f) k t e r h =
    let s = first_step (front (parse f) f k t) _ _ h in
    let a = front_read (parse f) (parsed_sound f) f k t s.0.0 s.0.1 s.1 in
    onward (Spelled k e) [] a.0 t s.0.1 r a.1 (climb_read (parse f) (parsed_sound f) f k a.0 s.0.0 s.0.1 e r a.2 s.2)
