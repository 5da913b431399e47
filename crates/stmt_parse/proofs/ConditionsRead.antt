-- What a logical IF carries, and what stands behind a condition, is read where it is spelled.
use Rattle.std.proofs.Common.{◌≡◌, ℕ, ◌+◌, ◌≤◌, Bool, true, false, Some, None, List, [], ◌∷◌, ◌++◌, length, drop, codes, refl, sym, ap, ◌∙◌, append_assoc, arith}
use Rattle.std.specs.Prelude.{◌==◌, ◌&&◌, if◌then◌else◌}
use Rattle.std.specs.List.{list_all}
use Rattle.std.proofs.lemmas.List.{append-nil}
use Rattle.std.proofs.lemmas.Bool.Decides.{nat_tests}
use Rattle.fort_syntax.specs.TreePatterns.{row_of}
use Rattle.formula.specs.Atoms.{is_digit, is_letter, is_name_byte, starts, is_name}
use Rattle.fort_syntax.specs.declared.dialect.Dialect.{Dialect}
use Rattle.fort_syntax.specs.declared.expr.Expr.{Expr}
use Rattle.fort_syntax.specs.declared.expr.Expr.TheVariants.{Var, Apply'}
use Rattle.fort_syntax.specs.declared.stmt.Stmt.{Stmt, LogicalIf}
use Rattle.fort_syntax.specs.declared.stmt.Stmt.TheVariants.{Assign, GoTo, Computed, ArithIf, Continue, Call, Return}
use Rattle.fort_syntax.specs.Spelled.{just, ◌⨾◌, label, expression, arguments}
use Rattle.fort_syntax.specs.Grammar.{left_side, condition, is_carried, form}
use Rattle.fort_syntax.specs.Misspelled.{begins}
use Rattle.stmt_parse.specs.Tokens.{◌>>=◌, after, name_at, label_at}
use Rattle.stmt_parse.specs.Parsing.{parse}
use Rattle.stmt_parse.specs.Statements.{whole, or_other, left_at, assign, condition_at, arith_if, is_word, plain, carried_if, carried, is_77, behind_condition}
use Rattle.stmt_parse.proofs.TokensRead.{when_true, when_false, label_read}
use Rattle.stmt_parse.proofs.ExpressionsAnswers.{both_true}
use Rattle.stmt_parse.proofs.Readings.{word_so}
use Rattle.stmt_parse.proofs.PartEnds.{differs, step_to, lengths, at_end}
use Rattle.stmt_parse.proofs.ItemsRead.{digit_first}
use Rattle.stmt_parse.proofs.ExpressionsAgree.{spelled_parsed}
use Rattle.stmt_parse.proofs.Unassigned.{second_false, call_unassigned}
use Rattle.stmt_parse.proofs.PlainRead.{IsPlain, behind, digits_apart, assign_read, go_to_plain, computed_plain, call_plain, continue_plain, return_plain}

-- ---- conditions

pub condition_read : (n : ℕ) (e : Expr) (v r : List ℕ) → (expression e ⨾ just (codes ")")) v → length v + 1 ≤ n
    → condition_at n (v ++ r) ≡ Some (e, r)
unfolding condition_at
condition_read n e v r h few =
    let size = lengths v h.0 (codes ")") (h.2 ∙ ap (λ c. h.0 ++ c) h.4) in
    let one : length (codes ")") ≡ 1 = refl in
    ap (condition_at n) (ap (λ y. y ++ r) (h.2 ∙ ap (λ c. h.0 ++ c) h.4) ∙ append_assoc h.0 (codes ")") r)
    ∙ step_to (parse n 0 (h.0 ++ (codes ")" ++ r))) (e, codes ")" ++ r) (λ e. after (codes ")") e.1
    >>= λ rest. Some (e.0, rest)) _
    (spelled_parsed e h.0 (codes ")" ++ r) n 0 h.3 (omega arith) (omega arith) refl) refl

-- a word, a condition and what is behind it
pub record Condition (w t : List ℕ) (e : Expr) (Q : List ℕ → Type 0) : Type 0 where
  pub inner : List ℕ
  pub rest : List ℕ
  pub same : t ≡ w ++ (codes "(" ++ (inner ++ rest))
  pub is : (expression e ⨾ just (codes ")")) inner
  pub next : Q rest
  pub size : length inner + length rest + 1 ≤ length t

pub condition_cut : {Q : List ℕ → Type 0} (w t : List ℕ) (e : Expr) → (just w ⨾ condition e ⨾ Q) t → Condition w t e Q
condition_cut w t e h =
    let a = behind w t h in
    let p = a.2 in
    let b = behind (codes "(") p.0 p.3 in
    let text : a.0 ≡ codes "(" ++ (b.0 ++ p.1) = p.2 ∙ ap (λ y. y ++ p.1) b.1 ∙ append_assoc (codes "(") b.0 p.1 in
    let first = lengths t w a.0 a.1 in
    let second = lengths a.0 (codes "(") (b.0 ++ p.1) text in
    let third = lengths (b.0 ++ p.1) b.0 p.1 refl in
    let one : length (codes "(") ≡ 1 = refl in
    record { inner = b.0; rest = p.1; same = a.1 ∙ ap (λ y. w ++ y) text; is = b.2; next = p.4; size = omega arith }

-- a condition as the one argument in brackets
one_argument : (e : Expr) (v : List ℕ) → (expression e ⨾ just (codes ")")) v
    → (arguments (row_of (e ∷ [])) ⨾ just (codes ")")) v
one_argument e v h = (h.0, h.1, h.2, (h.0, [], sym (append-nil h.0), h.3, refl), h.4)

-- a word with a condition, and no `=` behind it
pub if_unassigned : (n : ℕ) (w : List ℕ) (e : Expr) (v r : List ℕ) → list_all is_name_byte w ≡ true
    → (expression e ⨾ just (codes ")")) v → length v + 1 ≤ n
    → begins (codes "=") r ≡ false → assign n (w ++ (codes "(" ++ (v ++ r))) ≡ None
if_unassigned n w e v r h k few unequal = call_unassigned n w (e ∷ []) v r h (one_argument e v k) few unequal

-- ---- three labels

labels_read : (e : Expr) (l m k : ℕ) (r : List ℕ)
    → (label l ⨾ just (codes ",") ⨾ label m ⨾ just (codes ",") ⨾ label k) r → arith_if e r ≡ Some (ArithIf e l m k)
unfolding arith_if
labels_read e l m k r h =
    let b = behind (codes ",") h.1 h.4 in
    let p = b.2 in
    let c = behind (codes ",") p.1 p.4 in
    ap (arith_if e) (h.2 ∙ ap (λ y. h.0 ++ y) (b.1 ∙ ap (λ y. codes "," ++ y) (p.2 ∙ ap (λ y. p.0 ++ y) c.1)))
    ∙ step_to (label_at (h.0 ++ (codes "," ++ (p.0 ++ (codes "," ++ c.0)))))
    (l, codes "," ++ (p.0 ++ (codes "," ++ c.0)))
    (λ l. after (codes ",") l.1 >>= λ r1. label_at r1 >>= λ m. after (codes ",") m.1 >>= λ r2. label_at r2
    >>= λ k. whole k >>= λ w. Some (ArithIf e l.0 m.0 w)) _
    (label_read l h.0 (codes "," ++ (p.0 ++ (codes "," ++ c.0))) h.3 refl)
    (step_to (label_at (p.0 ++ (codes "," ++ c.0))) (m, codes "," ++ c.0)
    (λ m. after (codes ",") m.1 >>= λ r2. label_at r2 >>= λ k. whole k >>= λ w. Some (ArithIf e l m.0 w)) _
    (label_read m p.0 (codes "," ++ c.0) p.3 refl)
    (step_to (label_at c.0) (k, []) (λ k. whole k
    >>= λ w. Some (ArithIf e l m w)) _ (at_end label_at c.0 k (label_read k c.0 [] c.2 refl)) refl))

-- the text of labels begins with a digit
labels_digit : {Q : List ℕ → Type 0} (l : ℕ) (r : List ℕ) → (label l ⨾ Q) r
    → (starts is_digit r ≡ true) × (begins (codes "=") r ≡ false)
labels_digit l r h = (
  ap (starts is_digit) h.2 ∙ digit_first h.0 h.1 h.3.0,
  ap (begins (codes "=")) h.2
      ∙ digits_apart 61 h.0 h.1 refl h.3.0,
)

-- ---- what a logical IF carries

letter_apart : (b : ℕ) → is_letter b ≡ true → (is_digit b ≡ false) × ((61 == b) ≡ false)
letter_apart b h = (grind (arith, nat_tests), grind (arith, nat_tests))

begins_apart : (t : List ℕ) → starts is_letter t ≡ true → (starts is_digit t ≡ false) × (begins (codes "=") t ≡ false)
begins_apart [] h = absurd cc
begins_apart (b ∷ t) h = let p = letter_apart b h in (p.0, differs 61 [] b t p.1)

name_letter : (x r : List ℕ) → is_name x ≡ true → starts is_letter (x ++ r) ≡ true
name_letter [] r h = absurd cc
name_letter (b ∷ x) r h = (both_true _ _ (both_true _ _ h).0).0

left_letter : (e : Expr) (u r : List ℕ) → left_side e u → starts is_letter (u ++ r) ≡ true
left_letter (Var x) u r h = ap (λ y. starts is_letter (y ++ r)) h.0 ∙ name_letter x r h.1
left_letter (Apply' x m args) u r h =
    ap (starts is_letter) (ap (λ y. y ++ r) h.2 ∙ append_assoc h.0 h.1 r)
    ∙ ap (λ y. starts is_letter (y ++ (h.1 ++ r))) h.3.0 ∙ name_letter x (h.1 ++ r) h.3.1
left_letter _ u r h = absurd h

word_letter : {Q : List ℕ → Type 0} (w t : List ℕ) → (just w ⨾ Q) t → starts is_letter (w ++ []) ≡ true
    → starts is_letter t ≡ true
word_letter [] t h k = absurd cc
word_letter (b ∷ w) t h k = ap (starts is_letter) (behind (b ∷ w) t h).1 ∙ k

carried_letter : (d : Dialect) (s : Stmt) (t : List ℕ) → is_carried s ≡ true → form d s t → starts is_letter t ≡ true
carried_letter d (Assign left right) t c h = ap (starts is_letter) h.2 ∙ left_letter left h.0 h.1 h.3
carried_letter d (GoTo l) t c h = word_letter (codes "GOTO") t h refl
carried_letter d (Computed ls x) t c h = word_letter (codes "GOTO") t h refl
carried_letter d (ArithIf e l m n) t c h = word_letter (codes "IF") t h refl
carried_letter d (Call x es) t c h = word_letter (codes "CALL") t h refl
carried_letter d Continue t c h = ap (starts is_letter) h
carried_letter d Return t c h = ap (starts is_letter) h
carried_letter d _ t c h = absurd cc

pub carried_apart : (d : Dialect) (s : Stmt) (t : List ℕ) → is_carried s ≡ true → form d s t
    → (starts is_digit t ≡ false) × (begins (codes "=") t ≡ false)
carried_apart d s t c h = begins_apart t (carried_letter d s t c h)

assign_carried : (n : ℕ) (t : List ℕ) (s : Stmt) → assign n t ≡ Some s → carried n t ≡ Some s
unfolding carried
assign_carried n t s h = ap (λ o. or_other o (if begins (codes "IF(") t then carried_if n (drop 3 t) else plain n t)) h

plain_carried : (n : ℕ) (t : List ℕ) (s : Stmt) → IsPlain n t s → carried n t ≡ Some s
unfolding carried
plain_carried n t s p =
    ap (λ o. or_other o (if begins (codes "IF(") t then carried_if n (drop 3 t) else plain n t)) p.unassigned
    ∙ when_false (begins (codes "IF(") t) (carried_if n (drop 3 t)) (plain n t) p.no_if
    ∙ p.read

-- an IF with labels
abbrev pub LabelsBehind : ℕ → ℕ → ℕ → List ℕ → Type 0
LabelsBehind l m k = label l ⨾ just (codes ",") ⨾ label m ⨾ just (codes ",") ⨾ label k

arith_carried : (n : ℕ) (e : Expr) (l m k : ℕ) (t : List ℕ) → (just (codes "IF") ⨾ condition e ⨾ LabelsBehind l m k) t
    → length t + 2 ≤ n
    → carried n t ≡ Some (ArithIf e l m k)
unfolding carried carried_if
arith_carried n e l m k t h few =
    let c = condition_cut (codes "IF") t e h in
    let size = c.size in
    ap (carried n) c.same
    ∙ ap (λ o. or_other o (carried_if n (c.inner ++ c.rest)))
    (if_unassigned n (codes "IF") e c.inner c.rest refl c.is (omega arith) (labels_digit l c.rest c.next).1)
    ∙ step_to (condition_at n (c.inner ++ c.rest)) (e, c.rest) (λ e. arith_if e.0 e.1) _
    (condition_read n e c.inner c.rest c.is (omega arith)) (labels_read e l m k c.rest c.next)

pub carried_read : (d : Dialect) (s : Stmt) (n : ℕ) (t : List ℕ) → is_carried s ≡ true → form d s t → length t + 2 ≤ n
    → carried n t ≡ Some s
carried_read d (Assign left right) n t c h few = assign_carried n t _ (assign_read n left right t h few)
carried_read d (GoTo l) n t c h few = plain_carried n t _ (go_to_plain n l t h)
carried_read d (Computed ls y) n t c h few = plain_carried n t _ (computed_plain n ls y t h few)
carried_read d (ArithIf e l m k) n t c h few = arith_carried n e l m k t h few
carried_read d (Call y es) n t c h few = plain_carried n t _ (call_plain n y es t h few)
carried_read d Continue n t c h few = plain_carried n t _ (continue_plain n t h)
carried_read d Return n t c h few = plain_carried n t _ (return_plain n t h)
carried_read d _ n t c h few = absurd cc

-- ---- behind a condition

pub labels_behind : (d : Dialect) (n : ℕ) (e : Expr) (l m k : ℕ) (r : List ℕ) → LabelsBehind l m k r
    → (begins (codes "=") r ≡ false) × (behind_condition d n e r ≡ Some (ArithIf e l m k))
unfolding behind_condition
labels_behind d n e l m k r h =
    let p = labels_digit l r h in
    (p.1, when_true (starts is_digit r) _ _ p.0 ∙ labels_read e l m k r h)

-- no statement that may be carried is `THEN`
then_not_carried : (n : ℕ) → carried n (codes "THEN") ≡ None
unfolding carried plain assign left_at name_at
then_not_carried n = refl

not_then : (b : Bool) (n : ℕ) (t : List ℕ) (s : Stmt) → is_word (codes "THEN") t ≡ b → carried n t ≡ Some s → b ≡ false
not_then false n t s h k = refl
not_then true n t s h k = absurd (let bad : None ≡ Some s = sym (then_not_carried n)
    ∙ ap (carried n) (sym (word_so (codes "THEN") t h)) ∙ k in cc)

pub carried_behind : (d : Dialect) (n : ℕ) (e : Expr) (s : Stmt) (r : List ℕ) → is_carried s ≡ true → form d s r
    → length r + 2 ≤ n
    → (begins (codes "=") r ≡ false) × (behind_condition d n e r ≡ Some (LogicalIf e s))
unfolding behind_condition
carried_behind d n e s r c h few =
    let p = carried_apart d s r c h in
    let k = carried_read d s n r c h few in (
      p.1,
      when_false (starts is_digit r) _ _ p.0
          ∙ when_false (is_77 d && is_word (codes "THEN") r) _ _
          (second_false (is_77 d) _ (not_then (is_word (codes "THEN") r) n r s refl k))
          ∙ step_to (carried n r) s (λ s. Some (LogicalIf e s)) _ k refl,
    )
