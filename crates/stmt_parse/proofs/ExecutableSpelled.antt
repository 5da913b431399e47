-- Executable statements that are read are spelled by the text.
use Rattle.std.proofs.Common.{◌≡◌, ℕ, true, Some, None, List, [], ◌∷◌, ◌++◌, length, drop, codes, inl, inr, refl, sym, ap, ◌∙◌, subst, append_assoc}
use Rattle.std.specs.Prelude.{◌&&◌, if◌then◌else◌}
use Rattle.formula.specs.Atoms.{is_digit, starts}
use Rattle.fort_syntax.specs.TreePatterns.{carried as the_carried, row_of}
use Rattle.fort_syntax.specs.declared.dialect.Dialect.{Dialect}
use Rattle.fort_syntax.specs.declared.dialect.Dialect.TheVariants.{Common as CommonForms, SeventySeven}
use Rattle.fort_syntax.specs.declared.expr.Expr.{Expr}
use Rattle.fort_syntax.specs.declared.stmt.Param.TheVariants as parameter
use Rattle.fort_syntax.specs.declared.stmt.Stmt.{Stmt, Assign, GoTo, Computed, ArithIf, LogicalIf, Do, Continue, Call, Return, End, BlockIf, ElseIf, Else, EndIf}
use Rattle.fort_syntax.specs.declared.stmt.Stmt.TheVariants.{LogicalIf'}
use Rattle.fort_syntax.specs.Spelled.{Texts, just, ◌⨾◌, name, label, expression, arguments}
use Rattle.fort_syntax.specs.Grammar.{left_side, param, step, actuals, condition, is_carried, with_77, form}
use Rattle.fort_syntax.specs.Misspelled.{begins}
use Rattle.stmt_parse.specs.Tokens.{◌>>=◌, after, name_at, constant_at, label_at}
use Rattle.stmt_parse.specs.Parsing.{parse}
use Rattle.stmt_parse.specs.Statements.{whole, rest_of_brackets, left_at, assign, go_to, computed, param_at, step_at, do_of, actuals_at, call, condition_at, arith_if, is_word, jump, plain, carried_if, carried, is_77, behind_condition, if_of, else_if, block_part, other}
use Rattle.std.proofs.lemmas.Option.{same_Some}
use Rattle.stmt_parse.proofs.ExpressionsAnswers.{Begun, begun_so, first_step, by_test, when_passed, both_true, begun, followed}
use Rattle.stmt_parse.proofs.Readings.{IsSound, one_of, word_so, word_begun, ended, first_of_all, word_and_rest, word_then}
use Rattle.stmt_parse.proofs.TokensSpelled.{name_begun, constant_begun, label_begun}
use Rattle.stmt_parse.proofs.ListsSpelled.{rest_spelled}
use Rattle.stmt_parse.proofs.ExpressionsAgree.{parsed_spelled, named_spelled, arguments_spelled}
use Rattle.stmt_parse.proofs.ExpressionsParsed.{Spelled}
use Rattle.stmt_parse.proofs.DeclarationsSpelled.{behind_word}

-- a whole expression
whole_spelled : (n : ℕ) (t : List ℕ) (e : Expr) (r : List ℕ) → parse n 0 t ≡ Some (e, r) → Begun (expression e) t r
whole_spelled n t e r h = begun_so (Spelled 0 e) (expression e) t r (λ x s. s.1) (parsed_spelled n 0 t e r h)

-- ---- assignments

left_spelled : (n : ℕ) → IsSound (left_at n) left_side
unfolding left_at
left_spelled n t z h =
    let y = first_step (name_at t) _ z h in
    let a = name_begun t y.0 y.1 in
    let b = named_spelled n n y.0.0 y.0.1 z.0 z.1 a.2.1 y.2 in
    (y.0.0 ++ b.0, a.1 ∙ (λ i. a.2.0 i ++ b.1 i) ∙ sym (append_assoc y.0.0 b.0 z.1), b.2)

-- what a logical IF may carry, as which the text spells the statement
abbrev pub IsCarriedForm : Dialect → Stmt → List ℕ → Type 0
IsCarriedForm d s t = (is_carried s ≡ true) × form d s t

pub assign_spelled : (d : Dialect) (n : ℕ) (t : List ℕ) (s : Stmt) → assign n t ≡ Some s → IsCarriedForm d s t
unfolding assign
assign_spelled d n t s h =
    let left = first_step (left_at n t) _ s h in
    let r = first_step (after (codes "=") left.0.1) _ s left.2 in
    let right = first_step (parse n 0 r.0) _ s r.2 in
    let w = first_step (whole right.0) _ s right.2 in
    subst (λ y. IsCarriedForm d y t) (same_Some (Assign left.0.0 w.0) s w.2) (
      refl,
      first_of_all t left.0.1 (left_spelled n t left.0 left.1)
          (word_then (codes "=") left.0.1 r.0 r.1
          (ended expression r.0 right.0 w.0 w.1 (whole_spelled n r.0 right.0.0 right.0.1 right.1))),
    )

-- ---- what a logical IF may carry, but assignments

go_to_spelled : (d : Dialect) (t : List ℕ) (s : Stmt) → go_to t ≡ Some s → IsCarriedForm d s (codes "GOTO" ++ t)
unfolding go_to
go_to_spelled d t s h =
    let l = first_step (label_at t) _ s h in
    let w = first_step (whole l.0) _ s l.2 in
    subst (λ y. IsCarriedForm d y (codes "GOTO" ++ t)) (same_Some (GoTo w.0) s w.2)
    (refl, word_and_rest (codes "GOTO") t (ended label t l.0 w.0 w.1 (label_begun t l.0 l.1)))

-- an opening bracket before a text
opened : {P : Texts} (t r : List ℕ) → Begun P t r → Begun (λ x. (just (codes "(") ⨾ P) x) (codes "(" ++ t) r
opened t r b = (codes "(" ++ b.0, ap (λ x. codes "(" ++ x) b.1, (codes "(", b.0, refl, refl, b.2))

computed_spelled : (d : Dialect) (n : ℕ) (t : List ℕ) (s : Stmt) → computed n t ≡ Some s
    → IsCarriedForm d s (codes "GOTO(" ++ t)
unfolding computed
computed_spelled d n t s h =
    let ls = first_step (rest_of_brackets label_at n t) _ s h in
    let r = first_step (after (codes ",") ls.0.1) _ s ls.2 in
    let x = first_step (name_at r.0) _ s r.2 in
    let w = first_step (whole x.0) _ s x.2 in
    subst (λ y. IsCarriedForm d y (codes "GOTO(" ++ t)) (same_Some (Computed ls.0.0 w.0) s w.2) (
      refl,
      word_and_rest (codes "GOTO") (codes "(" ++ t)
          (first_of_all (codes "(" ++ t) ls.0.1
          (opened t ls.0.1 (rest_spelled label_at label label_begun n t ls.0 ls.1))
          (word_then (codes ",") ls.0.1 r.0 r.1 (ended name r.0 x.0 w.0 w.1 (name_begun r.0 x.0 x.1)))),
    )

jump_spelled : (d : Dialect) (n : ℕ) (t : List ℕ) (s : Stmt) → jump n t ≡ Some s → IsCarriedForm d s (codes "GOTO" ++ t)
unfolding jump
jump_spelled d n t s h = elim (by_test (begins (codes "(") t) _ _ (Some s) h) [
  | inl p ↦ subst (λ y. IsCarriedForm d s (codes "GOTO" ++ y)) (sym (begun (codes "(") t p.0))
      (computed_spelled d n (drop 1 t) s p.1)
  | inr p ↦ go_to_spelled d t s p.1
]

some_actuals : (es : List Expr) (x : List ℕ) → (just (codes "(") ⨾ arguments (row_of es) ⨾ just (codes ")")) x
    → actuals es x
some_actuals [] x p = absurd (p.4).3
some_actuals (e ∷ es) x p = p

actuals_spelled : (n : ℕ) → IsSound (actuals_at n) actuals
unfolding actuals_at
actuals_spelled n t z h = elim (by_test (begins (codes "(") t) _ (Some ([], t)) (Some z) h) [
  | inl p ↦
      let b = followed _ _ t (drop 1 t) z.1 (codes "(", begun (codes "(") t p.0, refl)
      (arguments_spelled n n (drop 1 t) z.0 z.1 p.1) in
      (b.0, b.1, some_actuals z.0 b.0 b.2)
  | inr p ↦ subst (λ y. Begun (actuals y.0) t y.1) (same_Some ([], t) z p.1) ([], refl, refl)
]

call_spelled : (d : Dialect) (n : ℕ) (t : List ℕ) (s : Stmt) → call n t ≡ Some s → IsCarriedForm d s (codes "CALL" ++ t)
unfolding call
call_spelled d n t s h =
    let f = first_step (name_at t) _ s h in
    let es = first_step (actuals_at n f.0.1) _ s f.2 in
    let w = first_step (whole es.0) _ s es.2 in
    subst (λ y. IsCarriedForm d y (codes "CALL" ++ t)) (same_Some (Call f.0.0 w.0) s w.2) (
      refl,
      word_and_rest (codes "CALL") t
          (first_of_all t f.0.1 (name_begun t f.0 f.1)
          (ended actuals f.0.1 es.0 w.0 w.1 (actuals_spelled n f.0.1 es.0 es.1))),
    )

carried_word : (d : Dialect) (w t : List ℕ) (y s : Stmt) → is_word w t ≡ true → Some y ≡ Some s → IsCarriedForm d y w
    → IsCarriedForm d s t
carried_word d w t y s h same p = subst (λ u. IsCarriedForm d u t) (same_Some y s same)
    (subst (IsCarriedForm d y) (sym (word_so w t h)) p)

carried_behind : (d : Dialect) (w t : List ℕ) (s : Stmt) → begins w t ≡ true
    → IsCarriedForm d s (w ++ drop (length w) t) → IsCarriedForm d s t
carried_behind d w t s h p = subst (IsCarriedForm d s) (sym (begun w t h)) p

words_spelled : (d : Dialect) (t : List ℕ) (s : Stmt)
    → (if is_word (codes "CONTINUE") t then Some Continue else if is_word (codes "RETURN") t then Some Return
    else None) ≡ Some s → IsCarriedForm d s t
words_spelled d t s h = elim (by_test (is_word (codes "CONTINUE") t) (Some Continue) _ (Some s) h) [
  | inl p ↦ carried_word d (codes "CONTINUE") t Continue s p.0 p.1 (refl, refl)
  | inr p ↦
      let q = when_passed (is_word (codes "RETURN") t) (Some Return) s p.1 in
      carried_word d (codes "RETURN") t Return s q.0 q.1 (refl, refl)
]

call_or_word : (d : Dialect) (n : ℕ) (t : List ℕ) (s : Stmt)
    → (if begins (codes "CALL") t then call n (drop 4 t)
    else if is_word (codes "CONTINUE") t then Some Continue else if is_word (codes "RETURN") t then Some Return
    else None) ≡ Some s
    → IsCarriedForm d s t
call_or_word d n t s h = elim (by_test (begins (codes "CALL") t) (call n (drop 4 t)) _ (Some s) h) [
  | inl p ↦ carried_behind d (codes "CALL") t s p.0 (call_spelled d n (drop 4 t) s p.1)
  | inr p ↦ words_spelled d t s p.1
]

pub plain_spelled : (d : Dialect) (n : ℕ) (t : List ℕ) (s : Stmt) → plain n t ≡ Some s → IsCarriedForm d s t
unfolding plain
plain_spelled d n t s h = elim (by_test (begins (codes "GOTO") t) (jump n (drop 4 t)) _ (Some s) h) [
  | inl p ↦ carried_behind d (codes "GOTO") t s p.0 (jump_spelled d n (drop 4 t) s p.1)
  | inr p ↦ call_or_word d n t s p.1
]

-- ---- conditions

condition_spelled : (n : ℕ) (t : List ℕ) (z : Expr × List ℕ) → condition_at n t ≡ Some z
    → Begun (condition z.0) (codes "(" ++ t) z.1
unfolding condition_at
condition_spelled n t z h =
    let e = first_step (parse n 0 t) _ z h in
    let r = first_step (after (codes ")") e.0.1) _ z e.2 in
    subst (λ y. Begun (condition y.0) (codes "(" ++ t) y.1) (same_Some (e.0.0, r.0) z r.2)
    (opened t r.0 (followed _ _ t e.0.1 r.0 (whole_spelled n t e.0.0 e.0.1 e.1) (word_begun (codes ")") e.0.1 r.0 r.1)))

three_labels : (d : Dialect) (e : Expr) (t u : List ℕ) (s : Stmt) → arith_if e t ≡ Some s → Begun (condition e) u t
    → IsCarriedForm d s (codes "IF" ++ u)
unfolding arith_if
three_labels d e t u s h c =
    let l = first_step (label_at t) _ s h in
    let r1 = first_step (after (codes ",") l.0.1) _ s l.2 in
    let m = first_step (label_at r1.0) _ s r1.2 in
    let r2 = first_step (after (codes ",") m.0.1) _ s m.2 in
    let k = first_step (label_at r2.0) _ s r2.2 in
    let w = first_step (whole k.0) _ s k.2 in
    subst (λ y. IsCarriedForm d y (codes "IF" ++ u)) (same_Some (ArithIf e l.0.0 m.0.0 w.0) s w.2) (
      refl,
      word_and_rest (codes "IF") u
          (first_of_all u t c
          (first_of_all t l.0.1 (label_begun t l.0 l.1)
          (word_then (codes ",") l.0.1 r1.0 r1.1
          (first_of_all r1.0 m.0.1 (label_begun r1.0 m.0 m.1)
          (word_then (codes ",") m.0.1 r2.0 r2.1 (ended label r2.0 k.0 w.0 w.1 (label_begun r2.0 k.0 k.1))))))),
    )

carried_if_spelled : (d : Dialect) (n : ℕ) (t : List ℕ) (s : Stmt) → carried_if n t ≡ Some s
    → IsCarriedForm d s (codes "IF(" ++ t)
unfolding carried_if
carried_if_spelled d n t s h =
    let e = first_step (condition_at n t) _ s h in
    three_labels d e.0.0 e.0.1 (codes "(" ++ t) s e.2 (condition_spelled n t e.0 e.1)

carried_spelled : (d : Dialect) (n : ℕ) (t : List ℕ) (s : Stmt) → carried n t ≡ Some s → IsCarriedForm d s t
unfolding carried
carried_spelled d n t s h = elim (one_of (assign n t) _ s h) [
  | inl p ↦ assign_spelled d n t s p
  | inr p ↦ elim (by_test (begins (codes "IF(") t) (carried_if n (drop 3 t)) (plain n t) (Some s) p) [
    | inl q ↦ carried_behind d (codes "IF(") t s q.0 (carried_if_spelled d n (drop 3 t) s q.1)
    | inr q ↦ plain_spelled d n t s q.1
  ]
]

-- a logical IF has what it carries as a row of one
pub logical_tree : (e : Expr) (s : Stmt) → LogicalIf e s ≡ LogicalIf' e _ (the_carried s)
unfolding Rattle.fort_syntax.specs.declared.stmt.Stmt.TheBlock.hidden-the_row-Stmt-0 denote.Hole.Carrier.hidden
logical_tree e s = refl

only_77 : (d : Dialect) (P : Texts) (t : List ℕ) → is_77 d ≡ true → P t → with_77 d P t
only_77 CommonForms P t h p = absurd cc
only_77 SeventySeven P t h p = p

then_spelled : (d : Dialect) (e : Expr) (t u : List ℕ) (s : Stmt) → (is_77 d && is_word (codes "THEN") t) ≡ true
    → Some (BlockIf e) ≡ Some s → Begun (condition e) u t
    → form d s (codes "IF" ++ u)
then_spelled d e t u s h same c =
    let p = both_true (is_77 d) _ h in
    subst (λ y. form d y (codes "IF" ++ u)) (same_Some (BlockIf e) s same)
    (only_77 d _ (codes "IF" ++ u) p.0
    (word_and_rest (codes "IF") u (first_of_all u t c (word_so (codes "THEN") t p.1))))

carrying_spelled : (d : Dialect) (n : ℕ) (e : Expr) (t u : List ℕ) (s : Stmt)
    → (carried n t >>= λ y. Some (LogicalIf e y)) ≡ Some s → Begun (condition e) u t
    → form d s (codes "IF" ++ u)
carrying_spelled d n e t u s h c =
    let y = first_step (carried n t) (λ y. Some (LogicalIf e y)) s h in
    subst (λ y. form d y (codes "IF" ++ u)) (sym (logical_tree e y.0) ∙ same_Some (LogicalIf e y.0) s y.2)
    (word_and_rest (codes "IF") u (first_of_all u t c (carried_spelled d n t y.0 y.1)))

behind_condition_spelled : (d : Dialect) (n : ℕ) (e : Expr) (t u : List ℕ) (s : Stmt)
    → behind_condition d n e t ≡ Some s → Begun (condition e) u t
    → form d s (codes "IF" ++ u)
unfolding behind_condition
behind_condition_spelled d n e t u s h c = elim (by_test (starts is_digit t) (arith_if e t) _ (Some s) h) [
  | inl p ↦ (three_labels d e t u s p.1 c).1
  | inr p ↦ elim (by_test (is_77 d && is_word (codes "THEN") t) (Some (BlockIf e)) _ (Some s) p.1) [
    | inl q ↦ then_spelled d e t u s q.0 q.1 c
    | inr q ↦ carrying_spelled d n e t u s q.1 c
  ]
]

if_spelled : (d : Dialect) (n : ℕ) (t : List ℕ) (s : Stmt) → if_of d n t ≡ Some s → form d s (codes "IF(" ++ t)
unfolding if_of
if_spelled d n t s h =
    let e = first_step (condition_at n t) _ s h in
    behind_condition_spelled d n e.0.0 e.0.1 (codes "(" ++ t) s e.2 (condition_spelled n t e.0 e.1)

else_if_spelled : (d : Dialect) (n : ℕ) (t : List ℕ) (s : Stmt) → is_77 d ≡ true → else_if n t ≡ Some s
    → form d s (codes "ELSEIF(" ++ t)
unfolding else_if
else_if_spelled d n t s h7 h =
    let e = first_step (condition_at n t) _ s h in
    let p = when_passed (is_word (codes "THEN") e.0.1) (Some (ElseIf e.0.0)) s e.2 in
    subst (λ y. form d y (codes "ELSEIF(" ++ t)) (same_Some (ElseIf e.0.0) s p.1)
    (only_77 d _ (codes "ELSEIF(" ++ t) h7
    (word_and_rest (codes "ELSEIF") (codes "(" ++ t)
    (first_of_all (codes "(" ++ t) e.0.1 (condition_spelled n t e.0 e.1) (word_so (codes "THEN") e.0.1 p.0))))

word_spelled : (d : Dialect) (w t : List ℕ) (y s : Stmt) → is_word w t ≡ true → Some y ≡ Some s → form d y w
    → form d s t
word_spelled d w t y s h same p = subst (λ u. form d u t) (same_Some y s same)
    (subst (form d y) (sym (word_so w t h)) p)

block_part_spelled : (d : Dialect) (n : ℕ) (t : List ℕ) (s : Stmt) → is_77 d ≡ true → block_part n t ≡ Some s
    → form d s t
unfolding block_part
block_part_spelled d n t s h7 h = elim (by_test (is_word (codes "ELSE") t) (Some Else) _ (Some s) h) [
  | inl p ↦ word_spelled d (codes "ELSE") t Else s p.0 p.1 (only_77 d (just (codes "ELSE")) (codes "ELSE") h7 refl)
  | inr p ↦ elim (by_test (is_word (codes "ENDIF") t) (Some EndIf) _ (Some s) p.1) [
    | inl q ↦ word_spelled d (codes "ENDIF") t EndIf s q.0 q.1
        (only_77 d (just (codes "ENDIF")) (codes "ENDIF") h7 refl)
    | inr q ↦
        let r = when_passed (begins (codes "ELSEIF(") t) (else_if n (drop 7 t)) s q.1 in
        behind_word d (codes "ELSEIF(") t s r.0 (else_if_spelled d n (drop 7 t) s h7 r.1)
  ]
]

-- ---- DO

param_spelled : IsSound param_at param
unfolding param_at
param_spelled t z h = elim (by_test (starts is_digit t) (constant_at t
    >>= λ c. Some (parameter.Fixed c.0, c.1)) (name_at t >>= λ x. Some (parameter.Named x.0, x.1)) (Some z) h) [
      | inl p ↦
          let c = first_step (constant_at t) (λ c. Some (parameter.Fixed c.0, c.1)) z p.1 in
          subst (λ y. Begun (param y.0) t y.1) (same_Some (parameter.Fixed c.0.0, c.0.1) z c.2) (constant_begun t c.0 c.1)
      | inr p ↦
          let x = first_step (name_at t) (λ x. Some (parameter.Named x.0, x.1)) z p.1 in
          subst (λ y. Begun (param y.0) t y.1) (same_Some (parameter.Named x.0.0, x.0.1) z x.2) (name_begun t x.0 x.1)
    ]

step_spelled : IsSound step_at step
unfolding step_at
step_spelled t z h = elim (by_test (begins (codes ",") t) (param_at (drop 1 t)
    >>= λ p. Some (Some p.0, p.1)) (Some (None, t)) (Some z) h) [
      | inl p ↦
          let q = first_step (param_at (drop 1 t)) (λ p. Some (Some p.0, p.1)) z p.1 in
          subst (λ y. Begun (step y.0) t y.1) (same_Some (Some q.0.0, q.0.1) z q.2)
          (followed _ _ t (drop 1 t) q.0.1 (codes ",", begun (codes ",") t p.0, refl) (param_spelled (drop 1 t) q.0 q.1))
      | inr p ↦ subst (λ y. Begun (step y.0) t y.1) (same_Some (None, t) z p.1) ([], refl, refl)
    ]

do_spelled : (d : Dialect) (t : List ℕ) (s : Stmt) → do_of t ≡ Some s → form d s (codes "DO" ++ t)
unfolding do_of
do_spelled d t s h =
    let l = first_step (label_at t) _ s h in
    let x = first_step (name_at l.0.1) _ s l.2 in
    let r1 = first_step (after (codes "=") x.0.1) _ s x.2 in
    let a = first_step (param_at r1.0) _ s r1.2 in
    let r2 = first_step (after (codes ",") a.0.1) _ s a.2 in
    let b = first_step (param_at r2.0) _ s r2.2 in
    let by = first_step (step_at b.0.1) _ s b.2 in
    let w = first_step (whole by.0) _ s by.2 in
    subst (λ y. form d y (codes "DO" ++ t)) (same_Some (Do l.0.0 x.0.0 a.0.0 b.0.0 w.0) s w.2)
    (word_and_rest (codes "DO") t
    (first_of_all t l.0.1 (label_begun t l.0 l.1)
    (first_of_all l.0.1 x.0.1 (name_begun l.0.1 x.0 x.1)
    (word_then (codes "=") x.0.1 r1.0 r1.1
    (first_of_all r1.0 a.0.1 (param_spelled r1.0 a.0 a.1)
    (word_then (codes ",") a.0.1 r2.0 r2.1
    (first_of_all r2.0 b.0.1 (param_spelled r2.0 b.0 b.1)
    (ended step b.0.1 by.0 w.0 w.1 (step_spelled b.0.1 by.0 by.1)))))))))

-- ---- by the first word

end_or_part : (d : Dialect) (n : ℕ) (t : List ℕ) (s : Stmt)
    → (if is_word (codes "END") t then Some End else if is_77 d then block_part n t else None) ≡ Some s → form d s t
end_or_part d n t s h = elim (by_test (is_word (codes "END") t) (Some End) _ (Some s) h) [
  | inl p ↦ word_spelled d (codes "END") t End s p.0 p.1 refl
  | inr p ↦ let q = when_passed (is_77 d) (block_part n t) s p.1 in block_part_spelled d n t s q.0 q.1
]

pub other_spelled : (d : Dialect) (n : ℕ) (t : List ℕ) (s : Stmt) → other d n t ≡ Some s → form d s t
unfolding other
other_spelled d n t s h = elim (by_test (begins (codes "IF(") t) (if_of d n (drop 3 t)) _ (Some s) h) [
  | inl p ↦ behind_word d (codes "IF(") t s p.0 (if_spelled d n (drop 3 t) s p.1)
  | inr p ↦ elim (by_test (begins (codes "DO") t) (do_of (drop 2 t)) _ (Some s) p.1) [
    | inl q ↦ behind_word d (codes "DO") t s q.0 (do_spelled d (drop 2 t) s q.1)
    | inr q ↦ end_or_part d n t s q.1
  ]
]
