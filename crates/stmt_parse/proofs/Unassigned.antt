-- Texts that begin as no assignment does.
use Rattle.std.proofs.Common.{◌≡◌, ℕ, suc, ◌+◌, ◌≤◌, ◌<◌, Bool, true, false, Option, Some, None, List, [], ◌∷◌, ◌++◌, length, take, map, codes, refl, ap, ◌∙◌, arith}
use Rattle.std.specs.Prelude.{◌&&◌, nat_le}
use Rattle.std.specs.List.{list_all}
use Rattle.std.proofs.lemmas.List.{length-append}
use Rattle.std.proofs.lemmas.Bool.Decides.{nat_tests}
use Rattle.std.proofs.Math.Seq.{take-append_seam}
use Rattle.fort_syntax.specs.TreePatterns.{row_of}
use Rattle.formula.specs.Atoms.{is_letter, is_name_byte, starts, is_name}
use Rattle.fort_syntax.specs.declared.expr.Expr.{Expr, Const, Var, Apply}
use Rattle.fort_syntax.specs.declared.stmt.Stmt.{Stmt, Assign}
use Rattle.fort_syntax.specs.Spelled.{just, ◌⨾◌, label, expression, arguments, more_arguments}
use Rattle.fort_syntax.specs.Grammar.{more_listed, comma_list}
use Rattle.fort_syntax.specs.Misspelled.{begins}
use Rattle.stmt_parse.specs.Tokens.{◌>>=◌, after, run_length, name_of_length, name_at}
use Rattle.stmt_parse.specs.Parsing.{named, parse}
use Rattle.stmt_parse.specs.Statements.{whole, left_at, assign}
use Rattle.stmt_parse.proofs.Labels.{few_not_long}
use Rattle.stmt_parse.proofs.TokensRead.{when_true, when_false, name_read}
use Rattle.stmt_parse.proofs.ExpressionsAnswers.{both_true}
use Rattle.stmt_parse.proofs.ExpressionsAgree.{spelled_parsed, spelled_arguments}

-- ---- where no name is read

run_more : (p : ℕ → Bool) (w r : List ℕ) → list_all p w ≡ true → run_length p (w ++ r) ≡ length w + run_length p r
run_more p [] r h = let e : run_length p r ≡ 0 + run_length p r = omega arith in e
run_more p (b ∷ w) r h =
    let q = both_true (p b) _ h in
    let e : suc (length w + run_length p r) ≡ suc (length w) + run_length p r = omega arith in
    when_true (p b) _ _ q.0 ∙ ap suc (run_more p w r q.1) ∙ e

take_more : (k : ℕ) (w r : List ℕ) → take (length w + k) (w ++ r) ≡ w ++ take k r
take_more k [] r = let e : 0 + k ≡ k = omega arith in ap (λ m. take m r) e
take_more k (b ∷ w) r =
    let e : suc (length w) + k ≡ suc (length w + k) = omega arith in
    ap (λ m. take m (b ∷ (w ++ r))) e ∙ ap (λ x. b ∷ x) (take_more k w r)

pub second_false : (x y : Bool) → y ≡ false → (x && y) ≡ false
second_false true y h = h
second_false false y h = refl

long_no_name : (x : List ℕ) → 6 < length x → is_name x ≡ false
long_no_name x h = second_false (starts is_letter x && list_all is_name_byte x) (nat_le (length x) 6)
    (grind (arith, nat_tests))

-- more than six letters and digits are no name
pub name_missing : (w r : List ℕ) → list_all is_name_byte w ≡ true → 6 < length w → name_at (w ++ r) ≡ None
unfolding name_at
name_missing w r h long =
    let k = run_length is_name_byte r in
    let size = length-append w (take k r) in
    ap (λ n. name_of_length n (w ++ r)) (run_more is_name_byte w r h)
    ∙ when_false (is_name (take (length w + k) (w ++ r))) _ None (ap is_name (take_more k w r)
    ∙ long_no_name (w ++ take k r) (omega arith))

run_none : (p : ℕ → Bool) (r : List ℕ) → starts p r ≡ false → run_length p r ≡ 0
run_none p [] h = refl
run_none p (b ∷ r) h = when_false (p b) _ _ h

-- what is no name is not read as one
name_refused : (w r : List ℕ) → list_all is_name_byte w ≡ true → starts is_name_byte r ≡ false → is_name w ≡ false
    → name_at (w ++ r) ≡ None
unfolding name_at
name_refused w r h apart unlike =
    let none = run_none is_name_byte r apart in
    let size : length w + run_length is_name_byte r ≡ length w = omega arith in
    ap (λ n. name_of_length n (w ++ r)) (run_more is_name_byte w r h ∙ size)
    ∙ when_false (is_name (take (length w) (w ++ r))) _ None (ap is_name (take-append_seam w r) ∙ unlike)

-- ---- where no assignment is read

none_then : {A B : Type 0} (m : Option A) (next : A → Option B) → m ≡ None → (m >>= next) ≡ None
none_then m next h = ap (λ o. o >>= next) h

-- what stands behind the left side of an assignment
abbrev right_side : ℕ → Expr × List ℕ → Option Stmt
right_side n left = after (codes "=") left.1 >>= λ rest. parse n 0 rest >>= λ right. whole right
    >>= λ w. Some (Assign left.0 w)

unnamed : (n : ℕ) (t : List ℕ) → name_at t ≡ None → assign n t ≡ None
unfolding assign left_at
unnamed n t h = none_then (left_at n t) (right_side n) (none_then (name_at t) (λ x. named (parse n) n x.0 x.1) h)

pub long_unassigned : (n : ℕ) (w r : List ℕ) → list_all is_name_byte w ≡ true → 6 < length w → assign n (w ++ r) ≡ None
long_unassigned n w r h long = unnamed n (w ++ r) (name_missing w r h long)

behind_name : (n : ℕ) (w r : List ℕ) → is_name w ≡ true → starts is_name_byte r ≡ false
    → (named (parse n) n w r >>= right_side n) ≡ None → assign n (w ++ r) ≡ None
unfolding assign left_at
behind_name n w r h apart k = ap (λ o. (o >>= λ x. named (parse n) n x.0 x.1)
    >>= right_side n) (name_read w r h apart) ∙ k

by_name : (b : Bool) (n : ℕ) (w r : List ℕ) → is_name w ≡ b → list_all is_name_byte w ≡ true
    → starts is_name_byte r ≡ false
    → (is_name w ≡ true → (named (parse n) n w r >>= right_side n) ≡ None) → assign n (w ++ r) ≡ None
by_name true n w r e h apart k = behind_name n w r e apart (k e)
by_name false n w r e h apart k = unnamed n (w ++ r) (name_refused w r h apart e)

no_equals : (n : ℕ) (e : Expr) (r : List ℕ) → begins (codes "=") r ≡ false → right_side n (e, r) ≡ None
no_equals n e r h = none_then (after (codes "=") r) _ (when_false (begins (codes "=") r) _ None h)

-- letters and digits alone, with neither a bracket nor `=` behind them
pub word_unassigned : (n : ℕ) (w r : List ℕ) → list_all is_name_byte w ≡ true → starts is_name_byte r ≡ false
    → begins (codes "(") r ≡ false → begins (codes "=") r ≡ false
    → assign n (w ++ r) ≡ None
word_unassigned n w r h apart closed unequal =
    by_name (is_name w) n w r refl h apart
    (λ _. ap (λ o. o >>= right_side n) (when_false (begins (codes "(") r) _ (Some (Var w, r)) closed)
    ∙ no_equals n (Var w) r unequal)

-- letters and digits with arguments, and no `=` behind them
pub call_unassigned : (n : ℕ) (w : List ℕ) (es : List Expr) (u r : List ℕ) → list_all is_name_byte w ≡ true
    → (arguments (row_of es) ⨾ just (codes ")")) u
    → length u + 1 ≤ n → begins (codes "=") r ≡ false → assign n (w ++ (codes "(" ++ (u ++ r))) ≡ None
call_unassigned n w es u r h args few unequal =
    let size : length u ≤ n = omega arith in
    by_name (is_name w) n w (codes "(" ++ (u ++ r)) refl h refl
    (λ _.
    ap (λ o. (o >>= λ es. Some (Apply w es.0, es.1)) >>= right_side n) (spelled_arguments es u r n n args few size)
    ∙ no_equals n (Apply w es) r unequal)

-- letters and digits, and behind `=` an expression that is not all of the rest
pub counted_unassigned : (n : ℕ) (w : List ℕ) (e : Expr) (u r : List ℕ) → list_all is_name_byte w ≡ true
    → expression e u → length u + 2 ≤ n
    → assign n (w ++ (codes "=" ++ (u ++ (codes "," ++ r)))) ≡ None
counted_unassigned n w e u r h text few =
    by_name (is_name w) n w (codes "=" ++ (u ++ (codes "," ++ r))) refl h refl
    (λ _. ap (λ o. o >>= λ right. whole right
    >>= λ y. Some (Assign (Var w) y)) (spelled_parsed e u (codes "," ++ r) n 0 text (omega arith) few refl))

-- ---- labels as arguments

label_expression : (l : ℕ) (u : List ℕ) → label l u → expression (Const l) u
label_expression l u h = (h.0, few_not_long u h.1, h.2)

more_labels : (ls : List ℕ) (u : List ℕ) → more_listed label ls u → more_arguments (row_of (map Const ls)) u
more_labels [] u h = h
more_labels (l ∷ ls) u h = let p = h.4 in
    (h.0, h.1, h.2, h.3, (p.0, p.1, p.2, label_expression l p.0 p.3, more_labels ls p.1 p.4))

pub labels_arguments : (ls : List ℕ) (u : List ℕ) → comma_list label ls u → arguments (row_of (map Const ls)) u
labels_arguments [] u h = h
labels_arguments (l ∷ ls) u h = (h.0, h.1, h.2, label_expression l h.0 h.3, more_labels ls h.1 h.4)
