-- A DO that is spelled is read, and is no assignment.
use Rattle.std.proofs.Common.{◌≡◌, ℕ, ◌+◌, ◌≤◌, true, false, Option, Some, None, List, [], ◌++◌, length, codes, refl, sym, ap, ◌∙◌, append_assoc, arith}
use Rattle.std.specs.List.{list_all}
use Rattle.formula.specs.Atoms.{is_digit, is_name_byte, starts}
use Rattle.fort_syntax.specs.declared.name.Name.{Name}
use Rattle.fort_syntax.specs.declared.expr.Expr.{Expr, Const, Var}
use Rattle.fort_syntax.specs.declared.stmt.Param.{Param}
use Rattle.fort_syntax.specs.declared.stmt.Param.TheVariants as parameter
use Rattle.fort_syntax.specs.declared.stmt.Stmt.{Do}
use Rattle.fort_syntax.specs.Spelled.{just, ◌⨾◌, name, label, expression}
use Rattle.fort_syntax.specs.Grammar.{param, step}
use Rattle.stmt_parse.specs.Tokens.{◌>>=◌, after, name_at, constant_at, label_at}
use Rattle.stmt_parse.specs.Statements.{whole, assign, param_at, step_at, do_of}
use Rattle.stmt_parse.proofs.TokensRead.{when_true, when_false, constant_read, label_read}
use Rattle.stmt_parse.proofs.ExpressionsAnswers.{both_true}
use Rattle.stmt_parse.proofs.ExpressionsEnds.{is_apart, no_name_byte, no_digit}
use Rattle.stmt_parse.proofs.PartEnds.{name_no_digit, step_to, lengths, at_end}
use Rattle.stmt_parse.proofs.ListsRead.{name_begins}
use Rattle.stmt_parse.proofs.ItemsRead.{digit_first}
use Rattle.stmt_parse.proofs.Unassigned.{counted_unassigned}
use Rattle.stmt_parse.proofs.PlainRead.{behind, all_name_bytes, all_joined, name_bytes}

param_complete : (p : Param) (u r : List ℕ) → param p u → is_apart r ≡ true → param_at (u ++ r) ≡ Some (p, r)
unfolding param_at
param_complete (parameter.Fixed c) u r h e =
    when_true (starts is_digit (u ++ r)) _ _ (digit_first u r h.0)
    ∙ step_to (constant_at (u ++ r)) (c, r) (λ c. Some (parameter.Fixed c.0, c.1)) _
    (constant_read c u r h (no_digit r e)) refl
param_complete (parameter.Named x) u r h e =
    when_false (starts is_digit (u ++ r)) _ _ (ap (λ y. starts is_digit (y ++ r)) h.0 ∙ name_no_digit x r h.1)
    ∙ step_to (name_at (u ++ r)) (x, r) (λ x. Some (parameter.Named x.0, x.1)) _
    (name_begins x u r h (no_name_byte r e)) refl

step_read : (by : Option Param) (u : List ℕ) → step by u → (is_apart u ≡ true) × (step_at u ≡ Some (by, []))
unfolding step_at
step_read None u h = (ap is_apart h, ap step_at h)
step_read (Some p) u h =
    let b = behind (codes ",") u h in (
      ap is_apart b.1,
      ap step_at b.1 ∙ step_to (param_at b.0) (p, []) (λ p. Some (Some p.0, p.1)) _
          (at_end param_at b.0 p (param_complete p b.0 [] b.2 refl)) refl,
    )

-- the texts of a DO behind its first word
abbrev pub Counts : ℕ → Name → Param → Param → Option Param → List ℕ → Type 0
Counts l x a b by = label l ⨾ name x ⨾ just (codes "=") ⨾ param a ⨾ just (codes ",") ⨾ param b ⨾ step by

-- a label, a name, two parameters and a step
record Parts (l : ℕ) (x : Name) (a b : Param) (by : Option Param) (t : List ℕ) : Type 0 where
  label_text : List ℕ
  name_text : List ℕ
  first : List ℕ
  last : List ℕ
  step_text : List ℕ
  same : t ≡ label_text ++ (name_text ++ (codes "=" ++ (first ++ (codes "," ++ (last ++ step_text)))))
  is_label : label l label_text
  is_name : name x name_text
  is_first : param a first
  is_last : param b last
  is_step : step by step_text

parts : (l : ℕ) (x : Name) (a b : Param) (by : Option Param) (t : List ℕ) → Counts l x a b by t → Parts l x a b by t
parts l x a b by t h =
    let n = h.4 in
    let p = behind (codes "=") n.1 n.4 in
    let q = p.2 in
    let r = behind (codes ",") q.1 q.4 in
    let s = r.2 in
    record {
      label_text = h.0;
      name_text = n.0;
      first = q.0;
      last = s.0;
      step_text = s.1;
      same =
          h.2 ∙ ap (λ y. h.0 ++ y) (n.2 ∙ ap (λ y. n.0 ++ y) (p.1
          ∙ ap (λ y. codes "=" ++ y) (q.2 ∙ ap (λ y. q.0 ++ y) (r.1 ∙ ap (λ y. codes "," ++ y) s.2))));
      is_label = h.3;
      is_name = n.3;
      is_first = q.3;
      is_last = s.3;
      is_step = s.4;
    }

name_behind : (x u r : List ℕ) → name x u → starts is_digit (u ++ r) ≡ false
name_behind x u r h = ap (λ y. starts is_digit (y ++ r)) h.0 ∙ name_no_digit x r h.1

pub do_read : (l : ℕ) (x : Name) (a b : Param) (by : Option Param) (t : List ℕ) → Counts l x a b by t
    → do_of t ≡ Some (Do l x a b by)
unfolding do_of
do_read l x a b by t h =
    let p = parts l x a b by t h in
    let last = p.last ++ p.step_text in
    let first = p.first ++ (codes "," ++ last) in
    let end = step_read by p.step_text p.is_step in
    ap do_of p.same
    ∙ step_to (label_at (p.label_text ++ (p.name_text ++ (codes "=" ++ first))))
    (l, p.name_text ++ (codes "=" ++ first))
    (λ l. name_at l.1 >>= λ x. after (codes "=") x.1 >>= λ r1. param_at r1 >>= λ a. after (codes ",") a.1
    >>= λ r2. param_at r2 >>= λ b. step_at b.1 >>= λ by. whole by >>= λ w. Some (Do l.0 x.0 a.0 b.0 w)) _
    (label_read l p.label_text (p.name_text ++ (codes "=" ++ first)) p.is_label
    (name_behind x p.name_text (codes "=" ++ first) p.is_name))
    (step_to (name_at (p.name_text ++ (codes "=" ++ first))) (x, codes "=" ++ first)
    (λ x. after (codes "=") x.1 >>= λ r1. param_at r1 >>= λ a. after (codes ",") a.1 >>= λ r2. param_at r2
    >>= λ b. step_at b.1 >>= λ by. whole by >>= λ w. Some (Do l x.0 a.0 b.0 w)) _
    (name_begins x p.name_text (codes "=" ++ first) p.is_name refl)
    (step_to (param_at first) (a, codes "," ++ last)
    (λ a. after (codes ",") a.1 >>= λ r2. param_at r2 >>= λ b. step_at b.1 >>= λ by. whole by
    >>= λ w. Some (Do l x a.0 b.0 w)) _
    (param_complete a p.first (codes "," ++ last) p.is_first refl)
    (step_to (param_at last) (b, p.step_text) (λ b. step_at b.1 >>= λ by. whole by >>= λ w. Some (Do l x a b.0 w)) _
    (param_complete b p.last p.step_text p.is_last end.0)
    (step_to (step_at p.step_text) (by, []) (λ by. whole by >>= λ w. Some (Do l x a b w)) _ end.1 refl))))

-- a parameter as an expression
param_expression : (p : Param) (u : List ℕ) → param p u → (e : Expr) × expression e u
param_expression (parameter.Fixed c) u h = (Const c, h)
param_expression (parameter.Named x) u h = (Var x, h)

behind_do : (a b c : List ℕ) → codes "DO" ++ (a ++ (b ++ c)) ≡ (codes "DO" ++ (a ++ b)) ++ c
behind_do a b c = ap (λ y. codes "DO" ++ y) (sym (append_assoc a b c)) ∙ sym (append_assoc (codes "DO") (a ++ b) c)

first_fits : (t a b c f r : List ℕ) → t ≡ a ++ (b ++ (codes "=" ++ (f ++ r))) → length f + 1 ≤ length t
first_fits t a b c f r h =
    let p = lengths t a (b ++ (codes "=" ++ (f ++ r))) h in
    let q = lengths (b ++ (codes "=" ++ (f ++ r))) b (codes "=" ++ (f ++ r)) refl in
    let s = lengths (codes "=" ++ (f ++ r)) (codes "=") (f ++ r) refl in
    let u = lengths (f ++ r) f r refl in
    let one : length (codes "=") ≡ 1 = refl in
    omega arith

-- the first word, the label and the name are letters and digits
counted_bytes : (l : ℕ) (x : Name) (u v : List ℕ) → label l u → name x v
    → list_all is_name_byte (codes "DO" ++ (u ++ v)) ≡ true
counted_bytes l x u v h k =
    all_joined is_name_byte (codes "DO") (u ++ v) refl
    (all_joined is_name_byte u v (all_name_bytes u (both_true (starts is_digit u) _ h.0).1) (name_bytes x v k))

pub do_unassigned : (n l : ℕ) (x : Name) (a b : Param) (by : Option Param) (t : List ℕ) → Counts l x a b by t
    → length t + 1 ≤ n
    → assign n (codes "DO" ++ t) ≡ None
do_unassigned n l x a b by t h few =
    let p = parts l x a b by t h in
    let e = param_expression a p.first p.is_first in
    let last = p.last ++ p.step_text in
    let size = first_fits t p.label_text p.name_text [] p.first (codes "," ++ last) p.same in
    ap (assign n) (ap (λ y. codes "DO" ++ y) p.same
    ∙ behind_do p.label_text p.name_text (codes "=" ++ (p.first ++ (codes "," ++ last))))
    ∙ counted_unassigned n (codes "DO" ++ (p.label_text ++ p.name_text)) e.0 p.first last
    (counted_bytes l x p.label_text p.name_text p.is_label p.is_name) e.1 (omega arith)
