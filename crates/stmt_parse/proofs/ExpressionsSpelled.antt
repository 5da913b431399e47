-- What spells an expression is read as it, whatever follows that ends it.
use Rattle.std.proofs.Common.{◌≡◌, ℕ, zero, suc, ◌+◌, ◌≤◌, true, false, Some, List, [], ◌∷◌, ◌++◌, length, codes, refl, sym, ap, subst, ◌∙◌, append_assoc, append-nil, arith}
use Rattle.std.proofs.lemmas.List.{length-append}
use Rattle.formula.specs.Atoms.{starts, is_name_byte}
use mathlib.Core.Former.{Count}
use Rattle.fort_syntax.specs.Spelled.{name, just, ◌⨾◌, bracketed, expression, arguments, more_arguments}
use Rattle.fort_syntax.specs.TreePatterns.{only}
use Rattle.fort_syntax.specs.declared.name.Name.{Name}
use Rattle.fort_syntax.specs.declared.expr.Expr.{Expr, Apply, Pos, Neg, Not, Row_of-Expr, end_of-Expr, more_of-Expr, items-the_row-Expr}
use Rattle.fort_syntax.specs.declared.expr.Expr.TheVariants.{Const, Truth, Var, Apply', Paren', Pos', Neg', Power', Bin', Rel', Not', And', Or'}
use Rattle.stmt_parse.specs.declared.joint.Joint.TheVariants as joint
use Rattle.stmt_parse.specs.Tokens.{Reading, ◌>>=◌, name_at, after}
use Rattle.stmt_parse.specs.Parsing.{arguments as arguments_at, more_arguments as more_at, bracketed_arguments, named, front, parse}
use Rattle.stmt_parse.proofs.Climbing.{continues}
use Rattle.stmt_parse.proofs.ExpressionsEnds.{is_apart, no_digit}
use Rattle.stmt_parse.proofs.ExpressionsViews.{paren_tree, pos_tree, neg_tree, not_tree, power_tree, bin_tree, rel_tree, and_tree, or_tree, apply_row}
use Rattle.stmt_parse.proofs.PartsParsed.{Reached, first_part}
use Rattle.stmt_parse.proofs.SpelledParsed.{name_front, constant_front}
use Rattle.stmt_parse.proofs.TokensRead.{name_read}
use Rattle.stmt_parse.proofs.ExpressionsOperators.{IsRead, read_whole, truth_read, var_read, joined_read, power_read, prefixed_read, paren_read}

-- ---- arguments

abbrev pub IsReadMore : {m : Count} → Row_of-Expr m → Type 0
IsReadMore row = (es : List Expr) (x r : List ℕ) (f n : ℕ) → more_arguments row x → length x + 1 ≤ f → length x + 1 ≤ n
    → more_at (parse f) n es (x ++ 41 ∷ r) ≡ Some (es ++ items-the_row-Expr _ row, 41 ∷ r)

abbrev pub AreRead : {m : Count} → Row_of-Expr m → Type 0
AreRead row = (x r : List ℕ) (f n : ℕ) → arguments row x → length x + 2 ≤ f → length x + 1 ≤ n
    → arguments_at (parse f) n (x ++ 41 ∷ r) ≡ Some (items-the_row-Expr _ row, 41 ∷ r)

-- what follows an argument ends it
more_ends : {m : Count} (row : Row_of-Expr m) (x r : List ℕ) → more_arguments row x
    → (is_apart (x ++ 41 ∷ r) ≡ true) × (continues 0 (x ++ 41 ∷ r) ≡ false)
more_ends end_of-Expr x r h = (ap (λ y. is_apart (y ++ 41 ∷ r)) h, ap (λ y. continues 0 (y ++ 41 ∷ r)) h)
more_ends (more_of-Expr e row) x r h =
    let same : x ≡ 44 ∷ h.1 = h.2 ∙ ap (λ w. w ++ h.1) h.3 in
    (ap (λ y. is_apart (y ++ 41 ∷ r)) same, ap (λ y. continues 0 (y ++ 41 ∷ r)) same)

-- an argument and those behind it
argument_read : {m : Count} (e : Expr) (row : Row_of-Expr m) → IsRead e → IsReadMore row
    → (es : List Expr) (x r : List ℕ) (f n : ℕ) → (expression e ⨾ more_arguments row) x
    → length x + 2 ≤ f → length x + 1 ≤ n
    → (parse f 0 (x ++ 41 ∷ r) >>= λ y. more_at (parse f) n (es ++ y.0 ∷ []) y.1)
    ≡ Some (es ++ e ∷ items-the_row-Expr _ row, 41 ∷ r)
argument_read e row read_e read_more es x r f n h room rounds =
    let size : length x ≡ length h.0 + length h.1 = ap length h.2 ∙ length-append h.0 h.1 in
    let fits : length h.0 + 2 ≤ f = omega arith in
    let fits_more : length h.1 + 1 ≤ f = omega arith in
    let few : length h.1 + 1 ≤ n = omega arith in
    let end = more_ends row h.1 r h.4 in
    ap (λ t. parse f 0 t >>= λ y. more_at (parse f) n (es ++ y.0 ∷ []) y.1)
    (ap (λ t. t ++ 41 ∷ r) h.2 ∙ append_assoc h.0 h.1 (41 ∷ r))
    ∙ ap (λ z. z >>= λ y. more_at (parse f) n (es ++ y.0 ∷ []) y.1)
    (read_whole e read_e h.0 (h.1 ++ 41 ∷ r) f 0 h.3 (omega arith) fits end.0 end.1)
    ∙ read_more (es ++ e ∷ []) h.1 r f n h.4 fits_more few
    ∙ ap (λ z. Some (z, 41 ∷ r)) (append_assoc es (e ∷ []) (items-the_row-Expr _ row))

more_read : {m : Count} (e : Expr) (row : Row_of-Expr m) → IsRead e → IsReadMore row → IsReadMore (more_of-Expr e row)
more_read e row read_e read_more es x r f zero h room rounds = absurd (omega arith)
more_read e row read_e read_more es x r f (suc n) h room rounds =
    let same : x ≡ 44 ∷ h.1 = h.2 ∙ ap (λ w. w ++ h.1) h.3 in
    let size : length x ≡ suc (length h.1) = ap length same in
    ap (λ t. more_at (parse f) (suc n) es (t ++ 41 ∷ r)) same
    ∙ argument_read e row read_e read_more es h.1 r f n h.4 (omega arith) (omega arith)

none_read : IsReadMore end_of-Expr
none_read es x r f zero h room rounds = absurd (omega arith)
none_read es x r f (suc n) h room rounds =
    ap (λ t. more_at (parse f) (suc n) es (t ++ 41 ∷ r)) h ∙ ap (λ z. Some (z, 41 ∷ r)) (sym (append-nil es))

pub bracketed_are_read : {m : Count} (row : Row_of-Expr m) → AreRead row → (x r : List ℕ) (f n : ℕ)
    → (arguments row ⨾ just (codes ")")) x → length x + 1 ≤ f → length x ≤ n
    → bracketed_arguments (parse f) n (x ++ r) ≡ Some (items-the_row-Expr _ row, r)
bracketed_are_read row read x r f n h room rounds =
    let same : x ≡ h.0 ++ 41 ∷ [] = h.2 ∙ ap (λ w. h.0 ++ w) h.4 in
    let size : length x ≡ length h.0 + 1 = ap length same ∙ length-append h.0 (41 ∷ []) in
    ap (bracketed_arguments (parse f) n) (ap (λ t. t ++ r) same ∙ append_assoc h.0 (41 ∷ []) r)
    ∙ ap (λ z. z >>= λ es. after (codes ")") es.1 >>= λ rest. Some (es.0, rest))
    (read h.0 r f n h.3 (omega arith) (omega arith))

-- a name and its arguments
pub named_are_read : {m : Count} (x : Name) (row : Row_of-Expr m) → AreRead row → (y r : List ℕ) (f n : ℕ)
    → bracketed (arguments row) y → length y ≤ f → length y ≤ n + 1
    → named (parse f) n x (y ++ r) ≡ Some (Apply x (items-the_row-Expr _ row), r)
named_are_read x row read y r f n h room rounds =
    let same : y ≡ 40 ∷ h.1 = h.2 ∙ ap (λ w. w ++ h.1) h.3 in
    let size : length y ≡ suc (length h.1) = ap length same in
    ap (λ t. named (parse f) n x (t ++ r)) same
    ∙ ap (λ z. z >>= λ es. Some (Apply x es.0, es.1)) (bracketed_are_read row read h.1 r f n h.4 (omega arith) (omega arith))

-- ---- each expression

-- a name and its arguments, however the name was come to
name_then : {m : Count} (x : Name) (row : Row_of-Expr m) → AreRead row
    → (start : List ℕ → Reading Expr) (t r : List ℕ) (f n : ℕ)
    → ((y : List ℕ) → starts is_name_byte y ≡ false → start (x ++ y) ≡ named (parse f) n x y)
    → (name x ⨾ bracketed (arguments row)) t → length t ≤ f → length t ≤ n
    → start (t ++ r) ≡ Some (Apply x (items-the_row-Expr _ row), r)
name_then x row read start t r f n begin h room rounds =
    let y : List ℕ = h.1 in
    let same : t ≡ x ++ y = h.2 ∙ ap (λ w. w ++ y) h.3.0 in
    let size : length t ≡ length x + length y = ap length same ∙ length-append x y in
    let opened : y ≡ 40 ∷ h.4.1 = h.4.2 ∙ ap (λ w. w ++ h.4.1) h.4.3 in
    ap (λ w. start (w ++ r)) same
    ∙ ap start (append_assoc x y r)
    ∙ begin (y ++ r) (ap (λ w. starts is_name_byte (w ++ r)) opened)
    ∙ named_are_read x row read y r f n h.4 (omega arith) (omega arith)

apply_front : {m : Count} (x : Name) (row : Row_of-Expr m) → AreRead row → (t r : List ℕ) (f k : ℕ)
    → (name x ⨾ bracketed (arguments row)) t → length t + 1 ≤ f
    → Reached f k (Apply x (items-the_row-Expr _ row)) t r
apply_front x row read t r f k h room =
    first_part f k (Apply x (items-the_row-Expr _ row)) t r
    (name_then x row read (front (parse f) f k) t r f f
    (λ y apart. name_front (parse f) f k x y h.3.1 apart) h (omega arith) (omega arith))

pub apply_named : {m : Count} (x : Name) (row : Row_of-Expr m) → AreRead row → (t r : List ℕ) (f n : ℕ)
    → (name x ⨾ bracketed (arguments row)) t → length t ≤ f → length t ≤ n
    → (name_at (t ++ r) >>= λ z. named (parse f) n z.0 z.1) ≡ Some (Apply x (items-the_row-Expr _ row), r)
apply_named x row read t r f n h room rounds =
    name_then x row read (λ w. name_at w >>= λ z. named (parse f) n z.0 z.1) t r f n
    (λ y apart. ap (λ w. w >>= λ z. named (parse f) n z.0 z.1) (name_read x y h.3.1 apart)) h (omega arith) (omega arith)

mutual
  pub reads : (e : Expr) → IsRead e
  reads (Const n) x r f k h tight room apart stop =
      first_part f k (Const n) x r (constant_front (parse f) f k n x r h (no_digit r apart))
  reads (Truth b) x r f k h tight room apart stop = truth_read b x r f k h
  reads (Var name) x r f k h tight room apart stop = var_read name x r f k h apart
  reads (Apply' name m args) x r f k h tight room apart stop =
      subst (λ e. Reached f k e x r) (apply_row name m args) (apply_front name args (are_read args) x r f k h room)
  reads (Paren' m (only a)) x r f k h tight room apart stop =
      subst (λ e. Reached f k e x r) (paren_tree a) (paren_read a (reads a) x r f k h room)
  reads (Pos' m (only a)) x r f k h tight room apart stop =
      subst (λ e. Reached f k e x r) (pos_tree a)
      (prefixed_read (codes "+") Pos 4 a (reads a) x r f k h (λ t. refl) (omega arith) tight room apart stop)
  reads (Neg' m (only a)) x r f k h tight room apart stop =
      subst (λ e. Reached f k e x r) (neg_tree a)
      (prefixed_read (codes "-") Neg 4 a (reads a) x r f k h (λ t. refl) (omega arith) tight room apart stop)
  reads (Not' m (only a)) x r f k h tight room apart stop =
      subst (λ e. Reached f k e x r) (not_tree a)
      (prefixed_read (codes ".NOT.") Not 2 a (reads a) x r f k h (λ t. refl) (omega arith) tight room apart stop)
  reads (Power' m (only a) n) x r f k h tight room apart stop =
      subst (λ e. Reached f k e x r) (power_tree a n) (power_read a n (reads a) x r f k h tight room)
  reads (Bin' o m (only a) n (only b)) x r f k h tight room apart stop =
      subst (λ e. Reached f k e x r) (bin_tree o a b)
      (joined_read (joint.Bin o) a b (reads a) (reads b) x r f k h tight room apart stop)
  reads (Rel' o m (only a) n (only b)) x r f k h tight room apart stop =
      subst (λ e. Reached f k e x r) (rel_tree o a b)
      (joined_read (joint.Rel o) a b (reads a) (reads b) x r f k h tight room apart stop)
  reads (And' m (only a) n (only b)) x r f k h tight room apart stop =
      subst (λ e. Reached f k e x r) (and_tree a b)
      (joined_read joint.And a b (reads a) (reads b) x r f k h tight room apart stop)
  reads (Or' m (only a) n (only b)) x r f k h tight room apart stop =
      subst (λ e. Reached f k e x r) (or_tree a b)
      (joined_read joint.Or a b (reads a) (reads b) x r f k (h.0, h.1, h.2, (omega arith, h.3), h.4) tight room apart stop)

  pub more_are_read : {m : Count} (row : Row_of-Expr m) → IsReadMore row
  more_are_read end_of-Expr = none_read
  more_are_read (more_of-Expr e row) = more_read e row (reads e) (more_are_read row)

  pub are_read : {m : Count} (row : Row_of-Expr m) → AreRead row
  are_read end_of-Expr x r f n h room rounds = absurd h
  are_read (more_of-Expr e row) x r f n h room rounds =
      argument_read e row (reads e) (more_are_read row) [] x r f n h room rounds
