-- Reading an expression by climbing operators and the grammar of expressions agree.
use Rattle.std.proofs.Common.{◌≡◌, ℕ, ◌+◌, ◌≤◌, true, Some, List, ◌++◌, length, codes, ap, ◌∙◌}
use Rattle.formula.specs.Atoms.{is_name}
use Rattle.fort_syntax.specs.TreePatterns.{row_of}
use Rattle.fort_syntax.specs.Misspelled.{begins}
use Rattle.fort_syntax.specs.Grammar.{left_side}
use Rattle.fort_syntax.specs.Spelled.{just, binding, expression, ◌⨾◌, arguments}
use Rattle.fort_syntax.specs.declared.expr.Expr.{Expr}
use Rattle.fort_syntax.specs.declared.expr.Expr.TheVariants.{Const, Truth, Var, Apply', Paren', Pos', Neg', Power', Bin', Rel', Not', And', Or'}
use Rattle.stmt_parse.specs.Tokens.{◌>>=◌, name_at}
use Rattle.stmt_parse.specs.Parsing.{bracketed_arguments, named, parse}
use Rattle.stmt_parse.proofs.ExpressionsAnswers.{Begun, begun_so}
use Rattle.stmt_parse.proofs.ExpressionsForms.{Behind}
use Rattle.stmt_parse.proofs.ExpressionsParsed.{Spelled, named_read, bracketed_read, parsed_sound}
pub use Rattle.stmt_parse.proofs.ExpressionsEnds.{is_apart, ends, is_closed, closed_ends}
use Rattle.stmt_parse.proofs.ExpressionsEnds.{ends_parts, no_name_byte, no_bracket}
use Rattle.stmt_parse.proofs.ExpressionsOperators.{read_whole}
use Rattle.stmt_parse.proofs.ExpressionsSpelled.{reads, are_read, bracketed_are_read, apply_named}
use Rattle.stmt_parse.proofs.ExpressionsViews.{apply_row, items_of_row}
use Rattle.stmt_parse.proofs.TokensRead.{when_false, name_read}

-- ---- what is read is spelled

-- an expression
pub parsed_spelled : (f k : ℕ) (t : List ℕ) (e : Expr) (r : List ℕ) → parse f k t ≡ Some (e, r)
    → Begun (Spelled k e) t r
parsed_spelled f k t e r h = parsed_sound f k t e r h

-- the left side of an assignment, behind its name
pub named_spelled : (f n : ℕ) (x t : List ℕ) (e : Expr) (r : List ℕ) → is_name x ≡ true
    → named (parse f) n x t ≡ Some (e, r) → Begun (λ y. left_side e (x ++ y)) t r
named_spelled f n x t e r good h =
    begun_so (Behind x e) (λ y. left_side e (x ++ y)) t r (λ y q. q.0) (named_read (parse f) (parsed_sound f) n x t e r good h)

-- arguments and the bracket that closes them
pub arguments_spelled : (f n : ℕ) (t : List ℕ) (es : List Expr) (r : List ℕ)
    → bracketed_arguments (parse f) n t ≡ Some (es, r)
    → Begun (arguments (row_of es) ⨾ just (codes ")")) t r
arguments_spelled f n t es r h = bracketed_read (parse f) (parsed_sound f) n t es r h

-- ---- what is spelled is read

-- an expression that ends where the rest begins
pub spelled_parsed : (e : Expr) (x r : List ℕ) (f k : ℕ) → expression e x → k ≤ binding e → length x + 2 ≤ f
    → ends k r ≡ true → parse f k (x ++ r) ≡ Some (e, r)
spelled_parsed e x r f k h tight room end =
    let p = ends_parts k r end in read_whole e (reads e) x r f k h tight room p.0 p.1

-- the left side of an assignment
pub spelled_named : (e : Expr) (x r : List ℕ) (f n : ℕ) → left_side e x → length x ≤ f → length x ≤ n
    → is_apart r ≡ true
    → (name_at (x ++ r) >>= λ z. named (parse f) n z.0 z.1) ≡ Some (e, r)
spelled_named (Var v) x r f n h room rounds apart =
    ap (λ t. name_at (t ++ r) >>= λ z. named (parse f) n z.0 z.1) h.0
    ∙ ap (λ y. y >>= λ z. named (parse f) n z.0 z.1) (name_read v r h.1 (no_name_byte r apart))
    ∙ when_false (begins (codes "(") r) _ _ (no_bracket r apart)
spelled_named (Apply' v m args) x r f n h room rounds apart =
    apply_named v args (are_read args) x r f n h room rounds ∙ ap (λ e. Some (e, r)) (apply_row v m args)
spelled_named (Const c) x r f n h room rounds apart = absurd h
spelled_named (Truth b) x r f n h room rounds apart = absurd h
spelled_named (Paren' m a) x r f n h room rounds apart = absurd h
spelled_named (Pos' m a) x r f n h room rounds apart = absurd h
spelled_named (Neg' m a) x r f n h room rounds apart = absurd h
spelled_named (Power' m a p) x r f n h room rounds apart = absurd h
spelled_named (Bin' o m a l b) x r f n h room rounds apart = absurd h
spelled_named (Rel' o m a l b) x r f n h room rounds apart = absurd h
spelled_named (Not' m a) x r f n h room rounds apart = absurd h
spelled_named (And' m a l b) x r f n h room rounds apart = absurd h
spelled_named (Or' m a l b) x r f n h room rounds apart = absurd h

-- arguments and the bracket that closes them
pub spelled_arguments : (es : List Expr) (x r : List ℕ) (f n : ℕ)
    → (arguments (row_of es) ⨾ just (codes ")")) x → length x + 1 ≤ f → length x ≤ n
    → bracketed_arguments (parse f) n (x ++ r) ≡ Some (es, r)
spelled_arguments es x r f n h room rounds =
    bracketed_are_read (row_of es) (are_read (row_of es)) x r f n h room rounds ∙ ap (λ fs. Some (fs, r)) (items_of_row es)
