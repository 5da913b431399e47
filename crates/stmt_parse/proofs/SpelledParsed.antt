-- What spells an expression is read as it, whatever follows that does not go on with it.
use Rattle.std.proofs.Common.{◌≡◌, ℕ, true, false, Some, List, [], ◌∷◌, ◌++◌, codes, ap, ◌∙◌, arith}
use Rattle.std.specs.Prelude.{◌==◌}
use Rattle.std.proofs.lemmas.Bool.Decides.{nat_tests}
use Rattle.formula.specs.Atoms.{is_letter, is_digit, is_name_byte, starts, is_name}
use Rattle.fort_syntax.specs.declared.expr.Expr.TheVariants.{Const}
use Rattle.fort_syntax.specs.Spelled.{constant}
use Rattle.fort_syntax.specs.Misspelled.{begins}
use Rattle.stmt_parse.specs.Tokens.{◌>>=◌}
use Rattle.stmt_parse.specs.Parsing.{Inner, named, front}
use Rattle.stmt_parse.proofs.Climbing.{first_false}
use Rattle.stmt_parse.proofs.ExpressionsAnswers.{both_true}
use Rattle.stmt_parse.proofs.TokensRead.{when_true, when_false, name_read, constant_read}

-- a word with another first byte does not begin the text
differs : (w : ℕ) (ws : List ℕ) (b : ℕ) (rest : List ℕ) → (w == b) ≡ false → begins (w ∷ ws) (b ∷ rest) ≡ false
differs w ws b rest h = first_false (w == b) _ h

letter_apart : (b : ℕ) → is_letter b ≡ true
    → ((46 == b) ≡ false) × ((43 == b) ≡ false) × ((45 == b) ≡ false) × ((40 == b) ≡ false) × (is_digit b ≡ false)
letter_apart b h = (grind (arith, nat_tests), grind (arith, nat_tests), grind (arith, nat_tests), grind (arith, nat_tests), grind (arith, nat_tests))

digit_apart : (b : ℕ) → is_digit b ≡ true
    → ((46 == b) ≡ false) × ((43 == b) ≡ false) × ((45 == b) ≡ false) × ((40 == b) ≡ false)
digit_apart b h =
    (grind (arith, nat_tests), grind (arith, nat_tests), grind (arith, nat_tests), grind (arith, nat_tests))

-- a name, and what follows it
pub name_front : (inner : Inner) (n k : ℕ) (x r : List ℕ) → is_name x ≡ true → starts is_name_byte r ≡ false
    → front inner n k (x ++ r) ≡ named inner n x r
name_front inner n k [] r h apart = absurd cc
name_front inner n k (b ∷ x) r h apart =
    let q = letter_apart b (both_true _ _ (both_true _ _ h).0).0 in
    when_false (begins (codes ".NOT.") (b ∷ x ++ r)) _ _ (differs 46 (codes "NOT.") b (x ++ r) q.0)
    ∙ when_false (begins (codes "+") (b ∷ x ++ r)) _ _ (differs 43 [] b (x ++ r) q.1)
    ∙ when_false (begins (codes "-") (b ∷ x ++ r)) _ _ (differs 45 [] b (x ++ r) q.2)
    ∙ when_false (begins (codes ".TRUE.") (b ∷ x ++ r)) _ _ (differs 46 (codes "TRUE.") b (x ++ r) q.0)
    ∙ when_false (begins (codes ".FALSE.") (b ∷ x ++ r)) _ _ (differs 46 (codes "FALSE.") b (x ++ r) q.0)
    ∙ when_false (begins (codes "(") (b ∷ x ++ r)) _ _ (differs 40 [] b (x ++ r) q.3)
    ∙ when_false (is_digit b) _ _ q.4
    ∙ ap (λ y. y >>= λ z. named inner n z.0 z.1) (name_read (b ∷ x) r h apart)

-- a constant
pub constant_front : (inner : Inner) (n k c : ℕ) (x r : List ℕ) → constant c x → starts is_digit r ≡ false
    → front inner n k (x ++ r) ≡ Some (Const c, r)
constant_front inner n k c [] r h apart = absurd (let bad : false ≡ true = h.0 in cc)
constant_front inner n k c (b ∷ x) r h apart =
    let d : is_digit b ≡ true = (both_true _ _ h.0).0 in
    let q = digit_apart b d in
    when_false (begins (codes ".NOT.") (b ∷ x ++ r)) _ _ (differs 46 (codes "NOT.") b (x ++ r) q.0)
    ∙ when_false (begins (codes "+") (b ∷ x ++ r)) _ _ (differs 43 [] b (x ++ r) q.1)
    ∙ when_false (begins (codes "-") (b ∷ x ++ r)) _ _ (differs 45 [] b (x ++ r) q.2)
    ∙ when_false (begins (codes ".TRUE.") (b ∷ x ++ r)) _ _ (differs 46 (codes "TRUE.") b (x ++ r) q.0)
    ∙ when_false (begins (codes ".FALSE.") (b ∷ x ++ r)) _ _ (differs 46 (codes "FALSE.") b (x ++ r) q.0)
    ∙ when_false (begins (codes "(") (b ∷ x ++ r)) _ _ (differs 40 [] b (x ++ r) q.3)
    ∙ when_true (is_digit b) _ _ d
    ∙ ap (λ y. y >>= λ z. Some (Const z.0, z.1)) (constant_read c (b ∷ x) r h apart)
