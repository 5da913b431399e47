-- The statement that is found is spelled by the text.
use Rattle.std.proofs.Common.{◌≡◌, ℕ, ◌+◌, Bool, true, false, Option, Some, None, List, length, inl, inr, refl}
use Rattle.std.specs.Prelude.{if◌then◌else◌}
use Rattle.fort_syntax.specs.declared.dialect.Dialect.{Dialect}
use Rattle.fort_syntax.specs.declared.stmt.Stmt.{Stmt}
use Rattle.fort_syntax.specs.Grammar.{form, is_deep, Spells}
use Rattle.stmt_parse.specs.Statements.{assign, plain, head, declaration, other, by_word, found, statement_of}
use Rattle.stmt_parse.proofs.Readings.{one_of}
use Rattle.stmt_parse.proofs.DeclarationsSpelled.{head_spelled, declaration_spelled}
use Rattle.stmt_parse.proofs.ExecutableSpelled.{assign_spelled, plain_spelled, other_spelled}

by_word_spelled : (d : Dialect) (n : ℕ) (t : List ℕ) (s : Stmt) → by_word d n t ≡ Some s → form d s t
unfolding by_word
by_word_spelled d n t s h = elim (one_of (plain n t) _ s h) [
  | inl p ↦ (plain_spelled d n t s p).1
  | inr p ↦ elim (one_of (head n t) _ s p) [
    | inl q ↦ head_spelled d n t s q
    | inr q ↦ elim (one_of (declaration n t) (other d n t) s q) [
      | inl r ↦ declaration_spelled d n t s r
      | inr r ↦ other_spelled d n t s r
    ]
  ]
]

found_spelled : (d : Dialect) (n : ℕ) (t : List ℕ) (s : Stmt) → found d n t ≡ Some s → form d s t
unfolding found
found_spelled d n t s h = elim (one_of (assign n t) (by_word d n t) s h) [
  | inl p ↦ (assign_spelled d n t s p).1
  | inr p ↦ by_word_spelled d n t s p
]

allowed : (b : Bool) (m : Option Stmt) (s : Stmt) → (if b then None else m) ≡ Some s → (b ≡ false) × (m ≡ Some s)
allowed true m s h = absurd cc
allowed false m s h = (refl, h)

-- a statement that the parser finds is spelled
pub found_is_spelled : (d : Dialect) (t : List ℕ) (s : Stmt) → statement_of d t ≡ Some s → Spells d t s
unfolding statement_of
found_is_spelled d t s h =
    let p = allowed (is_deep t) (found d (length t + 2) t) s h in
    (found_spelled d (length t + 2) t s p.1, p.0)
