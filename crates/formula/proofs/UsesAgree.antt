-- Terms are worth the same where what they use agrees.
use Rattle.std.proofs.Common.{◌≡◌, ℕ, Bool, true, ◌∷◌, refl, ap, ◌∙◌}
use Rattle.std.specs.Cmp.{first_so, second_so}
use Rattle.formula.specs.declared.function.Func.{Func}
use Rattle.formula.specs.declared.function.Func.TheVariants.{BuiltIn, Defined}
use Rattle.formula.specs.TermTests.{use_passes, uses_pass, row_uses_pass}
use Rattle.formula.specs.Tree.{Tree, num, truth, symbol, old, apply, Row, none, more}
use Rattle.formula.specs.Values.{applied}
use Rattle.formula.specs.Worth.{Uses, Valuation, function_worth, worth_by, worths_by}

module _ (test : ℕ → Row → Bool) (a b : Uses) (symbols entries : Valuation)
    (agree : (k : ℕ) (row : Row) → test k row ≡ true → a k (worths_by a symbols entries row) ≡ b k (worths_by a symbols entries row)) where
  function_agrees : (f : Func) (row : Row) → use_passes test f row ≡ true → worths_by a symbols entries row ≡ worths_by b symbols entries row
      → function_worth a f (worths_by a symbols entries row) ≡ function_worth b f (worths_by b symbols entries row)
  function_agrees (BuiltIn f) row h e = ap (applied f) e
  function_agrees (Defined k) row h e = agree k row h ∙ ap (b k) e

  mutual
    -- uses that agree on the arguments of all that pass a test, in a term whose uses pass it
    pub uses_agree : (t : Tree) → uses_pass test t ≡ true → worth_by a symbols entries t ≡ worth_by b symbols entries t
    uses_agree (num z) h = refl
    uses_agree (truth c) h = refl
    uses_agree (symbol s) h = refl
    uses_agree (old s) h = refl
    uses_agree (apply f row) h =
        function_agrees f row (first_so (use_passes test f row) (row_uses_pass test row) h) (row_agrees row (second_so (use_passes test f row) (row_uses_pass test row) h))

    row_agrees : (row : Row) → row_uses_pass test row ≡ true → worths_by a symbols entries row ≡ worths_by b symbols entries row
    row_agrees none h = refl
    row_agrees (more t rest) h =
        let head = uses_agree t (first_so (uses_pass test t) (row_uses_pass test rest) h) in
        let tail = row_agrees rest (second_so (uses_pass test t) (row_uses_pass test rest) h) in
        λ i. head i ∷ tail i
