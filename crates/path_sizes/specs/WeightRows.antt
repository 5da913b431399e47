-- Weights of small decks.
use Rattle.std.specs.Prelude.{◌≡◌, ℕ, ◌+◌, List, [], ◌∷◌, sum, map, codes}
use Rattle.fort_syntax.specs.TreePatterns.{only}
use Rattle.fort_syntax.specs.SmallDecks.{bin, applied_to, I, J, M, N}
use Rattle.fort_syntax.specs.declared.dialect.Dialect.{Dialect}
use Rattle.fort_syntax.specs.declared.dialect.Dialect.TheVariants.{Common, SeventySeven}
use Rattle.fort_syntax.specs.declared.dialect.BinOp.TheVariants.{Add}
use Rattle.fort_syntax.specs.declared.expr.Expr.TheVariants.{Const, Var, Power'}
use Rattle.fort_syntax.specs.declared.stmt.Stmt.TheVariants.{Assign, Return}
use Rattle.fort_syntax.specs.declared.unit.Role.TheVariants.{Dummy, Local}
use Rattle.fort_syntax.specs.declared.unit.Unit.{Unit as Routine}
use Rattle.formula.specs.declared.function.BuiltIn.TheVariants as f
use Rattle.formula.specs.Tree.{symbol}
use Rattle.fort_model.specs.Program.{Program}
use Rattle.fort_model.specs.Paths.{Path}
use Rattle.fort_model.specs.Decks.{line, scalar, routine}
use Rattle.fort_model.specs.Rows.{inc, twice, up_to, swap, rotate}
use Rattle.fort_model.specs.WalkRows.{term, defined, number, at_most, inc_program, alone, plain_notes, the_path}
use Rattle.fort_model.specs.CheckRows.{difference, twice_program, from_assert}
use Rattle.fort_model.specs.VerdictRows.{rotate_program}
use Rattle.path_sizes.specs.Weights.{weights_of}

-- one is added to I: the value, the sum, and OUTPUT
abbrev pub WeightsOfInc : Type 0
WeightsOfInc = weights_of inc_program 0 inc (the_path ([] ∷ [] ∷ [])) ≡ 10 ∷ 14 ∷ 23 ∷ []

-- the weight of a unit along some paths
abbrev pub weight_along : Program → ℕ → Routine → List Path → ℕ
weight_along p i u paths = sum (map (λ path. sum (weights_of p i u path)) paths)

-- a DO up to N, with its notes
abbrev pub zero_program : Dialect → Program
zero_program dialect =
    alone dialect up_to
    (record {
      input = defined N ∷ at_most (number 0) (symbol N) ∷ at_most (symbol N) (number 100) ∷ [];
      output = term f.Equal (symbol M ∷ term f.Plus (symbol N ∷ number 1 ∷ []) ∷ []) ∷ [];
      asserts = record {
        point = 1;
        card = 5;
        terms = defined I ∷ at_most (number 1) (symbol I) ∷ at_most (symbol I) (symbol N) ∷ [];
        clock = difference (symbol N) (symbol I) ∷ [];
      } ∷ [];
    })
    (M ∷ I ∷ [])

abbrev pub WeightsOfLoops : Type 0
WeightsOfLoops =
    (weight_along (twice_program Common) 0 twice
    (the_path ([] ∷ [] ∷ []) ∷ from_assert 1 ((1 ∷ []) ∷ []) ∷ from_assert 1 ((2 ∷ 1 ∷ []) ∷ [] ∷ [])
    ∷ from_assert 1 ((2 ∷ 2 ∷ []) ∷ [] ∷ [] ∷ []) ∷ [])
    ≡ 2205)
    × (weight_along (zero_program Common) 0 up_to
    (the_path ([] ∷ []) ∷ from_assert 1 ((1 ∷ []) ∷ []) ∷ from_assert 1 ((2 ∷ []) ∷ [] ∷ [] ∷ []) ∷ [])
    ≡ 712)
    × (weight_along (zero_program SeventySeven) 0 up_to
    (the_path ((1 ∷ []) ∷ []) ∷ the_path ((2 ∷ []) ∷ [] ∷ [] ∷ []) ∷ from_assert 1 ((1 ∷ []) ∷ []) ∷ from_assert 1
    ((2 ∷ []) ∷ [] ∷ [] ∷ []) ∷ [])
    ≡ 965)

abbrev pub WeightsOfCalls : Type 0
WeightsOfCalls =
    weight_along rotate_program 0 swap (the_path ([] ∷ [] ∷ [] ∷ [] ∷ []) ∷ []) + weight_along rotate_program
    1 rotate (the_path ([] ∷ [] ∷ [] ∷ []) ∷ []) ≡ 319

-- J = MAX0(1,2,3) + MOD(7,2)**3: the divisor, the quotient, two products, the sum, and OUTPUT
abbrev pub powers : Routine
powers = routine (codes "P") (I ∷ []) (scalar Dummy I ∷ scalar Local J ∷ [])
    (line 4 (Assign (Var J) (bin Add (applied_to (codes "MAX0") (Const 1 ∷ Const 2 ∷ Const 3 ∷ [])) (Power' _ (only (applied_to (codes "MOD") (Const 7 ∷ Const 2 ∷ []))) 3)))
    ∷ line 5 Return
    ∷ [])

abbrev pub WeightsOfPowers : Type 0
WeightsOfPowers = weights_of (alone Common powers (plain_notes []) (J ∷ [])) 0 powers (the_path ([] ∷ [] ∷ []))
    ≡ 7 ∷ 11 ∷ 20 ∷ 33 ∷ 51 ∷ 53 ∷ []
