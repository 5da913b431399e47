use Rattle.std.proofs.Common.{◌≡◌, ◌∙◌, sym, ap, length, arith}
use Rattle.std.specs.Prelude.{◌&&◌, pos, get_or}
use Rattle.formula.specs.Passing.{is_that_number}
use Rattle.formula.specs.Pool.{tree_at, trees}
use Rattle.formula.proofs.Passes.{two_arguments}
use Rattle.formula.proofs.passing.are_word_and_one.Goals as goal

pub returns-then-is_that_symbol : goal.returns-then-is_that_symbol
returns-then-is_that_symbol c =
    let args = c.args.args.now in
    let ts = trees c.args.pool.now in
    let count : length args ≡ 2 = omega (arith, c.in-len2.len_at_least, c.in-len2.len_below) in
    c.is_that_number.ensures
    ∙ ap (λ b. b && is_that_number (pos 1) (tree_at ts (get_or args 1 (record { place = 0 })).place)) (sym (sym c.is_that_symbol.ensures ∙ c.if-is_that_symbol.true))
    ∙ sym (two_arguments c.args.word ts args (record { place = 0 }) count)

pub returns-else-is_that_symbol : goal.returns-else-is_that_symbol
returns-else-is_that_symbol c =
    let args = c.args.args.now in
    let ts = trees c.args.pool.now in
    let count : length args ≡ 2 = omega (arith, c.in-len2.len_at_least, c.in-len2.len_below) in
    c.if-is_that_symbol.false
    ∙ ap (λ b. b && is_that_number (pos 1) (tree_at ts (get_or args 1 (record { place = 0 })).place)) (sym (sym c.is_that_symbol.ensures ∙ c.if-is_that_symbol.false))
    ∙ sym (two_arguments c.args.word ts args (record { place = 0 }) count)
