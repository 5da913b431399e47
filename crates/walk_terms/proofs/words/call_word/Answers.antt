use Rattle.std.proofs.Common.{◌≡◌, ◌∙◌, ◌<◌, ◌++◌, ℕ, List, IfOk, ap, append_assoc, arith, codes, subst, sym}
use Rattle.std.specs.Prelude.{◌^◌, decimal}
use Rattle.walk_terms.proofs.Numerals.{numerals_are_decimal}
use Rattle.walk_terms.proofs.words.call_word.Goals as goal

small : (n : ℕ) → n < 2 ^ 32 → n < 10 ^ 64
small n h = omega arith

pub returns : goal.returns
returns c =
    let name = c.args.name.now in
    let k = c.args.number in
    let low : k < 2 ^ 32 = omega (arith, c.ranges.number) in
    let behind = c.as_slice.ensures.value ∙ c.in-Ok.ensures.ok in
    subst (λ (bs : List ℕ). IfOk c.name_with.result (λ w. w ≡ bs))
    (ap (λ (m : List ℕ). name ++ m) behind ∙ sym (append_assoc name (codes "-") (decimal k))
    ∙ ap (λ (ds : List ℕ). (name ++ codes "-") ++ ds) (sym (numerals_are_decimal k (small k low))))
    c.name_with.ensures
