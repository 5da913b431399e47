use Rattle.std.proofs.Common.{◌≡◌, ◌∙◌, ◌+◌, ap, sym, Some, None, false, true, option_copied, codes}
use Rattle.formula.specs.declared.function.Func.TheVariants.{Defined}
use Rattle.formula.specs.declared.function.Arity.TheVariants.{Exactly}
use Rattle.formula.specs.declared.head.Head.TheVariants.{Function}
use Rattle.formula.specs.Atoms.{same_bytes}
use Rattle.formula.specs.Reading.{all_built_ins, built_in_among, defined_among}
use Rattle.formula.proofs.Lookup.{head_of_next}
use Rattle.formula.proofs.head.head_of.Goals as goal

pub returns-then-eq-2 : goal.returns-then-eq-2
returns-then-eq-2 c =
    let heading = c.in_ok-heading.heading.now in
    let is : option_copied c.args.next ≡ Some heading = ap option_copied c.in_ok-heading.was in
    let is_old : same_bytes (codes "OLD") c.args.name.now ≡ false = ap (λ n. same_bytes n c.args.name.now) (sym c.as_slice.ensures) ∙ sym c.if-eq.ensures in
    let built_in : built_in_among all_built_ins c.args.name.now ≡ None = sym c.in_default.ensures.named in
    let defined : defined_among 1 c.args.headings.now c.args.name.now ≡ None = sym c.in_default-named.ensures in
    let same : same_bytes heading.name c.args.name.now ≡ true = ap (λ n. same_bytes n c.args.name.now) (sym c.as_bytes.ensures) ∙ sym c.if-eq-2.ensures in
    (λ i. Some (Function (Defined (c.count.ensures.count i + 1)) (Exactly heading.count)))
    ∙ sym (head_of_next c.args.headings.now (option_copied c.args.next) heading c.args.name.now is_old built_in defined is same)
