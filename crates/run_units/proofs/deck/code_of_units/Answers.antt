use Rattle.std.proofs.Common.{◌≡◌, length, slice_get, refl, sym, ap, ◌∙◌, subst}
use Rattle.run_shapes.specs.Coded.{IsUnitCodeOf}
use Rattle.run_units.proofs.Commoned.{all_held}
use Rattle.run_units.proofs.deck.code_of_units.Goals as goal

pub codes_by-requires-clause-shared : goal.codes_by-requires-clause-shared
codes_by-requires-clause-shared c = all_held c.args.units.now c.as_slice.result.now (c.as_slice.ensures.value ∙ c.in_ok-names.ensures)

pub returns : goal.returns
returns c =
    let common : c.as_slice.result.now ≡ c.from_vec.result = c.as_slice.ensures.value ∙ sym c.from_vec.ensures in
    record {
      spoken = refl;
      long = ap length c.from_vec-2.ensures ∙ c.in_ok-codes.ensures.long;
      each = λ i u unit e f.
          subst (λ xs. IsUnitCodeOf c.args.units.now xs u unit) common
          (c.in_ok-codes.ensures.each i u unit e (ap (λ codes. slice_get codes i) (sym c.from_vec-2.ensures) ∙ f));
    }
