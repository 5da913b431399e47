-- Intrinsic functions by how many values there are.
use Rattle.std.proofs.Common.{◌≡◌, ℕ, zero, suc, ◌+◌, ◌<◌, Bool, true, false, List, [], ◌∷◌, length, refl, sym, ap, ◌∙◌, arith}
use Rattle.std.specs.Prelude.{ℤ, Ok}
use Rattle.formula.specs.declared.value.Cell.{Cell}
use Rattle.formula.specs.declared.value.Cell.TheVariants.{Int, Undefined}
use Rattle.fort_syntax.specs.Names.{Absolute, Modulo, Greatest, Least}
use Rattle.fort_model.specs.declared.bounds.Bounds.{Bounds}
use Rattle.run_intrinsics.specs.Intrinsics.{intrinsic_to}
use Rattle.run_state.specs.Deeds.{newest_in, values_in}
use Rattle.run_state.specs.declared.machine.Item.{Item}
use Rattle.run_elements.specs.Elements.{better, folded_all, extreme_to}
use Rattle.run_elements.proofs.Depths.{newest_long, values_long}

values_count : (n : ℕ) (items : List Item) → length (values_in (newest_in n items [])) ≡ n
values_count n items = values_long (newest_in n items []) ∙ newest_long n items [] ∙ (let same : n + 0 ≡ n = omega arith in same)

some_extreme : (least : Bool) (cs : List Cell) → 0 < length cs → Int (folded_all (better least) cs) ≡ extreme_to least cs
some_extreme least [] h = absurd (omega arith)
some_extreme least (c ∷ cs) h = refl

pub extreme_is : (least : Bool) (n : ℕ) (items : List Item) (z : ℤ) → (n ≡ 0 → ⊥) → z ≡ folded_all (better least) (values_in (newest_in n items [])) → Int z ≡ extreme_to least (values_in (newest_in n items []))
extreme_is least zero items z some e = absurd (some refl)
extreme_is least (suc n) items z some e =
    let count : length (values_in (newest_in (suc n) items [])) ≡ suc n = values_count (suc n) items in
    ap (λ z. Int z) e ∙ some_extreme least (values_in (newest_in (suc n) items [])) (omega arith)

pub no_extreme : (least : Bool) (n : ℕ) (items : List Item) → n ≡ 0 → Undefined ≡ extreme_to least (values_in (newest_in n items []))
no_extreme least n items e = sym (ap (λ k. extreme_to least (values_in (newest_in k items []))) e)

other_absolute : (b : Bounds) (cs : List Cell) → (length cs ≡ 1 → ⊥) → Ok Undefined ≡ intrinsic_to b Absolute cs
other_absolute b [] h = refl
other_absolute b (c ∷ []) h = absurd (h refl)
other_absolute b (c ∷ d ∷ cs) h = refl

other_modulo : (b : Bounds) (cs : List Cell) → (length cs ≡ 2 → ⊥) → Ok Undefined ≡ intrinsic_to b Modulo cs
other_modulo b [] h = refl
other_modulo b (c ∷ []) h = refl
other_modulo b (c ∷ d ∷ []) h = absurd (h refl)
other_modulo b (c ∷ d ∷ e ∷ cs) h = refl

pub no_absolute : (b : Bounds) (n : ℕ) (items : List Item) → (n ≡ 1 → ⊥) → Ok Undefined ≡ intrinsic_to b Absolute (values_in (newest_in n items []))
no_absolute b n items h = other_absolute b (values_in (newest_in n items [])) (λ e. h (sym (values_count n items) ∙ e))

pub no_modulo : (b : Bounds) (n : ℕ) (items : List Item) → (n ≡ 2 → ⊥) → Ok Undefined ≡ intrinsic_to b Modulo (values_in (newest_in n items []))
no_modulo b n items h = other_modulo b (values_in (newest_in n items [])) (λ e. h (sym (values_count n items) ∙ e))

pub greatest_is : (b : Bounds) (cs : List Cell) → Ok (extreme_to false cs) ≡ intrinsic_to b Greatest cs
greatest_is b [] = refl
greatest_is b (c ∷ cs) = refl

pub least_is : (b : Bounds) (cs : List Cell) → Ok (extreme_to true cs) ≡ intrinsic_to b Least cs
least_is b [] = refl
least_is b (c ∷ cs) = refl
