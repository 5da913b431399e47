-- A product with one factor more.
use Rattle.std.proofs.Common.{◌≡◌, ℕ, suc, ◌+◌, sym, ap, ◌∙◌}
use Rattle.weight_caps.specs.Capped.{capped}
use Rattle.weight_caps.specs.Loads.{with_test}
use Rattle.weight_caps.specs.declared.loads.Load.{Load}
use Rattle.weight_tallies.specs.Tallied as t
use Rattle.weight_tallies.specs.Tallies.{power_from}

pub one_factor : (base product more factor n k : ℕ) (load new : Load) (whole : t.Tallied ℕ) → n ≡ suc k → factor ≡ t.next base → more ≡ capped (product + factor) → new ≡ with_test load more
    → power_from base product n load ≡ whole → power_from base more k new ≡ whole
one_factor base product more factor n k load new whole e f g h l =
    (λ i. power_from base more k (h i))
    ∙ ((λ i. power_from base ((g ∙ ap (λ m. capped (product + m)) f) i) k (with_test load ((g ∙ ap (λ m. capped (product + m)) f) i))) ∙ (ap (λ m. power_from base product m load) (sym e) ∙ l))
