-- Sizes along ways, one after another.
use Rattle.std.proofs.Common.{◌≡◌, ℕ, suc, List, [], ◌∷◌, length, Option, None, Some, sym, ap, ◌∙◌}
use Rattle.fort_syntax.specs.declared.unit.Unit.{Unit as Routine}
use Rattle.fort_model.specs.Program.{Program}
use Rattle.path_cut.specs.Ways.{Way}
use Rattle.path_sizes.specs.Limits.{Sizes}
use Rattle.size_tallies.specs.Totals.{with_load, with_ways}
use Rattle.weight_tallies.specs.Tallies.{bare, load_of}
use Rattle.measure.specs.Sizes.{IsNext, sizes_of}
use Rattle.measure.specs.declared.totals.Totals.{Totals}

module _ (p : Program) (i : ℕ) (u : Routine) (same : bare p ≡ p) where
  -- no way is left
  pub none_next : (told whole : Sizes) (old new : List Way) → IsNext p i u told old new None → with_ways p i u told old ≡ whole → told ≡ whole
  none_next told whole [] new h k = k
  none_next told whole (way ∷ old) new h k = absurd (none h.sizes)
    where
      none : {s : Sizes} → ◌≡◌ {A = Option Sizes} None (Some s) → ⊥
      none e = cc

  -- one is passed
  pub one_next : (told whole : Sizes) (old new : List Way) (more : Totals) → IsNext p i u told old new (Some more) → with_ways p i u told old ≡ whole
      → (with_ways p i u (sizes_of more) new ≡ whole) × (suc (length new) ≡ length old) × (more.paths ≡ suc told.paths)
  one_next told whole [] new more h k = absurd (some h.sizes)
    where
      some : {s : Sizes} → ◌≡◌ {A = Option Sizes} (Some s) None → ⊥
      some e = cc
  one_next told whole (way ∷ old) new more h k =
      let is : sizes_of more ≡ with_load told (load_of p i u way) = here h.sizes in (
        (λ j. with_ways p i u (is j) (h.left j)) ∙ ((λ j. with_ways p i u (with_load told (load_of (sym same j) i u way)) old) ∙ k),
        ap (λ (ways : List Way). suc (length ways)) h.left,
        ap (λ (s : Sizes). s.paths) is,
      )
    where
      here : {s t : Sizes} → ◌≡◌ {A = Option Sizes} (Some s) (Some t) → s ≡ t
      here e = cc
