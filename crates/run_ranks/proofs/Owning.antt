-- The end of a list of units or of their code.
use Rattle.std.proofs.Common.{◌≡◌, ℕ, zero, suc, ◌≤◌, List, [], ◌∷◌, ◌++◌, length, drop, refl, sym, ap, ◌∙◌, arith}
use Rattle.fort_syntax.specs.declared.unit.Unit.{Unit as Routine}
use Rattle.run_shapes.specs.declared.unit_code.UnitCode.{UnitCode}
use Rattle.run_ranks.specs.Owns.{own_ranks}
use Rattle.run_ranks.specs.declared.ranks.UnitRank.{UnitRank}

none_left : {X : Type 0} (xs : List X) (i : ℕ) → length xs ≤ i → drop i xs ≡ []
none_left [] zero h = refl
none_left [] (suc i) h = refl
none_left (x ∷ xs) zero h = absurd (omega arith)
none_left (x ∷ xs) (suc i) h = none_left xs i (omega arith)

no_codes : (us : List Routine) → own_ranks us [] ≡ []
no_codes [] = refl
no_codes (u ∷ us) = refl

no_more : (rs : List UnitRank) → rs ++ [] ≡ rs
no_more [] = refl
no_more (r ∷ rs) = ap (λ (xs : List UnitRank). r ∷ xs) (no_more rs)

pub ends_codes : (rs : List UnitRank) (us : List Routine) (cs : List UnitCode) (i : ℕ) → length cs ≤ i → rs ++ own_ranks (drop i us) (drop i cs) ≡ own_ranks us cs → rs ≡ own_ranks us cs
ends_codes rs us cs i h e =
    sym (no_more rs) ∙ (ap (λ (xs : List UnitRank). rs ++ xs) (sym (ap (own_ranks (drop i us)) (none_left cs i h) ∙ no_codes (drop i us))) ∙ e)

pub ends_units : (rs : List UnitRank) (us : List Routine) (cs : List UnitCode) (i : ℕ) → length us ≤ i → rs ++ own_ranks (drop i us) (drop i cs) ≡ own_ranks us cs → rs ≡ own_ranks us cs
ends_units rs us cs i h e =
    sym (no_more rs) ∙ (ap (λ (xs : List UnitRank). rs ++ xs) (sym (ap (λ (vs : List Routine). own_ranks vs (drop i cs)) (none_left us i h))) ∙ e)
