-- The own names of a well-formed unit have as many cells as the constants among their dimensions say.
use Rattle.std.proofs.Common.{◌≡◌, ℕ, ◌*◌, Bool, true, false, not, ◌&&◌, List, [], ◌∷◌, map, refl, sym, ap, ◌∙◌, arith}
use Rattle.std.specs.Prelude.{pos, cond}
use Rattle.std.specs.List.{list_all}
use Rattle.formula.specs.Atoms.{is_among}
use Rattle.formula.specs.Values.{count}
use Rattle.fort_syntax.specs.Names.{is_own, own_in}
use Rattle.fort_syntax.specs.Scopes.{is_integer_scalar}
use Rattle.fort_syntax.specs.Units.{names_in_dims}
use Rattle.fort_syntax.specs.NameRules.{is_bad_shape}
use Rattle.fort_syntax.specs.WellFormed.{IsWellFormedUnit, has_right_dims, same_role, scope_of_unit}
use Rattle.fort_syntax.specs.declared.dialect.Dialect.{Dialect}
use Rattle.fort_syntax.specs.declared.name.Name.{Name}
use Rattle.fort_syntax.specs.declared.stmt.Dim.{Dim}
use Rattle.fort_syntax.specs.declared.stmt.Dim.TheVariants.{Fixed, Named}
use Rattle.fort_syntax.specs.declared.unit.DataName.{DataName}
use Rattle.fort_syntax.specs.declared.unit.Role.{Role}
use Rattle.fort_syntax.specs.declared.unit.Role.TheVariants.{Dummy, InCommon, OwnValue, Local}
use Rattle.fort_syntax.specs.declared.unit.Unit.{Unit as Routine}
use Rattle.fort_model.specs.Places.{dim_values, size_of, stretch_from}
use Rattle.fort_model.specs.Run.{own_sizes}
use Rattle.fort_model.specs.Storage.{Storage, Environment}
use Rattle.fort_laws.proofs.RulesKept as kept
use Rattle.run_ranks.specs.Owns.{fixed_from, fixed_sizes}

no_dummy : (r : Role) → is_own r ≡ true → same_role r Dummy ≡ false
no_dummy Dummy h = absurd (cc)
no_dummy InCommon h = absurd (cc)
no_dummy OwnValue h = refl
no_dummy Local h = refl

module _ (env : Environment) (st : Storage) (test : Name → Bool) (never : (x : Name) → test x ≡ false) where
  stretched : (ds : List Dim) (q : ℕ) → list_all test (names_in_dims ds) ≡ true → stretch_from (pos q) (dim_values env st ds) ≡ pos (fixed_from q ds)
  stretched [] q h = refl
  stretched (Fixed n ∷ ds) q h = stretched ds (q * n) h
  stretched (Named x ∷ ds) q h = let f : test x ≡ false = never x in let t : test x ≡ true = (kept.split (test x) (list_all test (names_in_dims ds)) h).0 in absurd (cc)

  sized_dims : (ds : List Dim) → list_all test (names_in_dims ds) ≡ true → size_of (dim_values env st ds) ≡ fixed_from 1 ds
  sized_dims [] h = refl
  sized_dims (Fixed n ∷ ds) h = let one : n ≡ 1 * n = omega arith in ap count (stretched ds n h) ∙ ap (λ (q : ℕ). fixed_from q ds) one
  sized_dims (Named x ∷ ds) h = let f : test x ≡ false = never x in let t : test x ≡ true = (kept.split (test x) (list_all test (names_in_dims ds)) h).0 in absurd (cc)

module _ (dialect : Dialect) (u : Routine) (env : Environment) (st : Storage) where
  one_sized : (d : DataName) → has_right_dims dialect u d ≡ true → is_own d.role ≡ true → fixed_from 1 d.dims ≡ size_of (dim_values env st d.dims)
  one_sized d h own =
      sym (sized_dims env st (λ x. same_role d.role Dummy && is_among x u.dummies && is_integer_scalar (scope_of_unit u) x)
      (λ x. ap (λ (b : Bool). b && is_among x u.dummies && is_integer_scalar (scope_of_unit u) x) (no_dummy d.role own)) d.dims
      (kept.split (not (is_bad_shape dialect d.dims)) _ h).1)

  sizes_or : (d : DataName) (ds : List DataName) → has_right_dims dialect u d ≡ true → fixed_sizes ds ≡ map (λ e. size_of (dim_values env st e.dims)) (own_in ds) → (b : Bool) → is_own d.role ≡ b
      → map (λ e. fixed_from 1 e.dims) (cond b (d ∷ own_in ds) (own_in ds)) ≡ map (λ e. size_of (dim_values env st e.dims)) (cond b (d ∷ own_in ds) (own_in ds))
  sizes_or d ds h rest false own = rest
  sizes_or d ds h rest true own =
      ap (λ (n : ℕ). n ∷ fixed_sizes ds) (one_sized d h own) ∙ ap (λ (ns : List ℕ). size_of (dim_values env st d.dims) ∷ ns) rest

  sizes : (ds : List DataName) → list_all (has_right_dims dialect u) ds ≡ true → fixed_sizes ds ≡ map (λ e. size_of (dim_values env st e.dims)) (own_in ds)
  sizes [] h = refl
  sizes (d ∷ ds) h = let s = kept.split (has_right_dims dialect u d) (list_all (has_right_dims dialect u) ds) h in sizes_or d ds s.0 (sizes ds s.1) (is_own d.role) refl

pub own_sized : (dialect : Dialect) (u : Routine) → IsWellFormedUnit dialect u → (env : Environment) (st : Storage) → fixed_sizes u.names ≡ own_sizes u env st
own_sized dialect u w env st = sizes dialect u env st u.names w.dimensions
