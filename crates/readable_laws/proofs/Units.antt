-- Well-formed units have names and dimensions that a text can spell.
use Rattle.std.proofs.Common.{◌≡◌, ℕ, suc, ◌*◌, ◌≤◌, true, false, ◌&&◌, ◌||◌, not, List, [], ◌∷◌, ◌++◌, flat_map, length, Option, Some, None, option_map, refl, sym, ap, ◌∙◌, subst, arith}
use Rattle.std.specs.Prelude.{nat_lt}
use Rattle.std.specs.List.{AllByRecursion, list_all, list_any}
use Rattle.std.proofs.lemmas.Bool.Decides.{nat_tests}
use Rattle.formula.specs.Atoms.{is_among, is_name}
use Rattle.fort_syntax.specs.Names.{data_name, is_own}
use Rattle.fort_syntax.specs.NameRules.{is_zero_dim, is_bad_shape, most_dims, fixed_size}
use Rattle.fort_syntax.specs.Scopes.{is_integer_scalar}
use Rattle.fort_syntax.specs.Units.{names_in_dims}
use Rattle.fort_syntax.specs.WellFormed.{IsWellFormedUnit, names_of_unit, functions_of_unit, name_as_block, same_role, scope_of_unit, has_right_dims}
use Rattle.fort_syntax.specs.declared.dialect.Dialect.{Dialect}
use Rattle.fort_syntax.specs.declared.name.Name.{Name}
use Rattle.fort_syntax.specs.declared.stmt.Dim.{Dim}
use Rattle.fort_syntax.specs.declared.stmt.Dim.TheVariants.{Fixed, Named}
use Rattle.fort_syntax.specs.declared.unit.DataName.{DataName}
use Rattle.fort_syntax.specs.declared.unit.Role.{Role}
use Rattle.fort_syntax.specs.declared.unit.Role.TheVariants.{Dummy}
use Rattle.fort_syntax.specs.declared.unit.Unit.{Unit as Routine}
use Rattle.fort_model.specs.Lists.{IsAmong}
use Rattle.fort_model.specs.WalkPlaces.{size_if_fixed}
use Rattle.fort_laws.proofs.CallNames.{data_name_is}
use Rattle.fort_laws.proofs.DeclaredNames.{named_among, among_named, names_of_data, has_own_name}
use Rattle.fort_laws.proofs.DeclaredUnits as unit
use Rattle.fort_laws.proofs.RulesKept.{neither, split}
use Rattle.fort_laws.proofs.Tests.{all_among, not_so}
use Rattle.note_laws.proofs.Small.{tests_front}
use Rattle.readable_laws.proofs.Right.{IsDimRight, AreDimsRight, IsUnitRight}

-- ---- products of dimensions

le_right : (n m : ℕ) → 1 ≤ m → n ≤ n * m
le_right n m h = search arith

le_left : (n m : ℕ) → 1 ≤ n → m ≤ n * m
le_left n m h = search arith

one_both : (n m : ℕ) → 1 ≤ n → 1 ≤ m → 1 ≤ n * m
one_both n m h k = search arith

size_some : (ds : List Dim) → ((n : ℕ) → IsAmong (Fixed n) ds → 1 ≤ n) → 1 ≤ fixed_size ds
size_some [] h = omega arith
size_some (Fixed n ∷ ds) h = one_both n (fixed_size ds) (h n (0, refl)) (size_some ds (λ m k. h m (suc k.0, k.1)))
size_some (Named x ∷ ds) h = size_some ds (λ m k. h m (suc k.0, k.1))

each_right : (ds : List Dim) → ((n : ℕ) → IsAmong (Fixed n) ds → 1 ≤ n) → ((x : Name) → IsAmong (Named x) ds → is_name x ≡ true) → fixed_size ds ≤ 1000000 → AllByRecursion IsDimRight ds
each_right [] h k le = tt
each_right (Fixed n ∷ ds) h k le =
    let one = size_some ds (λ m j. h m (suc j.0, j.1)) in
    let a = le_right n (fixed_size ds) one in
    let b = le_left n (fixed_size ds) (h n (0, refl)) in
    (omega arith, each_right ds (λ m j. h m (suc j.0, j.1)) (λ x j. k x (suc j.0, j.1)) (omega arith))
each_right (Named x ∷ ds) h k le = (k x (0, refl), each_right ds (λ m j. h m (suc j.0, j.1)) (λ y j. k y (suc j.0, j.1)) le)

size_same : (ds : List Dim) (n : ℕ) → size_if_fixed ds ≡ Some n → n ≡ fixed_size ds
size_same [] n e = one e
  where
    one : Some 1 ≡ Some n → n ≡ 1
    one q = cc
size_same (Fixed m ∷ ds) n e = by (size_if_fixed ds) e (λ k q. size_same ds k q)
  where
    by : (o : Option ℕ) → option_map (λ k. m * k) o ≡ Some n → ((k : ℕ) → o ≡ Some k → k ≡ fixed_size ds) → n ≡ m * fixed_size ds
    by None r rec = absurd (cc)
    by (Some k) r rec = same r ∙ ap (λ (j : ℕ). m * j) (rec k refl)
      where
        same : Some (m * k) ≡ Some n → n ≡ m * k
        same s = cc
size_same (Named x ∷ ds) n e = absurd (cc)

all_fixed : (ds : List Dim) → ((x : Name) → IsAmong (Named x) ds → ⊥) → (n : ℕ) × (size_if_fixed ds ≡ Some n)
all_fixed [] h = (1, refl)
all_fixed (Fixed m ∷ ds) h = let r = all_fixed ds (λ x k. h x (suc k.0, k.1)) in (m * r.0, ap (option_map (λ k. m * k)) r.1)
all_fixed (Named x ∷ ds) h = absurd (h x (0, refl))

module _ (dialect : Dialect) (u : Routine) (w : IsWellFormedUnit dialect u) where
  all_names : list_all is_name (u.name ∷ names_of_unit u ++ functions_of_unit u ++ flat_map (λ group. name_as_block group.block) u.blocks) ≡ true
  all_names = w.names

  parts : (is_name u.name ≡ true) × (list_all is_name (names_of_unit u ++ functions_of_unit u ++ flat_map (λ group. name_as_block group.block) u.blocks) ≡ true)
  parts = split (is_name u.name) (list_all is_name (names_of_unit u ++ functions_of_unit u ++ flat_map (λ group. name_as_block group.block) u.blocks)) all_names

  data_names : list_all is_name (names_of_unit u) ≡ true
  data_names = tests_front is_name (names_of_unit u) (functions_of_unit u) (tests_front is_name (names_of_unit u ++ functions_of_unit u) (flat_map (λ group. name_as_block group.block) u.blocks) parts.1)

  name_right : (d : DataName) → IsAmong d u.names → is_name d.name ≡ true
  name_right d m = all_among is_name (names_of_unit u) d.name data_names (named_among (names_of_data u.names) d.name (has_own_name u.names d m))

  named_right : (x : Name) (d : DataName) → data_name u x ≡ Some d → is_name x ≡ true
  named_right x d e = let k = data_name_is u.names x d e in subst (λ (y : Name). is_name y ≡ true) k.1 (name_right d k.0)

  dummy_right : (x : Name) → IsAmong x u.dummies → is_name x ≡ true
  dummy_right x m = let d = unit.dummy_data dialect u w x (among_named u.dummies x m) in named_right x d.its d.is

  small_shape : (d : DataName) → IsAmong d u.names → fixed_size d.dims ≤ 1000000
  small_shape d m =
      let b = split (not (is_bad_shape dialect d.dims)) (list_all (λ x. same_role d.role Dummy && is_among x u.dummies && is_integer_scalar (scope_of_unit u) x) (names_in_dims d.dims))
      (all_among (has_right_dims dialect u) u.names d w.dimensions m) in
      most (fixed_size d.dims) (neither (nat_lt (most_dims dialect) (length d.dims) || list_any is_zero_dim d.dims) (nat_lt 1000000 (fixed_size d.dims)) (not_so (is_bad_shape dialect d.dims) b.0)).1
    where
      most : (n : ℕ) → nat_lt 1000000 n ≡ false → n ≤ 1000000
      most n e = grind (arith, nat_tests)

  dims_right : (d : DataName) → IsAmong d u.names → AreDimsRight d.dims
  dims_right d m = record {
    each = each_right d.dims (λ n k. unit.constant_dim dialect u w d n m k)
        (λ x k. let r = unit.right_dim dialect u w d x m k in named_right x r.scalar.data_of r.scalar.is) (small_shape d m);
    product = λ n e. let s = size_same d.dims n e in let le = small_shape d m in omega arith;
  }

  own_fixed : (d : DataName) → IsAmong d u.names → is_own d.role ≡ true → (n : ℕ) × (size_if_fixed d.dims ≡ Some n)
  own_fixed d m o = all_fixed d.dims (λ x k. let r = unit.right_dim dialect u w d x m k in not_own d.role r.array_is_dummy o)
    where
      not_own : (r : Role) → r ≡ Dummy → is_own r ≡ true → ⊥
      not_own r e q = let f : is_own Dummy ≡ true = ap is_own (sym e) ∙ q in absurd (cc)

  pub unit_right : IsUnitRight u
  unit_right = record {
    name = parts.0;
    dummies = dummy_right;
    names = named_right;
    dims = λ x d e. dims_right d (data_name_is u.names x d e).0;
    owns = λ x d e o. own_fixed d (data_name_is u.names x d e).0 o;
  }
