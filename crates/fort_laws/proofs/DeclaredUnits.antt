-- The names of a well-formed unit: their roles, dimensions and types.
use Rattle.std.proofs.Common.{◌≡◌, ◌≤◌, ℕ, zero, suc, Bool, true, false, cond, not, ◌&&◌, ◌||◌, List, [], ◌∷◌, ◌++◌, map, flat_map, length, Some, is_some, nat_lt, refl, sym, ap, ◌∙◌, subst, rules}
use Rattle.std.specs.List.{list_any, list_all}
use Rattle.formula.specs.Atoms.{is_among, has_twin}
use Rattle.fort_syntax.specs.Names.{commons, items_of, has_common, has_role, is_in_common}
use Rattle.fort_syntax.specs.NameRules.{is_zero_dim, is_bad_shape, most_dims, fixed_size}
use Rattle.fort_syntax.specs.Scopes.{same_sort, same_option, is_given_dims, is_array, is_integer, is_integer_scalar}
use Rattle.fort_syntax.specs.Units.{names_in_dims, names_of_items}
use Rattle.fort_syntax.specs.WellFormed.{IsWellFormedUnit, names_of_unit, commons_of_unit, own_value_of_unit, role_in_unit, same_role, scope_of_unit, has_right_role, has_right_dims}
use Rattle.fort_syntax.specs.declared.dialect.Dialect.{Dialect}
use Rattle.fort_syntax.specs.declared.dialect.Sort.{Sort}
use Rattle.fort_syntax.specs.declared.dialect.Sort.TheVariants.{Integer, Logical}
use Rattle.fort_syntax.specs.declared.name.Name.{Name}
use Rattle.fort_syntax.specs.declared.stmt.Dim.{Dim}
use Rattle.fort_syntax.specs.declared.stmt.Dim.TheVariants.{Fixed, Named}
use Rattle.fort_syntax.specs.declared.stmt.Group.{Group}
use Rattle.fort_syntax.specs.declared.unit.DataName.{DataName}
use Rattle.fort_syntax.specs.declared.unit.Role.{Role}
use Rattle.fort_syntax.specs.declared.unit.Role.TheVariants.{Dummy, InCommon, OwnValue, Local}
use Rattle.fort_syntax.specs.declared.unit.Unit.{Unit as Routine}
use Rattle.fort_model.specs.Lists.{IsAmong}
use Rattle.fort_laws.specs.GoodDecks.{BlocksHoldCommons}
use Rattle.fort_laws.specs.Typed.{IsScalar, AreDims}
use Rattle.fort_laws.proofs.DeclaredNames.{IsNamed, named, named_among, among_named, names_of_data, has_own_name, among_joined_left, among_joined_right, no_twin_apart}
use Rattle.fort_laws.proofs.FrameSeats.{clash}
use Rattle.fort_laws.proofs.Near.{known}
use Rattle.fort_laws.proofs.RulesKept.{neither, none_passes, split}
use Rattle.fort_laws.proofs.Tests.{all_among, among_given, not_so, one_holds}

-- ---- roles

abbrev role_by : Bool → Bool → Bool → Role
role_by a b c = cond a Dummy (cond b InCommon (cond c OwnValue Local))

by_dummy : (a b c : Bool) → role_by a b c ≡ Dummy → a ≡ true
by_dummy true b c h = refl
by_dummy false true c h = absurd (cc)
by_dummy false false true h = absurd (cc)
by_dummy false false false h = absurd (cc)

by_common : (a b c : Bool) → role_by a b c ≡ InCommon → b ≡ true
by_common true b c h = absurd (cc)
by_common false true c h = refl
by_common false false true h = absurd (cc)
by_common false false false h = absurd (cc)

by_own : (a b c : Bool) → role_by a b c ≡ OwnValue → c ≡ true
by_own true b c h = absurd (cc)
by_own false true c h = absurd (cc)
by_own false false true h = refl
by_own false false false h = absurd (cc)

one_role : (r q : Role) → same_role r q ≡ true → r ≡ q
one_role Dummy Dummy h = refl
one_role Dummy InCommon h = absurd (cc)
one_role Dummy OwnValue h = absurd (cc)
one_role Dummy Local h = absurd (cc)
one_role InCommon Dummy h = absurd (cc)
one_role InCommon InCommon h = refl
one_role InCommon OwnValue h = absurd (cc)
one_role InCommon Local h = absurd (cc)
one_role OwnValue Dummy h = absurd (cc)
one_role OwnValue InCommon h = absurd (cc)
one_role OwnValue OwnValue h = refl
one_role OwnValue Local h = absurd (cc)
one_role Local Dummy h = absurd (cc)
one_role Local InCommon h = absurd (cc)
one_role Local OwnValue h = absurd (cc)
one_role Local Local h = refl

-- ---- types and dimensions

pub one_sort : (q r : Sort) → same_sort q r ≡ true → q ≡ r
one_sort Integer Integer h = refl
one_sort Integer Logical h = absurd (cc)
one_sort Logical Integer h = absurd (cc)
one_sort Logical Logical h = refl

pub no_dims : (ds : List Dim) → is_given_dims ds ≡ false → ds ≡ []
no_dims [] h = refl
no_dims (d ∷ ds) h = absurd (cc)

among_dim_names : (ds : List Dim) (x : Name) → IsAmong (Named x) ds → IsAmong x (names_in_dims ds)
among_dim_names [] x m = absurd (cc)
among_dim_names (Fixed n ∷ ds) x (zero, e) = absurd (cc)
among_dim_names (Fixed n ∷ ds) x (suc k, e) = among_dim_names ds x (k, e)
among_dim_names (Named y ∷ ds) x (zero, e) = (0, same_named e)
  where
    same_named : Some (Named y) ≡ Some (Named x) → Some y ≡ Some x
    same_named q = cc
among_dim_names (Named y ∷ ds) x (suc k, e) = let m = among_dim_names ds x (k, e) in (suc m.0, m.1)

not_below_one : (n : ℕ) → nat_lt n 1 ≡ false → 1 ≤ n
not_below_one n h = search rules

-- ---- COMMON entities

pub same_commons : (u : Routine) → commons_of_unit u ≡ commons u
same_commons u = go u.blocks
  where
    go : (gs : List Group) → flat_map (λ group. names_of_items group.items) gs ≡ items_of gs
    go [] = refl
    go (g ∷ gs) = ap (λ xs. map (λ item. item.name) g.items ++ xs) (go gs)

module _ (dialect : Dialect) (u : Routine) (w : IsWellFormedUnit dialect u) where
  -- ---- which names are data names

  parts : ((not (has_twin (names_of_unit u)) ≡ true) × (list_all (λ x. is_among x (names_of_unit u)) (u.dummies ++ commons_of_unit u ++ own_value_of_unit u) ≡ true))
  parts =
      split (not (has_twin (names_of_unit u))) (list_all (λ x. is_among x (names_of_unit u)) (u.dummies ++ commons_of_unit u ++ own_value_of_unit u))
      (split (not (has_twin (names_of_unit u)) && list_all (λ x. is_among x (names_of_unit u)) (u.dummies ++ commons_of_unit u ++ own_value_of_unit u)) (is_some u.sort || not (is_among u.name (names_of_unit u))) w.data_names).0

  pub no_twins : has_twin (names_of_data u.names) ≡ false
  no_twins = not_so (has_twin (names_of_unit u)) parts.0

  pub has_data : (x : Name) → is_among x (names_of_unit u) ≡ true → IsNamed u.names x
  has_data x h = named u.names x h

  held_data : (x : Name) → is_among x (u.dummies ++ commons_of_unit u ++ own_value_of_unit u) ≡ true → IsNamed u.names x
  held_data x h =
      has_data x (all_among (λ x. is_among x (names_of_unit u)) (u.dummies ++ commons_of_unit u ++ own_value_of_unit u) x parts.1 (named_among (u.dummies ++ commons_of_unit u ++ own_value_of_unit u) x h))

  pub dummy_data : (x : Name) → is_among x u.dummies ≡ true → IsNamed u.names x
  dummy_data x h = held_data x (among_joined_left (u.dummies ++ commons_of_unit u) (own_value_of_unit u) x (among_joined_left u.dummies (commons_of_unit u) x h))

  pub common_data : (x : Name) → is_among x (commons_of_unit u) ≡ true → IsNamed u.names x
  common_data x h = held_data x (among_joined_left (u.dummies ++ commons_of_unit u) (own_value_of_unit u) x (among_joined_right u.dummies (commons_of_unit u) x h))

  pub own_data : (x : Name) → is_among x (own_value_of_unit u) ≡ true → IsNamed u.names x
  own_data x h = held_data x (among_joined_right (u.dummies ++ commons_of_unit u) (own_value_of_unit u) x h)

  -- the names that come from outside are held once
  pub no_twins_held : has_twin (u.dummies ++ commons_of_unit u) ≡ false
  no_twins_held =
      (neither (is_among u.name (u.dummies ++ commons_of_unit u)) (has_twin (u.dummies ++ commons_of_unit u))
      (not_so (has_twin (u.name ∷ u.dummies ++ commons_of_unit u)) w.held)).1

  -- ---- roles

  right_role : (d : DataName) → IsAmong d u.names → (d.role ≡ role_in_unit u d.name) × ((not (same_role d.role OwnValue) || same_option (Some d.sort) u.sort) ≡ true)
  right_role d m =
      let b = split (same_role d.role (role_in_unit u d.name)) (not (same_role d.role OwnValue) || same_option (Some d.sort) u.sort) (all_among (has_right_role u) u.names d w.roles m) in
      (one_role d.role (role_in_unit u d.name) b.0, b.1)

  pub is_dummy : (d : DataName) → IsAmong d u.names → d.role ≡ Dummy → is_among d.name u.dummies ≡ true
  is_dummy d m r = by_dummy (is_among d.name u.dummies) (is_among d.name (commons_of_unit u)) (is_among d.name (own_value_of_unit u)) (sym (right_role d m).0 ∙ r)

  pub dummy_role : (d : DataName) → IsAmong d u.names → is_among d.name u.dummies ≡ true → d.role ≡ Dummy
  dummy_role d m h = (right_role d m).0 ∙ ap (λ a. cond a Dummy (cond (is_among d.name (commons_of_unit u)) InCommon (cond (is_among d.name (own_value_of_unit u)) OwnValue Local))) h

  pub is_common : (d : DataName) → IsAmong d u.names → d.role ≡ InCommon → is_among d.name (commons_of_unit u) ≡ true
  is_common d m r = by_common (is_among d.name u.dummies) (is_among d.name (commons_of_unit u)) (is_among d.name (own_value_of_unit u)) (sym (right_role d m).0 ∙ r)

  pub is_own_value : (d : DataName) → IsAmong d u.names → d.role ≡ OwnValue → is_among d.name (own_value_of_unit u) ≡ true
  is_own_value d m r = by_own (is_among d.name u.dummies) (is_among d.name (commons_of_unit u)) (is_among d.name (own_value_of_unit u)) (sym (right_role d m).0 ∙ r)

  pub own_type : (d : DataName) → IsAmong d u.names → d.role ≡ OwnValue → same_option (Some d.sort) u.sort ≡ true
  own_type d m r = one_holds (not (same_role d.role OwnValue)) _ (right_role d m).1 (ap (λ (z : Role). not (same_role z OwnValue)) r)

  pub own_role : (d : DataName) → IsAmong d u.names → is_among d.name u.dummies ≡ false → is_among d.name (commons_of_unit u) ≡ false → is_among d.name (own_value_of_unit u) ≡ true → d.role ≡ OwnValue
  own_role d m a b c = (right_role d m).0 ∙ no_other (is_among d.name u.dummies) (is_among d.name (commons_of_unit u)) (is_among d.name (own_value_of_unit u)) a b c
    where
      no_other : (x y z : Bool) → x ≡ false → y ≡ false → z ≡ true → role_by x y z ≡ OwnValue
      no_other false false true a b c = refl
      no_other true y z a b c = absurd (cc)
      no_other false true z a b c = absurd (cc)
      no_other false false false a b c = absurd (cc)

  -- a COMMON entity stands in a block
  pub common_block : (d : DataName) → IsAmong d u.names → d.role ≡ InCommon → (g : Group) × IsAmong g u.blocks × IsAmong d.name (names_of_items g.items)
  common_block d m r = among_given (λ group. names_of_items group.items) u.blocks d.name (named_among (commons_of_unit u) d.name (is_common d m r))

  pub common_role : (d : DataName) → IsAmong d u.names → is_among d.name (commons_of_unit u) ≡ true → d.role ≡ InCommon
  common_role d m h =
      (right_role d m).0
      ∙ (ap (λ a. cond a Dummy (cond (is_among d.name (commons_of_unit u)) InCommon (cond (is_among d.name (own_value_of_unit u)) OwnValue Local))) no_dummy
      ∙ ap (λ b. cond b InCommon (cond (is_among d.name (own_value_of_unit u)) OwnValue Local)) h)
    where
      no_dummy : is_among d.name u.dummies ≡ false
      no_dummy = known (is_among d.name u.dummies)
          (λ t. absurd (clash (is_among d.name (commons_of_unit u)) h (no_twin_apart u.dummies (commons_of_unit u) d.name no_twins_held t)))
          (λ f. f)

  -- what stands in blocks are COMMON entities
  pub blocks_hold_commons : (x : Name) → IsAmong x (commons u) → has_common u x ≡ true
  blocks_hold_commons x m =
      let among : is_among x (commons_of_unit u) ≡ true = among_named (commons_of_unit u) x (subst (λ xs. IsAmong x xs) (sym (same_commons u)) m) in
      let d : IsNamed u.names x = common_data x among in
      ap (has_role is_in_common) d.is ∙ ap is_in_common (common_role d.its d.among (ap (λ y. is_among y (commons_of_unit u)) d.name ∙ among))

  -- ---- dimensions

  right_dims : (d : DataName) → IsAmong d u.names
      → (is_bad_shape dialect d.dims ≡ false) × (list_all (λ x. same_role d.role Dummy && is_among x u.dummies && is_integer_scalar (scope_of_unit u) x) (names_in_dims d.dims) ≡ true)
  right_dims d m =
      let b = split (not (is_bad_shape dialect d.dims)) (list_all (λ x. same_role d.role Dummy && is_among x u.dummies && is_integer_scalar (scope_of_unit u) x) (names_in_dims d.dims))
      (all_among (has_right_dims dialect u) u.names d w.dimensions m) in
      (not_so (is_bad_shape dialect d.dims) b.0, b.1)

  pub constant_dim : (d : DataName) (n : ℕ) → IsAmong d u.names → IsAmong (Fixed n) d.dims → 1 ≤ n
  constant_dim d n m k =
      let a = neither (nat_lt (most_dims dialect) (length d.dims) || list_any is_zero_dim d.dims) (nat_lt 1000000 (fixed_size d.dims)) (right_dims d m).0 in
      let b = neither (nat_lt (most_dims dialect) (length d.dims)) (list_any is_zero_dim d.dims) a.0 in
      not_below_one n (none_passes is_zero_dim d.dims (Fixed n) b.1 k)

  -- an integer scalar
  pub integer_scalar : (x : Name) → is_among x (names_of_unit u) ≡ true → is_integer_scalar (scope_of_unit u) x ≡ true → IsScalar u Integer x
  integer_scalar x h t =
      let d : IsNamed u.names x = has_data x h in
      let b = split (is_integer (scope_of_unit u) x) (not (is_array (scope_of_unit u) x)) t in
      record {
        data_of = d.its;
        is = d.is;
        scalar = no_dims d.its.dims (ap is_given_dims (sym d.dims) ∙ not_so (is_array (scope_of_unit u) x) b.1);
        sort_is = one_sort d.its.sort Integer (ap (λ o. same_option o (Some Integer)) (sym (d.sort u.functions)) ∙ b.0);
      }

  -- an adjustable dimension: its array is a dummy, and it is an integer scalar and a dummy
  pub record IsRightDim (d : DataName) (x : Name) : Type 0 where
    pub array_is_dummy : d.role ≡ Dummy
    pub dummy : is_among x u.dummies ≡ true
    pub data_is : is_among x (names_of_unit u) ≡ true
    pub scalar : IsScalar u Integer x

  pub right_dim : (d : DataName) (x : Name) → IsAmong d u.names → IsAmong (Named x) d.dims → IsRightDim d x
  right_dim d x m k =
      let t = all_among (λ x. same_role d.role Dummy && is_among x u.dummies && is_integer_scalar (scope_of_unit u) x) (names_in_dims d.dims) x (right_dims d m).1 (among_dim_names d.dims x k) in
      let b = split (same_role d.role Dummy && is_among x u.dummies) (is_integer_scalar (scope_of_unit u) x) t in
      let c = split (same_role d.role Dummy) (is_among x u.dummies) b.0 in
      let own : IsNamed u.names x = dummy_data x c.1 in
      let data_is : is_among x (names_of_unit u) ≡ true = ap (λ y. is_among y (names_of_unit u)) (sym own.name) ∙ has_own_name u.names own.its own.among in
      record { array_is_dummy = one_role d.role Dummy c.0; dummy = c.1; data_is = data_is; scalar = integer_scalar x data_is b.1 }

  -- the adjustable dimensions of a name are integer scalars
  pub dims_are_integers : (d : DataName) → IsAmong d u.names → AreDims u d.dims
  dims_are_integers d m = go d.dims (λ x k. (right_dim d x m k).scalar)
    where
      go : (ds : List Dim) → ((x : Name) → IsAmong (Named x) ds → IsScalar u Integer x) → AreDims u ds
      go [] h = tt
      go (Fixed n ∷ ds) h = go ds (λ x k. h x (suc k.0, k.1))
      go (Named x ∷ ds) h = (h x (0, refl), go ds (λ y k. h y (suc k.0, k.1)))

pub blocks_are_common : BlocksHoldCommons
blocks_are_common = blocks_hold_commons
