-- The units of a well-formed deck are as declarations make them, and share blocks where no block is missing.
use Rattle.std.proofs.Common.{◌≡◌, ℕ, zero, suc, Bool, true, false, not, List, [], ◌∷◌, map, Option, Some, None, slice_get, refl, sym, ap, ◌∙◌, subst, rules}
use Rattle.std.specs.Prelude.{◌==◌}
use Rattle.std.specs.List.{list_all}
use Rattle.std.specs.Cmp.Lexicographic.{same_text}
use Rattle.formula.specs.Atoms.{is_among, same_bytes}
use Rattle.fort_syntax.specs.Names.{data_name, has_common, has_role, is_in_common, items_of, commons}
use Rattle.fort_syntax.specs.NameRules.{member_of, same_member, same_members}
use Rattle.fort_syntax.specs.Scopes.{same_dim, same_dims, same_option}
use Rattle.fort_syntax.specs.Scopes as syntax
use Rattle.fort_syntax.specs.Units.{name_of_block, names_of_items}
use Rattle.fort_syntax.specs.WellFormed.{IsWellFormedUnit, AreWellFormedUnits, commons_of_unit, scope_of_unit, members_of_group, agree_groups, agree_on_blocks}
use Rattle.fort_syntax.specs.declared.dialect.Dialect.{Dialect}
use Rattle.fort_syntax.specs.declared.name.Name.{Name}
use Rattle.fort_syntax.specs.declared.rule.Rule.TheVariants.{BlockMissing}
use Rattle.fort_syntax.specs.declared.stmt.BlockName.{BlockName}
use Rattle.fort_syntax.specs.declared.stmt.BlockName.TheVariants as block
use Rattle.fort_syntax.specs.declared.stmt.Dim.{Dim}
use Rattle.fort_syntax.specs.declared.stmt.Dim.TheVariants.{Fixed, Named}
use Rattle.fort_syntax.specs.declared.stmt.Group.{Group}
use Rattle.fort_syntax.specs.declared.unit.DataName.{DataName}
use Rattle.fort_syntax.specs.declared.unit.Role.{Role}
use Rattle.fort_syntax.specs.declared.unit.Role.TheVariants.{Dummy, InCommon, OwnValue, Local}
use Rattle.fort_syntax.specs.declared.unit.Unit.{Unit as Routine}
use Rattle.fort_model.specs.CallRules.{same_block, declares, lacks_block}
use Rattle.fort_model.specs.Calls.{Calls}
use Rattle.fort_model.specs.Lists.{IsAmong}
use Rattle.fort_model.specs.Program.{Program}
use Rattle.fort_laws.specs.Declared.{IsDimension, IsDeclared, AreDeclared}
use Rattle.fort_laws.specs.Frame.{HasName}
use Rattle.fort_model.specs.Rules.{KeepsRule}
use Rattle.fort_laws.specs.GoodDecks.{WellFormedIsDeclared}
use Rattle.fort_laws.proofs.DeclaredNames.{IsNamed, named_among, among_named, only_once, no_twin_left, one_data_name, has_own_name, data_among, found_named}
use Rattle.fort_laws.proofs.DeclaredUnits as unit
use Rattle.fort_laws.proofs.DeclaredUses.{right_line, set_data, pass_data}
use Rattle.fort_laws.proofs.FrameSeats.{clash, same_is}
use Rattle.fort_laws.proofs.Kept.{among_left, among_right}
use Rattle.fort_laws.proofs.RulesKept.{none_passes, not_not, split, unbroken}
use Rattle.fort_laws.proofs.Small.{some_passes}
use Rattle.fort_laws.proofs.Tests.{all_among, one_holds, one_item}

-- ---- one unit

module _ (dialect : Dialect) (u : Routine) (w : IsWellFormedUnit dialect u) where
  pub has_name : (x : Name) → is_among x (map (λ d. d.name) u.names) ≡ true → HasName u x
  has_name x h = let d : IsNamed u.names x = unit.has_data dialect u w x h in record { its = d.its; among = d.among; name = d.name }

  dimension : (d : DataName) (x : Name) → IsAmong d u.names → IsAmong (Named x) d.dims → IsDimension u d x
  dimension d x m k =
      let r = unit.right_dim dialect u w d x m k in
      let own : IsNamed u.names x = unit.has_data dialect u w x r.data_is in
      record {
        array_is_dummy = r.array_is_dummy;
        has = record { its = own.its; among = own.among; name = own.name };
        is_dummy = unit.dummy_role dialect u w own.its own.among (ap (λ y. is_among y u.dummies) own.name ∙ r.dummy);
        is_scalar = ap (λ (e : DataName). e.dims) (one_item (sym own.is ∙ r.scalar.is)) ∙ r.scalar.scalar;
      }

  pub unit_is_declared : IsDeclared u
  unit_is_declared = record {
    one_name = λ d e m k q. one_data_name u.names d e (unit.no_twins dialect u w) m k q;
    one_dummy = λ m n x a b. only_once u.dummies m n x (no_twin_left u.dummies (commons_of_unit u) (unit.no_twins_held dialect u w)) a b;
    dummies = λ d m r. named_among u.dummies d.name (unit.is_dummy dialect u w d m r);
    roles = λ d m k. unit.dummy_role dialect u w d m (among_named u.dummies d.name k);
    sets = λ line x m k. has_name x (set_data u line.stmt x (right_line dialect u w line m).uses k);
    constants = λ d n m k. unit.constant_dim dialect u w d n m k;
    dimensions = dimension;
  }

in_common : (r : Role) → is_in_common r ≡ true → r ≡ InCommon
in_common InCommon h = refl
in_common Dummy h = absurd (cc)
in_common OwnValue h = absurd (cc)
in_common Local h = absurd (cc)

-- ---- blocks

same_blocks : (b c : BlockName) → same_block b c ≡ true → name_of_block b ≡ name_of_block c
same_blocks (block.Named x) (block.Named y) h = same_text x y (sym h)
same_blocks (block.Named x) block.Bare h = absurd (cc)
same_blocks (block.Named x) block.Slashes h = absurd (cc)
same_blocks block.Bare (block.Named y) h = absurd (cc)
same_blocks block.Slashes (block.Named y) h = absurd (cc)
same_blocks block.Bare block.Bare h = refl
same_blocks block.Bare block.Slashes h = refl
same_blocks block.Slashes block.Bare h = refl
same_blocks block.Slashes block.Slashes h = refl

one_dim : (a b : Dim) → same_dim a b ≡ true → a ≡ b
one_dim (Fixed m) (Fixed n) h = ap Fixed (same_number h)
  where
    same_number : (m == n) ≡ true → m ≡ n
    same_number t = search rules
one_dim (Named x) (Named y) h = ap Named (same_text x y (sym h))
one_dim (Fixed m) (Named y) h = absurd (cc)
one_dim (Named x) (Fixed n) h = absurd (cc)

one_shape : (ds es : List Dim) → same_dims ds es ≡ true → ds ≡ es
one_shape [] [] h = refl
one_shape [] (e ∷ es) h = absurd (cc)
one_shape (d ∷ ds) [] h = absurd (cc)
one_shape (d ∷ ds) (e ∷ es) h = let b = split (same_dim d e) (same_dims ds es) h in ap (λ z. z ∷ ds) (one_dim d e b.0) ∙ ap (λ zs. e ∷ zs) (one_shape ds es b.1)

-- what two blocks that agree say of a name
pub record Shared (u v : Routine) (names : List Name) (x : Name) : Type 0 where
  pub among : IsAmong x names
  pub sort : same_option ((scope_of_unit u).sort x) ((scope_of_unit v).sort x) ≡ true
  pub dims : (scope_of_unit u).dims x ≡ (scope_of_unit v).dims x

abbrev same_one : Routine → Routine → Name → Name → Bool
same_one u v x y = same_member (member_of (scope_of_unit u) x) (member_of (scope_of_unit v) y)

abbrev same_rest : Routine → Routine → List Name → List Name → Bool
same_rest u v xs ys = same_members (map (member_of (scope_of_unit u)) xs) (map (member_of (scope_of_unit v)) ys)

shared_member : (u v : Routine) (xs ys : List Name) (x : Name) → same_rest u v xs ys ≡ true → IsAmong x xs → Shared u v ys x
shared_member u v [] ys x h m = absurd (cc)
shared_member u v (z ∷ xs) [] x h m = absurd (cc)
shared_member u v (z ∷ xs) (y ∷ ys) x h m = pick m (split (same_one u v z y) (same_rest u v xs ys) h) (shared_member u v xs ys x)
  where
    pick : IsAmong x (z ∷ xs) → (same_one u v z y ≡ true) × (same_rest u v xs ys ≡ true) → (same_rest u v xs ys ≡ true → IsAmong x xs → Shared u v ys x) → Shared u v (y ∷ ys) x
    pick (suc k, e) b rec = let r : Shared u v ys x = rec b.1 (k, e) in record { among = (suc r.among.0, r.among.1); sort = r.sort; dims = r.dims }
    pick (zero, e) b rec =
        let p : z ≡ x = one_item e in
        let c = split _ _ b.0 in
        let d = split _ _ c.0 in
        let q : z ≡ y = same_text z y (sym d.0) in
        record {
          among = (0, ap Some (sym q ∙ p));
          sort = subst (λ n. same_option ((scope_of_unit u).sort n) ((scope_of_unit v).sort n) ≡ true) p (subst (λ n. same_option ((scope_of_unit u).sort z) ((scope_of_unit v).sort n) ≡ true) (sym q) d.1);
          dims = subst (λ n. (scope_of_unit u).dims n ≡ (scope_of_unit v).dims n) p (subst (λ n. (scope_of_unit u).dims z ≡ (scope_of_unit v).dims n) (sym q) (one_shape _ _ c.1));
        }

among_items : (gs : List Group) (h : Group) (x : Name) → IsAmong h gs → IsAmong x (names_of_items h.items) → IsAmong x (items_of gs)
among_items [] h x m k = absurd (cc)
among_items (g ∷ gs) h x (zero, e) k = let q : g ≡ h = cc in among_left x (names_of_items g.items) (items_of gs) (subst (λ z. IsAmong x (names_of_items (z.items))) (sym q) k)
among_items (g ∷ gs) h x (suc n, e) k = among_right x (names_of_items g.items) (items_of gs) (among_items gs h x (n, e) k)

-- no calling unit lacks a block of the unit that it calls
lacks_none : (p : Program) → KeepsRule p BlockMissing → (i j : ℕ) (c : Calls p.units i j) → lacks_block c.caller j c.callee ≡ false
lacks_none p keeps i j c = unbroken p (λ site. lacks_block c.caller) c (λ card m. keeps i card (record { unit = c.caller; is_unit = c.is_caller; breaks = m }))

-- ---- units of a deck

pub well_at : (dialect : Dialect) (us : List Routine) (i : ℕ) (u : Routine) → AreWellFormedUnits dialect us → slice_get us i ≡ Some u → IsWellFormedUnit dialect u
well_at dialect [] i u w e = absurd (cc)
well_at dialect (v ∷ us) zero u w e = subst (IsWellFormedUnit dialect) (one_item e) w.0
well_at dialect (v ∷ us) (suc i) u w e = well_at dialect us i u w.1 e

module _ (dialect : Dialect) (p : Program) (wells : AreWellFormedUnits dialect p.units) (agree : list_all (λ u. list_all (agree_on_blocks u) p.units) p.units ≡ true) (keeps : KeepsRule p BlockMissing) where
  well : (i : ℕ) (u : Routine) → slice_get p.units i ≡ Some u → IsWellFormedUnit dialect u
  well i u e = well_at dialect p.units i u wells e

  module _ (i j : ℕ) (c : Calls p.units i j) where
    -- a block of the called unit, and that of the calling one
    shared_block : (g : Group) → IsAmong g c.callee.blocks → (x : Name) → IsAmong x (names_of_items g.items)
        → (h : Group) × IsAmong h c.caller.blocks × Shared c.callee c.caller (names_of_items h.items) x
    shared_block g m x k = (h.0, h.1, shared_member c.callee c.caller (names_of_items g.items) (names_of_items (h.0).items) x members k)
      where
        h : (h : Group) × IsAmong h c.caller.blocks × (same_block h.block g.block ≡ true)
        h = some_passes (λ h. same_block h.block g.block) c.caller.blocks
            (not_not (declares c.caller g.block) (none_passes (λ g. not (declares c.caller g.block)) c.callee.blocks g (lacks_none p keeps i j c) m))

        one_name : same_bytes (name_of_block g.block) (name_of_block (h.0).block) ≡ true
        one_name = same_is (name_of_block g.block) (name_of_block (h.0).block) (sym (same_blocks (h.0).block g.block h.2))

        agreed : agree_groups c.callee c.caller g h.0 ≡ true
        agreed =
            all_among (agree_groups c.callee c.caller g) c.caller.blocks h.0
            (all_among (λ g. list_all (agree_groups c.callee c.caller g) c.caller.blocks) c.callee.blocks g
            (all_among (agree_on_blocks c.callee) p.units c.caller (all_among (λ u. list_all (agree_on_blocks u) p.units) p.units c.callee agree (j, c.is_callee)) (i, c.is_caller)) m) h.1

        members : same_members (members_of_group c.callee g) (members_of_group c.caller h.0) ≡ true
        members = one_holds (not (same_bytes (name_of_block g.block) (name_of_block (h.0).block))) _ agreed (ap not one_name)

    -- a COMMON entity of the called unit is one of the calling one
    pub record IsShared (d : DataName) : Type 0 where
      pub its : DataName
      pub among : IsAmong its c.caller.names
      pub name : its.name ≡ d.name
      pub role : its.role ≡ InCommon
      pub dims : its.dims ≡ d.dims
      pub sort : its.sort ≡ d.sort
      pub in_block : IsAmong d.name (commons c.caller)

    pub is_shared : (d : DataName) → IsAmong d c.callee.names → d.role ≡ InCommon → IsShared d
    is_shared d m r = record {
      its = e.its;
      among = e.among;
      name = e.name;
      role = unit.common_role dialect c.caller (well i c.caller c.is_caller) e.its e.among (ap (λ y. is_among y (commons_of_unit c.caller)) e.name ∙ common);
      dims = sym e.dims ∙ (sym s.dims ∙ (f.dims ∙ ap (λ (z : DataName). z.dims) one));
      sort = sym (unit.one_sort f.its.sort e.its.sort sorts) ∙ ap (λ (z : DataName). z.sort) one;
      in_block = in_block;
    }
      where
        wg : IsWellFormedUnit dialect c.callee
        wg = well j c.callee c.is_callee

        b : (h : Group) × IsAmong h c.caller.blocks × Shared c.callee c.caller (names_of_items h.items) d.name
        b = let g = unit.common_block dialect c.callee wg d m r in shared_block g.0 g.1 d.name g.2

        s : Shared c.callee c.caller (names_of_items (b.0).items) d.name
        s = b.2

        in_block : IsAmong d.name (commons c.caller)
        in_block = among_items c.caller.blocks b.0 d.name b.1 s.among

        common : is_among d.name (commons_of_unit c.caller) ≡ true
        common = among_named (commons_of_unit c.caller) d.name (subst (λ xs. IsAmong d.name xs) (sym (unit.same_commons c.caller)) in_block)

        e : IsNamed c.caller.names d.name
        e = unit.common_data dialect c.caller (well i c.caller c.is_caller) d.name common

        f : IsNamed c.callee.names d.name
        f = unit.has_data dialect c.callee wg d.name (has_own_name c.callee.names d m)

        sorts : same_option (Some f.its.sort) (Some e.its.sort) ≡ true
        sorts = ap (λ o. same_option o (Some e.its.sort)) (sym (f.sort c.callee.functions)) ∙ (ap (same_option ((scope_of_unit c.callee).sort d.name)) (sym (e.sort c.caller.functions)) ∙ s.sort)

        one : f.its ≡ d
        one = one_data_name c.callee.names f.its d (unit.no_twins dialect c.callee wg) f.among m f.name

  shares : (i j : ℕ) (c : Calls p.units i j) (x : Name) → has_common c.callee x ≡ true → IsAmong x (commons c.caller)
  shares i j c x h = by_data (data_name c.callee x) refl
    where
      by_data : (o : Option DataName) → data_name c.callee x ≡ o → IsAmong x (commons c.caller)
      by_data None e = absurd (clash (has_common c.callee x) h (ap (has_role is_in_common) e))
      by_data (Some d) e =
          let shared : IsShared i j c d = is_shared i j c d (data_among c.callee.names x d e) (in_common d.role (ap (has_role is_in_common) (sym e) ∙ h)) in
          subst (λ y. IsAmong y (commons c.caller)) (found_named c.callee.names x d e) shared.in_block

  are_declared : AreDeclared p.units
  are_declared = record {
    units_are = λ i u e. unit_is_declared dialect u (well i u e);
    actuals = λ i j c n x a.
        let w = well i c.caller c.is_caller in
        let line = right_line dialect c.caller w c.line c.is_line in
        has_name dialect c.caller w x (pass_data c.caller c.line.stmt line.form line.uses c.site c.is_site n x a);
    blocks = shares;
    commons = λ i j c d m r. let s : IsShared i j c d = is_shared i j c d m r in (s.its, s.among, s.name, s.role, s.dims);
  }

pub well_formed_is_declared : WellFormedIsDeclared
well_formed_is_declared dialect deck p w same keeps =
    are_declared dialect p (subst (AreWellFormedUnits dialect) same w.units)
    (subst (λ us. list_all (λ u. list_all (agree_on_blocks u) us) us ≡ true) same w.blocks) keeps
