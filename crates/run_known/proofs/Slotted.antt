-- Each data name of a well-formed unit has a slot.
use Rattle.std.proofs.Common.{◌≡◌, zero, suc, Bool, true, false, cond, List, [], ◌∷◌, ◌++◌, map, refl, sym, ap, ◌∙◌}
use Rattle.formula.specs.Atoms.{is_among}
use Rattle.fort_syntax.specs.Names.{commons, is_own, own_in, own_names}
use Rattle.fort_syntax.specs.WellFormed.{IsWellFormedUnit, names_of_unit}
use Rattle.fort_syntax.specs.declared.dialect.Dialect.{Dialect}
use Rattle.fort_syntax.specs.declared.name.Name.{Name}
use Rattle.fort_syntax.specs.declared.unit.DataName.{DataName}
use Rattle.fort_syntax.specs.declared.unit.Role.{Role}
use Rattle.fort_syntax.specs.declared.unit.Role.TheVariants.{Dummy, InCommon, OwnValue, Local}
use Rattle.fort_syntax.specs.declared.unit.Unit.{Unit as Routine}
use Rattle.fort_model.specs.Lists.{IsAmong}
use Rattle.fort_laws.proofs.DeclaredNames.{IsNamed, among_joined_left, among_joined_right, names_of_data, has_own_name}
use Rattle.fort_laws.proofs.DeclaredUnits.{has_data, is_common, is_dummy, same_commons}
use Rattle.run_shapes.specs.Coded.{slot_names}

-- a data name with new cells is among those
own_kept : (d : DataName) (b : Bool) (ds es : List DataName) (x : Name) → is_among x (names_of_data es) ≡ true → is_among x (names_of_data (cond b (d ∷ es) es)) ≡ true
own_kept d true ds es x h = among_joined_right (d.name ∷ []) (names_of_data es) x h
own_kept d false ds es x h = h

is_owned : (ds : List DataName) (d : DataName) → IsAmong d ds → is_own d.role ≡ true → is_among d.name (names_of_data (own_in ds)) ≡ true
is_owned [] d m h = absurd (cc)
is_owned (e ∷ ds) d (zero, q) h =
    let same : e ≡ d = cc in
    let kept : own_in (e ∷ ds) ≡ e ∷ own_in ds = ap (λ b. cond b (e ∷ own_in ds) (own_in ds)) (ap (λ (z : DataName). is_own z.role) same ∙ h) in
    ap (λ es. is_among d.name (names_of_data es)) kept
    ∙ ap (λ (z : DataName). is_among d.name (names_of_data (z ∷ own_in ds))) same
    ∙ has_own_name (d ∷ own_in ds) d (zero, refl)
is_owned (e ∷ ds) d (suc k, q) h = own_kept e (is_own e.role) ds (own_in ds) d.name (is_owned ds d (k, q) h)

module _ (dialect : Dialect) (u : Routine) (w : IsWellFormedUnit dialect u) where
  own_slots : List Name
  own_slots = map (λ d. d.name) (own_names u)

  as_dummy : (x : Name) → is_among x u.dummies ≡ true → is_among x (slot_names u) ≡ true
  as_dummy x h = among_joined_left (u.dummies ++ map (λ d. d.name) (own_names u)) (commons u) x (among_joined_left u.dummies (map (λ d. d.name) (own_names u)) x h)

  pub as_own : (x : Name) → is_among x (map (λ d. d.name) (own_names u)) ≡ true → is_among x (slot_names u) ≡ true
  as_own x h = among_joined_left (u.dummies ++ map (λ d. d.name) (own_names u)) (commons u) x (among_joined_right u.dummies (map (λ d. d.name) (own_names u)) x h)

  as_common : (x : Name) → is_among x (commons u) ≡ true → is_among x (slot_names u) ≡ true
  as_common x h = among_joined_right (u.dummies ++ map (λ d. d.name) (own_names u)) (commons u) x h

  by_role : (d : DataName) (r : Role) → IsAmong d u.names → d.role ≡ r → is_among d.name (slot_names u) ≡ true
  by_role d Dummy m e = as_dummy d.name (is_dummy dialect u w d m e)
  by_role d InCommon m e = as_common d.name (ap (is_among d.name) (sym (same_commons u)) ∙ is_common dialect u w d m e)
  by_role d OwnValue m e = as_own d.name (is_owned u.names d m (ap is_own e))
  by_role d Local m e = as_own d.name (is_owned u.names d m (ap is_own e))

  slotted : (x : Name) → IsNamed u.names x → is_among x (slot_names u) ≡ true
  slotted x d = ap (λ y. is_among y (slot_names u)) (sym d.name) ∙ by_role d.its d.its.role d.among refl

  pub name_slotted : (x : Name) → is_among x (names_of_unit u) ≡ true → is_among x (slot_names u) ≡ true
  name_slotted x h = slotted x (has_data dialect u w x h)

pub has_slot : (dialect : Dialect) (u : Routine) (x : Name) → IsWellFormedUnit dialect u → is_among x (names_of_unit u) ≡ true → is_among x (slot_names u) ≡ true
has_slot dialect u x w h = name_slotted dialect u w x h
