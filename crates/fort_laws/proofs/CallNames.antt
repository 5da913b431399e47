-- What the names of a called unit stand for on a walk is what they hold.
use Rattle.std.proofs.Common.{◌≡◌, ◌≢◌, ℕ, zero, suc, Bool, true, false, cond, List, [], ◌∷◌, map, Option, Some, None, slice_get, refl, sym, ap, ◌∙◌, subst}
use Rattle.std.specs.Prelude.{codes}
use Rattle.fort_syntax.specs.Names.{data_name, data_name_in, is_function, has_role, is_in_common, is_own_value, is_local, has_common}
use Rattle.formula.specs.Atoms.{same_bytes}
use Rattle.formula.specs.Tree.{Tree}
use Rattle.formula.specs.declared.value.Cell.{Cell}
use Rattle.formula.specs.declared.value.Cell.TheVariants as cell
use Rattle.formula.specs.declared.value.Value.{Value}
use Rattle.formula.specs.declared.value.Value.TheVariants.{Int, Undefined}
use Rattle.formula.specs.Values.{of_cell}
use Rattle.formula.specs.Worth.{Function, worth}
use Rattle.fort_syntax.specs.declared.name.Name.{Name}
use Rattle.fort_syntax.specs.declared.unit.DataName.{DataName}
use Rattle.fort_syntax.specs.declared.unit.Role.{Role}
use Rattle.fort_syntax.specs.declared.unit.Role.TheVariants.{Dummy, InCommon, OwnValue, Local}
use Rattle.fort_syntax.specs.declared.unit.Unit.{Unit as Routine}
use Rattle.fort_model.specs.Conditions.{sight}
use Rattle.fort_model.specs.Correct.{held_in, held_by, held_as, names_hold, bounds_of}
use Rattle.fort_model.specs.Lists.{IsAmong}
use Rattle.fort_model.specs.Processor.{Processor}
use Rattle.fort_model.specs.Program.{Program}
use Rattle.fort_model.specs.Seen.{Named}
use Rattle.fort_model.specs.Senses.{of_values, note}
use Rattle.fort_model.specs.Storage.{Storage, Environment}
use Rattle.fort_model.specs.Symbols.{Symbol, LeastInteger, GreatestInteger}
use Rattle.fort_model.specs.WalkCalls.{Sight, with_actuals, seen_by}
use Rattle.fort_laws.specs.CallLaw.{HasNames}
use Rattle.fort_laws.specs.Frame.{IsSoundUnit}
use Rattle.fort_laws.proofs.FrameEnter.{SameOrNot, same, other, same_or_not}
use Rattle.fort_laws.proofs.FrameSeats.{clash, same_is, found}
use Rattle.fort_laws.proofs.Near.{known}

-- ---- terms of notes in both senses

pub notes_same : (fs : List Function) (values : Symbol → Value) (p : Processor) → values LeastInteger ≡ Int p.least → values GreatestInteger ≡ Int p.greatest
    → (entry other_entry now other_now : Named Value) → ((x : Name) → entry x ≡ other_entry x) → ((x : Name) → now x ≡ other_now x) → (ts : List Tree)
    → map (note (of_values fs values) entry now) ts ≡ map (note (of_values fs (bounds_of p)) other_entry other_now) ts
notes_same fs values p least greatest entry other_entry now other_now e n [] = refl
notes_same fs values p least greatest entry other_entry now other_now e n (t ∷ ts) = λ k.
    worth fs (λ w. cond (same_bytes (codes "LEAST") w) (least k) (cond (same_bytes (codes "GREATEST") w) (greatest k) (n w k))) (λ w. e w k) t
    ∷ notes_same fs values p least greatest entry other_entry now other_now e n ts k

-- ---- names

pub data_name_is : (ds : List DataName) (x : Name) (d : DataName) → data_name_in ds x ≡ Some d → IsAmong d ds × (d.name ≡ x)
data_name_is [] x d h = absurd (cc)
data_name_is (e ∷ ds) x d h = by_name (same_or_not e.name x) (data_name_is ds x d)
  where
    by_name : SameOrNot e.name x → (data_name_in ds x ≡ Some d → IsAmong d ds × (d.name ≡ x)) → IsAmong d (e ∷ ds) × (d.name ≡ x)
    by_name (same q t) rec =
        let f : e ≡ d = some_is (sym (ap (λ (b : Bool). cond b (Some e) (data_name_in ds x)) t) ∙ h) in
        ((0, ap Some f), ap (λ (z : DataName). z.name) (sym f) ∙ q)
      where
        some_is : Some e ≡ Some d → e ≡ d
        some_is g = cc
    by_name (other q t) rec = let r = rec (sym (ap (λ (b : Bool). cond b (Some e) (data_name_in ds x)) t) ∙ h) in ((suc r.0.0, r.0.1), r.1)

module _ (w : Sight Value) where
  with_at : (ys : List Name) (vs : List Value) (rest : Named Value) (n : ℕ) (y : Name) (v : Value) → ((k m : ℕ) (x : Name) → slice_get ys k ≡ Some x → slice_get ys m ≡ Some x → k ≡ m)
      → slice_get ys n ≡ Some y → slice_get vs n ≡ Some v → with_actuals w ys vs rest y ≡ v
  with_at [] vs rest n y v one h k = absurd (cc)
  with_at (z ∷ ys) [] rest n y v one h k = absurd (cc)
  with_at (z ∷ ys) (f ∷ vs) rest zero y v one h k =
      let q : z ≡ y = cc in let r : f ≡ v = cc in
      ap (λ (b : Bool). cond b f (with_actuals w ys vs rest y)) (same_is z y q) ∙ r
  with_at (z ∷ ys) (f ∷ vs) rest (suc n) y v one h k =
      by_name (same_or_not z y) (with_at ys vs rest n y v (λ a b x p q. less a b (one (suc a) (suc b) x p q)) h k)
    where
      less : (a b : ℕ) → suc a ≡ suc b → a ≡ b
      less a b q = cc

      by_name : SameOrNot z y → with_actuals w ys vs rest y ≡ v → with_actuals w (z ∷ ys) (f ∷ vs) rest y ≡ v
      by_name (same q t) rec = let r : 0 ≡ suc n = one 0 (suc n) y (ap Some q) h in absurd (cc)
      by_name (other q t) rec = ap (λ (b : Bool). cond b f (with_actuals w ys vs rest y)) t ∙ rec

  with_other : (ys : List Name) (vs : List Value) (rest : Named Value) (y : Name) → (IsAmong y ys → ⊥) → with_actuals w ys vs rest y ≡ rest y
  with_other [] vs rest y h = refl
  with_other (z ∷ ys) [] rest y h = refl
  with_other (z ∷ ys) (f ∷ vs) rest y h = by_name (same_or_not z y) (with_other ys vs rest y (λ m. h (suc m.0, m.1)))
    where
      by_name : SameOrNot z y → with_actuals w ys vs rest y ≡ rest y → with_actuals w (z ∷ ys) (f ∷ vs) rest y ≡ rest y
      by_name (same q t) rec = absurd (h (0, ap Some q))
      by_name (other q t) rec = ap (λ (b : Bool). cond b f (with_actuals w ys vs rest y)) t ∙ rec

module _ (fs : List Function) (values : Symbol → Value) (program : Program) (i : ℕ) (u : Routine) (units : List Routine) (j : ℕ) (g : Routine) (sound : IsSoundUnit units j g) (names : HasNames g)
    (vs : List Value) (now : Named Value) (result : Value) (env : Environment) (st : Storage) (value : Cell)
    (dummies : (d : DataName) (n : ℕ) → IsAmong d g.names → d.role ≡ Dummy → slice_get g.dummies n ≡ Some d.name → (v : Value) × (slice_get vs n ≡ Some v) × (v ≡ held_in d.dims st (env d.name)))
    (commons : (d : DataName) → IsAmong d g.names → d.role ≡ InCommon → now d.name ≡ held_in d.dims st (env d.name))
    (result_is : result ≡ of_cell value) (nothing : is_function g ≡ false → value ≡ cell.Undefined) where
  abbrev w : Sight Value
  w = sight (of_values fs values) program i u

  -- what is no dummy
  abbrev rest : Named Value
  rest x = cond (same_bytes g.name x) result (cond (has_common g x) (now x) Undefined)

  abbrev SeenIs : Name → Type 0
  SeenIs x = seen_by w g vs now result x ≡ names_hold g env st value x

  role_clash : (r : Role) → r ≡ OwnValue → r ≡ Local → ⊥
  role_clash r a b = clash (is_own_value r) (ap is_own_value a) (ap is_own_value b)

  no_dummy : (d : DataName) → IsAmong d g.names → (d.role ≡ Dummy → ⊥) → IsAmong d.name g.dummies → ⊥
  no_dummy d m n k = n (sound.roles d m k)

  nothing_is : is_function g ≡ false → result ≡ Undefined
  nothing_is f = result_is ∙ ap of_cell (nothing f)

  -- a name that is none of the unit's
  unknown : (x : Name) → data_name g x ≡ None → SeenIs x
  unknown x none =
      with_other w g.dummies vs rest x (λ k. let h = names.dummies k.0 x k.1 in is_known h.its (found units j g sound h.its h.among x h.name))
      ∙ (by_name (same_or_not g.name x) ∙ sym (ap (λ (o : Option DataName). held_as o st (env x) value) none))
    where
      is_known : (d : DataName) → data_name g x ≡ Some d → ⊥
      is_known d e = none_some (sym none ∙ e)
        where
          none_some : None ≡ Some d → ⊥
          none_some q = cc

      by_name : SameOrNot g.name x → rest x ≡ Undefined
      by_name (same q t) = ap (λ (b : Bool). cond b result (cond (has_common g x) (now x) Undefined)) t
          ∙ known (is_function g) (λ f. let d = names.function f in absurd (is_known d.0 (found units j g sound d.0 d.1 x (d.2 ∙ q)))) nothing_is
      by_name (other q t) = ap (λ (b : Bool). cond b result (cond (has_common g x) (now x) Undefined)) t
          ∙ ap (λ (o : Option DataName). cond (has_role is_in_common o) (now x) Undefined) none

  of_name : (d : DataName) → IsAmong d g.names → (r : Role) → d.role ≡ r → SeenIs d.name
  of_name d m r q = by_role r q ∙ sym (ap (λ (o : Option DataName). held_as o st (env d.name) value) is)
    where
      is : data_name g d.name ≡ Some d
      is = found units j g sound d m d.name refl

      is_common : (b : Bool) → is_in_common d.role ≡ b → has_common g d.name ≡ b
      is_common b e = ap (has_role is_in_common) is ∙ e

      plain : (same_bytes g.name d.name ≡ false) → (b : Bool) → is_in_common d.role ≡ b → rest d.name ≡ cond b (now d.name) Undefined
      plain t b e = ap (λ (z : Bool). cond z result (cond (has_common g d.name) (now d.name) Undefined)) t ∙ ap (λ (z : Bool). cond z (now d.name) Undefined) (is_common b e)

      not_dummy : (r : Role) → d.role ≡ r → (r ≡ Dummy → ⊥) → with_actuals w g.dummies vs rest d.name ≡ rest d.name
      not_dummy r e n = with_other w g.dummies vs rest d.name (no_dummy d m (λ z. n (sym e ∙ z)))

      unlike : (x : Name) → g.name ≢ x → same_bytes g.name x ≡ false
      unlike x n = pick (same_or_not g.name x)
        where
          pick : SameOrNot g.name x → same_bytes g.name x ≡ false
          pick (same e t) = absurd (n e)
          pick (other e t) = t

      by_role : (r : Role) → d.role ≡ r → seen_by w g vs now result d.name ≡ held_as (Some d) st (env d.name) value
      by_role Dummy e =
          let k = sound.dummies d m e in
          let v = dummies d k.0 m e k.1 in
          with_at w g.dummies vs rest k.0 d.name v.0 sound.one_dummy k.1 v.1 ∙ (v.2 ∙ sym (ap (λ (z : Role). held_by z d.dims st (env d.name) value) e))
      by_role InCommon e =
          not_dummy InCommon e (λ z. clash (is_in_common InCommon) refl (ap is_in_common z))
          ∙ (plain (unlike d.name (λ n. names.common d m e (sym n))) true (ap is_in_common e)
          ∙ (commons d m e ∙ sym (ap (λ (z : Role). held_by z d.dims st (env d.name) value) e)))
      by_role OwnValue e =
          not_dummy OwnValue e (λ z. clash (is_own_value OwnValue) refl (ap is_own_value z))
          ∙ (ap (λ (b : Bool). cond b result (cond (has_common g d.name) (now d.name) Undefined)) (same_is g.name d.name (sym (names.own d m e).0))
          ∙ (result_is ∙ sym (ap (λ (z : Role). held_by z d.dims st (env d.name) value) e)))
      by_role Local e =
          not_dummy Local e (λ z. clash (is_local Local) refl (ap is_local z))
          ∙ (own_or_none (same_or_not g.name d.name) ∙ sym (ap (λ (z : Role). held_by z d.dims st (env d.name) value) e))
        where
          own_or_none : SameOrNot g.name d.name → rest d.name ≡ Undefined
          own_or_none (same n t) = ap (λ (b : Bool). cond b result (cond (has_common g d.name) (now d.name) Undefined)) t
              ∙ known (is_function g)
              (λ f. let h = names.function f in
              let one : h.0 ≡ d = sound.one_name h.0 d h.1 m (h.2 ∙ n) in
              absurd (role_clash d.role (ap (λ (z : DataName). z.role) (sym one) ∙ h.3) e))
              nothing_is
          own_or_none (other n t) = plain t false (ap is_in_common e)

  pub seen_is : (x : Name) → SeenIs x
  seen_is x = by_data (data_name g x) refl
    where
      by_data : (o : Option DataName) → data_name g x ≡ o → SeenIs x
      by_data None e = unknown x e
      by_data (Some d) e = let k = data_name_is g.names x d e in subst SeenIs k.1 (of_name d k.0 d.role refl)
