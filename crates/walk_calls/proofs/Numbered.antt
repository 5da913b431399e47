-- A call of the unit of a number.
use Rattle.std.proofs.Common.{◌≡◌, ℕ, ◌≤◌, List, length, Option, Some, None, slice_get, sym, ap, ◌∙◌, subst}
use Rattle.std.proofs.lemmas.Option.{slice_get_past}
use Rattle.formula.specs.Tree.{Tree}
use Rattle.formula.specs.declared.node.Node.{Node}
use Rattle.fort_model.specs.Program.{Program}
use Rattle.fort_model.specs.Senses.{of_terms, undefined}
use Rattle.fort_model.specs.WalkCalls.{Operand, call, call_in}
use Rattle.fort_syntax.specs.declared.unit.Unit.{Unit as Routine}
use Rattle.path_scene.specs.Scenes.{IsReady}
use Rattle.walk_calls.specs.Calls.{CallsIn, IsCalled, unit_call}
use Rattle.walk_setting.specs.declared.setting.Setting.{Setting}
use Rattle.walk_setting.specs.Settings.{seen_from}
use Rattle.walk_state.specs.Moments.{Moment}
use Rattle.walk_calls.proofs.Chained.{nothing_done}

module _ (pool : List Node) (s : Setting) (card : ℕ) (xs : List (Operand Tree)) (m d : Moment) (value : Tree) where
  module _ (number : ℕ) where
    of_number : (p : Program) (o : Option Routine) → slice_get s.scene.now.books.now.units.now number ≡ o → IsReady pool s.scene.now p → IsCalled m (call_in (seen_from s p) card number o m.now xs) d value
        → IsCalled m (call (seen_from s p) card (Some number) m.now xs) d value
    of_number p o e ready h =
        subst (λ (q : Option Routine). IsCalled m (call_in (seen_from s p) card number q m.now xs) d value)
        (sym (ap (λ (us : List Routine). slice_get us number) (sym ready.is_scene.units) ∙ e)) h

    -- there is no such unit
    pub called_past : length s.scene.now.books.now.units.now ≤ number → d ≡ m → value ≡ undefined of_terms → CallsIn pool s m (λ w. call w card (Some number) m.now xs) d value
    called_past le same none p ready =
        of_number p None (slice_get_past s.scene.now.books.now.units.now number le) ready (nothing_done m d value (undefined of_terms) same none)

    -- there is
    pub called_there : (g : Routine) → slice_get s.scene.now.books.now.units.now number ≡ Some g → CallsIn pool s m (λ w. unit_call w card number g m.now xs) d value
        → CallsIn pool s m (λ w. call w card (Some number) m.now xs) d value
    called_there g e h p ready = of_number p (Some g) e ready (h p ready)

  -- there is no number
  pub called_none : d ≡ m → value ≡ undefined of_terms → CallsIn pool s m (λ w. call w card None m.now xs) d value
  called_none same none p ready = nothing_done m d value (undefined of_terms) same none

  -- a number, or none, that is told otherwise
  pub called_as : (callee other : Option ℕ) → other ≡ callee → CallsIn pool s m (λ w. call w card callee m.now xs) d value → CallsIn pool s m (λ w. call w card other m.now xs) d value
  called_as callee other e h = subst (λ (o : Option ℕ). CallsIn pool s m (λ w. call w card o m.now xs) d value) (sym e) h
