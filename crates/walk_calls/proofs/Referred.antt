-- A reference to a FUNCTION leaves names what they stand for.
use Rattle.std.proofs.Common.{◌≡◌, ℕ, suc, ◌+◌, Bool, true, false, cond, ◌&&◌, Option, Some, None, List, [], ◌∷◌, slice_get, refl, sym, ap, ◌∙◌, subst, arith}
use Rattle.formula.specs.Atoms.{same_bytes}
use Rattle.formula.specs.Tree.{Tree}
use Rattle.formula.specs.declared.node.Node.{Node}
use Rattle.fort_model.specs.Program.{Program}
use Rattle.fort_model.specs.Seen.{Answers, Named}
use Rattle.fort_model.specs.WalkCalls.{Operand, call, call_in, changed}
use Rattle.fort_syntax.specs.Names.{first_unit, function, is_function}
use Rattle.fort_syntax.specs.declared.name.Name.{Name}
use Rattle.fort_syntax.specs.declared.unit.Unit.{Unit as Routine}
use Rattle.path_scene.specs.Scenes.{IsReady}
use Rattle.unit_notes.proofs.Kept.{ready_functions_keep}
use Rattle.walk_setting.specs.declared.setting.Setting.{Setting}
use Rattle.walk_setting.specs.Settings.{seen_from}

first_is : (is : Routine → Bool) (us : List Routine) (i j : ℕ) → first_unit is us i ≡ Some j → (n : ℕ) × (j ≡ i + n) × ((g : Routine) → slice_get us n ≡ Some g → is g ≡ true)
first_is is [] i j h = absurd (cc)
first_is is (u ∷ us) i j h = by_test (is u) refl (λ q. first_is is us (suc i) j q)
  where
    at_head : (t : Bool) → is u ≡ t → cond t (Some i) (first_unit is us (suc i)) ≡ Some j
    at_head t q = ap (λ (b : Bool). cond b (Some i) (first_unit is us (suc i))) (sym q) ∙ h

    found : (t : Bool) → is u ≡ true → Some i ≡ Some j → (n : ℕ) × (j ≡ i + n) × ((g : Routine) → slice_get (u ∷ us) n ≡ Some g → is g ≡ true)
    found t q e = let f : i ≡ j = cc in (0, omega arith, λ g k. let r : u ≡ g = cc in subst (λ (z : Routine). is z ≡ true) r q)

    by_test : (t : Bool) → is u ≡ t → (first_unit is us (suc i) ≡ Some j → (n : ℕ) × (j ≡ suc i + n) × ((g : Routine) → slice_get us n ≡ Some g → is g ≡ true))
        → (n : ℕ) × (j ≡ i + n) × ((g : Routine) → slice_get (u ∷ us) n ≡ Some g → is g ≡ true)
    by_test true q rec = found true q (at_head true q)
    by_test false q rec = let r = rec (at_head false q) in (suc r.0, let e = r.1 in omega arith, λ g k. r.2 g k)

left_true : (a b : Bool) → (a && b) ≡ true → a ≡ true
left_true true b e = refl
left_true false b e = absurd (cc)

function_is : (units : List Routine) (f : Name) (j : ℕ) (g : Routine) → function units f ≡ Some j → slice_get units j ≡ Some g → is_function g ≡ true
function_is units f j g h e =
    let r = first_is (λ u. is_function u && same_bytes u.name f) units 0 j h in
    let at : j ≡ r.0 = let q = r.1 in omega arith in
    left_true (is_function g) (same_bytes g.name f) (r.2 g (ap (slice_get units) (sym at) ∙ e))

pub names_kept : (pool : List Node) (s : Setting) (p : Program) (card : ℕ) (callee : Option ℕ) (f : Name) (now : Named Tree) (xs : List (Operand Tree)) (answers : Answers Tree)
    → IsReady pool s.scene.now p → callee ≡ function s.scene.now.books.now.units.now f → (call (seen_from s p) card callee now xs answers).value.0 ≡ now
names_kept pool s p card callee f now xs answers ready e = by callee (ap (λ (us : List Routine). function us f) (sym ready.is_scene.units) ∙ sym e)
  where
    at : (j : ℕ) → function p.units f ≡ Some j → (o : Option Routine) → slice_get p.units j ≡ o → (call_in (seen_from s p) card j o now xs answers).value.0 ≡ now
    at j q None k = refl
    at j q (Some g) k =
        ap (λ (hs : List Name). changed (seen_from s p) hs (answers 0) now)
        (ready_functions_keep pool s.scene.now p s.number j s.book.now.unit.now g ready k (function_is p.units f j g q k) xs)

    by : (c : Option ℕ) → function p.units f ≡ c → (call (seen_from s p) card c now xs answers).value.0 ≡ now
    by None q = refl
    by (Some j) q = at j q (slice_get p.units j) refl
