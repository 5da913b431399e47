-- A FUNCTION smashes no name of its caller.
use Rattle.std.proofs.Common.{◌≡◌, ℕ, Bool, true, false, cond, not, ◌&&◌, ◌||◌, Option, Some, None, List, [], ◌∷◌, ◌++◌, slice_get, map, refl, sym, ap, ◌∙◌}
use Rattle.std.specs.List.{filter, list_all, list_any}
use Rattle.std.specs.Cmp.Lexicographic.{same_text, nat_list_eq_equiv}
use Rattle.formula.specs.Atoms.{has_twin, is_among, same_bytes}
use Rattle.formula.specs.Tree.{Tree}
use Rattle.formula.specs.declared.node.Node.{Node}
use Rattle.fort_syntax.specs.Names.{commons, data_name, data_name_in, has_common, has_role, is_in_common, is_own}
use Rattle.fort_syntax.specs.WellFormed.{commons_of_unit, has_right_role, names_of_unit, own_value_of_unit, role_in_unit, same_role}
use Rattle.fort_syntax.specs.declared.name.Name.{Name}
use Rattle.fort_syntax.specs.declared.rule.Rule.TheVariants.{FunctionSmashes}
use Rattle.fort_syntax.specs.declared.unit.DataName.{DataName}
use Rattle.fort_syntax.specs.declared.unit.Role.{Role}
use Rattle.fort_syntax.specs.declared.unit.Role.TheVariants.{Dummy, InCommon, OwnValue, Local}
use Rattle.fort_syntax.specs.declared.unit.Unit.{Unit as Routine}
use Rattle.fort_model.specs.Conditions.{sight}
use Rattle.fort_model.specs.Fitting.{is_visible_role}
use Rattle.fort_model.specs.Program.{Program, is_smashed}
use Rattle.fort_model.specs.Rules.{at_head, function_smashes}
use Rattle.fort_model.specs.Senses.{of_terms}
use Rattle.fort_model.specs.WalkCalls.{Operand, Bare, Part, Computed, Sight, smashed_actuals}
use Rattle.path_scene.specs.Scenes.{IsReady}
use Rattle.path_scene.specs.declared.scene.Scene.{Scene}
use Rattle.unit_notes.specs.Laws.{ReadyFunctionsKeep}
use Rattle.unit_notes.proofs.Shapes.{both_parts, data_passes, neither, well_formed}

known : (b : Bool) {C : Type 0} → (b ≡ true → C) → (b ≡ false → C) → C
known true f g = f refl
known false f g = g refl

-- ---- rule 45

keeps_rule : (pool : List Node) (scene : Scene) (p : Program) (j : ℕ) (g : Routine) → IsReady pool scene p → slice_get p.units j ≡ Some g → function_smashes p j g ≡ false
keeps_rule pool scene p j g ready is =
    known (function_smashes p j g)
    (λ t. absurd (ready.smashing FunctionSmashes (3, refl) j g.head (record { unit = g; is_unit = is; breaks = (0, ap (λ (b : Bool). slice_get (at_head g b) 0) t) })))
    (λ f. f)

-- what a caller sees is not smashed
unsmashed : (p : Program) (j : ℕ) (ds : List DataName) (x : Name) → list_any (λ d. not (is_own d.role) && is_smashed p j d.name) ds ≡ false → has_role is_visible_role (data_name_in ds x) ≡ true
    → is_smashed p j x ≡ false
unsmashed p j [] x none h = absurd (cc)
unsmashed p j (d ∷ ds) x none h = by (same_bytes d.name x) refl h (unsmashed p j ds x)
  where
    parts : ((not (is_own d.role) && is_smashed p j d.name) ≡ false) × (list_any (λ e. not (is_own e.role) && is_smashed p j e.name) ds ≡ false)
    parts = neither (not (is_own d.role) && is_smashed p j d.name) (list_any (λ e. not (is_own e.role) && is_smashed p j e.name) ds) none

    by : (b : Bool) → same_bytes d.name x ≡ b → has_role is_visible_role (cond b (Some d) (data_name_in ds x)) ≡ true
        → (list_any (λ e. not (is_own e.role) && is_smashed p j e.name) ds ≡ false → has_role is_visible_role (data_name_in ds x) ≡ true → is_smashed p j x ≡ false) → is_smashed p j x ≡ false
    by true e k rest =
        ap (is_smashed p j) (sym (same_text d.name x (sym e)))
        ∙ (sym (ap (λ (b : Bool). b && is_smashed p j d.name) k) ∙ parts.0)
    by false e k rest = rest parts.1 k

-- ---- dummies

named_there : (ds : List DataName) (x : Name) → is_among x (map (λ d. d.name) ds) ≡ true → (d : DataName) × (data_name_in ds x ≡ Some d) × (d.name ≡ x)
named_there [] x h = absurd (cc)
named_there (d ∷ ds) x h = known (same_bytes d.name x)
    (λ t. (d, ap (λ (b : Bool). cond b (Some d) (data_name_in ds x)) t, same_text d.name x (sym t)))
    (λ f. let rest = named_there ds x (sym (ap (λ (b : Bool). b || is_among x (map (λ e. e.name) ds)) (nat_list_eq_equiv.symm x d.name ∙ f)) ∙ h) in
    (rest.0, ap (λ (b : Bool). cond b (Some d) (data_name_in ds x)) f ∙ rest.1, rest.2))

dummy_role : (role : Role) → same_role role Dummy ≡ true → is_visible_role role ≡ true
dummy_role Dummy e = refl
dummy_role InCommon e = refl
dummy_role OwnValue e = absurd (cc)
dummy_role Local e = absurd (cc)

all_front : (test : Name → Bool) (xs ys : List Name) (x : Name) → list_all test (xs ++ ys) ≡ true → is_among x xs ≡ true → test x ≡ true
all_front test [] ys x all h = absurd (cc)
all_front test (z ∷ xs) ys x all h =
    let parts = both_parts (test z) (list_all test (xs ++ ys)) all in
    known (same_bytes x z)
    (λ t. ap test (same_text x z (sym t)) ∙ parts.0)
    (λ f. all_front test xs ys x parts.1 (sym (ap (λ (b : Bool). b || is_among x xs) f) ∙ h))

-- ---- nothing is smashed

no_actuals : (w : Sight Tree) (s : Name → Bool) (ds : List Name) (xs : List (Operand Tree)) → ((x : Name) → is_among x ds ≡ true → s x ≡ false) → smashed_actuals w s ds xs ≡ []
no_actuals w s [] xs h = refl
no_actuals w s (d ∷ ds) [] h = refl
no_actuals w s (d ∷ ds) (Bare x v ∷ xs) h =
    ap (λ (b : Bool). cond b (x ∷ smashed_actuals w s ds xs) (smashed_actuals w s ds xs)) (h d (ap (λ (b : Bool). b || is_among d ds) (nat_list_eq_equiv.refl d)))
    ∙ no_actuals w s ds xs (λ y k. h y (second (same_bytes y d) (is_among y ds) k))
  where
    second : (a b : Bool) → b ≡ true → (a || b) ≡ true
    second true b e = refl
    second false b e = e
no_actuals w s (d ∷ ds) (Part v ∷ xs) h = no_actuals w s ds xs (λ y k. h y (second (same_bytes y d) (is_among y ds) k))
  where
    second : (a b : Bool) → b ≡ true → (a || b) ≡ true
    second true b e = refl
    second false b e = e
no_actuals w s (d ∷ ds) (Computed v ∷ xs) h = no_actuals w s ds xs (λ y k. h y (second (same_bytes y d) (is_among y ds) k))
  where
    second : (a b : Bool) → b ≡ true → (a || b) ≡ true
    second true b e = refl
    second false b e = e

none_pass : (test : Name → Bool) (xs : List Name) → ((x : Name) → test x ≡ false) → filter test xs ≡ []
none_pass test [] h = refl
none_pass test (x ∷ xs) h = ap (λ (b : Bool). cond b (x ∷ filter test xs) (filter test xs)) (h x) ∙ none_pass test xs h

common_visible : (o : Option DataName) → has_role is_in_common o ≡ true → has_role is_visible_role o ≡ true
common_visible None e = absurd (cc)
common_visible (Some d) e = by d.role e
  where
    by : (role : Role) → is_in_common role ≡ true → is_visible_role role ≡ true
    by Dummy k = refl
    by InCommon k = refl
    by OwnValue k = absurd (cc)
    by Local k = absurd (cc)

pub ready_functions_keep : ReadyFunctionsKeep
ready_functions_keep pool scene p i j u g ready is fun xs =
    (λ k. actuals k ++ shared k)
  where
    none : list_any (λ d. not (is_own d.role) && is_smashed p j d.name) g.names ≡ false
    none = sym (ap (λ (b : Bool). b && list_any (λ d. not (is_own d.role) && is_smashed p j d.name) g.names) fun) ∙ keeps_rule pool scene p j g ready is

    visible : (x : Name) → has_role is_visible_role (data_name g x) ≡ true → is_smashed p j x ≡ false
    visible x h = unsmashed p j g.names x none h

    names : list_all (λ x. is_among x (names_of_unit g)) (g.dummies ++ commons_of_unit g ++ own_value_of_unit g) ≡ true
    names = (both_parts (not (has_twin (names_of_unit g))) _ (both_parts (not (has_twin (names_of_unit g)) && list_all (λ x. is_among x (names_of_unit g)) (g.dummies ++ commons_of_unit g ++ own_value_of_unit g)) _ (well_formed pool scene p j g ready is).data_names).0).1

    dummy : (x : Name) → is_among x g.dummies ≡ true → is_smashed p j x ≡ false
    dummy x h =
        let d = named_there g.names x (all_front (λ y. is_among y (names_of_unit g)) g.dummies (commons_of_unit g ++ own_value_of_unit g) x (ap (list_all (λ y. is_among y (names_of_unit g))) (assoc g.dummies (commons_of_unit g) (own_value_of_unit g)) ∙ names) h) in
        let right = (both_parts (same_role d.0.role (role_in_unit g d.0.name)) _ (data_passes (has_right_role g) g.names x d.0 (well_formed pool scene p j g ready is).roles d.1)).0 in
        let role : role_in_unit g d.0.name ≡ Dummy =
        ap (role_in_unit g) d.2 ∙ ap (λ (b : Bool). cond b Dummy (cond (is_among x (commons_of_unit g)) InCommon (cond (is_among x (own_value_of_unit g)) OwnValue Local))) h in
        visible x (ap (has_role is_visible_role) d.1 ∙ dummy_role d.0.role (sym (ap (same_role d.0.role) role) ∙ right))
      where
        assoc : (a b c : List Name) → a ++ (b ++ c) ≡ a ++ b ++ c
        assoc [] b c = refl
        assoc (x ∷ a) b c = ap (λ (ys : List Name). x ∷ ys) (assoc a b c)

    actuals : smashed_actuals (sight of_terms p i u) (is_smashed p j) g.dummies xs ≡ []
    actuals = no_actuals (sight of_terms p i u) (is_smashed p j) g.dummies xs dummy

    shared : filter (λ x. has_common g x && is_smashed p j x) (commons u) ≡ []
    shared = none_pass (λ x. has_common g x && is_smashed p j x) (commons u) λ x. by x (has_common g x) refl
      where
        by : (x : Name) (b : Bool) → has_common g x ≡ b → (b && is_smashed p j x) ≡ false
        by x true e = visible x (common_visible (data_name g x) e)
        by x false e = refl
