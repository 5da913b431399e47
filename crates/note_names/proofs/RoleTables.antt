-- A table of roles that is filled from the back.
use Rattle.std.proofs.Common.{◌≡◌, ℕ, suc, ◌+◌, ◌<◌, ◌≤◌, Bool, true, false, cond, Option, Some, None, List, [], ◌∷◌, length, drop, get_or, refl, sym, ap, ◌∙◌, arith}
use Rattle.std.proofs.lemmas.List.{at_drop_more, at_drop_all}
use Rattle.formula.specs.Atoms.{same_bytes}
use Rattle.fort_syntax.specs.Names.{data_name_in}
use Rattle.fort_syntax.specs.declared.unit.DataName.{DataName}
use Rattle.fort_syntax.specs.declared.unit.Role.{Role}
use Rattle.note_names.specs.NameTests.{role_in, role_of_data, Tells, AreRolesIn}

first_role : (b : Bool) (e : DataName) (o : Option DataName) → cond b (Some e.role) (role_of_data o) ≡ role_of_data (cond b (Some e) o)
first_role true e o = refl
first_role false e o = refl

-- one more name in front
pub roles_step : (ds : List DataName) (old new : List (List ℕ × Role)) (i n : ℕ) (d : DataName) (name : List ℕ) (role : Role) → n ≡ suc i → n ≤ length ds
    → name ≡ (get_or ds i d).name → role ≡ (get_or ds i d).role → AreRolesIn (drop n ds) old → Tells old new name role → AreRolesIn (drop i ds) new
roles_step ds old new i n d name role next within named roled had tells x =
    let lt : i < length ds = omega arith in
    let one : n ≡ i + 1 = omega arith in
    tells x
    ∙ (λ j. cond (same_bytes (named j) x) (Some (roled j)) (role_in old x))
    ∙ ap (λ (o : Option Role). cond (same_bytes (get_or ds i d).name x) (Some (get_or ds i d).role) o) (had x ∙ ap (λ (m : ℕ). role_of_data (data_name_in (drop m ds) x)) one)
    ∙ first_role (same_bytes (get_or ds i d).name x) (get_or ds i d) (data_name_in (drop (i + 1) ds) x)
    ∙ sym (at_drop_more (λ (rest : List DataName). role_of_data (data_name_in rest x)) ds i d lt)

-- no name yet
pub roles_start : (ds : List DataName) → AreRolesIn (drop (length ds) ds) []
roles_start ds x = sym (at_drop_all (λ (rest : List DataName). role_of_data (data_name_in rest x)) ds (length ds) (omega arith))
