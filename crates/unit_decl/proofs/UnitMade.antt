-- What the tables of a unit tell are its parts.
use Rattle.std.proofs.Common.{◌≡◌, List, [], ◌∷◌, refl, sym, ap, ◌∙◌}
use Rattle.std.specs.Prelude.{ℕ, ◌||◌, ◌&&◌, not, cond, map, Option, Some, None}
use Rattle.formula.specs.Atoms.{same_bytes, is_among}
use Rattle.fort_syntax.specs.Scopes.{Scope, kept, once}
use Rattle.fort_syntax.specs.Units.{Segment, gathered, own_name, is_function_segment, dummies_of, scope_of, name_of_block, block_of_name, blocks_by, names_in, references_of, held_by, own_value_of, data_names, functions_of, role_of, sort_or_integer, data_name_of, function_name_of, group_of, executables, card_of_first, card_of_last, unit_of}
use Rattle.fort_syntax.specs.declared.dialect.Sort.{Sort}
use Rattle.fort_syntax.specs.declared.name.Name.{Name}
use Rattle.fort_syntax.specs.declared.stmt.Group.{Group}
use Rattle.fort_syntax.specs.declared.unit.DataName.{DataName}
use Rattle.fort_syntax.specs.declared.unit.FunctionName.{FunctionName}
use Rattle.fort_syntax.specs.declared.unit.Line.{Line}
use Rattle.fort_syntax.specs.declared.unit.Role.TheVariants.{Dummy, InCommon, OwnValue, Local}
use Rattle.use_faults.specs.declared.use_rules.Roles.{Roles}
use Rattle.decl_faults.specs.Commons.{given_from, tabled}
use Rattle.use_faults.specs.Roles.{use_facts_by}
use Rattle.unit_scope.specs.Scoping.{scope_by}
use Rattle.use_faults.specs.UseScans.{use_facts_of}
use Rattle.unit_decl.specs.UnitParts.{is_data_in, role_in, data_names_in, functions_in, sort_in, item_in, group_in}
use Rattle.decl_faults.proofs.CommonFacts.{tabled_of}
use Rattle.use_faults.proofs.OnceNames.{given_once}
use Rattle.use_faults.proofs.RoleFacts.{own_if, held_is}

-- a block's name names the block
pub block_again : (b : Name) → name_of_block (block_of_name b) ≡ b
block_again [] = refl
block_again (c ∷ cs) = refl

-- the tables tell of a unit what it says
abbrev pub Tells : Roles → Segment → Type 0
Tells r unit = use_facts_by r (own_name unit) ≡ use_facts_of unit

own_is : (unit : Segment) (r : Roles) → Tells r unit → (x : Name)
    → (r.function && same_bytes x (own_name unit)) ≡ is_among x (own_value_of unit)
own_is unit r t x = ap (λ f. f.is_function && same_bytes x (own_name unit)) t ∙ sym (own_if (is_function_segment unit) x (own_name unit))

data_is : (unit : Segment) (r : Roles) → Tells r unit → r.references ≡ references_of unit → (x : Name)
    → is_data_in r (own_name unit) x ≡ (is_among x (held_by unit) || not (is_among x (references_of unit)))
data_is unit r t refs x =
    λ i. (ap (λ f. f.is_dummy x || f.is_common x || (f.is_function && same_bytes x (own_name unit))) t ∙ sym (held_is unit x)) i
    || not (is_among x (refs i))

role_is : (unit : Segment) (r : Roles) → Tells r unit → (x : Name) → role_in r (own_name unit) x ≡ role_of unit x
role_is unit r t x =
    λ i. cond ((t i).is_dummy x) Dummy (cond ((t i).is_common x) InCommon (cond (own_is unit r t x i) OwnValue Local))

pub data_names_made : (unit : Segment) (r : Roles) → Tells r unit → r.names ≡ once (gathered names_in unit) → r.references ≡ references_of unit
    → data_names_in r (own_name unit) r.names ≡ map (data_name_of unit) (data_names unit)
data_names_made unit r t names refs =
    λ i. map (λ x. record {
      name = x;
      sort = sort_or_integer ((t i).scope.sort x);
      dims = (t i).scope.dims x;
      role = role_is unit r t x i;
    }) (kept (λ x. data_is unit r t refs x i) (names i))

pub functions_made : (unit : Segment) (r : Roles) → Tells r unit → r.references ≡ references_of unit
    → functions_in (scope_by r.scope) r.references ≡ map (function_name_of unit) (functions_of unit)
functions_made unit r t refs = λ i. functions_in ((t i).scope) (refs i)

pub sort_made : (unit : Segment) (r : Roles) → Tells r unit
    → sort_in r (own_name unit) ≡ cond (is_function_segment unit) (Some (sort_or_integer ((scope_of unit).sort (own_name unit)))) None
sort_made unit r t = ap (λ f. cond f.is_function (Some (sort_or_integer (f.scope.sort (own_name unit)))) None) t

group_made : (unit : Segment) (scope : Scope) → scope ≡ scope_of unit → (b : Name) → group_in scope (tabled [] unit) b ≡ group_of unit b
group_made unit scope s b = λ i. record { block = block_of_name b; items = map (item_in (s i)) (tabled_of [] unit b i) }

pub groups_made : (unit : Segment) (scope : Scope) → scope ≡ scope_of unit
    → map (group_in scope (tabled [] unit)) (given_from blocks_by [] unit) ≡ map (group_of unit) (once (gathered blocks_by unit))
groups_made unit scope s = λ i. map (λ b. group_made unit scope s b i) (given_once blocks_by unit i)

-- a unit is its parts
pub unit_made : (unit : Segment) (r : Roles) (own : Name) (names : List DataName) (functions : List FunctionName) (sort : Option Sort)
    (first last : ℕ) (dummies : List Name) (blocks : List Group) (lines : List Line)
    → Tells r unit → r.names ≡ once (gathered names_in unit) → r.references ≡ references_of unit
    → own ≡ own_name unit → names ≡ data_names_in r own r.names → functions ≡ functions_in (scope_by r.scope) r.references
    → sort ≡ sort_in r own → first ≡ card_of_first unit → last ≡ card_of_last 0 unit → dummies ≡ dummies_of unit
    → blocks ≡ map (group_of unit) (once (gathered blocks_by unit)) → lines ≡ executables unit
    → record {
      name = own;
      sort = sort;
      head = first;
      dummies = dummies;
      names = names;
      functions = functions;
      blocks = blocks;
      lines = lines;
      «end» = last;
    } ≡ unit_of unit
unit_made unit r own names functions sort first last dummies blocks lines t ns refs o n f s h e d b l =
    λ i. record {
      name = o i;
      sort = (s ∙ ap (sort_in r) o ∙ sort_made unit r t) i;
      head = h i;
      dummies = d i;
      names = (n ∙ ap (λ x. data_names_in r x r.names) o ∙ data_names_made unit r t ns refs) i;
      functions = (f ∙ functions_made unit r t refs) i;
      blocks = b i;
      lines = l i;
      «end» = e i;
    }
