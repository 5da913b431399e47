-- The tables of a unit say what its declarations say.
use Rattle.std.proofs.Common.{◌≡◌, Bool, true, false, cond, List, [], ◌∷◌, ◌++◌, refl, sym, ap, ◌∙◌}
use Rattle.std.specs.Prelude.{Option, Some, None, ◌&&◌}
use Rattle.formula.specs.Atoms.{same_bytes}
use Rattle.formula.specs.Reading.{or_else}
use Rattle.fort_syntax.specs.Scopes.{sort_by_letter, is_given_dims}
use Rattle.fort_syntax.specs.Units.{Segment, Typing, typings_by, items_by, gathered, sort_in, dims_in, scope_of}
use Rattle.fort_syntax.specs.declared.name.Name.{Name}
use Rattle.fort_syntax.specs.declared.dialect.Sort.{Sort}
use Rattle.fort_syntax.specs.declared.stmt.Dim.{Dim}
use Rattle.fort_syntax.specs.declared.stmt.Item.{Item}
use Rattle.fort_syntax.specs.declared.stmt.Stmt.TheVariants.{Declare}
use Rattle.fort_syntax.specs.declared.unit.Line.{Line}
use Rattle.name_tables.specs.Tables.{first_of, told, all_told}
use Rattle.unit_scope.specs.Tellings.{pairs_of, typed_from, typed_items, shaped, shaped_from}
use Rattle.unit_scope.specs.Scoping.{dims_or, scope_by}
use Rattle.name_tables.proofs.Told.{swapped, told_of, all_told_of, one_before}

sort_behind : (ts more : List Typing) (x : Name) → sort_in (ts ++ more) x ≡ or_else (first_of (pairs_of ts) x) (sort_in more x)
sort_behind [] more x = refl
sort_behind (t ∷ ts) more x =
    ap (λ b. cond b (Some t.sort) (sort_in (ts ++ more) x)) (swapped t.name x)
    ∙ one_before (same_bytes x t.name) t.sort (first_of (pairs_of ts) x) (sort_in (ts ++ more) x) (sort_in more x) (sort_behind ts more x)

or_assoc : {V : Type 0} (a b c : Option V) → or_else (or_else a b) c ≡ or_else a (or_else b c)
or_assoc (Some v) b c = refl
or_assoc None b c = refl

types_told : (table : List (Name × Sort)) (lines : List Line) (x : Name)
    → or_else (first_of (typed_from table lines) x) (sort_by_letter x) ≡ or_else (first_of table x) (sort_in (gathered typings_by lines) x)
types_told table [] x = refl
types_told table (line ∷ lines) x =
    types_told (all_told table (pairs_of (typings_by line.stmt))) lines x
    ∙ ap (λ o. or_else o (sort_in (gathered typings_by lines) x)) (all_told_of table (pairs_of (typings_by line.stmt)) x)
    ∙ or_assoc (first_of table x) (first_of (pairs_of (typings_by line.stmt)) x) (sort_in (gathered typings_by lines) x)
    ∙ ap (or_else (first_of table x)) (sym (sort_behind (typings_by line.stmt) (gathered typings_by lines) x))

dims_assoc : (b : Bool) (o : Option (List Dim)) (dims last : List Dim)
    → dims_or (or_else o (cond b (Some dims) None)) last ≡ dims_or o (cond (b && true) dims last)
dims_assoc b (Some d) dims last = refl
dims_assoc true None dims last = refl
dims_assoc false None dims last = refl

without : (b : Bool) (o : Option (List Dim)) (dims last : List Dim) → dims_or o last ≡ dims_or o (cond (b && false) dims last)
without true o dims last = refl
without false o dims last = refl

one_item : (g : Bool) (table : List (Name × List Dim)) (item : Item) (last : List Dim) (x : Name)
    → dims_or (first_of (cond g (told table item.name item.dims) table) x) last
    ≡ dims_or (first_of table x) (cond (same_bytes item.name x && g) item.dims last)
one_item true table item last x =
    ap (λ o. dims_or o last) (told_of table item.name item.dims x)
    ∙ dims_assoc (same_bytes x item.name) (first_of table x) item.dims last
    ∙ ap (λ b. dims_or (first_of table x) (cond (b && true) item.dims last)) (swapped x item.name)
one_item false table item last x = without (same_bytes item.name x) (first_of table x) item.dims last

items_told : (table : List (Name × List Dim)) (items more : List Item) (x : Name)
    → dims_or (first_of (shaped table items) x) (dims_in more x) ≡ dims_or (first_of table x) (dims_in (items ++ more) x)
items_told table [] more x = refl
items_told table (item ∷ items) more x =
    items_told (cond (is_given_dims item.dims) (told table item.name item.dims) table) items more x
    ∙ one_item (is_given_dims item.dims) table item (dims_in (items ++ more) x) x

shapes_told : (table : List (Name × List Dim)) (lines : List Line) (x : Name)
    → dims_or (first_of (shaped_from table lines) x) [] ≡ dims_or (first_of table x) (dims_in (gathered items_by lines) x)
shapes_told table [] x = refl
shapes_told table (line ∷ lines) x =
    shapes_told (shaped table (items_by line.stmt)) lines x ∙ items_told table (items_by line.stmt) (gathered items_by lines) x

-- the tables of a unit
pub scope_made : (unit : Segment) (types : List (Name × Sort)) (shapes : List (Name × List Dim))
    → types ≡ typed_from [] unit → shapes ≡ shaped_from [] unit → scope_by (record { types = types; shapes = shapes }) ≡ scope_of unit
scope_made unit types shapes t d = λ i. record {
  sort = λ x. (ap (λ ps. or_else (first_of ps x) (sort_by_letter x)) t ∙ types_told [] unit x) i;
  dims = λ x. (ap (λ ps. dims_or (first_of ps x) []) d ∙ shapes_told [] unit x) i;
}

-- what a declaration of a type tells
pub items_typed : (sort : Sort) (table : List (Name × Sort)) (items : List Item)
    → typed_items sort table items ≡ all_told table (pairs_of (typings_by (Declare sort items)))
items_typed sort table [] = refl
items_typed sort table (item ∷ items) = items_typed sort (told table item.name sort) items
