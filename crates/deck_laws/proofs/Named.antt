-- As what a name stands in a statement.
use Rattle.std.proofs.Common.{◌≡◌, Bool, true, false, cond, [], ◌∷◌, refl, rules}
use Rattle.fort_syntax.specs.Uses.{Occurrence, uses_of}
use Rattle.fort_syntax.specs.Units.{names_in, names_in_item, names_in_dims, names_used, is_called, dummies_by, headed_by, is_function_head, items_by, common_items_by}
use Rattle.fort_syntax.specs.declared.name.Name.{Name}
use Rattle.fort_syntax.specs.declared.stmt.Item.{Item}
use Rattle.fort_syntax.specs.declared.stmt.Stmt.{Stmt}
use Rattle.fort_syntax.specs.declared.stmt.Stmt.TheVariants.{Subroutine, Function, Declare, Dimension, Common}
use Rattle.deck_laws.proofs.Members.{IsIn, here, there, in_flat, flat_in}

-- a name is a dummy, or the one that a FUNCTION is headed by, or that of an item, or one in its dimensions, or
-- is used otherwise than by a CALL
pub data NamedAs (s : Stmt) (x : Name) : Type 0 where
  dummy : IsIn x (dummies_by s) → NamedAs s x
  function : is_function_head s ≡ true → headed_by s ≡ x → NamedAs s x
  item : (i : Item) → IsIn i (items_by s) → i.name ≡ x → NamedAs s x
  dim : (i : Item) → IsIn i (items_by s) → IsIn x (names_in_dims i.dims) → NamedAs s x
  used : (o : Occurrence) → IsIn o (uses_of s) → is_called o.«use» ≡ false → o.name ≡ x → NamedAs s x

in_item : (s : Stmt) (x : Name) → (i : Item) × IsIn i (items_by s) × IsIn x (names_in_item i) → NamedAs s x
in_item s x (i, m, here e) = item i m e
in_item s x (i, m, there k) = dim i m k

of_called : (c : Bool) (o : Occurrence) (x : Name) → IsIn x (cond c [] (o.name ∷ [])) → (c ≡ false) × (o.name ≡ x)
of_called true o x m = elim m [ ]
of_called false o x (here e) = (refl, e)
of_called false o x (there m) = elim m [ ]

in_used : (s : Stmt) (x : Name) → IsIn x (names_used (uses_of s)) → NamedAs s x
in_used s x m =
    let f = flat_in (λ o. cond (is_called o.«use») [] (o.name ∷ [])) (uses_of s) m in
    let k = of_called (is_called f.0.«use») f.0 x f.2 in
    used f.0 f.1 k.0 k.1

pub named_as : (s : Stmt) (x : Name) → IsIn x (names_in s) → NamedAs s x
named_as (Subroutine f dummies) x m = dummy m
named_as (Function sort f dummies) x (here e) = function refl e
named_as (Function sort f dummies) x (there m) = dummy m
named_as (Declare sort items) x m = in_item (Declare sort items) x (flat_in names_in_item items m)
named_as (Dimension items) x m = in_item (Dimension items) x (flat_in names_in_item items m)
named_as (Common groups) x m = in_item (Common groups) x (flat_in names_in_item (common_items_by (Common groups)) m)
named_as s x m = in_used s x m

-- ---- the other way round

pub dummy_named : (s : Stmt) (x : Name) → IsIn x (dummies_by s) → IsIn x (names_in s)
dummy_named (Subroutine f dummies) x m = m
dummy_named (Function sort f dummies) x m = there m
dummy_named s x m = elim m [ ]

pub item_named : (s : Stmt) (i : Item) → IsIn i (items_by s) → IsIn i.name (names_in s)
item_named (Declare sort items) i m = in_flat names_in_item items m (here refl)
item_named (Dimension items) i m = in_flat names_in_item items m (here refl)
item_named (Common groups) i m = in_flat names_in_item (common_items_by (Common groups)) m (here refl)
item_named s i m = elim m [ ]

of_use : (c : Bool) (o : Occurrence) → c ≡ false → IsIn o.name (cond c [] (o.name ∷ []))
of_use true o e = search rules
of_use false o e = here refl

pub use_named : (s : Stmt) (o : Occurrence) → IsIn o (uses_of s) → is_called o.«use» ≡ false → IsIn o.name (names_in s)
use_named (Subroutine f dummies) o m e = elim m [ ]
use_named (Function sort f dummies) o m e = elim m [ ]
use_named (Declare sort items) o m e = elim m [ ]
use_named (Dimension items) o m e = elim m [ ]
use_named (Common groups) o m e = elim m [ ]
use_named s o m e =
    in_flat (λ p. cond (is_called p.«use») [] (p.name ∷ [])) (uses_of s) m (of_use (is_called o.«use») o e)

pub function_named : (s : Stmt) → is_function_head s ≡ true → IsIn (headed_by s) (names_in s)
function_named (Function sort f dummies) h = here refl
function_named _ h = search rules
