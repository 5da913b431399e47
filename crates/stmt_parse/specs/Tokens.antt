-- What begins a text: a word, a name, a number, an operator. Each reader answers what it read and the text behind it.
use Rattle.std.specs.Prelude.{ℕ, suc, ◌+◌, ◌-◌, ◌==◌, ◌&&◌, nat_le, nat_lt, Bool, if◌then◌else◌, Option, Some, None, List, [], ◌∷◌, length, take, drop, get_or, codes}
use Rattle.formula.specs.Atoms.{is_digit, is_name_byte, is_digits, is_long, spelled, is_name}
use Rattle.formula.specs.Reading.{or_else}
use Rattle.fort_syntax.specs.declared.name.Name.{Name}
use Rattle.fort_syntax.specs.declared.dialect.BinOp.TheVariants.{Add, Sub, Mul, Div}
use Rattle.fort_syntax.specs.declared.dialect.RelOp.TheVariants.{Lt, Le, Eq, Ne, Ge, Gt}
use Rattle.fort_syntax.specs.Spelled.{tightness}
use Rattle.fort_syntax.specs.Misspelled.{begins}
use Rattle.stmt_parse.specs.declared.joint.Joint.{Joint}
use Rattle.stmt_parse.specs.declared.joint.Joint.TheVariants.{Or, And, Rel, Bin}

infixr 1 ◌>>=◌
-- a reading: what was read and the text behind it, or nothing
abbrev pub Reading : Type 0 → Type 0
Reading A = Option (A × List ℕ)

abbrev pub ◌>>=◌ : {A B : Type 0} → Option A → (A → Option B) → Option B
◌>>=◌ (Some x) next = next x
◌>>=◌ None next = None

-- how many bytes of a kind begin the text
abbrev pub run_length : (ℕ → Bool) → List ℕ → ℕ
run_length p [] = 0
run_length p (b ∷ rest) = if p b then suc (run_length p rest) else 0

-- the text behind a word
abbrev pub after : List ℕ → List ℕ → Option (List ℕ)
after word t = if begins word t then Some (drop (length word) t) else None

abbrev pub name_of_length : ℕ → List ℕ → Reading Name
name_of_length n t = if is_name (take n t) then Some (take n t, drop n t) else None

unfoldable pub name_at : List ℕ → Reading Name
name_at t = name_of_length (run_length is_name_byte t) t

abbrev pub constant_of_length : ℕ → List ℕ → Reading ℕ
constant_of_length n t = if is_digits (take n t) then (if is_long (take n t) then None else Some
    (spelled (take n t), drop n t)) else None

unfoldable pub constant_at : List ℕ → Reading ℕ
constant_at t = constant_of_length (run_length is_digit t) t

abbrev pub label_of_length : ℕ → List ℕ → Reading ℕ
label_of_length n t =
    if is_digits (take n t) then (if nat_lt 5 n then None else (if spelled (take n t) == 0 then None else Some
    (spelled (take n t), drop n t))) else None

unfoldable pub label_at : List ℕ → Reading ℕ
label_at t = label_of_length (run_length is_digit t) t

-- `**` and its exponent
abbrev pub power_at : List ℕ → Reading ℕ
power_at t =
    if begins (codes "**") t && nat_le 49 (get_or t 2 0) && nat_le (get_or t 2 0) 57 then Some (get_or t 2 0 - 48, drop 3 t) else None

-- `+`, `-`, `*` or `/`
abbrev pub sign_at : List ℕ → Reading Joint
sign_at t =
    if begins (codes "+") t then Some (Bin Add, drop 1 t)
    else if begins (codes "-") t then Some (Bin Sub, drop 1 t)
    else if begins (codes "*") t then Some (Bin Mul, drop 1 t)
    else if begins (codes "/") t then Some (Bin Div, drop 1 t)
    else None

-- a relation
abbrev pub relation_at : List ℕ → Reading Joint
relation_at t =
    if begins (codes ".LT.") t then Some (Rel Lt, drop 4 t)
    else if begins (codes ".LE.") t then Some (Rel Le, drop 4 t)
    else if begins (codes ".EQ.") t then Some (Rel Eq, drop 4 t)
    else if begins (codes ".NE.") t then Some (Rel Ne, drop 4 t)
    else if begins (codes ".GE.") t then Some (Rel Ge, drop 4 t)
    else if begins (codes ".GT.") t then Some (Rel Gt, drop 4 t)
    else None

abbrev pub logical_at : List ℕ → Reading Joint
logical_at t =
    if begins (codes ".AND.") t then Some (And, drop 5 t)
    else if begins (codes ".OR.") t then Some (Or, drop 4 t)
    else None

-- an operator between two parts
abbrev pub joint_at : List ℕ → Reading Joint
joint_at t = or_else (sign_at t) (or_else (relation_at t) (logical_at t))

-- how tightly an operator binds, and how tightly its parts must be bound
abbrev pub strength : Joint → ℕ
strength Or = 0
strength And = 1
strength (Rel o) = 3
strength (Bin o) = tightness o

abbrev pub left_strength : Joint → ℕ
left_strength Or = 0
left_strength And = 1
left_strength (Rel o) = 4
left_strength (Bin o) = tightness o

abbrev pub right_strength : Joint → ℕ
right_strength Or = 1
right_strength And = 2
right_strength (Rel o) = 4
right_strength (Bin o) = tightness o + 1
