-- Tables with what is told of more names.
use Rattle.std.proofs.Common.{◌≡◌, ℕ, Bool, true, false, cond, List, [], ◌∷◌, ◌++◌, refl, sym, ap, ◌∙◌, rules, arith}
use Rattle.std.specs.Prelude.{Option, Some, None, is_some, nat_eq, ◌&&◌}
use Rattle.formula.specs.Atoms.{same_bytes}
use Rattle.formula.specs.Reading.{or_else}
use Rattle.indexmap.specs.IndexMap.{insert_entry}
use Rattle.fort_syntax.specs.declared.name.Name.{Name}
use Rattle.name_tables.specs.Tables.{first_of, told, all_told}

more_letters : (b : Bool) (c d : ℕ) (cs ds : Name) → nat_eq c d ≡ b → (same_bytes cs ds ≡ true → cs ≡ ds)
    → (b && same_bytes cs ds) ≡ true → c ∷ cs ≡ d ∷ ds
more_letters true c d cs ds e rest h = let heads : c ≡ d = grind (arith, e) in let tails = rest h in λ i. heads i ∷ tails i
more_letters false c d cs ds e rest h = search rules

-- two names with the same letters are one name
pub same_names : (x y : Name) → same_bytes x y ≡ true → x ≡ y
same_names [] [] h = refl
same_names [] (d ∷ ds) h = search rules
same_names (c ∷ cs) [] h = search rules
same_names (c ∷ cs) (d ∷ ds) h = more_letters (nat_eq c d) c d cs ds refl (same_names cs ds) h

letters_swapped : (c d : ℕ) → nat_eq c d ≡ nat_eq d c
letters_swapped c d = grind arith

-- of two names it does not matter which is the first
pub swapped : (x y : Name) → same_bytes x y ≡ same_bytes y x
swapped [] [] = refl
swapped [] (d ∷ ds) = refl
swapped (c ∷ cs) [] = refl
swapped (c ∷ cs) (d ∷ ds) = ap (λ b. b && same_bytes cs ds) (letters_swapped c d) ∙ ap (λ b. nat_eq d c && b) (swapped cs ds)

later : {V : Type 0} (b : Bool) (p : Name × V) (ps qs es : List (Name × V)) (v : V) (x : Name)
    → (is_some (first_of ps x) ≡ false → es ≡ qs) → is_some (cond b (Some p.1) (first_of ps x)) ≡ false
    → cond b ((p.0, v) ∷ ps) (p ∷ es) ≡ p ∷ qs
later true p ps qs es v x rest h = search rules
later false p ps qs es v x rest h = ap (λ rs. p ∷ rs) (rest h)

absent : {V : Type 0} (ps : List (Name × V)) (x : Name) (v : V) → is_some (first_of ps x) ≡ false
    → insert_entry same_bytes ps x v ≡ ps ++ (x, v) ∷ []
absent [] x v h = refl
absent (p ∷ ps) x v h = later (same_bytes x p.0) p ps (ps ++ (x, v) ∷ []) (insert_entry same_bytes ps x v) v x (absent ps x v) h

-- a map with a new key is the table with what is told of it
pub fresh : {V : Type 0} (ps : List (Name × V)) (x : Name) (v : V) → is_some (first_of ps x) ≡ false
    → insert_entry same_bytes ps x v ≡ told ps x v
fresh ps x v h = absent ps x v h ∙ ap (λ b. cond b ps (ps ++ (x, v) ∷ [])) (sym h)

pub one_before : {V : Type 0} (b : Bool) (v : V) (o more last : Option V) → more ≡ or_else o last
    → cond b (Some v) more ≡ or_else (cond b (Some v) o) last
one_before true v o more last e = refl
one_before false v o more last e = e

behind : {V : Type 0} (ps : List (Name × V)) (p : Name × V) (x : Name)
    → first_of (ps ++ p ∷ []) x ≡ or_else (first_of ps x) (cond (same_bytes x p.0) (Some p.1) None)
behind [] p x = refl
behind (q ∷ ps) p x =
    one_before (same_bytes x q.0) q.1 (first_of ps x) (first_of (ps ++ p ∷ []) x) (cond (same_bytes x p.0) (Some p.1) None) (behind ps p x)

-- what is told of a name counts where nothing was told of it
pub told_of : {V : Type 0} (ps : List (Name × V)) (k : Name) (v : V) (x : Name)
    → first_of (told ps k v) x ≡ or_else (first_of ps x) (cond (same_bytes x k) (Some v) None)
told_of {V} ps k v x = by (first_of ps k) refl
  where
    some : (o : Option V) (w : V) → o ≡ Some w → o ≡ or_else o (Some v)
    some (Some u) w e = refl
    some None w e = search rules

    none : (o : Option V) → o ≡ or_else o None
    none (Some u) = refl
    none None = refl

    had : (w : V) → first_of ps k ≡ Some w → (b : Bool) → same_bytes x k ≡ b
        → first_of ps x ≡ or_else (first_of ps x) (cond b (Some v) None)
    had w e true same = some (first_of ps x) w (ap (first_of ps) (same_names x k same) ∙ e)
    had w e false same = none (first_of ps x)

    by : (o : Option V) → first_of ps k ≡ o
        → first_of (cond (is_some o) ps (ps ++ (k, v) ∷ [])) x ≡ or_else (first_of ps x) (cond (same_bytes x k) (Some v) None)
    by (Some w) e = had w e (same_bytes x k) refl
    by None e = behind ps (k, v) x

or_or : {V : Type 0} (b : Bool) (o : Option V) (v : V) (last : Option V)
    → or_else (or_else o (cond b (Some v) None)) last ≡ or_else o (cond b (Some v) last)
or_or b (Some u) v last = refl
or_or true None v last = refl
or_or false None v last = refl

-- a table with all that is told
pub all_told_of : {V : Type 0} (ps qs : List (Name × V)) (x : Name)
    → first_of (all_told ps qs) x ≡ or_else (first_of ps x) (first_of qs x)
all_told_of {V} ps [] x = none (first_of ps x)
  where
    none : (o : Option V) → o ≡ or_else o None
    none (Some u) = refl
    none None = refl
all_told_of ps (q ∷ qs) x =
    all_told_of (told ps q.0 q.1) qs x
    ∙ ap (λ o. or_else o (first_of qs x)) (told_of ps q.0 q.1 x)
    ∙ or_or (same_bytes x q.0) (first_of ps x) q.1 (first_of qs x)
