-- How long words with a form are.
use Rattle.std.proofs.Common.{◌≡◌, ℕ, zero, suc, ◌+◌, ◌≤◌, Bool, true, false, not, List, [], ◌∷◌, length, nat_le, refl, sym, ap, ◌∙◌, arith, rules, IsTrue}
use Rattle.std.specs.Prelude.{◌&&◌, codes}
use Rattle.std.specs.List.{list_all}
use Rattle.std.proofs.lemmas.Grind.{common_steps}
use Rattle.formula.specs.Atoms.{starts, is_letter, is_name_byte, is_symbol_byte, same_bytes, is_symbol, is_function_name, is_name, is_among}
use Rattle.fort_notes.specs.Parts.{reserved}
use Rattle.fort_notes.specs.Forms.{is_parameter, is_entity}

-- a conjunction that is true has two true parts
pub both_true : (a b : Bool) → (a && b) ≡ true → (a ≡ true) × (b ≡ true)
both_true true true e = (refl, refl)
both_true true false e = absurd (cc)
both_true false b e = absurd (cc)

pub given : (p : ℕ → Bool) (a : List ℕ) → starts p a ≡ true → 1 ≤ length a
given p [] e = absurd (cc)
given p (b ∷ rest) e = omega arith

pub short : (n m : ℕ) → nat_le n m ≡ true → n ≤ m
short n m e = grind (arith, common_steps)

-- names of FORTRAN are short names of functions
pub short_name : (a : List ℕ) → (is_function_name a && nat_le (length a) 6) ≡ is_name a
short_name a = step (starts is_letter a && list_all is_name_byte a) (length a)
  where
    step : (b : Bool) (n : ℕ) → (b && nat_le n 12 && nat_le n 6) ≡ (b && nat_le n 6)
    step false n = refl
    step true n = grind (arith, common_steps)

pub function_given : (a : List ℕ) → is_function_name a ≡ true → 1 ≤ length a
function_given a e =
    let h = both_true (starts is_letter a && list_all is_name_byte a) (nat_le (length a) 12) e in
    given is_letter a (both_true (starts is_letter a) (list_all is_name_byte a) h.0).0

pub function_short : (a : List ℕ) → is_function_name a ≡ true → length a ≤ 24
function_short a e =
    let h = both_true (starts is_letter a && list_all is_name_byte a) (nat_le (length a) 12) e in
    let twelve : length a ≤ 12 = short (length a) 12 h.1 in
    omega arith

pub name_given : (a : List ℕ) → is_name a ≡ true → 1 ≤ length a
name_given a e =
    let h = both_true (starts is_letter a && list_all is_name_byte a) (nat_le (length a) 6) e in
    given is_letter a (both_true (starts is_letter a) (list_all is_name_byte a) h.0).0

pub name_short : (a : List ℕ) → is_name a ≡ true → length a ≤ 6
name_short a e = short (length a) 6 (both_true (starts is_letter a && list_all is_name_byte a) (nat_le (length a) 6) e).1

pub parameter_given : (a : List ℕ) → is_parameter a ≡ true → 1 ≤ length a
parameter_given a e = name_given a (both_true (is_name a) (not (is_among a reserved)) e).0

pub parameter_short : (a : List ℕ) → is_parameter a ≡ true → length a ≤ 24
parameter_short a e = let six : length a ≤ 6 = name_short a (both_true (is_name a) (not (is_among a reserved)) e).0 in omega arith

symbol_front : (a : List ℕ) → is_symbol a ≡ true → (starts is_letter a && list_all is_symbol_byte a && nat_le (length a) 24) ≡ true
symbol_front a e =
    let h = both_true (starts is_letter a && list_all is_symbol_byte a && nat_le (length a) 24 && not (same_bytes a (codes "T"))) (not (same_bytes a (codes "F"))) e in
    (both_true (starts is_letter a && list_all is_symbol_byte a && nat_le (length a) 24) (not (same_bytes a (codes "T"))) h.0).0

pub symbol_given : (a : List ℕ) → is_symbol a ≡ true → 1 ≤ length a
symbol_given a e =
    let h = both_true (starts is_letter a && list_all is_symbol_byte a) (nat_le (length a) 24) (symbol_front a e) in
    given is_letter a (both_true (starts is_letter a) (list_all is_symbol_byte a) h.0).0

pub symbol_short : (a : List ℕ) → is_symbol a ≡ true → length a ≤ 24
symbol_short a e = short (length a) 24 (both_true (starts is_letter a && list_all is_symbol_byte a) (nat_le (length a) 24) (symbol_front a e)).1

pub entity_given : (a : List ℕ) → is_entity a ≡ true → 1 ≤ length a
entity_given a e = symbol_given a (both_true (is_symbol a) (not (is_among a (codes "LEAST" ∷ codes "GREATEST" ∷ codes "CLOCK" ∷ []))) e).0

pub entity_short : (a : List ℕ) → is_entity a ≡ true → length a ≤ 24
entity_short a e = symbol_short a (both_true (is_symbol a) (not (is_among a (codes "LEAST" ∷ codes "GREATEST" ∷ codes "CLOCK" ∷ []))) e).0
