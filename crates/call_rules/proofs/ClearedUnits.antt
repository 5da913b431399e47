-- Called units whose blocks a caller is known to declare, and one more.
use Rattle.std.proofs.Common.{◌≡◌, ℕ, Bool, true, false, cond, List, [], ◌∷◌, ◌++◌, refl, sym, ap, ◌∙◌}
use Rattle.std.specs.Prelude.{◌||◌, nat_eq}
use Rattle.std.proofs.lemmas.Bool.{eqb-true}
use Rattle.fort_syntax.specs.declared.unit.Unit.{Unit as Routine}
use Rattle.name_tables.specs.Labels.{is_known, with_label}
use Rattle.call_rules.specs.Cleared.{AreCleared, unit_lacks}

swap : (a b c : Bool) → (a || (b || c)) ≡ (b || (a || c))
swap true true c = refl
swap true false c = refl
swap false b c = refl

-- what is known behind one more number is that number, or was known before
known_more : (j i : ℕ) (ns : List ℕ) → is_known j (ns ++ i ∷ []) ≡ (nat_eq j i || is_known j ns)
known_more j i [] = refl
known_more j i (n ∷ ns) = ap (λ b. nat_eq j n || b) (known_more j i ns) ∙ swap (nat_eq j n) (nat_eq j i) (is_known j ns)

one_more : (units : List Routine) (u : Routine) (i : ℕ) (ns : List ℕ) → AreCleared units u ns → unit_lacks units u i ≡ false
    → AreCleared units u (ns ++ i ∷ [])
one_more units u i ns h lacks = record { cleared = λ j known. by j (nat_eq j i) refl (sym (known_more j i ns) ∙ known) }
  where
    by : (j : ℕ) (same : Bool) → nat_eq j i ≡ same → (same || is_known j ns) ≡ true → unit_lacks units u j ≡ false
    by j true s k = ap (unit_lacks units u) (eqb-true j i s) ∙ lacks
    by j false s k = h.cleared j k

-- a unit that was found to declare no other block
pub cleared_with : (units : List Routine) (u : Routine) (i : ℕ) (ns : List ℕ) → AreCleared units u ns → unit_lacks units u i ≡ false
    → AreCleared units u (with_label ns i)
cleared_with units u i ns h lacks = by (is_known i ns)
  where
    by : (there : Bool) → AreCleared units u (cond there ns (ns ++ i ∷ []))
    by true = h
    by false = one_more units u i ns h lacks
