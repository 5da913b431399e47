-- Called units whose smashed COMMON entities are in a set, and one more.
use Rattle.std.proofs.Common.{◌≡◌, ℕ, Bool, true, false, cond, List, [], ◌∷◌, ◌++◌, refl, sym, ap, ◌∙◌}
use Rattle.std.specs.Prelude.{◌||◌, nat_eq}
use Rattle.std.proofs.lemmas.Bool.{eqb-true}
use Rattle.formula.specs.Atoms.{is_among, same_bytes}
use Rattle.fort_syntax.specs.declared.name.Name.{Name}
use Rattle.fort_syntax.specs.declared.unit.Unit.{Unit as Routine}
use Rattle.fort_model.specs.Program.{Program}
use Rattle.fort_laws.proofs.DeclaredNames.{among_named}
use Rattle.name_tables.specs.Labels.{is_known, with_label}
use Rattle.name_tables.specs.Sets.{with_names}
use Rattle.smash_laws.proofs.Tests.{left_holds, right_holds}
use Rattle.call_tests.proofs.Sets.{among_more}
use Rattle.smash_table.specs.Seen.{AreSeen}
use Rattle.smash_table.specs.Smashed.{shared_by}

-- names that are there already are not added
pub all_there : (set xs : List Name) → ((x : Name) → is_among x xs ≡ true → is_among x set ≡ true) → with_names set xs ≡ set
all_there set [] h = refl
all_there set (x ∷ xs) h =
    ap (λ (b : Bool). with_names (cond b set (set ++ x ∷ [])) xs) (h x (among_named (x ∷ xs) x (0, refl)))
    ∙ all_there set xs (λ y m. h y (right_holds (same_bytes y x) (is_among y xs) m))

swap : (a b c : Bool) → (a || (b || c)) ≡ (b || (a || c))
swap true true c = refl
swap true false c = refl
swap false b c = refl

-- what is known behind one more number is that number, or was known before
pub known_more : (j i : ℕ) (ns : List ℕ) → is_known j (ns ++ i ∷ []) ≡ (nat_eq j i || is_known j ns)
known_more j i [] = refl
known_more j i (n ∷ ns) = ap (λ b. nat_eq j n || b) (known_more j i ns) ∙ swap (nat_eq j n) (nat_eq j i) (is_known j ns)

module _ (p : Program) (u : Routine) where
  pub none_seen : (set : List Name) → AreSeen p u [] set
  none_seen set = record { seen = λ j k. absurd (cc) }

  -- a set that grows
  pub seen_in_more : (ns : List ℕ) (set more xs : List Name) → AreSeen p u ns set → more ≡ with_names set xs → AreSeen p u ns more
  seen_in_more ns set more xs h e = record {
    seen = λ j k x m.
        ap (is_among x) e
        ∙ (among_more x set xs ∙ left_holds (is_among x set) (is_among x xs) (h.seen j k x m));
  }

  -- one more unit, whose names were added
  pub seen_with : (ns more : List ℕ) (i : ℕ) (set after : List Name) → AreSeen p u ns set → more ≡ with_label ns i → after ≡ with_names set (shared_by p u i) → AreSeen p u more after
  seen_with ns more i set after h is e = record { seen = λ j k. by j (sym (ap (is_known j) is) ∙ k) }
    where
      new : (x : Name) → is_among x (shared_by p u i) ≡ true → is_among x after ≡ true
      new x m = ap (is_among x) e ∙ (among_more x set (shared_by p u i) ∙ right_holds (is_among x set) (is_among x (shared_by p u i)) m)

      old : (j : ℕ) → is_known j ns ≡ true → (x : Name) → is_among x (shared_by p u j) ≡ true → is_among x after ≡ true
      old j k x m = ap (is_among x) e ∙ (among_more x set (shared_by p u i) ∙ left_holds (is_among x set) (is_among x (shared_by p u i)) (h.seen j k x m))

      one : (j : ℕ) (same : Bool) → nat_eq j i ≡ same → (same || is_known j ns) ≡ true → (x : Name) → is_among x (shared_by p u j) ≡ true → is_among x after ≡ true
      one j true s k x m = new x (sym (ap (λ (n : ℕ). is_among x (shared_by p u n)) (eqb-true j i s)) ∙ m)
      one j false s k x m = old j k x m

      by : (j : ℕ) → is_known j (cond (is_known i ns) ns (ns ++ i ∷ [])) ≡ true → (x : Name) → is_among x (shared_by p u j) ≡ true → is_among x after ≡ true
      by j = there (is_known i ns)
        where
          there : (b : Bool) → is_known j (cond b ns (ns ++ i ∷ [])) ≡ true → (x : Name) → is_among x (shared_by p u j) ≡ true → is_among x after ≡ true
          there true k = old j k
          there false k = one j (nat_eq j i) refl (sym (known_more j i ns) ∙ k)
