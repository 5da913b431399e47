-- Called units that smash no kept name in COMMON: one more, and behind a statement.
use Rattle.std.proofs.Common.{◌≡◌, ℕ, ◌+◌, Bool, true, false, cond, List, [], ◌∷◌, ◌++◌, refl, sym, ap, subst, ◌∙◌, arith}
use Rattle.std.specs.Prelude.{◌||◌, nat_eq, nat_lt}
use Rattle.std.specs.List.{list_any}
use Rattle.std.proofs.lemmas.Bool.{eqb-true}
use Rattle.std.proofs.lemmas.Bool.Decides.{nat_tests}
use Rattle.fort_syntax.specs.declared.name.Name.{Name}
use Rattle.fort_syntax.specs.declared.stmt.Stmt.{Stmt}
use Rattle.fort_syntax.specs.declared.stmt.Stmt.TheVariants.{Do}
use Rattle.fort_syntax.specs.declared.unit.Unit.{Unit as Routine}
use Rattle.fort_model.specs.Program.{Program}
use Rattle.fort_model.specs.Ranges.{do_of}
use Rattle.fort_laws.proofs.Near.{known}
use Rattle.fort_laws.proofs.RulesKept.{neither}
use Rattle.name_tables.specs.Labels.{is_known, with_label}
use Rattle.smash_table.specs.Smashed.{shared_by}
use Rattle.smash_table.proofs.Seen.{known_more}
use Rattle.do_smashes.specs.Clear.{AreClear, is_do}
use Rattle.do_smashes.specs.Guards.{is_kept, kept_by, kept_to}

-- where no name passes a test, none passes a narrower one
none_of_fewer : (wide narrow : Name → Bool) → ((x : Name) → narrow x ≡ true → wide x ≡ true) → (xs : List Name) → list_any wide xs ≡ false → list_any narrow xs ≡ false
none_of_fewer wide narrow h [] e = refl
none_of_fewer wide narrow h (x ∷ xs) e =
    let parts = neither (wide x) (list_any wide xs) e in
    known (narrow x)
    (λ t. absurd (clash (wide x) (h x t) parts.0))
    (λ f. ap (λ (b : Bool). b || list_any narrow xs) f ∙ none_of_fewer wide narrow h xs parts.1)
  where
    clash : (b : Bool) → b ≡ true → b ≡ false → ⊥
    clash b t f = cc

earlier : (at n : ℕ) → nat_lt (at + 1) n ≡ true → nat_lt at n ≡ true
earlier at n h = grind (arith, nat_tests)

module _ (p : Program) (u : Routine) where
  pub none_clear : (table : List (Name × ℕ)) (at : ℕ) → AreClear p u table at []
  none_clear table at = record { clear = λ j k. absurd (cc) }

  one_more : (table : List (Name × ℕ)) (at i : ℕ) (ns : List ℕ) → AreClear p u table at ns → list_any (is_kept table at) (shared_by p u i) ≡ false → AreClear p u table at (ns ++ i ∷ [])
  one_more table at i ns h none = record { clear = λ j k. by j (nat_eq j i) refl (sym (known_more j i ns) ∙ k) }
    where
      by : (j : ℕ) (same : Bool) → nat_eq j i ≡ same → (same || is_known j ns) ≡ true → list_any (is_kept table at) (shared_by p u j) ≡ false
      by j true s k = ap (λ (n : ℕ). list_any (is_kept table at) (shared_by p u n)) (eqb-true j i s) ∙ none
      by j false s k = h.clear j k

  -- a unit that was found to smash no such name
  pub clear_with : (table : List (Name × ℕ)) (at i : ℕ) (ns : List ℕ) → AreClear p u table at ns → list_any (is_kept table at) (shared_by p u i) ≡ false → AreClear p u table at (with_label ns i)
  clear_with table at i ns h none = by (is_known i ns)
    where
      by : (there : Bool) → AreClear p u table at (cond there ns (ns ++ i ∷ []))
      by true = h
      by false = one_more table at i ns h none

  later : (table after : List (Name × ℕ)) (at : ℕ) (ns : List ℕ) → AreClear p u table at ns → ((x : Name) → kept_to after x ≡ kept_to table x) → AreClear p u after (at + 1) ns
  later table after at ns h same = record {
    clear = λ j k.
        none_of_fewer (is_kept table at) (is_kept after (at + 1)) (λ x t. earlier at (kept_to table x) (sym (ap (λ (n : ℕ). nat_lt (at + 1) n) (same x)) ∙ t)) (shared_by p u j) (h.clear j k);
  }

  -- behind a statement
  clear_behind : (s : Stmt) (table after : List (Name × ℕ)) (at : ℕ) (ns : List ℕ) → AreClear p u table at ns
      → ((x : Name) → kept_to after x ≡ kept_by (do_of u at s) x (kept_to table x)) → AreClear p u after (at + 1) (cond (is_do s) [] ns)
  clear_behind (Do label x first last step) table after at ns h told = none_clear after (at + 1)
  clear_behind s table after at ns h told = later table after at ns h told

  pub clear_behind_forgotten : (s : Stmt) (table after : List (Name × ℕ)) (at : ℕ) (ns left : List ℕ) → AreClear p u table at ns
      → ((x : Name) → kept_to after x ≡ kept_by (do_of u at s) x (kept_to table x)) → left ≡ cond (is_do s) [] ns → AreClear p u after (at + 1) left
  clear_behind_forgotten s table after at ns left h told is = subst (AreClear p u after (at + 1)) (sym is) (clear_behind s table after at ns h told)
