-- Terms of notes that fit a unit are worth the same, where the names that they may name stand for the same.
use Rattle.std.proofs.Common.{◌≡◌, Bool, true, false, ◌||◌, cond, List, [], ◌∷◌, ℕ, map, refl, sym, ap, ◌∙◌}
use Rattle.std.specs.List.{list_all}
use Rattle.std.specs.Prelude.{codes}
use Rattle.fort_syntax.specs.Names.{data_name, has_role}
use Rattle.formula.specs.Atoms.{same_bytes}
use Rattle.formula.specs.Tree.{Tree, num, truth, symbol, old, apply, Row, none, more}
use Rattle.formula.specs.declared.value.Value.{Value}
use Rattle.formula.specs.declared.value.Value.TheVariants.{Int}
use Rattle.formula.specs.Worth.{Function, used, worth_by, worths_by, function_worth}
use Rattle.fort_syntax.specs.declared.name.Name.{Name}
use Rattle.fort_syntax.specs.declared.unit.Role.{Role}
use Rattle.fort_syntax.specs.declared.unit.Unit.{Unit as Routine}
use Rattle.fort_model.specs.Correct.{bounds_of}
use Rattle.formula.specs.TermTests.{names_pass, row_names_pass}
use Rattle.fort_model.specs.Fitting.{may_name}
use Rattle.fort_model.specs.Processor.{Processor}
use Rattle.fort_model.specs.Seen.{Named}
use Rattle.fort_model.specs.Senses.{of_values, note, with_bounds}
use Rattle.fort_model.specs.Symbols.{Symbol, LeastInteger, GreatestInteger}
use Rattle.fort_laws.proofs.Near.{known}
use Rattle.fort_laws.proofs.Small.{both_parts}

module _ (fs : List Function) (now other_now entry other_entry : List ℕ → Value) (may_now may_entry : List ℕ → Bool)
    (h : (w : List ℕ) → may_now w ≡ true → now w ≡ other_now w) (k : (w : List ℕ) → may_entry w ≡ true → entry w ≡ other_entry w) where
  mutual
    fit_worth : (t : Tree) → names_pass may_now may_entry t ≡ true → worth_by (used fs) now entry t ≡ worth_by (used fs) other_now other_entry t
    fit_worth (num z) e = refl
    fit_worth (truth b) e = refl
    fit_worth (symbol w) e = h w e
    fit_worth (old w) e = k w e
    fit_worth (apply g row) e = ap (λ (vs : List Value). function_worth (used fs) g vs) (fit_worths row e)

    fit_worths : (row : Row) → row_names_pass may_now may_entry row ≡ true → worths_by (used fs) now entry row ≡ worths_by (used fs) other_now other_entry row
    fit_worths none e = refl
    fit_worths (more t rest) e =
        let b = both_parts (names_pass may_now may_entry t) (row_names_pass may_now may_entry rest) e in
        ap (λ (v : Value). v ∷ worths_by (used fs) now entry rest) (fit_worth t b.0) ∙ ap (λ (vs : List Value). worth_by (used fs) other_now other_entry t ∷ vs) (fit_worths rest b.1)

module _ (fs : List Function) (values : Symbol → Value) (p : Processor) (least : values LeastInteger ≡ Int p.least) (greatest : values GreatestInteger ≡ Int p.greatest) (u : Routine) (is : Role → Bool) (may_entry : List ℕ → Bool)
    (entry other_entry now other_now : Named Value) (h : (x : Name) → has_role is (data_name u x) ≡ true → now x ≡ other_now x) (k : (x : Name) → may_entry x ≡ true → entry x ≡ other_entry x) where
  bounds_same : (w : List ℕ) → may_name u is w ≡ true → with_bounds (of_values fs values) now w ≡ with_bounds (of_values fs (bounds_of p)) other_now w
  bounds_same w e = known (same_bytes (codes "LEAST") w)
      (λ t. ap (λ (b : Bool). cond b (values LeastInteger) (cond (same_bytes (codes "GREATEST") w) (values GreatestInteger) (now w))) t
      ∙ (least ∙ sym (ap (λ (b : Bool). cond b (Int p.least) (cond (same_bytes (codes "GREATEST") w) (Int p.greatest) (other_now w))) t)))
      (λ f. ap (λ (b : Bool). cond b (values LeastInteger) (cond (same_bytes (codes "GREATEST") w) (values GreatestInteger) (now w))) f
      ∙ (known (same_bytes (codes "GREATEST") w)
      (λ t. ap (λ (b : Bool). cond b (values GreatestInteger) (now w)) t ∙ (greatest ∙ sym (ap (λ (b : Bool). cond b (Int p.greatest) (other_now w)) t)))
      (λ g. ap (λ (b : Bool). cond b (values GreatestInteger) (now w)) g ∙ (h w (is_named f g) ∙ sym (ap (λ (b : Bool). cond b (Int p.greatest) (other_now w)) g)))
      ∙ sym (ap (λ (b : Bool). cond b (Int p.least) (cond (same_bytes (codes "GREATEST") w) (Int p.greatest) (other_now w))) f)))
    where
      is_named : same_bytes (codes "LEAST") w ≡ false → same_bytes (codes "GREATEST") w ≡ false → has_role is (data_name u w) ≡ true
      is_named f g =
          sym (ap (λ (b : Bool). b || has_role is (data_name u w)) (ap (λ (b : Bool). b || same_bytes (codes "GREATEST") w) f ∙ g)) ∙ e

  pub fit_notes : (ts : List Tree) → list_all (names_pass (may_name u is) may_entry) ts ≡ true
      → map (note (of_values fs values) entry now) ts ≡ map (note (of_values fs (bounds_of p)) other_entry other_now) ts
  fit_notes [] e = refl
  fit_notes (t ∷ ts) e =
      let b = both_parts (names_pass (may_name u is) may_entry t) (list_all (names_pass (may_name u is) may_entry) ts) e in
      ap (λ (v : Value). v ∷ map (note (of_values fs values) entry now) ts)
      (fit_worth fs (with_bounds (of_values fs values) now) (with_bounds (of_values fs (bounds_of p)) other_now) entry other_entry (may_name u is) may_entry bounds_same k t b.0)
      ∙ ap (λ (vs : List Value). note (of_values fs (bounds_of p)) other_entry other_now t ∷ vs) (fit_notes ts b.1)
