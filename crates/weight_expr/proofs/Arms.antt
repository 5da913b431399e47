-- What a name before a bracket comes to.
use Rattle.std.proofs.Common.{◌≡◌, ℕ, List, take, ap, ◌∙◌}
use Rattle.fort_syntax.specs.Names as names
use Rattle.fort_syntax.specs.declared.name.Name.{Name}
use Rattle.fort_model.specs.Seen.{Named}
use Rattle.fort_model.specs.WalkCalls.{Sight, Operand, Part, Computed}
use Rattle.weight_caps.specs.Loads.{with_tests}
use Rattle.weight_caps.specs.declared.loads.Load.{Load}
use Rattle.weight_expr.specs.Applied.{is_applied, meaning}
use Rattle.weight_expr.specs.declared.functions.Bracketed.TheVariants as code
use Rattle.weight_expr.specs.declared.functions.Function.{Function}
use Rattle.weight_tallies.specs.Tallied as t
use Rattle.weight_tallies.specs.Tallies as c

module _ (w : Sight ℕ) (now : Named ℕ) (a : Name) (vs : t.Tally (List ℕ)) (os : t.Tally (List (Operand ℕ))) (load : Load) where
  pub element_load : (o : names.Applied) (dims : ℕ) (is : List ℕ) (mid new : Load) → is_applied o (code.Element dims) → is ≡ (vs load).value → mid ≡ (vs load).load → new ≡ with_tests mid (take dims is)
      → new ≡ (c.apply_weight w now a o vs os load).load
  element_load (names.Element ds) dims is mid new e f g k = k ∙ (λ i. with_tests (g i) (take (e i) (f i)))
  element_load (names.BuiltIn j) dims is mid new e f g k = absurd e
  element_load names.Reference dims is mid new e f g k = absurd e

  pub element_value : (o : names.Applied) (dims : ℕ) (is : List ℕ) (x : Operand ℕ) → is_applied o (code.Element dims) → is ≡ (vs load).value → x ≡ Part (t.next (t.both (now a) (t.all is)))
      → x ≡ (c.apply_weight w now a o vs os load).value
  element_value (names.Element ds) dims is x e f k = k ∙ ap (λ js. Part (t.next (t.both (now a) (t.all js)))) f
  element_value (names.BuiltIn j) dims is x e f k = absurd e
  element_value names.Reference dims is x e f k = absurd e

  pub function_load : (o : names.Applied) (g : Function) (ns : List ℕ) (mid new : Load) → is_applied o (code.BuiltIn g) → ns ≡ (vs load).value → mid ≡ (vs load).load → new ≡ (c.intrinsic_weight (meaning g) ns mid).load
      → new ≡ (c.apply_weight w now a o vs os load).load
  function_load (names.BuiltIn j) g ns mid new e f h k = k ∙ (λ i. (c.intrinsic_weight (e i) (f i) (h i)).load)
  function_load (names.Element ds) g ns mid new e f h k = absurd e
  function_load names.Reference g ns mid new e f h k = absurd e

  pub function_value : (o : names.Applied) (g : Function) (ns : List ℕ) (mid : Load) (x : Operand ℕ) (n : ℕ) → is_applied o (code.BuiltIn g) → ns ≡ (vs load).value → mid ≡ (vs load).load → n ≡ (c.intrinsic_weight (meaning g) ns mid).value
      → x ≡ Computed n → x ≡ (c.apply_weight w now a o vs os load).value
  function_value (names.BuiltIn j) g ns mid x n e f h k l = l ∙ ap (λ (m : ℕ). Computed m) (k ∙ (λ i. (c.intrinsic_weight (e i) (f i) (h i)).value))
  function_value (names.Element ds) g ns mid x n e f h k l = absurd e
  function_value names.Reference g ns mid x n e f h k l = absurd e

  pub reference_load : (o : names.Applied) (xs : List (Operand ℕ)) (mid new : Load) → is_applied o code.Reference → xs ≡ (os load).value → mid ≡ (os load).load
      → new ≡ (c.called w (names.function w.program.units a) now xs mid).load → new ≡ (c.apply_weight w now a o vs os load).load
  reference_load names.Reference xs mid new e f g k = k ∙ (λ i. (c.called w (names.function w.program.units a) now (f i) (g i)).load)
  reference_load (names.Element ds) xs mid new e f g k = absurd e
  reference_load (names.BuiltIn j) xs mid new e f g k = absurd e

  pub reference_value : (o : names.Applied) (x : Operand ℕ) → is_applied o code.Reference → x ≡ Computed 1 → x ≡ (c.apply_weight w now a o vs os load).value
  reference_value names.Reference x e k = k
  reference_value (names.Element ds) x e k = absurd e
  reference_value (names.BuiltIn j) x e k = absurd e
