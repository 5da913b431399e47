-- The ASSERT at a point.
use Rattle.std.proofs.Common.{◌≡◌, ◌==◌, option_map, slice_get, ℕ, suc, Bool, true, false, cond, Option, Some, None, List, [], ◌∷◌, map, refl}
use Rattle.formula.specs.declared.node.Node.{Node}
use Rattle.fort_model.specs.Program.{assertion_in}
use Rattle.fort_notes.specs.Assertions.{assertion_tree}
use Rattle.fort_notes.specs.declared.notes.AssertSpec.{AssertSpec}
use Rattle.path_ends.specs.Ends.{first_at}

pub first_tree : (nodes : List Node) (xs : List AssertSpec) (pc : ℕ) → assertion_in (map (assertion_tree nodes) xs) pc ≡ option_map (assertion_tree nodes) (first_at xs pc)
first_tree nodes [] pc = refl
first_tree nodes (x ∷ xs) pc = by (x.line == pc) (first_tree nodes xs pc)
  where
    by : (b : Bool) → assertion_in (map (assertion_tree nodes) xs) pc ≡ option_map (assertion_tree nodes) (first_at xs pc)
        → cond b (Some (assertion_tree nodes x)) (assertion_in (map (assertion_tree nodes) xs) pc) ≡ option_map (assertion_tree nodes) (cond b (Some x) (first_at xs pc))
    by true e = refl
    by false e = e

none_some : {X : Type 0} (a : X) → ◌≡◌ {A = Option X} None (Some a) → ⊥
none_some a e = cc

pub first_among : (xs : List AssertSpec) (pc : ℕ) (a : AssertSpec) → first_at xs pc ≡ Some a → (k : ℕ) × (slice_get xs k ≡ Some a)
first_among [] pc a e = absurd (none_some a e)
first_among (x ∷ xs) pc a e = by (x.line == pc) e (first_among xs pc a)
  where
    by : (b : Bool) → cond b (Some x) (first_at xs pc) ≡ Some a → (first_at xs pc ≡ Some a → (k : ℕ) × (slice_get xs k ≡ Some a)) → (k : ℕ) × (slice_get (x ∷ xs) k ≡ Some a)
    by true h f = (0, h)
    by false h f = let r = f h in (suc r.0, r.1)
