-- How paths begin and end.
use Rattle.std.proofs.Common.{◌≡◌, ℕ, zero, suc, ◌+◌, ◌<◌, ◌≤◌, List, [], ◌∷◌, Option, Some, None, length, slice_get, refl, sym, ◌∙◌, arith}
use Rattle.fort_notes.specs.Assertions.{Assertion}
use Rattle.fort_syntax.specs.declared.unit.DataName.{DataName}
use Rattle.fort_syntax.specs.declared.unit.Line.{Line}
use Rattle.fort_model.specs.Paths.{AtEnd, AtAssert, cut_in, cut_of}
use Rattle.fort_model.specs.Seen.{Named}
use Rattle.fort_model.specs.WalkCalls.{Sight}
use Rattle.path_cut.specs.declared.step.Step.{Step}
use Rattle.path_sizes.specs.Weights.{all_one}
use Rattle.weight_caps.specs.Capped.{capped}
use Rattle.weight_caps.specs.Loads.{with_added, with_tests}
use Rattle.weight_caps.specs.declared.loads.Load.{Load}
use Rattle.weight_path.specs.Noted.{fall_tested}
use Rattle.weight_tallies.specs.Tallied as t
use Rattle.weight_tallies.specs.Tallies as c

-- ---- cut points

pub cut_within : (xs : List Line) (k : ℕ) (a : Option Assertion) → k < length xs → cut_in (slice_get xs k) a ≡ cut_of a
cut_within [] k a lt = absurd (omega arith)
cut_within (x ∷ xs) zero a lt = refl
cut_within (x ∷ xs) (suc k) a lt = cut_within xs k a (omega arith)

pub cut_beyond : (xs : List Line) (k : ℕ) (a : Option Assertion) → length xs ≤ k → cut_in (slice_get xs k) a ≡ AtEnd
cut_beyond [] k a le = refl
cut_beyond (x ∷ xs) zero a le = absurd (omega arith)
cut_beyond (x ∷ xs) (suc k) a le = cut_beyond xs k a (omega arith)

-- ---- ends

fall_is : (clock : Option ℕ) (ns : List ℕ) (load : Load) → fall_tested clock (t.all ns) load ≡ (c.fall clock ns load).load
fall_is None ns load = refl
fall_is (Some past) ns load = refl

-- an ASSERT's terms and its clock were tested, and that the clock falls
pub at_assert : (w : Sight ℕ) (clock : Option ℕ) (now : Named ℕ) (a : Assertion) (terms parts : List ℕ) (n : ℕ) (load first second third : Load)
    → terms ≡ c.told w now a.terms → parts ≡ c.told w now a.clock
    → first ≡ with_tests load terms → second ≡ with_tests first parts → n ≡ t.all parts → third ≡ fall_tested clock n second
    → third ≡ (c.arrive w clock (AtAssert a) now load).load
at_assert w clock now a terms parts n load first second third e f k l m o =
    o
    ∙ ((λ i. fall_tested clock (m i) (l i))
    ∙ ((λ i. fall_tested clock (t.all (f i)) (with_tests (k i) (f i)))
    ∙ ((λ i. fall_tested clock (t.all (c.told w now a.clock)) (with_tests (with_tests load (e i)) (c.told w now a.clock)))
    ∙ fall_is clock (c.told w now a.clock) (with_tests (with_tests load (c.told w now a.terms)) (c.told w now a.clock)))))

-- ---- starts

-- the weight that each path begins with
pub entry_is : (w : Sight ℕ) (names : List DataName) (inputs : List ℕ) (count known sum all : ℕ) → names ≡ w.unit.names → inputs ≡ c.told w all_one (c.notes_here w).input
    → count ≡ capped (length names) → known ≡ capped (2 + count) → sum ≡ t.all inputs → all ≡ capped (known + sum) → all ≡ c.entry_weight w
entry_is w names inputs count known sum all e f k l m o =
    o ∙ ((λ i. capped (l i + m i)) ∙ ((λ i. capped (capped (2 + k i) + t.all (f i))) ∙ (λ i. capped (capped (2 + capped (length (e i))) + t.all (c.told w all_one (c.notes_here w).input)))))

-- a path begins at an ASSERT
pub assert_begun : (load new : Load) (entry terms clock known all from told parts : ℕ) → entry ≡ from → terms ≡ told → clock ≡ parts
    → known ≡ capped (entry + terms) → all ≡ capped (known + clock) → new ≡ with_added load all → new ≡ with_added load (t.both (t.both from told) parts)
assert_begun load new entry terms clock known all from told parts e f g k l m =
    m ∙ ((λ i. with_added load (l i)) ∙ ((λ i. with_added load (capped (k i + clock))) ∙ (λ i. with_added load (capped (capped (e i + f i) + g i)))))
