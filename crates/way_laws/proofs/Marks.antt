-- The marks of a graph stand at the cut points of its unit.
use Rattle.std.proofs.Common.{◌≡◌, ℕ, zero, suc, Bool, true, false, cond, Option, Some, None, List, [], ◌∷◌, map, length, slice_get, set, replicate, refl, sym, ap, ◌∙◌, arith}
use Rattle.std.specs.Prelude.{◌==◌}
use Rattle.std.proofs.lemmas.Bool.Decides.{nat_tests}
use Rattle.fort_syntax.specs.declared.dialect.Dialect.{Dialect}
use Rattle.fort_syntax.specs.declared.unit.Line.{Line}
use Rattle.fort_syntax.specs.declared.unit.Unit.{Unit as Routine}
use Rattle.fort_model.specs.Graphs.{IsGraphOf}
use Rattle.fort_model.specs.Paths.{Cut, NoCut, AtEnd, AtAssert, cut_in, cut_at}
use Rattle.fort_model.specs.Program.{assertion_in, assertion_at}
use Rattle.fort_model.specs.declared.graph.Graph.{Graph}
use Rattle.fort_notes.specs.Assertions.{Assertion, Notes}
use Rattle.path_cut.specs.Ways.{is_marked, marked, marks_of}

abbrev pub is_cut : Cut → Bool
is_cut NoCut = false
is_cut AtEnd = true
is_cut (AtAssert a) = true

abbrev either : Bool → Bool → Bool
either a b = cond a true b

either_none : (a : Bool) → a ≡ either a false
either_none true = refl
either_none false = refl

either_more : (a b c : Bool) → either (either a b) c ≡ either a (either b c)
either_more true b c = refl
either_more false b c = refl

either_true : (a : Bool) → true ≡ either a true
either_true true = refl
either_true false = refl

itself : (zero == zero) ≡ true
itself = grind (arith, nat_tests)

not_first : (n : ℕ) → (zero == suc n) ≡ false
not_first n = grind (arith, nat_tests)

not_later : (n : ℕ) → (suc n == zero) ≡ false
not_later n = grind (arith, nat_tests)

same_test : (a b : ℕ) → (suc a == suc b) ≡ (a == b)
same_test a b = grind (arith, nat_tests)

set_read : (ms : List Bool) (c q : ℕ) → is_marked (set ms c true) q ≡ either (is_marked ms q) (c == q)
set_read [] zero q = refl
set_read [] (suc c) q = refl
set_read (m ∷ ms) zero zero = either_true m ∙ ap (either m) (sym itself)
set_read (m ∷ ms) zero (suc q) = either_none (is_marked ms q) ∙ ap (either (is_marked ms q)) (sym (not_first q))
set_read (m ∷ ms) (suc c) zero = either_none m ∙ ap (either m) (sym (not_later c))
set_read (m ∷ ms) (suc c) (suc q) = set_read ms c q ∙ ap (either (is_marked ms q)) (sym (same_test c q))

abbrev has_point : List ℕ → ℕ → Bool
has_point [] q = false
has_point (c ∷ cs) q = either (c == q) (has_point cs q)

marked_read : (cs : List ℕ) (ms : List Bool) (q : ℕ) → is_marked (marked ms cs) q ≡ either (is_marked ms q) (has_point cs q)
marked_read [] ms q = either_none (is_marked ms q)
marked_read (c ∷ cs) ms q =
    marked_read cs (set ms c true) q ∙ ap (λ b. either b (has_point cs q)) (set_read ms c q) ∙ either_more (is_marked ms q) (c == q) (has_point cs q)

abbrev missing : Option Line → Bool
missing None = true
missing (Some line) = false

blank_read : (lines : List Line) (q : ℕ) → is_marked (replicate (length lines) false) q ≡ missing (slice_get lines q)
blank_read [] q = refl
blank_read (line ∷ lines) zero = refl
blank_read (line ∷ lines) (suc q) = blank_read lines q

abbrev found : Option Assertion → Bool
found None = false
found (Some a) = true

found_by : (b : Bool) (a : Assertion) (r : Bool) (o : Option Assertion) → r ≡ found o → either b r ≡ found (cond b (Some a) o)
found_by true a r o e = refl
found_by false a r o e = e

point_found : (asserts : List Assertion) (q : ℕ) → has_point (map (λ (a : Assertion). a.point) asserts) q ≡ found (assertion_in asserts q)
point_found [] q = refl
point_found (a ∷ asserts) q = found_by (a.point == q) a (has_point (map (λ (a : Assertion). a.point) asserts) q) (assertion_in asserts q) (point_found asserts q)

cut_by : (o : Option Line) (a : Option Assertion) → either (missing o) (found a) ≡ is_cut (cut_in o a)
cut_by None a = refl
cut_by (Some line) None = refl
cut_by (Some line) (Some a) = refl

pub marks_agree : (dialect : Dialect) (u : Routine) (notes : Notes) (graph : Graph) → IsGraphOf dialect u notes graph → (q : ℕ) → is_marked (marks_of graph) q ≡ is_cut (cut_at u notes q)
marks_agree dialect u notes graph h q =
    marked_read graph.cuts (replicate graph.size false) q
    ∙ (λ i. either (is_marked (replicate (h.size i) false) q) (has_point (h.cuts i) q))
    ∙ (λ i. either (blank_read u.lines q i) (point_found notes.asserts q i))
    ∙ cut_by (slice_get u.lines q) (assertion_at notes q)

-- at a point without a mark no path ends
pub unmarked_goes_on : (c : Cut) → is_cut c ≡ false → c ≡ NoCut
unmarked_goes_on NoCut e = refl
unmarked_goes_on AtEnd e = absurd cc
unmarked_goes_on (AtAssert a) e = absurd cc
