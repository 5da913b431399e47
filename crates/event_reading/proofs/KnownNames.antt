-- Names by number.
use Rattle.std.proofs.Common.{◌≡◌, ℕ, zero, suc, ◌+◌, ◌-◌, ◌≤◌, ◌<◌, Option, Some, None, List, [], ◌∷◌, ◌++◌, length, slice_get, refl, ap, subst, arith}
use Rattle.std.specs.Prelude.{slice_index_or}
use Rattle.formula.specs.declared.definition.Heading.{Heading}
use Rattle.formula.specs.Headings.{with_next}
use Rattle.event_text.specs.TermText.{name_at}
use Rattle.event_reading.specs.Names.{heading_names}

there : (hs : List Heading) (j : ℕ) (h : Heading) → slice_get hs j ≡ Some h → slice_index_or (heading_names hs) j [] ≡ h.name
there [] j h e = absurd cc
there (g ∷ hs) zero h e = let same : g ≡ h = cc in ap (λ x. x.name) same
there (g ∷ hs) (suc j) h e = there hs j h e

before : (hs : List Heading) (next : Option Heading) (j : ℕ) (h : Heading) → slice_get hs j ≡ Some h → slice_get (with_next hs next) j ≡ Some h
before hs None j h e = e
before hs (Some g) j h e = front hs j e
  where
    front : (xs : List Heading) (i : ℕ) → slice_get xs i ≡ Some h → slice_get (xs ++ g ∷ []) i ≡ Some h
    front [] i k = absurd cc
    front (x ∷ xs) zero k = k
    front (x ∷ xs) (suc i) k = front xs i k

last : (hs : List Heading) (h : Heading) → slice_get (hs ++ h ∷ []) (length hs) ≡ Some h
last [] h = refl
last (g ∷ hs) h = last hs h

past : (hs : List Heading) (j : ℕ) → length hs ≤ j → slice_index_or (heading_names hs) j [] ≡ []
past [] j le = refl
past (h ∷ hs) zero le = absurd (omega arith)
past (h ∷ hs) (suc j) le = past hs j (omega arith)

length-next : (hs : List Heading) (h : Heading) → length (hs ++ h ∷ []) ≡ length hs + 1
length-next [] h = refl
length-next (g ∷ hs) h = let e = length-next hs h in omega arith

pub no_number : (names : List (List ℕ)) (k : ℕ) → k ≡ 0 → name_at names k ≡ []
no_number names zero e = refl
no_number names (suc k) e = absurd (omega arith)

pub earlier_number : (hs : List Heading) (next : Option Heading) (k : ℕ) (h : Heading) → 1 ≤ k → slice_get hs (k - 1) ≡ Some h → name_at (heading_names (with_next hs next)) k ≡ h.name
earlier_number hs next zero h le e = absurd (omega arith)
earlier_number hs next (suc k) h le e =
    let same : suc k - 1 ≡ k = omega arith in
    there (with_next hs next) k h (before hs next k h (subst (λ j. slice_get hs j ≡ Some h) same e))

pub next_number : (hs : List Heading) (h : Heading) (k : ℕ) → k ≡ length hs + 1 → name_at (heading_names (with_next hs (Some h))) k ≡ h.name
next_number hs h zero e = absurd (omega arith)
next_number hs h (suc k) e =
    let same : length hs ≡ k = omega arith in
    there (hs ++ h ∷ []) k h (subst (λ j. slice_get (hs ++ h ∷ []) j ≡ Some h) same (last hs h))

pub far_number : (hs : List Heading) (next : Option Heading) (k : ℕ) → 1 ≤ k → length (with_next hs next) < k → name_at (heading_names (with_next hs next)) k ≡ []
far_number hs next zero le far = absurd (omega arith)
far_number hs next (suc k) le far = past (with_next hs next) k (omega arith)

-- where k is behind all
pub behind_none : (hs : List Heading) (k : ℕ) → length hs < k → name_at (heading_names (with_next hs None)) k ≡ []
behind_none hs k far = far_number hs None k (omega arith) far

pub behind_next : (hs : List Heading) (h : Heading) (k : ℕ) → length hs + 1 < k → name_at (heading_names (with_next hs (Some h))) k ≡ []
behind_next hs h k far =
    let e = length-next hs h in
    far_number hs (Some h) k (omega arith) (omega arith)
