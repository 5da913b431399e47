-- The ranges of DOs and the blocks of a unit are those that its ends tell.
use Rattle.std.proofs.Common.{◌≡◌, ℕ, zero, suc, ◌+◌, ◌-◌, ◌<◌, ◌≤◌, ◌⊎◌, inl, inr, Bool, true, false, cond, List, [], ◌∷◌, ◌++◌, length, drop, get_or, Option, Some, None, refl, sym, ap, ◌∙◌, arith}
use Rattle.std.specs.Prelude.{◌&&◌, ◌||◌, nat_lt}
use Rattle.std.specs.List.{list_any}
use Rattle.std.proofs.lemmas.Bool.{cases_lt}
use Rattle.std.proofs.lemmas.Bool.Decides.{nat_tests}
use Rattle.std.proofs.lemmas.List.{length-drop}
use Rattle.fort_syntax.specs.declared.name.Name.{Name}
use Rattle.fort_syntax.specs.declared.stmt.Stmt.{Stmt}
use Rattle.fort_syntax.specs.declared.stmt.Stmt.TheVariants.{Do, BlockIf, ElseIf, Else}
use Rattle.fort_syntax.specs.declared.unit.Line.{Line}
use Rattle.fort_syntax.specs.declared.unit.Unit.{Unit as Routine}
use Rattle.fort_model.specs.Flow.{target, next_branch, end_if, is_branch, is_close}
use Rattle.fort_model.specs.Ranges.{Range, DoRange, last_of_do, do_of, do_range, param_names, step_names, dos_from, dos, block_behind, block_of, blocks_from, blocks}
use Rattle.range_cover.specs.Covers.{AreEnds}
use Rattle.unit_points.proofs.Scanning.{within}
use Rattle.do_ranges.specs.Ends.{end_of, do_end, block_end, ends_from, do_ends, block_ends, range_behind, some_range}

-- ---- ends are points

pub ends_long : (f : ℕ → Stmt → ℕ) (pc : ℕ) (lines : List Line) → length (ends_from f pc lines) ≡ length lines
ends_long f pc [] = refl
ends_long f pc (line ∷ lines) = ap suc (ends_long f (suc pc) lines)

ends_below : (f : ℕ → Stmt → ℕ) (n pc : ℕ) (lines : List Line) → ((k : ℕ) (s : Stmt) → k < n → f k s < n) → pc + length lines ≤ n
    → (b : ℕ) → b < length lines → get_or (ends_from f pc lines) b 0 < n
ends_below f n pc [] below fits b lt = absurd (omega arith)
ends_below f n pc (line ∷ lines) below fits zero lt = below pc line.stmt (omega (arith, fits))
ends_below f n pc (line ∷ lines) below fits (suc b) lt = ends_below f n (suc pc) lines below (omega (arith, fits)) b (omega (arith, lt))

ends_are : (f : ℕ → Stmt → ℕ) (u : Routine) → ((k : ℕ) (s : Stmt) → k < length u.lines → f k s < length u.lines) → AreEnds (ends_from f 0 u.lines)
ends_are f u below b lt =
    let long = ends_long f 0 u.lines in
    let few : b < length u.lines = omega (arith, long, lt) in
    let less = ends_below f (length u.lines) 0 u.lines below (omega arith) b few in
    (let done : get_or (ends_from f 0 u.lines) b 0 < length (ends_from f 0 u.lines) = omega (arith, long, less) in done)

last_below : (pc q n : ℕ) → pc < n → end_of (cond (nat_lt pc q && nat_lt q n) (Some q) None) < n
last_below pc q n lt = by (nat_lt pc q) (nat_lt q n) refl
  where
    by : (a b : Bool) → nat_lt q n ≡ b → end_of (cond (a && b) (Some q) None) < n
    by true true e = grind (arith, nat_tests)
    by true false e = omega arith
    by false b e = omega arith

pub do_below : (u : Routine) (k : ℕ) (s : Stmt) → k < length u.lines → do_end u k s < length u.lines
do_below u k (Do label x first last step) lt = last_below k (target u.lines label) (length u.lines) lt
do_below u k s lt = omega arith

pub branch_within : (u : Routine) (k : ℕ) → k < length u.lines → next_branch u k ≤ length u.lines
branch_within u k lt =
    let few = within is_branch (drop (suc k) u.lines) 0 in
    let long = length-drop (suc k) u.lines in
    (let done : next_branch u k ≤ length u.lines = omega (arith, few, long) in done)

pub end_within : (u : Routine) (k : ℕ) → k < length u.lines → end_if u k ≤ length u.lines
end_within u k lt =
    let few = within is_close (drop (suc k) u.lines) 0 in
    let long = length-drop (suc k) u.lines in
    (let done : end_if u k ≤ length u.lines = omega (arith, few, long) in done)

less_by_one : (u : Routine) (k : ℕ) → k < length u.lines → next_branch u k - 1 < length u.lines
less_by_one u k lt = (let w = branch_within u k lt in omega (arith, w, lt))

pub block_below : (u : Routine) (k : ℕ) (s : Stmt) → k < length u.lines → block_end u k s < length u.lines
block_below u k (BlockIf e) lt = less_by_one u k lt
block_below u k (ElseIf e) lt = less_by_one u k lt
block_below u k Else lt = less_by_one u k lt
block_below u k s lt = omega arith

pub do_ends_are : (u : Routine) → AreEnds (do_ends u)
do_ends_are u = ends_are (do_end u) u (do_below u)

pub block_ends_are : (u : Routine) → AreEnds (block_ends u)
block_ends_are u = ends_are (block_end u) u (block_below u)

-- ---- ranges by their ends

-- a test passes no empty range
abbrev pub IsOfPoints : (Range → Bool) → Type 0
IsOfPoints test = (b end : ℕ) → end ≤ b → test (range_behind b end) ≡ false

module _ (test : Range → Bool) (empty : IsOfPoints test) (u : Routine) where
  no_range : (pc : ℕ) (r : Bool) → r ≡ (test (range_behind pc 0) || r)
  no_range pc r = sym (ap (λ b. b || r) (empty pc 0 (omega arith)))

  by_last : (pc : ℕ) (names : List Name) (rest : List DoRange) (o : Option ℕ)
      → list_any (λ d. test d.range) (do_range pc names o ++ rest) ≡ (test (range_behind pc (end_of o)) || list_any (λ d. test d.range) rest)
  by_last pc names rest None = no_range pc (list_any (λ d. test d.range) rest)
  by_last pc names rest (Some q) = refl

  one_do : (pc : ℕ) (s : Stmt) (rest : List DoRange) → list_any (λ d. test d.range) (do_of u pc s ++ rest) ≡ (test (range_behind pc (do_end u pc s)) || list_any (λ d. test d.range) rest)
  one_do pc (Do label x first last step) rest = by_last pc (x ∷ param_names first ++ param_names last ++ step_names step) rest (last_of_do u pc label)
  one_do pc s rest = no_range pc (list_any (λ d. test d.range) rest)

  dos_by_ends : (pc : ℕ) (lines : List Line) → list_any (λ d. test d.range) (dos_from u pc lines) ≡ some_range test pc (ends_from (do_end u) pc lines)
  dos_by_ends pc [] = refl
  dos_by_ends pc (line ∷ lines) =
      one_do pc line.stmt (dos_from u (suc pc) lines) ∙ ap (λ r. test (range_behind pc (do_end u pc line.stmt)) || r) (dos_by_ends (suc pc) lines)

  pub dos_are : list_any (λ d. test d.range) (dos u) ≡ some_range test 0 (do_ends u)
  dos_are = dos_by_ends 0 u.lines

  behind : (pc : ℕ) (rest : List Range) → list_any test (block_behind u pc ++ rest) ≡ (test (range_behind pc (next_branch u pc - 1)) || list_any test rest)
  behind pc rest = by (cases_lt (suc pc) (next_branch u pc))
    where
      by : (suc pc < next_branch u pc) ⊎ (next_branch u pc ≤ suc pc) → list_any test (block_behind u pc ++ rest) ≡ (test (range_behind pc (next_branch u pc - 1)) || list_any test rest)
      by (inl lt) =
          let is : nat_lt (suc pc) (next_branch u pc) ≡ true = grind (arith, nat_tests) in
          ap (λ b. list_any test (cond b (range_behind pc (next_branch u pc - 1) ∷ []) [] ++ rest)) is
      by (inr ge) =
          let is : nat_lt (suc pc) (next_branch u pc) ≡ false = grind (arith, nat_tests) in
          ap (λ b. list_any test (cond b (range_behind pc (next_branch u pc - 1) ∷ []) [] ++ rest)) is
          ∙ sym (ap (λ b. b || list_any test rest) (empty pc (next_branch u pc - 1) (omega (arith, ge))))

  one_block : (pc : ℕ) (s : Stmt) (rest : List Range) → list_any test (block_of u pc s ++ rest) ≡ (test (range_behind pc (block_end u pc s)) || list_any test rest)
  one_block pc (BlockIf e) rest = behind pc rest
  one_block pc (ElseIf e) rest = behind pc rest
  one_block pc Else rest = behind pc rest
  one_block pc s rest = no_range pc (list_any test rest)

  blocks_by_ends : (pc : ℕ) (lines : List Line) → list_any test (blocks_from u pc lines) ≡ some_range test pc (ends_from (block_end u) pc lines)
  blocks_by_ends pc [] = refl
  blocks_by_ends pc (line ∷ lines) =
      one_block pc line.stmt (blocks_from u (suc pc) lines) ∙ ap (λ r. test (range_behind pc (block_end u pc line.stmt)) || r) (blocks_by_ends (suc pc) lines)

  pub blocks_are : list_any test (blocks u) ≡ some_range test 0 (block_ends u)
  blocks_are = blocks_by_ends 0 u.lines
