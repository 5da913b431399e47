-- Calls that stand at their places of a table.
use Rattle.std.proofs.Common.{◌≡◌, ℕ, zero, suc, ◌+◌, List, [], ◌∷◌, ◌++◌, length, get_or, take, Some, None, slice_get, refl, sym, ap, ◌∙◌, subst, arith}
use Rattle.std.proofs.lemmas.List.{length-append}
use Rattle.fort_syntax.specs.declared.stmt.Stmt.{Stmt}
use Rattle.fort_syntax.specs.declared.stmt.Stmt.TheVariants.{Subroutine, Function, Declare, Dimension, Common as CommonBlock, Assign, GoTo, Computed, ArithIf, LogicalIf', Do, Continue, Call, Return, End, BlockIf, ElseIf, Else, EndIf}
use Rattle.fort_syntax.specs.TreePatterns.{carried, row_of}
use Rattle.fort_syntax.specs.declared.unit.Line.{Line}
use Rattle.fort_syntax.specs.declared.unit.Unit.{Unit as Routine}
use Rattle.fort_model.specs.CallFacts.{sites_of_lines, sites_of_unit}
use Rattle.fort_model.specs.Calls.{CallSite, callee_of, sites_in, sites_of}
use Rattle.fort_model.specs.Sites.{calls_before, calls_in, calls_of, calls_of_lines}
use Rattle.run_shapes.specs.Coded.{calls_coded}
use Rattle.run_shapes.specs.Seen.{call_at}
use Rattle.run_shapes.specs.declared.unit_code.CallCode.{CallCode}
use Rattle.run_coding.proofs.Meant.{long, long_row}

-- a call in numbers
abbrev pub coded : List Routine → ℕ → CallSite → CallCode
coded units k s = record { number = suc k; callee = callee_of units s; actuals = length s.actuals }

-- from a place on some calls stand in a table
abbrev pub Stand : List Routine → List CallCode → ℕ → List CallSite → Type 0
Stand units calls k sites = (i : ℕ) (s : CallSite) → slice_get sites i ≡ Some s → call_at calls (k + i) ≡ coded units (k + i) s

get_left : {X : Type 0} (xs ys : List X) (i : ℕ) (x : X) → slice_get xs i ≡ Some x → slice_get (xs ++ ys) i ≡ Some x
get_left [] ys i x e = absurd (cc)
get_left (y ∷ xs) ys zero x e = e
get_left (y ∷ xs) ys (suc i) x e = get_left xs ys i x e

next : (n i : ℕ) → suc n + i ≡ suc (n + i)
next n i = omega arith

none_and : (i : ℕ) → 0 + i ≡ i
none_and i = omega arith

get_right : {X : Type 0} (xs ys : List X) (i : ℕ) (x : X) → slice_get ys i ≡ Some x → slice_get (xs ++ ys) (length xs + i) ≡ Some x
get_right [] ys i x e = ap (slice_get ys) (none_and i) ∙ e
get_right (y ∷ xs) ys i x e = ap (slice_get (y ∷ (xs ++ ys))) (next (length xs) i) ∙ get_right xs ys i x e

behind : (k n i : ℕ) → k + (n + i) ≡ (k + n) + i
behind k n i = omega arith

module _ (units : List Routine) (calls : List CallCode) where
  pub stand_left : (k : ℕ) (xs ys : List CallSite) → Stand units calls k (xs ++ ys) → Stand units calls k xs
  stand_left k xs ys h i s e = h i s (get_left xs ys i s e)

  pub stand_right : (k n : ℕ) (xs ys : List CallSite) → length xs ≡ n → Stand units calls k (xs ++ ys) → Stand units calls (k + n) ys
  stand_right k n xs ys long h i s e =
      subst (λ m. call_at calls m ≡ coded units m s) (behind k (length xs) i ∙ ap (λ m. (k + m) + i) long) (h (length xs + i) s (get_right xs ys i s e))

  and_none : (k : ℕ) → k + 0 ≡ k
  and_none k = omega arith

  pub stand_first : (k : ℕ) (s : CallSite) (ss : List CallSite) → Stand units calls k (s ∷ ss) → call_at calls k ≡ coded units k s
  stand_first k s ss h = subst (λ m. call_at calls m ≡ coded units m s) (and_none k) (h 0 s refl)

  and_one : (k : ℕ) → k + 1 ≡ suc k
  and_one k = omega arith

  pub stand_rest : (k : ℕ) (s : CallSite) (ss : List CallSite) → Stand units calls k (s ∷ ss) → Stand units calls (suc k) ss
  stand_rest k s ss h = subst (λ m. Stand units calls m ss) (and_one k) (stand_right k 1 (s ∷ []) ss refl h)

-- ---- the calls of a unit

listed : (units : List Routine) (n : ℕ) (sites : List CallSite) (i : ℕ) (s : CallSite) → slice_get sites i ≡ Some s
    → get_or (calls_coded units (suc n) sites) i (record { number = 0; callee = None; actuals = 0 }) ≡ coded units (n + i) s
listed units n [] i s e = absurd (cc)
listed units n (t ∷ sites) zero s e = let same : t ≡ s = cc in (λ i. coded units (none n i) (same i))
  where
    none : (n : ℕ) → n ≡ n + 0
    none n = omega arith
listed units n (t ∷ sites) (suc i) s e = listed units (suc n) sites i s e ∙ ap (λ m. coded units m s) (more n i)
  where
    more : (n i : ℕ) → suc n + i ≡ n + suc i
    more n i = omega arith

pub whole : (units : List Routine) (sites : List CallSite) → Stand units (calls_coded units 1 sites) 0 sites
whole units sites i s e = ap (call_at (calls_coded units 1 sites)) (none_and i) ∙ listed units 0 sites i s e

-- as many calls are listed as there are
pub stmt_long : (u : Routine) (s : Stmt) → length (sites_of u s) ≡ calls_of u s
stmt_long u (Assign l r) = both (sites_in u l) (sites_in u r) (calls_in u l) (calls_in u r) (long u l) (long u r)
  where
    both : (xs ys : List CallSite) (m n : ℕ) → length xs ≡ m → length ys ≡ n → length (xs ++ ys) ≡ m + n
    both xs ys m n p q = length-append xs ys ∙ (λ i. p i + q i)
stmt_long u (ArithIf e l m n) = long u e
stmt_long u (LogicalIf' e _ (carried b)) = length-append (sites_in u e) (sites_of u b) ∙ (λ i. long u e i + stmt_long u b i)
stmt_long u (Call f args) = ap suc (long_row u (row_of args)) ∙ one _
  where
    one : (n : ℕ) → suc n ≡ 1 + n
    one n = omega arith
stmt_long u (BlockIf e) = long u e
stmt_long u (ElseIf e) = long u e
stmt_long u (Subroutine f xs) = refl
stmt_long u (Function o f xs) = refl
stmt_long u (Declare o xs) = refl
stmt_long u (Dimension xs) = refl
stmt_long u (CommonBlock xs) = refl
stmt_long u (GoTo l) = refl
stmt_long u (Computed ls x) = refl
stmt_long u (Do label x first last step) = refl
stmt_long u Continue = refl
stmt_long u Return = refl
stmt_long u End = refl
stmt_long u Else = refl
stmt_long u EndIf = refl

-- those of the statement at a point
stand_at : (u : Routine) (units : List Routine) (calls : List CallCode) (lines : List Line) (k pc : ℕ) (line : Line) → slice_get lines pc ≡ Some line
    → Stand units calls k (sites_of_lines u lines) → Stand units calls (k + calls_of_lines u (take pc lines)) (sites_of u line.stmt)
stand_at u units calls [] k pc line e h = absurd (cc)
stand_at u units calls (l ∷ lines) k zero line e h =
    let same : l ≡ line = cc in
    subst (λ m. Stand units calls m (sites_of u line.stmt)) (none k)
    (subst (λ (z : Line). Stand units calls k (sites_of u z.stmt)) same (stand_left units calls k (sites_of u l.stmt) (sites_of_lines u lines) h))
  where
    none : (k : ℕ) → k ≡ k + 0
    none k = omega arith
stand_at u units calls (l ∷ lines) k (suc pc) line e h =
    subst (λ m. Stand units calls m (sites_of u line.stmt)) (sym (behind k (calls_of u l.stmt) (calls_of_lines u (take pc lines))))
    (stand_at u units calls lines (k + calls_of u l.stmt) pc line e
    (stand_right units calls k (calls_of u l.stmt) (sites_of u l.stmt) (sites_of_lines u lines) (stmt_long u l.stmt) h))

pub stand_there : (u : Routine) (units : List Routine) (pc : ℕ) (line : Line) → slice_get u.lines pc ≡ Some line
    → Stand units (calls_coded units 1 (sites_of_unit u)) (calls_before u pc) (sites_of u line.stmt)
stand_there u units pc line e =
    let calls = calls_coded units 1 (sites_of_unit u) in
    subst (λ m. Stand units calls m (sites_of u line.stmt)) (none_and (calls_before u pc)) (stand_at u units calls u.lines 0 pc line e (whole units (sites_of_unit u)))
