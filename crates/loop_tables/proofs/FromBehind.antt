-- DOs from behind.
use Rattle.std.proofs.Common.{◌≡◌, ◌≢◌, ℕ, zero, suc, ◌+◌, ◌<◌, ◌≤◌, Bool, true, false, cond, List, [], ◌∷◌, ◌++◌, length, drop, get_or, set, replicate, Option, Some, None, slice_get, refl, sym, ap, ◌∙◌, subst, arith, append_assoc}
use Rattle.std.specs.Prelude.{◌==◌, nat_lt}
use Rattle.std.proofs.lemmas.Bool.Decides.{nat_tests}
use Rattle.std.proofs.lemmas.List.{length-set, length-replicate, get_or-set_same, get_or-set_other, get_or-replicate, drop_all}
use Rattle.fort_syntax.specs.declared.stmt.Stmt.{Stmt}
use Rattle.fort_syntax.specs.declared.stmt.Stmt.TheVariants.{Subroutine, Function, Declare, Dimension, Common as CommonBlock, Assign, GoTo, Computed, ArithIf, LogicalIf', Do, Continue, Call, Return, End, BlockIf, ElseIf, Else, EndIf}
use Rattle.fort_syntax.specs.declared.unit.Line.{Line}
use Rattle.fort_syntax.specs.declared.unit.Unit.{Unit as Routine}
use Rattle.fort_model.specs.Flow.{Loop, around, loop_of, loops_from, target}
use Rattle.loop_tables.specs.Loops.{AreLoopsFrom, last_of, loops_told, with_line, with_loop}

-- the DO at a point, where its last statement stands at another
abbrev told_at : ℕ → ℕ → Stmt → Option ℕ → List Loop
told_at q at s None = []
told_at q at s (Some last) = cond (last == q) (with_loop at s []) []

behind_by : (b : Bool) (d : Loop) (ds : List Loop) → cond b (d ∷ ds) ds ≡ cond b (d ∷ []) [] ++ ds
behind_by true d ds = refl
behind_by false d ds = refl

module _ (all : List Line) (q i : ℕ) where
  stmt_found : (s : Stmt) (ds : List Loop) → loop_of all q i s ds ≡ told_at q i s (last_of all s) ++ ds
  stmt_found (Do label x first last step) ds = behind_by (target all label == q) (record { at = i; variable = x; last = last; step = step }) ds
  stmt_found (Subroutine f xs) ds = refl
  stmt_found (Function o f xs) ds = refl
  stmt_found (Declare o xs) ds = refl
  stmt_found (Dimension xs) ds = refl
  stmt_found (CommonBlock xs) ds = refl
  stmt_found (Assign l r) ds = refl
  stmt_found (GoTo l) ds = refl
  stmt_found (Computed ls x) ds = refl
  stmt_found (ArithIf e l m n) ds = refl
  stmt_found (LogicalIf' e _ s) ds = refl
  stmt_found Continue ds = refl
  stmt_found (Call f xs) ds = refl
  stmt_found Return ds = refl
  stmt_found End ds = refl
  stmt_found (BlockIf e) ds = refl
  stmt_found (ElseIf e) ds = refl
  stmt_found Else ds = refl
  stmt_found EndIf ds = refl

loop_joins : (at : ℕ) (s : Stmt) (ds es : List Loop) → with_loop at s (ds ++ es) ≡ with_loop at s ds ++ es
loop_joins at (Do label x first last step) ds es = refl
loop_joins at (Subroutine f xs) ds es = refl
loop_joins at (Function o f xs) ds es = refl
loop_joins at (Declare o xs) ds es = refl
loop_joins at (Dimension xs) ds es = refl
loop_joins at (CommonBlock xs) ds es = refl
loop_joins at (Assign l r) ds es = refl
loop_joins at (GoTo l) ds es = refl
loop_joins at (Computed ls x) ds es = refl
loop_joins at (ArithIf e l m n) ds es = refl
loop_joins at (LogicalIf' e _ s) ds es = refl
loop_joins at Continue ds es = refl
loop_joins at (Call f xs) ds es = refl
loop_joins at Return ds es = refl
loop_joins at End ds es = refl
loop_joins at (BlockIf e) ds es = refl
loop_joins at (ElseIf e) ds es = refl
loop_joins at Else ds es = refl
loop_joins at EndIf ds es = refl

no_more : {A : Type 0} (es : List A) → es ≡ es ++ []
no_more [] = refl
no_more (e ∷ es) = ap (λ fs. e ∷ fs) (no_more es)

from_behind : (all : List Line) (q : ℕ) (lines : List Line) (i : ℕ) (ds : List Loop) → loops_from all q i lines ds ≡ loops_from all q i lines [] ++ ds
from_behind all q [] i ds = refl
from_behind all q (line ∷ lines) i ds =
    from_behind all q lines (suc i) (loop_of all q i line.stmt ds)
    ∙ (ap (λ es. loops_from all q (suc i) lines [] ++ es) (stmt_found all q i line.stmt ds)
    ∙ (sym (append_assoc (loops_from all q (suc i) lines []) (told_at q i line.stmt (last_of all line.stmt)) ds)
    ∙ ap (λ es. es ++ ds)
    (ap (λ es. loops_from all q (suc i) lines [] ++ es) (no_more (told_at q i line.stmt (last_of all line.stmt)) ∙ sym (stmt_found all q i line.stmt []))
    ∙ sym (from_behind all q lines (suc i) (loop_of all q i line.stmt [])))))

drop_at : {A : Type 0} (xs : List A) (i : ℕ) (x : A) → slice_get xs i ≡ Some x → drop i xs ≡ x ∷ drop (suc i) xs
drop_at [] i x e = absurd cc
drop_at (y ∷ ys) zero x e = let same : y ≡ x = cc in ap (λ z. z ∷ ys) same
drop_at (y ∷ ys) (suc i) x e = drop_at ys i x e

-- what a statement puts behind those after it
one_taken : (u : Routine) (at q : ℕ) (line : Line) (o : Option ℕ) → slice_get u.lines at ≡ Some line → last_of u.lines line.stmt ≡ o
    → loops_from u.lines q at (drop at u.lines) [] ≡ loops_from u.lines q (suc at) (drop (suc at) u.lines) [] ++ told_at q at line.stmt o
one_taken u at q line o e f =
    ap (λ ls. loops_from u.lines q at ls []) (drop_at u.lines at line e)
    ∙ (from_behind u.lines q (drop (suc at) u.lines) (suc at) (loop_of u.lines q at line.stmt [])
    ∙ ap (λ es. loops_from u.lines q (suc at) (drop (suc at) u.lines) [] ++ es) (stmt_found u.lines q at line.stmt [] ∙ (sym (no_more (told_at q at line.stmt (last_of u.lines line.stmt))) ∙ ap (told_at q at line.stmt) f)))

pub none_taken : (u : Routine) (at : ℕ) (line : Line) (table : List (List ℕ)) → slice_get u.lines at ≡ Some line → last_of u.lines line.stmt ≡ None
    → AreLoopsFrom u (suc at) table → AreLoopsFrom u at table
none_taken u at line table e f h = record {
  long = h.long;
  told = λ q k. h.told q k ∙ (no_more (loops_from u.lines q (suc at) (drop (suc at) u.lines) []) ∙ sym (one_taken u at q line None e f));
}

line_joins : (at : ℕ) (o : Option Line) (ds es : List Loop) → with_line at o (ds ++ es) ≡ with_line at o ds ++ es
line_joins at None ds es = refl
line_joins at (Some line) ds es = loop_joins at line.stmt ds es

pub told_more : (lines : List Line) (points : List ℕ) (at : ℕ) → loops_told lines (points ++ at ∷ []) ≡ loops_told lines points ++ with_line at (slice_get lines at) []
told_more lines [] at = refl
told_more lines (p ∷ points) at =
    ap (with_line p (slice_get lines p)) (told_more lines points at) ∙ line_joins p (slice_get lines p) (loops_told lines points) (with_line at (slice_get lines at) [])

same_point : (a b : ℕ) → (a == b) ≡ true → a ≡ b
same_point a b e = grind (arith, nat_tests)

other_point : (a b : ℕ) → (a == b) ≡ false → b ≢ a
other_point a b e = λ f. grind (arith, nat_tests)

pub loop_taken : (u : Routine) (at : ℕ) (line : Line) (last : ℕ) (table new : List (List ℕ)) → slice_get u.lines at ≡ Some line → last_of u.lines line.stmt ≡ Some last → last ≤ length u.lines
    → new ≡ set table last (get_or table last [] ++ at ∷ []) → AreLoopsFrom u (suc at) table → AreLoopsFrom u at new
loop_taken u at line last table new e found inside is h =
    let T : List (List ℕ) → Type 0 = AreLoopsFrom u at in
    subst T (sym is)
    (record {
      long = length-set table last (get_or table last [] ++ at ∷ []) ∙ h.long;
      told = λ q k. by (last == q) q refl k ∙ sym (one_taken u at q line (Some last) e found);
    })
  where
    by : (b : Bool) → (q : ℕ) → (last == q) ≡ b → q ≤ length u.lines
        → loops_told u.lines (get_or (set table last (get_or table last [] ++ at ∷ [])) q []) ≡ loops_from u.lines q (suc at) (drop (suc at) u.lines) [] ++ cond b (with_loop at line.stmt []) []
    by true q same k =
        let at_q : last ≡ q = same_point last q same in
        let long = h.long in
        let within : last < length table = omega arith in
        ap (λ r. loops_told u.lines (get_or (set table last (get_or table last [] ++ at ∷ [])) r [])) (sym at_q)
        ∙ (ap (loops_told u.lines) (get_or-set_same table last (get_or table last [] ++ at ∷ []) [] within)
        ∙ (told_more u.lines (get_or table last []) at
        ∙ (ap (λ o. loops_told u.lines (get_or table last []) ++ with_line at o []) e
        ∙ ap (λ es. es ++ with_loop at line.stmt []) (ap (λ r. loops_told u.lines (get_or table r [])) at_q ∙ h.told q k))))
    by false q other k =
        ap (loops_told u.lines) (get_or-set_other table last q (get_or table last [] ++ at ∷ []) [] (other_point last q other))
        ∙ (h.told q k ∙ no_more (loops_from u.lines q (suc at) (drop (suc at) u.lines) []))

drop_whole : {A : Type 0} (xs : List A) → drop (length xs) xs ≡ []
drop_whole [] = refl
drop_whole (x ∷ xs) = drop_whole xs

-- no statement is taken yet
pub none_yet : (u : Routine) (n : ℕ) (table : List (List ℕ)) → n ≡ length u.lines → table ≡ replicate (n + 1) [] → AreLoopsFrom u n table
none_yet u n table e f =
    let T : List (List ℕ) → Type 0 = AreLoopsFrom u n in
    let one : n + 1 ≡ suc (length u.lines) = omega arith in
    subst T (sym f)
    (record {
      long = length-replicate (n + 1) [] ∙ one;
      told = λ q k.
          let inside : q < n + 1 = omega arith in
          ap (loops_told u.lines) (get_or-replicate (n + 1) q [] [] inside) ∙ sym (ap (λ m. loops_from u.lines q n (drop m u.lines) []) e ∙ ap (λ ls. loops_from u.lines q n ls []) (drop_whole u.lines));
    })

-- ---- DOs before a point

line_around : (point at : ℕ) (o : Option Line) (ds : List Loop) → around point (with_line at o ds) ≡ cond (nat_lt at point) (with_line at o (around point ds)) (around point ds)
line_around point at None ds = by (nat_lt at point)
  where
    by : (b : Bool) → around point ds ≡ cond b (around point ds) (around point ds)
    by true = refl
    by false = refl
line_around point at (Some line) ds = on line.stmt
  where
    by : (b : Bool) → around point ds ≡ cond b (around point ds) (around point ds)
    by true = refl
    by false = refl

    on : (s : Stmt) → around point (with_loop at s ds) ≡ cond (nat_lt at point) (with_loop at s (around point ds)) (around point ds)
    on (Do label x first last step) = refl
    on (Subroutine f xs) = by (nat_lt at point)
    on (Function o f xs) = by (nat_lt at point)
    on (Declare o xs) = by (nat_lt at point)
    on (Dimension xs) = by (nat_lt at point)
    on (CommonBlock xs) = by (nat_lt at point)
    on (Assign l r) = by (nat_lt at point)
    on (GoTo l) = by (nat_lt at point)
    on (Computed ls x) = by (nat_lt at point)
    on (ArithIf e l m n) = by (nat_lt at point)
    on (LogicalIf' e _ s) = by (nat_lt at point)
    on Continue = by (nat_lt at point)
    on (Call f xs) = by (nat_lt at point)
    on Return = by (nat_lt at point)
    on End = by (nat_lt at point)
    on (BlockIf e) = by (nat_lt at point)
    on (ElseIf e) = by (nat_lt at point)
    on Else = by (nat_lt at point)
    on EndIf = by (nat_lt at point)

-- the points before another, in order
abbrev pub before : ℕ → List ℕ → List ℕ
before point [] = []
before point (at ∷ points) = cond (nat_lt at point) (at ∷ before point points) (before point points)

told_cond : (lines : List Line) (b : Bool) (at : ℕ) (ps qs : List ℕ) → loops_told lines (cond b (at ∷ ps) qs) ≡ cond b (with_line at (slice_get lines at) (loops_told lines ps)) (loops_told lines qs)
told_cond lines true at ps qs = refl
told_cond lines false at ps qs = refl

told_before : (lines : List Line) (point : ℕ) (points : List ℕ) → loops_told lines (before point points) ≡ around point (loops_told lines points)
told_before lines point [] = refl
told_before lines point (at ∷ points) =
    told_cond lines (nat_lt at point) at (before point points) (before point points)
    ∙ (ap (λ ds. cond (nat_lt at point) (with_line at (slice_get lines at) ds) ds) (told_before lines point points)
    ∙ sym (line_around point at (slice_get lines at) (loops_told lines points)))

pub around_told : (lines : List Line) (point : ℕ) (points found : List ℕ) → found ≡ before point points → loops_told lines found ≡ around point (loops_told lines points)
around_told lines point points found e = ap (loops_told lines) e ∙ told_before lines point points

pub at_line : (lines : List Line) (at : ℕ) → at < length lines → (line : Line) × (slice_get lines at ≡ Some line)
at_line [] at h = absurd (omega arith)
at_line (line ∷ lines) zero h = (line, refl)
at_line (line ∷ lines) (suc at) h = at_line lines at (omega arith)

pub is_none : (o : Option ℕ) → ((p : ℕ) → o ≡ Some p → ⊥) → o ≡ None
is_none None h = refl
is_none (Some p) h = absurd (h p refl)

set_twice : {A : Type 0} (xs : List A) (k : ℕ) (a b : A) → set (set xs k a) k b ≡ set xs k b
set_twice [] k a b = refl
set_twice (x ∷ xs) zero a b = refl
set_twice (x ∷ xs) (suc k) a b = ap (λ ys. x ∷ ys) (set_twice xs k a b)

pub put_so : (old mid : List (List ℕ)) (place point : ℕ) (points more list : List ℕ) → mid ≡ set old place [] → points ≡ get_or old place [] → more ≡ points ++ point ∷ [] → list ≡ more
    → set mid place list ≡ set old place (get_or old place [] ++ point ∷ [])
put_so old mid place point points more list e f g h =
    ap (λ xs. set xs place list) e ∙ (set_twice old place [] list ∙ ap (set old place) (h ∙ (g ∙ ap (λ ps. ps ++ point ∷ []) f)))

nothing_left : (point : ℕ) (points : List ℕ) (k : ℕ) → length points ≤ k → before point (drop k points) ≡ []
nothing_left point points k h = ap (before point) (drop_all k points h)

pub all_before : (point : ℕ) (points found : List ℕ) (k : ℕ) → length points ≤ k → found ++ before point (drop k points) ≡ before point points → found ≡ before point points
all_before point points found k h e = no_more found ∙ (sym (ap (λ ps. found ++ ps) (nothing_left point points k h)) ∙ e)
