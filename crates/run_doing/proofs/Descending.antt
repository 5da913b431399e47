-- The DOs of one last statement stand the innermost first.
use Rattle.std.proofs.Common.{◌≡◌, ◌≢◌, ℕ, suc, ◌+◌, ◌<◌, ◌≤◌, true, false, cond, List, [], ◌∷◌, ◌++◌, length, get_or, set, slice_get, Some, refl, sym, ap, ◌∙◌, subst, arith}
use Rattle.std.specs.Prelude.{⊤, nat_lt}
use Rattle.std.proofs.lemmas.Bool.Decides.{nat_tests}
use Rattle.std.proofs.lemmas.List.{length-set, get_or-set_same, get_or-set_other}
use Rattle.fort_syntax.specs.declared.stmt.Stmt.{Stmt}
use Rattle.fort_syntax.specs.declared.unit.Line.{Line}
use Rattle.fort_model.specs.Flow.{Loop, around, loop_of, loops_from}
use Rattle.loop_tables.specs.Loops.{last_of}
use Rattle.run_doing.specs.Rounds.{overs}
use Rattle.run_doing.proofs.Each.{Each}
use Rattle.run_doing.proofs.Found.{Found, none, one, found, Stands}

-- DOs stand before a point, each before the one that is listed before it
abbrev pub Descend : ℕ → List Loop → Type 0
Descend n [] = ⊤
Descend n (d ∷ ds) = (d.at < n) × Descend d.at ds

weaker : (m n : ℕ) (ds : List Loop) → m ≤ n → Descend m ds → Descend n ds
weaker m n [] le h = tt
weaker m n (d ∷ ds) le h = (let p : d.at < m = h.0 in omega arith, h.1)

one_more : (all : List Line) (q i : ℕ) (s : Stmt) (ds : List Loop) → Found all q i s → Descend i ds → Descend (suc i) (loop_of all q i s ds)
one_more all q i s ds (none f never) h = subst (Descend (suc i)) (sym (f ds)) (weaker i (suc i) ds (omega arith) h)
one_more all q i s ds (one d at its f) h = subst (Descend (suc i)) (sym (f ds)) ((omega arith), subst (λ n. Descend n ds) (sym at) h)

descend_from : (all : List Line) (q : ℕ) (lines : List Line) (i n : ℕ) (ds : List Loop) → i + length lines ≡ n → Descend i ds → Descend n (loops_from all q i lines ds)
descend_from all q [] i n ds e h = weaker i n ds (omega arith) h
descend_from all q (line ∷ lines) i n ds e h =
    descend_from all q lines (suc i) n (loop_of all q i line.stmt ds) (omega arith) (one_more all q i line.stmt ds (found all q i line.stmt) h)

pub descend_at : (all : List Line) (q : ℕ) → Descend (length all) (loops_from all q 0 all [])
descend_at all q = descend_from all q all 0 (length all) [] (omega arith) tt

-- ---- those before one of them

lesser : (a b : ℕ) → a < b → nat_lt a b ≡ true
lesser a b h = grind (arith, nat_tests)

not_lesser : (a b : ℕ) → b ≤ a → nat_lt a b ≡ false
not_lesser a b h = grind (arith, nat_tests)

kept : (n : ℕ) (ds : List Loop) → Descend n ds → around n ds ≡ ds
kept n [] h = refl
kept n (d ∷ ds) h =
    let p : d.at < n = h.0 in
    ap (λ b. cond b (d ∷ around n ds) (around n ds)) (lesser d.at n p) ∙ ap (λ es. d ∷ es) (kept n ds (weaker d.at n ds (omega arith) h.1))

pub rest_descends : (before : List Loop) (n : ℕ) (own : Loop) (rest : List Loop) → Descend n (before ++ own ∷ rest) → (own.at < n) × Descend own.at rest
rest_descends [] n own rest h = h
rest_descends (b ∷ before) n own rest h =
    let r = rest_descends before b.at own rest h.1 in
    let p : own.at < b.at = r.0 in
    let q : b.at < n = h.0 in
    (omega arith, r.1)

-- those before one of them are the ones behind it
pub around_own : (before : List Loop) (n : ℕ) (own : Loop) (rest : List Loop) → Descend n (before ++ own ∷ rest) → around own.at (before ++ own ∷ rest) ≡ rest
around_own [] n own rest h =
    ap (λ b. cond b (own ∷ around own.at rest) (around own.at rest)) (not_lesser own.at own.at (omega arith)) ∙ kept own.at rest h.1
around_own (b ∷ before) n own rest h =
    let p : own.at < b.at = (rest_descends before b.at own rest h.1).0 in
    ap (λ c. cond c (b ∷ around own.at (before ++ own ∷ rest)) (around own.at (before ++ own ∷ rest))) (not_lesser b.at own.at (omega arith))
    ∙ around_own before b.at own rest h.1

-- ---- the places behind their own tests

pub overs_long : (k : ℕ) (ds : List Loop) (over : List ℕ) → length (overs k ds over) ≡ length over
overs_long k [] over = refl
overs_long k (d ∷ ds) over = overs_long (suc k) ds (set over d.at (suc k)) ∙ length-set over d.at (suc k)

not_low : (m n : ℕ) → m < n → n ≢ m
not_low m n h = λ e. omega arith

low : (k n : ℕ) (ds : List Loop) (over : List ℕ) → Descend n ds → get_or (overs k ds over) n 0 ≡ get_or over n 0
low k n [] over h = refl
low k n (d ∷ ds) over h =
    low (suc k) n ds (set over d.at (suc k)) (weaker d.at n ds (let p : d.at < n = h.0 in omega arith) h.1)
    ∙ get_or-set_other over d.at n (suc k) 0 (not_low d.at n h.0)

and_none : (k : ℕ) → suc k ≡ suc (k + 0)
and_none k = omega arith

and_next : (k n : ℕ) → suc (suc k + n) ≡ suc (k + suc n)
and_next k n = omega arith

pub own_place : (before : List Loop) (k : ℕ) (own : Loop) (rest : List Loop) (over : List ℕ) → Descend own.at rest → own.at < length over
    → get_or (overs k (before ++ own ∷ rest) over) own.at 0 ≡ suc (k + length before)
own_place [] k own rest over h lt =
    low (suc k) own.at rest (set over own.at (suc k)) h ∙ get_or-set_same over own.at (suc k) 0 lt ∙ and_none k
own_place (b ∷ before) k own rest over h lt =
    own_place before (suc k) own rest (set over b.at (suc k)) h (subst (λ n. own.at < n) (sym (length-set over b.at (suc k))) lt) ∙ and_next k (length before)

-- a DO of another last statement is left alone
parted : (all : List Line) (p q at : ℕ) (line : Line) (d : Loop) → p ≢ q → slice_get all at ≡ Some line → last_of all line.stmt ≡ Some p → Stands all q d → at ≢ d.at
parted all p q at line d apart e f s = λ same.
    let lines : Some line ≡ Some s.line = sym e ∙ ap (slice_get all) same ∙ s.there in
    let one : line ≡ s.line = cc in
    let ends : Some p ≡ Some q = sym f ∙ ap (λ (l : Line). last_of all l.stmt) one ∙ s.its.last in
    apart (cc)

pub other_place : (all : List Line) (p q at : ℕ) (line : Line) (ds : List Loop) (k : ℕ) (over : List ℕ) → p ≢ q → slice_get all at ≡ Some line
    → last_of all line.stmt ≡ Some p → Each (Stands all q) ds → get_or (overs k ds over) at 0 ≡ get_or over at 0
other_place all p q at line [] k over apart e f h = refl
other_place all p q at line (d ∷ ds) k over apart e f h =
    other_place all p q at line ds (suc k) (set over d.at (suc k)) apart e f h.1
    ∙ get_or-set_other over d.at at (suc k) 0 (parted all p q at line d apart e f h.0)
