-- Tables keep the names of DOs, one DO after the other.
use Rattle.std.proofs.Common.{◌≡◌, ℕ, zero, suc, ◌+◌, ◌<◌, Bool, true, false, ◌||◌, List, [], ◌∷◌, ◌++◌, length, take, get_or, refl, sym, ap, ◌∙◌, subst, arith}
use Rattle.std.specs.Prelude.{max}
use Rattle.formula.specs.Atoms.{is_among}
use Rattle.fort_syntax.specs.declared.name.Name.{Name}
use Rattle.fort_syntax.specs.declared.unit.Line.{Line}
use Rattle.fort_syntax.specs.declared.unit.Unit.{Unit as Routine}
use Rattle.fort_model.specs.Ranges.{DoRange, do_of, dos_from}
use Rattle.call_tests.proofs.Sets.{among_both}
use Rattle.do_smashes.specs.Guards.{kept_to, further, Keeps, kept_by, AreKept}

-- ---- names

twice : (had end : ℕ) → max (max had end) end ≡ max had end
twice had end = omega arith

joined : (b c : Bool) (end had : ℕ) → further c end (further b end had) ≡ further (b || c) end had
joined true true end had = twice had end
joined true false end had = refl
joined false c end had = refl

-- one list of names after another
pub keeps_both : (first second third : List (Name × ℕ)) (xs ys : List Name) (end : ℕ) → Keeps first second xs end → Keeps second third ys end
    → Keeps first third (xs ++ ys) end
keeps_both first second third xs ys end f g x =
    g x ∙ ap (further (is_among x ys) end) (f x) ∙ joined (is_among x xs) (is_among x ys) end (kept_to first x)
    ∙ ap (λ (b : Bool). further b end (kept_to first x)) (sym (among_both x xs ys))

pub keeps_three : (first second third fourth : List (Name × ℕ)) (xs ys zs : List Name) (end : ℕ) → Keeps first second xs end → Keeps second third ys end
    → Keeps third fourth zs end → Keeps first fourth (xs ++ ys ++ zs) end
keeps_three first second third fourth xs ys zs end f g h =
    keeps_both first third fourth (xs ++ ys) zs end (keeps_both first second third xs ys end f g) h

pub keeps_first : (first second third : List (Name × ℕ)) (x : Name) (ys : List Name) (end : ℕ) → Keeps first second (x ∷ []) end → Keeps second third ys end
    → Keeps first third (x ∷ ys) end
keeps_first first second third x ys end f g = keeps_both first second third (x ∷ []) ys end f g

-- ---- DOs

-- DOs in two lists
pub kept_by_both : (xs ys : List DoRange) (x : Name) (had : ℕ) → kept_by (xs ++ ys) x had ≡ kept_by ys x (kept_by xs x had)
kept_by_both [] ys x had = refl
kept_by_both (d ∷ xs) ys x had = kept_by_both xs ys x (further (is_among x d.names) (suc d.range.last) had)

-- one statement more
one_more : (u : Routine) (pc at : ℕ) (lines : List Line) (line : Line) (x : Name) (had : ℕ) → at < length lines → line ≡ get_or lines at line
    → kept_by (dos_from u pc (take (at + 1) lines)) x had ≡ kept_by (do_of u (pc + at) line.stmt) x (kept_by (dos_from u pc (take at lines)) x had)
one_more u pc at [] line x had inside is = absurd (omega arith)
one_more u pc zero (l ∷ lines) line x had inside is =
    kept_by_both (do_of u pc l.stmt) [] x had ∙ ap (λ (k : Line). kept_by (do_of u pc k.stmt) x had) (sym is) ∙ ap (λ (n : ℕ). kept_by (do_of u n line.stmt) x had) none
  where
    none : pc ≡ pc + 0
    none = omega arith
one_more u pc (suc at) (l ∷ lines) line x had inside is =
    ap (λ (n : ℕ). kept_by (dos_from u pc (take n (l ∷ lines))) x had) longer
    ∙ kept_by_both (do_of u pc l.stmt) (dos_from u (suc pc) (take (at + 1) lines)) x had
    ∙ one_more u (suc pc) at lines line x (kept_by (do_of u pc l.stmt) x had) (omega (arith, inside)) is
    ∙ ap (λ (n : ℕ). kept_by (do_of u n line.stmt) x (kept_by (dos_from u (suc pc) (take at lines)) x (kept_by (do_of u pc l.stmt) x had))) next
    ∙ ap (kept_by (do_of u (pc + suc at) line.stmt) x) (sym (kept_by_both (do_of u pc l.stmt) (dos_from u (suc pc) (take at lines)) x had))
  where
    next : suc pc + at ≡ pc + suc at
    next = omega arith

    longer : suc at + 1 ≡ suc (at + 1)
    longer = omega arith

pub kept_next : (u : Routine) (at : ℕ) (line : Line) (old new : List (Name × ℕ)) → at < length u.lines → line ≡ get_or u.lines at line → AreKept u at old
    → ((x : Name) → kept_to new x ≡ kept_by (do_of u at line.stmt) x (kept_to old x)) → AreKept u (at + 1) new
kept_next u at line old new inside is kept told x =
    told x ∙ ap (kept_by (do_of u at line.stmt) x) (kept x) ∙ ap (λ (n : ℕ). kept_by (do_of u n line.stmt) x (kept_by (dos_from u 0 (take at u.lines)) x 0)) none
    ∙ sym (one_more u 0 at u.lines line x 0 inside is)
  where
    none : at ≡ 0 + at
    none = omega arith

pub same_default : {A : Type 0} (xs : List A) (n : ℕ) (a b : A) → n < length xs → get_or xs n a ≡ get_or xs n b
same_default [] n a b h = absurd (omega arith)
same_default (x ∷ xs) zero a b h = refl
same_default (x ∷ xs) (suc n) a b h = same_default xs n a b (omega (arith, h))

-- a line that was read in a list is that at its place in the same list under another word
pub read_in : (xs ys : List Line) (n : ℕ) (d : Line) → xs ≡ ys → n < length xs → (n < length ys) × (get_or xs n d ≡ get_or ys n (get_or xs n d))
read_in xs ys n d same inside = (
  subst (λ (zs : List Line). n < length zs) same inside,
  same_default xs n d (get_or xs n d) inside ∙ ap (λ (zs : List Line). get_or zs n (get_or xs n d)) same,
)

-- the statement at a point was read, and its names are kept
pub kept_read : (u : Routine) (at : ℕ) (lines : List Line) (d : Line) (old new : List (Name × ℕ)) → lines ≡ u.lines → at < length lines → AreKept u at old
    → ((x : Name) → kept_to new x ≡ kept_by (do_of u at (get_or lines at d).stmt) x (kept_to old x)) → AreKept u (at + 1) new
kept_read u at lines d old new same inside kept told =
    let r = read_in lines u.lines at d same inside in
    kept_next u at (get_or lines at d) old new r.0 r.1 kept told
