-- Numbers that run along with the statements tell where notes stand.
use Rattle.std.proofs.Common.{◌≡◌, ℕ, suc, Bool, true, false, List, [], ◌∷◌, ◌++◌, length, refl, sym, ap, ◌∙◌, arith}
use Rattle.std.specs.Prelude.{◌+◌, pred, not, cond}
use Rattle.fort_syntax.specs.Units.{Piece, stated, remarked, Segment, class_of, is_performing, is_ending, put_before, begun_with, segments, executables, is_inside, last_segment, placed, notes_behind}
use Rattle.fort_syntax.specs.Units as units
use Rattle.fort_syntax.specs.declared.class.Class.{Class}
use Rattle.fort_syntax.specs.declared.class.Class.TheVariants.{Heading, Declaring, Performing, Ending}
use Rattle.fort_syntax.specs.declared.unit.Line.{Line}
use Rattle.deck_entries.specs.declared.spot.Spot.{Spot}
use Rattle.deck_entries.specs.Readings.{top, counted, passed, line_outside, placed_at, notes_at}

abbrev goes_on : Line → Bool
goes_on line = not (is_ending (class_of line.stmt))

abbrev spot_behind : Spot → List Line → Spot
spot_behind s [] = s
spot_behind s (line ∷ lines) = spot_behind (passed (class_of line.stmt) s) lines

behind_one_more : (s : Spot) (before : List Line) (line : Line)
    → passed (class_of line.stmt) (spot_behind s before) ≡ spot_behind s (before ++ line ∷ [])
behind_one_more s [] line = refl
behind_one_more s (x ∷ before) line = behind_one_more (passed (class_of x.stmt) s) before line

inside_is : (s : Spot) (lines : List Line) → (spot_behind s lines).inside ≡ is_inside s.inside lines
inside_is s [] = refl
inside_is s (line ∷ lines) = inside_is (passed (class_of line.stmt) s) lines

-- ---- units

-- how many units some statements begin, where one is open before them or none
abbrev begun : Bool → List Line → ℕ
begun inside [] = 0
begun inside (line ∷ lines) = cond inside (begun (goes_on line) lines) (suc (begun (goes_on line) lines))

one_more : (b inside : Bool) (s : Spot) (n : ℕ)
    → (cond b s (record { inside = inside; unit = suc s.unit; line = 0 })).unit + n ≡ s.unit + cond b n (suc n)
one_more true inside s n = refl
one_more false inside s n = grind arith

unit_is : (s : Spot) (lines : List Line) → (spot_behind s lines).unit ≡ s.unit + begun s.inside lines
unit_is s [] = grind arith
unit_is s (line ∷ lines) =
    unit_is (passed (class_of line.stmt) s) lines ∙ one_more s.inside s.inside s (begun (goes_on line) lines)

in_one : (line : Line) (units : List Segment) → suc (pred (length units)) ≡ length (put_before line units)
in_one line [] = refl
in_one line (unit ∷ units) = refl

open_first : (lines : List Line) → begun false lines ≡ length (segments lines) → begun true lines ≡ pred (length (segments lines))
open_first [] h = refl
open_first (line ∷ lines) h = ap pred h

begun_are : (lines : List Line) → begun false lines ≡ length (segments lines)
begun_are [] = refl
begun_are (line ∷ lines) = by (class_of line.stmt) (begun_are lines)
  where
    inner : begun false lines ≡ length (segments lines) → suc (begun true lines) ≡ length (put_before line (segments lines))
    inner h = ap suc (open_first lines h) ∙ in_one line (segments lines)

    by : (class : Class) → begun false lines ≡ length (segments lines)
        → suc (begun (not (is_ending class)) lines) ≡ length (begun_with class line (segments lines))
    by Heading h = inner h
    by Declaring h = inner h
    by Performing h = inner h
    by Ending h = ap suc h

-- ---- executable statements

abbrev lines_at : Bool → ℕ → List Line → ℕ
lines_at inside n [] = n
lines_at inside n (line ∷ lines) = lines_at (goes_on line) (counted (class_of line.stmt) (cond inside n 0)) lines

entered_line : (b inside : Bool) (s : Spot) (unit : ℕ) → (cond b s (record { inside = inside; unit = unit; line = 0 })).line ≡ cond b s.line 0
entered_line true inside s unit = refl
entered_line false inside s unit = refl

line_is : (s : Spot) (lines : List Line) → (spot_behind s lines).line ≡ lines_at s.inside s.line lines
line_is s [] = refl
line_is s (line ∷ lines) =
    line_is (passed (class_of line.stmt) s) lines
    ∙ ap (λ n. lines_at (goes_on line) (counted (class_of line.stmt) n) lines) (entered_line s.inside s.inside s (suc s.unit))

-- how many the last of some units has, behind so many in one that is shut, or that is open
abbrev later : ℕ → List Segment → ℕ
later n [] = n
later n (unit ∷ units) = later (length (executables unit)) units

abbrev opened : ℕ → List Segment → ℕ
opened n [] = n
opened n (unit ∷ units) = later (n + length (executables unit)) units

one_counted : (p : Bool) (line : Line) (lines : List Line) → length (cond p (line ∷ []) [] ++ lines) ≡ cond p (suc (length lines)) (length lines)
one_counted true line lines = refl
one_counted false line lines = refl

more_counted : (p : Bool) (n m : ℕ) → n + cond p (suc m) m ≡ cond p (suc n) n + m
more_counted true n m = grind arith
more_counted false n m = refl

none_more : (n : ℕ) → n + 0 ≡ n
none_more n = grind arith

none_before : (n : ℕ) → 0 + n ≡ n
none_before n = grind arith

counts : (n : ℕ) (line : Line) (lines : List Line)
    → n + length (executables (line ∷ lines)) ≡ counted (class_of line.stmt) n + length (executables lines)
counts n line lines =
    ap (λ m. n + m) (one_counted (is_performing (class_of line.stmt)) line (executables lines))
    ∙ more_counted (is_performing (class_of line.stmt)) n (length (executables lines))

put_open : (n : ℕ) (line : Line) (units : List Segment) → opened n (put_before line units) ≡ opened (counted (class_of line.stmt) n) units
put_open n line [] = counts n line [] ∙ none_more (counted (class_of line.stmt) n)
put_open n line (unit ∷ units) = ap (λ m. later m units) (counts n line unit)

put_shut : (n : ℕ) (line : Line) (units : List Segment) → later n (put_before line units) ≡ opened 0 (put_before line units)
put_shut n line [] = sym (none_before (length (executables (line ∷ []))))
put_shut n line (unit ∷ units) = ap (λ m. later m units) (sym (none_before (length (executables (line ∷ unit)))))

lines_are : (inside : Bool) (n : ℕ) (lines : List Line) → lines_at inside n lines ≡ cond inside (opened n (segments lines)) (later n (segments lines))
lines_are true n [] = refl
lines_are false n [] = refl
lines_are inside n (line ∷ lines) =
    lines_are (goes_on line) (counted (class_of line.stmt) (cond inside n 0)) lines ∙ step (class_of line.stmt) refl inside
  where
    units : List Segment
    units = segments lines

    within : (class : Class) → class_of line.stmt ≡ class → (b : Bool)
        → opened (counted class (cond b n 0)) units ≡ cond b (opened n (put_before line units)) (later n (put_before line units))
    within class e true = ap (λ c. opened (counted c n) units) (sym e) ∙ sym (put_open n line units)
    within class e false = ap (λ c. opened (counted c 0) units) (sym e) ∙ sym (put_open 0 line units) ∙ sym (put_shut n line units)

    alone : class_of line.stmt ≡ Ending → length (executables (line ∷ [])) ≡ 0
    alone e = ap (λ c. length (cond (is_performing c) (line ∷ []) [] ++ [])) e

    ended : class_of line.stmt ≡ Ending → (b : Bool)
        → later (cond b n 0) units ≡ cond b (later (n + length (executables (line ∷ []))) units) (later (length (executables (line ∷ []))) units)
    ended e true = ap (λ m. later m units) (sym (ap (λ m. n + m) (alone e) ∙ none_more n))
    ended e false = ap (λ m. later m units) (sym (alone e))

    step : (class : Class) → class_of line.stmt ≡ class → (b : Bool)
        → cond (not (is_ending class)) (opened (counted class (cond b n 0)) units) (later (counted class (cond b n 0)) units)
        ≡ cond b (opened n (begun_with class line units)) (later n (begun_with class line units))
    step Heading e b = within Heading e b
    step Declaring e b = within Declaring e b
    step Performing e b = within Performing e b
    step Ending e b = ended e b

later_is : (unit : Segment) (units : List Segment) → later (length (executables unit)) units ≡ length (executables (last_segment unit units))
later_is unit [] = refl
later_is unit (next ∷ units) = later_is next units

-- ---- notes

outside_is : (before : List Line) → line_outside (begun false before) ≡ units.line_outside before
outside_is [] = refl
outside_is (line ∷ before) = refl

placed_is : (before : List Line) (card : ℕ) (text : List ℕ) → placed_at (spot_behind top before) card text ≡ placed before card text
placed_is before card text =
    let unit = unit_is top before ∙ none_before (begun false before) in
    λ i. cond (inside_is top before i)
    (record {
      card = card;
      text = text;
      unit = (unit ∙ begun_are before) i;
      line = (line_is top before ∙ lines_are false 0 before ∙ later_is [] (segments before)) i;
    })
    (record { card = card; text = text; unit = 0; line = (ap line_outside unit ∙ outside_is before) i })

notes_behind_are : (before : List Line) (pieces : List Piece) → notes_at (spot_behind top before) pieces ≡ notes_behind before pieces
notes_behind_are before [] = refl
notes_behind_are before (stated line ∷ rest) =
    ap (λ s. notes_at s rest) (behind_one_more top before line) ∙ notes_behind_are (before ++ line ∷ []) rest
notes_behind_are before (remarked card text ∷ rest) = λ i. placed_is before card text i ∷ notes_behind_are before rest i

-- the running numbers place notes where they stand
pub notes_are : (pieces : List Piece) → notes_at top pieces ≡ notes_behind [] pieces
notes_are pieces = notes_behind_are [] pieces
