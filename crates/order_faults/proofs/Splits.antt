-- The first unit of some statements is as many of them as a pass counts.
use Rattle.std.proofs.Common.{◌≡◌, ◌≤◌, ℕ, suc, List, [], ◌∷◌, length, take, drop, refl, ap, arith, rules}
use Rattle.fort_syntax.specs.Units.{Segment, segments, begun_with, put_before, class_of}
use Rattle.fort_syntax.specs.declared.class.Class.{Class}
use Rattle.fort_syntax.specs.declared.class.Class.TheVariants.{Heading, Declaring, Performing, Ending}
use Rattle.fort_syntax.specs.declared.unit.Line.{Line}
use Rattle.order_faults.specs.Scans.{size_with, unit_size}

-- the statement in front of the units of others, where those begin with a unit of n
in_front : (line : Line) (n : ℕ) (lines : List Line) (units : List Segment) → units ≡ take n lines ∷ segments (drop n lines)
    → put_before line units ≡ take (suc n) (line ∷ lines) ∷ segments (drop (suc n) (line ∷ lines))
in_front line n lines units e = ap (put_before line) e

more : (class : Class) (line : Line) (lines : List Line)
    → segments lines ≡ take (unit_size lines) lines ∷ segments (drop (unit_size lines) lines)
    → begun_with class line (segments lines)
    ≡ take (size_with class (unit_size lines)) (line ∷ lines) ∷ segments (drop (size_with class (unit_size lines)) (line ∷ lines))
more Ending line lines h = refl
more Heading line lines h = in_front line (unit_size lines) lines (segments lines) h
more Declaring line lines h = in_front line (unit_size lines) lines (segments lines) h
more Performing line lines h = in_front line (unit_size lines) lines (segments lines) h

alone : (class : Class) (line : Line)
    → begun_with class line [] ≡ take (size_with class 0) (line ∷ []) ∷ segments (drop (size_with class 0) (line ∷ []))
alone Ending line = refl
alone Heading line = refl
alone Declaring line = refl
alone Performing line = refl

split_from : (line : Line) (lines : List Line)
    → segments (line ∷ lines) ≡ take (unit_size (line ∷ lines)) (line ∷ lines) ∷ segments (drop (unit_size (line ∷ lines)) (line ∷ lines))
split_from line [] = alone (class_of line.stmt) line
split_from line (next ∷ rest) = more (class_of line.stmt) line (next ∷ rest) (split_from next rest)

-- some statements are the first unit and the others
pub split : (lines : List Line) → 1 ≤ length lines → segments lines ≡ take (unit_size lines) lines ∷ segments (drop (unit_size lines) lines)
split [] h = search rules
split (line ∷ lines) h = split_from line lines

one_at_least : (class : Class) (n : ℕ) → 1 ≤ size_with class n
one_at_least Ending n = omega arith
one_at_least Heading n = omega arith
one_at_least Declaring n = omega arith
one_at_least Performing n = omega arith

pub some : (lines : List Line) → 1 ≤ length lines → 1 ≤ unit_size lines
some [] h = search rules
some (line ∷ lines) h = one_at_least (class_of line.stmt) (unit_size lines)
