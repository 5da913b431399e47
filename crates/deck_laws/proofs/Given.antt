-- What is given of each unit of a deck without fault.
use Rattle.std.proofs.Common.{◌≡◌, ◌<◌, ℕ, true, List, [], ◌∷◌, ◌++◌, refl, subst, arith}
use Rattle.std.specs.Prelude.{nat_lt, ⊤}
use Rattle.std.proofs.lemmas.Bool.Decides.{nat_tests}
use Rattle.fort_syntax.specs.Units.{Segment, segments, begun_with, put_before, class_of}
use Rattle.fort_syntax.specs.declared.class.Class.{Class}
use Rattle.fort_syntax.specs.declared.class.Class.TheVariants.{Heading, Declaring, Performing, Ending}
use Rattle.fort_syntax.specs.declared.dialect.Dialect.{Dialect}
use Rattle.fort_syntax.specs.declared.unit.Line.{Line}
use Rattle.deck_laws.specs.Spelling.{IsSpelled, AreSpelled}
use Rattle.deck_laws.proofs.Ascending.{ascend_above, ascend_lower, lower}
use Rattle.deck_laws.proofs.Tests.{first_true, second_true, both_true}
use Rattle.deck_laws.proofs.Members.{IsIn, here, there}
use Rattle.deck_laws.proofs.Keeping.{KeepsAll, AllKeep}

-- some statements, not none, that texts spell, on ascending cards
pub record IsPart (d : Dialect) (card : ℕ) (unit : Segment) : Type 0 where
  pub head : Line
  pub rest : List Line
  pub whole : unit ≡ head ∷ rest
  pub spelled : (line : Line) → IsIn line unit → IsSpelled d line.stmt
  pub ascend : ascend_above card unit ≡ true

abbrev pub AreParts : Dialect → ℕ → List Segment → Type 0
AreParts d card [] = ⊤
AreParts d card (unit ∷ units) = IsPart d card unit × AreParts d card units

parts_lower : (d : Dialect) (low card : ℕ) (units : List Segment) → low < card → AreParts d card units
    → AreParts d low units
parts_lower d low card [] less h = tt
parts_lower d low card (unit ∷ units) less h = (
  record { head = h.0.head; rest = h.0.rest; whole = h.0.whole; spelled = h.0.spelled; ascend = ascend_lower low card unit less h.0.ascend },
  parts_lower d low card units less h.1,
)

begin : (d : Dialect) (card : ℕ) (line : Line) (unit : Segment) → IsSpelled d line.stmt → nat_lt card line.card ≡ true
    → ((other : Line) → IsIn other unit → IsSpelled d other.stmt) → ascend_above line.card unit ≡ true
    → IsPart d card (line ∷ unit)
begin d card line unit s less spelled ascend =
    record { head = line; rest = unit; whole = refl; spelled = all; ascend = both_true less ascend }
  where
    all : (other : Line) → IsIn other (line ∷ unit) → IsSpelled d other.stmt
    all other (here e) = subst (λ z. IsSpelled d z.stmt) e s
    all other (there m) = spelled other m

put : (d : Dialect) (card : ℕ) (line : Line) (units : List Segment) → IsSpelled d line.stmt
    → nat_lt card line.card ≡ true → card < line.card
    → AreParts d line.card units → AreParts d card (put_before line units)
put d card line [] s less lt h = (begin d card line [] s less (λ other m. elim m [ ]) refl, tt)
put d card line (unit ∷ units) s less lt h =
    (begin d card line unit s less h.0.spelled h.0.ascend, parts_lower d card line.card units lt h.1)

begun : (d : Dialect) (card : ℕ) (class : Class) (line : Line) (units : List Segment) → IsSpelled d line.stmt
    → nat_lt card line.card ≡ true → card < line.card
    → AreParts d line.card units → AreParts d card (begun_with class line units)
begun d card Ending line units s less lt h =
    (begin d card line [] s less (λ other m. elim m [ ]) refl, parts_lower d card line.card units lt h)
begun d card Heading line units s less lt h = put d card line units s less lt h
begun d card Declaring line units s less lt h = put d card line units s less lt h
begun d card Performing line units s less lt h = put d card line units s less lt h

-- the units of statements that texts spell on ascending cards
pub parts : (d : Dialect) (card : ℕ) (lines : List Line) → AreSpelled d lines → ascend_above card lines ≡ true
    → AreParts d card (segments lines)
parts d card [] s h = tt
parts d card (line ∷ lines) s h =
    let less = first_true (nat_lt card line.card) (ascend_above line.card lines) h in
    begun d card (class_of line.stmt) line (segments lines) s.0 less (grind (arith, nat_tests))
    (parts d line.card lines s.1 (second_true (nat_lt card line.card) (ascend_above line.card lines) h))

-- a unit behind earlier ones, all of whose statements keep all rules
pub record Given (d : Dialect) (earlier : List Segment) (unit : Segment) : Type 0 where
  pub keeps : KeepsAll d earlier unit
  pub part : IsPart d 0 unit

abbrev pub AreGiven : Dialect → List Segment → List Segment → Type 0
AreGiven d earlier [] = ⊤
AreGiven d earlier (unit ∷ units) = Given d earlier unit × AreGiven d (earlier ++ unit ∷ []) units

pub are_given : (d : Dialect) (earlier units : List Segment) → AllKeep d earlier units → AreParts d 0 units
    → AreGiven d earlier units
are_given d earlier [] k p = tt
are_given d earlier (unit ∷ units) k p =
    (record { keeps = k.0; part = p.0 }, are_given d (earlier ++ unit ∷ []) units k.1 p.1)
