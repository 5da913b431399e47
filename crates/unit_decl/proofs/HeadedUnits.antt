-- The units of a deck without a fault begin with heads.
use Rattle.std.proofs.Common.{◌≡◌, Bool, true, false, List, [], ◌∷◌, ◌++◌, None, refl, sym, rules}
use Rattle.std.specs.Prelude.{◌&&◌, not, ⊤}
use Rattle.std.specs.List.{list_all}
use Rattle.fort_syntax.specs.OrderRules.{places}
use Rattle.fort_syntax.specs.UnitRules.{fault_of}
use Rattle.fort_syntax.specs.Units.{Segment, put_before, begun_with, segments, class_of, is_heading}
use Rattle.fort_syntax.specs.declared.class.Class.{Class}
use Rattle.fort_syntax.specs.declared.class.Class.TheVariants.{Heading, Declaring, Performing, Ending}
use Rattle.fort_syntax.specs.declared.dialect.Dialect.{Dialect}
use Rattle.fort_syntax.specs.declared.unit.Line.{Line}
use Rattle.deck_laws.proofs.Keeping.{AllKeep, all_keep, rules_kept}
use Rattle.unit_decl.specs.Heads.{is_headed}

-- each of some units has a statement
abbrev AreSome : List Segment → Type 0
AreSome [] = ⊤
AreSome ([] ∷ units) = ⊥
AreSome ((line ∷ lines) ∷ units) = AreSome units

put_some : (line : Line) (units : List Segment) → AreSome units → AreSome (put_before line units)
put_some line [] h = tt
put_some line ([] ∷ units) h = absurd h
put_some line ((l ∷ ls) ∷ units) h = h

begun_some : (class : Class) (line : Line) (units : List Segment) → AreSome units → AreSome (begun_with class line units)
begun_some Heading line units h = put_some line units h
begun_some Declaring line units h = put_some line units h
begun_some Performing line units h = put_some line units h
begun_some Ending line units h = h

segments_some : (lines : List Line) → AreSome (segments lines)
segments_some [] = tt
segments_some (line ∷ lines) = begun_some (class_of line.stmt) line (segments lines) (segments_some lines)

both : (a b : Bool) → not a ≡ false → b ≡ true → (a && b) ≡ true
both true b h k = k
both false b h k = search rules

all_headed : (d : Dialect) (earlier units : List Segment) → AreSome units → AllKeep d earlier units → list_all is_headed units ≡ true
all_headed d earlier [] s k = refl
all_headed d earlier ([] ∷ units) s k = absurd s
all_headed d earlier ((line ∷ lines) ∷ units) s k =
    both (is_heading (class_of line.stmt)) (list_all is_headed units) (k.0 [] line lines refl).head
    (all_headed d (earlier ++ (line ∷ lines) ∷ []) units s k.1)

-- without a fault each unit begins with a head
pub units_headed : (d : Dialect) (lines : List Line) → None ≡ fault_of d lines → list_all is_headed (segments lines) ≡ true
units_headed d [] h = refl
units_headed d (line ∷ lines) h =
    let units = segments (line ∷ lines) in
    all_headed d [] units (segments_some (line ∷ lines)) (all_keep d [] units (rules_kept (places d units) (sym h)))
