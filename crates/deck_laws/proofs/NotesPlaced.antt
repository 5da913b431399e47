-- Notes stand in units that are there.
use Rattle.std.proofs.Common.{◌≡◌, ◌≤◌, ℕ, zero, suc, ◌+◌, Bool, true, false, cond, List, [], ◌∷◌, ◌++◌, map, length, refl, sym, ap, ◌∙◌, subst, rules, arith, append_assoc, append-nil}
use Rattle.std.specs.Prelude.{◌&&◌, not, nat_le}
use Rattle.std.specs.List.{list_all}
use Rattle.std.proofs.lemmas.Bool.Decides.{nat_tests}
use Rattle.std.proofs.lemmas.List.{length-append}
use Rattle.fort_syntax.specs.DeckOrder.{is_place, has_place}
use Rattle.fort_syntax.specs.Units.{Piece, stated, remarked, statements, Segment, segments, begun_with, put_before, class_of, is_performing, is_ending, executables, unit_of, is_inside, last_segment, line_outside, placed, notes_behind}
use Rattle.fort_syntax.specs.declared.class.Class.{Class}
use Rattle.fort_syntax.specs.declared.class.Class.TheVariants.{Heading, Declaring, Performing, Ending}
use Rattle.fort_syntax.specs.declared.deck.Placed.{Placed}
use Rattle.fort_syntax.specs.declared.unit.Line.{Line}
use Rattle.deck_laws.proofs.Lists.{flat_joined}
use Rattle.deck_laws.proofs.Tests.{case, clash, both_true, not_true}

-- Of two lists of units the first is as the second begins, but its last unit may have more statements in the second.
abbrev Extends : List Segment → List Segment → Type 0
Extends [] later = ⊥
Extends (unit ∷ []) [] = ⊥
Extends (unit ∷ []) (whole ∷ later) = (more : List Line) × (whole ≡ unit ++ more)
Extends (unit ∷ next ∷ units) [] = ⊥
Extends (unit ∷ next ∷ units) (whole ∷ later) = (whole ≡ unit) × Extends (next ∷ units) later

-- ---- more statements extend the units of some behind which a unit is open

one_extends : (class : Class) (line : Line) (later : List Segment) → not (is_ending class) ≡ true
    → Extends (begun_with class line []) (begun_with class line later)
one_extends Ending line later h = search rules
one_extends Heading line [] h = ([], refl)
one_extends Heading line (unit ∷ later) h = (unit, refl)
one_extends Declaring line [] h = ([], refl)
one_extends Declaring line (unit ∷ later) h = (unit, refl)
one_extends Performing line [] h = ([], refl)
one_extends Performing line (unit ∷ later) h = (unit, refl)

put_extends : (line : Line) (units later : List Segment) → Extends units later → Extends (put_before line units) (put_before line later)
put_extends line [] later h = absurd h
put_extends line (unit ∷ []) [] h = absurd h
put_extends line (unit ∷ []) (whole ∷ later) h = (h.0, ap (λ zs. line ∷ zs) h.1)
put_extends line (unit ∷ next ∷ units) [] h = absurd h
put_extends line (unit ∷ next ∷ units) (whole ∷ later) h = (ap (λ zs. line ∷ zs) h.0, h.1)

begun_extends : (class : Class) (line : Line) (units later : List Segment) → Extends units later
    → Extends (begun_with class line units) (begun_with class line later)
begun_extends Ending line [] later h = absurd h
begun_extends Ending line (unit ∷ units) later h = (refl, h)
begun_extends Heading line units later h = put_extends line units later h
begun_extends Declaring line units later h = put_extends line units later h
begun_extends Performing line units later h = put_extends line units later h

inside_extends : (before behind : List Line) → is_inside false before ≡ true → Extends (segments before) (segments (before ++ behind))
inside_extends [] behind h = search rules
inside_extends (line ∷ []) behind h = one_extends (class_of line.stmt) line (segments behind) h
inside_extends (line ∷ next ∷ before) behind h =
    begun_extends (class_of line.stmt) line (segments (next ∷ before)) (segments (next ∷ before ++ behind)) (inside_extends (next ∷ before) behind h)

-- ---- a note in an open unit

few_executables : (unit more : Segment) → nat_le (length (executables unit)) (length (executables (unit ++ more))) ≡ true
few_executables unit more =
    let joined : length (executables (unit ++ more)) ≡ length (executables unit) + length (executables more) =
    ap length (flat_joined (λ l. cond (is_performing (class_of l.stmt)) (l ∷ []) []) unit more) ∙ length-append (executables unit) (executables more) in
    grind (arith, nat_tests)

stands_in : (units later : List Segment) → Extends units later
    → is_place (map unit_of later) (length units) (length (executables (last_segment [] units))) ≡ true
stands_in [] later h = absurd h
stands_in (unit ∷ []) [] h = absurd h
stands_in (unit ∷ []) (whole ∷ later) h =
    ap (λ z. nat_le (length (executables unit)) (length (executables z))) h.1 ∙ few_executables unit h.0
stands_in (unit ∷ next ∷ units) [] h = absurd h
stands_in (unit ∷ next ∷ units) (whole ∷ later) h = stands_in (next ∷ units) later h.1

stands_outside : (before : List Line) → nat_le (line_outside before) 1 ≡ true
stands_outside [] = refl
stands_outside (line ∷ before) = refl

placed_right : (before behind : List Line) (card : ℕ) (text : List ℕ)
    → has_place (map unit_of (segments (before ++ behind))) (placed before card text) ≡ true
placed_right before behind card text = by (is_inside false before) refl
  where
    by : (b : Bool) → is_inside false before ≡ b
        → has_place (map unit_of (segments (before ++ behind)))
        (cond b (record { card = card; text = text; unit = length (segments before); line = length (executables (last_segment [] (segments before))) })
        (record { card = card; text = text; unit = 0; line = line_outside before })) ≡ true
    by true e = stands_in (segments before) (segments (before ++ behind)) (inside_extends before behind e)
    by false e = stands_outside before

-- all notes behind some statements
pub notes_placed : (before : List Line) (pieces : List Piece)
    → list_all (has_place (map unit_of (segments (before ++ statements pieces)))) (notes_behind before pieces) ≡ true
notes_placed before [] = refl
notes_placed before (stated line ∷ pieces) =
    subst (λ all. list_all (has_place (map unit_of (segments all))) (notes_behind (before ++ line ∷ []) pieces) ≡ true)
    (append_assoc before (line ∷ []) (statements pieces)) (notes_placed (before ++ line ∷ []) pieces)
notes_placed before (remarked card text ∷ pieces) = both_true (placed_right before (statements pieces) card text) (notes_placed before pieces)
