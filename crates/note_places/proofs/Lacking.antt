-- The first unit that lacks a note.
use Rattle.std.proofs.Common.{◌≡◌, ℕ, suc, ◌+◌, ◌<◌, Bool, true, false, not, Option, Some, List, [], ◌∷◌, length, drop, get_or, sym, ap, ◌∙◌, arith}
use Rattle.std.specs.Prelude.{◌&&◌, if◌then◌else◌}
use Rattle.std.proofs.lemmas.List.{at_drop_more}
use Rattle.fort_syntax.specs.declared.deck.Placed.{Placed}
use Rattle.fort_syntax.specs.declared.refusal.Fault.{Fault}
use Rattle.fort_syntax.specs.declared.rule.Rule.TheVariants.{NoInputOrOutput}
use Rattle.fort_syntax.specs.declared.unit.Unit.{Unit as Routine}
use Rattle.fort_notes.specs.Judging as judging
use Rattle.fort_notes.specs.Judging.{lacks_note, lacking_from}
use Rattle.note_places.specs.Places.{is_known, AreUnitsWith}

pub lacks_by : (notes : List Placed) (ins outs : List ℕ) (i n : ℕ) (b : Bool) → n ≡ suc i → AreUnitsWith judging.Input notes ins → AreUnitsWith judging.Output notes outs
    → b ≡ not (is_known n ins && is_known n outs) → lacks_note notes (suc i) ≡ b
lacks_by notes ins outs i n b next p q e = sym (e ∙ (λ j. not (p n j && q n j)) ∙ ap (λ (k : ℕ). lacks_note notes k) next)

opened : (notes : List Placed) (units : List Routine) (i : ℕ) (d : Routine) → i < length units
    → lacking_from notes (suc i) (drop i units)
    ≡ (if lacks_note notes (suc i) then Some (record { rule = NoInputOrOutput; card = (get_or units i d).head }) else lacking_from notes (suc (suc i)) (drop (i + 1) units))
opened notes units i d lt = at_drop_more (λ (rest : List Routine). lacking_from notes (suc i) rest) units i d lt

pub lacking_here : (notes : List Placed) (units : List Routine) (i : ℕ) (d : Routine) (rhs : Option Fault) → i < length units → lacks_note notes (suc i) ≡ true
    → lacking_from notes (suc i) (drop i units) ≡ rhs → Some (record { rule = NoInputOrOutput; card = (get_or units i d).head }) ≡ rhs
lacking_here notes units i d rhs lt here had =
    sym (opened notes units i d lt ∙ ap (λ b. if b then Some (record { rule = NoInputOrOutput; card = (get_or units i d).head }) else lacking_from notes (suc (suc i)) (drop (i + 1) units)) here) ∙ had

lacking_with : (notes : List Placed) (units : List Routine) (i : ℕ) (d : Routine) (rhs : Option Fault) → i < length units → lacks_note notes (suc i) ≡ false
    → lacking_from notes (suc i) (drop i units) ≡ rhs → lacking_from notes (suc (i + 1)) (drop (i + 1) units) ≡ rhs
lacking_with notes units i d rhs lt here had =
    let one : i + 1 ≡ suc i = omega arith in
    ap (λ (k : ℕ). lacking_from notes (suc k) (drop (i + 1) units)) one
    ∙ sym (opened notes units i d lt ∙ ap (λ b. if b then Some (record { rule = NoInputOrOutput; card = (get_or units i d).head }) else lacking_from notes (suc (suc i)) (drop (i + 1) units)) here) ∙ had

pub lacking_on : (notes : List Placed) (units : List Routine) (i : ℕ) (rhs : Option Fault) → i < length units → lacks_note notes (suc i) ≡ false
    → lacking_from notes (suc i) (drop i units) ≡ rhs → lacking_from notes (suc (i + 1)) (drop (i + 1) units) ≡ rhs
lacking_on notes [] i rhs lt here had = absurd (omega arith)
lacking_on notes (u ∷ us) i rhs lt here had = lacking_with notes (u ∷ us) i u rhs lt here had
