-- A fault among notes is on a note or on a head.
use Rattle.std.proofs.Common.{◌≡◌, ℕ, suc, Bool, true, false, Option, Some, None, List, [], ◌∷◌, Result, Ok, Err, refl, sym, ap, subst, inl, inr}
use Rattle.std.specs.Prelude.{nat_lt, if◌then◌else◌}
use Rattle.fort_syntax.specs.FirstFaults.{stage_of}
use Rattle.fort_syntax.specs.declared.deck.Deck.{Deck}
use Rattle.fort_syntax.specs.declared.deck.Placed.{Placed}
use Rattle.fort_syntax.specs.declared.refusal.Fault.{Fault}
use Rattle.fort_syntax.specs.declared.rule.Rule.TheVariants.{NoInputOrOutput}
use Rattle.fort_syntax.specs.declared.unit.Unit.{Unit as Routine}
use Rattle.fort_notes.specs.Judging.{Judged, judged, lacks_note, lacking_from, missing_note, with_lesser, judged_or_fault}
use Rattle.fort_notes.specs.Remarks.{remarks_if}
use Rattle.fort_model.specs.Lists.{IsAmong}
use Rattle.note_laws.specs.Laws.{IsNoteFault, FaultsAreOfNotes}
use Rattle.note_laws.proofs.AllJudged.{judging_fault}

-- a unit that lacks a note is one of the units
on_unit : (notes : List Placed) (i : ℕ) (us : List Routine) (g : Fault) → lacking_from notes i us ≡ Some g
    → (u : Routine) × IsAmong u us × (u.head ≡ g.card) × (g.rule ≡ NoInputOrOutput)
on_unit notes i [] g e = absurd (cc)
on_unit notes i (u ∷ us) g e = by (lacks_note notes i) (λ k. on_unit notes (suc i) us g k) e
  where
    by : (b : Bool) → (lacking_from notes (suc i) us ≡ Some g → (v : Routine) × IsAmong v us × (v.head ≡ g.card) × (g.rule ≡ NoInputOrOutput))
        → (if b then Some (record { rule = NoInputOrOutput; card = u.head }) else lacking_from notes (suc i) us) ≡ Some g
        → (v : Routine) × IsAmong v (u ∷ us) × (v.head ≡ g.card) × (g.rule ≡ NoInputOrOutput)
    by true rec q =
        let same : record { rule = NoInputOrOutput; card = u.head } ≡ g = cc in
        (u, (0, refl), ap (λ (x : Fault). x.card) same, sym (ap (λ (x : Fault). x.rule) same))
    by false rec q = let r = rec q in (r.0, (suc r.1.0, r.1.1), r.2, r.3)

module _ (deck : Deck) where
  head_fault : (g : Fault) → missing_note deck ≡ Some g → IsNoteFault deck g
  head_fault g e =
      let u = on_unit deck.notes 1 deck.units g e in
      record { stage = ap stage_of u.3; place = inr u }

  note_fault : (f : Fault) → judged deck ≡ Err f → IsNoteFault deck f
  note_fault f e =
      let n = judging_fault deck f e in
      record { stage = n.3; place = inl (n.0, n.1, n.2) }

  lesser_fault : (f : Fault) (o : Option Fault) → missing_note deck ≡ o → IsNoteFault deck f → IsNoteFault deck (with_lesser f o)
  lesser_fault f None e h = h
  lesser_fault f (Some g) e h = by (nat_lt g.card f.card)
    where
      by : (b : Bool) → IsNoteFault deck (if b then g else f)
      by true = head_fault g e
      by false = h

  fault_at : (f : Fault) (a : Result (List Judged) Fault) (o : Option Fault) → judged deck ≡ a → missing_note deck ≡ o → remarks_if deck.units (judged_or_fault a o) ≡ Err f → IsNoteFault deck f
  fault_at f (Err g) o e m q = let same : with_lesser g o ≡ f = cc in subst (IsNoteFault deck) same (lesser_fault g o m (note_fault g e))
  fault_at f (Ok all) None e m q = absurd (cc)
  fault_at f (Ok all) (Some g) e m q = let same : g ≡ f = cc in subst (IsNoteFault deck) same (head_fault g m)

pub faults_are_of_notes : FaultsAreOfNotes
faults_are_of_notes deck f e = fault_at deck f (judged deck) (missing_note deck) refl refl e
