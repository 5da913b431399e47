-- An accepted deck has no fault.
use Rattle.std.proofs.Common.{◌≡◌, List, [], ◌∷◌, Result, Ok, Err, sym, ap, subst, inl, inr}
use Rattle.fort_syntax.specs.declared.deck.Deck.{Deck}
use Rattle.fort_syntax.specs.declared.dialect.Dialect.{Dialect}
use Rattle.fort_syntax.specs.declared.refusal.Fault.{Fault}
use Rattle.fort_syntax.specs.declared.rule.Rule.{Rule}
use Rattle.fort_notes.specs.Remarks.{Remarks, remarks_of}
use Rattle.fort_model.specs.Paths.{Path}
use Rattle.fort_model.specs.Program.{Program}
use Rattle.fort_model.specs.Programs.{program_of}
use Rattle.fort_model.specs.Rules.{KeepsRules}
use Rattle.fort_model.specs.Stages.{IsFirstBroken}
use Rattle.fort_laws.proofs.ByUnits.{calls_are_judged_by_units}
use Rattle.accepted_laws.specs.Accepted.{IsAcceptedAs}
use Rattle.accepted_laws.specs.Laws.{AcceptedHaveNoFault}
use Rattle.accepted_laws.specs.ModelFaults.{IsFirstIn, IsCallFault, IsLaterFault, later_stages}
use Rattle.accepted_laws.proofs.OneProgram.{programs_are_one}

-- where all rules are kept, no stage has a first fault
none_broken : (p : Program) → KeepsRules p → (rules : List Rule) (f : Fault) → IsFirstBroken p rules f → ⊥
none_broken p keeps rules f h = keeps f.rule h.0.unit f.card h.0.broken

none_in : (p : Program) → KeepsRules p → (stages : List (List Rule)) (f : Fault) → IsFirstIn p stages f → ⊥
none_in p keeps [] f h = h
none_in p keeps (rules ∷ stages) f (inl h) = none_broken p keeps rules f h
none_in p keeps (rules ∷ stages) f (inr h) = none_in p keeps stages f h.1

module _ (dialect : Dialect) (deck : Deck) (r : Remarks) (p : Program) (paths : List (List Path)) (f : Fault) (a : IsAcceptedAs dialect deck r p paths) where
  no_note_fault : remarks_of deck ≡ Err f → ⊥
  no_note_fault e = clash (remarks_of deck) a.is_program.remarks e
    where
      clash : (x : Result Remarks Fault) → x ≡ Ok r → x ≡ Err f → ⊥
      clash x e f = absurd (cc)

  no_call_fault : IsCallFault dialect deck f → ⊥
  no_call_fault h =
      let b = h.2.0 in
      let units : deck.units ≡ p.units = sym (ap (λ (q : Program). q.units) a.is_program.program) in
      a.kept f.rule b.unit f.card (calls_are_judged_by_units (program_of dialect deck h.0 []) p units f.rule b.among b.unit f.card b.broken)

  no_later_fault : IsLaterFault dialect deck f → ⊥
  no_later_fault h =
      let one = programs_are_one dialect deck r h.0 p h.1 a.is_program h.2 in
      none_in h.1 (subst KeepsRules one.1 a.kept) later_stages f h.4

pub accepted_have_no_fault : AcceptedHaveNoFault
accepted_have_no_fault dialect deck r p paths f a (inl e) = no_note_fault dialect deck r p paths f a e
accepted_have_no_fault dialect deck r p paths f a (inr (inl h)) = no_call_fault dialect deck r p paths f a h
accepted_have_no_fault dialect deck r p paths f a (inr (inr h)) = no_later_fault dialect deck r p paths f a h
