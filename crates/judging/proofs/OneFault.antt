-- A text has at most one first fault.
use Rattle.std.proofs.Common.{◌≡◌, ℕ, zero, suc, Option, Some, None, List, [], ◌∷◌, Result, Ok, Err, inl, inr, refl, sym, ap, ◌∙◌, subst, arith}
use Rattle.std.specs.List.{AllByRecursion}
use Rattle.deck_laws.proofs.FirstFaultsOne.{first_faults_are_one as least_are_one}
use Rattle.fort_syntax.specs.CardRules.{card_fault}
use Rattle.fort_syntax.specs.Cards.{entries_of}
use Rattle.fort_syntax.specs.FirstFaults.{IsFirstOf, HasOneWord, stage_of}
use Rattle.fort_syntax.specs.declared.deck.Deck.{Deck}
use Rattle.fort_syntax.specs.declared.dialect.Dialect.{Dialect}
use Rattle.fort_syntax.specs.declared.refusal.Fault.{Fault}
use Rattle.fort_syntax.specs.declared.rule.Rule.{Rule}
use Rattle.fort_syntax.specs.declared.rule.Rule.TheVariants.{Excluded}
use Rattle.deck_entries.proofs.DeckOrFault.{first_faults_are_one}
use Rattle.fort_laws.proofs.ByUnits.{calls_are_judged_by_units}
use Rattle.fort_notes.specs.Remarks.{Remarks, remarks_of}
use Rattle.fort_model.specs.Lists.{IsAmong}
use Rattle.fort_model.specs.Program.{Program}
use Rattle.fort_model.specs.Programs.{program_of}
use Rattle.fort_model.specs.Stages.{rules_of_calls, rules_of_smashing, rules_of_ranges, rules_of_flow, KeepsAll, IsBrokenOf, IsFirstBroken}
use Rattle.accepted_laws.specs.ModelFaults.{IsFirstIn, IsCallFault, later_stages, IsLaterFault, IsModelFault}
use Rattle.accepted_laws.proofs.OneProgram.{programs_are_one}
use Rattle.path_sizes.specs.Limits.{IsSizeFault}
use Rattle.path_sizes.proofs.Judged.{one_size_fault}
use Rattle.judging.specs.Judgement.{IsTextFaultIn, IsRuleFaultIn}
use Rattle.judging.specs.Laws.{FaultsInAreOne}
use Rattle.judging.proofs.OneJudgement.{deck_in_one, kept_are_one}
use Rattle.judging.proofs.NoneBoth.{deck_unfaulted, kept_have_no_fault}

-- ---- one fault of a stage

-- all rules of a list are of one stage
abbrev AreOfStage : List Rule → ℕ → Type 0
AreOfStage rules n = (rule : Rule) → IsAmong rule rules → stage_of rule ≡ n

stage_all : (n : ℕ) (rules : List Rule) → AllByRecursion (λ r. stage_of r ≡ n) rules → AreOfStage rules n
stage_all n [] h rule m = absurd (cc)
stage_all n (first ∷ rules) h rule (zero, f) = let same : first ≡ rule = cc in subst (λ (x : Rule). stage_of x ≡ n) same h.0
stage_all n (first ∷ rules) h rule (suc k, f) = stage_all n rules h.1 rule (k, f)

-- a list of one stage has at most one first fault
one_first : (p : Program) (rules : List Rule) (n : ℕ) → AreOfStage rules n → (n ≡ 2 → ⊥) → (f g : Fault) → IsFirstBroken p rules f → IsFirstBroken p rules g → f ≡ g
one_first p rules n stage apart f g h k = least_are_one (IsBrokenOf p rules) no_word f g (first f h) (first g k)
  where
    no_word : HasOneWord (IsBrokenOf p rules)
    no_word card v w a b = absurd (apart (sym (stage (Excluded v) a.among)))

    first : (x : Fault) → IsFirstBroken p rules x → IsFirstOf (IsBrokenOf p rules) x
    first x h = record {
      broken = h.0;
      earliest = λ rule card b.
          let own = stage x.rule h.0.among in
          let other = stage rule b.among in omega arith;
      least = λ rule card b e. h.1 rule card b;
    }

calls_stage : AreOfStage rules_of_calls 9
calls_stage = stage_all 9 rules_of_calls (refl, (refl, (refl, (refl, (refl, tt)))))

smashing_stage : AreOfStage rules_of_smashing 10
smashing_stage = stage_all 10 rules_of_smashing (refl, (refl, (refl, (refl, (refl, tt)))))

ranges_stage : AreOfStage rules_of_ranges 11
ranges_stage = stage_all 11 rules_of_ranges (refl, (refl, (refl, (refl, tt))))

flow_stage : AreOfStage rules_of_flow 12
flow_stage = stage_all 12 rules_of_flow (refl, (refl, (refl, tt)))

-- ---- one fault of some stages

-- a stage in which all rules are kept has no first fault
kept_none : (p : Program) (rules : List Rule) (f : Fault) → KeepsAll p rules → IsFirstBroken p rules f → ⊥
kept_none p rules f keeps h = keeps f.rule h.0.among h.0.unit f.card h.0.broken

-- lists each of which has at most one first fault
abbrev HaveOne : Program → List (List Rule) → Type 0
HaveOne p [] = Unit {0}
HaveOne p (rules ∷ stages) = ((f g : Fault) → IsFirstBroken p rules f → IsFirstBroken p rules g → f ≡ g) × HaveOne p stages

one_in : (p : Program) (stages : List (List Rule)) → HaveOne p stages → (f g : Fault) → IsFirstIn p stages f → IsFirstIn p stages g → f ≡ g
one_in p [] one f g h k = absurd h
one_in p (rules ∷ stages) one f g (inl h) (inl k) = one.0 f g h k
one_in p (rules ∷ stages) one f g (inl h) (inr k) = absurd (kept_none p rules f k.0 h)
one_in p (rules ∷ stages) one f g (inr h) (inl k) = absurd (kept_none p rules g h.0 k)
one_in p (rules ∷ stages) one f g (inr h) (inr k) = one_in p stages one.1 f g h.1 k.1

later_one : (p : Program) → HaveOne p later_stages
later_one p = (
  one_first p rules_of_smashing 10 smashing_stage (λ e. absurd (omega arith)),
  (one_first p rules_of_ranges 11 ranges_stage (λ e. absurd (omega arith)), (one_first p rules_of_flow 12 flow_stage (λ e. absurd (omega arith)), tt)),
)

-- ---- one fault of a deck

abbrev refused : Fault → Result Remarks Fault
refused x = Err x

abbrev told : Remarks → Result Remarks Fault
told r = Ok r

same_remarks : (deck : Deck) (r s : Remarks) → remarks_of deck ≡ Ok r → remarks_of deck ≡ Ok s → r ≡ s
same_remarks deck r s e f = inside (sym e ∙ f)
  where
    inside : told r ≡ told s → r ≡ s
    inside g = cc

module _ (d : Dialect) (deck : Deck) (f g : Fault) where
  -- notes that say something have no fault
  said : (r : Remarks) (x : Fault) → remarks_of deck ≡ Ok r → remarks_of deck ≡ Err x → ⊥
  said r x a b = clash (remarks_of deck) a b
    where
      clash : (o : Result Remarks Fault) → o ≡ Ok r → o ≡ Err x → ⊥
      clash o a b = absurd (cc)

  one_call : IsCallFault d deck f → IsCallFault d deck g → f ≡ g
  one_call h k =
      let same = same_remarks deck h.0 k.0 h.1 k.1 in
      one_first (program_of d deck k.0 []) rules_of_calls 9 calls_stage (λ e. absurd (omega arith)) f g
      (subst (λ (r : Remarks). IsFirstBroken (program_of d deck r []) rules_of_calls f) same h.2) k.2

  one_later : IsLaterFault d deck f → IsLaterFault d deck g → f ≡ g
  one_later h k =
      let same = programs_are_one d deck h.0 k.0 h.1 k.1 h.2 k.2 in
      one_in k.1 later_stages (later_one k.1) f g (subst (λ (p : Program). IsFirstIn p later_stages f) same.1 h.4) k.4

  -- calls that keep the rules have no fault
  call_or_later : (x y : Fault) → IsCallFault d deck x → IsLaterFault d deck y → ⊥
  call_or_later x y h k =
      let units : deck.units ≡ k.1.units = sym (ap (λ (p : Program). p.units) k.2.program) in
      let b = h.2.0 in
      k.3 x.rule b.among b.unit x.card (calls_are_judged_by_units (program_of d deck h.0 []) k.1 units x.rule b.among b.unit x.card b.broken)

  one_model : IsModelFault d deck f → IsModelFault d deck g → f ≡ g
  one_model (inl a) (inl b) = same (sym a ∙ b)
    where
      same : refused f ≡ refused g → f ≡ g
      same e = cc
  one_model (inl a) (inr (inl b)) = absurd (said b.0 f b.1 a)
  one_model (inl a) (inr (inr b)) = absurd (said b.0 f b.2.remarks a)
  one_model (inr (inl a)) (inl b) = absurd (said a.0 g a.1 b)
  one_model (inr (inr a)) (inl b) = absurd (said a.0 g a.2.remarks b)
  one_model (inr (inl a)) (inr (inl b)) = one_call a b
  one_model (inr (inl a)) (inr (inr b)) = absurd (call_or_later f g a b)
  one_model (inr (inr a)) (inr (inl b)) = absurd (call_or_later g f b a)
  one_model (inr (inr a)) (inr (inr b)) = one_later a b

-- ---- one fault of bytes

one_text : (d : Dialect) (bytes : List ℕ) (f g : Fault) → IsTextFaultIn d bytes f → IsTextFaultIn d bytes g → f ≡ g
one_text d bytes f g (inl a) (inl b) = same (sym a ∙ b)
  where
    same : Some f ≡ Some g → f ≡ g
    same e = cc
one_text d bytes f g (inl a) (inr b) = absurd (clash (card_fault bytes) f a b.0)
  where
    clash : (o : Option Fault) (x : Fault) → o ≡ Some x → o ≡ None → ⊥
    clash o x a b = absurd (cc)
one_text d bytes f g (inr a) (inl b) = absurd (clash (card_fault bytes) g b a.0)
  where
    clash : (o : Option Fault) (x : Fault) → o ≡ Some x → o ≡ None → ⊥
    clash o x a b = absurd (cc)
one_text d bytes f g (inr a) (inr b) = first_faults_are_one d (entries_of bytes) f g a.1 b.1

one_rule : (d : Dialect) (bytes : List ℕ) (f g : Fault) → IsRuleFaultIn d bytes f → IsRuleFaultIn d bytes g → f ≡ g
one_rule d bytes f g (inl a) (inl b) = one_text d bytes f g a b
one_rule d bytes f g (inl a) (inr b) = absurd (deck_unfaulted d bytes b.0 f b.1 a)
one_rule d bytes f g (inr a) (inl b) = absurd (deck_unfaulted d bytes a.0 g a.1 b)
one_rule d bytes f g (inr a) (inr b) =
    let same = deck_in_one d bytes a.0 b.0 a.1 b.1 in
    one_model d b.0 f g (subst (λ (x : Deck). IsModelFault d x f) same a.2) b.2

pub faults_in_are_one : FaultsInAreOne
faults_in_are_one d bytes f g (inl a) (inl b) = one_rule d bytes f g a b
faults_in_are_one d bytes f g (inl a) (inr b) = absurd (kept_have_no_fault d bytes b.0 b.1 b.2 f b.3 a)
faults_in_are_one d bytes f g (inr a) (inl b) = absurd (kept_have_no_fault d bytes a.0 a.1 a.2 g a.3 b)
faults_in_are_one d bytes f g (inr a) (inr b) =
    let one = kept_are_one d bytes a.0 b.0 a.1 b.1 a.2 b.2 a.3 b.3 in
    one_size_fault b.2 f g (subst (λ (x : Program). IsSizeFault x f) one.2 a.4) b.4
