-- The first fault of units is the first of the broken rules.
use Rattle.std.proofs.Common.{◌≡◌, ◌<◌, ◌≤◌, ◌⊎◌, inl, inr, ℕ, zero, suc, Bool, true, false, cond, List, [], ◌∷◌, ◌++◌, map, Option, Some, None, refl, sym, ap, ◌∙◌, subst, arith, rules, append_assoc}
use Rattle.std.specs.Prelude.{◌&&◌, nat_lt, ⊤}
use Rattle.std.proofs.lemmas.Bool.Decides.{nat_tests}
use Rattle.fort_syntax.specs.CardRules.{fault_or}
use Rattle.fort_syntax.specs.FirstFaults.{stage_of, TellsLeast, IsFirstOf, TellsFirst, IsAtMost}
use Rattle.fort_syntax.specs.OrderRules.{Place, places, places_in, places_from}
use Rattle.fort_syntax.specs.Rules.{rule_number}
use Rattle.fort_syntax.specs.Units.{Segment, segments, begun_with, put_before, class_of, statements}
use Rattle.fort_syntax.specs.UnitFaults.{IsBrokenAmong, IsUnitRuleBroken}
use Rattle.fort_syntax.specs.UnitRules.{breaks, order_rules, block_rules, name_rules, use_rules, type_rules, stages, first_broken, fault_in_stage, fault_before, fault_in_stages, fault_of}
use Rattle.fort_syntax.specs.declared.class.Class.{Class}
use Rattle.fort_syntax.specs.declared.class.Class.TheVariants.{Heading, Declaring, Performing, Ending}
use Rattle.fort_syntax.specs.declared.dialect.Dialect.{Dialect}
use Rattle.fort_syntax.specs.declared.refusal.Fault.{Fault}
use Rattle.fort_syntax.specs.declared.rule.Rule.{Rule}
use Rattle.fort_syntax.specs.declared.rule.Rule.TheVariants.{StatementOrder, NoHead, NoEnd, NameTwice, ImplicitReal, BadDimension, BadUse, BadType, BadSubscript, LabelTwice, NoLabel, BadResult, BlocksDiffer, BadAdjustable, BadBlockIf}
use Rattle.fort_syntax.specs.declared.unit.Line.{Line}
use Rattle.deck_laws.specs.Laws.{FirstUnitFaultIsLeast}
use Rattle.deck_laws.proofs.Ascending.{ascend_above, statements_ascend}
use Rattle.deck_laws.proofs.Members.{IsIn, here, there}
use Rattle.deck_laws.proofs.Tests.{clash, first_true, second_true}

-- ---- the statements of places

abbrev joined : List Segment → List Line
joined [] = []
joined (unit ∷ units) = unit ++ joined units

abbrev lines_of : List Place → List Line
lines_of ps = map (λ p. p.line) ps

lines_joined : (ps qs : List Place) → lines_of (ps ++ qs) ≡ lines_of ps ++ lines_of qs
lines_joined [] qs = refl
lines_joined (p ∷ ps) qs = ap (λ zs. p.line ∷ zs) (lines_joined ps qs)

lines_in : (d : Dialect) (earlier : List Segment) (unit : Segment) (before lines : List Line)
    → lines_of (places_in d earlier unit before lines) ≡ lines
lines_in d earlier unit before [] = refl
lines_in d earlier unit before (line ∷ lines) = ap (λ zs. line ∷ zs) (lines_in d earlier unit (before ++ line ∷ []) lines)

lines_from : (d : Dialect) (earlier units : List Segment) → lines_of (places_from d earlier units) ≡ joined units
lines_from d earlier [] = refl
lines_from d earlier (unit ∷ units) =
    lines_joined (places_in d earlier unit [] unit) (places_from d (earlier ++ unit ∷ []) units)
    ∙ (ap (λ zs. zs ++ lines_of (places_from d (earlier ++ unit ∷ []) units)) (lines_in d earlier unit [] unit)
    ∙ ap (λ zs. unit ++ zs) (lines_from d (earlier ++ unit ∷ []) units))

put_joined : (line : Line) (units : List Segment) → joined (put_before line units) ≡ line ∷ joined units
put_joined line [] = refl
put_joined line (unit ∷ units) = refl

begun_joined : (class : Class) (line : Line) (units : List Segment) → joined (begun_with class line units) ≡ line ∷ joined units
begun_joined Ending line units = refl
begun_joined Heading line units = put_joined line units
begun_joined Declaring line units = put_joined line units
begun_joined Performing line units = put_joined line units

segments_joined : (lines : List Line) → joined (segments lines) ≡ lines
segments_joined [] = refl
segments_joined (line ∷ lines) =
    begun_joined (class_of line.stmt) line (segments lines) ∙ ap (λ zs. line ∷ zs) (segments_joined lines)

-- ---- one statement

-- the numbers of rules ascend from one on
abbrev AscendFrom : ℕ → List Rule → Type 0
AscendFrom n [] = ⊤
AscendFrom n (r ∷ rs) = (n ≤ rule_number r) × AscendFrom (rule_number r) rs

at_least : (n : ℕ) (rs : List Rule) → AscendFrom n rs → (rule : Rule) → IsIn rule rs → n ≤ rule_number rule
at_least n [] a rule m = elim m [ ]
at_least n (r ∷ rs) a rule (here e) = subst (λ (z : Rule). n ≤ rule_number z) e a.0
at_least n (r ∷ rs) a rule (there m) =
    let low = a.0 in
    let high = at_least (rule_number r) rs a.1 rule m in
    omega (arith, low, high)

-- which of some rules a statement breaks
abbrev TellsRule : List Rule → Place → Option Rule → Type 0
TellsRule rs p None = (rule : Rule) → IsIn rule rs → breaks rule p ≡ false
TellsRule rs p (Some r) = IsIn r rs × (breaks r p ≡ true) × ((rule : Rule) → IsIn rule rs → breaks rule p ≡ true → rule_number r ≤ rule_number rule)

tells_rule : (n : ℕ) (rs : List Rule) → AscendFrom n rs → (p : Place) → TellsRule rs p (first_broken rs p)
tells_rule n [] a p = λ rule m. elim m [ ]
tells_rule n (r ∷ rs) a p = by (breaks r p) refl (first_broken rs p) (tells_rule (rule_number r) rs a.1 p)
  where
    least_here : (rule : Rule) → IsIn rule (r ∷ rs) → breaks rule p ≡ true → rule_number r ≤ rule_number rule
    least_here rule (here q) h = subst (λ (z : Rule). rule_number r ≤ rule_number z) q (omega arith)
    least_here rule (there m) h = at_least (rule_number r) rs a.1 rule m

    none_here : breaks r p ≡ false → ((rule : Rule) → IsIn rule rs → breaks rule p ≡ false) → (rule : Rule) → IsIn rule (r ∷ rs)
        → breaks rule p ≡ false
    none_here e rec rule (here q) = ap (λ z. breaks z p) (sym q) ∙ e
    none_here e rec rule (there m) = rec rule m

    least_later : breaks r p ≡ false → (s : Rule)
        → ((rule : Rule) → IsIn rule rs → breaks rule p ≡ true → rule_number s ≤ rule_number rule) → (rule : Rule)
        → IsIn rule (r ∷ rs) → breaks rule p ≡ true → rule_number s ≤ rule_number rule
    least_later e s rec rule (here q) h = absurd (clash (ap (λ z. breaks z p) q ∙ h) e)
    least_later e s rec rule (there m) h = rec rule m h

    by : (b : Bool) → breaks r p ≡ b → (o : Option Rule) → TellsRule rs p o → TellsRule (r ∷ rs) p (cond b (Some r) o)
    by true e o rec = (here refl, e, least_here)
    by false e None rec = none_here e rec
    by false e (Some s) rec = (there rec.0, rec.1, least_later e s rec.2)

-- ---- one stage

-- some rules that statements break
abbrev InStage : List Rule → List Place → Rule → ℕ → Type 0
InStage rs ps rule card = IsIn rule rs × IsBrokenAmong ps rule card

abbrev Rise : ℕ → List Place → Type 0
Rise card ps = ascend_above card (lines_of ps) ≡ true

risen : (card : ℕ) (p : Place) (ps : List Place) → Rise card (p ∷ ps) → Rise p.line.card ps
risen card p ps r = second_true (nat_lt card p.line.card) (ascend_above p.line.card (lines_of ps)) r

not_before : (card : ℕ) (ps : List Place) → Rise card ps → (rule : Rule) (at : ℕ) → IsBrokenAmong ps rule at → card < at
not_before card [] r rule at h = absurd h
not_before card (p ∷ ps) r rule at (inl h) =
    let less = first_true (nat_lt card p.line.card) (ascend_above p.line.card (lines_of ps)) r in
    let same = h.1 in
    grind (arith, nat_tests)
not_before card (p ∷ ps) r rule at (inr h) =
    let less = first_true (nat_lt card p.line.card) (ascend_above p.line.card (lines_of ps)) r in
    let later = not_before p.line.card ps (risen card p ps r) rule at h in
    grind (arith, nat_tests)

stage_told : (rs : List Rule) → AscendFrom 0 rs → (card : ℕ) (ps : List Place) → Rise card ps
    → TellsLeast (InStage rs ps) (fault_in_stage rs ps)
stage_told rs a card [] r = λ rule at h. h.1
stage_told rs a card (p ∷ ps) r =
    step (first_broken rs p) (tells_rule 0 rs a p) (fault_in_stage rs ps) (stage_told rs a p.line.card ps (risen card p ps r))
  where
    step : (o : Option Rule) → TellsRule rs p o → (f : Option Fault) → TellsLeast (InStage rs ps) f
        → TellsLeast (InStage rs (p ∷ ps)) (fault_or o p.line.card f)
    step (Some first) t f rec = ((t.0, inl (t.1, refl)), λ rule at h. by rule at h.0 h.1)
      where
        by : (rule : Rule) (at : ℕ) → IsIn rule rs → IsBrokenAmong (p ∷ ps) rule at → IsAtMost first p.line.card rule at
        by rule at m (inl k) = inr (k.1, t.2 rule m k.0)
        by rule at m (inr k) = inl (not_before p.line.card ps (risen card p ps r) rule at k)
    step None t (Some f) rec = ((rec.0.0, inr rec.0.1), λ rule at h. by rule at h.0 h.1)
      where
        by : (rule : Rule) (at : ℕ) → IsIn rule rs → IsBrokenAmong (p ∷ ps) rule at → IsAtMost f.rule f.card rule at
        by rule at m (inl k) = absurd (clash k.0 (t rule m))
        by rule at m (inr k) = rec.1 rule at (m, k)
    step None t None rec = λ rule at h. by rule at h.0 h.1
      where
        by : (rule : Rule) (at : ℕ) → IsIn rule rs → IsBrokenAmong (p ∷ ps) rule at → ⊥
        by rule at m (inl k) = clash k.0 (t rule m)
        by rule at m (inr k) = rec rule at (m, k)

-- ---- all stages

above : (n s : ℕ) → n ≤ s → (s ≡ n → ⊥) → suc n ≤ s
above zero zero low other = absurd (other refl)
above zero (suc s) low other = omega arith
above (suc n) zero low other = absurd (omega (arith, low))
above (suc n) (suc s) low other = let r = above n s (omega (arith, low)) (λ e. other (ap suc e)) in omega (arith, r)

-- each of some rules is of a stage
abbrev AreOfStage : ℕ → List Rule → Type 0
AreOfStage n [] = ⊤
AreOfStage n (r ∷ rs) = (stage_of r ≡ n) × AreOfStage n rs

of_stage : (n : ℕ) (rs : List Rule) → AreOfStage n rs → (rule : Rule) → IsIn rule rs → stage_of rule ≡ n
of_stage n [] a rule m = elim m [ ]
of_stage n (r ∷ rs) a rule (here e) = ap stage_of (sym e) ∙ a.0
of_stage n (r ∷ rs) a rule (there m) = of_stage n rs a.1 rule m

-- all rules of a stage that statements can break
pub record IsStage (n : ℕ) (rs : List Rule) : Type 0 where
  pub ascend : AscendFrom 0 rs
  pub only : (rule : Rule) → IsIn rule rs → stage_of rule ≡ n
  pub all : (rule : Rule) (p : Place) → breaks rule p ≡ true → stage_of rule ≡ n → IsIn rule rs

-- the stages from one on
abbrev AreStages : ℕ → List (List Rule) → Type 0
AreStages n [] = (rule : Rule) (p : Place) → breaks rule p ≡ true → stage_of rule < n
AreStages n (rs ∷ rest) = IsStage n rs × AreStages (suc n) rest

abbrev From : ℕ → List Place → Rule → ℕ → Type 0
From n ps rule at = (n ≤ stage_of rule) × IsBrokenAmong ps rule at

-- a statement that breaks a rule
breaker : (ps : List Place) (rule : Rule) (at : ℕ) → IsBrokenAmong ps rule at → (p : Place) × (breaks rule p ≡ true)
breaker [] rule at h = absurd h
breaker (p ∷ ps) rule at (inl h) = (p, h.0)
breaker (p ∷ ps) rule at (inr h) = breaker ps rule at h

stages_told : (n : ℕ) (all : List (List Rule)) → AreStages n all → (card : ℕ) (ps : List Place) → Rise card ps
    → TellsFirst (From n ps) (fault_in_stages all ps)
stages_told n [] a card ps r = λ rule at h.
    let b = breaker ps rule at h.1 in
    let low = a rule b.0 b.1 in
    let high = h.0 in
    absurd (omega (arith, low, high))
stages_told n (rs ∷ rest) a card ps r =
    step (fault_in_stage rs ps) (stage_told rs a.0.ascend card ps r) (fault_in_stages rest ps) (stages_told (suc n) rest a.1 card ps r)
  where
    of : (rule : Rule) (at : ℕ) → IsBrokenAmong ps rule at → stage_of rule ≡ n → IsIn rule rs
    of rule at h e = let b = breaker ps rule at h in a.0.all rule b.0 b.1 e

    later : ((rule : Rule) (at : ℕ) → ¬ InStage rs ps rule at) → (rule : Rule) (at : ℕ) → From n ps rule at → From (suc n) ps rule at
    later none rule at h = (above n (stage_of rule) h.0 (λ e. none rule at (of rule at h.1 e, h.1)), h.1)

    step : (f : Option Fault) → TellsLeast (InStage rs ps) f → (g : Option Fault) → TellsFirst (From (suc n) ps) g
        → TellsFirst (From n ps) (fault_before f g)
    step (Some f) t g rec =
        let is : stage_of f.rule ≡ n = a.0.only f.rule t.0.0 in
        record {
          broken = (omega (arith, is), t.0.1);
          earliest = λ rule at h. let low = h.0 in omega (arith, is, low);
          least = λ rule at h e. t.1 rule at (of rule at h.1 (e ∙ is), h.1);
        }
    step None t (Some g) rec =
        let low = rec.broken.0 in
        record {
          broken = (omega (arith, low), rec.broken.1);
          earliest = λ rule at h. rec.earliest rule at (later t rule at h);
          least = λ rule at h e. rec.least rule at (later t rule at h) e;
        }
    step None t None rec = λ rule at h. rec rule at (later t rule at h)

-- ---- the stages of the rules on units

data Staged : Rule → Type 0 where
  of_order : {rule : Rule} → IsIn rule order_rules → Staged rule
  of_blocks : {rule : Rule} → IsIn rule block_rules → Staged rule
  of_names : {rule : Rule} → IsIn rule name_rules → Staged rule
  of_uses : {rule : Rule} → IsIn rule use_rules → Staged rule
  of_types : {rule : Rule} → IsIn rule type_rules → Staged rule

never : {C : Type 0} → false ≡ true → C
never h = search rules

staged : (rule : Rule) (p : Place) → breaks rule p ≡ true → Staged rule
staged StatementOrder p h = of_order (here refl)
staged NoHead p h = of_order (there (here refl))
staged NoEnd p h = of_order (there (there (here refl)))
staged BadBlockIf p h = of_blocks (here refl)
staged NameTwice p h = of_names (here refl)
staged ImplicitReal p h = of_names (there (here refl))
staged BadDimension p h = of_names (there (there (here refl)))
staged BlocksDiffer p h = of_names (there (there (there (here refl))))
staged BadAdjustable p h = of_names (there (there (there (there (here refl)))))
staged BadUse p h = of_uses (here refl)
staged BadSubscript p h = of_uses (there (here refl))
staged LabelTwice p h = of_uses (there (there (here refl)))
staged NoLabel p h = of_uses (there (there (there (here refl))))
staged BadResult p h = of_uses (there (there (there (there (here refl)))))
staged BadType p h = of_types (here refl)
staged _ p h = never h

in_order : (rule : Rule) → IsIn rule order_rules → stage_of rule ≡ 3
in_order = of_stage 3 order_rules (refl, (refl, (refl, tt)))

in_blocks : (rule : Rule) → IsIn rule block_rules → stage_of rule ≡ 4
in_blocks = of_stage 4 block_rules (refl, tt)

in_names : (rule : Rule) → IsIn rule name_rules → stage_of rule ≡ 5
in_names = of_stage 5 name_rules (refl, (refl, (refl, (refl, (refl, tt)))))

in_uses : (rule : Rule) → IsIn rule use_rules → stage_of rule ≡ 6
in_uses = of_stage 6 use_rules (refl, (refl, (refl, (refl, (refl, tt)))))

in_types : (rule : Rule) → IsIn rule type_rules → stage_of rule ≡ 7
in_types = of_stage 7 type_rules (refl, tt)

-- a rule that statements can break, with its stage and that it is one of the rules of that stage
abbrev IsIts : ℕ → Rule → List Rule → Type 0
IsIts n rule rs = stage_of rule ≡ n → IsIn rule rs

its : (rule : Rule) → Staged rule
    → IsIts 3 rule order_rules × IsIts 4 rule block_rules × IsIts 5 rule name_rules × IsIts 6 rule use_rules × IsIts 7 rule type_rules
    × (3 ≤ stage_of rule) × (stage_of rule < 8)
its rule (of_order m) =
    let e = in_order rule m in
    (λ f. m, λ f. absurd (omega (arith, e, f)), λ f. absurd (omega (arith, e, f)), λ f. absurd (omega (arith, e, f)), λ f. absurd (omega (arith, e, f)), omega (arith, e), omega (arith, e))
its rule (of_blocks m) =
    let e = in_blocks rule m in
    (λ f. absurd (omega (arith, e, f)), λ f. m, λ f. absurd (omega (arith, e, f)), λ f. absurd (omega (arith, e, f)), λ f. absurd (omega (arith, e, f)), omega (arith, e), omega (arith, e))
its rule (of_names m) =
    let e = in_names rule m in
    (λ f. absurd (omega (arith, e, f)), λ f. absurd (omega (arith, e, f)), λ f. m, λ f. absurd (omega (arith, e, f)), λ f. absurd (omega (arith, e, f)), omega (arith, e), omega (arith, e))
its rule (of_uses m) =
    let e = in_uses rule m in
    (λ f. absurd (omega (arith, e, f)), λ f. absurd (omega (arith, e, f)), λ f. absurd (omega (arith, e, f)), λ f. m, λ f. absurd (omega (arith, e, f)), omega (arith, e), omega (arith, e))
its rule (of_types m) =
    let e = in_types rule m in
    (λ f. absurd (omega (arith, e, f)), λ f. absurd (omega (arith, e, f)), λ f. absurd (omega (arith, e, f)), λ f. absurd (omega (arith, e, f)), λ f. m, omega (arith, e), omega (arith, e))

all_stages : AreStages 3 stages
all_stages = (
  record { ascend = (omega arith, (omega arith, (omega arith, tt))); only = in_order; all = λ rule p h. (its rule (staged rule p h)).0 },
  (
    record { ascend = (omega arith, tt); only = in_blocks; all = λ rule p h. (its rule (staged rule p h)).1 },
    (
      record { ascend = (omega arith, (omega arith, (omega arith, (omega arith, (omega arith, tt))))); only = in_names; all = λ rule p h. (its rule (staged rule p h)).2 },
      (
        record { ascend = (omega arith, (omega arith, (omega arith, (omega arith, (omega arith, tt))))); only = in_uses; all = λ rule p h. (its rule (staged rule p h)).3 },
        (
          record { ascend = (omega arith, tt); only = in_types; all = λ rule p h. (its rule (staged rule p h)).4 },
          λ rule p h. (its rule (staged rule p h)).6,
        ),
      ),
    ),
  ),
)

from_three : (ps : List Place) (f : Option Fault) → TellsFirst (From 3 ps) f → TellsFirst (IsBrokenAmong ps) f
from_three ps f h = by f h
  where
    up : (rule : Rule) (at : ℕ) → IsBrokenAmong ps rule at → From 3 ps rule at
    up rule at k = let b = breaker ps rule at k in ((its rule (staged rule b.0 b.1)).5, k)

    by : (f : Option Fault) → TellsFirst (From 3 ps) f → TellsFirst (IsBrokenAmong ps) f
    by None h = λ rule at k. h rule at (up rule at k)
    by (Some f) h = record {
      broken = h.broken.1;
      earliest = λ rule at k. h.earliest rule at (up rule at k);
      least = λ rule at k e. h.least rule at (up rule at k) e;
    }

told : (d : Dialect) (lines : List Line) → ascend_above 0 lines ≡ true → TellsFirst (IsUnitRuleBroken d lines) (fault_of d lines)
told d [] a = record {
  broken = (refl, refl);
  earliest = λ rule at h. subst (λ (r : Rule). 3 ≤ stage_of r) (sym h.0) (omega arith);
  least = λ rule at h e. inr (sym h.1, subst (λ (r : Rule). 13 ≤ rule_number r) (sym h.0) (omega arith));
}
told d (line ∷ lines) a =
    let ps = places d (segments (line ∷ lines)) in
    let rise : Rise 0 ps = ap (ascend_above 0) (lines_from d [] (segments (line ∷ lines)) ∙ segments_joined (line ∷ lines)) ∙ a in
    from_three ps (fault_in_stages stages ps) (stages_told 3 stages all_stages 0 ps rise)

pub first_unit_fault_is_least : FirstUnitFaultIsLeast
first_unit_fault_is_least d pieces ascend = told d (statements pieces) (statements_ascend 0 pieces ascend)
