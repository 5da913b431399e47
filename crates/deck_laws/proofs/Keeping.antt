-- What statements keep where a deck has no fault: each place breaks no rule.
use Rattle.std.proofs.Common.{◌≡◌, ℕ, Bool, true, false, cond, List, [], ◌∷◌, ◌++◌, Option, Some, None, refl, sym, ap, ◌∙◌, subst, rules, append_assoc, append-nil}
use Rattle.std.specs.Prelude.{⊤}
use Rattle.fort_syntax.specs.CardRules.{fault_or}
use Rattle.fort_syntax.specs.Units.{Segment}
use Rattle.fort_syntax.specs.OrderRules.{Place, places_in, places_from, breaks_12, breaks_13, breaks_14, breaks_50}
use Rattle.fort_syntax.specs.NameRules.{breaks_15, breaks_16, breaks_17, breaks_24, breaks_25}
use Rattle.fort_syntax.specs.UseRules.{breaks_18, breaks_19, breaks_20, breaks_21, breaks_22, breaks_23}
use Rattle.fort_syntax.specs.UnitRules.{breaks, order_rules, block_rules, name_rules, use_rules, type_rules, stages, first_broken, fault_in_stage, fault_before, fault_in_stages}
use Rattle.fort_syntax.specs.declared.dialect.Dialect.{Dialect}
use Rattle.fort_syntax.specs.declared.refusal.Fault.{Fault}
use Rattle.fort_syntax.specs.declared.rule.Rule.{Rule}
use Rattle.fort_syntax.specs.declared.rule.Rule.TheVariants.{StatementOrder, NoHead, NoEnd, NameTwice, ImplicitReal, BadDimension, BadUse, BadType, BadSubscript, LabelTwice, NoLabel, BadResult, BlocksDiffer, BadAdjustable, BadBlockIf}
use Rattle.fort_syntax.specs.declared.unit.Line.{Line}
use Rattle.deck_laws.proofs.Members.{IsIn, here, there, in_left, in_right}

-- a place breaks no rule
pub record KeepsRules (p : Place) : Type 0 where
  pub order : breaks_12 p ≡ false
  pub head : breaks_13 p ≡ false
  pub last : breaks_14 p ≡ false
  pub declared : breaks_15 p ≡ false
  pub typed : breaks_16 p ≡ false
  pub shapes : breaks_17 p ≡ false
  pub uses : breaks_18 p ≡ false
  pub types : breaks_19 p ≡ false
  pub subscripts : breaks_20 p ≡ false
  pub labels : breaks_21 p ≡ false
  pub targets : breaks_22 p ≡ false
  pub result : breaks_23 p ≡ false
  pub blocks : breaks_24 p ≡ false
  pub adjustable : breaks_25 p ≡ false
  pub nesting : breaks_50 p ≡ false

unbroken_or : (b : Bool) (rule : Rule) (more : Option Rule) → cond b (Some rule) more ≡ None → (b ≡ false)
    × (more ≡ None)
unbroken_or true rule more h = search rules
unbroken_or false rule more h = (refl, h)

none_broken : (rules : List Rule) (p : Place) → first_broken rules p ≡ None → (rule : Rule) → IsIn rule rules
    → breaks rule p ≡ false
none_broken [] p h rule m = elim m [ ]
none_broken (r ∷ rs) p h rule (here e) =
    ap (λ z. breaks z p) (sym e) ∙ (unbroken_or (breaks r p) r (first_broken rs p) h).0
none_broken (r ∷ rs) p h rule (there m) = none_broken rs p (unbroken_or (breaks r p) r (first_broken rs p) h).1 rule m

no_fault_or : (o : Option Rule) (card : ℕ) (later : Option Fault) → fault_or o card later ≡ None → (o ≡ None)
    × (later ≡ None)
no_fault_or (Some rule) card later h = search rules
no_fault_or None card later h = (refl, h)

stage_kept : (rules : List Rule) (all : List Place) → fault_in_stage rules all ≡ None → (p : Place) → IsIn p all
    → first_broken rules p ≡ None
stage_kept rules [] h p m = elim m [ ]
stage_kept rules (q ∷ qs) h p (here e) =
    ap (first_broken rules) (sym e) ∙ (no_fault_or (first_broken rules q) q.line.card (fault_in_stage rules qs) h).0
stage_kept rules (q ∷ qs) h p (there m) =
    stage_kept rules qs (no_fault_or (first_broken rules q) q.line.card (fault_in_stage rules qs) h).1 p m

no_fault_before : (a b : Option Fault) → fault_before a b ≡ None → (a ≡ None) × (b ≡ None)
no_fault_before (Some fault) b h = search rules
no_fault_before None b h = (refl, h)

stages_kept : (all_stages : List (List Rule)) (all : List Place) → fault_in_stages all_stages all ≡ None
    → (stage : List Rule) → IsIn stage all_stages → fault_in_stage stage all ≡ None
stages_kept [] all h stage m = elim m [ ]
stages_kept (s ∷ ss) all h stage (here e) =
    ap (λ z. fault_in_stage z all) (sym e) ∙ (no_fault_before (fault_in_stage s all) (fault_in_stages ss all) h).0
stages_kept (s ∷ ss) all h stage (there m) =
    stages_kept ss all (no_fault_before (fault_in_stage s all) (fault_in_stages ss all) h).1 stage m

pub rules_kept : (all : List Place) → fault_in_stages stages all ≡ None → (p : Place) → IsIn p all → KeepsRules p
rules_kept all h p m =
    record {
      order = of order_rules (here refl) StatementOrder (here refl);
      head = of order_rules (here refl) NoHead (there (here refl));
      last = of order_rules (here refl) NoEnd (there (there (here refl)));
      declared = of name_rules names NameTwice (here refl);
      typed = of name_rules names ImplicitReal (there (here refl));
      shapes = of name_rules names BadDimension (there (there (here refl)));
      uses = of use_rules its_uses BadUse (here refl);
      types = of type_rules (there (there (there (there (here refl))))) BadType (here refl);
      subscripts = of use_rules its_uses BadSubscript (there (here refl));
      labels = of use_rules its_uses LabelTwice (there (there (here refl)));
      targets = of use_rules its_uses NoLabel (there (there (there (here refl))));
      result = of use_rules its_uses BadResult (there (there (there (there (here refl)))));
      blocks = of name_rules names BlocksDiffer (there (there (there (here refl))));
      adjustable = of name_rules names BadAdjustable (there (there (there (there (here refl)))));
      nesting = of block_rules (there (here refl)) BadBlockIf (here refl);
    }
  where
    of : (stage : List Rule) → IsIn stage stages → (rule : Rule) → IsIn rule stage → breaks rule p ≡ false
    of stage s rule r = none_broken stage p (stage_kept stage all (stages_kept stages all h stage s) p m) rule r

    names : IsIn name_rules stages
    names = there (there (here refl))

    its_uses : IsIn use_rules stages
    its_uses = there (there (there (here refl)))

-- ---- the places of a unit

abbrev pub place : Dialect → List Segment → Segment → List Line → Line → List Line → Place
place d earlier unit before line behind =
    record { dialect = d; earlier = earlier; unit = unit; before = before; line = line; behind = behind }

-- each place of a unit breaks no rule
abbrev pub KeepsAll : Dialect → List Segment → Segment → Type 0
KeepsAll d earlier unit =
    (before : List Line) (line : Line) (behind : List Line) → before ++ (line ∷ behind) ≡ unit
    → KeepsRules (place d earlier unit before line behind)

-- where a statement of a unit stands
pub place_in : (d : Dialect) (earlier : List Segment) (unit : Segment) (first lines before : List Line) (line : Line)
    (behind : List Line)
    → before ++ (line ∷ behind) ≡ lines
    → IsIn (place d earlier unit (first ++ before) line behind) (places_in d earlier unit first lines)
place_in d earlier unit first lines [] line behind e =
    subst (λ z. IsIn (place d earlier unit (first ++ []) line behind) (places_in d earlier unit first z)) e
    (here (ap (λ z. place d earlier unit z line behind) (sym (append-nil first))))
place_in d earlier unit first lines (b ∷ bs) line behind e =
    subst (λ z. IsIn (place d earlier unit (first ++ (b ∷ bs)) line behind) (places_in d earlier unit first z)) e
    (there (subst (λ z. IsIn (place d earlier unit z line behind)
    (places_in d earlier unit (first ++ b ∷ []) (bs ++ (line ∷ behind))))
    (append_assoc first (b ∷ []) bs)
    (place_in d earlier unit (first ++ b ∷ []) (bs ++ (line ∷ behind)) bs line behind refl)))

-- all units keep the rules, each behind those before it
abbrev pub AllKeep : Dialect → List Segment → List Segment → Type 0
AllKeep d earlier [] = ⊤
AllKeep d earlier (unit ∷ units) = KeepsAll d earlier unit × AllKeep d (earlier ++ unit ∷ []) units

pub all_keep : (d : Dialect) (earlier units : List Segment)
    → ((p : Place) → IsIn p (places_from d earlier units) → KeepsRules p)
    → AllKeep d earlier units
all_keep d earlier [] h = tt
all_keep d earlier (unit ∷ units) h = (
  λ before line behind e.
      h (place d earlier unit before line behind)
      (in_left (places_in d earlier unit [] unit) (places_from d (earlier ++ unit ∷ []) units)
      (place_in d earlier unit [] unit before line behind e)),
  all_keep d (earlier ++ unit ∷ []) units
      (λ p m. h p (in_right (places_in d earlier unit [] unit) (places_from d (earlier ++ unit ∷ []) units) m)),
)

-- ---- members as places

-- a statement of some, with what stands before and behind it
pub record Found (line : Line) (lines : List Line) : Type 0 where
  pub before : List Line
  pub behind : List Line
  pub whole : before ++ (line ∷ behind) ≡ lines

pub found : (line : Line) (lines : List Line) → IsIn line lines → Found line lines
found line [] m = elim m [ ]
found line (x ∷ xs) (here e) = record { before = []; behind = xs; whole = ap (λ z. z ∷ xs) (sym e) }
found line (x ∷ xs)
    (there m) = let f = found line xs m in record {
      before = x ∷ f.before;
      behind = f.behind;
      whole = ap
          (λ zs. x ∷ zs) f.whole;
    }
