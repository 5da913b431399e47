-- There is at most one first fault.
use Rattle.std.proofs.Common.{◌≡◌, ◌≤◌, ◌<◌, ◌⊎◌, inl, inr, ℕ, ◌-◌, List, [], ◌∷◌, refl, sym, ap, ◌∙◌, subst, arith}
use Rattle.std.specs.Prelude.{get_or}
use Rattle.fort_syntax.specs.FirstFaults.{IsAtMost, IsFirstOf, HasOneWord, stage_of}
use Rattle.fort_syntax.specs.Rules.{rule_number}
use Rattle.fort_syntax.specs.declared.refusal.Fault.{Fault}
use Rattle.fort_syntax.specs.declared.rule.Rule.{Rule}
use Rattle.fort_syntax.specs.declared.rule.Rule.TheVariants.{TooLong, BadByte, BadLabel, NoInitial, ManyCards, BadNoteCard, Excluded, BadStatement, RealConstant, BigNumber, TooDeep, StatementOrder, NoHead, NoEnd, NameTwice, ImplicitReal, BadDimension, BadUse, BadType, BadSubscript, LabelTwice, NoLabel, BadResult, BlocksDiffer, BadAdjustable, BadLastOfDo, CrossedDo, JumpIntoDo, DoSmashed, FallsOffEnd, UncutCycle, BadNote, NoInputOrOutput, UnknownNoteName, OutputNamesLocal, ClockLength, UnitTwice, UnknownUnit, Recursion, BadArguments, SmashedNotName, SmashedTwice, SmashedCommon, BlockMissing, FunctionSmashes, ManyPaths, ManyConditions, Heavy, DimensionSmashed, BadBlockIf}

-- the rules in the order of their numbers
abbrev in_order : List ℕ → List Rule
in_order word =
    TooLong ∷ BadByte ∷ BadLabel ∷ NoInitial ∷ ManyCards ∷ BadNoteCard ∷ Excluded word ∷ BadStatement ∷ RealConstant ∷ BigNumber
    ∷ TooDeep ∷ StatementOrder ∷ NoHead ∷ NoEnd ∷ NameTwice ∷ ImplicitReal ∷ BadDimension ∷ BadUse ∷ BadType ∷ BadSubscript
    ∷ LabelTwice ∷ NoLabel ∷ BadResult ∷ BlocksDiffer ∷ BadAdjustable ∷ BadLastOfDo ∷ CrossedDo ∷ JumpIntoDo ∷ DoSmashed ∷ FallsOffEnd
    ∷ UncutCycle ∷ BadNote ∷ NoInputOrOutput ∷ UnknownNoteName ∷ OutputNamesLocal ∷ ClockLength ∷ UnitTwice ∷ UnknownUnit ∷ Recursion ∷ BadArguments
    ∷ SmashedNotName ∷ SmashedTwice ∷ SmashedCommon ∷ BlockMissing ∷ FunctionSmashes ∷ ManyPaths ∷ ManyConditions ∷ Heavy ∷ DimensionSmashed ∷ BadBlockIf
    ∷ []

abbrev numbered : ℕ → List ℕ → Rule
numbered n word = get_or (in_order word) (n - 1) TooLong

abbrev word_in : Rule → List ℕ
word_in (Excluded word) = word
word_in rule = []

is_numbered : (rule : Rule) → numbered (rule_number rule) (word_in rule) ≡ rule
is_numbered (Excluded word) = refl
is_numbered _ = refl

no_word : (rule : Rule) → (word_in rule ≡ []) ⊎ (rule_number rule ≡ 7)
no_word (Excluded word) = inr refl
no_word _ = inl refl

-- a rule of number 7 is that on excluded words
excluded : (rule : Rule) → rule_number rule ≡ 7 → rule ≡ Excluded (word_in rule)
excluded rule e = sym (is_numbered rule) ∙ ap (λ n. numbered n (word_in rule)) e

-- of two faults each of which stands before the other, or is it, cards and numbers are the same
same_place : (r s : Rule) (m n : ℕ) → IsAtMost r m s n → IsAtMost s n r m → (m ≡ n) × (rule_number r ≡ rule_number s)
same_place r s m n (inl h) (inl k) = absurd (omega (arith, h, k))
same_place r s m n (inl h) (inr k) = let e = k.0 in absurd (omega (arith, h, e))
same_place r s m n (inr h) (inl k) = let e = h.0 in absurd (omega (arith, k, e))
same_place r s m n (inr h) (inr k) = let low = h.1 in let high = k.1 in (h.0, omega (arith, low, high))

pub first_faults_are_one : (is_broken : Rule → ℕ → Type 0) → HasOneWord is_broken → (f g : Fault) → IsFirstOf is_broken f
    → IsFirstOf is_broken g → f ≡ g
first_faults_are_one is_broken one f g h k = λ i. record { rule = rules_same i; card = place.0 i }
  where
    stages_same : stage_of f.rule ≡ stage_of g.rule
    stages_same =
        let low = h.earliest g.rule g.card k.broken in
        let high = k.earliest f.rule f.card h.broken in
        omega (arith, low, high)

    place : (f.card ≡ g.card) × (rule_number f.rule ≡ rule_number g.rule)
    place =
        same_place f.rule g.rule f.card g.card (h.least g.rule g.card k.broken (sym stages_same)) (k.least f.rule f.card h.broken stages_same)

    of_seven : rule_number f.rule ≡ 7 → word_in f.rule ≡ word_in g.rule
    of_seven e =
        one g.card (word_in f.rule) (word_in g.rule)
        (subst (λ (n : ℕ). is_broken (Excluded (word_in f.rule)) n) place.0
        (subst (λ (r : Rule). is_broken r f.card) (excluded f.rule e) h.broken))
        (subst (λ (r : Rule). is_broken r g.card) (excluded g.rule (sym place.1 ∙ e)) k.broken)

    words_same : word_in f.rule ≡ word_in g.rule
    words_same = by (no_word f.rule) (no_word g.rule)
      where
        by : (word_in f.rule ≡ []) ⊎ (rule_number f.rule ≡ 7) → (word_in g.rule ≡ []) ⊎ (rule_number g.rule ≡ 7)
            → word_in f.rule ≡ word_in g.rule
        by (inl a) (inl b) = a ∙ sym b
        by (inr a) b = of_seven a
        by (inl a) (inr b) = of_seven (place.1 ∙ b)

    rules_same : f.rule ≡ g.rule
    rules_same = sym (is_numbered f.rule) ∙ ((λ i. numbered (place.1 i) (words_same i)) ∙ is_numbered g.rule)
