-- Lists of events that begin alike, and part at facts that exclude each other.
use Rattle.std.proofs.Common.{◌≡◌, ℕ, ◌⊎◌, inl, inr, true, false, List, [], ◌∷◌, ◌++◌, refl, sym, ap, ◌∙◌, subst, append_assoc}
use Rattle.formula.specs.declared.value.Value.{Value}
use Rattle.formula.specs.Values.{holds}
use Rattle.fort_syntax.specs.declared.condition.Kind.{Kind}
use Rattle.fort_model.specs.Events.{Event, Check, Take}
use Rattle.fort_laws.specs.Matches.{AllTrue, FirstFails}
use Rattle.fort_laws.proofs.FrameSeats.{clash}

-- not both are true
abbrev pub Exclude : Value → Value → Type 0
Exclude v t = holds v ≡ true → holds t ≡ true → ⊥

-- two lists of events begin alike, and then have facts that exclude each other
pub record Part (es fs : List (Event Value)) : Type 0 where
  pub before : List (Event Value)
  pub one : Value
  pub other : Value
  pub behind_one : List (Event Value)
  pub behind_other : List (Event Value)
  pub first_is : es ≡ before ++ Take one ∷ behind_one
  pub second_is : fs ≡ before ++ Take other ∷ behind_other
  pub exclude : Exclude one other

abbrev none : List (Event Value)
none = []

pub part_here : (v t : Value) (es fs : List (Event Value)) → Exclude v t → Part (Take v ∷ es) (Take t ∷ fs)
part_here v t es fs h = record { before = none; one = v; other = t; behind_one = es; behind_other = fs; first_is = refl; second_is = refl; exclude = h }

-- something alike in front
pub part_after : (pre es fs : List (Event Value)) → Part es fs → Part (pre ++ es) (pre ++ fs)
part_after pre es fs p = record {
  before = pre ++ p.before;
  one = p.one;
  other = p.other;
  behind_one = p.behind_one;
  behind_other = p.behind_other;
  first_is = ap (λ (xs : List (Event Value)). pre ++ xs) p.first_is ∙ sym (append_assoc pre p.before (Take p.one ∷ p.behind_one));
  second_is = ap (λ (xs : List (Event Value)). pre ++ xs) p.second_is ∙ sym (append_assoc pre p.before (Take p.other ∷ p.behind_other));
  exclude = p.exclude;
}

-- something behind
pub part_then : (es fs xs ys : List (Event Value)) → Part es fs → Part (es ++ xs) (fs ++ ys)
part_then es fs xs ys p = record {
  before = p.before;
  one = p.one;
  other = p.other;
  behind_one = p.behind_one ++ xs;
  behind_other = p.behind_other ++ ys;
  first_is = ap (λ (zs : List (Event Value)). zs ++ xs) p.first_is ∙ append_assoc p.before (Take p.one ∷ p.behind_one) xs;
  second_is = ap (λ (zs : List (Event Value)). zs ++ ys) p.second_is ∙ append_assoc p.before (Take p.other ∷ p.behind_other) ys;
  exclude = p.exclude;
}

-- the same with something else known
pub after : {X : Type 0} (pre es fs : List (Event Value)) → X ⊎ Part es fs → X ⊎ Part (pre ++ es) (pre ++ fs)
after pre es fs (inl x) = inl x
after pre es fs (inr p) = inr (part_after pre es fs p)

pub after_one : {X : Type 0} (e : Event Value) (es fs : List (Event Value)) → X ⊎ Part es fs → X ⊎ Part (e ∷ es) (e ∷ fs)
after_one e es fs h = after (e ∷ []) es fs h

pub or_part : {X Y P : Type 0} → (X → Y) → X ⊎ P → Y ⊎ P
or_part f (inl x) = inl (f x)
or_part f (inr p) = inr p

-- ---- first false events

-- the first event that is false is a fact
abbrev pub GoesOff : List (Event Value) → Type 0
GoesOff [] = ⊥
GoesOff (Check kind card v ∷ es) = (holds v ≡ true) × GoesOff es
GoesOff (Take v ∷ es) = ((holds v ≡ true) × GoesOff es) ⊎ (holds v ≡ false)

pub failing_stays : (kind : Kind) (card : ℕ) (es : List (Event Value)) → FirstFails kind card es → GoesOff es → ⊥
failing_stays kind card [] h g = g
failing_stays kind card (Check k c v ∷ es) (inl h) g = failing_stays kind card es h.1 g.1
failing_stays kind card (Check k c v ∷ es) (inr h) g = clash (holds v) g.0 h.0
failing_stays kind card (Take v ∷ es) h (inl g) = failing_stays kind card es h.1 g.1
failing_stays kind card (Take v ∷ es) h (inr f) = clash (holds v) h.0 f

-- what is false behind what is true
pub fails_behind : (kind : Kind) (card : ℕ) (es fs : List (Event Value)) → AllTrue es → FirstFails kind card (es ++ fs) → FirstFails kind card fs
fails_behind kind card [] fs h f = f
fails_behind kind card (Check k c v ∷ es) fs h (inl f) = fails_behind kind card es fs h.1 f.1
fails_behind kind card (Check k c v ∷ es) fs h (inr f) = absurd (clash (holds v) h.0 f.0)
fails_behind kind card (Take v ∷ es) fs h f = fails_behind kind card es fs h.1 f.1

pub off_behind : (es fs : List (Event Value)) → AllTrue es → GoesOff (es ++ fs) → GoesOff fs
off_behind [] fs h g = g
off_behind (Check k c v ∷ es) fs h g = off_behind es fs h.1 g.1
off_behind (Take v ∷ es) fs h (inl g) = off_behind es fs h.1 g.1
off_behind (Take v ∷ es) fs h (inr f) = absurd (clash (holds v) h.0 f)

-- one check alone is the first that is false
pub one_failure : (kind other : Kind) (card place : ℕ) (es : List (Event Value)) → FirstFails kind card es → FirstFails other place es → (kind ≡ other) × (card ≡ place)
one_failure kind other card place [] h k = absurd h
one_failure kind other card place (Check x c v ∷ es) (inl h) (inl k) = one_failure kind other card place es h.1 k.1
one_failure kind other card place (Check x c v ∷ es) (inl h) (inr k) = absurd (clash (holds v) h.0 k.0)
one_failure kind other card place (Check x c v ∷ es) (inr h) (inl k) = absurd (clash (holds v) k.0 h.0)
one_failure kind other card place (Check x c v ∷ es) (inr h) (inr k) = (sym h.1 ∙ k.1, sym h.2 ∙ k.2)
one_failure kind other card place (Take v ∷ es) h k = one_failure kind other card place es h.1 k.1

-- Of two lists that part, let the first false event of the second be a check. Then it is that of the first too, or the first goes off.
fails_in_both : (kind : Kind) (card : ℕ) (before : List (Event Value)) (v t : Value) (es fs : List (Event Value)) → Exclude v t → FirstFails kind card (before ++ Take t ∷ fs)
    → FirstFails kind card (before ++ Take v ∷ es) ⊎ GoesOff (before ++ Take v ∷ es)
fails_in_both kind card [] v t es fs x h = inr (inr (untrue (holds v) (λ e. x e h.0)))
  where
    untrue : (b : _) → (b ≡ true → ⊥) → b ≡ false
    untrue true n = absurd (n refl)
    untrue false n = refl
fails_in_both kind card (Check k c s ∷ before) v t es fs x (inl h) = next (fails_in_both kind card before v t es fs x h.1)
  where
    next : FirstFails kind card (before ++ Take v ∷ es) ⊎ GoesOff (before ++ Take v ∷ es) → FirstFails kind card (Check k c s ∷ (before ++ Take v ∷ es)) ⊎ GoesOff (Check k c s ∷ (before ++ Take v ∷ es))
    next (inl f) = inl (inl (h.0, f))
    next (inr g) = inr (h.0, g)
fails_in_both kind card (Check k c s ∷ before) v t es fs x (inr h) = inl (inr h)
fails_in_both kind card (Take s ∷ before) v t es fs x h = next (fails_in_both kind card before v t es fs x h.1)
  where
    next : FirstFails kind card (before ++ Take v ∷ es) ⊎ GoesOff (before ++ Take v ∷ es) → FirstFails kind card (Take s ∷ (before ++ Take v ∷ es)) ⊎ GoesOff (Take s ∷ (before ++ Take v ∷ es))
    next (inl f) = inl (h.0, f)
    next (inr g) = inr (inl (h.0, g))

pub part_fails : (kind : Kind) (card : ℕ) (es fs : List (Event Value)) → Part es fs → FirstFails kind card fs → FirstFails kind card es ⊎ GoesOff es
part_fails kind card es fs p h =
    subst (λ (xs : List (Event Value)). FirstFails kind card xs ⊎ GoesOff xs) (sym p.first_is)
    (fails_in_both kind card p.before p.one p.other p.behind_one p.behind_other p.exclude
    (subst (λ (xs : List (Event Value)). FirstFails kind card xs) p.second_is h))

-- of two lists that part, not both are all true
pub part_true : (es fs : List (Event Value)) → Part es fs → AllTrue es → AllTrue fs → ⊥
part_true es fs p h k =
    p.exclude
    (fact_true p.before p.one p.behind_one (subst (λ (xs : List (Event Value)). AllTrue xs) p.first_is h))
    (fact_true p.before p.other p.behind_other (subst (λ (xs : List (Event Value)). AllTrue xs) p.second_is k))
  where
    fact_true : (before : List (Event Value)) (v : Value) (xs : List (Event Value)) → AllTrue (before ++ Take v ∷ xs) → holds v ≡ true
    fact_true [] v xs h = h.0
    fact_true (Check kind card s ∷ before) v xs h = fact_true before v xs h.1
    fact_true (Take s ∷ before) v xs h = fact_true before v xs h.1
