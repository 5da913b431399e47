-- Two walks along one path, in two senses between which things correspond.
use Rattle.std.proofs.Common.{◌≡◌, ℕ, suc, Bool, true, false, cond, ℤ, pos, List, [], ◌∷◌, ◌++◌, map, refl}
use Rattle.formula.specs.declared.function.BuiltIn.{BuiltIn as Builtin}
use Rattle.formula.specs.Tree.{Tree}
use Rattle.formula.specs.Atoms.{same_bytes}
use Rattle.std.specs.Prelude.{codes}
use Rattle.fort_syntax.specs.declared.name.Name.{Name}
use Rattle.fort_syntax.specs.declared.condition.Kind.{Kind}
use Rattle.fort_model.specs.Symbols.{LeastInteger, GreatestInteger, AtEntry}
use Rattle.fort_model.specs.Senses.{Sense, natural, make1, make2, make3, with_bounds, note}
use Rattle.fort_model.specs.Events.{Event, Check, Take, checks, takes}
use Rattle.fort_model.specs.Seen.{Named, Answers, Seen, See, ◌>>=◌, ◌>>◌, see, meet, next_answer}

-- each item of a list corresponds to the one at its place in another list
abbrev pub Pairwise : {A B : Type 0} → (A → B → Type 0) → List A → List B → Type 0
Pairwise R [] [] = Unit {0}
Pairwise R [] (y ∷ ys) = ⊥
Pairwise R (x ∷ xs) [] = ⊥
Pairwise R (x ∷ xs) (y ∷ ys) = R x y × Pairwise R xs ys

pub pairwise_append : {A B : Type 0} (R : A → B → Type 0) (xs : List A) (ys : List B) (us : List A) (vs : List B)
    → Pairwise R xs ys → Pairwise R us vs → Pairwise R (xs ++ us) (ys ++ vs)
pairwise_append R [] [] us vs h k = k
pairwise_append R [] (y ∷ ys) us vs h k = absurd h
pairwise_append R (x ∷ xs) [] us vs h k = absurd h
pairwise_append R (x ∷ xs) (y ∷ ys) us vs h k = (h.0, pairwise_append R xs ys us vs h.1 k)

pub pairwise_map : {A B C : Type 0} (R : B → C → Type 0) (f : A → B) (g : A → C) (xs : List A) → ((x : A) → R (f x) (g x)) → Pairwise R (map f xs) (map g xs)
pairwise_map R f g [] h = tt
pairwise_map R f g (x ∷ xs) h = (h x, pairwise_map R f g xs h)

-- things of two senses correspond: numbers, truth values, functions, terms of notes, and symbols of bounds and entry values
pub record Correspond {V W : Type 0} (R : V → W → Type 0) (s : Sense V) (t : Sense W) : Type 0 where
  pub number : (z : ℤ) → R (s.number z) (t.number z)
  pub truth_value : (b : Bool) → R (s.truth_value b) (t.truth_value b)
  pub make : (g : Builtin) (xs : List V) (ys : List W) → Pairwise R xs ys → R (s.make g xs) (t.make g ys)
  pub told : (now : List ℕ → V) (now' : List ℕ → W) (old : List ℕ → V) (old' : List ℕ → W)
      → ((w : List ℕ) → R (now w) (now' w)) → ((w : List ℕ) → R (old w) (old' w)) → (term : Tree) → R (s.told now old term) (t.told now' old' term)
  pub least : R (s.named LeastInteger) (t.named LeastInteger)
  pub greatest : R (s.named GreatestInteger) (t.named GreatestInteger)
  pub entries : (x : Name) → R (s.named (AtEntry x)) (t.named (AtEntry x))

module _ {V W : Type 0} (R : V → W → Type 0) where
  -- events of one kind and card, with things that correspond
  abbrev pub EventsAlike : Event V → Event W → Type 0
  EventsAlike (Check kind card v) (Check kind' card' w) = (kind ≡ kind') × (card ≡ card') × R v w
  EventsAlike (Check kind card v) (Take w) = ⊥
  EventsAlike (Take v) (Check kind card w) = ⊥
  EventsAlike (Take v) (Take w) = R v w

  abbrev pub NamesAlike : Named V → Named W → Type 0
  NamesAlike now now' = (x : Name) → R (now x) (now' x)

  abbrev pub AnswersAlike : Answers V → Answers W → Type 0
  AnswersAlike ps qs = (i : ℕ) → NamesAlike (ps i) (qs i)

  -- parts of walks: for answers that correspond they come to values that correspond, meet events that do, and leave answers that do
  pub record SeenAlike {A B : Type 0} (Q : A → B → Type 0) (a : Seen V A) (b : Seen W B) : Type 0 where
    pub value : Q a.value b.value
    pub events : Pairwise EventsAlike a.events b.events
    pub rest : AnswersAlike a.rest b.rest

  abbrev pub Alike : {A B : Type 0} → (A → B → Type 0) → See V A → See W B → Type 0
  Alike Q p q = (ps : Answers V) (qs : Answers W) → AnswersAlike ps qs → SeenAlike Q (p ps) (q qs)

  abbrev pub Anything : {A B : Type 0} → A → B → Type 0
  Anything a b = Unit {0}

  pub alike_then : {A B C D : Type 0} (Q : A → B → Type 0) (P : C → D → Type 0) (p : See V A) (q : See W B) (f : A → See V C) (g : B → See W D)
      → Alike Q p q → ((a : A) (b : B) → Q a b → Alike P (f a) (g b)) → Alike P (p >>= f) (q >>= g)
  alike_then Q P p q f g first next ps qs h =
      let a = first ps qs h in
      let b = next (p ps).value (q qs).value a.value (p ps).rest (q qs).rest a.rest in
      record { value = b.value; events = pairwise_append EventsAlike _ _ _ _ a.events b.events; rest = b.rest }

  pub alike_before : {A B C D : Type 0} (Q : A → B → Type 0) (P : C → D → Type 0) (p : See V A) (q : See W B) (f : See V C) (g : See W D)
      → Alike Q p q → Alike P f g → Alike P (p >> f) (q >> g)
  alike_before Q P p q f g first next = alike_then Q P p q (λ _. f) (λ _. g) first (λ a b h. next)

  pub alike_see : {A B : Type 0} (Q : A → B → Type 0) (a : A) (b : B) → Q a b → Alike Q (see a) (see b)
  alike_see Q a b h ps qs k = record { value = h; events = tt; rest = k }

  pub alike_meet : (es : List (Event V)) (fs : List (Event W)) → Pairwise EventsAlike es fs → Alike Anything (meet es) (meet fs)
  alike_meet es fs h ps qs k = record { value = tt; events = h; rest = k }

  pub alike_cond : {A B : Type 0} (Q : A → B → Type 0) (b : Bool) (p p' : See V A) (q q' : See W B) → Alike Q p q → Alike Q p' q' → Alike Q (cond b p p') (cond b q q')
  alike_cond Q true p p' q q' h k = h
  alike_cond Q false p p' q q' h k = k

  pub alike_next_answer : Alike NamesAlike next_answer next_answer
  alike_next_answer ps qs h = record { value = h 0; events = tt; rest = λ i. h (suc i) }

  pub checks_alike : (kind : Kind) (card : ℕ) (xs : List V) (ys : List W) → Pairwise R xs ys → Pairwise EventsAlike (checks kind card xs) (checks kind card ys)
  checks_alike kind card [] [] h = tt
  checks_alike kind card [] (y ∷ ys) h = absurd h
  checks_alike kind card (x ∷ xs) [] h = absurd h
  checks_alike kind card (x ∷ xs) (y ∷ ys) h = ((refl, refl, h.0), checks_alike kind card xs ys h.1)

  pub takes_alike : (xs : List V) (ys : List W) → Pairwise R xs ys → Pairwise EventsAlike (takes xs) (takes ys)
  takes_alike [] [] h = tt
  takes_alike [] (y ∷ ys) h = absurd h
  takes_alike (x ∷ xs) [] h = absurd h
  takes_alike (x ∷ xs) (y ∷ ys) h = (h.0, takes_alike xs ys h.1)

  pub pick_alike : (b : Bool) (x x' : V) (y y' : W) → R x y → R x' y' → R (cond b x x') (cond b y y')
  pick_alike true x x' y y' h k = h
  pick_alike false x x' y y' h k = k

  module _ (s : Sense V) (t : Sense W) (c : Correspond R s t) where
    pub natural_alike : (n : ℕ) → R (natural s n) (natural t n)
    natural_alike n = c.number (pos n)

    pub make1_alike : (g : Builtin) (a : V) (b : W) → R a b → R (make1 s g a) (make1 t g b)
    make1_alike g a b h = c.make g _ _ (h, tt)

    pub make2_alike : (g : Builtin) (a a' : V) (b b' : W) → R a b → R a' b' → R (make2 s g a a') (make2 t g b b')
    make2_alike g a a' b b' h k = c.make g _ _ (h, (k, tt))

    pub make3_alike : (g : Builtin) (a a' a2 : V) (b b' b2 : W) → R a b → R a' b' → R a2 b2 → R (make3 s g a a' a2) (make3 t g b b' b2)
    make3_alike g a a' a2 b b' b2 h k l = c.make g _ _ (h, (k, (l, tt)))

    bounds_alike : (now : List ℕ → V) (now' : List ℕ → W) → ((w : List ℕ) → R (now w) (now' w)) → (w : List ℕ) → R (with_bounds s now w) (with_bounds t now' w)
    bounds_alike now now' h w =
        pick_alike (same_bytes (codes "LEAST") w) _ _ _ _ c.least (pick_alike (same_bytes (codes "GREATEST") w) _ _ _ _ c.greatest (h w))

    pub note_alike : (entry now : List ℕ → V) (entry' now' : List ℕ → W) → ((w : List ℕ) → R (entry w) (entry' w)) → ((w : List ℕ) → R (now w) (now' w)) → (term : Tree)
        → R (note s entry now term) (note t entry' now' term)
    note_alike entry now entry' now' h k term = c.told _ _ _ _ (bounds_alike now now' k) h term
