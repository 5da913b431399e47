-- One prover after another is asked.
use Rattle.std.proofs.Common.{◌≡◌, ◌≢◌, inl, inr, ℕ, zero, suc, ◌+◌, ◌<◌, ◌≤◌, Bool, true, false, List, [], ◌∷◌, ◌++◌, length, map, take, drop, refl, sym, ap, ◌∙◌, subst, arith, append_assoc, slice_set, slice_index_or, get_or}
use Rattle.std.proofs.lemmas.List.{length-map, map-append, take_all, take_more}
use Rattle.formula.specs.declared.definition.Definition.{Definition}
use Rattle.formula.specs.declared.node.Node.{Node}
use Rattle.formula.specs.Worth.{functions_of}
use Rattle.fort_syntax.specs.declared.condition.Condition.{Condition}
use Rattle.event_text.specs.Conditions.{condition_tree}
use Rattle.prover_box.specs.Answers.{Seen, IsKept, AreKept, IsAnswer, AreAskedOnce, AreAsked, nothing, next, AreMarked, once_more, shown, told, unclosed}
use Rattle.prover_box.specs.Tests.{IsValidIn}

nothing_left : (ss : List Seen) (i : ℕ) → length ss ≤ i → drop i ss ≡ []
nothing_left [] zero h = refl
nothing_left [] (suc i) h = refl
nothing_left (s ∷ ss) zero h = absurd (omega (arith, h))
nothing_left (s ∷ ss) (suc i) h = nothing_left ss i (omega (arith, h))

all_taken : (ss : List Seen) (i : ℕ) → length ss ≤ i → take i ss ++ [] ≡ ss
all_taken [] zero h = refl
all_taken [] (suc i) h = refl
all_taken (s ∷ ss) zero h = absurd (omega (arith, h))
all_taken (s ∷ ss) (suc i) h = ap (λ l. s ∷ l) (all_taken ss i (omega (arith, h)))

-- ---- what is kept

pub kept_itself : (ss : List Seen) → AreKept ss ss
kept_itself [] = tt
kept_itself (s ∷ ss) = (record { letter = refl; test = refl; asked = omega arith }, kept_itself ss)

pub kept_then : (xs ys zs : List Seen) → AreKept xs ys → AreKept ys zs → AreKept xs zs
kept_then [] [] [] h k = tt
kept_then [] [] (z ∷ zs) h k = absurd k
kept_then [] (y ∷ ys) zs h k = absurd h
kept_then (x ∷ xs) [] zs h k = absurd h
kept_then (x ∷ xs) (y ∷ ys) [] h k = absurd k
kept_then (x ∷ xs) (y ∷ ys) (z ∷ zs) h k =
    (record { letter = k.0.letter ∙ h.0.letter; test = k.0.test ∙ h.0.test; asked = omega (arith, h.0.asked, k.0.asked) }, kept_then xs ys zs h.1 k.1)

pub kept_once : (s : Seen) → IsKept s (once_more s)
kept_once s = record { letter = refl; test = refl; asked = omega arith }

-- one of them was asked once more
pub kept_at : {X : Type 0} (f : X → Seen) (xs : List X) (i : ℕ) (x y : X) → x ≡ slice_index_or xs i x → f y ≡ once_more (f x) → AreKept (map f xs) (map f (slice_set xs i y))
kept_at f [] i x y at is = tt
kept_at f (z ∷ xs) zero x y at is = (subst (λ s. IsKept s (f y)) (ap f at) (subst (IsKept (f x)) (sym is) (kept_once (f x))), kept_itself (map f xs))
kept_at f (z ∷ xs) (suc i) x y at is = (record { letter = refl; test = refl; asked = omega arith }, kept_at f xs i x y at is)

kept_length : (xs ys : List Seen) → AreKept xs ys → length xs ≡ length ys
kept_length [] [] h = refl
kept_length [] (y ∷ ys) h = absurd h
kept_length (x ∷ xs) [] h = absurd h
kept_length (x ∷ xs) (y ∷ ys) h = ap suc (kept_length xs ys h.1)

same_length : {X : Type 0} (f : X → Seen) (xs ys : List X) → AreKept (map f xs) (map f ys) → length xs ≡ length ys
same_length f xs ys h = sym (length-map xs f) ∙ kept_length (map f xs) (map f ys) h ∙ length-map ys f

-- a place before the end of the list stays one
pub below_by : {X : Type 0} (f : X → Seen) (xs ys : List X) (i : ℕ) → AreKept (map f xs) (map f ys) → i < length xs → i < length ys
below_by f xs ys i h below = subst (λ n. i < n) (same_length f xs ys h) below

pub whole_by : {X : Type 0} (f : X → Seen) (xs ys : List X) (i : ℕ) → AreKept (map f xs) (map f ys) → length xs ≤ i → length (map f ys) ≤ i
whole_by f xs ys i h whole = subst (λ n. n ≤ i) (same_length f xs ys h ∙ sym (length-map ys f)) whole

-- what was put at a place stands there
set_at : {X : Type 0} (xs : List X) (i : ℕ) (y z : X) → i < length xs → z ≡ slice_index_or (slice_set xs i y) i z → z ≡ y
set_at [] i y z below at = absurd (omega (arith, below))
set_at (x ∷ xs) zero y z below at = at
set_at (x ∷ xs) (suc i) y z below at = set_at xs i y z (omega (arith, below)) at

-- ---- the mark of one condition

module _ (pool : List Node) (ds : List Definition) (c : Condition) where
  -- what provers from some place on come to is what all come to, where those before it were asked and said no
  abbrev pub Leads : List Seen → ℕ → List Seen → Type 0
  Leads old i now = (rest : List Seen) (mark : ℕ) → AreAskedOnce pool ds c (drop i now) rest mark → AreAskedOnce pool ds c old (take i now ++ rest) mark

  pub leads_first : (old : List Seen) → Leads old 0 old
  leads_first old rest mark h = h

  -- the prover at a place is asked once more: the places before it, it, and those behind it
  record Split (now : List Seen) (asked : Seen) (i : ℕ) (later : List Seen) : Type 0 where
    tail : List Seen
    before : drop i now ≡ asked ∷ tail
    after : drop (suc i) later ≡ tail
    front : take (suc i) later ≡ take i now ++ once_more asked ∷ []
    all : later ≡ take i now ++ once_more asked ∷ tail

  split : {X : Type 0} (f : X → Seen) (xs : List X) (i : ℕ) (x y : X) → i < length xs → x ≡ slice_index_or xs i x → f y ≡ once_more (f x) → Split (map f xs) (f x) i (map f (slice_set xs i y))
  split f [] i x y below at is = absurd (omega (arith, below))
  split f (z ∷ xs) zero x y below at is = record {
    tail = map f xs;
    before = ap (λ (w : _). f w ∷ map f xs) (sym at);
    after = refl;
    front = ap (λ s. s ∷ []) is;
    all = ap (λ s. s ∷ map f xs) is;
  }
  split f (z ∷ xs) (suc i) x y below at is =
      let rest = split f xs i x y (omega (arith, below)) at is in
      record {
        tail = rest.tail;
        before = rest.before;
        after = rest.after;
        front = ap (λ l. f z ∷ l) rest.front;
        all = ap (λ l. f z ∷ l) rest.all;
      }

  -- a prover that said no: the next one is asked
  leads_on : {X : Type 0} (f : X → Seen) (old : List Seen) (xs : List X) (i : ℕ) (x y : X) → i < length xs → x ≡ slice_index_or xs i x → f y ≡ once_more (f x)
      → (b : Bool) → b ≡ false → IsAnswer pool ds c (f x).test b → Leads old i (map f xs) → Leads old (suc i) (map f (slice_set xs i y))
  leads_on f old xs i x y below at is b no_yes answer lead rest mark h =
      let denied : IsAnswer pool ds c (f x).test false = subst (IsAnswer pool ds c (f x).test) no_yes answer in
      let s = split f xs i x y below at is in
      let behind : AreAskedOnce pool ds c s.tail rest mark = subst (λ l. AreAskedOnce pool ds c l rest mark) s.after h in
      let from : AreAskedOnce pool ds c (drop i (map f xs)) (once_more (f x) ∷ rest) mark =
      subst (λ l. AreAskedOnce pool ds c l (once_more (f x) ∷ rest) mark) (sym s.before) (refl, inr (denied, behind)) in
      subst (λ l. AreAskedOnce pool ds c old l mark) (sym (ap (λ l. l ++ rest) s.front ∙ append_assoc (take i (map f xs)) (once_more (f x) ∷ []) rest)) (lead (once_more (f x) ∷ rest) mark from)

  pub leads_next : {X : Type 0} (f : X → Seen) (old : List Seen) (xs : List X) (i : ℕ) (x y : X) → i < length xs → x ≡ slice_index_or xs i x → f y ≡ once_more (f x)
      → (b : Bool) → b ≡ false → IsAnswer pool ds c (f x).test b → Leads old i (map f xs) → Leads old (i + 1) (map f (slice_set xs i y))
  leads_next f old xs i x y below at is b no_yes answer lead =
      let one : suc i ≡ i + 1 = omega arith in
      subst (λ k. Leads old k (map f (slice_set xs i y))) one (leads_on f old xs i x y below at is b no_yes answer lead)

  -- a prover that said yes: the mark is its letter
  pub leads_to : {X : Type 0} (f : X → Seen) (old : List Seen) (xs : List X) (i : ℕ) (x y z : X) (mark : ℕ) → i < length xs → x ≡ slice_index_or xs i x → f y ≡ once_more (f x)
      → (b : Bool) → b ≡ true → IsAnswer pool ds c (f x).test b → z ≡ slice_index_or (slice_set xs i y) i z → mark ≡ shown (f z).letter → Leads old i (map f xs)
      → AreAskedOnce pool ds c old (map f (slice_set xs i y)) mark
  leads_to f old xs i x y z mark below at is b is_yes answer there marked lead =
      let closed : IsAnswer pool ds c (f x).test true = subst (IsAnswer pool ds c (f x).test) is_yes answer in
      let told : mark ≡ shown (f x).letter = marked ∙ ap shown (ap (λ w. (f w).letter) (set_at xs i y z below there) ∙ ap (λ (w : Seen). w.letter) is) in
      let s = split f xs i x y below at is in
      let from : AreAskedOnce pool ds c (drop i (map f xs)) (once_more (f x) ∷ s.tail) mark =
      subst (λ l. AreAskedOnce pool ds c l (once_more (f x) ∷ s.tail) mark) (sym s.before) (refl, inl (closed, refl, told)) in
      subst (λ l. AreAskedOnce pool ds c old l mark) (sym s.all) (lead (once_more (f x) ∷ s.tail) mark from)

  -- all said no
  pub leads_last : (old now : List Seen) (i : ℕ) → length now ≤ i → Leads old i now → AreAskedOnce pool ds c old now unclosed
  leads_last old now i whole lead =
      let none : drop i now ≡ [] = nothing_left now i whole in
      let all : take i now ++ [] ≡ now = all_taken now i whole in
      subst (λ l. AreAskedOnce pool ds c old l unclosed) all (lead [] unclosed (subst (λ l. AreAskedOnce pool ds c l [] unclosed) (sym none) refl))

  -- a condition with a letter is valid
  pub marked_once : (old now : List Seen) (mark : ℕ) → AreAskedOnce pool ds c old now mark → mark ≢ unclosed → IsValidIn pool ds c
  marked_once [] [] mark h other = absurd (other h)
  marked_once [] (n ∷ ns) mark h other = absurd h
  marked_once (o ∷ os) [] mark h other = absurd h
  marked_once (o ∷ os) (n ∷ ns) mark (is, inl closed) other = closed.0.sound refl
  marked_once (o ∷ os) (n ∷ ns) mark (is, inr denied) other = marked_once os ns mark denied.1 other

pub marked_more : (pool : List Node) (ds : List Definition) (marks : List ℕ) (cs : List Condition) (mark : ℕ) (c : Condition) → AreMarked (functions_of pool ds) marks (map (condition_tree pool) cs) → (mark ≢ unclosed → IsValidIn pool ds c)
    → AreMarked (functions_of pool ds) (marks ++ mark ∷ []) (map (condition_tree pool) (cs ++ c ∷ []))
marked_more pool ds [] [] mark c h k = (k, tt)
marked_more pool ds [] (d ∷ cs) mark c h k = absurd h
marked_more pool ds (m ∷ marks) [] mark c h k = absurd h
marked_more pool ds (m ∷ marks) (d ∷ cs) mark c h k = (h.0, marked_more pool ds marks cs mark c h.1 k)

pub asked_marked : (pool : List Node) (ds : List Definition) (before : List Seen) (cs : List Condition) (now : List Seen) (marks : List ℕ) → AreAsked pool ds before cs now marks → AreMarked (functions_of pool ds) marks (map (condition_tree pool) cs)
asked_marked pool ds before _ _ _ nothing = tt
asked_marked pool ds before _ _ _ (next {cs = cs} {now = now} {marks = marks} c later mark h one) =
    marked_more pool ds marks cs mark c (asked_marked pool ds before cs now marks h) (marked_once pool ds c now later mark one)

-- ---- all of them

-- before the first condition
pub asked_first : (pool : List Node) (ds : List Definition) (before : List Seen) (marks : List ℕ) → marks ≡ [] → AreAsked pool ds before [] before marks
asked_first pool ds before marks is = subst (λ l. AreAsked pool ds before [] before l) (sym is) nothing

-- the next condition
pub asked_more : (pool : List Node) (ds : List Definition) (before : List Seen) (cs : List Condition) (i : ℕ) (c d : Condition) (now later : List Seen) (marks more : List ℕ) (mark : ℕ)
    → i < length cs → c ≡ get_or cs i d → more ≡ marks ++ mark ∷ [] → AreAsked pool ds before (take i cs) now marks → AreAskedOnce pool ds c now later mark
    → AreAsked pool ds before (take (i + 1) cs) later more
asked_more pool ds before cs i c d now later marks more mark below at is asked once =
    let longer : take i cs ++ c ∷ [] ≡ take (i + 1) cs = ap (λ e. take i cs ++ e ∷ []) at ∙ sym (take_more cs i d below) in
    subst (λ l. AreAsked pool ds before l later more) longer (subst (λ l. AreAsked pool ds before (take i cs ++ c ∷ []) later l) (sym is) (next c later mark asked once))

-- all conditions have their marks
pub marked_all : (pool : List Node) (ds : List Definition) (before : List Seen) (cs : List Condition) (i : ℕ) (now : List Seen) (marks given : List ℕ)
    → length cs ≤ i → given ≡ marks → AreAsked pool ds before (take i cs) now marks → AreMarked (functions_of pool ds) given (map (condition_tree pool) cs)
marked_all pool ds before cs i now marks given whole is asked =
    let all : AreAsked pool ds before cs now marks = subst (λ l. AreAsked pool ds before l now marks) (take_all i cs whole) asked in
    subst (λ l. AreMarked (functions_of pool ds) l (map (condition_tree pool) cs)) (sym is) (asked_marked pool ds before cs now marks all)

-- one more prover is told
pub told_more : {X : Type 0} (f : X → Seen) (xs : List X) (i : ℕ) (x d : X) (pair : ℕ × ℕ) (so_far more : List (ℕ × ℕ)) → i < length xs → x ≡ get_or xs i d → pair ≡ told (f x) → more ≡ so_far ++ pair ∷ []
    → so_far ≡ map told (map f (take i xs)) → more ≡ map told (map f (take (i + 1) xs))
told_more f xs i x d pair so_far more below at its is told_so_far =
    let longer : take (i + 1) xs ≡ take i xs ++ x ∷ [] = take_more xs i d below ∙ ap (λ e. take i xs ++ e ∷ []) (sym at) in
    let seen : map f (take (i + 1) xs) ≡ map f (take i xs) ++ f x ∷ [] = ap (map f) longer ∙ map-append f (take i xs) (x ∷ []) in
    let all : map told (map f (take (i + 1) xs)) ≡ map told (map f (take i xs)) ++ told (f x) ∷ [] = ap (map told) seen ∙ map-append told (map f (take i xs)) (f x ∷ []) in
    is ∙ ap (λ p. so_far ++ p ∷ []) its ∙ ap (λ l. l ++ told (f x) ∷ []) told_so_far ∙ sym all
