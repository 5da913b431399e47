-- Parts of walks and of weights that have as many checks.
use Rattle.std.proofs.Common.{◌≡◌, ℕ, suc, ◌+◌, Bool, true, false, cond, List, [], ◌∷◌, ◌++◌, map, length, refl, sym, ap, ◌∙◌}
use Rattle.std.proofs.lemmas.List.{length-append}
use Rattle.fort_syntax.specs.declared.condition.Kind.{Kind}
use Rattle.fort_model.specs.Events.{Event, Check, Take, checks, takes, labels}
use Rattle.fort_model.specs.Seen.{Named, Answers, See, ◌>>=◌, ◌>>◌, see, meet, next_answer}
use Rattle.path_sizes.specs.Weighed as h

abbrev pub Nil : Type 0
Nil = Unit {0}

abbrev pub Any : {A B : Type 0} → A → B → Type 0
Any a b = Unit {0}

-- a part of a walk and one of weights have as many checks, and what they come to corresponds
abbrev pub Counted : {A B : Type 0} → (A → B → Type 0) → See Nil A → h.Weigh B → Type 0
Counted R part other =
    (answers : Answers Nil) (running : ℕ) → (length (other running).weights ≡ length (labels (part answers).events)) × R (part answers).value (other running).value

pub labels_append : (es fs : List (Event Nil)) → labels (es ++ fs) ≡ labels es ++ labels fs
labels_append [] fs = refl
labels_append (Check kind card v ∷ es) fs = ap (λ ls. (kind, card) ∷ ls) (labels_append es fs)
labels_append (Take v ∷ es) fs = labels_append es fs

pub then : {A B C D : Type 0} (Q : A → B → Type 0) (P : C → D → Type 0) (part : See Nil A) (other : h.Weigh B) (f : A → See Nil C) (g : B → h.Weigh D)
    → Counted Q part other → ((a : A) (b : B) → Q a b → Counted P (f a) (g b)) → Counted P (part >>= f) (h.◌>>=◌ other g)
then Q P part other f g k l answers running =
    let a = k answers running in
    let b = l (part answers).value (other running).value a.1 (part answers).rest (other running).running in (
      length-append (other running).weights (g (other running).value (other running).running).weights
          ∙ (λ j. a.0 j + b.0 j)
          ∙ sym (length-append (labels (part answers).events) (labels (f (part answers).value (part answers).rest).events))
          ∙ ap length (sym (labels_append (part answers).events (f (part answers).value (part answers).rest).events)),
      b.1,
    )

pub seen : {A B : Type 0} (Q : A → B → Type 0) (a : A) (b : B) → Q a b → Counted Q (see a) (h.weighed b)
seen Q a b q answers running = (refl, q)

pub check : (kind : Kind) (card : ℕ) (v : Nil) (n : ℕ) → Counted Any (meet (Check kind card v ∷ [])) (h.tested n)
check kind card v n answers running = (refl, tt)

pub take : (v : Nil) (n : ℕ) → Counted Any (meet (Take v ∷ [])) (h.added n)
take v n answers running = (refl, tt)

pub no_labels : (ts : List Nil) (es : List (Event Nil)) → labels (takes ts ++ es) ≡ labels es
no_labels [] es = refl
no_labels (t ∷ ts) es = no_labels ts es

-- facts count for nothing, nor does what is added
pub after_takes : {A B : Type 0} (Q : A → B → Type 0) (ts : List Nil) (part : See Nil A) (other : h.Weigh B) → Counted Q part other → Counted Q (meet (takes ts) >> part) other
after_takes Q ts part other k answers running =
    let a = k answers running in
    (a.0 ∙ ap length (sym (no_labels ts (part answers).events)), a.1)

pub after_added : {A B : Type 0} (Q : A → B → Type 0) (n : ℕ) (part : See Nil A) (other : h.Weigh B) → Counted Q part other → Counted Q part (h.◌>>◌ (h.added n) other)
after_added Q n part other k answers running = k answers (running + n)

pub after_answer : {A B : Type 0} (Q : A → B → Type 0) (f : Named Nil → See Nil A) (other : h.Weigh B) → ((x : Named Nil) → Counted Q (f x) other) → Counted Q (next_answer >>= f) other
after_answer Q f other k answers running = k (answers 0) (λ i. answers (suc i)) running

-- as many
abbrev pub AsMany : {A B : Type 0} → List A → List B → Type 0
AsMany [] [] = Unit {0}
AsMany [] (y ∷ ys) = ⊥
AsMany (x ∷ xs) [] = ⊥
AsMany (x ∷ xs) (y ∷ ys) = AsMany xs ys

pub as_many_mapped : {A B C : Type 0} (f : A → B) (g : A → C) (xs : List A) → AsMany (map f xs) (map g xs)
as_many_mapped f g [] = tt
as_many_mapped f g (x ∷ xs) = as_many_mapped f g xs

tested_before : (n : ℕ) (ns : List ℕ) (running : ℕ) → length (h.all_tested (n ∷ ns) running).weights ≡ suc (length (h.all_tested ns (running + suc n)).weights)
tested_before n ns running = refl

pub all_checks : (kind : Kind) (card : ℕ) (ts : List Nil) (ns : List ℕ) → AsMany ts ns → Counted Any (meet (checks kind card ts)) (h.all_tested ns)
all_checks kind card [] [] k answers running = (refl, tt)
all_checks kind card [] (n ∷ ns) k answers running = absurd k
all_checks kind card (t ∷ ts) [] k answers running = absurd k
all_checks kind card (t ∷ ts) (n ∷ ns) k answers running =
    let a = all_checks kind card ts ns k answers (running + suc n) in
    (ap suc a.0, tt)

pub either : {A B : Type 0} (Q : A → B → Type 0) (b : Bool) (x y : See Nil A) (x' y' : h.Weigh B) → Counted Q x x' → Counted Q y y' → Counted Q (cond b x y) (cond b x' y')
either Q true x y x' y' k l = k
either Q false x y x' y' k l = l
