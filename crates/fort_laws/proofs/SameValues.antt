-- Walks in the sense of values, by values of symbols that are the same where they are read.
use Rattle.std.proofs.Common.{◌≡◌, ℕ, List, [], ◌∷◌, refl, ap, ◌∙◌}
use Rattle.formula.specs.declared.value.Value.{Value}
use Rattle.formula.specs.Tree.{Tree, num, truth, symbol, old, apply, Row, none, more}
use Rattle.formula.specs.Values.{applied}
use Rattle.formula.specs.Worth.{Function, used, worth_by, worths_by, function_worth}
use Rattle.fort_syntax.specs.declared.condition.Kind.{Kind}
use Rattle.fort_syntax.specs.declared.name.Name.{Name}
use Rattle.fort_model.specs.Events.{Event, Check, Take}
use Rattle.fort_model.specs.Senses.{of_values}
use Rattle.fort_model.specs.Symbols.{Symbol, LeastInteger, GreatestInteger, AtEntry}
use Rattle.fort_laws.proofs.BothSenses.{Pairwise, Correspond, EventsAlike}

-- values that are the same
abbrev pub Equal : Value → Value → Type 0
Equal v w = v ≡ w

pub all_equal : (xs ys : List Value) → Pairwise Equal xs ys → xs ≡ ys
all_equal [] [] h = refl
all_equal [] (y ∷ ys) h = absurd h
all_equal (x ∷ xs) [] h = absurd h
all_equal (x ∷ xs) (y ∷ ys) h = ap (λ (z : Value). z ∷ xs) h.0 ∙ ap (λ (zs : List Value). y ∷ zs) (all_equal xs ys h.1)

pub events_equal : (es fs : List (Event Value)) → Pairwise (EventsAlike Equal) es fs → es ≡ fs
events_equal [] [] h = refl
events_equal [] (f ∷ fs) h = absurd h
events_equal (e ∷ es) [] h = absurd h
events_equal (Check kind card v ∷ es) (Check kind2 card2 w ∷ fs) h =
    ap (λ (k : Kind). Check k card v ∷ es) h.0.0 ∙ ap (λ (c : ℕ). Check kind2 c v ∷ es) h.0.1 ∙ ap (λ (x : Value). Check kind2 card2 x ∷ es) h.0.2 ∙ ap (λ (xs : List (Event Value)). Check kind2 card2 w ∷ xs) (events_equal es fs h.1)
events_equal (Check kind card v ∷ es) (Take w ∷ fs) h = absurd h.0
events_equal (Take v ∷ es) (Check kind card w ∷ fs) h = absurd h.0
events_equal (Take v ∷ es) (Take w ∷ fs) h = ap (λ (x : Value). Take x ∷ es) h.0 ∙ ap (λ (xs : List (Event Value)). Take w ∷ xs) (events_equal es fs h.1)

module _ (fs : List Function) (now now' entry entry' : List ℕ → Value) (h : (w : List ℕ) → now w ≡ now' w) (k : (w : List ℕ) → entry w ≡ entry' w) where
  mutual
    same_worth : (t : Tree) → worth_by (used fs) now entry t ≡ worth_by (used fs) now' entry' t
    same_worth (num z) = refl
    same_worth (truth b) = refl
    same_worth (symbol w) = h w
    same_worth (old w) = k w
    same_worth (apply g row) = ap (λ (vs : List Value). function_worth (used fs) g vs) (same_worths row)

    same_worths : (row : Row) → worths_by (used fs) now entry row ≡ worths_by (used fs) now' entry' row
    same_worths none = refl
    same_worths (more t rest) = ap (λ (v : Value). v ∷ worths_by (used fs) now entry rest) (same_worth t) ∙ ap (λ (vs : List Value). worth_by (used fs) now' entry' t ∷ vs) (same_worths rest)

module _ (fs : List Function) (values others : Symbol → Value) (least : values LeastInteger ≡ others LeastInteger) (greatest : values GreatestInteger ≡ others GreatestInteger)
    (entries : (x : Name) → values (AtEntry x) ≡ others (AtEntry x)) where
  pub same_senses : Correspond Equal (of_values fs values) (of_values fs others)
  same_senses = record {
    number = λ z. refl;
    truth_value = λ b. refl;
    make = λ g xs ys h. ap (applied g) (all_equal xs ys h);
    told = λ now now' entry entry' h k t. same_worth fs now now' entry entry' h k t;
    least = least;
    greatest = greatest;
    entries = entries;
  }

pub equal_all : (xs : List Value) → Pairwise Equal xs xs
equal_all [] = tt
equal_all (x ∷ xs) = (refl, equal_all xs)
