-- Two lists whose lines begin one text, where the first goes on as far as lines can be read: they are one list, or the second ends before a line of the first.
use Rattle.std.proofs.Common.{◌≡◌, ◌⊎◌, inl, inr, ℕ, ◌≤◌, true, Option, Some, None, List, [], ◌∷◌, ◌++◌, length, map, codes, refl, sym, ap, ◌∙◌, subst, arith, append_assoc, append-nil, length-append}
use Rattle.std.specs.List.{All, flat_map, list_all, zip}
use Rattle.formula.specs.declared.definition.Heading.{Heading}
use Rattle.formula.specs.Reading.{head_named}
use Rattle.formula.specs.Worth.{Function}
use Rattle.fort_syntax.specs.Conditions.{ConditionTree}
use Rattle.event_text.specs.EventText.{asked_line, condition_line, definition_line, names_of}
use Rattle.event_text.specs.Readable.{headings_with, in_full, is_mark, AreReadableAfter, IsAsked, IsReadableCondition}
use Rattle.event_text.proofs.FoundNames.{AreNew}
use Rattle.event_text.proofs.OneCondition.{one_condition}
use Rattle.event_text.proofs.OneDefinition.{one_definition, own}
use Rattle.event_text.proofs.Tests.{all_first, all_rest, first_of_both, second_of_both}
use Rattle.event_text.proofs.Told.{Reads}
use Rattle.event_reading.specs.Lines.{asked_at, condition_at, definition_at}
use Rattle.event_reading.specs.Names.{heading_names}
use Rattle.event_reading.proofs.ConditionLines.{asked_read, condition_read}
use Rattle.event_reading.proofs.DefinitionRead.{definition_read}
use Rattle.event_reading.proofs.NewNames.{names_move, new_next}
use Rattle.event_reading.proofs.Steps.{pair, same_pair}

-- x stands behind the whole first list, and y behind the second
pub record Behind (first : List ℕ) (x y : List ℕ) : Type 0 where
  pub later : List ℕ
  pub is : y ≡ first ++ later
  pub long : length x ≤ length y

nothing_read : {X : Type 0} (o : Option X) (x : X) → o ≡ None → o ≡ Some x → ⊥
nothing_read None x e f = absurd cc
nothing_read (Some y) x e f = absurd cc

behind_line : (front line rest x : List ℕ) → (z : List ℕ) → line ≡ front ++ z → Behind front x (line ++ rest ++ x)
behind_line front line rest x z e = record {
  later = z ++ rest ++ x;
  is = ap (λ l. l ++ rest ++ x) e ∙ right front z rest x;
  long = simp length-append (omega arith);
}
  where
    right : (a b c d : List ℕ) → a ++ b ++ c ++ d ≡ a ++ (b ++ c ++ d)
    right [] b c d = refl
    right (h ∷ a) b c d = ap (λ l. h ∷ l) (right a b c d)

pub race_definitions : (hs : List Heading) (ds es : List Function) (x y : List ℕ) → AreNew [] hs → AreReadableAfter hs ds → AreReadableAfter hs es → definition_at (hs ++ headings_with ds) x ≡ None
    → flat_map (definition_line (heading_names hs ++ names_of ds)) ds ++ x ≡ flat_map (definition_line (heading_names hs ++ names_of es)) es ++ y
    → ((map in_full ds ≡ map in_full es) × (x ≡ y)) ⊎ Behind (codes "(D") x y
race_definitions hs [] [] x y new a b none e = inl (refl, e)
race_definitions hs [] (k ∷ es) x y new a b none e =
    let text : flat_map (definition_line (heading_names hs ++ names_of (k ∷ es))) (k ∷ es) ++ y ≡ definition_line (heading_names (hs ++ own k ∷ []) ++ names_of es) k ++ (flat_map (definition_line (heading_names (hs ++ own k ∷ []) ++ names_of es)) es ++ y) =
    ap (λ names. flat_map (definition_line names) (k ∷ es) ++ y) (names_move hs (own k) (names_of es)) ∙ append_assoc (definition_line (heading_names (hs ++ own k ∷ []) ++ names_of es) k) _ y in
    let read = definition_read hs k (names_of es) (flat_map (definition_line (heading_names (hs ++ own k ∷ []) ++ names_of es)) es ++ y) (new_next hs k new b.0) b.0 in
    absurd (nothing_read (definition_at hs x) _ (ap (λ l. definition_at l x) (sym (append-nil hs)) ∙ none) (ap (definition_at hs) (e ∙ text) ∙ read))
race_definitions hs (d ∷ ds) [] x y new a b none e =
    inr (subst (Behind (codes "(D") x) e (behind_line (codes "(D") (definition_line (heading_names hs ++ names_of (d ∷ ds)) d) (flat_map (definition_line (heading_names hs ++ names_of (d ∷ ds))) ds) x _ refl))
race_definitions hs (d ∷ ds) (k ∷ es) x y new a b none e =
    let rest = flat_map (definition_line (heading_names (hs ++ own d ∷ []) ++ names_of ds)) ds in
    let others = flat_map (definition_line (heading_names (hs ++ own k ∷ []) ++ names_of es)) es in
    let left : flat_map (definition_line (heading_names hs ++ names_of (d ∷ ds))) (d ∷ ds) ++ x ≡ definition_line (heading_names (hs ++ own d ∷ []) ++ names_of ds) d ++ (rest ++ x) =
    ap (λ names. flat_map (definition_line names) (d ∷ ds) ++ x) (names_move hs (own d) (names_of ds)) ∙ append_assoc (definition_line (heading_names (hs ++ own d ∷ []) ++ names_of ds) d) rest x in
    let right : flat_map (definition_line (heading_names hs ++ names_of (k ∷ es))) (k ∷ es) ++ y ≡ definition_line (heading_names (hs ++ own k ∷ []) ++ names_of es) k ++ (others ++ y) =
    ap (λ names. flat_map (definition_line names) (k ∷ es) ++ y) (names_move hs (own k) (names_of es)) ∙ append_assoc (definition_line (heading_names (hs ++ own k ∷ []) ++ names_of es) k) others y in
    let here = one_definition hs (names_of ds) (names_of es) d k (rest ++ x) (others ++ y) (new_next hs d new a.0) (new_next hs k new b.0) a.0 b.0 (sym left ∙ e ∙ right) in
    let heading : own k ≡ own d = ap own (sym here.0) in
    let later = race_definitions (hs ++ own d ∷ []) ds es x y (new_next hs d new a.0) a.1 (subst (λ o. AreReadableAfter (hs ++ o ∷ []) es) heading b.1)
    (ap (λ l. definition_at l x) (append_assoc hs (own d ∷ []) (headings_with ds)) ∙ none)
    (here.1 ∙ ap (λ o. flat_map (definition_line (heading_names (hs ++ o ∷ []) ++ names_of es)) es ++ y) heading) in
    joined here.0 later
  where
    joined : in_full d ≡ in_full k → ((map in_full ds ≡ map in_full es) × (x ≡ y)) ⊎ Behind (codes "(D") x y → ((map in_full (d ∷ ds) ≡ map in_full (k ∷ es)) × (x ≡ y)) ⊎ Behind (codes "(D") x y
    joined p (inl q) = inl ((λ i. p i ∷ q.0 i), q.1)
    joined p (inr q) = inr q

abbrev pub marked : List (List ℕ) → ConditionTree × ℕ → List ℕ
marked names p = condition_line names p.0 p.1

pub race_conditions : (hs : List Heading) (r : Reads (head_named hs None) (heading_names hs) hs) (bs cs : List ConditionTree) (ls ms x y : List ℕ) → length ls ≡ length bs → length ms ≡ length cs
    → All (IsReadableCondition hs) bs → All (IsReadableCondition hs) cs → list_all is_mark ms ≡ true → condition_at hs x ≡ None
    → flat_map (marked (heading_names hs)) (zip bs ls) ++ x ≡ flat_map (marked (heading_names hs)) (zip cs ms) ++ y → ((length bs ≡ length cs) × (x ≡ y)) ⊎ Behind (codes "(P") x y
race_conditions hs r [] [] [] [] x y a b p q m none e = inl (refl, e)
race_conditions hs r [] [] [] (n ∷ ms) x y a b p q m none e = absurd (omega arith)
race_conditions hs r [] [] (l ∷ ls) ms x y a b p q m none e = absurd (omega arith)
race_conditions hs r (c ∷ bs) cs [] ms x y a b p q m none e = absurd (omega arith)
race_conditions hs r bs (d ∷ cs) ls [] x y a b p q m none e = absurd (omega arith)
race_conditions hs r [] (d ∷ cs) (l ∷ ls) (n ∷ ms) x y a b p q m none e = absurd (omega arith)
race_conditions hs r (c ∷ bs) [] (l ∷ ls) (n ∷ ms) x y a b p q m none e = absurd (omega arith)
race_conditions hs r [] (d ∷ cs) [] (n ∷ ms) x y a b p q m none e =
    let names = heading_names hs in
    let rest = flat_map (marked names) (zip cs ms) ++ y in
    let read = condition_read hs r d n rest (all_first (IsReadableCondition hs) d cs q) (first_of_both (is_mark n) (list_all is_mark ms) m) in
    absurd (nothing_read (condition_at hs x) _ none (ap (condition_at hs) (e ∙ append_assoc (condition_line names d n) (flat_map (marked names) (zip cs ms)) y) ∙ read))
race_conditions hs r (c ∷ bs) [] (l ∷ ls) [] x y a b p q m none e =
    inr (subst (Behind (codes "(P") x) e (behind_line (codes "(P") (condition_line (heading_names hs) c l) (flat_map (marked (heading_names hs)) (zip bs ls)) x _ refl))
race_conditions hs r (c ∷ bs) (d ∷ cs) (l ∷ ls) (n ∷ ms) x y a b p q m none e =
    let names = heading_names hs in
    let here = one_condition (head_named hs None) names hs r c d l n _ _ (all_first (IsReadableCondition hs) c bs p) (all_first (IsReadableCondition hs) d cs q)
    (sym (append_assoc (condition_line names c l) (flat_map (marked names) (zip bs ls)) x) ∙ e ∙ append_assoc (condition_line names d n) (flat_map (marked names) (zip cs ms)) y) in
    joined (race_conditions hs r bs cs ls ms x y (omega arith) (omega arith) (all_rest (IsReadableCondition hs) c bs p) (all_rest (IsReadableCondition hs) d cs q) (second_of_both (is_mark n) (list_all is_mark ms) m) none here.2)
  where
    joined : ((length bs ≡ length cs) × (x ≡ y)) ⊎ Behind (codes "(P") x y → ((length (c ∷ bs) ≡ length (d ∷ cs)) × (x ≡ y)) ⊎ Behind (codes "(P") x y
    joined (inl s) = let t = s.0 in inl (omega arith, s.1)
    joined (inr s) = inr s

pub race_asked : (qs bs : List (ℕ × ℕ)) (x y : List ℕ) → All IsAsked qs → All IsAsked bs → asked_at x ≡ None → flat_map asked_line qs ++ x ≡ flat_map asked_line bs ++ y → (x ≡ y) ⊎ Behind (codes "; A") x y
race_asked [] [] x y p q none e = inl e
race_asked [] (b ∷ bs) x y p q none e =
    absurd (nothing_read (asked_at x) _ none (ap asked_at (e ∙ append_assoc (asked_line b) (flat_map asked_line bs) y) ∙ asked_read b (flat_map asked_line bs ++ y) (all_first IsAsked b bs q)))
race_asked (a ∷ qs) [] x y p q none e = inr (subst (Behind (codes "; A") x) e (behind_line (codes "; A") (asked_line a) (flat_map asked_line qs) x _ refl))
race_asked (a ∷ qs) (b ∷ bs) x y p q none e =
    let rest = flat_map asked_line qs ++ x in
    let others = flat_map asked_line bs ++ y in
    let first = asked_read a rest (all_first IsAsked a qs p) in
    let second = asked_read b others (all_first IsAsked b bs q) in
    let both = sym first ∙ ap asked_at (sym (append_assoc (asked_line a) (flat_map asked_line qs) x) ∙ e ∙ append_assoc (asked_line b) (flat_map asked_line bs) y) ∙ second in
    race_asked qs bs x y (all_rest IsAsked a qs p) (all_rest IsAsked b bs q) none (rests a b rest others both)
  where
    rests : (u v : ℕ × ℕ) (s t : List ℕ) → Some (pair u s) ≡ Some (pair v t) → s ≡ t
    rests u v s t f = (same_pair u v s t f).1
