-- Readings, step by step: what was read stands there, and what stands there is read.
use Rattle.std.proofs.Common.{◌≡◌, ℕ, suc, ◌<◌, ◌≤◌, ◌^◌, Bool, true, false, if◌then◌else◌, Option, Some, None, List, [], ◌∷◌, ◌++◌, length, take, drop, refl, sym, ap, ◌∙◌, subst, arith}
use Rattle.std.proofs.Math.Seq.{take-append_seam, drop-append_seam}
use Rattle.std.proofs.lemmas.Bool.Decides.{nat_tests}
use Rattle.std.proofs.lemmas.Fmt.{digits_decimal, digits_value-decimal}
use Rattle.std.proofs.lemmas.List.{take-append-drop}
use Rattle.std.specs.Cmp.Lexicographic.{same_text}
use Rattle.std.specs.Fmt.{decimal}
use Rattle.std.specs.List.{list_all}
use Rattle.std.specs.Prelude.{nat_le}
use Rattle.formula.specs.declared.definition.Heading.{Heading}
use Rattle.formula.specs.Atoms.{is_digit, is_function_name, is_letter, is_name, is_name_byte, same_bytes, spelled}
use Rattle.formula.specs.Headings.{with_next}
use Rattle.formula.specs.ReadableTerms.{IsReadableTerm}
use Rattle.formula.specs.Reading.{got, fault, reads, head_named}
use Rattle.formula.specs.Reading as terms
use Rattle.formula.specs.Tree.{Tree}
use Rattle.formula.proofs.ReadableTerms.{read_readable}
use Rattle.fort_syntax.specs.declared.condition.Kind.{Kind}
use Rattle.fort_syntax.specs.declared.condition.Kind.TheVariants as k
use Rattle.fort_syntax.specs.Conditions.{kind_word}
use Rattle.event_text.specs.Readable.{is_parameter}
use Rattle.event_text.specs.TermText.{term_text}
use Rattle.event_text.proofs.OneDefinition.{function_name_bytes, name_bytes}
use Rattle.event_text.proofs.OneTerm.{written_read}
use Rattle.event_text.proofs.SpelledNumbers.{own}
use Rattle.event_text.proofs.SpelledTerms.{IsTold, Stops}
use Rattle.event_text.proofs.Splits.{StopsAt}
use Rattle.event_text.proofs.Tests.{first_of_both, second_of_both}
use Rattle.event_reading.specs.Readings.{◌>>=◌, byte_at, found, front_that, function_name_at, is_numeral, kind_at, kind_named, kind_of_length, name_at, number_at, number_of_length, parameter_at, run_length, term_at, written}
use Rattle.event_reading.proofs.Afters.{same_true, when_false, when_true}

-- ---- steps

-- the first step of a reading that succeeds
pub record Step {A B : Type 0} (o : Option A) (f : A → Option B) (y : B) : Type 0 where
  pub here : A
  pub first : o ≡ Some here
  pub later : f here ≡ Some y

pub step : {A B : Type 0} (o : Option A) (f : A → Option B) (y : B) → (o >>= f) ≡ Some y → Step o f y
step None f y e = absurd cc
step (Some x) f y e = record { here = x; first = refl; later = e }

-- what was read, and the text behind it
abbrev pub pair : {A : Type 0} → A → List ℕ → A × List ℕ
pair a r = (a, r)

pub same_pair : {A : Type 0} (a b : A) (r s : List ℕ) → Some (pair a r) ≡ Some (pair b s) → (a ≡ b) × (r ≡ s)
same_pair {A} a b r s e = let p = unwrapped (pair a r) (pair b s) e in (ap (λ (x : A × List ℕ). x.0) p, ap (λ (x : A × List ℕ). x.1) p)
  where
    unwrapped : (x y : A × List ℕ) → Some x ≡ Some y → x ≡ y
    unwrapped x y f = cc

-- ---- bytes of a kind

run_all : (p : ℕ → Bool) (x r : List ℕ) → list_all p x ≡ true → StopsAt p r → run_length p (x ++ r) ≡ length x
run_all p [] [] h k = refl
run_all p [] (b ∷ r) h k = when_false (p b) _ _ k
run_all p (b ∷ x) r h k = when_true (p b) _ _ (first_of_both (p b) (list_all p x) h) ∙ ap suc (run_all p x r (second_of_both (p b) (list_all p x) h) k)

front_read : (test : List ℕ → Bool) (x r : List ℕ) (n : ℕ) → n ≡ length x → test x ≡ true → front_that test n (x ++ r) ≡ Some (x, r)
front_read test x r n e h =
    ap (λ m. front_that test m (x ++ r)) e
    ∙ (λ i. if test (take-append_seam x r i) then Some (take-append_seam x r i, drop-append_seam x r i) else None)
    ∙ when_true (test x) _ _ h

pub record Front (test : List ℕ → Bool) (t w r : List ℕ) : Type 0 where
  pub good : test w ≡ true
  pub is : t ≡ w ++ r

front_some : (test : List ℕ → Bool) (n : ℕ) (t w r : List ℕ) → front_that test n t ≡ Some (w, r) → Front test t w r
front_some test n t w r e = by (test (take n t)) refl e
  where
    by : (b : Bool) → test (take n t) ≡ b → (if b then Some (pair (take n t) (drop n t)) else None) ≡ Some (w, r) → Front test t w r
    by false h k = absurd cc
    by true h k =
        let both = same_pair (take n t) w (drop n t) r k in
        let front = both.0 in
        let rest = both.1 in
        record { good = ap test (sym front) ∙ h; is = sym (take-append-drop n t) ∙ (λ i. front i ++ rest i) }

pub name_read : (x r : List ℕ) → is_name x ≡ true → StopsAt is_name_byte r → name_at (x ++ r) ≡ Some (x, r)
unfolding name_at
name_read x r h k = front_read is_name x r _ (run_all is_name_byte x r (name_bytes x h) k) h

pub name_some : (t w r : List ℕ) → name_at t ≡ Some (w, r) → Front is_name t w r
unfolding name_at
name_some t w r e = front_some is_name _ t w r e

pub function_name_read : (x r : List ℕ) → is_function_name x ≡ true → StopsAt is_name_byte r → function_name_at (x ++ r) ≡ Some (x, r)
unfolding function_name_at
function_name_read x r h k = front_read is_function_name x r _ (run_all is_name_byte x r (function_name_bytes x h) k) h

pub function_name_some : (t w r : List ℕ) → function_name_at t ≡ Some (w, r) → Front is_function_name t w r
unfolding function_name_at
function_name_some t w r e = front_some is_function_name _ t w r e

pub parameter_read : (x r : List ℕ) → is_parameter x ≡ true → StopsAt is_name_byte r → parameter_at (x ++ r) ≡ Some (x, r)
unfolding parameter_at
parameter_read x r h k = front_read is_parameter x r _ (run_all is_name_byte x r (name_bytes x (first_of_both (is_name x) _ h)) k) h

pub parameter_some : (t w r : List ℕ) → parameter_at t ≡ Some (w, r) → Front is_parameter t w r
unfolding parameter_at
parameter_some t w r e = front_some is_parameter _ t w r e

-- ---- numbers

pub number_read : (most n : ℕ) (r : List ℕ) → n ≤ most → n < 2 ^ 64 → StopsAt is_digit r → number_at most (decimal n ++ r) ≡ Some (n, r)
unfolding number_at
number_read most n r le small k =
    let value : spelled (decimal n) ≡ n = digits_value-decimal own n small in
    let few : nat_le (spelled (decimal n)) most ≡ true = ap (λ m. nat_le m most) value ∙ below n most le in
    let same : same_bytes (decimal (spelled (decimal n))) (decimal n) ≡ true = ap (λ m. same_bytes (decimal m) (decimal n)) value ∙ same_true (decimal n) in
    let good : is_numeral most (decimal n) ≡ true = rw (few, same) refl in
    ap (λ m. number_of_length most m (decimal n ++ r)) (run_all is_digit (decimal n) r (digits_decimal own n small) k)
    ∙ (λ i. if is_numeral most (take-append_seam (decimal n) r i) then Some (spelled (take-append_seam (decimal n) r i), drop-append_seam (decimal n) r i) else None)
    ∙ when_true (is_numeral most (decimal n)) _ _ good
    ∙ ap (λ m. Some (m, r)) value
  where
    below : (m b : ℕ) → m ≤ b → nat_le m b ≡ true
    below m b h = grind (arith, nat_tests)

pub record Number (most : ℕ) (t : List ℕ) (n : ℕ) (r : List ℕ) : Type 0 where
  pub few : n ≤ most
  pub is : t ≡ decimal n ++ r

pub number_some : (most n : ℕ) (t r : List ℕ) → number_at most t ≡ Some (n, r) → Number most t n r
unfolding number_at
number_some most n t r e = by (run_length is_digit t) (is_numeral most (take (run_length is_digit t) t)) refl e
  where
    under : (m b : ℕ) → nat_le m b ≡ true → m ≤ b
    under m b h = grind (arith, nat_tests)

    by : (j : ℕ) (b : Bool) → is_numeral most (take j t) ≡ b → (if b then Some (pair (spelled (take j t)) (drop j t)) else None) ≡ Some (n, r) → Number most t n r
    by j false h f = absurd cc
    by j true h f =
        let both = same_pair (spelled (take j t)) n (drop j t) r f in
        let value = both.0 in
        let rest = both.1 in
        let few : nat_le (spelled (take j t)) most ≡ true = first_of_both (nat_le (spelled (take j t)) most) _ h in
        let text : decimal (spelled (take j t)) ≡ take j t = same_text (decimal (spelled (take j t))) (take j t) (sym (second_of_both (nat_le (spelled (take j t)) most) _ h)) in
        record {
          few = subst (λ m. m ≤ most) value (under (spelled (take j t)) most few);
          is = sym (take-append-drop j t) ∙ (λ i. (sym text ∙ ap decimal value) i ++ rest i);
        }

-- ---- bytes

pub byte_read : (test : ℕ → Bool) (b : ℕ) (r : List ℕ) → test b ≡ true → byte_at test (b ∷ r) ≡ Some (b, r)
byte_read test b r h = when_true (test b) _ _ h

pub record Byte (test : ℕ → Bool) (t : List ℕ) (b : ℕ) (r : List ℕ) : Type 0 where
  pub good : test b ≡ true
  pub is : t ≡ b ∷ r

pub byte_some : (test : ℕ → Bool) (t : List ℕ) (b : ℕ) (r : List ℕ) → byte_at test t ≡ Some (b, r) → Byte test t b r
byte_some test [] b r e = absurd cc
byte_some test (c ∷ t) b r e = by (test c) refl e
  where
    by : (v : Bool) → test c ≡ v → (if v then Some (pair c t) else None) ≡ Some (b, r) → Byte test (c ∷ t) b r
    by false h f = absurd cc
    by true h f =
        let both = same_pair c b t r f in
        let same = both.0 in
        let rest = both.1 in
        record { good = ap test (sym same) ∙ h; is = λ i. same i ∷ rest i }

-- ---- kinds

kind_again : (c : Kind) → kind_named (kind_word c) ≡ Some c
kind_again k.DefinedCheck = refl
kind_again k.RangeCheck = refl
kind_again k.DivisorCheck = refl
kind_again k.SubscriptCheck = refl
kind_again k.ChoiceCheck = refl
kind_again k.LoopCheck = refl
kind_again k.ResultCheck = refl
kind_again k.InputCheck = refl
kind_again k.AssertCheck = refl
kind_again k.ClockCheck = refl
kind_again k.FallCheck = refl
kind_again k.OutputCheck = refl

kind_letters : (c : Kind) → list_all is_letter (kind_word c) ≡ true
kind_letters k.DefinedCheck = refl
kind_letters k.RangeCheck = refl
kind_letters k.DivisorCheck = refl
kind_letters k.SubscriptCheck = refl
kind_letters k.ChoiceCheck = refl
kind_letters k.LoopCheck = refl
kind_letters k.ResultCheck = refl
kind_letters k.InputCheck = refl
kind_letters k.AssertCheck = refl
kind_letters k.ClockCheck = refl
kind_letters k.FallCheck = refl
kind_letters k.OutputCheck = refl

pub kind_read : (c : Kind) (r : List ℕ) → StopsAt is_letter r → kind_at (kind_word c ++ r) ≡ Some (c, r)
unfolding kind_at
kind_read c r h =
    ap (λ n. kind_of_length n (kind_word c ++ r)) (run_all is_letter (kind_word c) r (kind_letters c) h)
    ∙ (λ i. found (kind_named (take-append_seam (kind_word c) r i)) (drop-append_seam (kind_word c) r i))
    ∙ ap (λ o. found o r) (kind_again c)

-- one of some words
abbrev chosen : List ℕ → List Kind → Option Kind
chosen w [] = None
chosen w (c ∷ cs) = if same_bytes w (kind_word c) then Some c else chosen w cs

one : (d c : Kind) → Some d ≡ Some c → d ≡ c
one d c e = cc

word_of : (w : List ℕ) (cs : List Kind) (c : Kind) → chosen w cs ≡ Some c → w ≡ kind_word c
word_of w [] c e = absurd cc
word_of w (d ∷ cs) c e = by (same_bytes w (kind_word d)) refl e (word_of w cs c)
  where
    by : (v : Bool) → same_bytes w (kind_word d) ≡ v → (if v then Some d else chosen w cs) ≡ Some c → (chosen w cs ≡ Some c → w ≡ kind_word c) → w ≡ kind_word c
    by false h f g = g f
    by true h f g =
        let same : d ≡ c = one d c f in
        same_text w (kind_word d) (sym h) ∙ ap kind_word same

all_kinds : List Kind
all_kinds = k.DefinedCheck ∷ k.RangeCheck ∷ k.DivisorCheck ∷ k.SubscriptCheck ∷ k.ChoiceCheck ∷ k.LoopCheck ∷ k.ResultCheck ∷ k.InputCheck ∷ k.AssertCheck ∷ k.ClockCheck ∷ k.FallCheck ∷ k.OutputCheck ∷ []

pub kind_some : (t : List ℕ) (c : Kind) (r : List ℕ) → kind_at t ≡ Some (c, r) → t ≡ kind_word c ++ r
unfolding kind_at all_kinds
kind_some t c r e = by (run_length is_letter t) (kind_named (take (run_length is_letter t) t)) refl e
  where
    by : (j : ℕ) (o : Option Kind) → kind_named (take j t) ≡ o → found o (drop j t) ≡ Some (c, r) → t ≡ kind_word c ++ r
    by j None h f = absurd cc
    by j (Some d) h f =
        let both = same_pair d c (drop j t) r f in
        let same = both.0 in
        let rest = both.1 in
        let word : take j t ≡ kind_word c = word_of (take j t) all_kinds d h ∙ ap kind_word same in
        sym (take-append-drop j t) ∙ (λ i. word i ++ rest i)

-- ---- terms

pub term_read : (names : List (List ℕ)) (hs : List Heading) (next : Option Heading) (u : Tree) (r : List ℕ) → IsTold (head_named hs next) names u → Stops r → term_at names hs next (term_text names u ++ r) ≡ Some (u, r)
unfolding term_at
term_read names hs next u r told stops =
    let w = term_text names u in
    ap (written names (w ++ r)) (written_read (head_named hs next) names u r told stops)
    ∙ (λ i. if same_bytes w (take-append_seam w r i) then Some (u, drop-append_seam w r i) else None)
    ∙ when_true (same_bytes w w) _ _ (same_true w)

pub record Term (names : List (List ℕ)) (hs : List Heading) (next : Option Heading) (t : List ℕ) (u : Tree) (r : List ℕ) : Type 0 where
  pub readable : IsReadableTerm (with_next hs next) u
  pub is : t ≡ term_text names u ++ r

pub term_some : (names : List (List ℕ)) (hs : List Heading) (next : Option Heading) (t : List ℕ) (u : Tree) (r : List ℕ) → term_at names hs next t ≡ Some (u, r) → Term names hs next t u r
unfolding term_at
term_some names hs next t u r e = by (reads (head_named hs next) None t) refl e
  where
    tested : (v : Tree) (n : ℕ) (b : Bool) → same_bytes (term_text names v) (take n t) ≡ b → reads (head_named hs next) None t ≡ got v n → (if b then Some (pair v (drop n t)) else None) ≡ Some (u, r) → Term names hs next t u r
    tested v n false h g f = absurd cc
    tested v n true h g f =
        let both = same_pair v u (drop n t) r f in
        let same = both.0 in
        let rest = both.1 in
        let text : take n t ≡ term_text names u = sym (same_text (term_text names v) (take n t) (sym h)) ∙ ap (term_text names) same in
        record {
          readable = subst (IsReadableTerm (with_next hs next)) same (read_readable hs next None t v n g);
          is = sym (take-append-drop n t) ∙ (λ i. text i ++ rest i);
        }

    by : (o : terms.Reading) → reads (head_named hs next) None t ≡ o → written names t o ≡ Some (u, r) → Term names hs next t u r
    by (got v n) g f = tested v n (same_bytes (term_text names v) (take n t)) refl g f
    by (fault x) g f = absurd cc
