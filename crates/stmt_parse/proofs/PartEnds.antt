-- Where a name, a number or a list ends.
use Rattle.std.proofs.Common.{◌≡◌, ℕ, ◌+◌, Bool, true, false, Option, Some, List, [], ◌∷◌, ◌++◌, length, codes, refl, sym, ap, ◌∙◌, arith}
use Rattle.std.specs.Prelude.{◌==◌, ◌||◌}
use Rattle.std.proofs.lemmas.List.{length-append, append-nil}
use Rattle.std.proofs.lemmas.Bool.Decides.{nat_tests}
use Rattle.formula.specs.Atoms.{is_digit, is_letter, starts, is_name}
use Rattle.fort_syntax.specs.Misspelled.{begins}
use Rattle.stmt_parse.specs.Tokens.{◌>>=◌}
use Rattle.stmt_parse.specs.Statements.{Reader}
use Rattle.stmt_parse.proofs.Climbing.{first_false}
use Rattle.stmt_parse.proofs.ExpressionsAnswers.{both_true}
use Rattle.stmt_parse.proofs.ExpressionsEnds.{is_apart}

-- nothing follows, or `)` or `/`
abbrev pub list_ends : List ℕ → Bool
list_ends [] = true
list_ends (b ∷ r) = (b == 41) || (b == 47)

pub list_apart : (r : List ℕ) → list_ends r ≡ true → is_apart r ≡ true
list_apart [] h = refl
list_apart (b ∷ r) h = grind (arith, nat_tests)

-- a word with another first byte does not begin the text
pub differs : (w : ℕ) (ws : List ℕ) (b : ℕ) (rest : List ℕ) → (w == b) ≡ false → begins (w ∷ ws) (b ∷ rest) ≡ false
differs w ws b rest h = first_false (w == b) _ h

not_comma : (b : ℕ) → ((b == 41) || (b == 47)) ≡ true → (44 == b) ≡ false
not_comma b h = grind (arith, nat_tests)

pub no_comma : (r : List ℕ) → list_ends r ≡ true → begins (codes ",") r ≡ false
no_comma [] h = refl
no_comma (b ∷ r) h = differs 44 [] b r (not_comma b h)

unlike_letter : (c b : ℕ) → is_letter c ≡ false → is_letter b ≡ true → (c == b) ≡ false
unlike_letter c b h k = grind (arith, nat_tests)

-- a name begins with a letter
pub name_apart : (c : ℕ) (w x r : List ℕ) → is_letter c ≡ false → is_name x ≡ true → begins (c ∷ w) (x ++ r) ≡ false
name_apart c w [] r h k = absurd cc
name_apart c w (b ∷ x) r h k = differs c w b (x ++ r) (unlike_letter c b h (both_true _ _ (both_true _ _ k).0).0)

no_letter : (b : ℕ) → is_letter b ≡ true → is_digit b ≡ false
no_letter b h = grind (arith, nat_tests)

pub name_no_digit : (x r : List ℕ) → is_name x ≡ true → starts is_digit (x ++ r) ≡ false
name_no_digit [] r k = absurd cc
name_no_digit (b ∷ x) r k = no_letter b (both_true _ _ (both_true _ _ k).0).0

-- ---- steps

pub step_to : {A B : Type 0} (m : Option A) (x : A) (next : A → Option B) (y : Option B) → m ≡ Some x → next x ≡ y
    → (m >>= next) ≡ y
step_to m x next y h k = ap (λ o. o >>= next) h ∙ k

pub lengths : (t a v : List ℕ) → t ≡ a ++ v → length t ≡ length a + length v
lengths t a v h = ap length h ∙ length-append a v

-- what reads a text before nothing reads it
pub at_end : {A : Type 0} (read : Reader A) (t : List ℕ) (x : A) → read (t ++ []) ≡ Some (x, []) → read t ≡ Some (x, [])
at_end read t x h = ap read (sym (append-nil t)) ∙ h
