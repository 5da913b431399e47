-- What the parts of notes give: each thing that is taken is as it should be, and each refusal breaks a rule on notes.
use Rattle.std.proofs.Common.{◌≡◌, ℕ, zero, suc, ℤ, Bool, true, false, Option, Some, List, [], ◌∷◌, length, refl}
use Rattle.std.specs.Prelude.{◌&&◌, ◌||◌, int_le, if◌then◌else◌}
use Rattle.std.specs.List.{AllByRecursion}
use Rattle.formula.specs.Atoms.{same_bytes, spelled, number_of}
use Rattle.formula.specs.Headings.{with_next}
use Rattle.formula.specs.ReadableTerms.{IsReadableTerm}
use Rattle.formula.specs.Reading.{Reading, got, fault, head_named, reads}
use Rattle.formula.specs.Tokens.{Token, opening, closing, atom, Lexeme, tokens}
use Rattle.formula.specs.declared.definition.Heading.{Heading}
use Rattle.formula.specs.declared.fault.ReadFault.{ReadFault}
use Rattle.formula.specs.declared.fault.ReadFault.TheVariants.{Unbalanced, BadAtom, UnknownFunction, BadCount, TooDeep, BigNumber, NoMemory}
use Rattle.formula.specs.declared.value.Cell.{Cell}
use Rattle.formula.proofs.ReadableTerms.{read_readable}
use Rattle.fort_syntax.specs.FirstFaults.{stage_of}
use Rattle.fort_notes.specs.Parts.{Parsed, parsed, refused, ◌>>=◌, passing, atom_of, first_atom, word, is_opening, is_closing, is_over, behind_first, begins, sign, bracket, parts_up_to, parts, inside, rest_of, has_some, some, whole, word_of, is_short_number, number, number_between, is_short_count, count, either, is_cell, cell_of, cell, rule_of_read, term_read, term}

-- what is taken is such a thing, and what is refused breaks a rule on notes
abbrev pub Gives : {X : Type 0} → (X → Type 0) → Parsed X → Type 0
Gives P (parsed x rest) = P x
Gives P (refused rule) = stage_of rule ≡ 8

-- nothing is said of it
abbrev pub Any : (X : Type 0) → X → Type 0
Any X x = Unit {0}

pub gives_bind : {X Y : Type 0} (P : X → Type 0) (Q : Y → Type 0) (p : Parsed X) (next : X → List ℕ → Parsed Y)
    → Gives P p → ((x : X) (rest : List ℕ) → P x → Gives Q (next x rest)) → Gives Q (p >>= next)
gives_bind P Q (parsed x rest) next h k = k x rest h
gives_bind P Q (refused rule) next h k = h

pub passing_gives : {X : Type 0} (P : X → Type 0) (ok : Bool) (x : X) (rest : List ℕ) → (ok ≡ true → P x) → Gives P (passing ok x rest)
passing_gives P true x rest h = h refl
passing_gives P false x rest h = refl

pub if_gives : {X : Type 0} (P : X → Type 0) (b : Bool) (p q : Parsed X) → Gives P p → Gives P q → Gives P (if b then p else q)
if_gives P true p q h k = h
if_gives P false p q h k = k

-- ---- tokens

atom_gives : (t : Token) (n : ℕ) (text : List ℕ) → Gives (Any (List ℕ)) (atom_of t n text)
atom_gives (atom a) n text = tt
atom_gives opening n text = refl
atom_gives closing n text = refl

first_gives : (ls : List Lexeme) (text : List ℕ) → Gives (Any (List ℕ)) (first_atom ls text)
first_gives [] text = refl
first_gives (l ∷ rest) text = atom_gives l.token l.after text

pub word_gives : (text : List ℕ) → Gives (Any (List ℕ)) (word text)
word_gives text = first_gives (tokens text) text

pub sign_gives : (is : Token → Bool) (text : List ℕ) → Gives (Any (Unit {0})) (sign is text)
sign_gives is text = passing_gives (Any (Unit {0})) (begins is text) tt (behind_first (tokens text) text) (λ e. tt)

pub bracket_gives : {X : Type 0} (P : X → Type 0) (part : List ℕ → Parsed X) → ((text : List ℕ) → Gives P (part text)) → (text : List ℕ) → Gives P (bracket part text)
bracket_gives P part h text =
    gives_bind (Any (Unit {0})) P (sign is_opening text) (λ _ rest. part rest >>= λ x behind. sign is_closing behind >>= λ _ left. parsed x left) (sign_gives is_opening text)
    (λ _ rest _. gives_bind P P (part rest) (λ x behind. sign is_closing behind >>= λ _ left. parsed x left) (h rest)
    (λ x behind k. gives_bind (Any (Unit {0})) P (sign is_closing behind) (λ _ left. parsed x left) (sign_gives is_closing behind) (λ _ left _. k)))

parts_up_to_give : {X : Type 0} (P : X → Type 0) (ends : List ℕ → Bool) (part : List ℕ → Parsed X) → ((text : List ℕ) → Gives P (part text))
    → (n : ℕ) (text : List ℕ) → Gives (AllByRecursion P) (parts_up_to ends part n text)
parts_up_to_give P ends part h zero text = refl
parts_up_to_give P ends part h (suc n) text =
    if_gives (AllByRecursion P) (ends text) (parsed [] text) (part text >>= λ x rest. parts_up_to ends part n rest >>= λ xs left. parsed (x ∷ xs) left) tt
    (gives_bind P (AllByRecursion P) (part text) (λ x rest. parts_up_to ends part n rest >>= λ xs left. parsed (x ∷ xs) left) (h text)
    (λ x rest k. gives_bind (AllByRecursion P) (AllByRecursion P) (parts_up_to ends part n rest) (λ xs left. parsed (x ∷ xs) left) (parts_up_to_give P ends part h n rest)
    (λ xs left ks. (k, ks))))

pub parts_give : {X : Type 0} (P : X → Type 0) (ends : List ℕ → Bool) (part : List ℕ → Parsed X) → ((text : List ℕ) → Gives P (part text))
    → (text : List ℕ) → Gives (AllByRecursion P) (parts ends part text)
parts_give P ends part h text = parts_up_to_give P ends part h (suc (length text)) text

pub inside_gives : {X : Type 0} (P : X → Type 0) (part : List ℕ → Parsed X) → ((text : List ℕ) → Gives P (part text)) → (text : List ℕ) → Gives (AllByRecursion P) (inside part text)
inside_gives P part h text = parts_give P (begins is_closing) part h text

pub rest_gives : {X : Type 0} (P : X → Type 0) (part : List ℕ → Parsed X) → ((text : List ℕ) → Gives P (part text)) → (text : List ℕ) → Gives (AllByRecursion P) (rest_of part text)
rest_gives P part h text = parts_give P is_over part h text

pub some_gives : {X : Type 0} (P : X → Type 0) (p : Parsed (List X)) → Gives (AllByRecursion P) p → Gives (AllByRecursion P) (some p)
some_gives P p h = gives_bind (AllByRecursion P) (AllByRecursion P) p (λ xs rest. passing (has_some xs) xs rest) h
    (λ xs rest k. passing_gives (AllByRecursion P) (has_some xs) xs rest (λ e. k))

pub whole_gives : {X : Type 0} (P : X → Type 0) (p : Parsed X) → Gives P p → Gives P (whole p)
whole_gives P p h = gives_bind P P p (λ x rest. passing (is_over rest) x rest) h (λ x rest k. passing_gives P (is_over rest) x rest (λ e. k))

-- ---- words

pub word_of_gives : (form : List ℕ → Bool) (text : List ℕ) → Gives (λ a. form a ≡ true) (word_of form text)
word_of_gives form text =
    gives_bind (Any (List ℕ)) (λ a. form a ≡ true) (word text) (λ a rest. passing (form a) a rest) (word_gives text)
    (λ a rest _. passing_gives (λ b. form b ≡ true) (form a) a rest (λ e. e))

pub number_gives : (text : List ℕ) → Gives (Any ℤ) (number text)
number_gives text =
    gives_bind (λ a. is_short_number a ≡ true) (Any ℤ) (word_of is_short_number text) (λ a rest. parsed (number_of a) rest) (word_of_gives is_short_number text) (λ a rest _. tt)

pub number_between_gives : (least greatest : ℤ) (text : List ℕ) → Gives (λ z. (int_le least z && int_le z greatest) ≡ true) (number_between least greatest text)
number_between_gives least greatest text =
    gives_bind (Any ℤ) (λ z. (int_le least z && int_le z greatest) ≡ true) (number text) (λ z rest. passing (int_le least z && int_le z greatest) z rest) (number_gives text)
    (λ z rest _. passing_gives (λ x. (int_le least x && int_le x greatest) ≡ true) (int_le least z && int_le z greatest) z rest (λ e. e))

pub count_gives : (text : List ℕ) → Gives (Any ℕ) (count text)
count_gives text =
    gives_bind (λ a. is_short_count a ≡ true) (Any ℕ) (word_of is_short_count text) (λ a rest. parsed (spelled a) rest) (word_of_gives is_short_count text) (λ a rest _. tt)

pub either_gives : (this other text : List ℕ) → Gives (Any Bool) (either this other text)
either_gives this other text =
    gives_bind (Any (List ℕ)) (Any Bool) (word text) (λ a rest. passing (same_bytes this a || same_bytes other a) (same_bytes this a) rest) (word_gives text)
    (λ a rest _. passing_gives (Any Bool) (same_bytes this a || same_bytes other a) (same_bytes this a) rest (λ e. tt))

pub cell_gives : (text : List ℕ) → Gives (Any Cell) (cell text)
cell_gives text =
    gives_bind (λ a. is_cell a ≡ true) (Any Cell) (word_of is_cell text) (λ a rest. parsed (cell_of a) rest) (word_of_gives is_cell text) (λ a rest _. tt)

-- ---- terms

read_rule : (f : ReadFault) → stage_of (rule_of_read f) ≡ 8
read_rule Unbalanced = refl
read_rule BadAtom = refl
read_rule UnknownFunction = refl
read_rule BadCount = refl
read_rule TooDeep = refl
read_rule BigNumber = refl
read_rule NoMemory = refl

-- a term that is taken can be read back
pub term_gives : (hs : List Heading) (next : Option Heading) (text : List ℕ) → Gives (IsReadableTerm (with_next hs next)) (term hs next text)
term_gives hs next text = go (reads (head_named hs next) (Some 64) text) refl
  where
    go : (r : Reading) → reads (head_named hs next) (Some 64) text ≡ r → Gives (IsReadableTerm (with_next hs next)) (term_read r text)
    go (got t n) e = read_readable hs next (Some 64) text t n e
    go (fault f) e = read_rule f
