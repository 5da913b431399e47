-- Cards of blanks.
use Rattle.std.proofs.Common.{◌≡◌, ◌<◌, ℕ, ◌-◌, length, take, List, [], ◌∷◌, ◌++◌, Bool, true, false, None, ap, ◌∙◌, sym, refl, rules, arith, append-nil}
use Rattle.std.specs.Prelude.{replicate, zero, suc, ◌&&◌}
use Rattle.std.specs.List.{list_all}
use Rattle.std.proofs.lemmas.List.{take_all}
use Rattle.fort_syntax.specs.Cards.{Card, columns, kind_of, is_blank, begun_by, without_return}
use Rattle.fort_syntax.specs.declared.cards.Entry.{Entry}
use Rattle.fort_syntax.specs.CardRules.{Before, broken_by}
use Rattle.fort_syntax.specs.declared.cards.CardKind.TheVariants.{CommentCard}

-- bytes that are fewer than the columns are all looked at
pub short_take : (bytes : List ℕ) → length bytes < 72 → take 72 bytes ≡ bytes
short_take bytes h = take_all 72 bytes (omega arith)

all_blanks : (n : ℕ) → list_all is_blank (replicate n 32) ≡ true
all_blanks zero = refl
all_blanks (suc n) = all_blanks n

and_true : (a b c : Bool) → (a && b) ≡ true → (b ≡ true → c ≡ true) → (a && c) ≡ true
and_true true b c h next = next h
and_true false b c h next = h

blanks_behind : (xs : List ℕ) (n : ℕ) → list_all is_blank xs ≡ true → list_all is_blank (xs ++ replicate n 32) ≡ true
blanks_behind [] n h = all_blanks n
blanks_behind (x ∷ xs) n h =
    and_true (is_blank x) (list_all is_blank xs) (list_all is_blank (xs ++ replicate n 32)) h (λ later. blanks_behind xs n later)

-- what is blank in all columns is a comment
comment_of : (card : Card) → list_all is_blank card ≡ true → kind_of card ≡ CommentCard
comment_of [] h = refl
comment_of (x ∷ xs) h = grind rules

pub blank_is_comment : (bytes : List ℕ) → list_all is_blank (take 72 bytes) ≡ true → kind_of (columns bytes) ≡ CommentCard
blank_is_comment bytes h = comment_of (columns bytes) (blanks_behind (take 72 bytes) (72 - length bytes) h)

-- a comment breaks no rule
pub comment_breaks_none : (before : Before) (card : Card) → kind_of card ≡ CommentCard → broken_by before card ≡ None
comment_breaks_none before card h = grind rules

-- nothing begins with a comment
pub comment_begins_none : (number : ℕ) (card : Card) (rest : List Card) → kind_of card ≡ CommentCard → begun_by (kind_of card) number card rest ≡ []
comment_begins_none number card rest h = ap (λ k. begun_by k number card rest) h

-- the card of some bytes, where a test says that they are blank
pub blank_kind : (bytes given : List ℕ) (b : Bool) → given ≡ without_return bytes → b ≡ list_all is_blank (take 72 given) → b ≡ true
    → kind_of (columns (without_return bytes)) ≡ CommentCard
blank_kind bytes given b same test holds =
    ap (λ g. kind_of (columns g)) (sym same) ∙ blank_is_comment given (sym test ∙ holds)

pub nothing_begun : (xs : List Entry) (number : ℕ) (card : Card) (rest : List Card) → kind_of card ≡ CommentCard → xs ≡ xs ++ begun_by (kind_of card) number card rest
nothing_begun xs number card rest h = sym (ap (λ e. xs ++ e) (comment_begins_none number card rest h) ∙ append-nil xs)
