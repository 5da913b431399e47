-- A list that is spelled is read, whatever follows that does not go on with it.
use Rattle.std.proofs.Common.{◌≡◌, ℕ, zero, suc, ◌+◌, ◌<◌, true, false, Some, List, [], ◌∷◌, ◌++◌, length, codes, refl, sym, ap, ◌∙◌, append_assoc, arith}
use Rattle.std.proofs.lemmas.List.{append-nil}
use Rattle.formula.specs.Atoms.{is_name_byte, starts}
use Rattle.fort_syntax.specs.Spelled.{Texts, just, ◌⨾◌, name, label}
use Rattle.fort_syntax.specs.Grammar.{more_listed, comma_list, in_brackets}
use Rattle.fort_syntax.specs.Misspelled.{begins}
use Rattle.stmt_parse.specs.Tokens.{◌>>=◌, after, name_at, label_at}
use Rattle.stmt_parse.specs.Statements.{Reader, more_of, list_of, rest_of_brackets, brackets_at}
use Rattle.stmt_parse.proofs.TokensRead.{when_false, name_read, label_read}
use Rattle.stmt_parse.proofs.ExpressionsEnds.{is_apart, no_name_byte, no_digit, no_bracket}
use Rattle.stmt_parse.proofs.PartEnds.{list_ends, list_apart, no_comma, step_to, lengths}

-- whatever is spelled in fewer bytes is read where it ends
abbrev pub IsComplete : {A : Type 0} → ℕ → Reader A → (A → Texts) → Type 0
IsComplete {A} n read P = (x : A) (u r : List ℕ) → P x u → length u < n → is_apart r ≡ true
    → read (u ++ r) ≡ Some (x, r)

pub name_begins : (x a v : List ℕ) → name x a → starts is_name_byte v ≡ false → name_at (a ++ v) ≡ Some (x, v)
name_begins x a v h k = ap (λ y. name_at (y ++ v)) h.0 ∙ name_read x v h.1 k

pub name_complete : (n : ℕ) → IsComplete n name_at name
name_complete n x u r h few e = name_begins x u r h (no_name_byte r e)

pub label_complete : (n : ℕ) → IsComplete n label_at label
label_complete n l u r h few e = label_read l u r h (no_digit r e)

-- a comma, one thing and the rest
comma_cut : (u c v a w r : List ℕ) → u ≡ c ++ v → c ≡ codes "," → v ≡ a ++ w → u ++ r ≡ codes "," ++ (a ++ (w ++ r))
comma_cut u c v a w r h k l = (λ i. (h ∙ (λ j. k j ++ l j)) i ++ r) ∙ append_assoc (codes ",") (a ++ w) r
    ∙ ap (λ x. codes "," ++ x) (append_assoc a w r)

comma_lengths : (u c v a w : List ℕ) → u ≡ c ++ v → c ≡ codes "," → v ≡ a ++ w → length u ≡ 1 + (length a + length w)
comma_lengths u c v a w h k l =
    let p = lengths u c v h in
    let q : length c ≡ 1 = ap length k in
    let s = lengths v a w l in
    omega arith

pub more_ends : {A : Type 0} (P : A → Texts) (zs : List A) (w r : List ℕ) → more_listed P zs w → list_ends r ≡ true
    → is_apart (w ++ r) ≡ true
more_ends P [] w r h e = ap (λ x. is_apart (x ++ r)) h ∙ list_apart r e
more_ends P (z ∷ zs) w r h e = ap (λ x. is_apart (x ++ r)) (h.2 ∙ ap (λ c. c ++ h.1) h.3)

more_complete : {A : Type 0} (read : Reader A) (P : A → Texts) (n : ℕ) → IsComplete n read P
    → (m : ℕ) (xs zs : List A) (u r : List ℕ) → more_listed P zs u → length u < m → length u < n → list_ends r ≡ true
    → more_of read m xs (u ++ r) ≡ Some (xs ++ zs, r)
more_complete read P n complete zero xs zs u r h few small e = absurd (omega arith)
more_complete read P n complete (suc m) xs [] u r h few small e =
    ap (λ x. more_of read (suc m) xs (x ++ r)) h ∙ when_false (begins (codes ",") r) _ _ (no_comma r e)
    ∙ ap (λ l. Some (l, r)) (sym (append-nil xs))
more_complete read P n complete (suc m) xs (z ∷ zs) u r h few small e =
    let b = h.4 in
    let size = comma_lengths u h.0 h.1 b.0 b.1 h.2 h.3 b.2 in
    ap (more_of read (suc m) xs) (comma_cut u h.0 h.1 b.0 b.1 r h.2 h.3 b.2)
    ∙ step_to (read (b.0 ++ (b.1 ++ r))) (z, b.1 ++ r) (λ x. more_of read m (xs ++ x.0 ∷ []) x.1) _
    (complete z b.0 (b.1 ++ r) b.3 (omega arith) (more_ends P zs b.1 r b.4 e))
    (more_complete read P n complete m (xs ++ z ∷ []) zs b.1 r b.4 (omega arith) (omega arith) e)
    ∙ ap (λ l. Some (l, r)) (append_assoc xs (z ∷ []) zs)

pub list_complete : {A : Type 0} (read : Reader A) (P : A → Texts) (n : ℕ) → IsComplete n read P
    → (xs : List A) (u r : List ℕ) → comma_list P xs u → length u < n → list_ends r ≡ true
    → list_of read n (u ++ r) ≡ Some (xs, r)
unfolding list_of
list_complete read P n complete [] u r h few e = absurd h
list_complete read P n complete (x ∷ xs) u r h few e =
    let size = lengths u h.0 h.1 h.2 in
    ap (list_of read n) (ap (λ y. y ++ r) h.2 ∙ append_assoc h.0 h.1 r)
    ∙ step_to (read (h.0 ++ (h.1 ++ r))) (x, h.1 ++ r) (λ y. more_of read n (y.0 ∷ []) y.1) _
    (complete x h.0 (h.1 ++ r) h.3 (omega arith) (more_ends P xs h.1 r h.4 e))
    (more_complete read P n complete n (x ∷ []) xs h.1 r h.4 (omega arith) (omega arith) e)

pub rest_complete : {A : Type 0} (read : Reader A) (P : A → Texts) (n : ℕ) → IsComplete n read P
    → (xs : List A) (u r : List ℕ) → (comma_list P xs ⨾ just (codes ")")) u → length u < n
    → rest_of_brackets read n (u ++ r) ≡ Some (xs, r)
unfolding rest_of_brackets
rest_complete read P n complete xs u r h few =
    let size = lengths u h.0 h.1 h.2 in
    ap (rest_of_brackets read n) (ap (λ y. y ++ r) (h.2 ∙ ap (λ c. h.0 ++ c) h.4) ∙ append_assoc h.0 (codes ")") r)
    ∙ step_to (list_of read n (h.0 ++ (codes ")" ++ r))) (xs, codes ")" ++ r) (λ ys. after (codes ")") ys.1
    >>= λ rest. Some (ys.0, rest)) _
    (list_complete read P n complete xs h.0 (codes ")" ++ r) h.3 (omega arith) refl)
    refl

pub brackets_complete : {A : Type 0} (read : Reader A) (P : A → Texts) (n : ℕ) → IsComplete n read P
    → (xs : List A) (u r : List ℕ) → in_brackets P xs u → length u < n → is_apart r ≡ true
    → brackets_at read n (u ++ r) ≡ Some (xs, r)
unfolding brackets_at
brackets_complete read P n complete [] u r h few e =
    ap (λ y. brackets_at read n (y ++ r)) h ∙ when_false (begins (codes "(") r) _ _ (no_bracket r e)
brackets_complete read P n complete (x ∷ xs) u r h few e =
    let size = lengths u h.0 h.1 h.2 in
    ap (λ y. brackets_at read n (y ++ r)) (h.2 ∙ ap (λ c. c ++ h.1) h.3)
    ∙ rest_complete read P n complete (x ∷ xs) h.1 r h.4 (omega arith)

-- what stands behind a name with brackets or without goes on with no name
pub brackets_apart : {A : Type 0} (P : A → Texts) (xs : List A) (u r : List ℕ) → in_brackets P xs u → is_apart r ≡ true
    → starts is_name_byte (u ++ r) ≡ false
brackets_apart P [] u r h e = ap (λ y. starts is_name_byte (y ++ r)) h ∙ no_name_byte r e
brackets_apart P (x ∷ xs) u r h e = ap (λ y. starts is_name_byte (y ++ r)) (h.2 ∙ ap (λ c. c ++ h.1) h.3)
