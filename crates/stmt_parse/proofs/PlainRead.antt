-- Statements that a logical IF may carry, but IFs, are read where they are spelled.
use Rattle.std.proofs.Common.{◌≡◌, ℕ, ◌+◌, ◌≤◌, ◌<◌, Bool, true, false, Some, None, List, [], ◌∷◌, ◌++◌, length, map, codes, refl, sym, ap, ◌∙◌, subst, append_assoc, arith}
use Rattle.std.specs.Prelude.{◌==◌}
use Rattle.std.specs.List.{list_all}
use Rattle.std.proofs.lemmas.List.{append-nil}
use Rattle.std.proofs.lemmas.Bool.Decides.{nat_tests}
use Rattle.formula.specs.Atoms.{is_digit, is_name_byte, is_digits, starts}
use Rattle.fort_syntax.specs.declared.name.Name.{Name}
use Rattle.fort_syntax.specs.declared.expr.Expr.{Expr, Const}
use Rattle.fort_syntax.specs.declared.stmt.Stmt.{Stmt, Assign, GoTo, Computed, Continue, Call, Return}
use Rattle.fort_syntax.specs.Spelled.{Texts, just, ◌⨾◌, bracketed, name, label, expression}
use Rattle.fort_syntax.specs.Grammar.{comma_list, left_side, actuals}
use Rattle.fort_syntax.specs.Misspelled.{begins}
use Rattle.stmt_parse.specs.Tokens.{◌>>=◌, after, name_at, label_at}
use Rattle.stmt_parse.specs.Parsing.{bracketed_arguments, parse}
use Rattle.stmt_parse.specs.Statements.{whole, rest_of_brackets, left_at, assign, go_to, computed, actuals_at, call, jump, plain}
use Rattle.stmt_parse.proofs.TokensRead.{when_false, label_read}
use Rattle.stmt_parse.proofs.ExpressionsAnswers.{both_true}
use Rattle.stmt_parse.proofs.PartsParsed.{and_true}
use Rattle.stmt_parse.proofs.PartEnds.{differs, step_to, lengths, at_end}
use Rattle.stmt_parse.proofs.ListsRead.{name_begins, label_complete, rest_complete}
use Rattle.stmt_parse.proofs.ExpressionsAgree.{spelled_parsed, spelled_named, spelled_arguments}
use Rattle.stmt_parse.proofs.Unassigned.{long_unassigned, word_unassigned, call_unassigned, labels_arguments}

-- a text of a word and what stands behind it
pub behind : {Q : Texts} (w t : List ℕ) → (just w ⨾ Q) t → (u : List ℕ) × (t ≡ w ++ u) × Q u
behind w t h = (h.1, h.2 ∙ ap (λ c. c ++ h.1) h.3, h.4)

pub assign_read : (n : ℕ) (left right : Expr) (t : List ℕ) → (left_side left ⨾ just (codes "=") ⨾ expression right) t
    → length t + 2 ≤ n
    → assign n t ≡ Some (Assign left right)
unfolding assign left_at
assign_read n left right t h few =
    let b = behind (codes "=") h.1 h.4 in
    let size = lengths t h.0 h.1 h.2 in
    let rest = lengths h.1 (codes "=") b.0 b.1 in
    ap (assign n) (h.2 ∙ ap (λ y. h.0 ++ y) b.1)
    ∙ step_to (left_at n (h.0 ++ (codes "=" ++ b.0))) (left, codes "=" ++ b.0) (λ left. after (codes "=") left.1
    >>= λ rest. parse n 0 rest >>= λ right. whole right >>= λ w. Some (Assign left.0 w)) _
    (spelled_named left h.0 (codes "=" ++ b.0) n n h.3 (omega arith) (omega arith) refl)
    (step_to (parse n 0 b.0) (right, []) (λ right. whole right >>= λ w. Some (Assign left w)) _
    (at_end (parse n 0) b.0 right (spelled_parsed right b.0 [] n 0 b.2 (omega arith) (omega arith) refl)) refl)

-- a statement that is no assignment and no IF is read
pub record IsPlain (n : ℕ) (t : List ℕ) (s : Stmt) : Type 0 where
  pub unassigned : assign n t ≡ None
  pub read : plain n t ≡ Some s
  pub no_if : begins (codes "IF(") t ≡ false

-- ---- digits

digit_name_byte : (b : ℕ) → is_digit b ≡ true → is_name_byte b ≡ true
digit_name_byte b h = grind (arith, nat_tests)

pub all_name_bytes : (u : List ℕ) → list_all is_digit u ≡ true → list_all is_name_byte u ≡ true
all_name_bytes [] h = refl
all_name_bytes (b ∷ u) h = let p = both_true (is_digit b) _ h in and_true (is_name_byte b) _ (digit_name_byte b p.0)
    (all_name_bytes u p.1)

pub all_joined : (p : ℕ → Bool) (a b : List ℕ) → list_all p a ≡ true → list_all p b ≡ true → list_all p (a ++ b) ≡ true
all_joined p [] b h k = k
all_joined p (c ∷ a) b h k = let q = both_true (p c) _ h in and_true (p c) _ q.0 (all_joined p a b q.1 k)

pub name_bytes : (x u : List ℕ) → name x u → list_all is_name_byte u ≡ true
name_bytes x u h = ap (list_all is_name_byte) h.0 ∙ (both_true _ _ (both_true _ _ h.1).0).1

not_digit : (c b : ℕ) → is_digit c ≡ false → is_digit b ≡ true → (c == b) ≡ false
not_digit c b h k = grind (arith, nat_tests)

-- digits begin with no other byte
pub digits_apart : (c : ℕ) (u r : List ℕ) → is_digit c ≡ false → is_digits u ≡ true → begins (c ∷ []) (u ++ r) ≡ false
digits_apart c [] r h k = absurd cc
digits_apart c (b ∷ u) r h k = differs c [] b (u ++ r) (not_digit c b h (both_true _ _ k).0)

-- ---- GO TO

go_to_read : (l : ℕ) (u : List ℕ) → label l u → go_to u ≡ Some (GoTo l)
unfolding go_to
go_to_read l u h = step_to (label_at u) (l, []) (λ l. whole l
    >>= λ w. Some (GoTo w)) _ (at_end label_at u l (label_read l u [] h refl)) refl

go_to_word : (n l : ℕ) (u : List ℕ) → label l u → IsPlain n (codes "GOTO" ++ u) (GoTo l)
unfolding plain jump
go_to_word n l u h = record {
  unassigned =
      ap (assign n) (sym (append-nil (codes "GOTO" ++ u)))
      ∙ word_unassigned n (codes "GOTO" ++ u) []
      (all_joined is_name_byte (codes "GOTO") u refl (all_name_bytes u (both_true _ _ h.0).1)) refl refl refl;
  read = when_false (begins (codes "(") u) _ _ (ap (begins (codes "(")) (sym (append-nil u))
      ∙ digits_apart 40 u [] refl h.0) ∙ go_to_read l u h;
  no_if = refl;
}

pub go_to_plain : (n l : ℕ) (t : List ℕ) → (just (codes "GOTO") ⨾ label l) t → IsPlain n t (GoTo l)
go_to_plain n l t h = let b = behind (codes "GOTO") t h in subst (λ y. IsPlain n y (GoTo l)) (sym b.1)
    (go_to_word n l b.0 b.2)

computed_read : (n : ℕ) (ls : List ℕ) (x : Name) (v y : List ℕ) → (comma_list label ls ⨾ just (codes ")")) v → name x y
    → length v < n
    → computed n (v ++ (codes "," ++ y)) ≡ Some (Computed ls x)
unfolding computed
computed_read n ls x v y h k few =
    step_to (rest_of_brackets label_at n (v ++ (codes "," ++ y))) (ls, codes "," ++ y)
    (λ ls. after (codes ",") ls.1 >>= λ rest. name_at rest >>= λ x. whole x >>= λ w. Some (Computed ls.0 w)) _
    (rest_complete label_at label n (label_complete n) ls v (codes "," ++ y) h few)
    (step_to (name_at y) (x, []) (λ x. whole x
    >>= λ w. Some (Computed ls w)) _ (at_end name_at y x (name_begins x y [] k refl)) refl)

computed_word : (n : ℕ) (ls : List ℕ) (x : Name) (v y : List ℕ) → (comma_list label ls ⨾ just (codes ")")) v → name x y
    → length v + 1 ≤ n
    → IsPlain n (codes "GOTO" ++ (codes "(" ++ (v ++ (codes "," ++ y)))) (Computed ls x)
unfolding plain jump
computed_word n ls x v y h k few = record {
  unassigned = call_unassigned n (codes "GOTO") (map Const ls) v (codes "," ++ y) refl
      (h.0, h.1, h.2, labels_arguments ls h.0 h.3, h.4) few refl;
  read = computed_read n ls x v y h k (omega arith);
  no_if = refl;
}

pub computed_plain : (n : ℕ) (ls : List ℕ) (x : Name) (t : List ℕ)
    → (just (codes "GOTO") ⨾ bracketed (comma_list label ls) ⨾ just (codes ",") ⨾ name x) t
    → length t + 2 ≤ n → IsPlain n t (Computed ls x)
computed_plain n ls x t h few =
    let a = behind (codes "GOTO") t h in
    let p = a.2 in
    let b = behind (codes "(") p.0 p.3 in
    let c = behind (codes ",") p.1 p.4 in
    let text : a.0 ≡ codes "(" ++ (b.0 ++ (codes "," ++ c.0)) = p.2 ∙ (λ i. b.1 i ++ c.1 i)
    ∙ append_assoc (codes "(") b.0 (codes "," ++ c.0) in
    let size = lengths t (codes "GOTO") a.0 a.1 in
    let second = lengths a.0 (codes "(") (b.0 ++ (codes "," ++ c.0)) text in
    let third = lengths (b.0 ++ (codes "," ++ c.0)) b.0 (codes "," ++ c.0) refl in
    subst (λ y. IsPlain n y (Computed ls x)) (sym (a.1 ∙ ap (λ y. codes "GOTO" ++ y) text))
    (computed_word n ls x b.0 c.0 b.2 c.2 (omega arith))

-- ---- CALL

call_read : (n : ℕ) (x : Name) (es : List Expr) (a v : List ℕ) → name x a → starts is_name_byte v ≡ false
    → actuals_at n v ≡ Some (es, [])
    → call n (a ++ v) ≡ Some (Call x es)
unfolding call
call_read n x es a v h apart k =
    step_to (name_at (a ++ v)) (x, v) (λ x. actuals_at n x.1 >>= λ es. whole es
    >>= λ w. Some (Call x.0 w)) _ (name_begins x a v h apart)
    (step_to (actuals_at n v) (es, []) (λ es. whole es >>= λ w. Some (Call x w)) _ k refl)

called_bytes : (x a : List ℕ) → name x a → list_all is_name_byte (codes "CALL" ++ a) ≡ true
called_bytes x a h = all_joined is_name_byte (codes "CALL") a refl (name_bytes x a h)

call_word : (n : ℕ) (x : Name) (es : List Expr) (a v : List ℕ) → name x a → actuals es v → length v + 1 ≤ n
    → IsPlain n (codes "CALL" ++ (a ++ v)) (Call x es)
unfolding plain actuals_at
call_word n x [] a v h k few =
    subst (λ y. IsPlain n (codes "CALL" ++ (a ++ y)) (Call x [])) (sym k) record {
      unassigned = word_unassigned n (codes "CALL" ++ a) [] (called_bytes x a h) refl refl refl;
      read = call_read n x [] a [] h refl refl;
      no_if = refl;
    }
call_word n x (e ∷ es) a v h k few =
    let b = behind (codes "(") v k in
    let size = lengths v (codes "(") b.0 b.1 in
    subst (λ y. IsPlain n (codes "CALL" ++ (a ++ y)) (Call x (e ∷ es))) (sym b.1) record {
      unassigned =
          ap (λ y. assign n (codes "CALL" ++ (a ++ (codes "(" ++ y)))) (sym (append-nil b.0))
          ∙ call_unassigned n (codes "CALL" ++ a) (e ∷ es) b.0 [] (called_bytes x a h) b.2 (omega arith) refl;
      read =
          call_read n x (e ∷ es) a (codes "(" ++ b.0) h refl
          (at_end (bracketed_arguments (parse n) n) b.0 (e ∷ es)
          (spelled_arguments (e ∷ es) b.0 [] n n b.2 (omega arith) (omega arith)));
      no_if = refl;
    }

pub call_plain : (n : ℕ) (x : Name) (es : List Expr) (t : List ℕ) → (just (codes "CALL") ⨾ name x ⨾ actuals es) t
    → length t + 2 ≤ n → IsPlain n t (Call x es)
call_plain n x es t h few =
    let a = behind (codes "CALL") t h in
    let p = a.2 in
    let size = lengths t (codes "CALL") a.0 a.1 in
    let second = lengths a.0 p.0 p.1 p.2 in
    subst (λ y. IsPlain n y (Call x es)) (sym (a.1 ∙ ap (λ y. codes "CALL" ++ y) p.2))
    (call_word n x es p.0 p.1 p.3 p.4 (omega arith))

-- ---- words

continue_word : (n : ℕ) → IsPlain n (codes "CONTINUE") Continue
unfolding plain
continue_word n = record {
  unassigned = long_unassigned n (codes "CONTINUE") [] refl
      (omega arith);
  read = refl;
  no_if = refl;
}

pub continue_plain : (n : ℕ) (t : List ℕ) → t ≡ codes "CONTINUE" → IsPlain n t Continue
continue_plain n t h = subst (λ y. IsPlain n y Continue) (sym h) (continue_word n)

return_word : (n : ℕ) → IsPlain n (codes "RETURN") Return
unfolding plain
return_word n = record {
  unassigned = word_unassigned n
      (codes "RETURN") [] refl refl refl refl;
  read = refl;
  no_if = refl;
}

pub return_plain : (n : ℕ) (t : List ℕ) → t ≡ codes "RETURN" → IsPlain n t Return
return_plain n t h = subst (λ y. IsPlain n y Return) (sym h) (return_word n)
