-- Heads and declarations that are read are spelled by the text.
use Rattle.std.proofs.Common.{◌≡◌, ℕ, true, Option, Some, None, List, [], ◌∷◌, ◌++◌, length, drop, codes, inl, inr, sym, subst}
use Rattle.std.specs.Prelude.{if◌then◌else◌, nat_lt}
use Rattle.std.specs.List.{list_all}
use Rattle.fort_syntax.specs.declared.dialect.Dialect.{Dialect}
use Rattle.fort_syntax.specs.declared.dialect.Sort.{Sort}
use Rattle.fort_syntax.specs.declared.dialect.Sort.TheVariants.{Integer, Logical}
use Rattle.fort_syntax.specs.declared.stmt.Dim.{Dim}
use Rattle.fort_syntax.specs.declared.stmt.Item.{Item}
use Rattle.fort_syntax.specs.declared.stmt.Stmt.{Stmt, Subroutine, Function, Declare, Dimension, Common}
use Rattle.fort_syntax.specs.Spelled.{just, ◌⨾◌, bracketed, name}
use Rattle.fort_syntax.specs.Grammar.{more_listed, comma_list, in_brackets, dim, item, array, groups, sort, optional_sort, form}
use Rattle.fort_syntax.specs.Misspelled.{begins}
use Rattle.stmt_parse.specs.Tokens.{after, name_at}
use Rattle.stmt_parse.specs.Statements.{whole, list_of, rest_of_brackets, brackets_at, item_at, groups_at, subroutine, function, declare, is_array, all_arrays, dimension_of, common, logical_head, typed_head, head, untyped_declaration, declaration}
use Rattle.std.proofs.lemmas.Option.{same_Some}
use Rattle.stmt_parse.proofs.ExpressionsAnswers.{first_step, by_test, when_passed, both_true, begun}
use Rattle.stmt_parse.proofs.Readings.{ended, first_of_all, word_and_rest, word_then}
use Rattle.stmt_parse.proofs.TokensSpelled.{name_begun}
use Rattle.stmt_parse.proofs.ListsSpelled.{rest_spelled, brackets_spelled}
use Rattle.stmt_parse.proofs.ItemsSpelled.{items_spelled, groups_spelled}

subroutine_spelled : (d : Dialect) (n : ℕ) (t : List ℕ) (s : Stmt) → subroutine n t ≡ Some s
    → form d s (codes "SUBROUTINE" ++ t)
unfolding subroutine
subroutine_spelled d n t s h =
    let x = first_step (name_at t) _ s h in
    let ds = first_step (brackets_at name_at n x.0.1) _ s x.2 in
    let w = first_step (whole ds.0) _ s ds.2 in
    subst (λ y. form d y (codes "SUBROUTINE" ++ t)) (same_Some (Subroutine x.0.0 w.0) s w.2)
    (word_and_rest (codes "SUBROUTINE") t
    (first_of_all t x.0.1 (name_begun t x.0 x.1)
    (ended (in_brackets name) x.0.1 ds.0 w.0 w.1 (brackets_spelled name_at name name_begun n x.0.1 ds.0 ds.1))))

function_spelled : (d : Dialect) (n : ℕ) (o : Option Sort) (t : List ℕ) (s : Stmt) → function n o t ≡ Some s
    → form d s ((optional_sort o ++ codes "FUNCTION") ++ t)
unfolding function
function_spelled d n o t s h =
    let x = first_step (name_at t) _ s h in
    let r = first_step (after (codes "(") x.0.1) _ s x.2 in
    let ds = first_step (rest_of_brackets name_at n r.0) _ s r.2 in
    let w = first_step (whole ds.0) _ s ds.2 in
    subst (λ y. form d y ((optional_sort o ++ codes "FUNCTION") ++ t)) (same_Some (Function o x.0.0 w.0) s w.2)
    (word_and_rest (optional_sort o ++ codes "FUNCTION") t
    (first_of_all t x.0.1 (name_begun t x.0 x.1)
    (word_then (codes "(") x.0.1 r.0 r.1
    (ended (λ l. comma_list name l ⨾ just (codes ")")) r.0 ds.0 w.0 w.1
    (rest_spelled name_at name name_begun n r.0 ds.0 ds.1)))))

declare_spelled : (d : Dialect) (n : ℕ) (o : Sort) (t : List ℕ) (s : Stmt) → declare n o t ≡ Some s
    → form d s (sort o ++ t)
unfolding declare
declare_spelled d n o t s h =
    let is = first_step (list_of (item_at n) n t) _ s h in
    let w = first_step (whole is.0) _ s is.2 in
    subst (λ y. form d y (sort o ++ t)) (same_Some (Declare o w.0) s w.2)
    (word_and_rest (sort o) t (ended (comma_list item) t is.0 w.0 w.1 (items_spelled n t is.0 is.1)))

-- items with dimensions are arrays

filled : (ds : List Dim) (x : List ℕ) → nat_lt 0 (length ds) ≡ true → in_brackets dim ds x → bracketed (comma_list dim ds) x
filled [] x h p = absurd cc
filled (d ∷ ds) x h p = p

array_so : (i : Item) (x : List ℕ) → is_array i ≡ true → item i x → array i x
array_so i x h p = (p.0, p.1, p.2, p.3, filled i.dims p.1 h p.4)

more_arrays : (is : List Item) (x : List ℕ) → list_all is_array is ≡ true → more_listed item is x
    → more_listed array is x
more_arrays [] x h p = p
more_arrays (i ∷ is) x h p =
    let q = both_true (is_array i) _ h in
    let r = p.4 in
    (p.0, p.1, p.2, p.3, (r.0, r.1, r.2, array_so i r.0 q.0 r.3, more_arrays is r.1 q.1 r.4))

arrays_so : (is : List Item) (x : List ℕ) → list_all is_array is ≡ true → comma_list item is x → comma_list array is x
arrays_so [] x h p = p
arrays_so (i ∷ is) x h p = let q = both_true (is_array i) _ h in
    (p.0, p.1, p.2, array_so i p.0 q.0 p.3, more_arrays is p.1 q.1 p.4)

dimension_spelled : (d : Dialect) (n : ℕ) (t : List ℕ) (s : Stmt) → dimension_of n t ≡ Some s
    → form d s (codes "DIMENSION" ++ t)
unfolding dimension_of all_arrays
dimension_spelled d n t s h =
    let is = first_step (list_of (item_at n) n t) _ s h in
    let w = first_step (whole is.0) _ s is.2 in
    let p = when_passed (list_all is_array w.0) (Some (Dimension w.0)) s w.2 in
    subst (λ y. form d y (codes "DIMENSION" ++ t)) (same_Some (Dimension w.0) s p.1)
    (word_and_rest (codes "DIMENSION") t
    (arrays_so w.0 t p.0 (ended (comma_list item) t is.0 w.0 w.1 (items_spelled n t is.0 is.1))))

common_spelled : (d : Dialect) (n : ℕ) (t : List ℕ) (s : Stmt) → common n t ≡ Some s → form d s (codes "COMMON" ++ t)
unfolding common
common_spelled d n t s h =
    let gs = first_step (groups_at n t) _ s h in
    let w = first_step (whole gs.0) _ s gs.2 in
    subst (λ y. form d y (codes "COMMON" ++ t)) (same_Some (Common w.0) s w.2)
    (word_and_rest (codes "COMMON") t (ended groups t gs.0 w.0 w.1 (groups_spelled n t gs.0 gs.1)))

-- ---- by the first word

-- the statement of a text that begins with a word
pub behind_word : (d : Dialect) (w t : List ℕ) (s : Stmt) → begins w t ≡ true → form d s (w ++ drop (length w) t)
    → form d s t
behind_word d w t s h p = subst (form d s) (sym (begun w t h)) p

logical_head_spelled : (d : Dialect) (n : ℕ) (t : List ℕ) (s : Stmt) → logical_head n t ≡ Some s → form d s t
unfolding logical_head
logical_head_spelled d n t s h =
    let p = when_passed (begins (codes "LOGICALFUNCTION") t) _ s h in
    behind_word d (codes "LOGICALFUNCTION") t s p.0 (function_spelled d n (Some Logical) (drop 15 t) s p.1)

typed_head_spelled : (d : Dialect) (n : ℕ) (t : List ℕ) (s : Stmt) → typed_head n t ≡ Some s → form d s t
unfolding typed_head
typed_head_spelled d n t s h = elim (by_test (begins (codes "INTEGERFUNCTION") t) _ _ (Some s) h) [
  | inl p ↦ behind_word d (codes "INTEGERFUNCTION") t s p.0 (function_spelled d n (Some Integer) (drop 15 t) s p.1)
  | inr p ↦ logical_head_spelled d n t s p.1
]

function_head_spelled : (d : Dialect) (n : ℕ) (t : List ℕ) (s : Stmt)
    → (if begins (codes "FUNCTION") t then function n None (drop 8 t) else typed_head n t) ≡ Some s → form d s t
function_head_spelled d n t s h = elim (by_test (begins (codes "FUNCTION") t) _ _ (Some s) h) [
  | inl p ↦ behind_word d (codes "FUNCTION") t s p.0 (function_spelled d n None (drop 8 t) s p.1)
  | inr p ↦ typed_head_spelled d n t s p.1
]

pub head_spelled : (d : Dialect) (n : ℕ) (t : List ℕ) (s : Stmt) → head n t ≡ Some s → form d s t
unfolding head
head_spelled d n t s h = elim (by_test (begins (codes "SUBROUTINE") t) _ _ (Some s) h) [
  | inl p ↦ behind_word d (codes "SUBROUTINE") t s p.0 (subroutine_spelled d n (drop 10 t) s p.1)
  | inr p ↦ function_head_spelled d n t s p.1
]

untyped_spelled : (d : Dialect) (n : ℕ) (t : List ℕ) (s : Stmt) → untyped_declaration n t ≡ Some s → form d s t
unfolding untyped_declaration
untyped_spelled d n t s h = elim (by_test (begins (codes "DIMENSION") t) _ _ (Some s) h) [
  | inl p ↦ behind_word d (codes "DIMENSION") t s p.0 (dimension_spelled d n (drop 9 t) s p.1)
  | inr p ↦
      let q = when_passed (begins (codes "COMMON") t) _ s p.1 in
      behind_word d (codes "COMMON") t s q.0 (common_spelled d n (drop 6 t) s q.1)
]

logical_spelled : (d : Dialect) (n : ℕ) (t : List ℕ) (s : Stmt)
    → (if begins (codes "LOGICAL") t then declare n Logical (drop 7 t) else untyped_declaration n t) ≡ Some s
    → form d s t
logical_spelled d n t s h = elim (by_test (begins (codes "LOGICAL") t) _ _ (Some s) h) [
  | inl p ↦ behind_word d (codes "LOGICAL") t s p.0 (declare_spelled d n Logical (drop 7 t) s p.1)
  | inr p ↦ untyped_spelled d n t s p.1
]

pub declaration_spelled : (d : Dialect) (n : ℕ) (t : List ℕ) (s : Stmt) → declaration n t ≡ Some s → form d s t
unfolding declaration
declaration_spelled d n t s h = elim (by_test (begins (codes "INTEGER") t) _ _ (Some s) h) [
  | inl p ↦ behind_word d (codes "INTEGER") t s p.0 (declare_spelled d n Integer (drop 7 t) s p.1)
  | inr p ↦ logical_spelled d n t s p.1
]
