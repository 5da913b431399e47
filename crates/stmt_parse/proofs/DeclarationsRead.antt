-- Heads and declarations that are spelled are read.
use Rattle.std.proofs.Common.{◌≡◌, ℕ, ◌<◌, true, Option, Some, None, List, [], ◌∷◌, ◌++◌, length, codes, refl, sym, ap, ◌∙◌, arith}
use Rattle.std.specs.Prelude.{if◌then◌else◌, nat_lt}
use Rattle.std.specs.List.{list_all}
use Rattle.std.proofs.lemmas.List.{append-nil}
use Rattle.std.proofs.lemmas.Bool.Decides.{nat_tests}
use Rattle.formula.specs.Atoms.{is_name_byte, starts}
use Rattle.fort_syntax.specs.declared.name.Name.{Name}
use Rattle.fort_syntax.specs.declared.dialect.Sort.{Sort}
use Rattle.fort_syntax.specs.declared.stmt.Dim.{Dim}
use Rattle.fort_syntax.specs.declared.stmt.Item.{Item}
use Rattle.fort_syntax.specs.declared.stmt.Group.{Group}
use Rattle.fort_syntax.specs.declared.stmt.Stmt.{Subroutine, Function, Declare, Dimension, Common}
use Rattle.fort_syntax.specs.Spelled.{◌⨾◌, bracketed, name}
use Rattle.fort_syntax.specs.Grammar.{more_listed, comma_list, in_brackets, dim, item, array, groups}
use Rattle.stmt_parse.specs.Tokens.{◌>>=◌, after, name_at}
use Rattle.stmt_parse.specs.Statements.{whole, list_of, rest_of_brackets, brackets_at, item_at, groups_at, subroutine, function, declare, is_array, all_arrays, dimension_of, common}
use Rattle.stmt_parse.proofs.TokensRead.{when_true}
use Rattle.stmt_parse.proofs.PartsParsed.{and_true}
use Rattle.stmt_parse.proofs.PartEnds.{step_to, lengths, at_end}
use Rattle.stmt_parse.proofs.ListsRead.{name_begins, name_complete, rest_complete, brackets_complete, brackets_apart}
use Rattle.stmt_parse.proofs.ItemsRead.{items_complete, groups_complete}

pub subroutine_read : (n : ℕ) (x : Name) (ds : List Name) (t : List ℕ) → (name x ⨾ in_brackets name ds) t
    → length t < n → subroutine n t ≡ Some (Subroutine x ds)
unfolding subroutine
subroutine_read n x ds t h few =
    let size = lengths t h.0 h.1 h.2 in
    let apart = ap (starts is_name_byte) (sym (append-nil h.1)) ∙ brackets_apart name ds h.1 [] h.4 refl in
    ap (subroutine n) h.2
    ∙ step_to (name_at (h.0 ++ h.1)) (x, h.1) (λ x. brackets_at name_at n x.1 >>= λ ds. whole ds
    >>= λ w. Some (Subroutine x.0 w)) _ (name_begins x h.0 h.1 h.3 apart)
    (step_to (brackets_at name_at n h.1) (ds, []) (λ ds. whole ds >>= λ w. Some (Subroutine x w)) _
    (at_end (brackets_at name_at n) h.1 ds
    (brackets_complete name_at name n (name_complete n) ds h.1 [] h.4 (omega arith) refl)) refl)

pub function_read : (n : ℕ) (o : Option Sort) (x : Name) (ds : List Name) (t : List ℕ)
    → (name x ⨾ bracketed (comma_list name ds)) t → length t < n → function n o t ≡ Some (Function o x ds)
unfolding function
function_read n o x ds t h few =
    let p = h.4 in
    let text : h.1 ≡ codes "(" ++ p.1 = p.2 ∙ ap (λ c. c ++ p.1) p.3 in
    let size = lengths t h.0 h.1 h.2 in
    let behind = lengths h.1 (codes "(") p.1 text in
    ap (function n o) (h.2 ∙ ap (λ y. h.0 ++ y) text)
    ∙ step_to (name_at (h.0 ++ (codes "(" ++ p.1))) (x, codes "(" ++ p.1)
    (λ x. after (codes "(") x.1 >>= λ rest. rest_of_brackets name_at n rest >>= λ ds. whole ds
    >>= λ w. Some (Function o x.0 w)) _
    (name_begins x h.0 (codes "(" ++ p.1) h.3 refl)
    (step_to (rest_of_brackets name_at n p.1) (ds, []) (λ ds. whole ds >>= λ w. Some (Function o x w)) _
    (at_end (rest_of_brackets name_at n) p.1 ds
    (rest_complete name_at name n (name_complete n) ds p.1 [] p.4 (omega arith))) refl)

items_whole : (n : ℕ) (is : List Item) (t : List ℕ) → comma_list item is t → length t < n
    → list_of (item_at n) n t ≡ Some (is, [])
items_whole n is t h few = at_end (list_of (item_at n) n) t is (items_complete n is t [] h few refl)

pub declare_read : (n : ℕ) (o : Sort) (is : List Item) (t : List ℕ) → comma_list item is t → length t < n
    → declare n o t ≡ Some (Declare o is)
unfolding declare
declare_read n o is t h few = step_to (list_of (item_at n) n t) (is, []) (λ is. whole is
    >>= λ w. Some (Declare o w)) _ (items_whole n is t h few) refl

-- arrays are items with dimensions

filled : (ds : List Dim) (x : List ℕ) → bracketed (comma_list dim ds) x
    → (nat_lt 0 (length ds) ≡ true) × in_brackets dim ds x
filled [] x p = absurd (p.4).3
filled (d ∷ ds) x p = (grind (arith, nat_tests), p)

array_item : (i : Item) (x : List ℕ) → array i x → (is_array i ≡ true) × item i x
array_item i x p = let q = filled i.dims p.1 p.4 in (q.0, (p.0, p.1, p.2, p.3, q.1))

more_items : (is : List Item) (x : List ℕ) → more_listed array is x
    → (list_all is_array is ≡ true) × more_listed item is x
more_items [] x p = (refl, p)
more_items (i ∷ is) x p =
    let r = p.4 in
    let a = array_item i r.0 r.3 in
    let b = more_items is r.1 r.4 in
    (and_true (is_array i) _ a.0 b.0, (p.0, p.1, p.2, p.3, (r.0, r.1, r.2, a.1, b.1)))

arrays_items : (is : List Item) (x : List ℕ) → comma_list array is x → (list_all is_array is ≡ true) × comma_list item is x
arrays_items [] x p = absurd p
arrays_items (i ∷ is) x p =
    let a = array_item i p.0 p.3 in
    let b = more_items is p.1 p.4 in
    (and_true (is_array i) _ a.0 b.0, (p.0, p.1, p.2, a.1, b.1))

pub dimension_read : (n : ℕ) (is : List Item) (t : List ℕ) → comma_list array is t → length t < n
    → dimension_of n t ≡ Some (Dimension is)
unfolding dimension_of all_arrays
dimension_read n is t h few =
    let p = arrays_items is t h in
    step_to (list_of (item_at n) n t) (is, []) (λ is. whole is >>= λ w. if list_all is_array w then Some (Dimension w)
    else None) _
    (items_whole n is t p.1 few) (when_true (list_all is_array is) (Some (Dimension is)) None p.0)

pub common_read : (n : ℕ) (gs : List Group) (t : List ℕ) → groups gs t → length t < n → common n t ≡ Some (Common gs)
unfolding common
common_read n gs t h few = step_to (groups_at n t) (gs, []) (λ gs. whole gs
    >>= λ w. Some (Common w)) _ (groups_complete n gs t h few) refl
