-- The statement that a text spells is found.
use Rattle.std.proofs.Common.{◌≡◌, ℕ, ◌+◌, ◌≤◌, Bool, true, false, Option, Some, None, List, [], ◌∷◌, ◌++◌, length, drop, codes, refl, sym, ap, ◌∙◌, subst, append_assoc, arith}
use Rattle.std.specs.Prelude.{◌==◌, if◌then◌else◌}
use Rattle.std.proofs.lemmas.List.{append-nil}
use Rattle.std.proofs.lemmas.Bool.Decides.{nat_tests}
use Rattle.formula.specs.Atoms.{is_name_byte, is_name}
use Rattle.fort_syntax.specs.TreePatterns.{carried as the_carried}
use Rattle.fort_syntax.specs.declared.name.Name.{Name}
use Rattle.fort_syntax.specs.declared.dialect.Dialect.{Dialect}
use Rattle.fort_syntax.specs.declared.dialect.Dialect.TheVariants.{Common as CommonForms, SeventySeven}
use Rattle.fort_syntax.specs.declared.dialect.Sort.{Sort}
use Rattle.fort_syntax.specs.declared.dialect.Sort.TheVariants.{Integer, Logical}
use Rattle.fort_syntax.specs.declared.expr.Expr.{Expr}
use Rattle.fort_syntax.specs.declared.stmt.Item.{Item}
use Rattle.fort_syntax.specs.declared.stmt.Group.{Group}
use Rattle.fort_syntax.specs.declared.stmt.BlockName.{BlockName}
use Rattle.fort_syntax.specs.declared.stmt.BlockName.TheVariants as block
use Rattle.fort_syntax.specs.declared.stmt.Param.{Param}
use Rattle.fort_syntax.specs.declared.stmt.Stmt.{Stmt}
use Rattle.fort_syntax.specs.declared.stmt.Stmt.TheVariants.{Subroutine, Function, Declare, Dimension, Common, Assign, GoTo, Computed, ArithIf, LogicalIf', Do, Continue, Call, Return, End, BlockIf, ElseIf, Else, EndIf}
use Rattle.fort_syntax.specs.Spelled.{just, ◌⨾◌, expression}
use Rattle.fort_syntax.specs.Grammar.{comma_list, item, first_block, groups, form, is_deep, Spells}
use Rattle.fort_syntax.specs.Misspelled.{begins}
use Rattle.stmt_parse.specs.Tokens.{name_at}
use Rattle.stmt_parse.specs.Statements.{or_other, assign, function, declare, plain, head, typed_head, logical_head, declaration, untyped_declaration, other, condition_at, behind_condition, is_word, if_of, else_if, block_part, by_word, found, statement_of}
use Rattle.stmt_parse.proofs.TokensRead.{when_false, name_read}
use Rattle.stmt_parse.proofs.ExpressionsAnswers.{both_true, begun}
use Rattle.stmt_parse.proofs.ExecutableSpelled.{logical_tree}
use Rattle.stmt_parse.proofs.PartsParsed.{and_true}
use Rattle.stmt_parse.proofs.PartEnds.{step_to, lengths}
use Rattle.stmt_parse.proofs.ItemsRead.{Named, items_begin}
use Rattle.stmt_parse.proofs.DeclarationsRead.{subroutine_read, function_read, declare_read, dimension_read, common_read}
use Rattle.stmt_parse.proofs.Unassigned.{name_missing, long_unassigned, word_unassigned}
use Rattle.stmt_parse.proofs.PlainRead.{IsPlain, behind, all_joined, assign_read, go_to_plain, computed_plain, call_plain, continue_plain, return_plain}
use Rattle.stmt_parse.proofs.ConditionsRead.{Condition, condition_cut, condition_read, if_unassigned, labels_behind, carried_behind}
use Rattle.stmt_parse.proofs.DoRead.{do_read, do_unassigned}

assign_found : (d : Dialect) (n : ℕ) (t : List ℕ) (s : Stmt) → assign n t ≡ Some s → found d n t ≡ Some s
unfolding found
assign_found d n t s h = ap (λ o. or_other o (by_word d n t)) h

-- a text that is no assignment
by_word_found : (d : Dialect) (n : ℕ) (t : List ℕ) (o : Option Stmt) → assign n t ≡ None → by_word d n t ≡ o
    → found d n t ≡ o
unfolding found
by_word_found d n t o h k = ap (λ y. or_other y (by_word d n t)) h ∙ k

plain_found : (d : Dialect) (n : ℕ) (t : List ℕ) (s : Stmt) → IsPlain n t s → found d n t ≡ Some s
unfolding by_word
plain_found d n t s p = by_word_found d n t (Some s) p.unassigned
    (ap (λ o. or_other o (or_other (head n t) (or_other (declaration n t) (other d n t)))) p.read)

-- ---- heads

shorter : (w t u : List ℕ) → t ≡ w ++ u → length u ≤ length t
shorter w t u h = let size = lengths t w u h in omega arith

subroutine_found : (d : Dialect) (n : ℕ) (x : Name) (ds : List Name) (t : List ℕ) → form d (Subroutine x ds) t
    → length t + 2 ≤ n → found d n t ≡ Some (Subroutine x ds)
unfolding by_word plain head
subroutine_found d n x ds t h few =
    let b = behind (codes "SUBROUTINE") t h in
    let size = shorter (codes "SUBROUTINE") t b.0 b.1 in
    ap (found d n) b.1
    ∙ by_word_found d n (codes "SUBROUTINE" ++ b.0) _ (long_unassigned n (codes "SUBROUTINE") b.0 refl (omega arith))
    (ap (λ o. or_other o (or_other (declaration n (codes "SUBROUTINE" ++ b.0))
    (other d n (codes "SUBROUTINE" ++ b.0)))) (subroutine_read n x ds b.0 b.2 (omega arith)))

function_found : (d : Dialect) (n : ℕ) (o : Option Sort) (x : Name) (ds : List Name) (t : List ℕ)
    → form d (Function o x ds) t → length t + 2 ≤ n → found d n t ≡ Some (Function o x ds)
unfolding by_word plain head typed_head logical_head
function_found d n None x ds t h few =
    let b = behind (codes "FUNCTION") t h in
    let size = shorter (codes "FUNCTION") t b.0 b.1 in
    ap (found d n) b.1
    ∙ by_word_found d n (codes "FUNCTION" ++ b.0) _ (long_unassigned n (codes "FUNCTION") b.0 refl (omega arith))
    (ap (λ o. or_other o (or_other (declaration n (codes "FUNCTION" ++ b.0)) (other d n (codes "FUNCTION" ++ b.0))))
    (function_read n None x ds b.0 b.2 (omega arith)))
function_found d n (Some Integer) x ds t h few =
    let b = behind (codes "INTEGERFUNCTION") t h in
    let size = shorter (codes "INTEGERFUNCTION") t b.0 b.1 in
    ap (found d n) b.1
    ∙ by_word_found d n (codes "INTEGERFUNCTION" ++ b.0) _
    (long_unassigned n (codes "INTEGERFUNCTION") b.0 refl (omega arith))
    (ap (λ o. or_other o (or_other (declaration n (codes "INTEGERFUNCTION" ++ b.0))
    (other d n (codes "INTEGERFUNCTION" ++ b.0)))) (function_read n (Some Integer) x ds b.0 b.2 (omega arith)))
function_found d n (Some Logical) x ds t h few =
    let b = behind (codes "LOGICALFUNCTION") t h in
    let size = shorter (codes "LOGICALFUNCTION") t b.0 b.1 in
    ap (found d n) b.1
    ∙ by_word_found d n (codes "LOGICALFUNCTION" ++ b.0) _
    (long_unassigned n (codes "LOGICALFUNCTION") b.0 refl (omega arith))
    (ap (λ o. or_other o (or_other (declaration n (codes "LOGICALFUNCTION" ++ b.0))
    (other d n (codes "LOGICALFUNCTION" ++ b.0)))) (function_read n (Some Logical) x ds b.0 b.2 (omega arith)))

-- ---- declarations

-- no name begins with FUNCTION
function_apart : (b : Bool) (t : List ℕ) → begins (codes "FUNCTION") t ≡ b → Named t → b ≡ false
function_apart false t h p = refl
function_apart true t h p = absurd (
    let read : name_at t ≡ Some (p.first, p.rest) = ap name_at p.same ∙ name_read p.first p.rest p.is p.apart in
    let missing : name_at t ≡ None = ap name_at (begun (codes "FUNCTION") t h)
    ∙ name_missing (codes "FUNCTION") (drop 8 t) refl (omega arith) in
    let bad : Some (p.first, p.rest) ≡ None = sym read ∙ missing in
    cc)

items_apart : (is : List Item) (u : List ℕ) → comma_list item is u → begins (codes "FUNCTION") u ≡ false
items_apart is u h = function_apart (begins (codes "FUNCTION") u) u refl
    (subst Named (append-nil u) (items_begin is u [] h refl))

integer_head : (n : ℕ) (u : List ℕ) → begins (codes "FUNCTION") u ≡ false → typed_head n (codes "INTEGER" ++ u) ≡ None
unfolding typed_head logical_head
integer_head n u h = when_false (begins (codes "FUNCTION") u) (function n (Some Integer) (drop 8 u)) None h

logical_head_none : (n : ℕ) (u : List ℕ) → begins (codes "FUNCTION") u ≡ false
    → logical_head n (codes "LOGICAL" ++ u) ≡ None
unfolding logical_head
logical_head_none n u h = when_false (begins (codes "FUNCTION") u) (function n (Some Logical) (drop 8 u)) None h

declare_found : (d : Dialect) (n : ℕ) (o : Sort) (is : List Item) (t : List ℕ) → form d (Declare o is) t
    → length t + 2 ≤ n → found d n t ≡ Some (Declare o is)
unfolding by_word plain head typed_head declaration
declare_found d n Integer is t h few =
    let b = behind (codes "INTEGER") t h in
    let size = shorter (codes "INTEGER") t b.0 b.1 in
    ap (found d n) b.1
    ∙ by_word_found d n (codes "INTEGER" ++ b.0) _ (long_unassigned n (codes "INTEGER") b.0 refl (omega arith))
    (ap (λ o. or_other o (or_other (declare n Integer b.0) (other d n (codes "INTEGER" ++ b.0))))
    (integer_head n b.0 (items_apart is b.0 b.2))
    ∙ ap (λ o. or_other o (other d n (codes "INTEGER" ++ b.0))) (declare_read n Integer is b.0 b.2 (omega arith)))
declare_found d n Logical is t h few =
    let b = behind (codes "LOGICAL") t h in
    let size = shorter (codes "LOGICAL") t b.0 b.1 in
    ap (found d n) b.1
    ∙ by_word_found d n (codes "LOGICAL" ++ b.0) _ (long_unassigned n (codes "LOGICAL") b.0 refl (omega arith))
    (ap (λ o. or_other o (or_other (declare n Logical b.0) (other d n (codes "LOGICAL" ++ b.0))))
    (logical_head_none n b.0 (items_apart is b.0 b.2))
    ∙ ap (λ o. or_other o (other d n (codes "LOGICAL" ++ b.0))) (declare_read n Logical is b.0 b.2 (omega arith)))

dimension_found : (d : Dialect) (n : ℕ) (is : List Item) (t : List ℕ) → form d (Dimension is) t → length t + 2 ≤ n
    → found d n t ≡ Some (Dimension is)
unfolding by_word plain head typed_head logical_head declaration untyped_declaration
dimension_found d n is t h few =
    let b = behind (codes "DIMENSION") t h in
    let size = shorter (codes "DIMENSION") t b.0 b.1 in
    ap (found d n) b.1
    ∙ by_word_found d n (codes "DIMENSION" ++ b.0) _ (long_unassigned n (codes "DIMENSION") b.0 refl (omega arith))
    (ap (λ o. or_other o (other d n (codes "DIMENSION" ++ b.0))) (dimension_read n is b.0 b.2 (omega arith)))

-- a name's first byte
first_byte : (x : List ℕ) → is_name x ≡ true → (c : ℕ) × (y : List ℕ) × (x ≡ c ∷ y) × (is_name_byte c ≡ true)
first_byte [] h = absurd cc
first_byte (b ∷ y) h = (b, y, refl, (both_true _ _ (both_true _ _ (both_true _ _ h).0).1).0)

seven_unassigned : (n c : ℕ) (r : List ℕ) → is_name_byte c ≡ true → assign n (codes "COMMON" ++ (c ∷ r)) ≡ None
seven_unassigned n c r h = long_unassigned n (codes "COMMON" ++ c ∷ []) r
    (all_joined is_name_byte (codes "COMMON") (c ∷ []) refl (and_true (is_name_byte c) true h refl)) (omega arith)

slash_unassigned : (n : ℕ) (u y : List ℕ) → u ≡ codes "/" ++ y → assign n (codes "COMMON" ++ u) ≡ None
slash_unassigned n u y h = ap (λ u. assign n (codes "COMMON" ++ u)) h
    ∙ word_unassigned n (codes "COMMON") (codes "/" ++ y) refl refl refl refl

common_unassigned : (n : ℕ) (b : BlockName) (is : List Item) (u a v z : List ℕ) → u ≡ a ++ (v ++ z) → first_block b a
    → comma_list item is v → assign n (codes "COMMON" ++ u) ≡ None
common_unassigned n block.Bare is u a v z h first items =
    let p = subst Named (append-nil v) (items_begin is v [] items refl) in
    let c = first_byte p.first p.is in
    let text : u ≡ c.0 ∷ (c.1 ++ (p.rest ++ z)) =
    h ∙ (λ i. first i ++ (p.same i ++ z)) ∙ append_assoc p.first p.rest z ∙ ap (λ x. x ++ (p.rest ++ z)) c.2 in
    ap (λ u. assign n (codes "COMMON" ++ u)) text ∙ seven_unassigned n c.0 (c.1 ++ (p.rest ++ z)) c.3
common_unassigned n block.Slashes is u a v z h first items = slash_unassigned n u (codes "/" ++ (v ++ z)) (h
    ∙ ap (λ y. y ++ (v ++ z)) first)
common_unassigned n (block.Named x) is u a v z h first items =
    let b = behind (codes "/") a first in
    slash_unassigned n u (b.0 ++ (v ++ z)) (h ∙ ap (λ y. y ++ (v ++ z)) b.1)

groups_unassigned : (n : ℕ) (gs : List Group) (u : List ℕ) → groups gs u → assign n (codes "COMMON" ++ u) ≡ None
groups_unassigned n [] u h = absurd h
groups_unassigned n (g ∷ gs) u h =
    let p = h.4 in
    common_unassigned n g.block g.items u h.0 p.0 p.1 (h.2 ∙ ap (λ y. h.0 ++ y) p.2) h.3 p.3

common_found : (d : Dialect) (n : ℕ) (gs : List Group) (t : List ℕ) → form d (Common gs) t → length t + 2 ≤ n
    → found d n t ≡ Some (Common gs)
unfolding by_word plain head typed_head logical_head declaration untyped_declaration
common_found d n gs t h few =
    let b = behind (codes "COMMON") t h in
    let size = shorter (codes "COMMON") t b.0 b.1 in
    ap (found d n) b.1
    ∙ by_word_found d n (codes "COMMON" ++ b.0) _ (groups_unassigned n gs b.0 b.2)
    (ap (λ o. or_other o (other d n (codes "COMMON" ++ b.0))) (common_read n gs b.0 b.2 (omega arith)))

-- ---- IF

if_found : {Q : List ℕ → Type 0} (d : Dialect) (n : ℕ) (e : Expr) (t : List ℕ) (c : Condition (codes "IF") t e Q)
    → length t + 2 ≤ n → begins (codes "=") c.rest ≡ false
    → found d n t ≡ behind_condition d n e c.rest
unfolding by_word plain head typed_head logical_head declaration untyped_declaration other if_of
if_found d n e t c few unequal =
    let size = c.size in
    ap (found d n) c.same
    ∙ by_word_found d n (codes "IF" ++ (codes "(" ++ (c.inner ++ c.rest))) _
    (if_unassigned n (codes "IF") e c.inner c.rest refl c.is (omega arith) unequal)
    (step_to (condition_at n (c.inner ++ c.rest)) (e, c.rest) (λ e. behind_condition d n e.0 e.1) _
    (condition_read n e c.inner c.rest c.is (omega arith)) refl)

arith_found : (d : Dialect) (n : ℕ) (e : Expr) (l m k : ℕ) (t : List ℕ) → form d (ArithIf e l m k) t → length t + 2 ≤ n
    → found d n t ≡ Some (ArithIf e l m k)
arith_found d n e l m k t h few =
    let c = condition_cut (codes "IF") t e h in
    let p = labels_behind d n e l m k c.rest c.next in
    if_found d n e t c few p.0 ∙ p.1

logical_found : (d : Dialect) (n : ℕ) (e : Expr) (s : Stmt) (t : List ℕ) → form d (LogicalIf' e _ (the_carried s)) t
    → length t + 2 ≤ n
    → found d n t ≡ Some (LogicalIf' e _ (the_carried s))
logical_found d n e s t h few =
    let c = condition_cut (codes "IF") t e h in
    let size = c.size in
    let p = carried_behind d n e s c.rest c.next.0 c.next.1 (omega arith) in
    if_found d n e t c few p.0 ∙ p.1 ∙ ap Some (logical_tree e s)

then_behind : (n : ℕ) (e : Expr) → behind_condition SeventySeven n e (codes "THEN") ≡ Some (BlockIf e)
unfolding behind_condition
then_behind n e = refl

block_if_found : (d : Dialect) (n : ℕ) (e : Expr) (t : List ℕ) → form d (BlockIf e) t → length t + 2 ≤ n
    → found d n t ≡ Some (BlockIf e)
block_if_found CommonForms n e t h few = absurd h
block_if_found SeventySeven n e t h few =
    let c = condition_cut (codes "IF") t e h in
    if_found SeventySeven n e t c few (ap (begins (codes "=")) c.next) ∙ ap (behind_condition SeventySeven n e) c.next
    ∙ then_behind n e

-- ---- what belongs to a block IF

else_if_read : (n : ℕ) (e : Expr) (v r : List ℕ) → (expression e ⨾ just (codes ")")) v → r ≡ codes "THEN"
    → length v + 1 ≤ n → else_if n (v ++ r) ≡ Some (ElseIf e)
unfolding else_if
else_if_read n e v r h k few =
    step_to (condition_at n (v ++ r)) (e, r) (λ e. if is_word (codes "THEN") e.1 then Some (ElseIf e.0)
    else None) _ (condition_read n e v r h few)
    (ap (λ y. if is_word (codes "THEN") y then Some (ElseIf e) else None) k)

longer : (y : List ℕ) → (length (codes "ELSEIF(" ++ y) == 4) ≡ false
longer y = grind (arith, nat_tests)

else_if_part : (n : ℕ) (y : List ℕ) → block_part n (codes "ELSEIF(" ++ y) ≡ else_if n y
unfolding block_part
else_if_part n y = when_false (length (codes "ELSEIF(" ++ y) == 4) (Some Else) (else_if n y) (longer y)

else_if_found : (d : Dialect) (n : ℕ) (e : Expr) (t : List ℕ) → form d (ElseIf e) t → length t + 2 ≤ n
    → found d n t ≡ Some (ElseIf e)
unfolding by_word plain head typed_head logical_head declaration untyped_declaration other
else_if_found CommonForms n e t h few = absurd h
else_if_found SeventySeven n e t h few =
    let c = condition_cut (codes "ELSEIF") t e h in
    let size = c.size in
    ap (found SeventySeven n) c.same
    ∙ by_word_found SeventySeven n (codes "ELSEIF" ++ (codes "(" ++ (c.inner ++ c.rest))) _
    (if_unassigned n (codes "ELSEIF") e c.inner c.rest refl c.is (omega arith) (ap (begins (codes "=")) c.next))
    (else_if_part n (c.inner ++ c.rest) ∙ else_if_read n e c.inner c.rest c.is c.next (omega arith))

else_found : (d : Dialect) (n : ℕ) (t : List ℕ) → form d Else t → found d n t ≡ Some Else
unfolding by_word plain head typed_head logical_head declaration untyped_declaration other block_part
else_found CommonForms n t h = absurd h
else_found SeventySeven n t h =
    ap (found SeventySeven n) h ∙ by_word_found SeventySeven n (codes "ELSE") _
    (word_unassigned n (codes "ELSE") [] refl refl refl refl) refl

end_if_found : (d : Dialect) (n : ℕ) (t : List ℕ) → form d EndIf t → found d n t ≡ Some EndIf
unfolding by_word plain head typed_head logical_head declaration untyped_declaration other block_part
end_if_found CommonForms n t h = absurd h
end_if_found SeventySeven n t h =
    ap (found SeventySeven n) h ∙ by_word_found SeventySeven n (codes "ENDIF") _
    (word_unassigned n (codes "ENDIF") [] refl refl refl refl) refl

-- ---- END and DO

end_found : (d : Dialect) (n : ℕ) (t : List ℕ) → form d End t → found d n t ≡ Some End
unfolding by_word plain head typed_head logical_head declaration untyped_declaration other
end_found d n t h = ap (found d n) h
    ∙ by_word_found d n (codes "END") _ (word_unassigned n (codes "END") [] refl refl refl refl) refl

do_found : (d : Dialect) (n l : ℕ) (x : Name) (a b : Param) (by : Option Param) (t : List ℕ) → form d (Do l x a b by) t
    → length t + 2 ≤ n → found d n t ≡ Some (Do l x a b by)
unfolding by_word plain head typed_head logical_head declaration untyped_declaration other
do_found d n l x a b by t h few =
    let p = behind (codes "DO") t h in
    let size = shorter (codes "DO") t p.0 p.1 in
    ap (found d n) p.1
    ∙ by_word_found d n (codes "DO" ++ p.0) _ (do_unassigned n l x a b by p.0 p.2 (omega arith))
    (do_read l x a b by p.0 p.2)

-- ---- all forms

form_found : (d : Dialect) (s : Stmt) (n : ℕ) (t : List ℕ) → form d s t → length t + 2 ≤ n → found d n t ≡ Some s
form_found d (Subroutine y ds) n t h few = subroutine_found d n y ds t h few
form_found d (Function o y ds) n t h few = function_found d n o y ds t h few
form_found d (Declare o is) n t h few = declare_found d n o is t h few
form_found d (Dimension is) n t h few = dimension_found d n is t h few
form_found d (Common gs) n t h few = common_found d n gs t h few
form_found d (Assign left right) n t h few = assign_found d n t _ (assign_read n left right t h few)
form_found d (GoTo l) n t h few = plain_found d n t _ (go_to_plain n l t h)
form_found d (Computed ls y) n t h few = plain_found d n t _ (computed_plain n ls y t h few)
form_found d (ArithIf e l m k) n t h few = arith_found d n e l m k t h few
form_found d (LogicalIf' e _ (the_carried s)) n t h few = logical_found d n e s t h few
form_found d (Do l y a b by) n t h few = do_found d n l y a b by t h few
form_found d Continue n t h few = plain_found d n t _ (continue_plain n t h)
form_found d (Call y es) n t h few = plain_found d n t _ (call_plain n y es t h few)
form_found d Return n t h few = plain_found d n t _ (return_plain n t h)
form_found d End n t h few = end_found d n t h
form_found d (BlockIf e) n t h few = block_if_found d n e t h few
form_found d (ElseIf e) n t h few = else_if_found d n e t h few
form_found d Else n t h few = else_found d n t h
form_found d EndIf n t h few = end_if_found d n t h

-- a statement that a text spells is the one that is found
pub spelled_is_found : (d : Dialect) (t : List ℕ) (s : Stmt) → Spells d t s → statement_of d t ≡ Some s
unfolding statement_of
spelled_is_found d t s h =
    let most : length t + 2 ≤ length t + 2 = omega arith in
    when_false (is_deep t) None (found d (length t + 2) t) h.1 ∙ form_found d s (length t + 2) t h.0 most
