-- What the tables of a unit tell is what the unit says.
use Rattle.std.proofs.Common.{◌≡◌, ℕ, suc, Bool, true, false, cond, List, [], ◌∷◌, ◌++◌, length, refl, sym, ap, ◌∙◌, rules, arith}
use Rattle.std.specs.Prelude.{◌||◌, ◌&&◌, ◌==◌, not, is_some, Option, Some, None, codes}
use Rattle.std.specs.List.{list_any}
use Rattle.formula.specs.Atoms.{same_bytes, is_among}
use Rattle.fort_model.specs.Arguments.{applied_sort, data_sort, reference_sort, sort_of_expr}
use Rattle.fort_model.specs.CallRules.{same_block, declares}
use Rattle.fort_syntax.specs.Names.{Intrinsic, Absolute, Modulo, Greatest, Least, applied, applied_by, data_name, dims_of, intrinsic}
use Rattle.fort_syntax.specs.declared.dialect.BinOp.{BinOp}
use Rattle.fort_syntax.specs.declared.dialect.RelOp.{RelOp}
use Rattle.fort_syntax.specs.declared.dialect.Sort.TheVariants.{Integer, Logical}
use Rattle.fort_syntax.specs.declared.expr.Expr.{Expr}
use Rattle.fort_syntax.specs.declared.expr.Expr.TheViews as view
use Rattle.fort_syntax.specs.declared.name.Name.{Name}
use Rattle.fort_syntax.specs.declared.stmt.BlockName.{BlockName}
use Rattle.fort_syntax.specs.declared.stmt.BlockName.TheVariants.{Bare, Slashes, Named}
use Rattle.fort_syntax.specs.declared.stmt.Dim.{Dim}
use Rattle.fort_syntax.specs.declared.stmt.Group.{Group}
use Rattle.fort_syntax.specs.declared.unit.FunctionName.{FunctionName}
use Rattle.fort_syntax.specs.declared.unit.Unit.{Unit as Routine}
use Rattle.name_tables.specs.Sets.{with_name}
use Rattle.name_tables.specs.Tables.{all_told, first_of}
use Rattle.name_tables.proofs.Told.{same_names, swapped, all_told_of}
use Rattle.call_sites.specs.Books.{has_blank, is_blank, is_call, sorts_told, with_block, with_blocks}

-- ---- intrinsic functions

one_of_four : (a b c d : Bool)
    → (a || b || c || d) ≡ is_some (cond a (Some Absolute) (cond b (Some Modulo) (cond c (Some Greatest) (cond d (Some Least) None))))
one_of_four true b c d = refl
one_of_four false true c d = refl
one_of_four false false true d = refl
one_of_four false false false true = refl
one_of_four false false false false = refl

pub intrinsic_is : (f : Name)
    → (same_bytes f (codes "IABS") || same_bytes f (codes "MOD") || same_bytes f (codes "MAX0") || same_bytes f (codes "MIN0")) ≡ is_some (intrinsic f)
intrinsic_is f = one_of_four (same_bytes f (codes "IABS")) (same_bytes f (codes "MOD")) (same_bytes f (codes "MAX0")) (same_bytes f (codes "MIN0"))

not_empty : (n : ℕ) → (suc n == 0) ≡ false
not_empty n = grind arith

call_by : (ds : List Dim) (i : Option Intrinsic) → ((length ds == 0) && not (is_some i)) ≡ is_call (applied_by ds i)
call_by (d ∷ ds) i = ap (λ b. b && not (is_some i)) (not_empty (length ds))
call_by [] (Some i) = refl
call_by [] None = refl

pub call_is : (u : Routine) (f : Name) → ((length (dims_of u f) == 0) && not (is_some (intrinsic f))) ≡ is_call (applied u f)
call_is u f = call_by (dims_of u f) (intrinsic f)

-- ---- types

sort_by_array : (u : Routine) (f : Name) (ds : List Dim) (i : Option Intrinsic) → (length ds == 0) ≡ false
    → applied_sort u f (applied_by ds i) ≡ data_sort (data_name u f)
sort_by_array u f [] i h = absurd (search rules)
sort_by_array u f (d ∷ ds) i h = refl

pub sort_of_array : (u : Routine) (f : Name) → (length (dims_of u f) == 0) ≡ false → data_sort (data_name u f) ≡ applied_sort u f (applied u f)
sort_of_array u f h = sym (sort_by_array u f (dims_of u f) (intrinsic f) h)

sort_by_intrinsic : (u : Routine) (f : Name) (ds : List Dim) (i : Option Intrinsic) → (length ds == 0) ≡ true → is_some i ≡ true
    → applied_sort u f (applied_by ds i) ≡ Some Integer
sort_by_intrinsic u f [] (Some i) h k = refl
sort_by_intrinsic u f [] None h k = absurd (search rules)
sort_by_intrinsic u f (d ∷ ds) i h k = absurd (search rules)

pub sort_of_intrinsic : (u : Routine) (f : Name) → (length (dims_of u f) == 0) ≡ true → is_some (intrinsic f) ≡ true
    → Some Integer ≡ applied_sort u f (applied u f)
sort_of_intrinsic u f h k = sym (sort_by_intrinsic u f (dims_of u f) (intrinsic f) h k)

sort_by_reference : (u : Routine) (f : Name) (ds : List Dim) (i : Option Intrinsic) → (length ds == 0) ≡ true → is_some i ≡ false
    → applied_sort u f (applied_by ds i) ≡ reference_sort u.functions f
sort_by_reference u f [] (Some i) h k = absurd (search rules)
sort_by_reference u f [] None h k = refl
sort_by_reference u f (d ∷ ds) i h k = absurd (search rules)

pub sort_of_reference : (u : Routine) (f : Name) → (length (dims_of u f) == 0) ≡ true → is_some (intrinsic f) ≡ false
    → reference_sort u.functions f ≡ applied_sort u f (applied u f)
sort_of_reference u f h k = sym (sort_by_reference u f (dims_of u f) (intrinsic f) h k)

sorts_are : (fs : List FunctionName) (f : Name) → first_of (sorts_told fs) f ≡ reference_sort fs f
sorts_are [] f = refl
sorts_are (g ∷ gs) f =
    (λ i. cond (swapped f g.name i) (Some g.sort) (sorts_are gs f i))

pub sort_found : (fs : List FunctionName) (f : Name) → first_of (all_told [] (sorts_told fs)) f ≡ reference_sort fs f
sort_found fs f = all_told_of [] (sorts_told fs) f ∙ sorts_are fs f

-- ---- blocks

or_assoc : (a b c : Bool) → ((a || b) || c) ≡ (a || (b || c))
or_assoc true b c = refl
or_assoc false b c = refl

or_false : (a : Bool) → (a || false) ≡ a
or_false true = refl
or_false false = refl

any_both : {X : Type 0} (test : X → Bool) (xs ys : List X) → list_any test (xs ++ ys) ≡ (list_any test xs || list_any test ys)
any_both test [] ys = refl
any_both test (x ∷ xs) ys = ap (λ b. test x || b) (any_both test xs ys) ∙ sym (or_assoc (test x) (list_any test xs) (list_any test ys))

had : (x y : Name) (xs : List Name) → is_among y xs ≡ true → (b : Bool) → same_bytes x y ≡ b → is_among x xs ≡ (is_among x xs || b)
had x y xs h true e =
    let there : is_among x xs ≡ true = ap (λ n. is_among n xs) (same_names x y e) ∙ h in
    there ∙ sym (ap (λ b. b || true) there)
had x y xs h false e = sym (or_false (is_among x xs))

pub among_with : (x y : Name) (xs : List Name) → is_among x (with_name xs y) ≡ (is_among x xs || same_bytes x y)
among_with x y xs = by (is_among y xs) refl
  where
    by : (b : Bool) → is_among y xs ≡ b → is_among x (cond b xs (xs ++ y ∷ [])) ≡ (is_among x xs || same_bytes x y)
    by true h = had x y xs h (same_bytes x y) refl
    by false h = any_both (same_bytes x) xs (y ∷ []) ∙ ap (λ b. is_among x xs || b) (or_false (same_bytes x y))

among_block : (x : Name) (xs : List Name) (b : BlockName) → is_among x (with_block xs b) ≡ (is_among x xs || same_block b (Named x))
among_block x xs (Named y) = among_with x y xs ∙ ap (λ b. is_among x xs || b) (swapped x y)
among_block x xs Bare = sym (or_false (is_among x xs))
among_block x xs Slashes = sym (or_false (is_among x xs))

-- the names of blocks in a set
pub among_blocks : (x : Name) (xs : List Name) (groups : List Group)
    → is_among x (with_blocks xs groups) ≡ (is_among x xs || list_any (λ group. same_block group.block (Named x)) groups)
among_blocks x xs [] = sym (or_false (is_among x xs))
among_blocks x xs (group ∷ groups) =
    among_blocks x (with_block xs group.block) groups
    ∙ ap (λ b. b || list_any (λ g. same_block g.block (Named x)) groups) (among_block x xs group.block)
    ∙ or_assoc (is_among x xs) (same_block group.block (Named x)) (list_any (λ g. same_block g.block (Named x)) groups)

pub named_declared : (u : Routine) (x : Name) → is_among x (with_blocks [] u.blocks) ≡ declares u (Named x)
named_declared u x = among_blocks x [] u.blocks

blank_alike : (b : BlockName) → is_blank b ≡ same_block b Bare
blank_alike (Named x) = refl
blank_alike Bare = refl
blank_alike Slashes = refl

slashes_alike : (b : BlockName) → is_blank b ≡ same_block b Slashes
slashes_alike (Named x) = refl
slashes_alike Bare = refl
slashes_alike Slashes = refl

bare_among : (groups : List Group) → has_blank groups ≡ list_any (λ group. same_block group.block Bare) groups
bare_among [] = refl
bare_among (group ∷ groups) = λ i. blank_alike group.block i || bare_among groups i

slashes_among : (groups : List Group) → has_blank groups ≡ list_any (λ group. same_block group.block Slashes) groups
slashes_among [] = refl
slashes_among (group ∷ groups) = λ i. slashes_alike group.block i || slashes_among groups i

pub bare_declared : (u : Routine) → has_blank u.blocks ≡ declares u Bare
bare_declared u = bare_among u.blocks

pub blank_declared : (u : Routine) → has_blank u.blocks ≡ declares u Slashes
blank_declared u = slashes_among u.blocks

-- ---- types by the form of expressions

pub sort_paren : (u : Routine) (a : Expr) → sort_of_expr u (view.Paren a) ≡ sort_of_expr u a
unfolding Rattle.fort_syntax.specs.declared.expr.Expr.TheBlock.hidden-the_row-Expr-0 Rattle.fort_syntax.specs.declared.expr.Expr.TheBlock.hidden-the_row-Expr-1 denote.Hole.Carrier.hidden
sort_paren u a = refl

pub sort_pos : (u : Routine) (a : Expr) → sort_of_expr u (view.Pos a) ≡ Some Integer
unfolding Rattle.fort_syntax.specs.declared.expr.Expr.TheBlock.hidden-the_row-Expr-0 Rattle.fort_syntax.specs.declared.expr.Expr.TheBlock.hidden-the_row-Expr-1 denote.Hole.Carrier.hidden
sort_pos u a = refl

pub sort_neg : (u : Routine) (a : Expr) → sort_of_expr u (view.Neg a) ≡ Some Integer
unfolding Rattle.fort_syntax.specs.declared.expr.Expr.TheBlock.hidden-the_row-Expr-0 Rattle.fort_syntax.specs.declared.expr.Expr.TheBlock.hidden-the_row-Expr-1 denote.Hole.Carrier.hidden
sort_neg u a = refl

pub sort_not : (u : Routine) (a : Expr) → sort_of_expr u (view.Not a) ≡ Some Logical
unfolding Rattle.fort_syntax.specs.declared.expr.Expr.TheBlock.hidden-the_row-Expr-0 Rattle.fort_syntax.specs.declared.expr.Expr.TheBlock.hidden-the_row-Expr-1 denote.Hole.Carrier.hidden
sort_not u a = refl

pub sort_power : (u : Routine) (a : Expr) (n : ℕ) → sort_of_expr u (view.Power a n) ≡ Some Integer
unfolding Rattle.fort_syntax.specs.declared.expr.Expr.TheBlock.hidden-the_row-Expr-0 Rattle.fort_syntax.specs.declared.expr.Expr.TheBlock.hidden-the_row-Expr-1 denote.Hole.Carrier.hidden
sort_power u a n = refl

pub sort_bin : (u : Routine) (o : BinOp) (a b : Expr) → sort_of_expr u (view.Bin o a b) ≡ Some Integer
unfolding Rattle.fort_syntax.specs.declared.expr.Expr.TheBlock.hidden-the_row-Expr-0 Rattle.fort_syntax.specs.declared.expr.Expr.TheBlock.hidden-the_row-Expr-1 denote.Hole.Carrier.hidden
sort_bin u o a b = refl

pub sort_rel : (u : Routine) (o : RelOp) (a b : Expr) → sort_of_expr u (view.Rel o a b) ≡ Some Logical
unfolding Rattle.fort_syntax.specs.declared.expr.Expr.TheBlock.hidden-the_row-Expr-0 Rattle.fort_syntax.specs.declared.expr.Expr.TheBlock.hidden-the_row-Expr-1 denote.Hole.Carrier.hidden
sort_rel u o a b = refl

pub sort_and : (u : Routine) (a b : Expr) → sort_of_expr u (view.And a b) ≡ Some Logical
unfolding Rattle.fort_syntax.specs.declared.expr.Expr.TheBlock.hidden-the_row-Expr-0 Rattle.fort_syntax.specs.declared.expr.Expr.TheBlock.hidden-the_row-Expr-1 denote.Hole.Carrier.hidden
sort_and u a b = refl

pub sort_or : (u : Routine) (a b : Expr) → sort_of_expr u (view.Or a b) ≡ Some Logical
unfolding Rattle.fort_syntax.specs.declared.expr.Expr.TheBlock.hidden-the_row-Expr-0 Rattle.fort_syntax.specs.declared.expr.Expr.TheBlock.hidden-the_row-Expr-1 denote.Hole.Carrier.hidden
sort_or u a b = refl
