-- Parts of terms that are calls, and the bodies that count.
use Rattle.std.proofs.Common.{◌≡◌, ℕ, pos, Bool, true, false, if◌then◌else◌, Option, Some, None, List, [], ◌∷◌, refl, sym, ap, ◌∙◌}
use Rattle.std.proofs.lemmas.Bool.Decides.{Decides-int_eq}
use Rattle.std.proofs.lemmas.Cmp.{nat_list_eq_equiv}
use Rattle.std.specs.Cmp.Lexicographic.{same_text}
use Rattle.formula.specs.declared.function.BuiltIn.{BuiltIn as Builtin}
use Rattle.formula.specs.declared.function.BuiltIn.TheVariants as f
use Rattle.formula.specs.declared.function.Func.TheVariants.{BuiltIn, Defined}
use Rattle.formula.specs.Atoms.{same_bytes}
use Rattle.formula.specs.Functions.{name_of}
use Rattle.formula.specs.Reading.{all_built_ins, built_in_among}
use Rattle.formula.specs.Tree.{Tree, num, truth, symbol, old, apply, Row, none, more, tree_row}
use Rattle.formula.specs.Worth.{FunctionBody, plain, counting}
use Rattle.event_text.specs.Readable.{body_term}
use Rattle.event_text.proofs.Tests.{first_of_both, second_of_both}
use Rattle.event_reading.specs.Lines.{call_of, counted, counted_of, is_test, is_test_of, is_that_symbol, is_zero, row_trees}

again : (b : Builtin) → built_in_among all_built_ins (name_of b) ≡ Some b
again f.And = refl
again f.Or = refl
again f.Not = refl
again f.Implies = refl
again f.If = refl
again f.Equal = refl
again f.Plus = refl
again f.Difference = refl
again f.Times = refl
again f.Negative = refl
again f.Quotient = refl
again f.Remainder = refl
again f.Absolute = refl
again f.Maximum = refl
again f.Minimum = refl
again f.Less = refl
again f.AtMost = refl
again f.Element = refl
again f.Put = refl
again f.Size = refl
again f.Defined = refl
again f.IntegerCell = refl
again f.LogicalCell = refl
again f.IntegerCells = refl
again f.LogicalCells = refl
again f.Undefined = refl
again f.Blank = refl

some_same : {X : Type 0} (x y : X) → Some x ≡ Some y → x ≡ y
some_same x y e = cc

one_name : (a b : Builtin) → same_bytes (name_of a) (name_of b) ≡ true → a ≡ b
one_name a b h = some_same a b (sym (again a) ∙ ap (built_in_among all_built_ins) (same_text (name_of a) (name_of b) (sym h)) ∙ again b)

row_again : (row : Row) → tree_row (row_trees row) ≡ row
row_again none = refl
row_again (more t row) = ap (more t) (row_again row)

-- a term by its function and its arguments
pub call_is : (g : Builtin) (t : Tree) (ts : List Tree) → call_of g t ≡ Some ts → t ≡ apply (BuiltIn g) (tree_row ts)
call_is g (num z) ts e = absurd cc
call_is g (truth b) ts e = absurd cc
call_is g (symbol s) ts e = absurd cc
call_is g (old s) ts e = absurd cc
call_is g (apply (Defined k) row) ts e = absurd cc
call_is g (apply (BuiltIn h) row) ts e = by (same_bytes (name_of g) (name_of h)) refl e
  where
    by : (b : Bool) → same_bytes (name_of g) (name_of h) ≡ b → (if b then Some (row_trees row) else None) ≡ Some ts → apply (BuiltIn h) row ≡ apply (BuiltIn g) (tree_row ts)
    by false p q = absurd cc
    by true p q =
        let function : h ≡ g = sym (one_name g h p) in
        let args : row_trees row ≡ ts = cc in
        λ i. apply (BuiltIn (function i)) ((sym (row_again row) ∙ ap tree_row args) i)

symbol_is : (k : List ℕ) (t : Tree) → is_that_symbol k t ≡ true → t ≡ symbol k
symbol_is k (symbol s) h = ap symbol (sym (same_text k s (sym h)))
symbol_is k (num z) h = absurd cc
symbol_is k (truth b) h = absurd cc
symbol_is k (old s) h = absurd cc
symbol_is k (apply g row) h = absurd cc

zero_is : (t : Tree) → is_zero t ≡ true → t ≡ num (pos 0)
zero_is (num z) h = ap num ((Decides-int_eq z (pos 0)).0 h)
zero_is (symbol s) h = absurd cc
zero_is (truth b) h = absurd cc
zero_is (old s) h = absurd cc
zero_is (apply g row) h = absurd cc

-- `(ZLEQ k 0)`
abbrev pub test_term : List ℕ → Tree
test_term k = apply (BuiltIn f.AtMost) (more (symbol k) (more (num (pos 0)) none))

pub test_is : (k : List ℕ) (t : Tree) → is_test k t ≡ true → t ≡ test_term k
test_is k t h = by (call_of f.AtMost t) refl h
  where
    by : (o : Option (List Tree)) → call_of f.AtMost t ≡ o → is_test_of k o ≡ true → t ≡ test_term k
    by None e p = absurd cc
    by (Some []) e p = absurd cc
    by (Some (a ∷ [])) e p = absurd cc
    by (Some (a ∷ b ∷ [])) e p =
        let first = symbol_is k a (first_of_both (is_that_symbol k a) (is_zero b) p) in
        let second = zero_is b (second_of_both (is_that_symbol k a) (is_zero b) p) in
        call_is f.AtMost t (a ∷ b ∷ []) e ∙ (λ i. apply (BuiltIn f.AtMost) (more (first i) (more (second i) none)))
    by (Some (a ∷ b ∷ c ∷ rest)) e p = absurd cc

-- what a body is of: its term, or the base and the step of a counting one
pub data Counted (ps : List (List ℕ)) (t : Tree) : FunctionBody → Type 0 where
  whole : Counted ps t (plain t)
  parts : (k : List ℕ) (ks : List (List ℕ)) (base step : Tree) → ps ≡ k ∷ ks → t ≡ apply (BuiltIn f.If) (more (test_term k) (more base (more step none))) → Counted ps t (counting base step)

pub is_counted : (ps : List (List ℕ)) (t : Tree) → Counted ps t (counted ps t)
is_counted [] t = whole
is_counted (k ∷ ks) t = by (call_of f.If t) refl
  where
    tested : (a base step : Tree) (b : Bool) → is_test k a ≡ b → call_of f.If t ≡ Some (a ∷ base ∷ step ∷ []) → Counted (k ∷ ks) t (if b then counting base step else plain t)
    tested a base step false p e = whole
    tested a base step true p e = parts k ks base step refl (call_is f.If t (a ∷ base ∷ step ∷ []) e ∙ ap (λ x. apply (BuiltIn f.If) (more x (more base (more step none)))) (test_is k a p))

    by : (o : Option (List Tree)) → call_of f.If t ≡ o → Counted (k ∷ ks) t (counted_of k t o)
    by None e = whole
    by (Some []) e = whole
    by (Some (a ∷ [])) e = whole
    by (Some (a ∷ b ∷ [])) e = whole
    by (Some (a ∷ b ∷ c ∷ [])) e = tested a b c (is_test k a) refl e
    by (Some (a ∷ b ∷ c ∷ d ∷ rest)) e = whole

-- the term of the body is the term
pub counted_term : (ps : List (List ℕ)) (t : Tree) (body : FunctionBody) → Counted ps t body → body_term ps body ≡ t
counted_term ps t _ whole = refl
counted_term ps t _ (parts k ks base step e is) = ap (λ l. body_term l (counting base step)) e ∙ sym is

-- a counting body is read again
pub counted_again : (k : List ℕ) (ks : List (List ℕ)) (base step : Tree) → counted (k ∷ ks) (body_term (k ∷ ks) (counting base step)) ≡ counting base step
counted_again k ks base step =
    let same : same_bytes k k ≡ true = nat_list_eq_equiv.refl k in
    rw same refl
