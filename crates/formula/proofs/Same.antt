-- Nodes that compare equal are one node.
use Rattle.std.proofs.Common.{◌≡◌, ℕ, Bool, true, false, ◌&&◌, List, [], ◌∷◌, refl, sym, ap, true≢false}
use Rattle.std.proofs.lemmas.Bool.{eqb-true}
use Rattle.std.proofs.lemmas.Bool.Decides.{Decides-int_eq}
use Rattle.std.specs.Cmp.Lexicographic.{pointwise, same_text}
use Rattle.formula.specs.declared.node.Node.{Node}
use Rattle.formula.specs.declared.node.Node.TheVariants.{Num, Truth, Symbol, Old, Apply}
use Rattle.formula.specs.declared.node.TermId.{TermId}
use Rattle.formula.specs.declared.function.Func.{Func}
use Rattle.formula.specs.declared.function.Func.TheVariants.{BuiltIn, Defined}
use Rattle.formula.specs.declared.function.BuiltIn.{BuiltIn as Builtin}
use Rattle.formula.specs.declared.function.BuiltIn.TheVariants.{And, Or, Not, Implies, If, Equal, Plus, Difference, Times, Negative, Quotient, Remainder, Absolute, Maximum, Minimum, Less, AtMost, Element, Put, Size, Defined as IsDefined, IntegerCell, LogicalCell, IntegerCells, LogicalCells, Undefined, Blank}
use Rattle.formula.specs.contracts.node.NodePartialEq.TheImpl.{ghosts as node_ghosts}
use Rattle.formula.specs.contracts.function.FuncPartialEq.TheImpl.{ghosts as func_ghosts}
use Rattle.formula.specs.contracts.function.BuiltInPartialEq.TheImpl.{ghosts as built_ghosts}
use Rattle.formula.specs.contracts.node.TermIdPartialEq.TheImpl.{ghosts as id_ghosts}

same_id : (a c : TermId) → id_ghosts.eq a c ≡ true → a ≡ c
same_id a c h = ap (λ (n : ℕ). record { place = n }) (eqb-true a.place c.place h)

both : (s t : Bool) → (s && t) ≡ true → (s ≡ true) × (t ≡ true)
both true t h = (refl, h)
both false t h = absurd (true≢false (sym h))

same_ids : (xs ys : List TermId) → pointwise id_ghosts.eq xs ys ≡ true → xs ≡ ys
same_ids [] [] h = refl
same_ids [] (y ∷ ys) h = absurd (true≢false (sym h))
same_ids (x ∷ xs) [] h = absurd (true≢false (sym h))
same_ids (x ∷ xs) (y ∷ ys) h =
    let p = both (id_ghosts.eq x y) (pointwise id_ghosts.eq xs ys) h in
    λ i. same_id x y p.0 i ∷ same_ids xs ys p.1 i

same_bool : (x y : Bool) → node_ghosts.eq (Truth x) (Truth y) ≡ true → x ≡ y
same_bool true true h = refl
same_bool false false h = refl
same_bool _ _ h = absurd (true≢false (sym h))

same_built : (x y : Builtin) → built_ghosts.eq x y ≡ true → x ≡ y
same_built And And h = refl
same_built Or Or h = refl
same_built Not Not h = refl
same_built Implies Implies h = refl
same_built If If h = refl
same_built Equal Equal h = refl
same_built Plus Plus h = refl
same_built Difference Difference h = refl
same_built Times Times h = refl
same_built Negative Negative h = refl
same_built Quotient Quotient h = refl
same_built Remainder Remainder h = refl
same_built Absolute Absolute h = refl
same_built Maximum Maximum h = refl
same_built Minimum Minimum h = refl
same_built Less Less h = refl
same_built AtMost AtMost h = refl
same_built Element Element h = refl
same_built Put Put h = refl
same_built Size Size h = refl
same_built IsDefined IsDefined h = refl
same_built IntegerCell IntegerCell h = refl
same_built LogicalCell LogicalCell h = refl
same_built IntegerCells IntegerCells h = refl
same_built LogicalCells LogicalCells h = refl
same_built Undefined Undefined h = refl
same_built Blank Blank h = refl
same_built _ _ h = absurd (true≢false (sym h))

same_func : (x y : Func) → func_ghosts.eq x y ≡ true → x ≡ y
same_func (BuiltIn x) (BuiltIn y) h = ap BuiltIn (same_built x y h)
same_func (Defined x) (Defined y) h = ap Defined (eqb-true x y h)
same_func _ _ h = absurd (true≢false (sym h))

pub same_node : (a c : Node) → node_ghosts.eq a c ≡ true → a ≡ c
same_node (Num x) (Num y) h = ap Num ((Decides-int_eq x y).0 h)
same_node (Truth x) (Truth y) h = ap Truth (same_bool x y h)
same_node (Symbol x) (Symbol y) h = ap Symbol (same_text x y (sym h))
same_node (Old x) (Old y) h = ap Old (same_text x y (sym h))
same_node (Apply x xs) (Apply y ys) h =
    let p = both (func_ghosts.eq x y) (pointwise id_ghosts.eq xs ys) h in
    λ i. Apply (same_func x y p.0 i) (same_ids xs ys p.1 i)
same_node _ _ h = absurd (true≢false (sym h))
