-- Expressions as the code takes them apart.
use Rattle.std.proofs.Common.{◌≡◌, ℕ, List, [], ◌∷◌, ◌++◌, map, Result, OnOk, IfOk, refl, sym, ap, ◌∙◌, subst, append_assoc}
use Rattle.fort_syntax.specs.Names.{applied}
use Rattle.fort_syntax.specs.TreePatterns.{row_of}
use Rattle.fort_syntax.specs.declared.dialect.BinOp.{BinOp}
use Rattle.fort_syntax.specs.declared.dialect.RelOp.{RelOp}
use Rattle.fort_syntax.specs.declared.expr.Expr.{Expr, Row_of-Expr, end_of-Expr, more_of-Expr, items-the_row-Expr, items_hidden-the_row-Expr-0}
use Rattle.fort_syntax.specs.declared.expr.Expr.TheBlock.{hidden-the_row-Expr-0}
use Rattle.fort_syntax.specs.declared.expr.Expr.TheViews as view
use Rattle.fort_syntax.specs.declared.name.Name.{Name}
use Rattle.fort_model.specs.Seen.{Named}
use Rattle.fort_model.specs.WalkCalls.{Sight, Operand, Computed}
use Rattle.weight_expr.specs.Listed.{operands_listed, values_listed}
use Rattle.weight_calls.specs.Operands.{operand_of}
use Rattle.weight_calls.specs.declared.operands.Operand.{Operand as Code}
use Rattle.weight_caps.specs.declared.loads.Load.{Load}
use Rattle.weight_expr.specs.Parts.{bracketed_part, denied_part, joined_part, negated_part, operated_part, raised_part}
use Rattle.weight_tallies.specs.Tallied as t
use Rattle.weight_tallies.specs.Tallies as c

module _ (w : Sight ℕ) (now : Named ℕ) where
  values_items : {m : _} (row : Row_of-Expr m) → c.values w now row ≡ values_listed w now (items-the_row-Expr _ row)
  values_items end_of-Expr = refl
  values_items (more_of-Expr e rest) = ap (λ (part : t.Tally (List ℕ)). t.◌>>=◌ (c.value w now e) (λ n. t.◌>>=◌ part (λ ns. t.tallied (n ∷ ns)))) (values_items rest)

  operands_items : {m : _} (row : Row_of-Expr m) → c.operands w now row ≡ operands_listed w now (items-the_row-Expr _ row)
  operands_items end_of-Expr = refl
  operands_items (more_of-Expr e rest) = ap (λ (part : t.Tally (List (Operand ℕ))). t.◌>>=◌ (c.operand w now e) (λ x. t.◌>>=◌ part (λ xs. t.tallied (x ∷ xs)))) (operands_items rest)

  pub operands_row : (args : List Expr) → c.operands w now (row_of args) ≡ operands_listed w now args
  operands_row [] = refl
  operands_row (e ∷ es) = ap (λ (part : t.Tally (List (Operand ℕ))). t.◌>>=◌ (c.operand w now e) (λ x. t.◌>>=◌ part (λ xs. t.tallied (x ∷ xs)))) (operands_row es)

  pub values_row : (args : List Expr) → c.values w now (row_of args) ≡ values_listed w now args
  values_row [] = refl
  values_row (e ∷ es) = ap (λ (part : t.Tally (List ℕ)). t.◌>>=◌ (c.value w now e) (λ n. t.◌>>=◌ part (λ ns. t.tallied (n ∷ ns)))) (values_row es)

  pub values_hidden : (args : List Expr) → c.values w now (hidden-the_row-Expr-0 args) ≡ values_listed w now args
  values_hidden args = values_items (hidden-the_row-Expr-0 args) ∙ ap (values_listed w now) (items_hidden-the_row-Expr-0 args)

  operands_hidden : (args : List Expr) → c.operands w now (hidden-the_row-Expr-0 args) ≡ operands_listed w now args
  operands_hidden args = operands_items (hidden-the_row-Expr-0 args) ∙ ap (operands_listed w now) (items_hidden-the_row-Expr-0 args)

  pub in_apply : (f : Name) (args : List Expr) → c.operand w now (view.Apply f args) ≡ c.apply_weight w now f (applied w.unit f) (values_listed w now args) (operands_listed w now args)
  in_apply f args = λ i. c.apply_weight w now f (applied w.unit f) (values_hidden args i) (operands_hidden args i)

  pub in_paren : (a : Expr) → c.operand w now (view.Paren a) ≡ c.reckoned (c.value w now a)
  unfolding Rattle.fort_syntax.specs.declared.expr.Expr.TheBlock.hidden-the_row-Expr-0 Rattle.fort_syntax.specs.declared.expr.Expr.TheBlock.hidden-the_row-Expr-1 denote.Hole.Carrier.hidden
  in_paren a = refl

  pub in_pos : (a : Expr) → c.operand w now (view.Pos a) ≡ c.reckoned (c.value w now a)
  unfolding Rattle.fort_syntax.specs.declared.expr.Expr.TheBlock.hidden-the_row-Expr-0 Rattle.fort_syntax.specs.declared.expr.Expr.TheBlock.hidden-the_row-Expr-1 denote.Hole.Carrier.hidden
  in_pos a = refl

  pub in_neg : (a : Expr) → c.operand w now (view.Neg a) ≡ t.◌>>=◌ (c.value w now a) (λ n. c.reckoned (c.read (t.next n)))
  unfolding Rattle.fort_syntax.specs.declared.expr.Expr.TheBlock.hidden-the_row-Expr-0 Rattle.fort_syntax.specs.declared.expr.Expr.TheBlock.hidden-the_row-Expr-1 denote.Hole.Carrier.hidden
  in_neg a = refl

  pub in_not : (a : Expr) → c.operand w now (view.Not a) ≡ t.◌>>=◌ (c.value w now a) (λ n. t.tallied (Computed (t.next n)))
  unfolding Rattle.fort_syntax.specs.declared.expr.Expr.TheBlock.hidden-the_row-Expr-0 Rattle.fort_syntax.specs.declared.expr.Expr.TheBlock.hidden-the_row-Expr-1 denote.Hole.Carrier.hidden
  in_not a = refl

  pub in_power : (a : Expr) (k : ℕ) → c.operand w now (view.Power a k) ≡ t.◌>>=◌ (c.value w now a) (λ n. c.reckoned (c.power n k))
  unfolding Rattle.fort_syntax.specs.declared.expr.Expr.TheBlock.hidden-the_row-Expr-0 Rattle.fort_syntax.specs.declared.expr.Expr.TheBlock.hidden-the_row-Expr-1 denote.Hole.Carrier.hidden
  in_power a k = refl

  pub in_bin : (o : BinOp) (a b : Expr) → c.operand w now (view.Bin o a b) ≡ t.◌>>=◌ (c.value w now a) (λ n. t.◌>>=◌ (c.value w now b) (λ m. c.reckoned (c.operate o n m)))
  unfolding Rattle.fort_syntax.specs.declared.expr.Expr.TheBlock.hidden-the_row-Expr-0 Rattle.fort_syntax.specs.declared.expr.Expr.TheBlock.hidden-the_row-Expr-1 denote.Hole.Carrier.hidden
  in_bin o a b = refl

  pub in_rel : (o : RelOp) (a b : Expr) → c.operand w now (view.Rel o a b) ≡ t.◌>>=◌ (c.value w now a) (λ n. t.◌>>=◌ (c.value w now b) (λ m. t.tallied (Computed (t.pair n m))))
  unfolding Rattle.fort_syntax.specs.declared.expr.Expr.TheBlock.hidden-the_row-Expr-0 Rattle.fort_syntax.specs.declared.expr.Expr.TheBlock.hidden-the_row-Expr-1 denote.Hole.Carrier.hidden
  in_rel o a b = refl

  pub in_and : (a b : Expr) → c.operand w now (view.And a b) ≡ t.◌>>=◌ (c.value w now a) (λ n. t.◌>>=◌ (c.value w now b) (λ m. t.tallied (Computed (t.pair n m))))
  unfolding Rattle.fort_syntax.specs.declared.expr.Expr.TheBlock.hidden-the_row-Expr-0 Rattle.fort_syntax.specs.declared.expr.Expr.TheBlock.hidden-the_row-Expr-1 denote.Hole.Carrier.hidden
  in_and a b = refl

  pub in_or : (a b : Expr) → c.operand w now (view.Or a b) ≡ t.◌>>=◌ (c.value w now a) (λ n. t.◌>>=◌ (c.value w now b) (λ m. t.tallied (Computed (t.pair n m))))
  unfolding Rattle.fort_syntax.specs.declared.expr.Expr.TheBlock.hidden-the_row-Expr-0 Rattle.fort_syntax.specs.declared.expr.Expr.TheBlock.hidden-the_row-Expr-1 denote.Hole.Carrier.hidden
  in_or a b = refl

  -- ---- arms

  pub bracketed_path : (e x a : Expr) → e ≡ view.Paren a → x ≡ a → bracketed_part w now x ≡ c.operand w now e
  bracketed_path e x a f g = ap (bracketed_part w now) g ∙ (sym (in_paren a) ∙ sym (ap (c.operand w now) f))

  pub signed_path : (e x a : Expr) → e ≡ view.Pos a → x ≡ a → bracketed_part w now x ≡ c.operand w now e
  signed_path e x a f g = ap (bracketed_part w now) g ∙ (sym (in_pos a) ∙ sym (ap (c.operand w now) f))

  pub negated_path : (e x a : Expr) → e ≡ view.Neg a → x ≡ a → negated_part w now x ≡ c.operand w now e
  negated_path e x a f g = ap (negated_part w now) g ∙ (sym (in_neg a) ∙ sym (ap (c.operand w now) f))

  pub denied_path : (e x a : Expr) → e ≡ view.Not a → x ≡ a → denied_part w now x ≡ c.operand w now e
  denied_path e x a f g = ap (denied_part w now) g ∙ (sym (in_not a) ∙ sym (ap (c.operand w now) f))

  pub raised_path : (e x a : Expr) (k : ℕ) → e ≡ view.Power a k → x ≡ a → raised_part w now k x ≡ c.operand w now e
  raised_path e x a k f g = ap (raised_part w now k) g ∙ (sym (in_power a k) ∙ sym (ap (c.operand w now) f))

  pub applied_path : (e : Expr) (f : Name) (args xs : List Expr) → e ≡ view.Apply f args → xs ≡ args
      → c.apply_weight w now f (applied w.unit f) (values_listed w now xs) (operands_listed w now xs) ≡ c.operand w now e
  applied_path e f args xs g h = ap (λ es. c.apply_weight w now f (applied w.unit f) (values_listed w now es) (operands_listed w now es)) h ∙ (sym (in_apply f args) ∙ sym (ap (c.operand w now) g))

  -- the first side, and what is behind it
  abbrev behind : (ℕ → t.Tally (Operand ℕ)) → Expr → t.Tally (Operand ℕ)
  behind part a = t.◌>>=◌ (c.value w now a) part

  behind_first : (part : ℕ → t.Tally (Operand ℕ)) (load mid : Load) (x a : Expr) (n : ℕ) → x ≡ a → n ≡ (c.value w now x load).value → mid ≡ (c.value w now x load).load → part n mid ≡ behind part a load
  behind_first part load mid x a n g h k = (λ i. part (h i) (k i)) ∙ ap (λ y. behind part y load) g

  pub operated_path : (o : BinOp) (load mid : Load) (e x y a b : Expr) (n : ℕ) → e ≡ view.Bin o a b → x ≡ a → y ≡ b → n ≡ (c.value w now x load).value → mid ≡ (c.value w now x load).load
      → operated_part w now o n y mid ≡ c.operand w now e load
  operated_path o load mid e x y a b n f g h k l =
      ap (λ z. operated_part w now o n z mid) h ∙ (behind_first (λ m. operated_part w now o m b) load mid x a n g k l ∙ sym (ap (λ p. p load) (ap (c.operand w now) f ∙ in_bin o a b)))

  pub related_path : (o : RelOp) (load mid : Load) (e x y a b : Expr) (n : ℕ) → e ≡ view.Rel o a b → x ≡ a → y ≡ b → n ≡ (c.value w now x load).value → mid ≡ (c.value w now x load).load
      → joined_part w now n y mid ≡ c.operand w now e load
  related_path o load mid e x y a b n f g h k l =
      ap (λ z. joined_part w now n z mid) h ∙ (behind_first (λ m. joined_part w now m b) load mid x a n g k l ∙ sym (ap (λ p. p load) (ap (c.operand w now) f ∙ in_rel o a b)))

  pub and_path : (load mid : Load) (e x y a b : Expr) (n : ℕ) → e ≡ view.And a b → x ≡ a → y ≡ b → n ≡ (c.value w now x load).value → mid ≡ (c.value w now x load).load
      → joined_part w now n y mid ≡ c.operand w now e load
  and_path load mid e x y a b n f g h k l =
      ap (λ z. joined_part w now n z mid) h ∙ (behind_first (λ m. joined_part w now m b) load mid x a n g k l ∙ sym (ap (λ p. p load) (ap (c.operand w now) f ∙ in_and a b)))

  pub or_path : (load mid : Load) (e x y a b : Expr) (n : ℕ) → e ≡ view.Or a b → x ≡ a → y ≡ b → n ≡ (c.value w now x load).value → mid ≡ (c.value w now x load).load
      → joined_part w now n y mid ≡ c.operand w now e load
  or_path load mid e x y a b n f g h k l =
      ap (λ z. joined_part w now n z mid) h ∙ (behind_first (λ m. joined_part w now m b) load mid x a n g k l ∙ sym (ap (λ p. p load) (ap (c.operand w now) f ∙ in_or a b)))

-- what a part comes to is what another does
pub load_by : {E : Type 0} (r : Result Code E) (new : Load) (s t' : t.Tallied (Operand ℕ)) → s ≡ t' → OnOk r (new ≡ s.load) → OnOk r (new ≡ t'.load)
load_by r new s t' e h = let T : t.Tallied (Operand ℕ) → Type 0 = λ x. OnOk r (new ≡ x.load) in subst T e h

pub value_by : {E : Type 0} (r : Result Code E) (s t' : t.Tallied (Operand ℕ)) → s ≡ t' → IfOk r (λ x. operand_of x ≡ s.value) → IfOk r (λ x. operand_of x ≡ t'.value)
value_by r s t' e h = let T : t.Tallied (Operand ℕ) → Type 0 = λ x. IfOk r (λ y. operand_of y ≡ x.value) in subst T e h

-- ---- one of a list more

module _ (w : Sight ℕ) (now : Named ℕ) where
  pub values_more : (e : Expr) (es : List Expr) (load mid : Load) (n : ℕ) (ns whole : List ℕ) (last : Load) → n ≡ (c.value w now e load).value → mid ≡ (c.value w now e load).load
      → ns ++ (values_listed w now (e ∷ es) load).value ≡ whole → (values_listed w now (e ∷ es) load).load ≡ last
      → ((ns ++ n ∷ []) ++ (values_listed w now es mid).value ≡ whole) × ((values_listed w now es mid).load ≡ last)
  values_more e es load mid n ns whole last f g h k = (
    append_assoc ns (n ∷ []) (values_listed w now es mid).value ∙ ((λ i. ns ++ f i ∷ (values_listed w now es (g i)).value) ∙ h),
    (λ i. (values_listed w now es (g i)).load) ∙ k,
  )

  pub operands_more : (e : Expr) (es : List Expr) (load mid : Load) (x : Operand ℕ) (xs whole : List (Operand ℕ)) (last : Load) → x ≡ (c.operand w now e load).value → mid ≡ (c.operand w now e load).load
      → xs ++ (operands_listed w now (e ∷ es) load).value ≡ whole → (operands_listed w now (e ∷ es) load).load ≡ last
      → ((xs ++ x ∷ []) ++ (operands_listed w now es mid).value ≡ whole) × ((operands_listed w now es mid).load ≡ last)
  operands_more e es load mid x xs whole last f g h k = (
    append_assoc xs (x ∷ []) (operands_listed w now es mid).value ∙ ((λ i. xs ++ f i ∷ (operands_listed w now es (g i)).value) ∙ h),
    (λ i. (operands_listed w now es (g i)).load) ∙ k,
  )

pub map_push : {A B : Type 0} (f : A → B) (xs : List A) (x : A) → map f (xs ++ x ∷ []) ≡ map f xs ++ f x ∷ []
map_push f [] x = refl
map_push f (y ∷ xs) x = ap (λ zs. f y ∷ zs) (map_push f xs x)

pub nothing_more : {A : Type 0} (xs : List A) → xs ≡ xs ++ []
nothing_more [] = refl
nothing_more (x ∷ xs) = ap (λ ys. x ∷ ys) (nothing_more xs)
