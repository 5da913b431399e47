-- Two scopes with the same dimensions, which give the names of a statement the same types, judge it alike.
use Rattle.std.proofs.Common.{◌≡◌, true, cond, List, [], ◌∷◌, ◌++◌, flat_map, Option, Some, None, refl, ap, rules}
use Rattle.std.specs.Prelude.{◌&&◌, ◌||◌, not, length, ⊤}
use Rattle.std.specs.List.{list_all}
use Rattle.fort_syntax.specs.Grammar.{is_carried}
use mathlib.Core.Former.{Count}
use Rattle.fort_syntax.specs.TreePatterns.{only, carried, listed}
use Rattle.fort_syntax.specs.Scopes.{Scope, same_option, is_array, is_intrinsic, is_integer_scalar}
use Rattle.fort_syntax.specs.Uses.{Use, read, assigned, assigned_element, counted, applied, argument_of, actual, called, Occurrence, occurrence, uses_in, uses_in_row, uses_on_left, uses_of_param, uses_of_step, uses_of, parts, parts_of_row, all_parts}
use Rattle.fort_syntax.specs.TypeRules.{type_applied, type_of, gives_integer, gives_logical, are_fit_arguments, has_fit_operands, is_fit_param, is_fit_step, has_fit_places, is_well_typed, is_scalar_name, is_constant, is_sum_or_difference, is_product, is_multiple, is_plain_subscript, has_plain_subscripts, all_plain_subscripts}
use Rattle.fort_syntax.specs.UseRules.{is_bare, is_misused}
use Rattle.fort_syntax.specs.declared.dialect.Sort.{Sort}
use Rattle.fort_syntax.specs.declared.dialect.Sort.TheVariants.{Integer, Logical}
use Rattle.fort_syntax.specs.declared.expr.Expr.{Expr, Row_of-Expr, end_of-Expr, more_of-Expr}
use Rattle.fort_syntax.specs.declared.expr.Expr.TheVariants.{Const, Truth, Var, Apply', Paren', Pos', Neg', Power', Bin', Rel', Not', And', Or'}
use Rattle.fort_syntax.specs.declared.name.Name.{Name}
use Rattle.fort_syntax.specs.declared.stmt.Dim.{Dim}
use Rattle.fort_syntax.specs.declared.stmt.Param.{Param}
use Rattle.fort_syntax.specs.declared.stmt.Param.TheVariants as parameter
use Rattle.fort_syntax.specs.declared.stmt.Stmt.{Stmt}
use Rattle.fort_syntax.specs.declared.stmt.Stmt.TheVariants.{Assign, Computed, ArithIf, LogicalIf', Do, Call, BlockIf, ElseIf}
use Rattle.deck_laws.proofs.Tests.{second_true, and_same}
use Rattle.deck_laws.proofs.Lists.{all_same, joined_same}
use Rattle.deck_laws.proofs.Members.{IsIn, here, there, in_left, in_right}
use Rattle.fort_syntax.specs.WellFormed.{is_left_side, has_right_form}

module _ (a b : Name → Option Sort) (dims : Name → List Dim) where
  abbrev pub one : Scope
  one = record { sort = a; dims = dims }

  abbrev pub other : Scope
  other = record { sort = b; dims = dims }

  -- ---- what does not depend on types

  pub misused_same : (x : Name) (how : Use) → is_misused one x how ≡ is_misused other x how
  misused_same x read = refl
  misused_same x how = refl

  scalar_same : (e : Expr) → is_scalar_name one e ≡ is_scalar_name other e
  scalar_same (Var x) = refl
  scalar_same e = refl

  multiple_same : (e : Expr) → is_multiple one e ≡ is_multiple other e
  multiple_same (Bin' o m (only e) n (only f)) = ap (λ t. is_product o && is_constant e && t) (scalar_same f)
  multiple_same (Var x) = refl
  multiple_same e = refl

  plain_same : (e : Expr) → is_plain_subscript one e ≡ is_plain_subscript other e
  plain_same (Const n) = refl
  plain_same (Bin' o m (only e) n (only f)) =
      λ i. multiple_same (Bin' o m (only e) n (only f)) i ||
      (is_sum_or_difference o && multiple_same e i && is_constant f)
  plain_same (Var x) = refl
  plain_same e = refl

  subscripts_same : (e : Expr) → has_plain_subscripts one e ≡ has_plain_subscripts other e
  subscripts_same (Apply' f m args) =
      ap (λ t. not (is_array one f) || t)
      (all_same (is_plain_subscript one) (is_plain_subscript other) (listed args) plain_same)
  subscripts_same e = refl

  pub all_subscripts_same : (s : Stmt) → all_plain_subscripts one s ≡ all_plain_subscripts other s
  all_subscripts_same s = all_same (has_plain_subscripts one) (has_plain_subscripts other) (all_parts s) subscripts_same

  -- ---- types

  -- both give a use the same type
  abbrev pub Agree : Use → Name → Type 0
  Agree (applied n) x = type_applied one x ≡ type_applied other x
  Agree called x = ⊤
  Agree read x = a x ≡ b x
  Agree assigned x = a x ≡ b x
  Agree (assigned_element n) x = a x ≡ b x
  Agree counted x = a x ≡ b x
  Agree (argument_of f) x = a x ≡ b x
  Agree actual x = a x ≡ b x

  abbrev pub AllAgree : List Occurrence → Type 0
  AllAgree uses = (o : Occurrence) → IsIn o uses → Agree o.«use» o.name

  lefts : (xs ys : List Occurrence) → AllAgree (xs ++ ys) → AllAgree xs
  lefts xs ys h o m = h o (in_left xs ys m)

  rights : (xs ys : List Occurrence) → AllAgree (xs ++ ys) → AllAgree ys
  rights xs ys h o m = h o (in_right xs ys m)

  rest : (o : Occurrence) (xs : List Occurrence) → AllAgree (o ∷ xs) → AllAgree xs
  rest o xs h p m = h p (there m)

  of_bare : (how : Use) (x : Name) → is_bare how ≡ true → Agree how x → a x ≡ b x
  of_bare read x t h = h
  of_bare assigned x t h = h
  of_bare (assigned_element n) x t h = h
  of_bare counted x t h = h
  of_bare (argument_of f) x t h = h
  of_bare actual x t h = h
  of_bare (applied n) x t h = search rules
  of_bare called x t h = search rules

  type_same : (how : Use) → is_bare how ≡ true → (e : Expr) → AllAgree (uses_in how e) → type_of one e ≡ type_of other e
  type_same how t (Const n) h = refl
  type_same how t (Truth v) h = refl
  type_same how t (Var x) h = of_bare how x t (h (record { name = x; «use» = how }) (here refl))
  type_same how t (Apply' f m args) h = h _ (here refl)
  type_same how t (Paren' m (only e)) h = type_same read refl e h
  type_same how t (Pos' m e) h = refl
  type_same how t (Neg' m e) h = refl
  type_same how t (Power' m e n) h = refl
  type_same how t (Bin' o m e n f) h = refl
  type_same how t (Rel' o m e n f) h = refl
  type_same how t (Not' m e) h = refl
  type_same how t (And' m e n f) h = refl
  type_same how t (Or' m e n f) h = refl

  integer_same : (how : Use) → is_bare how ≡ true → (e : Expr) → AllAgree (uses_in how e)
      → gives_integer one e ≡ gives_integer other e
  integer_same how t e h = ap (λ z. same_option z (Some Integer)) (type_same how t e h)

  logical_same : (how : Use) → is_bare how ≡ true → (e : Expr) → AllAgree (uses_in how e)
      → gives_logical one e ≡ gives_logical other e
  logical_same how t e h = ap (λ z. same_option z (Some Logical)) (type_same how t e h)

  integers_same : (how : Use) → is_bare how ≡ true → {m : Count} (es : Row_of-Expr m) → AllAgree (uses_in_row how es)
      → list_all (gives_integer one) (listed es) ≡ list_all (gives_integer other) (listed es)
  integers_same how t end_of-Expr h = refl
  integers_same how t (more_of-Expr e es) h =
      and_same (integer_same how t e (lefts (uses_in how e) (uses_in_row how es) h))
      (integers_same how t es (rights (uses_in how e) (uses_in_row how es) h))

  abbrev Alike : List Expr → Type 0
  Alike es = list_all (has_fit_operands one) es ≡ list_all (has_fit_operands other) es

  both : (es fs : List Expr) → Alike es → Alike fs → Alike (es ++ fs)
  both es fs h k = joined_same (has_fit_operands one) (has_fit_operands other) es fs h k

  fit_arguments : (how : Use) → is_bare how ≡ true → (f : Name) {m : Count} (args : Row_of-Expr m)
      → AllAgree (uses_in_row how args)
      → are_fit_arguments one f (listed args) ≡ are_fit_arguments other f (listed args)
  fit_arguments how t f args h = ap (λ z. not (is_array one f || is_intrinsic one f) || z) (integers_same how t args h)

  mutual
    operands_same : (how : Use) → is_bare how ≡ true → (e : Expr) → AllAgree (uses_in how e) → Alike (parts e)
    operands_same how t (Const n) h = refl
    operands_same how t (Truth v) h = refl
    operands_same how t (Var x) h = refl
    operands_same how t (Apply' f m args) h =
        and_same (fit_arguments (argument_of f) refl f args (rest _ _ h))
        (rows_same (argument_of f) refl args (rest _ _ h))
    operands_same how t (Paren' m (only e)) h = operands_same read refl e h
    operands_same how t (Pos' m (only e)) h = and_same (integer_same read refl e h) (operands_same read refl e h)
    operands_same how t (Neg' m (only e)) h = and_same (integer_same read refl e h) (operands_same read refl e h)
    operands_same how t (Power' m (only e) n) h = and_same (integer_same read refl e h) (operands_same read refl e h)
    operands_same how t (Bin' o m (only e) n (only f)) h =
        let x = lefts (uses_in read e) (uses_in read f) h in let y = rights (uses_in read e) (uses_in read f) h in
        and_same (and_same (integer_same read refl e x) (integer_same read refl f y))
        (both (parts e) (parts f) (operands_same read refl e x) (operands_same read refl f y))
    operands_same how t (Rel' o m (only e) n (only f)) h =
        let x = lefts (uses_in read e) (uses_in read f) h in let y = rights (uses_in read e) (uses_in read f) h in
        and_same (and_same (integer_same read refl e x) (integer_same read refl f y))
        (both (parts e) (parts f) (operands_same read refl e x) (operands_same read refl f y))
    operands_same how t (Not' m (only e)) h = and_same (logical_same read refl e h) (operands_same read refl e h)
    operands_same how t (And' m (only e) n (only f)) h =
        let x = lefts (uses_in read e) (uses_in read f) h in let y = rights (uses_in read e) (uses_in read f) h in
        and_same (and_same (logical_same read refl e x) (logical_same read refl f y))
        (both (parts e) (parts f) (operands_same read refl e x) (operands_same read refl f y))
    operands_same how t (Or' m (only e) n (only f)) h =
        let x = lefts (uses_in read e) (uses_in read f) h in let y = rights (uses_in read e) (uses_in read f) h in
        and_same (and_same (logical_same read refl e x) (logical_same read refl f y))
        (both (parts e) (parts f) (operands_same read refl e x) (operands_same read refl f y))

    rows_same : (how : Use) → is_bare how ≡ true → {m : Count} (es : Row_of-Expr m) → AllAgree (uses_in_row how es)
        → Alike (parts_of_row es)
    rows_same how t end_of-Expr h = refl
    rows_same how t (more_of-Expr e es) h =
        both (parts e) (parts_of_row es) (operands_same how t e (lefts (uses_in how e) (uses_in_row how es) h))
        (rows_same how t es (rights (uses_in how e) (uses_in_row how es) h))

  -- ---- statements

  first_agrees : (o : Occurrence) (more : List Occurrence) → AllAgree (o ∷ more) → Agree o.«use» o.name
  first_agrees o more h = h o (here refl)

  left_type : (e : Expr) → is_left_side e ≡ true → AllAgree (uses_on_left e) → type_of one e ≡ type_of other e
  left_type (Var x) t h = first_agrees (occurrence x assigned) [] h
  left_type (Apply' f m args) t h =
      ap (λ z. cond (is_intrinsic one f) (Some Integer) z)
      (first_agrees (occurrence f (assigned_element (length (listed args)))) (uses_in_row read args) h)
  left_type e t h = search rules

  left_operands : (e : Expr) → is_left_side e ≡ true → AllAgree (uses_on_left e) → Alike (parts e)
  left_operands (Var x) t h = refl
  left_operands (Apply' f m args) t h =
      and_same (fit_arguments read refl f args (rest _ _ h)) (rows_same read refl args (rest _ _ h))
  left_operands e t h = search rules

  variable_same : (x : Name) → a x ≡ b x → is_integer_scalar one x ≡ is_integer_scalar other x
  variable_same x e = ap (λ z. same_option z (Some Integer) && not (is_array one x)) e

  param_same : (p : Param) → AllAgree (uses_of_param p) → is_fit_param one p ≡ is_fit_param other p
  param_same (parameter.Fixed n) h = refl
  param_same (parameter.Named x) h = variable_same x (first_agrees (occurrence x read) [] h)

  step_same : (p : Option Param) → AllAgree (uses_of_step p) → is_fit_step one p ≡ is_fit_step other p
  step_same None h = refl
  step_same (Some p) h = param_same p h

  places_same : (s : Stmt) → has_right_form s ≡ true → AllAgree (uses_of s)
      → has_fit_places one s ≡ has_fit_places other s
  places_same (Assign left right) t h =
      λ i. same_option (left_type left t (lefts (uses_on_left left) (uses_in read right) h) i)
      (type_same read refl right (rights (uses_on_left left) (uses_in read right) h) i)
  places_same (Computed labels x) t h = variable_same x (first_agrees (occurrence x read) [] h)
  places_same (ArithIf e l m n) t h = integer_same read refl e h
  places_same (LogicalIf' e m (carried s)) t h =
      and_same (logical_same read refl e (lefts (uses_in read e) (uses_of s) h))
      (places_same s (second_true (is_carried s) (has_right_form s) t) (rights (uses_in read e) (uses_of s) h))
  places_same (Do label x first last step) t h =
      let ps = rest (occurrence x counted) (uses_of_param first ++ uses_of_param last ++ uses_of_step step) h in
      let two = lefts (uses_of_param first ++ uses_of_param last) (uses_of_step step) ps in
      and_same
      (and_same
      (and_same (variable_same x
      (first_agrees (occurrence x counted) (uses_of_param first ++ uses_of_param last ++ uses_of_step step) h))
      (param_same first (lefts (uses_of_param first) (uses_of_param last) two)))
      (param_same last (rights (uses_of_param first) (uses_of_param last) two)))
      (step_same step (rights (uses_of_param first ++ uses_of_param last) (uses_of_step step) ps))
  places_same (BlockIf e) t h = logical_same read refl e h
  places_same (ElseIf e) t h = logical_same read refl e h
  places_same s t h = refl

  actuals_same : (es : List Expr) → AllAgree (flat_map (uses_in actual) es) → Alike (flat_map parts es)
  actuals_same [] h = refl
  actuals_same (e ∷ es) h =
      both (parts e) (flat_map parts es)
      (operands_same actual refl e (lefts (uses_in actual e) (flat_map (uses_in actual) es) h))
      (actuals_same es (rights (uses_in actual e) (flat_map (uses_in actual) es) h))

  all_operands_same : (s : Stmt) → has_right_form s ≡ true → AllAgree (uses_of s) → Alike (all_parts s)
  all_operands_same (Assign left right) t h =
      both (parts left) (parts right ++ []) (left_operands left t (lefts (uses_on_left left) (uses_in read right) h))
      (both (parts right) [] (operands_same read refl right (rights (uses_on_left left) (uses_in read right) h)) refl)
  all_operands_same (ArithIf e l m n) t h = both (parts e) [] (operands_same read refl e h) refl
  all_operands_same (LogicalIf' e m (carried s)) t h =
      both (parts e) (all_parts s) (operands_same read refl e (lefts (uses_in read e) (uses_of s) h))
      (all_operands_same s (second_true (is_carried s) (has_right_form s) t)
      (rights (uses_in read e) (uses_of s) h))
  all_operands_same (Call f args) t h =
      actuals_same args (rest (occurrence f called) (flat_map (uses_in actual) args) h)
  all_operands_same (BlockIf e) t h = both (parts e) [] (operands_same read refl e h) refl
  all_operands_same (ElseIf e) t h = both (parts e) [] (operands_same read refl e h) refl
  all_operands_same s t h = refl

  pub well_typed_same : (s : Stmt) → has_right_form s ≡ true → AllAgree (uses_of s)
      → is_well_typed one s ≡ is_well_typed other s
  well_typed_same s t h = and_same (places_same s t h) (all_operands_same s t h)
