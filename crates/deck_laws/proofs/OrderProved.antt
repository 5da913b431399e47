-- The order of the statements of a made unit, and the value of a FUNCTION.
use Rattle.std.proofs.Common.{◌≡◌, ℕ, zero, suc, Bool, true, false, cond, List, [], ◌∷◌, ◌++◌, refl, sym, ap, ◌∙◌, subst, rules, arith, append_assoc, append-nil}
use Rattle.std.specs.Prelude.{◌&&◌, not, nat_lt, ◌==◌, is_some}
use Rattle.std.specs.List.{list_any}
use Rattle.std.proofs.lemmas.Bool.Decides.{nat_tests}
use Rattle.fort_syntax.specs.Uses.{uses_of}
use Rattle.fort_syntax.specs.DeckOrder.{stand_between}
use Rattle.fort_syntax.specs.Units.{Segment, gathered, executables, own_name, is_function_segment, class_of, is_performing, is_heading, is_ending, card_of_first, card_of_last, unit_of}
use Rattle.fort_syntax.specs.declared.class.Class.{Class}
use Rattle.fort_syntax.specs.declared.class.Class.TheVariants.{Heading, Declaring, Performing, Ending}
use Rattle.fort_syntax.specs.OrderRules.{blocks_behind, blocks_open, has_no_branch, is_outside, still_open, is_ended, stays_open, is_bad_block}
use Rattle.fort_syntax.specs.UseRules.{has_label, assigns}
use Rattle.fort_syntax.specs.WellFormed.{are_in_order, has_result}
use Rattle.fort_syntax.specs.declared.dialect.Dialect.{Dialect}
use Rattle.fort_syntax.specs.declared.stmt.Stmt.{Stmt}
use Rattle.fort_syntax.specs.declared.stmt.Stmt.TheVariants.{Subroutine, Function, Declare, Dimension, Common, End, BlockIf, ElseIf, Else, EndIf}
use Rattle.fort_syntax.specs.declared.unit.Line.{Line}
use Rattle.deck_laws.proofs.Tests.{case, first_true, second_true, both_true, not_false, of_not_false, other_false, left_true, right_true}
use Rattle.deck_laws.proofs.Lists.{flat_joined}
use Rattle.deck_laws.proofs.UnitScopes.{is_function_made}
use Rattle.deck_laws.proofs.Members.{none_are, none_of, kept_in}
use Rattle.deck_laws.proofs.Ascending.{ascend_above, ascend_lower}
use Rattle.deck_laws.proofs.Given.{Given}

-- ---- statements that are not executable

same_blocks : (s : Stmt) → is_performing (class_of s) ≡ false → (open_blocks : List Bool)
    → blocks_behind s open_blocks ≡ open_blocks
same_blocks (Subroutine f dummies) h open_blocks = refl
same_blocks (Function sort f dummies) h open_blocks = refl
same_blocks (Declare sort items) h open_blocks = refl
same_blocks (Dimension items) h open_blocks = refl
same_blocks (Common groups) h open_blocks = refl
same_blocks End h open_blocks = refl
same_blocks _ h open_blocks = search rules

same_open : (s : Stmt) → is_performing (class_of s) ≡ false → (n : ℕ) → still_open s n ≡ n
same_open (Subroutine f dummies) h n = refl
same_open (Function sort f dummies) h n = refl
same_open (Declare sort items) h n = refl
same_open (Dimension items) h n = refl
same_open (Common groups) h n = refl
same_open End h n = refl
same_open _ h n = search rules

no_uses : (s : Stmt) → is_performing (class_of s) ≡ false → uses_of s ≡ []
no_uses (Subroutine f dummies) h = refl
no_uses (Function sort f dummies) h = refl
no_uses (Declare sort items) h = refl
no_uses (Dimension items) h = refl
no_uses (Common groups) h = refl
no_uses End h = refl
no_uses _ h = search rules

heads_not_performed : (s : Stmt) → is_heading (class_of s) ≡ true → is_performing (class_of s) ≡ false
heads_not_performed s h = by (class_of s) h
  where
    by : (class : Class) → is_heading class ≡ true → is_performing class ≡ false
    by Performing h = search rules
    by _ h = refl

ends_not_performed : (s : Stmt) → is_ending (class_of s) ≡ true → is_performing (class_of s) ≡ false
ends_not_performed s h = by (class_of s) h
  where
    by : (class : Class) → is_ending class ≡ true → is_performing class ≡ false
    by Performing h = search rules
    by _ h = refl

not_both : (s : Stmt) → is_ending (class_of s) ≡ true → is_heading (class_of s) ≡ true → ⊥
not_both s h k = by (class_of s) h k
  where
    by : (class : Class) → is_ending class ≡ true → is_heading class ≡ true → ⊥
    by Ending h k = search rules
    by Heading h k = search rules
    by Declaring h k = search rules
    by Performing h k = search rules

-- an executable statement is among the executables, and another one is not
with_one : (line : Line) (lines : List Line) → is_performing (class_of line.stmt) ≡ true
    → executables (line ∷ lines) ≡ line ∷ executables lines
with_one line lines t = ap (λ b. cond b (line ∷ []) [] ++ executables lines) t

without_one : (line : Line) (lines : List Line) → is_performing (class_of line.stmt) ≡ false
    → executables (line ∷ lines) ≡ executables lines
without_one line lines f = ap (λ b. cond b (line ∷ []) [] ++ executables lines) f

behind_one : (before : List Line) (line : Line) → is_performing (class_of line.stmt) ≡ true
    → executables (before ++ line ∷ []) ≡ executables before ++ line ∷ []
behind_one before line t =
    flat_joined (λ l. cond (is_performing (class_of l.stmt)) (l ∷ []) []) before (line ∷ []) ∙ ap
    (λ zs. executables before ++ zs) (with_one line [] t)

behind_none : (before : List Line) (line : Line) → is_performing (class_of line.stmt) ≡ false
    → executables (before ++ line ∷ []) ≡ executables before
behind_none before line f =
    flat_joined (λ l. cond (is_performing (class_of l.stmt)) (l ∷ []) []) before (line ∷ [])
    ∙ (ap (λ zs. executables before ++ zs) (without_one line [] f) ∙ append-nil (executables before))

-- ---- block IFs

same_behind : (lines : List Line) (open_blocks : List Bool)
    → blocks_open open_blocks (executables lines) ≡ blocks_open open_blocks lines
same_behind [] open_blocks = refl
same_behind (line ∷ lines) open_blocks =
    case (is_performing (class_of line.stmt))
    (λ t. ap (blocks_open open_blocks) (with_one line lines t) ∙ same_behind lines
    (blocks_behind line.stmt open_blocks))
    (λ f. ap (blocks_open open_blocks) (without_one line lines f)
    ∙ (same_behind lines open_blocks ∙ ap (λ o. blocks_open o lines) (sym (same_blocks line.stmt f open_blocks))))

stays : (n : ℕ) (lines : List Line) → (not (is_ended n) && stays_open n lines) ≡ stays_open n lines
stays zero [] = refl
stays zero (line ∷ lines) = refl
stays (suc n) lines = refl

same_stays : (lines : List Line) (n : ℕ) → stays_open n (executables lines) ≡ stays_open n lines
same_stays [] n = refl
same_stays (line ∷ lines) n =
    case (is_performing (class_of line.stmt))
    (λ t. ap (stays_open n) (with_one line lines t) ∙ ap (λ b. not (is_ended n) && b)
    (same_stays lines (still_open line.stmt n)))
    (λ f. ap (stays_open n) (without_one line lines f)
    ∙ (same_stays lines n ∙
    (sym (stays n lines) ∙ ap (λ k. not (is_ended n) && stays_open k lines) (sym (same_open line.stmt f n)))))

same_bad : (s : Stmt) (before behind : List Line)
    → is_bad_block (executables before) s (executables behind) ≡ is_bad_block before s behind
same_bad (BlockIf e) before behind = same_stays behind 1
same_bad (ElseIf e) before behind = ap has_no_branch (same_behind before [])
same_bad Else before behind = ap has_no_branch (same_behind before [])
same_bad EndIf before behind = ap is_outside (same_behind before [])
same_bad _ before behind = refl

-- ---- labels

no_label : (label : ℕ) (lines : List Line) → has_label label lines ≡ false → has_label label (executables lines) ≡ false
no_label label lines h = by (not (label == 0)) h
  where
    by : (b : Bool) → (b && list_any (λ line. line.label == label) lines) ≡ false
        → (b && list_any (λ line. line.label == label) (executables lines)) ≡ false
    by true k =
        none_are (λ line. line.label == label) (executables lines)
        (λ line m. none_of (λ l. l.label == label) lines k (kept_in (λ l. is_performing (class_of l.stmt)) lines m).0)
    by false k = refl

module _ (d : Dialect) (earlier : List Segment) (unit : Segment) (g : Given d earlier unit) where
  order_from : (lines before : List Line) → before ++ lines ≡ unit
      → are_in_order (executables before) (executables lines) ≡ true
  order_from [] before e = refl
  order_from (line ∷ behind) before e =
      let next = append_assoc before (line ∷ []) behind ∙ e in
      case (is_performing (class_of line.stmt)) (performed (order_from behind (before ++ line ∷ []) next))
      (passed (order_from behind (before ++ line ∷ []) next))
    where
      performed : are_in_order (executables (before ++ line ∷ [])) (executables behind) ≡ true
          → is_performing (class_of line.stmt) ≡ true
          → are_in_order (executables before) (executables (line ∷ behind)) ≡ true
      performed rest t =
          let k = g.keeps before line behind e in
          ap (are_in_order (executables before)) (with_one line behind t)
          ∙ both_true
          (both_true (not_false (same_bad line.stmt before behind ∙ k.nesting)) (not_false (no_label line.label before k.labels)))
          (ap (λ b. are_in_order b (executables behind)) (sym (behind_one before line t)) ∙ rest)

      passed : are_in_order (executables (before ++ line ∷ [])) (executables behind) ≡ true
          → is_performing (class_of line.stmt) ≡ false
          → are_in_order (executables before) (executables (line ∷ behind)) ≡ true
      passed rest f =
          ap (are_in_order (executables before)) (without_one line behind f)
          ∙ (ap (λ b. are_in_order b (executables behind)) (sym (behind_none before line f)) ∙ rest)

  pub order_proved : are_in_order [] (unit_of unit).lines ≡ true
  order_proved = order_from unit [] refl

  -- ---- cards

  -- the last statement is END, so none that is executable stands behind it
  last_ends : (line : Line) (before : List Line) → before ++ line ∷ [] ≡ unit → is_ending (class_of line.stmt) ≡ true
  last_ends line before e = of_not_false (g.keeps before line [] e).last

  between_from : (line : Line) (behind before : List Line) (card : ℕ) → before ++ line ∷ behind ≡ unit
      → ascend_above card (line ∷ behind) ≡ true
      → stand_between card (executables (line ∷ behind)) (card_of_last line.card behind) ≡ true
  between_from line [] before card e a =
      ap (λ zs. stand_between card zs line.card) (without_one line [] (ends_not_performed line.stmt (last_ends line before e)))
      ∙ first_true (nat_lt card line.card) true a
  between_from line (next ∷ behind) before card e a =
      let less = first_true (nat_lt card line.card) (ascend_above line.card (next ∷ behind)) a in
      let later = second_true (nat_lt card line.card) (ascend_above line.card (next ∷ behind)) a in
      let whole = append_assoc before (line ∷ []) (next ∷ behind) ∙ e in
      case (is_performing (class_of line.stmt))
      (λ t. ap (λ zs. stand_between card zs (card_of_last next.card behind)) (with_one line (next ∷ behind) t)
      ∙ both_true less (between_from next behind (before ++ line ∷ []) line.card whole later))
      (λ f. ap (λ zs. stand_between card zs (card_of_last next.card behind)) (without_one line (next ∷ behind) f)
      ∙ between_from next behind (before ++ line ∷ []) card whole
      (ascend_lower card line.card (next ∷ behind) (grind (arith, nat_tests)) later))

  abbrev AreBetween : Segment → Type 0
  AreBetween lines = stand_between (card_of_first lines) (executables lines) (card_of_last 0 lines) ≡ true

  pub cards_proved : stand_between (unit_of unit).head (unit_of unit).lines (unit_of unit).«end» ≡ true
  cards_proved = subst AreBetween (sym g.part.whole) (by g.part.rest g.part.whole)
    where
      by : (rest : List Line) → unit ≡ g.part.head ∷ rest → AreBetween (g.part.head ∷ rest)
      by [] e =
          absurd (not_both g.part.head.stmt (last_ends g.part.head [] (sym e)) (of_not_false (g.keeps [] g.part.head [] (sym e)).head))
      by (next ∷ rest) e =
          ap (λ zs. stand_between g.part.head.card zs (card_of_last next.card rest))
          (without_one g.part.head (next ∷ rest) (heads_not_performed g.part.head.stmt (of_not_false (g.keeps [] g.part.head (next ∷ rest) (sym e)).head)))
          ∙ between_from next rest (g.part.head ∷ []) g.part.head.card (sym e)
          (second_true (nat_lt 0 g.part.head.card) (ascend_above g.part.head.card (next ∷ rest)) (ap (ascend_above 0) (sym e) ∙ g.part.ascend))

  -- ---- the value of a FUNCTION

  same_uses : (lines : List Line) → gathered uses_of (executables lines) ≡ gathered uses_of lines
  same_uses [] = refl
  same_uses (line ∷ lines) =
      case (is_performing (class_of line.stmt))
      (λ t. ap (gathered uses_of) (with_one line lines t) ∙ ap (λ zs. uses_of line.stmt ++ zs) (same_uses lines))
      (λ f. ap (gathered uses_of) (without_one line lines f)
      ∙ (same_uses lines ∙ ap (λ zs. zs ++ gathered uses_of lines) (sym (no_uses line.stmt f))))

  pub result_proved : has_result (unit_of unit) ≡ true
  result_proved = case (is_function_segment unit) assigned none
    where
      assigned : is_function_segment unit ≡ true → has_result (unit_of unit) ≡ true
      assigned t =
          right_true (not (is_some (unit_of unit).sort)) (assigns (own_name unit) (gathered uses_of (executables unit)))
          (ap (assigns (own_name unit)) (same_uses unit)
          ∙ of_not_false (other_false (is_function_segment unit) (not (assigns (own_name unit) (gathered uses_of unit)))
          (g.keeps [] g.part.head g.part.rest (sym g.part.whole)).result t))

      none : is_function_segment unit ≡ false → has_result (unit_of unit) ≡ true
      none f =
          left_true (not (is_some (unit_of unit).sort)) (assigns (own_name unit) (gathered uses_of (executables unit)))
          (not_false (is_function_made unit ∙ f))
