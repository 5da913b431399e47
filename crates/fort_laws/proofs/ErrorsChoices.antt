-- Choices of a statement are decided by values: two lists of choices that lead on have events that part, or they are the same.
use Rattle.std.proofs.Common.{◌≡◌, ℕ, zero, suc, ◌<◌, ◌==◌, ◌⊎◌, inl, inr, Bool, true, false, cond, not, ◌&&◌, ℤ, pos, int_lt, int_le, List, [], ◌∷◌, ◌++◌, map, length, Some, None, refl, sym, ap, ◌∙◌, subst, arith, rules}
use Rattle.std.specs.Ordering.{int_eq}
use Rattle.std.proofs.lemmas.Int.{ints}
use Rattle.std.proofs.lemmas.List.{length-map}
use Rattle.std.proofs.lemmas.Option.{slice_get_within}
use Rattle.fort_syntax.specs.TreePatterns.{carried, row_of}
use Rattle.fort_syntax.specs.Names.{subroutine}
use Rattle.formula.specs.declared.function.BuiltIn.TheVariants.{Equal, Plus}
use Rattle.formula.specs.declared.value.Value.{Value}
use Rattle.formula.specs.declared.value.Value.TheVariants.{Int, Logical, Undefined, Cells}
use Rattle.formula.specs.Values.{holds, num, same_value}
use Rattle.formula.specs.Worth.{Function}
use Rattle.fort_syntax.specs.declared.name.Name.{Name}
use Rattle.fort_syntax.specs.declared.dialect.Dialect.{Dialect}
use Rattle.fort_syntax.specs.declared.dialect.Dialect.TheVariants.{Common, SeventySeven}
use Rattle.fort_syntax.specs.declared.stmt.Stmt.{Stmt}
use Rattle.fort_syntax.specs.declared.stmt.Stmt.TheVariants.{Subroutine, Function as FunctionHead, Declare, Dimension, Common as CommonBlock, Assign, GoTo, Computed, ArithIf, LogicalIf', Do, Continue, Call, Return, End, BlockIf, ElseIf, Else, EndIf}
use Rattle.fort_syntax.specs.declared.unit.Unit.{Unit as Routine}
use Rattle.fort_model.specs.Conditions.{sight}
use Rattle.fort_model.specs.Events.{Event, Take}
use Rattle.fort_model.specs.Flow as flow
use Rattle.fort_model.specs.Flow.{leads, leads_do, leads_computed, one_way, one_of, target, Loop, loops_at, loops_around, next_point, next_branch, through}
use Rattle.fort_model.specs.Program.{Program}
use Rattle.fort_model.specs.Seen.{Named, Answers, Seen, See, ◌>>◌, see}
use Rattle.fort_model.specs.Senses.{of_values, natural, make2, negated}
use Rattle.fort_model.specs.Symbols.{Symbol}
use Rattle.fort_model.specs.WalkCalls.{Sight, call}
use Rattle.fort_model.specs.WalkExpr.{read, ranged, operands, value}
use Rattle.fort_model.specs.WalkStmt.{taken, tests, with_name, parameter, step_value, entered, begin, behind, assign, counts_label, select, selected, choice_check, sign_fact, truth_fact, performed}
use Rattle.fort_laws.specs.Errors.{ChoicesAreDecided}
use Rattle.fort_laws.proofs.ErrorsParting.{Exclude, Part, part_here, after, after_one, or_part, part_true}
use Rattle.fort_laws.proofs.Near.{known}
use Rattle.fort_laws.proofs.Small.{both_hold}

-- ---- facts that exclude each other

at_most_or_less : (a b : ℤ) → int_le a b ≡ true → int_lt b a ≡ true → ⊥
at_most_or_less a b h k = grind (arith, ints)

two_less : (a b : ℤ) → int_lt a b ≡ true → int_lt b a ≡ true → ⊥
two_less a b h k = grind (arith, ints)

is_int : (v : Value) (z : ℤ) → same_value v (Int z) ≡ true → num v ≡ z
is_int (Int a) z h = equal a z h
  where
    equal : (a z : ℤ) → int_eq a z ≡ true → a ≡ z
    equal a z h = search rules
is_int (Logical b) z h = absurd (cc)
is_int Undefined z h = absurd (cc)
is_int (Cells cs) z h = absurd (cc)

less_or_equal : (v : Value) → int_lt (num v) (pos 0) ≡ true → same_value v (Int (pos 0)) ≡ true → ⊥
less_or_equal v h k = let bad : int_lt (pos 0) (pos 0) ≡ true = subst (λ (z : ℤ). int_lt z (pos 0) ≡ true) (is_int v (pos 0) k) h in two_less (pos 0) (pos 0) bad bad

equal_or_greater : (v : Value) → same_value v (Int (pos 0)) ≡ true → int_lt (pos 0) (num v) ≡ true → ⊥
equal_or_greater v k h = let bad : int_lt (pos 0) (pos 0) ≡ true = subst (λ (z : ℤ). int_lt (pos 0) z ≡ true) (is_int v (pos 0) k) h in two_less (pos 0) (pos 0) bad bad

not_both : (b : Bool) → b ≡ true → not b ≡ true → ⊥
not_both true h k = absurd (cc)
not_both false h k = absurd (cc)

-- ---- where choices lead

nowhere : {X : Type 0} (q : ℕ) → None ≡ Some q → X
nowhere q e = absurd (cc)

no_more : (q p : ℕ) (cs : List ℕ) → one_way q cs ≡ Some p → cs ≡ []
no_more q p [] e = refl
no_more q p (c ∷ cs) e = absurd (cc)

none_twice : (q r p z : ℕ) (cs ks : List ℕ) → one_way q cs ≡ Some p → one_way r ks ≡ Some z → cs ≡ ks
none_twice q r p z cs ks e f = no_more q p cs e ∙ sym (no_more r z ks f)

-- one of some points
pub record OneOf (qs : List ℕ) (cs : List ℕ) : Type 0 where
  choice : ℕ
  are : cs ≡ suc choice ∷ []
  within : choice < length qs

is_one_of : (qs cs : List ℕ) (p : ℕ) → one_of qs cs ≡ Some p → OneOf qs cs
is_one_of qs [] p e = absurd (cc)
is_one_of qs (zero ∷ []) p e = absurd (cc)
is_one_of qs (suc k ∷ []) p e = record { choice = k; are = refl; within = slice_get_within qs k p e }
is_one_of qs (c ∷ (d ∷ cs)) p e = absurd (cc)

first_is : (qs : List ℕ) (c : ℕ) (cs : List ℕ) (r : OneOf qs (c ∷ cs)) → c ≡ suc r.choice
first_is qs c cs r = let same : c ∷ cs ≡ suc r.choice ∷ [] = r.are in cc

-- one of three points
data Third (cs : List ℕ) : Type 0 where
  negative : cs ≡ suc zero ∷ [] → Third cs
  none_of_both : cs ≡ suc (suc zero) ∷ [] → Third cs
  positive : cs ≡ suc (suc (suc zero)) ∷ [] → Third cs

is_third : (l m n : ℕ) (cs : List ℕ) (q : ℕ) → one_of (l ∷ m ∷ n ∷ []) cs ≡ Some q → Third cs
is_third l m n [] q e = nowhere q e
is_third l m n (zero ∷ []) q e = nowhere q e
is_third l m n (suc zero ∷ []) q e = negative refl
is_third l m n (suc (suc zero) ∷ []) q e = none_of_both refl
is_third l m n (suc (suc (suc zero)) ∷ []) q e = positive refl
is_third l m n (suc (suc (suc (suc k))) ∷ []) q e = nowhere q e
is_third l m n (c ∷ (d ∷ cs)) q e = nowhere q e

-- one of two points
data Half (cs : List ℕ) : Type 0 where
  if_true : cs ≡ suc zero ∷ [] → Half cs
  if_false : cs ≡ suc (suc zero) ∷ [] → Half cs

is_half : (l m : ℕ) (cs : List ℕ) (q : ℕ) → one_of (l ∷ m ∷ []) cs ≡ Some q → Half cs
is_half l m [] q e = nowhere q e
is_half l m (zero ∷ []) q e = nowhere q e
is_half l m (suc zero ∷ []) q e = if_true refl
is_half l m (suc (suc zero) ∷ []) q e = if_false refl
is_half l m (suc (suc (suc k)) ∷ []) q e = nowhere q e
is_half l m (c ∷ (d ∷ cs)) q e = nowhere q e

-- the same choices, or events that part
abbrev pub Decided : List ℕ → List ℕ → List (Event Value) → List (Event Value) → Type 0
Decided cs ks es fs = (cs ≡ ks) ⊎ Part es fs

behind_choice : (c : ℕ) (cs ks : List ℕ) → cs ≡ ks → c ∷ cs ≡ c ∷ ks
behind_choice c cs ks e = ap (λ (zs : List ℕ). c ∷ zs) e

-- facts that are met for choices, of which two exclude each other
fact_part : (fact : List ℕ → Value) (cs ks : List ℕ) → (cs ≡ ks) ⊎ Exclude (fact cs) (fact ks) → Decided cs ks (Take (fact cs) ∷ []) (Take (fact ks) ∷ [])
fact_part fact cs ks (inl e) = inl e
fact_part fact cs ks (inr x) = inr (part_here (fact cs) (fact ks) [] [] x)

module _ (fs : List Function) (values : Symbol → Value) (program : Program) (i : ℕ) (u : Routine) where
  abbrev w : Sight Value
  w = sight (of_values fs values) program i u

  -- ---- DOs

  module _ (card : ℕ) (now : Named Value) (d : Loop) (answers : Answers Value) where
    abbrev by : Seen Value Value
    by = step_value w card now d.step answers

    abbrev sum : Value
    sum = make2 w.sense Plus (now d.variable) by.value

    abbrev last : Seen Value Value
    last = parameter w card now d.last by.rest

    -- behind what a test of a DO meets first
    tested : {X : Type 0} (es gs : List (Event Value)) → X ⊎ Part es gs
        → X ⊎ Part ((read w card (now d.variable) answers).events ++ (by.events ++ ((ranged w card sum by.rest).events ++ (last.events ++ es))))
        ((read w card (now d.variable) answers).events ++ (by.events ++ ((ranged w card sum by.rest).events ++ (last.events ++ gs))))
    tested es gs h =
        after (read w card (now d.variable) answers).events _ _
        (after by.events _ _ (after (ranged w card sum by.rest).events _ _ (after last.events es gs h)))

  tests_part : (ds : List Loop) (r card : ℕ) (now : Named Value) (cs ks : List ℕ) (q p : ℕ) (answers : Answers Value) → through r ds cs ≡ Some q → through r ds ks ≡ Some p
      → Decided cs ks (tests w card now ds cs answers).events (tests w card now ds ks answers).events
  tests_part [] r card now cs ks q p answers e f = inl (none_twice r r q p cs ks e f)
  tests_part (d ∷ ds) r card now [] ks q p answers e f = nowhere q e
  tests_part (d ∷ ds) r card now (zero ∷ cs) ks q p answers e f = nowhere q e
  tests_part (d ∷ ds) r card now (suc (suc (suc n)) ∷ cs) ks q p answers e f = nowhere q e
  tests_part (d ∷ ds) r card now (suc zero ∷ cs) [] q p answers e f = nowhere p f
  tests_part (d ∷ ds) r card now (suc zero ∷ cs) (zero ∷ ks) q p answers e f = nowhere p f
  tests_part (d ∷ ds) r card now (suc zero ∷ cs) (suc (suc (suc n)) ∷ ks) q p answers e f = nowhere p f
  tests_part (d ∷ ds) r card now (suc zero ∷ cs) (suc zero ∷ ks) q p answers e f = inl (behind_choice 1 cs ks (none_twice (suc d.at) (suc d.at) q p cs ks e f))
  tests_part (d ∷ ds) r card now (suc zero ∷ cs) (suc (suc zero) ∷ ks) q p answers e f =
      tested card now d answers _ _ (inr (part_here _ _ _ _ (at_most_or_less (num (sum card now d answers)) (num (last card now d answers).value))))
  tests_part (d ∷ ds) r card now (suc (suc zero) ∷ cs) [] q p answers e f = nowhere p f
  tests_part (d ∷ ds) r card now (suc (suc zero) ∷ cs) (zero ∷ ks) q p answers e f = nowhere p f
  tests_part (d ∷ ds) r card now (suc (suc zero) ∷ cs) (suc (suc (suc n)) ∷ ks) q p answers e f = nowhere p f
  tests_part (d ∷ ds) r card now (suc (suc zero) ∷ cs) (suc zero ∷ ks) q p answers e f =
      tested card now d answers _ _ (inr (part_here _ _ _ _ (λ x y. at_most_or_less (num (sum card now d answers)) (num (last card now d answers).value) y x)))
  tests_part (d ∷ ds) r card now (suc (suc zero) ∷ cs) (suc (suc zero) ∷ ks) q p answers e f =
      or_part (behind_choice 2 cs ks) (tested card now d answers _ _ (after_one _ _ _ (tests_part ds r card _ cs ks q p _ e f)))

  behind_part : (card pc : ℕ) (now : Named Value) (cs ks : List ℕ) (q p : ℕ) (answers : Answers Value) → flow.behind u pc cs ≡ Some q → flow.behind u pc ks ≡ Some p
      → Decided cs ks (behind w card pc now cs answers).events (behind w card pc now ks answers).events
  behind_part card pc now cs ks q p answers e f = tests_part (loops_at u pc) (next_point u pc) card now cs ks q p answers e f

  entered_part : (end pc : ℕ) (now : Named Value) (m1 m2 : Value) (cs ks : List ℕ) (q p : ℕ) (answers : Answers Value)
      → leads_do SeventySeven u end pc cs ≡ Some q → leads_do SeventySeven u end pc ks ≡ Some p
      → Decided cs ks (entered w end pc now m1 m2 cs answers).events (entered w end pc now m1 m2 ks answers).events
  entered_part end pc now m1 m2 [] ks q p answers e f = nowhere q e
  entered_part end pc now m1 m2 (zero ∷ cs) ks q p answers e f = nowhere q e
  entered_part end pc now m1 m2 (suc (suc (suc n)) ∷ cs) ks q p answers e f = nowhere q e
  entered_part end pc now m1 m2 (suc zero ∷ cs) [] q p answers e f = nowhere p f
  entered_part end pc now m1 m2 (suc zero ∷ cs) (zero ∷ ks) q p answers e f = nowhere p f
  entered_part end pc now m1 m2 (suc zero ∷ cs) (suc (suc (suc n)) ∷ ks) q p answers e f = nowhere p f
  entered_part end pc now m1 m2 (suc zero ∷ cs) (suc zero ∷ ks) q p answers e f = inl (behind_choice 1 cs ks (none_twice (suc pc) (suc pc) q p cs ks e f))
  entered_part end pc now m1 m2 (suc zero ∷ cs) (suc (suc zero) ∷ ks) q p answers e f = inr (part_here _ _ _ _ (at_most_or_less (num m1) (num m2)))
  entered_part end pc now m1 m2 (suc (suc zero) ∷ cs) [] q p answers e f = nowhere p f
  entered_part end pc now m1 m2 (suc (suc zero) ∷ cs) (zero ∷ ks) q p answers e f = nowhere p f
  entered_part end pc now m1 m2 (suc (suc zero) ∷ cs) (suc (suc (suc n)) ∷ ks) q p answers e f = nowhere p f
  entered_part end pc now m1 m2 (suc (suc zero) ∷ cs) (suc zero ∷ ks) q p answers e f = inr (part_here _ _ _ _ (λ x y. at_most_or_less (num m1) (num m2) y x))
  entered_part end pc now m1 m2 (suc (suc zero) ∷ cs) (suc (suc zero) ∷ ks) q p answers e f =
      or_part (behind_choice 2 cs ks) (after_one _ _ _ (tests_part (loops_around u end pc) (next_point u end) _ now cs ks q p answers e f))

  begin_part : (d : Dialect) (card end pc : ℕ) (now : Named Value) (x : Name) (m1 m2 m3 : Value) (cs ks : List ℕ) (q p : ℕ) (answers : Answers Value)
      → leads_do d u end pc cs ≡ Some q → leads_do d u end pc ks ≡ Some p
      → Decided cs ks (begin w d card end pc now x m1 m2 m3 cs answers).events (begin w d card end pc now x m1 m2 m3 ks answers).events
  begin_part Common card end pc now x m1 m2 m3 cs ks q p answers e f = inl (none_twice (suc pc) (suc pc) q p cs ks e f)
  begin_part SeventySeven card end pc now x m1 m2 m3 cs ks q p answers e f =
      after_one _ _ _ (after_one _ _ _ (after_one _ _ _ (entered_part end pc (with_name now x m1) m1 m2 cs ks q p answers e f)))

  -- ---- computed GO TOs

  same_number : (c k : ℕ) → (c == k) ≡ true → c ≡ k
  same_number c k e = search rules

  other_number : (c k : ℕ) → (c == k) ≡ false → c ≡ k → ⊥
  other_number c k e f = let bad : (c == k) ≡ true = search rules in let worse : false ≡ true = sym e ∙ bad in absurd (cc)

  same_label : (c k : ℕ) → pos c ≡ pos k → c ≡ k
  same_label c k e = cc

  -- a number that equals that of one of the labels counts one of them
  counted : (v : Value) (n k : ℕ) → k < n → holds (make2 w.sense Equal v (natural w.sense (suc k))) ≡ true → holds (counts_label w n v) ≡ true
  counted v n k lt h =
      subst (λ (z : ℤ). (int_le (pos 1) z && (int_le z (pos n) && true)) ≡ true) (sym (is_int v (pos (suc k)) h))
      (both_hold (int_le (pos 1) (pos (suc k))) (int_le (pos (suc k)) (pos n) && true) (low k) (both_hold (int_le (pos (suc k)) (pos n)) true (high k n lt) refl))
    where
      low : (k : ℕ) → int_le (pos 1) (pos (suc k)) ≡ true
      low k = grind (arith, ints)

      high : (k n : ℕ) → k < n → int_le (pos (suc k)) (pos n) ≡ true
      high k n lt = grind (arith, ints)

  labels_part : (qs : List ℕ) (v : Value) (c k : ℕ) (cs ks : List ℕ) (q p : ℕ) → one_of qs (c ∷ cs) ≡ Some q → one_of qs (k ∷ ks) ≡ Some p
      → Decided (c ∷ cs) (k ∷ ks) (Take (make2 w.sense Equal v (natural w.sense c)) ∷ []) (Take (make2 w.sense Equal v (natural w.sense k)) ∷ [])
  labels_part qs v c k cs ks q p e f =
      known (c == k)
      (λ t. let a = is_one_of qs (c ∷ cs) q e in let b = is_one_of qs (k ∷ ks) p f in
      inl (a.are ∙ (ap (λ (n : ℕ). n ∷ []) (sym (first_is qs c cs a) ∙ same_number c k t ∙ first_is qs k ks b) ∙ sym b.are)))
      (λ t. inr (part_here _ _ _ _ (λ x y. other_number c k t (same_label c k (sym (is_int v (pos c) x) ∙ is_int v (pos k) y)))))

  module _ (card pc : ℕ) (now : Named Value) (qs : List ℕ) (v : Value) where
    -- behind the last label
    abbrev past_labels : List ℕ → See Value (Named Value)
    past_labels cs = taken w (negated w.sense (counts_label w (length qs) v)) >> behind w card pc now cs

    abbrev to_label : ℕ → See Value (Named Value)
    to_label c = taken w (make2 w.sense Equal v (natural w.sense c)) >> see now

    past_or_to : (k : ℕ) (ks : List ℕ) (p : ℕ) → one_of qs (k ∷ ks) ≡ Some p → Exclude (negated w.sense (counts_label w (length qs) v)) (make2 w.sense Equal v (natural w.sense k))
    past_or_to k ks p f x y =
        let r = is_one_of qs (k ∷ ks) p f in
        not_both (holds (counts_label w (length qs) v))
        (counted v (length qs) r.choice r.within (subst (λ (n : ℕ). holds (make2 w.sense Equal v (natural w.sense n)) ≡ true) (first_is qs k ks r) y)) x

    select_part : (d : Dialect) (c k : ℕ) (cs ks : List ℕ) (q p : ℕ) (answers : Answers Value) → leads_computed d u pc qs (c ∷ cs) ≡ Some q → leads_computed d u pc qs (k ∷ ks) ≡ Some p
        → Decided (c ∷ cs) (k ∷ ks) (select w d card pc now (length qs) v c cs answers).events (select w d card pc now (length qs) v k ks answers).events
    select_part Common c k cs ks q p answers e f = labels_part qs v c k cs ks q p e f
    select_part SeventySeven c k cs ks q p answers e f = by_last (c == suc (length qs)) (k == suc (length qs)) refl refl e f
      where
        by_last : (a b : Bool) → (c == suc (length qs)) ≡ a → (k == suc (length qs)) ≡ b
            → cond a (flow.behind u pc cs) (one_of qs (c ∷ cs)) ≡ Some q → cond b (flow.behind u pc ks) (one_of qs (k ∷ ks)) ≡ Some p
            → Decided (c ∷ cs) (k ∷ ks) (cond a (past_labels cs) (to_label c) answers).events (cond b (past_labels ks) (to_label k) answers).events
        by_last true true a b e f =
            or_part (λ (same : cs ≡ ks). ap (λ (n : ℕ). n ∷ cs) (same_number c (suc (length qs)) a ∙ sym (same_number k (suc (length qs)) b)) ∙ behind_choice k cs ks same)
            (after_one _ _ _ (behind_part card pc now cs ks q p answers e f))
        by_last true false a b e f = inr (part_here _ _ _ _ (past_or_to k ks p f))
        by_last false true a b e f = inr (part_here _ _ _ _ (λ x y. past_or_to c cs q e y x))
        by_last false false a b e f = labels_part qs v c k cs ks q p e f

    no_label : (d : Dialect) (q : ℕ) → leads_computed d u pc qs [] ≡ Some q → ⊥
    no_label Common q e = nowhere q e
    no_label SeventySeven q e = nowhere q e

    selected_part : (n : ℕ) → length qs ≡ n → (cs ks : List ℕ) (q p : ℕ) (answers : Answers Value) → leads_computed program.dialect u pc qs cs ≡ Some q → leads_computed program.dialect u pc qs ks ≡ Some p
        → Decided cs ks (selected w card pc now n v cs answers).events (selected w card pc now n v ks answers).events
    selected_part n many [] ks q p answers e f = absurd (no_label program.dialect q e)
    selected_part n many (c ∷ cs) [] q p answers e f = absurd (no_label program.dialect p f)
    selected_part n many (c ∷ cs) (k ∷ ks) q p answers e f =
        subst (λ (m : ℕ). Decided (c ∷ cs) (k ∷ ks) (selected w card pc now m v (c ∷ cs) answers).events (selected w card pc now m v (k ∷ ks) answers).events) many
        (select_part program.dialect c k cs ks q p answers e f)

  -- ---- IFs

  sign_part : (l m n : ℕ) (v : Value) (cs ks : List ℕ) (q p : ℕ) → one_of (l ∷ m ∷ n ∷ []) cs ≡ Some q → one_of (l ∷ m ∷ n ∷ []) ks ≡ Some p
      → Decided cs ks (Take (sign_fact w v cs) ∷ []) (Take (sign_fact w v ks) ∷ [])
  sign_part l m n v cs ks q p e f = fact_part (λ (zs : List ℕ). sign_fact w v zs) cs ks (by_thirds (is_third l m n cs q e) (is_third l m n ks p f))
    where
      at : (xs ys : List ℕ) → xs ≡ ys → holds (sign_fact w v xs) ≡ true → holds (sign_fact w v ys) ≡ true
      at xs ys same h = subst (λ (zs : List ℕ). holds (sign_fact w v zs) ≡ true) same h

      by_thirds : Third cs → Third ks → (cs ≡ ks) ⊎ Exclude (sign_fact w v cs) (sign_fact w v ks)
      by_thirds (negative a) (negative b) = inl (a ∙ sym b)
      by_thirds (negative a) (none_of_both b) = inr (λ x y. less_or_equal v (at cs _ a x) (at ks _ b y))
      by_thirds (negative a) (positive b) = inr (λ x y. two_less (num v) (pos 0) (at cs _ a x) (at ks _ b y))
      by_thirds (none_of_both a) (negative b) = inr (λ x y. less_or_equal v (at ks _ b y) (at cs _ a x))
      by_thirds (none_of_both a) (none_of_both b) = inl (a ∙ sym b)
      by_thirds (none_of_both a) (positive b) = inr (λ x y. equal_or_greater v (at cs _ a x) (at ks _ b y))
      by_thirds (positive a) (negative b) = inr (λ x y. two_less (num v) (pos 0) (at ks _ b y) (at cs _ a x))
      by_thirds (positive a) (none_of_both b) = inr (λ x y. equal_or_greater v (at ks _ b y) (at cs _ a x))
      by_thirds (positive a) (positive b) = inl (a ∙ sym b)

  truth_part : (l m : ℕ) (v : Value) (cs ks : List ℕ) (q p : ℕ) → one_of (l ∷ m ∷ []) cs ≡ Some q → one_of (l ∷ m ∷ []) ks ≡ Some p
      → Decided cs ks (Take (truth_fact w v cs) ∷ []) (Take (truth_fact w v ks) ∷ [])
  truth_part l m v cs ks q p e f = fact_part (λ (zs : List ℕ). truth_fact w v zs) cs ks (by_halves (is_half l m cs q e) (is_half l m ks p f))
    where
      at : (xs ys : List ℕ) → xs ≡ ys → holds (truth_fact w v xs) ≡ true → holds (truth_fact w v ys) ≡ true
      at xs ys same h = subst (λ (zs : List ℕ). holds (truth_fact w v zs) ≡ true) same h

      by_halves : Half cs → Half ks → (cs ≡ ks) ⊎ Exclude (truth_fact w v cs) (truth_fact w v ks)
      by_halves (if_true a) (if_true b) = inl (a ∙ sym b)
      by_halves (if_true a) (if_false b) = inr (λ x y. not_both (holds v) (at cs _ a x) (at ks _ b y))
      by_halves (if_false a) (if_true b) = inr (λ x y. not_both (holds v) (at ks _ b y) (at cs _ a x))
      by_halves (if_false a) (if_false b) = inl (a ∙ sym b)

  -- ---- statements

  pub choices_part : (stmt : Stmt) (card pc : ℕ) (now : Named Value) (cs ks : List ℕ) (q p : ℕ) (answers : Answers Value)
      → leads program.dialect u pc stmt cs ≡ Some q → leads program.dialect u pc stmt ks ≡ Some p
      → Decided cs ks (performed w card pc now stmt cs answers).events (performed w card pc now stmt ks answers).events
  choices_part (Assign left right) card pc now cs ks q p answers e f =
      after (value w card now right answers).events _ _
      (after (assign w card now left (value w card now right answers).value (value w card now right answers).rest).events _ _ (behind_part card pc _ cs ks q p _ e f))
  choices_part (GoTo label) card pc now cs ks q p answers e f = inl (none_twice (target u.lines label) (target u.lines label) q p cs ks e f)
  choices_part (Computed labels x) card pc now cs ks q p answers e f =
      after_one _ _ _
      (after (choice_check w program.dialect card (length labels) (now x) answers).events _ _
      (selected_part card pc now (map (target u.lines) labels) (now x) (length labels) (length-map labels (target u.lines)) cs ks q p _ e f))
  choices_part (ArithIf g l m n) card pc now cs ks q p answers e f =
      after (value w card now g answers).events _ _ (sign_part (target u.lines l) (target u.lines m) (target u.lines n) (value w card now g answers).value cs ks q p e f)
  choices_part (LogicalIf' g x (carried b)) card pc now [] ks q p answers e f = nowhere q e
  choices_part (LogicalIf' g x (carried b)) card pc now (zero ∷ cs) ks q p answers e f = nowhere q e
  choices_part (LogicalIf' g x (carried b)) card pc now (suc (suc (suc n)) ∷ cs) ks q p answers e f = nowhere q e
  choices_part (LogicalIf' g x (carried b)) card pc now (suc zero ∷ cs) [] q p answers e f = nowhere p f
  choices_part (LogicalIf' g x (carried b)) card pc now (suc zero ∷ cs) (zero ∷ ks) q p answers e f = nowhere p f
  choices_part (LogicalIf' g x (carried b)) card pc now (suc zero ∷ cs) (suc (suc (suc n)) ∷ ks) q p answers e f = nowhere p f
  choices_part (LogicalIf' g x (carried b)) card pc now (suc zero ∷ cs) (suc zero ∷ ks) q p answers e f =
      or_part (behind_choice 1 cs ks) (after (value w card now g answers).events _ _ (after_one _ _ _ (choices_part b card pc now cs ks q p _ e f)))
  choices_part (LogicalIf' g x (carried b)) card pc now (suc zero ∷ cs) (suc (suc zero) ∷ ks) q p answers e f =
      after (value w card now g answers).events _ _ (inr (part_here _ _ _ _ (not_both (holds (value w card now g answers).value))))
  choices_part (LogicalIf' g x (carried b)) card pc now (suc (suc zero) ∷ cs) [] q p answers e f = nowhere p f
  choices_part (LogicalIf' g x (carried b)) card pc now (suc (suc zero) ∷ cs) (zero ∷ ks) q p answers e f = nowhere p f
  choices_part (LogicalIf' g x (carried b)) card pc now (suc (suc zero) ∷ cs) (suc (suc (suc n)) ∷ ks) q p answers e f = nowhere p f
  choices_part (LogicalIf' g x (carried b)) card pc now (suc (suc zero) ∷ cs) (suc zero ∷ ks) q p answers e f =
      after (value w card now g answers).events _ _ (inr (part_here _ _ _ _ (λ s t. not_both (holds (value w card now g answers).value) t s)))
  choices_part (LogicalIf' g x (carried b)) card pc now (suc (suc zero) ∷ cs) (suc (suc zero) ∷ ks) q p answers e f =
      or_part (behind_choice 2 cs ks) (after (value w card now g answers).events _ _ (after_one _ _ _ (behind_part card pc now cs ks q p _ e f)))
  choices_part (Do label x first end step) card pc now cs ks q p answers e f =
      let one = parameter w card now first answers in
      let two = parameter w card now end one.rest in
      let three = step_value w card now step two.rest in
      after one.events _ _ (after two.events _ _ (after three.events _ _
      (begin_part program.dialect card (target u.lines label) pc now x one.value two.value three.value cs ks q p three.rest e f)))
  choices_part Continue card pc now cs ks q p answers e f = behind_part card pc now cs ks q p answers e f
  choices_part (Call g args) card pc now cs ks q p answers e f =
      let actuals = operands w card now (row_of args) answers in
      after actuals.events _ _ (after (call w card (subroutine program.units g) now actuals.value actuals.rest).events _ _ (behind_part card pc _ cs ks q p _ e f))
  choices_part Return card pc now cs ks q p answers e f = inl (none_twice (length u.lines) (length u.lines) q p cs ks e f)
  choices_part (BlockIf g) card pc now cs ks q p answers e f =
      after (value w card now g answers).events _ _ (truth_part (next_point u pc) (next_branch u pc) (value w card now g answers).value cs ks q p e f)
  choices_part (ElseIf g) card pc now cs ks q p answers e f =
      after (value w card now g answers).events _ _ (truth_part (next_point u pc) (next_branch u pc) (value w card now g answers).value cs ks q p e f)
  choices_part Else card pc now cs ks q p answers e f = behind_part card pc now cs ks q p answers e f
  choices_part EndIf card pc now cs ks q p answers e f = behind_part card pc now cs ks q p answers e f
  choices_part (Subroutine x xs) card pc now cs ks q p answers e f = nowhere q e
  choices_part (FunctionHead o x xs) card pc now cs ks q p answers e f = nowhere q e
  choices_part (Declare o items) card pc now cs ks q p answers e f = nowhere q e
  choices_part (Dimension items) card pc now cs ks q p answers e f = nowhere q e
  choices_part (CommonBlock groups) card pc now cs ks q p answers e f = nowhere q e
  choices_part End card pc now cs ks q p answers e f = nowhere q e

pub choices_are_decided : ChoicesAreDecided
choices_are_decided fs values program i u stmt card pc now answers cs ks q p e f h k = by_part (choices_part fs values program i u stmt card pc now cs ks q p answers e f)
  where
    by_part : Decided cs ks (performed (sight (of_values fs values) program i u) card pc now stmt cs answers).events (performed (sight (of_values fs values) program i u) card pc now stmt ks answers).events → cs ≡ ks
    by_part (inl same) = same
    by_part (inr apart) = absurd (part_true _ _ apart h k)
