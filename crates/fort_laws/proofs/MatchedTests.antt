-- The tests of DOs behind a statement.
use Rattle.std.proofs.Common.{◌≡◌, ℕ, suc, ◌+◌, ◌≤◌, Bool, true, false, cond, ℤ, pos, ◌+ℤ◌, List, [], ◌∷◌, length, Option, Some, None, refl, sym, ap, ◌∙◌, subst, arith, length-set}
use Rattle.std.proofs.lemmas.Int.{ints}
use Rattle.std.specs.List.{list_all}
use Rattle.std.specs.Prelude.{nat_lt, int_le, int_lt, ◌==◌}
use Rattle.formula.specs.declared.function.BuiltIn.TheVariants as f
use Rattle.formula.specs.declared.value.Cell.{Cell}
use Rattle.formula.specs.declared.value.Cell.TheVariants as cell
use Rattle.formula.specs.declared.value.Value.{Value}
use Rattle.formula.specs.declared.value.Value.TheVariants.{Int}
use Rattle.formula.specs.Values as value
use Rattle.formula.specs.Values.{holds, of_cell}
use Rattle.formula.specs.Worth.{Function}
use Rattle.fort_syntax.specs.declared.name.Name.{Name}
use Rattle.fort_syntax.specs.declared.dialect.Dialect.{Dialect}
use Rattle.fort_syntax.specs.declared.dialect.Dialect.TheVariants.{Common, SeventySeven}
use Rattle.fort_syntax.specs.declared.dialect.Sort.{Sort}
use Rattle.fort_syntax.specs.declared.dialect.Sort.TheVariants.{Integer}
use Rattle.fort_syntax.specs.declared.stmt.Param.{Param}
use Rattle.fort_syntax.specs.declared.stmt.Param.TheVariants as param
use Rattle.fort_syntax.specs.declared.unit.Unit.{Unit as Routine}
use Rattle.fort_model.specs.Cells.{num}
use Rattle.fort_model.specs.Conditions.{sight}
use Rattle.fort_model.specs.Correct.{held_in}
use Rattle.fort_model.specs.Evaluate as run
use Rattle.fort_model.specs.Evaluate.{Scene}
use Rattle.fort_model.specs.Flow.{Loop, through}
use Rattle.fort_model.specs.Outcome.{Act, Ended, give}
use Rattle.fort_model.specs.Perform as perform
use Rattle.fort_model.specs.Places.{stretch, dim_values}
use Rattle.fort_model.specs.Fits.{is_good_dim}
use Rattle.fort_model.specs.Processor.{Processor, MeetsBound}
use Rattle.fort_model.specs.Program.{Program}
use Rattle.fort_model.specs.Seen.{Named, See, ◌>>◌, see}
use Rattle.fort_model.specs.Senses as sense
use Rattle.fort_model.specs.Senses.{Sense, of_values}
use Rattle.fort_model.specs.Storage.{Storage, Environment, load, store}
use Rattle.fort_model.specs.Symbols.{Symbol, LeastInteger, GreatestInteger}
use Rattle.fort_model.specs.WalkCalls.{Sight}
use Rattle.fort_model.specs.WalkExpr as walk
use Rattle.fort_model.specs.WalkStmt as steps
use Rattle.fort_model.specs.WalkStmt.{with_name}
use Rattle.fort_laws.specs.GoodStatements.{MayBeWritten, Stood, HasScalarDims, IsParameter, IsStep, IsGoodLoop, AreGoodLoops}
use Rattle.fort_laws.specs.Matches.{Matches, moves, Same}
use Rattle.fort_laws.specs.Standing.{IsOf, MayBe, Of, Standing}
use Rattle.fort_laws.specs.StepMatches.{StepMatches}
use Rattle.fort_laws.specs.Typed.{IsScalar}
use Rattle.fort_laws.proofs.InRange.{up_to_bound, has_zero}
use Rattle.fort_laws.proofs.Matching.{matches_see, matches_as, followed}
use Rattle.fort_laws.proofs.MatchedExpressions.{matches_constant, matches_large, matches_ranged}
use Rattle.fort_laws.proofs.MatchedPlaces.{scalar_stands, scalar_sort, matches_read}
use Rattle.fort_laws.proofs.Near.{known, through_all}
use Rattle.fort_laws.proofs.Stepping.{HasWay, step_after, step_stays, step_done, step_step, step_as, step_chosen}
use Rattle.fort_laws.proofs.Written.{standing_written, goods_written, load_store_same}

-- a scalar is written
module _ (p : Processor) (u : Routine) (env : Environment) (dims : HasScalarDims u env) where
  pub maybe_is : (q r : Sort) (c : Cell) → q ≡ r → MayBe p r c → MayBe p q c
  maybe_is q r c e h = subst (λ (z : Sort). MayBe p z c) (sym e) h

  pub scalar_written : (q : Sort) (x : Name) → IsScalar u q x → MayBeWritten u env x → (now : Named Value) (st : Storage) → Stood p u env now st → (c : Cell) → MayBe p q c → (v : Value) → v ≡ of_cell c
      → Stood p u env (with_name now x v) (store st (env x).first c)
  scalar_written q x h may now st stood c sort v e = record {
    standing = subst (λ (s : Storage). Standing p u env s (with_name now x v)) at_first (subst (λ (y : Value). Standing p u env after (with_name now x y)) (value_is ∙ sym e) written);
    within = λ y d is. let n : length (store st (env x).first c) ≡ length st = length-set st (env x).first c in let w = stood.within y d is in omega arith;
    good = λ y d is. subst (λ (s : Storage). list_all (is_good_dim env s) d.dims ≡ true) at_first (goods_written p u env st now stood.standing dims x h.data_of h.is may 0 (omega (arith, one)) c (maybe_is _ _ c h.sort_is sort) stood.good y d is);
  }
    where
      inside : (env x).first + (env x).size ≤ length st
      inside = stood.within x h.data_of h.is

      one : 1 ≤ (env x).size
      one = at_least (env x).size (stood.standing.sizes x h.data_of h.is ∙ ap (λ ds. stretch (dim_values env st ds)) h.scalar)
        where
          at_least : (n : ℕ) → pos n ≡ pos 1 → 1 ≤ n
          at_least n p = grind arith

      after : Storage
      after = store st ((env x).first + 0) c

      at_first : after ≡ store st (env x).first c
      at_first = ap (λ (i : ℕ). store st i c) (omega arith)

      written : Standing p u env after (with_name now x (held_in h.data_of.dims after (env x)))
      written = standing_written p u env st now stood.standing dims x h.data_of h.is may 0 (omega (arith, one)) c (maybe_is _ _ c h.sort_is sort) (omega (arith, one)) (omega (arith, one, inside))

      value_is : held_in h.data_of.dims after (env x) ≡ of_cell c
      value_is =
          ap (λ ds. held_in ds after (env x)) h.scalar ∙ ap (λ (s : Storage). of_cell (load s (env x).first)) at_first
          ∙ ap of_cell (load_store_same st (env x).first c (omega (arith, one, inside)))

module _ (fs : List Function) (values : Symbol → Value) (program : Program) (i : ℕ) (s : Scene)
    (least : values LeastInteger ≡ Int s.processor.least) (greatest : values GreatestInteger ≡ Int s.processor.greatest)
    (bounded : MeetsBound s.processor program.bound)
    (dialects : s.processor.dialect ≡ program.dialect) (dims : HasScalarDims s.unit s.environment) where
  abbrev w : Sight Value
  w = sight (of_values fs values) program i s.unit

  -- what names then stand for, and the storage
  abbrev pub After : Named Value → Storage → Type 0
  After = Stood s.processor s.unit s.environment

  module _ (st : Storage) (now : Named Value) (stood : Stood s.processor s.unit s.environment now st) where
    any_constant : (card n : ℕ) → Matches (Same st (Of s.processor Integer)) (walk.constant w card n) (run.constant s.processor card n) st
    any_constant card n =
        matches_as (Same st (λ v c. Of s.processor Integer v c × (c ≡ cell.Int (pos n)))) (Same st (Of s.processor Integer)) _ _ st (λ v c after k. (k.0, k.1.0))
        (known (nat_lt program.bound n)
        (λ e. matches_large fs values program i s.unit s least greatest st (has_zero s.processor program.bound bounded) card n e)
        (λ e. matches_constant fs values program i s.unit s least greatest st card n e (up_to_bound s.processor program.bound bounded n e)))

    pub matches_variable : (card : ℕ) (x : Name) → IsScalar s.unit Integer x → Matches (Same st (Of s.processor Integer)) (walk.read w card (now x)) (perform.variable s card x) st
    matches_variable card x h =
        matches_read s.processor s.unit s.environment st now stood.standing fs values program i s card (s.environment x).first (now x) Integer
        (scalar_stands s.processor s.unit s.environment st now stood.standing Integer x h) (scalar_sort s.processor s.unit s.environment st now stood.standing Integer x h)

    pub matches_parameter : (card : ℕ) (m : Param) → IsParameter s.unit m → Matches (Same st (Of s.processor Integer)) (steps.parameter w card now m) (perform.parameter s card m) st
    matches_parameter card (param.Fixed n) h = any_constant card n
    matches_parameter card (param.Named x) h = matches_variable card x h

    pub matches_step_value : (card : ℕ) (m : Option Param) → IsStep s.unit m → Matches (Same st IsOf) (steps.step_value w card now m) (perform.step_value s card m) st
    matches_step_value card None h = matches_see (Same st IsOf) (Int (pos 1)) (cell.Int (pos 1)) st (refl, refl)
    matches_step_value card (Some m) h = matches_as (Same st (Of s.processor Integer)) (Same st IsOf) _ _ st (λ x y after k. (k.0, k.1.0)) (matches_parameter card m h)

  -- a fact is met, and a cell written
  matches_written : (t : Value) (j : ℕ) (c : Cell) (st : Storage) → holds t ≡ true → Matches (λ x y after. after ≡ store st j c) (steps.taken w t) (perform.write_cell j c) st
  matches_written t j c st h =
      moves (λ answers. answers) tt tt (store st j c) 0 (λ answers. (h, tt)) (λ answers. refl) (λ answers. refl)
      (λ n. ap (λ (k : ℕ). Ended tt (store st j c) k) (let z : 0 + n ≡ n = omega arith in z)) refl

  -- ---- the tests

  abbrev pub chosen_list : List ℕ → List ℕ
  chosen_list cs = cs

  pub tests_way : (q : ℕ) (ds : List Loop) → HasWay chosen_list (through q ds)
  tests_way q ds = let t = through_all q ds in record { choice = t.choices; point = q; to = t.to }

  -- a first choice and the others
  abbrev Pair : Type 0
  Pair = ℕ × List ℕ

  abbrev pair_list : Pair → List ℕ
  pair_list c = c.0 ∷ c.1

  pair_way : (q : ℕ) (d : Loop) (ds : List Loop) → HasWay pair_list (through q (d ∷ ds))
  pair_way q d ds = record { choice = (1, []); point = suc d.at; to = refl }

  not_at_most : (a b : ℤ) → int_le a b ≡ false → int_lt b a ≡ true
  not_at_most a b h = grind (arith, ints)

  left_is : (d : Dialect) (v : Value) (c : Cell) → v ≡ of_cell c → steps.left_with w d v ≡ of_cell (perform.left_with d c)
  left_is Common v c e = refl
  left_is SeventySeven v c e = e

  left_may : (d : Dialect) (c : Cell) → MayBe s.processor Integer c → MayBe s.processor Integer (perform.left_with d c)
  left_may Common c h = tt
  left_may SeventySeven c h = h

  may_of : (c : Cell) → Of s.processor Integer (of_cell c) c → MayBe s.processor Integer c
  may_of (cell.Int z) h = h.1
  may_of (cell.Logical b) h = absurd h.1
  may_of cell.Undefined h = tt

  module _ (card q : ℕ) (d : Loop) (ds : List Loop) (good : IsGoodLoop s.unit s.environment d) (st : Storage) (now : Named Value) (stood : Stood s.processor s.unit s.environment now st)
      (sum : Value) (c : Cell) (last : Value) (b : Cell) (sum_is : Of s.processor Integer sum c) (last_is : Of s.processor Integer last b)
      (rest : (next : Named Value) (after : Storage) → Stood s.processor s.unit s.environment next after
      → StepMatches chosen_list (through q ds) (λ cs. steps.tests w card next ds cs) (perform.tests s card ds) After after) where
    abbrev part : Pair → See Value (Named Value)
    part c2 =
        cond (c2.0 == 1)
        (steps.taken w (sense.make2 (of_values fs values) f.AtMost sum last) >> see (with_name now d.variable sum))
        (steps.taken w (sense.make2 (of_values fs values) f.Less last sum) >> steps.tests w card (with_name now d.variable (steps.left_with w program.dialect sum)) ds (c2.1))

    abbrev again : Act (List ℕ)
    again = followed (perform.set_variable s d.variable c) (λ _. give (1 ∷ []))

    abbrev leave : Act (List ℕ)
    leave = followed (perform.set_variable s d.variable (perform.left_with s.processor.dialect c)) (λ _. followed (perform.tests s card ds) (λ cs. give (2 ∷ cs)))

    abbrev only_one : Unit {0} → List ℕ
    only_one u = 1 ∷ []

    go_again : int_le (num c) (num b) ≡ true → StepMatches pair_list (through q (d ∷ ds)) part again After st
    go_again h =
        step_as only_one pair_list (through q (d ∷ ds)) After (λ u. steps.taken w (sense.make2 (of_values fs values) f.AtMost sum last) >> see (with_name now d.variable sum)) part again st
        (λ u. (1, [])) (λ u. refl) (λ u. refl)
        (step_after only_one (through q (d ∷ ds)) (λ x y after. after ≡ store st (s.environment d.variable).first c) After _ _ (λ x u. see (with_name now d.variable sum)) (λ y. give (1 ∷ [])) st
        (matches_written (sense.make2 (of_values fs values) f.AtMost sum last) (s.environment d.variable).first c st ((λ j. int_le (value.num (sum_is.0 j)) (value.num (last_is.0 j))) ∙ h))
        (λ x y after e. step_done only_one (through q (d ∷ ds)) After (λ u. see (with_name now d.variable sum)) tt (suc d.at) (with_name now d.variable sum) (1 ∷ []) after refl refl refl
        (subst (λ (z : Storage). Stood s.processor s.unit s.environment (with_name now d.variable sum) z) (sym e)
        (scalar_written s.processor s.unit s.environment dims Integer d.variable good.variable good.may now st stood c (may_of c (subst (λ (v : Value). Of s.processor Integer v c) sum_is.0 sum_is)) sum sum_is.0)))
        (record { choice = tt; point = suc d.at; to = refl }))

    abbrev two_and : List ℕ → List ℕ
    two_and cs = 2 ∷ cs

    left_value : steps.left_with w program.dialect sum ≡ of_cell (perform.left_with s.processor.dialect c)
    left_value = left_is program.dialect sum c sum_is.0 ∙ ap (λ (x : Dialect). of_cell (perform.left_with x c)) (sym dialects)

    go_leave : int_le (num c) (num b) ≡ false → StepMatches pair_list (through q (d ∷ ds)) part leave After st
    go_leave h =
        step_as two_and pair_list (through q (d ∷ ds)) After
        (λ cs. steps.taken w (sense.make2 (of_values fs values) f.Less last sum) >> steps.tests w card (with_name now d.variable (steps.left_with w program.dialect sum)) ds cs) part leave st
        (λ cs. (2, cs)) (λ cs. refl) (λ cs. refl)
        (step_after two_and (through q (d ∷ ds)) (λ x y after. after ≡ store st (s.environment d.variable).first (perform.left_with s.processor.dialect c)) After _ _
        (λ x cs. steps.tests w card (with_name now d.variable (steps.left_with w program.dialect sum)) ds cs) (λ y. followed (perform.tests s card ds) (λ cs. give (2 ∷ cs))) st
        (matches_written (sense.make2 (of_values fs values) f.Less last sum) (s.environment d.variable).first (perform.left_with s.processor.dialect c) st
        ((λ j. int_lt (value.num (last_is.0 j)) (value.num (sum_is.0 j))) ∙ not_at_most (num c) (num b) h))
        (λ x y after e. step_chosen chosen_list (through q ds) (through q (d ∷ ds)) After (λ cs. steps.tests w card (with_name now d.variable (steps.left_with w program.dialect sum)) ds cs) (perform.tests s card ds) after 2 (λ cs. refl)
        (rest _ after (subst (λ (z : Storage). Stood s.processor s.unit s.environment (with_name now d.variable (steps.left_with w program.dialect sum)) z) (sym e)
        (scalar_written s.processor s.unit s.environment dims Integer d.variable good.variable good.may now st stood (perform.left_with s.processor.dialect c)
        (left_may s.processor.dialect c (may_of c (subst (λ (v : Value). Of s.processor Integer v c) sum_is.0 sum_is))) (steps.left_with w program.dialect sum) left_value))))
        (let t = tests_way q ds in record { choice = t.choice; point = t.point; to = t.to }))

    tested : StepMatches pair_list (through q (d ∷ ds)) part (cond (int_le (num c) (num b)) again leave) After st
    tested =
        known (int_le (num c) (num b))
        (λ e. subst (λ (t : Bool). StepMatches pair_list (through q (d ∷ ds)) part (cond t again leave) After st) (sym e) (go_again e))
        (λ e. subst (λ (t : Bool). StepMatches pair_list (through q (d ∷ ds)) part (cond t again leave) After st) (sym e) (go_leave e))

  pub tests_match : (card q : ℕ) (ds : List Loop) → AreGoodLoops s.unit s.environment ds → (now : Named Value) (st : Storage) → Stood s.processor s.unit s.environment now st
      → StepMatches chosen_list (through q ds) (λ cs. steps.tests w card now ds cs) (perform.tests s card ds) After st
  tests_match card q [] good now st stood = step_done chosen_list (through q []) After (λ cs. steps.tests w card now [] cs) [] q now [] st refl refl refl stood
  tests_match card q (d ∷ ds) good now st stood =
      step_as pair_list chosen_list (through q (d ∷ ds)) After (λ c. steps.tests w card now (d ∷ ds) (pair_list c)) (λ cs. steps.tests w card now (d ∷ ds) cs) (perform.tests s card (d ∷ ds)) st
      pair_list (λ c. refl) (λ c. refl)
      (step_step pair_list (through q (d ∷ ds)) After _ _ st
      (step_stays pair_list (through q (d ∷ ds)) (Of s.processor Integer) After _ _ _ _ st (matches_variable st now stood card d.variable good.0.variable)
      (λ v a ha. step_stays pair_list (through q (d ∷ ds)) IsOf After _ _ _ _ st (matches_step_value st now stood card d.step good.0.step)
      (λ by b hb. step_stays pair_list (through q (d ∷ ds)) (Of s.processor Integer) After _ _ _ _ st
      (matches_ranged fs values program i s.unit s least greatest st card (sense.make2 (of_values fs values) f.Plus v by) (num a +ℤ num b) (λ j. Int (value.num (ha.0 j) +ℤ value.num (hb j))))
      (λ sum c hc. step_stays pair_list (through q (d ∷ ds)) (Of s.processor Integer) After _ _ _ _ st (matches_parameter st now stood card d.last good.0.last)
      (λ last e he. tested card q d ds good.0 st now stood sum c last e hc he (λ next after h. tests_match card q ds good.1 next after h))
      (pair_way q d ds)) (pair_way q d ds)) (pair_way q d ds)) (pair_way q d ds)))
