-- The table of the tests of a unit tells which DOs are to be tested.
use Rattle.std.proofs.Common.{◌≡◌, ℕ, zero, suc, ◌+◌, ◌<◌, ◌≤◌, true, List, [], ◌∷◌, ◌++◌, drop, length, get_or, Option, Some, None, slice_get, refl, sym, ap, ◌∙◌, subst, append_assoc, arith}
use Rattle.std.proofs.lemmas.Option.{slice_get_within}
use Rattle.formula.specs.Atoms.{is_among}
use Rattle.fort_syntax.specs.declared.name.Name.{Name}
use Rattle.fort_syntax.specs.declared.stmt.Param.{Param}
use Rattle.fort_syntax.specs.declared.stmt.Param.TheVariants as param
use Rattle.fort_syntax.specs.declared.unit.Line.{Line}
use Rattle.fort_syntax.specs.declared.unit.Unit.{Unit as Routine}
use Rattle.fort_model.specs.Flow.{Loop, around, loops_around, loops_at, next_point}
use Rattle.loop_tables.specs.Loops.{last_of}
use Rattle.run_shapes.specs.Coded.{HasSlot, MayHaveSlot, TestHasSlots}
use Rattle.run_shapes.specs.Seen.{loop_of, loops_of, out_of, param_of, step_of}
use Rattle.run_shapes.specs.declared.slots.Slots.{Slots}
use Rattle.run_shapes.specs.declared.tests.Test.{Test}
use Rattle.run_shapes.specs.declared.tests.Test.TheVariants as test
use Rattle.run_coding.specs.Pushed.{slot_in}
use Rattle.run_coding.proofs.Slots.{named, named_slot}
use Rattle.run_lines.specs.Stated.{ParamHere, StepHere}
use Rattle.run_doing.specs.Here.{DosHere, LoopHere, Tell, TellsTests, TestStands}
use Rattle.run_doing.specs.Rounds.{IsTestTable, amount_in, piece_at, round_in, step_in, tests_in, tests_to}
use Rattle.run_doing.specs.declared.table.TestTable.{TestTable}
use Rattle.run_doing.proofs.Each.{Each, each_at, each_both}
use Rattle.run_doing.proofs.Descending.{Descend, around_own, descend_at}
use Rattle.run_doing.proofs.Found.{Stands, all_stand}
use Rattle.run_doing.proofs.Tabled.{Splits, both_long, cut, drop_first, over_is, place_is, splits, tests_both, tests_long}

pub slot_within : (names : List Name) (x : Name) → is_among x names ≡ true → slot_in names x < length names
slot_within names x h = slice_get_within names (slot_in names x) x (named_slot names x h)

module _ (slots : Slots) where
  pub param_seen : (p : Param) → ParamHere slots.names p → param_of slots (amount_in slots.names p) ≡ p
  param_seen (param.Fixed n) h = refl
  param_seen (param.Named x) h = ap param.Named (named slots.names x h)

  step_seen : (p : Option Param) → StepHere slots.names p → step_of slots (step_in slots.names p) ≡ p
  step_seen None h = refl
  step_seen (Some m) h = ap Some (param_seen m h)

  round_seen : (d : Loop) → LoopHere slots.names d → loop_of slots (round_in slots.names d) ≡ d
  round_seen d h = λ i. record { at = d.at; variable = named slots.names d.variable h.0 i; last = param_seen d.last h.1 i; step = step_seen d.step h.2 i }

  loops_seen : (ds : List Loop) (q : ℕ) (more : List Test) → Each (LoopHere slots.names) ds → loops_of slots (tests_in slots.names ds ++ test.Out q ∷ more) ≡ ds
  loops_seen [] q more h = refl
  loops_seen (d ∷ ds) q more h = λ i. round_seen d h.0 i ∷ loops_seen ds q more h.1 i

  out_seen : (ds : List Loop) (q : ℕ) (more : List Test) → out_of (tests_in slots.names ds ++ test.Out q ∷ more) ≡ q
  out_seen [] q more = refl
  out_seen (d ∷ ds) q more = out_seen ds q more

  tell : (tests : List Test) (place : ℕ) (ds : List Loop) (q : ℕ) (more : List Test) → Each (LoopHere slots.names) ds
      → drop place tests ≡ tests_in slots.names ds ++ test.Out q ∷ more → Tell slots tests place ds q
  tell tests place ds q more h e = record { loops = ap (loops_of slots) e ∙ loops_seen ds q more h; out = ap out_of e ∙ out_seen ds q more }

  -- ---- slots that are there

  pub param_fits : (p : Param) → ParamHere slots.names p → HasSlot (length slots.names) (amount_in slots.names p)
  param_fits (param.Fixed n) h = tt
  param_fits (param.Named x) h = slot_within slots.names x h

  step_fits : (p : Option Param) → StepHere slots.names p → MayHaveSlot (length slots.names) (step_in slots.names p)
  step_fits None h = tt
  step_fits (Some m) h = param_fits m h

  tests_fit : (ds : List Loop) → Each (LoopHere slots.names) ds → Each (TestHasSlots (length slots.names)) (tests_in slots.names ds)
  tests_fit [] h = tt
  tests_fit (d ∷ ds) h = ((slot_within slots.names d.variable h.0.0, param_fits d.last h.0.1, step_fits d.step h.0.2), tests_fit ds h.1)

  module _ (u : Routine) (here : DosHere u slots.names) where
    loop_here : (q : ℕ) (d : Loop) → Stands u.lines q d → LoopHere slots.names d
    loop_here q d s = s.its.here slots.names (here d.at s.line s.there)

    loops_here : (q : ℕ) (ds : List Loop) → Each (Stands u.lines q) ds → Each (LoopHere slots.names) ds
    loops_here q [] h = tt
    loops_here q (d ∷ ds) h = (loop_here q d h.0, loops_here q ds h.1)

    all_here : (q : ℕ) → Each (LoopHere slots.names) (loops_at u q)
    all_here q = loops_here q (loops_at u q) (all_stand u.lines q)

    fit_to : (n : ℕ) → Each (TestHasSlots (length slots.names)) (tests_to u slots.names n)
    fit_to zero = tt
    fit_to (suc n) =
        each_both (TestHasSlots (length slots.names)) (tests_to u slots.names n) (piece_at u slots.names n) (fit_to n)
        (each_both (TestHasSlots (length slots.names)) (tests_in slots.names (loops_at u n)) (test.Out (next_point u n) ∷ []) (tests_fit (loops_at u n) (all_here n)) (tt, tt))

    loops_stand : (q : ℕ) (ds : List Loop) → Each (Stands u.lines q) ds → Each (TestStands (length u.lines)) (tests_in slots.names ds)
    loops_stand q [] h = tt
    loops_stand q (d ∷ ds) h = (slice_get_within u.lines d.at (h.0).line (h.0).there, loops_stand q ds h.1)

    stand_to : (n : ℕ) → Each (TestStands (length u.lines)) (tests_to u slots.names n)
    stand_to zero = tt
    stand_to (suc n) =
        each_both (TestStands (length u.lines)) (tests_to u slots.names n) (piece_at u slots.names n) (stand_to n)
        (each_both (TestStands (length u.lines)) (tests_in slots.names (loops_at u n)) (test.Out (next_point u n) ∷ []) (loops_stand n (loops_at u n) (all_stand u.lines n)) (tt, tt))

    module _ (table : TestTable) (is : IsTestTable u slots.names table) where
      split_at : (pc : ℕ) → pc ≤ length u.lines → Splits u slots.names (suc (length u.lines)) pc
      split_at pc h = splits u slots.names (length u.lines) pc h

      behind_told : (pc : ℕ) → pc ≤ length u.lines → Tell slots table.tests.items (get_or table.behind.items pc 0) (loops_at u pc) (next_point u pc)
      behind_told pc h =
          let s = split_at pc h in
          let ds = tests_in slots.names (loops_at u pc) in
          let place : get_or table.behind.items pc 0 ≡ length (tests_to u slots.names pc) = ap (λ xs. get_or xs pc 0) is.behind ∙ place_is u slots.names (length u.lines) pc h in
          tell table.tests.items (get_or table.behind.items pc 0) (loops_at u pc) (next_point u pc) s.more (all_here pc)
          ((λ i. drop (place i) (is.tests i))
          ∙ ap (drop (length (tests_to u slots.names pc))) s.is
          ∙ drop_first (tests_to u slots.names pc) (piece_at u slots.names pc ++ s.more)
          ∙ append_assoc ds (test.Out (next_point u pc) ∷ []) s.more)

      rest_here : (before : List Loop) (own : Loop) (rest : List Loop) → Each (LoopHere slots.names) (before ++ own ∷ rest) → Each (LoopHere slots.names) rest
      rest_here [] own rest h = h.1
      rest_here (b ∷ before) own rest h = rest_here before own rest h.1

      over_told : (at : ℕ) (line : Line) (q : ℕ) → slice_get u.lines at ≡ Some line → last_of u.lines line.stmt ≡ Some q → q ≤ length u.lines
          → Tell slots table.tests.items (get_or table.over.items at 0) (loops_around u q at) (next_point u q)
      over_told at line q there ends h =
          let names = slots.names in
          let inside = slice_get_within u.lines at line there in
          let c = cut u names at line q there ends inside in
          let s = split_at q h in
          let first = tests_to u names q in
          let out = test.Out (next_point u q) in
          let rest = tests_in names c.rest ++ out ∷ s.more in
          let place : get_or table.over.items at 0 ≡ suc (length first + length c.before) =
          ap (λ xs. get_or xs at 0) is.over ∙ over_is u names at line q there ends inside (length u.lines) h in
          let front = first ++ (tests_in names c.before ++ test.Loop (round_in names c.own) ∷ []) in
          let long : length front ≡ suc (length first + length c.before) = front_long first c.before c.own in
          let around_is : loops_around u q at ≡ c.rest =
          ap (λ ds. around at ds) c.is ∙ ap (λ n. around n (c.before ++ c.own ∷ c.rest)) (sym c.at_is)
          ∙ around_own c.before (length u.lines) c.own c.rest (subst (Descend (length u.lines)) c.is (descend_at u.lines q)) in
          let whole : tests_to u names (suc (length u.lines)) ≡ front ++ rest =
          s.is ∙ ap (λ ds. first ++ ((tests_in names ds ++ out ∷ []) ++ s.more)) c.is ∙ parts first c.before c.own c.rest out s.more in
          subst (λ ds. Tell slots table.tests.items (get_or table.over.items at 0) ds (next_point u q)) (sym around_is)
          (tell table.tests.items (get_or table.over.items at 0) c.rest (next_point u q) s.more
          (rest_here c.before c.own c.rest (subst (Each (LoopHere names)) c.is (all_here q)))
          ((λ i. drop ((place ∙ sym long) i) ((is.tests ∙ whole) i)) ∙ drop_first front rest))
        where
          count : (a b : ℕ) → a + (b + 1) ≡ suc (a + b)
          count a b = omega arith

          front_long : (first : List Test) (before : List Loop) (own : Loop)
              → length (first ++ (tests_in slots.names before ++ test.Loop (round_in slots.names own) ∷ [])) ≡ suc (length first + length before)
          front_long first before own =
              both_long first (tests_in slots.names before ++ test.Loop (round_in slots.names own) ∷ [])
              ∙ ap (λ n. length first + n) (both_long (tests_in slots.names before) (test.Loop (round_in slots.names own) ∷ []) ∙ ap (λ n. n + 1) (tests_long slots.names before))
              ∙ count (length first) (length before)

          parts : (first : List Test) (before : List Loop) (own : Loop) (rest : List Loop) (out : Test) (more : List Test)
              → first ++ ((tests_in slots.names (before ++ own ∷ rest) ++ out ∷ []) ++ more)
              ≡ (first ++ (tests_in slots.names before ++ test.Loop (round_in slots.names own) ∷ [])) ++ (tests_in slots.names rest ++ out ∷ more)
          parts first before own rest out more =
              let b = tests_in slots.names before in
              let o = test.Loop (round_in slots.names own) in
              let r = tests_in slots.names rest in
              ap (λ ts. first ++ ((ts ++ out ∷ []) ++ more)) (tests_both slots.names before (own ∷ rest))
              ∙ ap (λ ts. first ++ ts) (append_assoc (b ++ o ∷ r) (out ∷ []) more ∙ append_assoc b (o ∷ r) (out ∷ more) ∙ sym (append_assoc b (o ∷ []) (r ++ out ∷ more)))
              ∙ sym (append_assoc first (b ++ o ∷ []) (r ++ out ∷ more))

      pub tests_told : TellsTests u slots table
      tests_told = record {
        behind = behind_told;
        over = over_told;
        fitting = λ i t e. each_at (TestHasSlots (length slots.names)) (tests_to u slots.names (suc (length u.lines))) i t (fit_to (suc (length u.lines))) (ap (λ ts. slice_get ts i) (sym is.tests) ∙ e);
        inside = λ i round e. each_at (TestStands (length u.lines)) (tests_to u slots.names (suc (length u.lines))) i (test.Loop round) (stand_to (suc (length u.lines))) (ap (λ ts. slice_get ts i) (sym is.tests) ∙ e);
      }
