-- How a DO begins.
use Rattle.std.specs.Prelude.{ℕ, ◌≡◌, Bool, true, false, ◌&&◌, cond, ℤ, pos, ◌+ℤ◌, ◌-ℤ◌, int_le, List, Result, Ok, Err}
use Rattle.fort_syntax.specs.declared.condition.Kind.{Kind}
use Rattle.fort_syntax.specs.declared.condition.Kind.TheVariants.{LoopCheck, RangeCheck}
use Rattle.fort_syntax.specs.declared.dialect.Dialect.{Dialect}
use Rattle.fort_syntax.specs.declared.dialect.Dialect.TheVariants.{Common, SeventySeven}
use Rattle.fort_syntax.specs.declared.name.Name.{Name}
use Rattle.formula.specs.Values.{is_between}
use Rattle.formula.specs.declared.value.Cell.TheVariants.{Int}
use Rattle.fort_model.specs.declared.bounds.Bounds.{Bounds}
use Rattle.fort_model.specs.Storage.{Storage, store}
use Rattle.fort_model.specs.Passing.{Taken}
use Rattle.fort_model.specs.Evaluate.{Scene}
use Rattle.run_code.specs.Code.{Instr}
use Rattle.run_held.specs.Sums.{Manner, processor_of}
use Rattle.run_moves.specs.Moves.{Move, on, to_point, to_error, beginning}

-- a number must be one of the processor's integers before what follows
abbrev pub in_range_before : Bounds → ℤ → Result Bool Kind → Result Bool Kind
in_range_before b z then = cond (is_between b.least b.greatest z) then (Err RangeCheck)

-- whether a DO that may be passed over is entered: the numbers that count its rounds must be in range
abbrev pub counted_to : Bounds → ℤ → ℤ → ℤ → Result Bool Kind
counted_to b m1 m2 m3 = in_range_before b (m2 -ℤ m1) (in_range_before b (m2 -ℤ m1 +ℤ m3) (Ok (int_le m1 m2)))

-- whether a DO is entered, by its first value, last value and step
abbrev pub begun_to : Dialect → Bounds → ℤ → ℤ → ℤ → Result Bool Kind
begun_to Common b m1 m2 m3 = cond (int_le (pos 1) m1 && (int_le m1 m2 && int_le (pos 1) m3)) (Ok true) (Err LoopCheck)
begun_to SeventySeven b m1 m2 m3 = cond (int_le (pos 1) m3) (counted_to b m1 m2 m3) (Err LoopCheck)

-- where it leads then: to a point or on, with the first value in the variable's cell
abbrev pub begun_move : Result Bool Kind → ℕ → ℕ → ℕ → ℤ → List Instr → List Taken → Storage → Move
begun_move (Ok true) card place q m1 is xs st = to_point q xs (store st place (Int m1))
begun_move (Ok false) card place q m1 is xs st = on is xs (store st place (Int m1))
begun_move (Err kind) card place q m1 is xs st = to_error kind card st

-- a DO begins just so
abbrev pub StartsAreExact : Type 0
StartsAreExact = (b : Bounds) (m : Manner) (d : Dialect) (s : Scene) (card : ℕ) (x : Name) (q : ℕ) (m1 m2 m3 : ℤ)
    (is : List Instr) (xs : List Taken) (st : Storage)
    → s.processor ≡ processor_of b m
    → beginning d s card x q m1 m2 m3 is xs st ≡ begun_move (begun_to d b m1 m2 m3) card (s.environment x).first q m1 is xs st
