-- What is read of the needs of a unit.
use Rattle.std.proofs.Common.{◌≡◌, ℕ, ◌<◌, List, ◌++◌, length, sym, ap, ◌∙◌, arith}
use Rattle.std.specs.Prelude.{get_or}
use Rattle.std.proofs.lemmas.Option.{slice_get_within, slice_get-get_or, get_or_from_slice_get}
use Rattle.fort_syntax.specs.declared.name.Name.{Name}
use Rattle.fort_syntax.specs.declared.unit.Unit.{Unit as Routine}
use Rattle.run_ranks.specs.Needs.{no_rank, rank_at}
use Rattle.run_ranks.specs.declared.ranks.UnitRank.{UnitRank}
use Rattle.run_state.specs.declared.machine.Extent.{Extent}
use Rattle.run_start.specs.Counting.{IsUnitOf}
use Rattle.run_start.specs.Filled.{segment_by}
use Rattle.run_start.specs.declared.runnable.Runnable.{Runnable}

-- the needs that are read at a place are those of the unit of this number
pub rank_is : (deck : Runnable) (i : ℕ) (u : Routine) → IsUnitOf deck i u → (r : UnitRank) (rs : List UnitRank) → rs ≡ deck.ranks.now.units → r ≡ get_or rs i r → r ≡ rank_at deck.ranks.now i
rank_is deck i u unit r rs same read =
    let a : i < length deck.units.now = slice_get_within deck.units.now i u unit.unit_at in
    let b : length deck.ranks.now.units ≡ length deck.units.now = unit.runnable.long in
    read
    ∙ (ap (λ (xs : List UnitRank). get_or xs i r) same
    ∙ sym (get_or_from_slice_get deck.ranks.now.units i (get_or deck.ranks.now.units i r) no_rank (slice_get-get_or deck.ranks.now.units i r (let h : i < length deck.ranks.now.units = omega arith in h))))

pub segments_as : (ns ns' : List Name) (es es' : List Extent) (xs xs' ys ys' : List Name) → ns ≡ ns' → es ≡ es' → xs ≡ xs' → ys ≡ ys'
    → segment_by ns es xs ++ segment_by ns es ys ≡ segment_by ns' es' xs' ++ segment_by ns' es' ys'
segments_as ns ns' es es' xs xs' ys ys' a b c d =
    ap (λ (z : List Name). segment_by z es xs ++ segment_by z es ys) a
    ∙ (ap (λ (z : List Extent). segment_by ns' z xs ++ segment_by ns' z ys) b
    ∙ (ap (λ (z : List Name). segment_by ns' es' z ++ segment_by ns' es' ys) c ∙ ap (λ (z : List Name). segment_by ns' es' xs' ++ segment_by ns' es' z) d))
