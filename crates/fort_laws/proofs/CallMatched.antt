-- The law of calls.
use Rattle.std.proofs.Common.{◌≡◌, ℕ, zero, suc, ◌+◌, ◌<◌, ◌≤◌, Bool, true, false, ◌&&◌, inl, inr, pos, List, [], ◌∷◌, map, length, take, Option, Some, None, refl, sym, ap, ◌∙◌, subst}
use Rattle.std.specs.List.{list_all}
use Rattle.fort_syntax.specs.Names.{unit_at}
use Rattle.formula.specs.declared.value.Cell.{Cell}
use Rattle.formula.specs.declared.value.Cell.TheVariants as cell
use Rattle.formula.specs.declared.value.Value.{Value}
use Rattle.formula.specs.declared.value.Value.TheVariants.{Int, Undefined}
use Rattle.formula.specs.Values.{holds, of_cell}
use Rattle.fort_syntax.specs.declared.name.Name.{Name}
use Rattle.fort_syntax.specs.declared.condition.Kind.{Kind}
use Rattle.fort_syntax.specs.declared.condition.Kind.TheVariants.{InputCheck}
use Rattle.fort_syntax.specs.declared.dialect.Sort.{Sort}
use Rattle.fort_syntax.specs.declared.dialect.Sort.TheVariants.{Integer, Logical}
use Rattle.fort_syntax.specs.declared.unit.DataName.{DataName}
use Rattle.fort_syntax.specs.declared.unit.Unit.{Unit as Routine}
use Rattle.fort_model.specs.Calls.{Calls, callee_of}
use Rattle.fort_model.specs.Conditions.{sight}
use Rattle.fort_model.specs.Correct.{held_in, names_hold}
use Rattle.fort_model.specs.Evaluate.{Scene}
use Rattle.fort_model.specs.Events.{checks, takes}
use Rattle.fort_model.specs.Fits.{IsVisible, IsApart, has_sort}
use Rattle.fort_model.specs.Lists.{IsAmong}
use Rattle.fort_model.specs.Outcome.{Outcome, Ended, and_then}
use Rattle.fort_model.specs.Passing.{Taken, passed, written_back, call}
use Rattle.fort_model.specs.Places.{dim_values, stretch}
use Rattle.fort_model.specs.Processor.{Processor}
use Rattle.fort_model.specs.Program.{Program, notes_of}
use Rattle.fort_model.specs.Run.{run}
use Rattle.fort_model.specs.Seen.{Named, Answers}
use Rattle.fort_model.specs.Senses.{of_values}
use Rattle.fort_model.specs.Smashes.{Smashes, HoldsSmashed}
use Rattle.fort_model.specs.Storage.{Storage, Environment, load}
use Rattle.fort_model.specs.Symbols.{Symbol, LeastInteger, GreatestInteger}
use Rattle.fort_model.specs.WalkCalls as walk
use Rattle.fort_model.specs.WalkCalls.{Sight, Operand, stands_for, stands_after, seen_by, notes_told, result_facts}
use Rattle.fort_model.specs.WalkPlaces.{sorts}
use Rattle.fort_laws.specs.Actuals.{ArePassed}
use Rattle.fort_laws.specs.CallLaw.{HasNames, Agrees, HoldsName, EndsRight, IsRight, Leaves, CallsAreMatched}
use Rattle.fort_laws.specs.Frame.{IsPlaced, AreSound, SharesBlocks, IsSmashedCell, Changes}
use Rattle.fort_laws.specs.GoodStatements.{Stood}
use Rattle.fort_laws.specs.Matches.{AllTrue, FirstFails, of_callee, Matches, moves, fails}
use Rattle.fort_laws.specs.Standing.{MayBe}
use Rattle.fort_laws.proofs.CallAfter.{fit, cells_in, begun, entry_fits, entry_seen, left, hit_names, new_names, after_names, left_placed, left_sorted, left_named, left_kept, new_result, after_seen}
use Rattle.fort_laws.proofs.CallNames.{data_name_is, notes_same}
use Rattle.fort_laws.proofs.CallSorts.{cell_sorted, sorts_true}
use Rattle.fort_laws.proofs.CallStood.{stood_sorted, stood_placed}
use Rattle.fort_laws.proofs.FrameCalls.{runs_change_only_smashed}
use Rattle.fort_laws.proofs.FrameParts.{one_cell}
use Rattle.fort_laws.proofs.FrameSeats.{callee_apart}
use Rattle.fort_laws.proofs.Matching.{all_true_append, fails_before}
use Rattle.fort_laws.proofs.Near.{known}

-- ---- events

all_checked : (kind : Kind) (card : ℕ) (vs : List Value) → list_all holds vs ≡ true → AllTrue (checks kind card vs)
all_checked kind card [] h = tt
all_checked kind card (v ∷ vs) h = known (holds v)
    (λ t. (t, all_checked kind card vs (sym (ap (λ (b : Bool). b && list_all holds vs) t) ∙ h)))
    (λ f. let q : false ≡ true = sym (ap (λ (b : Bool). b && list_all holds vs) f) ∙ h in absurd (cc))

pub all_taken : (vs : List Value) → list_all holds vs ≡ true → AllTrue (takes vs)
all_taken [] h = tt
all_taken (v ∷ vs) h = known (holds v)
    (λ t. (t, all_taken vs (sym (ap (λ (b : Bool). b && list_all holds vs) t) ∙ h)))
    (λ f. let q : false ≡ true = sym (ap (λ (b : Bool). b && list_all holds vs) f) ∙ h in absurd (cc))

first_false : (kind : Kind) (card : ℕ) (vs : List Value) → list_all holds vs ≡ false → FirstFails kind card (checks kind card vs)
first_false kind card [] h = absurd (cc)
first_false kind card (v ∷ vs) h = known (holds v)
    (λ t. inl (t, first_false kind card vs (sym (ap (λ (b : Bool). b && list_all holds vs) t) ∙ h)))
    (λ f. inr (f, refl, refl))

-- an answer before others
abbrev in_front : Named Value → Answers Value → Answers Value
in_front a answers zero = a
in_front a answers (suc n) = answers n

pub may_be : (p : Processor) (q : Sort) (c : Cell) → has_sort p q c ≡ true → MayBe p q c
may_be p Integer (cell.Int z) h = h
may_be p Integer (cell.Logical b) h = absurd (cc)
may_be p Integer cell.Undefined h = tt
may_be p Logical (cell.Int z) h = absurd (cc)
may_be p Logical (cell.Logical b) h = tt
may_be p Logical cell.Undefined h = tt

module _ (values : Symbol → Value) (program : Program) (p : Processor) (i j : ℕ) (c : Calls program.units i j) (env : Environment)
    (least : values LeastInteger ≡ Int p.least) (greatest : values GreatestInteger ≡ Int p.greatest) (sound : AreSound program.units) (table : HoldsSmashed program) (blocks : SharesBlocks program.units)
    (agree : Agrees c) (names : HasNames c.callee) (right : IsRight p program j c.callee) (st : Storage) (now : Named Value) (stood : Stood p c.caller env now st)
    (sorted : (d : DataName) → IsAmong d c.caller.names → HoldsName p env st d) (placed : IsPlaced program.units i c.caller env st) (card k : ℕ) (os : List (Operand Value)) (xs : List Taken)
    (passing : ArePassed (record { processor = p; units = program.units; unit = c.caller; environment = env }) st now c.site.actuals os xs) where
  abbrev here : Scene
  here = record { processor = p; units = program.units; unit = c.caller; environment = env }

  abbrev w : Sight Value
  w = sight (of_values program.functions values) program i c.caller

  abbrev inner : Environment
  inner x = cells_in program i j c (sound.units_are i c.caller c.is_caller) (sound.units_are j c.callee c.is_callee) (sound.calls_are i j c) table blocks agree names program.functions values p env st now stood sorted placed
      (p.copies c.caller.name k) os xs passing x

  abbrev entered : Storage
  entered = begun program i j c (sound.units_are i c.caller c.is_caller) (sound.units_are j c.callee c.is_callee) (sound.calls_are i j c) table blocks agree names program.functions values p env st now stood sorted placed
      (p.copies c.caller.name k) os xs passing

  -- what the callee's names stand for at its entry
  abbrev before : Named Value
  before = seen_by w c.callee (map stands_for os) now Undefined

  apart : IsApart program.units j c.callee inner
  apart = callee_apart program.units i j c (sound.units_are i c.caller c.is_caller) (sound.units_are j c.callee c.is_callee) (sound.calls_are i j c) env st placed (p.copies c.caller.name k) xs
      (fit program i j c (sound.units_are i c.caller c.is_caller) (sound.units_are j c.callee c.is_callee) (sound.calls_are i j c) table blocks agree names program.functions values p env st now stood sorted placed
      (p.copies c.caller.name k) os xs passing)

  seen_at_entry : (x : Name) → before x ≡ names_hold c.callee inner entered cell.Undefined x
  seen_at_entry = entry_seen program i j c (sound.units_are i c.caller c.is_caller) (sound.units_are j c.callee c.is_callee) (sound.calls_are i j c) table blocks agree names program.functions values p env st now stood sorted placed
      (p.copies c.caller.name k) os xs passing

  abbrev Q : Named Value × Value → Cell → Storage → Type 0
  Q = Leaves program c p env st

  -- ---- where INPUT holds

  module _ (ends : EndsRight p program j c.callee inner entered) where
    frame : Changes (IsSmashedCell program.units j c.callee inner) entered (Ended ends.value ends.after 0)
    frame = subst (λ (o : Outcome Cell). Changes (IsSmashedCell program.units j c.callee inner) entered o) (ends.ends 0)
        (runs_change_only_smashed program.units sound p j c.callee inner entered (ends.cost + 0) c.is_callee apart
        (entry_fits program i j c (sound.units_are i c.caller c.is_caller) (sound.units_are j c.callee c.is_callee) (sound.calls_are i j c) table blocks agree names program.functions values p env st now stood sorted placed
        (p.copies c.caller.name k) os xs passing).shapes)

    abbrev final : Storage
    final = left program i j c (sound.units_are i c.caller c.is_caller) (sound.units_are j c.callee c.is_callee) (sound.calls_are i j c) table blocks agree names program.functions values p env st now stood sorted placed
        (p.copies c.caller.name k) os xs passing ends.after ends.value frame.0 frame.1 ends.sorts ends.nothing

    abbrev after : Named Value
    after = after_names program i j c (sound.units_are i c.caller c.is_caller) (sound.units_are j c.callee c.is_callee) (sound.calls_are i j c) table blocks agree names program.functions values p env st now stood sorted placed
        (p.copies c.caller.name k) os xs passing ends.after ends.value frame.0 frame.1 ends.sorts ends.nothing

    named : (d : DataName) → IsAmong d c.caller.names → after d.name ≡ held_in d.dims final (env d.name)
    named = left_named program i j c (sound.units_are i c.caller c.is_caller) (sound.units_are j c.callee c.is_callee) (sound.calls_are i j c) table blocks agree names program.functions values p env st now stood sorted placed
        (p.copies c.caller.name k) os xs passing ends.after ends.value frame.0 frame.1 ends.sorts ends.nothing

    final_sorted : (d : DataName) → IsAmong d c.caller.names → HoldsName p env final d
    final_sorted = left_sorted program i j c (sound.units_are i c.caller c.is_caller) (sound.units_are j c.callee c.is_callee) (sound.calls_are i j c) table blocks agree names program.functions values p env st now stood sorted placed
        (p.copies c.caller.name k) os xs passing ends.after ends.value frame.0 frame.1 ends.sorts ends.nothing

    final_placed : IsPlaced program.units i c.caller env final
    final_placed = left_placed program i j c (sound.units_are i c.caller c.is_caller) (sound.units_are j c.callee c.is_callee) (sound.calls_are i j c) table blocks agree names program.functions values p env st now stood sorted placed
        (p.copies c.caller.name k) os xs passing ends.after ends.value frame.0 frame.1 ends.sorts ends.nothing

    abbrev smashed : List Name
    smashed = hit_names program i j c (sound.units_are i c.caller c.is_caller) (sound.units_are j c.callee c.is_callee) (sound.calls_are i j c) table blocks agree names program.functions values p env st now stood sorted placed
        (p.copies c.caller.name k) os xs passing

    final_stood : Stood p c.caller env after final
    final_stood = record {
      standing = record {
        names = λ x d e. let m = data_name_is c.caller.names x d e in subst (λ (z : Name). after z ≡ held_in d.dims final (env z)) m.1 (named d m.0);
        sizes = λ x d e. let m = data_name_is c.caller.names x d e in subst (λ (z : Name). pos (env z).size ≡ stretch (dim_values env final d.dims)) m.1 (final_placed.shapes d m.0).size;
        sorts = λ x d e n lt. let m = data_name_is c.caller.names x d e in
            subst (λ (z : Name). n < (env z).size → MayBe p d.sort (load final ((env z).first + n))) m.1 (λ l. may_be p d.sort _ (final_sorted d m.0 n l)) lt;
      };
      good = λ x d e. let m = data_name_is c.caller.names x d e in (final_placed.shapes d m.0).dims;
      within = λ x d e. let m = data_name_is c.caller.names x d e in subst (λ (z : Name). (env z).first + (env z).size ≤ length final) m.1 (final_placed.shapes d m.0).within;
    }

    sorts_are_true : AllTrue (takes (sorts w.sense c.caller after smashed))
    sorts_are_true = sorts_true program.functions values p least greatest program.units i c.caller (sound.units_are i c.caller c.is_caller) env final after named final_sorted
        (λ d m. (one_cell program.units i c.caller (sound.units_are i c.caller c.is_caller) env final final_placed d m, (final_placed.shapes d m).size)) smashed

    abbrev answer : Named Value
    answer = new_names program i j c (sound.units_are i c.caller c.is_caller) (sound.units_are j c.callee c.is_callee) (sound.calls_are i j c) table blocks agree names program.functions values p env st now stood sorted placed
        (p.copies c.caller.name k) os xs passing ends.after ends.value frame.0 frame.1 ends.sorts ends.nothing

    answered : answer c.callee.name ≡ of_cell ends.value
    answered = new_result program i j c (sound.units_are i c.caller c.is_caller) (sound.units_are j c.callee c.is_callee) (sound.calls_are i j c) table blocks agree names program.functions values p env st now stood sorted placed
        (p.copies c.caller.name k) os xs passing ends.after ends.value frame.0 frame.1 ends.sorts ends.nothing

    seen_at_end : (x : Name) → seen_by w c.callee (map (stands_after w after) os) after (answer c.callee.name) x ≡ names_hold c.callee inner ends.after ends.value x
    seen_at_end = after_seen program i j c (sound.units_are i c.caller c.is_caller) (sound.units_are j c.callee c.is_callee) (sound.calls_are i j c) table blocks agree names program.functions values p env st now stood sorted placed
        (p.copies c.caller.name k) os xs passing ends.after ends.value frame.0 frame.1 ends.sorts ends.nothing

    result_true : (o : Option Sort) → c.callee.sort ≡ o → AllTrue (takes (result_facts w o (answer c.callee.name)))
    result_true o e = subst (λ (v : Value). AllTrue (takes (result_facts w o v))) (sym answered) (by_sort o e)
      where
        by_sort : (o : Option Sort) → c.callee.sort ≡ o → AllTrue (takes (result_facts w o (of_cell ends.value)))
        by_sort None e = tt
        by_sort (Some q) e = let r = ends.result q e in (r.0, (cell_sorted program.functions values p least greatest q ends.value r.1, tt))

    output_true : AllTrue (takes (notes_told w before (seen_by w c.callee (map (stands_after w after) os) after (answer c.callee.name)) (notes_of program j).output))
    output_true = all_taken _ (ap (list_all holds) (notes_same program.functions values p least greatest _ _ _ _ seen_at_entry seen_at_end (notes_of program j).output) ∙ ends.met)

    -- where the called unit smashes nothing, nothing is changed
    final_kept : ((d : DataName) → IsVisible c.callee d → Smashes program.units j d.name → ⊥) → final ≡ st
    final_kept none = left_kept program i j c (sound.units_are i c.caller c.is_caller) (sound.units_are j c.callee c.is_callee) (sound.calls_are i j c) table blocks agree names program.functions values p env st now stood sorted placed
        (p.copies c.caller.name k) os xs passing ends.after ends.value frame.0 frame.1 ends.sorts ends.nothing none

    call_moves : list_all holds (notes_told w before before (notes_of program j).input) ≡ true
        → Matches Q (walk.call_in w card j (Some c.callee) now os) (call (run p program.units) env (Some c.callee) (passed (p.copies c.caller.name k) 1 xs)) st
    call_moves t = moves (in_front answer) (after, answer c.callee.name) ends.value final ends.cost
        (λ answers. all_true_append _ _ (all_checked InputCheck card _ t) (all_true_append _ _ sorts_are_true (all_true_append _ _ (result_true c.callee.sort refl) (all_true_append _ _ output_true tt))))
        (λ answers. refl) (λ answers. refl)
        (λ n. ap (λ (o : Outcome Cell). and_then o (λ value last more. Ended value (take (length st) (written_back (passed (p.copies c.caller.name k) 1 xs) (length st) last)) more)) (ends.ends n))
        (record { stood = final_stood; is = answered; sorted = ends.result; kept = final_kept })

  -- ---- the call

  call_one : Matches Q (walk.call_in w card j (Some c.callee) now os) (call (run p program.units) env (Some c.callee) (passed (p.copies c.caller.name k) 1 xs)) st
  call_one = known (list_all holds (notes_told w before before (notes_of program j).input))
      (λ t. call_moves (right inner entered apart
      (entry_fits program i j c (sound.units_are i c.caller c.is_caller) (sound.units_are j c.callee c.is_callee) (sound.calls_are i j c) table blocks agree names program.functions values p env st now stood sorted placed
      (p.copies c.caller.name k) os xs passing)
      (sym (ap (list_all holds) (notes_same program.functions values p least greatest _ _ _ _ seen_at_entry seen_at_entry (notes_of program j).input)) ∙ t)) t)
      (λ f. fails (λ answers. answers) InputCheck card (λ answers. fails_before InputCheck card (checks InputCheck card (notes_told w before before (notes_of program j).input)) _ (first_false InputCheck card _ f)) (of_callee refl))

  pub call_matches : Matches Q (walk.call w card (callee_of program.units c.site) now os) (call (run p program.units) env (unit_at program.units (callee_of program.units c.site)) (passed (p.copies c.caller.name k) 1 xs)) st
  call_matches =
      subst (λ (o : Option ℕ). Matches Q (walk.call w card o now os) (call (run p program.units) env (unit_at program.units o) (passed (p.copies c.caller.name k) 1 xs)) st) (sym c.is_of)
      (subst (λ (o : Option Routine). Matches Q (walk.call_in w card j o now os) (call (run p program.units) env o (passed (p.copies c.caller.name k) 1 xs)) st) (sym c.is_callee) call_one)

pub calls_are_matched : CallsAreMatched
calls_are_matched values program p i j c env least greatest sound table blocks agree names right apart st now stood card k os ts passing =
    call_matches values program p i j c env least greatest sound table blocks agree names right st now stood
    (stood_sorted program.units i c.caller (sound.units_are i c.caller c.is_caller) p env st now stood)
    (stood_placed program.units i c.caller (sound.units_are i c.caller c.is_caller) p env st now stood apart) card k os ts passing
