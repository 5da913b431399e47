-- The calls of a unit match, where the units that they are of are right.
use Rattle.std.proofs.Common.{◌≡◌, ℕ, true, cond, Bool, List, Option, Some, sym, ap, ◌∙◌, subst}
use Rattle.std.specs.Prelude.{is_some}
use Rattle.fort_syntax.specs.Names.{function, subroutine, unit_at}
use Rattle.formula.specs.declared.value.Cell.{Cell}
use Rattle.formula.specs.declared.value.Cell.TheVariants as cell
use Rattle.formula.specs.declared.value.Value.{Value}
use Rattle.formula.specs.declared.value.Value.TheVariants.{Int}
use Rattle.fort_syntax.specs.declared.name.Name.{Name}
use Rattle.fort_syntax.specs.declared.dialect.Sort.{Sort}
use Rattle.fort_syntax.specs.declared.dialect.Sort.TheVariants.{Integer, Logical}
use Rattle.fort_syntax.specs.declared.expr.Expr.{Expr}
use Rattle.fort_syntax.specs.declared.unit.Unit.{Unit as Routine}
use Rattle.fort_model.specs.Calls.{Calls, callee_of}
use Rattle.fort_model.specs.Cells.{is_defined}
use Rattle.fort_model.specs.Conditions.{sight}
use Rattle.fort_model.specs.Fits.{has_sort}
use Rattle.fort_model.specs.Outcome.{Act}
use Rattle.fort_model.specs.Passing.{Taken, call, passed}
use Rattle.fort_model.specs.Processor.{Processor}
use Rattle.fort_model.specs.Program.{Program}
use Rattle.fort_model.specs.Run.{run}
use Rattle.fort_model.specs.Seen.{Named, See}
use Rattle.fort_model.specs.Senses.{of_values}
use Rattle.fort_model.specs.Smashes.{HoldsSmashed}
use Rattle.fort_model.specs.Storage.{Storage, Environment}
use Rattle.fort_model.specs.Symbols.{Symbol, LeastInteger, GreatestInteger}
use Rattle.fort_model.specs.WalkCalls as walk
use Rattle.fort_model.specs.WalkCalls.{Operand}
use Rattle.fort_laws.specs.Actuals.{ArePassed}
use Rattle.fort_laws.specs.Called.{IsReferenceTo, IsCallTo}
use Rattle.fort_laws.specs.CallLaw.{at_home, LieApart, Leaves, CallsAreRight, UnitCallsMatch}
use Rattle.fort_laws.specs.Frame.{AreSound, SharesBlocks, FunctionsSmashNothing}
use Rattle.fort_laws.specs.GoodStatements.{Stood}
use Rattle.fort_laws.specs.Matches.{Matches, Same}
use Rattle.fort_laws.specs.Standing.{IsSort, Of}
use Rattle.fort_laws.proofs.CallMatched.{calls_are_matched}
use Rattle.fort_laws.proofs.Matching.{matches_as}

-- what is defined and of a type
is_sort : (p : Processor) (q : Sort) (c : Cell) → is_defined c ≡ true → has_sort p q c ≡ true → IsSort p q c
is_sort p Integer (cell.Int z) d h = h
is_sort p Integer (cell.Logical b) d h = absurd (cc)
is_sort p Integer cell.Undefined d h = absurd (cc)
is_sort p Logical (cell.Int z) d h = absurd (cc)
is_sort p Logical (cell.Logical b) d h = tt
is_sort p Logical cell.Undefined d h = absurd (cc)

function_by : (o : Option Sort) (q : Sort) → o ≡ Some q → is_some o ≡ true
function_by o q e = ap is_some e

module _ (values : Symbol → Value) (program : Program) (p : Processor) (i : ℕ) (env : Environment)
    (least : values LeastInteger ≡ Int p.least) (greatest : values GreatestInteger ≡ Int p.greatest) (sound : AreSound program.units) (table : HoldsSmashed program) (blocks : SharesBlocks program.units)
    (harmless : FunctionsSmashNothing program.units) (calls : CallsAreRight p program i) where
  abbrev WalkOf : Routine → ℕ → Option ℕ → Named Value → List (Operand Value) → See Value (Named Value × Value)
  WalkOf u card o now os = walk.call (sight (of_values program.functions values) program i u) card o now os

  abbrev RunOf : Routine → ℕ → Option ℕ → List Taken → Act Cell
  RunOf u k o ts = call (run p program.units) env (unit_at program.units o) (passed (p.copies u.name k) 1 ts)

  module _ (j : ℕ) (c : Calls program.units i j) (apart : LieApart program.units i c.caller env) (st : Storage) (now : Named Value) (stood : Stood p c.caller env now st) (card k : ℕ) (os : List (Operand Value)) (ts : List Taken)
      (passing : ArePassed (at_home p program c.caller env) st now c.site.actuals os ts) where
    one_matches : Matches (Leaves program c p env st) (WalkOf c.caller card (callee_of program.units c.site) now os) (RunOf c.caller k (callee_of program.units c.site) ts) st
    one_matches = calls_are_matched values program p i j c env least greatest sound table blocks (calls.agrees j c) (calls.names j c) (calls.right j c) apart st now stood card k os ts passing

    call_one : (o : Option ℕ) → callee_of program.units c.site ≡ o → Matches (λ r v after. Stood p c.caller env (r.0) after) (WalkOf c.caller card o now os) (RunOf c.caller k o ts) st
    call_one o e =
        subst (λ (z : Option ℕ). Matches (λ r v after. Stood p c.caller env (r.0) after) (WalkOf c.caller card z now os) (RunOf c.caller k z ts) st) e
        (matches_as (Leaves program c p env st) (λ r v after. Stood p c.caller env (r.0) after) _ _ st (λ r v after h. h.stood) one_matches)

    reference_one : (q : Sort) → c.callee.sort ≡ Some q → (o : Option ℕ) → callee_of program.units c.site ≡ o → Matches (Same st (λ r v. Of p q (r.1) v)) (WalkOf c.caller card o now os) (RunOf c.caller k o ts) st
    reference_one q sort o e =
        subst (λ (z : Option ℕ). Matches (Same st (λ r v. Of p q (r.1) v)) (WalkOf c.caller card z now os) (RunOf c.caller k z ts) st) e
        (matches_as (Leaves program c p env st) (Same st (λ r v. Of p q (r.1) v)) _ _ st
        (λ r v after h. let s = h.sorted q sort in
        (h.kept (λ d x m. harmless j c.callee d c.is_callee (function_by c.callee.sort q sort) x m), (h.is, is_sort p q v s.0 s.1))) one_matches)

  -- a call by its name and its actuals
  call_named : (u : Routine) (f : Name) (es : List Expr) (r : IsCallTo program i u f es) → LieApart program.units i u env → (st : Storage) (now : Named Value) → Stood p u env now st
      → (card k : ℕ) (os : List (Operand Value)) (ts : List Taken) → ArePassed (at_home p program u env) st now es os ts
      → Matches (λ r v after. Stood p u env (r.0) after) (WalkOf u card (subroutine program.units f) now os) (RunOf u k (subroutine program.units f) ts) st
  call_named u f es r apart st now stood card k os ts passing = by_caller u r.caller_is apart stood passing
    where
      callee : callee_of program.units r.call.site ≡ subroutine program.units f
      callee =
          ap (λ (b : Bool). cond b (function program.units r.call.site.callee) (subroutine program.units r.call.site.callee)) r.reference_is
          ∙ ap (subroutine program.units) r.callee_is

      by_caller : (u : Routine) → r.call.caller ≡ u → LieApart program.units i u env → Stood p u env now st → ArePassed (at_home p program u env) st now es os ts
          → Matches (λ r v after. Stood p u env (r.0) after) (WalkOf u card (subroutine program.units f) now os) (RunOf u k (subroutine program.units f) ts) st
      by_caller u q =
          subst (λ (z : Routine). LieApart program.units i z env → Stood p z env now st → ArePassed (at_home p program z env) st now es os ts
          → Matches (λ r v after. Stood p z env (r.0) after) (WalkOf z card (subroutine program.units f) now os) (RunOf z k (subroutine program.units f) ts) st) q
          (λ a s h. call_one r.number r.call a st now s card k os ts
          (subst (λ (z : List Expr). ArePassed (at_home p program r.call.caller env) st now z os ts) (sym r.actuals_are) h) (subroutine program.units f) callee)

  reference_named : (u : Routine) (q : Sort) (f : Name) (es : List Expr) (r : IsReferenceTo program i u q f es) → LieApart program.units i u env → (st : Storage) (now : Named Value) → Stood p u env now st
      → (card k : ℕ) (os : List (Operand Value)) (ts : List Taken) → ArePassed (at_home p program u env) st now es os ts
      → Matches (Same st (λ r v. Of p q (r.1) v)) (WalkOf u card (function program.units f) now os) (RunOf u k (function program.units f) ts) st
  reference_named u q f es r apart st now stood card k os ts passing = by_caller u r.caller_is apart stood passing
    where
      callee : callee_of program.units r.call.site ≡ function program.units f
      callee =
          ap (λ (b : Bool). cond b (function program.units r.call.site.callee) (subroutine program.units r.call.site.callee)) r.reference_is
          ∙ ap (function program.units) r.callee_is

      by_caller : (u : Routine) → r.call.caller ≡ u → LieApart program.units i u env → Stood p u env now st → ArePassed (at_home p program u env) st now es os ts
          → Matches (Same st (λ r v. Of p q (r.1) v)) (WalkOf u card (function program.units f) now os) (RunOf u k (function program.units f) ts) st
      by_caller u e =
          subst (λ (z : Routine). LieApart program.units i z env → Stood p z env now st → ArePassed (at_home p program z env) st now es os ts
          → Matches (Same st (λ r v. Of p q (r.1) v)) (WalkOf z card (function program.units f) now os) (RunOf z k (function program.units f) ts) st) e
          (λ a s h. reference_one r.number r.call a st now s card k os ts
          (subst (λ (z : List Expr). ArePassed (at_home p program r.call.caller env) st now z os ts) (sym r.actuals_are) h) q r.sort_is (function program.units f) callee)

pub unit_calls_match : UnitCallsMatch
unit_calls_match values program p i u env least greatest sound table blocks harmless calls apart = (
  λ st now stood card k q f es os ts r passing. reference_named values program p i env least greatest sound table blocks harmless calls u q f es r apart st now stood card k os ts passing,
  λ st now stood card k f es os ts r passing. call_named values program p i env least greatest sound table blocks harmless calls u f es r apart st now stood card k os ts passing,
)
