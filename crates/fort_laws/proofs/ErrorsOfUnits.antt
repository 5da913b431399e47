-- In a unit that calls units that end well, runs go a way to the next cut point, or err on it.
use Rattle.fort_laws.specs.CallLaw.{at_home}
use Rattle.fort_laws.specs.Errors.{RunsArriveOrErr, RunsErrWhateverCallsAnswer}
use Rattle.fort_laws.specs.Called.{IsReferenceTo, IsCallTo}
use Rattle.fort_model.specs.Program.{notes_of}
use Rattle.fort_model.specs.Run.{run}
use Rattle.fort_laws.proofs.ErrorsOfWalks.{errors_are_those_of_walks}
use Rattle.fort_laws.proofs.ErrorsOnWays.{goes_a_way}
use Rattle.fort_laws.proofs.MatchedStatements.{statements_match}
use Rattle.fort_laws.proofs.Near.{near_all}
use Rattle.fort_laws.proofs.SafeUnits.{scalar_dims}
use Rattle.fort_laws.proofs.UnitCalls.{unit_calls_match}
use Rattle.fort_laws.proofs.WalkKeeps.{statements_keep}

pub runs_arrive_or_err : RunsArriveOrErr
runs_arrive_or_err values program p i u env clock pc now st h =
    let o = h.order in
    let calls = unit_calls_match values program p i u env h.least h.greatest o.sound o.table o.blocks o.harmless o.right h.apart in
    goes_a_way program.functions values program i (at_home p program u env) o.dialects (IsReferenceTo program i u) (IsCallTo program i u)
    (statements_match program.functions values program i (at_home p program u env) (run p program.units) h.least h.greatest o.strict o.bounded o.dialects
    (scalar_dims program.units i u (o.sound.units_are i u o.is) p env st now h.stood) calls.0 calls.1)
    h.good o.cut (statements_keep program.functions values program i (at_home p program u env) o.table o.is o.common) clock pc
    (near_all program.dialect u (notes_of program i) o.cut pc) h.line now st h.at h.stood h.kept

pub runs_err_whatever_calls_answer : RunsErrWhateverCallsAnswer
runs_err_whatever_calls_answer values program p i u env clock pc now st h way is kind card error fails =
    let own = runs_arrive_or_err values program p i u env clock pc now st h in
    errors_are_those_of_walks program.functions values program i (at_home p program u env) clock pc now st own way is kind card error (fails own.answers)
