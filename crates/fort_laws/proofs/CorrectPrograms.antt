-- Programs whose conditions are valid are totally correct, also on lazy processors.
use Rattle.std.proofs.Common.{◌≡◌, ◌+◌, Bool, true, false, ◌&&◌, List, [], ◌∷◌, refl, sym, ap, ◌∙◌, subst}
use Rattle.std.specs.List.{list_all}
use Rattle.formula.specs.declared.value.Cell.{Cell}
use Rattle.fort_syntax.specs.declared.dialect.Sort.{Sort}
use Rattle.fort_syntax.specs.declared.dialect.Sort.TheVariants.{Integer, Logical}
use Rattle.fort_syntax.specs.declared.unit.Unit.{Unit as Routine}
use Rattle.fort_model.specs.Fits.{Fits, has_sort}
use Rattle.fort_model.specs.Outcome.{Ended}
use Rattle.fort_model.specs.Processor.{Processor}
use Rattle.fort_model.specs.Run.{run}
use Rattle.fort_model.specs.Storage.{Storage, Environment, contents}
use Rattle.fort_laws.specs.CorrectPrograms.{ProgramsAreCorrect}
use Rattle.fort_laws.specs.Lazy.{lazy_one}
use Rattle.fort_laws.proofs.LazyRuns.{lazy_runs_follow_strict_ones}
use Rattle.fort_laws.proofs.Near.{known}
use Rattle.fort_laws.proofs.RulesKept.{rules_make_sound, rules_pass_smashed_alone}
use Rattle.fort_laws.proofs.StrictPrograms.{strict_programs_are_correct}

-- the strict processor that is otherwise as this one
abbrev strict_one : Processor → Processor
strict_one p = record { dialect = p.dialect; least = p.least; greatest = p.greatest; lazy = false; copies = p.copies }

same_one : (p : Processor) → p.lazy ≡ true → lazy_one (strict_one p) ≡ p
same_one p e = λ k. record { dialect = p.dialect; least = p.least; greatest = p.greatest; lazy = sym e k; copies = p.copies }

same_sort : (p : Processor) (q : Sort) (c : Cell) → has_sort (strict_one p) q c ≡ has_sort p q c
same_sort p Integer c = refl
same_sort p Logical c = refl

all_same : (test other : Cell → Bool) → ((c : Cell) → test c ≡ other c) → (cs : List Cell) → list_all test cs ≡ list_all other cs
all_same test other h [] = refl
all_same test other h (c ∷ cs) = ap (λ (b : Bool). b && list_all test cs) (h c) ∙ ap (λ (b : Bool). other c && b) (all_same test other h cs)

fits_strictly : (p : Processor) (u : Routine) (env : Environment) (st : Storage) → Fits p u env st → Fits (strict_one p) u env st
fits_strictly p u env st fits = record {
  shapes = fits.shapes;
  sorts = λ d v. all_same (has_sort (strict_one p) d.sort) (has_sort p d.sort) (same_sort p d.sort) (contents st (env d.name).first (env d.name).size) ∙ fits.sorts d v;
}

pub programs_are_correct : ProgramsAreCorrect
programs_are_correct program keeps table declared calls ready list exact valid p i u env st dialects bounded is apart fits met =
    known p.lazy
    (λ e.
    let r = strict_programs_are_correct program keeps table declared calls ready list exact valid (strict_one p) i u env st refl dialects bounded is apart (fits_strictly p u env st fits) met in
    let follows = lazy_runs_follow_strict_ones program.units (rules_make_sound program keeps table declared) (rules_pass_smashed_alone program keeps table declared.blocks).1 (strict_one p) refl i u env st r.steps is apart fits.shapes
    r.value r.storage r.spare r.ended 0 in
    record {
      steps = r.steps + 0;
      spare = r.spare + 0 + follows.0;
      storage = r.storage;
      value = r.value;
      ended = subst (λ (q : Processor). run q program.units u env st (r.steps + 0) ≡ Ended r.value r.storage (r.spare + 0 + follows.0)) (same_one p e) follows.1;
      met = r.met;
    })
    (λ e. strict_programs_are_correct program keeps table declared calls ready list exact valid p i u env st e dialects bounded is apart fits met)
