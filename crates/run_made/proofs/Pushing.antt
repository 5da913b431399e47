-- The code of one statement more.
use Rattle.std.proofs.Common.{◌≡◌, ◌≤◌, ℕ, suc, ◌+◌, List, [], ◌∷◌, ◌++◌, drop, length, Some, slice_get, refl, sym, ap, ◌∙◌, append_assoc, arith}
use Rattle.std.proofs.lemmas.List.{drop_all, length-append}
use Rattle.fort_syntax.specs.declared.unit.Line.{Line}
use Rattle.fort_model.specs.CallFacts.{sites_of_lines}
use Rattle.fort_model.specs.Calls.{sites_of}
use Rattle.run_coding.proofs.Composed.{calls_long, calls_then}
use Rattle.run_coding.specs.Scopes.{with_calls}
use Rattle.run_lines.specs.Stated.{aims}
use Rattle.run_made.specs.Lined.{aims_of_lines, code_at, codes_from, lines_pushed}
use Rattle.run_made.specs.Made.{names_in, scope_in, unit_in}
use Rattle.run_made.specs.Making.{IsMadeOf, IsMadeTo, pushed_by}
use Rattle.run_made.specs.declared.maker.Maker.{Maker}
use Rattle.run_made.specs.declared.making.Made.{Made}
use Rattle.run_made.proofs.Behind.{drop_at}

nothing_more : {X : Type 0} (xs : List X) → xs ≡ xs ++ []
nothing_more [] = refl
nothing_more (x ∷ xs) = ap (λ ys. x ∷ ys) (nothing_more xs)

one_point : (pc : ℕ) → pc + 1 ≡ suc pc
one_point pc = omega arith

pub started : (m : Maker) (made : Made) → made.draft.instrs.items ≡ [] → made.draft.calls.items ≡ [] → made.draft.targets.items ≡ [] → made.codes.items ≡ []
    → IsMadeTo m 0 made
started m made instrs calls targets codes =
    let u = unit_in m in
    let names = names_in m in
    let t = m.table.now in
    record {
      instrs = λ i. instrs i ++ lines_pushed u names t 0 (length (targets i)) (length (calls i)) u.lines;
      codes = λ i. codes i ++ codes_from u names t 0 (length (targets i)) (length (calls i)) (length (instrs i)) u.lines;
      targets = λ i. targets i ++ aims_of_lines u u.lines;
      calls = λ i. with_calls (scope_in m) (sites_of_lines u u.lines) (calls i);
    }

pub stepped : (m : Maker) (pc : ℕ) (line : Line) (old new : Made) → slice_get (unit_in m).lines pc ≡ Some line
    → new.draft.targets.items ≡ old.draft.targets.items ++ aims (unit_in m) line.stmt
    → new.draft.calls.items ≡ with_calls (scope_in m) (sites_of (unit_in m) line.stmt) old.draft.calls.items
    → new.draft.instrs.items ≡ old.draft.instrs.items ++ pushed_by m old.draft pc line
    → new.codes.items ≡ old.codes.items ++ code_at line (length old.draft.instrs.items) (pushed_by m old.draft pc line) ∷ []
    → IsMadeTo m pc old → IsMadeTo m (pc + 1) new
stepped m pc line old new there targets calls instrs codes h =
    let u = unit_in m in
    let names = names_in m in
    let t = m.table.now in
    let is = pushed_by m old.draft pc line in
    let t0 = old.draft.targets.items in
    let c0 = old.draft.calls.items in
    let i0 = old.draft.instrs.items in
    let more = drop (suc pc) u.lines in
    let first : drop pc u.lines ≡ line ∷ more = drop_at u.lines pc line there in
    let tl : length new.draft.targets.items ≡ length t0 + length (aims u line.stmt) = ap length targets ∙ length-append t0 (aims u line.stmt) in
    let cl : length new.draft.calls.items ≡ length c0 + length (sites_of u line.stmt) = ap length calls ∙ calls_long (scope_in m) (sites_of u line.stmt) c0 in
    let il : length new.draft.instrs.items ≡ length i0 + length is = ap length instrs ∙ length-append i0 is in
    let next = one_point pc in
    let rest = lines_pushed u names t (suc pc) (length t0 + length (aims u line.stmt)) (length c0 + length (sites_of u line.stmt)) more in
    let later = codes_from u names t (suc pc) (length t0 + length (aims u line.stmt)) (length c0 + length (sites_of u line.stmt)) (length i0 + length is) more in
    record {
      instrs = (λ i. instrs i ++ lines_pushed u names t (next i) (tl i) (cl i) (drop (next i) u.lines))
          ∙ append_assoc i0 is rest
          ∙ ap (λ ls. i0 ++ lines_pushed u names t pc (length t0) (length c0) ls) (sym first)
          ∙ h.instrs;
      codes = (λ i. codes i ++ codes_from u names t (next i) (tl i) (cl i) (il i) (drop (next i) u.lines))
          ∙ append_assoc old.codes.items (code_at line (length i0) is ∷ []) later
          ∙ ap (λ ls. old.codes.items ++ codes_from u names t pc (length t0) (length c0) (length i0) ls) (sym first)
          ∙ h.codes;
      targets = (λ i. targets i ++ aims_of_lines u (drop (next i) u.lines))
          ∙ append_assoc t0 (aims u line.stmt) (aims_of_lines u more)
          ∙ ap (λ ls. t0 ++ aims_of_lines u ls) (sym first)
          ∙ h.targets;
      calls = (λ i. with_calls (scope_in m) (sites_of_lines u (drop (next i) u.lines)) (calls i))
          ∙ sym (calls_then (scope_in m) (sites_of u line.stmt) (sites_of_lines u more) c0)
          ∙ ap (λ ls. with_calls (scope_in m) (sites_of_lines u ls) c0) (sym first)
          ∙ h.calls;
    }

pub ended : (m : Maker) (pc : ℕ) (made : Made) → length (unit_in m).lines ≤ pc → IsMadeTo m pc made → IsMadeOf m made
ended m pc made past h =
    let u = unit_in m in
    let names = names_in m in
    let t = m.table.now in
    let none : [] ≡ drop pc u.lines = sym (drop_all pc u.lines past) in
    let targets = made.draft.targets.items in
    let calls = made.draft.calls.items in
    let instrs = made.draft.instrs.items in
    record {
      instrs = nothing_more instrs ∙ ap (λ ls. instrs ++ lines_pushed u names t pc (length targets) (length calls) ls) none ∙ h.instrs;
      codes = nothing_more made.codes.items ∙ ap (λ ls. made.codes.items ++ codes_from u names t pc (length targets) (length calls) (length instrs) ls) none ∙ h.codes;
      targets = nothing_more targets ∙ ap (λ ls. targets ++ aims_of_lines u ls) none ∙ h.targets;
      calls = nothing_more calls ∙ ap (λ ls. with_calls (scope_in m) (sites_of_lines u ls) calls) none ∙ h.calls;
    }
