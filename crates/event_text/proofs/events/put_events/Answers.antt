use Rattle.std.proofs.Common.{ℕ, List, ◌++◌, ◌∙◌, ap, length, map, subst}
use Rattle.std.specs.List.{flat_map, zip}
use Rattle.formula.specs.Worth.{function_of}
use Rattle.event_text.specs.Conditions.{condition_tree}
use Rattle.event_text.specs.EventText.{asked_line, closing_line, condition_line, definition_line}
use Rattle.event_text.specs.Sending.{Goes}
use Rattle.event_text.proofs.Sent.{goes}
use Rattle.event_text.proofs.Whole.{whole_text}
use Rattle.event_text.proofs.events.put_events.Goals as goal

pub returns : goal.returns
returns g c =
    let pool = c.args.pool.now in
    let ds = c.args.definitions.now in
    let cs = c.args.conditions.now in
    let names = map (λ d. d.name) ds in
    let first = flat_map (λ d. definition_line names (function_of pool d)) ds in
    let lines = λ (ls : List ℕ). flat_map (λ p. condition_line names (condition_tree pool p.0) p.1) (zip cs ls) in
    subst (Goes _ _ _ _ _ _)
    (ap (λ ls. first ++ lines ls ++ flat_map asked_line c.as_slice-2.result.now ++ closing_line (length cs)) c.as_slice.ensures
    ∙ ap (λ a. first ++ lines c.args.marks.now.letters ++ flat_map asked_line a ++ closing_line (length cs)) c.as_slice-2.ensures
    ∙ whole_text pool ds cs c.args.marks.now)
    (goes (goes (goes c.put_definitions.ensures.goes c.put_conditions.ensures.goes) c.put_asked.ensures) c.put_closing.ensures)
