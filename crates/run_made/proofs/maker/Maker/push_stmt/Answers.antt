use Rattle.std.proofs.Common.{◌≡◌, ◌++◌, OnOk, length, subst}
use Rattle.run_lines.specs.Stated.{stmt_pushed}
use Rattle.run_made.specs.Made.{names_in, unit_in}
use Rattle.run_made.proofs.maker.Maker.push_stmt.Goals as goal

pub returns-clause-code : goal.returns-clause-code
returns-clause-code c =
    let at = c.spot-spot.ensures in
    subst (λ xs. OnOk c.code_stmt-result.result (c.code_stmt-result.new.draft.instrs.items ≡ c.args.draft.now.instrs.items ++ xs))
    (λ i. stmt_pushed (unit_in c.args.self.now) (names_in c.args.self.now) (at.behind i) (at.over i) (at.point i) (length c.args.draft.now.targets.items)
    (length c.args.draft.now.calls.items) c.args.line.now.stmt)
    c.code_stmt-result.ensures.code
