use Rattle.std.proofs.Common.{rules}
use Rattle.stmt_parse.proofs.StatementsAgree.{found_is_spelled}
use Rattle.stmt_parse.proofs.answer.statement.Goals as goal

-- src/answer.rt:70:1
pub returns-in-Ok : goal.returns-in-Ok
returns-in-Ok c = found_is_spelled c.args.dialect c.args.text.now c.in-Ok.stmt (search rules)
