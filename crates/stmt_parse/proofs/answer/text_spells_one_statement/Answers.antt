use Rattle.stmt_parse.proofs.StatementsAgree.{text_spells_one_statement as law}
use Rattle.stmt_parse.proofs.answer.text_spells_one_statement.Goals as goal

pub returns : goal.returns
returns c = law
