use Rattle.stmt_parse.proofs.FormsAgree.{gives_writes}
use Rattle.stmt_parse.proofs.texts.written.Goals as goal

pub returns : goal.returns
returns c = gives_writes c.args.dialect c.args.stmt.now c.text_of.result c.text_of.ensures
