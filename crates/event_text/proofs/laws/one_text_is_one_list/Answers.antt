use Rattle.event_text.proofs.OneText.{one_text}
use Rattle.event_text.proofs.laws.one_text_is_one_list.Goals as goal

pub returns : goal.returns
returns c = one_text
