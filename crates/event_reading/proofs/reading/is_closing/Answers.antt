use Rattle.std.proofs.Common.{◌∙◌, refl, true, append-nil}
use Rattle.event_text.specs.EventText.{closing_line}
use Rattle.event_reading.specs.declared.comparing.Comparing.{Comparing}
use Rattle.event_reading.proofs.Matching.{matches, nears_all, whole_same}
use Rattle.event_reading.proofs.reading.is_closing.Goals as goal

pub returns : goal.returns
returns c =
    let start : Comparing = record { rest = c.args.text; same = true } in
    c.is_done.ensures ∙ whole_same start c.put-2.new.self (closing_line c.args.count) refl
    (nears_all (matches (matches c.put.ensures c.put_number.ensures) c.put-2.ensures) (append-nil (closing_line c.args.count)))
