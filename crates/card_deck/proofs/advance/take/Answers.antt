use Rattle.std.proofs.Common.{◌∙◌, ap, sym}
use Rattle.fort_syntax.specs.Cards.{columns, without_return}
use Rattle.fort_syntax.specs.CardRules.{behind}
use Rattle.card_deck.specs.Held.{before_of}
use Rattle.card_deck.proofs.Blanks.{blank_kind, comment_breaks_none, nothing_begun}
use Rattle.card_deck.proofs.advance.take.Goals as goal

pub returns-then-begins_blank-clause-clean : goal.returns-then-begins_blank-clause-clean
returns-then-begins_blank-clause-clean c =
    comment_breaks_none (before_of c.args.held) (columns (without_return c.args.bytes.now))
    (blank_kind c.args.bytes.now c.without_return-bytes.result.now c.begins_blank.result c.without_return-bytes.ensures c.begins_blank.ensures c.if-begins_blank.true)

pub returns-then-begins_blank-clause-entries : goal.returns-then-begins_blank-clause-entries
returns-then-begins_blank-clause-entries c = λ rest.
    let kind = blank_kind c.args.bytes.now c.without_return-bytes.result.now c.begins_blank.result c.without_return-bytes.ensures c.begins_blank.ensures c.if-begins_blank.true in
    c.in-Ok.ensures.entries (columns (without_return c.args.bytes.now)) rest kind ∙ nothing_begun _ c.args.number (columns (without_return c.args.bytes.now)) rest kind

pub returns-then-begins_blank-clause-before : goal.returns-then-begins_blank-clause-before
returns-then-begins_blank-clause-before c =
    let kind = blank_kind c.args.bytes.now c.without_return-bytes.result.now c.begins_blank.result c.without_return-bytes.ensures c.begins_blank.ensures c.if-begins_blank.true in
    c.in-Ok.ensures.before ∙ ap (λ k. behind k (before_of c.args.held)) (sym kind)
