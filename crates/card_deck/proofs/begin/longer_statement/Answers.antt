use Rattle.std.proofs.Common.{◌++◌, [], ◌∷◌, ap, ◌∙◌, sym}
use Rattle.std.specs.Prelude.{map}
use Rattle.std.specs.Char.{to_ascii_uppercase}
use Rattle.fort_syntax.specs.Cards.{without_blanks}
use Rattle.fort_syntax.specs.declared.cards.Entry.TheVariants.{Statement}
use Rattle.card_deck.specs.Held.{finished}
use Rattle.card_deck.proofs.Steps.{continues, whole}
use Rattle.card_deck.proofs.begin.longer_statement.Goals as goal

pub returns-in_ok-put_dense-in-Statement-clause-entries :
    goal.returns-in_ok-put_dense-in-Statement-clause-entries
returns-in_ok-put_dense-in-Statement-clause-entries c = λ rest.
    ap (λ t. Statement c.in-Statement.begun.card c.in-Statement.begun.label t ∷ [])
    (continues c.in-Statement.begun.text.items c.put_dense.new.text.items c.args.card.now rest c.requires.kind
    (c.in_ok-put_dense-in-Statement.ensures
    ∙ ap (λ t. c.in-Statement.begun.text.items ++ map to_ascii_uppercase (without_blanks t)) (whole 6 c.args.card.now)))
    ∙ ap (λ h. finished h (c.args.card.now ∷ rest)) (sym c.in-Statement.is)
