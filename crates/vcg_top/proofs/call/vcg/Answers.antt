use Rattle.std.proofs.Common.{sym, ◌∙◌}
use Rattle.prover_box.proofs.Asked.{kept_itself}
use Rattle.vcg_top.proofs.Texts.{asked_is, done_or_starved, made_given, never_done, never_refused, no_read_fault, part_made, read_well, refused_made, refused_of, refused_or_starved, reply_made, reply_of, sound_for, taken_made, told_deck}
use Rattle.vcg_top.proofs.call.vcg.Goals as goal

pub returns-in_default-clause-kept : goal.returns-in_default-clause-kept
returns-in_default-clause-kept g c = kept_itself _

-- ---- a deck that is read

pub returns-in-Deck-clause-sound : goal.returns-in-Deck-clause-sound
returns-in-Deck-clause-sound g c d bytes asks told is =
    let same = asked_is _ _ c.in-Some.command _ c.in-Some.is c.command_of.ensures asks in
    sound_for d bytes _ _ _ _ (reply_of c.in-Some.command _ same bytes _ _ _ _ (c.answer_read.ensures.done bytes told is))

pub returns-in-Deck-clause-complete : goal.returns-in-Deck-clause-complete
returns-in-Deck-clause-complete g c x bytes deck r p paths asks given is source sink =
    let same = asked_is _ _ c.in-Some.command x c.in-Some.is c.command_of.ensures asks in
    let told = told_deck c.in-Some.command x same bytes _ c.in-Deck.field-0 c.in-Deck.field-1 c.in-Deck.is given in
    let well = read_well c.in-Some.command x same bytes _ c.in-Deck.field-0 c.in-Deck.field-1 c.in-Deck.is given _ _ source in
    done_or_starved c.answer_read.result (no_read_fault c.answer_read.result c.answer_read.ensures.only (λ failed. well (c.answer_read.ensures.read_fault failed)))
    (λ refused. never_refused _ bytes deck r p paths _ _ is (refused_of c.in-Some.command x same bytes _ _ (c.answer_read.ensures.refused bytes told refused)))
    (λ failed. sink (c.answer_read.ensures.cause failed))

pub returns-in-Deck-clause-strict : goal.returns-in-Deck-clause-strict
returns-in-Deck-clause-strict g c x bytes f asks given is source sink =
    let same = asked_is _ _ c.in-Some.command x c.in-Some.is c.command_of.ensures asks in
    let told = told_deck c.in-Some.command x same bytes _ c.in-Deck.field-0 c.in-Deck.field-1 c.in-Deck.is given in
    let well = read_well c.in-Some.command x same bytes _ c.in-Deck.field-0 c.in-Deck.field-1 c.in-Deck.is given _ _ source in
    refused_or_starved c.answer_read.result (no_read_fault c.answer_read.result c.answer_read.ensures.only (λ failed. well (c.answer_read.ensures.read_fault failed)))
    (λ done. never_done x bytes f _ _ _ _ is (reply_of c.in-Some.command x same bytes _ _ _ _ (c.answer_read.ensures.done bytes told done)))
    (λ failed. sink (c.answer_read.ensures.cause failed))

-- ---- a made deck

pub returns-in-Made-clause-done : goal.returns-in-Made-clause-done
returns-in-Made-clause-done g c x bytes asks given is =
    let same = asked_is _ _ c.in-Some.command x c.in-Some.is c.command_of.ensures asks in
    let deck = made_given c.in-Some.command x same bytes _ c.in-Made.number c.in-Made.is given in
    (taken_made c.in-Some.command x same bytes _ c.in-Made.number c.in-Made.is given _, reply_made c.in-Made.number x (sym c.in-Made.is ∙ same) bytes deck.0 _ _ _ _ (c.answer_made.ensures.done deck.1 is))

pub returns-in-Made-clause-refused : goal.returns-in-Made-clause-refused
returns-in-Made-clause-refused g c x bytes asks given is =
    let same = asked_is _ _ c.in-Some.command x c.in-Some.is c.command_of.ensures asks in
    let deck = made_given c.in-Some.command x same bytes _ c.in-Made.number c.in-Made.is given in
    (taken_made c.in-Some.command x same bytes _ c.in-Made.number c.in-Made.is given _, refused_made c.in-Made.number x (sym c.in-Made.is ∙ same) bytes deck.0 _ _ (c.answer_made.ensures.refused deck.1 is))

pub returns-in-Made-clause-part : goal.returns-in-Made-clause-part
returns-in-Made-clause-part g c x bytes asks given is =
    let same = asked_is _ _ c.in-Some.command x c.in-Some.is c.command_of.ensures asks in
    let deck = made_given c.in-Some.command x same bytes _ c.in-Made.number c.in-Made.is given in
    (taken_made c.in-Some.command x same bytes _ c.in-Made.number c.in-Made.is given _, part_made c.in-Made.number x (sym c.in-Made.is ∙ same) bytes deck.0 _ _ _ _ (c.answer_made.ensures.part deck.1 is))

pub returns-in-Made-clause-complete : goal.returns-in-Made-clause-complete
returns-in-Made-clause-complete g c x bytes deck r p paths asks given is source sink =
    let same = asked_is _ _ c.in-Some.command x c.in-Some.is c.command_of.ensures asks in
    let made = made_given c.in-Some.command x same bytes _ c.in-Made.number c.in-Made.is given in
    done_or_starved c.answer_made.result c.answer_made.ensures.only
    (λ refused. never_refused _ bytes deck r p paths _ _ is (refused_made c.in-Made.number x (sym c.in-Made.is ∙ same) bytes made.0 _ _ (c.answer_made.ensures.refused made.1 refused)))
    (λ failed. sink (c.answer_made.ensures.cause failed))

pub returns-in-Made-clause-strict : goal.returns-in-Made-clause-strict
returns-in-Made-clause-strict g c x bytes f asks given is source sink =
    let same = asked_is _ _ c.in-Some.command x c.in-Some.is c.command_of.ensures asks in
    let made = made_given c.in-Some.command x same bytes _ c.in-Made.number c.in-Made.is given in
    refused_or_starved c.answer_made.result c.answer_made.ensures.only
    (λ done. never_done x bytes f _ _ _ _ is (reply_made c.in-Made.number x (sym c.in-Made.is ∙ same) bytes made.0 _ _ _ _ (c.answer_made.ensures.done made.1 done)))
    (λ failed. sink (c.answer_made.ensures.cause failed))
