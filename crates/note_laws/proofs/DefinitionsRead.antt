-- The definitions of a deck can be read back.
use Rattle.std.proofs.Common.{◌≡◌, Option, Some, None, List, [], ◌∷◌, ◌++◌, map, refl, sym, ap, ◌∙◌, subst, append_assoc, append-nil}
use Rattle.std.specs.List.{list_all}
use Rattle.event_text.specs.Readable.{AreReadableAfter}
use Rattle.formula.specs.Adding.{adding_fault}
use Rattle.formula.specs.Headings.{heading_with}
use Rattle.formula.specs.Worth.{Function}
use Rattle.formula.specs.declared.definition.Heading.{Heading}
use Rattle.formula.specs.declared.definition_fault.DefFault.{DefFault}
use Rattle.fort_syntax.specs.declared.deck.Deck.{Deck}
use Rattle.fort_syntax.specs.declared.deck.Placed.{Placed}
use Rattle.fort_syntax.specs.declared.rule.Rule.TheVariants.{BadNote}
use Rattle.fort_syntax.specs.declared.unit.Unit.{Unit as Routine}
use Rattle.fort_notes.specs.Forms.{Form, bound, definition, input, output, assertion, run, try, proof}
use Rattle.fort_notes.specs.Judging.{Word, Bound, PlainDefinition, CountingDefinition, Input, Output, Assert, Run, Try, Proof, unit_of_number, Judged, definition_in, definitions_of, headings, has_no_old, first_failing, rule_if, body_terms, names_broken}
use Rattle.fort_notes.specs.Remarks.{Remarks}
use Rattle.note_laws.specs.Laws.{DefinitionsAreReadable}
use Rattle.note_laws.proofs.FormsGive.{IsRead, IsForm}
use Rattle.note_laws.proofs.NotesJudged.{JudgedAs, or_else_none}
use Rattle.note_laws.proofs.AllJudged.{AreJudged, remarks_judged}

abbrev own : Function → Heading
own d = heading_with d.name d.params

-- the definitions and headings of notes, one note more
pub definitions_more : (done : List Judged) (j : Judged) → definitions_of (done ++ j ∷ []) ≡ definitions_of done ++ definition_in j.form
definitions_more [] j = append-nil (definition_in j.form)
definitions_more (k ∷ done) j =
    ap (λ (ds : List Function). definition_in k.form ++ ds) (definitions_more done j) ∙ sym (append_assoc (definition_in k.form) (definitions_of done) (definition_in j.form))

map_append : (ds es : List Function) → map own (ds ++ es) ≡ map own ds ++ map own es
map_append [] es = refl
map_append (d ∷ ds) es = ap (λ (hs : List Heading). own d ∷ hs) (map_append ds es)

pub headings_more : (done : List Judged) (j : Judged) → headings (done ++ j ∷ []) ≡ headings done ++ map own (definition_in j.form)
headings_more done j = ap (map own) (definitions_more done j) ∙ map_append (definitions_of done) (definition_in j.form)

-- a definition is read under its word
read_as : (hs : List Heading) (w : Word) (d : Function) → IsForm hs w (definition d) → IsRead hs d
read_as hs PlainDefinition d h = h
read_as hs CountingDefinition d h = h
read_as hs Bound d h = absurd h
read_as hs Input d h = absurd h
read_as hs Output d h = absurd h
read_as hs Assert d h = absurd h
read_as hs Run d h = absurd h
read_as hs Try d h = absurd h
read_as hs Proof d h = absurd h

rule_if_none : (o : Option DefFault) → rule_if o ≡ None → o ≡ None
rule_if_none None e = refl
rule_if_none (Some f) e = absurd (cc)

added : (done : List Judged) (u : Option Routine) (d : Function) → names_broken done u (definition d) ≡ None → adding_fault (headings done) d.name d.params d.body ≡ None
added done u d e =
    rule_if_none (adding_fault (headings done) d.name d.params d.body)
    (or_else_none (first_failing ((list_all has_no_old (body_terms d.body), BadNote) ∷ [])) (rule_if (adding_fault (headings done) d.name d.params d.body)) e)

-- the definition of a judged note, and those behind it
after_note : (deck : Deck) (done : List Judged) (n : Placed) (j : Judged) → JudgedAs deck done n j → (rest : List Function) → AreReadableAfter (headings (done ++ j ∷ [])) rest
    → AreReadableAfter (headings done) (definition_in j.form ++ rest)
after_note deck done n j h rest k =
    go j.form (subst (λ (hs : List Heading). AreReadableAfter hs rest) (headings_more done j) k) (h.first) h.form h.names
  where
    nothing : AreReadableAfter (headings done ++ []) rest → AreReadableAfter (headings done) rest
    nothing r = subst (λ (hs : List Heading). AreReadableAfter hs rest) (append-nil (headings done)) r

    go : (f : Form) → AreReadableAfter (headings done ++ map own (definition_in f)) rest → (w : Word) → IsForm (headings done) w f
        → names_broken done (unit_of_number deck.units n.unit) f ≡ None → AreReadableAfter (headings done) (definition_in f ++ rest)
    go (definition d) r w form names =
        let read = read_as (headings done) w d form in
        (record { name = read.name; params = read.params; body = read.body; fits = added done (unit_of_number deck.units n.unit) d names }, r)
    go (bound b) r w form names = nothing r
    go (input ts) r w form names = nothing r
    go (output ts) r w form names = nothing r
    go (assertion ts stands clock) r w form names = nothing r
    go (run card) r w form names = nothing r
    go (try card) r w form names = nothing r
    go (proof p) r w form names = nothing r

read_after : (deck : Deck) (done : List Judged) (ns : List Placed) (js : List Judged) → AreJudged deck done ns js → AreReadableAfter (headings done) (definitions_of js)
read_after deck done [] [] h = tt
read_after deck done [] (j ∷ js) h = absurd h
read_after deck done (n ∷ ns) [] h = absurd h
read_after deck done (n ∷ ns) (j ∷ js) h = after_note deck done n j h.0 (definitions_of js) (read_after deck (done ++ j ∷ []) ns js h.1)

pub definitions_are_readable : DefinitionsAreReadable
definitions_are_readable deck r e =
    let j = remarks_judged deck r e in
    subst (AreReadableAfter []) (sym (ap (λ (x : Remarks). x.definitions) j.is)) (read_after deck [] deck.notes j.notes j.are.all)
