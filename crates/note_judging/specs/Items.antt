-- Notes that were judged, with ids of a pool, and what is held while the notes of a deck are judged.
use Rattle.std.specs.Prelude.{ℕ, ◌≡◌, List, [], ◌∷◌, ◌++◌, map, flat_map, Result, Ok, Err}
use Rattle.formula.specs.Adding.{AreAdded}
use Rattle.formula.specs.declared.definition.Definition.{Definition}
use Rattle.formula.specs.declared.node.Node.{Node}
use Rattle.fort_syntax.specs.declared.deck.Deck.{Deck}
use Rattle.fort_syntax.specs.declared.deck.Placed.{Placed}
use Rattle.fort_syntax.specs.declared.refusal.Fault.{Fault}
use Rattle.fort_syntax.specs.declared.refusal.Refusal.{Refusal}
use Rattle.fort_syntax.specs.declared.refusal.Refusal.TheVariants.{Broken, NoMemory}
use Rattle.fort_notes.specs.Judging.{Judged, judged_from, last_end, unit_of_number}
use Rattle.note_names.specs.NameTests.{AreRolesOf}
use Rattle.note_places.specs.Places.{AreMarksOf}
use Rattle.note_reading.specs.NoteTrees.{form_tree, IsFormIn}
use Rattle.note_reading.specs.declared.note_form.NoteForm.{NoteForm}
use Rattle.note_steps.specs.Steps.{Knows, definitions_in}
use Rattle.note_steps.specs.declared.refused.Refused.{Refused}
use Rattle.note_steps.specs.declared.refused.Refused.TheVariants as note
use Rattle.note_steps.specs.declared.taken.Taken.{Taken}
use Rattle.note_judging.specs.declared.noted.Noted.{Noted}
use Rattle.note_judging.specs.declared.seating.Seat.{Seat}

-- ---- notes that were judged

-- what a note says, its terms as trees
abbrev pub judged_tree : List Node → Noted → Judged
judged_tree pool n = record { unit = n.unit; line = n.line; card = n.card; form = form_tree pool n.form }

abbrev pub judged_trees : List Node → List Noted → List Judged
judged_trees pool ns = map (judged_tree pool) ns

-- the terms of notes are of the pool
abbrev pub AreNotedIn : List Node → List Noted → Type 0
AreNotedIn pool [] = Unit {0}
AreNotedIn pool (n ∷ rest) = IsFormIn pool n.form × AreNotedIn pool rest

-- the definitions of notes, in order
abbrev pub definitions_among : List Noted → List Definition
definitions_among ns = flat_map (λ n. definitions_in n.form) ns

-- ---- answers

-- an answer, seen by view, is what is told, or the fault that is told; memory may run out at any time
abbrev pub Tells : {X Y : Type 0} → (X → Y) → Result X Refusal → Result Y Fault → Type 0
Tells view (Ok x) told = told ≡ Ok (view x)
Tells view (Err (Broken f)) told = told ≡ Err f
Tells view (Err NoMemory) told = Unit {0}

-- the refusal of a note on a card
abbrev pub refusal_by : ℕ → Refused → Refusal
refusal_by card (note.Broken rule) = Broken (record { rule = rule; card = card })
refusal_by card note.Memory = NoMemory

-- ---- what is held

-- what was gathered of the notes that were judged
pub record Holds (pool : List Node) (ds : List Definition) (t : Taken) (items : List Noted) : Type 0 where
  pub knows : Knows t ds (judged_trees pool items)
  pub inside : AreNotedIn pool items
  pub definitions : ds ≡ definitions_among items
  pub added : AreAdded pool ds

-- a note more is known
abbrev pub Learns : Taken → Taken → ℕ → NoteForm → Type 0
Learns old new unit form =
    (pool : List Node) (ds : List Definition) (done : List Judged) (line card : ℕ) → Knows old ds done
    → Knows new (ds ++ definitions_in form)
    (done ++ (record { unit = unit; line = line; card = card; form = form_tree pool form }) ∷ [])

-- a note was judged behind others, with the pool that grew: it stands behind them and the rest decides, or it is at fault
abbrev pub Steps : Deck → List Judged → Placed → List Judged → Result (Unit {0}) Refused → Type 0
Steps deck old n new (Ok r) = (rest : List Placed) → judged_from deck old (n ∷ rest) ≡ judged_from deck new rest
Steps deck old n new (Err (note.Broken rule)) = (rest : List Placed) → judged_from deck old (n ∷ rest)
    ≡ Err (record { rule = rule; card = n.card })
Steps deck old n new (Err note.Memory) = Unit {0}

-- ---- seats

-- what the judgement of a note looks up is that of a deck, with the roles of the names of a unit
pub record IsSeated (deck : Deck) (seat : Seat) : Type 0 where
  pub same : seat.sites.deck.now ≡ deck
  pub last : seat.sites.last_end ≡ last_end 0 deck.units
  pub marks : AreMarksOf deck.notes seat.sites.asserts
  pub roles : AreRolesOf (unit_of_number deck.units seat.unit) seat.sites.roles

-- a note that was judged, as it is kept
abbrev pub noted_as : Placed → NoteForm → Noted
noted_as n form = record { unit = n.unit; line = n.line; card = n.card; form = form }
