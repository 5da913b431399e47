-- How notes are judged: each in six steps, the first of which that fails gives its fault; one after another, up
-- to the first that is at fault.
use Rattle.std.specs.Prelude.{ℕ, zero, suc, ◌+◌, ◌==◌, ◌&&◌, ◌||◌, not, nat_le, nat_lt, Bool, true, false, if◌then◌else◌, cond, Option, Some, None, List, [], ◌∷◌, ◌++◌, length, map, filter, slice_get, codes, Result, Ok, Err}
use Rattle.std.specs.List.{list_all, list_any, flat_map}
use Rattle.formula.specs.Adding.{adding_fault}
use Rattle.formula.specs.Atoms.{same_bytes}
use Rattle.formula.specs.Headings.{heading_with}
use Rattle.formula.specs.Reading.{or_else}
use Rattle.formula.specs.Substitution.{is_bound}
use Rattle.formula.specs.TermTests.{names_pass}
use Rattle.formula.specs.Tokens.{Token, tokens}
use Rattle.formula.specs.Tree.{Tree}
use Rattle.formula.specs.Worth.{Function, FunctionBody, plain, counting}
use Rattle.formula.specs.declared.definition.Heading.{Heading}
use Rattle.formula.specs.declared.definition_fault.DefFault.{DefFault}
use Rattle.formula.specs.declared.definition_fault.DefFault.TheVariants.{UnknownFunction, FreeName}
use Rattle.fort_syntax.specs.declared.deck.Deck.{Deck}
use Rattle.fort_syntax.specs.declared.deck.Placed.{Placed}
use Rattle.fort_syntax.specs.declared.refusal.Fault.{Fault}
use Rattle.fort_syntax.specs.declared.rule.Rule.{Rule}
use Rattle.fort_syntax.specs.declared.rule.Rule.TheVariants.{BadNote, NoInputOrOutput, UnknownNoteName, OutputNamesLocal}
use Rattle.fort_syntax.specs.declared.unit.Role.{Role}
use Rattle.fort_syntax.specs.declared.unit.Unit.{Unit as Routine}
use Rattle.fort_syntax.specs.Names.{data_name, has_role, is_local, is_own}
use Rattle.fort_notes.specs.Parts.{Parsed, parsed, refused, ◌>>=◌, word, is_word}
use Rattle.fort_notes.specs.Forms.{Form, bound, definition, input, output, assertion, run, try, proof, StepTree, cases, unfolded, branch, linear, bound_form, plain_form, counting_form, terms, assertion_form, run_form, try_form, proof_form}

-- ---- what a note is by its first word

pub data Word : Type 0 where
  Bound PlainDefinition CountingDefinition Input Output Assert Run Try Proof : Word

abbrev pub word_named : List ℕ → Option Word
word_named a =
    if same_bytes (codes "BOUND") a then Some Bound
    else if same_bytes (codes "DEFN") a then Some PlainDefinition
    else if same_bytes (codes "DEFR") a then Some CountingDefinition
    else if same_bytes (codes "INPUT") a then Some Input
    else if same_bytes (codes "OUTPUT") a then Some Output
    else if same_bytes (codes "ASSERT") a then Some Assert
    else if same_bytes (codes "RUN") a then Some Run
    else if same_bytes (codes "TRY") a then Some Try
    else if same_bytes (codes "PROOF") a then Some Proof
    else None

abbrev pub word_if : Parsed (List ℕ) → Option Word
word_if (parsed a rest) = word_named a
word_if (refused rule) = None

-- the first word of a note, where it is one of these
abbrev pub word_of_note : Placed → Option Word
word_of_note n = word_if (word n.text)

abbrev pub same_word : Word → Word → Bool
same_word Bound Bound = true
same_word PlainDefinition PlainDefinition = true
same_word CountingDefinition CountingDefinition = true
same_word Input Input = true
same_word Output Output = true
same_word Assert Assert = true
same_word Run Run = true
same_word Try Try = true
same_word Proof Proof = true
same_word _ _ = false

abbrev pub is_that : Word → Option Word → Bool
is_that w None = false
is_that w (Some v) = same_word w v

-- a note begins with that word
abbrev pub begins_with : Word → Placed → Bool
begins_with w n = is_that w (word_of_note n)

-- ---- step 1: places

-- the unit of a number, which counts from 1
abbrev pub unit_of_number : List Routine → ℕ → Option Routine
unit_of_number units zero = None
unit_of_number units (suc i) = slice_get units i

abbrev pub is_before_units : Placed → Bool
is_before_units n = (n.unit == 0) && (n.line == 0)

abbrev pub last_end : ℕ → List Routine → ℕ
last_end card [] = card
last_end card (u ∷ us) = last_end u.«end» us

-- behind the last END
abbrev pub is_behind_units : Deck → Placed → Bool
is_behind_units deck n = (n.unit == 0) && (n.line == 1) && nat_lt (last_end 0 deck.units) n.card

-- in a unit, before its first executable statement
abbrev pub is_at_head : Placed → Bool
is_at_head n = nat_lt 0 n.unit && (n.line == 0)

abbrev pub has_line : ℕ → Option Routine → Bool
has_line line None = false
has_line line (Some u) = nat_lt line (length u.lines)

-- at the same statement of the same unit
abbrev pub is_beside : Placed → Placed → Bool
is_beside n m = (n.unit == m.unit) && (n.line == m.line) && not (n.card == m.card)

-- before an executable statement, and no other ASSERT stands there
abbrev pub is_alone_at_line : Deck → Placed → Bool
is_alone_at_line deck n =
    has_line n.line (unit_of_number deck.units n.unit) && not (list_any (λ m. begins_with Assert m && is_beside n m) deck.notes)

abbrev pub is_bound_form : Form → Bool
is_bound_form (bound b) = true
is_bound_form _ = false

-- a note that was judged and is not at fault: its unit, its statement, its card, and what it says
pub record Judged : Type 0 where
  pub unit : ℕ
  pub line : ℕ
  pub card : ℕ
  pub form : Form

-- a note stands where one with its first word may stand; BOUND at most once
abbrev pub is_in_place : Deck → List Judged → Word → Placed → Bool
is_in_place deck done Bound n = is_before_units n && not (list_any (λ j. is_bound_form j.form) done)
is_in_place deck done PlainDefinition n = is_before_units n
is_in_place deck done CountingDefinition n = is_before_units n
is_in_place deck done Input n = is_at_head n
is_in_place deck done Output n = is_at_head n
is_in_place deck done Assert n = is_alone_at_line deck n
is_in_place deck done Run n = is_behind_units deck n
is_in_place deck done Try n = is_behind_units deck n
is_in_place deck done Proof n = is_behind_units deck n

-- ---- step 2: INPUT and OUTPUT once in a unit

abbrev pub is_input_form : Form → Bool
is_input_form (input ts) = true
is_input_form _ = false

abbrev pub is_output_form : Form → Bool
is_output_form (output ts) = true
is_output_form _ = false

abbrev pub is_second : List Judged → Word → Placed → Bool
is_second done Input n = list_any (λ j. (j.unit == n.unit) && is_input_form j.form) done
is_second done Output n = list_any (λ j. (j.unit == n.unit) && is_output_form j.form) done
is_second done w n = false

-- ---- step 3: forms

abbrev pub definition_in : Form → List Function
definition_in (definition d) = d ∷ []
definition_in _ = []

-- the definitions of notes
abbrev pub definitions_of : List Judged → List Function
definitions_of done = flat_map (λ j. definition_in j.form) done

abbrev pub headings : List Judged → List Heading
headings done = map (λ d. heading_with d.name d.params) (definitions_of done)

abbrev pub lemma_in : Form → List (List ℕ)
lemma_in (proof p) = p.lemma ∷ []
lemma_in _ = []

-- the conditions that have certificates
abbrev pub lemmas : List Judged → List (List ℕ)
lemmas done = flat_map (λ j. lemma_in j.form) done

-- what stands behind the first word
abbrev pub form_of : List Judged → Word → List ℕ → Parsed Form
form_of done Bound text = bound_form text
form_of done PlainDefinition text = plain_form (headings done) text
form_of done CountingDefinition text = counting_form (headings done) text
form_of done Input text = terms (headings done) text >>= λ ts rest. parsed (input ts) rest
form_of done Output text = terms (headings done) text >>= λ ts rest. parsed (output ts) rest
form_of done Assert text = assertion_form (headings done) text
form_of done Run text = run_form text
form_of done Try text = try_form text
form_of done Proof text = proof_form (headings done) (lemmas done) text

-- ---- steps 4 to 6: names

abbrev pub is_clock : Token → Bool
is_clock t = is_word (codes "CLOCK") t

-- how often CLOCK stands in a text
abbrev pub clocks : List ℕ → ℕ
clocks text = length (filter (λ l. is_clock l.token) (tokens text))

-- CLOCK stands once in an ASSERT, before the parts of its clock, and nowhere else
abbrev pub may_have_clocks : Form → ℕ
may_have_clocks (assertion ts clock_stands clock) = cond clock_stands 1 0
may_have_clocks _ = 0

-- no entry value stands in a term
abbrev pub has_no_old : Tree → Bool
has_no_old t = names_pass (λ s. true) (λ s. false) t

abbrev pub is_of_role : Option Routine → (Role → Bool) → List ℕ → Bool
is_of_role None is s = false
is_of_role (Some u) is s = has_role is (data_name u s)

abbrev pub any_role : Role → Bool
any_role role = true

-- no entry value of a local or of a function's own value stands in a term
abbrev pub has_good_old : Option Routine → Tree → Bool
has_good_old u t = names_pass (λ s. true) (λ s. is_bound s || not (is_of_role u is_own s)) t

-- each name is a bound or a data name, and under OLD a data name
abbrev pub has_known_names : Option Routine → Tree → Bool
has_known_names u t = names_pass (λ s. is_bound s || is_of_role u any_role s) (λ s. not (is_bound s) && is_of_role u any_role s) t

-- no name has such a role
abbrev pub has_none_of : Option Routine → (Role → Bool) → Tree → Bool
has_none_of u is t = names_pass (λ s. is_bound s || not (is_of_role u is s)) (λ s. true) t

-- the first test that fails gives its rule
abbrev pub first_failing : List (Bool × Rule) → Option Rule
first_failing [] = None
first_failing (test ∷ rest) = if test.0 then first_failing rest else Some test.1

-- the rule that a refusal of a definition breaks
abbrev pub rule_of_definition : DefFault → Rule
rule_of_definition UnknownFunction = UnknownNoteName
rule_of_definition FreeName = UnknownNoteName
rule_of_definition _ = BadNote

abbrev pub rule_if : Option DefFault → Option Rule
rule_if None = None
rule_if (Some f) = Some (rule_of_definition f)

abbrev pub body_terms : FunctionBody → List Tree
body_terms (plain t) = t ∷ []
body_terms (counting base step) = base ∷ step ∷ []

abbrev pub step_terms : StepTree → List Tree
step_terms (cases t) = t ∷ []
step_terms (unfolded t) = t ∷ []
step_terms (branch t) = t ∷ []
step_terms (linear a b) = a ∷ b ∷ []
step_terms _ = []

-- a definition is refused as one that is added to the earlier ones
abbrev pub definition_broken : List Judged → Function → Option Rule
definition_broken done d =
    or_else (first_failing ((list_all has_no_old (body_terms d.body), BadNote) ∷ []))
    (rule_if (adding_fault (headings done) d.name d.params d.body))

-- the rule that a form breaks by the names in it
abbrev pub names_broken : List Judged → Option Routine → Form → Option Rule
names_broken done u (bound b) = None
names_broken done u (definition d) = definition_broken done d
names_broken done u (input ts) =
    first_failing ((list_all has_no_old ts, BadNote) ∷ (list_all (has_known_names u) ts, UnknownNoteName)
    ∷ (list_all (has_none_of u is_own) ts, OutputNamesLocal) ∷ [])
names_broken done u (output ts) =
    first_failing ((list_all (has_good_old u) ts, BadNote) ∷ (list_all (has_known_names u) ts, UnknownNoteName)
    ∷ (list_all (has_none_of u is_local) ts, OutputNamesLocal) ∷ [])
names_broken done u (assertion ts clock_stands clock) =
    first_failing ((list_all (has_good_old u) (ts ++ clock), BadNote) ∷ (
      list_all (has_known_names u)
          (ts ++ clock),
      UnknownNoteName,
    ) ∷ [])
names_broken done u (run card) = None
names_broken done u (try card) = None
names_broken done u (proof p) = first_failing ((list_all has_no_old (flat_map step_terms p.steps), BadNote) ∷ [])

-- ---- a note

abbrev pub judged_unless : Option Rule → Placed → Form → Result Judged Rule
judged_unless (Some rule) n f = Err rule
judged_unless None n f = Ok (record { unit = n.unit; line = n.line; card = n.card; form = f })

abbrev pub judged_form : List Judged → Option Routine → Placed → Parsed Form → Result Judged Rule
judged_form done u n (refused rule) = Err rule
judged_form done u n (parsed f rest) =
    judged_unless (or_else (first_failing ((nat_le (clocks n.text) (may_have_clocks f), BadNote) ∷ []))
    (names_broken done u f)) n f

-- a note behind others: what it says, or the rule of the first step that fails
abbrev pub judged_as : Deck → List Judged → Placed → Option Word → Result Judged Rule
judged_as deck done n None = Err BadNote
judged_as deck done n (Some w) =
    if not (is_in_place deck done w n) then Err BadNote
    else if is_second done w n then Err NoInputOrOutput
    else judged_form done (unit_of_number deck.units n.unit) n (word n.text >>= λ _ rest. form_of done w rest)

abbrev pub judge : Deck → List Judged → Placed → Result Judged Rule
judge deck done n = judged_as deck done n (word_of_note n)

-- ---- all notes

-- notes that are not at fault; or the first that is, with its rule
abbrev pub judged_then : Result Judged Rule → ℕ → (Judged → Result (List Judged) Fault) → Result (List Judged) Fault
judged_then (Err rule) card later = Err (record { rule = rule; card = card })
judged_then (Ok j) card later = later j

abbrev pub judged_from : Deck → List Judged → List Placed → Result (List Judged) Fault
judged_from deck done [] = Ok done
judged_from deck done (n ∷ rest) = judged_then (judge deck done n) n.card (λ j. judged_from deck (done ++ j ∷ []) rest)

-- the notes of a deck, one after another
abbrev pub judged : Deck → Result (List Judged) Fault
judged deck = judged_from deck [] deck.notes

-- ---- units without INPUT or OUTPUT

abbrev pub stands_in : Word → ℕ → List Placed → Bool
stands_in w i notes = list_any (λ n. (n.unit == i) && begins_with w n) notes

-- a unit lacks a note that begins with INPUT, or one that begins with OUTPUT, whatever else is wrong with them
abbrev pub lacks_note : List Placed → ℕ → Bool
lacks_note notes i = not (stands_in Input i notes && stands_in Output i notes)

-- the first unit that lacks one; the first of the list has the number i
abbrev pub lacking_from : List Placed → ℕ → List Routine → Option Fault
lacking_from notes i [] = None
lacking_from notes i (u ∷ us) = if lacks_note notes i then Some (record { rule = NoInputOrOutput; card = u.head })
    else lacking_from notes (suc i) us

abbrev pub missing_note : Deck → Option Fault
missing_note deck = lacking_from deck.notes 1 deck.units

-- ---- the first fault

-- of two faults the one on the lesser card
abbrev pub lesser : Fault → Fault → Fault
lesser f g = if nat_lt g.card f.card then g else f

abbrev pub with_lesser : Fault → Option Fault → Fault
with_lesser f None = f
with_lesser f (Some g) = lesser f g

-- the notes that are not at fault, where no unit lacks one; else the first fault
abbrev pub judged_or_fault : Result (List Judged) Fault → Option Fault → Result (List Judged) Fault
judged_or_fault (Err f) missing = Err (with_lesser f missing)
judged_or_fault (Ok done) None = Ok done
judged_or_fault (Ok done) (Some g) = Err g

abbrev pub judged_notes : Deck → Result (List Judged) Fault
judged_notes deck = judged_or_fault (judged deck) (missing_note deck)
