-- The forms of notes: what stands behind the first word of each.
use Rattle.std.specs.Prelude.{ℕ, ℤ, pos, unsigned_abs, ◌^◌, ◌-◌, ◌&&◌, ◌||◌, not, Bool, true, false, if◌then◌else◌, Some, None, List, [], ◌∷◌, map, codes}
use Rattle.formula.specs.Atoms.{same_bytes, is_among, has_twin, is_symbol, is_function_name, is_name}
use Rattle.formula.specs.Headings.{heading_with}
use Rattle.formula.specs.Tree.{Tree}
use Rattle.formula.specs.Values.{of_cell}
use Rattle.formula.specs.Worth.{Function, plain, counting}
use Rattle.formula.specs.declared.definition.Heading.{Heading}
use Rattle.formula.specs.declared.value.Value.{Value}
use Rattle.formula.specs.declared.value.Value.TheVariants.{Cells}
use Rattle.fort_syntax.specs.declared.rule.Rule.TheVariants.{BadNote}
use Rattle.fort_notes.specs.Parts.{Parsed, parsed, refused, ◌>>=◌, passing, word, word_of, begins, is_opening, is_word, is_over, sign, bracket, parts, inside, rest_of, some, whole, reserved, number, number_between, count, either, cell, term}
use Rattle.fort_notes.specs.declared.cases.Site.{Site}
use Rattle.fort_notes.specs.declared.cases.Passing.{Passing}
use Rattle.fort_notes.specs.declared.cases.Passing.TheVariants.{Reference, Copy, Listed}
use Rattle.fort_notes.specs.declared.cases.Given.{Given}
use Rattle.fort_notes.specs.declared.cases.RunCard.{RunCard}
use Rattle.fort_notes.specs.declared.cases.TryCard.{TryCard}

-- a step of a certificate, its terms as trees
pub data StepTree : Type 0 where
  hypothesis : ℕ → StepTree
  same closed_goal split suppose : StepTree
  sum : ℤ → List (ℕ × ℤ) → StepTree
  cases : Tree → StepTree
  take : ℕ → StepTree
  cell_bounds : ℕ → ℕ → StepTree
  unfolded : Tree → StepTree
  branch : Tree → StepTree
  rewrite : ℕ → ℕ → StepTree
  linear : Tree → Tree → StepTree

-- a certificate: the name of a condition, and steps
pub record ProofTree : Type 0 where
  pub lemma : List ℕ
  pub steps : List StepTree

-- what a note says by its form. An assertion has its terms, whether CLOCK stood behind them, and the parts of its clock
pub data Form : Type 0 where
  bound : ℕ → Form
  definition : Function → Form
  input : List Tree → Form
  output : List Tree → Form
  assertion : List Tree → Bool → List Tree → Form
  run : RunCard → Form
  try : TryCard → Form
  proof : ProofTree → Form

-- ---- BOUND, DEFN, DEFR

-- from 1 to 10^18 - 1
abbrev pub bound_form : List ℕ → Parsed Form
bound_form text = whole (number_between (pos 1) (pos (10 ^ 18 - 1)) text) >>= λ z rest. parsed (bound (unsigned_abs z)) rest

abbrev pub is_parameter : List ℕ → Bool
is_parameter a = is_name a && not (is_among a reserved)

-- parameters in brackets
abbrev pub parameters : List ℕ → Parsed (List (List ℕ))
parameters text = bracket (inside (word_of is_parameter)) text

-- a name, parameters and a term
abbrev pub plain_form : List Heading → List ℕ → Parsed Form
plain_form headings text =
    word_of is_function_name text >>= λ name behind. parameters behind >>= λ params left.
    whole (term headings (Some (heading_with name params)) left) >>= λ t rest.
    parsed (definition (record { name = name; params = params; body = plain t })) rest

-- a name, parameters, a base and a step
abbrev pub counting_form : List Heading → List ℕ → Parsed Form
counting_form headings text =
    word_of is_function_name text >>= λ name behind. parameters behind >>= λ params left.
    term headings (Some (heading_with name params)) left >>= λ base more.
    whole (term headings (Some (heading_with name params)) more) >>= λ step rest.
    parsed (definition (record { name = name; params = params; body = counting base step })) rest

-- ---- INPUT, OUTPUT, ASSERT

-- one term or more
abbrev pub terms : List Heading → List ℕ → Parsed (List Tree)
terms headings text = some (rest_of (term headings None) text)

abbrev pub is_clock_or_end : List ℕ → Bool
is_clock_or_end text = is_over text || begins (is_word (codes "CLOCK")) text

-- CLOCK and the parts of the clock, or nothing
abbrev pub clock_form : List Heading → List Tree → List ℕ → Parsed Form
clock_form headings ts text =
    if is_over text then parsed (assertion ts false []) text
    else (sign (is_word (codes "CLOCK")) text >>= λ _ left. rest_of (term headings None) left >>= λ clock rest. parsed (assertion ts true clock) rest)

-- one term or more; the first CLOCK behind them begins the parts of the clock
abbrev pub assertion_form : List Heading → List ℕ → Parsed Form
assertion_form headings text = some (parts is_clock_or_end (term headings None) text) >>= λ ts rest. clock_form headings ts rest

-- ---- RUN

-- a call and one of its arguments: the unit, the number of the call and that of the argument
abbrev pub site_parts : List ℕ → Parsed Site
site_parts text =
    word_of is_name text >>= λ unit behind. count behind >>= λ call left. count left >>= λ place rest.
    parsed (record { unit = unit; call = call; place = place }) rest

abbrev pub passing_word : List ℕ → Parsed Passing
passing_word text = either (codes "COPY") (codes "REF") text >>= λ copy rest. parsed (if copy then Copy else Reference) rest

-- REF, COPY, or sites in brackets
abbrev pub passing_form : List ℕ → Parsed Passing
passing_form text =
    if begins is_opening text then (bracket (inside (bracket site_parts)) text >>= λ sites rest. parsed (Listed sites) rest)
    else passing_word text

abbrev pub is_entity : List ℕ → Bool
is_entity a = is_symbol a && not (is_among a (codes "LEAST" ∷ codes "GREATEST" ∷ codes "CLOCK" ∷ []))

-- a name and one cell or more
abbrev pub given_parts : List ℕ → Parsed Given
given_parts text =
    word_of is_entity text >>= λ name left. some (inside cell left) >>= λ cells rest.
    parsed (record { name = name; cells = cells }) rest

-- a unit, the least and the greatest integer, STRICT or LAZY, how arguments pass, the steps, and what is given
abbrev pub run_form : List ℕ → Parsed Form
run_form text =
    word_of is_name text >>= λ unit a. number a >>= λ least b. number b >>= λ greatest c.
    either (codes "LAZY") (codes "STRICT") c >>= λ lazy d. passing_form d >>= λ way e.
    number_between (pos 0) (pos 1000000000) e >>= λ steps f. rest_of (bracket given_parts) f >>= λ start rest.
    parsed (run (record {
      unit = unit;
      least = least;
      greatest = greatest;
      lazy = lazy;
      passing = way;
      steps = unsigned_abs steps;
      start = start;
    })) rest

-- ---- TRY

-- a cell, or CELLS and any number of cells
abbrev pub value_form : List ℕ → Parsed Value
value_form text =
    if begins (is_word (codes "CELLS")) text then (sign (is_word (codes "CELLS")) text >>= λ _ left. inside cell left >>= λ cells rest. parsed (Cells cells) rest)
    else (cell text >>= λ c rest. parsed (of_cell c) rest)

abbrev pub assigned_parts : List ℕ → Parsed (List ℕ × Value)
assigned_parts text = word_of is_symbol text >>= λ s left. value_form left >>= λ v rest. parsed (s, v) rest

-- a condition's name, and values of symbols, none of which stands twice
abbrev pub try_form : List ℕ → Parsed Form
try_form text =
    word_of is_symbol text >>= λ lemma left. rest_of (bracket assigned_parts) left >>= λ sheet rest.
    passing (not (has_twin (map (λ e. e.0) sheet))) (try (record { lemma = lemma; sheet = sheet })) rest

-- ---- PROOF

abbrev pub pair_parts : List ℕ → Parsed (ℕ × ℤ)
pair_parts text = count text >>= λ i left. number left >>= λ m rest. parsed (i, m) rest

abbrev pub two_counts : (ℕ → ℕ → StepTree) → List ℕ → Parsed StepTree
two_counts make text = count text >>= λ i left. count left >>= λ j rest. parsed (make i j) rest

abbrev pub one_count : (ℕ → StepTree) → List ℕ → Parsed StepTree
one_count make text = count text >>= λ i rest. parsed (make i) rest

abbrev pub one_term : List Heading → (Tree → StepTree) → List ℕ → Parsed StepTree
one_term headings make text = term headings None text >>= λ t rest. parsed (make t) rest

-- what stands behind the word of a step
abbrev pub step_of : List Heading → List ℕ → List ℕ → Parsed StepTree
step_of headings w text =
    if same_bytes (codes "HYP") w then one_count hypothesis text
    else if same_bytes (codes "SAME") w then parsed same text
    else if same_bytes (codes "GROUND") w then parsed closed_goal text
    else if same_bytes (codes "SUM") w then (number text >>= λ n left. inside (bracket pair_parts) left >>= λ pairs rest. parsed (sum n pairs) rest)
    else if same_bytes (codes "SPLIT") w then parsed split text
    else if same_bytes (codes "SUPPOSE") w then parsed suppose text
    else if same_bytes (codes "CASES") w then one_term headings cases text
    else if same_bytes (codes "TAKE") w then one_count take text
    else if same_bytes (codes "CELL") w then two_counts cell_bounds text
    else if same_bytes (codes "UNFOLD") w then one_term headings unfolded text
    else if same_bytes (codes "BRANCH") w then one_term headings branch text
    else if same_bytes (codes "USE") w then two_counts rewrite text
    else if same_bytes (codes "LINEAR") w then (term headings None text >>= λ a left. term headings None left >>= λ b rest. parsed (linear a b) rest)
    else refused BadNote

abbrev pub step_parts : List Heading → List ℕ → Parsed StepTree
step_parts headings text = word text >>= λ w rest. step_of headings w rest

-- a condition's name that has no certificate before, and one step or more
abbrev pub proof_form : List Heading → List (List ℕ) → List ℕ → Parsed Form
proof_form headings earlier text =
    (word_of is_symbol text >>= λ lemma left. passing (not (is_among lemma earlier)) lemma left) >>= λ lemma left.
    some (rest_of (bracket (step_parts headings)) left) >>= λ steps rest.
    parsed (proof (record { lemma = lemma; steps = steps })) rest
