-- What the forms of notes give: each has the form of its first word, with terms that can be read back.
use Rattle.std.proofs.Common.{◌≡◌, ℕ, ◌<◌, ℤ, pos, negsuc, Bool, true, false, Some, None, List, [], ◌∷◌, ◌++◌, map, codes, refl, arith}
use Rattle.std.specs.Prelude.{◌&&◌, ◌^◌, ◌-◌, not, int_le, nat_le, unsigned_abs}
use Rattle.std.specs.List.{AllByRecursion, list_all}
use Rattle.std.proofs.lemmas.Bool.Decides.{nat_tests}
use Rattle.event_text.specs.Readable.{IsReadableBody}
use Rattle.formula.specs.Atoms.{same_bytes, is_among, has_twin, is_symbol, is_function_name, is_name}
use Rattle.formula.specs.Headings.{heading_with}
use Rattle.formula.specs.ReadableTerms.{IsReadableTerm}
use Rattle.formula.specs.Tree.{Tree}
use Rattle.formula.specs.Values.{of_cell}
use Rattle.formula.specs.Worth.{Function}
use Rattle.formula.specs.declared.definition.Heading.{Heading}
use Rattle.formula.specs.declared.value.Cell.{Cell}
use Rattle.formula.specs.declared.value.Value.{Value}
use Rattle.formula.specs.declared.value.Value.TheVariants.{Cells}
use Rattle.fort_syntax.specs.declared.rule.Rule.TheVariants.{BadNote}
use Rattle.fort_notes.specs.Parts.{parsed, refused, ◌>>=◌, passing, word, word_of, begins, is_opening, is_word, is_over, sign, bracket, parts, inside, rest_of, some, whole, number, number_between, count, either, cell, term}
use Rattle.fort_notes.specs.Forms.{StepTree, hypothesis, same, closed_goal, split, suppose, sum, cases, take, cell_bounds, unfolded, branch, rewrite, linear, Form, bound, definition, input, output, assertion, run, try, proof, bound_form, is_parameter, parameters, plain_form, counting_form, terms, is_clock_or_end, clock_form, assertion_form, site_parts, passing_word, passing_form, is_entity, given_parts, run_form, value_form, assigned_parts, try_form, pair_parts, two_counts, one_count, one_term, step_of, step_parts, proof_form}
use Rattle.fort_notes.specs.Judging.{Word, Bound, PlainDefinition, CountingDefinition, Input, Output, Assert, Run, Try, Proof, Judged, headings, lemmas, form_of, step_terms}
use Rattle.fort_notes.specs.declared.cases.Site.{Site}
use Rattle.fort_notes.specs.declared.cases.Passing.{Passing}
use Rattle.fort_notes.specs.declared.cases.Passing.TheVariants.{Listed}
use Rattle.fort_notes.specs.declared.cases.Given.{Given}
use Rattle.note_laws.proofs.Small.{both_parts, tests_of}
use Rattle.note_laws.proofs.PartsGive.{Gives, Any, gives_bind, passing_gives, if_gives, word_gives, sign_gives, bracket_gives, parts_give, inside_gives, rest_gives, some_gives, whole_gives, word_of_gives, number_gives, number_between_gives, count_gives, either_gives, cell_gives, term_gives}

-- a definition as it may be read behind others
pub record IsRead (hs : List Heading) (d : Function) : Type 0 where
  pub name : is_function_name d.name ≡ true
  pub params : list_all is_parameter d.params ≡ true
  pub body : IsReadableBody (hs ++ heading_with d.name d.params ∷ []) d.body

-- the terms of a step can be read back
abbrev pub StepRead : List Heading → StepTree → Type 0
StepRead hs s = AllByRecursion (IsReadableTerm hs) (step_terms s)

-- what stands behind a word where definitions of these headings are known
abbrev pub IsForm : List Heading → Word → Form → Type 0
IsForm hs Bound (bound b) = (0 < b) × (b < 10 ^ 18)
IsForm hs PlainDefinition (definition d) = IsRead hs d
IsForm hs CountingDefinition (definition d) = IsRead hs d
IsForm hs Input (input ts) = AllByRecursion (IsReadableTerm hs) ts
IsForm hs Output (output ts) = AllByRecursion (IsReadableTerm hs) ts
IsForm hs Assert (assertion ts stands clock) = AllByRecursion (IsReadableTerm hs) ts × AllByRecursion (IsReadableTerm hs) clock
IsForm hs Run (run card) = Unit {0}
IsForm hs Try (try card) = Unit {0}
IsForm hs Proof (proof p) = AllByRecursion (StepRead hs) p.steps
IsForm _ _ _ = ⊥

-- ---- BOUND and definitions

small_bound : (z : ℤ) → (int_le (pos 1) z && int_le z (pos (10 ^ 18 - 1))) ≡ true → (0 < unsigned_abs z) × (unsigned_abs z < 10 ^ 18)
small_bound (pos n) h = small n h
  where
    small : (n : ℕ) → (nat_le 1 n && nat_le n (10 ^ 18 - 1)) ≡ true → (0 < n) × (n < 10 ^ 18)
    small n h = let b = both_parts (nat_le 1 n) (nat_le n (10 ^ 18 - 1)) h in (lower n b.0, upper n (10 ^ 18) (omega arith) b.1)
      where
        lower : (n : ℕ) → nat_le 1 n ≡ true → 0 < n
        lower n h = grind (arith, nat_tests)

        upper : (n m : ℕ) → 0 < m → nat_le n (m - 1) ≡ true → n < m
        upper n m lt h = grind (arith, nat_tests)
small_bound (negsuc n) h = absurd (cc)

bound_gives : (hs : List Heading) (text : List ℕ) → Gives (IsForm hs Bound) (bound_form text)
bound_gives hs text =
    gives_bind (λ z. (int_le (pos 1) z && int_le z (pos (10 ^ 18 - 1))) ≡ true) (IsForm hs Bound) (whole (number_between (pos 1) (pos (10 ^ 18 - 1)) text)) _
    (whole_gives (λ z. (int_le (pos 1) z && int_le z (pos (10 ^ 18 - 1))) ≡ true) (number_between (pos 1) (pos (10 ^ 18 - 1)) text) (number_between_gives (pos 1) (pos (10 ^ 18 - 1)) text))
    (λ z rest h. small_bound z h)

abbrev Parameter : List ℕ → Type 0
Parameter a = is_parameter a ≡ true

parameters_give : (text : List ℕ) → Gives (AllByRecursion Parameter) (parameters text)
parameters_give text =
    bracket_gives (AllByRecursion Parameter) (inside (word_of is_parameter))
    (inside_gives Parameter (word_of is_parameter) (λ t. word_of_gives is_parameter t)) text

abbrev known_with : List Heading → List ℕ → List (List ℕ) → List Heading
known_with hs name params = hs ++ heading_with name params ∷ []

plain_gives : (hs : List Heading) (text : List ℕ) → Gives (IsForm hs PlainDefinition) (plain_form hs text)
plain_gives hs text =
    gives_bind (λ a. is_function_name a ≡ true) (IsForm hs PlainDefinition) (word_of is_function_name text) _ (word_of_gives is_function_name text)
    (λ name behind n. gives_bind (AllByRecursion Parameter) (IsForm hs PlainDefinition) (parameters behind) _ (parameters_give behind)
    (λ params left p. gives_bind (IsReadableTerm (known_with hs name params)) (IsForm hs PlainDefinition) (whole (term hs (Some (heading_with name params)) left)) _
    (whole_gives (IsReadableTerm (known_with hs name params)) (term hs (Some (heading_with name params)) left) (term_gives hs (Some (heading_with name params)) left))
    (λ t rest h. record { name = n; params = tests_of is_parameter params p; body = h })))

counting_gives : (hs : List Heading) (text : List ℕ) → Gives (IsForm hs CountingDefinition) (counting_form hs text)
counting_gives hs text =
    gives_bind (λ a. is_function_name a ≡ true) (IsForm hs CountingDefinition) (word_of is_function_name text) _ (word_of_gives is_function_name text)
    (λ name behind n. gives_bind (AllByRecursion Parameter) (IsForm hs CountingDefinition) (parameters behind) _ (parameters_give behind)
    (λ params left p. gives_bind (IsReadableTerm (known_with hs name params)) (IsForm hs CountingDefinition) (term hs (Some (heading_with name params)) left) _
    (term_gives hs (Some (heading_with name params)) left)
    (λ base more b. gives_bind (IsReadableTerm (known_with hs name params)) (IsForm hs CountingDefinition) (whole (term hs (Some (heading_with name params)) more)) _
    (whole_gives (IsReadableTerm (known_with hs name params)) (term hs (Some (heading_with name params)) more) (term_gives hs (Some (heading_with name params)) more))
    (λ step rest h. record { name = n; params = tests_of is_parameter params p; body = (b, h) }))))

-- ---- INPUT, OUTPUT, ASSERT

terms_give : (hs : List Heading) (text : List ℕ) → Gives (AllByRecursion (IsReadableTerm hs)) (terms hs text)
terms_give hs text =
    some_gives (IsReadableTerm hs) (rest_of (term hs None) text) (rest_gives (IsReadableTerm hs) (term hs None) (λ t. term_gives hs None t) text)

clock_gives : (hs : List Heading) (ts : List Tree) (text : List ℕ) → AllByRecursion (IsReadableTerm hs) ts → Gives (IsForm hs Assert) (clock_form hs ts text)
clock_gives hs ts text h =
    if_gives (IsForm hs Assert) (is_over text) (parsed (assertion ts false []) text)
    (sign (is_word (codes "CLOCK")) text >>= λ _ left. rest_of (term hs None) left >>= λ clock rest. parsed (assertion ts true clock) rest)
    (h, tt)
    (gives_bind (Any (Unit {0})) (IsForm hs Assert) (sign (is_word (codes "CLOCK")) text) (λ _ left. rest_of (term hs None) left >>= λ clock rest. parsed (assertion ts true clock) rest)
    (sign_gives (is_word (codes "CLOCK")) text)
    (λ _ left _. gives_bind (AllByRecursion (IsReadableTerm hs)) (IsForm hs Assert) (rest_of (term hs None) left) (λ clock rest. parsed (assertion ts true clock) rest)
    (rest_gives (IsReadableTerm hs) (term hs None) (λ t. term_gives hs None t) left)
    (λ clock rest k. (h, k))))

assertion_gives : (hs : List Heading) (text : List ℕ) → Gives (IsForm hs Assert) (assertion_form hs text)
assertion_gives hs text =
    gives_bind (AllByRecursion (IsReadableTerm hs)) (IsForm hs Assert) (some (parts is_clock_or_end (term hs None) text)) (λ ts rest. clock_form hs ts rest)
    (some_gives (IsReadableTerm hs) (parts is_clock_or_end (term hs None) text) (parts_give (IsReadableTerm hs) is_clock_or_end (term hs None) (λ t. term_gives hs None t) text))
    (λ ts rest h. clock_gives hs ts rest h)

input_gives : (hs : List Heading) (text : List ℕ) → Gives (IsForm hs Input) (terms hs text >>= λ ts rest. parsed (input ts) rest)
input_gives hs text =
    gives_bind (AllByRecursion (IsReadableTerm hs)) (IsForm hs Input) (terms hs text) (λ ts rest. parsed (input ts) rest) (terms_give hs text) (λ ts rest h. h)

output_gives : (hs : List Heading) (text : List ℕ) → Gives (IsForm hs Output) (terms hs text >>= λ ts rest. parsed (output ts) rest)
output_gives hs text =
    gives_bind (AllByRecursion (IsReadableTerm hs)) (IsForm hs Output) (terms hs text) (λ ts rest. parsed (output ts) rest) (terms_give hs text) (λ ts rest h. h)

-- ---- RUN

site_gives : (text : List ℕ) → Gives (Any Site) (site_parts text)
site_gives text =
    gives_bind (λ a. is_name a ≡ true) (Any Site) (word_of is_name text) _ (word_of_gives is_name text)
    (λ unit behind _. gives_bind (Any ℕ) (Any Site) (count behind) _ (count_gives behind)
    (λ call left _. gives_bind (Any ℕ) (Any Site) (count left) _ (count_gives left) (λ place rest _. tt)))

way_gives : (text : List ℕ) → Gives (Any Passing) (passing_form text)
way_gives text =
    if_gives (Any Passing) (begins is_opening text) (bracket (inside (bracket site_parts)) text >>= λ sites rest. parsed (Listed sites) rest) (passing_word text)
    (gives_bind (AllByRecursion (Any Site)) (Any Passing) (bracket (inside (bracket site_parts)) text) (λ sites rest. parsed (Listed sites) rest)
    (bracket_gives (AllByRecursion (Any Site)) (inside (bracket site_parts))
    (λ t. inside_gives (Any Site) (bracket site_parts) (λ s. bracket_gives (Any Site) site_parts site_gives s) t) text)
    (λ sites rest _. tt))
    (gives_bind (Any Bool) (Any Passing) (either (codes "COPY") (codes "REF") text) _ (either_gives (codes "COPY") (codes "REF") text) (λ copy rest _. tt))

given_gives : (text : List ℕ) → Gives (Any Given) (given_parts text)
given_gives text =
    gives_bind (λ a. is_entity a ≡ true) (Any Given) (word_of is_entity text) _ (word_of_gives is_entity text)
    (λ name left _. gives_bind (AllByRecursion (Any Cell)) (Any Given) (some (inside cell left)) _
    (some_gives (Any Cell) (inside cell left) (inside_gives (Any Cell) cell cell_gives left)) (λ cells rest _. tt))

run_gives : (hs : List Heading) (text : List ℕ) → Gives (IsForm hs Run) (run_form text)
run_gives hs text =
    gives_bind (λ a. is_name a ≡ true) (IsForm hs Run) (word_of is_name text) _ (word_of_gives is_name text)
    (λ unit a _. gives_bind (Any ℤ) (IsForm hs Run) (number a) _ (number_gives a)
    (λ least b _. gives_bind (Any ℤ) (IsForm hs Run) (number b) _ (number_gives b)
    (λ greatest c _. gives_bind (Any Bool) (IsForm hs Run) (either (codes "LAZY") (codes "STRICT") c) _ (either_gives (codes "LAZY") (codes "STRICT") c)
    (λ lazy d _. gives_bind (Any Passing) (IsForm hs Run) (passing_form d) _ (way_gives d)
    (λ way e _. gives_bind (λ z. (int_le (pos 0) z && int_le z (pos 1000000000)) ≡ true) (IsForm hs Run) (number_between (pos 0) (pos 1000000000) e) _
    (number_between_gives (pos 0) (pos 1000000000) e)
    (λ steps f _. gives_bind (AllByRecursion (Any Given)) (IsForm hs Run) (rest_of (bracket given_parts) f) _
    (rest_gives (Any Given) (bracket given_parts) (λ t. bracket_gives (Any Given) given_parts given_gives t) f)
    (λ start rest _. tt)))))))

-- ---- TRY

value_gives : (text : List ℕ) → Gives (Any Value) (value_form text)
value_gives text =
    if_gives (Any Value) (begins (is_word (codes "CELLS")) text) (sign (is_word (codes "CELLS")) text >>= λ _ left. inside cell left >>= λ cells rest. parsed (Cells cells) rest)
    (cell text >>= λ c rest. parsed (of_cell c) rest)
    (gives_bind (Any (Unit {0})) (Any Value) (sign (is_word (codes "CELLS")) text) (λ _ left. inside cell left >>= λ cells rest. parsed (Cells cells) rest)
    (sign_gives (is_word (codes "CELLS")) text)
    (λ _ left _. gives_bind (AllByRecursion (Any Cell)) (Any Value) (inside cell left) (λ cells rest. parsed (Cells cells) rest) (inside_gives (Any Cell) cell cell_gives left) (λ cells rest _. tt)))
    (gives_bind (Any Cell) (Any Value) (cell text) (λ c rest. parsed (of_cell c) rest) (cell_gives text) (λ c rest _. tt))

assigned_gives : (text : List ℕ) → Gives (Any (List ℕ × Value)) (assigned_parts text)
assigned_gives text =
    gives_bind (λ a. is_symbol a ≡ true) (Any (List ℕ × Value)) (word_of is_symbol text) _ (word_of_gives is_symbol text)
    (λ s left _. gives_bind (Any Value) (Any (List ℕ × Value)) (value_form left) _ (value_gives left) (λ v rest _. tt))

try_gives : (hs : List Heading) (text : List ℕ) → Gives (IsForm hs Try) (try_form text)
try_gives hs text =
    gives_bind (λ a. is_symbol a ≡ true) (IsForm hs Try) (word_of is_symbol text) _ (word_of_gives is_symbol text)
    (λ lemma left _. gives_bind (AllByRecursion (Any (List ℕ × Value))) (IsForm hs Try) (rest_of (bracket assigned_parts) left) _
    (rest_gives (Any (List ℕ × Value)) (bracket assigned_parts) (λ t. bracket_gives (Any (List ℕ × Value)) assigned_parts assigned_gives t) left)
    (λ sheet rest _. passing_gives (IsForm hs Try) (not (has_twin (map (λ e. e.0) sheet))) (try (record { lemma = lemma; sheet = sheet })) rest (λ e. tt)))

-- ---- PROOF

pair_gives : (text : List ℕ) → Gives (Any (ℕ × ℤ)) (pair_parts text)
pair_gives text =
    gives_bind (Any ℕ) (Any (ℕ × ℤ)) (count text) _ (count_gives text)
    (λ i left _. gives_bind (Any ℤ) (Any (ℕ × ℤ)) (number left) _ (number_gives left) (λ m rest _. tt))

module _ (hs : List Heading) where
  two_counts_give : (make : ℕ → ℕ → StepTree) → ((i j : ℕ) → StepRead hs (make i j)) → (text : List ℕ) → Gives (StepRead hs) (two_counts make text)
  two_counts_give make k text =
      gives_bind (Any ℕ) (StepRead hs) (count text) _ (count_gives text)
      (λ i left _. gives_bind (Any ℕ) (StepRead hs) (count left) _ (count_gives left) (λ j rest _. k i j))

  one_count_gives : (make : ℕ → StepTree) → ((i : ℕ) → StepRead hs (make i)) → (text : List ℕ) → Gives (StepRead hs) (one_count make text)
  one_count_gives make k text = gives_bind (Any ℕ) (StepRead hs) (count text) _ (count_gives text) (λ i rest _. k i)

  one_term_gives : (make : Tree → StepTree) → ((t : Tree) → IsReadableTerm hs t → StepRead hs (make t)) → (text : List ℕ) → Gives (StepRead hs) (one_term hs make text)
  one_term_gives make k text = gives_bind (IsReadableTerm hs) (StepRead hs) (term hs None text) _ (term_gives hs None text) (λ t rest h. k t h)

  sum_gives : (text : List ℕ) → Gives (StepRead hs) (number text >>= λ n left. inside (bracket pair_parts) left >>= λ pairs rest. parsed (sum n pairs) rest)
  sum_gives text =
      gives_bind (Any ℤ) (StepRead hs) (number text) (λ n left. inside (bracket pair_parts) left >>= λ pairs rest. parsed (sum n pairs) rest) (number_gives text)
      (λ n left _. gives_bind (AllByRecursion (Any (ℕ × ℤ))) (StepRead hs) (inside (bracket pair_parts) left) (λ pairs rest. parsed (sum n pairs) rest)
      (inside_gives (Any (ℕ × ℤ)) (bracket pair_parts) (λ t. bracket_gives (Any (ℕ × ℤ)) pair_parts pair_gives t) left) (λ pairs rest _. tt))

  linear_gives : (text : List ℕ) → Gives (StepRead hs) (term hs None text >>= λ a left. term hs None left >>= λ b rest. parsed (linear a b) rest)
  linear_gives text =
      gives_bind (IsReadableTerm hs) (StepRead hs) (term hs None text) (λ a left. term hs None left >>= λ b rest. parsed (linear a b) rest) (term_gives hs None text)
      (λ a left h. gives_bind (IsReadableTerm hs) (StepRead hs) (term hs None left) (λ b rest. parsed (linear a b) rest) (term_gives hs None left) (λ b rest k. (h, (k, tt))))

  step_gives : (w text : List ℕ) → Gives (StepRead hs) (step_of hs w text)
  step_gives w text =
      if_gives (StepRead hs) (same_bytes (codes "HYP") w) _ _ (one_count_gives hypothesis (λ i. tt) text)
      (if_gives (StepRead hs) (same_bytes (codes "SAME") w) (parsed same text) _ tt
      (if_gives (StepRead hs) (same_bytes (codes "GROUND") w) (parsed closed_goal text) _ tt
      (if_gives (StepRead hs) (same_bytes (codes "SUM") w) _ _ (sum_gives text)
      (if_gives (StepRead hs) (same_bytes (codes "SPLIT") w) (parsed split text) _ tt
      (if_gives (StepRead hs) (same_bytes (codes "SUPPOSE") w) (parsed suppose text) _ tt
      (if_gives (StepRead hs) (same_bytes (codes "CASES") w) _ _ (one_term_gives cases (λ t h. (h, tt)) text)
      (if_gives (StepRead hs) (same_bytes (codes "TAKE") w) _ _ (one_count_gives take (λ i. tt) text)
      (if_gives (StepRead hs) (same_bytes (codes "CELL") w) _ _ (two_counts_give cell_bounds (λ i j. tt) text)
      (if_gives (StepRead hs) (same_bytes (codes "UNFOLD") w) _ _ (one_term_gives unfolded (λ t h. (h, tt)) text)
      (if_gives (StepRead hs) (same_bytes (codes "BRANCH") w) _ _ (one_term_gives branch (λ t h. (h, tt)) text)
      (if_gives (StepRead hs) (same_bytes (codes "USE") w) _ _ (two_counts_give rewrite (λ i j. tt) text)
      (if_gives (StepRead hs) (same_bytes (codes "LINEAR") w) _ (refused BadNote) (linear_gives text) refl))))))))))))

  step_parts_give : (text : List ℕ) → Gives (StepRead hs) (step_parts hs text)
  step_parts_give text = gives_bind (Any (List ℕ)) (StepRead hs) (word text) (λ w rest. step_of hs w rest) (word_gives text) (λ w rest _. step_gives w rest)

  proof_gives : (earlier : List (List ℕ)) (text : List ℕ) → Gives (IsForm hs Proof) (proof_form hs earlier text)
  proof_gives earlier text =
      gives_bind (Any (List ℕ)) (IsForm hs Proof) (word_of is_symbol text >>= λ lemma left. passing (not (is_among lemma earlier)) lemma left) _
      (gives_bind (λ a. is_symbol a ≡ true) (Any (List ℕ)) (word_of is_symbol text) (λ lemma left. passing (not (is_among lemma earlier)) lemma left) (word_of_gives is_symbol text)
      (λ lemma left _. passing_gives (Any (List ℕ)) (not (is_among lemma earlier)) lemma left (λ e. tt)))
      (λ lemma left _. gives_bind (AllByRecursion (StepRead hs)) (IsForm hs Proof) (some (rest_of (bracket (step_parts hs)) left)) _
      (some_gives (StepRead hs) (rest_of (bracket (step_parts hs)) left)
      (rest_gives (StepRead hs) (bracket (step_parts hs)) (λ t. bracket_gives (StepRead hs) (step_parts hs) step_parts_give t) left))
      (λ steps rest h. h))

-- ---- all forms

form_gives : (done : List Judged) (w : Word) (text : List ℕ) → Gives (IsForm (headings done) w) (form_of done w text)
form_gives done Bound text = bound_gives (headings done) text
form_gives done PlainDefinition text = plain_gives (headings done) text
form_gives done CountingDefinition text = counting_gives (headings done) text
form_gives done Input text = input_gives (headings done) text
form_gives done Output text = output_gives (headings done) text
form_gives done Assert text = assertion_gives (headings done) text
form_gives done Run text = run_gives (headings done) text
form_gives done Try text = try_gives (headings done) text
form_gives done Proof text = proof_gives (headings done) (lemmas done) text

-- what stands behind the first word of a text
pub note_gives : (done : List Judged) (w : Word) (text : List ℕ) → Gives (IsForm (headings done) w) (word text >>= λ _ rest. form_of done w rest)
note_gives done w text =
    gives_bind (Any (List ℕ)) (IsForm (headings done) w) (word text) (λ _ rest. form_of done w rest) (word_gives text) (λ _ rest _. form_gives done w rest)
