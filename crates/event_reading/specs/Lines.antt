-- The lines that begin a text: of a definition, of a condition with its mark, of a prover. Each reader answers
-- what it read and the text behind it.
use Rattle.std.specs.Prelude.{ℕ, zero, suc, pos, ◌&&◌, Bool, false, if◌then◌else◌, Option, Some, None, List, [], ◌∷◌, ◌++◌, length, drop, codes}
use Rattle.std.specs.Ordering.{int_eq}
use Rattle.formula.specs.declared.definition.Heading.{Heading}
use Rattle.formula.specs.declared.definition_fault.DefFault.{DefFault}
use Rattle.formula.specs.declared.function.BuiltIn.{BuiltIn as Builtin}
use Rattle.formula.specs.declared.function.BuiltIn.TheVariants.{And, AtMost, If, Implies}
use Rattle.formula.specs.declared.function.Func.TheVariants.{BuiltIn}
use Rattle.formula.specs.Adding.{adding_fault}
use Rattle.formula.specs.Atoms.{is_letter, same_bytes}
use Rattle.formula.specs.Functions.{name_of}
use Rattle.formula.specs.Headings.{heading_with}
use Rattle.formula.specs.Tree.{Tree, num, symbol, apply, Row, none, more}
use Rattle.formula.specs.Worth.{Function, FunctionBody, plain, counting}
use Rattle.fort_syntax.specs.declared.condition.Kind.{Kind}
use Rattle.fort_syntax.specs.Conditions.{ConditionTree}
use Rattle.fort_syntax.specs.Misspelled.{begins}
use Rattle.event_text.specs.Readable.{is_mark}
use Rattle.event_reading.specs.Names.{heading_names}
use Rattle.event_reading.specs.Readings.{Reading, ◌>>=◌, after, byte_at, function_name_at, kind_at, name_at, number_at, parameter_at, term_at}

-- ---- definitions

-- further parameters, each behind a blank, and the closing bracket; so many rounds at most
abbrev pub more_parameters : ℕ → List (List ℕ) → List ℕ → Reading (List (List ℕ))
more_parameters zero ps t = None
more_parameters (suc n) ps t =
    if begins (codes ")") t then Some (ps, drop 1 t)
    else (do
      behind ← after (codes " ") t
      p ← parameter_at behind
      more_parameters n (ps ++ p.0 ∷ []) p.1)

-- parameters and the closing bracket
unfoldable pub parameters_at : ℕ → List ℕ → Reading (List (List ℕ))
parameters_at n t =
    if begins (codes ")") t then Some ([], drop 1 t)
    else (do
      p ← parameter_at t
      more_parameters n (p.0 ∷ []) p.1)

-- `(DEFN F (N K)`
unfoldable pub heading_at : List ℕ → Reading (List ℕ × List (List ℕ))
heading_at t = do
  rest ← after (codes "(DEFN ") t
  name ← function_name_at rest
  behind ← after (codes " (") name.1
  params ← parameters_at (length behind) behind
  Some ((name.0, params.0), params.1)

-- the trees of a row
abbrev pub row_trees : Row → List Tree
row_trees none = []
row_trees (more t rest) = t ∷ row_trees rest

-- the arguments of a term that is this function of them
abbrev pub call_of : Builtin → Tree → Option (List Tree)
call_of f (apply (BuiltIn g) row) = if same_bytes (name_of f) (name_of g) then Some (row_trees row) else None
call_of f t = None

abbrev pub is_that_symbol : List ℕ → Tree → Bool
is_that_symbol k (symbol s) = same_bytes k s
is_that_symbol k t = false

abbrev pub is_zero : Tree → Bool
is_zero (num z) = int_eq z (pos 0)
is_zero t = false

-- `(ZLEQ k 0)`
abbrev pub is_test_of : List ℕ → Option (List Tree) → Bool
is_test_of k (Some (a ∷ b ∷ [])) = is_that_symbol k a && is_zero b
is_test_of k _ = false

abbrev pub is_test : List ℕ → Tree → Bool
is_test k t = is_test_of k (call_of AtMost t)

abbrev pub counted_of : List ℕ → Tree → Option (List Tree) → FunctionBody
counted_of k t (Some (test ∷ base ∷ step ∷ [])) = if is_test k test then counting base step else plain t
counted_of k t _ = plain t

-- the body of a term: one that gives its second part where the first parameter is at most 0 counts
abbrev pub counted : List (List ℕ) → Tree → FunctionBody
counted [] t = plain t
counted (k ∷ ks) t = counted_of k t (call_of If t)

-- a definition that is not at fault
abbrev pub faultless : Option DefFault → Function → List ℕ → Reading Function
faultless None d rest = Some (d, rest)
faultless (Some f) d rest = None

abbrev pub defined : List Heading → List ℕ → List (List ℕ) → FunctionBody → List ℕ → Reading Function
defined hs name params body rest = faultless (adding_fault hs name params body)
    (record { name = name; params = params; body = body }) rest

-- what stands behind the heading of a definition
unfoldable pub body_at : List Heading → List ℕ → List (List ℕ) → List ℕ → Reading Tree
body_at hs name params t = do
  behind ← after (codes " ") t
  body ← term_at (heading_names (hs ++ heading_with name params ∷ [])) hs (Some (heading_with name params)) behind
  rest ← after (codes ")\n") body.1
  Some (body.0, rest)

-- a definition behind those of these headings
unfoldable pub definition_at : List Heading → List ℕ → Reading Function
definition_at hs t = do
  h ← heading_at t
  body ← body_at hs h.0.0 h.0.1 h.1
  defined hs h.0.0 h.0.1 (counted h.0.1 body.0) body.1

-- ---- conditions

abbrev pub with_goal : Tree → Option (List Tree) → Option (List Tree × Tree)
with_goal goal None = None
with_goal goal (Some hyps) = Some (hyps, goal)

abbrev pub implied_by : Option (List Tree) → Option (List Tree × Tree)
implied_by (Some (a ∷ goal ∷ [])) = with_goal goal (call_of And a)
implied_by _ = None

-- the hypotheses and the goal of an implication
abbrev pub implication : Tree → Option (List Tree × Tree)
implication t = implied_by (call_of Implies t)

-- `(PROVE-LEMMA INC-1-2`: the unit, the path and the check
unfoldable pub lemma_name_at : List ℕ → Reading (List ℕ × ℕ × ℕ)
lemma_name_at t = do
  rest ← after (codes "(PROVE-LEMMA ") t
  unit ← name_at rest
  first ← after (codes "-") unit.1
  path ← number_at 4294967295 first
  second ← after (codes "-") path.1
  check ← number_at 4294967295 second
  Some ((unit.0, path.0, check.0), check.1)

-- `DEFINED CARD 4 G` and the end of the line: the kind, the card and the mark
unfoldable pub note_at : List ℕ → Reading (Kind × ℕ × ℕ)
note_at t = do
  kind ← kind_at t
  first ← after (codes " CARD ") kind.1
  card ← number_at 4294967295 first
  second ← after (codes " ") card.1
  mark ← byte_at is_mark second
  rest ← after (codes "\n") mark.1
  Some ((kind.0, card.0, mark.0), rest)

-- a term that is an implication, by its parts
abbrev pub parts_of : Option (List Tree × Tree) → List ℕ → Reading (List Tree × Tree)
parts_of None rest = None
parts_of (Some p) rest = Some (p, rest)

unfoldable pub implication_at : List Heading → List ℕ → Reading (List Tree × Tree)
implication_at hs t = do
  term ← term_at (heading_names hs) hs None t
  parts_of (implication term.0) term.1

-- a condition and its mark
unfoldable pub condition_at : List Heading → List ℕ → Reading (ConditionTree × ℕ)
condition_at hs t = do
  name ← lemma_name_at t
  behind ← after (codes " NIL ") name.1
  parts ← implication_at hs behind
  second ← after (codes ") ; ") parts.1
  note ← note_at second
  Some (
    (
      record {
        unit = name.0.0;
        path = name.0.1;
        check = name.0.2;
        kind = note.0.0;
        card = note.0.1;
        hyps = parts.0.0;
        goal = parts.0.1;
      },
      note.0.2,
    ),
    note.1,
  )

-- ---- provers

-- `; ASKED G 3` and the end of the line
unfoldable pub asked_at : List ℕ → Reading (ℕ × ℕ)
asked_at t = do
  rest ← after (codes "; ASKED ") t
  letter ← byte_at is_letter rest
  behind ← after (codes " ") letter.1
  count ← number_at 18446744073709551615 behind
  end ← after (codes "\n") count.1
  Some ((letter.0, count.0), end)
