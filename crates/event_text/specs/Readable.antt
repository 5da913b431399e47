-- Lists of conditions whose text can be read back, and when two of them are alike.
use Rattle.std.specs.Prelude.{ℕ, pos, ◌≡◌, ◌<◌, ◌^◌, ◌&&◌, ◌||◌, ◌==◌, not, Bool, true, None, List, [], ◌∷◌, ◌++◌, length, map, codes}
use Rattle.std.specs.List.{All, list_all}
use Rattle.formula.specs.declared.definition.Heading.{Heading}
use Rattle.formula.specs.declared.function.BuiltIn.TheVariants.{AtMost, If}
use Rattle.formula.specs.declared.function.Func.TheVariants.{BuiltIn}
use Rattle.formula.specs.Adding.{adding_fault}
use Rattle.formula.specs.Atoms.{is_among, is_function_name, is_letter, is_name}
use Rattle.formula.specs.Headings.{heading_with}
use Rattle.formula.specs.ReadableTerms.{IsReadableTerm}
use Rattle.formula.specs.Tree.{Tree, num, symbol, apply, none, more}
use Rattle.formula.specs.Worth.{Function, FunctionBody, plain, counting}
use Rattle.fort_syntax.specs.Conditions.{ConditionTree}
use Rattle.event_text.specs.declared.marks.Marks.{Marks}

-- ---- definitions

-- the atoms that never stand for a parameter
abbrev pub reserved : List (List ℕ)
reserved = codes "T" ∷ codes "F" ∷ codes "LEAST" ∷ codes "GREATEST" ∷ codes "CLOCK" ∷ []

abbrev pub is_parameter : List ℕ → Bool
is_parameter x = is_name x && not (is_among x reserved)

-- each term of a body is one that a text can spell
abbrev pub IsReadableBody : List Heading → FunctionBody → Type 0
IsReadableBody hs (plain t) = IsReadableTerm hs t
IsReadableBody hs (counting base step) = IsReadableTerm hs base × IsReadableTerm hs step

-- a definition whose line can be read back behind those of earlier headings
pub record IsReadableDefinition (earlier : List Heading) (d : Function) : Type 0 where
  pub name : is_function_name d.name ≡ true
  pub params : list_all is_parameter d.params ≡ true
  pub body : IsReadableBody (earlier ++ heading_with d.name d.params ∷ []) d.body
  pub fits : adding_fault earlier d.name d.params d.body ≡ None

-- one after another, behind those of earlier headings
abbrev pub AreReadableAfter : List Heading → List Function → Type 0
AreReadableAfter earlier [] = Unit {0}
AreReadableAfter earlier (d ∷ rest) = IsReadableDefinition earlier d × AreReadableAfter
    (earlier ++ heading_with d.name d.params ∷ []) rest

abbrev pub headings_with : List Function → List Heading
headings_with ds = map (λ d. heading_with d.name d.params) ds

-- ---- conditions

-- a condition whose line can be read back behind definitions of these headings
pub record IsReadableCondition (hs : List Heading) (c : ConditionTree) : Type 0 where
  pub unit : is_name c.unit ≡ true
  pub path : c.path < 2 ^ 32
  pub check : c.check < 2 ^ 32
  pub card : c.card < 2 ^ 32
  pub some : 0 < length c.hyps
  pub hyps : All (IsReadableTerm hs) c.hyps
  pub goal : IsReadableTerm hs c.goal

-- ---- marks

-- `-`, or a letter
abbrev pub is_mark : ℕ → Bool
is_mark b = (b == 45) || is_letter b

-- a prover's letter, and a count
abbrev pub IsAsked : ℕ × ℕ → Type 0
IsAsked a = (is_letter a.0 ≡ true) × (a.1 < 2 ^ 64)

-- definitions, conditions and marks whose text can be read back
pub record IsReadable (ds : List Function) (cs : List ConditionTree) (marks : Marks) : Type 0 where
  pub definitions : AreReadableAfter [] ds
  pub conditions : All (IsReadableCondition (headings_with ds)) cs
  pub few : length cs < 2 ^ 64
  pub count : length marks.letters ≡ length cs
  pub letters : list_all is_mark marks.letters ≡ true
  pub asked : All IsAsked marks.asked

-- ---- alike

-- what a definition stands for, as one term: a counting one is `(IF (ZLEQ k 0) base step)`
abbrev pub body_term : List (List ℕ) → FunctionBody → Tree
body_term params (plain t) = t
body_term [] (counting base step) = step
body_term (k ∷ ks) (counting base step) =
    apply (BuiltIn If) (more (apply (BuiltIn AtMost) (more (symbol k) (more (num (pos 0)) none))) (more base (more step none)))

-- a definition by the term that it stands for
abbrev pub in_full : Function → Function
in_full d = record { name = d.name; params = d.params; body = plain (body_term d.params d.body) }

-- the same definitions by their terms, and the same conditions and marks
pub record AreAlike (ds es : List Function) (bs cs : List ConditionTree) (l m : Marks) : Type 0 where
  pub definitions : map in_full ds ≡ map in_full es
  pub conditions : bs ≡ cs
  pub marks : l ≡ m
