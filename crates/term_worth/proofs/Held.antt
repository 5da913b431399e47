-- What is held keeps its value while more lists of cells are made.
use Rattle.std.proofs.Common.{◌≡◌, ℕ, zero, suc, ◌-◌, ◌<◌, ◌≤◌, List, [], ◌∷◌, ◌++◌, length, map, take, drop, refl, sym, ap, ◌∙◌, arith}
use Rattle.std.proofs.lemmas.Grind.{common_steps}
use Rattle.std.proofs.lemmas.List.{map-append, take-map, drop-map, length-map}
use Rattle.std.specs.Prelude.{slice_index_or}
use Rattle.formula.specs.declared.definition.Definition.{Definition}
use Rattle.term_worth.specs.declared.machine.Held.{Held}
use Rattle.term_worth.specs.declared.machine.Held.TheVariants as held
use Rattle.term_worth.specs.declared.machine.Scope.{Scope}
use Rattle.term_worth.specs.declared.machine.Scope.TheVariants.{Sheet, Arguments}
use Rattle.term_worth.specs.declared.machine.Task.{Task}
use Rattle.term_worth.specs.declared.machine.Task.TheVariants.{Eval, Branch, Combine, Leave}
use Rattle.formula.specs.declared.node.Node.{Node}
use Rattle.formula.specs.declared.node.TermId.{TermId}
use Rattle.formula.specs.declared.value.Cell.{Cell}
use Rattle.formula.specs.declared.value.Value.{Value}
use Rattle.formula.specs.declared.value.Value.TheVariants.{Cells}
use Rattle.formula.specs.declared.word.Word.{Word}
use Rattle.term_worth.specs.Machine.{eval, leave, newest, all_but, value_of, values_of, params_in, symbols_of, job_of, jobs_of, IsHeld, AreHeld, IsScope, IsTask, AreTasks}
use Rattle.formula.specs.Pool.{AllBelow, tree_of, trees, row_in}
use Rattle.formula.specs.Worth.{bound_to}
use Rattle.term_worth.proofs.Steps.{evals}

-- ---- a list of cells more

index_append : (made more : List (List Cell)) (i : ℕ) → i < length made → slice_index_or (made ++ more) i [] ≡ slice_index_or made i []
index_append made more i h = grind (arith, common_steps)

module _ (sheet : List (Word × Value)) (made more : List (List Cell)) where
  pub value_of-append : (h : Held) → IsHeld (length made) h → value_of sheet (made ++ more) h ≡ value_of sheet made h
  value_of-append (held.Int z) k = refl
  value_of-append (held.Logical b) k = refl
  value_of-append held.Undefined k = refl
  value_of-append (held.Given i) k = refl
  value_of-append (held.Made i) k = ap Cells (index_append made more i k)

  pub values_of-append : (hs : List Held) → AreHeld (length made) hs → values_of sheet (made ++ more) hs ≡ values_of sheet made hs
  values_of-append [] k = refl
  values_of-append (h ∷ hs) k = λ i. value_of-append h k.0 i ∷ values_of-append hs k.1 i

  module _ (ds : List Definition) where
    pub symbols_of-append : (s : Scope) → IsScope (length made) s → symbols_of ds sheet (made ++ more) s ≡ symbols_of ds sheet made s
    symbols_of-append Sheet k = refl
    symbols_of-append (Arguments d args) k = ap (bound_to (params_in ds d)) (values_of-append args k)

    module _ (pool : List Node) where
      job_of-append : (t : Task) → IsTask pool (length made) t → job_of pool ds sheet (made ++ more) t ≡ job_of pool ds sheet made t
      job_of-append (Eval id) k = refl
      job_of-append (Branch a b) k = refl
      job_of-append (Combine f c) k = refl
      job_of-append (Leave s) k = ap leave (symbols_of-append s k)

      pub jobs_of-append : (ts : List Task) → AreTasks pool (length made) ts → jobs_of pool ds sheet (made ++ more) ts ≡ jobs_of pool ds sheet made ts
      jobs_of-append [] k = refl
      jobs_of-append (t ∷ ts) k = λ i. job_of-append t k.0 i ∷ jobs_of-append ts k.1 i

-- the list that was made last
pub value_of-made : (sheet : List (Word × Value)) (made : List (List Cell)) (cs : List Cell) → value_of sheet (made ++ cs ∷ []) (held.Made (length made)) ≡ Cells cs
value_of-made sheet made cs = ap Cells (let e : slice_index_or (made ++ cs ∷ []) (length made) [] ≡ cs = grind (arith, common_steps) in e)

-- ---- what was there is there

pub IsHeld-more : (m n : ℕ) (h : Held) → m ≤ n → IsHeld m h → IsHeld n h
IsHeld-more m n (held.Int z) le k = tt
IsHeld-more m n (held.Logical b) le k = tt
IsHeld-more m n held.Undefined le k = tt
IsHeld-more m n (held.Given i) le k = tt
IsHeld-more m n (held.Made i) le k = omega arith

pub AreHeld-more : (m n : ℕ) (hs : List Held) → m ≤ n → AreHeld m hs → AreHeld n hs
AreHeld-more m n [] le k = tt
AreHeld-more m n (h ∷ hs) le k = (IsHeld-more m n h le k.0, AreHeld-more m n hs le k.1)

pub IsScope-more : (m n : ℕ) (s : Scope) → m ≤ n → IsScope m s → IsScope n s
IsScope-more m n Sheet le k = tt
IsScope-more m n (Arguments d args) le k = AreHeld-more m n args le k

IsTask-more : (pool : List Node) (m n : ℕ) (t : Task) → m ≤ n → IsTask pool m t → IsTask pool n t
IsTask-more pool m n (Eval id) le k = k
IsTask-more pool m n (Branch a b) le k = k
IsTask-more pool m n (Combine f c) le k = tt
IsTask-more pool m n (Leave s) le k = IsScope-more m n s le k

pub AreTasks-more : (pool : List Node) (m n : ℕ) (ts : List Task) → m ≤ n → AreTasks pool m ts → AreTasks pool n ts
AreTasks-more pool m n [] le k = tt
AreTasks-more pool m n (t ∷ ts) le k = (IsTask-more pool m n t le k.0, AreTasks-more pool m n ts le k.1)

pub AreHeld-append : (n : ℕ) (hs ks : List Held) → AreHeld n hs → AreHeld n ks → AreHeld n (hs ++ ks)
AreHeld-append n [] ks p q = q
AreHeld-append n (h ∷ hs) ks p q = (p.0, AreHeld-append n hs ks p.1 q)

pub AreHeld-take : (n k : ℕ) (hs : List Held) → AreHeld n hs → AreHeld n (take k hs)
AreHeld-take n zero hs p = tt
AreHeld-take n (suc k) [] p = tt
AreHeld-take n (suc k) (h ∷ hs) p = (p.0, AreHeld-take n k hs p.1)

pub AreHeld-drop : (n k : ℕ) (hs : List Held) → AreHeld n hs → AreHeld n (drop k hs)
AreHeld-drop n zero hs p = p
AreHeld-drop n (suc k) [] p = tt
AreHeld-drop n (suc k) (h ∷ hs) p = AreHeld-drop n k hs p.1

-- ---- values that are put and taken

module _ (sheet : List (Word × Value)) (made : List (List Cell)) where
  pub values_of-put : (hs : List Held) (h : Held) → values_of sheet made (hs ++ h ∷ []) ≡ values_of sheet made hs ++ value_of sheet made h ∷ []
  values_of-put hs h = map-append (value_of sheet made) hs (h ∷ [])

  pub values_of-newest : (n : ℕ) (hs : List Held) → values_of sheet made (newest n hs) ≡ newest n (values_of sheet made hs)
  values_of-newest n hs =
      sym (drop-map (value_of sheet made) (length hs - n) hs) ∙ ap (λ k. drop (k - n) (values_of sheet made hs)) (sym (length-map hs (value_of sheet made)))

  pub values_of-all_but : (n : ℕ) (hs : List Held) → values_of sheet made (all_but n hs) ≡ all_but n (values_of sheet made hs)
  values_of-all_but n hs =
      sym (take-map (value_of sheet made) (length hs - n) hs) ∙ ap (λ k. take (k - n) (values_of sheet made hs)) (sym (length-map hs (value_of sheet made)))

-- ---- the tasks of some arguments

module _ (pool : List Node) where
  pub jobs_of-evals : (ds : List Definition) (sheet : List (Word × Value)) (made : List (List Cell)) (args : List TermId) (rest : List Task)
      → jobs_of pool ds sheet made (map Eval args ++ rest) ≡ evals (row_in (trees pool) args) ++ jobs_of pool ds sheet made rest
  jobs_of-evals ds sheet made [] rest = refl
  jobs_of-evals ds sheet made (id ∷ args) rest = ap (λ l. eval (tree_of pool id) ∷ l) (jobs_of-evals ds sheet made args rest)

  pub AreTasks-evals : (n : ℕ) (args : List TermId) (rest : List Task) → AllBelow (length pool) args → AreTasks pool n rest → AreTasks pool n (map Eval args ++ rest)
  AreTasks-evals n [] rest p q = q
  AreTasks-evals n (id ∷ args) rest p q = (p.0, AreTasks-evals n args rest p.1 q)
