-- A worth depends only on the symbols in a term, so some assignment has it.
use Rattle.std.proofs.Common.{◌≡◌, ℕ, Bool, true, false, not, ◌&&◌, if◌then◌else◌, List, [], ◌∷◌, ◌++◌, IsTrue, refl, sym, ap, ◌∙◌, subst, true≢false}
use Rattle.std.specs.Cmp.Lexicographic.{same_text}
use Rattle.std.specs.List.{list_all}
use Rattle.std.proofs.lemmas.Cmp.{nat_list_eq_equiv}
use Rattle.formula.specs.declared.value.Value.{Value}
use Rattle.formula.specs.Atoms.{same_bytes}
use Rattle.formula.specs.Tree.{Tree, num, truth, symbol, old, apply, Row, none, more}
use Rattle.formula.specs.Values.{holds}
use Rattle.formula.specs.Worth.{Uses, Valuation, Function, function_worth, worth_by, worths_by, used, nothing_known, assigned, is_true_under}
use Rattle.formula.specs.WorthLaws.{AssignmentsSuffice}

abbrev mutual
  words_of : Tree → List (List ℕ)
  words_of (num z) = []
  words_of (truth b) = []
  words_of (symbol s) = s ∷ []
  words_of (old s) = []
  words_of (apply f row) = row_words row

  row_words : Row → List (List ℕ)
  row_words none = []
  row_words (more t rest) = words_of t ++ row_words rest

abbrev all_words : List Tree → List (List ℕ)
all_words [] = []
all_words (t ∷ rest) = words_of t ++ all_words rest

-- ---- valuations that agree on some words

abbrev Agree : Valuation → Valuation → List (List ℕ) → Type 0
Agree a b [] = Unit {0}
Agree a b (w ∷ ws) = (a w ≡ b w) × Agree a b ws

front : (a b : Valuation) (ws rest : List (List ℕ)) → Agree a b (ws ++ rest) → Agree a b ws
front a b [] rest h = tt
front a b (w ∷ ws) rest h = (h.0, front a b ws rest h.1)

back : (a b : Valuation) (ws rest : List (List ℕ)) → Agree a b (ws ++ rest) → Agree a b rest
back a b [] rest h = h
back a b (w ∷ ws) rest h = back a b ws rest h.1

module _ (uses : Uses) (a b entries : Valuation) where
  mutual
    same_worth : (t : Tree) → Agree a b (words_of t) → worth_by uses a entries t ≡ worth_by uses b entries t
    same_worth (num z) h = refl
    same_worth (truth c) h = refl
    same_worth (symbol s) h = h.0
    same_worth (old s) h = refl
    same_worth (apply f row) h = ap (function_worth uses f) (same_worths row h)

    same_worths : (row : Row) → Agree a b (row_words row) → worths_by uses a entries row ≡ worths_by uses b entries row
    same_worths none h = refl
    same_worths (more t rest) h =
        let head = same_worth t (front a b (words_of t) (row_words rest) h) in
        let tail = same_worths rest (back a b (words_of t) (row_words rest) h) in
        λ i. head i ∷ tail i

all_true : (fs : List Function) (a b : Valuation) (hyps : List Tree) → Agree a b (all_words hyps) → list_all (is_true_under fs a nothing_known) hyps ≡ list_all (is_true_under fs b nothing_known) hyps
all_true fs a b [] h = refl
all_true fs a b (t ∷ hyps) h =
    let head = same_worth (used fs) a b nothing_known t (front a b (words_of t) (all_words hyps) h) in
    let tail = all_true fs a b hyps (back a b (words_of t) (all_words hyps) h) in
    λ i. holds (head i) && tail i

-- ---- the assignment of some words

abbrev sheet : Valuation → List (List ℕ) → List (List ℕ × Value)
sheet symbols [] = []
sheet symbols (w ∷ ws) = (w, symbols w) ∷ sheet symbols ws

-- where an assignment gives a value to a word, it is that of the valuation
found_or : (symbols : Valuation) (w s : List ℕ) (rest : Value) (test : Bool) → same_bytes w s ≡ test → (test ≡ false → rest ≡ symbols s) → (if test then symbols w else rest) ≡ symbols s
found_or symbols w s rest true e h = ap symbols (same_text w s (sym e))
found_or symbols w s rest false e h = h refl

kept : (symbols : Valuation) (w : List ℕ) (words ws : List (List ℕ)) → Agree (assigned (sheet symbols words)) symbols ws → Agree (assigned (sheet symbols (w ∷ words))) symbols ws
kept symbols w words [] h = tt
kept symbols w words (s ∷ ws) h =
    (found_or symbols w s (assigned (sheet symbols words) s) (same_bytes w s) refl (λ differs. h.0), kept symbols w words ws h.1)

on_sheet : (symbols : Valuation) (words : List (List ℕ)) → Agree (assigned (sheet symbols words)) symbols words
on_sheet symbols [] = tt
on_sheet symbols (w ∷ words) = (
  found_or symbols w w (assigned (sheet symbols words) w) (same_bytes w w) refl (λ differs. absurd (true≢false (sym (nat_list_eq_equiv.refl w) ∙ differs))),
  kept symbols w words words (on_sheet symbols words),
)

-- ---- a condition that is false for some values

pub assignments_suffice : AssignmentsSuffice
assignments_suffice fs hyps goal valid symbols =
    let words = all_words hyps ++ words_of goal in
    let values = assigned (sheet symbols words) in
    let agree : Agree values symbols words = on_sheet symbols words in
    let same_hyps = all_true fs values symbols hyps (front values symbols (all_words hyps) (words_of goal) agree) in
    let same_goal = same_worth (used fs) values symbols nothing_known goal (back values symbols (all_words hyps) (words_of goal) agree) in
    subst IsTrue (λ i. not (same_hyps i && not (holds (same_goal i)))) (valid (sheet symbols words))
