-- Definitions found by name.
use Rattle.std.proofs.Common.{◌≡◌, ℕ, ◌+◌, ◌≤◌, Bool, true, false, cond, List, [], ◌∷◌, ◌++◌, length, Option, Some, None, refl, sym, ap, ◌∙◌, subst, nat_eq, if◌then◌else◌, codes}
use Rattle.std.specs.Cmp.Lexicographic.{pointwise, same_text}
use Rattle.std.specs.List.{position, position_from}
use Rattle.std.specs.Map.{keys_of, lookup}
use Rattle.std.proofs.lemmas.Cmp.{nat_list_eq_equiv}
use Rattle.std.proofs.lemmas.Iterator.Adapters.{position_from-zero}
use Rattle.formula.specs.declared.word.Word.{Word}
use Rattle.formula.specs.declared.definition.Heading.{Heading}
use Rattle.formula.specs.declared.function.BuiltIn.{BuiltIn as Builtin}
use Rattle.formula.specs.declared.function.Func.TheVariants.{Defined}
use Rattle.formula.specs.declared.function.Arity.TheVariants.{Exactly}
use Rattle.formula.specs.declared.head.Head.{Head}
use Rattle.formula.specs.declared.head.Head.TheVariants.{EntryValue, Function}
use Rattle.formula.specs.Atoms.{same_bytes}
use Rattle.formula.specs.Headings.{AreWords, entry_headings}
use Rattle.formula.specs.Reading.{all_built_ins, built_in_among, built_in_head, defined_among, heading_named, head_named, or_else}

-- ---- a table's entry is the first heading with the name

-- the head of what is found at a place counted from 0
abbrev pub found_head : Option ℕ → Option ℕ → Option Head
found_head (Some i) (Some n) = Some (Function (Defined (i + 1)) (Exactly n))
found_head _ _ = None

by_test : (b : Bool) (i n : ℕ) (rest : Option Head) (place found : Option ℕ) → rest ≡ found_head place found
    → (if b then Some (Function (Defined (i + 1)) (Exactly n)) else rest) ≡ found_head (cond b (Some i) place) (cond b (Some n) found)
by_test true i n rest place found e = refl
by_test false i n rest place found e = e

found_from : (es : List (Word × ℕ)) (i : ℕ) (name : List ℕ)
    → defined_among (i + 1) (entry_headings es) name ≡ found_head (position_from (pointwise nat_eq name) i (keys_of es)) (lookup (pointwise nat_eq name) es)
found_from [] i name = refl
found_from (e ∷ es) i name =
    ap (λ b. if b then Some (Function (Defined (i + 1)) (Exactly e.1)) else defined_among (i + 1 + 1) (entry_headings es) name) (nat_list_eq_equiv.symm e.0 name)
    ∙ by_test (pointwise nat_eq name e.0) i e.1 (defined_among (i + 1 + 1) (entry_headings es) name) (position_from (pointwise nat_eq name) (i + 1) (keys_of es))
    (lookup (pointwise nat_eq name) es) (found_from es (i + 1) name)

pub found : (es : List (Word × ℕ)) (name : List ℕ)
    → defined_among 1 (entry_headings es) name ≡ found_head (position (pointwise nat_eq name) (keys_of es)) (lookup (pointwise nat_eq name) es)
found es name =
    found_from es 0 name ∙ ap (λ p. found_head p (lookup (pointwise nat_eq name) es)) (sym (position_from-zero (pointwise nat_eq name) (keys_of es)))

pub found_none : (es : List (Word × ℕ)) (headings : List Heading) (word name : List ℕ) → entry_headings es ≡ headings → word ≡ name
    → None ≡ position (pointwise nat_eq word) (keys_of es) → defined_among 1 headings name ≡ None
found_none es headings word name view same place =
    ap (λ hs. defined_among 1 hs name) (sym view) ∙ ap (defined_among 1 (entry_headings es)) (sym same) ∙ found es word
    ∙ ap (λ p. found_head p (lookup (pointwise nat_eq word) es)) (sym place)

pub found_some : (es : List (Word × ℕ)) (headings : List Heading) (word name : List ℕ) (i n : ℕ) → entry_headings es ≡ headings → word ≡ name
    → Some i ≡ position (pointwise nat_eq word) (keys_of es) → Some n ≡ lookup (pointwise nat_eq word) es
    → defined_among 1 headings name ≡ Some (Function (Defined (i + 1)) (Exactly n))
found_some es headings word name i n view same place there =
    ap (λ hs. defined_among 1 hs name) (sym view) ∙ ap (defined_among 1 (entry_headings es)) (sym same) ∙ found es word
    ∙ (λ j. found_head (sym place j) (sym there j))

-- ---- what is no word is no name

other_name : (key name : List ℕ) (b : Bool) → same_bytes key name ≡ b → 1 ≤ length key → length key ≤ 24 → ¬ ((1 ≤ length name) × (length name ≤ 24)) → b ≡ false
other_name key name true same low high other =
    let e : key ≡ name = same_text key name (sym same) in
    absurd (other (subst (λ n. (1 ≤ length n) × (length n ≤ 24)) e (low, high)))
other_name key name false same low high other = refl

pub no_word : (es : List (Word × ℕ)) (k : ℕ) (name : List ℕ) → AreWords es → ¬ ((1 ≤ length name) × (length name ≤ 24)) → defined_among k (entry_headings es) name ≡ None
no_word [] k name h other = refl
no_word (e ∷ es) k name h other =
    let test : same_bytes e.0 name ≡ false = other_name e.0 name (same_bytes e.0 name) refl h.0.0 h.0.1 other in
    ap (λ b. if b then Some (Function (Defined k) (Exactly e.1)) else defined_among (k + 1) (entry_headings es) name) test
    ∙ no_word es (k + 1) name h.1 other

-- ---- one more heading

by_absence : (test : Bool) (head : Head) (rest : Option Head) (n : ℕ) (found : Option ℕ) → (if test then Some head else rest) ≡ None → (rest ≡ None → found ≡ None)
    → cond test (Some n) found ≡ None
by_absence true head rest n found h later = absurd (cc)
by_absence false head rest n found h later = later h

-- a name that no heading has is no key
pub no_entry : (es : List (Word × ℕ)) (k : ℕ) (name : List ℕ) → defined_among k (entry_headings es) name ≡ None → lookup (pointwise nat_eq name) es ≡ None
no_entry [] k name none = refl
no_entry (e ∷ es) k name none =
    by_absence (pointwise nat_eq name e.0) (Function (Defined k) (Exactly e.1)) (defined_among (k + 1) (entry_headings es) name) e.1 (lookup (pointwise nat_eq name) es)
    (sym (ap (λ b. if b then Some (Function (Defined k) (Exactly e.1)) else defined_among (k + 1) (entry_headings es) name) (nat_list_eq_equiv.symm e.0 name)) ∙ none)
    (no_entry es (k + 1) name)

pub AreWords-more : (es : List (Word × ℕ)) (e : Word × ℕ) → AreWords es → (1 ≤ length e.0) × (length e.0 ≤ 24) → AreWords (es ++ e ∷ [])
AreWords-more [] e h this = (this, tt)
AreWords-more (x ∷ es) e h this = (h.0, AreWords-more es e h.1 this)

-- ---- the head of the definition that is being read

abbrev picked : Bool → Option Builtin → Option Head → Option Head → Option Head
picked is_old built_in defined last = if is_old then Some EntryValue else or_else (built_in_head built_in) (or_else defined last)

pub head_of_next : (headings : List Heading) (next : Option Heading) (h : Heading) (name : List ℕ) → same_bytes (codes "OLD") name ≡ false
    → built_in_among all_built_ins name ≡ None → defined_among 1 headings name ≡ None → next ≡ Some h → same_bytes h.name name ≡ true
    → head_named headings next name ≡ Some (Function (Defined (length headings + 1)) (Exactly h.count))
head_of_next headings next h name is_old built_in defined is same =
    let last : heading_named (length headings + 1) next name ≡ Some (Function (Defined (length headings + 1)) (Exactly h.count)) =
    ap (λ n. heading_named (length headings + 1) n name) is ∙ ap (λ b. if b then Some (Function (Defined (length headings + 1)) (Exactly h.count)) else None) same in
    λ i. picked (is_old i) (built_in i) (defined i) (last i)
