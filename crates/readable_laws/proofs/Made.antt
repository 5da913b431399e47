-- Terms that are made of readable ones are readable, and so are terms of notes in which readable ones stand for names.
use Rattle.std.proofs.Common.{◌≡◌, ℕ, zero, suc, ◌+◌, ◌<◌, ◌^◌, pos, neg_ℤ, Bool, true, false, ◌||◌, cond, List, [], ◌∷◌, map, codes, refl, ap, ◌∙◌, arith}
use Rattle.std.specs.List.{AllByRecursion}
use Rattle.std.proofs.lemmas.Bool.Decides.{nat_tests}
use Rattle.formula.specs.declared.definition.Heading.{Heading}
use Rattle.formula.specs.declared.function.BuiltIn.{BuiltIn as Builtin}
use Rattle.formula.specs.declared.function.BuiltIn.TheVariants as f
use Rattle.formula.specs.declared.function.Func.{Func}
use Rattle.formula.specs.declared.function.Func.TheVariants.{BuiltIn, Defined}
use Rattle.formula.specs.Atoms.{same_bytes, is_name, is_symbol}
use Rattle.formula.specs.Functions.{arity_of, fits_count}
use Rattle.formula.specs.Headings.{heading_at, has_count, is_headed}
use Rattle.formula.specs.ReadableTerms.{is_short, IsReadableTerm}
use Rattle.formula.specs.Substitution.{is_bound, substituted, row_substituted}
use Rattle.formula.specs.TermTests.{names_pass, numbers_pass, functions_pass, uses_pass, use_passes, row_names_pass, row_numbers_pass, row_functions_pass, row_uses_pass}
use Rattle.formula.specs.Tree.{Tree, num, truth, symbol, old, apply, Row, none, more, tree_row, row_count, is_blank_size, is_blank_row, takes}
use Rattle.fort_model.specs.Senses.{of_terms, with_bounds, note, least_integer, greatest_integer}
use Rattle.note_laws.proofs.Small.{both_parts, both_hold}

-- ---- numbers and truth values

short : (n : ℕ) → n < 10 ^ 18 → is_short (pos n) ≡ true
short n lt = grind (arith, nat_tests)

short_negative : (n : ℕ) → n < 10 ^ 18 → is_short (neg_ℤ (pos n)) ≡ true
short_negative zero lt = refl
short_negative (suc n) lt = grind (arith, nat_tests)

pub readable_number : (hs : List Heading) (n : ℕ) → n < 10 ^ 18 → IsReadableTerm hs (num (pos n))
readable_number hs n lt = record { numbers = short n lt; names = refl; functions = refl; uses = refl }

pub readable_negative : (hs : List Heading) (n : ℕ) → n < 10 ^ 18 → IsReadableTerm hs (num (neg_ℤ (pos n)))
readable_negative hs n lt = record { numbers = short_negative n lt; names = refl; functions = refl; uses = refl }

pub readable_truth : (hs : List Heading) (b : Bool) → IsReadableTerm hs (truth b)
readable_truth hs b = record { numbers = refl; names = refl; functions = refl; uses = refl }

pub readable_symbol : (hs : List Heading) (w : List ℕ) → is_symbol w ≡ true → IsReadableTerm hs (symbol w)
readable_symbol hs w s = record { numbers = refl; names = s; functions = refl; uses = refl }

-- ---- functions

module _ (hs : List Heading) where
  record IsReadableRow (row : Row) : Type 0 where
    numbers : row_numbers_pass is_short row ≡ true
    names : row_names_pass is_symbol is_symbol row ≡ true
    functions : row_functions_pass takes row ≡ true
    uses : row_uses_pass (is_headed hs) row ≡ true

  more_readable : (t : Tree) (row : Row) → IsReadableTerm hs t → IsReadableRow row → IsReadableRow (more t row)
  more_readable t row h k = record {
    numbers = both_hold (numbers_pass is_short t) (row_numbers_pass is_short row) h.numbers k.numbers;
    names = both_hold (names_pass is_symbol is_symbol t) (row_names_pass is_symbol is_symbol row) h.names k.names;
    functions = both_hold (functions_pass takes t) (row_functions_pass takes row) h.functions k.functions;
    uses = both_hold (uses_pass (is_headed hs) t) (row_uses_pass (is_headed hs) row) h.uses k.uses;
  }

  rows_readable : (ts : List Tree) → AllByRecursion (IsReadableTerm hs) ts → IsReadableRow (tree_row ts)
  rows_readable [] h = record { numbers = refl; names = refl; functions = refl; uses = refl }
  rows_readable (t ∷ ts) h = more_readable t (tree_row ts) h.0 (rows_readable ts h.1)

  -- a built-in function that takes its arguments
  pub readable_apply : (g : Builtin) (ts : List Tree) → takes (BuiltIn g) (tree_row ts) ≡ true → AllByRecursion (IsReadableTerm hs) ts → IsReadableTerm hs (apply (BuiltIn g) (tree_row ts))
  readable_apply g ts fits h =
      let r = rows_readable ts h in
      record { numbers = r.numbers; names = r.names; functions = both_hold (takes (BuiltIn g) (tree_row ts)) (row_functions_pass takes (tree_row ts)) fits r.functions; uses = r.uses }

  -- ---- terms in which others stand for names

  module _ (now entry : List ℕ → Tree) where
    count_stays : (row : Row) → row_count (row_substituted now entry row) ≡ row_count row
    count_stays none = refl
    count_stays (more t row) = ap (λ (n : ℕ). n + 1) (count_stays row)

    size_stays : (t : Tree) → is_blank_size t ≡ true → is_blank_size (substituted now entry t) ≡ true
    size_stays (num z) e = e
    size_stays (truth b) e = absurd (cc)
    size_stays (symbol w) e = absurd (cc)
    size_stays (old w) e = absurd (cc)
    size_stays (apply g row) e = absurd (cc)

    blank_stays : (row : Row) → is_blank_row row ≡ true → is_blank_row (row_substituted now entry row) ≡ true
    blank_stays none e = absurd (cc)
    blank_stays (more t none) e = size_stays t e
    blank_stays (more t (more s row)) e = absurd (cc)

    counted : (g : Builtin) (row : Row) → fits_count (arity_of g) (row_count row) ≡ true → fits_count (arity_of g) (row_count (row_substituted now entry row)) ≡ true
    counted g row e = ap (fits_count (arity_of g)) (count_stays row) ∙ e

    takes_stays : (g : Func) (row : Row) → takes g row ≡ true → takes g (row_substituted now entry row) ≡ true
    takes_stays (Defined k) row e = refl
    takes_stays (BuiltIn f.Blank) row e = blank_stays row e
    takes_stays (BuiltIn f.And) row e = counted f.And row e
    takes_stays (BuiltIn f.Or) row e = counted f.Or row e
    takes_stays (BuiltIn f.Not) row e = counted f.Not row e
    takes_stays (BuiltIn f.Implies) row e = counted f.Implies row e
    takes_stays (BuiltIn f.If) row e = counted f.If row e
    takes_stays (BuiltIn f.Equal) row e = counted f.Equal row e
    takes_stays (BuiltIn f.Plus) row e = counted f.Plus row e
    takes_stays (BuiltIn f.Difference) row e = counted f.Difference row e
    takes_stays (BuiltIn f.Times) row e = counted f.Times row e
    takes_stays (BuiltIn f.Negative) row e = counted f.Negative row e
    takes_stays (BuiltIn f.Quotient) row e = counted f.Quotient row e
    takes_stays (BuiltIn f.Remainder) row e = counted f.Remainder row e
    takes_stays (BuiltIn f.Absolute) row e = counted f.Absolute row e
    takes_stays (BuiltIn f.Maximum) row e = counted f.Maximum row e
    takes_stays (BuiltIn f.Minimum) row e = counted f.Minimum row e
    takes_stays (BuiltIn f.Less) row e = counted f.Less row e
    takes_stays (BuiltIn f.AtMost) row e = counted f.AtMost row e
    takes_stays (BuiltIn f.Element) row e = counted f.Element row e
    takes_stays (BuiltIn f.Put) row e = counted f.Put row e
    takes_stays (BuiltIn f.Size) row e = counted f.Size row e
    takes_stays (BuiltIn f.Defined) row e = counted f.Defined row e
    takes_stays (BuiltIn f.IntegerCell) row e = counted f.IntegerCell row e
    takes_stays (BuiltIn f.LogicalCell) row e = counted f.LogicalCell row e
    takes_stays (BuiltIn f.IntegerCells) row e = counted f.IntegerCells row e
    takes_stays (BuiltIn f.LogicalCells) row e = counted f.LogicalCells row e
    takes_stays (BuiltIn f.Undefined) row e = counted f.Undefined row e

    use_stays : (g : Func) (row : Row) → use_passes (is_headed hs) g row ≡ true → use_passes (is_headed hs) g (row_substituted now entry row) ≡ true
    use_stays (BuiltIn g) row e = refl
    use_stays (Defined k) row e = ap (λ (n : ℕ). has_count n (heading_at hs k)) (count_stays row) ∙ e

    module _ (may_now may_entry : List ℕ → Bool) (h : (w : List ℕ) → may_now w ≡ true → IsReadableTerm hs (now w)) (k : (w : List ℕ) → may_entry w ≡ true → IsReadableTerm hs (entry w)) where
      mutual
        put_readable : (t : Tree) → names_pass may_now may_entry t ≡ true → numbers_pass is_short t ≡ true → functions_pass takes t ≡ true → uses_pass (is_headed hs) t ≡ true
            → IsReadableTerm hs (substituted now entry t)
        put_readable (num z) names numbers functions uses = record { numbers = numbers; names = refl; functions = refl; uses = refl }
        put_readable (truth b) names numbers functions uses = record { numbers = refl; names = refl; functions = refl; uses = refl }
        put_readable (symbol w) names numbers functions uses = h w names
        put_readable (old w) names numbers functions uses = k w names
        put_readable (apply g row) names numbers functions uses =
            let a = both_parts (takes g row) (row_functions_pass takes row) functions in
            let b = both_parts (use_passes (is_headed hs) g row) (row_uses_pass (is_headed hs) row) uses in
            let r = row_put_readable row names numbers a.1 b.1 in
            record {
              numbers = r.numbers;
              names = r.names;
              functions = both_hold (takes g (row_substituted now entry row)) (row_functions_pass takes (row_substituted now entry row)) (takes_stays g row a.0) r.functions;
              uses = both_hold (use_passes (is_headed hs) g (row_substituted now entry row)) (row_uses_pass (is_headed hs) (row_substituted now entry row)) (use_stays g row b.0) r.uses;
            }

        row_put_readable : (row : Row) → row_names_pass may_now may_entry row ≡ true → row_numbers_pass is_short row ≡ true → row_functions_pass takes row ≡ true → row_uses_pass (is_headed hs) row ≡ true
            → IsReadableRow (row_substituted now entry row)
        row_put_readable none names numbers functions uses = record { numbers = refl; names = refl; functions = refl; uses = refl }
        row_put_readable (more t row) names numbers functions uses =
            let a = both_parts (names_pass may_now may_entry t) (row_names_pass may_now may_entry row) names in
            let b = both_parts (numbers_pass is_short t) (row_numbers_pass is_short row) numbers in
            let c = both_parts (functions_pass takes t) (row_functions_pass takes row) functions in
            let d = both_parts (uses_pass (is_headed hs) t) (row_uses_pass (is_headed hs) row) uses in
            more_readable (substituted now entry t) (row_substituted now entry row) (put_readable t a.0 b.0 c.0 d.0) (row_put_readable row a.1 b.1 c.1 d.1)

  -- ---- terms of notes

  -- what a term of a note may name: a bound or a name; entry values are those of names
  abbrev pub may_stand : List ℕ → Bool
  may_stand w = is_bound w || is_name w

  -- a term of a note that a text can spell, with names of FORTRAN
  pub record IsNoted (t : Tree) : Type 0 where
    pub readable : IsReadableTerm hs t
    pub names : names_pass may_stand is_name t ≡ true

  -- names stand for readable terms
  abbrev pub NamesFine : (List ℕ → Tree) → Type 0
  NamesFine now = (x : List ℕ) → is_name x ≡ true → IsReadableTerm hs (now x)

  bound_readable : (least : IsReadableTerm hs (least_integer of_terms)) (greatest : IsReadableTerm hs (greatest_integer of_terms)) (now : List ℕ → Tree) → NamesFine now
      → (w : List ℕ) → may_stand w ≡ true → IsReadableTerm hs (with_bounds of_terms now w)
  bound_readable least greatest now h w = by (same_bytes (codes "LEAST") w) (same_bytes (codes "GREATEST") w)
    where
      by : (a b : Bool) → ((a || b) || is_name w) ≡ true → IsReadableTerm hs (cond a (least_integer of_terms) (cond b (greatest_integer of_terms) (now w)))
      by true b e = least
      by false true e = greatest
      by false false e = h w e

  pub note_readable : (least : IsReadableTerm hs (least_integer of_terms)) (greatest : IsReadableTerm hs (greatest_integer of_terms)) (entry now : List ℕ → Tree) → NamesFine entry → NamesFine now
      → (t : Tree) → IsNoted t → IsReadableTerm hs (note of_terms entry now t)
  note_readable least greatest entry now e h t n =
      put_readable (with_bounds of_terms now) entry may_stand is_name (bound_readable least greatest now h) e t n.names n.readable.numbers n.readable.functions n.readable.uses

  pub notes_readable : (least : IsReadableTerm hs (least_integer of_terms)) (greatest : IsReadableTerm hs (greatest_integer of_terms)) (entry now : List ℕ → Tree) → NamesFine entry → NamesFine now
      → (ts : List Tree) → AllByRecursion IsNoted ts → AllByRecursion (IsReadableTerm hs) (map (note of_terms entry now) ts)
  notes_readable least greatest entry now e h [] n = tt
  notes_readable least greatest entry now e h (t ∷ ts) n = (note_readable least greatest entry now e h t n.0, notes_readable least greatest entry now e h ts n.1)
