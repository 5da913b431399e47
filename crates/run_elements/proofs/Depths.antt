-- Items by how deep they lie in a stack.
use Rattle.std.proofs.Common.{◌≡◌, ℕ, zero, suc, ◌+◌, ◌-◌, ◌<◌, List, [], ◌∷◌, ◌++◌, length, slice_index_or, ℤ, refl, sym, ap, ◌∙◌, arith}
use Rattle.formula.specs.declared.value.Cell.{Cell}
use Rattle.fort_model.specs.Cells.{num}
use Rattle.fort_model.specs.Evaluate.{folded}
use Rattle.run_rooms.specs.Roomy.{behind, oldest}
use Rattle.run_state.specs.Deeds.{no_item, first_in, value_in, values_in, newest_in, under_in}
use Rattle.run_state.specs.declared.machine.Item.{Item}
use Rattle.run_state.proofs.Items.{under_oldest}
use Rattle.run_elements.specs.Elements.{folded_all}

no_items : (depth : ℕ) → under_in depth [] ≡ []
no_items zero = refl
no_items (suc depth) = no_items depth

pub item_at : (items : List Item) (depth : ℕ) → slice_index_or items depth no_item ≡ first_in (under_in depth items)
item_at [] depth = sym (ap first_in (no_items depth))
item_at (x ∷ items) zero = refl
item_at (x ∷ items) (suc depth) = item_at items depth

-- what remains of the oldest is what is below the newest
pub kept : (items : List Item) (depth : ℕ) → oldest (length items - depth) items ≡ under_in depth items
kept items depth = under_oldest depth items

-- ---- numbers from the left

-- the newest so many before others
before_others : (n : ℕ) (items acc : List Item) → newest_in n items acc ≡ newest_in n items [] ++ acc
before_others zero items acc = refl
before_others (suc n) items acc =
    before_others n (behind items) (first_in items ∷ acc) ∙ again (newest_in n (behind items) []) (first_in items) acc ∙ ap (λ xs. xs ++ acc) (sym (before_others n (behind items) (first_in items ∷ [])))
  where
    again : (xs : List Item) (x : Item) (ys : List Item) → xs ++ x ∷ ys ≡ (xs ++ x ∷ []) ++ ys
    again [] x ys = refl
    again (z ∷ xs) x ys = ap (λ zs. z ∷ zs) (again xs x ys)

one_more : (n : ℕ) (items : List Item) → newest_in (suc n) items [] ≡ newest_in n (behind items) [] ++ first_in items ∷ []
one_more n items = before_others n (behind items) (first_in items ∷ [])

values_more : (xs : List Item) (x : Item) → values_in (xs ++ x ∷ []) ≡ values_in xs ++ value_in x ∷ []
values_more [] x = refl
values_more (y ∷ xs) x = ap (λ cs. value_in y ∷ cs) (values_more xs x)

folded_more : (f : ℤ → ℤ → ℤ) (z : ℤ) (cs : List Cell) (c : Cell) → folded f z (cs ++ c ∷ []) ≡ f (folded f z cs) (num c)
folded_more f z [] c = refl
folded_more f z (d ∷ cs) c = folded_more f (f z (num d)) cs c

all_more : (f : ℤ → ℤ → ℤ) (cs : List Cell) (c : Cell) → 0 < length cs → folded_all f (cs ++ c ∷ []) ≡ f (folded_all f cs) (num c)
all_more f [] c h = absurd (omega arith)
all_more f (d ∷ cs) c h = folded_more f (num d) cs c

pub values_long : (xs : List Item) → length (values_in xs) ≡ length xs
values_long [] = refl
values_long (x ∷ xs) = ap suc (values_long xs)

pub newest_long : (n : ℕ) (items acc : List Item) → length (newest_in n items acc) ≡ n + length acc
newest_long zero items acc = let same : length acc ≡ 0 + length acc = omega arith in same
newest_long (suc n) items acc = newest_long n (behind items) (first_in items ∷ acc) ∙ (let same : n + suc (length acc) ≡ suc n + length acc = omega arith in same)

under_behind : (n : ℕ) (items : List Item) → behind (under_in n items) ≡ under_in (suc n) items
under_behind zero items = refl
under_behind (suc n) items = under_behind n (behind items)

-- the newest value alone
pub first_number : (f : ℤ → ℤ → ℤ) (items : List Item) (n depth : ℕ) → n ≡ depth + 1
    → num (value_in (first_in (under_in depth items))) ≡ folded_all f (values_in (newest_in (n - depth) (under_in depth items) []))
first_number f items n depth e = ap (λ k. folded_all f (values_in (newest_in k (under_in depth items) []))) (let one : 1 ≡ n - depth = omega arith in one)

-- one value more, which lies above the others
pub next_number : (f : ℤ → ℤ → ℤ) (items : List Item) (n old new : ℕ) → old ≡ suc new → old < n
    → f (folded_all f (values_in (newest_in (n - old) (under_in old items) []))) (num (value_in (first_in (under_in new items))))
    ≡ folded_all f (values_in (newest_in (n - new) (under_in new items) []))
next_number f items n old new e h =
    let xs = newest_in (n - old) (under_in old items) [] in
    let x = first_in (under_in new items) in
    let long : length (values_in xs) ≡ n - old = values_long xs ∙ newest_long (n - old) (under_in old items) [] ∙ (let same : n - old + 0 ≡ n - old = omega arith in same) in
    sym (all_more f (values_in xs) (value_in x) (omega arith))
    ∙ ap (folded_all f) (sym (values_more xs x))
    ∙ ap (λ ys. folded_all f (values_in (newest_in (n - old) ys [] ++ x ∷ []))) (ap (λ k. under_in k items) e ∙ sym (under_behind new items))
    ∙ ap (λ ys. folded_all f (values_in ys)) (sym (one_more (n - old) (under_in new items)))
    ∙ ap (λ k. folded_all f (values_in (newest_in k (under_in new items) []))) (let same : suc (n - old) ≡ n - new = omega arith in same)

pub all_numbers : (f : ℤ → ℤ → ℤ) (items : List Item) (n depth : ℕ) → depth ≡ 0
    → folded_all f (values_in (newest_in (n - depth) (under_in depth items) [])) ≡ folded_all f (values_in (newest_in n items []))
all_numbers f items n depth e = ap (λ k. folded_all f (values_in (newest_in (n - k) (under_in k items) []))) e ∙ ap (λ k. folded_all f (values_in (newest_in k items []))) (let same : n - 0 ≡ n = omega arith in same)

-- the same by what the code has
pub next_from : (f : ℤ → ℤ → ℤ) (items : List Item) (n old new : ℕ) (z number value : ℤ) → old ≡ suc new → old < n → z ≡ f number value
    → number ≡ folded_all f (values_in (newest_in (n - old) (under_in old items) [])) → value ≡ num (value_in (first_in (under_in new items)))
    → z ≡ folded_all f (values_in (newest_in (n - new) (under_in new items) []))
next_from f items n old new z number value e h a b c = a ∙ ap (λ k. f k value) b ∙ ap (f (folded_all f (values_in (newest_in (n - old) (under_in old items) [])))) c ∙ next_number f items n old new e h
