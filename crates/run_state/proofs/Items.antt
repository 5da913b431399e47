-- Items of a stack, as the machine keeps them.
use Rattle.std.proofs.Common.{◌≡◌, ℕ, zero, suc, ◌-◌, List, [], ◌∷◌, length, drop, map, refl, sym, ap, ◌∙◌, arith}
use Rattle.fort_model.specs.Passing.{Taken, Cells, Fresh}
use Rattle.run_rooms.specs.Roomy.{behind, oldest}
use Rattle.run_code.specs.Code.{top, below, cell_of, cells_of, first_of, second_of, third_of, newest, under}
use Rattle.run_frames.specs.Frames.{lowest}
use Rattle.run_state.specs.Near.{item_of}
use Rattle.run_state.specs.Deeds.{first_in, second_in, third_in, value_in, values_in, newest_in, under_in}
use Rattle.run_state.specs.declared.machine.Item.{Item}

pub top_kept : (xs : List Taken) → first_in (map item_of xs) ≡ item_of (top xs)
top_kept [] = refl
top_kept (x ∷ xs) = refl

pub below_kept : (xs : List Taken) → behind (map item_of xs) ≡ map item_of (below xs)
below_kept [] = refl
below_kept (x ∷ xs) = refl

pub value_kept : (x : Taken) → value_in (item_of x) ≡ cell_of x
value_kept (Cells e) = refl
value_kept (Fresh c) = refl

pub first_kept : (xs : List Taken) → value_in (first_in (map item_of xs)) ≡ first_of xs
first_kept xs = ap value_in (top_kept xs) ∙ value_kept (top xs)

pub second_kept : (xs : List Taken) → value_in (second_in (map item_of xs)) ≡ second_of xs
second_kept [] = refl
second_kept (x ∷ xs) = first_kept xs

pub third_kept : (xs : List Taken) → value_in (third_in (map item_of xs)) ≡ third_of xs
third_kept [] = refl
third_kept (x ∷ xs) = second_kept xs

pub newest_kept : (n : ℕ) (xs acc : List Taken) → newest_in n (map item_of xs) (map item_of acc) ≡ map item_of (newest n xs acc)
newest_kept zero xs acc = refl
newest_kept (suc n) [] acc = newest_kept n [] (top [] ∷ acc)
newest_kept (suc n) (x ∷ xs) acc = newest_kept n xs (x ∷ acc)

pub under_kept : (n : ℕ) (xs : List Taken) → under_in n (map item_of xs) ≡ map item_of (under n xs)
under_kept zero xs = refl
under_kept (suc n) [] = under_kept n []
under_kept (suc n) (x ∷ xs) = under_kept n xs

pub map_drop : {A B : Type 0} (f : A → B) (n : ℕ) (xs : List A) → drop n (map f xs) ≡ map f (drop n xs)
map_drop f zero xs = refl
map_drop f (suc n) [] = refl
map_drop f (suc n) (x ∷ xs) = map_drop f n xs

long : {A B : Type 0} (f : A → B) (xs : List A) → length (map f xs) ≡ length xs
long f [] = refl
long f (x ∷ xs) = ap suc (long f xs)

pub lowest_kept : (n : ℕ) (xs : List Taken) → oldest n (map item_of xs) ≡ map item_of (lowest n xs)
lowest_kept n xs = ap (λ k. drop (k - n) (map item_of xs)) (long item_of xs) ∙ map_drop item_of (length xs - n) xs

-- the values of several items
pub values_kept : (xs : List Taken) → values_in (map item_of xs) ≡ cells_of xs
values_kept [] = refl
values_kept (x ∷ xs) = ap (λ c. c ∷ values_in (map item_of xs)) (value_kept x) ∙ ap (λ cs. cell_of x ∷ cs) (values_kept xs)

under_none : (n : ℕ) → under_in n [] ≡ []
under_none zero = refl
under_none (suc n) = under_none n

-- what is below the newest so many is what remains of the oldest
pub under_oldest : (n : ℕ) (items : List Item) → oldest (length items - n) items ≡ under_in n items
under_oldest n items = dropped n items (length items - (length items - n)) (omega arith)
  where
    dropped : (n : ℕ) (items : List Item) (k : ℕ) → k ≡ length items - (length items - n) → drop k items ≡ under_in n items
    dropped zero items k e = ap (λ k. drop k items) (let none : k ≡ 0 = omega arith in none)
    dropped (suc n) [] k e = ap (λ k. drop k []) (let none : k ≡ 0 = omega arith in none) ∙ sym (under_none n)
    dropped (suc n) (x ∷ items) zero e = absurd (omega arith)
    dropped (suc n) (x ∷ items) (suc k) e = dropped n items k (omega arith)
