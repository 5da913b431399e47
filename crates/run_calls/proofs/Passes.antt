-- Actuals are passed on and written back as in the model.
use Rattle.std.proofs.Common.{◌≡◌, ℕ, suc, ◌+◌, ◌<◌, ◌^◌, Bool, true, false, List, [], ◌∷◌, ◌++◌, length, map, refl, sym, ap, ◌∙◌, arith}
use Rattle.fort_model.specs.Storage.{Storage, contents, write}
use Rattle.fort_model.specs.Passing.{Taken, Cells, Fresh, Passed, passed_by, passed, seats, new_cells, written_back}
use Rattle.fort_laws.proofs.StorageLaws.{length-write}
use Rattle.run_state.specs.Near.{far, shortened, item_of}
use Rattle.run_state.proofs.Nearly.{contents_far, write_far}
use Rattle.run_calls.specs.Calls.{new_size, seat}
use Rattle.run_calls.proofs.Closed.{seats_in, held_from, news_in, back_from, backs_in}

-- ---- seats

seat_step : (b : Bool) (x : Taken) (rest : List Passed) (next : ℕ)
    → map shortened (seats (passed_by b x ∷ rest) next) ≡ seat b (item_of x) (far next) ∷ map shortened (seats rest (next + new_size b (item_of x)))
seat_step b (Fresh c) rest next = refl
seat_step true (Cells e) rest next = refl
seat_step false (Cells e) rest next = ap (λ k. shortened e ∷ map shortened (seats rest k)) (let same : next ≡ next + 0 = omega arith in same)

pub seats_kept : (copies : ℕ → Bool) (i : ℕ) (xs : List Taken) (next : ℕ) → seats_in copies i (map item_of xs) next ≡ map shortened (seats (passed copies i xs) next)
seats_kept copies i [] next = refl
seats_kept copies i (x ∷ xs) next =
    ap (λ rest. seat (copies i) (item_of x) (far next) ∷ rest) (seats_kept copies (suc i) xs (next + new_size (copies i) (item_of x)))
    ∙ sym (seat_step (copies i) x (passed copies (suc i) xs) next)

seats_step_long : (b : Bool) (x : Taken) (rest : List Passed) (next n : ℕ) → ((k : ℕ) → length (seats rest k) ≡ n) → length (seats (passed_by b x ∷ rest) next) ≡ suc n
seats_step_long b (Fresh c) rest next n h = ap suc (h (next + 1))
seats_step_long true (Cells e) rest next n h = ap suc (h (next + e.size))
seats_step_long false (Cells e) rest next n h = ap suc (h next)

pub seats_long : (copies : ℕ → Bool) (i : ℕ) (xs : List Taken) (next : ℕ) → length (seats (passed copies i xs) next) ≡ length xs
seats_long copies i [] next = refl
seats_long copies i (x ∷ xs) next = seats_step_long (copies i) x (passed copies (suc i) xs) next (length xs) (λ k. seats_long copies (suc i) xs k)

-- ---- new cells

news_step : (b : Bool) (x : Taken) (rest : List Passed) (st : Storage) → length st < 2 ^ 64 → held_from b (item_of x) st ++ new_cells st rest ≡ new_cells st (passed_by b x ∷ rest)
news_step b (Fresh c) rest st small = refl
news_step true (Cells e) rest st small = ap (λ cs. cs ++ new_cells st rest) (contents_far st e.first e.size small)
news_step false (Cells e) rest st small = refl

pub news_kept : (copies : ℕ → Bool) (i : ℕ) (xs : List Taken) (st : Storage) → length st < 2 ^ 64 → news_in copies i (map item_of xs) st ≡ new_cells st (passed copies i xs)
news_kept copies i [] st small = refl
news_kept copies i (x ∷ xs) st small =
    ap (λ rest. held_from (copies i) (item_of x) st ++ rest) (news_kept copies (suc i) xs st small) ∙ news_step (copies i) x (passed copies (suc i) xs) st small

-- ---- back

twice_far : (a k : ℕ) → far (far a + k) ≡ far (a + k)
twice_far a k = grind arith

back_step : (b : Bool) (x : Taken) (rest : List Passed) (next : ℕ) (st : Storage) → length st < 2 ^ 64
    → written_back rest (next + new_size b (item_of x)) (back_from b (item_of x) (far next) st) ≡ written_back (passed_by b x ∷ rest) next st
back_step b (Fresh c) rest next st small = refl
back_step true (Cells e) rest next st small =
    ap (λ cs. written_back rest (next + e.size) (write cs (far e.first) st)) (contents_far st next e.size small)
    ∙ ap (written_back rest (next + e.size)) (write_far (contents st next e.size) e.first st small)
back_step false (Cells e) rest next st small = ap (λ k. written_back rest k st) (let same : next + 0 ≡ next = omega arith in same)

back_long : (b : Bool) (x : Taken) (next : ℕ) (st : Storage) → length (back_from b (item_of x) next st) ≡ length st
back_long b (Fresh c) next st = refl
back_long true (Cells e) next st = length-write (contents st next e.size) (far e.first) st
back_long false (Cells e) next st = refl

pub backs_kept : (copies : ℕ → Bool) (i : ℕ) (xs : List Taken) (next : ℕ) (st : Storage) → length st < 2 ^ 64
    → backs_in copies i (far next) (map item_of xs) st ≡ written_back (passed copies i xs) next st
backs_kept copies i [] next st small = refl
backs_kept copies i (x ∷ xs) next st small =
    let size = new_size (copies i) (item_of x) in
    let then = back_from (copies i) (item_of x) (far next) st in
    let long : length then ≡ length st = back_long (copies i) x (far next) st in
    ap (λ k. backs_in copies (suc i) k (map item_of xs) then) (twice_far next size)
    ∙ backs_kept copies (suc i) xs (next + size) then (omega arith) ∙ back_step (copies i) x (passed copies (suc i) xs) next st small
