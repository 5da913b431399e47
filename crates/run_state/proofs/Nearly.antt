-- Places that no storage has are alike.
use Rattle.std.proofs.Common.{◌≡◌, ℕ, zero, suc, ◌-◌, ◌<◌, ◌≤◌, ◌^◌, Bool, true, false, nat_le, List, [], ◌∷◌, length, replicate, refl, sym, ap, ◌∙◌, arith}
use Rattle.std.proofs.lemmas.List.{get_or_past}
use Rattle.formula.specs.declared.value.Cell.{Cell}
use Rattle.formula.specs.declared.value.Cell.TheVariants.{Undefined}
use Rattle.fort_model.specs.Storage.{Storage, load, store, contents, write}
use Rattle.run_state.specs.Near.{far}

pub far_near : (a : ℕ) → a < 2 ^ 64 → far a ≡ a
far_near a h = grind arith

-- what is the same at all places from the last number on is the same there
at_far : {A : Type 0} (f : ℕ → A) (a : ℕ) → ((b : ℕ) → 2 ^ 64 - 1 ≤ b → f b ≡ f (2 ^ 64 - 1)) → f (far a) ≡ f a
at_far f a same = by_cases (nat_le a (2 ^ 64 - 1)) refl
  where
    by_cases : (b : Bool) → nat_le a (2 ^ 64 - 1) ≡ b → f (far a) ≡ f a
    by_cases true e = ap f (let here : far a ≡ a = grind arith in here)
    by_cases false e =
        let long : 2 ^ 64 - 1 ≤ a = grind arith in
        let last : far a ≡ 2 ^ 64 - 1 = grind arith in
        ap f last ∙ sym (same a long)

load_past : (st : Storage) (i : ℕ) → length st ≤ i → load st i ≡ Undefined
load_past st i h = get_or_past st i Undefined h

pub load_far : (st : Storage) (a : ℕ) → length st < 2 ^ 64 → load st (far a) ≡ load st a
load_far st a small = at_far (load st) a (λ b h. load_past st b (omega arith) ∙ sym (load_past st (2 ^ 64 - 1) (omega arith)))

store_past : (st : Storage) (i : ℕ) (c : Cell) → length st ≤ i → store st i c ≡ st
store_past [] i c h = refl
store_past (x ∷ st) zero c h = absurd (omega arith)
store_past (x ∷ st) (suc i) c h = ap (λ cs. x ∷ cs) (store_past st i c (omega arith))

pub store_far : (st : Storage) (a : ℕ) (c : Cell) → length st < 2 ^ 64 → store st (far a) c ≡ store st a c
store_far st a c small = at_far (λ i. store st i c) a (λ b h. store_past st b c (omega arith) ∙ sym (store_past st (2 ^ 64 - 1) c (omega arith)))

contents_past : (st : Storage) (i n : ℕ) → length st ≤ i → contents st i n ≡ replicate n Undefined
contents_past st i zero h = refl
contents_past st i (suc n) h = ap (λ c. c ∷ contents st (suc i) n) (load_past st i h) ∙ ap (λ cs. Undefined ∷ cs) (contents_past st (suc i) n (omega arith))

pub contents_far : (st : Storage) (a n : ℕ) → length st < 2 ^ 64 → contents st (far a) n ≡ contents st a n
contents_far st a n small = at_far (λ i. contents st i n) a (λ b h. contents_past st b n (omega arith) ∙ sym (contents_past st (2 ^ 64 - 1) n (omega arith)))

write_past : (cs : List Cell) (i : ℕ) (st : Storage) → length st ≤ i → write cs i st ≡ st
write_past [] i st h = refl
write_past (c ∷ cs) i st h = ap (λ s. write cs (suc i) s) (store_past st i c h) ∙ write_past cs (suc i) st (omega arith)

pub write_far : (cs : List Cell) (a : ℕ) (st : Storage) → length st < 2 ^ 64 → write cs (far a) st ≡ write cs a st
write_far cs a st small = at_far (λ i. write cs i st) a (λ b h. write_past cs b st (omega arith) ∙ sym (write_past cs (2 ^ 64 - 1) st (omega arith)))
