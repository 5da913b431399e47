-- The text of cells.
use Rattle.std.proofs.Common.{◌≡◌, ℕ, suc, ◌+◌, ◌-◌, ◌<◌, ◌≤◌, Bool, true, false, List, [], ◌∷◌, ◌++◌, codes, refl, sym, ap, ◌∙◌, arith, append_assoc, append-nil}
use Rattle.std.specs.Fmt.{signed_decimal}
use Rattle.formula.specs.declared.value.Cell.{Cell}
use Rattle.formula.specs.declared.value.Cell.TheVariants.{Int, Logical, Undefined}
use Rattle.fort_model.specs.Cells.{is_defined, num, same}
use Rattle.fort_model.specs.Storage.{Storage, contents, load}
use Rattle.run_texts.specs.Outcomes.{cell_text, cells_text, next_text}

pub undefined_text : (c : Cell) → is_defined c ≡ false → cell_text c ≡ codes "U"
undefined_text (Int z) h = absurd cc
undefined_text (Logical b) h = absurd cc
undefined_text Undefined h = refl

pub true_text : (c : Cell) → same c (Logical true) ≡ true → cell_text c ≡ codes "T"
true_text (Int z) h = absurd cc
true_text (Logical true) h = refl
true_text (Logical false) h = absurd cc
true_text Undefined h = absurd cc

pub false_text : (c : Cell) → same c (Logical false) ≡ true → cell_text c ≡ codes "F"
false_text (Int z) h = absurd cc
false_text (Logical true) h = absurd cc
false_text (Logical false) h = refl
false_text Undefined h = absurd cc

pub number_text : (c : Cell) → is_defined c ≡ true → same c (Logical true) ≡ false → same c (Logical false) ≡ false → cell_text c ≡ signed_decimal (num c)
number_text (Int z) d t f = refl
number_text (Logical true) d t f = absurd cc
number_text (Logical false) d t f = absurd cc
number_text Undefined d t f = absurd cc

module _ (st : Storage) (first size : ℕ) where
  pub cells_next : (old new whole : List ℕ) (done : ℕ) → done < size → new ≡ old ++ next_text (load st (first + done))
      → old ++ cells_text (contents st (first + done) (size - done)) ≡ whole → new ++ cells_text (contents st (first + (done + 1)) (size - (done + 1))) ≡ whole
  cells_next old new whole done lt put had =
      let more : first + (done + 1) ≡ suc (first + done) = omega arith in
      let left : suc (size - (done + 1)) ≡ size - done = omega arith in
      let rest = cells_text (contents st (suc (first + done)) (size - (done + 1))) in
      ap (λ (i : ℕ). new ++ cells_text (contents st i (size - (done + 1)))) more
      ∙ ap (λ (t : List ℕ). t ++ rest) put
      ∙ append_assoc old (next_text (load st (first + done))) rest
      ∙ ap (λ (n : ℕ). old ++ cells_text (contents st (first + done) n)) left
      ∙ had

  pub cells_first : (old : List ℕ) → old ++ cells_text (contents st (first + 0) (size - 0)) ≡ old ++ cells_text (contents st first size)
  cells_first old =
      let none : first + 0 ≡ first = omega arith in
      let all : size - 0 ≡ size = omega arith in
      ap (λ (i : ℕ). old ++ cells_text (contents st i (size - 0))) none ∙ ap (λ (n : ℕ). old ++ cells_text (contents st first n)) all

  pub cells_last : (got whole : List ℕ) (done : ℕ) → size ≤ done → got ++ cells_text (contents st (first + done) (size - done)) ≡ whole → got ≡ whole
  cells_last got whole done past had =
      let none : size - done ≡ 0 = omega arith in
      sym (ap (λ (n : ℕ). got ++ cells_text (contents st (first + done) n)) none ∙ append-nil got) ∙ had
