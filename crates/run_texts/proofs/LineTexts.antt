-- Entries and lines one after another.
use Rattle.std.proofs.Common.{◌≡◌, ℕ, suc, ◌+◌, ◌<◌, ◌≤◌, List, ◌∷◌, ◌++◌, length, drop, get_or, sym, ap, ◌∙◌, arith, append_assoc, append-nil}
use Rattle.std.proofs.lemmas.List.{at_drop_more, drop_all}
use Rattle.fort_syntax.specs.declared.dialect.Dialect.{Dialect}
use Rattle.fort_syntax.specs.declared.unit.Unit.{Unit as Routine}
use Rattle.fort_notes.specs.declared.cases.RunCard.{RunCard}
use Rattle.fort_model.specs.Storage.{Storage, contents}
use Rattle.run_eval.specs.declared.entries.Entry.{Entry}
use Rattle.run_texts.specs.Outcomes.{entry_text}
use Rattle.run_texts.specs.Runs.{card_text, line_of, run_text}
use Rattle.run_texts.specs.Told.{listed_text}

abbrev one_entry : Storage → Entry → List ℕ
one_entry st e = entry_text e.name (contents st e.cells.first e.cells.size)

module _ (all : List Entry) (st : Storage) where
  pub next_entry : (old new whole : List ℕ) (done : ℕ) (e d : Entry) → done < length all → e ≡ get_or all done d → new ≡ old ++ entry_text e.name (contents st e.cells.first e.cells.size)
      → old ++ listed_text (drop done all) st ≡ whole → new ++ listed_text (drop (done + 1) all) st ≡ whole
  next_entry old new whole done e d lt read put had =
      let rest = listed_text (drop (done + 1) all) st in
      ap (λ (t : List ℕ). t ++ rest) put
      ∙ append_assoc old (one_entry st e) rest
      ∙ ap (λ (x : Entry). old ++ listed_text (x ∷ drop (done + 1) all) st) read
      ∙ sym (at_drop_more (λ (es : List Entry). old ++ listed_text es st) all done d lt)
      ∙ had

  pub last_entry : (got whole : List ℕ) (done : ℕ) → length all ≤ done → got ++ listed_text (drop done all) st ≡ whole → got ≡ whole
  last_entry got whole done past had = sym (ap (λ (es : List Entry). got ++ listed_text es st) (drop_all done all past) ∙ append-nil got) ∙ had

module _ (dialect : Dialect) (units : List Routine) (bound : ℕ) (all : List RunCard) where
  pub next_line : (old new whole : List ℕ) (done : ℕ) (card : RunCard) → done < length all → card ≡ get_or all done card → new ≡ old ++ line_of (done + 1) (card_text dialect units bound card)
      → old ++ run_text dialect units bound (done + 1) (drop done all) ≡ whole → new ++ run_text dialect units bound (done + 1 + 1) (drop (done + 1) all) ≡ whole
  next_line old new whole done card lt read put had =
      let next : done + 1 + 1 ≡ suc (done + 1) = omega arith in
      ap (λ (t : List ℕ). t ++ run_text dialect units bound (done + 1 + 1) (drop (done + 1) all)) put
      ∙ append_assoc old (line_of (done + 1) (card_text dialect units bound card)) (run_text dialect units bound (done + 1 + 1) (drop (done + 1) all))
      ∙ ap (λ (n : ℕ). old ++ (line_of (done + 1) (card_text dialect units bound card) ++ run_text dialect units bound n (drop (done + 1) all))) next
      ∙ ap (λ (k : RunCard). old ++ run_text dialect units bound (done + 1) (k ∷ drop (done + 1) all)) read
      ∙ sym (at_drop_more (λ (rest : List RunCard). old ++ run_text dialect units bound (done + 1) rest) all done card lt)
      ∙ had

  pub last_line : (text whole : List ℕ) (done : ℕ) → length all ≤ done → text ++ run_text dialect units bound (done + 1) (drop done all) ≡ whole → text ≡ whole
  last_line text whole done past had =
      sym (ap (λ (rest : List RunCard). text ++ run_text dialect units bound (done + 1) rest) (drop_all done all past) ∙ append-nil text) ∙ had
