-- Lines one after another.
use Rattle.std.proofs.Common.{◌≡◌, ◌<◌, ◌≤◌, ◌+◌, ℕ, suc, List, ◌∷◌, ◌++◌, length, drop, get_or, sym, ap, ◌∙◌, arith, append_assoc, append-nil}
use Rattle.std.proofs.lemmas.List.{at_drop_more, drop_all}
use Rattle.formula.specs.Worth.{Function}
use Rattle.fort_syntax.specs.Conditions.{ConditionTree}
use Rattle.fort_notes.specs.declared.cases.TryCard.{TryCard}
use Rattle.try_lines.specs.Tries.{line_of, named, tried, try_text}
use Rattle.try_lines.specs.declared.verdict.Verdict.{Verdict}

module _ (fs : List Function) (cs : List ConditionTree) (all : List TryCard) where
  pub next_line : (old new whole : List ℕ) (done : ℕ) (card : TryCard) (v : Verdict) → done < length all → card ≡ get_or all done card
      → v ≡ tried fs (named card.lemma cs) card.sheet → new ≡ old ++ line_of (done + 1) v
      → old ++ try_text fs cs (done + 1) (drop done all) ≡ whole → new ++ try_text fs cs (done + 1 + 1) (drop (done + 1) all) ≡ whole
  next_line old new whole done card v lt read is put had =
      let next : done + 1 + 1 ≡ suc (done + 1) = omega arith in
      ap (λ (t : List ℕ). t ++ try_text fs cs (done + 1 + 1) (drop (done + 1) all)) put
      ∙ append_assoc old (line_of (done + 1) v) (try_text fs cs (done + 1 + 1) (drop (done + 1) all))
      ∙ ap (λ (w : Verdict). old ++ (line_of (done + 1) w ++ try_text fs cs (done + 1 + 1) (drop (done + 1) all))) is
      ∙ ap (λ (n : ℕ). old ++ (line_of (done + 1) (tried fs (named card.lemma cs) card.sheet) ++ try_text fs cs n (drop (done + 1) all))) next
      ∙ ap (λ (k : TryCard). old ++ try_text fs cs (done + 1) (k ∷ drop (done + 1) all)) read
      ∙ sym (at_drop_more (λ (rest : List TryCard). old ++ try_text fs cs (done + 1) rest) all done card lt)
      ∙ had

  pub last_line : (text whole : List ℕ) (done : ℕ) → length all ≤ done → text ++ try_text fs cs (done + 1) (drop done all) ≡ whole → text ≡ whole
  last_line text whole done past had =
      sym (ap (λ (rest : List TryCard). text ++ try_text fs cs (done + 1) rest) (drop_all done all past) ∙ append-nil text) ∙ had
