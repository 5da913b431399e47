-- The choices behind a statement, one behind another.
use Rattle.std.proofs.Common.{◌≡◌, ℕ, zero, suc, ◌<◌, ◌≤◌, List, [], ◌∷◌, ◌++◌, append_assoc, length, drop, get_or, Option, Some, None, slice_get, refl, sym, ap, ◌∙◌, arith}
use Rattle.std.proofs.lemmas.List.{drop_all}
use Rattle.fort_model.specs.Paths.{cut_at}
use Rattle.fort_model.specs.Seen.{Named}
use Rattle.fort_model.specs.WalkCalls.{Sight}
use Rattle.path_cut.specs.declared.step.Step.{Step}
use Rattle.path_cut.specs.declared.step.Step.TheVariants.{At, Choice}
use Rattle.way_laws.specs.PathsOf.{turns}
use Rattle.weight_caps.specs.declared.loads.Load.{Load}
use Rattle.weight_path.specs.Steps.{begun_at, chosen}
use Rattle.weight_tallies.specs.Tallies as c

none_some : {X : Type 0} (a : X) → ◌≡◌ {A = Option X} None (Some a) → ⊥
none_some a e = cc

some_none : {X : Type 0} (a : X) → ◌≡◌ {A = Option X} (Some a) None → ⊥
some_none a e = cc

some_same : {X : Type 0} (a b : X) → ◌≡◌ {A = Option X} (Some a) (Some b) → a ≡ b
some_same a b e = cc

drop_next : (xs : List Step) (i n : ℕ) (d : Step) → n ≡ suc i → i < length xs → drop i xs ≡ get_or xs i d ∷ drop n xs
drop_next xs i n d next h = at xs i h ∙ ap (λ m. get_or xs i d ∷ drop m xs) (sym next)
  where
    at : (xs : List Step) (i : ℕ) → i < length xs → drop i xs ≡ get_or xs i d ∷ drop (suc i) xs
    at [] i h = absurd (omega arith)
    at (y ∷ ys) zero h = refl
    at (y ∷ ys) (suc i) h = at ys i (omega arith)

-- ---- choices

turn_on : (s : Step) (k : ℕ) (rest : List Step) → Some k ≡ chosen s → turns (s ∷ rest) ≡ k ∷ turns rest
turn_on (At p) k rest e = absurd (some_none k e)
turn_on (Choice f d) k rest e = ap (λ z. z ∷ turns rest) (sym (some_same k d e))

turn_end : (s : Step) (rest : List Step) → None ≡ chosen s → turns (s ∷ rest) ≡ []
turn_end (At p) rest e = refl
turn_end (Choice f d) rest e = absurd (none_some d e)

append_none : (xs : List ℕ) → xs ++ [] ≡ xs
append_none [] = refl
append_none (x ∷ xs) = ap (λ ys. x ∷ ys) (append_none xs)

-- a choice more was gathered
pub gathered : (steps : List Step) (i n k : ℕ) (d : Step) (found new whole : List ℕ) → n ≡ suc i → i < length steps → Some k ≡ chosen (get_or steps i d) → new ≡ found ++ k ∷ []
    → found ++ turns (drop i steps) ≡ whole → new ++ turns (drop n steps) ≡ whole
gathered steps i n k d found new whole next h is push e =
    ap (λ xs. xs ++ turns (drop n steps)) push
    ∙ (append_assoc found (k ∷ []) (turns (drop n steps))
    ∙ (ap (λ xs. found ++ xs) (sym (turn_on (get_or steps i d) k (drop n steps) is)) ∙ (sym (ap (λ xs. found ++ turns xs) (drop_next steps i n d next h)) ∙ e)))

-- the next statement begins
pub all_gathered : (steps : List Step) (i : ℕ) (d : Step) (found whole : List ℕ) → i < length steps → None ≡ chosen (get_or steps i d) → found ++ turns (drop i steps) ≡ whole → found ≡ whole
all_gathered steps i d found whole h is e =
    sym (append_none found)
    ∙ (ap (λ xs. found ++ xs) (sym (turn_end (get_or steps i d) (drop (suc i) steps) is)) ∙ (sym (ap (λ xs. found ++ turns xs) (drop_next steps i (suc i) d refl h)) ∙ e))

-- no step is left
pub none_gathered : (steps : List Step) (i : ℕ) (found whole : List ℕ) → length steps ≤ i → found ++ turns (drop i steps) ≡ whole → found ≡ whole
none_gathered steps i found whole h e = sym (append_none found) ∙ (sym (ap (λ xs. found ++ turns xs) (drop_all i steps h)) ∙ e)
