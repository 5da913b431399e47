-- What each turn of a search keeps, and that it leaves less to do.
use Rattle.std.proofs.Common.{◌≡◌, ℕ, zero, suc, ◌+◌, ◌-◌, ◌<◌, ◌≤◌, Bool, true, false, Option, Some, None, List, [], ◌∷◌, ◌++◌, length, drop, slice_get, refl, sym, ap, ◌∙◌, arith}
use Rattle.std.proofs.lemmas.List.{append_assoc, append-nil}
use Rattle.fort_model.specs.declared.graph.Graph.{Graph}
use Rattle.fort_model.specs.declared.graph.Target.{Target}
use Rattle.fort_model.specs.declared.graph.Target.TheVariants.{Point, Fork as AtFork}
use Rattle.path_cut.specs.declared.course.Stage.TheVariants.{On, Choose, Back, Ended, Over}
use Rattle.path_cut.specs.declared.step.Step.{Step}
use Rattle.path_cut.specs.declared.step.Step.TheVariants.{At, Choice}
use Rattle.path_cut.specs.Ways.{targets_of, by_each, behind_statement, end_or, ways, ways_on, ways_from}
use Rattle.path_cut.specs.Work.{turns_left, left_at, left_along, later, rest, left, statement_work, each_work, point_work, work, turns_work, work_at, work_along, work_from, rest_work, stage_work}

-- ---- lists

next_of : {A : Type 0} (xs : List A) (c : ℕ) (x : A) → slice_get xs c ≡ Some x → drop c xs ≡ x ∷ drop (suc c) xs
next_of [] c x e = absurd cc
next_of (y ∷ ys) zero x e = let same : y ≡ x = cc in ap (λ z. z ∷ ys) same
next_of (y ∷ ys) (suc c) x e = next_of ys c x e

none_of : {A : Type 0} (xs : List A) (c : ℕ) → slice_get xs c ≡ None → drop c xs ≡ []
none_of [] zero e = refl
none_of [] (suc c) e = refl
none_of (y ∷ ys) zero e = absurd cc
none_of (y ∷ ys) (suc c) e = none_of ys c e

len_more : (xs : List Step) (x : Step) → length (xs ++ x ∷ []) ≡ suc (length xs)
len_more [] x = refl
len_more (y ∷ ys) x = ap suc (len_more ys x)

fuel_more : (limit n : ℕ) → n < limit → limit - n ≡ suc (limit - suc n)
fuel_more limit n lt = omega arith

module _ (graph : Graph) (cut : ℕ → Bool) (limit : ℕ) where
  abbrev targets : ℕ → List Target
  targets k = targets_of (slice_get graph.forks k)

  -- the fuel behind some steps, and behind one more
  abbrev fuel : List Step → ℕ
  fuel steps = limit - suc (length steps)

  more_fuel : (steps : List Step) (x : Step) → limit - length (steps ++ x ∷ []) ≡ fuel steps
  more_fuel steps x = ap (λ n. limit - n) (len_more steps x)

  -- ---- one step more

  along_snoc : (s : ℕ) (pre xs : List Step) (x : Step) → left_along graph cut limit s pre (xs ++ x ∷ []) ≡ left_at graph cut limit s (pre ++ xs) x ++ left_along graph cut limit s pre xs
  along_snoc s pre [] x =
      ap (λ p. left_at graph cut limit s p x) (sym (append-nil pre)) ∙ sym (append-nil (left_at graph cut limit s (pre ++ []) x))
  along_snoc s pre (y ∷ ys) x =
      ap (λ r. r ++ left_at graph cut limit s pre y) (along_snoc s (pre ++ y ∷ []) ys x)
      ∙ append_assoc (left_at graph cut limit s (pre ++ y ∷ [] ++ ys) x) (left_along graph cut limit s (pre ++ y ∷ []) ys) (left_at graph cut limit s pre y)
      ∙ ap (λ p. left_at graph cut limit s p x ++ (left_along graph cut limit s (pre ++ y ∷ []) ys ++ left_at graph cut limit s pre y)) (append_assoc pre (y ∷ []) ys)

  rest_snoc : (s : ℕ) (steps : List Step) (x : Step) → rest graph cut limit s (steps ++ x ∷ []) ≡ left_at graph cut limit s steps x ++ rest graph cut limit s steps
  rest_snoc s steps x =
      ap (λ r. r ++ later graph cut limit s) (along_snoc s [] steps x)
      ∙ append_assoc (left_at graph cut limit s steps x) (left_along graph cut limit s [] steps) (later graph cut limit s)

  work_snoc : (pre xs : List Step) (x : Step) → work_along graph cut limit pre (xs ++ x ∷ []) ≡ work_at graph cut limit (pre ++ xs) x + work_along graph cut limit pre xs
  work_snoc pre [] x =
      let e : work_at graph cut limit pre x ≡ work_at graph cut limit (pre ++ []) x = ap (λ p. work_at graph cut limit p x) (sym (append-nil pre)) in omega arith
  work_snoc pre (y ∷ ys) x =
      let e = work_snoc (pre ++ y ∷ []) ys x in
      let f : work_at graph cut limit (pre ++ y ∷ [] ++ ys) x ≡ work_at graph cut limit (pre ++ y ∷ ys) x = ap (λ p. work_at graph cut limit p x) (append_assoc pre (y ∷ []) ys) in
      omega arith

  rest_work_snoc : (s : ℕ) (steps : List Step) (x : Step) → rest_work graph cut limit s (steps ++ x ∷ []) ≡ work_at graph cut limit steps x + rest_work graph cut limit s steps
  rest_work_snoc s steps x = let e = work_snoc [] steps x in omega arith

  -- ---- a choice at a fork

  pub choose_some : (s : ℕ) (steps : List Step) (k c : ℕ) (t : Target) → slice_get (targets k) c ≡ Some t
      → left graph cut limit s (steps ++ Choice k (suc c) ∷ []) (On t) ≡ left graph cut limit s steps (Choose k c)
  choose_some s steps k c t e =
      ap (λ r. ways_on graph cut limit s (steps ++ Choice k (suc c) ∷ []) t ++ r) (rest_snoc s steps (Choice k (suc c)))
      ∙ ap (λ n. ways graph cut s n (steps ++ Choice k (suc c) ∷ []) t ++ (turns_left graph cut limit s steps k (suc c) ++ rest graph cut limit s steps)) (more_fuel steps (Choice k (suc c)))
      ∙ sym (append_assoc (ways graph cut s (fuel steps) (steps ++ Choice k (suc c) ∷ []) t) (turns_left graph cut limit s steps k (suc c)) (rest graph cut limit s steps))
      ∙ ap (λ ts. by_each graph cut s (ways graph cut s (fuel steps)) steps k c ts ++ rest graph cut limit s steps) (sym (next_of (targets k) c t e))

  pub choose_none : (s : ℕ) (steps : List Step) (k c : ℕ) → slice_get (targets k) c ≡ None
      → left graph cut limit s steps Back ≡ left graph cut limit s steps (Choose k c)
  choose_none s steps k c e =
      ap (λ ts. by_each graph cut s (ways graph cut s (fuel steps)) steps k c ts ++ rest graph cut limit s steps) (sym (none_of (targets k) c e))

  -- where there is no room for one more step, no way goes on
  no_fuel : (steps : List Step) → limit ≤ length steps → fuel steps ≡ 0
  no_fuel steps le = omega arith

  none_by_each : (s : ℕ) (steps : List Step) (k c : ℕ) (ts : List Target) → by_each graph cut s (ways graph cut s 0) steps k c ts ≡ []
  none_by_each s steps k c [] = refl
  none_by_each s steps k c (t ∷ ts) = none_by_each s steps k (suc c) ts

  pub choose_no_room : (s : ℕ) (steps : List Step) (k c : ℕ) → limit ≤ length steps → left graph cut limit s steps Back ≡ left graph cut limit s steps (Choose k c)
  choose_no_room s steps k c le =
      ap (λ r. r ++ rest graph cut limit s steps)
      (sym (ap (λ n. by_each graph cut s (ways graph cut s n) steps k c (drop c (targets k))) (no_fuel steps le) ∙ none_by_each s steps k c (drop c (targets k))))

  less_by_choice : (a b r w l m : ℕ) → l ≡ a → m ≡ 2 + b + r → w ≡ 2 + a + b → suc (l + m) < suc (1 + w + r)
  less_by_choice a b r w l m e f g = omega arith

  pub choose_work : (s : ℕ) (steps : List Step) (k c : ℕ) (t : Target) → slice_get (targets k) c ≡ Some t
      → stage_work graph cut limit s (steps ++ Choice k (suc c) ∷ []) (On t) < stage_work graph cut limit s steps (Choose k c)
  choose_work s steps k c t e =
      less_by_choice (work graph cut limit (fuel steps) t) (turns_work graph cut limit steps k (suc c)) (rest_work graph cut limit s steps) (turns_work graph cut limit steps k c)
      (work graph cut limit (limit - length (steps ++ Choice k (suc c) ∷ [])) t) (rest_work graph cut limit s (steps ++ Choice k (suc c) ∷ []))
      (ap (λ n. work graph cut limit n t) (more_fuel steps (Choice k (suc c)))) (rest_work_snoc s steps (Choice k (suc c)))
      (ap (λ ts. each_work graph cut limit (work graph cut limit (fuel steps)) ts) (next_of (targets k) c t e))

  less_by_none : (w r : ℕ) → suc r < suc (1 + w + r)
  less_by_none w r = omega arith

  pub none_work : (s : ℕ) (steps : List Step) (k c : ℕ) → stage_work graph cut limit s steps Back < stage_work graph cut limit s steps (Choose k c)
  none_work s steps k c = less_by_none (turns_work graph cut limit steps k c) (rest_work graph cut limit s steps)

  -- ---- through a statement

  pub enter_some : (s : ℕ) (steps : List Step) (p : ℕ) (t : Target) → slice_get graph.starts p ≡ Some t
      → left graph cut limit s (steps ++ At p ∷ []) (On t) ≡ behind_statement graph cut s (ways_on graph cut limit s) steps p (slice_get graph.starts p) ++ rest graph cut limit s steps
  enter_some s steps p t e =
      ap (λ r. ways_on graph cut limit s (steps ++ At p ∷ []) t ++ r) (rest_snoc s steps (At p))
      ∙ ap (λ o. behind_statement graph cut s (ways_on graph cut limit s) steps p o ++ rest graph cut limit s steps) (sym e)

  pub enter_none : (s : ℕ) (steps : List Step) (p : ℕ) → slice_get graph.starts p ≡ None
      → left graph cut limit s steps Back ≡ behind_statement graph cut s (ways_on graph cut limit s) steps p (slice_get graph.starts p) ++ rest graph cut limit s steps
  enter_none s steps p e = ap (λ o. behind_statement graph cut s (ways_on graph cut limit s) steps p o ++ rest graph cut limit s steps) (sym e)

  none_behind : (s : ℕ) (steps : List Step) (p : ℕ) (o : Option Target) → limit ≤ length steps → behind_statement graph cut s (ways_on graph cut limit s) steps p o ≡ []
  none_behind s steps p None le = refl
  none_behind s steps p (Some t) le = ap (λ n. ways graph cut s n (steps ++ At p ∷ []) t) (more_fuel steps (At p) ∙ no_fuel steps le)

  pub enter_no_room : (s : ℕ) (steps : List Step) (p : ℕ) → limit ≤ length steps
      → left graph cut limit s steps Back ≡ behind_statement graph cut s (ways_on graph cut limit s) steps p (slice_get graph.starts p) ++ rest graph cut limit s steps
  enter_no_room s steps p le = ap (λ r. r ++ rest graph cut limit s steps) (sym (none_behind s steps p (slice_get graph.starts p) le))

  no_more : (a r w l m : ℕ) → l ≡ a → m ≡ 1 + r → w ≡ suc a → suc (l + m) ≤ suc (w + r)
  no_more a r w l m e f g = omega arith

  pub enter_work : (s : ℕ) (steps : List Step) (p : ℕ) (t : Target) → slice_get graph.starts p ≡ Some t
      → stage_work graph cut limit s (steps ++ At p ∷ []) (On t)
      ≤ suc (statement_work graph cut limit (work graph cut limit (fuel steps)) (slice_get graph.starts p) + rest_work graph cut limit s steps)
  enter_work s steps p t e =
      no_more (work graph cut limit (fuel steps) t) (rest_work graph cut limit s steps) (statement_work graph cut limit (work graph cut limit (fuel steps)) (slice_get graph.starts p))
      (work graph cut limit (limit - length (steps ++ At p ∷ [])) t) (rest_work graph cut limit s (steps ++ At p ∷ []))
      (ap (λ n. work graph cut limit n t) (more_fuel steps (At p))) (rest_work_snoc s steps (At p))
      (ap (λ o. statement_work graph cut limit (work graph cut limit (fuel steps)) o) e)

  no_less : (w r : ℕ) → suc r ≤ suc (w + r)
  no_less w r = omega arith

  pub stop_work : (s : ℕ) (steps : List Step) (p : ℕ)
      → stage_work graph cut limit s steps Back ≤ suc (statement_work graph cut limit (work graph cut limit (fuel steps)) (slice_get graph.starts p) + rest_work graph cut limit s steps)
  stop_work s steps p = no_less (statement_work graph cut limit (work graph cut limit (fuel steps)) (slice_get graph.starts p)) (rest_work graph cut limit s steps)

  -- ---- on from a target

  pub limit_left : (s : ℕ) (steps : List Step) (t : Target) → limit ≤ length steps → left graph cut limit s steps Back ≡ left graph cut limit s steps (On t)
  limit_left s steps t le =
      let e : limit - length steps ≡ 0 = omega arith in
      ap (λ n. ways graph cut s n steps t ++ rest graph cut limit s steps) (sym e)

  less_by_one : (w r : ℕ) → w ≡ 1 → suc r < suc (w + r)
  less_by_one w r e = omega arith

  pub limit_work : (s : ℕ) (steps : List Step) (t : Target) → limit ≤ length steps → stage_work graph cut limit s steps Back < stage_work graph cut limit s steps (On t)
  limit_work s steps t le =
      let e : limit - length steps ≡ 0 = omega arith in
      less_by_one (work graph cut limit (limit - length steps) t) (rest_work graph cut limit s steps) (ap (λ n. work graph cut limit n t) e)

  pub fork_left : (s : ℕ) (steps : List Step) (k : ℕ) → length steps < limit → left graph cut limit s steps (Choose k 0) ≡ left graph cut limit s steps (On (AtFork k))
  fork_left s steps k lt = ap (λ n. ways graph cut s n steps (AtFork k) ++ rest graph cut limit s steps) (sym (fuel_more limit (length steps) lt))

  less_by_two : (v w r : ℕ) → w ≡ 2 + v → suc (1 + v + r) < suc (w + r)
  less_by_two v w r e = omega arith

  pub fork_work : (s : ℕ) (steps : List Step) (k : ℕ) → length steps < limit → stage_work graph cut limit s steps (Choose k 0) < stage_work graph cut limit s steps (On (AtFork k))
  fork_work s steps k lt =
      less_by_two (turns_work graph cut limit steps k 0) (work graph cut limit (limit - length steps) (AtFork k)) (rest_work graph cut limit s steps)
      (ap (λ n. work graph cut limit n (AtFork k)) (fuel_more limit (length steps) lt))

  pub end_left : (s : ℕ) (steps : List Step) (q : ℕ) → length steps < limit → cut q ≡ true → left graph cut limit s steps (Ended q) ≡ left graph cut limit s steps (On (Point q))
  end_left s steps q lt e =
      ap (λ b. end_or graph cut s b steps q (behind_statement graph cut s (ways graph cut s (fuel steps)) steps q (slice_get graph.starts q)) ++ rest graph cut limit s steps) (sym e)
      ∙ ap (λ n. ways graph cut s n steps (Point q) ++ rest graph cut limit s steps) (sym (fuel_more limit (length steps) lt))

  above_nothing : (w : ℕ) → 0 < suc w
  above_nothing w = omega arith

  pub end_work : (s : ℕ) (steps : List Step) (q : ℕ) (t : Target) → stage_work graph cut limit s steps (Ended q) < stage_work graph cut limit s steps (On t)
  end_work s steps q t = above_nothing (work graph cut limit (limit - length steps) t + rest_work graph cut limit s steps)

  behind_same : (s : ℕ) (steps : List Step) (p : ℕ) (o : Option Target)
      → behind_statement graph cut s (ways_on graph cut limit s) steps p o ≡ behind_statement graph cut s (ways graph cut s (fuel steps)) steps p o
  behind_same s steps p None = refl
  behind_same s steps p (Some t) = ap (λ n. ways graph cut s n (steps ++ At p ∷ []) t) (more_fuel steps (At p))

  pub pass_left : (s : ℕ) (steps : List Step) (q : ℕ) → length steps < limit → cut q ≡ false
      → behind_statement graph cut s (ways_on graph cut limit s) steps q (slice_get graph.starts q) ++ rest graph cut limit s steps ≡ left graph cut limit s steps (On (Point q))
  pass_left s steps q lt e =
      ap (λ r. r ++ rest graph cut limit s steps) (behind_same s steps q (slice_get graph.starts q))
      ∙ ap (λ b. end_or graph cut s b steps q (behind_statement graph cut s (ways graph cut s (fuel steps)) steps q (slice_get graph.starts q)) ++ rest graph cut limit s steps) (sym e)
      ∙ ap (λ n. ways graph cut s n steps (Point q) ++ rest graph cut limit s steps) (sym (fuel_more limit (length steps) lt))

  less_by_pass : (n v w r : ℕ) → n ≤ suc (v + r) → w ≡ 2 + v → n < suc (w + r)
  less_by_pass n v w r h e = omega arith

  pub pass_work : (s : ℕ) (steps : List Step) (q n : ℕ) → length steps < limit → cut q ≡ false
      → n ≤ suc (statement_work graph cut limit (work graph cut limit (fuel steps)) (slice_get graph.starts q) + rest_work graph cut limit s steps)
      → n < stage_work graph cut limit s steps (On (Point q))
  pass_work s steps q n lt e h =
      less_by_pass n (statement_work graph cut limit (work graph cut limit (fuel steps)) (slice_get graph.starts q)) (work graph cut limit (limit - length steps) (Point q)) (rest_work graph cut limit s steps) h
      (ap (λ m. work graph cut limit m (Point q)) (fuel_more limit (length steps) lt)
      ∙ ap (λ b. 2 + point_work graph cut limit b (statement_work graph cut limit (work graph cut limit (fuel steps)) (slice_get graph.starts q))) e)

  -- ---- a step is undone

  pub undo_at : (s : ℕ) (steps : List Step) (p : ℕ) → left graph cut limit s steps Back ≡ left graph cut limit s (steps ++ At p ∷ []) Back
  undo_at s steps p = sym (rest_snoc s steps (At p))

  pub undo_choice : (s : ℕ) (steps : List Step) (k c : ℕ) → left graph cut limit s steps (Choose k c) ≡ left graph cut limit s (steps ++ Choice k c ∷ []) Back
  undo_choice s steps k c = sym (rest_snoc s steps (Choice k c))

  pub undo_at_work : (s : ℕ) (steps : List Step) (p : ℕ) → stage_work graph cut limit s steps Back < stage_work graph cut limit s (steps ++ At p ∷ []) Back
  undo_at_work s steps p = let e = rest_work_snoc s steps (At p) in omega arith

  pub undo_choice_work : (s : ℕ) (steps : List Step) (k c : ℕ) → stage_work graph cut limit s steps (Choose k c) < stage_work graph cut limit s (steps ++ Choice k c ∷ []) Back
  undo_choice_work s steps k c = let e = rest_work_snoc s steps (Choice k c) in omega arith

  -- ---- the next start

  pub last_start : (s : ℕ) → slice_get graph.cuts s ≡ None → left graph cut limit s [] Over ≡ left graph cut limit s [] Back
  last_start s e = ap (λ ps. ways_from graph cut limit (suc s) ps) (sym (none_of graph.cuts s e))

  pub next_start : (s p : ℕ) → slice_get graph.cuts s ≡ Some p
      → behind_statement graph cut (suc s) (ways_on graph cut limit (suc s)) [] p (slice_get graph.starts p) ++ rest graph cut limit (suc s) [] ≡ left graph cut limit s [] Back
  next_start s p e = ap (λ ps. ways_from graph cut limit (suc s) ps) (sym (next_of graph.cuts s p e))

  pub last_work : (s : ℕ) → stage_work graph cut limit s [] Over < stage_work graph cut limit s [] Back
  last_work s = above_nothing (rest_work graph cut limit s [])

  less_by_start : (n v w r : ℕ) → n ≤ suc (v + r) → w ≡ 2 + v + r → n < suc w
  less_by_start n v w r h e = omega arith

  pub start_work : (s p n : ℕ) → slice_get graph.cuts s ≡ Some p
      → n ≤ suc (statement_work graph cut limit (work graph cut limit (limit - 1)) (slice_get graph.starts p) + rest_work graph cut limit (suc s) [])
      → n < stage_work graph cut limit s [] Back
  start_work s p n e h =
      less_by_start n (statement_work graph cut limit (work graph cut limit (limit - 1)) (slice_get graph.starts p)) (rest_work graph cut limit s []) (rest_work graph cut limit (suc s) []) h
      (let f : work_from graph cut limit (drop s graph.cuts) ≡ 2 + statement_work graph cut limit (work graph cut limit (limit - 1)) (slice_get graph.starts p) + work_from graph cut limit (drop (suc s) graph.cuts)
      = ap (λ ps. work_from graph cut limit ps) (next_of graph.cuts s p e) in omega arith)
