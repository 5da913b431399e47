-- What names weigh in calls, as far as the cap.
use Rattle.std.proofs.Common.{◌≡◌, ℕ, Bool, true, false, cond, List, [], ◌∷◌, ◌++◌, map, length, Option, Some, None, refl, sym, ap, ◌∙◌}
use Rattle.std.specs.Prelude.{codes, sum}
use Rattle.formula.specs.Atoms.{same_bytes, is_among}
use Rattle.formula.specs.Tree.{Tree}
use Rattle.fort_syntax.specs.Names.{has_common, unit_at}
use Rattle.fort_syntax.specs.declared.name.Name.{Name}
use Rattle.fort_syntax.specs.declared.unit.Unit.{Unit as Routine}
use Rattle.fort_model.specs.Program.{Program, notes_of, is_smashed}
use Rattle.fort_model.specs.Seen.{Named}
use Rattle.fort_model.specs.Senses.{note, with_bounds}
use Rattle.fort_model.specs.WalkCalls.{Sight, Operand, Bare, Part, Computed, with_actuals, seen_by, stands_for, smashed_actuals, smashed_commons, hits, changed, stands_after}
use Rattle.path_sizes.specs.Weighed as h
use Rattle.path_sizes.specs.Weights as g
use Rattle.weight_caps.specs.Capped.{capped}
use Rattle.weight_caps.proofs.CappedSums.{cap_terms}
use Rattle.weight_tallies.specs.Tallied as t
use Rattle.weight_tallies.specs.Tallies as c
use Rattle.weight_tallies.proofs.Capping.{Caps, Any, IsCapOf, AreCapsOf, CapNames, then, rests, adds, tests_all, cap_all, cap_cond}

-- ---- terms of notes

bound_by : (b d : Bool) (n m : ℕ) → IsCapOf n m → cond b 1 (cond d 1 m) ≡ capped (cond b 1 (cond d 1 n))
bound_by true d n m e = refl
bound_by false true n m e = refl
bound_by false false n m e = e

cap_note : (before before' now now' : Named ℕ) → CapNames before before' → CapNames now now' → (r : Tree)
    → capped (note g.of_weights before' now' r) ≡ capped (note g.of_weights before now r)
cap_note before before' now now' k l r =
    (λ i. capped (g.term_weight (λ x. bound_by (same_bytes (codes "LEAST") x) (same_bytes (codes "GREATEST") x) (now x) (now' x) (l x) i) (λ x. k x i) r))
    ∙ cap_terms (with_bounds g.of_weights now) before r

pub cap_notes : (v w : Sight ℕ) (before before' now now' : Named ℕ) → v.sense ≡ g.of_weights → w.sense ≡ g.of_weights → CapNames before before' → CapNames now now' → (ts : List Tree)
    → AreCapsOf (g.notes_weights v before now ts) (c.notes_weights w before' now' ts)
cap_notes v w before before' now now' e f k l [] = refl
cap_notes v w before before' now now' e f k l (r ∷ ts) =
    λ i. (here i) ∷ (cap_notes v w before before' now now' e f k l ts i)
  where
    here : capped (note w.sense before' now' r) ≡ capped (note v.sense before now r)
    here = ap (λ s. capped (note s before' now' r)) f ∙ (cap_note before before' now now' k l r ∙ ap (λ s. capped (note s before now r)) (sym e))

-- ---- operands

abbrev pub CapOperand : Operand ℕ → Operand ℕ → Type 0
CapOperand (Bare x n) (Bare y m) = (x ≡ y) × IsCapOf n m
CapOperand (Part n) (Part m) = IsCapOf n m
CapOperand (Computed n) (Computed m) = IsCapOf n m
CapOperand _ _ = ⊥

abbrev pub CapOperands : List (Operand ℕ) → List (Operand ℕ) → Type 0
CapOperands [] [] = Unit {0}
CapOperands [] (y ∷ ys) = ⊥
CapOperands (x ∷ xs) [] = ⊥
CapOperands (x ∷ xs) (y ∷ ys) = CapOperand x y × CapOperands xs ys

stands_capped : (x y : Operand ℕ) → CapOperand x y → stands_for y ≡ capped (stands_for x)
stands_capped (Bare x n) (Bare y m) q = q.1
stands_capped (Part n) (Part m) q = q
stands_capped (Computed n) (Computed m) q = q
stands_capped (Bare x n) (Part m) q = absurd q
stands_capped (Bare x n) (Computed m) q = absurd q
stands_capped (Part n) (Bare y m) q = absurd q
stands_capped (Part n) (Computed m) q = absurd q
stands_capped (Computed n) (Bare y m) q = absurd q
stands_capped (Computed n) (Part m) q = absurd q

all_stand : (xs ys : List (Operand ℕ)) → CapOperands xs ys → AreCapsOf (map stands_for xs) (map stands_for ys)
all_stand [] [] q = refl
all_stand [] (y ∷ ys) q = absurd q
all_stand (x ∷ xs) [] q = absurd q
all_stand (x ∷ xs) (y ∷ ys) q = λ i. stands_capped x y q.0 i ∷ all_stand xs ys q.1 i

module _ (v w : Sight ℕ) where
  after_capped : (after after' : Named ℕ) → CapNames after after' → (x y : Operand ℕ) → CapOperand x y → stands_after w after' y ≡ capped (stands_after v after x)
  after_capped after after' k (Bare x n) (Bare y m) q = ap after' (sym q.0) ∙ k x
  after_capped after after' k (Part n) (Part m) q = q
  after_capped after after' k (Computed n) (Computed m) q = q
  after_capped after after' k (Bare x n) (Part m) q = absurd q
  after_capped after after' k (Bare x n) (Computed m) q = absurd q
  after_capped after after' k (Part n) (Bare y m) q = absurd q
  after_capped after after' k (Part n) (Computed m) q = absurd q
  after_capped after after' k (Computed n) (Bare y m) q = absurd q
  after_capped after after' k (Computed n) (Part m) q = absurd q

  all_after : (after after' : Named ℕ) → CapNames after after' → (xs ys : List (Operand ℕ)) → CapOperands xs ys
      → AreCapsOf (map (stands_after v after) xs) (map (stands_after w after') ys)
  all_after after after' k [] [] q = refl
  all_after after after' k [] (y ∷ ys) q = absurd q
  all_after after after' k (x ∷ xs) [] q = absurd q
  all_after after after' k (x ∷ xs) (y ∷ ys) q = λ i. after_capped after after' k x y q.0 i ∷ all_after after after' k xs ys q.1 i

  -- ---- names

  actuals_capped : (ds : List Name) (ns : List ℕ) (other other' : Named ℕ) → CapNames other other' → CapNames (with_actuals v ds ns other) (with_actuals w ds (map capped ns) other')
  actuals_capped [] ns other other' k x = k x
  actuals_capped (d ∷ ds) [] other other' k x = k x
  actuals_capped (d ∷ ds) (n ∷ ns) other other' k x =
      cap_cond (same_bytes d x) n (with_actuals v ds ns other x) (capped n) (with_actuals w ds (map capped ns) other' x) refl (actuals_capped ds ns other other' k x)

  hit_actuals : (smashed : Name → Bool) (ds : List Name) (xs ys : List (Operand ℕ)) → CapOperands xs ys → smashed_actuals w smashed ds ys ≡ smashed_actuals v smashed ds xs
  hit_actuals smashed [] xs ys q = refl
  hit_actuals smashed (d ∷ ds) [] [] q = refl
  hit_actuals smashed (d ∷ ds) [] (y ∷ ys) q = absurd q
  hit_actuals smashed (d ∷ ds) (x ∷ xs) [] q = absurd q
  hit_actuals smashed (d ∷ ds) (Bare x n ∷ xs) (Bare y m ∷ ys) q =
      let rest = hit_actuals smashed ds xs ys q.1 in
      λ i. cond (smashed d) (sym q.0.0 i ∷ rest i) (rest i)
  hit_actuals smashed (d ∷ ds) (Part n ∷ xs) (Part m ∷ ys) q = hit_actuals smashed ds xs ys q.1
  hit_actuals smashed (d ∷ ds) (Computed n ∷ xs) (Computed m ∷ ys) q = hit_actuals smashed ds xs ys q.1
  hit_actuals smashed (d ∷ ds) (Bare x n ∷ xs) (Part m ∷ ys) q = absurd q.0
  hit_actuals smashed (d ∷ ds) (Bare x n ∷ xs) (Computed m ∷ ys) q = absurd q.0
  hit_actuals smashed (d ∷ ds) (Part n ∷ xs) (Bare y m ∷ ys) q = absurd q.0
  hit_actuals smashed (d ∷ ds) (Part n ∷ xs) (Computed m ∷ ys) q = absurd q.0
  hit_actuals smashed (d ∷ ds) (Computed n ∷ xs) (Bare y m ∷ ys) q = absurd q.0
  hit_actuals smashed (d ∷ ds) (Computed n ∷ xs) (Part m ∷ ys) q = absurd q.0

module _ (p : Program) (i : ℕ) (u : Routine) where
  abbrev pub v : Sight ℕ
  v = c.weighed_at p i u

  abbrev pub w : Sight ℕ
  w = c.weighed_at (c.bare p) i u

  hits_same : (j : ℕ) (r : Routine) (xs ys : List (Operand ℕ)) → CapOperands xs ys → hits w j r ys ≡ hits v j r xs
  hits_same j r xs ys q = ap (λ ns. ns ++ smashed_commons v (is_smashed p j) r) (hit_actuals v w (is_smashed p j) r.dummies xs ys q)

  seen_capped : (r : Routine) (ns ms : List ℕ) (now now' : Named ℕ) → AreCapsOf ns ms → CapNames now now' → CapNames (seen_by v r ns now 1) (seen_by w r ms now' 1)
  seen_capped r ns ms now now' e k x =
      ap (λ ks. seen_by w r ks now' 1 x) e
      ∙ actuals_capped v w r.dummies ns (λ y. cond (same_bytes r.name y) 1 (cond (has_common r y) (now y) 1)) (λ y. cond (same_bytes r.name y) 1 (cond (has_common r y) (now' y) 1))
      (λ y. cap_cond (same_bytes r.name y) 1 (cond (has_common r y) (now y) 1) 1 (cond (has_common r y) (now' y) 1) refl (cap_cond (has_common r y) (now y) 1 (now' y) 1 (k y) refl)) x

  changed_capped : (smashed smashed' : List Name) (now now' : Named ℕ) → smashed' ≡ smashed → CapNames now now' → CapNames (changed v smashed g.all_one now) (changed w smashed' g.all_one now')
  changed_capped smashed smashed' now now' e k x =
      ap (λ xs. cond (is_among x xs) 1 (now' x)) e ∙ cap_cond (is_among x smashed) 1 (now x) 1 (now' x) refl (k x)

  unit_capped : (j : ℕ) (r : Routine) (now now' : Named ℕ) (xs ys : List (Operand ℕ)) → CapNames now now' → CapOperands xs ys
      → Caps CapNames (g.unit_called v j r now xs) (c.unit_called w j r now' ys)
  unit_capped j r now now' xs ys k q =
      then Any CapNames (h.all_tested tested) (t.all_tested tested') (λ z. h.◌>>◌ (h.added (length smashed)) (h.◌>>◌ (h.added (sum last)) (h.weighed after)))
      (λ z. t.◌>>◌ (t.added (capped (length smashed'))) (t.◌>>◌ (t.added (t.all last')) (t.tallied after')))
      (tests_all tested tested' (cap_notes v w before before' before before' refl refl seen seen (notes_of p j).input))
      (λ a b z. then Any CapNames (h.added (length smashed)) (t.added (capped (length smashed'))) (λ z. h.◌>>◌ (h.added (sum last)) (h.weighed after))
      (λ z. t.◌>>◌ (t.added (t.all last')) (t.tallied after')) (adds (length smashed) (capped (length smashed')) (ap (λ ns. capped (length ns)) same))
      (λ a b z. then Any CapNames (h.added (sum last)) (t.added (t.all last')) (λ z. h.weighed after) (λ z. t.tallied after')
      (adds (sum last) (t.all last') (cap_all last last' (cap_notes v w before before' seen_now seen_now' refl refl seen then_seen (notes_of p j).output)))
      (λ a b z. rests CapNames after after' changes)))
    where
      before : Named ℕ
      before = seen_by v r (map stands_for xs) now 1

      before' : Named ℕ
      before' = seen_by w r (map stands_for ys) now' 1

      smashed : List Name
      smashed = hits v j r xs

      smashed' : List Name
      smashed' = hits w j r ys

      same : smashed' ≡ smashed
      same = hits_same j r xs ys q

      after : Named ℕ
      after = changed v smashed g.all_one now

      after' : Named ℕ
      after' = changed w smashed' g.all_one now'

      changes : CapNames after after'
      changes = changed_capped smashed smashed' now now' same k

      seen : CapNames before before'
      seen = seen_capped r (map stands_for xs) (map stands_for ys) now now' (all_stand xs ys q) k

      seen_now : Named ℕ
      seen_now = seen_by v r (map (stands_after v after) xs) after 1

      seen_now' : Named ℕ
      seen_now' = seen_by w r (map (stands_after w after') ys) after' 1

      then_seen : CapNames seen_now seen_now'
      then_seen = seen_capped r (map (stands_after v after) xs) (map (stands_after w after') ys) after after' (all_after v w after after' changes xs ys q) changes

      tested : List ℕ
      tested = g.notes_weights v before before (notes_of p j).input

      tested' : List ℕ
      tested' = c.notes_weights w before' before' (notes_of p j).input

      last : List ℕ
      last = g.notes_weights v before seen_now (notes_of p j).output

      last' : List ℕ
      last' = c.notes_weights w before' seen_now' (notes_of p j).output

  in_capped : (j : ℕ) (o : Option Routine) (now now' : Named ℕ) (xs ys : List (Operand ℕ)) → CapNames now now' → CapOperands xs ys
      → Caps CapNames (g.called_in v j o now xs) (c.called_in w j o now' ys)
  in_capped j None now now' xs ys k q = rests CapNames now now' k
  in_capped j (Some r) now now' xs ys k q = unit_capped j r now now' xs ys k q

  pub call_capped : (o : Option ℕ) (now now' : Named ℕ) (xs ys : List (Operand ℕ)) → CapNames now now' → CapOperands xs ys
      → Caps CapNames (g.called v o now xs) (c.called w o now' ys)
  call_capped None now now' xs ys k q = rests CapNames now now' k
  call_capped (Some j) now now' xs ys k q = in_capped j (unit_at p.units (Some j)) now now' xs ys k q
