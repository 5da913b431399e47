-- The greatest needs of called units are enough for each call.
use Rattle.std.proofs.Common.{◌≡◌, ◌≢◌, ℕ, zero, suc, ◌+◌, ◌<◌, ◌≤◌, List, [], ◌∷◌, length, Option, Some, None, slice_get, refl, sym, ap, ◌∙◌, subst, arith}
use Rattle.std.specs.Prelude.{get_or, max}
use Rattle.std.proofs.Math.Nat.{le-max_left, le-max_right}
use Rattle.std.proofs.lemmas.List.{get_or-set_same, get_or-set_other, length-set}
use Rattle.std.proofs.lemmas.Option.{slice_get-get_or, slice_get_within, get_or_from_slice_get}
use Rattle.fort_model.specs.Lists.{IsAmong}
use Rattle.run_shapes.specs.declared.unit_code.CallCode.{CallCode}
use Rattle.run_shapes.specs.declared.unit_code.UnitCode.{UnitCode}
use Rattle.run_ranks.specs.Orders.{StandsBefore, first, later}
use Rattle.run_ranks.specs.Raised.{own_wants, with_callee, with_pair, with_call, with_calls, settled, raised_by, raised, all_raised}
use Rattle.run_ranks.specs.declared.ranks.UnitRank.{UnitRank}
use Rattle.run_ranks.specs.declared.wants.Wants.{Wants}

-- ---- wants

pub record IsUnder (a b : Wants) : Type 0 where
  pub frames : a.frames ≤ b.frames
  pub values : a.values ≤ b.values
  pub names : a.names ≤ b.names
  pub plain : a.plain ≤ b.plain
  pub copies : a.copies ≤ b.copies

under_self : (w : Wants) → IsUnder w w
under_self w = record { frames = omega arith; values = omega arith; names = omega arith; plain = omega arith; copies = omega arith }

under_more : (a b c : Wants) → IsUnder a b → IsUnder b c → IsUnder a c
under_more a b c s t =
    let f : a.frames ≤ b.frames = s.frames in
    let g : b.frames ≤ c.frames = t.frames in
    let h : a.values ≤ b.values = s.values in
    let i : b.values ≤ c.values = t.values in
    let j : a.names ≤ b.names = s.names in
    let k : b.names ≤ c.names = t.names in
    let l : a.plain ≤ b.plain = s.plain in
    let m : b.plain ≤ c.plain = t.plain in
    let n : a.copies ≤ b.copies = s.copies in
    let o : b.copies ≤ c.copies = t.copies in
    record { frames = omega arith; values = omega arith; names = omega arith; plain = omega arith; copies = omega arith }

-- what is wanted holds the needs of a called unit with so many dummies
pub record HoldsPair (r : UnitRank) (w : Wants) (n : ℕ) (callee : UnitRank) : Type 0 where
  pub frames : suc callee.frames ≤ w.frames
  pub values : r.long + callee.values ≤ w.values
  pub names : r.slots + callee.names ≤ w.names
  pub plain : r.cells + callee.plain ≤ w.plain
  pub copies : n + callee.copies ≤ w.copies

held_more : (r : UnitRank) (a b : Wants) (n : ℕ) (c : UnitRank) → HoldsPair r a n c → IsUnder a b → HoldsPair r b n c
held_more r a b n c s t =
    let f : suc c.frames ≤ a.frames = s.frames in
    let g : a.frames ≤ b.frames = t.frames in
    let h : r.long + c.values ≤ a.values = s.values in
    let i : a.values ≤ b.values = t.values in
    let j : r.slots + c.names ≤ a.names = s.names in
    let k : a.names ≤ b.names = t.names in
    let l : r.cells + c.plain ≤ a.plain = s.plain in
    let m : a.plain ≤ b.plain = t.plain in
    let o : n + c.copies ≤ a.copies = s.copies in
    let q : a.copies ≤ b.copies = t.copies in
    record { frames = omega arith; values = omega arith; names = omega arith; plain = omega arith; copies = omega arith }

callee_held : (r : UnitRank) (w : Wants) (n : ℕ) (c : UnitRank) → HoldsPair r (with_callee r w n c) n c
callee_held r w n c = record {
  frames = let m : c.frames + 1 ≤ max w.frames (c.frames + 1) = le-max_right w.frames (c.frames + 1) in omega arith;
  values = le-max_right w.values (r.long + c.values);
  names = le-max_right w.names (r.slots + c.names);
  plain = le-max_right w.plain (r.cells + c.plain);
  copies = le-max_right w.copies (n + c.copies);
}

callee_under : (r : UnitRank) (w : Wants) (n : ℕ) (c : UnitRank) → IsUnder w (with_callee r w n c)
callee_under r w n c = record {
  frames = le-max_left w.frames (c.frames + 1);
  values = le-max_left w.values (r.long + c.values);
  names = le-max_left w.names (r.slots + c.names);
  plain = le-max_left w.plain (r.cells + c.plain);
  copies = le-max_left w.copies (n + c.copies);
}

pair_under : (r : UnitRank) (w : Wants) (c : Option UnitCode) (callee : Option UnitRank) → IsUnder w (with_pair r w c callee)
pair_under r w None callee = under_self w
pair_under r w (Some c) None = under_self w
pair_under r w (Some c) (Some callee) = callee_under r w c.slots.dummies callee

module _ (codes : List UnitCode) (ranks : List UnitRank) (r : UnitRank) where
  call_under : (w : Wants) (j : Option ℕ) → IsUnder w (with_call codes ranks r w j)
  call_under w None = under_self w
  call_under w (Some j) = pair_under r w (slice_get codes j) (slice_get ranks j)

  pub calls_under : (w : Wants) (calls : List CallCode) → IsUnder w (with_calls codes ranks r w calls)
  calls_under w [] = under_self w
  calls_under w (call ∷ calls) =
      under_more w (with_call codes ranks r w call.callee) (with_calls codes ranks r (with_call codes ranks r w call.callee) calls) (call_under w call.callee)
      (calls_under (with_call codes ranks r w call.callee) calls)

  module _ (j : ℕ) (c : UnitCode) (callee : UnitRank) (code_at : slice_get codes j ≡ Some c) (rank_at : slice_get ranks j ≡ Some callee) where
    call_held : (w : Wants) (o : Option ℕ) → o ≡ Some j → HoldsPair r (with_call codes ranks r w o) c.slots.dummies callee
    call_held w o e =
        subst (λ (z : Option ℕ). HoldsPair r (with_call codes ranks r w z) c.slots.dummies callee) (sym e)
        (subst (λ (z : Option UnitCode). HoldsPair r (with_pair r w z (slice_get ranks j)) c.slots.dummies callee) (sym code_at)
        (subst (λ (z : Option UnitRank). HoldsPair r (with_pair r w (Some c) z) c.slots.dummies callee) (sym rank_at) (callee_held r w c.slots.dummies callee)))

    pub calls_hold : (w : Wants) (calls : List CallCode) (k : ℕ) (call : CallCode) → slice_get calls k ≡ Some call → call.callee ≡ Some j
        → HoldsPair r (with_calls codes ranks r w calls) c.slots.dummies callee
    calls_hold w [] k call at is = absurd (cc)
    calls_hold w (x ∷ calls) zero call at is =
        let same : x ≡ call = cc in
        held_more r (with_call codes ranks r w x.callee) (with_calls codes ranks r (with_call codes ranks r w x.callee) calls) c.slots.dummies callee
        (call_held w x.callee (ap (λ (z : CallCode). z.callee) same ∙ is)) (calls_under (with_call codes ranks r w x.callee) calls)
    calls_hold w (x ∷ calls) (suc k) call at is = calls_hold (with_call codes ranks r w x.callee) calls k call at is

-- ---- one unit is raised

same_or : {C : Type 0} (i j : ℕ) → (i ≡ j → C) → (i ≢ j → C) → C
same_or zero zero f g = f refl
same_or zero (suc j) f g = g (λ e. absurd (cc))
same_or (suc i) zero f g = g (λ e. absurd (cc))
same_or (suc i) (suc j) f g = same_or i j (λ e. f (ap suc e)) (λ n. g (λ e. n (let s : i ≡ j = cc in s)))

module _ (codes : List UnitCode) (ranks : List UnitRank) (i : ℕ) where
  other_by : (c : Option UnitCode) (r : Option UnitRank) (j : ℕ) (d : UnitRank) → j ≢ i → get_or (raised_by codes ranks i c r) j d ≡ get_or ranks j d
  other_by None r j d h = refl
  other_by (Some c) None j d h = refl
  other_by (Some c) (Some r) j d h = get_or-set_other ranks i j (settled r (with_calls codes ranks r (own_wants r) c.calls)) d h

  pub other_same : (j : ℕ) (d : UnitRank) → j ≢ i → get_or (raised codes ranks i) j d ≡ get_or ranks j d
  other_same j d h = other_by (slice_get codes i) (slice_get ranks i) j d h

  long_by : (c : Option UnitCode) (r : Option UnitRank) → length (raised_by codes ranks i c r) ≡ length ranks
  long_by None r = refl
  long_by (Some c) None = refl
  long_by (Some c) (Some r) = length-set ranks i (settled r (with_calls codes ranks r (own_wants r) c.calls))

  pub long_same : length (raised codes ranks i) ≡ length ranks
  long_same = long_by (slice_get codes i) (slice_get ranks i)

  pub raised_here : (c : UnitCode) (d : UnitRank) → slice_get codes i ≡ Some c → i < length ranks
      → get_or (raised codes ranks i) i d ≡ settled (get_or ranks i d) (with_calls codes ranks (get_or ranks i d) (own_wants (get_or ranks i d)) c.calls)
  raised_here c d at h =
      ap (λ (o : Option UnitCode). get_or (raised_by codes ranks i o (slice_get ranks i)) i d) at
      ∙ (ap (λ (o : Option UnitRank). get_or (raised_by codes ranks i (Some c) o) i d) (slice_get-get_or ranks i d h)
      ∙ get_or-set_same ranks i (settled (get_or ranks i d) (with_calls codes ranks (get_or ranks i d) (own_wants (get_or ranks i d)) c.calls)) d h)

-- ---- what a unit needs itself stays, and is among its needs

pub record HasItself (r : UnitRank) : Type 0 where
  pub values : r.long ≤ r.values
  pub names : r.slots ≤ r.names
  pub plain : r.cells ≤ r.plain

pub record IsKept (a b : UnitRank) : Type 0 where
  pub own : b.own ≡ a.own
  pub cells : b.cells ≡ a.cells
  pub slots : b.slots ≡ a.slots
  pub long : b.long ≡ a.long
  pub itself : HasItself a → HasItself b

kept_self : (r : UnitRank) → IsKept r r
kept_self r = record { own = refl; cells = refl; slots = refl; long = refl; itself = λ h. h }

kept_more : (a b c : UnitRank) → IsKept a b → IsKept b c → IsKept a c
kept_more a b c s t = record { own = t.own ∙ s.own; cells = t.cells ∙ s.cells; slots = t.slots ∙ s.slots; long = t.long ∙ s.long; itself = λ h. t.itself (s.itself h) }

kept_settled : (codes : List UnitCode) (ranks : List UnitRank) (r : UnitRank) (calls : List CallCode) → IsKept r (settled r (with_calls codes ranks r (own_wants r) calls))
kept_settled codes ranks r calls =
    let u : IsUnder (own_wants r) (with_calls codes ranks r (own_wants r) calls) = calls_under codes ranks r (own_wants r) calls in
    record { own = refl; cells = refl; slots = refl; long = refl; itself = λ h. record { values = u.values; names = u.names; plain = u.plain } }

module _ (codes : List UnitCode) (ranks : List UnitRank) (i j : ℕ) (d : UnitRank) where
  kept_by : (c : Option UnitCode) (r : Option UnitRank) → slice_get ranks i ≡ r → IsKept (get_or ranks j d) (get_or (raised_by codes ranks i c r) j d)
  kept_by None r e = kept_self (get_or ranks j d)
  kept_by (Some c) None e = kept_self (get_or ranks j d)
  kept_by (Some c) (Some r) e =
      same_or j i
      (λ same.
      subst (λ (n : ℕ). IsKept (get_or ranks n d) (get_or (raised_by codes ranks i (Some c) (Some r)) n d)) (sym same)
      (subst (IsKept (get_or ranks i d)) (sym (get_or-set_same ranks i (settled r (with_calls codes ranks r (own_wants r) c.calls)) d (slice_get_within ranks i r e)))
      (subst (λ (z : UnitRank). IsKept z (settled r (with_calls codes ranks r (own_wants r) c.calls))) (sym (get_or_from_slice_get ranks i r d e)) (kept_settled codes ranks r c.calls))))
      (λ other. subst (IsKept (get_or ranks j d)) (sym (other_by codes ranks i (Some c) (Some r) j d other)) (kept_self (get_or ranks j d)))

  kept_one : IsKept (get_or ranks j d) (get_or (raised codes ranks i) j d)
  kept_one = kept_by (slice_get codes i) (slice_get ranks i) refl

pub all_kept : (codes : List UnitCode) (order : List ℕ) (ranks : List UnitRank) (j : ℕ) (d : UnitRank) → IsKept (get_or ranks j d) (get_or (all_raised codes ranks order) j d)
all_kept codes [] ranks j d = kept_self (get_or ranks j d)
all_kept codes (i ∷ order) ranks j d =
    kept_more (get_or ranks j d) (get_or (raised codes ranks i) j d) (get_or (all_raised codes (raised codes ranks i) order) j d) (kept_one codes ranks i j d)
    (all_kept codes order (raised codes ranks i) j d)

pub all_long : (codes : List UnitCode) (order : List ℕ) (ranks : List UnitRank) → length (all_raised codes ranks order) ≡ length ranks
all_long codes [] ranks = refl
all_long codes (i ∷ order) ranks = all_long codes order (raised codes ranks i) ∙ long_same codes ranks i

-- ---- the needs of each called unit are held

-- no number stands twice
abbrev pub AreOnce : List ℕ → Type 0
AreOnce [] = Unit {0}
AreOnce (i ∷ is) = (IsAmong i is → ⊥) × AreOnce is

fixed : (codes : List UnitCode) (is : List ℕ) (ranks : List UnitRank) (x : ℕ) (d : UnitRank) → (IsAmong x is → ⊥) → get_or (all_raised codes ranks is) x d ≡ get_or ranks x d
fixed codes [] ranks x d never = refl
fixed codes (y ∷ is) ranks x d never =
    fixed codes is (raised codes ranks y) x d (λ m. never (suc m.0, m.1)) ∙ other_same codes ranks y x d (λ e. never (0, ap Some (sym e)))

abbrev pub wants_in : UnitRank → Wants
wants_in r = record { frames = r.frames; values = r.values; names = r.names; plain = r.plain; copies = r.copies }

packed : (r : UnitRank) (w : Wants) (n : ℕ) (c : UnitRank) → HoldsPair r w n c → HoldsPair (settled r w) (wants_in (settled r w)) n c
packed r w n c h = record { frames = h.frames; values = h.values; names = h.names; plain = h.plain; copies = h.copies }

-- the unit of number i holds the needs of that of number j
abbrev pub Holds : List UnitRank → UnitRank → ℕ → ℕ → ℕ → Type 0
Holds ranks d i j n = HoldsPair (get_or ranks i d) (wants_in (get_or ranks i d)) n (get_or ranks j d)

module _ (codes : List UnitCode) (d : UnitRank) (i j k : ℕ) (c e : UnitCode) (call : CallCode) (caller_at : slice_get codes i ≡ Some c) (callee_at : slice_get codes j ≡ Some e)
    (call_at : slice_get c.calls k ≡ Some call) (is_of : call.callee ≡ Some j) where
  at_caller : (ranks : List UnitRank) → i < length ranks → j < length ranks → j ≢ i → Holds (raised codes ranks i) d i j e.slots.dummies
  at_caller ranks hi hj unlike =
      let r : UnitRank = get_or ranks i d in
      let w : Wants = with_calls codes ranks (get_or ranks i d) (own_wants (get_or ranks i d)) c.calls in
      let held : HoldsPair (get_or ranks i d) (with_calls codes ranks (get_or ranks i d) (own_wants (get_or ranks i d)) c.calls) e.slots.dummies (get_or ranks j d) =
      calls_hold codes ranks (get_or ranks i d) j e (get_or ranks j d) callee_at (slice_get-get_or ranks j d hj) (own_wants (get_or ranks i d)) c.calls k call call_at is_of in
      subst (λ (z : UnitRank). HoldsPair z (wants_in z) e.slots.dummies (get_or (raised codes ranks i) j d)) (sym (raised_here codes ranks i c d caller_at hi))
      (subst (λ (z : UnitRank). HoldsPair (settled (get_or ranks i d) w) (wants_in (settled (get_or ranks i d) w)) e.slots.dummies z) (sym (other_same codes ranks i j d unlike))
      (packed (get_or ranks i d) w e.slots.dummies (get_or ranks j d) held))

  then_fixed : (is : List ℕ) (ranks : List UnitRank) → (IsAmong i is → ⊥) → (IsAmong j is → ⊥) → Holds ranks d i j e.slots.dummies → Holds (all_raised codes ranks is) d i j e.slots.dummies
  then_fixed is ranks no_i no_j h =
      subst (λ (z : UnitRank). HoldsPair z (wants_in z) e.slots.dummies (get_or (all_raised codes ranks is) j d)) (sym (fixed codes is ranks i d no_i))
      (subst (λ (z : UnitRank). HoldsPair (get_or ranks i d) (wants_in (get_or ranks i d)) e.slots.dummies z) (sym (fixed codes is ranks j d no_j)) h)

  within : (ranks : List UnitRank) (y x : ℕ) → x < length ranks → x < length (raised codes ranks y)
  within ranks y x h = subst (λ (n : ℕ). x < n) (sym (long_same codes ranks y)) h

  later_caller : (is : List ℕ) (ranks : List UnitRank) → AreOnce is → (IsAmong j is → ⊥) → IsAmong i is → i < length ranks → j < length ranks → Holds (all_raised codes ranks is) d i j e.slots.dummies
  later_caller [] ranks once never m hi hj = absurd (cc)
  later_caller (y ∷ is) ranks once never (zero, q) hi hj =
      let same : y ≡ i = cc in
      then_fixed is (raised codes ranks y) (λ m. once.0 (subst (λ (n : ℕ). IsAmong n is) (sym same) m)) (λ m. never (suc m.0, m.1))
      (subst (λ (n : ℕ). Holds (raised codes ranks n) d i j e.slots.dummies) (sym same) (at_caller ranks hi hj (λ (twin : j ≡ i). never (0, q ∙ ap Some (sym twin)))))
  later_caller (y ∷ is) ranks once never (suc n, q) hi hj =
      later_caller is (raised codes ranks y) once.1 (λ m. never (suc m.0, m.1)) (n, q) (within ranks y i hi) (within ranks y j hj)

  pub any_caller : (order : List ℕ) (ranks : List UnitRank) → AreOnce order → StandsBefore j i order → i < length ranks → j < length ranks → Holds (all_raised codes ranks order) d i j e.slots.dummies
  any_caller [] ranks once b hi hj = elim b [ ]
  any_caller (y ∷ is) ranks once (first is' m) hi hj = later_caller is (raised codes ranks j) once.1 once.0 m (within ranks j i hi) (within ranks j j hj)
  any_caller (y ∷ is) ranks once (later y' is' b) hi hj = any_caller is (raised codes ranks y) once.1 b (within ranks y i hi) (within ranks y j hj)
