-- The sooner of what units before told and of the fault of a unit.
use Rattle.std.proofs.Common.{◌≡◌, ℕ, zero, suc, ◌+◌, ◌<◌, ◌⊎◌, inl, inr, List, [], ◌∷◌, length, Option, Some, slice_get, sym, ◌∙◌, subst, arith}
use Rattle.fort_syntax.specs.declared.rule.Rule.{Rule}
use Rattle.fort_syntax.specs.declared.unit.Unit.{Unit as Routine}
use Rattle.fort_model.specs.Program.{Program}
use Rattle.fort_model.specs.Rules.{Breaks, IsBroken}
use Rattle.fort_model.specs.Stages.{IsBrokenOf}
use Rattle.unit_faults.specs.Breaking.{BreaksOneOf}
use Rattle.unit_faults.specs.Sooner.{sooner}
use Rattle.unit_faults.proofs.Least.{sooner_tells, tells_of}
use Rattle.unit_stages.specs.Before.{IsBrokenBefore, NoneBefore, OneMore, AllBefore, KeptByAll}

pub none_before : NoneBefore
none_before p rules rule card h = (let lt : h.unit < 0 = h.before in absurd (omega (arith, lt)))

-- ---- one more

module _ (p : Program) (rules : List Rule) (n : ℕ) (u : Routine) (at : slice_get p.units n ≡ Some u) where
  abbrev Either : Rule → ℕ → Type 0
  Either rule card = IsBrokenBefore p rules n rule card ⊎ BreaksOneOf p rules n u rule card

  last_or : (k : ℕ) → k < n + 1 → (k < n) ⊎ (k ≡ n)
  last_or k h = grind arith

  to : (rule : Rule) (card : ℕ) → Either rule card → IsBrokenBefore p rules (n + 1) rule card
  to rule card (inl h) = record { among = h.among; unit = h.unit; before = (let lt : h.unit < n = h.before in omega (arith, lt)); broken = h.broken }
  to rule card (inr h) = record { among = h.among; unit = n; before = omega arith; broken = record { unit = u; is_unit = at; breaks = h.breaks } }

  same_unit : (a b : Routine) → ◌≡◌ {A = Option Routine} (Some a) (Some b) → a ≡ b
  same_unit a b e = cc

  back : (rule : Rule) (card : ℕ) → IsBrokenBefore p rules (n + 1) rule card → Either rule card
  back rule card h = by (last_or h.unit h.before)
    where
      by : (h.unit < n) ⊎ (h.unit ≡ n) → Either rule card
      by (inl lt) = inl (record { among = h.among; unit = h.unit; before = lt; broken = h.broken })
      by (inr e) =
          let b = subst (λ (k : ℕ). IsBroken p rule k card) e h.broken in
          let same = same_unit b.unit u (sym b.is_unit ∙ at) in
          inr (record { among = h.among; breaks = subst (λ (v : Routine). Breaks p rule n v card) same b.breaks })

pub one_more : OneMore
one_more p rules n u told fault at before here =
    tells_of (Either p rules n u at) (IsBrokenBefore p rules (n + 1)) (to p rules n u at) (back p rules n u at) (sooner told fault)
    (sooner_tells (IsBrokenBefore p rules n) (BreaksOneOf p rules n u) told fault before here)

-- ---- all of them

is_inside : {A : Type 0} (xs : List A) (k : ℕ) (x : A) → slice_get xs k ≡ Some x → k < length xs
is_inside [] k x e = absurd cc
is_inside (y ∷ xs) zero x e = omega arith
is_inside (y ∷ xs) (suc k) x e = (let lt : k < length xs = is_inside xs k x e in omega (arith, lt))

pub all_before : AllBefore
all_before p rules told h =
    tells_of (IsBrokenBefore p rules (length p.units)) (IsBrokenOf p rules)
    (λ rule card b. record { among = b.among; unit = b.unit; broken = b.broken })
    (λ rule card b. record { among = b.among; unit = b.unit; before = is_inside p.units b.unit b.broken.unit b.broken.is_unit; broken = b.broken })
    told h

pub kept_by_all : KeptByAll
kept_by_all p rules kept rule among i card broken = kept rule card (record { among = among; unit = i; broken = broken })
