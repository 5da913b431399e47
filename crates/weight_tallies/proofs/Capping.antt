-- Parts of paths that come to the same as far as the cap.
use Rattle.std.proofs.Common.{◌≡◌, ℕ, suc, ◌+◌, ◌*◌, Bool, true, false, cond, List, ◌∷◌, ◌++◌, map, length, refl, sym, ap, ◌∙◌, subst, arith}
use Rattle.std.specs.Prelude.{sum}
use Rattle.std.proofs.lemmas.List.{length-append}
use Rattle.fort_syntax.specs.declared.name.Name.{Name}
use Rattle.fort_model.specs.Seen.{Named}
use Rattle.fort_model.specs.WalkStmt.{with_name}
use Rattle.formula.specs.Atoms.{same_bytes}
use Rattle.path_sizes.specs.Weighed as h
use Rattle.weight_caps.specs.Capped.{capped}
use Rattle.weight_caps.specs.Loads.{behind}
use Rattle.weight_caps.specs.declared.loads.Load.{Load}
use Rattle.weight_caps.proofs.CappedSums.{cap_sums, cap_first, cap_lists, sum_append}
use Rattle.weight_caps.proofs.LoadParts as parts
use Rattle.weight_tallies.specs.Tallied as t

-- an exact load, as far as the cap
abbrev pub cap_load : Load → Load
cap_load e = record { running = capped e.running; conditions = capped e.conditions; weight = capped e.weight }

-- a part of a path does to each exact load what another part does to it as far as the cap, and what they come to corresponds
abbrev pub Caps : {A B : Type 0} → (A → B → Type 0) → h.Weigh A → t.Tally B → Type 0
Caps R part tally =
    (exact : Load) → ((tally (cap_load exact)).load ≡ cap_load (behind exact part)) × R (part exact.running).value (tally (cap_load exact)).value

abbrev pub Any : {A B : Type 0} → A → B → Type 0
Any a b = Unit {0}

-- a weight as far as the cap
abbrev pub IsCapOf : ℕ → ℕ → Type 0
IsCapOf n m = m ≡ capped n

abbrev pub AreCapsOf : List ℕ → List ℕ → Type 0
AreCapsOf ns ms = ms ≡ map capped ns

abbrev pub CapNames : Named ℕ → Named ℕ → Type 0
CapNames now now' = (x : Name) → now' x ≡ capped (now x)

same_load : (r s c d v w : ℕ) (e : r ≡ s) (f : c ≡ d) (g : v ≡ w) → (let l : Load = record { running = r; conditions = c; weight = v } in l) ≡ record { running = s; conditions = d; weight = w }
same_load r s c d v w e f g = λ i. record { running = e i; conditions = f i; weight = g i }

count : (a b c s : ℕ) → s ≡ b + c → a + b + c ≡ a + s
count a b c s e = omega arith

pub then : {A B C D : Type 0} (Q : A → B → Type 0) (P : C → D → Type 0) (part : h.Weigh A) (tally : t.Tally B) (f : A → h.Weigh C) (g : B → t.Tally D)
    → Caps Q part tally → ((a : A) (b : B) → Q a b → Caps P (f a) (g b)) → Caps P (h.◌>>=◌ part f) (t.◌>>=◌ tally g)
then {A} {B} {C} {D} Q P part tally f g k l exact =
    let p = k exact in
    let w = part exact.running in
    let b = (tally (cap_load exact)).value in
    let q = l w.value b p.1 (behind exact part) in
    let v = f w.value w.running in (
      ap (λ (x : Load). (g b x).load) p.0
          ∙ (q.0
          ∙ same_load _ _ _ _ _ _ refl
          (ap capped (count exact.conditions (length w.weights) (length v.weights) (length (w.weights ++ v.weights)) (length-append w.weights v.weights)))
          (ap capped (count exact.weight (sum w.weights) (sum v.weights) (sum (w.weights ++ v.weights)) (sum_append w.weights v.weights)))),
      (let T : Load → Type 0 = λ x. P v.value (g b x).value in subst T (sym p.0) q.1),
    )

pub rests : {A B : Type 0} (Q : A → B → Type 0) (a : A) (b : B) → Q a b → Caps Q (h.weighed a) (t.tallied b)
rests Q a b q exact = parts.rests Q (cap_load exact) a b q exact refl

pub adds : (n m : ℕ) → IsCapOf n m → Caps Any (h.added n) (t.added m)
adds n m e exact = parts.adds (cap_load exact) n m e exact refl

pub decides : (n m : ℕ) → IsCapOf n m → Caps Any (h.decided n) (t.decided m)
decides n m e exact = parts.decides (cap_load exact) n m e exact refl

pub tests : (n m : ℕ) → IsCapOf n m → Caps Any (h.tested n) (t.tested m)
tests n m e exact = parts.tests (cap_load exact) n m e exact refl

pub tests_all : (ns ms : List ℕ) → AreCapsOf ns ms → Caps Any (h.all_tested ns) (t.all_tested ms)
tests_all ns ms e exact = parts.tests_all (cap_load exact) ns ms e exact refl

pub either : {A B : Type 0} (Q : A → B → Type 0) (b : Bool) (x y : h.Weigh A) (x' y' : t.Tally B) → Caps Q x x' → Caps Q y y' → Caps Q (cond b x y) (cond b x' y')
either Q true x y x' y' k l = k
either Q false x y x' y' k l = l

-- ---- weights

next_is : (n : ℕ) → n + 1 ≡ suc n
next_is n = omega arith

pub cap_next : (n m : ℕ) → IsCapOf n m → IsCapOf (suc n) (t.next m)
cap_next n m e = ap t.next e ∙ (cap_first n 1 ∙ ap capped (next_is n))

pub cap_both : (a b x y : ℕ) → IsCapOf a x → IsCapOf b y → IsCapOf (a + b) (t.both x y)
cap_both a b x y e f = (λ i. capped (e i + f i)) ∙ cap_sums a b

pub cap_pair : (a b x y : ℕ) → IsCapOf a x → IsCapOf b y → IsCapOf (suc (a + b)) (t.pair x y)
cap_pair a b x y e f = cap_next (a + b) (t.both x y) (cap_both a b x y e f)

pub cap_all : (ns ms : List ℕ) → AreCapsOf ns ms → IsCapOf (sum ns) (t.all ms)
cap_all ns ms e = ap t.all e ∙ cap_lists ns

pub cap_one : IsCapOf 1 1
cap_one = refl

pub cap_more : (n m : ℕ) (ns ms : List ℕ) → IsCapOf n m → AreCapsOf ns ms → AreCapsOf (n ∷ ns) (m ∷ ms)
cap_more n m ns ms e f = λ i. e i ∷ f i

pub cap_cond : (b : Bool) (n m x y : ℕ) → IsCapOf n x → IsCapOf m y → IsCapOf (cond b n m) (cond b x y)
cap_cond true n m x y e f = e
cap_cond false n m x y e f = f

pub cap_with : (now now' : Named ℕ) (x : Name) (n m : ℕ) → CapNames now now' → IsCapOf n m → CapNames (with_name now x n) (with_name now' x m)
cap_with now now' x n m h e y = cap_cond (same_bytes x y) n (now y) m (now' y) e (h y)

-- a product with one factor more
factor : (k n : ℕ) → (k * n + k) + suc n ≡ suc k * n + suc k
factor k n = omega arith

pub cap_factor : (k n base product : ℕ) → IsCapOf n base → IsCapOf (k * n + k) product → IsCapOf (suc k * n + suc k) (t.both product (t.next base))
cap_factor k n base product e f = cap_both (k * n + k) (suc n) product (t.next base) f (cap_next n base e) ∙ ap capped (factor k n)

one_factor : (n : ℕ) → suc n ≡ 1 * n + 1
one_factor n = omega arith

pub cap_first_factor : (n base : ℕ) → IsCapOf n base → IsCapOf (1 * n + 1) (t.next base)
cap_first_factor n base e = cap_next n base e ∙ ap capped (one_factor n)

abbrev pub Nil : Type 0
Nil = Unit {0}

pub nothing_done : Caps {A = Nil} {B = Nil} Any (h.weighed tt) (t.tallied tt)
nothing_done = rests {A = Nil} {B = Nil} Any tt tt tt
