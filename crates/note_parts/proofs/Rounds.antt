-- One round of a list of parts: what was read, before what is still to be read.
use Rattle.std.proofs.Common.{◌≡◌, ℕ, zero, suc, ◌+◌, ◌-◌, ◌<◌, ◌≤◌, Bool, true, false, List, [], ◌∷◌, ◌++◌, length, map, refl, sym, ap, ◌∙◌, subst, arith, append_assoc}
use Rattle.std.specs.Prelude.{if◌then◌else◌, None}
use Rattle.std.proofs.lemmas.Grind.{common_steps}
use Rattle.formula.specs.declared.node.Node.{Node}
use Rattle.formula.specs.declared.node.TermId.{TermId}
use Rattle.formula.specs.Pool.{AllBelow, Grows, IsIn, tree_of}
use Rattle.formula.specs.Tree.{Tree}
use Rattle.formula.proofs.Grown.{tree_of-Grows}
use Rattle.fort_syntax.specs.declared.rule.Rule.TheVariants.{BadNote}
use Rattle.fort_notes.specs.Parts.{Parsed, parsed, refused, ◌>>=◌, parts, parts_up_to}
use Rattle.note_parts.specs.Answers.{Fails, trees_of}
use Rattle.note_parts.specs.declared.lack.Lack.{Lack}
use Rattle.note_parts.specs.declared.lack.Lack.TheVariants as lack

-- parts before the others of a list
abbrev pub before : {X : Type 0} → List X → Parsed (List X) → Parsed (List X)
before xs (parsed ys rest) = parsed (xs ++ ys) rest
before xs (refused rule) = refused rule

pub before_none : {X : Type 0} (p : Parsed (List X)) → before [] p ≡ p
before_none (parsed ys rest) = refl
before_none (refused rule) = refl

before_more : {X : Type 0} (xs : List X) (x : X) (p : Parsed (List X)) → before xs (p >>= λ ys left. parsed (x ∷ ys) left) ≡ before (xs ++ x ∷ []) p
before_more xs x (parsed ys rest) = ap (λ l. parsed l rest) (sym (append_assoc xs (x ∷ []) ys))
before_more xs x (refused rule) = refl

-- before the first round
pub round_first : {X : Type 0} (ends : List ℕ → Bool) (part : List ℕ → Parsed X) (xs : List X) (text : List ℕ)
    → xs ≡ [] → before xs (parts_up_to ends part (length text + 1) text) ≡ parts ends part text
round_first ends part xs text e =
    let n : length text + 1 ≡ suc (length text) = omega arith in
    ap (λ l. before l (parts_up_to ends part (length text + 1) text)) e ∙ before_none (parts_up_to ends part (length text + 1) text) ∙ ap (λ m. parts_up_to ends part m text) n

-- where the test holds the list is whole
pub round_ends : {X : Type 0} (ends : List ℕ → Bool) (part : List ℕ → Parsed X) (n : ℕ) (xs : List X) (text : List ℕ)
    → 0 < n → ends text ≡ true → before xs (parts_up_to ends part n text) ≡ parsed xs text
round_ends ends part zero xs text lt e = absurd (omega arith)
round_ends ends part (suc n) xs text lt e = rw e (ap (λ l. parsed l text) (let whole : xs ++ [] ≡ xs = grind (arith, common_steps) in whole))

-- where it does not, a part comes next
pub round_step : {X : Type 0} (ends : List ℕ → Bool) (part : List ℕ → Parsed X) (n : ℕ) (xs ys : List X) (text behind : List ℕ) (x : X) (rhs : Parsed (List X))
    → 0 < n → ends text ≡ false → part text ≡ parsed x behind → ys ≡ xs ++ x ∷ [] → before xs (parts_up_to ends part n text) ≡ rhs
    → before ys (parts_up_to ends part (n - 1) behind) ≡ rhs
round_step ends part zero xs ys text behind x rhs lt on one more inv = absurd (omega arith)
round_step ends part (suc n) xs ys text behind x rhs lt on one more inv =
    let same : n ≡ suc n - 1 = omega arith in
    let k : before xs (parts_up_to ends part (suc n) text) ≡ before (xs ++ x ∷ []) (parts_up_to ends part n behind) =
    rw (on, one) (before_more xs x (parts_up_to ends part n behind)) in
    ap (λ m. before ys (parts_up_to ends part m behind)) (sym same) ∙ ap (λ zs. before zs (parts_up_to ends part n behind)) more ∙ sym k ∙ inv

-- a part that was not read is a list that was not read
pub round_fails : {X : Type 0} (ends : List ℕ → Bool) (part : List ℕ → Parsed X) (n : ℕ) (xs : List X) (text : List ℕ) (rhs : Parsed (List X)) (e : Lack)
    → 0 < n → ends text ≡ false → Fails e (part text) → before xs (parts_up_to ends part n text) ≡ rhs → Fails e rhs
round_fails ends part zero xs text rhs e lt on none inv = absurd (omega arith)
round_fails ends part (suc n) xs text rhs lack.Form lt on none inv = sym inv ∙ rw (on, none) refl
round_fails ends part (suc n) xs text rhs lack.Function lt on none inv = sym inv ∙ rw (on, none) refl
round_fails ends part (suc n) xs text rhs lack.Memory lt on none inv = tt

-- no list has so many parts
pub round_over : {X : Type 0} (ends : List ℕ → Bool) (part : List ℕ → Parsed X) (n : ℕ) (xs : List X) (text : List ℕ)
    → n ≤ 0 → before xs (parts_up_to ends part n text) ≡ refused BadNote
round_over ends part zero xs text le = refl
round_over ends part (suc n) xs text le = absurd (omega arith)

-- ---- the trees of ids

pub trees_of-Grows : (old new : List Node) (ids : List TermId) → Grows old new → AllBelow (length old) ids → trees_of new ids ≡ trees_of old ids
trees_of-Grows old new [] g h = refl
trees_of-Grows old new (id ∷ ids) g h = λ i. tree_of-Grows old new id g h.0 i ∷ trees_of-Grows old new ids g h.1 i

pub trees_of-append : (pool : List Node) (xs ys : List TermId) → trees_of pool (xs ++ ys) ≡ trees_of pool xs ++ trees_of pool ys
trees_of-append pool [] ys = refl
trees_of-append pool (x ∷ xs) ys = ap (λ r. tree_of pool x ∷ r) (trees_of-append pool xs ys)

pub AllBelow-append : (n : ℕ) (xs : List TermId) (id : TermId) → AllBelow n xs → id.place < n → AllBelow n (xs ++ id ∷ [])
AllBelow-append n [] id h lt = (lt, tt)
AllBelow-append n (x ∷ xs) id h lt = (h.0, AllBelow-append n xs id h.1 lt)
