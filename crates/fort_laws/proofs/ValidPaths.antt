-- Where an exact list of conditions is valid, no walk along a path fails at a check.
use Rattle.std.proofs.Common.{◌≡◌, ℕ, zero, suc, ◌+◌, ◌<◌, ◌≤◌, inl, inr, Bool, true, false, cond, not, IsTrue, List, [], ◌∷◌, ◌++◌, length, Some, slice_get, refl, sym, ap, ◌∙◌, subst, arith, rules}
use Rattle.std.specs.Prelude.{◌==◌}
use Rattle.fort_syntax.specs.Conditions.{ConditionTree}
use Rattle.formula.specs.declared.value.Value.{Value}
use Rattle.formula.specs.Worth.{Function, Valuation, nothing_known, is_false_under}
use Rattle.formula.proofs.OnSheet.{assignments_suffice}
use Rattle.fort_syntax.specs.declared.condition.Kind.{Kind}
use Rattle.fort_syntax.specs.declared.name.Name.{Name}
use Rattle.fort_syntax.specs.declared.unit.Unit.{Unit as Routine}
use Rattle.fort_model.specs.Conditions.{walked, walked_by, checks_of, CheckSite, sites_from, sites_along, sites_of_units, AreExactFor, AreValid, are_all_paths}
use Rattle.fort_model.specs.Events.{Event, Check, Take, Verdict, Fails, Off, verdict, verdict_from, fails_at, labels}
use Rattle.fort_model.specs.Lists.{IsAmong}
use Rattle.fort_model.specs.Paths.{Path, IsPath}
use Rattle.fort_model.specs.Program.{Program, notes_of}
use Rattle.fort_model.specs.Senses.{of_values, by_words}
use Rattle.fort_model.specs.Symbols.{LeastInteger, GreatestInteger, AtEntry}
use Rattle.fort_laws.specs.Matches.{FirstFails}
use Rattle.fort_laws.specs.Segments.{NoCheckFails}
use Rattle.fort_laws.specs.ValidConditions.{Spell, ValidConditionsMakePathsSafe}
use Rattle.fort_laws.proofs.BothWalks.{walks_alike}
use Rattle.fort_laws.proofs.Exact.{checks_do_not_depend_on_values}
use Rattle.fort_laws.proofs.SameValues.{Equal, same_senses, events_equal}
use Rattle.fort_laws.proofs.SpelledSymbols.{words_tell_symbols}

-- ---- checks at which no walk fails

-- whatever words stand for, the walk of a site does not fail at its check
abbrev IsHeld : CheckSite → Type 0
IsHeld site = (words : Valuation) → fails_at (verdict (site.walk words)) site.check ≡ false

abbrev AreHeld : List CheckSite → Type 0
AreHeld [] = Unit {0}
AreHeld (site ∷ sites) = IsHeld site × AreHeld sites

not_true : (b : Bool) → IsTrue (not b) → b ≡ false
not_true false h = refl
not_true true h = let bad : false ≡ true = h in absurd cc

valid_held : (fs : List Function) (list : List ConditionTree) (sites : List CheckSite) → AreExactFor fs list sites → AreValid fs list → AreHeld sites
valid_held fs [] [] exact valid = tt
valid_held fs [] (site ∷ sites) exact valid = absurd exact
valid_held fs (c ∷ cs) [] exact valid = absurd exact
valid_held fs (c ∷ cs) (site ∷ sites) exact valid = (
  λ words. sym (exact.0.false words) ∙ not_true (is_false_under fs words nothing_known c.hyps c.goal) (assignments_suffice fs c.hyps c.goal valid.0 words),
  valid_held fs cs sites exact.1 valid.1,
)

held_front : (xs ys : List CheckSite) → AreHeld (xs ++ ys) → AreHeld xs
held_front [] ys h = tt
held_front (x ∷ xs) ys h = (h.0, held_front xs ys h.1)

held_back : (xs ys : List CheckSite) → AreHeld (xs ++ ys) → AreHeld ys
held_back [] ys h = h
held_back (x ∷ xs) ys h = held_back xs ys h.1

-- ---- the sites of a path

-- no walk along a path fails at any of so many checks from a number on
abbrev HeldFrom : (Valuation → List (Event Value)) → ℕ → ℕ → Type 0
HeldFrom along k n = (words : Valuation) (m : ℕ) → k ≤ m → m < k + n → fails_at (verdict (along words)) m ≡ false

site_checks : (unit : Name) (path k : ℕ) (ls : List (Kind × ℕ)) (along : Valuation → List (Event Value)) → AreHeld (sites_from unit path k ls along) → HeldFrom along k (length ls)
site_checks unit path k [] along h words m least most = absurd (omega arith)
site_checks unit path k (l ∷ ls) along h words m least most = by_test (λ n. site_checks unit path (suc k) ls along h.1 words m n (omega arith)) (m == k) refl
  where
    same : (m == k) ≡ true → k ≡ m
    same e = search rules

    other : (m == k) ≡ false → suc k ≤ m
    other e = search rules

    by_test : (suc k ≤ m → fails_at (verdict (along words)) m ≡ false) → (t : Bool) → (m == k) ≡ t → fails_at (verdict (along words)) m ≡ false
    by_test next true e = ap (λ (j : ℕ). fails_at (verdict (along words)) j) (sym (same e)) ∙ h.0 words
    by_test next false e = next (other e)

along_paths : (p : Program) (i : ℕ) (u : Routine) (n : ℕ) (paths : List Path) (k : ℕ) (path : Path) → slice_get paths k ≡ Some path → AreHeld (sites_along p i u n paths)
    → HeldFrom (λ words. walked p i u words path) 1 (length (checks_of p i u path))
along_paths p i u n [] k path at h = absurd cc
along_paths p i u n (q ∷ paths) zero path at h =
    let same : q ≡ path = cc in
    let held : AreHeld (sites_from u.name n 1 (checks_of p i u q) (λ words. walked p i u words q)) = held_front _ _ h in
    subst (λ (r : Path). HeldFrom (λ words. walked p i u words r) 1 (length (checks_of p i u r))) same (site_checks u.name n 1 (checks_of p i u q) (λ words. walked p i u words q) held)
along_paths p i u n (q ∷ paths) (suc k) path at h =
    along_paths p i u (suc n) paths k path at (held_back (sites_from u.name n 1 (checks_of p i u q) (λ words. walked p i u words q)) _ h)

in_units : (p : Program) (j : ℕ) (us : List Routine) (all : List (List Path)) (k : ℕ) (u : Routine) → are_all_paths p j us all → slice_get us k ≡ Some u
    → AreHeld (sites_of_units p j us all) → (path : Path) → IsPath p.dialect u (notes_of p (j + k)) path
    → HeldFrom (λ words. walked p (j + k) u words path) 1 (length (checks_of p (j + k) u path))
in_units p j [] all k u paths at h path is = absurd cc
in_units p j (v ∷ us) [] k u paths at h path is = absurd paths
in_units p j (v ∷ us) (own ∷ all) zero u paths at h path is =
    let same : v ≡ u = cc in
    let here : j + 0 ≡ j = omega arith in
    let isv : IsPath p.dialect v (notes_of p j) path = subst (λ (n : ℕ). IsPath p.dialect v (notes_of p n) path) here (subst (λ (w : Routine). IsPath p.dialect w (notes_of p (j + 0)) path) (sym same) is) in
    let among : IsAmong path own = (paths.0.whole path).0 isv in
    let held : HeldFrom (λ words. walked p j v words path) 1 (length (checks_of p j v path)) = along_paths p j v 1 own among.0 path among.1 (held_front (sites_along p j v 1 own) _ h) in
    subst (λ (w : Routine). HeldFrom (λ words. walked p (j + 0) w words path) 1 (length (checks_of p (j + 0) w path))) same
    (subst (λ (n : ℕ). HeldFrom (λ words. walked p n v words path) 1 (length (checks_of p n v path))) (sym here) held)
in_units p j (v ∷ us) (own ∷ all) (suc k) u paths at h path is =
    let there : j + suc k ≡ suc j + k = omega arith in
    subst (λ (n : ℕ). HeldFrom (λ words. walked p n u words path) 1 (length (checks_of p n u path))) (sym there)
    (in_units p (suc j) us all k u paths.1 at (held_back (sites_along p j v 1 own) _ h) path (subst (λ (n : ℕ). IsPath p.dialect u (notes_of p n) path) there is))

-- ---- verdicts

-- where the first false event is a check, the walk fails at one of its checks
pub record FailsWithin (k : ℕ) (es : List (Event Value)) : Type 0 where
  number : ℕ
  fails : verdict_from k es ≡ Fails number
  more : k < number
  within : number ≤ k + length (labels es)

fails_within : (k : ℕ) (kind : Kind) (card : ℕ) (es : List (Event Value)) → FirstFails kind card es → FailsWithin k es
fails_within k kind card [] h = absurd h
fails_within k kind card (Check kind' card' v ∷ es) (inl h) =
    let next = fails_within (suc k) kind card es h.1 in
    record { number = next.number; fails = ap (λ (b : Bool). cond b (verdict_from (suc k) es) (Fails (suc k))) h.0 ∙ next.fails; more = let m : suc k < next.number = next.more in omega arith; within = let m : next.number ≤ suc k + length (labels es) = next.within in omega arith }
fails_within k kind card (Check kind' card' v ∷ es) (inr h) =
    record { number = suc k; fails = ap (λ (b : Bool). cond b (verdict_from (suc k) es) (Fails (suc k))) h.0; more = omega arith; within = omega arith }
fails_within k kind card (Take v ∷ es) h =
    let next = fails_within k kind card es h.1 in
    record { number = next.number; fails = ap (λ (b : Bool). cond b (verdict_from k es) (Off k)) h.0 ∙ next.fails; more = next.more; within = next.within }

held_never_fails : (es : List (Event Value)) → ((m : ℕ) → 1 ≤ m → m < 1 + length (labels es) → fails_at (verdict es) m ≡ false) → NoCheckFails es
held_never_fails es held kind card first =
    let f = fails_within 0 kind card es first in
    let m : 0 < f.number = f.more in
    let n : f.number ≤ 0 + length (labels es) = f.within in
    let no : fails_at (verdict es) f.number ≡ false = held f.number (omega arith) (omega arith) in
    let yes : fails_at (verdict es) f.number ≡ true = ap (λ (v : Verdict). fails_at v f.number) f.fails ∙ itself f.number in
    let bad : false ≡ true = sym no ∙ yes in
    absurd cc
  where
    itself : (n : ℕ) → (n == n) ≡ true
    itself n = search rules

-- ---- the law

pub valid_conditions_make_paths_safe : ValidConditionsMakePathsSafe
valid_conditions_make_paths_safe program list exact valid i u at values path is =
    let spell : Spell values = words_tell_symbols values in
    let fs = program.functions in
    let own : i ≡ 0 + i = omega arith in
    let held : HeldFrom (λ words. walked program i u words path) 1 (length (checks_of program i u path)) =
    subst (λ (n : ℕ). HeldFrom (λ words. walked program n u words path) 1 (length (checks_of program n u path))) (sym own)
    (in_units program 0 program.units exact.paths i u exact.all at (valid_held fs list _ exact.exact valid) path (subst (λ (n : ℕ). IsPath program.dialect u (notes_of program n) path) own is)) in
    let by_word : List (Event Value) = walked program i u spell.words path in
    let counts : labels by_word ≡ checks_of program i u path = checks_do_not_depend_on_values program i u (by_words spell.words) path in
    let safe : NoCheckFails by_word =
    held_never_fails by_word (λ m least most. held spell.words m least (subst (λ (ls : List (Kind × ℕ)). m < 1 + length ls) counts most)) in
    let same : by_word ≡ walked_by program i u values path =
    events_equal _ _
    (walks_alike Equal (of_values fs (by_words spell.words)) (of_values fs values)
    (same_senses fs (by_words spell.words) values (spell.same LeastInteger) (spell.same GreatestInteger) (λ x. spell.same (AtEntry x))) program i u (λ s. spell.same s) path) in
    subst NoCheckFails same safe
