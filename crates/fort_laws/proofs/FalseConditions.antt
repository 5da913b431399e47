-- Where a walk along a path fails at a check, the condition of that check is false.
use Rattle.std.proofs.Common.{◌≡◌, ℕ, zero, suc, ◌+◌, inl, inr, Bool, true, cond, List, [], ◌∷◌, ◌++◌, Some, slice_get, refl, sym, ap, ◌∙◌, subst, arith, rules}
use Rattle.std.specs.Prelude.{◌==◌}
use Rattle.fort_syntax.specs.Conditions.{ConditionTree}
use Rattle.formula.specs.declared.value.Value.{Value}
use Rattle.formula.specs.Worth.{Function, Valuation}
use Rattle.fort_syntax.specs.declared.condition.Kind.{Kind}
use Rattle.fort_syntax.specs.declared.name.Name.{Name}
use Rattle.fort_syntax.specs.declared.unit.Unit.{Unit as Routine}
use Rattle.fort_model.specs.Conditions.{walked, walked_by, checks_of, CheckSite, sites_from, sites_along, sites_of_units, IsExactFor, AreExactFor, are_all_paths}
use Rattle.fort_model.specs.Events.{Event, Check, Take, Verdict, Fails, Off, verdict, verdict_from, fails_at, labels}
use Rattle.fort_model.specs.Lists.{IsAmong}
use Rattle.fort_model.specs.Paths.{Path, IsPath}
use Rattle.fort_model.specs.Program.{Program, notes_of}
use Rattle.fort_model.specs.Senses.{of_values, by_words}
use Rattle.fort_model.specs.Symbols.{Symbol, LeastInteger, GreatestInteger, AtEntry}
use Rattle.fort_laws.specs.Blame.{FalseCondition, FailingPathsHaveFalseConditions}
use Rattle.fort_laws.specs.Matches.{FirstFails}
use Rattle.fort_laws.specs.ValidConditions.{Spell}
use Rattle.fort_laws.proofs.BothWalks.{walks_alike}
use Rattle.fort_laws.proofs.Exact.{checks_do_not_depend_on_values}
use Rattle.fort_laws.proofs.Kept.{among_left, among_right}
use Rattle.fort_laws.proofs.SameValues.{Equal, same_senses, events_equal}
use Rattle.fort_laws.proofs.SpelledSymbols.{words_tell_symbols}

-- ---- the check at which a walk fails

record FailsAt (k : ℕ) (kind : Kind) (card : ℕ) (es : List (Event Value)) : Type 0 where
  before : ℕ
  verdict_is : verdict_from k es ≡ Fails (suc (k + before))
  label_is : slice_get (labels es) before ≡ Some (kind, card)

failing : (k : ℕ) (kind : Kind) (card : ℕ) (es : List (Event Value)) → FirstFails kind card es → FailsAt k kind card es
failing k kind card [] h = absurd h
failing k kind card (Check x c v ∷ es) (inl h) =
    let next = failing (suc k) kind card es h.1 in
    let same : suc (suc k + next.before) ≡ suc (k + suc next.before) = omega arith in
    record { before = suc next.before; verdict_is = ap (λ (b : Bool). cond b (verdict_from (suc k) es) (Fails (suc k))) h.0 ∙ (next.verdict_is ∙ ap Fails same); label_is = next.label_is }
failing k kind card (Check x c v ∷ es) (inr h) =
    let same : suc k ≡ suc (k + 0) = omega arith in
    record {
      before = 0;
      verdict_is = ap (λ (b : Bool). cond b (verdict_from (suc k) es) (Fails (suc k))) h.0 ∙ ap Fails same;
      label_is = ap (λ (z : Kind). Some (z, c)) h.1 ∙ ap (λ (z : ℕ). Some (kind, z)) h.2;
    }
failing k kind card (Take v ∷ es) h =
    let next = failing k kind card es h.1 in
    record { before = next.before; verdict_is = ap (λ (b : Bool). cond b (verdict_from k es) (Off k)) h.0 ∙ next.verdict_is; label_is = next.label_is }

-- ---- sites

abbrev site_of : Name → ℕ → ℕ → Kind × ℕ → (Valuation → List (Event Value)) → CheckSite
site_of unit path check label along = record { unit = unit; path = path; check = check; kind = label.0; card = label.1; walk = along }

in_path : (unit : Name) (path k : ℕ) (ls : List (Kind × ℕ)) (along : Valuation → List (Event Value)) (j check : ℕ) (l : Kind × ℕ) → slice_get ls j ≡ Some l → check ≡ k + j
    → IsAmong (site_of unit path check l along) (sites_from unit path k ls along)
in_path unit path k [] along j check l at is = absurd cc
in_path unit path k (x ∷ ls) along zero check l at is =
    let same : x ≡ l = cc in
    let here : k ≡ check = omega arith in
    (0, ap (λ (z : Kind × ℕ). Some (site_of unit path k z along)) same ∙ ap (λ (n : ℕ). Some (site_of unit path n l along)) here)
in_path unit path k (x ∷ ls) along (suc j) check l at is = let r = in_path unit path (suc k) ls along j check l at (omega arith) in (suc r.0, r.1)

-- a site of a path, whatever the number of the path
abbrev HasSite : Name → ℕ → Kind × ℕ → (Valuation → List (Event Value)) → List CheckSite → Type 0
HasSite unit check l along sites = (path : ℕ) × IsAmong (site_of unit path check l along) sites

site_left : (unit : Name) (check : ℕ) (l : Kind × ℕ) (along : Valuation → List (Event Value)) (xs ys : List CheckSite) → HasSite unit check l along xs → HasSite unit check l along (xs ++ ys)
site_left unit check l along xs ys h = (h.0, among_left (site_of unit h.0 check l along) xs ys h.1)

site_right : (unit : Name) (check : ℕ) (l : Kind × ℕ) (along : Valuation → List (Event Value)) (xs ys : List CheckSite) → HasSite unit check l along ys → HasSite unit check l along (xs ++ ys)
site_right unit check l along xs ys h = (h.0, among_right (site_of unit h.0 check l along) xs ys h.1)

in_unit : (p : Program) (i : ℕ) (u : Routine) (n : ℕ) (paths : List Path) (k : ℕ) (path : Path) → slice_get paths k ≡ Some path → (j : ℕ) (l : Kind × ℕ) → slice_get (checks_of p i u path) j ≡ Some l
    → HasSite u.name (suc j) l (λ words. walked p i u words path) (sites_along p i u n paths)
in_unit p i u n [] k path at j l is = absurd cc
in_unit p i u n (q ∷ paths) zero path at j l is =
    let same : q ≡ path = cc in
    site_left u.name (suc j) l (λ words. walked p i u words path) (sites_from u.name n 1 (checks_of p i u q) (λ words. walked p i u words q)) (sites_along p i u (suc n) paths)
    (subst (λ (z : Path). HasSite u.name (suc j) l (λ words. walked p i u words path) (sites_from u.name n 1 (checks_of p i u z) (λ words. walked p i u words z))) (sym same)
    (n, in_path u.name n 1 (checks_of p i u path) (λ words. walked p i u words path) j (suc j) l is (omega arith)))
in_unit p i u n (q ∷ paths) (suc k) path at j l is =
    site_right u.name (suc j) l (λ words. walked p i u words path) (sites_from u.name n 1 (checks_of p i u q) (λ words. walked p i u words q)) (sites_along p i u (suc n) paths)
    (in_unit p i u (suc n) paths k path at j l is)

in_program : (p : Program) (j : ℕ) (us : List Routine) (all : List (List Path)) (k : ℕ) (u : Routine) → are_all_paths p j us all → slice_get us k ≡ Some u → (n : ℕ) → n ≡ j + k
    → (path : Path) → IsPath p.dialect u (notes_of p n) path → (m : ℕ) (l : Kind × ℕ) → slice_get (checks_of p n u path) m ≡ Some l
    → HasSite u.name (suc m) l (λ words. walked p n u words path) (sites_of_units p j us all)
in_program p j [] all k u paths at n is path from m l label = absurd cc
in_program p j (v ∷ us) [] k u paths at n is path from m l label = absurd paths
in_program p j (v ∷ us) (own ∷ all) zero u paths at n is path from m l label =
    let same : v ≡ u = cc in
    let here : n ≡ j = omega arith in
    let among : IsAmong path own = (paths.0.whole path).0 (subst (λ (w : Routine). IsPath p.dialect w (notes_of p j) path) (sym same) (subst (λ (z : ℕ). IsPath p.dialect u (notes_of p z) path) here from)) in
    site_left u.name (suc m) l (λ words. walked p n u words path) (sites_along p j v 1 own) (sites_of_units p (suc j) us all)
    (subst (λ (w : Routine). HasSite u.name (suc m) l (λ words. walked p n u words path) (sites_along p j w 1 own)) (sym same)
    (subst (λ (z : ℕ). HasSite u.name (suc m) l (λ words. walked p n u words path) (sites_along p z u 1 own)) here (in_unit p n u 1 own among.0 path among.1 m l label)))
in_program p j (v ∷ us) (own ∷ all) (suc k) u paths at n is path from m l label =
    site_right u.name (suc m) l (λ words. walked p n u words path) (sites_along p j v 1 own) (sites_of_units p (suc j) us all)
    (in_program p (suc j) us all k u paths.1 at n (omega arith) path from m l label)

-- the condition of a site
exact_at : (fs : List Function) (list : List ConditionTree) (sites : List CheckSite) → AreExactFor fs list sites → (n : ℕ) (site : CheckSite) → slice_get sites n ≡ Some site → (c : ConditionTree) × IsAmong c list × IsExactFor fs c site
exact_at fs [] [] exact n site at = absurd cc
exact_at fs [] (s ∷ sites) exact n site at = absurd exact
exact_at fs (c ∷ cs) [] exact n site at = absurd exact
exact_at fs (c ∷ cs) (s ∷ sites) exact zero site at = let same : s ≡ site = cc in (c, (0, refl), subst (IsExactFor fs c) same exact.0)
exact_at fs (c ∷ cs) (s ∷ sites) exact (suc n) site at = let r = exact_at fs cs sites exact.1 n site at in (r.0, (suc r.1.0, r.1.1), r.2)

-- ---- the law

itself : (n : ℕ) → (n == n) ≡ true
itself n = search rules

fails_here : (j : ℕ) (v : Verdict) → v ≡ Fails (suc (0 + j)) → fails_at v (suc j) ≡ true
fails_here j v e =
    let none : 0 + j ≡ j = omega arith in
    ap (λ (x : Verdict). fails_at x (suc j)) e ∙ (ap (λ (n : ℕ). suc n == suc j) none ∙ itself (suc j))

-- the condition of a check at which a walk fails
false_by : (fs : List Function) (list : List ConditionTree) (unit : Name) (values : Symbol → Value) (kind : Kind) (card : ℕ) (spell : Spell values) (along : Valuation → List (Event Value)) (path j : ℕ)
    → verdict (along spell.words) ≡ Fails (suc (0 + j)) → (c : ConditionTree) → IsAmong c list → IsExactFor fs c (site_of unit path (suc j) (kind, card) along) → FalseCondition fs list unit values kind card
false_by fs list unit values kind card spell along path j v c among exact = record {
  condition = c;
  among = among;
  unit_is = exact.unit;
  kind_is = exact.kind;
  card_is = exact.card;
  spell = spell;
  is_false = exact.false spell.words ∙ fails_here j (verdict (along spell.words)) v;
}

pub failing_paths_have_false_conditions : FailingPathsHaveFalseConditions
failing_paths_have_false_conditions program list exact i u at values path is kind card f =
    let fs = program.functions in
    let spell : Spell values = words_tell_symbols values in
    let by_word : List (Event Value) = walked program i u spell.words path in
    let same : by_word ≡ walked_by program i u values path =
    events_equal _ _
    (walks_alike Equal (of_values fs (by_words spell.words)) (of_values fs values)
    (same_senses fs (by_words spell.words) values (spell.same LeastInteger) (spell.same GreatestInteger) (λ x. spell.same (AtEntry x))) program i u (λ s. spell.same s) path) in
    let r = failing 0 kind card by_word (subst (λ (es : List (Event Value)). FirstFails kind card es) (sym same) f) in
    let label : slice_get (checks_of program i u path) r.before ≡ Some (kind, card) =
    subst (λ (ls : List (Kind × ℕ)). slice_get ls r.before ≡ Some (kind, card)) (checks_do_not_depend_on_values program i u (by_words spell.words) path) r.label_is in
    let own : i ≡ 0 + i = omega arith in
    let site = in_program program 0 program.units exact.paths i u exact.all at i own path is r.before (kind, card) label in
    let c = exact_at fs list _ exact.exact site.1.0 _ site.1.1 in
    false_by fs list u.name values kind card spell (λ words. walked program i u words path) site.0 r.before r.verdict_is c.0 c.1 c.2
