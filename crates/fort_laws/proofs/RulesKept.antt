-- What the rules on calls and smashed names give, where they are kept.
use Rattle.std.proofs.Common.{◌≡◌, ◌≢◌, ℕ, zero, suc, ◌+◌, Bool, true, false, cond, not, ◌&&◌, ◌||◌, List, [], ◌∷◌, Option, Some, None, slice_get, refl, sym, ap, ◌∙◌, subst, arith, rules}
use Rattle.std.specs.Prelude.{◌==◌}
use Rattle.std.specs.List.{list_any, filter}
use Rattle.fort_syntax.specs.declared.name.Name.{Name}
use Rattle.fort_syntax.specs.declared.expr.Expr.{Expr}
use Rattle.fort_syntax.specs.declared.expr.Expr.TheVariants.{Const, Truth, Var, Apply', Paren', Pos', Neg', Power', Bin', Rel', Not', And', Or'}
use Rattle.fort_syntax.specs.declared.rule.Rule.TheVariants.{SmashedNotName, SmashedTwice, SmashedCommon, FunctionSmashes, BadArguments, DimensionSmashed}
use Rattle.fort_syntax.specs.declared.stmt.Stmt.{Stmt}
use Rattle.fort_syntax.specs.declared.unit.DataName.{DataName}
use Rattle.fort_syntax.specs.declared.unit.Line.{Line}
use Rattle.fort_syntax.specs.declared.unit.Unit.{Unit as Routine}
use Rattle.fort_model.specs.Arguments.{mentions, actual_for, gives_dim, dim_agrees, dims_agree, all_fit, fits_dummy, actuals_fit, reference_fits, same_sort_as, sort_of_expr, dims_of_actual}
use Rattle.fort_model.specs.CallRules.{in_unit, of_unit, some_smashed, stands_elsewhere, bare_elsewhere, is_bare_name, is_bare_common, smashed_commons, passes_no_name, passes_twice, passes_common, some_call, mismatches}
use Rattle.fort_model.specs.Calls.{CallSite, Calls, callee_of, sites_of}
use Rattle.fort_model.specs.Lists.{IsAmong}
use Rattle.fort_model.specs.Program.{Program, is_smashed}
use Rattle.fort_model.specs.Rules.{KeepsRules, cards_of_lines, at_lines, function_smashes, dim_smashed}
use Rattle.fort_model.specs.Smashes.{Smashes, HoldsSmashed}
use Rattle.fort_syntax.specs.declared.stmt.Dim.{Dim}
use Rattle.fort_syntax.specs.declared.stmt.Dim.TheVariants.{Fixed, Named}
use Rattle.fort_model.specs.Walk.{is_dim, is_some_dim}
use Rattle.std.specs.Cmp.Lexicographic.{same_text}
use Rattle.fort_syntax.specs.Names.{is_function, is_own, data_name, has_common, commons}
use Rattle.formula.specs.Atoms.{same_bytes}
use Rattle.fort_laws.specs.Declared.{IsDimension, IsDeclared, AreDeclared, RulesMakeSound}
use Rattle.fort_laws.specs.Frame.{PassesSmashedAlone, SharesBlocks, FunctionsSmashNothing, RulesPassSmashedAlone, IsDim, DimAgrees, DimsAgree, HasActual, IsSoundUnit, AreSound}
use Rattle.fort_laws.proofs.FrameEnter.{SameOrNot, same, other, same_or_not}
use Rattle.fort_laws.proofs.FrameSeats.{same_self, found}

-- ---- tests that fail

clash : (b : Bool) → b ≡ true → b ≡ false → ⊥
clash b t f = cc

pub neither : (a b : Bool) → (a || b) ≡ false → (a ≡ false) × (b ≡ false)
neither true b h = absurd (cc)
neither false b h = (refl, h)

pub not_both : (a b : Bool) → (a && b) ≡ false → a ≡ true → b ≡ false
not_both true b h e = h
not_both false b h e = absurd (cc)

both_are : (a b : Bool) → a ≡ true → b ≡ true → (a && b) ≡ true
both_are true b e h = h
both_are false b e h = absurd (cc)

pub is_false : (b : Bool) → (b ≡ true → ⊥) → b ≡ false
is_false true h = absurd (h refl)
is_false false h = refl

pub none_passes : {A : Type 0} (test : A → Bool) (xs : List A) (x : A) → list_any test xs ≡ false → IsAmong x xs → test x ≡ false
none_passes test [] x h m = absurd (cc)
none_passes test (y ∷ ys) x h (zero, e) = let f : y ≡ x = cc in ap test (sym f) ∙ (neither (test y) (list_any test ys) h).0
none_passes test (y ∷ ys) x h (suc k, e) = none_passes test ys x (neither (test y) (list_any test ys) h).1 (k, e)

pub more_among : {A : Type 0} (t : Bool) (x y : A) (fewer : List A) → IsAmong x fewer → IsAmong x (cond t (y ∷ fewer) fewer)
more_among true x y fewer m = (suc m.0, m.1)
more_among false x y fewer m = m

pub passes_filter : {A : Type 0} (test : A → Bool) (xs : List A) (x : A) → IsAmong x xs → test x ≡ true → IsAmong x (filter test xs)
passes_filter test [] x m t = absurd (cc)
passes_filter test (y ∷ ys) x (zero, e) t =
    let f : y ≡ x = cc in
    subst (λ (b : Bool). IsAmong x (cond b (y ∷ filter test ys) (filter test ys))) (sym (ap test f ∙ t)) (0, ap Some f)
passes_filter test (y ∷ ys) x (suc k, e) t = more_among (test y) x y (filter test ys) (passes_filter test ys x (k, e) t)

-- ---- cards of broken rules

pub card_found : (test : ℕ → Stmt → Bool) (pc : ℕ) (lines : List Line) (k : ℕ) (line : Line) → slice_get lines k ≡ Some line → test (pc + k) line.stmt ≡ true → IsAmong line.card (cards_of_lines test pc lines)
card_found test pc [] k line e t = absurd (cc)
card_found test pc (y ∷ ys) zero line e t =
    let f : y ≡ line = cc in
    let at : pc + 0 ≡ pc = omega arith in
    let t2 : test pc y.stmt ≡ true = ap (λ (z : Line). test pc z.stmt) f ∙ (ap (λ (n : ℕ). test n line.stmt) (sym at) ∙ t) in
    subst (λ (b : Bool). IsAmong line.card (cond b (y.card ∷ cards_of_lines test (suc pc) ys) (cards_of_lines test (suc pc) ys))) (sym t2) (0, ap (λ (z : Line). Some z.card) f)
card_found test pc (y ∷ ys) (suc k) line e t =
    let at : pc + suc k ≡ suc pc + k = omega arith in
    more_among (test pc y.stmt) line.card y.card (cards_of_lines test (suc pc) ys) (card_found test (suc pc) ys k line e (ap (λ (n : ℕ). test n line.stmt) (sym at) ∙ t))

-- a rule on calls that no line breaks is broken by no call
pub unbroken : (p : Program) (breaks : CallSite → ℕ → Routine → Bool) {i j : ℕ} (c : Calls p.units i j) → ((card : ℕ) → IsAmong card (at_lines c.caller (λ pc s. some_call p c.caller s breaks)) → ⊥)
    → breaks c.site j c.callee ≡ false
unbroken p breaks {j = j} c none =
    let line_ok : some_call p c.caller c.line.stmt breaks ≡ false =
    is_false (some_call p c.caller c.line.stmt breaks) (λ t. none c.line.card (card_found (λ pc s. some_call p c.caller s breaks) 0 c.caller.lines c.is_line.0 c.line c.is_line.1 t)) in
    let site_ok : of_unit p (callee_of p.units c.site) (breaks c.site) ≡ false =
    none_passes (λ site. of_unit p (callee_of p.units site) (breaks site)) (sites_of c.caller c.line.stmt) c.site line_ok c.is_site in
    ap (λ (o : Option Routine). in_unit o (breaks c.site j)) (sym c.is_callee) ∙ (ap (λ (o : Option ℕ). of_unit p o (breaks c.site)) (sym c.is_of) ∙ site_ok)

-- ---- tests of smashed dummies

smashed_passes : (smashed : Name → Bool) (test : ℕ → Expr → Bool) (n : ℕ) (ds : List Name) (es : List Expr) (k : ℕ) (d : Name) (e : Expr)
    → some_smashed smashed test n ds es ≡ false → slice_get ds k ≡ Some d → smashed d ≡ true → slice_get es k ≡ Some e → test (n + k) e ≡ false
smashed_passes smashed test n [] es k d e h a s b = absurd (cc)
smashed_passes smashed test n (y ∷ ys) [] k d e h a s b = absurd (cc)
smashed_passes smashed test n (y ∷ ys) (f ∷ fs) zero d e h a s b =
    let q : y ≡ d = cc in let r : f ≡ e = cc in
    let at : n + 0 ≡ n = omega arith in
    let t : test n f ≡ false = not_both (smashed y) (test n f) (neither (smashed y && test n f) (some_smashed smashed test (suc n) ys fs) h).0 (ap smashed q ∙ s) in
    ap (λ (m : ℕ). test m e) at ∙ (ap (test n) (sym r) ∙ t)
smashed_passes smashed test n (y ∷ ys) (f ∷ fs) (suc k) d e h a s b =
    let at : n + suc k ≡ suc n + k = omega arith in
    ap (λ (m : ℕ). test m e) at ∙ smashed_passes smashed test (suc n) ys fs k d e (neither (smashed y && test n f) (some_smashed smashed test (suc n) ys fs) h).1 a s b

bare_of : (e : Expr) → not (is_bare_name e) ≡ false → (x : Name) × (e ≡ Var x)
bare_of (Var x) h = (x, refl)
bare_of (Const n) h = absurd (cc)
bare_of (Truth b) h = absurd (cc)
bare_of (Apply' f shape args) h = absurd (cc)
bare_of (Paren' shape a) h = absurd (cc)
bare_of (Pos' shape a) h = absurd (cc)
bare_of (Neg' shape a) h = absurd (cc)
bare_of (Power' shape a n) h = absurd (cc)
bare_of (Bin' o q a r b) h = absurd (cc)
bare_of (Rel' o q a r b) h = absurd (cc)
bare_of (Not' shape a) h = absurd (cc)
bare_of (And' q a r b) h = absurd (cc)
bare_of (Or' q a r b) h = absurd (cc)

differ : (k n : ℕ) → k ≢ n → not (k == n) ≡ true
differ k n h = ap not (is_false (k == n) (λ t. h (same_number t)))
  where
    same_number : (k == n) ≡ true → k ≡ n
    same_number t = search rules

elsewhere : (n : ℕ) (x : Name) (k : ℕ) (es : List Expr) (m : ℕ) (e : Expr) → stands_elsewhere n x k es ≡ false → slice_get es m ≡ Some e → k + m ≢ n → mentions e x ≡ false
elsewhere n x k [] m e h a unlike = absurd (cc)
elsewhere n x k (f ∷ fs) zero e h a unlike =
    let r : f ≡ e = cc in
    let at : k + 0 ≡ k = omega arith in
    let t : mentions f x ≡ false = not_both (not (k == n)) (mentions f x) (neither (not (k == n) && mentions f x) (stands_elsewhere n x (suc k) fs) h).0 (differ k n (λ q. unlike (at ∙ q))) in
    ap (λ (z : Expr). mentions z x) (sym r) ∙ t
elsewhere n x k (f ∷ fs) (suc m) e h a unlike =
    let at : k + suc m ≡ suc k + m = omega arith in
    elsewhere n x (suc k) fs m e (neither (not (k == n) && mentions f x) (stands_elsewhere n x (suc k) fs) h).1 a (λ q. unlike (at ∙ q))

module _ (p : Program) (keeps : KeepsRules p) (table : HoldsSmashed p) (shares : SharesBlocks p.units) where
  listed : (j : ℕ) (x : Name) → Smashes p.units j x → is_smashed p j x ≡ true
  listed j x s = (table j x).1 s

  module _ (i j : ℕ) (c : Calls p.units i j) where
    no_name : passes_no_name p c.site j c.callee ≡ false
    no_name = unbroken p (passes_no_name p) c (λ card m. keeps SmashedNotName i card (record { unit = c.caller; is_unit = c.is_caller; breaks = m }))

    twice : passes_twice p c.site j c.callee ≡ false
    twice = unbroken p (passes_twice p) c (λ card m. keeps SmashedTwice i card (record { unit = c.caller; is_unit = c.is_caller; breaks = m }))

    common : passes_common p c.caller c.site j c.callee ≡ false
    common = unbroken p (passes_common p c.caller) c (λ card m. keeps SmashedCommon i card (record { unit = c.caller; is_unit = c.is_caller; breaks = m }))

    common_parts : (list_any (λ x. list_any (λ e. mentions e x) c.site.actuals) (smashed_commons p c.caller j c.callee) ≡ false)
        × (some_smashed (is_smashed p j) (λ n e. is_bare_common c.caller c.callee e) 0 c.callee.dummies c.site.actuals ≡ false)
    common_parts = neither (list_any (λ x. list_any (λ e. mentions e x) c.site.actuals) (smashed_commons p c.caller j c.callee)) _ common

    passes_alone : PassesSmashedAlone c
    passes_alone = record {
      bare = λ n d e a s b. bare_of e (smashed_passes (is_smashed p j) (λ n e. not (is_bare_name e)) 0 c.callee.dummies c.site.actuals n d e no_name a (listed j d s) b);
      once = λ m n d x e unlike a s b q.
          elsewhere (0 + n) x 0 c.site.actuals m e (smashed_passes (is_smashed p j) (bare_elsewhere c.site.actuals) 0 c.callee.dummies c.site.actuals n d (Var x) twice a (listed j d s) b) q (λ z. unlike (omega arith));
      not_shared = λ n d x a s b caller callee.
          clash (has_common c.caller x && has_common c.callee x) (both_are (has_common c.caller x) (has_common c.callee x) caller callee)
          (smashed_passes (is_smashed p j) (λ n e. is_bare_common c.caller c.callee e) 0 c.callee.dummies c.site.actuals n d (Var x) common_parts.1 a (listed j d s) b);
      no_common = λ n x e callee s b.
          none_passes (λ f. mentions f x) c.site.actuals e
          (none_passes (λ y. list_any (λ f. mentions f y) c.site.actuals) (smashed_commons p c.caller j c.callee) x common_parts.0
          (passes_filter (λ y. has_common c.callee y && is_smashed p j y) (commons c.caller) x (shares i j c x callee) (both_are (has_common c.callee x) (is_smashed p j x) callee (listed j x s)))) (n, b);
    }

  harmless : FunctionsSmashNothing p.units
  harmless j g d is function visible s =
      let broken : function_smashes p j g ≡ false =
      is_false (function_smashes p j g) (λ t. keeps FunctionSmashes j g.head (record { unit = g; is_unit = is; breaks = subst (λ (b : Bool). IsAmong g.head (cond b (g.head ∷ []) [])) (sym t) (0, refl) })) in
      let none = not_both (is_function g) (list_any (λ e. not (is_own e.role) && is_smashed p j e.name) g.names) broken function in
      let one = none_passes (λ e. not (is_own e.role) && is_smashed p j e.name) g.names d none visible.among in
      clash (is_smashed p j d.name) (listed j d.name s) (not_both (not (is_own d.role)) (is_smashed p j d.name) one (ap not visible.not_own))

pub rules_pass_smashed_alone : RulesPassSmashedAlone
rules_pass_smashed_alone p keeps table shares = (λ i j c. passes_alone p keeps table shares i j c, harmless p keeps table shares)

-- ---- actuals match

pub split : (a b : Bool) → (a && b) ≡ true → (a ≡ true) × (b ≡ true)
split true b h = (refl, h)
split false b h = absurd (cc)

same_number : (k n : ℕ) → (k == n) ≡ true → k ≡ n
same_number k n t = search rules

pub not_not : (b : Bool) → not b ≡ false → b ≡ true
not_not true h = refl
not_not false h = absurd (cc)

found_actual : (ys : List Name) (es : List Expr) (x : Name) (e : Expr) → actual_for ys es x ≡ Some e → (n : ℕ) × (slice_get ys n ≡ Some x) × (slice_get es n ≡ Some e)
found_actual [] es x e h = absurd (cc)
found_actual (y ∷ ys) [] x e h = absurd (cc)
found_actual (y ∷ ys) (f ∷ fs) x e h = by_name (same_or_not y x) (found_actual ys fs x e)
  where
    at_head : (t : Bool) → same_bytes y x ≡ t → cond t (Some f) (actual_for ys fs x) ≡ Some e
    at_head t q = ap (λ (b : Bool). cond b (Some f) (actual_for ys fs x)) (sym q) ∙ h

    by_name : SameOrNot y x → (actual_for ys fs x ≡ Some e → (n : ℕ) × (slice_get ys n ≡ Some x) × (slice_get fs n ≡ Some e)) → (n : ℕ) × (slice_get (y ∷ ys) n ≡ Some x) × (slice_get (f ∷ fs) n ≡ Some e)
    by_name (same q t) rec = (0, ap Some q, at_head true t)
    by_name (other q t) rec = let r = rec (at_head false t) in (suc r.0, r.1, r.2)

gives : (e : Expr) (d : Dim) → gives_dim (Some e) d ≡ true → IsDim e d
gives (Const c) (Fixed n) h = same_number c n h
gives (Const c) (Named x) h = absurd (cc)
gives (Var y) (Named x) h = same_text y x (sym h)
gives (Var y) (Fixed n) h = absurd (cc)
gives (Truth b) d h = absurd (cc)
gives (Apply' f shape args) d h = absurd (cc)
gives (Paren' shape a) d h = absurd (cc)
gives (Pos' shape a) d h = absurd (cc)
gives (Neg' shape a) d h = absurd (cc)
gives (Power' shape a n) d h = absurd (cc)
gives (Bin' o q a r b) d h = absurd (cc)
gives (Rel' o q a r b) d h = absurd (cc)
gives (Not' shape a) d h = absurd (cc)
gives (And' q a r b) d h = absurd (cc)
gives (Or' q a r b) d h = absurd (cc)

agrees : (g : Routine) (es : List Expr) (a b : Dim) → dim_agrees g es a b ≡ true → DimAgrees g es a b
agrees g es (Fixed n) (Fixed m) h = ap Fixed (sym (same_number n m h))
agrees g es (Fixed n) (Named x) h = absurd (cc)
agrees g es (Named x) d h = by_actual (actual_for g.dummies es x) refl
  where
    by_actual : (o : Option Expr) → actual_for g.dummies es x ≡ o → DimAgrees g es (Named x) d
    by_actual None q = absurd (clash (gives_dim None d) (ap (λ (o : Option Expr). gives_dim o d) (sym q) ∙ h) refl)
    by_actual (Some e) q = let r = found_actual g.dummies es x e q in (r.0, e, r.1, r.2, gives e d (ap (λ (o : Option Expr). gives_dim o d) (sym q) ∙ h))

all_agree : (g : Routine) (es : List Expr) (ds bs : List Dim) → dims_agree g es ds bs ≡ true → DimsAgree g es ds bs
all_agree g es [] [] h = tt
all_agree g es [] (b ∷ bs) h = absurd (cc)
all_agree g es (a ∷ ds) [] h = absurd (cc)
all_agree g es (a ∷ ds) (b ∷ bs) h = let s = split (dim_agrees g es a b) (dims_agree g es ds bs) h in (agrees g es a b s.0, all_agree g es ds bs s.1)

fits_at : (g : Routine) (all : List Expr) (u : Routine) (ds : List Name) (es : List Expr) (n : ℕ) (d : Name) → all_fit g all u ds es ≡ true → slice_get ds n ≡ Some d
    → (e : Expr) × (slice_get es n ≡ Some e) × (fits_dummy g all u (data_name g d) e ≡ true)
fits_at g all u [] es n d h a = absurd (cc)
fits_at g all u (y ∷ ys) [] n d h a = absurd (cc)
fits_at g all u (y ∷ ys) (f ∷ fs) zero d h a =
    let q : y ≡ d = cc in (f, refl, ap (λ (z : Name). fits_dummy g all u (data_name g z) f) (sym q) ∙ (split (fits_dummy g all u (data_name g y) f) (all_fit g all u ys fs) h).0)
fits_at g all u (y ∷ ys) (f ∷ fs) (suc n) d h a = fits_at g all u ys fs n d (split (fits_dummy g all u (data_name g y) f) (all_fit g all u ys fs) h).1 a

some_dim : (x : Name) (ds : List Dim) → IsAmong (Named x) ds → list_any (is_dim x) ds ≡ true
some_dim x [] m = absurd (cc)
some_dim x (d ∷ ds) (zero, e) =
    let q : d ≡ Named x = cc in
    ap (λ (z : Dim). is_dim x z || list_any (is_dim x) ds) q ∙ ap (λ (b : Bool). b || list_any (is_dim x) ds) (same_self x)
some_dim x (d ∷ ds) (suc k, e) = either (is_dim x d) (list_any (is_dim x) ds) (some_dim x ds (k, e))
  where
    either : (a b : Bool) → b ≡ true → (a || b) ≡ true
    either true b h = refl
    either false b h = h

pub passes_any : {A : Type 0} (test : A → Bool) (xs : List A) (x : A) → IsAmong x xs → test x ≡ true → list_any test xs ≡ true
passes_any test xs x m t = not_not (list_any test xs) (is_false (not (list_any test xs)) (λ n. clash (test x) t (none_passes test xs x (is_false (list_any test xs) (λ y. clash (not (list_any test xs)) n (ap not y))) m)))

module _ (p : Program) (keeps : KeepsRules p) (table : HoldsSmashed p) (declared : AreDeclared p.units) where
  not_smashed : (i : ℕ) (u : Routine) → slice_get p.units i ≡ Some u → (d e : DataName) (x : Name) → IsAmong d u.names → IsAmong (Named x) d.dims → IsAmong e u.names → e.name ≡ x → Smashes p.units i x → ⊥
  not_smashed i u is d e x m k n q s =
      let broken : dim_smashed p i u ≡ false =
      is_false (dim_smashed p i u) (λ t. keeps DimensionSmashed i u.head (record { unit = u; is_unit = is; breaks = subst (λ (b : Bool). IsAmong u.head (cond b (u.head ∷ []) [])) (sym t) (0, refl) })) in
      let one = none_passes (λ f. is_some_dim u f.name && is_smashed p i f.name) u.names e broken n in
      let dim : is_some_dim u e.name ≡ true =
      ap (is_some_dim u) q ∙ passes_any (λ f. list_any (is_dim x) f.dims) u.names d m (some_dim x d.dims k) in
      clash (is_smashed p i e.name) (ap (is_smashed p i) q ∙ (table i x).1 s) (not_both (is_some_dim u e.name) (is_smashed p i e.name) one dim)

  sound_unit : (i : ℕ) (u : Routine) → slice_get p.units i ≡ Some u → IsSoundUnit p.units i u
  sound_unit i u is =
      let w : IsDeclared u = declared.units_are i u is in
      record {
        one_name = w.one_name;
        one_dummy = w.one_dummy;
        dummies = w.dummies;
        roles = w.roles;
        sets = w.sets;
        constants = w.constants;
        adjustables = λ d x m k.
            let a : IsDimension u d x = w.dimensions d x m k in
            record { array_is_dummy = a.array_is_dummy; has = a.has; is_dummy = a.is_dummy; is_scalar = a.is_scalar; not_smashed = not_smashed i u is d a.has.its x m k a.has.among a.has.name };
      }

  matches : (i j : ℕ) (c : Calls p.units i j) (d : DataName) (n : ℕ) → IsAmong d c.callee.names → slice_get c.callee.dummies n ≡ Some d.name → HasActual c d n
  matches i j c d n m a =
      let kept : mismatches c.caller c.site j c.callee ≡ false = unbroken p (mismatches c.caller) c (λ card k. keeps BadArguments i card (record { unit = c.caller; is_unit = c.is_caller; breaks = k })) in
      let fit : actuals_fit c.caller c.callee c.site.actuals ≡ true =
      not_not (actuals_fit c.caller c.callee c.site.actuals) (neither (not (actuals_fit c.caller c.callee c.site.actuals)) (not (reference_fits c.caller c.callee c.site.reference)) kept).0 in
      let r = fits_at c.callee c.site.actuals c.caller c.callee.dummies c.site.actuals n d.name fit a in
      let data_is : data_name c.callee d.name ≡ Some d = found p.units j c.callee (sound_unit j c.callee c.is_callee) d m d.name refl in
      let one = ap (λ (o : Option DataName). fits_dummy c.callee c.site.actuals c.caller o r.0) (sym data_is) ∙ r.2 in
      record {
        actual = r.0;
        is = r.1;
        dims = all_agree c.callee c.site.actuals d.dims (dims_of_actual c.caller r.0) (split (same_sort_as d.sort (sort_of_expr c.caller r.0)) (dims_agree c.callee c.site.actuals d.dims (dims_of_actual c.caller r.0)) one).1;
      }

  -- actuals have the types of their dummies
  pub sorts_agree : (i j : ℕ) (c : Calls p.units i j) (d : DataName) (n : ℕ) (e : Expr) → IsAmong d c.callee.names → slice_get c.callee.dummies n ≡ Some d.name → slice_get c.site.actuals n ≡ Some e
      → same_sort_as d.sort (sort_of_expr c.caller e) ≡ true
  sorts_agree i j c d n e m a b =
      let kept : mismatches c.caller c.site j c.callee ≡ false = unbroken p (mismatches c.caller) c (λ card k. keeps BadArguments i card (record { unit = c.caller; is_unit = c.is_caller; breaks = k })) in
      let fit : actuals_fit c.caller c.callee c.site.actuals ≡ true =
      not_not (actuals_fit c.caller c.callee c.site.actuals) (neither (not (actuals_fit c.caller c.callee c.site.actuals)) (not (reference_fits c.caller c.callee c.site.reference)) kept).0 in
      let r = fits_at c.callee c.site.actuals c.caller c.callee.dummies c.site.actuals n d.name fit a in
      let data_is : data_name c.callee d.name ≡ Some d = found p.units j c.callee (sound_unit j c.callee c.is_callee) d m d.name refl in
      let one = ap (λ (o : Option DataName). fits_dummy c.callee c.site.actuals c.caller o r.0) (sym data_is) ∙ r.2 in
      ap (λ (x : Expr). same_sort_as d.sort (sort_of_expr c.caller x)) (same_actual e r.0 (sym b ∙ r.1))
      ∙ (split (same_sort_as d.sort (sort_of_expr c.caller r.0)) (dims_agree c.callee c.site.actuals d.dims (dims_of_actual c.caller r.0)) one).0
    where
      same_actual : (x y : Expr) → Some x ≡ Some y → x ≡ y
      same_actual x y q = cc

  are_sound : AreSound p.units
  are_sound = record {
    units_are = sound_unit;
    calls_are = λ i j c. record { matches = matches i j c; names = declared.actuals i j c; commons = declared.commons i j c; smashed = passes_alone p keeps table declared.blocks i j c };
  }

pub rules_make_sound : RulesMakeSound
rules_make_sound p keeps table declared = are_sound p keeps table declared
