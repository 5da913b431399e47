-- Calls and instructions of parts one behind the other.
use Rattle.std.proofs.Common.{◌≡◌, ◌<◌, ℕ, suc, ◌+◌, ◌-◌, Bool, true, false, List, [], ◌∷◌, ◌++◌, length, refl, sym, ap, ◌∙◌, append_assoc, drop, rules, arith}
use Rattle.std.specs.Prelude.{set, get_or, flat_map}
use Rattle.std.proofs.Math.Seq.{drop-cons}
use Rattle.fort_syntax.specs.Names.{Applied, Element, BuiltIn, Reference}
use Rattle.fort_syntax.specs.declared.name.Name.{Name}
use Rattle.fort_syntax.specs.declared.expr.Expr.{Expr}
use Rattle.call_sites.specs.Books.{is_call}
use Rattle.run_coding.specs.Pushed.{applied_pushed, closing}
use Rattle.fort_syntax.specs.declared.unit.Unit.{Unit as Routine}
use Rattle.fort_model.specs.Calls.{CallSite, own_site, sites_in}
use Rattle.run_shapes.specs.Coded.{calls_coded}
use Rattle.run_shapes.specs.declared.instr.Instr.{Instr}
use Rattle.run_shapes.specs.declared.unit_code.CallCode.{CallCode}
use Rattle.run_coding.specs.declared.scope.Scope.{Scope}
use Rattle.run_coding.specs.Scopes.{with_calls}
use Rattle.run_coding.proofs.Meant.{both_long}
use Rattle.run_coding.proofs.Rows.{listed_both, listed_long}

pub calls_long : (s : Scope) (xs : List CallSite) (calls : List CallCode) → length (with_calls s xs calls) ≡ length calls + length xs
calls_long s xs calls =
    both_long calls (calls_coded s.units.now (suc (length calls)) xs) ∙ ap (λ n. length calls + n) (listed_long s.units.now (suc (length calls)) xs)

number_behind : (k n : ℕ) → suc k + n ≡ suc (k + n)
number_behind k n = omega arith

pub calls_then : (s : Scope) (xs ys : List CallSite) (calls : List CallCode) → with_calls s (xs ++ ys) calls ≡ with_calls s ys (with_calls s xs calls)
calls_then s xs ys calls =
    ap (λ cs. calls ++ cs)
    (listed_both s.units.now (suc (length calls)) xs ys
    ∙ ap (λ n. calls_coded s.units.now (suc (length calls)) xs ++ calls_coded s.units.now n ys)
    (number_behind (length calls) (length xs) ∙ ap suc (sym (calls_long s xs calls))))
    ∙ sym (append_assoc calls (calls_coded s.units.now (suc (length calls)) xs) (calls_coded s.units.now (suc (length (with_calls s xs calls))) ys))

-- the calls of two parts
pub two_calls : (s : Scope) (xs ys whole : List CallSite) (c0 c1 c2 : List CallCode) → c1 ≡ with_calls s xs c0 → c2 ≡ with_calls s ys c1 → whole ≡ xs ++ ys
    → c2 ≡ with_calls s whole c0
two_calls s xs ys whole c0 c1 c2 p q w = q ∙ ap (with_calls s ys) p ∙ sym (calls_then s xs ys c0) ∙ ap (λ zs. with_calls s zs c0) (sym w)

-- one part, and one instruction more
pub one_code : (o0 o1 p whole tail : List Instr) → o1 ≡ o0 ++ p → whole ≡ p ++ tail → o1 ++ tail ≡ o0 ++ whole
one_code o0 o1 p whole tail h w = ap (λ xs. xs ++ tail) h ∙ append_assoc o0 p tail ∙ ap (λ xs. o0 ++ xs) (sym w)

-- two parts, of which the second has the calls of the first before it, and what stands behind them
pub two_codes : (s : Scope) (f : ℕ → List Instr) (xs : List CallSite) (c0 c1 : List CallCode) (o0 o1 o2 p whole tail : List Instr)
    → c1 ≡ with_calls s xs c0 → o1 ≡ o0 ++ p → o2 ≡ o1 ++ f (length c1) → whole ≡ p ++ (f (length c0 + length xs) ++ tail)
    → o2 ++ tail ≡ o0 ++ whole
two_codes s f xs c0 c1 o0 o1 o2 p whole tail h a b w =
    ap (λ zs. zs ++ tail) (b ∙ ap (λ n. o1 ++ f n) (ap length h ∙ calls_long s xs c0) ∙ ap (λ zs. zs ++ f (length c0 + length xs)) a)
    ∙ ap (λ zs. zs ++ tail) (append_assoc o0 p (f (length c0 + length xs)))
    ∙ append_assoc o0 (p ++ f (length c0 + length xs)) tail
    ∙ ap (λ zs. o0 ++ zs) (append_assoc p (f (length c0 + length xs)) tail ∙ sym w)

-- ---- an instruction that tells how many stand behind it

set_there : (xs ys : List Instr) (y z : Instr) → set (xs ++ (y ∷ ys)) (length xs) z ≡ xs ++ (z ∷ ys)
set_there [] ys y z = refl
set_there (x ∷ xs) ys y z = ap (λ zs. x ∷ zs) (set_there xs ys y z)

last_long : (xs ys : List Instr) (y z : Instr) → length (xs ++ (y ∷ (ys ++ z ∷ []))) - length xs - 1 ≡ suc (length ys)
last_long xs ys y z =
    let a : length (xs ++ (y ∷ (ys ++ z ∷ []))) ≡ length xs + length (y ∷ (ys ++ z ∷ [])) = both_long xs (y ∷ (ys ++ z ∷ [])) in
    let b : length (ys ++ z ∷ []) ≡ length ys + length (z ∷ []) = both_long ys (z ∷ []) in
    omega arith

gathered : (o1 o2 o3 q : List Instr) (y z : Instr) → o2 ≡ o1 ++ y ∷ [] → o3 ≡ o2 ++ q → o3 ++ z ∷ [] ≡ o1 ++ (y ∷ (q ++ z ∷ []))
gathered o1 o2 o3 q y z a b = ap (λ xs. xs ++ z ∷ []) (b ∙ ap (λ xs. xs ++ q) a ∙ append_assoc o1 (y ∷ []) q) ∙ append_assoc o1 (y ∷ q) (z ∷ [])

-- the instruction behind the first part is set to what tells how many stand behind it
pub patched : (skip : ℕ → Instr) (o1 o2 o3 o4 q : List Instr) (z : Instr)
    → o2 ≡ o1 ++ skip 0 ∷ [] → o3 ≡ o2 ++ q → o4 ≡ o3 ++ z ∷ [] → set o4 (length o1) (skip (length o4 - length o1 - 1)) ≡ o1 ++ (skip (suc (length q)) ∷ (q ++ z ∷ []))
patched skip o1 o2 o3 o4 q z a b c =
    let whole : o4 ≡ o1 ++ (skip 0 ∷ (q ++ z ∷ [])) = c ∙ gathered o1 o2 o3 q (skip 0) z a b in
    ap (λ xs. set xs (length o1) (skip (length xs - length o1 - 1))) whole
    ∙ set_there o1 (q ++ z ∷ []) (skip 0) (skip (length (o1 ++ (skip 0 ∷ (q ++ z ∷ []))) - length o1 - 1))
    ∙ ap (λ n. o1 ++ (skip n ∷ (q ++ z ∷ []))) (last_long o1 q (skip 0) z)

-- the same behind a first part, whose calls stand before those of the second
pub lazy : (s : Scope) (skip : ℕ → Instr) (f : ℕ → List Instr) (xs : List CallSite) (c0 c1 : List CallCode) (o0 o1 o2 o3 o4 p whole : List Instr) (z : Instr)
    → c1 ≡ with_calls s xs c0 → o1 ≡ o0 ++ p → o2 ≡ o1 ++ skip 0 ∷ [] → o3 ≡ o2 ++ f (length c1) → o4 ≡ o3 ++ z ∷ []
    → whole ≡ p ++ (skip (suc (length (f (length c0 + length xs)))) ∷ (f (length c0 + length xs) ++ z ∷ []))
    → set o4 (length o1) (skip (length o4 - length o1 - 1)) ≡ o0 ++ whole
lazy s skip f xs c0 c1 o0 o1 o2 o3 o4 p whole z h a b d e w =
    let q = f (length c0 + length xs) in
    let third : o3 ≡ o2 ++ q = d ∙ ap (λ n. o2 ++ f n) (ap length h ∙ calls_long s xs c0) in
    patched skip o1 o2 o3 o4 q z b third e
    ∙ ap (λ zs. zs ++ (skip (suc (length q)) ∷ (q ++ z ∷ []))) a
    ∙ append_assoc o0 p (skip (suc (length q)) ∷ (q ++ z ∷ []))
    ∙ ap (λ zs. o0 ++ zs) (sym w)

-- ---- expressions of a list, one after the other

and_one : (n : ℕ) → suc n ≡ n + 1
and_one n = omega arith

pub next_is : (xs : List Expr) (i : ℕ) (e : Expr) → i < length xs → e ≡ get_or xs i e → drop i xs ≡ e ∷ drop (i + 1) xs
next_is xs i e h is = drop-cons xs i e h ∙ ap (λ n. get_or xs i e ∷ drop n xs) (and_one i) ∙ ap (λ x. x ∷ drop (i + 1) xs) (sym is)

pub more_calls : (s : Scope) (u : Routine) (xs : List Expr) (i : ℕ) (e : Expr) (c0 c1 whole : List CallCode) → drop i xs ≡ e ∷ drop (i + 1) xs
    → c1 ≡ with_calls s (sites_in u e) c0 → with_calls s (flat_map (sites_in u) (drop i xs)) c0 ≡ whole
    → with_calls s (flat_map (sites_in u) (drop (i + 1) xs)) c1 ≡ whole
more_calls s u xs i e c0 c1 whole next h so_far =
    ap (with_calls s (flat_map (sites_in u) (drop (i + 1) xs))) h
    ∙ sym (calls_then s (sites_in u e) (flat_map (sites_in u) (drop (i + 1) xs)) c0)
    ∙ ap (λ l. with_calls s (flat_map (sites_in u) l) c0) (sym next)
    ∙ so_far

pub more_codes : (s : Scope) (u : Routine) (f : ℕ → List Expr → List Instr) (g : ℕ → Expr → List Instr)
    → ((k : ℕ) (e : Expr) (es : List Expr) → f k (e ∷ es) ≡ g k e ++ f (k + length (sites_in u e)) es)
    → (xs : List Expr) (i : ℕ) (e : Expr) (c0 c1 : List CallCode) (o0 o1 whole : List Instr) → drop i xs ≡ e ∷ drop (i + 1) xs
    → c1 ≡ with_calls s (sites_in u e) c0 → o1 ≡ o0 ++ g (length c0) e → o0 ++ f (length c0) (drop i xs) ≡ whole
    → o1 ++ f (length c1) (drop (i + 1) xs) ≡ whole
more_codes s u f g each xs i e c0 c1 o0 o1 whole next h a so_far =
    let rest = f (length c0 + length (sites_in u e)) (drop (i + 1) xs) in
    ap (λ n. o1 ++ f n (drop (i + 1) xs)) (ap length h ∙ calls_long s (sites_in u e) c0)
    ∙ ap (λ zs. zs ++ rest) a
    ∙ append_assoc o0 (g (length c0) e) rest
    ∙ ap (λ zs. o0 ++ zs) (sym (each (length c0) e (drop (i + 1) xs)))
    ∙ ap (λ l. o0 ++ f (length c0) l) (sym next)
    ∙ so_far

-- ---- names before brackets

pub is_reference : (a : Applied) → is_call a ≡ true → a ≡ Reference
is_reference (Element dims) h = search rules
is_reference (BuiltIn i) h = search rules
is_reference Reference h = refl

pub no_call : (a : Applied) (f : Name) (es : List Expr) → is_call a ≡ false → own_site a f es ≡ []
no_call (Element dims) f es h = refl
no_call (BuiltIn i) f es h = refl
no_call Reference f es h = search rules

pub closed : (names : List Name) (reads : Bool) (k : ℕ) (f : Name) (a : Applied) (n : ℕ) (vs ws : List Instr) → is_call a ≡ false
    → applied_pushed names reads k f a n vs ws ≡ vs ++ closing names reads f a n
closed names reads k f (Element dims) n vs ws h = refl
closed names reads k f (BuiltIn i) n vs ws h = refl
closed names reads k f Reference n vs ws h = search rules

pub one_long : (s : Scope) (x : CallSite) (c0 c1 : List CallCode) → c1 ≡ with_calls s (x ∷ []) c0 → length c1 ≡ suc (length c0)
one_long s x c0 c1 h = ap length h ∙ calls_long s (x ∷ []) c0 ∙ sym (and_one (length c0))
