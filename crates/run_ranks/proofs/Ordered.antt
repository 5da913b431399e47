-- The order of calls has each called unit before its callers.
use Rattle.std.proofs.Common.{◌≡◌, ℕ, zero, suc, List, [], ◌∷◌, ◌++◌, length, reverse, Some, slice_get, refl, sym, ap, ◌∙◌, subst}
use Rattle.std.proofs.lemmas.List.{reverse-append, reverse-reverse}
use Rattle.std.proofs.lemmas.Option.{slice_get_within}
use Rattle.fort_syntax.specs.declared.unit.Line.{Line}
use Rattle.fort_syntax.specs.declared.unit.Unit.{Unit as Routine}
use Rattle.fort_model.specs.CallFacts.{sites_of_lines, sites_of_unit}
use Rattle.fort_model.specs.CallOrder.{Grows, start, next, IsCallOrder}
use Rattle.fort_model.specs.Calls.{CallSite, Calls, callee_of, sites_of}
use Rattle.fort_model.specs.Lists.{IsAmong}
use Rattle.run_shapes.specs.Coded.{calls_coded}
use Rattle.run_shapes.specs.declared.unit_code.CallCode.{CallCode}
use Rattle.run_ranks.specs.Fitting.{CallsStandEarlier}
use Rattle.run_ranks.specs.Orders.{CallsAreOfUnits, IsOfUnit, StandsBefore, first, later}
use Rattle.run_ranks.proofs.Maxima.{AreOnce}

-- ---- lists

among_left : {X : Type 0} (xs ys : List X) (x : X) → IsAmong x xs → IsAmong x (xs ++ ys)
among_left [] ys x m = absurd (cc)
among_left (y ∷ xs) ys x (zero, e) = (0, e)
among_left (y ∷ xs) ys x (suc k, e) = let r = among_left xs ys x (k, e) in (suc r.0, r.1)

among_last : {X : Type 0} (xs : List X) (x : X) → IsAmong x (xs ++ x ∷ [])
among_last [] x = (0, refl)
among_last (y ∷ xs) x = let r = among_last xs x in (suc r.0, r.1)

among_either : {X C : Type 0} (xs ys : List X) (x : X) → IsAmong x (xs ++ ys) → (IsAmong x xs → C) → (IsAmong x ys → C) → C
among_either [] ys x m f g = g m
among_either (y ∷ xs) ys x (zero, e) f g = f (0, e)
among_either (y ∷ xs) ys x (suc k, e) f g = among_either xs ys x (k, e) (λ m. f (suc m.0, m.1)) g

turned : (xs : List ℕ) (x : ℕ) → IsAmong x xs → IsAmong x (reverse xs)
turned [] x m = absurd (cc)
turned (y ∷ xs) x (zero, e) =
    let same : y ≡ x = cc in
    subst (λ (zs : List ℕ). IsAmong x zs) (sym (reverse-append (y ∷ []) xs)) (subst (λ (n : ℕ). IsAmong x (reverse xs ++ n ∷ [])) (sym same) (among_last (reverse xs) x))
turned (y ∷ xs) x (suc k, e) = subst (λ (zs : List ℕ). IsAmong x zs) (sym (reverse-append (y ∷ []) xs)) (among_left (reverse xs) (y ∷ []) x (turned xs x (k, e)))

-- ---- what stands before

before_last : (xs : List ℕ) (i j : ℕ) → IsAmong j xs → StandsBefore j i (xs ++ i ∷ [])
before_last [] i j m = absurd (cc)
before_last (y ∷ xs) i j (zero, e) = let same : y ≡ j = cc in subst (λ (n : ℕ). StandsBefore j i (n ∷ xs ++ i ∷ [])) (sym same) (first (xs ++ i ∷ []) (among_last xs i))
before_last (y ∷ xs) i j (suc k, e) = later y (xs ++ i ∷ []) (before_last xs i j (k, e))

before_more : (xs ys : List ℕ) (i j : ℕ) → StandsBefore j i xs → StandsBefore j i (xs ++ ys)
before_more [] ys i j b = elim b [ ]
before_more (y ∷ xs) ys i j (first xs' m) = first (xs ++ ys) (among_left xs ys i m)
before_more (y ∷ xs) ys i j (later y' xs' b) = later y (xs ++ ys) (before_more xs ys i j b)

grown : (units : List Routine) (done : List ℕ) → Grows units done → (i j : ℕ) → IsAmong i done → Calls units i j → StandsBefore j i (reverse done)
grown units [] start i j m c = absurd (cc)
grown units (h ∷ done) (next g stand least) i j (zero, e) c =
    let same : h ≡ i = cc in
    let among : IsAmong j done = stand.behind j (subst (λ (n : ℕ). Calls units n j) (sym same) c) in
    subst (λ (zs : List ℕ). StandsBefore j i zs) (sym (reverse-append (h ∷ []) done))
    (subst (λ (n : ℕ). StandsBefore j i (reverse done ++ n ∷ [])) (sym same) (before_last (reverse done) i j (turned done j among)))
grown units (h ∷ done) (next g stand least) i j (suc k, e) c =
    subst (λ (zs : List ℕ). StandsBefore j i zs) (sym (reverse-append (h ∷ []) done)) (before_more (reverse done) (h ∷ []) i j (grown units done g i j (k, e) c))

pub callers_later : (units : List Routine) (order : List ℕ) (i j : ℕ) → IsCallOrder units order → Calls units i j → StandsBefore j i order
callers_later units order i j o c =
    subst (λ (zs : List ℕ). StandsBefore j i zs) (reverse-reverse order)
    (grown units (reverse order) o.grows i j (turned order i (o.whole i (slice_get_within units i c.caller c.is_caller))) c)

-- ---- each unit stands once

no_item : {C : Type 0} (x : ℕ) → IsAmong x [] → C
no_item x m = absurd (cc)

alone : (x h : ℕ) → IsAmong x (h ∷ []) → Some h ≡ Some x
alone x h (zero, q) = q
alone x h (suc k, q) = absurd (cc)

once_last : (xs : List ℕ) (h : ℕ) → AreOnce xs → (IsAmong h xs → ⊥) → AreOnce (xs ++ h ∷ [])
once_last [] h o n = (no_item h, tt)
once_last (y ∷ xs) h o n = (λ m. among_either xs (h ∷ []) y m o.0 (λ e. n (0, sym (alone y h e))), once_last xs h o.1 (λ m. n (suc m.0, m.1)))

once_grown : (units : List Routine) (done : List ℕ) → Grows units done → AreOnce (reverse done)
once_grown units [] start = tt
once_grown units (h ∷ done) (next g stand least) =
    subst AreOnce (sym (reverse-append (h ∷ []) done))
    (once_last (reverse done) h (once_grown units done g) (λ m. stand.new (subst (λ (zs : List ℕ). IsAmong h zs) (reverse-reverse done) (turned (reverse done) h m))))

pub order_once : (units : List Routine) (order : List ℕ) → IsCallOrder units order → AreOnce order
order_once units order o = subst AreOnce (reverse-reverse order) (once_grown units (reverse order) o.grows)

-- ---- calls of code

pub record IsCoded (units : List Routine) (sites : List CallSite) (call : CallCode) : Type 0 where
  pub site : CallSite
  pub among : IsAmong site sites
  pub same : call.callee ≡ callee_of units site
  pub counted : call.actuals ≡ length site.actuals

pub coded : (units : List Routine) (n : ℕ) (sites : List CallSite) (k : ℕ) (call : CallCode) → slice_get (calls_coded units n sites) k ≡ Some call → IsCoded units sites call
coded units n [] k call e = absurd (cc)
coded units n (s ∷ sites) zero call e =
    let same : record { number = n; callee = callee_of units s; actuals = length s.actuals } ≡ call = cc in
    record { site = s; among = (0, refl); same = ap (λ (c : CallCode). c.callee) (sym same); counted = ap (λ (c : CallCode). c.actuals) (sym same) }
coded units n (s ∷ sites) (suc k) call e = let r = coded units (suc n) sites k call e in record { site = r.site; among = (suc r.among.0, r.among.1); same = r.same; counted = r.counted }

pub record HasLine (u : Routine) (lines : List Line) (s : CallSite) : Type 0 where
  pub line : Line
  pub is_line : IsAmong line lines
  pub is_site : IsAmong s (sites_of u line.stmt)

line_behind : (u : Routine) (l : Line) (lines : List Line) (s : CallSite) → HasLine u lines s → HasLine u (l ∷ lines) s
line_behind u l lines s r = record { line = r.line; is_line = (suc r.is_line.0, r.is_line.1); is_site = r.is_site }

pub line_of : (u : Routine) (lines : List Line) (s : CallSite) → IsAmong s (sites_of_lines u lines) → HasLine u lines s
line_of u [] s m = absurd (cc)
line_of u (l ∷ lines) s m =
    among_either (sites_of u l.stmt) (sites_of_lines u lines) s m (λ h. record { line = l; is_line = (0, refl); is_site = h }) (λ h. line_behind u l lines s (line_of u lines s h))

pub holds_code : (units : List Routine) (order : List ℕ) → IsCallOrder units order → CallsAreOfUnits units → CallsStandEarlier units order
holds_code units order o there i k u call is at =
    let c : IsCoded units (sites_of_unit u) call = coded units 1 (sites_of_unit u) k call at in
    let d : IsOfUnit units c.site = there i u c.site is c.among in
    let l : HasLine u u.lines c.site = line_of u u.lines c.site c.among in
    record {
      unit = d.unit;
      routine = d.routine;
      callee_is = c.same ∙ d.callee_is;
      is_there = d.is_there;
      earlier = callers_later units order i d.unit o (record {
        caller = u;
        callee = d.routine;
        is_caller = is;
        is_callee = d.is_there;
        line = l.line;
        is_line = l.is_line;
        site = c.site;
        is_site = l.is_site;
        is_of = d.callee_is;
      });
    }
