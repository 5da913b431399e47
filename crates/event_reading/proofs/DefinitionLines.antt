-- The line of a definition: what is read stands there, and what stands there is read.
use Rattle.std.proofs.Common.{◌≡◌, ℕ, zero, suc, ◌<◌, Bool, true, false, if◌then◌else◌, Option, Some, None, List, [], ◌∷◌, ◌++◌, length, drop, codes, refl, sym, ap, ◌∙◌, subst, arith, append_assoc, append-nil}
use Rattle.std.specs.List.{flat_map, list_all}
use Rattle.std.specs.Prelude.{◌&&◌, slice_get}
use Rattle.formula.specs.declared.definition.Heading.{Heading}
use Rattle.formula.specs.declared.definition_fault.DefFault.{DefFault}
use Rattle.formula.specs.declared.function.BuiltIn.TheVariants as f
use Rattle.formula.specs.declared.function.Func.TheVariants.{BuiltIn, Defined}
use Rattle.formula.specs.Adding.{adding_fault}
use Rattle.formula.specs.Atoms.{is_function_name, is_symbol}
use Rattle.formula.specs.Functions.{name_of}
use Rattle.formula.specs.Headings.{has_count, heading_with, is_headed}
use Rattle.formula.specs.ReadableTerms.{is_short, IsReadableTerm}
use Rattle.formula.specs.TermTests.{functions_pass, names_pass, numbers_pass, row_uses_pass, uses_pass}
use Rattle.formula.specs.Tree.{Tree, num, truth, symbol, old, apply, Row, none, more, row_count, takes}
use Rattle.formula.specs.Worth.{Function, FunctionBody}
use Rattle.fort_syntax.specs.Misspelled.{begins}
use Rattle.event_text.specs.EventText.{body_text, definition_line, spaced}
use Rattle.event_text.specs.Readable.{is_parameter, IsReadableBody, IsReadableDefinition}
use Rattle.event_text.specs.TermText.{name_at, row_text, term_text}
use Rattle.event_text.proofs.OneDefinition.{body_text_is, has_first, own, recurs}
use Rattle.event_text.proofs.Splits.{right_six}
use Rattle.event_text.proofs.Tests.{first_of_both, second_of_both}
use Rattle.event_reading.specs.Fronts.{IsCounting}
use Rattle.event_reading.specs.Lines.{body_at, counted, definition_at, faultless, heading_at as line_heading_at, more_parameters, parameters_at}
use Rattle.event_reading.specs.Names.{heading_names}
use Rattle.event_reading.specs.Readings.{◌>>=◌, after, function_name_at, parameter_at, term_at}
use Rattle.event_reading.proofs.Afters.{after_some, begun}
use Rattle.event_reading.proofs.Parts.{Counted, counted_term, is_counted, parts, test_term, whole}
use Rattle.event_reading.proofs.Steps.{function_name_some, pair, parameter_some, same_pair, step, term_some}

both : (a b : Bool) → a ≡ true → b ≡ true → (a && b) ≡ true
both a b h k = rw (h, k) refl

-- ---- parameters

abbrev blank_first : List ℕ → List ℕ
blank_first w = codes " " ++ w

-- further parameters of a text
pub record More (ps qs : List (List ℕ)) (t r : List ℕ) : Type 0 where
  pub added : List (List ℕ)
  pub all : qs ≡ ps ++ added
  pub good : list_all is_parameter added ≡ true
  pub is : t ≡ flat_map blank_first added ++ 41 ∷ r

pub more_some : (n : ℕ) (ps qs : List (List ℕ)) (t r : List ℕ) → more_parameters n ps t ≡ Some (qs, r) → More ps qs t r
more_some zero ps qs t r e = absurd cc
more_some (suc n) ps qs t r e = by (begins (codes ")") t) refl e (λ p x. more_some n (ps ++ p ∷ []) qs x r)
  where
    further : (z : List ℕ) (p : List ℕ × List ℕ) → after (codes " ") t ≡ Some z → parameter_at z ≡ Some p → More (ps ++ p.0 ∷ []) qs p.1 r → More ps qs t r
    further z p h k m =
        let one = parameter_some z p.0 p.1 k in
        record {
          added = p.0 ∷ m.added;
          all = m.all ∙ append_assoc ps (p.0 ∷ []) m.added;
          good = both (is_parameter p.0) (list_all is_parameter m.added) one.good m.good;
          is = after_some (codes " ") t z h ∙ ap (λ l. 32 ∷ l) (one.is ∙ ap (λ l. p.0 ++ l) m.is ∙ sym (append_assoc p.0 (flat_map blank_first m.added) (41 ∷ r)));
        }

    by : (b : Bool) → begins (codes ")") t ≡ b
        → (if b then Some (pair ps (drop 1 t)) else (after (codes " ") t >>= λ z. parameter_at z >>= λ p. more_parameters n (ps ++ p.0 ∷ []) p.1)) ≡ Some (qs, r)
        → ((p x : List ℕ) → more_parameters n (ps ++ p ∷ []) x ≡ Some (qs, r) → More (ps ++ p ∷ []) qs x r) → More ps qs t r
    by true h k later =
        let two = same_pair ps qs (drop 1 t) r k in
        let all = two.0 in
        let rest = two.1 in
        record { added = []; all = sym all ∙ sym (append-nil ps); good = refl; is = begun (codes ")") t h ∙ ap (λ l. 41 ∷ l) rest }
    by false h k later =
        let s = step (after (codes " ") t) _ _ k in
        let u = step (parameter_at s.here) _ _ s.later in
        further s.here u.here s.first u.first (later u.here.0 u.here.1 u.later)

-- parameters and the closing bracket
pub record Parameters (ps : List (List ℕ)) (t r : List ℕ) : Type 0 where
  pub good : list_all is_parameter ps ≡ true
  pub is : t ≡ spaced ps ++ 41 ∷ r

pub parameters_some : (n : ℕ) (ps : List (List ℕ)) (t r : List ℕ) → parameters_at n t ≡ Some (ps, r) → Parameters ps t r
unfolding parameters_at
parameters_some n ps t r e = by (begins (codes ")") t) refl e
  where
    first : (p : List ℕ × List ℕ) → parameter_at t ≡ Some p → More (p.0 ∷ []) ps p.1 r → Parameters ps t r
    first p h m =
        let one = parameter_some t p.0 p.1 h in
        record {
          good = ap (list_all is_parameter) m.all ∙ both (is_parameter p.0) (list_all is_parameter m.added) one.good m.good;
          is = one.is ∙ ap (λ l. p.0 ++ l) m.is ∙ sym (append_assoc p.0 (flat_map blank_first m.added) (41 ∷ r)) ∙ ap (λ l. spaced l ++ 41 ∷ r) (sym m.all);
        }

    by : (b : Bool) → begins (codes ")") t ≡ b → (if b then Some (pair {A = List (List ℕ)} [] (drop 1 t)) else (parameter_at t >>= λ p. more_parameters n (p.0 ∷ []) p.1)) ≡ Some (ps, r) → Parameters ps t r
    by true h k =
        let two = same_pair {A = List (List ℕ)} [] ps (drop 1 t) r k in
        let all = two.0 in
        let rest = two.1 in
        record { good = ap (list_all is_parameter) (sym all); is = begun (codes ")") t h ∙ ap (λ l. 41 ∷ l) rest ∙ ap (λ l. spaced l ++ 41 ∷ r) all }
    by false h k =
        let s = step (parameter_at t) _ _ k in
        first s.here s.first (more_some n (s.here.0 ∷ []) ps s.here.1 r s.later)

-- ---- the heading

pub record HeadingThere (t name : List ℕ) (ps : List (List ℕ)) (r : List ℕ) : Type 0 where
  pub name_is : is_function_name name ≡ true
  pub good : list_all is_parameter ps ≡ true
  pub is : t ≡ codes "(DEFN " ++ (name ++ (codes " (" ++ (spaced ps ++ 41 ∷ r)))

pub heading_some : (t name : List ℕ) (ps : List (List ℕ)) (r : List ℕ) → line_heading_at t ≡ Some ((name, ps), r) → HeadingThere t name ps r
unfolding line_heading_at
heading_some t name ps r e =
    let a = step (after (codes "(DEFN ") t) _ _ e in
    let b = step (function_name_at a.here) _ _ a.later in
    let c = step (after (codes " (") b.here.1) _ _ b.later in
    let d = step (parameters_at (length c.here) c.here) _ _ c.later in
    let two = same_pair (b.here.0, d.here.0) (name, ps) d.here.1 r d.later in
    let same_name : b.here.0 ≡ name = ap (λ x. x.0) two.0 in
    let same_params : d.here.0 ≡ ps = ap (λ x. x.1) two.0 in
    let same_rest = two.1 in
    let n = function_name_some a.here b.here.0 b.here.1 b.first in
    let p = parameters_some (length c.here) d.here.0 c.here d.here.1 d.first in
    record {
      name_is = ap is_function_name (sym same_name) ∙ n.good;
      good = ap (list_all is_parameter) (sym same_params) ∙ p.good;
      is = after_some (codes "(DEFN ") t a.here a.first
          ∙ ap (λ l. codes "(DEFN " ++ l) (n.is ∙ ap (λ l. b.here.0 ++ l) (after_some (codes " (") b.here.1 c.here c.first ∙ ap (λ l. codes " (" ++ l) p.is))
          ∙ (λ i. codes "(DEFN " ++ (same_name i ++ (codes " (" ++ (spaced (same_params i) ++ 41 ∷ same_rest i))));
    }

-- ---- the body

pub record BodyThere (hs : List Heading) (name : List ℕ) (ps : List (List ℕ)) (t : List ℕ) (u : Tree) (r : List ℕ) : Type 0 where
  pub readable : IsReadableTerm (hs ++ heading_with name ps ∷ []) u
  pub is : t ≡ codes " " ++ (term_text (heading_names (hs ++ heading_with name ps ∷ [])) u ++ (codes ")\n" ++ r))

pub body_some : (hs : List Heading) (name : List ℕ) (ps : List (List ℕ)) (t : List ℕ) (u : Tree) (r : List ℕ) → body_at hs name ps t ≡ Some (u, r) → BodyThere hs name ps t u r
unfolding body_at
body_some hs name ps t u r e =
    let names = heading_names (hs ++ heading_with name ps ∷ []) in
    let a = step (after (codes " ") t) _ _ e in
    let b = step (term_at names hs (Some (heading_with name ps)) a.here) _ _ a.later in
    let c = step (after (codes ")\n") b.here.1) _ _ b.later in
    let two = same_pair b.here.0 u c.here r c.later in
    let same_term = two.0 in
    let same_rest = two.1 in
    let x = term_some names hs (Some (heading_with name ps)) a.here b.here.0 b.here.1 b.first in
    record {
      readable = subst (IsReadableTerm (hs ++ heading_with name ps ∷ [])) same_term x.readable;
      is = after_some (codes " ") t a.here a.first
          ∙ ap (λ l. codes " " ++ l) (x.is ∙ ap (λ l. term_text names b.here.0 ++ l) (after_some (codes ")\n") b.here.1 c.here c.first))
          ∙ (λ i. codes " " ++ (term_text names (same_term i) ++ (codes ")\n" ++ same_rest i)));
    }

-- ---- parts of readable terms

module _ (hs : List Heading) where
  record Parts (test base step : Tree) : Type 0 where
    pub first : IsReadableTerm hs base
    pub second : IsReadableTerm hs step

  parts_readable : (test base step : Tree) → IsReadableTerm hs (apply (BuiltIn f.If) (more test (more base (more step none)))) → Parts test base step
  parts_readable test base step r =
      let n = second_of_both (numbers_pass is_short test) _ r.numbers in
      let s = second_of_both (names_pass is_symbol is_symbol test) _ r.names in
      let g = second_of_both (functions_pass takes test) _ (second_of_both (takes (BuiltIn f.If) (more test (more base (more step none)))) _ r.functions) in
      let u = second_of_both (uses_pass (is_headed hs) test) _ (second_of_both true _ r.uses) in
      record {
        first = record { numbers = first_of_both _ _ n; names = first_of_both _ _ s; functions = first_of_both _ _ g; uses = first_of_both _ _ u };
        second = record {
          numbers = first_of_both _ _ (second_of_both (numbers_pass is_short base) _ n);
          names = first_of_both _ _ (second_of_both (names_pass is_symbol is_symbol base) _ s);
          functions = first_of_both _ _ (second_of_both (functions_pass takes base) _ g);
          uses = first_of_both _ _ (second_of_both (uses_pass (is_headed hs) base) _ u);
        };
      }

  counted_readable : (ps : List (List ℕ)) (t : Tree) (body : FunctionBody) → Counted ps t body → IsReadableTerm hs t → IsReadableBody hs body
  counted_readable ps t _ whole r = r
  counted_readable ps t _ (parts k ks base step e is) r =
      let p = parts_readable (test_term k) base step (subst (IsReadableTerm hs) is r) in
      (p.first, p.second)

-- ---- names behind those that are used

name_there : (names later : List (List ℕ)) (j : ℕ) → j < length names → name_at (names ++ later) (suc j) ≡ name_at names (suc j)
name_there [] later j lt = absurd (omega arith)
name_there (n ∷ names) later zero lt = refl
name_there (n ∷ names) later (suc j) lt = name_there names later j (omega arith)

headed_low : (hs : List Heading) (k : ℕ) (row : Row) → is_headed hs k row ≡ true → (later : List (List ℕ)) → name_at (heading_names hs ++ later) k ≡ name_at (heading_names hs) k
headed_low hs zero row h later = refl
headed_low hs (suc j) row h later = name_there (heading_names hs) later j (low hs j h)
  where
    low : (xs : List Heading) (i : ℕ) → has_count (row_count row) (slice_get xs i) ≡ true → i < length (heading_names xs)
    low [] i p = absurd cc
    low (x ∷ xs) zero p = omega arith
    low (x ∷ xs) (suc i) p = let s = low xs i p in omega arith

module _ (hs : List Heading) (later : List (List ℕ)) where
  mutual
    pub text_behind : (t : Tree) → uses_pass (is_headed hs) t ≡ true → term_text (heading_names hs ++ later) t ≡ term_text (heading_names hs) t
    text_behind (num z) h = refl
    text_behind (truth b) h = refl
    text_behind (symbol s) h = refl
    text_behind (old s) h = refl
    text_behind (apply (BuiltIn g) row) h = ap (λ l. codes "(" ++ name_of g ++ l ++ codes ")") (row_behind row (second_of_both true _ h))
    text_behind (apply (Defined k) row) h =
        let name = headed_low hs k row (first_of_both (is_headed hs k row) _ h) later in
        let args = row_behind row (second_of_both (is_headed hs k row) _ h) in
        λ i. codes "(" ++ name i ++ args i ++ codes ")"

    row_behind : (row : Row) → row_uses_pass (is_headed hs) row ≡ true → row_text (heading_names hs ++ later) row ≡ row_text (heading_names hs) row
    row_behind none h = refl
    row_behind (more t row) h =
        let here = text_behind t (first_of_both (uses_pass (is_headed hs) t) _ h) in
        let rest = row_behind row (second_of_both (uses_pass (is_headed hs) t) _ h) in
        λ i. codes " " ++ here i ++ rest i

-- ---- a line that was read

pub record DefinitionThere (hs : List Heading) (t : List ℕ) (d : Function) (r : List ℕ) : Type 0 where
  pub readable : IsReadableDefinition hs d
  pub counting : IsCounting d
  pub is : (later : List (List ℕ)) → t ≡ definition_line (heading_names (hs ++ own d ∷ []) ++ later) d ++ r

faultless_some : (o : Option DefFault) (d c : Function) (s r : List ℕ) → faultless o d s ≡ Some (c, r) → (o ≡ None) × (d ≡ c) × (s ≡ r)
faultless_some None d c s r e = (let two = same_pair d c s r e in (refl, two.0, two.1))
faultless_some (Some x) d c s r e = absurd cc

there : (hs : List Heading) (t name : List ℕ) (ps : List (List ℕ)) (u : Tree) (r s : List ℕ) → HeadingThere t name ps r → BodyThere hs name ps r u s → adding_fault hs name ps (counted ps u) ≡ None
    → DefinitionThere hs t (record { name = name; params = ps; body = counted ps u }) s
there hs t name ps u r s h b fits =
    let body = counted ps u in
    let own_hs = hs ++ heading_with name ps ∷ [] in
    let names = heading_names own_hs in
    let c = is_counted ps u in
    record {
      readable = record { name = h.name_is; params = h.good; body = counted_readable own_hs ps u body c b.readable; fits = fits };
      counting = ap (counted ps) (sym (counted_term ps u body c));
      is = λ later.
          let text : body_text (names ++ later) ps body ≡ term_text names u =
          body_text_is (names ++ later) ps body (has_first _ ps body (recurs hs name ps body fits))
          ∙ ap (term_text (names ++ later)) (counted_term ps u body c) ∙ text_behind own_hs later u b.readable.uses in
          h.is ∙ ap (λ l. codes "(DEFN " ++ (name ++ (codes " (" ++ (spaced ps ++ 41 ∷ l)))) (b.is ∙ ap (λ l. codes " " ++ (l ++ (codes ")\n" ++ s))) (sym text))
          ∙ sym (ap (λ l. codes "(DEFN " ++ l) (right_six name (codes " (") (spaced ps) (codes ") ") (body_text (names ++ later) ps body) (codes ")\n") s));
    }

pub definition_some : (hs : List Heading) (t : List ℕ) (d : Function) (r : List ℕ) → definition_at hs t ≡ Some (d, r) → DefinitionThere hs t d r
unfolding definition_at
definition_some hs t d r e =
    let a = step (line_heading_at t) _ _ e in
    let name = a.here.0.0 in
    let ps = a.here.0.1 in
    let b = step (body_at hs name ps a.here.1) _ _ a.later in
    let f = faultless_some (adding_fault hs name ps (counted ps b.here.0)) (record { name = name; params = ps; body = counted ps b.here.0 }) d b.here.1 r b.later in
    let h = heading_some t name ps a.here.1 a.first in
    let body = body_some hs name ps a.here.1 b.here.0 b.here.1 b.first in
    subst (λ x. DefinitionThere hs t d x) f.2 (subst (λ x. DefinitionThere hs t x b.here.1) f.1 (there hs t name ps b.here.0 a.here.1 b.here.1 h body f.0))
