-- The line of a definition that can be read back is read.
use Rattle.std.proofs.Common.{◌≡◌, ℕ, zero, suc, ◌≤◌, ◌<◌, Bool, true, false, if◌then◌else◌, Some, None, List, [], ◌∷◌, ◌++◌, length, drop, codes, refl, sym, ap, ◌∙◌, subst, arith, append_assoc, append-nil, length-append}
use Rattle.std.proofs.lemmas.Bool.Decides.{nat_tests}
use Rattle.std.specs.List.{flat_map, list_all}
use Rattle.std.specs.Prelude.{◌&&◌, ◌==◌, not}
use Rattle.formula.specs.declared.definition.Heading.{Heading}
use Rattle.formula.specs.declared.definition_fault.DefFault.{DefFault}
use Rattle.formula.specs.declared.function.BuiltIn.TheVariants as f
use Rattle.formula.specs.declared.function.Func.TheVariants.{BuiltIn, Defined}
use Rattle.formula.specs.Adding.{adding_fault, counts_down, has_names_of, is_known_name, is_known_use, is_other}
use Rattle.formula.specs.Atoms.{has_twin, is_function_name, is_name, is_name_byte}
use Rattle.formula.specs.Headings.{heading_with, is_headed}
use Rattle.formula.specs.Reading.{head_named}
use Rattle.formula.specs.TermTests.{row_uses_pass, uses_pass}
use Rattle.formula.specs.Tree.{Tree, num, truth, symbol, old, apply, Row, none, more}
use Rattle.formula.specs.Worth.{Function, FunctionBody, plain, counting}
use Rattle.fort_syntax.specs.Misspelled.{begins}
use Rattle.event_text.specs.EventText.{body_text, definition_line, spaced}
use Rattle.event_text.specs.Readable.{body_term, is_parameter, IsReadableBody, IsReadableDefinition}
use Rattle.event_text.specs.TermText.{name_at, term_text}
use Rattle.event_text.proofs.FoundNames.{AreNew, are_found, next_as_last}
use Rattle.event_text.proofs.OneDefinition.{body_text_is, body_told, has_first, name_bytes, own, recurs}
use Rattle.event_text.proofs.SpelledTerms.{IsTold}
use Rattle.event_text.proofs.Splits.{StopsAt, right_six}
use Rattle.event_text.proofs.Tests.{first_of_both, second_of_both}
use Rattle.event_text.proofs.Told.{AreFound, reads_heads}
use Rattle.event_reading.specs.Lines.{body_at, counted, definition_at, heading_at, more_parameters, parameters_at}
use Rattle.event_reading.specs.Names.{heading_names}
use Rattle.event_reading.specs.Readings.{◌>>=◌, parameter_at}
use Rattle.event_reading.proofs.DefinitionLines.{text_behind}
use Rattle.event_reading.proofs.Parts.{Counted, counted_again, is_counted, parts, test_term, whole}
use Rattle.event_reading.proofs.Steps.{function_name_read, parameter_read, term_read}

-- ---- parameters

abbrev blank_first : List ℕ → List ℕ
blank_first w = codes " " ++ w

more_stop : (ws : List (List ℕ)) (x : List ℕ) → StopsAt is_name_byte (flat_map blank_first ws ++ 41 ∷ x)
more_stop [] x = refl
more_stop (w ∷ ws) x = refl

more_read : (n : ℕ) (ps added : List (List ℕ)) (r : List ℕ) → length added < n → list_all is_parameter added ≡ true → more_parameters n ps (flat_map blank_first added ++ 41 ∷ r) ≡ Some (ps ++ added, r)
more_read zero ps added r lt h = absurd (omega arith)
more_read (suc n) ps [] r lt h = ap (λ l. Some (l, r)) (sym (append-nil ps))
more_read (suc n) ps (a ∷ added) r lt h =
    let rest = flat_map blank_first added ++ 41 ∷ r in
    let good = first_of_both (is_parameter a) (list_all is_parameter added) h in
    let others = second_of_both (is_parameter a) (list_all is_parameter added) h in
    ap (λ l. parameter_at l >>= λ p. more_parameters n (ps ++ p.0 ∷ []) p.1) (append_assoc a (flat_map blank_first added) (41 ∷ r))
    ∙ ap (λ o. o >>= λ p. more_parameters n (ps ++ p.0 ∷ []) p.1) (parameter_read a rest good (more_stop added r))
    ∙ more_read n (ps ++ a ∷ []) added r (omega arith) others
    ∙ ap (λ l. Some (l, r)) (append_assoc ps (a ∷ []) added)

word_letter : (b : ℕ) (w : List ℕ) → is_parameter (b ∷ w) ≡ true → is_name_byte b ≡ true
word_letter b w h = first_of_both (is_name_byte b) (list_all is_name_byte w) (name_bytes (b ∷ w) (first_of_both (is_name (b ∷ w)) _ h))

-- a text that begins with a parameter is none of no parameter
not_closing : (a : List ℕ) (x : List ℕ) → is_parameter a ≡ true → begins (codes ")") (a ++ x) ≡ false
not_closing [] x h = absurd cc
not_closing (b ∷ a) x h = no b (word_letter b a h)
  where
    no : (c : ℕ) → is_name_byte c ≡ true → begins (codes ")") (c ∷ (a ++ x)) ≡ false
    no c p = grind (arith, nat_tests)

parameters_read : (n : ℕ) (ps : List (List ℕ)) (r : List ℕ) → length ps ≤ n → list_all is_parameter ps ≡ true → parameters_at n (spaced ps ++ 41 ∷ r) ≡ Some (ps, r)
unfolding parameters_at
parameters_read n [] r le h = refl
parameters_read n (a ∷ ps) r le h =
    let rest = flat_map blank_first ps ++ 41 ∷ r in
    let good = first_of_both (is_parameter a) (list_all is_parameter ps) h in
    let others = second_of_both (is_parameter a) (list_all is_parameter ps) h in
    let split : spaced (a ∷ ps) ++ 41 ∷ r ≡ a ++ rest = append_assoc a (flat_map blank_first ps) (41 ∷ r) in
    ap (parameters_at n) split
    ∙ ap (λ b. if b then Some ([], drop 1 (a ++ rest)) else (parameter_at (a ++ rest) >>= λ p. more_parameters n (p.0 ∷ []) p.1)) (not_closing a rest good)
    ∙ ap (λ o. o >>= λ p. more_parameters n (p.0 ∷ []) p.1) (parameter_read a rest good (more_stop ps r))
    ∙ more_read n (a ∷ []) ps r (omega arith) others

few : (ps : List (List ℕ)) (x : List ℕ) → list_all is_parameter ps ≡ true → length ps ≤ length (spaced ps ++ 41 ∷ x)
few [] x h = omega arith
few (a ∷ ps) x h =
    let others = more ps (second_of_both (is_parameter a) (list_all is_parameter ps) h) in
    simp length-append (omega arith)
  where
    more : (qs : List (List ℕ)) → list_all is_parameter qs ≡ true → length qs ≤ length (flat_map blank_first qs)
    more [] p = omega arith
    more (q ∷ qs) p =
        let s = more qs (second_of_both (is_parameter q) (list_all is_parameter qs) p) in
        simp length-append (omega arith)

heading_read : (name : List ℕ) (ps : List (List ℕ)) (r : List ℕ) → is_function_name name ≡ true → list_all is_parameter ps ≡ true
    → heading_at (codes "(DEFN " ++ (name ++ (codes " (" ++ (spaced ps ++ 41 ∷ r)))) ≡ Some ((name, ps), r)
unfolding heading_at
heading_read name ps r h k =
    let behind = spaced ps ++ 41 ∷ r in
    rw (
      function_name_read name (codes " (" ++ behind) h refl,
      parameters_read (length behind) ps r (few ps r k) k,
    ) refl

-- ---- bodies

body_uses : (hs : List Heading) (ps : List (List ℕ)) (body : FunctionBody) → IsReadableBody hs body → uses_pass (is_headed hs) (body_term ps body) ≡ true
body_uses hs ps (plain t) r = r.uses
body_uses hs [] (counting base step) r = r.1.uses
body_uses hs (k ∷ ks) (counting base step) r = rw (r.0.uses, r.1.uses) refl

body_read : (hs : List Heading) (d : Function) (r : List ℕ) → AreNew [] (hs ++ own d ∷ []) → IsReadableDefinition hs d
    → body_at hs d.name d.params (codes " " ++ (term_text (heading_names (hs ++ own d ∷ [])) (body_term d.params d.body) ++ (codes ")\n" ++ r))) ≡ Some (body_term d.params d.body, r)
unfolding body_at
body_read hs d r new good =
    let hd = hs ++ own d ∷ [] in
    let names = heading_names hd in
    let u = body_term d.params d.body in
    let found : AreFound (head_named hd None) names hd = subst (λ l. AreFound (head_named hd None) l hd) (append-nil names) (are_found hd [] new) in
    let next : AreFound (head_named hs (Some (own d))) names hd = λ k h at. (let x = found k h at in (x.0, next_as_last hs (own d) (name_at names k) ∙ x.1)) in
    let told : IsTold (head_named hs (Some (own d))) names u =
    body_told (head_named hs (Some (own d))) names hd (reads_heads hs (Some (own d)) names hd next) d.params d.body good.params (has_first _ d.params d.body (recurs hs d.name d.params d.body good.fits)) good.body in
    rw (term_read names hs (Some (own d)) u (codes ")\n" ++ r) told refl) refl

-- ---- faults

other : (b first : Bool) → not b ≡ true → (if b then first else true) ≡ true
other true first h = absurd cc
other false first h = refl

module _ (k : ℕ) (params : List (List ℕ)) where
  mutual
    -- where a definition does not use itself, it counts down wherever it uses itself
    uses_down : (t : Tree) → uses_pass (is_other k) t ≡ true → uses_pass (counts_down k params) t ≡ true
    uses_down (num z) h = refl
    uses_down (truth b) h = refl
    uses_down (symbol s) h = refl
    uses_down (old s) h = refl
    uses_down (apply (BuiltIn g) row) h = row_down row (second_of_both true _ h)
    uses_down (apply (Defined j) row) h =
        let here : counts_down k params j row ≡ true = other (j == k) _ (first_of_both (is_other k j row) _ h) in
        let rest = row_down row (second_of_both (is_other k j row) _ h) in
        rw (here, rest) refl

    row_down : (row : Row) → row_uses_pass (is_other k) row ≡ true → row_uses_pass (counts_down k params) row ≡ true
    row_down none h = refl
    row_down (more t row) h =
        let here = uses_down t (first_of_both (uses_pass (is_other k) t) _ h) in
        let rest = row_down row (second_of_both (uses_pass (is_other k) t) _ h) in
        rw (here, rest) refl

-- the list of faults with other tests, which pass where the first do
swap : (a b c d e f x y z w : Bool) (p q r s t u : DefFault) → (b ≡ true → x ≡ true) → (c ≡ true → y ≡ true) → (d ≡ true → z ≡ true) → (e ≡ true → w ≡ true)
    → (if a then Some p else if not b then Some q else if not c then Some r else if not d then Some s else if not e then Some t else if f then Some u else None) ≡ None
    → (if a then Some p else if not x then Some q else if not y then Some r else if not z then Some s else if not w then Some t else if f then Some u else None) ≡ None
swap true b c d e f x y z w p q r s t u hb hc hd he h = absurd cc
swap false false c d e f x y z w p q r s t u hb hc hd he h = absurd cc
swap false true false d e f x y z w p q r s t u hb hc hd he h = absurd cc
swap false true true false e f x y z w p q r s t u hb hc hd he h = absurd cc
swap false true true true false f x y z w p q r s t u hb hc hd he h = absurd cc
swap false true true true true true x y z w p q r s t u hb hc hd he h = absurd cc
swap false true true true true false x y z w p q r s t u hb hc hd he h = rw (hb refl, hc refl, hd refl, he refl) refl

abbrev whole_term : List ℕ → Tree → Tree → Tree
whole_term k base step = apply (BuiltIn f.If) (more (test_term k) (more base (more step none)))

three : (b s : Bool) → (b && (s && true)) ≡ true → (b && s) ≡ true
three true true h = refl
three true false h = h
three false s h = h

uses_parts : (q : ℕ → Row → Bool) (k : List ℕ) (base step : Tree) → uses_pass q (whole_term k base step) ≡ true → (uses_pass q base && uses_pass q step) ≡ true
uses_parts q k base step h = three (uses_pass q base) (uses_pass q step) h

names_parts : (ps : List (List ℕ)) (k : List ℕ) (base step : Tree) → has_names_of ps (whole_term k base step) ≡ true → (has_names_of ps base && has_names_of ps step) ≡ true
names_parts ps k base step h = three (has_names_of ps base) (has_names_of ps step) (second_of_both (has_names_of ps (test_term k)) _ h)

-- a plain definition whose term counts is not at fault as a counting one
fits_parts : (earlier : List Heading) (name k : List ℕ) (ks : List (List ℕ)) (base step : Tree) → adding_fault earlier name (k ∷ ks) (plain (whole_term k base step)) ≡ None
    → adding_fault earlier name (k ∷ ks) (counting base step) ≡ None
fits_parts earlier name k ks base step =
    let n = suc (length earlier) in
    let known = is_known_use n in
    let headed = is_headed (earlier ++ heading_with name (k ∷ ks) ∷ []) in
    swap (is_known_name earlier name)
    (uses_pass known (whole_term k base step)) (uses_pass headed (whole_term k base step)) (uses_pass (is_other n) (whole_term k base step)) (has_names_of (k ∷ ks) (whole_term k base step)) (has_twin (k ∷ ks))
    (uses_pass known base && uses_pass known step) (uses_pass headed base && uses_pass headed step) (uses_pass (is_other n) base && uses_pass (counts_down n (k ∷ ks)) step) (has_names_of (k ∷ ks) base && has_names_of (k ∷ ks) step)
    DefFault.KnownName DefFault.UnknownFunction DefFault.BadCount DefFault.BadRecursion DefFault.FreeName DefFault.SameParameter
    (uses_parts known k base step) (uses_parts headed k base step)
    (λ h. (let both = uses_parts (is_other n) k base step h in let b = first_of_both (uses_pass (is_other n) base) _ both in let s = uses_down n (k ∷ ks) step (second_of_both (uses_pass (is_other n) base) _ both) in rw (b, s) refl))
    (names_parts (k ∷ ks) k base step)

fits_again : (earlier : List Heading) (name : List ℕ) (ps : List (List ℕ)) (body : FunctionBody) → adding_fault earlier name ps body ≡ None → adding_fault earlier name ps (counted ps (body_term ps body)) ≡ None
fits_again earlier name [] (counting base step) h = absurd (has_first (suc (length earlier)) [] (counting base step) (recurs earlier name [] (counting base step) h))
fits_again earlier name (k ∷ ks) (counting base step) h = ap (adding_fault earlier name (k ∷ ks)) (counted_again k ks base step) ∙ h
fits_again earlier name ps (plain t) h = by (counted ps t) (is_counted ps t)
  where
    by : (b : FunctionBody) → Counted ps t b → adding_fault earlier name ps b ≡ None
    by _ whole = h
    by _ (parts k ks base step e is) =
        subst (λ l. adding_fault earlier name l (counting base step) ≡ None) (sym e)
        (fits_parts earlier name k ks base step (subst (λ l. adding_fault earlier name l (plain (whole_term k base step)) ≡ None) e (subst (λ x. adding_fault earlier name ps (plain x) ≡ None) is h)))

-- ---- the line

-- the definition that is read of a line
abbrev pub as_read : Function → Function
as_read d = record { name = d.name; params = d.params; body = counted d.params (body_term d.params d.body) }

pub definition_read : (hs : List Heading) (d : Function) (later : List (List ℕ)) (r : List ℕ) → AreNew [] (hs ++ own d ∷ []) → IsReadableDefinition hs d
    → definition_at hs (definition_line (heading_names (hs ++ own d ∷ []) ++ later) d ++ r) ≡ Some (as_read d, r)
unfolding definition_at
definition_read hs d later r new good =
    let hd = hs ++ own d ∷ [] in
    let names = heading_names hd in
    let u = body_term d.params d.body in
    let bd = body_text (names ++ later) d.params d.body in
    let text : bd ≡ term_text names u = body_text_is (names ++ later) d.params d.body (has_first _ d.params d.body (recurs hs d.name d.params d.body good.fits)) ∙ text_behind hd later u (body_uses hd d.params d.body good.body) in
    let behind = codes " " ++ (term_text names u ++ (codes ")\n" ++ r)) in
    let split : definition_line (names ++ later) d ++ r ≡ codes "(DEFN " ++ (d.name ++ (codes " (" ++ (spaced d.params ++ 41 ∷ behind))) =
    ap (λ l. codes "(DEFN " ++ l) (right_six d.name (codes " (") (spaced d.params) (codes ") ") bd (codes ")\n") r)
    ∙ ap (λ l. codes "(DEFN " ++ (d.name ++ (codes " (" ++ (spaced d.params ++ 41 ∷ (32 ∷ (l ++ (codes ")\n" ++ r))))))) text in
    ap (definition_at hs) split
    ∙ rw (heading_read d.name d.params behind good.name good.params, body_read hs d r new good, fits_again hs d.name d.params d.body good.fits) refl
