-- How an expression is read whose parts are read: operators, signs and brackets.
use Rattle.std.proofs.Common.{◌≡◌, ℕ, zero, suc, ◌+◌, ◌≤◌, ◌<◌, Bool, true, false, Some, None, List, [], ◌∷◌, ◌++◌, length, codes, refl, sym, ap, subst, ◌∙◌, append_assoc, arith}
use Rattle.std.specs.Prelude.{if◌then◌else◌, nat_le}
use Rattle.std.proofs.lemmas.Bool.Decides.{nat_tests}
use Rattle.std.proofs.lemmas.List.{length-append}
use Rattle.formula.specs.Atoms.{starts}
use Rattle.fort_syntax.specs.Misspelled.{begins}
use Rattle.fort_syntax.specs.Spelled.{Texts, name, truth, just, ◌⨾◌, bracketed, exponent, binding, bound, expression}
use Rattle.fort_syntax.specs.declared.dialect.BinOp.TheVariants.{Add, Sub, Mul, Div}
use Rattle.fort_syntax.specs.declared.dialect.RelOp.TheVariants.{Lt, Le, Eq, Ne, Ge, Gt}
use Rattle.fort_syntax.specs.declared.name.Name.{Name}
use Rattle.fort_syntax.specs.declared.expr.Expr.{Expr, Paren, Power}
use Rattle.fort_syntax.specs.declared.expr.Expr.TheVariants.{Truth, Var}
use Rattle.stmt_parse.specs.declared.joint.Joint.{Joint}
use Rattle.stmt_parse.specs.declared.joint.Joint.TheVariants as joint
use Rattle.stmt_parse.specs.Tokens.{◌>>=◌, after, joint_at, strength, left_strength, right_strength}
use Rattle.stmt_parse.specs.Parsing.{joined, bracket, signed, front, parse}
use Rattle.stmt_parse.proofs.Climbing.{found_continues, continues}
use Rattle.stmt_parse.proofs.ExpressionsEnds.{is_apart, no_name_byte, no_bracket, stops_later}
use Rattle.stmt_parse.proofs.ExpressionsFirst.{first_byte, is_no_star, starts_longer, no_power, joint_found, power_found}
use Rattle.stmt_parse.proofs.ExpressionsTokens.{sign_text}
use Rattle.stmt_parse.proofs.PartsParsed.{Reached, at_least, first_part, whole_part, joined_parts, power_part}
use Rattle.stmt_parse.proofs.SpelledParsed.{name_front}
use Rattle.stmt_parse.proofs.TokensRead.{when_true, when_false}

-- an expression is read from its texts up to its end, and climbing goes on
abbrev pub ReadUpTo : Expr → ℕ → ℕ → List ℕ → List ℕ → Type 0
ReadUpTo e f k x r = length x + 1 ≤ f → is_apart r ≡ true → continues (binding e + 1) r ≡ false → Reached f k e x r

abbrev pub IsRead : Expr → Type 0
IsRead e = (x r : List ℕ) (f k : ℕ) → expression e x → k ≤ binding e → ReadUpTo e f k x r

-- so it is read whole where it ends
pub read_whole : (e : Expr) → IsRead e → (x r : List ℕ) (f k : ℕ) → expression e x → k ≤ binding e → length x + 2 ≤ f
    → is_apart r ≡ true → continues k r ≡ false
    → parse f k (x ++ r) ≡ Some (e, r)
read_whole e read x r zero k h tight room apart stop = absurd (omega arith)
read_whole e read x r (suc f) k h tight room apart stop =
    let less : length x + 1 ≤ f = omega arith in
    whole_part f k e x r (read x r f k h tight less apart (stops_later k (binding e + 1) r (omega arith) stop)) less stop

-- ---- what needs no operator

pub truth_read : (b : Bool) (x r : List ℕ) (f k : ℕ) → just (truth b) x → Reached f k (Truth b) x r
truth_read true x r f k h = first_part f k (Truth true) x r (ap (λ t. front (parse f) f k (t ++ r)) h)
truth_read false x r f k h = first_part f k (Truth false) x r (ap (λ t. front (parse f) f k (t ++ r)) h)

pub var_read : (v : Name) (x r : List ℕ) (f k : ℕ) → name v x → is_apart r ≡ true → Reached f k (Var v) x r
var_read v x r f k h apart =
    first_part f k (Var v) x r
    (ap (λ t. front (parse f) f k (t ++ r)) h.0
    ∙ name_front (parse f) f k v r h.1 (no_name_byte r apart)
    ∙ when_false (begins (codes "(") r) _ _ (no_bracket r apart))

-- ---- operators

stronger : (o : Joint)
    → (strength o ≤ left_strength o) × (right_strength o ≡ strength o + 1) × (1 ≤ length (sign_text o))
stronger joint.Or = (omega arith, refl, omega arith)
stronger joint.And = (omega arith, refl, omega arith)
stronger (joint.Rel Lt) = (omega arith, refl, omega arith)
stronger (joint.Rel Le) = (omega arith, refl, omega arith)
stronger (joint.Rel Eq) = (omega arith, refl, omega arith)
stronger (joint.Rel Ne) = (omega arith, refl, omega arith)
stronger (joint.Rel Ge) = (omega arith, refl, omega arith)
stronger (joint.Rel Gt) = (omega arith, refl, omega arith)
stronger (joint.Bin Add) = (omega arith, refl, omega arith)
stronger (joint.Bin Sub) = (omega arith, refl, omega arith)
stronger (joint.Bin Mul) = (omega arith, refl, omega arith)
stronger (joint.Bin Div) = (omega arith, refl, omega arith)

sign_apart : (o : Joint) (t : List ℕ) → is_apart (sign_text o ++ t) ≡ true
sign_apart joint.Or t = refl
sign_apart joint.And t = refl
sign_apart (joint.Rel Lt) t = refl
sign_apart (joint.Rel Le) t = refl
sign_apart (joint.Rel Eq) t = refl
sign_apart (joint.Rel Ne) t = refl
sign_apart (joint.Rel Ge) t = refl
sign_apart (joint.Rel Gt) t = refl
sign_apart (joint.Bin Add) t = refl
sign_apart (joint.Bin Sub) t = refl
sign_apart (joint.Bin Mul) t = refl
sign_apart (joint.Bin Div) t = refl

not_within : (k n : ℕ) → n < k → nat_le k n ≡ false
not_within k n h = grind (arith, nat_tests)

sign_stops : (k : ℕ) (o : Joint) (t : List ℕ) → strength o < k → starts is_no_star t ≡ true
    → continues k (sign_text o ++ t) ≡ false
sign_stops k o t h star =
    (λ i. found_continues k (no_power o t star i) (joint_found o t i)) ∙ not_within k (strength o) h

-- an expression with an operator between two parts
abbrev pub Joined : Joint → Expr → Expr → Texts
Joined o a b = bound (left_strength o) a (expression a) ⨾ just (sign_text o) ⨾ bound (right_strength o) b (expression b)

pub joined_read : (o : Joint) (a b : Expr) → IsRead a → IsRead b → (x r : List ℕ) (f k : ℕ) → Joined o a b x
    → k ≤ strength o
    → length x + 1 ≤ f → is_apart r ≡ true → continues (strength o + 1) r ≡ false → Reached f k (joined o a b) x r
joined_read o a b read_a read_b x r f k h tight room apart stop =
    let tb : List ℕ = h.4.1 in
    let same : x ≡ h.0 ++ (sign_text o ++ tb) = h.2 ∙ ap (λ y. h.0 ++ y) (h.4.2 ∙ ap (λ y. y ++ tb) h.4.3) in
    let size : length x ≡ length h.0 + (length (sign_text o) + length tb) =
    ap length same ∙ length-append h.0 (sign_text o ++ tb) ∙ ap (λ n. length h.0 + n) (length-append (sign_text o) tb) in
    let s = stronger o in
    let above = s.0 in
    let some = s.2 in
    let apart_left = h.3.0 in
    let star : starts is_no_star (tb ++ r) ≡ true = starts_longer is_no_star tb r (first_byte b tb h.4.4.1) in
    let fits : length h.0 + 1 ≤ f = omega arith in
    let stop_right : continues (right_strength o) r ≡ false = subst (λ m. continues m r ≡ false) (sym s.1) stop in
    subst (λ y. Reached f k (joined o a b) y r) (sym same)
    (joined_parts f k a b o (sign_text o) h.0 tb r (joint_found o (tb ++ r)) (no_power o (tb ++ r) star) some tight apart_left fits
    (read_a h.0 (sign_text o ++ (tb ++ r)) f k h.3.1 (omega arith) fits (sign_apart o (tb ++ r))
    (sign_stops (binding a + 1) o (tb ++ r) (omega arith) star))
    (read_whole b read_b tb r f (right_strength o) h.4.4.1 h.4.4.0 (omega arith) apart stop_right))

power_stops : (k n : ℕ) (r : List ℕ) → 1 ≤ n → n ≤ 9 → 6 < k → continues k (42 ∷ 42 ∷ (48 + n) ∷ r) ≡ false
power_stops k n r low high h =
    ap (λ p. found_continues k p (joint_at (42 ∷ 42 ∷ (48 + n) ∷ r))) (power_found n r low high) ∙ not_within k 6 h

pub power_read : (a : Expr) (n : ℕ) → IsRead a → (x r : List ℕ) (f k : ℕ)
    → (bound 7 a (expression a) ⨾ just (codes "**") ⨾ exponent n) x → k ≤ 6
    → length x + 1 ≤ f → Reached f k (Power a n) x r
power_read a n read_a x r f k h tight room =
    let sign : List ℕ = 42 ∷ 42 ∷ (48 + n) ∷ [] in
    let low = h.4.4.0 in
    let high = h.4.4.1 in
    let same : x ≡ h.0 ++ sign = h.2 ∙ ap (λ y. h.0 ++ y) (h.4.2 ∙ (λ i. h.4.3 i ++ h.4.4.2 i)) in
    let size : length x ≡ length h.0 + length sign = ap length same ∙ length-append h.0 sign in
    let fits : length h.0 + 1 ≤ f = omega arith in
    let apart = h.3.0 in
    subst (λ y. Reached f k (Power a n) y r) (sym same)
    (power_part f k a n sign h.0 r (power_found n r low high) (omega arith) tight apart fits
    (read_a h.0 (sign ++ r) f k h.3.1 (omega arith) fits refl (power_stops (binding a + 1) n r low high (omega arith))))

-- ---- signs and .NOT.

pub prefixed_read : (word : List ℕ) (sign : Expr → Expr) (limit : ℕ) (a : Expr) → IsRead a → (x r : List ℕ) (f k : ℕ)
    → (just word ⨾ bound (limit + 1) a (expression a)) x
    → ((t : List ℕ) → front (parse f) f k (word ++ t) ≡ (if nat_le k limit then signed sign (parse f (limit + 1) t) else None))
    → 1 ≤ length word → k ≤ limit
    → length x + 1 ≤ f → is_apart r ≡ true → continues (limit + 1) r ≡ false → Reached f k (sign a) x r
prefixed_read word sign limit a read_a x r f k h step some tight room apart stop =
    let y : List ℕ = h.1 in
    let same : x ≡ word ++ y = h.2 ∙ ap (λ w. w ++ y) h.3 in
    let size : length x ≡ length word + length y = ap length same ∙ length-append word y in
    let fits : length y + 2 ≤ f = omega arith in
    first_part f k (sign a) x r
    (ap (λ t. front (parse f) f k (t ++ r)) same
    ∙ ap (front (parse f) f k) (append_assoc word y r)
    ∙ step (y ++ r)
    ∙ when_true (nat_le k limit) _ _ (at_least k limit tight)
    ∙ ap (signed sign) (read_whole a read_a y r f (limit + 1) h.4.1 h.4.0 fits apart stop))

-- ---- brackets

pub paren_read : (a : Expr) → IsRead a → (x r : List ℕ) (f k : ℕ) → bracketed (expression a) x → length x + 1 ≤ f
    → Reached f k (Paren a) x r
paren_read a read_a x r f k h room =
    let y : List ℕ = h.4.0 in
    let same : x ≡ 40 ∷ (y ++ 41 ∷ []) = h.2 ∙ (λ i. h.3 i ++ (h.4.2 ∙ ap (λ w. y ++ w) h.4.4) i) in
    let size : length x ≡ suc (length y + 1) = ap length same ∙ ap suc (length-append y (41 ∷ [])) in
    let fits : length y + 2 ≤ f = omega arith in
    first_part f k (Paren a) x r
    (ap (λ t. front (parse f) f k (t ++ r)) same
    ∙ ap (λ t. bracket (parse f) t) (append_assoc y (41 ∷ []) r)
    ∙ ap (λ z. z >>= λ e. after (codes ")") e.1 >>= λ rest. Some (Paren e.0, rest))
    (read_whole a read_a y (41 ∷ r) f 0 h.4.3 (omega arith) fits refl refl))
