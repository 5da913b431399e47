-- One round of a loop.
use Rattle.std.proofs.Common.{◌≡◌, ℕ, zero, suc, ◌-◌, ◌<◌, true, Some, None, List, ◌∷◌, [], ◌++◌, drop, codes, refl, ap, sym, ◌∙◌, arith}
use Rattle.std.specs.Prelude.{if◌then◌else◌}
use Rattle.fort_syntax.specs.declared.expr.Expr.{Expr}
use Rattle.fort_syntax.specs.Misspelled.{begins}
use Rattle.stmt_parse.specs.Tokens.{Reading, ◌>>=◌, power_at}
use Rattle.fort_syntax.specs.declared.stmt.Group.{Group}
use Rattle.stmt_parse.specs.Statements.{Reader, more_of, slashed_group, more_groups_at}
use Rattle.stmt_parse.specs.Parsing.{Inner, more_arguments, front, at_power, climb, parse}

pub climb_none : (inner : Inner) (k : ℕ) (e : Expr) (t : List ℕ) → climb inner 0 k e t ≡ None
climb_none inner k e t = refl

pub climb_next : (inner : Inner) (n k : ℕ) (e : Expr) (t : List ℕ) → 0 < n → climb inner n k e t ≡ at_power (climb inner (n - 1) k) inner k e t (power_at t)
climb_next inner zero k e t lt = absurd (omega arith)
climb_next inner (suc n) k e t lt = let same : n ≡ suc n - 1 = omega arith in ap (λ m. at_power (climb inner m k) inner k e t (power_at t)) same

pub parse_none : (k : ℕ) (t : List ℕ) → parse 0 k t ≡ None
parse_none k t = refl

pub parse_next : (f k : ℕ) (t : List ℕ) → 0 < f → parse f k t ≡ (front (parse (f - 1)) (f - 1) k t >>= λ e. climb (parse (f - 1)) (f - 1) k e.0 e.1)
parse_next zero k t lt = absurd (omega arith)
parse_next (suc f) k t lt = let same : f ≡ suc f - 1 = omega arith in ap (λ m. front (parse m) m k t >>= λ e. climb (parse m) m k e.0 e.1) same

pub more_none : (inner : Inner) (es : List Expr) (t : List ℕ) → more_arguments inner 0 es t ≡ None
more_none inner es t = refl

pub more_next : (inner : Inner) (n : ℕ) (es : List Expr) (t : List ℕ) → 0 < n
    → more_arguments inner n es t ≡ (if begins (codes ",") t then (inner 0 (drop 1 t) >>= λ e. more_arguments inner (n - 1) (es ++ e.0 ∷ []) e.1) else Some (es, t))
more_next inner zero es t lt = absurd (omega arith)
more_next inner (suc n) es t lt =
    let same : n ≡ suc n - 1 = omega arith in
    ap (λ m. if begins (codes ",") t then (inner 0 (drop 1 t) >>= λ e. more_arguments inner m (es ++ e.0 ∷ []) e.1) else Some (es, t)) same

pub more_of_none : {A : Type 0} (read : Reader A) (xs : List A) (t : List ℕ) → more_of read 0 xs t ≡ None
more_of_none read xs t = refl

pub more_of_next : {A : Type 0} (read : Reader A) (n : ℕ) (xs : List A) (t : List ℕ) → 0 < n
    → more_of read n xs t ≡ (if begins (codes ",") t then (read (drop 1 t) >>= λ x. more_of read (n - 1) (xs ++ x.0 ∷ []) x.1) else Some (xs, t))
more_of_next read zero xs t lt = absurd (omega arith)
more_of_next read (suc n) xs t lt =
    let same : n ≡ suc n - 1 = omega arith in
    ap (λ m. if begins (codes ",") t then (read (drop 1 t) >>= λ x. more_of read m (xs ++ x.0 ∷ []) x.1) else Some (xs, t)) same

pub more_groups_none : (n : ℕ) (gs : List Group) (t : List ℕ) → more_groups_at n 0 gs t ≡ None
more_groups_none n gs t = refl

pub more_groups_next : (k n : ℕ) (gs : List Group) (t : List ℕ) → 0 < n
    → more_groups_at k n gs t ≡ (if begins (codes "/") t then (slashed_group k (drop 1 t) >>= λ g. more_groups_at k (n - 1) (gs ++ g.0 ∷ []) g.1) else Some (gs, t))
more_groups_next k zero gs t lt = absurd (omega arith)
more_groups_next k (suc n) gs t lt =
    let same : n ≡ suc n - 1 = omega arith in
    ap (λ m. if begins (codes "/") t then (slashed_group k (drop 1 t) >>= λ g. more_groups_at k m (gs ++ g.0 ∷ []) g.1) else Some (gs, t)) same

-- a round that reads one more
pub more_of_step : {A : Type 0} (read : Reader A) (n : ℕ) (xs ys : List A) (t behind : List ℕ) (x : A) (rhs : Reading (List A))
    → 0 < n → begins (codes ",") t ≡ true → read (drop 1 t) ≡ Some (x, behind) → ys ≡ xs ++ x ∷ [] → more_of read n xs t ≡ rhs → more_of read (n - 1) ys behind ≡ rhs
more_of_step read n xs ys t behind x rhs lt comma one more inv =
    let k : more_of read n xs t ≡ more_of read (n - 1) (xs ++ x ∷ []) behind = more_of_next read n xs t lt ∙ rw (comma, one) refl in
    ap (λ zs. more_of read (n - 1) zs behind) more ∙ sym k ∙ inv

pub more_arguments_step : (inner : Inner) (n : ℕ) (xs ys : List Expr) (t behind : List ℕ) (x : Expr) (rhs : Reading (List Expr))
    → 0 < n → begins (codes ",") t ≡ true → inner 0 (drop 1 t) ≡ Some (x, behind) → ys ≡ xs ++ x ∷ [] → more_arguments inner n xs t ≡ rhs → more_arguments inner (n - 1) ys behind ≡ rhs
more_arguments_step inner n xs ys t behind x rhs lt comma one more inv =
    let k : more_arguments inner n xs t ≡ more_arguments inner (n - 1) (xs ++ x ∷ []) behind = more_next inner n xs t lt ∙ rw (comma, one) refl in
    ap (λ zs. more_arguments inner (n - 1) zs behind) more ∙ sym k ∙ inv

pub more_groups_step : (m n : ℕ) (xs ys : List Group) (t behind : List ℕ) (x : Group) (rhs : Reading (List Group))
    → 0 < n → begins (codes "/") t ≡ true → slashed_group m (drop 1 t) ≡ Some (x, behind) → ys ≡ xs ++ x ∷ [] → more_groups_at m n xs t ≡ rhs → more_groups_at m (n - 1) ys behind ≡ rhs
more_groups_step m n xs ys t behind x rhs lt slash one more inv =
    let k : more_groups_at m n xs t ≡ more_groups_at m (n - 1) (xs ++ x ∷ []) behind = more_groups_next m n xs t lt ∙ rw (slash, one) refl in
    ap (λ zs. more_groups_at m (n - 1) zs behind) more ∙ sym k ∙ inv
