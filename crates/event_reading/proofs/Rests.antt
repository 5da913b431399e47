-- Open brackets of terms that are being put.
use Rattle.std.proofs.Common.{◌≡◌, ℕ, zero, suc, ◌+◌, ◌<◌, List, [], ◌∷◌, ◌++◌, ◌∙◌, length, length-append, drop, get_or, Some, slice_get, false, codes, sym, ap, arith, append_assoc}
use Rattle.std.proofs.lemmas.Option.{get_or_from_slice_get}
use Rattle.formula.specs.declared.function.Func.{Func}
use Rattle.formula.specs.declared.node.Node.{Node}
use Rattle.formula.specs.declared.node.Node.TheVariants.{Truth, Apply}
use Rattle.formula.specs.declared.node.TermId.{TermId}
use Rattle.formula.specs.Pool.{AllBelow, arguments_of, row_in, tree_in, tree_of, trees}
use Rattle.event_reading.specs.declared.bracket.Bracket.{Bracket}
use Rattle.event_reading.specs.Rests.{pending, rest_of}
use Rattle.event_text.specs.TermText.{function_text, row_text, term_text}

pub below_at : (n : ℕ) (ids : List TermId) (k : ℕ) (d : TermId) → AllBelow n ids → k < length ids → (get_or ids k d).place < n
below_at n [] k d h le = absurd (omega arith)
below_at n (id ∷ ids) zero d h le = h.0
below_at n (id ∷ ids) (suc k) d h le = below_at n ids k d h.1 (omega arith)

-- the arguments left of a bracket, from its node
rest_there : (pool : List Node) (b : Bracket) (node : Node) (f : Func) (args : List TermId) → slice_get pool b.id.place ≡ Some node → node ≡ Apply f args
    → rest_of pool b ≡ drop b.at args
rest_there pool b node f args there is =
    ap (λ n. drop b.at (arguments_of n)) (get_or_from_slice_get pool b.id.place node (Truth false) there ∙ is)

-- a bracket is opened
pub opened : (names : List (List ℕ)) (pool : List Node) (id : TermId) (node : Node) (f : Func) (args : List TermId) (outer : List Bracket)
    → slice_get pool id.place ≡ Some node → node ≡ Apply f args → tree_of pool id ≡ tree_in (trees pool) node
    → codes "(" ++ function_text names f ++ pending names pool (record { id = id; at = 0 } ∷ outer) ≡ term_text names (tree_of pool id) ++ pending names pool outer
opened names pool id node f args outer there is tree =
    let front = codes "(" ++ function_text names f in
    let row = row_text names (row_in (trees pool) args) in
    let later = pending names pool outer in
    ap (λ r. front ++ (row_text names (row_in (trees pool) r) ++ codes ")" ++ later)) (rest_there pool (record { id = id; at = 0 }) node f args there is)
    ∙ sym (append_assoc front (row ++ codes ")") later) ∙ ap (λ l. l ++ later) (sym (append_assoc front row (codes ")")))
    ∙ ap (λ t. term_text names t ++ later) (sym (tree ∙ ap (tree_in (trees pool)) is))

-- a bracket goes on
pub gone_on : (names : List (List ℕ)) (pool : List Node) (b behind : Bracket) (id : TermId) (outer : List Bracket) → rest_of pool b ≡ id ∷ rest_of pool behind
    → pending names pool (b ∷ outer) ≡ codes " " ++ (term_text names (tree_of pool id) ++ pending names pool (behind ∷ outer))
gone_on names pool b behind id outer rest =
    let term = term_text names (tree_of pool id) in
    let row = row_text names (row_in (trees pool) (rest_of pool behind)) in
    let later = pending names pool outer in
    ap (λ r. row_text names (row_in (trees pool) r) ++ codes ")" ++ later) rest
    ∙ ap (λ l. codes " " ++ l) (ap (λ l. l ++ later) (append_assoc term row (codes ")")) ∙ append_assoc term (row ++ codes ")") later)

-- what stands behind something is not longer than it
pub behind_shorter : (front left whole : List ℕ) → front ++ left ≡ whole → length left < suc (length whole)
behind_shorter front left whole e =
    let long : length front + length left ≡ length whole = sym (length-append front left) ∙ ap length e in
    omega arith
