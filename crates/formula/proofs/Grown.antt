-- What was in a pool stays when it grows.
use Rattle.std.proofs.Common.{◌≡◌, List, [], ◌++◌, length, sym, ap, ◌∙◌, subst, arith, append_assoc, length-append}
use Rattle.std.proofs.lemmas.Grind.{common_steps}
use Rattle.formula.specs.declared.node.Node.{Node}
use Rattle.formula.specs.declared.node.TermId.{TermId}
use Rattle.formula.specs.Tree.{Tree}
use Rattle.formula.specs.Pool.{AllBelow, HasArguments, Grows, IsIn, tree_at, row_in, tree_of, trees}
use Rattle.formula.proofs.Growth.{grown-append, grown_from, length-trees, AllBelow-more, tree_at-append, row_in-append, HasArguments-append}

pub Grows-refl : (pool : List Node) → Grows pool pool
Grows-refl pool = record { added = []; is = grind (arith, common_steps) }

pub Grows-same : (old new : List Node) → new ≡ old → Grows old new
Grows-same old new e = record { added = []; is = e ∙ (let whole : old ≡ old ++ [] = grind (arith, common_steps) in whole) }

pub Grows-trans : (first next last : List Node) → Grows first next → Grows next last → Grows first last
Grows-trans first next last p q =
    record { added = p.added ++ q.added; is = q.is ∙ ap (λ l. l ++ q.added) p.is ∙ append_assoc first p.added q.added }

pub trees-Grows : (old new : List Node) → Grows old new → (rest : List Tree) × (trees new ≡ trees old ++ rest)
trees-Grows old new g =
    let r = grown_from (trees old) g.added in
    (r.0, ap trees g.is ∙ grown-append [] old g.added ∙ r.1)

pub IsIn-Grows : (old new : List Node) (id : TermId) → Grows old new → IsIn old id → IsIn new id
IsIn-Grows old new id g h =
    let long : length new ≡ length (old ++ g.added) = ap length g.is in
    omega (arith, simp length-append at long)

pub tree_of-Grows : (old new : List Node) (id : TermId) → Grows old new → IsIn old id → tree_of new id ≡ tree_of old id
tree_of-Grows old new id g h =
    let r = trees-Grows old new g in
    let long : length (trees old) ≡ length old = length-trees old in
    ap (λ ts. tree_at ts id.place) r.1 ∙ tree_at-append (trees old) r.0 id.place (omega arith)

pub row_in-Grows : (old new : List Node) (args : List TermId) → Grows old new → AllBelow (length old) args → row_in (trees new) args ≡ row_in (trees old) args
row_in-Grows old new args g h =
    let r = trees-Grows old new g in
    ap (λ ts. row_in ts args) r.1 ∙ row_in-append (trees old) r.0 args (subst (λ n. AllBelow n args) (sym (length-trees old)) h)

pub HasArguments-Grows : (old new : List Node) (node : Node) → Grows old new → HasArguments (trees old) node → HasArguments (trees new) node
HasArguments-Grows old new node g h =
    let r = trees-Grows old new g in
    subst (λ ts. HasArguments ts node) (sym r.1) (HasArguments-append (trees old) r.0 node h)

pub AllBelow-Grows : (old new : List Node) (args : List TermId) → Grows old new → AllBelow (length old) args → AllBelow (length new) args
AllBelow-Grows old new args g h =
    let long : length new ≡ length (old ++ g.added) = ap length g.is in
    AllBelow-more (length old) (length new) args (omega (arith, simp length-append at long)) h

pub ruleset grown_terms = (tree_of-Grows, IsIn-Grows, row_in-Grows, AllBelow-Grows)
