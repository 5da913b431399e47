-- Dimensions and subscripts one after another.
use Rattle.std.proofs.Common.{◌≡◌, ℕ, zero, suc, ◌+◌, ◌*◌, ◌-◌, ◌≤◌, ◌<◌, ◌||◌, Bool, true, false, List, [], ◌∷◌, length, map, take, drop, Option, Some, None, refl, sym, ap, ◌∙◌, subst, arith, true≢false, get_or}
use Rattle.std.specs.Prelude.{◌==◌, option_map, nat_lt}
use Rattle.std.specs.List.{list_any}
use Rattle.std.proofs.lemmas.Bool.Decides.{nat_tests}
use Rattle.std.proofs.lemmas.Grind.{common_steps}
use Rattle.formula.specs.declared.node.Node.{Node}
use Rattle.formula.specs.declared.node.TermId.{TermId}
use Rattle.formula.specs.declared.function.BuiltIn.TheVariants.{Times}
use Rattle.formula.specs.Pool.{AllBelow, Grows, IsIn, tree_of}
use Rattle.formula.specs.Tree.{Tree}
use Rattle.formula.proofs.Grown.{Grows-trans, IsIn-Grows, tree_of-Grows}
use Rattle.fort_syntax.specs.NameRules.{fixed_size, is_zero_dim}
use Rattle.fort_syntax.specs.declared.dialect.Sort.{Sort}
use Rattle.fort_syntax.specs.declared.stmt.Dim.{Dim}
use Rattle.fort_syntax.specs.declared.stmt.Dim.TheVariants.{Fixed, Named as Adjustable}
use Rattle.fort_model.specs.Seen.{Named}
use Rattle.fort_model.specs.Senses.{make2, of_terms}
use Rattle.fort_model.specs.WalkPlaces as walks
use Rattle.walk_terms.proofs.Steps.{after_two}
use Rattle.walk_names.specs.declared.names.Names.{Names}
use Rattle.walk_names.specs.Names.{IsNames, named}
use Rattle.walk_names.proofs.NameTables.{named_grows}
use Rattle.walk_places.specs.Shapes.{IsGoodShape, place_moved}

-- ---- the first of some

pub first_rest : {A : Type 0} (xs : List A) (d : A) → 1 ≤ length xs → xs ≡ get_or xs 0 d ∷ take (length xs - 1) (drop 1 xs)
first_rest [] d h = absurd (omega arith)
first_rest (x ∷ xs) d h = grind (arith, common_steps)

pub first_item : {A : Type 0} (xs : List A) (d : A) → 1 ≤ length xs → d ≡ get_or xs 0 d → xs ≡ d ∷ take (length xs - 1) (drop 1 xs)
first_item xs d h is = first_rest xs d h ∙ ap (λ x. x ∷ take (length xs - 1) (drop 1 xs)) (sym is)

pub below_parts : (n : ℕ) (ids rest : List TermId) (first : TermId) → ids ≡ first ∷ rest → AllBelow n ids → (first.place < n) × AllBelow n rest
below_parts n ids rest first e h = subst (AllBelow n) e h

pub trees_grow : (old new : List Node) (ids : List TermId) → Grows old new → AllBelow (length old) ids → map (tree_of new) ids ≡ map (tree_of old) ids
trees_grow old new [] g h = refl
trees_grow old new (id ∷ ids) g h = λ i. tree_of-Grows old new id g h.0 i ∷ trees_grow old new ids g h.1 i

pub names_same : (old new : List Node) (names : Names) → Grows old new → IsNames old names → named new names ≡ named old names
names_same old new names g h = named_grows old new names.table names.terms.items g h.terms

-- ---- shapes

both_false : (b r : Bool) → (b || r) ≡ false → (b ≡ false) × (r ≡ false)
both_false true r h = absurd (true≢false h)
both_false false r h = (refl, h)

positive : (n : ℕ) → nat_lt n 1 ≡ false → 1 ≤ n
positive n h = grind (arith, nat_tests)

factor_below : (n k b : ℕ) → 1 ≤ n → n * k ≤ b → k ≤ b
factor_below zero k b one h = absurd (omega arith)
factor_below (suc n) k b one h =
    let split : suc n * k ≡ k + n * k = grind arith in
    let more : suc n * k ≤ b = h in
    omega (arith, split, more)

good_rest_of : (d : Dim) (ds : List Dim) → IsGoodShape (d ∷ ds) → IsGoodShape ds
good_rest_of (Fixed n) ds h =
    let parts = both_false (nat_lt n 1) (list_any is_zero_dim ds) h.no_zero in
    record { no_zero = parts.1; small = factor_below n (fixed_size ds) 1000000 (positive n parts.0) h.small }
good_rest_of (Adjustable x) ds h = record { no_zero = h.no_zero; small = h.small }

pub good_rest : (dims rest : List Dim) (d : Dim) → dims ≡ d ∷ rest → IsGoodShape dims → IsGoodShape rest
good_rest dims rest d e h = good_rest_of d rest (subst IsGoodShape e h)

by_more : (n k : ℕ) (ds : List Dim) (o : Option ℕ) → ((m : ℕ) → o ≡ Some m → m ≡ fixed_size ds) → option_map (λ (m : ℕ). n * m) o ≡ Some k → k ≡ n * fixed_size ds
by_more n k ds (Some m) h is =
    let same : n * m ≡ k = cc in
    sym same ∙ ap (λ (j : ℕ). n * j) (h m refl)
by_more n k ds None h is = absurd (cc)

pub fixed_is : (ds : List Dim) (k : ℕ) → walks.size_if_fixed ds ≡ Some k → k ≡ fixed_size ds
fixed_is [] k h = cc
fixed_is (Fixed n ∷ ds) k h = by_more n k ds (walks.size_if_fixed ds) (λ m e. fixed_is ds m e) h
fixed_is (Adjustable x ∷ ds) k h = absurd (cc)

-- a constant dimension times those behind it is not too much
pub times_small : (dims rest : List Dim) (d : Dim) (n m : ℕ) (o : Option ℕ) → dims ≡ d ∷ rest → d ≡ Fixed n → o ≡ walks.size_if_fixed rest → o ≡ Some m → IsGoodShape dims → n * m ≤ 1000000
times_small dims rest d n m o e is told more h =
    let whole : fixed_size dims ≡ n * fixed_size rest = ap fixed_size e ∙ ap (λ (x : Dim). fixed_size (x ∷ rest)) is in
    let same : m ≡ fixed_size rest = fixed_is rest m (sym told ∙ more) in
    let small : fixed_size dims ≤ 1000000 = h.small in
    let product : n * m ≡ fixed_size dims = ap (λ (k : ℕ). n * k) same ∙ sym whole in
    omega (arith, product, small)

pub fixed_first : (dims rest : List Dim) (d : Dim) (n : ℕ) (o : Option ℕ) → dims ≡ d ∷ rest → d ≡ Fixed n → o ≡ walks.size_if_fixed rest → option_map (λ (m : ℕ). n * m) o ≡ walks.size_if_fixed dims
fixed_first dims rest d n o e is told = ap (option_map (λ (m : ℕ). n * m)) told ∙ sym (ap walks.size_if_fixed e ∙ ap (λ (x : Dim). walks.size_if_fixed (x ∷ rest)) is)

pub named_first : (dims rest : List Dim) (d : Dim) (x : List ℕ) → dims ≡ d ∷ rest → d ≡ Adjustable x → None ≡ walks.size_if_fixed dims
named_first dims rest d x e is = sym (ap walks.size_if_fixed e ∙ ap (λ (y : Dim). walks.size_if_fixed (y ∷ rest)) is)

-- ---- a step of a stretch, and of a place

pub stretch_step : (p0 p1 p2 : List Node) (names : Names) (q dim longer : TermId) (d : Dim) (dims rest : List Dim) (t : Tree) → IsNames p0 names → IsIn p0 q → Grows p0 p1 → Grows p1 p2
    → IsIn p1 dim → dims ≡ d ∷ rest → tree_of p1 dim ≡ walks.dim of_terms (named p0 names) d → tree_of p2 longer ≡ make2 of_terms Times (tree_of p1 q) (tree_of p1 dim)
    → t ≡ walks.stretch_from of_terms (named p2 names) (tree_of p2 longer) rest → t ≡ walks.stretch_from of_terms (named p0 names) (tree_of p0 q) dims
stretch_step p0 p1 p2 names q dim longer d dims rest t h within g k inside e is_dim is_longer is =
    let now = names_same p0 p2 names (Grows-trans p0 p1 p2 g k) h in
    let factor = is_longer ∙ (λ i. make2 of_terms Times (tree_of-Grows p0 p1 q g within i) (is_dim i)) in
    is ∙ (λ i. walks.stretch_from of_terms (now i) (factor i) rest) ∙ ap (walks.stretch_from of_terms (named p0 names) (tree_of p0 q)) (sym e)

pub place_step : (p0 p1 p2 p3 : List Node) (names : Names) (p q subscript place most stretch : TermId) (d : Dim) (ids more : List TermId) (dims rest : List Dim) (t : Tree)
    → IsNames p0 names → IsIn p0 q → AllBelow (length p0) ids → Grows p0 p1 → Grows p1 p2 → Grows p2 p3 → ids ≡ subscript ∷ more → dims ≡ d ∷ rest → IsIn p1 place
    → tree_of p1 place ≡ place_moved (tree_of p0 p) (tree_of p0 q) (tree_of p0 subscript) → tree_of p2 most ≡ walks.dim of_terms (named p1 names) d
    → tree_of p3 stretch ≡ make2 of_terms Times (tree_of p2 q) (tree_of p2 most)
    → t ≡ walks.place_from of_terms (named p3 names) (tree_of p3 place) (tree_of p3 stretch) (map (tree_of p3) more) rest
    → t ≡ walks.place_from of_terms (named p0 names) (tree_of p0 p) (tree_of p0 q) (map (tree_of p0) ids) dims
place_step p0 p1 p2 p3 names p q subscript place most stretch d ids more dims rest t h within below g k l e f inside is_place is_most is_stretch is =
    let whole = Grows-trans p0 p2 p3 (Grows-trans p0 p1 p2 g k) l in
    let now = names_same p0 p3 names whole h in
    let parts = below_parts (length p0) ids more subscript e below in
    let here = after_two p1 p2 p3 place k l inside ∙ is_place in
    let dim = is_most ∙ (λ i. walks.dim of_terms (names_same p0 p1 names g h i) d) in
    let longer = is_stretch ∙ (λ i. make2 of_terms Times (after_two p0 p1 p2 q g k within i) (dim i)) in
    is ∙ (λ i. walks.place_from of_terms (now i) (here i) (longer i) (trees_grow p0 p3 more whole parts.1 i) rest)
    ∙ (λ i. walks.place_from of_terms (named p0 names) (tree_of p0 p) (tree_of p0 q) (map (tree_of p0) (sym e i)) (sym f i))

pub place_begins : (p0 p1 : List Node) (names : Names) (subscript stretch : TermId) (d : Dim) (ids more : List TermId) (dims rest : List Dim) (t : Tree)
    → IsNames p0 names → AllBelow (length p0) ids → Grows p0 p1 → ids ≡ subscript ∷ more → dims ≡ d ∷ rest → tree_of p1 stretch ≡ walks.dim of_terms (named p0 names) d
    → t ≡ walks.place_from of_terms (named p1 names) (tree_of p1 subscript) (tree_of p1 stretch) (map (tree_of p1) more) rest
    → t ≡ walks.place of_terms (named p0 names) (map (tree_of p0) ids) dims
place_begins p0 p1 names subscript stretch d ids more dims rest t h below g e f is_stretch is =
    let parts = below_parts (length p0) ids more subscript e below in
    is ∙ (λ i. walks.place_from of_terms (names_same p0 p1 names g h i) (tree_of-Grows p0 p1 subscript g parts.0 i) (is_stretch i) (trees_grow p0 p1 more g parts.1 i) rest)
    ∙ (λ i. walks.place of_terms (named p0 names) (map (tree_of p0) (sym e i)) (sym f i))

-- an array has cells of a sort
pub sort_many : (now : Named Tree) (dims : List Dim) (sort : Sort) (t : Tree) (b : Bool) → b ≡ (length dims == 0) → b ≡ false
    → walks.cells_sort of_terms sort (walks.size of_terms now dims) t ≡ walks.sort_by of_terms now dims sort t
sort_many now [] sort t b e f = absurd (true≢false (sym e ∙ f))
sort_many now (d ∷ ds) sort t b e f = refl
