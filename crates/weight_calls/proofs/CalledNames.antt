-- What the names of a called unit weigh.
use Rattle.std.proofs.Common.{◌≡◌, ℕ, zero, suc, ◌<◌, ◌≤◌, ◌⊎◌, inl, inr, ◌||◌, Bool, true, false, cond, List, [], ◌∷◌, ◌++◌, map, length, take, drop, min, get_or, Option, Some, refl, sym, ap, ◌∙◌, arith}
use Rattle.std.specs.Prelude.{nat_le}
use Rattle.std.proofs.lemmas.Bool.Decides.{nat_tests}
use Rattle.fort_model.specs.WalkCalls as model
use Rattle.weight_calls.specs.Operands.{operand_of}
use Rattle.weight_calls.specs.declared.operands.Operand.{Operand}
use Rattle.formula.specs.Atoms.{same_bytes, is_among}
use Rattle.fort_syntax.specs.Names.{data_name_in, has_common, has_role, is_in_common}
use Rattle.fort_syntax.specs.declared.name.Name.{Name}
use Rattle.fort_syntax.specs.declared.unit.DataName.{DataName}
use Rattle.fort_syntax.specs.declared.unit.Unit.{Unit as Routine}
use Rattle.fort_model.specs.Seen.{Named}
use Rattle.fort_model.specs.WalkCalls.{Sight, seen_by, with_actuals}
use Rattle.fort_model.specs.WalkStmt.{with_name}
use Rattle.fort_model.specs.Program.{Program}
use Rattle.name_tables.specs.Sets.{with_names}
use Rattle.name_tables.proofs.Told.{same_names, swapped}
use Rattle.call_tests.proofs.Sets.{among_more}
use Rattle.std.proofs.lemmas.List.{drop_all}
use Rattle.weight_tallies.specs.Tallies.{weighed_at}
use Rattle.path_sizes.specs.Weights.{all_one}
use Rattle.weight_calls.specs.Calls.{ones_set}
use Rattle.weight_calls.specs.Seen.{by_names, changed_by, data_weight}

-- ---- names of a called unit

known_by : (now : Named ℕ) (d : DataName) (x : Name) (b : Bool) (o : Option DataName) (rest : ℕ) → same_bytes d.name x ≡ b
    → rest ≡ cond (has_role is_in_common o) (now x) 1
    → cond b (data_weight now d) rest ≡ cond (has_role is_in_common (cond b (Some d) o)) (now x) 1
known_by now d x true o rest same e = ap (λ y. cond (is_in_common d.role) (now y) 1) (same_names d.name x same)
known_by now d x false o rest same e = e

named_so : (now : Named ℕ) (ds : List DataName) (x : Name) → by_names now ds all_one x ≡ cond (has_role is_in_common (data_name_in ds x)) (now x) 1
named_so now [] x = refl
named_so now (d ∷ ds) x = known_by now d x (same_bytes d.name x) (data_name_in ds x) (by_names now ds all_one x) refl (named_so now ds x)

-- a table that was told the data names, the unit's own name and the dummies tells what the names weigh
pub seen_so : (q : Program) (i : ℕ) (v u : Routine) (ns : List ℕ) (now : Named ℕ) (first second third : Named ℕ)
    → first ≡ by_names now u.names all_one → second ≡ with_name first u.name 1 → third ≡ with_actuals (weighed_at q i v) u.dummies ns second
    → third ≡ seen_by (weighed_at q i v) u ns now 1
seen_so q i v u ns now first second third e f g = g ∙ ap (with_actuals (weighed_at q i v) u.dummies ns) (f ∙ (ap (λ (n : Named ℕ). with_name n u.name 1) e ∙ (λ j x. inner x j)))
  where
    inner : (x : Name) → with_name (by_names now u.names all_one) u.name 1 x ≡ cond (same_bytes u.name x) 1 (cond (has_common u x) (now x) 1)
    inner x = ap (λ n. cond (same_bytes u.name x) 1 n) (named_so now u.names x)

-- ---- loops over lists from behind

drop_last : {A : Type 0} (xs : List A) (k : ℕ) (d : A) → k < length xs → drop k xs ≡ get_or xs k d ∷ drop (suc k) xs
drop_last [] k d h = absurd (omega arith)
drop_last (x ∷ xs) zero d h = refl
drop_last (x ∷ xs) (suc k) d h = drop_last xs k d (omega arith)

pub one_name : (now other : Named ℕ) (ds : List DataName) (k : ℕ) (d : DataName) (table new : Named ℕ) → k < length ds → d ≡ get_or ds k d
    → table ≡ by_names now (drop (suc k) ds) other → new ≡ with_name table d.name (data_weight now d) → new ≡ by_names now (drop k ds) other
one_name now other ds k d table new h read e f =
    f ∙ (ap (λ (n : Named ℕ). with_name n d.name (data_weight now d)) e ∙ sym (ap (λ es. by_names now es other) (drop_last ds k d h ∙ ap (λ x. x ∷ drop (suc k) ds) (sym read))))

pub one_actual : (w : Sight ℕ) (other : Named ℕ) (ds : List Name) (ns : List ℕ) (k n : ℕ) (d : Name) (table new : Named ℕ) → n ≡ suc k → n ≤ length ds → n ≤ length ns → d ≡ get_or ds k d
    → table ≡ with_actuals w (drop n ds) (drop n ns) other → new ≡ with_name table d (get_or ns k 0) → new ≡ with_actuals w (drop k ds) (drop k ns) other
one_actual w other ds ns k n d table new next h l read e f =
    let in_dummies : k < length ds = omega arith in
    let in_weights : k < length ns = omega arith in
    f ∙ (ap (λ (t : Named ℕ). with_name t d (get_or ns k 0)) (e ∙ ap (λ m. with_actuals w (drop m ds) (drop m ns) other) next)
    ∙ sym (λ i. with_actuals w ((drop_last ds k d in_dummies ∙ ap (λ x. x ∷ drop (suc k) ds) (sym read)) i) (drop_last ns k 0 in_weights i) other))

pub min_end : (a b k : ℕ) → k ≡ min a b → (a ≤ k) ⊎ (b ≤ k)
min_end a b k e = by (nat_le a b) refl
  where
    by : (t : Bool) → nat_le a b ≡ t → (a ≤ k) ⊎ (b ≤ k)
    by true f = let le : a ≤ b = grind (arith, nat_tests) in let same : a ≤ k = omega arith in inl same
    by false f = let lt : b < a = grind (arith, nat_tests) in let same : b ≤ k = omega arith in inr same

-- where one of two lists is at its end no dummy has an actual
pub no_actual : (w : Sight ℕ) (other : Named ℕ) (ds : List Name) (ns : List ℕ) (k : ℕ) → ((length ds ≤ k) ⊎ (length ns ≤ k)) → with_actuals w (drop k ds) (drop k ns) other ≡ other
no_actual w other ds ns k (inl h) = ap (λ es. with_actuals w es (drop k ns) other) (drop_all k ds h)
no_actual w other ds ns k (inr h) = ap (λ ms. with_actuals w (drop k ds) ms other) (drop_all k ns h) ∙ none (drop k ds)
  where
    none : (es : List Name) → with_actuals w es [] other ≡ other
    none [] = refl
    none (x ∷ es) = refl

-- ---- smashed names

ones_by : (b d : Bool) (n : ℕ) → cond (b || d) 1 n ≡ cond d 1 (cond b 1 n)
ones_by true true n = refl
ones_by true false n = refl
ones_by false d n = refl

pub ones_so : (xs : List Name) (now : Named ℕ) → ones_set xs now ≡ changed_by xs now
ones_so [] now = refl
ones_so (x ∷ xs) now = ones_so xs (with_name now x 1) ∙ (λ i y. (ap (λ b. cond (is_among y xs) 1 (cond b 1 (now y))) (swapped x y) ∙ sym (ones_by (same_bytes y x) (is_among y xs) (now y))) i)

-- a set of names tells which names are among them
pub changed_same : (xs ys : List Name) (now : Named ℕ) → xs ≡ with_names [] ys → changed_by xs now ≡ changed_by ys now
changed_same xs ys now e = λ i x. (ap (λ zs. cond (is_among x zs) 1 (now x)) e ∙ ap (λ b. cond b 1 (now x)) (among_more x [] ys)) i

pub changed_none : (now : Named ℕ) → changed_by [] now ≡ now
changed_none now = refl

-- ---- weights behind a call

take_one : (xs : List Operand) (i : ℕ) (x : Operand) → i < length xs → x ≡ get_or xs i x → take (suc i) xs ≡ take i xs ++ x ∷ []
take_one [] i x h e = absurd (omega arith)
take_one (y ∷ xs) zero x h e = ap (λ z. z ∷ []) (sym e)
take_one (y ∷ xs) (suc i) x h e = ap (λ zs. y ∷ zs) (take_one xs i x (omega arith) e)

map_push : {A B : Type 0} (f : A → B) (xs : List A) (x : A) → map f (xs ++ x ∷ []) ≡ map f xs ++ f x ∷ []
map_push f [] x = refl
map_push f (y ∷ xs) x = ap (λ zs. f y ∷ zs) (map_push f xs x)

pub weight_more : (f : model.Operand ℕ → ℕ) (xs : List Operand) (i n k : ℕ) (x : Operand) (ns new : List ℕ) → n ≡ suc i → i < length xs → x ≡ get_or xs i x → ns ≡ map f (map operand_of (take i xs)) → k ≡ f (operand_of x)
    → new ≡ ns ++ k ∷ [] → new ≡ map f (map operand_of (take n xs))
weight_more f xs i n k x ns new next h read e g l =
    l ∙ ((λ j. e j ++ g j ∷ [])
    ∙ sym (ap (λ m. map f (map operand_of (take m xs))) next
    ∙ (ap (λ ys. map f (map operand_of ys)) (take_one xs i x h read)
    ∙ (ap (map f) (map_push operand_of (take i xs) x) ∙ map_push f (map operand_of (take i xs)) (operand_of x)))))

pub take_whole : (xs : List Operand) (k : ℕ) → length xs ≤ k → take k xs ≡ xs
take_whole [] zero h = refl
take_whole [] (suc k) h = refl
take_whole (x ∷ xs) zero h = absurd (omega arith)
take_whole (x ∷ xs) (suc k) h = ap (λ ys. x ∷ ys) (take_whole xs k (omega arith))
