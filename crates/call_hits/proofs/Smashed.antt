-- The names that are found are those that the call smashes.
use Rattle.std.proofs.Common.{◌≡◌, ℕ, zero, suc, ◌+◌, ◌<◌, ◌≤◌, min, Bool, true, false, cond, List, [], ◌∷◌, ◌++◌, length, drop, get_or, append_assoc, add-one, refl, sym, ap, ◌∙◌, arith}
use Rattle.std.specs.Prelude.{map, Option}
use Rattle.std.specs.List.{filter}
use Rattle.formula.specs.Atoms.{is_among}
use Rattle.formula.specs.Tree.{Tree}
use Rattle.fort_model.specs.Program.{smashed_names}
use Rattle.fort_model.specs.WalkCalls.{Operand, Bare, Part, Computed, Sight, smashed_actuals}
use Rattle.fort_syntax.specs.Names.{items_of}
use Rattle.fort_syntax.specs.declared.name.Name.{Name}
use Rattle.fort_syntax.specs.declared.stmt.Group.{Group}
use Rattle.fort_syntax.specs.declared.stmt.Item.{Item}
use Rattle.fort_syntax.specs.declared.unit.Unit.{Unit as Routine}
use Rattle.call_hits.specs.Hits.{AreHits, actual_hits, bare_of, group_hits, is_hit, item_hits}

one_or_none : (b : Bool) (x : Name) (rest : List Name) → cond b (x ∷ []) [] ++ rest ≡ cond b (x ∷ rest) rest
one_or_none true x rest = refl
one_or_none false x rest = refl

actuals_are : (w : Sight Tree) (s : Name → Bool) (ds : List Name) (xs : List (Operand Tree)) → actual_hits s ds (map bare_of xs) ≡ smashed_actuals w s ds xs
actuals_are w s [] xs = refl
actuals_are w s (d ∷ ds) [] = refl
actuals_are w s (d ∷ ds) (Bare x v ∷ xs) =
    one_or_none (s d) x (actual_hits s ds (map bare_of xs)) ∙ ap (λ rest. cond (s d) (x ∷ rest) rest) (actuals_are w s ds xs)
actuals_are w s (d ∷ ds) (Part v ∷ xs) = actuals_are w s ds xs
actuals_are w s (d ∷ ds) (Computed v ∷ xs) = actuals_are w s ds xs

filter_both : (t : Name → Bool) (xs ys : List Name) → filter t (xs ++ ys) ≡ filter t xs ++ filter t ys
filter_both t [] ys = refl
filter_both t (x ∷ xs) ys = by (filter_both t xs ys) (t x)
  where
    by : filter t (xs ++ ys) ≡ filter t xs ++ filter t ys → (b : Bool)
        → cond b (x ∷ filter t (xs ++ ys)) (filter t (xs ++ ys)) ≡ cond b (x ∷ filter t xs) (filter t xs) ++ filter t ys
    by rest true = ap (λ zs. x ∷ zs) rest
    by rest false = rest

items_are : (s : Name → Bool) (g : Routine) (items : List Item) → item_hits s g items ≡ filter (is_hit s g) (map (λ item. item.name) items)
items_are s g [] = refl
items_are s g (item ∷ items) = ap (λ rest. cond (is_hit s g item.name) (item.name ∷ rest) rest) (items_are s g items)

groups_are : (s : Name → Bool) (g : Routine) (groups : List Group) → group_hits s g groups ≡ filter (is_hit s g) (items_of groups)
groups_are s g [] = refl
groups_are s g (group ∷ groups) =
    (λ k. items_are s g group.items k ++ groups_are s g groups k)
    ∙ sym (filter_both (is_hit s g) (map (λ item. item.name) group.items) (items_of groups))

pub hits_are : (u g : Routine) (smashed : List Name) (bare : List (Option Name)) (names : List Name)
    → names ≡ actual_hits (λ x. is_among x smashed) g.dummies bare ++ group_hits (λ x. is_among x smashed) g u.blocks
    → AreHits u g smashed bare names
hits_are u g smashed bare names e w i xs unit table actuals =
    e
    ∙ (λ k. actual_hits (λ x. is_among x (sym table k)) g.dummies (sym actuals k) ++ group_hits (λ x. is_among x (sym table k)) g (sym unit k).blocks)
    ∙ (λ k. actuals_are w (λ x. is_among x (smashed_names w.program i)) g.dummies xs k
    ++ groups_are (λ x. is_among x (smashed_names w.program i)) g w.unit.blocks k)

-- beyond the shorter of two lists there is nothing
no_actual : (s : Name → Bool) (ds : List Name) → actual_hits s ds [] ≡ []
no_actual s [] = refl
no_actual s (d ∷ ds) = refl

pub at_end : (s : Name → Bool) (ds : List Name) (bs : List (Option Name)) (i : ℕ) → min (length ds) (length bs) ≤ i
    → actual_hits s (drop i ds) (drop i bs) ≡ []
at_end s [] bs zero h = refl
at_end s [] bs (suc i) h = refl
at_end s (d ∷ ds) [] zero h = refl
at_end s (d ∷ ds) [] (suc i) h = no_actual s (drop i ds)
at_end s (d ∷ ds) (b ∷ bs) zero h = absurd (omega arith)
at_end s (d ∷ ds) (b ∷ bs) (suc i) h = at_end s ds bs i (omega arith)

nothing_more : (xs : List Name) → xs ++ [] ≡ xs
nothing_more [] = refl
nothing_more (x ∷ xs) = ap (λ ys. x ∷ ys) (nothing_more xs)

pub all_pushed : (xs rest whole : List Name) → rest ≡ [] → xs ++ rest ≡ whole → xs ≡ whole
all_pushed xs rest whole e h = sym (nothing_more xs) ∙ ap (λ ys. xs ++ ys) (sym e) ∙ h

drop_next : (groups : List Group) (i : ℕ) (d : Group) → i < length groups → drop i groups ≡ get_or groups i d ∷ drop (i + 1) groups
drop_next [] i d h = absurd (omega (arith, h))
drop_next (g ∷ gs) zero d h = refl
drop_next (g ∷ gs) (suc i) d h =
    drop_next gs i d (omega arith) ∙ ap (λ n. get_or gs i d ∷ drop n gs) (add-one i) ∙ ap (λ n. get_or gs i d ∷ drop n (g ∷ gs)) (sym (add-one (suc i)))

-- the COMMON entities of a group more
pub group_pushed : (s : Name → Bool) (g : Routine) (groups : List Group) (i : ℕ) (group d : Group) (all more whole : List Name) → i < length groups
    → group ≡ get_or groups i d → more ≡ all ++ item_hits s g group.items → all ++ group_hits s g (drop i groups) ≡ whole
    → more ++ group_hits s g (drop (i + 1) groups) ≡ whole
group_pushed s g groups i group d all more whole l e m h =
    ap (λ xs. xs ++ group_hits s g (drop (i + 1) groups)) m
    ∙ append_assoc all (item_hits s g group.items) (group_hits s g (drop (i + 1) groups))
    ∙ ap (λ (x : Group). all ++ (item_hits s g x.items ++ group_hits s g (drop (i + 1) groups))) e
    ∙ ap (λ xs. all ++ group_hits s g xs) (sym (drop_next groups i d l))
    ∙ h
