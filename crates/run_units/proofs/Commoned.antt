-- The COMMON entities of units are among those of a deck.
use Rattle.std.proofs.Common.{◌≡◌, ◌<◌, ℕ, zero, suc, ◌+◌, Bool, true, false, cond, ◌||◌, List, [], ◌∷◌, ◌++◌, map, drop, length, get_or, Some, slice_get, arith, refl, sym, ap, ◌∙◌, subst}
use Rattle.formula.specs.Atoms.{is_among, same_bytes}
use Rattle.std.proofs.lemmas.Option.{slice_get_read}
use Rattle.fort_syntax.specs.Names.{commons, items_of}
use Rattle.fort_syntax.specs.declared.name.Name.{Name}
use Rattle.fort_syntax.specs.declared.stmt.Group.{Group}
use Rattle.fort_syntax.specs.declared.stmt.Item.{Item}
use Rattle.fort_syntax.specs.declared.unit.Unit.{Unit as Routine}
use Rattle.fort_laws.proofs.DeclaredNames.{among_joined_left, among_joined_right}
use Rattle.fort_laws.proofs.FrameEnter.{SameOrNot, same, other, same_or_not}
use Rattle.fort_laws.proofs.FrameSeats.{same_self}
use Rattle.fort_laws.proofs.Tests.{one_holds}
use Rattle.name_tables.specs.Sets.{with_name, with_names}
use Rattle.run_units.specs.Coding.{HaveShared}
use Rattle.run_units.specs.Commons.{commons_of}

pub both_added : (xs ys zs : List Name) → with_names xs (ys ++ zs) ≡ with_names (with_names xs ys) zs
both_added xs [] zs = refl
both_added xs (y ∷ ys) zs = both_added (with_name xs y) ys zs

-- what is among some names stays so
kept_by : (xs : List Name) (x y : Name) (b : Bool) → is_among x xs ≡ true → is_among x (cond b xs (xs ++ y ∷ [])) ≡ true
kept_by xs x y true h = h
kept_by xs x y false h = among_joined_left xs (y ∷ []) x h

kept : (xs ys : List Name) (x : Name) → is_among x xs ≡ true → is_among x (with_names xs ys) ≡ true
kept xs [] x h = h
kept xs (y ∷ ys) x h = kept (with_name xs y) ys x (kept_by xs x y (is_among y xs) h)

-- what is added is among them
one_by : (xs : List Name) (y : Name) (b : Bool) → is_among y xs ≡ b → is_among y (cond b xs (xs ++ y ∷ [])) ≡ true
one_by xs y true e = e
one_by xs y false e = among_joined_right xs (y ∷ []) y (ap (λ b. b || false) (same_self y))

added : (xs ys : List Name) (x : Name) → is_among x ys ≡ true → is_among x (with_names xs ys) ≡ true
added xs [] x h = absurd (cc)
added xs (y ∷ ys) x h = by_name (same_or_not x y) (added (with_name xs y) ys x)
  where
    by_name : SameOrNot x y → (is_among x ys ≡ true → is_among x (with_names (with_name xs y) ys) ≡ true) → is_among x (with_names (with_name xs y) ys) ≡ true
    by_name (same e t) rec =
        kept (with_name xs y) ys x (ap (λ z. is_among z (with_name xs y)) e ∙ one_by xs y (is_among y xs) refl)
    by_name (other n t) rec = rec (one_holds (same_bytes x y) (is_among x ys) h t)

kept_of : (units : List Routine) (xs : List Name) (x : Name) → is_among x xs ≡ true → is_among x (commons_of xs units) ≡ true
kept_of [] xs x h = h
kept_of (u ∷ units) xs x h = kept_of units (with_names xs (commons u)) x (kept xs (commons u) x h)

held_of : (units : List Routine) (xs : List Name) → HaveShared (commons_of xs units) units
held_of [] xs i u x e h = absurd (cc)
held_of (v ∷ units) xs zero u x e h =
    let same : v ≡ u = cc in
    kept_of units (with_names xs (commons v)) x (added xs (commons v) x (ap (λ z. is_among x (commons z)) same ∙ h))
held_of (v ∷ units) xs (suc i) u x e h = held_of units (with_names xs (commons v)) i u x e h

pub all_held : (units : List Routine) (names : List Name) → names ≡ commons_of [] units → HaveShared names units
all_held units names e = subst (λ xs. HaveShared xs units) (sym e) (held_of units [])

-- ---- the blocks of a unit

drop_at : {A : Type 0} (xs : List A) (i : ℕ) (x : A) → slice_get xs i ≡ Some x → drop i xs ≡ x ∷ drop (suc i) xs
drop_at [] i x e = absurd cc
drop_at (y ∷ ys) zero x e = let same : y ≡ x = cc in ap (λ z. z ∷ ys) same
drop_at (y ∷ ys) (suc i) x e = drop_at ys i x e

one_point : (i : ℕ) → i + 1 ≡ suc i
one_point i = omega arith

pub blocks_on : (old new whole : List Name) (blocks : List Group) (i : ℕ) (group : Group) (items : List Item) → i < length blocks → group ≡ get_or blocks i group
    → items ≡ group.items → new ≡ with_names old (map (λ item. item.name) items) → with_names old (items_of (drop i blocks)) ≡ whole
    → with_names new (items_of (drop (i + 1) blocks)) ≡ whole
blocks_on old new whole blocks i group items lt is alike e h =
    let first : drop i blocks ≡ group ∷ drop (suc i) blocks = drop_at blocks i group (slice_get_read blocks (length blocks) i group refl lt is) in
    (λ j. with_names (e j) (items_of (drop (one_point i j) blocks)))
    ∙ sym (both_added old (map (λ item. item.name) items) (items_of (drop (suc i) blocks)))
    ∙ ap (λ xs. with_names old (map (λ item. item.name) xs ++ items_of (drop (suc i) blocks))) alike
    ∙ ap (λ gs. with_names old (items_of gs)) (sym first)
    ∙ h
