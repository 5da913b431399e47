-- One pass over units finds the first fault.
use Rattle.std.proofs.Common.{◌≡◌, ℕ, zero, suc, ◌+◌, Bool, true, false, List, [], ◌∷◌, ◌++◌, take, drop, refl, sym, ap, ◌∙◌, add-one}
use Rattle.std.specs.Prelude.{◌||◌, is_some, Option, Some, None, slice_get}
use Rattle.std.specs.List.{list_any}
use Rattle.formula.specs.Atoms.{same_bytes, is_among}
use Rattle.fort_model.specs.CallRules.{in_unit, of_unit, same_block}
use Rattle.fort_model.specs.Rules.{is_block_name}
use Rattle.fort_syntax.specs.Names.{intrinsic}
use Rattle.fort_syntax.specs.UnitRules.{fault_before}
use Rattle.fort_syntax.specs.declared.name.Name.{Name}
use Rattle.fort_syntax.specs.declared.refusal.Fault.{Fault}
use Rattle.fort_syntax.specs.declared.rule.Rule.TheVariants.{UnitTwice, Recursion}
use Rattle.fort_syntax.specs.declared.stmt.BlockName.{BlockName}
use Rattle.fort_syntax.specs.declared.stmt.BlockName.TheVariants.{Bare, Slashes, Named}
use Rattle.fort_syntax.specs.declared.stmt.Group.{Group}
use Rattle.fort_syntax.specs.declared.unit.Unit.{Unit as Routine}
use Rattle.name_tables.specs.Sets.{with_name}
use Rattle.name_tables.proofs.Told.{swapped}
use Rattle.stage_faults.specs.Scans.{first_in_unit, first_in_units, first_of_two}
use Rattle.call_order.proofs.Rows.{drop_at}
use Rattle.call_sites.specs.Books.{with_blocks}
use Rattle.call_sites.proofs.Booked.{among_with, among_blocks}
use Rattle.call_rules.specs.CallFaults.{call_fault, program_of, head_rule, is_number, name_taken, stmt_rule}
use Rattle.call_rules.specs.Scanned.{scan, unit_scan}
use Rattle.call_rules.specs.Taken.{is_taken, with_units}

or_assoc : (a b c : Bool) → ((a || b) || c) ≡ (a || (b || c))
or_assoc true b c = refl
or_assoc false b c = refl

or_false : (a : Bool) → (a || false) ≡ a
or_false true = refl
or_false false = refl

any_both : {X : Type 0} (test : X → Bool) (xs ys : List X) → list_any test (xs ++ ys) ≡ (list_any test xs || list_any test ys)
any_both test [] ys = refl
any_both test (x ∷ xs) ys = ap (λ b. test x || b) (any_both test xs ys) ∙ sym (or_assoc (test x) (list_any test xs) (list_any test ys))

any_alike : {X : Type 0} (f g : X → Bool) (xs : List X) → ((x : X) → f x ≡ g x) → list_any f xs ≡ list_any g xs
any_alike f g [] h = refl
any_alike f g (x ∷ xs) h = λ i. h x i || any_alike f g xs h i

-- ---- blocks

block_alike : (x : Name) (b : BlockName) → same_block b (Named x) ≡ is_block_name x b
block_alike x (Named y) = swapped y x
block_alike x Bare = refl
block_alike x Slashes = refl

blocks_alike : (x : Name) (groups : List Group)
    → list_any (λ group. same_block group.block (Named x)) groups ≡ list_any (λ group. is_block_name x group.block) groups
blocks_alike x groups =
    any_alike (λ group. same_block group.block (Named x)) (λ group. is_block_name x group.block) groups (λ group. block_alike x group.block)

among_units : (x : Name) (xs : List Name) (us : List Routine)
    → is_among x (with_units xs us) ≡ (is_among x xs || list_any (λ g. list_any (λ group. is_block_name x group.block) g.blocks) us)
among_units x xs [] = sym (or_false (is_among x xs))
among_units x xs (u ∷ us) =
    among_units x (with_blocks xs u.blocks) us
    ∙ ap (λ b. b || list_any (λ g. list_any (λ group. is_block_name x group.block) g.blocks) us)
    (among_blocks x xs u.blocks ∙ ap (λ b. is_among x xs || b) (blocks_alike x u.blocks))
    ∙ or_assoc (is_among x xs) (list_any (λ group. is_block_name x group.block) u.blocks)
    (list_any (λ g. list_any (λ group. is_block_name x group.block) g.blocks) us)

-- ---- earlier units

-- the names of the first units
record Earlier (units : List Routine) (i : ℕ) (names : List Name) : Type 0 where
  told : (x : Name) → is_among x names ≡ list_any (λ g. same_bytes g.name x) (take i units)

next : {X : Type 0} (xs : List X) (i : ℕ) (x : X) (ys : List X) → drop i xs ≡ x ∷ ys → (take (suc i) xs ≡ take i xs ++ x ∷ []) × (drop (suc i) xs ≡ ys)
next [] zero x ys e = absurd cc
next [] (suc i) x ys e = absurd cc
next (y ∷ zs) zero x ys e = let same : y ≡ x = cc in (ap (λ z. z ∷ []) same, cc)
next (y ∷ zs) (suc i) x ys e = let rest = next zs i x ys e in (ap (λ l. y ∷ l) rest.0, rest.1)

one_more : (units : List Routine) (i : ℕ) (names : List Name) (u : Routine) → Earlier units i names
    → take (i + 1) units ≡ take i units ++ u ∷ [] → Earlier units (i + 1) (with_name names u.name)
one_more units i names u h e = record {
  told = λ x.
      among_with x u.name names
      ∙ (λ k. h.told x k || swapped x u.name k)
      ∙ ap (λ b. list_any (λ g. same_bytes g.name x) (take i units) || b) (sym (or_false (same_bytes u.name x)))
      ∙ sym (any_both (λ g. same_bytes g.name x) (take i units) (u ∷ []))
      ∙ ap (list_any (λ g. same_bytes g.name x)) (sym e);
}

taken_is : (units : List Routine) (i : ℕ) (names : List Name) (u : Routine) → Earlier units i names
    → is_taken names (with_units [] units) u.name ≡ name_taken units i u
taken_is units i names u h = λ k. h.told u.name k || (is_some (intrinsic u.name) || among_units u.name [] units k)

scan_from : (units : List Routine) (recursive : Option ℕ) (us : List Routine) (i : ℕ) (names : List Name) → drop i units ≡ us → Earlier units i names
    → scan units (with_units [] units) recursive names i us ≡ first_in_units (head_rule units recursive) (stmt_rule units) i us
scan_from units recursive [] i names e h = refl
scan_from units recursive (u ∷ us) i names e h =
    let after = next units i u us e in
    let more : take (i + 1) units ≡ take i units ++ u ∷ [] = ap (λ n. take n units) (add-one i) ∙ after.0 in
    let rest : drop (i + 1) units ≡ us = ap (λ n. drop n units) (add-one i) ∙ after.1 in
    λ k.
    fault_before
    (first_in_unit (first_of_two UnitTwice Recursion (taken_is units i names u h k) (is_number recursive i)) (stmt_rule units u) u)
    (scan_from units recursive us (i + 1) (with_name names u.name) rest (one_more units i names u h more) k)

pub scan_is : (units : List Routine) (recursive : Option ℕ) → scan units (with_units [] units) recursive [] 0 units ≡ call_fault units recursive
scan_is units recursive = scan_from units recursive units 0 [] refl (record { told = λ x. refl })

-- ---- the units of calls, and the units of the pass

pub at_unit : (units : List Routine) (o : Option ℕ) (j : ℕ) (g : Routine) (test : ℕ → Routine → Bool) → o ≡ Some j → slice_get units j ≡ Some g
    → of_unit (program_of units) o test ≡ test j g
at_unit units o j g test e f = ap (λ x. of_unit (program_of units) x test) e ∙ ap (λ x. in_unit x (test j)) f

-- the unit of number i is the next one
scan_at : (units : List Routine) (blocks : List Name) (recursive : Option ℕ) (names : List Name) (i : ℕ) (u : Routine) → slice_get units i ≡ Some u
    → scan units blocks recursive names i (drop i units)
    ≡ fault_before (unit_scan units names blocks recursive i u) (scan units blocks recursive (with_name names u.name) (i + 1) (drop (i + 1) units))
scan_at units blocks recursive names i u e = ap (scan units blocks recursive names i) (drop_at units i u e)

-- what it was found to be, by the same blocks
same_scan : (units : List Routine) (blocks more : List Name) (recursive again : Option ℕ) (names : List Name) (i : ℕ) (u : Routine) (o p : Option Fault)
    → blocks ≡ more → recursive ≡ again → o ≡ unit_scan units names blocks recursive i u → o ≡ p → unit_scan units names more again i u ≡ p
same_scan units blocks more recursive again names i u o p b r e is = sym (e ∙ (λ k. unit_scan units names (b k) (r k) i u)) ∙ is

pub scan_found : (units : List Routine) (blocks more : List Name) (recursive again : Option ℕ) (names : List Name) (i : ℕ) (u : Routine) (o : Option Fault) (f : Fault)
    → slice_get units i ≡ Some u → blocks ≡ more → recursive ≡ again → o ≡ unit_scan units names blocks recursive i u → o ≡ Some f
    → Some f ≡ scan units more again names i (drop i units)
scan_found units blocks more recursive again names i u o f at b r e is =
    sym (scan_at units more again names i u at
    ∙ ap (λ x. fault_before x (scan units more again (with_name names u.name) (i + 1) (drop (i + 1) units)))
    (same_scan units blocks more recursive again names i u o (Some f) b r e is))

pub scan_passed : (units : List Routine) (blocks more : List Name) (recursive again : Option ℕ) (names : List Name) (i : ℕ) (u : Routine) (o : Option Fault)
    → slice_get units i ≡ Some u → blocks ≡ more → recursive ≡ again → o ≡ unit_scan units names blocks recursive i u → o ≡ None
    → scan units more again (with_name names u.name) (i + 1) (drop (i + 1) units) ≡ scan units more again names i (drop i units)
scan_passed units blocks more recursive again names i u o at b r e is =
    sym (scan_at units more again names i u at
    ∙ ap (λ x. fault_before x (scan units more again (with_name names u.name) (i + 1) (drop (i + 1) units)))
    (same_scan units blocks more recursive again names i u o None b r e is))
