-- What an order of calls and its table give.
use Rattle.std.proofs.Common.{◌≡◌, ℕ, zero, suc, ◌<◌, List, [], ◌∷◌, length, get_or, reverse, Option, Some, None, Result, Ok, Err, IfOk, sym, ap, ◌∙◌, subst}
use Rattle.std.specs.List.{All}
use Rattle.std.proofs.lemmas.Option.{slice_get-get_or}
use Rattle.fort_syntax.specs.FirstFaults.{AreKept, TellsLeast}
use Rattle.fort_syntax.specs.declared.refusal.Fault.{Fault}
use Rattle.fort_syntax.specs.declared.refusal.Refusal.{Refusal}
use Rattle.fort_syntax.specs.WellFormed.{IsWellFormed}
use Rattle.fort_syntax.specs.declared.deck.Deck.{Deck}
use Rattle.fort_syntax.specs.declared.dialect.Dialect.{Dialect}
use Rattle.fort_syntax.specs.declared.name.Name.{Name}
use Rattle.fort_syntax.specs.declared.rule.Rule.{Rule}
use Rattle.fort_syntax.specs.declared.unit.Unit.{Unit as Routine}
use Rattle.fort_model.specs.CallFacts.{AreCallFacts, IsCalleesTable}
use Rattle.fort_model.specs.CallOrder.{Grows, start, next, IsCallOrder}
use Rattle.fort_model.specs.Lists.{IsAmong}
use Rattle.fort_model.specs.Program.{Program}
use Rattle.fort_model.specs.Stages.{IsBrokenOf, IsFirstBroken, KeepsAll, rules_of_smashing}
use Rattle.fort_model.specs.declared.call_facts.CallFacts.{CallFacts}
use Rattle.alias_rules.specs.Stages.{IsSmashFault}
use Rattle.smash_laws.specs.Ordered.{smash_table}
use Rattle.smash_laws.proofs.Growing.{made}
use Rattle.smash_laws.proofs.TableHolds.{tables_by_order}
use Rattle.smash_laws.proofs.Tests.{among_turned}

grown_within : (units : List Routine) (done : List ℕ) → Grows units done → (i : ℕ) → IsAmong i done → i < length units
grown_within units [] start i m = absurd (cc)
grown_within units (j ∷ done) (next g stand least) i (zero, e) = let q : j ≡ i = cc in subst (λ (n : ℕ). n < length units) q stand.unit
grown_within units (j ∷ done) (next g stand least) i (suc k, e) = grown_within units done g i (k, e)

-- each number of an order is that of a unit
pub within : (units : List Routine) (order : List ℕ) → IsCallOrder units order → All (λ i. i < length units) order
within units order o k d h = grown_within units (reverse order) o.grows (get_or order k d) (among_turned order (get_or order k d) (k, slice_get-get_or order k d h))

-- the table has a row for each unit
pub as_long : (units : List Routine) (order : List ℕ) → IsCallOrder units order → length (smash_table units order) ≡ length units
as_long units order o = (made units order o).long

-- where none of some rules is broken they are kept
pub all_kept : (p : Program) (rules : List Rule) → AreKept (IsBrokenOf p rules) → KeepsAll p rules
all_kept p rules kept rule among i card broken = kept rule card (record { among = among; unit = i; broken = broken })

-- the facts
pub are_facts : (dialect : Dialect) (deck : Deck) (facts : CallFacts) → IsWellFormed dialect deck → IsCallOrder deck.units facts.order → IsCalleesTable deck.units facts.callees
    → facts.smashes ≡ smash_table deck.units facts.order → (p : Program) → p.units ≡ deck.units → p.smashes ≡ facts.smashes → AreCallFacts p facts
are_facts dialect deck facts well order callees table p e f = record {
  order = subst (λ (us : List Routine). IsCallOrder us facts.order) (sym e) order;
  table = tables_by_order dialect deck facts.order well order p e (f ∙ table);
  smashes = sym f;
  callees = subst (λ (us : List Routine). IsCalleesTable us facts.callees) (sym e) callees;
}

-- ---- what is found, by other words for the units, the order and the rows

pub within_as : (us units : List Routine) (xs order : List ℕ) → us ≡ units → xs ≡ order → IsCallOrder units order → All (λ i. i < length us) xs
within_as us units xs order e f o = subst (λ (vs : List Routine). All (λ i. i < length vs) xs) (sym e) (subst (λ (ys : List ℕ). All (λ i. i < length units) ys) (sym f) (within units order o))

pub rows_are : (us units : List Routine) (xs order : List ℕ) (items rows : List (List Name)) → us ≡ units → xs ≡ order → items ≡ smash_table us xs → rows ≡ items → rows ≡ smash_table units order
rows_are us units xs order items rows e f made is = is ∙ (made ∙ (ap (λ (vs : List Routine). smash_table vs xs) e ∙ ap (smash_table units) f))

pub rows_are_long : (us units : List Routine) (order : List ℕ) (rows : List (List Name)) → us ≡ units → IsCallOrder units order → rows ≡ smash_table units order → length rows ≡ length us
rows_are_long us units order rows e o r = ap (λ (xs : List (List Name)). length xs) r ∙ (as_long units order o ∙ sym (ap (λ (vs : List Routine). length vs) e))

-- the first fault is told for every program of some units with some rows
abbrev pub IsTold : List Routine → List (List Name) → Option Fault → Type 0
IsTold us rows found = (p : Program) → p.units ≡ us → p.smashes ≡ rows → TellsLeast (IsBrokenOf p rules_of_smashing) found

pub smash_fault_is : (dialect : Dialect) (deck : Deck) (order : List ℕ) (us : List Routine) (rows : List (List Name)) (found : Option Fault) (fault f : Fault)
    → IsWellFormed dialect deck → IsCallOrder deck.units order → us ≡ deck.units → rows ≡ smash_table deck.units order → IsTold us rows found → found ≡ Some fault → fault ≡ f → IsSmashFault deck.units f
smash_fault_is dialect deck order us rows found fault f well o e r told is same = record {
  table = rows;
  is_table = λ p x y. tables_by_order dialect deck order well o p x (y ∙ r);
  first = λ p x y.
      subst (λ (z : Fault). IsFirstBroken p rules_of_smashing z) same
      (subst (λ (z : Option Fault). TellsLeast (IsBrokenOf p rules_of_smashing) z) is (told p (x ∙ sym e) y));
}

pub facts_hold : (dialect : Dialect) (deck : Deck) (order : List ℕ) (callees : List (List ℕ)) (rows : List (List Name)) (r : Result CallFacts Refusal)
    → IsWellFormed dialect deck → IsCallOrder deck.units order → IsCalleesTable deck.units callees → rows ≡ smash_table deck.units order
    → IfOk r (λ facts. facts.order ≡ order) → IfOk r (λ facts. facts.callees ≡ callees) → IfOk r (λ facts. facts.smashes ≡ rows)
    → IfOk r (λ facts. (p : Program) → p.units ≡ deck.units → p.smashes ≡ facts.smashes → AreCallFacts p facts)
facts_hold dialect deck order callees rows (Ok facts) well o cs t a b s =
    are_facts dialect deck facts well (subst (λ (xs : List ℕ). IsCallOrder deck.units xs) (sym a) o) (subst (λ (xs : List (List ℕ)). IsCalleesTable deck.units xs) (sym b) cs)
    (s ∙ (t ∙ ap (smash_table deck.units) (sym a)))
facts_hold dialect deck order callees rows (Err e) well o cs t a b s = a

pub kept_hold : (us units : List Routine) (rows : List (List Name)) (r : Result CallFacts Refusal) (found : Option Fault) → us ≡ units → IsTold us rows found → found ≡ None
    → IfOk r (λ facts. facts.smashes ≡ rows) → IfOk r (λ facts. (p : Program) → p.units ≡ units → p.smashes ≡ facts.smashes → KeepsAll p rules_of_smashing)
kept_hold us units rows (Ok facts) found e told is s = λ p x y.
    all_kept p rules_of_smashing (subst (λ (z : Option Fault). TellsLeast (IsBrokenOf p rules_of_smashing) z) is (told p (x ∙ sym e) (y ∙ s)))
kept_hold us units rows (Err e) found f told is s = s
