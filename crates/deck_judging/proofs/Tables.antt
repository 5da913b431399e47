-- The table of smashed names that was found.
use Rattle.std.proofs.Common.{◌≡◌, ℕ, List, Option, None, sym, ◌∙◌, subst}
use Rattle.fort_syntax.specs.FirstFaults.{TellsLeast}
use Rattle.fort_syntax.specs.WellFormed.{IsWellFormed}
use Rattle.fort_syntax.specs.declared.deck.Deck.{Deck}
use Rattle.fort_syntax.specs.declared.dialect.Dialect.{Dialect}
use Rattle.fort_syntax.specs.declared.name.Name.{Name}
use Rattle.fort_syntax.specs.declared.refusal.Fault.{Fault}
use Rattle.fort_syntax.specs.declared.unit.Unit.{Unit as Routine}
use Rattle.fort_model.specs.CallOrder.{IsCallOrder}
use Rattle.fort_model.specs.Stages.{IsBrokenOf, rules_of_smashing}
use Rattle.smash_laws.specs.Ordered.{smash_table}
use Rattle.smash_laws.proofs.TableHolds.{tables_by_order}
use Rattle.deck_judging.specs.Stages.{HaveTable, KeepSmashing}
use Rattle.alias_rules.proofs.FromTables.{IsTold, all_kept}

-- rows that were found by an order of calls are the table of smashed names
pub is_table : (dialect : Dialect) (deck : Deck) (order : List ℕ) (rows : List (List Name)) → IsWellFormed dialect deck → IsCallOrder deck.units order → rows ≡ smash_table deck.units order
    → HaveTable deck.units rows
is_table dialect deck order rows well o r p e f = tables_by_order dialect deck order well o p e (f ∙ r)

-- where no fault was found with them, the rules on smashed names are kept
pub smashing_kept : (us units : List Routine) (seen rows : List (List Name)) (found : Option Fault) → us ≡ units → seen ≡ rows → IsTold us seen found → found ≡ None
    → KeepSmashing units rows
smashing_kept us units seen rows found e s told is p x y =
    all_kept p rules_of_smashing (subst (λ (z : Option Fault). TellsLeast (IsBrokenOf p rules_of_smashing) z) is (told p (x ∙ sym e) (y ∙ sym s)))
