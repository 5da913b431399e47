use Rattle.std.specs.Prelude.{refl, false, [], ◌∷◌, codes}
use Rattle.fort_syntax.specs.SmallDecks.{I}
use Rattle.fort_syntax.specs.declared.expr.Expr.TheVariants.{Var}
use Rattle.fort_syntax.specs.declared.stmt.Stmt.TheVariants.{Call}
use Rattle.fort_model.specs.Calls.{directly}
use Rattle.fort_model.specs.Decks.{line}
use Rattle.fort_model.specs.RuleRows.{endless}
use Rattle.fort_model.proofs.rule_rows.calls_of_itself.Goals as goal

-- src/rule_rows.rt:35:1
pub returns : goal.returns
returns c = record {
  unit = endless;
  is_unit = refl;
  breaks = record {
    is_card = refl;
    way = directly (record {
      caller = endless;
      callee = endless;
      is_caller = refl;
      is_callee = refl;
      line = line 4 (Call (codes "S") (Var I ∷ []));
      is_line = (0, refl);
      site = record { reference = false; callee = codes "S"; actuals = Var I ∷ [] };
      is_site = (0, refl);
      is_of = refl;
    });
  };
}
