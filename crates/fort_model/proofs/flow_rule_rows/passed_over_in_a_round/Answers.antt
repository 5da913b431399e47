use Rattle.std.specs.Prelude.{refl, [], ◌∷◌, None}
use Rattle.fort_syntax.specs.SmallDecks.{J}
use Rattle.fort_syntax.specs.declared.stmt.Param.TheVariants.{Fixed}
use Rattle.fort_syntax.specs.declared.stmt.Stmt.TheVariants.{Do}
use Rattle.fort_model.specs.Decks.{line}
use Rattle.fort_model.specs.Paths.{one}
use Rattle.fort_model.specs.Rows.{twice}
use Rattle.fort_model.proofs.flow_rule_rows.passed_over_in_a_round.Goals as goal

-- src/flow_rule_rows.rt:30:1
pub returns : goal.returns
returns c = record {
  unit = twice;
  is_unit = refl;
  breaks = record {
    point = 1;
    line = line 5 (Do 10 J (Fixed 1) (Fixed 2) None);
    at = refl;
    is_card = refl;
    cycle = one (2 ∷ 1 ∷ []) refl (record { line = line 5 (Do 10 J (Fixed 1) (Fixed 2) None); at = refl; to = refl });
  };
}
