use Rattle.std.specs.Prelude.{refl, false, [], ◌∷◌, codes}
use Rattle.fort_syntax.specs.SmallDecks.{K}
use Rattle.fort_syntax.specs.declared.expr.Expr.TheVariants.{Const, Var}
use Rattle.fort_syntax.specs.declared.stmt.Stmt.TheVariants.{Assign, Call}
use Rattle.fort_model.specs.Calls.{Calls}
use Rattle.fort_model.specs.Decks.{line}
use Rattle.fort_model.specs.Rows.{set_common, pass_common}
use Rattle.fort_model.specs.Smashes.{Smashes, sets, shares}
use Rattle.fort_model.proofs.smash_rows.smashed_in_common.Goals as goal

set : Smashes (set_common ∷ pass_common ∷ []) 0 K
set = sets set_common (line 5 (Assign (Var K) (Const 2))) refl (0, refl) (0, refl)

abbrev call : Calls (set_common ∷ pass_common ∷ []) 1 0
call = record {
  caller = pass_common;
  callee = set_common;
  is_caller = refl;
  is_callee = refl;
  line = line 12 (Call (codes "S") (Var K ∷ []));
  is_line = (0, refl);
  site = record { reference = false; callee = codes "S"; actuals = Var K ∷ [] };
  is_site = (0, refl);
  is_of = refl;
}

-- src/smash_rows.rt:10:1
pub returns : goal.returns
returns c = shares call refl refl set
