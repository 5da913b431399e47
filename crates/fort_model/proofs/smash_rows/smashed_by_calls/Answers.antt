use Rattle.std.specs.Prelude.{refl, false, [], ◌∷◌, codes}
use Rattle.fort_syntax.specs.SmallDecks.{I, J, K}
use Rattle.fort_syntax.specs.declared.expr.Expr.TheVariants.{Var}
use Rattle.fort_syntax.specs.declared.stmt.Stmt.TheVariants.{Assign, Call}
use Rattle.fort_model.specs.Calls.{Calls}
use Rattle.fort_model.specs.Decks.{line}
use Rattle.fort_model.specs.Rows.{swap, rotate}
use Rattle.fort_model.specs.Smashes.{Smashes, sets, passes}
use Rattle.fort_model.proofs.smash_rows.smashed_by_calls.Goals as goal

first_set : Smashes (swap ∷ rotate ∷ []) 0 I
first_set = sets swap (line 5 (Assign (Var I) (Var J))) refl (1, refl) (0, refl)

second_set : Smashes (swap ∷ rotate ∷ []) 0 J
second_set = sets swap (line 6 (Assign (Var J) (Var K))) refl (2, refl) (0, refl)

abbrev first_call : Calls (swap ∷ rotate ∷ []) 1 0
first_call = record {
  caller = rotate;
  callee = swap;
  is_caller = refl;
  is_callee = refl;
  line = line 12 (Call (codes "SWAP") (Var I ∷ Var J ∷ []));
  is_line = (0, refl);
  site = record { reference = false; callee = codes "SWAP"; actuals = Var I ∷ Var J ∷ [] };
  is_site = (0, refl);
  is_of = refl;
}

abbrev second_call : Calls (swap ∷ rotate ∷ []) 1 0
second_call = record {
  caller = rotate;
  callee = swap;
  is_caller = refl;
  is_callee = refl;
  line = line 13 (Call (codes "SWAP") (Var J ∷ Var K ∷ []));
  is_line = (1, refl);
  site = record { reference = false; callee = codes "SWAP"; actuals = Var J ∷ Var K ∷ [] };
  is_site = (0, refl);
  is_of = refl;
}

-- src/smash_rows.rt:5:1
pub returns : goal.returns
returns c = (second_set, passes first_call 0 refl refl first_set, passes second_call 1 refl refl second_set)
