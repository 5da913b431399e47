-- What units of small decks smash.
use Rattle.std.specs.Prelude.{[], ◌∷◌}
use Rattle.fort_syntax.specs.SmallDecks.{I, J, K}
use Rattle.fort_model.specs.Rows.{swap, rotate, set_common, pass_common}
use Rattle.fort_model.specs.Smashes.{Smashes}

-- SWAP sets its dummies; ROT passes them its own, in the first call I and J, in the second K
abbrev pub SmashedByCalls : Type 0
SmashedByCalls =
    Smashes (swap ∷ rotate ∷ []) 0 J
    × Smashes (swap ∷ rotate ∷ []) 1 I
    × Smashes (swap ∷ rotate ∷ []) 1 K

-- S sets K in COMMON, and so does P that calls it
abbrev pub SmashedInCommon : Type 0
SmashedInCommon = Smashes (set_common ∷ pass_common ∷ []) 1 K
