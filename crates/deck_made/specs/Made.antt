-- Made decks: as many units as wanted, each of which counts up to its dummy and calls the unit before it.
use Rattle.std.specs.Prelude.{ℕ, zero, suc, ◌+◌, ◌-◌, ◌/◌, ◌%◌, ◌==◌, cond, List, [], ◌∷◌, ◌++◌, codes}

-- the number of a unit in three digits
abbrev pub three_digits : ℕ → List ℕ
three_digits j = (48 + j / 100 % 10) ∷ (48 + j / 10 % 10) ∷ (48 + j % 10) ∷ []

-- the card on which the loop ends: the first unit sets the COMMON entity, each other one calls the unit before it
abbrev pub last_step : ℕ → List ℕ
last_step j = cond (j == 1) (codes "   20 K = N\n") (codes "   20 CALL U" ++ three_digits (j - 1) ++ codes "(N)\n")

-- the cards of a unit behind its name, up to the one on which its loop ends
abbrev pub loop_cards : List ℕ
loop_cards = codes "(N)\n      COMMON /BOX/ K\nC$ INPUT (DEFINED N) (ZLEQ 1 N) (ZLEQ N 100)\nC$ OUTPUT (EQUAL K N)\n      I = 0\nC$ ASSERT (DEFINED I) (ZLEQ 0 I) (ZLEQ I N) CLOCK (ZDIFF N I)\n   10 IF (I .GE. N) GO TO 20\n      I = I + 1\n      GO TO 10\n"

-- the twelve cards of a unit
abbrev pub unit_cards : ℕ → List ℕ
unit_cards j = codes "      SUBROUTINE U" ++ three_digits j ++ loop_cards ++ last_step j ++ codes "      RETURN\n      END\n"

-- the deck of so many units
abbrev pub made_deck : ℕ → List ℕ
made_deck zero = []
made_deck (suc n) = made_deck n ++ unit_cards (suc n)
