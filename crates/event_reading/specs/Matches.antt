-- What of a text is the same as pieces that are put, one after the other.
use Rattle.std.specs.Prelude.{◌≡◌, ℕ, Bool, true, false, List, [], ◌∷◌, ◌++◌}
use Rattle.event_reading.specs.declared.comparing.Comparing.{Comparing}

-- a piece was passed where all was the same so far: it stood there, or the text does not begin with it
pub record Matches (old new : Comparing) (piece : List ℕ) : Type 0 where
  pub kept : new.same ≡ true → (old.same ≡ true) × (old.rest.now ≡ piece ++ new.rest.now)
  pub lost : new.same ≡ false → old.same ≡ true → (rest : List ℕ) → old.rest.now ≡ piece ++ rest → ⊥

-- no byte is left
abbrev pub is_nothing : List ℕ → Bool
is_nothing [] = true
is_nothing (b ∷ rest) = false

-- what is to be passed was `whole`, and is `left`: what was passed in between is what stands before `left`
pub record Nears (old new : Comparing) (whole left : List ℕ) : Type 0 where
  pub front : List ℕ
  pub put : Matches old new front
  pub is : front ++ left ≡ whole
