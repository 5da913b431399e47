-- Sets of names, as lists of them in order, each once.
use Rattle.std.specs.Prelude.{◌||◌, Bool, false, cond, List, [], ◌∷◌, ◌++◌}
use Rattle.formula.specs.Atoms.{is_among}
use Rattle.fort_syntax.specs.declared.name.Name.{Name}

-- a set with one more name
abbrev pub with_name : List Name → Name → List Name
with_name xs x = cond (is_among x xs) xs (xs ++ x ∷ [])

-- a set with more names
abbrev pub with_names : List Name → List Name → List Name
with_names xs [] = xs
with_names xs (y ∷ ys) = with_names (with_name xs y) ys

-- a name is among some, or is the second of its letters in a list
abbrev pub repeats : List Name → List Name → Bool
repeats xs [] = false
repeats xs (y ∷ ys) = is_among y xs || repeats (with_name xs y) ys
