-- A search among functions by name, step by step.
use Rattle.std.proofs.Common.{◌≡◌, ℕ, suc, ◌+◌, ◌<◌, Bool, true, false, List, [], ◌∷◌, length, get_or, drop, Option, Some, None, IfSome, refl, sym, ap, ◌∙◌, add-one, if◌then◌else◌}
use Rattle.std.proofs.Math.Seq.{drop-cons}
use Rattle.std.specs.Cmp.Lexicographic.{same_text}
use Rattle.formula.specs.declared.function.BuiltIn.{BuiltIn}
use Rattle.formula.specs.Functions.{name_of}
use Rattle.formula.specs.Atoms.{same_bytes}
use Rattle.formula.specs.Reading.{built_in_among}

opened : (fs : List BuiltIn) (i : ℕ) (f : BuiltIn) → i < length fs → f ≡ get_or fs i f → drop i fs ≡ f ∷ drop (i + 1) fs
opened fs i f h e = let step : drop i fs ≡ get_or fs i f ∷ drop (suc i) fs = drop-cons fs i f h in rw add-one (step ∙ ap (λ g. g ∷ drop (suc i) fs) (sym e))

pub found_here : (fs : List BuiltIn) (i : ℕ) (name : List ℕ) (f : BuiltIn) → i < length fs → f ≡ get_or fs i f → same_bytes (name_of f) name ≡ true
    → built_in_among (drop i fs) name ≡ Some f
found_here fs i name f h e same = ap (λ l. built_in_among l name) (opened fs i f h e) ∙ rw same refl

pub found_later : (fs : List BuiltIn) (i : ℕ) (name : List ℕ) (f : BuiltIn) → i < length fs → f ≡ get_or fs i f → same_bytes (name_of f) name ≡ false
    → built_in_among (drop i fs) name ≡ built_in_among (drop (i + 1) fs) name
found_later fs i name f h e differs = ap (λ l. built_in_among l name) (opened fs i f h e) ∙ rw differs refl

found_in : (fs : List BuiltIn) (name : List ℕ) (f g : BuiltIn) (b : Bool) → same_bytes (name_of g) name ≡ b
    → (if b then Some g else built_in_among fs name) ≡ Some f → (built_in_among fs name ≡ Some f → name_of f ≡ name) → name_of f ≡ name
found_in fs name f g true same e later = let this : g ≡ f = cc in ap name_of (sym this) ∙ same_text (name_of g) name (sym same)
found_in fs name f g false same e later = later e

-- what is found has the name
pub found_name : (fs : List BuiltIn) (name : List ℕ) (f : BuiltIn) → built_in_among fs name ≡ Some f → name_of f ≡ name
found_name [] name f e = absurd (cc)
found_name (g ∷ fs) name f e = found_in fs name f g (same_bytes (name_of g) name) refl e (found_name fs name f)

pub found_by_name : (fs : List BuiltIn) (name : List ℕ) (found : Option BuiltIn) → found ≡ built_in_among fs name → IfSome found (λ f. name_of f ≡ name)
found_by_name fs name None e = tt
found_by_name fs name (Some f) e = found_name fs name f (sym e)
