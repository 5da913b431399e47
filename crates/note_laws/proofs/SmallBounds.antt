-- The bound of a deck is from 1 to 10^18 - 1.
use Rattle.std.proofs.Common.{ℕ, ◌<◌, List, [], ◌∷◌, sym, ap, subst, arith}
use Rattle.std.specs.Prelude.{◌^◌}
use Rattle.std.specs.List.{AllByRecursion, flat_map}
use Rattle.formula.specs.declared.definition.Heading.{Heading}
use Rattle.fort_notes.specs.Forms.{Form, bound, definition, input, output, assertion, run, try, proof}
use Rattle.fort_notes.specs.Judging.{Word, Bound, PlainDefinition, CountingDefinition, Input, Output, Assert, Run, Try, Proof, headings}
use Rattle.fort_notes.specs.Remarks.{Remarks, bound_in, first_or}
use Rattle.note_laws.specs.Laws.{BoundsAreSmall}
use Rattle.note_laws.proofs.Small.{flat_all}
use Rattle.note_laws.proofs.FormsGive.{IsForm}
use Rattle.note_laws.proofs.AllJudged.{origin, remarks_judged}

abbrev IsSmall : ℕ → Type 0
IsSmall b = (0 < b) × (b < 10 ^ 18)

bound_as : (hs : List Heading) (w : Word) (b : ℕ) → IsForm hs w (bound b) → IsSmall b
bound_as hs Bound b h = h
bound_as hs PlainDefinition b h = absurd h
bound_as hs CountingDefinition b h = absurd h
bound_as hs Input b h = absurd h
bound_as hs Output b h = absurd h
bound_as hs Assert b h = absurd h
bound_as hs Run b h = absurd h
bound_as hs Try b h = absurd h
bound_as hs Proof b h = absurd h

small_in : (hs : List Heading) (w : Word) (f : Form) → IsForm hs w f → AllByRecursion IsSmall (bound_in f)
small_in hs w (bound b) h = (bound_as hs w b h, tt)
small_in hs w (definition d) h = tt
small_in hs w (input ts) h = tt
small_in hs w (output ts) h = tt
small_in hs w (assertion ts stands clock) h = tt
small_in hs w (run card) h = tt
small_in hs w (try card) h = tt
small_in hs w (proof p) h = tt

small_first : (bs : List ℕ) → AllByRecursion IsSmall bs → IsSmall (first_or 32767 bs)
small_first [] h = (omega arith, omega arith)
small_first (b ∷ bs) h = h.0

pub bounds_are_small : BoundsAreSmall
bounds_are_small deck r e =
    let j = remarks_judged deck r e in
    let all = flat_all IsSmall (λ k. bound_in k.form) j.notes
    (λ k m. let o = origin deck j.notes j.are.all k m in small_in (headings o.before) o.judged.first k.form o.judged.form) in
    subst IsSmall (sym (ap (λ (x : Remarks). x.bound) j.is)) (small_first (flat_map (λ k. bound_in k.form) j.notes) all)
