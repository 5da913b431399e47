-- Names of definitions that were read are new.
use Rattle.std.proofs.Common.{◌≡◌, ℕ, Bool, true, false, if◌then◌else◌, Option, Some, None, List, [], ◌∷◌, ◌++◌, refl, sym, ap, subst, append_assoc, append-nil}
use Rattle.std.specs.Prelude.{is_some}
use Rattle.formula.specs.declared.definition.Heading.{Heading}
use Rattle.formula.specs.declared.definition_fault.DefFault.{DefFault}
use Rattle.formula.specs.declared.head.Head.{Head}
use Rattle.formula.specs.Adding.{adding_fault, is_known_name}
use Rattle.formula.specs.Atoms.{is_function_name}
use Rattle.formula.specs.Reading.{head_named}
use Rattle.formula.specs.Worth.{Function, FunctionBody}
use Rattle.event_text.specs.Readable.{headings_with, AreReadableAfter, IsReadableDefinition}
use Rattle.event_text.proofs.FoundNames.{AreNew}
use Rattle.event_text.proofs.OneDefinition.{own}
use Rattle.event_reading.specs.Names.{heading_names}

unknown : (earlier : List Heading) (name : List ℕ) (params : List (List ℕ)) (body : FunctionBody) → adding_fault earlier name params body ≡ None → head_named earlier None name ≡ None
unknown earlier name params body h = nothing (head_named earlier None name) (first (is_known_name earlier name) _ h)
  where
    first : (a : Bool) (rest : Option DefFault) → (if a then Some DefFault.KnownName else rest) ≡ None → a ≡ false
    first true rest k = absurd cc
    first false rest k = refl

    nothing : (o : Option Head) → is_some o ≡ false → o ≡ None
    nothing None k = refl
    nothing (Some x) k = absurd cc

new_more : (earlier hs : List Heading) (h : Heading) → AreNew earlier hs → head_named (earlier ++ hs) None h.name ≡ None → is_function_name h.name ≡ true → AreNew earlier (hs ++ h ∷ [])
new_more earlier [] h new free name = (subst (λ l. head_named l None h.name ≡ None) (append-nil earlier) free, name, tt)
new_more earlier (g ∷ hs) h new free name =
    (new.0, new.1, new_more (earlier ++ g ∷ []) hs h new.2 (subst (λ l. head_named l None h.name ≡ None) (sym (append_assoc earlier (g ∷ []) hs)) free) name)

pub new_next : (hs : List Heading) (d : Function) → AreNew [] hs → IsReadableDefinition hs d → AreNew [] (hs ++ own d ∷ [])
new_next hs d new r = new_more [] hs (own d) new (unknown hs d.name d.params d.body r.fits) r.name

pub new_all : (hs : List Heading) (ds : List Function) → AreNew [] hs → AreReadableAfter hs ds → AreNew [] (hs ++ headings_with ds)
new_all hs [] new r = subst (AreNew []) (sym (append-nil hs)) new
new_all hs (d ∷ ds) new r = subst (AreNew []) (append_assoc hs (own d ∷ []) (headings_with ds)) (new_all (hs ++ own d ∷ []) ds (new_next hs d new r.0) r.1)

pub names_move : (hs : List Heading) (h : Heading) (later : List (List ℕ)) → heading_names hs ++ (h.name ∷ later) ≡ heading_names (hs ++ h ∷ []) ++ later
names_move [] h later = refl
names_move (g ∷ hs) h later = ap (λ l. g.name ∷ l) (names_move hs h later)
