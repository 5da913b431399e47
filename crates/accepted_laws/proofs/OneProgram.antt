-- A deck has one program, and is accepted in one way.
use Rattle.std.proofs.Common.{◌≡◌, ℕ, suc, Bool, true, false, List, [], ◌∷◌, map, Result, Ok, refl, sym, ap, ◌∙◌, subst}
use Rattle.std.specs.List.{filter}
use Rattle.fort_syntax.specs.declared.deck.Deck.{Deck}
use Rattle.fort_syntax.specs.declared.name.Name.{Name}
use Rattle.fort_syntax.specs.declared.refusal.Fault.{Fault}
use Rattle.fort_syntax.specs.declared.unit.Unit.{Unit as Routine}
use Rattle.fort_notes.specs.Remarks.{Remarks, remarks_of}
use Rattle.fort_model.specs.Conditions.{AreAllPaths, conditions_of}
use Rattle.fort_model.specs.Program.{Program, is_smashed}
use Rattle.fort_model.specs.Programs.{program_of}
use Rattle.fort_model.specs.Smashes.{Smashes}
use Rattle.fort_model.specs.SmashTables.{are_smashed_data, IsSmashTable}
use Rattle.fort_laws.proofs.OnePath.{all_paths_are_one}
use Rattle.accepted_laws.specs.Laws.{ProgramsAreOne, AcceptedAreOne}

-- ---- one table

-- two tests that imply each other
same_test : (a b : Bool) → (a ≡ true → b ≡ true) → (b ≡ true → a ≡ true) → a ≡ b
same_test true b f g = sym (f refl)
same_test false true f g = g refl
same_test false false f g = refl

module _ (p q : Program) (units : p.units ≡ q.units) (t : IsSmashTable p) (s : IsSmashTable q) where
  smashed_alike : (i : ℕ) (x : Name) → is_smashed p i x ≡ is_smashed q i x
  smashed_alike i x =
      same_test (is_smashed p i x) (is_smashed q i x)
      (λ h. (s.holds i x).1 (subst (λ (us : List Routine). Smashes us i x) units ((t.holds i x).0 h)))
      (λ h. (t.holds i x).1 (subst (λ (us : List Routine). Smashes us i x) (sym units) ((s.holds i x).0 h)))

  same_rows : (i : ℕ) (us : List Routine) (rows others : List (List Name)) → are_smashed_data p i us rows → are_smashed_data q i us others → rows ≡ others
  same_rows i [] [] [] h k = refl
  same_rows i [] [] (row ∷ others) h k = absurd k
  same_rows i [] (row ∷ rows) others h k = absurd h
  same_rows i (u ∷ us) [] others h k = absurd h
  same_rows i (u ∷ us) (row ∷ rows) [] h k = absurd k
  same_rows i (u ∷ us) (row ∷ rows) (other ∷ others) h k =
      let alike : filter (is_smashed p i) (map (λ d. d.name) u.names) ≡ filter (is_smashed q i) (map (λ d. d.name) u.names) =
      (λ z. filter (λ x. smashed_alike i x z) (map (λ d. d.name) u.names)) in
      ap (λ (r : List Name). r ∷ rows) (h.0 ∙ (alike ∙ sym k.0)) ∙ ap (λ (rs : List (List Name)). other ∷ rs) (same_rows (suc i) us rows others h.1 k.1)

  same_table : p.smashes ≡ q.smashes
  same_table = same_rows 0 p.units p.smashes q.smashes t.rows (subst (λ (us : List Routine). are_smashed_data q 0 us q.smashes) (sym units) s.rows)

-- ---- one program

abbrev answer : Remarks → Result Remarks Fault
answer t = Ok t

same_remarks : (deck : Deck) (r s : Remarks) → remarks_of deck ≡ Ok r → remarks_of deck ≡ Ok s → r ≡ s
same_remarks deck r s e f = inside (sym e ∙ f)
  where
    inside : answer r ≡ answer s → r ≡ s
    inside g = cc

pub programs_are_one : ProgramsAreOne
programs_are_one dialect deck r s p q a b =
    let remarks = same_remarks deck r s a.remarks b.remarks in
    let units : p.units ≡ q.units = ap (λ (x : Program). x.units) a.program ∙ sym (ap (λ (x : Program). x.units) b.program) in
    let table = same_table p q units a.table b.table in
    let made : program_of dialect deck r p.smashes ≡ program_of dialect deck s q.smashes = (λ z. program_of dialect deck (remarks z) (table z)) in
    (remarks, a.program ∙ (made ∙ sym b.program))

pub accepted_are_one : AcceptedAreOne
accepted_are_one dialect deck r s p q paths others a b =
    let one = programs_are_one dialect deck r s p q a.is_program b.is_program in
    let trails = all_paths_are_one q paths others (subst (λ (x : Program). AreAllPaths x paths) one.1 a.all_paths) b.all_paths in
    (one.0, one.1, trails, λ z. conditions_of (one.1 z) (trails z))
