-- What all notes of a deck, judged one after another, are.
use Rattle.std.proofs.Common.{◌≡◌, zero, suc, Option, Some, None, List, [], ◌∷◌, ◌++◌, Result, Ok, Err, refl, sym, ap, ◌∙◌, subst, append_assoc}
use Rattle.fort_syntax.specs.FirstFaults.{stage_of}
use Rattle.fort_syntax.specs.declared.deck.Deck.{Deck}
use Rattle.fort_syntax.specs.declared.deck.Placed.{Placed}
use Rattle.fort_syntax.specs.declared.refusal.Fault.{Fault}
use Rattle.fort_syntax.specs.declared.rule.Rule.{Rule}
use Rattle.fort_notes.specs.Judging.{Judged, judge, judged_then, judged_from, judged, missing_note, judged_or_fault}
use Rattle.fort_notes.specs.Remarks.{Remarks, remarks_by, remarks_if, remarks_of}
use Rattle.fort_model.specs.Lists.{IsAmong}
use Rattle.note_laws.proofs.Small.{none_among}
use Rattle.note_laws.proofs.NotesJudged.{JudgedAs, Judges, judge_judges}

-- notes behind others were judged, one after another
abbrev pub AreJudged : Deck → List Judged → List Placed → List Judged → Type 0
AreJudged deck done [] [] = Unit {0}
AreJudged deck done [] (j ∷ js) = ⊥
AreJudged deck done (n ∷ ns) [] = ⊥
AreJudged deck done (n ∷ ns) (j ∷ js) = JudgedAs deck done n j × AreJudged deck (done ++ j ∷ []) ns js

-- a fault is on one of some notes
abbrev pub IsOn : List Placed → Fault → Type 0
IsOn ns f = (n : Placed) × IsAmong n ns × (n.card ≡ f.card) × (stage_of f.rule ≡ 8)

abbrev pub JudgesAll : Deck → List Judged → List Placed → Result (List Judged) Fault → Type 0
JudgesAll deck done ns (Ok all) = (js : List Judged) × (all ≡ done ++ js) × AreJudged deck done ns js
JudgesAll deck done ns (Err f) = IsOn ns f

append_nothing : {A : Type 0} (xs : List A) → xs ≡ xs ++ []
append_nothing [] = refl
append_nothing (x ∷ xs) = ap (λ ys. x ∷ ys) (append_nothing xs)

module _ (deck : Deck) (done : List Judged) (n : Placed) (ns : List Placed) where
  further : (j : Judged) → JudgedAs deck done n j → (r : Result (List Judged) Fault) → JudgesAll deck (done ++ j ∷ []) ns r → JudgesAll deck done (n ∷ ns) r
  further j h (Ok all) k = (j ∷ k.0, k.1 ∙ append_assoc done (j ∷ []) k.0, (h, k.2))
  further j h (Err f) k = (k.0, (suc k.1.0, k.1.1), k.2, k.3)

  first_judges : (r : Result Judged Rule) → Judges deck done n r
      → ((j : Judged) → JudgesAll deck (done ++ j ∷ []) ns (judged_from deck (done ++ j ∷ []) ns))
      → JudgesAll deck done (n ∷ ns) (judged_then r n.card (λ j. judged_from deck (done ++ j ∷ []) ns))
  first_judges (Err rule) h rec = (n, (0, refl), refl, h)
  first_judges (Ok j) h rec = further j h (judged_from deck (done ++ j ∷ []) ns) (rec j)

all_judge : (deck : Deck) (done : List Judged) (ns : List Placed) → JudgesAll deck done ns (judged_from deck done ns)
all_judge deck done [] = ([], append_nothing done, tt)
all_judge deck done (n ∷ ns) =
    first_judges deck done n ns (judge deck done n) (judge_judges deck done n) (λ j. all_judge deck (done ++ j ∷ []) ns)

-- ---- the notes of a deck

-- the notes of a deck were judged, and no unit lacks one
pub record DeckJudged (deck : Deck) (js : List Judged) : Type 0 where
  pub all : AreJudged deck [] deck.notes js
  pub none : missing_note deck ≡ None

pub record RemarksJudged (deck : Deck) (r : Remarks) : Type 0 where
  pub notes : List Judged
  pub are : DeckJudged deck notes
  pub is : r ≡ remarks_by deck.units notes

remarks_at : (deck : Deck) (r : Remarks) (a : Result (List Judged) Fault) (missing : Option Fault) → missing_note deck ≡ missing
    → JudgesAll deck [] deck.notes a → remarks_if deck.units (judged_or_fault a missing) ≡ Ok r → RemarksJudged deck r
remarks_at deck r (Err f) missing m h e = absurd (cc)
remarks_at deck r (Ok all) (Some g) m h e = absurd (cc)
remarks_at deck r (Ok all) None m h e =
    record { notes = h.0; are = record { all = h.2; none = m }; is = sym (same e) ∙ ap (remarks_by deck.units) h.1 }
  where
    same : remarks_if deck.units (Ok all) ≡ Ok r → remarks_by deck.units all ≡ r
    same q = cc

-- where the notes of a deck say something, they were judged
pub remarks_judged : (deck : Deck) (r : Remarks) → remarks_of deck ≡ Ok r → RemarksJudged deck r
remarks_judged deck r e = remarks_at deck r (judged deck) (missing_note deck) refl (all_judge deck [] deck.notes) e

-- a fault of the judging is on a note
pub judging_fault : (deck : Deck) (f : Fault) → judged deck ≡ Err f → IsOn deck.notes f
judging_fault deck f e = subst (JudgesAll deck [] deck.notes) e (all_judge deck [] deck.notes)

-- ---- where a judged note comes from

pub record Origin (deck : Deck) (ns : List Placed) (all : List Judged) (j : Judged) : Type 0 where
  pub before : List Judged
  pub behind : List Judged
  pub is : all ≡ before ++ j ∷ behind
  pub note : Placed
  pub among : IsAmong note ns
  pub judged : JudgedAs deck before note j

pub origin_from : (deck : Deck) (done : List Judged) (ns : List Placed) (js : List Judged) → AreJudged deck done ns js → (j : Judged) → IsAmong j js → Origin deck ns (done ++ js) j
origin_from deck done [] [] h j m = none_among m
origin_from deck done [] (k ∷ js) h j m = absurd h
origin_from deck done (n ∷ ns) [] h j m = absurd h
origin_from deck done (n ∷ ns) (k ∷ js) h j (zero, e) =
    let same : k ≡ j = cc in
    record {
      before = done;
      behind = js;
      is = ap (λ (x : Judged). done ++ x ∷ js) same;
      note = n;
      among = (0, refl);
      judged = subst (JudgedAs deck done n) same h.0;
    }
origin_from deck done (n ∷ ns) (k ∷ js) h j (suc i, e) =
    let o = origin_from deck (done ++ k ∷ []) ns js h.1 j (i, e) in
    record {
      before = o.before;
      behind = o.behind;
      is = sym (append_assoc done (k ∷ []) js) ∙ o.is;
      note = o.note;
      among = (suc o.among.0, o.among.1);
      judged = o.judged;
    }

pub origin : (deck : Deck) (js : List Judged) → AreJudged deck [] deck.notes js → (j : Judged) → IsAmong j js → Origin deck deck.notes js j
origin deck js h j m = origin_from deck [] deck.notes js h j m
