-- What is written for an input.
use Rattle.std.proofs.Common.{◌≡◌, ◌⊎◌, inl, inr, ℕ, List, length, map, take, drop, refl, sym, ap, ◌∙◌, subst, Some}
use Rattle.std.proofs.lemmas.List.{length-map}
use Rattle.std.specs.Io.KnownBytes.{Appends}
use Rattle.std.specs.declared.option.Option.{Option}
use Rattle.deck_made.specs.Made.{made_deck}
use Rattle.edge_io.specs.Causes.{Rose}
use Rattle.formula.specs.Worth.{Function, functions_of}
use Rattle.fort_syntax.specs.Conditions.{ConditionTree}
use Rattle.fort_syntax.specs.FaultLine.{fault_line}
use Rattle.fort_syntax.specs.declared.deck.Deck.{Deck}
use Rattle.fort_syntax.specs.declared.dialect.Dialect.{Dialect}
use Rattle.fort_syntax.specs.declared.refusal.Fault.{Fault}
use Rattle.fort_notes.specs.Remarks.{Remarks}
use Rattle.fort_syntax.specs.declared.unit.Unit.{Unit as Routine}
use Rattle.fort_notes.specs.declared.cases.RunCard.{RunCard}
use Rattle.fort_notes.specs.declared.cases.TryCard.{TryCard}
use Rattle.event_text.specs.Conditions.{condition_tree}
use Rattle.event_text.specs.EventText.{event_text}
use Rattle.event_text.specs.Sending.{AppendsPart}
use Rattle.event_text.specs.declared.marks.Marks.{Marks}
use Rattle.fort_model.specs.Conditions.{conditions_of}
use Rattle.fort_model.specs.Paths.{Path}
use Rattle.fort_model.specs.Program.{Program}
use Rattle.judging.specs.Judgement.{IsAcceptedIn, IsFirstFaultIn}
use Rattle.judging.proofs.NoneBoth.{accepted_in_have_no_fault}
use Rattle.judging.proofs.OneJudgement.{accepted_in_are_sound}
use Rattle.prover_box.specs.Answers.{Seen}
use Rattle.prover_box.proofs.Enough.{unclosed_enough}
use Rattle.readable_laws.proofs.OfTexts.{conditions_in_are_readable, text_tells_conditions}
use Rattle.reply_lines.specs.Lines.{accepted_line, made_line}
use Rattle.reply_lines.specs.declared.lines.Sizes.{Sizes}
use Rattle.run_ranks.specs.Runnable.{CanRun}
use Rattle.run_texts.specs.Runs.{run_text}
use Rattle.try_lines.specs.Tries.{try_text}
use Rattle.deck_judging.specs.Judged.{IsJudgedIn}
use Rattle.deck_judging.specs.declared.found.Judged.{Judged}
use Rattle.vcg_top.specs.declared.command.Command.{Command}
use Rattle.vcg_top.specs.declared.command.Command.TheVariants.{Deck as OfDeck, Made}
use Rattle.vcg_top.specs.declared.command.Task.{Task}
use Rattle.vcg_top.specs.declared.command.Task.TheVariants.{Vc, Check, Run, Try}
use Rattle.vcg_top.specs.declared.status.Status.{Status}
use Rattle.vcg_top.specs.declared.status.Status.TheVariants.{Done, Refused, ReadFault, WriteFault, NoMemory as Starved}
use Rattle.vcg_top.specs.Answers.{AppendsOf, AppendsPartOf, IsCheckText, IsDoneText, IsEither, IsMadeText, IsRefusedText, IsReply, IsRunText, IsTryText, count_of_marked, sizes_of}
use Rattle.vcg_top.specs.Commands.{IsDeckOf, IsMadeNumber, IsReadWell, IsTakenOf, dialect_of, most_read}
use Rattle.vcg_top.specs.Found.{AreMarksOf, IsMadeOf, IsReplyOf, IsTextOf, sizes_found}
use Rattle.vcg_top.specs.Marked.{AreMarksFor}
use Rattle.vcg_top.specs.Soundness.{IsSoundText}
use Rattle.vcg_top.proofs.Fronts.{accepted_of_front, fault_of_front}
use Rattle.vcg_top.proofs.Marked.{are_marks}

-- ---- texts

-- the functions of a program that is accepted are the definitions of its remarks
program_functions : (d : Dialect) (bytes : List ℕ) (deck : Deck) (r : Remarks) (p : Program) (paths : List (List Path)) → IsAcceptedIn d bytes deck r p paths → p.functions ≡ r.definitions
program_functions d bytes deck r p paths h = ap (λ (q : Program). q.functions) h.accepted.is_program.program

module _ (d : Dialect) (bytes : List ℕ) (j : Judged) (h : IsJudgedIn d bytes j) where
  functions_are : functions_of j.pool j.definitions ≡ h.p.functions
  functions_are = h.functions ∙ sym (program_functions d bytes h.deck h.r h.p h.paths h.accepted)

  sizes_are : sizes_found j ≡ sizes_of h.p h.paths
  sizes_are =
      let conditions : length j.conditions ≡ length (conditions_of h.p h.paths) = sym (length-map j.conditions (condition_tree j.pool)) ∙ ap (λ (cs : List ConditionTree). length cs) h.conditions in
      λ i. record { units = h.units i; paths = h.paths_counted i; conditions = conditions i }

  marks_are : (before now : List Seen) (m : Marks) → AreMarksOf j before now m → AreMarksFor h.p.functions (conditions_of h.p h.paths) before now m
  marks_are before now m g =
      subst (λ (cs : List ConditionTree). AreMarksFor h.p.functions cs before now m) h.conditions
      (subst (λ (fs : List Function). AreMarksFor fs (map (condition_tree j.pool) j.conditions) before now m) functions_are
      (are_marks j.pool j.definitions j.conditions before now m g.asked g.counts g.small))

  done_found : (before now : List Seen) (text : List ℕ) → IsTextOf j before now text → IsDoneText d bytes before now text
  done_found before now text t = record {
    deck = h.deck;
    r = h.r;
    p = h.p;
    paths = h.paths;
    marks = t.marks;
    accepted = h.accepted;
    marked = marks_are before now t.marks t.given;
    is = t.is ∙ ap (λ (fs : List Function). event_text fs (map (condition_tree j.pool) j.conditions) t.marks) functions_are
        ∙ ap (λ (cs : List ConditionTree). event_text h.p.functions cs t.marks) h.conditions;
  }

  check_found : (text : List ℕ) → text ≡ accepted_line (sizes_found j) → IsCheckText d bytes text
  check_found text is = record { deck = h.deck; r = h.r; p = h.p; paths = h.paths; accepted = h.accepted; is = is ∙ ap accepted_line sizes_are }

  -- its deck is that of the program, and so is its bound
  units_are : j.deck.units ≡ h.p.units
  units_are = ap (λ (k : Deck). k.units) h.is_deck ∙ sym (ap (λ (q : Program). q.units) h.accepted.accepted.is_program.program)

  bound_is : j.bound ≡ h.p.bound
  bound_is = h.bound ∙ sym (ap (λ (q : Program). q.bound) h.accepted.accepted.is_program.program)

  pub can_run : CanRun d j.deck.units j.order
  can_run = subst (λ (k : Deck). CanRun d k.units j.order) (sym h.is_deck) (record {
    formed = h.accepted.accepted.is_program.well_formed.units;
    blocks = h.accepted.accepted.is_program.well_formed.blocks;
    keeps = h.calls_kept;
    rows = h.calls_known.rows;
    callees = h.calls_known.callees;
    ordered = h.calls_known.ordered;
  })

  run_found : (text : List ℕ) → text ≡ run_text d j.deck.units j.bound 1 j.runs → IsRunText d bytes text
  run_found text is = record {
    deck = h.deck;
    r = h.r;
    p = h.p;
    paths = h.paths;
    accepted = h.accepted;
    is = is ∙ ap (λ (us : List Routine). run_text d us j.bound 1 j.runs) units_are
        ∙ ap (λ (b : ℕ). run_text d h.p.units b 1 j.runs) bound_is
        ∙ ap (λ (cards : List RunCard). run_text d h.p.units h.p.bound 1 cards) h.runs;
  }

  try_found : (text : List ℕ) → text ≡ try_text (functions_of j.pool j.definitions) (map (condition_tree j.pool) j.conditions) 1 j.tries → IsTryText d bytes text
  try_found text is = record {
    deck = h.deck;
    r = h.r;
    p = h.p;
    paths = h.paths;
    accepted = h.accepted;
    is = is ∙ ap (λ (fs : List Function). try_text fs (map (condition_tree j.pool) j.conditions) 1 j.tries) functions_are
        ∙ ap (λ (cs : List ConditionTree). try_text h.p.functions cs 1 j.tries) h.conditions
        ∙ ap (λ (ts : List TryCard). try_text h.p.functions (conditions_of h.p h.paths) 1 ts) h.tries;
  }

made_found : (n : ℕ) (bytes : List ℕ) (j : Judged) (before now : List Seen) (text : List ℕ) → IsJudgedIn (dialect_of (Made n)) bytes j → IsMadeOf n j before now text → IsMadeText n bytes before now text
made_found n bytes j before now text h t = record {
  deck = h.deck;
  r = h.r;
  p = h.p;
  paths = h.paths;
  marks = t.marks;
  accepted = h.accepted;
  marked = marks_are (dialect_of (Made n)) bytes j h before now t.marks t.given;
  is = t.is ∙ ap (λ (s : Sizes). made_line n s (count_of_marked t.marks.letters)) (sizes_are (dialect_of (Made n)) bytes j h);
}

-- what is written of what is found of bytes is written for these bytes
reply_found : (c : Command) (bytes : List ℕ) (j : Judged) (before now : List Seen) (text : List ℕ) → IsJudgedIn (dialect_of c) bytes j → IsReplyOf c j before now text → IsReply c bytes before now text
reply_found (OfDeck Vc d) bytes j before now text h t = done_found d bytes j h before now text t
reply_found (OfDeck Check d) bytes j before now text h t = check_found d bytes j h text t
reply_found (OfDeck Run d) bytes j before now text h t = run_found d bytes j h text t
reply_found (OfDeck Try d) bytes j before now text h t = try_found d bytes j h text t
reply_found (Made n) bytes j before now text h t = made_found n bytes j before now text h t

module _ (c : Command) (d : Dialect) (bytes : List ℕ) (w v : Option (List ℕ)) (same : d ≡ dialect_of c) where
  pub found_reply : (j : Judged) (before now : List Seen) → IsJudgedIn d bytes j → AppendsOf (IsReplyOf c j before now) w v → AppendsOf (IsReply c bytes before now) w v
  found_reply j before now h t = (t.0, reply_found c bytes j before now t.0 (subst (λ (x : Dialect). IsJudgedIn x bytes j) same h) t.1, t.2)

  pub found_part : (j : Judged) (before now : List Seen) → IsJudgedIn d bytes j → AppendsPartOf (IsReplyOf c j before now) w v → AppendsPartOf (IsEither c bytes before now) w v
  found_part j before now h t = (t.0, inl (reply_found c bytes j before now t.0 (subst (λ (x : Dialect). IsJudgedIn x bytes j) same h) t.1), t.2)

  -- the line of the first fault
  fault_text : (f : Fault) → IsFirstFaultIn d bytes f → IsRefusedText (dialect_of c) bytes (fault_line f)
  fault_text f h = record { fault = f; first = subst (λ (x : Dialect). IsFirstFaultIn x bytes f) same h; is = refl }

  pub found_fault : (f : Fault) → IsFirstFaultIn d bytes f → Appends w v (fault_line f) → AppendsOf (IsRefusedText (dialect_of c) bytes) w v
  found_fault f h written = (fault_line f, fault_text f h, written)

  pub found_fault_part : (f : Fault) (before now : List Seen) → IsFirstFaultIn d bytes f → AppendsPart w v (fault_line f) → AppendsPartOf (IsEither c bytes before now) w v
  found_fault_part f before now h written = (fault_line f, inr (fault_text f h), written)

-- a text of conditions is sound
sound_text : (d : Dialect) (bytes : List ℕ) (before now : List Seen) (text : List ℕ) → IsDoneText d bytes before now text → IsSoundText d bytes before now text
sound_text d bytes before now text h =
    let sound = accepted_in_are_sound d bytes h.deck h.r h.p h.paths h.accepted in
    record {
      deck = h.deck;
      r = h.r;
      p = h.p;
      paths = h.paths;
      marks = h.marks;
      accepted = h.accepted;
      spelled = h.is;
      exact = sound.0;
      correct = sound.1;
      marked = h.marked;
      readable = conditions_in_are_readable d bytes h.deck h.r h.p h.paths h.accepted h.marks h.marked.may_stand;
      alike = λ es cs others readable spells. text_tells_conditions d bytes h.deck h.r h.p h.paths h.accepted h.marks h.marked.may_stand es cs others readable (sym h.is ∙ spells);
      enough = λ open_ones. sound.1 (unclosed_enough h.p.functions h.marks.letters (conditions_of h.p h.paths) h.marked.valid open_ones);
    }

-- ---- what is written for the bytes that are read is written for all bytes

module _ (front bytes : List ℕ) (e : front ≡ take most_read bytes) where
  refused_text : (d : Dialect) (text : List ℕ) → IsRefusedText d front text → IsRefusedText d bytes text
  refused_text d text h = record { fault = h.fault; first = fault_of_front d front bytes h.fault e h.first; is = h.is }

  module _ (before now : List Seen) where
    reply_text : (c : Command) (text : List ℕ) → IsReply c front before now text → IsReply c bytes before now text
    reply_text (OfDeck Vc d) text h = record {
      deck = h.deck;
      r = h.r;
      p = h.p;
      paths = h.paths;
      marks = h.marks;
      accepted = accepted_of_front d front bytes h.deck h.r h.p h.paths e h.accepted;
      marked = h.marked;
      is = h.is;
    }
    reply_text (OfDeck Check d) text h = record { deck = h.deck; r = h.r; p = h.p; paths = h.paths; accepted = accepted_of_front d front bytes h.deck h.r h.p h.paths e h.accepted; is = h.is }
    reply_text (OfDeck Run d) text h = record { deck = h.deck; r = h.r; p = h.p; paths = h.paths; accepted = accepted_of_front d front bytes h.deck h.r h.p h.paths e h.accepted; is = h.is }
    reply_text (OfDeck Try d) text h = record { deck = h.deck; r = h.r; p = h.p; paths = h.paths; accepted = accepted_of_front d front bytes h.deck h.r h.p h.paths e h.accepted; is = h.is }
    reply_text (Made n) text h = record {
      deck = h.deck;
      r = h.r;
      p = h.p;
      paths = h.paths;
      marks = h.marks;
      accepted = accepted_of_front (dialect_of (Made n)) front bytes h.deck h.r h.p h.paths e h.accepted;
      marked = h.marked;
      is = h.is;
    }

    either_text : (c : Command) (text : List ℕ) → IsEither c front before now text → IsEither c bytes before now text
    either_text c text (inl h) = inl (reply_text c text h)
    either_text c text (inr h) = inr (refused_text (dialect_of c) text h)

    pub front_reply : (c : Command) (w v : Option (List ℕ)) → AppendsOf (IsReply c front before now) w v → AppendsOf (IsReply c bytes before now) w v
    front_reply c w v h = (h.0, reply_text c h.0 h.1, h.2)

    pub front_part : (c : Command) (w v : Option (List ℕ)) → AppendsPartOf (IsEither c front before now) w v → AppendsPartOf (IsEither c bytes before now) w v
    front_part c w v h = (h.0, either_text c h.0 h.1, h.2)

  pub front_refused : (d : Dialect) (w v : Option (List ℕ)) → AppendsOf (IsRefusedText d front) w v → AppendsOf (IsRefusedText d bytes) w v
  front_refused d w v h = (h.0, refused_text d h.0 h.1, h.2)

pub sound_for : (d : Dialect) (bytes : List ℕ) (before now : List Seen) (w v : Option (List ℕ)) → AppendsOf (IsDoneText d bytes before now) w v → AppendsOf (IsSoundText d bytes before now) w v
sound_for d bytes before now w v h = (h.0, sound_text d bytes before now h.0 h.1, h.2)

-- ---- a call

-- the words ask for one thing
pub asked_is : (o p : Option Command) (a x : Command) → o ≡ Some a → o ≡ p → p ≡ Some x → a ≡ x
asked_is o p a x first same second = cc (first, same, second)

module _ (a x : Command) (same : a ≡ x) (bytes : List ℕ) (left : Option (List ℕ)) where
  -- the deck that is read
  module _ (t : Task) (d : Dialect) (is : a ≡ OfDeck t d) (h : IsDeckOf x left bytes) where
    pub told_deck : left ≡ Some bytes
    told_deck = subst (λ (c : Command). IsDeckOf c left bytes) (sym same ∙ is) h

    pub taken_deck : (rest : Option (List ℕ)) → rest ≡ Some (drop most_read bytes) → IsTakenOf x bytes rest
    taken_deck rest e = subst (λ (c : Command). IsTakenOf c bytes rest) (sym is ∙ same) e

    pub read_well : (m n : ℕ) → IsReadWell x m n → ¬ Rose m n
    read_well m n well = subst (λ (c : Command). IsReadWell c m n) (sym same ∙ is) well

  -- the made deck of a number
  module _ (n : ℕ) (is : a ≡ Made n) (h : IsDeckOf x left bytes) where
    pub made_given : (bytes ≡ made_deck n) × IsMadeNumber n
    made_given = subst (λ (c : Command). IsDeckOf c left bytes) (sym same ∙ is) h

    pub taken_made : (rest : Option (List ℕ)) → IsTakenOf x bytes rest
    taken_made rest = subst (λ (c : Command). IsTakenOf c bytes rest) (sym is ∙ same) tt

-- what is written of the deck that is read
module _ (a x : Command) (same : a ≡ x) (bytes : List ℕ) (w v : Option (List ℕ)) where
  pub reply_of : (before now : List Seen) → AppendsOf (IsReply a bytes before now) w v → AppendsOf (IsReply x bytes before now) w v
  reply_of before now h = subst (λ (c : Command). AppendsOf (IsReply c bytes before now) w v) same h

  pub refused_of : AppendsOf (IsRefusedText (dialect_of a) bytes) w v → AppendsOf (IsRefusedText (dialect_of x) bytes) w v
  refused_of h = subst (λ (c : Command). AppendsOf (IsRefusedText (dialect_of c) bytes) w v) same h

  pub part_of : (before now : List Seen) → AppendsPartOf (IsEither a bytes before now) w v → AppendsPartOf (IsEither x bytes before now) w v
  part_of before now h = subst (λ (c : Command). AppendsPartOf (IsEither c bytes before now) w v) same h

-- what is written of the made deck of a number
module _ (n : ℕ) (x : Command) (same : Made n ≡ x) (bytes : List ℕ) (is : bytes ≡ made_deck n) (w v : Option (List ℕ)) where
  pub reply_made : (before now : List Seen) → AppendsOf (IsReply (Made n) (made_deck n) before now) w v → AppendsOf (IsReply x bytes before now) w v
  reply_made before now h = reply_of (Made n) x same bytes w v before now (subst (λ (b : List ℕ). AppendsOf (IsReply (Made n) b before now) w v) (sym is) h)

  pub refused_made : AppendsOf (IsRefusedText (dialect_of (Made n)) (made_deck n)) w v → AppendsOf (IsRefusedText (dialect_of x) bytes) w v
  refused_made h = refused_of (Made n) x same bytes w v (subst (λ (b : List ℕ). AppendsOf (IsRefusedText (dialect_of (Made n)) b) w v) (sym is) h)

  pub part_made : (before now : List Seen) → AppendsPartOf (IsEither (Made n) (made_deck n) before now) w v → AppendsPartOf (IsEither x bytes before now) w v
  part_made before now h = part_of (Made n) x same bytes w v before now (subst (λ (b : List ℕ). AppendsPartOf (IsEither (Made n) b before now) w v) (sym is) h)

-- a made deck is none that is read
pub no_deck_made : (a : Command) (t : Task) (d : Dialect) (n : ℕ) → a ≡ OfDeck t d → a ≡ Made n → ⊥
no_deck_made a t d n e f = let no : ◌≡◌ {A = Command} (OfDeck t d) (Made n) = sym e ∙ f in absurd cc

-- it has one number
pub one_number : (a : Command) (m n : ℕ) → a ≡ Made m → a ≡ Made n → m ≡ n
one_number a m n e f = let same : ◌≡◌ {A = Command} (Made m) (Made n) = sym e ∙ f in cc

-- bytes that are accepted are not refused
pub never_refused : (d : Dialect) (bytes : List ℕ) (deck : Deck) (r : Remarks) (p : Program) (paths : List (List Path)) (w v : Option (List ℕ)) → IsAcceptedIn d bytes deck r p paths
    → ¬ AppendsOf (IsRefusedText d bytes) w v
never_refused d bytes deck r p paths w v is h = let text = h.1 in accepted_in_have_no_fault d bytes deck r p paths text.fault is text.first

fault_and_reply : (c : Command) (bytes : List ℕ) (f : Fault) (before now : List Seen) (text : List ℕ) → IsFirstFaultIn (dialect_of c) bytes f → ¬ IsReply c bytes before now text
fault_and_reply (OfDeck Vc d) bytes f before now text is h = accepted_in_have_no_fault d bytes h.deck h.r h.p h.paths f h.accepted is
fault_and_reply (OfDeck Check d) bytes f before now text is h = accepted_in_have_no_fault d bytes h.deck h.r h.p h.paths f h.accepted is
fault_and_reply (OfDeck Run d) bytes f before now text is h = accepted_in_have_no_fault d bytes h.deck h.r h.p h.paths f h.accepted is
fault_and_reply (OfDeck Try d) bytes f before now text is h = accepted_in_have_no_fault d bytes h.deck h.r h.p h.paths f h.accepted is
fault_and_reply (Made n) bytes f before now text is h = accepted_in_have_no_fault (dialect_of (Made n)) bytes h.deck h.r h.p h.paths f h.accepted is

-- bytes with a fault are not done
pub never_done : (c : Command) (bytes : List ℕ) (f : Fault) (before now : List Seen) (w v : Option (List ℕ)) → IsFirstFaultIn (dialect_of c) bytes f → ¬ AppendsOf (IsReply c bytes before now) w v
never_done c bytes f before now w v is h = fault_and_reply c bytes f before now h.0 is h.1

abbrev IsAnswer : Status → Type 0
IsAnswer s = (s ≡ Done) ⊎ ((s ≡ Refused) ⊎ ((s ≡ WriteFault) ⊎ (s ≡ Starved)))

pub done_or_starved : (s : Status) → IsAnswer s → ¬ (s ≡ Refused) → ¬ (s ≡ WriteFault) → (s ≡ Done) ⊎ (s ≡ Starved)
done_or_starved s (inl done) refused failed = inl done
done_or_starved s (inr (inl is)) refused failed = absurd (refused is)
done_or_starved s (inr (inr (inl is))) refused failed = absurd (failed is)
done_or_starved s (inr (inr (inr starved))) refused failed = inr starved

pub refused_or_starved : (s : Status) → IsAnswer s → ¬ (s ≡ Done) → ¬ (s ≡ WriteFault) → (s ≡ Refused) ⊎ (s ≡ Starved)
refused_or_starved s (inl is) done failed = absurd (done is)
refused_or_starved s (inr (inl refused)) done failed = inl refused
refused_or_starved s (inr (inr (inl is))) done failed = absurd (failed is)
refused_or_starved s (inr (inr (inr starved))) done failed = inr starved

-- a source that is read may fail too
pub no_read_fault : (s : Status) → (s ≡ ReadFault) ⊎ IsAnswer s → ¬ (s ≡ ReadFault) → IsAnswer s
no_read_fault s (inl is) never = absurd (never is)
no_read_fault s (inr h) never = h

-- a deck that is judged in the dialect of a command can be run in it
pub command_can_run : (c : Command) (d : Dialect) (bytes : List ℕ) (j : Judged) → d ≡ dialect_of c → IsJudgedIn d bytes j → CanRun (dialect_of c) j.deck.units j.order
command_can_run c d bytes j same h = subst (λ (e : Dialect). CanRun e j.deck.units j.order) same (can_run d bytes j h)
