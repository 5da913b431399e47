-- A text that was read as far as lines can be read: it is a list's text, or that of none, and then the lines that were read are the longest.
use Rattle.std.proofs.Common.{◌≡◌, ◌⊎◌, inl, inr, ℕ, ◌+◌, ◌-◌, ◌≤◌, ◌<◌, ◌^◌, true, false, None, List, [], ◌∷◌, ◌++◌, length, map, take, drop, codes, refl, sym, ap, ◌∙◌, subst, arith, append_assoc, append-nil, length-append}
use Rattle.std.proofs.Math.Seq.{take-append_seam}
use Rattle.std.proofs.lemmas.Fmt.{decimal_nonempty, digits_decimal}
use Rattle.std.proofs.lemmas.List.{length-take, take-append-drop}
use Rattle.std.specs.Fmt.{decimal}
use Rattle.std.specs.List.{All, flat_map, list_all, zip}
use Rattle.std.specs.Prelude.{◌==◌}
use Rattle.formula.specs.declared.definition.Heading.{Heading}
use Rattle.formula.specs.Atoms.{is_digit}
use Rattle.formula.specs.Reading.{head_named}
use Rattle.formula.specs.Worth.{Function}
use Rattle.fort_syntax.specs.Conditions.{ConditionTree}
use Rattle.event_text.specs.declared.marks.Marks.{Marks}
use Rattle.event_text.specs.EventText.{asked_line, closing_line, definition_line, event_text, names_of}
use Rattle.event_text.specs.Readable.{headings_with, in_full, is_mark, IsAsked, IsReadable, IsReadableCondition}
use Rattle.event_text.proofs.FoundNames.{are_found}
use Rattle.event_text.proofs.OneDefinition.{own}
use Rattle.event_text.proofs.SpelledNumbers.{own as numerals}
use Rattle.event_text.proofs.Splits.{clash, head_same, one_front, one_length, tail_same}
use Rattle.event_text.proofs.Tests.{first_of_both}
use Rattle.event_text.proofs.Told.{AreFound, Reads, reads_heads}
use Rattle.event_reading.specs.Events.{IsLongestFront, IsNoText}
use Rattle.event_reading.specs.Fronts.{AreAsked, AreConditions, AreDefinitions}
use Rattle.event_reading.specs.Lines.{asked_at, condition_at, definition_at}
use Rattle.event_reading.specs.Names.{heading_names}
use Rattle.event_reading.proofs.NewNames.{new_all}
use Rattle.event_reading.proofs.Races.{Behind, marked, race_asked, race_conditions, race_definitions}

names_of_headings : (ds : List Function) → heading_names (headings_with ds) ≡ names_of ds
names_of_headings [] = refl
names_of_headings (d ∷ ds) = ap (λ l. d.name ∷ l) (names_of_headings ds)

names_in_full : (ds es : List Function) → map in_full ds ≡ map in_full es → (names_of ds ≡ names_of es) × (headings_with ds ≡ headings_with es)
names_in_full [] [] e = (refl, refl)
names_in_full [] (k ∷ es) e = absurd cc
names_in_full (d ∷ ds) [] e = absurd cc
names_in_full (d ∷ ds) (k ∷ es) e =
    let here : in_full d ≡ in_full k = head_same (in_full d) (in_full k) (map in_full ds) (map in_full es) e in
    let later = names_in_full ds es (tail_same (in_full d) (in_full k) (map in_full ds) (map in_full es) e) in
    ((λ i. (here i).name ∷ later.0 i), (λ i. own (here i) ∷ later.1 i))

-- the lines of a list, without the closing one
abbrev pub lines : List Function → List ConditionTree → Marks → List ℕ
lines ds cs marks =
    flat_map (definition_line (names_of ds)) ds ++ (flat_map (marked (names_of ds)) (zip cs marks.letters) ++ flat_map asked_line marks.asked)

pub text_is : (ds : List Function) (cs : List ConditionTree) (marks : Marks) → event_text ds cs marks ≡ lines ds cs marks ++ closing_line (length cs)
text_is ds cs marks =
    ap (λ l. l ++ closing_line (length cs)) (append_assoc (flat_map (definition_line (names_of ds)) ds) (flat_map (marked (names_of ds)) (zip cs marks.letters)) (flat_map asked_line marks.asked))

same_end : (xs ys end : List ℕ) → xs ++ end ≡ ys ++ end → xs ≡ ys
same_end xs ys end e =
    let long : length xs + length end ≡ length ys + length end = sym (length-append xs end) ∙ ap length e ∙ length-append ys end in
    (one_length xs ys end end (omega arith) e).0

-- a beginning of further lines
data Line : List ℕ → Type 0 where
  definition : (z : List ℕ) → Line (codes "(D" ++ z)
  condition : (z : List ℕ) → Line (codes "(P" ++ z)
  asked : (z : List ℕ) → Line (codes "; A" ++ z)

figures_first : (n : ℕ) (x z ds : List ℕ) → ds ≡ decimal n → list_all is_digit ds ≡ true → 0 < length ds → ds ++ x ≡ 65 ∷ z → ⊥
figures_first n x z [] d all some e = absurd (omega arith)
figures_first n x z (b ∷ ds) d all some e =
    let same : b ≡ 65 = head_same b 65 (ds ++ x) z e in
    let bad : true ≡ false = sym (first_of_both (is_digit b) (list_all is_digit ds) all) ∙ ap is_digit same in
    absurd cc

no_bracket : (x z : List ℕ) → 40 ∷ z ≡ 59 ∷ x → ⊥
no_bracket x z e = clash (λ b. b == 40) 40 z (59 ∷ x) refl (sym e) refl

no_letter : (x z : List ℕ) → 40 ∷ 80 ∷ x ≡ 40 ∷ 68 ∷ z → ⊥
no_letter x z e = clash (λ b. b == 68) 68 z (80 ∷ x) refl (tail_same 40 40 _ _ e) refl

no_start : (x later : List ℕ) (b : ℕ) → (b == 59) ≡ false → 59 ∷ x ≡ b ∷ later → ⊥
no_start x later b h e =
    let same : 59 ≡ b = head_same 59 b x later e in
    let bad : true ≡ false = ap (λ k. k == 59) same ∙ h in
    absurd cc

-- the closing line begins no other line
closing_no_line : (n : ℕ) (rest : List ℕ) → n < 2 ^ 64 → Line rest → rest ≡ closing_line n → ⊥
closing_no_line n _ h (definition z) e = no_bracket _ _ e
closing_no_line n _ h (condition z) e = no_bracket _ _ e
closing_no_line n _ h (asked z) e = figures_first n (codes " CONDITIONS\n") z (decimal n) refl (digits_decimal numerals n h) (decimal_nonempty n h) (one_front (codes "; ") _ _ (sym e))

module _ (ds : List Function) (cs : List ConditionTree) (ls : List ℕ) (qs : List (ℕ × ℕ)) (text x y z : List ℕ)
    (d : AreDefinitions text ds x) (d_none : definition_at (headings_with ds) x ≡ None)
    (c : AreConditions (headings_with ds) x cs ls y) (c_none : condition_at (headings_with ds) y ≡ None)
    (q : AreAsked y qs z) (q_none : asked_at z ≡ None) where
  hs : List Heading
  hs = headings_with ds

  -- what comes behind the lines of a list that can be read
  record Ends (count : ℕ) (rest : List ℕ) : Type 0 where
    pub same : rest ≡ z
    pub as_many : length cs ≡ count

  record Sooner (rest : List ℕ) : Type 0 where
    pub long : length z ≤ length rest
    pub line : Line rest

  abbrev reads : Reads (head_named (headings_with ds) None) (heading_names (headings_with ds)) (headings_with ds)
  reads = reads_heads (headings_with ds) None (heading_names (headings_with ds)) (headings_with ds)
      (subst (λ l. AreFound (head_named (headings_with ds) None) l (headings_with ds)) (append-nil (heading_names (headings_with ds))) (are_found (headings_with ds) [] (new_all [] ds tt d.readable)))

  z_y : length z ≤ length y
  z_y = let e : length y ≡ length (flat_map asked_line qs) + length z = ap length q.is ∙ length-append (flat_map asked_line qs) z in omega arith

  z_x : length z ≤ length x
  z_x = let e : length x ≡ length (flat_map (marked (heading_names (headings_with ds))) (zip cs ls)) + length y = ap length c.is ∙ length-append (flat_map (marked (heading_names (headings_with ds))) (zip cs ls)) y in
      let f = z_y in omega arith

  -- against the counts of provers of another list
  against_asked : (bs : List (ℕ × ℕ)) (count : ℕ) (rest : List ℕ) → All IsAsked bs → length cs ≡ count → y ≡ flat_map asked_line bs ++ rest → Ends count rest ⊎ Sooner rest
  against_asked bs count rest good same e = by (race_asked qs bs z rest q.asked good q_none (sym q.is ∙ e))
    where
      by : (z ≡ rest) ⊎ Behind (codes "; A") z rest → Ends count rest ⊎ Sooner rest
      by (inl s) = inl (record { same = sym s; as_many = same })
      by (inr b) = inr (record { long = b.long; line = subst Line (sym b.is) (asked b.later) })

  -- nothing of a list stands before the beginning of a line of another kind
  no_asked : (bs : List (ℕ × ℕ)) (rest later : List ℕ) (b : ℕ) → (b == 59) ≡ false → flat_map asked_line bs ++ rest ≡ b ∷ later → rest ≡ b ∷ later
  no_asked [] rest later b h e = e
  no_asked (a ∷ bs) rest later b h e =
      absurd (no_start _ later b h e)

  against_conditions : (bs : List ConditionTree) (ms : List ℕ) (os : List (ℕ × ℕ)) (rest : List ℕ) → All (IsReadableCondition (headings_with ds)) bs → length ms ≡ length bs → list_all is_mark ms ≡ true → All IsAsked os
      → x ≡ flat_map (marked (heading_names (headings_with ds))) (zip bs ms) ++ (flat_map asked_line os ++ rest) → Ends (length bs) rest ⊎ Sooner rest
  against_conditions bs ms os rest good same marks others e =
      by (race_conditions (headings_with ds) reads cs bs ls ms y (flat_map asked_line os ++ rest) c.count same c.readable good marks c_none (sym c.is ∙ e))
    where
      by : ((length cs ≡ length bs) × (y ≡ flat_map asked_line os ++ rest)) ⊎ Behind (codes "(P") y (flat_map asked_line os ++ rest) → Ends (length bs) rest ⊎ Sooner rest
      by (inl s) = against_asked os (length bs) rest others s.0 s.1
      by (inr b) =
          let end : rest ≡ codes "(P" ++ b.later = no_asked os rest (80 ∷ b.later) 40 refl b.is in
          let long : length (flat_map asked_line os ++ rest) ≡ length rest = ap length b.is ∙ ap length (sym end) in
          let f = z_y in
          let g = b.long in
          inr (record { long = omega arith; line = subst Line (sym end) (condition b.later) })

  no_conditions : (bs : List ConditionTree) (names : List (List ℕ)) (ms : List ℕ) (os : List (ℕ × ℕ)) (rest later : List ℕ)
      → flat_map (marked names) (zip bs ms) ++ (flat_map asked_line os ++ rest) ≡ codes "(D" ++ later → rest ≡ codes "(D" ++ later
  no_conditions [] names ms os rest later e = no_asked os rest (68 ∷ later) 40 refl e
  no_conditions (b ∷ bs) names [] os rest later e = no_asked os rest (68 ∷ later) 40 refl e
  no_conditions (b ∷ bs) names (m ∷ ms) os rest later e =
      absurd (no_letter _ later e)

  against : (es : List Function) (bs : List ConditionTree) (marks : Marks) (rest : List ℕ) → IsReadable es bs marks → text ≡ lines es bs marks ++ rest → Ends (length bs) rest ⊎ Sooner rest
  against es bs marks rest good e = by (race_definitions [] ds es x others tt d.readable good.definitions d_none (sym (start ds x (d.is [])) ∙ whole))
    where
      conditions : List ℕ
      conditions = flat_map (marked (names_of es)) (zip bs marks.letters)

      others : List ℕ
      others = flat_map (marked (names_of es)) (zip bs marks.letters) ++ (flat_map asked_line marks.asked ++ rest)

      start : (fs : List Function) (end : List ℕ) → text ≡ flat_map (definition_line (names_of fs ++ [])) fs ++ end → text ≡ flat_map (definition_line (names_of fs)) fs ++ end
      start fs end p = p ∙ ap (λ names. flat_map (definition_line names) fs ++ end) (append-nil (names_of fs))

      whole : text ≡ flat_map (definition_line (names_of es)) es ++ (flat_map (marked (names_of es)) (zip bs marks.letters) ++ (flat_map asked_line marks.asked ++ rest))
      whole = e ∙ append_assoc (flat_map (definition_line (names_of es)) es) (flat_map (marked (names_of es)) (zip bs marks.letters) ++ flat_map asked_line marks.asked) rest
          ∙ ap (λ l. flat_map (definition_line (names_of es)) es ++ l) (append_assoc (flat_map (marked (names_of es)) (zip bs marks.letters)) (flat_map asked_line marks.asked) rest)

      by : ((map in_full ds ≡ map in_full es) × (x ≡ flat_map (marked (names_of es)) (zip bs marks.letters) ++ (flat_map asked_line marks.asked ++ rest))) ⊎ Behind (codes "(D") x (flat_map (marked (names_of es)) (zip bs marks.letters) ++ (flat_map asked_line marks.asked ++ rest))
          → Ends (length bs) rest ⊎ Sooner rest
      by (inl s) =
          let same = names_in_full ds es s.0 in
          let names : names_of es ≡ heading_names (headings_with ds) = sym same.0 ∙ sym (names_of_headings ds) in
          against_conditions bs marks.letters marks.asked rest (subst (λ h. All (IsReadableCondition h) bs) (sym same.1) good.conditions) good.count good.letters good.asked
          (s.1 ∙ ap (λ n. flat_map (marked n) (zip bs marks.letters) ++ (flat_map asked_line marks.asked ++ rest)) names)
      by (inr b) =
          let end : rest ≡ codes "(D" ++ b.later = no_conditions bs (names_of es) marks.letters marks.asked rest b.later b.is in
          let long : length (flat_map (marked (names_of es)) (zip bs marks.letters) ++ (flat_map asked_line marks.asked ++ rest)) ≡ length rest = ap length b.is ∙ ap length (sym end) in
          let f = z_x in
          let g = b.long in
          inr (record { long = omega arith; line = subst Line (sym end) (definition b.later) })

  abbrev marks_read : Marks
  marks_read = record { letters = ls; asked = qs }

  readable : length cs < 2 ^ 64 → IsReadable ds cs marks_read
  readable few = record { definitions = d.readable; conditions = c.readable; few = few; count = c.count; letters = c.letters; asked = q.asked }

  text_front : text ≡ lines ds cs marks_read ++ z
  text_front =
      d.is [] ∙ ap (λ names. flat_map (definition_line names) ds ++ x) (append-nil (names_of ds))
      ∙ ap (λ l. flat_map (definition_line (names_of ds)) ds ++ l) (c.is ∙ ap (λ names. flat_map (marked names) (zip cs ls) ++ y) (names_of_headings ds) ∙ ap (λ l. flat_map (marked (names_of ds)) (zip cs ls) ++ l) q.is
      ∙ sym (append_assoc (flat_map (marked (names_of ds)) (zip cs ls)) (flat_map asked_line qs) z))
      ∙ sym (append_assoc (flat_map (definition_line (names_of ds)) ds) (flat_map (marked (names_of ds)) (zip cs ls) ++ flat_map asked_line qs) z)

  pub text_longer : length z ≤ length text
  text_longer = let e : length text ≡ length (lines ds cs marks_read) + length z = ap length text_front ∙ length-append (lines ds cs marks_read) z in omega arith

  -- the closing line stands behind all
  pub whole_text : closing_line (length cs) ≡ z → event_text ds cs (record { letters = ls; asked = qs }) ≡ text
  whole_text e = text_is ds cs marks_read ∙ ap (λ l. lines ds cs marks_read ++ l) e ∙ sym text_front

  pub whole_readable : length cs < 2 ^ 64 → IsReadable ds cs (record { letters = ls; asked = qs })
  whole_readable few = readable few

  -- something else stands there
  pub no_text : (closing_line (length cs) ≡ z → ⊥) → IsNoText text
  no_text other es bs marks good e = by (against es bs marks (closing_line (length bs)) good (e ∙ text_is es bs marks))
    where
      by : Ends (length bs) (closing_line (length bs)) ⊎ Sooner (closing_line (length bs)) → ⊥
      by (inl h) = other (ap closing_line h.as_many ∙ h.same)
      by (inr h) = closing_no_line (length bs) (closing_line (length bs)) good.few h.line refl

  pub longest_front : length cs < 2 ^ 64 → IsLongestFront text (length text - length z)
  longest_front few =
      let long : length text ≡ length (lines ds cs marks_read) + length z = ap length text_front ∙ length-append (lines ds cs marks_read) z in
      let place : length text - length z ≡ length (lines ds cs marks_read) = omega arith in
      let front : take (length text - length z) text ≡ lines ds cs marks_read = (λ i. take (place i) (text_front i)) ∙ take-append_seam (lines ds cs marks_read) z in
      record {
        within = omega arith;
        front = (ds, cs, marks_read, readable few, ap (λ l. l ++ closing_line (length cs)) front ∙ sym (text_is ds cs marks_read));
        longest = λ k le h.
            no_longer k le
            (against h.0 h.1 h.2 (drop k text) h.3
            (sym (take-append-drop k text) ∙ ap (λ l. l ++ drop k text) (same_end (take k text) (lines h.0 h.1 h.2) (closing_line (length h.1)) (h.4 ∙ text_is h.0 h.1 h.2))));
      }
    where
      left : (k : ℕ) → k ≤ length text → length z ≤ length (drop k text) → k ≤ length text - length z
      left k le h =
          let parts : length (take k text) + length (drop k text) ≡ length text = sym (length-append (take k text) (drop k text)) ∙ ap length (take-append-drop k text) in
          let front : length (take k text) ≡ k = simp length-take (omega arith) in
          omega arith

      no_longer : {n : ℕ} (k : ℕ) → k ≤ length text → Ends n (drop k text) ⊎ Sooner (drop k text) → k ≤ length text - length z
      no_longer k le (inl h) = left k le (let e : length (drop k text) ≡ length z = ap length h.same in omega arith)
      no_longer k le (inr h) = left k le h.long
