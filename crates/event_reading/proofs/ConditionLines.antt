-- The line of a condition: what is read stands there, and what stands there is read.
use Rattle.std.proofs.Common.{◌≡◌, ℕ, zero, suc, ◌<◌, ◌≤◌, true, Option, Some, None, List, [], ◌∷◌, ◌++◌, length, codes, refl, sym, ap, ◌∙◌, subst, arith, append_assoc, append-nil}
use Rattle.std.proofs.lemmas.Bool.Decides.{nat_tests}
use Rattle.std.specs.Fmt.{decimal}
use Rattle.std.specs.List.{All}
use Rattle.std.specs.Prelude.{nat_lt}
use Rattle.formula.specs.declared.definition.Heading.{Heading}
use Rattle.formula.specs.declared.function.BuiltIn.TheVariants.{And, Implies}
use Rattle.formula.specs.declared.function.Func.TheVariants.{BuiltIn}
use Rattle.formula.specs.declared.head.Head.{Head}
use Rattle.formula.specs.Atoms.{is_letter, is_name, is_symbol}
use Rattle.formula.specs.Headings.{is_headed}
use Rattle.formula.specs.ReadableTerms.{is_short, IsReadableTerm}
use Rattle.formula.specs.Reading.{head_named}
use Rattle.formula.specs.TermTests.{row_functions_pass, row_names_pass, row_numbers_pass, row_uses_pass}
use Rattle.formula.specs.TermTests as tests
use Rattle.formula.specs.Tree.{Tree, apply, none, more, row_count, takes, tree_row}
use Rattle.fort_syntax.specs.declared.condition.Kind.{Kind}
use Rattle.fort_syntax.specs.Conditions.{ConditionTree, kind_word}
use Rattle.event_text.specs.EventText.{asked_line, condition_line, lemma_name, note_text}
use Rattle.event_text.specs.Readable.{is_mark, IsAsked, IsReadableCondition}
use Rattle.event_text.specs.TermText.{row_text, term_text}
use Rattle.event_text.proofs.OneCondition.{condition_term}
use Rattle.event_text.proofs.SpelledTerms.{IsTold, IsToldRow}
use Rattle.event_text.proofs.Splits.{right_eight, right_five}
use Rattle.event_text.proofs.Tests.{all_first, all_rest, first_of_both, second_of_both}
use Rattle.event_text.proofs.Told.{Reads, knows, readable_told}
use Rattle.event_reading.specs.Lines.{asked_at, call_of, condition_at, implication, implication_at, implied_by, lemma_name_at, note_at, parts_of, row_trees, with_goal}
use Rattle.event_reading.specs.Names.{heading_names}
use Rattle.event_reading.specs.Readings.{after, byte_at, kind_at, name_at, number_at, term_at}
use Rattle.event_reading.proofs.Afters.{after_some}
use Rattle.event_reading.proofs.Parts.{call_is}
use Rattle.event_reading.proofs.Steps.{byte_read, byte_some, kind_read, kind_some, name_read, name_some, number_read, number_some, same_pair, step, term_read, term_some}

-- ---- the implication

some_pair : {A B : Type 0} (a c : A) (b d : B) → ◌≡◌ {A = Option (A × B)} (Some (a, b)) (Some (c, d)) → (a ≡ c) × (b ≡ d)
some_pair {A} {B} a c b d e = let p = unwrapped (a, b) (c, d) e in (ap (λ (x : A × B). x.0) p, ap (λ (x : A × B). x.1) p)
  where
    unwrapped : (x y : A × B) → Some x ≡ Some y → x ≡ y
    unwrapped x y f = cc

pub implication_is : (u : Tree) (hyps : List Tree) (goal : Tree) → implication u ≡ Some (hyps, goal) → u ≡ apply (BuiltIn Implies) (more (apply (BuiltIn And) (tree_row hyps)) (more goal none))
implication_is u hyps goal e = by (call_of Implies u) refl e
  where
    inner : (a b : Tree) (o : Option (List Tree)) → call_of And a ≡ o → call_of Implies u ≡ Some (a ∷ b ∷ []) → with_goal b o ≡ Some (hyps, goal)
        → u ≡ apply (BuiltIn Implies) (more (apply (BuiltIn And) (tree_row hyps)) (more goal none))
    inner a b None p q f = absurd cc
    inner a b (Some ts) p q f =
        let two = some_pair ts hyps b goal f in
        let all : a ≡ apply (BuiltIn And) (tree_row hyps) = call_is And a ts p ∙ ap (λ l. apply (BuiltIn And) (tree_row l)) two.0 in
        call_is Implies u (a ∷ b ∷ []) q ∙ (λ i. apply (BuiltIn Implies) (more (all i) (more (two.1 i) none)))

    by : (o : Option (List Tree)) → call_of Implies u ≡ o → implied_by o ≡ Some (hyps, goal) → u ≡ apply (BuiltIn Implies) (more (apply (BuiltIn And) (tree_row hyps)) (more goal none))
    by None q f = absurd cc
    by (Some []) q f = absurd cc
    by (Some (a ∷ [])) q f = absurd cc
    by (Some (a ∷ b ∷ [])) q f = inner a b (call_of And a) refl q f
    by (Some (a ∷ b ∷ c ∷ rest)) q f = absurd cc

row_trees_again : (ts : List Tree) → row_trees (tree_row ts) ≡ ts
row_trees_again [] = refl
row_trees_again (t ∷ ts) = ap (λ l. t ∷ l) (row_trees_again ts)

pub implication_again : (hyps : List Tree) (goal : Tree) → implication (apply (BuiltIn Implies) (more (apply (BuiltIn And) (tree_row hyps)) (more goal none))) ≡ Some (hyps, goal)
implication_again hyps goal = ap (λ l. Some (l, goal)) (row_trees_again hyps)

all_more : {X : Type 0} (P : X → Type 0) (x : X) (xs : List X) → P x → All P xs → All P (x ∷ xs)
all_more P x xs p h zero d less = p
all_more P x xs p h (suc k) d less = h k d (omega arith)

rows_readable : (hs : List Heading) (ts : List Tree) → row_numbers_pass is_short (tree_row ts) ≡ true → row_names_pass is_symbol is_symbol (tree_row ts) ≡ true → row_functions_pass takes (tree_row ts) ≡ true
    → row_uses_pass (is_headed hs) (tree_row ts) ≡ true → All (IsReadableTerm hs) ts
rows_readable hs [] n s g u = λ k d less. absurd (omega arith)
rows_readable hs (t ∷ ts) n s g u =
    all_more (IsReadableTerm hs) t ts (record { numbers = first_of_both _ _ n; names = first_of_both _ _ s; functions = first_of_both _ _ g; uses = first_of_both _ _ u })
    (rows_readable hs ts (second_of_both (tests.numbers_pass is_short t) _ n) (second_of_both (tests.names_pass is_symbol is_symbol t) _ s) (second_of_both (tests.functions_pass takes t) _ g) (second_of_both (tests.uses_pass (is_headed hs) t) _ u))

some_there : (ts : List Tree) → nat_lt 0 (row_count (tree_row ts)) ≡ true → 0 < length ts
some_there [] h = absurd cc
some_there (t ∷ ts) h = omega arith

-- the parts of a readable implication
pub record PartsReadable (hs : List Heading) (hyps : List Tree) (goal : Tree) : Type 0 where
  pub some : 0 < length hyps
  pub all : All (IsReadableTerm hs) hyps
  pub end : IsReadableTerm hs goal

parts_readable : (hs : List Heading) (hyps : List Tree) (goal : Tree) → IsReadableTerm hs (apply (BuiltIn Implies) (more (apply (BuiltIn And) (tree_row hyps)) (more goal none))) → PartsReadable hs hyps goal
parts_readable hs hyps goal r =
    let all = apply (BuiltIn And) (tree_row hyps) in
    let g = second_of_both (takes (BuiltIn Implies) (more all (more goal none))) _ r.functions in
    let u = second_of_both true _ r.uses in
    let both = first_of_both (tests.functions_pass takes all) _ g in
    record {
      some = some_there hyps (first_of_both (takes (BuiltIn And) (tree_row hyps)) _ both);
      all = rows_readable hs hyps (first_of_both _ _ r.numbers) (first_of_both _ _ r.names) (second_of_both (takes (BuiltIn And) (tree_row hyps)) _ both) (second_of_both true _ (first_of_both (tests.uses_pass (is_headed hs) all) _ u));
      end = record {
        numbers = first_of_both _ _ (second_of_both (tests.numbers_pass is_short all) _ r.numbers);
        names = first_of_both _ _ (second_of_both (tests.names_pass is_symbol is_symbol all) _ r.names);
        functions = first_of_both _ _ (second_of_both (tests.functions_pass takes all) _ g);
        uses = first_of_both _ _ (second_of_both (tests.uses_pass (is_headed hs) all) _ u);
      };
    }

-- ---- told terms

row_told : (named : List ℕ → Option Head) (names : List (List ℕ)) (hs : List Heading) (r : Reads named names hs) (ts : List Tree) → All (IsReadableTerm hs) ts → IsToldRow named names (tree_row ts)
row_told named names hs r [] h = tt
row_told named names hs r (t ∷ ts) h = (readable_told named names hs r t (all_first (IsReadableTerm hs) t ts h), row_told named names hs r ts (all_rest (IsReadableTerm hs) t ts h))

row_some : (ts : List Tree) → 0 < length ts → nat_lt 0 (row_count (tree_row ts)) ≡ true
row_some [] h = absurd (omega arith)
row_some (t ∷ ts) h = grind (arith, nat_tests)

condition_told : (named : List ℕ → Option Head) (names : List (List ℕ)) (hs : List Heading) (r : Reads named names hs) (c : ConditionTree) → IsReadableCondition hs c → IsTold named names (condition_term c)
condition_told named names hs r c h =
    let hyps = knows named names hs r (BuiltIn And) (tree_row c.hyps) (row_some c.hyps h.some) refl in
    let all = knows named names hs r (BuiltIn Implies) (more (apply (BuiltIn And) (tree_row c.hyps)) (more c.goal none)) refl refl in
    (all, ((hyps, row_told named names hs r c.hyps h.hyps), (readable_told named names hs r c.goal h.goal, tt)))

-- the text of the implication
condition_text : (names : List (List ℕ)) (c : ConditionTree) (x : List ℕ)
    → codes "(IMPLIES (AND" ++ (row_text names (tree_row c.hyps) ++ (codes ") " ++ (term_text names c.goal ++ (codes ")" ++ x)))) ≡ term_text names (condition_term c) ++ x
condition_text names c x =
    let row = row_text names (tree_row c.hyps) in
    let goal = term_text names c.goal in
    let ends : codes " " ++ (goal ++ (codes ")" ++ x)) ≡ codes " " ++ (goal ++ []) ++ codes ")" ++ x =
    ap (λ l. codes " " ++ l) (sym (append_assoc goal (codes ")") x) ∙ ap (λ g. g ++ codes ")" ++ x) (sym (append-nil goal))) in
    ap (λ l. codes "(IMPLIES (AND" ++ l)
    (ap (λ l. row ++ (codes ")" ++ l)) ends ∙ sym (append_assoc row (codes ")") (codes " " ++ (goal ++ []) ++ codes ")" ++ x))
    ∙ sym (append_assoc (row ++ codes ")") (codes " " ++ (goal ++ []) ++ codes ")") x) ∙ ap (λ l. l ++ x) (sym (append_assoc (row ++ codes ")") (codes " " ++ (goal ++ [])) (codes ")"))))

-- a line, part by part
abbrev parts_text : List (List ℕ) → ConditionTree → ℕ → List ℕ → List ℕ
parts_text names c m x =
    codes "(PROVE-LEMMA " ++ (c.unit ++ (codes "-" ++ (decimal c.path ++ (codes "-" ++ (decimal c.check ++ (codes " NIL " ++ (term_text names (condition_term c)
    ++ (codes ") ; " ++ (kind_word c.kind ++ (codes " CARD " ++ (decimal c.card ++ (codes " " ++ (m ∷ codes "\n" ++ x)))))))))))))

line_parts : (names : List (List ℕ)) (c : ConditionTree) (m : ℕ) (x : List ℕ) → condition_line names c m ++ x ≡ parts_text names c m x
line_parts names c m x =
    let note = note_text c m ++ (codes "\n" ++ x) in
    let tail = codes " NIL (IMPLIES (AND" ++ (row_text names (tree_row c.hyps) ++ (codes ") " ++ (term_text names c.goal ++ (codes ")) ; " ++ note)))) in
    let split : condition_line names c m ++ x ≡ codes "(PROVE-LEMMA " ++ (lemma_name c ++ tail) =
    ap (λ l. codes "(PROVE-LEMMA " ++ l) (right_eight (lemma_name c) (codes " NIL (IMPLIES (AND") (row_text names (tree_row c.hyps)) (codes ") ") (term_text names c.goal) (codes ")) ; ") (note_text c m) (codes "\n") x) in
    let head : lemma_name c ++ tail ≡ c.unit ++ (codes "-" ++ (decimal c.path ++ (codes "-" ++ (decimal c.check ++ tail)))) = right_five c.unit (codes "-") (decimal c.path) (codes "-") (decimal c.check) tail in
    let end : note ≡ kind_word c.kind ++ (codes " CARD " ++ (decimal c.card ++ (codes " " ++ ((m ∷ []) ++ (codes "\n" ++ x))))) = right_five (kind_word c.kind) (codes " CARD ") (decimal c.card) (codes " ") (m ∷ []) (codes "\n" ++ x) in
    split ∙ ap (λ l. codes "(PROVE-LEMMA " ++ l)
    (head ∙ ap (λ l. c.unit ++ (codes "-" ++ (decimal c.path ++ (codes "-" ++ (decimal c.check ++ (codes " NIL " ++ l))))))
    (condition_text names c (codes ") ; " ++ note) ∙ ap (λ l. term_text names (condition_term c) ++ (codes ") ; " ++ l)) end))

-- ---- what stands there is read

name_part : (hs : List Heading) (c : ConditionTree) (x : List ℕ) → IsReadableCondition hs c
    → lemma_name_at (codes "(PROVE-LEMMA " ++ (c.unit ++ (codes "-" ++ (decimal c.path ++ (codes "-" ++ (decimal c.check ++ (codes " NIL " ++ x))))))) ≡ Some ((c.unit, c.path, c.check), codes " NIL " ++ x)
unfolding lemma_name_at
name_part hs c x good =
    let third = decimal c.check ++ (codes " NIL " ++ x) in
    let second = decimal c.path ++ (codes "-" ++ third) in
    rw (
      name_read c.unit (codes "-" ++ second) good.unit refl,
      number_read 4294967295 c.path (codes "-" ++ third) (omega (arith, good.path)) (omega (arith, good.path)) refl,
      number_read 4294967295 c.check (codes " NIL " ++ x) (omega (arith, good.check)) (omega (arith, good.check)) refl,
    ) refl

note_part : (hs : List Heading) (c : ConditionTree) (m : ℕ) (x : List ℕ) → IsReadableCondition hs c → is_mark m ≡ true
    → note_at (kind_word c.kind ++ (codes " CARD " ++ (decimal c.card ++ (codes " " ++ (m ∷ codes "\n" ++ x))))) ≡ Some ((c.kind, c.card, m), x)
unfolding note_at
note_part hs c m x good mark =
    let second = m ∷ codes "\n" ++ x in
    let first = decimal c.card ++ (codes " " ++ second) in
    rw (
      kind_read c.kind (codes " CARD " ++ first) refl,
      number_read 4294967295 c.card (codes " " ++ second) (omega (arith, good.card)) (omega (arith, good.card)) refl,
      byte_read is_mark m (codes "\n" ++ x) mark,
    ) refl

implied : (hs : List Heading) (r : Reads (head_named hs None) (heading_names hs) hs) (c : ConditionTree) (x : List ℕ) → IsReadableCondition hs c
    → implication_at hs (term_text (heading_names hs) (condition_term c) ++ (codes ") ; " ++ x)) ≡ Some ((c.hyps, c.goal), codes ") ; " ++ x)
unfolding implication_at
implied hs r c x good =
    rw (
      term_read (heading_names hs) hs None (condition_term c) (codes ") ; " ++ x) (condition_told (head_named hs None) (heading_names hs) hs r c good) refl,
      row_trees_again c.hyps,
    ) refl

pub condition_read : (hs : List Heading) (r : Reads (head_named hs None) (heading_names hs) hs) (c : ConditionTree) (m : ℕ) (x : List ℕ) → IsReadableCondition hs c → is_mark m ≡ true
    → condition_at hs (condition_line (heading_names hs) c m ++ x) ≡ Some ((c, m), x)
unfolding condition_at
condition_read hs r c m x good mark =
    let names = heading_names hs in
    let note = kind_word c.kind ++ (codes " CARD " ++ (decimal c.card ++ (codes " " ++ (m ∷ codes "\n" ++ x)))) in
    let term = term_text names (condition_term c) ++ (codes ") ; " ++ note) in
    ap (condition_at hs) (line_parts names c m x)
    ∙ rw (name_part hs c term good, implied hs r c note good, note_part hs c m x good mark) refl

-- ---- what is read stands there

pub record ConditionThere (hs : List Heading) (t : List ℕ) (c : ConditionTree) (m : ℕ) (r : List ℕ) : Type 0 where
  pub readable : IsReadableCondition hs c
  pub mark : is_mark m ≡ true
  pub is : t ≡ condition_line (heading_names hs) c m ++ r

record NameThere (t unit : List ℕ) (path check : ℕ) (r : List ℕ) : Type 0 where
  pub unit_is : is_name unit ≡ true
  pub path_few : path ≤ 4294967295
  pub check_few : check ≤ 4294967295
  pub is : t ≡ codes "(PROVE-LEMMA " ++ (unit ++ (codes "-" ++ (decimal path ++ (codes "-" ++ (decimal check ++ r)))))

name_there : (t : List ℕ) (z : List ℕ × ℕ × ℕ) (r : List ℕ) → lemma_name_at t ≡ Some (z, r) → NameThere t z.0 z.1 z.2 r
unfolding lemma_name_at
name_there t z r e =
    let a = step (after (codes "(PROVE-LEMMA ") t) _ _ e in
    let b = step (name_at a.here) _ _ a.later in
    let c = step (after (codes "-") b.here.1) _ _ b.later in
    let d = step (number_at 4294967295 c.here) _ _ c.later in
    let f = step (after (codes "-") d.here.1) _ _ d.later in
    let g = step (number_at 4294967295 f.here) _ _ f.later in
    let two = same_pair (b.here.0, d.here.0, g.here.0) z g.here.1 r g.later in
    let n = name_some a.here b.here.0 b.here.1 b.first in
    let p = number_some 4294967295 d.here.0 c.here d.here.1 d.first in
    let q = number_some 4294967295 g.here.0 f.here g.here.1 g.first in
    let there : NameThere t b.here.0 d.here.0 g.here.0 g.here.1 = record {
      unit_is = n.good;
      path_few = p.few;
      check_few = q.few;
      is = after_some (codes "(PROVE-LEMMA ") t a.here a.first
          ∙ ap (λ l. codes "(PROVE-LEMMA " ++ l) (n.is ∙ ap (λ l. b.here.0 ++ l) (after_some (codes "-") b.here.1 c.here c.first
          ∙ ap (λ l. codes "-" ++ l) (p.is ∙ ap (λ l. decimal d.here.0 ++ l) (after_some (codes "-") d.here.1 f.here f.first ∙ ap (λ l. codes "-" ++ l) q.is))));
    } in
    subst (λ x. NameThere t z.0 z.1 z.2 x) two.1 (subst (λ (x : List ℕ × ℕ × ℕ). NameThere t x.0 x.1 x.2 g.here.1) two.0 there)

record NoteThere (t : List ℕ) (kind : Kind) (card mark : ℕ) (r : List ℕ) : Type 0 where
  pub card_few : card ≤ 4294967295
  pub mark_is : is_mark mark ≡ true
  pub is : t ≡ kind_word kind ++ (codes " CARD " ++ (decimal card ++ (codes " " ++ (mark ∷ codes "\n" ++ r))))

note_there : (t : List ℕ) (z : Kind × ℕ × ℕ) (r : List ℕ) → note_at t ≡ Some (z, r) → NoteThere t z.0 z.1 z.2 r
unfolding note_at
note_there t z r e =
    let a = step (kind_at t) _ _ e in
    let b = step (after (codes " CARD ") a.here.1) _ _ a.later in
    let c = step (number_at 4294967295 b.here) _ _ b.later in
    let d = step (after (codes " ") c.here.1) _ _ c.later in
    let f = step (byte_at is_mark d.here) _ _ d.later in
    let g = step (after (codes "\n") f.here.1) _ _ f.later in
    let two = same_pair (a.here.0, c.here.0, f.here.0) z g.here r g.later in
    let p = number_some 4294967295 c.here.0 b.here c.here.1 c.first in
    let m = byte_some is_mark d.here f.here.0 f.here.1 f.first in
    let there : NoteThere t a.here.0 c.here.0 f.here.0 g.here = record {
      card_few = p.few;
      mark_is = m.good;
      is = kind_some t a.here.0 a.here.1 a.first
          ∙ ap (λ l. kind_word a.here.0 ++ l) (after_some (codes " CARD ") a.here.1 b.here b.first
          ∙ ap (λ l. codes " CARD " ++ l) (p.is ∙ ap (λ l. decimal c.here.0 ++ l) (after_some (codes " ") c.here.1 d.here d.first
          ∙ ap (λ l. codes " " ++ l) (m.is ∙ ap (λ l. f.here.0 ∷ l) (after_some (codes "\n") f.here.1 g.here g.first)))));
    } in
    subst (λ x. NoteThere t z.0 z.1 z.2 x) two.1 (subst (λ (x : Kind × ℕ × ℕ). NoteThere t x.0 x.1 x.2 g.here) two.0 there)

record ImplicationThere (hs : List Heading) (t : List ℕ) (hyps : List Tree) (goal : Tree) (r : List ℕ) : Type 0 where
  pub readable : PartsReadable hs hyps goal
  pub is : t ≡ term_text (heading_names hs) (apply (BuiltIn Implies) (more (apply (BuiltIn And) (tree_row hyps)) (more goal none))) ++ r

parts_some : (o : Option (List Tree × Tree)) (s : List ℕ) (z : List Tree × Tree) (r : List ℕ) → parts_of o s ≡ Some (z, r) → (o ≡ Some z) × (s ≡ r)
parts_some None s z r e = absurd cc
parts_some (Some p) s z r e = let two = same_pair p z s r e in (ap (λ x. Some x) two.0, two.1)

implication_there : (hs : List Heading) (t : List ℕ) (z : List Tree × Tree) (r : List ℕ) → implication_at hs t ≡ Some (z, r) → ImplicationThere hs t z.0 z.1 r
unfolding implication_at
implication_there hs t z r e =
    let names = heading_names hs in
    let a = step (term_at names hs None t) _ _ e in
    let p = parts_some (implication a.here.0) a.here.1 z r a.later in
    let x = term_some names hs None t a.here.0 a.here.1 a.first in
    let is = implication_is a.here.0 z.0 z.1 p.0 in
    record {
      readable = parts_readable hs z.0 z.1 (subst (IsReadableTerm hs) is x.readable);
      is = x.is ∙ (λ i. term_text names (is i) ++ p.1 i);
    }

together : (hs : List Heading) (t t1 t2 : List ℕ) (name : List ℕ × ℕ × ℕ) (parts : List Tree × Tree) (note : Kind × ℕ × ℕ) (r : List ℕ)
    → NameThere t name.0 name.1 name.2 (codes " NIL " ++ t1) → ImplicationThere hs t1 parts.0 parts.1 (codes ") ; " ++ t2) → NoteThere t2 note.0 note.1 note.2 r
    → ConditionThere hs t (record { unit = name.0; path = name.1; check = name.2; kind = note.0; card = note.1; hyps = parts.0; goal = parts.1 }) note.2 r
together hs t t1 t2 name parts note r n p q =
    let names = heading_names hs in
    let c : ConditionTree = record { unit = name.0; path = name.1; check = name.2; kind = note.0; card = note.1; hyps = parts.0; goal = parts.1 } in
    record {
      readable = record {
        unit = n.unit_is;
        path = omega (arith, n.path_few);
        check = omega (arith, n.check_few);
        card = omega (arith, q.card_few);
        some = p.readable.some;
        hyps = p.readable.all;
        goal = p.readable.end;
      };
      mark = q.mark_is;
      is = n.is ∙ ap (λ l. codes "(PROVE-LEMMA " ++ (name.0 ++ (codes "-" ++ (decimal name.1 ++ (codes "-" ++ (decimal name.2 ++ (codes " NIL " ++ l)))))))
          (p.is ∙ ap (λ l. term_text names (condition_term c) ++ (codes ") ; " ++ l)) q.is) ∙ sym (line_parts names c note.2 r);
    }

pub condition_some : (hs : List Heading) (t : List ℕ) (z : ConditionTree × ℕ) (r : List ℕ) → condition_at hs t ≡ Some (z, r) → ConditionThere hs t z.0 z.1 r
unfolding condition_at
condition_some hs t z r e =
    let a = step (lemma_name_at t) _ _ e in
    let b = step (after (codes " NIL ") a.here.1) _ _ a.later in
    let c = step (implication_at hs b.here) _ _ b.later in
    let d = step (after (codes ") ; ") c.here.1) _ _ c.later in
    let f = step (note_at d.here) _ _ d.later in
    let two = same_pair _ z f.here.1 r f.later in
    let n = subst (NameThere t a.here.0.0 a.here.0.1 a.here.0.2) (after_some (codes " NIL ") a.here.1 b.here b.first) (name_there t a.here.0 a.here.1 a.first) in
    let p = subst (ImplicationThere hs b.here c.here.0.0 c.here.0.1) (after_some (codes ") ; ") c.here.1 d.here d.first) (implication_there hs b.here c.here.0 c.here.1 c.first) in
    let all = together hs t b.here d.here a.here.0 c.here.0 f.here.0 f.here.1 n p (note_there d.here f.here.0 f.here.1 f.first) in
    subst (λ x. ConditionThere hs t z.0 z.1 x) two.1 (subst (λ (x : ConditionTree × ℕ). ConditionThere hs t x.0 x.1 f.here.1) two.0 all)

-- ---- provers

asked_parts : (a : ℕ × ℕ) (x : List ℕ) → asked_line a ++ x ≡ codes "; ASKED " ++ (a.0 ∷ (codes " " ++ (decimal a.1 ++ (codes "\n" ++ x))))
asked_parts a x = ap (λ l. codes "; ASKED " ++ (a.0 ∷ (codes " " ++ l))) (append_assoc (decimal a.1) (codes "\n") x)

pub asked_read : (a : ℕ × ℕ) (x : List ℕ) → IsAsked a → asked_at (asked_line a ++ x) ≡ Some (a, x)
unfolding asked_at
asked_read a x good =
    let second = decimal a.1 ++ (codes "\n" ++ x) in
    let first = a.0 ∷ (codes " " ++ second) in
    ap asked_at (asked_parts a x)
    ∙ rw (
      byte_read is_letter a.0 (codes " " ++ second) good.0,
      number_read 18446744073709551615 a.1 (codes "\n" ++ x) (omega (arith, good.1)) good.1 refl,
    ) refl

pub record AskedThere (t : List ℕ) (a : ℕ × ℕ) (r : List ℕ) : Type 0 where
  pub good : IsAsked a
  pub is : t ≡ asked_line a ++ r

pub asked_some : (t : List ℕ) (z : ℕ × ℕ) (r : List ℕ) → asked_at t ≡ Some (z, r) → AskedThere t z r
unfolding asked_at
asked_some t z r e =
    let a = step (after (codes "; ASKED ") t) _ _ e in
    let b = step (byte_at is_letter a.here) _ _ a.later in
    let c = step (after (codes " ") b.here.1) _ _ b.later in
    let d = step (number_at 18446744073709551615 c.here) _ _ c.later in
    let f = step (after (codes "\n") d.here.1) _ _ d.later in
    let two = same_pair (b.here.0, d.here.0) z f.here r f.later in
    let l = byte_some is_letter a.here b.here.0 b.here.1 b.first in
    let n = number_some 18446744073709551615 d.here.0 c.here d.here.1 d.first in
    let there : AskedThere t (b.here.0, d.here.0) f.here = record {
      good = (l.good, omega (arith, n.few));
      is = after_some (codes "; ASKED ") t a.here a.first
          ∙ ap (λ y. codes "; ASKED " ++ y) (l.is ∙ ap (λ y. b.here.0 ∷ y) (after_some (codes " ") b.here.1 c.here c.first
          ∙ ap (λ y. codes " " ++ y) (n.is ∙ ap (λ y. decimal d.here.0 ++ y) (after_some (codes "\n") d.here.1 f.here f.first))))
          ∙ sym (asked_parts (b.here.0, d.here.0) f.here);
    } in
    subst (λ x. AskedThere t z x) two.1 (subst (λ x. AskedThere t x f.here) two.0 there)
