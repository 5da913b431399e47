-- What the four parts of a reading say together, over the pool that they leave.
use Rattle.std.proofs.Common.{[], ◌∷◌, ◌≡◌, ℕ, ◌-◌, ◌≤◌, ◌<◌, ◌^◌, true, false, None, List, length, map, sym, ap, ◌∙◌, subst}
use Rattle.std.proofs.lemmas.List.{length-map}
use Rattle.std.specs.Cmp.Lexicographic.{same_text}
use Rattle.std.specs.List.{All}
use Rattle.formula.specs.declared.definition.Definition.{Definition}
use Rattle.formula.specs.declared.node.Node.{Node}
use Rattle.formula.specs.Atoms.{same_bytes}
use Rattle.formula.specs.Adding.{AreBodiesIn}
use Rattle.formula.specs.Headings.{headings_of}
use Rattle.formula.specs.Pool.{Grows}
use Rattle.formula.specs.Worth.{Function, function_of}
use Rattle.formula.proofs.Added.{added_sound, added-Grows}
use Rattle.fort_syntax.specs.declared.condition.Condition.{Condition}
use Rattle.event_text.specs.declared.marks.Marks.{Marks}
use Rattle.event_text.specs.Conditions.{condition_tree, IsDefinitionIn}
use Rattle.event_text.specs.EventText.{closing_line, event_text}
use Rattle.event_text.specs.Readable.{headings_with, IsReadable}
use Rattle.event_reading.specs.Events.{IsLongestFront, IsNoText, IsRead}
use Rattle.event_reading.specs.Fronts.{AreConditions, IsCounting}
use Rattle.event_reading.specs.Lines.{condition_at, definition_at}
use Rattle.event_reading.specs.Reads.{ReadsAsked, ReadsConditions, ReadsDefinitions}
use Rattle.event_reading.proofs.Afters.{same_true}
use Rattle.event_reading.proofs.Growing.{all_more, all_none, functions_same, headings_same}
use Rattle.event_reading.proofs.Wholes.{longest_front, no_text, text_longer, whole_readable, whole_text}

bodies_inside : (pool : List Node) (ds : List Definition) → AreBodiesIn pool ds → All (IsDefinitionIn pool) ds
bodies_inside pool [] h = all_none (IsDefinitionIn pool)
bodies_inside pool (d ∷ ds) h = all_more (IsDefinitionIn pool) d ds h.0 (bodies_inside pool ds h.1)

-- `p` is the pool when the definitions were read, and `q` that in the end
module _ (p q : List Node) (ds : List Definition) (cs : List Condition) (ls : List ℕ) (qs : List (ℕ × ℕ)) (text x y z : List ℕ)
    (d : ReadsDefinitions p text ds x) (c : ReadsConditions q (headings_of ds) x cs ls y) (a : ReadsAsked y qs z) where
  abbrev fs : List Function
  fs = map (function_of p) ds

  no_definition : definition_at (headings_with (map (function_of p) ds)) x ≡ None
  no_definition = ap (λ hs. definition_at hs x) (headings_same p ds) ∙ d.none

  no_condition : condition_at (headings_with (map (function_of p) ds)) y ≡ None
  no_condition = ap (λ hs. condition_at hs y) (headings_same p ds) ∙ c.none

  conditions : AreConditions (headings_with (map (function_of p) ds)) x (map (condition_tree q) cs) ls y
  conditions = subst (λ hs. AreConditions hs x (map (condition_tree q) cs) ls y) (sym (headings_same p ds)) c.lines

  same_count : length (map (condition_tree q) cs) ≡ length cs
  same_count = length-map cs (condition_tree q)

  -- what is left is no longer than the text
  pub within : length z ≤ length text
  within = text_longer (map (function_of p) ds) (map (condition_tree q) cs) ls qs text x y z d.lines no_definition conditions no_condition a.lines a.none

  -- another line than the closing one stands behind all
  pub refused : length cs < 2 ^ 64 → same_bytes (closing_line (length cs)) z ≡ false → IsNoText text × IsLongestFront text (length text - length z)
  refused few other =
      let bad : closing_line (length (map (condition_tree q) cs)) ≡ z → ⊥ = λ e. (let same : true ≡ false = sym (same_true z) ∙ ap (λ l. same_bytes l z) (sym e ∙ ap closing_line same_count) ∙ other in absurd cc) in (
        no_text (map (function_of p) ds) (map (condition_tree q) cs) ls qs text x y z d.lines no_definition conditions no_condition a.lines a.none bad,
        longest_front (map (function_of p) ds) (map (condition_tree q) cs) ls qs text x y z d.lines no_definition conditions no_condition a.lines a.none (subst (λ n. n < 2 ^ 64) (sym same_count) few),
      )

  -- the closing line stands behind all
  pub accepted : Grows p q → length cs < 2 ^ 64 → same_bytes (closing_line (length cs)) z ≡ true → IsRead text q (record { definitions = ds; conditions = cs; marks = record { letters = ls; asked = qs } })
  accepted g few last =
      let fs_same : map (function_of q) ds ≡ map (function_of p) ds = functions_same p q ds g d.added in
      let closing : closing_line (length (map (condition_tree q) cs)) ≡ z = ap closing_line same_count ∙ same_text (closing_line (length cs)) z (sym last) in
      let marks : Marks = record { letters = ls; asked = qs } in
      let readable = whole_readable (map (function_of p) ds) (map (condition_tree q) cs) ls qs text x y z d.lines no_definition conditions no_condition a.lines a.none (subst (λ n. n < 2 ^ 64) (sym same_count) few) in
      let written = whole_text (map (function_of p) ds) (map (condition_tree q) cs) ls qs text x y z d.lines no_definition conditions no_condition a.lines a.none closing in
      record {
        readable = subst (λ l. IsReadable l (map (condition_tree q) cs) marks) (sym fs_same) readable;
        text = ap (λ l. event_text l (map (condition_tree q) cs) marks) fs_same ∙ written;
        definitions = added-Grows p q ds g d.added;
        counting = subst (All IsCounting) (sym fs_same) d.lines.counting;
        definitions_inside = bodies_inside q ds (added_sound q ds (added-Grows p q ds g d.added)).0;
        conditions_inside = c.inside;
        letters = c.lines.count ∙ same_count;
      }
