-- One more line was read.
use Rattle.std.proofs.Common.{◌≡◌, ℕ, zero, suc, ◌+◌, ◌<◌, true, Some, None, List, [], ◌∷◌, ◌++◌, length, map, refl, sym, ap, ◌∙◌, subst, arith, append_assoc, append-nil, length-append}
use Rattle.std.specs.List.{All, flat_map, list_all, zip}
use Rattle.formula.specs.declared.definition.Definition.{Definition}
use Rattle.formula.specs.declared.definition.Heading.{Heading}
use Rattle.formula.specs.declared.node.Node.{Node}
use Rattle.formula.specs.declared.node.TermId.{TermId}
use Rattle.formula.specs.Adding.{AreAdded, AreBodiesIn}
use Rattle.formula.specs.Headings.{headings_of}
use Rattle.formula.specs.Pool.{AllBelow, Grows, tree_of}
use Rattle.formula.specs.Worth.{Function, function_of}
use Rattle.formula.proofs.Added.{added_sound, body_of-Grows}
use Rattle.formula.proofs.Grown.{AllBelow-Grows, IsIn-Grows, tree_of-Grows}
use Rattle.fort_syntax.specs.declared.condition.Condition.{Condition}
use Rattle.fort_syntax.specs.Conditions.{ConditionTree}
use Rattle.event_text.specs.Conditions.{condition_tree, IsConditionIn}
use Rattle.event_text.specs.EventText.{asked_line, condition_line, definition_line, names_of}
use Rattle.event_text.specs.Readable.{headings_with, is_mark, AreReadableAfter, IsAsked, IsReadableCondition, IsReadableDefinition}
use Rattle.event_text.proofs.OneDefinition.{own}
use Rattle.event_text.proofs.Tests.{all_first, all_rest, first_of_both, second_of_both}
use Rattle.event_reading.specs.Fronts.{AreAsked, AreConditions, AreDefinitions, IsCounting}
use Rattle.event_reading.specs.Lines.{asked_at, condition_at, definition_at}
use Rattle.event_reading.specs.Names.{heading_names}
use Rattle.event_reading.specs.Reads.{ReadsConditions, ReadsDefinition, ReadsDefinitions}
use Rattle.event_reading.proofs.ConditionLines.{asked_some, condition_some}
use Rattle.event_reading.proofs.DefinitionLines.{definition_some}

-- ---- a pool that grows

functions_grow : (old new : List Node) (ds : List Definition) → Grows old new → AreBodiesIn old ds → map (function_of new) ds ≡ map (function_of old) ds
functions_grow old new [] g h = refl
functions_grow old new (d ∷ ds) g h =
    let body = body_of-Grows old new d.body g h.0 in
    let rest = functions_grow old new ds g h.1 in
    λ i. record { name = d.name; params = d.params; body = body i } ∷ rest i

pub functions_same : (old new : List Node) (ds : List Definition) → Grows old new → AreAdded old ds → map (function_of new) ds ≡ map (function_of old) ds
functions_same old new ds g h = functions_grow old new ds g (added_sound old ds h).0

pub headings_same : (pool : List Node) (ds : List Definition) → headings_with (map (function_of pool) ds) ≡ headings_of ds
headings_same pool [] = refl
headings_same pool (d ∷ ds) = ap (λ l. own (function_of pool d) ∷ l) (headings_same pool ds)

trees_grow : (old new : List Node) (ids : List TermId) → Grows old new → AllBelow (length old) ids → map (tree_of new) ids ≡ map (tree_of old) ids
trees_grow old new [] g h = refl
trees_grow old new (id ∷ ids) g h =
    let here = tree_of-Grows old new id g h.0 in
    let rest = trees_grow old new ids g h.1 in
    λ i. here i ∷ rest i

pub conditions_same : (old new : List Node) (cs : List Condition) → Grows old new → All (IsConditionIn old) cs → map (condition_tree new) cs ≡ map (condition_tree old) cs
conditions_same old new [] g h = refl
conditions_same old new (c ∷ cs) g h =
    let here = all_first (IsConditionIn old) c cs h in
    let hyps = trees_grow old new c.hyps g here.0 in
    let goal = tree_of-Grows old new c.goal g here.1 in
    let rest = conditions_same old new cs g (all_rest (IsConditionIn old) c cs h) in
    λ i. record { unit = c.unit; path = c.path; check = c.check; kind = c.kind; card = c.card; hyps = hyps i; goal = goal i } ∷ rest i

pub all_more : {X : Type 0} (P : X → Type 0) (x : X) (xs : List X) → P x → All P xs → All P (x ∷ xs)
all_more P x xs p h zero d less = p
all_more P x xs p h (suc k) d less = h k d (omega arith)

pub all_none : {X : Type 0} (P : X → Type 0) → All P []
all_none P k d less = absurd (omega arith)

pub all_last : {X : Type 0} (P : X → Type 0) (xs : List X) (x : X) → All P xs → P x → All P (xs ++ x ∷ [])
all_last P [] x h p = all_more P x [] p (all_none P)
all_last P (y ∷ xs) x h p = all_more P y (xs ++ x ∷ []) (all_first P y xs h) (all_last P xs x (all_rest P y xs h) p)

pub inside_grows : (old new : List Node) (cs : List Condition) → Grows old new → All (IsConditionIn old) cs → All (IsConditionIn new) cs
inside_grows old new [] g h = all_none (IsConditionIn new)
inside_grows old new (c ∷ cs) g h =
    let here = all_first (IsConditionIn old) c cs h in
    all_more (IsConditionIn new) c cs (AllBelow-Grows old new c.hyps g here.0, IsIn-Grows old new c.goal g here.1) (inside_grows old new cs g (all_rest (IsConditionIn old) c cs h))

map-last : {X Y : Type 0} (f : X → Y) (xs : List X) (x : X) → map f (xs ++ x ∷ []) ≡ map f xs ++ f x ∷ []
map-last f [] x = refl
map-last f (y ∷ xs) x = ap (λ l. f y ∷ l) (map-last f xs x)

flat-last : {X : Type 0} (f : X → List ℕ) (xs : List X) (x : X) (rest : List ℕ) → flat_map f (xs ++ x ∷ []) ++ rest ≡ flat_map f xs ++ (f x ++ rest)
flat-last f [] x rest = ap (λ l. l ++ rest) (append-nil (f x))
flat-last f (y ∷ xs) x rest =
    append_assoc (f y) (flat_map f (xs ++ x ∷ [])) rest ∙ ap (λ l. f y ++ l) (flat-last f xs x rest) ∙ sym (append_assoc (f y) (flat_map f xs) (f x ++ rest))

shorter : (line text rest : List ℕ) → text ≡ line ++ rest → 0 < length line → length rest < length text
shorter line text rest e some =
    let long : length text ≡ length line + length rest = ap length e ∙ length-append line rest in
    omega arith

-- ---- definitions

readable-last : (hs : List Heading) (ds : List Function) (d : Function) → AreReadableAfter hs ds → IsReadableDefinition (hs ++ headings_with ds) d → AreReadableAfter hs (ds ++ d ∷ [])
readable-last hs [] d h r = (subst (λ l. IsReadableDefinition l d) (append-nil hs) r, tt)
readable-last hs (e ∷ ds) d h r = (h.0, readable-last (hs ++ own e ∷ []) ds d h.1 (subst (λ l. IsReadableDefinition l d) (sym (append_assoc hs (own e ∷ []) (headings_with ds))) r))

names-last : (ds : List Function) (d : Function) (later : List (List ℕ)) → heading_names (headings_with ds ++ own d ∷ []) ++ later ≡ names_of ds ++ (d.name ∷ later)
names-last [] d later = refl
names-last (e ∷ ds) d later = ap (λ l. e.name ∷ l) (names-last ds d later)

names_of-last : (ds : List Function) (d : Function) (later : List (List ℕ)) → names_of (ds ++ d ∷ []) ++ later ≡ names_of ds ++ (d.name ∷ later)
names_of-last [] d later = refl
names_of-last (e ∷ ds) d later = ap (λ l. e.name ∷ l) (names_of-last ds d later)

-- more lines, and less that is left
pub record More (A : Type 0) (text rest : List ℕ) : Type 0 where
  pub lines : A
  pub less : length rest < length text

one_more : (ds : List Function) (text rest behind : List ℕ) (d : Function) → AreDefinitions text ds rest → definition_at (headings_with ds) rest ≡ Some (d, behind) → More (AreDefinitions text (ds ++ d ∷ []) behind) rest behind
one_more ds text rest behind d h e =
    let r = definition_some (headings_with ds) rest d behind e in
    record {
      lines = record {
        readable = readable-last [] ds d h.readable r.readable;
        counting = all_last IsCounting ds d h.counting r.counting;
        is = λ later.
            h.is (d.name ∷ later) ∙ ap (λ l. flat_map (definition_line (names_of ds ++ (d.name ∷ later))) ds ++ l) (r.is later ∙ ap (λ names. definition_line names d ++ behind) (names-last ds d later))
            ∙ sym (flat-last (definition_line (names_of ds ++ (d.name ∷ later))) ds d behind) ∙ ap (λ names. flat_map (definition_line names) (ds ++ d ∷ []) ++ behind) (sym (names_of-last ds d later));
      };
      less = shorter (definition_line (heading_names (headings_with ds ++ own d ∷ []) ++ []) d) rest behind (r.is []) (simp length-append (omega arith));
    }

pub definitions_begin : (text : List ℕ) → AreDefinitions text [] text
definitions_begin text = record { readable = tt; counting = all_none IsCounting; is = λ later. refl }

pub definitions_go : (old new : List Node) (ds es : List Definition) (text rest behind : List ℕ) → Grows old new → AreAdded old ds → AreDefinitions text (map (function_of old) ds) rest → ReadsDefinition new ds es rest behind
    → More (AreDefinitions text (map (function_of new) es) behind) rest behind
definitions_go old new ds es text rest behind g added h r =
    let fs = map (function_of new) ds in
    let d = function_of new r.read in
    let same : map (function_of old) ds ≡ fs = sym (functions_same old new ds g added) in
    let at : definition_at (headings_with fs) rest ≡ Some (d, behind) = ap (λ hs. definition_at hs rest) (headings_same new ds) ∙ r.gives in
    let more = one_more fs text rest behind d (subst (λ l. AreDefinitions text l rest) same h) at in
    let all : fs ++ d ∷ [] ≡ map (function_of new) es = sym (map-last (function_of new) ds r.read) ∙ ap (map (function_of new)) (sym r.is) in
    subst (λ l. More (AreDefinitions text l behind) rest behind) all more

-- ---- conditions

marked : List (List ℕ) → ConditionTree × ℕ → List ℕ
marked names p = condition_line names p.0 p.1

zip-last : (cs : List ConditionTree) (ls : List ℕ) (c : ConditionTree) (m : ℕ) → length ls ≡ length cs → zip (cs ++ c ∷ []) (ls ++ m ∷ []) ≡ zip cs ls ++ (c, m) ∷ []
zip-last [] [] c m e = refl
zip-last [] (l ∷ ls) c m e = absurd (omega arith)
zip-last (d ∷ cs) [] c m e = absurd (omega arith)
zip-last (d ∷ cs) (l ∷ ls) c m e = ap (λ x. (d, l) ∷ x) (zip-last cs ls c m (omega arith))

marks-last : (ls : List ℕ) (m : ℕ) → list_all is_mark ls ≡ true → is_mark m ≡ true → list_all is_mark (ls ++ m ∷ []) ≡ true
marks-last [] m h k = rw k refl
marks-last (l ∷ ls) m h k =
    let first = first_of_both (is_mark l) (list_all is_mark ls) h in
    let rest = marks-last ls m (second_of_both (is_mark l) (list_all is_mark ls) h) k in
    rw (first, rest) refl

one_condition_more : (hs : List Heading) (cs : List ConditionTree) (ls text rest behind : List ℕ) (c : ConditionTree) (m : ℕ) → AreConditions hs text cs ls rest → condition_at hs rest ≡ Some ((c, m), behind)
    → More (AreConditions hs text (cs ++ c ∷ []) (ls ++ m ∷ []) behind) rest behind
one_condition_more hs cs ls text rest behind c m h e =
    let names = heading_names hs in
    let r = condition_some hs rest (c, m) behind e in
    let count = h.count in
    record {
      lines = record {
        readable = all_last (IsReadableCondition hs) cs c h.readable r.readable;
        count = length-append ls (m ∷ []) ∙ (let t : length ls + 1 ≡ length cs + 1 = omega arith in t) ∙ sym (length-append cs (c ∷ []));
        letters = marks-last ls m h.letters r.mark;
        is = h.is ∙ ap (λ l. flat_map (λ p. condition_line names p.0 p.1) (zip cs ls) ++ l) r.is ∙ sym (flat-last (λ p. condition_line names p.0 p.1) (zip cs ls) (c, m) behind)
            ∙ ap (λ l. flat_map (λ p. condition_line names p.0 p.1) l ++ behind) (sym (zip-last cs ls c m h.count));
      };
      less = shorter (condition_line names c m) rest behind r.is (simp length-append (omega arith));
    }

pub conditions_begin : (hs : List Heading) (text : List ℕ) → AreConditions hs text [] [] text
conditions_begin hs text = record { readable = all_none (IsReadableCondition hs); count = refl; letters = refl; is = refl }

pub conditions_go : (old new : List Node) (hs : List Heading) (cs : List Condition) (ls text rest behind : List ℕ) (c : Condition) (m : ℕ) → Grows old new → All (IsConditionIn old) cs
    → AreConditions hs text (map (condition_tree old) cs) ls rest → condition_at hs rest ≡ Some ((condition_tree new c, m), behind) → More (AreConditions hs text (map (condition_tree new) (cs ++ c ∷ [])) (ls ++ m ∷ []) behind) rest behind
conditions_go old new hs cs ls text rest behind c m g inside h e =
    let here = subst (λ l. AreConditions hs text l ls rest) (sym (conditions_same old new cs g inside)) h in
    subst (λ l. More (AreConditions hs text l (ls ++ m ∷ []) behind) rest behind) (sym (map-last (condition_tree new) cs c))
    (one_condition_more hs (map (condition_tree new) cs) ls text rest behind (condition_tree new c) m here e)

-- ---- provers

pub asked_begin : (text : List ℕ) → AreAsked text [] text
asked_begin text = record { asked = all_none IsAsked; is = refl }

pub asked_go : (qs : List (ℕ × ℕ)) (text rest behind : List ℕ) (a : ℕ × ℕ) → AreAsked text qs rest → asked_at rest ≡ Some (a, behind) → More (AreAsked text (qs ++ a ∷ []) behind) rest behind
asked_go qs text rest behind a h e =
    let r = asked_some rest a behind e in
    record {
      lines = record {
        asked = all_last IsAsked qs a h.asked r.good;
        is = h.is ∙ ap (λ l. flat_map asked_line qs ++ l) r.is ∙ sym (flat-last asked_line qs a behind);
      };
      less = shorter (asked_line a) rest behind r.is (simp length-append (omega arith));
    }

-- ---- no further line

pub definitions_end : (old new : List Node) (ds es : List Definition) (text rest : List ℕ) → Grows old new → AreAdded old ds → AreDefinitions text (map (function_of old) ds) rest → es ≡ ds
    → AreAdded new es → definition_at (headings_of ds) rest ≡ None → ReadsDefinitions new text es rest
definitions_end old new ds es text rest g added h e later none =
    let same : map (function_of new) es ≡ map (function_of old) ds = ap (map (function_of new)) e ∙ functions_same old new ds g added in
    record { lines = subst (λ l. AreDefinitions text l rest) (sym same) h; none = ap (λ l. definition_at (headings_of l) rest) e ∙ none; added = later }

pub conditions_end : (old new : List Node) (hs : List Heading) (cs bs : List Condition) (ls ms text rest : List ℕ) → Grows old new → All (IsConditionIn old) cs
    → AreConditions hs text (map (condition_tree old) cs) ls rest → bs ≡ cs → ms ≡ ls → condition_at hs rest ≡ None → ReadsConditions new hs text bs ms rest
conditions_end old new hs cs bs ls ms text rest g inside h e f none =
    let same : map (condition_tree new) bs ≡ map (condition_tree old) cs = ap (map (condition_tree new)) e ∙ conditions_same old new cs g inside in
    record {
      lines = subst (λ l. AreConditions hs text l ms rest) (sym same) (subst (λ l. AreConditions hs text (map (condition_tree old) cs) l rest) (sym f) h);
      none = none;
      inside = subst (All (IsConditionIn new)) (sym e) (inside_grows old new cs g inside);
    }
