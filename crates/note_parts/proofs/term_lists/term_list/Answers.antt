use Rattle.std.proofs.Common.{rules, arith, ◌≡◌, ◌∙◌, ◌++◌, ◌∷◌, [], ap, sym, subst, length}
use Rattle.std.specs.Prelude.{None}
use Rattle.formula.specs.Pool.{AllBelow, Grows, tree_of}
use Rattle.formula.proofs.Grown.{Grows-trans, AllBelow-Grows}
use Rattle.fort_notes.specs.Parts.{parsed, parts_up_to, term}
use Rattle.note_parts.specs.Answers.{ends_at, trees_of}
use Rattle.note_parts.proofs.Rounds.{before, round_step, round_fails, trees_of-Grows, trees_of-append, AllBelow-append}
use Rattle.note_parts.proofs.term_lists.term_list.Goals as goal

pub returns-in_err-id-clause-terms : goal.returns-in_err-id-clause-terms
returns-in_err-id-clause-terms c =
    let failed = round_fails (ends_at c.args.until) (term c.args.headings.now None) c.loop-left.left (trees_of c.loop-left.pool c.loop-left.all.items) c.loop-left.rest.now _ c.in_err-id.field-0.0 (omega arith) (search rules) (search rules) c.loop-left.invariant.same in
    search rules

pub loop-left-preserved : goal.loop-left-preserved
loop-left-preserved c =
    let old = c.loop-left.pool in
    let new = c.plain_term.new.pool in
    let xs = c.loop-left.all.items in
    let id = c.in_ok-id.id in
    let grows : Grows old new = c.plain_term.ensures.grows in
    let pushed : c.push.new.self.items ≡ xs ++ id ∷ [] = search rules in
    let kept : AllBelow (length new) xs = AllBelow-Grows old new xs grows c.loop-left.invariant.below in
    let more : trees_of new c.push.new.self.items ≡ trees_of old xs ++ tree_of new id ∷ [] =
    ap (trees_of new) pushed ∙ trees_of-append new xs (id ∷ []) ∙ ap (λ l. l ++ tree_of new id ∷ []) (trees_of-Grows old new xs grows c.loop-left.invariant.below) in
    record {
      same = round_step (ends_at c.args.until) (term c.args.headings.now None) c.loop-left.left (trees_of old xs) (trees_of new c.push.new.self.items) c.loop-left.rest.now c.in_ok-id.behind.now (tree_of new id) _
          (omega arith) (search rules) (search rules) more c.loop-left.invariant.same;
      below = subst (AllBelow (length new)) (sym pushed) (AllBelow-append (length new) xs id kept (search rules));
      grows = Grows-trans _ _ _ c.loop-left.invariant.grows grows;
    }
