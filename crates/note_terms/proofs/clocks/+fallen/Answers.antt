use Rattle.std.proofs.Common.{◌≤◌, ◌∙◌, sym, length, arith}
use Rattle.std.proofs.lemmas.Grind.{common_steps}
use Rattle.formula.proofs.Grown.{tree_of-Grows}
use Rattle.note_terms.specs.Stated.{below}
use Rattle.note_terms.proofs.Added.{below_at, falls_more}
use Rattle.note_terms.proofs.clocks.+fallen.Goals as goal

pub returns-clause-tree : goal.returns-clause-tree
returns-clause-tree t c =
    let n : 2 ≤ length c.args.new.now = grind (arith, common_steps, c.in-len1-up.len_at_least, c.if-is_empty-3.ensures, c.if-is_empty-3.false) in
    let o : 2 ≤ length c.args.old.now = grind (arith, common_steps, c.in-len1-up-old.len_at_least, c.if-is_empty-4.ensures, c.if-is_empty-4.false) in
    let p0 = c.args.pool.now in
    let p1 = c.fallen.new.pool in
    let new = tree_of-Grows p0 p1 _ c.fallen.ensures.grows (below_at _ c.args.new.now 0 (record { place = 0 }) c.requires.new c.in-len1-up.len_at_least) in
    let old = tree_of-Grows p0 p1 _ c.fallen.ensures.grows (below_at _ c.args.old.now 0 (record { place = 0 }) c.requires.old c.in-len1-up-old.len_at_least) in
    c.in_ok-all.ensures.tree ∙ ((λ i. below (new i) (old i) (c.in_ok-later.ensures.tree i)) ∙ sym (falls_more p0 c.args.new.now c.args.old.now (record { place = 0 }) n o))
