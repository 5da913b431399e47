use Rattle.std.proofs.Common.{◌∙◌}
use Rattle.formula.specs.Pool.{tree_of}
use Rattle.formula.specs.Substitution.{under_names}
use Rattle.note_terms.proofs.NotesStated.{stated_is}
use Rattle.note_terms.proofs.notes.note_term.Goals as goal

pub returns-clause-tree : goal.returns-clause-tree
returns-clause-tree c =
    let nodes = c.args.pool.now in
    let t = tree_of nodes c.args.id in
    c.in_ok-term.ensures.tree
    ∙ ((λ i. under_names nodes c.args.names.now.table (c.as_slice.ensures.value i) c.args.entry.now t)
    ∙ stated_is nodes c.args.names.now c.requires.kept c.args.entry.now t c.requires.known)
