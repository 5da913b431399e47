use Rattle.std.proofs.Common.{◌≡◌, false, not, cond, List, [], ◌∷◌, ap, sym, ◌∙◌, subst}
use Rattle.formula.specs.Pool.{tree_of}
use Rattle.fort_syntax.specs.Names.{is_local}
use Rattle.fort_syntax.specs.declared.name.Name.{Name}
use Rattle.walk_names.proofs.NameTables.{names_grow}
use Rattle.walk_state.specs.Moments.{moment}
use Rattle.call_frames.specs.Frames.{IsFilled, own_of, shared_in}
use Rattle.call_frames.proofs.Put.{filled_one}
use Rattle.call_frames.proofs.filling.put_data.Goals as goal

pub put-requires-clause-frame : goal.put-requires-clause-frame
put-requires-clause-frame c = names_grow c.args.walk.now.pool c.own_term.new.walk.pool c.args.frame.now c.own_term.ensures.on.grows c.requires.frame

pub returns-clause-filled : goal.returns-clause-filled
returns-clause-filled c =
    let w0 = c.args.walk.now in
    let w1 = c.own_term.new.walk in
    let w2 = c.put.new.walk in
    let d = c.args.entity.now in
    let own = own_of c.args.callee.now.unit.now (moment w0).now (tree_of w0.pool c.args.value) in
    let no : is_local d.role ≡ false = sym c.is_local.ensures ∙ c.if-is_local.false in
    let shared : shared_in d ≡ d.name ∷ [] = ap (λ b. cond (not b) (d.name ∷ []) []) no in
    subst (λ (xs : List Name). IsFilled w0.pool c.args.frame.now w2.pool c.put.new.frame xs own) (sym shared)
    (filled_one w0.pool w1.pool w2.pool c.args.frame.now c.put.new.frame d.name (tree_of w1.pool c.in_ok-id.id) own c.own_term.ensures.on.grows c.requires.frame c.in_ok-put.ensures.put c.in_ok-id.ensures.tree)
