use Rattle.std.proofs.Common.{◌≡◌, List, ◌∙◌, subst}
use Rattle.call_facts.specs.Calls.{called}
use Rattle.formula.specs.Pool.{tree_of}
use Rattle.formula.specs.Tree.{Tree}
use Rattle.formula.proofs.Grown.{Grows-trans, tree_of-Grows}
use Rattle.fort_model.specs.WalkCalls.{Operand, changed, hits}
use Rattle.fort_syntax.specs.declared.name.Name.{Name}
use Rattle.path_scene.proofs.Staying.{ready_stays, scene_stays}
use Rattle.walk_names.proofs.NameTables.{names_grow}
use Rattle.walk_operands.specs.Operands.{operand_trees}
use Rattle.walk_operands.proofs.Joined.{operands_stay}
use Rattle.walk_setting.proofs.Ready.{ready_on}
use Rattle.walk_setting.specs.Settings.{seen_from}
use Rattle.walk_state.specs.Moments.{moment, with_names}
use Rattle.walk_state.proofs.Parts.{follows_then}
use Rattle.call_parts.specs.Parts.{Entered, TakesFacts, TakesOutput, before_call}
use Rattle.call_parts.proofs.Noted.{entry_grows}
use Rattle.walk_calls.proofs.Chained.{call_done}
use Rattle.walk_calls.proofs.calls.call_unit.Goals as goal

pub enter_unit-requires-clause-ready : goal.enter_unit-requires-clause-ready
enter_unit-requires-clause-ready c = ready_on c.args.walk.now.pool c.next_call.new.self.pool c.args.called.now.setting.now.scene.now c.next_call.ensures.on.grows c.requires.ready

pub enter_unit-requires-clause-operands : goal.enter_unit-requires-clause-operands
enter_unit-requires-clause-operands c = (operands_stay c.args.walk.now.pool c.next_call.new.self.pool c.args.operands.now c.next_call.ensures.on.grows c.requires.operands).within

pub take_facts-requires-clause-ready : goal.take_facts-requires-clause-ready
take_facts-requires-clause-ready c =
    let m = c.args.walk.now.pool in
    let n = c.next_call.new.self.pool in
    let a = c.enter_unit.new.walk.pool in
    let b = c.smash_names.new.walk.pool in
    ready_on m b c.args.called.now.setting.now.scene.now (Grows-trans m n b c.next_call.ensures.on.grows (Grows-trans n a b c.enter_unit.ensures.on.grows c.smash_names.ensures.on.grows)) c.requires.ready

pub leave_unit-requires-clause-ready : goal.leave_unit-requires-clause-ready
leave_unit-requires-clause-ready c =
    let m = c.args.walk.now.pool in
    let n = c.next_call.new.self.pool in
    let a = c.enter_unit.new.walk.pool in
    let b = c.smash_names.new.walk.pool in
    let f = c.take_facts.new.walk.pool in
    ready_on m f c.args.called.now.setting.now.scene.now
    (Grows-trans m n f c.next_call.ensures.on.grows (Grows-trans n a f c.enter_unit.ensures.on.grows (Grows-trans a b f c.smash_names.ensures.on.grows c.take_facts.ensures.on.grows))) c.requires.ready

pub leave_unit-requires-clause-operands : goal.leave_unit-requires-clause-operands
leave_unit-requires-clause-operands c =
    let m = c.args.walk.now.pool in
    let n = c.next_call.new.self.pool in
    let a = c.enter_unit.new.walk.pool in
    let b = c.smash_names.new.walk.pool in
    let f = c.take_facts.new.walk.pool in
    (operands_stay m f c.args.operands.now
    (Grows-trans m n f c.next_call.ensures.on.grows (Grows-trans n a f c.enter_unit.ensures.on.grows (Grows-trans a b f c.smash_names.ensures.on.grows c.take_facts.ensures.on.grows))) c.requires.operands).within

pub leave_unit-requires-clause-names : goal.leave_unit-requires-clause-names
leave_unit-requires-clause-names c =
    let a = c.enter_unit.new.walk.pool in
    let b = c.smash_names.new.walk.pool in
    let f = c.take_facts.new.walk.pool in
    let r = ready_on c.args.walk.now.pool c.next_call.new.self.pool c.args.called.now.setting.now.scene.now c.next_call.ensures.on.grows c.requires.ready in
    names_grow a f c.in_ok-frame.frame.names (Grows-trans a b f c.smash_names.ensures.on.grows c.take_facts.ensures.on.grows) (c.in_ok-frame.ensures.entered r.0 r.1).frame_is.names.kept

pub leave_unit-requires-clause-entry : goal.leave_unit-requires-clause-entry
leave_unit-requires-clause-entry c =
    let n = c.next_call.new.self in
    let a = c.enter_unit.new.walk.pool in
    let b = c.smash_names.new.walk.pool in
    let f = c.take_facts.new.walk.pool in
    let d = c.args.called.now in
    let g = d.callee.now.unit.now in
    let r = ready_on c.args.walk.now.pool n.pool d.setting.now.scene.now c.next_call.ensures.on.grows c.requires.ready in
    let told = before_call (seen_from d.setting.now r.0) g (operand_trees n.pool c.args.operands.now) (moment n).now in (
      told,
      entry_grows a f c.in_ok-frame.frame.names.table c.in_ok-frame.frame.entry.items g told (Grows-trans a b f c.smash_names.ensures.on.grows c.take_facts.ensures.on.grows)
          (c.in_ok-frame.ensures.entered r.0 r.1).frame_is.entry,
    )

pub returns-clause-did : goal.returns-clause-did
returns-clause-did c p ready =
    let m = c.args.walk.now in
    let n = c.next_call.new.self in
    let a = c.enter_unit.new.walk in
    let b = c.smash_names.new.walk in
    let f = c.take_facts.new.walk in
    let e = c.leave_unit.new.walk in
    let d = c.args.called.now in
    let s = d.setting.now in
    let g = d.callee.now.unit.now in
    let w = seen_from s p in
    let k = c.in_ok-call.call in
    let ops = c.args.operands.now in
    let xs = operand_trees m.pool ops in
    let frame = c.in_ok-frame.frame in
    let value = c.in_ok-value.value in
    let gmn = c.next_call.ensures.on.grows in
    let gma = Grows-trans m.pool n.pool a.pool gmn c.enter_unit.ensures.on.grows in
    let gaf = Grows-trans a.pool b.pool f.pool c.smash_names.ensures.on.grows c.take_facts.ensures.on.grows in
    let gmf = Grows-trans m.pool a.pool f.pool gma gaf in
    let before = before_call w g xs (moment n).now in
    let entered = subst (λ (ys : List (Operand Tree)). Entered w d.card d.number g ys (moment n) a.pool (moment a) frame) (operands_stay m.pool n.pool ops gmn c.requires.operands).trees
    (c.in_ok-frame.ensures.entered p (ready_stays m.pool n.pool gmn s.scene.now p ready)) in
    let hit : c.in_ok-names.names ≡ hits w d.number g xs =
    c.in_ok-names.ensures.names p (scene_stays m.pool a.pool gma s.scene.now p ready.is_scene) ∙ (λ j. hits w d.number g ((operands_stay m.pool a.pool ops gma c.requires.operands).trees j)) in
    let facts = subst (λ (ns : List Name). TakesFacts w g ns (called k) (moment b) (moment f)) (c.as_slice.ensures ∙ hit) (c.in_ok-value.ensures.facts p) in
    let left = c.in_ok-leave_unit.ensures.output p before (ready_stays m.pool f.pool gmf s.scene.now p ready) (entry_grows a.pool f.pool frame.names.table frame.entry.items g before gaf entered.frame_is.entry) in
    let output = subst (λ (v : Tree). TakesOutput w d.number g xs before v (moment f) (moment e)) c.in_ok-value.ensures.tree
    (subst (λ (ys : List (Operand Tree)). TakesOutput w d.number g ys before (tree_of f.pool value) (moment f) (moment e)) (operands_stay m.pool f.pool ops gmf c.requires.operands).trees left) in
    call_done w d.card d.number g xs k (moment m) (moment n) (moment a) (moment b) (moment f) (moment e) (tree_of e.pool value) c.in_ok-call.ensures.next c.in_ok-call.ensures.answer entered.did
    (c.in_ok-names.ensures.smashed p ∙ (λ j. with_names (moment a) (changed w (hit j) (called k) (moment a).now))) facts output
    (tree_of-Grows f.pool e.pool value c.leave_unit.ensures.on.grows c.in_ok-value.ensures.is_in ∙ c.in_ok-value.ensures.tree)

pub returns-in_err-value-clause-on : goal.returns-in_err-value-clause-on
returns-in_err-value-clause-on c =
    let m = c.args.walk.now in
    let n = c.next_call.new.self in
    let a = c.enter_unit.new.walk in
    let b = c.smash_names.new.walk in
    let f = c.take_facts.new.walk in
    follows_then m n f c.next_call.ensures.on
    (follows_then n a f c.enter_unit.ensures.on (follows_then a b f c.smash_names.ensures.on c.take_facts.ensures.on))

pub returns-in_err-leave_unit-clause-on : goal.returns-in_err-leave_unit-clause-on
returns-in_err-leave_unit-clause-on c =
    let m = c.args.walk.now in
    let n = c.next_call.new.self in
    let a = c.enter_unit.new.walk in
    let b = c.smash_names.new.walk in
    let f = c.take_facts.new.walk in
    let e = c.leave_unit.new.walk in
    follows_then m n e c.next_call.ensures.on
    (follows_then n a e c.enter_unit.ensures.on
    (follows_then a b e c.smash_names.ensures.on (follows_then b f e c.take_facts.ensures.on c.leave_unit.ensures.on)))

pub returns-clause-on : goal.returns-clause-on
returns-clause-on c =
    let m = c.args.walk.now in
    let n = c.next_call.new.self in
    let a = c.enter_unit.new.walk in
    let b = c.smash_names.new.walk in
    let f = c.take_facts.new.walk in
    let e = c.leave_unit.new.walk in
    follows_then m n e c.next_call.ensures.on
    (follows_then n a e c.enter_unit.ensures.on
    (follows_then a b e c.smash_names.ensures.on (follows_then b f e c.take_facts.ensures.on c.leave_unit.ensures.on)))
