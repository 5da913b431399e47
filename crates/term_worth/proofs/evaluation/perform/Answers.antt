use Rattle.std.proofs.Common.{◌≡◌, ap, ◌∙◌, sym, subst, length}
use Rattle.std.proofs.lemmas.Result.{on_ok_weaker}
use Rattle.formula.specs.Bounded.{beyond, spent}
use Rattle.formula.specs.declared.function.Func.TheVariants.{BuiltIn, Defined}
use Rattle.term_worth.specs.declared.machine.Task.{Task}
use Rattle.term_worth.specs.declared.machine.Task.TheVariants.{Combine}
use Rattle.term_worth.specs.Machine.{IsTask, Does, meaning_with}
use Rattle.term_worth.proofs.Combined.{branch_done}
use Rattle.term_worth.proofs.evaluation.perform.Goals as goal

pub returns-in_ok-branch-in-Branch-clause-ok : goal.returns-in_ok-branch-in-Branch-clause-ok
returns-in_ok-branch-in-Branch-clause-ok c =
    let p = c.args.pool.now in
    let m = c.args.machine.now in
    let within = subst (IsTask p (length m.made)) c.in-Branch.is c.requires.task in
    subst (λ t. Does p c.args.definitions.now c.args.sheet.now t m c.branch-machine.new.machine) (sym c.in-Branch.is)
    (branch_done p c.args.definitions.now c.args.sheet.now m c.branch-machine.new.machine c.in-Branch.a c.in-Branch.b within.0 within.1 c.requires.whole c.in_ok-branch-in-Branch.ensures)

pub returns-in-BuiltIn-clause-ok : goal.returns-in-BuiltIn-clause-ok
returns-in-BuiltIn-clause-ok c =
    let p = c.args.pool.now in
    let ds = c.args.definitions.now in
    let m = c.args.machine.now in
    let new = c.combine_newest.new.machine in
    let done : Task = Combine (BuiltIn c.in-BuiltIn.f) c.in-Combine.count in
    let is : c.args.task ≡ done = c.in-Combine.is ∙ ap (λ g. Combine g c.in-Combine.count) c.in-BuiltIn.is in
    on_ok_weaker _
    (λ h. subst (λ t. Does p ds c.args.sheet.now t m new) (sym is) (subst (λ s. Does p ds s done m new) c.entries.ensures.entries (h p ds c.requires.whole))) c.combine_newest.ensures.ok

pub returns-in-BuiltIn-clause-beyond : goal.returns-in-BuiltIn-clause-beyond
returns-in-BuiltIn-clause-beyond c = λ e.
    let p = c.args.pool.now in
    let ds = c.args.definitions.now in
    let m = c.args.machine.now in
    let done : Task = Combine (BuiltIn c.in-BuiltIn.f) c.in-Combine.count in
    let is : c.args.task ≡ done = c.in-Combine.is ∙ ap (λ g. Combine g c.in-Combine.count) c.in-BuiltIn.is in
    subst (λ t. meaning_with p ds c.args.sheet.now t m ≡ beyond) (sym is)
    (subst (λ s. meaning_with p ds s done m ≡ beyond) c.entries.ensures.entries (c.combine_newest.ensures.beyond e p ds))

pub returns-in-Defined-clause-ok : goal.returns-in-Defined-clause-ok
returns-in-Defined-clause-ok c =
    let p = c.args.pool.now in
    let ds = c.args.definitions.now in
    let m = c.args.machine.now in
    let new = c.use_definition.new.machine in
    let done : Task = Combine (Defined c.in-Defined.k) c.in-Combine.count in
    let is : c.args.task ≡ done = c.in-Combine.is ∙ ap (λ g. Combine g c.in-Combine.count) c.in-Defined.is in
    on_ok_weaker _ (λ h. subst (λ t. Does p ds c.args.sheet.now t m new) (sym is) (h p c.args.sheet.now c.requires.bodies c.requires.whole)) c.use_definition.ensures.ok

pub returns-in-Defined-clause-spent : goal.returns-in-Defined-clause-spent
returns-in-Defined-clause-spent c = λ e.
    let p = c.args.pool.now in
    let ds = c.args.definitions.now in
    let m = c.args.machine.now in
    let done : Task = Combine (Defined c.in-Defined.k) c.in-Combine.count in
    let is : c.args.task ≡ done = c.in-Combine.is ∙ ap (λ g. Combine g c.in-Combine.count) c.in-Defined.is in
    subst (λ t. meaning_with p ds c.args.sheet.now t m ≡ spent) (sym is) (c.use_definition.ensures.spent e p c.args.sheet.now)
