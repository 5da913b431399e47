use Rattle.std.proofs.Common.{◌≡◌, List, OnOk, subst, ◌∙◌}
use Rattle.fort_syntax.specs.declared.name.Name.{Name}
use Rattle.fort_model.specs.Smashes.{set_by}
use Rattle.smash_table.specs.Callers.{unit_of, program_of}
use Rattle.smash_table.proofs.Seen.{seen_in_more}
use Rattle.smash_table.proofs.Steps.{stmt_added}
use Rattle.smash_table.proofs.sites.add_stmt.Goals as goal

pub add_sites-requires-clause-seen : goal.add_sites-requires-clause-seen
add_sites-requires-clause-seen c =
    seen_in_more (program_of c.args.caller.now) (unit_of c.args.caller.now) c.args.found.now.seen c.args.found.now.set c.add_set.new.set (set_by c.args.stmt.now) c.requires.seen c.in-Ok.ensures

pub returns-clause-names : goal.returns-clause-names
returns-clause-names c =
    subst (λ (xs : List Name). OnOk c.add_sites.result (c.add_sites.new.found.set ≡ xs))
    (stmt_added (program_of c.args.caller.now) (unit_of c.args.caller.now) c.args.found.now.set c.add_set.new.set c.args.stmt.now c.as_slice.result.now c.in-Ok.ensures
    (c.as_slice.ensures.value ∙ c.in-Ok-sites_of_stmt.ensures))
    c.add_sites.ensures.names
