use Rattle.std.proofs.Common.{rules, ◌≡◌, ◌∙◌, sym, true, false, refl}
use Rattle.std.specs.List.{list_all}
use Rattle.note_parts.specs.Answers.{trees_of}
use Rattle.note_names.specs.NameTests.{term_passes}
use Rattle.note_names.specs.declared.name_test.NameTest.TheVariants.{GoodOld, KnownNames}
use Rattle.note_names.proofs.Tests.{assertion_rules}
use Rattle.note_names.proofs.rules.assertion_broken.Goals as goal

pub returns-then-not-all_pass : goal.returns-then-not-all_pass
returns-then-not-all_pass c =
    let g : list_all (term_passes GoodOld c.args.roles.now) (trees_of c.args.pool.now c.args.asserted.now.terms) ≡ false = search rules in
    λ done u right.
    sym (assertion_rules u c.args.roles.now right done (trees_of c.args.pool.now c.args.asserted.now.terms) (trees_of c.args.pool.now c.args.asserted.now.clock) c.args.asserted.now.has_clock
    ∙ rw (g) refl)

pub returns-then-not-all_pass-2 : goal.returns-then-not-all_pass-2
returns-then-not-all_pass-2 c =
    let g : list_all (term_passes GoodOld c.args.roles.now) (trees_of c.args.pool.now c.args.asserted.now.terms) ≡ true = search rules in
    let h : list_all (term_passes GoodOld c.args.roles.now) (trees_of c.args.pool.now c.args.asserted.now.clock) ≡ false = search rules in
    λ done u right.
    sym (assertion_rules u c.args.roles.now right done (trees_of c.args.pool.now c.args.asserted.now.terms) (trees_of c.args.pool.now c.args.asserted.now.clock) c.args.asserted.now.has_clock
    ∙ rw (g, h) refl)

pub returns-then-not-all_pass-3 : goal.returns-then-not-all_pass-3
returns-then-not-all_pass-3 c =
    let g : list_all (term_passes GoodOld c.args.roles.now) (trees_of c.args.pool.now c.args.asserted.now.terms) ≡ true = search rules in
    let h : list_all (term_passes GoodOld c.args.roles.now) (trees_of c.args.pool.now c.args.asserted.now.clock) ≡ true = search rules in
    let k : list_all (term_passes KnownNames c.args.roles.now) (trees_of c.args.pool.now c.args.asserted.now.terms) ≡ false = search rules in
    λ done u right.
    sym (assertion_rules u c.args.roles.now right done (trees_of c.args.pool.now c.args.asserted.now.terms) (trees_of c.args.pool.now c.args.asserted.now.clock) c.args.asserted.now.has_clock
    ∙ rw (g, h, k) refl)

pub returns-then-not-all_pass-4 : goal.returns-then-not-all_pass-4
returns-then-not-all_pass-4 c =
    let g : list_all (term_passes GoodOld c.args.roles.now) (trees_of c.args.pool.now c.args.asserted.now.terms) ≡ true = search rules in
    let h : list_all (term_passes GoodOld c.args.roles.now) (trees_of c.args.pool.now c.args.asserted.now.clock) ≡ true = search rules in
    let k : list_all (term_passes KnownNames c.args.roles.now) (trees_of c.args.pool.now c.args.asserted.now.terms) ≡ true = search rules in
    let l : list_all (term_passes KnownNames c.args.roles.now) (trees_of c.args.pool.now c.args.asserted.now.clock) ≡ false = search rules in
    λ done u right.
    sym (assertion_rules u c.args.roles.now right done (trees_of c.args.pool.now c.args.asserted.now.terms) (trees_of c.args.pool.now c.args.asserted.now.clock) c.args.asserted.now.has_clock
    ∙ rw (g, h, k, l) refl)

pub returns : goal.returns
returns c =
    let g : list_all (term_passes GoodOld c.args.roles.now) (trees_of c.args.pool.now c.args.asserted.now.terms) ≡ true = search rules in
    let h : list_all (term_passes GoodOld c.args.roles.now) (trees_of c.args.pool.now c.args.asserted.now.clock) ≡ true = search rules in
    let k : list_all (term_passes KnownNames c.args.roles.now) (trees_of c.args.pool.now c.args.asserted.now.terms) ≡ true = search rules in
    let l : list_all (term_passes KnownNames c.args.roles.now) (trees_of c.args.pool.now c.args.asserted.now.clock) ≡ true = search rules in
    λ done u right.
    sym (assertion_rules u c.args.roles.now right done (trees_of c.args.pool.now c.args.asserted.now.terms) (trees_of c.args.pool.now c.args.asserted.now.clock) c.args.asserted.now.has_clock
    ∙ rw (g, h, k, l) refl)
