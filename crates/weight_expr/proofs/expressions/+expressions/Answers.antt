use Rattle.std.proofs.Common.{ap}
use Rattle.fort_model.specs.WalkCalls.{Operand}
use Rattle.std.specs.Prelude.{ℕ}
use Rattle.fort_syntax.specs.Names.{applied}
use Rattle.weight_calls.specs.Subjects.{sight_of}
use Rattle.weight_terms.specs.Held.{held}
use Rattle.weight_expr.specs.Listed.{operands_listed, values_listed}
use Rattle.weight_expr.specs.Parts.{bracketed_part, denied_part, joined_part, negated_part, operated_part, raised_part}
use Rattle.weight_tallies.specs.Tallied.{Tally}
use Rattle.weight_tallies.specs.Tallies as tally
use Rattle.weight_expr.proofs.Views.{and_path, applied_path, bracketed_path, denied_path, load_by, negated_path, operated_path, or_path, raised_path, related_path, signed_path, value_by}
use Rattle.weight_expr.proofs.expressions.+expressions.Goals as goal

pub operand-returns-in-Paren-clause-load : goal.operand-returns-in-Paren-clause-load
operand-returns-in-Paren-clause-load t c =
    load_by c.bracketed.result c.bracketed.new.load (bracketed_part (sight_of c.args.subject.now) (held c.args.names.now) c.get.result.now c.args.load.now) (tally.operand (sight_of c.args.subject.now) (held c.args.names.now) c.args.e.now c.args.load.now)
    (ap (λ (p : Tally (Operand ℕ)). p c.args.load.now) (bracketed_path (sight_of c.args.subject.now) (held c.args.names.now) c.args.e.now c.get.result.now c.in-Paren.a c.in-Paren.is c.get.ensures)) c.bracketed.ensures.load

pub operand-returns-in-Paren-clause-value : goal.operand-returns-in-Paren-clause-value
operand-returns-in-Paren-clause-value t c =
    value_by c.bracketed.result (bracketed_part (sight_of c.args.subject.now) (held c.args.names.now) c.get.result.now c.args.load.now) (tally.operand (sight_of c.args.subject.now) (held c.args.names.now) c.args.e.now c.args.load.now)
    (ap (λ (p : Tally (Operand ℕ)). p c.args.load.now) (bracketed_path (sight_of c.args.subject.now) (held c.args.names.now) c.args.e.now c.get.result.now c.in-Paren.a c.in-Paren.is c.get.ensures)) c.bracketed.ensures.value

pub operand-returns-in-Pos-clause-load : goal.operand-returns-in-Pos-clause-load
operand-returns-in-Pos-clause-load t c =
    load_by c.bracketed-in-Pos.result c.bracketed-in-Pos.new.load (bracketed_part (sight_of c.args.subject.now) (held c.args.names.now) c.get-in-Pos.result.now c.args.load.now) (tally.operand (sight_of c.args.subject.now) (held c.args.names.now) c.args.e.now c.args.load.now)
    (ap (λ (p : Tally (Operand ℕ)). p c.args.load.now) (signed_path (sight_of c.args.subject.now) (held c.args.names.now) c.args.e.now c.get-in-Pos.result.now c.in-Pos.a c.in-Pos.is c.get-in-Pos.ensures)) c.bracketed-in-Pos.ensures.load

pub operand-returns-in-Pos-clause-value : goal.operand-returns-in-Pos-clause-value
operand-returns-in-Pos-clause-value t c =
    value_by c.bracketed-in-Pos.result (bracketed_part (sight_of c.args.subject.now) (held c.args.names.now) c.get-in-Pos.result.now c.args.load.now) (tally.operand (sight_of c.args.subject.now) (held c.args.names.now) c.args.e.now c.args.load.now)
    (ap (λ (p : Tally (Operand ℕ)). p c.args.load.now) (signed_path (sight_of c.args.subject.now) (held c.args.names.now) c.args.e.now c.get-in-Pos.result.now c.in-Pos.a c.in-Pos.is c.get-in-Pos.ensures)) c.bracketed-in-Pos.ensures.value

pub operand-returns-in-Neg-clause-load : goal.operand-returns-in-Neg-clause-load
operand-returns-in-Neg-clause-load t c =
    load_by c.negated.result c.negated.new.load (negated_part (sight_of c.args.subject.now) (held c.args.names.now) c.get-in-Neg.result.now c.args.load.now) (tally.operand (sight_of c.args.subject.now) (held c.args.names.now) c.args.e.now c.args.load.now)
    (ap (λ (p : Tally (Operand ℕ)). p c.args.load.now) (negated_path (sight_of c.args.subject.now) (held c.args.names.now) c.args.e.now c.get-in-Neg.result.now c.in-Neg.a c.in-Neg.is c.get-in-Neg.ensures)) c.negated.ensures.load

pub operand-returns-in-Neg-clause-value : goal.operand-returns-in-Neg-clause-value
operand-returns-in-Neg-clause-value t c =
    value_by c.negated.result (negated_part (sight_of c.args.subject.now) (held c.args.names.now) c.get-in-Neg.result.now c.args.load.now) (tally.operand (sight_of c.args.subject.now) (held c.args.names.now) c.args.e.now c.args.load.now)
    (ap (λ (p : Tally (Operand ℕ)). p c.args.load.now) (negated_path (sight_of c.args.subject.now) (held c.args.names.now) c.args.e.now c.get-in-Neg.result.now c.in-Neg.a c.in-Neg.is c.get-in-Neg.ensures)) c.negated.ensures.value

pub operand-returns-in-Not-clause-load : goal.operand-returns-in-Not-clause-load
operand-returns-in-Not-clause-load t c =
    load_by c.denied.result c.denied.new.load (denied_part (sight_of c.args.subject.now) (held c.args.names.now) c.get-in-Not.result.now c.args.load.now) (tally.operand (sight_of c.args.subject.now) (held c.args.names.now) c.args.e.now c.args.load.now)
    (ap (λ (p : Tally (Operand ℕ)). p c.args.load.now) (denied_path (sight_of c.args.subject.now) (held c.args.names.now) c.args.e.now c.get-in-Not.result.now c.in-Not.a c.in-Not.is c.get-in-Not.ensures)) c.denied.ensures.load

pub operand-returns-in-Not-clause-value : goal.operand-returns-in-Not-clause-value
operand-returns-in-Not-clause-value t c =
    value_by c.denied.result (denied_part (sight_of c.args.subject.now) (held c.args.names.now) c.get-in-Not.result.now c.args.load.now) (tally.operand (sight_of c.args.subject.now) (held c.args.names.now) c.args.e.now c.args.load.now)
    (ap (λ (p : Tally (Operand ℕ)). p c.args.load.now) (denied_path (sight_of c.args.subject.now) (held c.args.names.now) c.args.e.now c.get-in-Not.result.now c.in-Not.a c.in-Not.is c.get-in-Not.ensures)) c.denied.ensures.value

pub operand-returns-in-Power-clause-load : goal.operand-returns-in-Power-clause-load
operand-returns-in-Power-clause-load t c =
    load_by c.raised.result c.raised.new.load (raised_part (sight_of c.args.subject.now) (held c.args.names.now) c.in-Power.exponent c.get-in-Power.result.now c.args.load.now) (tally.operand (sight_of c.args.subject.now) (held c.args.names.now) c.args.e.now c.args.load.now)
    (ap (λ (p : Tally (Operand ℕ)). p c.args.load.now) (raised_path (sight_of c.args.subject.now) (held c.args.names.now) c.args.e.now c.get-in-Power.result.now c.in-Power.a c.in-Power.exponent c.in-Power.is c.get-in-Power.ensures)) c.raised.ensures.load

pub operand-returns-in-Power-clause-value : goal.operand-returns-in-Power-clause-value
operand-returns-in-Power-clause-value t c =
    value_by c.raised.result (raised_part (sight_of c.args.subject.now) (held c.args.names.now) c.in-Power.exponent c.get-in-Power.result.now c.args.load.now) (tally.operand (sight_of c.args.subject.now) (held c.args.names.now) c.args.e.now c.args.load.now)
    (ap (λ (p : Tally (Operand ℕ)). p c.args.load.now) (raised_path (sight_of c.args.subject.now) (held c.args.names.now) c.args.e.now c.get-in-Power.result.now c.in-Power.a c.in-Power.exponent c.in-Power.is c.get-in-Power.ensures)) c.raised.ensures.value

pub operand-returns-in-Apply-clause-load : goal.operand-returns-in-Apply-clause-load
operand-returns-in-Apply-clause-load t c =
    let w = sight_of c.args.subject.now in
    let now = held c.args.names.now in
    load_by c.applied_weight.result c.applied_weight.new.load (tally.apply_weight w now c.in-Apply.name (applied w.unit c.in-Apply.name) (values_listed w now c.as_slice.result.now) (operands_listed w now c.as_slice.result.now) c.args.load.now)
    (tally.operand w now c.args.e.now c.args.load.now)
    (ap (λ (p : Tally (Operand ℕ)). p c.args.load.now) (applied_path w now c.args.e.now c.in-Apply.name c.in-Apply.args c.as_slice.result.now c.in-Apply.is c.as_slice.ensures)) c.applied_weight.ensures.load

pub operand-returns-in-Apply-clause-value : goal.operand-returns-in-Apply-clause-value
operand-returns-in-Apply-clause-value t c =
    let w = sight_of c.args.subject.now in
    let now = held c.args.names.now in
    value_by c.applied_weight.result (tally.apply_weight w now c.in-Apply.name (applied w.unit c.in-Apply.name) (values_listed w now c.as_slice.result.now) (operands_listed w now c.as_slice.result.now) c.args.load.now)
    (tally.operand w now c.args.e.now c.args.load.now)
    (ap (λ (p : Tally (Operand ℕ)). p c.args.load.now) (applied_path w now c.args.e.now c.in-Apply.name c.in-Apply.args c.as_slice.result.now c.in-Apply.is c.as_slice.ensures)) c.applied_weight.ensures.value

pub operand-returns-in-Ok-clause-load : goal.operand-returns-in-Ok-clause-load
operand-returns-in-Ok-clause-load t c =
    load_by c.operated.result c.operated.new.load (operated_part (sight_of c.args.subject.now) (held c.args.names.now) c.in-Bin.operator c.in-Ok.first c.get-in-Bin-2.result.now c.value.new.load) (tally.operand (sight_of c.args.subject.now) (held c.args.names.now) c.args.e.now c.args.load.now)
    (operated_path (sight_of c.args.subject.now) (held c.args.names.now) c.in-Bin.operator c.args.load.now c.value.new.load c.args.e.now c.get-in-Bin.result.now c.get-in-Bin-2.result.now c.in-Bin.a c.in-Bin.b c.in-Ok.first c.in-Bin.is c.get-in-Bin.ensures c.get-in-Bin-2.ensures c.in-Ok.ensures.value c.in-Ok.ensures.load)
    c.operated.ensures.load

pub operand-returns-in-Ok-clause-value : goal.operand-returns-in-Ok-clause-value
operand-returns-in-Ok-clause-value t c =
    value_by c.operated.result (operated_part (sight_of c.args.subject.now) (held c.args.names.now) c.in-Bin.operator c.in-Ok.first c.get-in-Bin-2.result.now c.value.new.load) (tally.operand (sight_of c.args.subject.now) (held c.args.names.now) c.args.e.now c.args.load.now)
    (operated_path (sight_of c.args.subject.now) (held c.args.names.now) c.in-Bin.operator c.args.load.now c.value.new.load c.args.e.now c.get-in-Bin.result.now c.get-in-Bin-2.result.now c.in-Bin.a c.in-Bin.b c.in-Ok.first c.in-Bin.is c.get-in-Bin.ensures c.get-in-Bin-2.ensures c.in-Ok.ensures.value c.in-Ok.ensures.load)
    c.operated.ensures.value

pub operand-returns-in-Ok-value-clause-load : goal.operand-returns-in-Ok-value-clause-load
operand-returns-in-Ok-value-clause-load t c =
    load_by c.joined.result c.joined.new.load (joined_part (sight_of c.args.subject.now) (held c.args.names.now) c.in-Ok-value.first c.get-in-Rel-2.result.now c.value-in-Rel.new.load) (tally.operand (sight_of c.args.subject.now) (held c.args.names.now) c.args.e.now c.args.load.now)
    (related_path (sight_of c.args.subject.now) (held c.args.names.now) c.in-Rel.field-0 c.args.load.now c.value-in-Rel.new.load c.args.e.now c.get-in-Rel.result.now c.get-in-Rel-2.result.now c.in-Rel.a c.in-Rel.b c.in-Ok-value.first c.in-Rel.is c.get-in-Rel.ensures c.get-in-Rel-2.ensures c.in-Ok-value.ensures.value c.in-Ok-value.ensures.load)
    c.joined.ensures.load

pub operand-returns-in-Ok-value-clause-value : goal.operand-returns-in-Ok-value-clause-value
operand-returns-in-Ok-value-clause-value t c =
    value_by c.joined.result (joined_part (sight_of c.args.subject.now) (held c.args.names.now) c.in-Ok-value.first c.get-in-Rel-2.result.now c.value-in-Rel.new.load) (tally.operand (sight_of c.args.subject.now) (held c.args.names.now) c.args.e.now c.args.load.now)
    (related_path (sight_of c.args.subject.now) (held c.args.names.now) c.in-Rel.field-0 c.args.load.now c.value-in-Rel.new.load c.args.e.now c.get-in-Rel.result.now c.get-in-Rel-2.result.now c.in-Rel.a c.in-Rel.b c.in-Ok-value.first c.in-Rel.is c.get-in-Rel.ensures c.get-in-Rel-2.ensures c.in-Ok-value.ensures.value c.in-Ok-value.ensures.load)
    c.joined.ensures.value

pub operand-returns-in-Ok-value-2-clause-load : goal.operand-returns-in-Ok-value-2-clause-load
operand-returns-in-Ok-value-2-clause-load t c =
    load_by c.joined-in-And.result c.joined-in-And.new.load (joined_part (sight_of c.args.subject.now) (held c.args.names.now) c.in-Ok-value-2.first c.get-in-And-2.result.now c.value-in-And.new.load) (tally.operand (sight_of c.args.subject.now) (held c.args.names.now) c.args.e.now c.args.load.now)
    (and_path (sight_of c.args.subject.now) (held c.args.names.now) c.args.load.now c.value-in-And.new.load c.args.e.now c.get-in-And.result.now c.get-in-And-2.result.now c.in-And.a c.in-And.b c.in-Ok-value-2.first c.in-And.is c.get-in-And.ensures c.get-in-And-2.ensures c.in-Ok-value-2.ensures.value c.in-Ok-value-2.ensures.load)
    c.joined-in-And.ensures.load

pub operand-returns-in-Ok-value-2-clause-value : goal.operand-returns-in-Ok-value-2-clause-value
operand-returns-in-Ok-value-2-clause-value t c =
    value_by c.joined-in-And.result (joined_part (sight_of c.args.subject.now) (held c.args.names.now) c.in-Ok-value-2.first c.get-in-And-2.result.now c.value-in-And.new.load) (tally.operand (sight_of c.args.subject.now) (held c.args.names.now) c.args.e.now c.args.load.now)
    (and_path (sight_of c.args.subject.now) (held c.args.names.now) c.args.load.now c.value-in-And.new.load c.args.e.now c.get-in-And.result.now c.get-in-And-2.result.now c.in-And.a c.in-And.b c.in-Ok-value-2.first c.in-And.is c.get-in-And.ensures c.get-in-And-2.ensures c.in-Ok-value-2.ensures.value c.in-Ok-value-2.ensures.load)
    c.joined-in-And.ensures.value

pub operand-returns-in-Ok-value-3-clause-load : goal.operand-returns-in-Ok-value-3-clause-load
operand-returns-in-Ok-value-3-clause-load t c =
    load_by c.joined-in-Or.result c.joined-in-Or.new.load (joined_part (sight_of c.args.subject.now) (held c.args.names.now) c.in-Ok-value-3.first c.get-in-Or-2.result.now c.value-in-Or.new.load) (tally.operand (sight_of c.args.subject.now) (held c.args.names.now) c.args.e.now c.args.load.now)
    (or_path (sight_of c.args.subject.now) (held c.args.names.now) c.args.load.now c.value-in-Or.new.load c.args.e.now c.get-in-Or.result.now c.get-in-Or-2.result.now c.in-Or.a c.in-Or.b c.in-Ok-value-3.first c.in-Or.is c.get-in-Or.ensures c.get-in-Or-2.ensures c.in-Ok-value-3.ensures.value c.in-Ok-value-3.ensures.load)
    c.joined-in-Or.ensures.load

pub operand-returns-in-Ok-value-3-clause-value : goal.operand-returns-in-Ok-value-3-clause-value
operand-returns-in-Ok-value-3-clause-value t c =
    value_by c.joined-in-Or.result (joined_part (sight_of c.args.subject.now) (held c.args.names.now) c.in-Ok-value-3.first c.get-in-Or-2.result.now c.value-in-Or.new.load) (tally.operand (sight_of c.args.subject.now) (held c.args.names.now) c.args.e.now c.args.load.now)
    (or_path (sight_of c.args.subject.now) (held c.args.names.now) c.args.load.now c.value-in-Or.new.load c.args.e.now c.get-in-Or.result.now c.get-in-Or-2.result.now c.in-Or.a c.in-Or.b c.in-Ok-value-3.first c.in-Or.is c.get-in-Or.ensures c.get-in-Or-2.ensures c.in-Ok-value-3.ensures.value c.in-Ok-value-3.ensures.load)
    c.joined-in-Or.ensures.value
