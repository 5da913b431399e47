-- Work becomes less.
use Rattle.std.proofs.Common.{◌≡◌, ℕ, suc, ◌+◌, ◌-◌, ◌<◌, ◌≤◌, min, List, length, drop, Some, slice_get, refl, ap, ◌∙◌, arith}
use Rattle.std.proofs.lemmas.List.{length-drop, length-take}
use Rattle.run_shapes.specs.Seen.{piece}
use Rattle.run_shapes.specs.declared.instr.Instr.{Instr as Coded}
use Rattle.run_shapes.specs.declared.unit_code.Code.{Code}
use Rattle.run_state.specs.Deeds.{advanced, gone_to}
use Rattle.run_state.specs.Shows.{unit_code, code_left}
use Rattle.run_state.specs.Rests.{weight, weight_of, weight_in}
use Rattle.run_state.specs.Obeyed.{IsPlain, IsNoHigher}
use Rattle.run_state.specs.declared.machine.Frame.{Frame}
use Rattle.run_state.specs.declared.machine.Stage.{Stage}
use Rattle.run_state.specs.declared.machine.Stage.TheVariants as stage
use Rattle.run_state.specs.declared.machine.State.{State}
use Rattle.run_state.proofs.Pieces.{piece_next}

pub piece_long : {X : Type 0} (a b : ℕ) (xs : List X) → length (piece a b xs) ≡ min (b - a) (length xs - a)
piece_long a b xs = length-take (b - a) (drop a xs) ∙ ap (min (b - a)) (length-drop a xs)

pub piece_shorter : {X : Type 0} (a b c : ℕ) (xs : List X) → a ≤ b → length (piece b c xs) ≤ length (piece a c xs)
piece_shorter a b c xs h =
    let one : length (piece a c xs) ≡ min (c - a) (length xs - a) = piece_long a c xs in
    let two : length (piece b c xs) ≡ min (c - b) (length xs - b) = piece_long b c xs in
    grind arith

module _ (code : Code) where
  -- what is left of a frame's code, where its place is no earlier
  left_less : (f g : Frame) → g.unit ≡ f.unit → g.stop ≡ f.stop → f.place ≤ g.place → length (code_left (unit_code code g.unit) g) ≤ length (code_left (unit_code code f.unit) f)
  left_less f g u s h =
      let same : length (code_left (unit_code code g.unit) g) ≡ length (piece g.place f.stop (unit_code code f.unit).instrs)
      = ap (λ k. length (piece g.place g.stop (unit_code code k).instrs)) u ∙ ap (λ k. length (piece g.place k (unit_code code f.unit).instrs)) s in
      let less : length (piece g.place f.stop (unit_code code f.unit).instrs) ≤ length (piece f.place f.stop (unit_code code f.unit).instrs)
      = piece_shorter f.place g.place f.stop (unit_code code f.unit).instrs h in
      omega arith

  plain_in : (old new : State) (s : Stage) → new.stage ≡ s → IsPlain old new → IsNoHigher s old new
      → weight_in code s new.frame old.callers.items < suc (length (code_left (unit_code code old.frame.unit) old.frame)) + 2 + weight_of code old.callers.items
  plain_in old new stage.Entering e plain h = absurd h
  plain_in old new stage.Between e plain h = omega arith
  plain_in old new stage.Inside e plain h = let l = left_less old.frame new.frame plain.frame.unit plain.frame.stop h.0 in omega arith
  plain_in old new stage.Carried e plain h = let l = left_less old.frame new.frame plain.frame.unit plain.frame.stop h.0 in omega arith
  plain_in old new stage.Testing e plain h = omega arith
  plain_in old new (stage.Ended v) e plain h = omega arith
  plain_in old new (stage.Erred kind) e plain h = omega arith
  plain_in old new stage.Nowhere e plain h = omega arith

  inside_weight : (m : State) → m.stage ≡ stage.Inside → weight code m ≡ length (code_left (unit_code code m.frame.unit) m.frame) + 2 + weight_of code m.callers.items
  inside_weight m e = ap (λ s. weight_in code s m.frame m.callers.items) e

  -- an instruction leaves one less
  pub one_taken : (m : State) (i : Coded) → m.frame.place < m.frame.stop → slice_get (unit_code code m.frame.unit).instrs m.frame.place ≡ Some i
      → length (code_left (unit_code code m.frame.unit) m.frame) ≡ suc (length (code_left (unit_code code m.frame.unit) (advanced m).frame))
  one_taken m i within at = ap length (piece_next m.frame.place m.frame.stop (unit_code code m.frame.unit).instrs i within at)

  -- a plain instruction
  pub plain_less : (m new : State) (i : Coded) → m.stage ≡ stage.Inside → m.frame.place < m.frame.stop → slice_get (unit_code code m.frame.unit).instrs m.frame.place ≡ Some i
      → IsPlain (advanced m) new → weight code new < weight code m
  plain_less m new i e within at plain =
      let one : length (code_left (unit_code code m.frame.unit) m.frame) ≡ suc (length (code_left (unit_code code m.frame.unit) (advanced m).frame)) = one_taken m i within at in
      let whole : weight code m ≡ length (code_left (unit_code code m.frame.unit) m.frame) + 2 + weight_of code m.callers.items = inside_weight m e in
      let less : weight_in code new.stage new.frame m.callers.items < suc (length (code_left (unit_code code m.frame.unit) (advanced m).frame)) + 2 + weight_of code m.callers.items
      = plain_in (advanced m) new new.stage refl plain plain.values in
      let same : weight code new ≡ weight_in code new.stage new.frame m.callers.items = ap (λ (r : _). weight_in code new.stage new.frame r.items) plain.callers in
      omega arith

  -- no instruction is left
  pub none_less : (m : State) → m.stage ≡ stage.Inside → weight code (gone_to 0 m) < weight code m
  none_less m e =
      let whole : weight code m ≡ length (code_left (unit_code code m.frame.unit) m.frame) + 2 + weight_of code m.callers.items = inside_weight m e in
      omega arith
