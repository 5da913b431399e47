-- What a state shows behind an instruction, by where the instruction leads.
use Rattle.std.proofs.Common.{◌≡◌, ℕ, ◌+◌, ◌<◌, ◌^◌, List, drop, map, refl, sym, ap, ◌∙◌}
use Rattle.formula.specs.declared.value.Cell.{Cell}
use Rattle.fort_syntax.specs.declared.condition.Kind.{Kind}
use Rattle.fort_model.specs.Flow.{Loop}
use Rattle.fort_model.specs.Storage.{Storage}
use Rattle.fort_model.specs.Passing.{Taken}
use Rattle.run_code.specs.Code.{Instr}
use Rattle.run_moves.specs.Moves.{on, to_point, to_carried, to_tests, to_error, to_nothing}
use Rattle.run_frames.specs.Frames as frames
use Rattle.run_frames.specs.Frames.{Waiting, lowest}
use Rattle.run_frames.specs.Configs.{between}
use Rattle.run_shapes.specs.Seen.{piece, seen_in, loops_of, out_of}
use Rattle.run_shapes.specs.declared.unit_code.Code.{Code}
use Rattle.run_rooms.specs.Roomy.{oldest}
use Rattle.run_state.specs.Near.{far, item_of}
use Rattle.run_state.specs.Deeds.{with_stage, with_values, with_cells, skipped, gone_to, put_to_test, failed, lost}
use Rattle.run_state.specs.Shows.{unit_code, World, Shows, ShowsUnit, ShowsStatement}
use Rattle.run_state.specs.Obeyed.{ShowsMove}
use Rattle.run_state.specs.declared.machine.Item.{Item}
use Rattle.run_state.specs.declared.machine.Stage.{Stage}
use Rattle.run_state.specs.declared.machine.Stage.TheVariants as stage
use Rattle.run_state.specs.declared.machine.State.{State}
use Rattle.run_state.proofs.Items.{lowest_kept, map_drop}
use Rattle.run_state.proofs.Pieces.{piece_far}

-- a state elsewhere in its unit, with other values and cells
abbrev pub elsewhere : Stage → ℕ → ℕ → ℕ → List Item → List Cell → State → State
elsewhere s q i d vs cs m = record m { stage = s; frame = record m.frame { line = q; place = i; card = d }; values = record m.values { items = vs }; cells = record m.cells { items = cs } }

module _ (w : World) (code : Code) (m : State) (f : frames.Frame) (ws : List Waiting) (xs : List Taken) (st : Storage) (xs' : List Taken) (st' : Storage) where
  -- the same unit is shown
  pub unit_kept : (s : Stage) (q i d : ℕ) (vs : List Item) (cs : List Cell) → ShowsUnit w code m f ws xs st → vs ≡ map item_of xs' → cs ≡ st'
      → ShowsUnit w code (elsewhere s q i d vs cs m) f ws xs' st'
  unit_kept s q i d vs cs u v c = record {
    frame_is = record {
      unit_is = u.frame_is.unit_is;
      before_is = u.frame_is.before_is;
      floor_is = u.frame_is.floor_is;
      extents_are = u.frame_is.extents_are;
      commons_are = u.frame_is.commons_are;
    };
    names_are = u.names_are;
    rest = record { callers_are = u.rest.callers_are; values_are = v; cells_are = c };
  }

  -- at a point
  pub at_point : (q : ℕ) (vs : List Item) (cs : List Cell) → ShowsUnit w code m f ws xs st → vs ≡ map item_of xs' → cs ≡ st'
      → Shows w code (gone_to q (with_values vs (with_cells cs m))) (between f q ws (lowest f.floor xs')) st'
  at_point q vs cs u v c = (
    refl,
    refl,
    record {
      frame_is = record {
        unit_is = u.frame_is.unit_is;
        before_is = u.frame_is.before_is;
        floor_is = u.frame_is.floor_is;
        extents_are = u.frame_is.extents_are;
        commons_are = u.frame_is.commons_are;
      };
      names_are = u.names_are;
      rest = record { callers_are = u.rest.callers_are; values_are = ap (λ k. oldest k vs) u.frame_is.floor_is ∙ ap (oldest f.floor) v ∙ lowest_kept f.floor xs'; cells_are = c };
    },
  )

  module _ (card : ℕ) (is : List Instr) (inside : m.stage ≡ stage.Inside) (s : ShowsStatement w code m f card is ws xs st) where
    -- on in the statement
    pub shows_on : (vs : List Item) (cs : List Cell) → vs ≡ map item_of xs' → cs ≡ st' → ShowsMove w code (with_values vs (with_cells cs m)) f card ws (on is xs' st')
    shows_on vs cs v c =
        (inside, record { card_is = s.card_is; code_is = s.code_is; unit_shown = unit_kept m.stage m.frame.line m.frame.place m.frame.card vs cs s.unit_shown v c })

    left_out : (k : ℕ) → m.frame.stop < 2 ^ 64
        → map (seen_in (unit_code code m.frame.unit)) (piece (far (m.frame.place + k)) m.frame.stop (unit_code code m.frame.unit).instrs) ≡ drop k is
    left_out k small =
        ap (map (seen_in (unit_code code m.frame.unit))) (piece_far m.frame.place m.frame.stop k (unit_code code m.frame.unit).instrs small)
        ∙ sym (map_drop (seen_in (unit_code code m.frame.unit)) k (piece m.frame.place m.frame.stop (unit_code code m.frame.unit).instrs)) ∙ ap (drop k) s.code_is

    -- on, with some instructions left out
    pub shows_skip : (k : ℕ) (vs : List Item) (cs : List Cell) → m.frame.stop < 2 ^ 64 → vs ≡ map item_of xs' → cs ≡ st'
        → ShowsMove w code (skipped k (with_values vs (with_cells cs m))) f card ws (on (drop k is) xs' st')
    shows_skip k vs cs small v c = (
      inside,
      record {
        card_is = s.card_is;
        code_is = left_out k small;
        unit_shown = unit_kept m.stage m.frame.line (far (m.frame.place + k)) m.frame.card vs cs s.unit_shown v c;
      },
    )

    -- to a carried statement, with some instructions left out
    pub shows_carried : (k : ℕ) (vs : List Item) (cs : List Cell) → m.frame.stop < 2 ^ 64 → vs ≡ map item_of xs' → cs ≡ st'
        → ShowsMove w code (with_stage stage.Carried (skipped k (with_values vs (with_cells cs m)))) f card ws (to_carried (drop k is) xs' st')
    shows_carried k vs cs small v c = (
      refl,
      record {
        card_is = s.card_is;
        code_is = left_out k small;
        unit_shown = unit_kept stage.Carried m.frame.line (far (m.frame.place + k)) m.frame.card vs cs s.unit_shown v c;
      },
    )

    -- on to a point
    pub shows_point : (q : ℕ) (vs : List Item) (cs : List Cell) → vs ≡ map item_of xs' → cs ≡ st'
        → ShowsMove w code (gone_to q (with_values vs (with_cells cs m))) f card ws (to_point q xs' st')
    shows_point q vs cs v c = at_point q vs cs s.unit_shown v c

    -- to tests of DOs
    pub shows_tests : (d i : ℕ) (q : ℕ) (ds : List Loop) (vs : List Item) (cs : List Cell)
        → loops_of (unit_code code m.frame.unit).slots (drop i (unit_code code m.frame.unit).tests) ≡ ds → out_of (drop i (unit_code code m.frame.unit).tests) ≡ q
        → vs ≡ map item_of xs' → cs ≡ st' → ShowsMove w code (put_to_test d i (with_values vs (with_cells cs m))) f card ws (to_tests d q ds xs' st')
    shows_tests d i q ds vs cs l o v c = (
      refl,
      record { card_is = refl; loops_are = l; point_is = o; unit_shown = unit_kept stage.Testing m.frame.line i d vs cs s.unit_shown v c },
    )

    -- to an error at the statement's card
    pub shows_error : (kind : Kind) (vs : List Item) (cs : List Cell) → cs ≡ st' → ShowsMove w code (failed kind (with_values vs (with_cells cs m))) f card ws (to_error kind card st')
    shows_error kind vs cs c = (refl, s.card_is, c)

    -- to what never ends
    pub shows_nothing : (vs : List Item) (cs : List Cell) → cs ≡ st' → ShowsMove w code (lost (with_values vs (with_cells cs m))) f card ws (to_nothing st')
    shows_nothing vs cs c = (refl, c)
