-- The parts of the code of a unit together are its code.
use Rattle.std.proofs.Common.{◌≡◌, ◌<◌, ℕ, suc, ◌+◌, true, List, [], ◌∷◌, ◌++◌, drop, map, length, Option, Some, None, slice_get, refl, sym, ap, ◌∙◌, subst}
use Rattle.std.proofs.lemmas.List.{length-append}
use Rattle.std.proofs.Math.Seq.{drop-append_seam}
use Rattle.formula.specs.Atoms.{is_among}
use Rattle.fort_syntax.specs.Names.{commons, data_name, dims_of, dims_of_data, own_names}
use Rattle.fort_syntax.specs.WellFormed.{IsWellFormedUnit}
use Rattle.fort_syntax.specs.declared.dialect.Dialect.{Dialect}
use Rattle.fort_syntax.specs.declared.name.Name.{Name}
use Rattle.fort_syntax.specs.declared.stmt.Dim.{Dim}
use Rattle.fort_syntax.specs.declared.stmt.Dim.TheVariants.{Fixed, Named}
use Rattle.fort_syntax.specs.declared.stmt.Stmt.{Stmt}
use Rattle.fort_syntax.specs.declared.stmt.Stmt.TheVariants.{Subroutine, Function, Declare, Dimension, Common as CommonBlock, Assign, GoTo, Computed, ArithIf, LogicalIf', Do, Continue, Call, Return, End, BlockIf, ElseIf, Else, EndIf}
use Rattle.fort_syntax.specs.declared.unit.DataName.{DataName}
use Rattle.fort_syntax.specs.declared.unit.Line.{Line}
use Rattle.fort_syntax.specs.declared.unit.Unit.{Unit as Routine}
use Rattle.fort_model.specs.CallFacts.{sites_of_unit}
use Rattle.fort_model.specs.Calls.{sites_of}
use Rattle.fort_model.specs.Flow.{target}
use Rattle.fort_model.specs.Lists.{IsAmong}
use Rattle.fort_model.specs.Sites.{calls_before}
use Rattle.fort_laws.proofs.DeclaredNames.{among_named, data_among}
use Rattle.fort_laws.proofs.DeclaredUnits.{right_dim}
use Rattle.fort_laws.proofs.DeclaredUses.{own_is_scalar}
use Rattle.run_code.specs.Code as code
use Rattle.run_shapes.specs.Coded.{AreSlotsOf, IsUnitCodeOf, calls_coded, slot_names}
use Rattle.run_shapes.specs.declared.slots.Slots.{Slots}
use Rattle.run_shapes.specs.declared.unit_code.CallCode.{CallCode}
use Rattle.run_shapes.specs.declared.unit_code.UnitCode.{UnitCode}
use Rattle.run_coding.specs.Pushed.{slot_in}
use Rattle.run_coding.proofs.Slots.{named_slot}
use Rattle.run_lines.specs.Stated.{StmtHere, aims}
use Rattle.run_doing.specs.Here.{DoHere, DosHere, TellsTests}
use Rattle.run_doing.specs.declared.table.TestTable.{TestTable}
use Rattle.run_doing.proofs.Each.{Each}
use Rattle.run_doing.proofs.Told.{tests_told}
use Rattle.run_known.specs.Known.{IsOver}
use Rattle.run_known.proofs.Named.{statements_are_here}
use Rattle.run_known.proofs.Slotted.{has_slot}
use Rattle.run_made.specs.Laws.{HasLines, LinesAreCode, LinesHaveSlots}
use Rattle.run_made.specs.Lined.{codes_from, line_pushed}
use Rattle.run_sizes.specs.Sized.{DimHere}
use Rattle.run_sizes.proofs.Slotted.{dims_stand, dims_within, shapes_long}
use Rattle.run_units.specs.Joined.{PartsAreCode}
use Rattle.run_units.specs.Parts.{HasParts, code_by}
use Rattle.run_units.specs.declared.parts.Parts.{Parts}

-- ---- lists

each_of : {X : Type 0} (P : X → Type 0) (xs : List X) → ((x : X) → IsAmong x xs → P x) → Each P xs
each_of P [] h = tt
each_of P (x ∷ xs) h = (h x (0, refl), each_of P xs (λ y m. h y (suc m.0, m.1)))

-- names that stand among others have places there
places_told : (common xs : List Name) → Each (λ x. is_among x common ≡ true) xs → map (slice_get common) (map (slot_in common) xs) ≡ map Some xs
places_told common [] h = refl
places_told common (x ∷ xs) h = λ i. named_slot common x h.0 i ∷ places_told common xs h.1 i

drop_two : {X : Type 0} (xs ys zs : List X) → drop (length xs + length ys) (xs ++ ys ++ zs) ≡ zs
drop_two xs ys zs = ap (λ n. drop n (xs ++ ys ++ zs)) (sym (length-append xs ys)) ∙ drop-append_seam (xs ++ ys) zs

names_long : (ds : List DataName) → length (map (λ d. d.name) ds) ≡ length ds
names_long [] = refl
names_long (d ∷ ds) = ap suc (names_long ds)

codes_long : (u : Routine) (names : List Name) (table : TestTable) (pc place k start : ℕ) (lines : List Line) → length (codes_from u names table pc place k start lines) ≡ length lines
codes_long u names table pc place k start [] = refl
codes_long u names table pc place k start (line ∷ lines) =
    ap suc (codes_long u names table (suc pc) (place + length (aims u line.stmt)) (k + length (sites_of u line.stmt)) (start + length (line_pushed u names table pc place k line)) lines)

-- ---- statements

-- how the flow goes on behind the range of a DO
abbrev over_for : Routine → ℕ → Stmt → code.Instr
over_for u pc (Do label x first last step) = code.over_code u (target u.lines label) pc
over_for u pc _ = code.stop

is_over : (u : Routine) (pc : ℕ) (s : Stmt) → IsOver u pc (over_for u pc s) s
is_over u pc s label x first last step e = ap (over_for u pc) e

do_here : (u : Routine) (units : List Routine) (names : List Name) (calls : List CallCode) (over : code.Instr) (pc k : ℕ) (s : Stmt)
    → StmtHere u units names calls over pc k s → DoHere names s
do_here u units names calls over pc k (Do label x first last step) h = (h.0, h.2, h.3)
do_here u units names calls over pc k (Assign l r) h = tt
do_here u units names calls over pc k (GoTo label) h = tt
do_here u units names calls over pc k (Computed labels x) h = tt
do_here u units names calls over pc k (ArithIf e l m n) h = tt
do_here u units names calls over pc k (LogicalIf' e _ b) h = tt
do_here u units names calls over pc k Continue h = tt
do_here u units names calls over pc k (Call f args) h = tt
do_here u units names calls over pc k Return h = tt
do_here u units names calls over pc k (BlockIf e) h = tt
do_here u units names calls over pc k (ElseIf e) h = tt
do_here u units names calls over pc k Else h = tt
do_here u units names calls over pc k EndIf h = tt
do_here u units names calls over pc k (Subroutine f xs) h = tt
do_here u units names calls over pc k (Function o f xs) h = tt
do_here u units names calls over pc k (Declare o xs) h = tt
do_here u units names calls over pc k (Dimension xs) h = tt
do_here u units names calls over pc k (CommonBlock xs) h = tt
do_here u units names calls over pc k End h = tt

module _ (dialect : Dialect) (u : Routine) (w : IsWellFormedUnit dialect u) where
  all_dos : List Routine → DosHere u (slot_names u)
  all_dos units pc line e =
      do_here u units (slot_names u) (calls_coded units 1 (sites_of_unit u)) (over_for u pc line.stmt) pc (calls_before u pc) line.stmt
      (statements_are_here dialect u units pc line (over_for u pc line.stmt) w e (is_over u pc line.stmt))

  dim_here : (d : DataName) → IsAmong d u.names → (n : Dim) → IsAmong n d.dims → DimHere (slot_names u) n
  dim_here d m (Fixed n) k = tt
  dim_here d m (Named x) k = has_slot dialect u x w (right_dim dialect u w d x m k).data_is

  dims_of_name : (x : Name) (o : Option DataName) → data_name u x ≡ o → Each (DimHere (slot_names u)) (dims_of_data o)
  dims_of_name x None e = tt
  dims_of_name x (Some d) e = each_of (DimHere (slot_names u)) d.dims (dim_here d (data_among u.names x d e))

  all_dims : (x : Name) → Each (DimHere (slot_names u)) (dims_of u x)
  all_dims x = dims_of_name x (data_name u x) refl

  module _ (law : LinesAreCode) (fits : LinesHaveSlots) (units : List Routine) (common : List Name) (parts : Parts)
      (share : (x : Name) → is_among x (commons u) ≡ true → is_among x common ≡ true) (h : HasParts u units (slot_names u) common parts) where
    abbrev unit : UnitCode
    unit = code_by u (slot_names u) parts

    abbrev slots : Slots
    slots = unit.slots

    slots_are : AreSlotsOf u slots
    slots_are = record {
      named = refl;
      dummies_counted = h.dummies;
      own_counted = h.own;
      shaped = ap length h.sizes.shapes ∙ shapes_long u 0 (slot_names u);
      sized = dims_stand u slots all_dims h.sizes.shapes h.sizes.sizes;
    }

    told : TellsTests u slots parts.body.table
    told = tests_told slots u (all_dos units) parts.body.table h.body.table

    has_lines : HasLines u units parts.body.table unit
    has_lines = record {
      slots = slots_are;
      tests = refl;
      told = told;
      here = λ pc line over e o.
          subst (λ calls. StmtHere u units (slot_names u) calls over pc (calls_before u pc) line.stmt) (sym h.body.calls) (statements_are_here dialect u units pc line over w e o);
      targets = h.body.targets;
      instrs = h.body.instrs;
      lines = h.body.codes;
    }

    long : length unit.lines ≡ length u.lines
    long = ap length h.body.codes ∙ codes_long u (slot_names u) parts.body.table 0 0 0 0 u.lines

    shared : map (slice_get common) unit.shared ≡ map Some (commons u)
    shared =
        ap (map (slice_get common))
        (h.shared
        ∙ ap (λ n. map (slot_in common) (drop (length u.dummies + n) (slot_names u))) (sym (names_long (own_names u)))
        ∙ ap (map (slot_in common)) (drop_two u.dummies (map (λ d. d.name) (own_names u)) (commons u)))
        ∙ places_told common (commons u) (each_of (λ x. is_among x common ≡ true) (commons u) (λ x m. share x (among_named (commons u) x m)))

    pub unit_is : IsUnitCodeOf units common u unit
    unit_is = record {
      called = refl;
      kind = refl;
      result = λ f.
          ap (slice_get (slot_names u)) h.value ∙ named_slot (slot_names u) u.name (has_slot dialect u u.name w (own_is_scalar dialect u w f).0);
      slotted = slots_are;
      commons_shared = shared;
      fitting = record {
        in_instrs = λ i c e. fits u units parts.body.table unit i c has_lines e;
        in_tests = told.fitting;
        in_sizes = dims_within u slots all_dims h.sizes.sizes;
      };
      pointed = λ i round e. subst (λ n. round.at < n) (sym long) (told.inside i round e);
      calls_told = h.body.calls;
      long = long;
      lined = λ pc line l e f. law u units parts.body.table unit pc line l has_lines e f;
    }

pub parts_are_code : LinesAreCode → LinesHaveSlots → PartsAreCode
parts_are_code law fits dialect u units names common parts w share named h =
    subst (λ xs. IsUnitCodeOf units common u (code_by u xs parts)) (sym named)
    (unit_is dialect u w law fits units common parts share (subst (λ xs. HasParts u units xs common parts) named h))
