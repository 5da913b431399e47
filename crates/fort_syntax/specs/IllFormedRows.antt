-- Units and decks that are not well formed, one for each thing that is asked of them.
use Rattle.std.specs.Prelude.{◌≡◌, Bool, true, false, List, [], ◌∷◌, ◌++◌, Some, codes}
use Rattle.std.specs.List.{list_all}
use Rattle.fort_syntax.specs.DeckOrder.{stand_between, units_ascend_above, notes_ascend_above, has_place}
use Rattle.fort_syntax.specs.DeckRows.{note, variable}
use Rattle.fort_syntax.specs.SmallDecks.{on_cards, labelled, plain, applied_to, A, F, I, J, K}
use Rattle.fort_syntax.specs.WellFormed.{are_names, are_held_once, are_data_names, has_right_role, are_functions, has_right_dims, are_blocks, is_right_statement, are_in_order, has_result, agree_on_blocks}
use Rattle.fort_syntax.specs.declared.deck.Placed.{Placed}
use Rattle.fort_syntax.specs.declared.dialect.Dialect.TheVariants.{Common}
use Rattle.fort_syntax.specs.declared.dialect.Sort.TheVariants.{Integer}
use Rattle.fort_syntax.specs.declared.expr.Expr.TheVariants.{Var}
use Rattle.fort_syntax.specs.declared.stmt.BlockName.TheVariants.{Bare, Named}
use Rattle.fort_syntax.specs.declared.stmt.Dim.TheVariants as dim
use Rattle.fort_syntax.specs.declared.stmt.Stmt.TheVariants.{Assign, GoTo, Continue, Return}
use Rattle.fort_syntax.specs.declared.unit.Role.TheVariants.{Dummy, InCommon, OwnValue, Local}
use Rattle.fort_syntax.specs.declared.unit.Unit.{Unit as Routine}

-- FUNCTION F(I) with K in the block BOX, which references G
abbrev pub good : Routine
good = record {
  name = F;
  sort = Some Integer;
  head = 1;
  dummies = I ∷ [];
  names = variable OwnValue Integer F [] ∷ variable Dummy Integer I [] ∷ variable InCommon Integer K [] ∷ [];
  functions = record { name = codes "G"; sort = Integer } ∷ [];
  blocks = record { block = Named (codes "BOX"); items = plain K ∷ [] } ∷ [];
  lines = on_cards 4 (Assign (Var F) (applied_to (codes "G") (Var K ∷ [])) ∷ Return ∷ []);
  «end» = 6;
}

-- what is asked of a unit, in order
abbrev pub tests : Routine → List Bool
tests u =
    are_names u ∷ are_held_once u ∷ are_data_names u ∷ list_all (has_right_role u) u.names ∷ are_functions u
    ∷ list_all (has_right_dims Common u) u.names ∷ are_blocks u ∷ list_all (λ line. is_right_statement Common u line.stmt) u.lines
    ∷ are_in_order [] u.lines ∷ stand_between u.head u.lines u.«end» ∷ has_result u ∷ []

-- the block has a name that is none; I is two dummies; J is a dummy and no data name; K is local and in COMMON;
-- G is two functions; a dimension is 0; a block is written bare; a GO TO goes nowhere; a label stands twice;
-- END stands on the card of RETURN; F has no value
abbrev pub IllFormedUnits : Type 0
IllFormedUnits =
    (tests good ≡ true ∷ true ∷ true ∷ true ∷ true ∷ true ∷ true ∷ true ∷ true ∷ true ∷ true ∷ [])
    × (tests (record good { blocks = record { block = Named (codes "1BOX"); items = plain K ∷ [] } ∷ [] })
    ≡ false ∷ true ∷ true ∷ true ∷ true ∷ true ∷ true ∷ true ∷ true ∷ true ∷ true ∷ [])
    × (tests (record good { dummies = I ∷ I ∷ [] })
    ≡ true ∷ false ∷ true ∷ true ∷ true ∷ true ∷ true ∷ true ∷ true ∷ true ∷ true ∷ [])
    × (tests (record good { dummies = I ∷ J ∷ [] })
    ≡ true ∷ true ∷ false ∷ true ∷ true ∷ true ∷ true ∷ true ∷ true ∷ true ∷ true ∷ [])
    × (tests (record good {
      names = variable OwnValue Integer F [] ∷ variable Dummy Integer I [] ∷ variable
          Local Integer K [] ∷ [];
    })
    ≡ true ∷ true ∷ true ∷ false ∷ true ∷ true ∷ true ∷ true ∷ true ∷ true ∷ true ∷ [])
    × (tests (record good { functions = record { name = codes "G"; sort = Integer } ∷ record { name = codes "G"; sort = Integer } ∷ [] })
    ≡ true ∷ true ∷ true ∷ true ∷ false ∷ true ∷ true ∷ true ∷ true ∷ true ∷ true ∷ [])
    × (tests (record good { names = good.names ++ variable Local Integer A (dim.Fixed 0 ∷ []) ∷ [] })
    ≡ true ∷ true ∷ true ∷ true ∷ true ∷ false ∷ true ∷ true ∷ true ∷ true ∷ true ∷ [])
    × (tests (record good { blocks = good.blocks ++ record { block = Bare; items = [] } ∷ [] })
    ≡ true ∷ true ∷ true ∷ true ∷ true ∷ true ∷ false ∷ true ∷ true ∷ true ∷ true ∷ [])
    × (tests (record good { lines = on_cards 3 (GoTo 10 ∷ []) ++ good.lines })
    ≡ true ∷ true ∷ true ∷ true ∷ true ∷ true ∷ true ∷ false ∷ true ∷ true ∷ true ∷ [])
    × (tests (record good { lines = labelled 2 10 Continue ∷ labelled 3 10 Continue ∷ good.lines })
    ≡ true ∷ true ∷ true ∷ true ∷ true ∷ true ∷ true ∷ true ∷ false ∷ true ∷ true ∷ [])
    × (tests (record good { «end» = 5 })
    ≡ true ∷ true ∷ true ∷ true ∷ true ∷ true ∷ true ∷ true ∷ true ∷ false ∷ true ∷ [])
    × (tests (record good { lines = on_cards 4 (Assign (Var K) (applied_to (codes "G") (Var K ∷ [])) ∷ Return ∷ []) })
    ≡ true ∷ true ∷ true ∷ true ∷ true ∷ true ∷ true ∷ true ∷ true ∷ true ∷ false ∷ [])

-- an intrinsic reference is known where its name is no data name
abbrev pub IntrinsicNamesAreNoData : Type 0
IntrinsicNamesAreNoData =
    (is_right_statement Common good (Assign (Var K) (applied_to (codes "IABS") (Var K ∷ []))) ≡ true)
    × (is_right_statement Common (record good { names = good.names ++ variable Local Integer (codes "IABS") [] ∷ [] })
    (Assign (Var K) (applied_to (codes "IABS") (Var K ∷ []))) ≡ false)

-- ---- decks

-- a second unit, with the same block
abbrev pub behind : Routine
behind = record {
  name = codes "S";
  sort = good.sort;
  head = 7;
  dummies = [];
  names = variable OwnValue Integer (codes "S") [] ∷ variable InCommon Integer K [] ∷ [];
  functions = [];
  blocks = good.blocks;
  lines = on_cards 9 (Assign (Var (codes "S")) (Var K) ∷ Return ∷ []);
  «end» = 11;
}

-- what is asked of a deck beyond its units, in order
abbrev pub deck_tests : List Routine → List Placed → List Bool
deck_tests units notes =
    list_all (λ u. list_all (agree_on_blocks u) units) units ∷ units_ascend_above 0 units ∷ notes_ascend_above 0 notes
    ∷ list_all (has_place units) notes ∷ []

abbrev pub notes : List Placed
notes = note 2 (codes "INPUT T") 1 0 ∷ note 8 (codes "INPUT T") 2 2 ∷ note 12 (codes "RUN F") 0 1 ∷ []

-- the block differs; the units are exchanged; two notes stand on one card; a note stands in a third unit; a
-- note stands behind three of two statements
abbrev pub IllFormedDecks : Type 0
IllFormedDecks =
    (deck_tests (good ∷ behind ∷ []) notes ≡ true ∷ true ∷ true ∷ true ∷ [])
    × (deck_tests (good ∷ record behind { blocks = record { block = Named (codes "BOX"); items = plain K ∷ plain J ∷ [] } ∷ [] } ∷ []) notes
    ≡ false ∷ true ∷ true ∷ true ∷ [])
    × (deck_tests (behind ∷ good ∷ []) notes ≡ true ∷ false ∷ true ∷ true ∷ [])
    × (deck_tests (good ∷ behind ∷ []) (note 2 (codes "INPUT T") 1 0 ∷ notes) ≡ true ∷ true ∷ false ∷ true ∷ [])
    × (deck_tests (good ∷ behind ∷ []) (note 1 (codes "INPUT T") 3 0 ∷ notes) ≡ true ∷ true ∷ true ∷ false ∷ [])
    × (deck_tests (good ∷ behind ∷ []) (note 1 (codes "INPUT T") 1 3 ∷ notes) ≡ true ∷ true ∷ true ∷ false ∷ [])
    × (deck_tests (good ∷ behind ∷ []) (note 1 (codes "INPUT T") 0 2 ∷ notes) ≡ true ∷ true ∷ true ∷ false ∷ [])
