-- Small decks and the units and notes that they are.
use Rattle.std.specs.Prelude.{◌≡◌, ℕ, List, [], ◌∷◌, ◌++◌, map, Some, None, codes}
use Rattle.fort_syntax.specs.SmallDecks.{on_cards, labelled, plain, array, adjustable, applied_to, bin, rel, F, I, J, K, L, N, Q, A}
use Rattle.fort_syntax.specs.Units.{Piece, stated, remarked, deck_of}
use Rattle.fort_syntax.specs.UnitRules.{unit_fault}
use Rattle.fort_syntax.specs.WellFormed.{IsWellFormed}
use Rattle.fort_syntax.specs.declared.dialect.BinOp.TheVariants.{Add}
use Rattle.fort_syntax.specs.declared.dialect.RelOp.TheVariants.{Lt}
use Rattle.fort_syntax.specs.declared.dialect.Dialect.TheVariants as dialect
use Rattle.fort_syntax.specs.declared.dialect.Sort.{Sort}
use Rattle.fort_syntax.specs.declared.dialect.Sort.TheVariants.{Integer, Logical}
use Rattle.fort_syntax.specs.declared.deck.Placed.{Placed}
use Rattle.fort_syntax.specs.declared.expr.Expr.TheVariants.{Const, Var}
use Rattle.fort_syntax.specs.declared.name.Name.{Name}
use Rattle.fort_syntax.specs.declared.stmt.BlockName.TheVariants.{Bare, Slashes, Named}
use Rattle.fort_syntax.specs.declared.stmt.Dim.{Dim}
use Rattle.fort_syntax.specs.declared.stmt.Dim.TheVariants as dim
use Rattle.fort_syntax.specs.declared.stmt.Param.TheVariants as parameter
use Rattle.fort_syntax.specs.declared.stmt.Stmt.TheVariants.{Subroutine, Function, Declare, Dimension, Common, Assign, Do, Continue, Call, Return, End, BlockIf, Else, EndIf}
use Rattle.fort_syntax.specs.declared.unit.DataName.{DataName}
use Rattle.fort_syntax.specs.declared.unit.Role.{Role}
use Rattle.fort_syntax.specs.declared.unit.Role.TheVariants.{Dummy, InCommon, OwnValue, Local}
use Rattle.fort_syntax.specs.declared.unit.Unit.{Unit as Routine}

-- ---- one is added to I

abbrev pub inc : List Piece
inc =
    stated (record { card = 1; label = 0; stmt = Subroutine (codes "INC") (I ∷ []) })
    ∷ remarked 2 (codes "INPUT T")
    ∷ remarked 3 (codes "OUTPUT T")
    ∷ stated (record { card = 4; label = 0; stmt = Assign (Var I) (bin Add (Var I) (Const 1)) })
    ∷ remarked 5 (codes "ASSERT T")
    ∷ stated (record { card = 6; label = 0; stmt = Return })
    ∷ stated (record { card = 7; label = 0; stmt = End })
    ∷ remarked 8 (codes "TRY X")
    ∷ []

abbrev pub inc_unit : Routine
inc_unit = record {
  name = codes "INC";
  sort = None;
  head = 1;
  dummies = I ∷ [];
  names = record { name = I; sort = Integer; dims = []; role = Dummy } ∷ [];
  functions = [];
  blocks = [];
  lines = on_cards 4 (Assign (Var I) (bin Add (Var I) (Const 1)) ∷ []) ++ on_cards 6 (Return ∷ []);
  «end» = 7;
}

abbrev pub note : ℕ → List ℕ → ℕ → ℕ → Placed
note card text unit line = record { card = card; text = text; unit = unit; line = line }

-- a note counts the executable statements before it, and stands in no unit behind an END
abbrev pub IncIsRead : Type 0
IncIsRead =
    (unit_fault dialect.Common inc ≡ None)
    × (deck_of inc ≡ record {
      units = inc_unit ∷ [];
      notes = note 2 (codes "INPUT T") 1 0 ∷ note 3 (codes "OUTPUT T") 1 0 ∷ note 5 (codes "ASSERT T") 1 1 ∷ note 8 (codes "TRY X") 0 1 ∷ [];
    })
    × IsWellFormed dialect.Common (deck_of inc)

-- ---- two units with blocks, declarations in any order, an array, a function

abbrev pub rot : List Piece
rot =
    remarked 1 (codes "BOUND 5")
    ∷ map stated (on_cards 2
    (Subroutine (codes "ROT") (N ∷ [])
    ∷ Common (record { block = Bare; items = plain K ∷ [] } ∷ record { block = Named (codes "BOX"); items = plain A ∷ [] } ∷ record { block = Slashes; items = plain L ∷ [] } ∷ [])
    ∷ Declare Logical (plain A ∷ [])
    ∷ Dimension (array K (3 ∷ []) ∷ [])
    ∷ Declare Integer (plain F ∷ [])
    ∷ Assign (applied_to K (Const 1 ∷ [])) (applied_to F (bin Add (Var J) (applied_to (codes "IABS") (Var N ∷ [])) ∷ []))
    ∷ Call (codes "S") (Var K ∷ [])
    ∷ Return
    ∷ End
    ∷ Function (Some Integer) F (I ∷ [])
    ∷ Common (record { block = Slashes; items = array K (3 ∷ []) ∷ plain L ∷ [] } ∷ [])
    ∷ Assign (Var F) (Var I)
    ∷ Return
    ∷ End
    ∷ []))

abbrev pub variable : Role → Sort → Name → List Dim → DataName
variable role sort x dims = record { name = x; sort = sort; dims = dims; role = role }

abbrev pub rot_unit : Routine
rot_unit = record {
  name = codes "ROT";
  sort = None;
  head = 2;
  dummies = N ∷ [];
  names =
      variable Dummy Integer N []
      ∷ variable InCommon Integer K (dim.Fixed 3 ∷ [])
      ∷ variable InCommon Logical A []
      ∷ variable InCommon Integer L []
      ∷ variable Local Integer J []
      ∷ [];
  functions = record { name = F; sort = Integer } ∷ [];
  blocks =
      record { block = Slashes; items = array K (3 ∷ []) ∷ plain L ∷ [] }
      ∷ record { block = Named (codes "BOX"); items = plain A ∷ [] }
      ∷ [];
  lines = on_cards 7
      (Assign (applied_to K (Const 1 ∷ [])) (applied_to F (bin Add (Var J) (applied_to (codes "IABS") (Var N ∷ [])) ∷ []))
      ∷ Call (codes "S") (Var K ∷ [])
      ∷ Return
      ∷ []);
  «end» = 10;
}

abbrev pub f_unit : Routine
f_unit = record {
  name = F;
  sort = Some Integer;
  head = 11;
  dummies = I ∷ [];
  names =
      variable OwnValue Integer F []
      ∷ variable Dummy Integer I []
      ∷ variable InCommon Integer K (dim.Fixed 3 ∷ [])
      ∷ variable InCommon Integer L []
      ∷ [];
  functions = [];
  blocks = record { block = Slashes; items = array K (3 ∷ []) ∷ plain L ∷ [] } ∷ [];
  lines = on_cards 13 (Assign (Var F) (Var I) ∷ Return ∷ []);
  «end» = 15;
}

abbrev pub RotIsRead : Type 0
RotIsRead =
    (unit_fault dialect.Common rot ≡ None)
    × (deck_of rot ≡ record { units = rot_unit ∷ f_unit ∷ []; notes = note 1 (codes "BOUND 5") 0 0 ∷ [] })
    × IsWellFormed dialect.Common (deck_of rot)

-- ---- under 77: a block IF, a DO, an adjustable array

abbrev pub zero : List Piece
zero =
    map stated (on_cards 1
    (Subroutine (codes "ZERO") (K ∷ N ∷ [])
    ∷ Dimension (adjustable K N ∷ [])
    ∷ BlockIf (rel Lt (Const 0) (Var N))
    ∷ Do 10 I (parameter.Fixed 1) (parameter.Named N) None
    ∷ Assign (applied_to K (applied_to (codes "IABS") (Var I ∷ []) ∷ [])) (Const 0)
    ∷ [])
    ++ labelled 6 10 Continue
    ∷ on_cards 7 (Else ∷ Call Q [] ∷ EndIf ∷ Return ∷ End ∷ []))

abbrev pub ZeroIsRead : Type 0
ZeroIsRead = (unit_fault dialect.SeventySeven zero ≡ None) × IsWellFormed dialect.SeventySeven (deck_of zero)
