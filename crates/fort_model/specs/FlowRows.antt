-- Where the statements of small decks lead.
use Rattle.std.specs.Prelude.{◌≡◌, [], ◌∷◌, Some, None}
use Rattle.fort_syntax.specs.declared.dialect.Dialect.TheVariants.{Common, SeventySeven}
use Rattle.fort_model.specs.Flow.{leads_at}
use Rattle.fort_model.specs.FormRows.{passing_over}
use Rattle.fort_model.specs.Rows.{sign, twice, pick}

-- a true condition goes on in the block, a false one at the next branch, and the end of a block at the END IF
abbrev pub FlowOfBlocks : Type 0
FlowOfBlocks =
    (leads_at SeventySeven sign 0 (1 ∷ []) ≡ Some 1)
    × (leads_at SeventySeven sign 0 (2 ∷ []) ≡ Some 2)
    × (leads_at SeventySeven sign 1 [] ≡ Some 6)
    × (leads_at SeventySeven sign 2 (2 ∷ []) ≡ Some 4)
    × (leads_at SeventySeven sign 3 [] ≡ Some 6)
    × (leads_at SeventySeven sign 5 [] ≡ Some 6)
    × (leads_at SeventySeven sign 7 [] ≡ Some 8)

-- behind the last statement of two DOs the inner one is tested first
abbrev pub FlowOfLoops : Type 0
FlowOfLoops =
    (leads_at Common twice 0 [] ≡ Some 1)
    × (leads_at Common twice 2 (1 ∷ []) ≡ Some 2)
    × (leads_at Common twice 2 (2 ∷ []) ≡ None)
    × (leads_at Common twice 2 (2 ∷ 1 ∷ []) ≡ Some 1)
    × (leads_at Common twice 2 (2 ∷ 2 ∷ []) ≡ Some 3)

-- under 77 a DO may be passed over: then the DO around it is tested
abbrev pub FlowPastLoops : Type 0
FlowPastLoops =
    (leads_at SeventySeven passing_over 0 (2 ∷ []) ≡ Some 3)
    × (leads_at SeventySeven passing_over 1 (1 ∷ []) ≡ Some 2)
    × (leads_at SeventySeven passing_over 1 (2 ∷ []) ≡ None)
    × (leads_at SeventySeven passing_over 1 (2 ∷ 1 ∷ []) ≡ Some 1)
    × (leads_at SeventySeven passing_over 1 (2 ∷ 2 ∷ []) ≡ Some 3)

-- a computed GO TO with two labels has a third choice under 77
abbrev pub FlowOfChoices : Type 0
FlowOfChoices =
    (leads_at Common pick 1 (2 ∷ []) ≡ Some 5)
    × (leads_at Common pick 1 (3 ∷ []) ≡ None)
    × (leads_at SeventySeven pick 1 (1 ∷ []) ≡ Some 3)
    × (leads_at SeventySeven pick 1 (3 ∷ []) ≡ Some 2)
