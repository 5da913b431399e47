-- What a cell in sixteen bytes stands for.
use Rattle.formula.specs.declared.value.Cell.{Cell}
use Rattle.formula.specs.declared.value.Cell.TheVariants as cell
use Rattle.std.specs.Prelude.{◌≡◌, refl}
use Rattle.run_held.specs.declared.held.Content.{Content}
use Rattle.run_held.specs.declared.held.Held.TheInside.{Inside}
use Rattle.run_held.specs.declared.held.Content.TheVariants.{Int, Logical, Undefined}

-- the cell with this content
abbrev pub cell_of : Content → Cell
cell_of (Int n) = cell.Int n
cell_of (Logical b) = cell.Logical b
cell_of Undefined = cell.Undefined

-- the content of a cell
abbrev pub content_of : Cell → Content
content_of (cell.Int n) = Int n
content_of (cell.Logical b) = Logical b
content_of cell.Undefined = Undefined

-- the sixteen bytes of a cell
abbrev pub held_of : Cell → Inside
held_of c = record { content = content_of c }

same_content : (c : Content) → content_of (cell_of c) ≡ c
same_content (Int n) = refl
same_content (Logical b) = refl
same_content Undefined = refl

-- the content gives the cell back
pub held_of_cell : (a : Inside) → Unit {0} → held_of (cell_of a.content) ≡ a
held_of_cell a _ = let p = same_content a.content in λ i. record { content = p i }
