-- What a token leads to.
use Rattle.std.proofs.Common.{◌≡◌, ℕ, ◌<◌, ◌≤◌, Bool, true, false, List, [], ◌∷◌, ◌++◌, length, refl, sym, ap, ◌∙◌, subst, arith, length-append}
use Rattle.std.specs.Prelude.{◌≢◌, ◌&&◌, Option}
use Rattle.formula.specs.declared.fault.ReadFault.TheVariants.{BadAtom, BadCount, TooDeep}
use Rattle.formula.specs.declared.function.BuiltIn.{BuiltIn as Builtin}
use Rattle.formula.specs.declared.function.BuiltIn.TheVariants.{Blank}
use Rattle.formula.specs.declared.function.Func.TheVariants.{BuiltIn}
use Rattle.formula.specs.declared.node.Node.{Node}
use Rattle.formula.specs.declared.node.TermId.{TermId}
use Rattle.formula.specs.declared.open_calls.OpenCall.{OpenCall}
use Rattle.formula.specs.declared.open_calls.Due.TheVariants.{Term}
use Rattle.formula.specs.Functions.{arity_of, fits_count}
use Rattle.formula.specs.Tree.{Tree, Row, is_blank_row, takes, tree_row, row_count}
use Rattle.formula.specs.Pool.{AllBelow, Grows, IsIn, tree_at, tree_of, trees, row_in}
use Rattle.formula.specs.Reading.{Frame, going, stopped, given, entry_closed, closed_read, opened_read, is_deepest, is_entry, is_empty_list, wants_symbol}
use Rattle.formula.specs.OpenCalls.{trees_in, frames_of, state_of, CallsBelow, Stands}
use Rattle.formula.proofs.Grown.{tree_of-Grows}

-- ---- trees of ids

trees_in-append : (ts : List Tree) (xs ys : List TermId) → trees_in ts (xs ++ ys) ≡ trees_in ts xs ++ trees_in ts ys
trees_in-append ts [] ys = refl
trees_in-append ts (x ∷ xs) ys = ap (λ r. tree_at ts x.place ∷ r) (trees_in-append ts xs ys)

pub length-trees_in : (ts : List Tree) (ids : List TermId) → length (trees_in ts ids) ≡ length ids
length-trees_in ts [] = refl
length-trees_in ts (id ∷ ids) = let h = length-trees_in ts ids in omega arith

pub tree_row-trees_in : (ts : List Tree) (ids : List TermId) → tree_row (trees_in ts ids) ≡ row_in ts ids
tree_row-trees_in ts [] = refl
tree_row-trees_in ts (id ∷ ids) = ap (λ r. Row.more (tree_at ts id.place) r) (tree_row-trees_in ts ids)

pub row_count-row_in : (ts : List Tree) (ids : List TermId) → row_count (row_in ts ids) ≡ length ids
row_count-row_in ts [] = refl
row_count-row_in ts (id ∷ ids) = let h = row_count-row_in ts ids in omega arith

-- a built-in function but BLANK goes by the number of its arguments
pub takes_count : (f : Builtin) (row : Row) → f ≢ Blank → takes (BuiltIn f) row ≡ fits_count (arity_of f) (row_count row)
takes_count Blank row h = absurd (h refl)
takes_count _ row h = refl

two_closed : (t u : Tree) (ts : List Tree) (frames : List Frame) → entry_closed (t ∷ u ∷ ts) frames ≡ stopped BadCount
two_closed (Tree.num z) u ts frames = refl
two_closed (Tree.truth b) u ts frames = refl
two_closed (Tree.symbol s) u ts frames = refl
two_closed (Tree.old s) u ts frames = refl
two_closed (Tree.apply f row) u ts frames = refl

-- ---- a pool that grows

AllBelow-append : (n : ℕ) (xs : List TermId) (id : TermId) → AllBelow n xs → id.place < n → AllBelow n (xs ++ id ∷ [])
AllBelow-append n [] id h lt = (lt, tt)
AllBelow-append n (x ∷ xs) id h lt = (h.0, AllBelow-append n xs id h.1 lt)

AllBelow-more : (m n : ℕ) (xs : List TermId) → m ≤ n → AllBelow m xs → AllBelow n xs
AllBelow-more m n [] le h = tt
AllBelow-more m n (x ∷ xs) le h = (let lt = h.0 in omega arith, AllBelow-more m n xs le h.1)

CallsBelow-more : (m n : ℕ) (calls : List OpenCall) → m ≤ n → CallsBelow m calls → CallsBelow n calls
CallsBelow-more m n [] le h = tt
CallsBelow-more m n (c ∷ calls) le h = (AllBelow-more m n c.args.items le h.0, CallsBelow-more m n calls le h.1)

length-Grows : (old new : List Node) → Grows old new → length old ≤ length new
length-Grows old new g =
    let long : length new ≡ length (old ++ g.added) = ap length g.is in
    omega (arith, simp length-append at long)

pub CallsBelow-Grows : (old new : List Node) (calls : List OpenCall) → Grows old new → CallsBelow (length old) calls → CallsBelow (length new) calls
CallsBelow-Grows old new calls g h = CallsBelow-more (length old) (length new) calls (length-Grows old new g) h

trees_in-Grows : (old new : List Node) (ids : List TermId) → Grows old new → AllBelow (length old) ids → trees_in (trees new) ids ≡ trees_in (trees old) ids
trees_in-Grows old new [] g h = refl
trees_in-Grows old new (id ∷ ids) g h = λ i. tree_of-Grows old new id g h.0 i ∷ trees_in-Grows old new ids g h.1 i

pub frames_of-Grows : (old new : List Node) (calls : List OpenCall) → Grows old new → CallsBelow (length old) calls → frames_of (trees new) calls ≡ frames_of (trees old) calls
frames_of-Grows old new [] g h = refl
frames_of-Grows old new (c ∷ calls) g h =
    λ i. record { head = c.head; args = trees_in-Grows old new c.args.items g h.0 i } ∷ frames_of-Grows old new calls g h.1 i

-- ---- a term that is whole

some_last : (xs : List Tree) (t : Tree) → is_empty_list (xs ++ t ∷ []) ≡ false
some_last [] t = refl
some_last (x ∷ xs) t = refl

and_false : (x y : Bool) → y ≡ false → (x && y) ≡ false
and_false true y h = h
and_false false y h = refl

-- it is kept as the last argument of the innermost bracket
pub kept : (pool : List Node) (calls calls' rest : List OpenCall) (call call' : OpenCall) (id : TermId) → calls ≡ call ∷ rest → calls' ≡ call' ∷ rest → call'.head ≡ call.head
    → call'.args.items ≡ call.args.items ++ id ∷ [] → IsIn pool id → CallsBelow (length pool) calls
    → Stands pool Term calls' × (given (tree_of pool id) (frames_of (trees pool) calls) ≡ going (state_of (trees pool) Term calls'))
kept pool calls calls' rest call call' id e e' head items within below =
    let ts = trees pool in
    let n = length pool in
    let args : trees_in ts call'.args.items ≡ trees_in ts call.args.items ++ tree_of pool id ∷ [] = ap (trees_in ts) items ∙ trees_in-append ts call.args.items (id ∷ []) in
    let after : frames_of ts calls' ≡ record { head = call.head; args = trees_in ts call.args.items ++ tree_of pool id ∷ [] } ∷ frames_of ts rest =
    ap (frames_of ts) e' ∙ (λ i. record { head = head i; args = args i } ∷ frames_of ts rest) in
    let known : CallsBelow n (call ∷ rest) = subst (CallsBelow n) e below in
    let last : AllBelow n call'.args.items = subst (AllBelow n) (sym items) (AllBelow-append n call.args.items id known.0 within) in (
      (
        subst (CallsBelow n) (sym e') (last, known.1),
        ap wants_symbol after ∙ and_false (is_entry call.head) _ (some_last (trees_in ts call.args.items) (tree_of pool id)),
      ),
      ap (λ fs. given (tree_of pool id) (frames_of ts fs)) e ∙ sym (ap (λ fs. going (record { naming = false; frames = fs })) after),
    )

-- ids and their trees, counted
pub ruleset counts = (length-trees_in, tree_row-trees_in, row_count-row_in)

-- BLANK and OLD take one argument
pub blank_takes_one : (ts : List Tree) (ids : List TermId) → length ids ≢ 1 → is_blank_row (row_in ts ids) ≡ false
blank_takes_one ts [] h = refl
blank_takes_one ts (a ∷ []) h = absurd (h refl)
blank_takes_one ts (a ∷ (b ∷ rest)) h = refl

pub old_takes_one : (ts : List Tree) (ids : List TermId) (frames : List Frame) → length ids ≢ 1 → entry_closed (trees_in ts ids) frames ≡ stopped BadCount
old_takes_one ts [] frames h = refl
old_takes_one ts (a ∷ []) frames h = absurd (h refl)
old_takes_one ts (a ∷ (b ∷ rest)) frames h = two_closed (tree_at ts a.place) (tree_at ts b.place) (trees_in ts rest) frames

-- the same where the pool grew while the term was made
pub kept_later : (before pool : List Node) (t : Tree) (calls calls' rest : List OpenCall) (call call' : OpenCall) (id : TermId) → calls ≡ call ∷ rest → calls' ≡ call' ∷ rest
    → call'.head ≡ call.head → call'.args.items ≡ call.args.items ++ id ∷ [] → Grows before pool → CallsBelow (length before) calls → IsIn pool id → tree_of pool id ≡ t
    → Stands pool Term calls' × (given t (frames_of (trees before) calls) ≡ going (state_of (trees pool) Term calls'))
kept_later before pool t calls calls' rest call call' id e e' head items g below within tree =
    let k = kept pool calls calls' rest call call' id e e' head items within (CallsBelow-Grows before pool calls g below) in
    (k.0, (λ i. given (sym tree i) (sym (frames_of-Grows before pool calls g below) i)) ∙ k.1)

length-frames_of : (ts : List Tree) (calls : List OpenCall) → length (frames_of ts calls) ≡ length calls
length-frames_of ts [] = refl
length-frames_of ts (c ∷ calls) = let h = length-frames_of ts calls in omega arith

-- one more bracket where as many are open as may be, and where there is room
pub opened_deep : (limit : Option ℕ) (ts : List Tree) (calls : List OpenCall) → wants_symbol (frames_of ts calls) ≡ false → is_deepest limit (length calls) ≡ true
    → opened_read limit (frames_of ts calls) ≡ stopped TooDeep
opened_deep limit ts calls h deep =
    let test : is_deepest limit (length (frames_of ts calls)) ≡ true = ap (is_deepest limit) (length-frames_of ts calls) ∙ deep in
    rw (h, test) refl

pub opened_room : (limit : Option ℕ) (ts : List Tree) (calls : List OpenCall) → wants_symbol (frames_of ts calls) ≡ false → is_deepest limit (length calls) ≡ false
    → opened_read limit (frames_of ts calls) ≡ going (record { naming = true; frames = frames_of ts calls })
opened_room limit ts calls h room =
    let test : is_deepest limit (length (frames_of ts calls)) ≡ false = ap (is_deepest limit) (length-frames_of ts calls) ∙ room in
    rw (h, test) refl

-- a bracket where the symbol of an OLD is due
pub closed_wanted : (frames : List Frame) → wants_symbol frames ≡ true → closed_read frames ≡ stopped BadAtom
closed_wanted [] h = cc
closed_wanted (f ∷ rest) h = rw h refl
