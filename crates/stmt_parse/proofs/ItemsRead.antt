-- Items, blocks and groups that are spelled are read.
use Rattle.std.proofs.Common.{◌≡◌, ℕ, zero, suc, ◌+◌, ◌<◌, true, false, Some, List, [], ◌∷◌, ◌++◌, length, codes, refl, sym, ap, ◌∙◌, append_assoc, arith}
use Rattle.std.proofs.lemmas.List.{append-nil}
use Rattle.formula.specs.Atoms.{is_digit, is_digits, is_name_byte, starts, is_name}
use Rattle.fort_syntax.specs.declared.name.Name.{Name}
use Rattle.fort_syntax.specs.declared.stmt.Dim.TheVariants as dimension
use Rattle.fort_syntax.specs.declared.stmt.Item.{Item}
use Rattle.fort_syntax.specs.declared.stmt.BlockName.{BlockName}
use Rattle.fort_syntax.specs.declared.stmt.BlockName.TheVariants as block
use Rattle.fort_syntax.specs.declared.stmt.Group.{Group}
use Rattle.fort_syntax.specs.Grammar.{comma_list, dim, item, slashed, first_block, more_groups, groups}
use Rattle.fort_syntax.specs.Misspelled.{begins}
use Rattle.stmt_parse.specs.Tokens.{◌>>=◌, after, name_at, constant_at}
use Rattle.stmt_parse.specs.Statements.{list_of, brackets_at, dim_at, item_at, slashed_at, first_block_at, group_behind, slashed_group, more_groups_at, groups_at}
use Rattle.stmt_parse.proofs.ExpressionsAnswers.{both_true}
use Rattle.stmt_parse.proofs.TokensRead.{when_true, when_false, name_read, constant_read}
use Rattle.stmt_parse.proofs.ExpressionsEnds.{no_name_byte, no_digit}
use Rattle.stmt_parse.proofs.PartEnds.{list_ends, name_apart, name_no_digit, step_to, lengths}
use Rattle.stmt_parse.proofs.ListsRead.{IsComplete, name_begins, more_ends, list_complete, brackets_complete, brackets_apart}

pub digit_first : (u r : List ℕ) → is_digits u ≡ true → starts is_digit (u ++ r) ≡ true
digit_first [] r h = absurd cc
digit_first (b ∷ u) r h = (both_true _ _ h).0

dim_complete : (n : ℕ) → IsComplete n dim_at dim
unfolding dim_at
dim_complete n (dimension.Fixed c) u r h few e =
    when_true (starts is_digit (u ++ r)) _ _ (digit_first u r h.0)
    ∙ step_to (constant_at (u ++ r)) (c, r) (λ c. Some (dimension.Fixed c.0, c.1)) _
    (constant_read c u r h (no_digit r e)) refl
dim_complete n (dimension.Named x) u r h few e =
    when_false (starts is_digit (u ++ r)) _ _ (ap (λ y. starts is_digit (y ++ r)) h.0 ∙ name_no_digit x r h.1)
    ∙ step_to (name_at (u ++ r)) (x, r) (λ x. Some (dimension.Named x.0, x.1)) _
    (name_begins x u r h (no_name_byte r e)) refl

item_complete : (n : ℕ) → IsComplete n (item_at n) item
unfolding item_at
item_complete n i u r h few e =
    let size = lengths u h.0 h.1 h.2 in
    ap (item_at n) (ap (λ y. y ++ r) h.2 ∙ append_assoc h.0 h.1 r)
    ∙ step_to (name_at (h.0 ++ (h.1 ++ r))) (i.name, h.1 ++ r) (λ x. brackets_at dim_at n x.1
    >>= λ ds. Some (record { name = x.0; dims = ds.0 }, ds.1)) _
    (name_begins i.name h.0 (h.1 ++ r) h.3 (brackets_apart dim i.dims h.1 r h.4 e))
    (step_to (brackets_at dim_at n (h.1 ++ r)) (i.dims, r) (λ ds. Some (record { name = i.name; dims = ds.0 }, ds.1)) _
    (brackets_complete dim_at dim n (dim_complete n) i.dims h.1 r h.4 (omega arith) e) refl)

pub items_complete : (n : ℕ) (is : List Item) (u r : List ℕ) → comma_list item is u → length u < n → list_ends r ≡ true
    → list_of (item_at n) n (u ++ r) ≡ Some (is, r)
items_complete n is u r h few e = list_complete (item_at n) item n (item_complete n) is u r h few e

-- a text begins with a name, and a byte of another kind is behind it
pub record Named (t : List ℕ) : Type 0 where
  pub first : Name
  pub rest : List ℕ
  pub same : t ≡ first ++ rest
  pub is : is_name first ≡ true
  pub apart : starts is_name_byte rest ≡ false

pub items_begin : (is : List Item) (u r : List ℕ) → comma_list item is u → list_ends r ≡ true → Named (u ++ r)
items_begin [] u r h e = absurd h
items_begin (i ∷ is) u r h e =
    let p = h.3 in
    record {
      first = i.name;
      rest = p.1 ++ (h.1 ++ r);
      same = ap (λ y. y ++ r) h.2 ∙ append_assoc h.0 h.1 r ∙ ap (λ y. y ++ (h.1 ++ r)) (p.2 ∙ ap (λ y. y ++ p.1) p.3.0)
          ∙ append_assoc i.name p.1 (h.1 ++ r);
      is = p.3.1;
      apart = brackets_apart dim i.dims p.1 (h.1 ++ r) p.4 (more_ends item is h.1 r h.4 e);
    }

-- ---- blocks

-- behind its first slash a block is read
abbrev Slash : BlockName → List ℕ → List ℕ → Type 0
Slash b a v = (c : List ℕ) × (a ≡ codes "/" ++ c) × (slashed_at (c ++ v) ≡ Some (b, v))

slashed_complete : (b : BlockName) (a v : List ℕ) → slashed b a → Slash b a v
unfolding slashed_at
slashed_complete block.Bare a v h = absurd h
slashed_complete block.Slashes a v h = (codes "/", h, refl)
slashed_complete (block.Named x) a v h =
    let p = h.4 in
    let text : h.1 ++ v ≡ x ++ (codes "/" ++ v) = ap (λ y. y ++ v) (p.2 ∙ (λ i. p.3.0 i ++ p.4 i))
    ∙ append_assoc x (codes "/") v in (
      h.1,
      h.2 ∙ ap (λ c. c ++ h.1) h.3,
      ap slashed_at text
          ∙ when_false (begins (codes "/") (x ++ (codes "/" ++ v))) _ _ (name_apart 47 [] x (codes "/" ++ v) refl p.3.1)
          ∙ step_to (name_at (x ++ (codes "/" ++ v))) (x, codes "/" ++ v) (λ x. after (codes "/") x.1
          >>= λ rest. Some (block.Named x.0, rest)) _
          (name_read x (codes "/" ++ v) p.3.1 refl) refl,
    )

behind_complete : (n : ℕ) (g : Group) (u r : List ℕ) → comma_list item g.items u → length u < n → list_ends r ≡ true
    → group_behind n g.block (u ++ r) ≡ Some (g, r)
unfolding group_behind
behind_complete n g u r h few e =
    step_to (list_of (item_at n) n (u ++ r)) (g.items, r)
    (λ is. Some (record { block = g.block; items = is.0 }, is.1)) _ (items_complete n g.items u r h few e) refl

groups_end : (gs : List Group) (u : List ℕ) → more_groups gs u → list_ends u ≡ true
groups_end [] u h = ap list_ends h
groups_end (g ∷ gs) u h = let s = slashed_complete g.block h.0 [] h.3 in ap list_ends (h.2 ∙ ap (λ a. a ++ h.1) s.1)

-- a block, items and what is behind them
group_cut : (u a w c v z : List ℕ) → u ≡ a ++ w → a ≡ codes "/" ++ c → w ≡ v ++ z → u ≡ codes "/" ++ (c ++ (v ++ z))
group_cut u a w c v z h k l = h ∙ (λ i. k i ++ l i) ∙ append_assoc (codes "/") c (v ++ z)

group_lengths : (u c v z : List ℕ) → u ≡ codes "/" ++ (c ++ (v ++ z))
    → length u ≡ 1 + (length c + (length v + length z))
group_lengths u c v z h =
    let p = lengths u (codes "/") (c ++ (v ++ z)) h in
    let q = lengths (c ++ (v ++ z)) c (v ++ z) refl in
    let s = lengths (v ++ z) v z refl in
    let one : length (codes "/") ≡ 1 = refl in
    omega arith

more_groups_complete : (n m : ℕ) (gs hs : List Group) (u : List ℕ) → more_groups hs u → length u < m → length u < n
    → more_groups_at n m gs u ≡ Some (gs ++ hs, [])
unfolding slashed_group
more_groups_complete n zero gs hs u h few small = absurd (omega arith)
more_groups_complete n (suc m) gs [] u h few small = ap (more_groups_at n (suc m) gs) h
    ∙ ap (λ l. Some (l, [])) (sym (append-nil gs))
more_groups_complete n (suc m) gs (g ∷ hs) u h few small =
    let p = h.4 in
    let s = slashed_complete g.block h.0 (p.0 ++ p.1) h.3 in
    let text = group_cut u h.0 h.1 s.0 p.0 p.1 h.2 s.1 p.2 in
    let size = group_lengths u s.0 p.0 p.1 text in
    let read : slashed_group n (s.0 ++ (p.0 ++ p.1)) ≡ Some (g, p.1) =
    step_to (slashed_at (s.0 ++ (p.0 ++ p.1))) (g.block, p.0 ++ p.1) (λ b. group_behind n b.0 b.1) _ s.2
    (behind_complete n g p.0 p.1 p.3 (omega arith) (groups_end hs p.1 p.4)) in
    ap (more_groups_at n (suc m) gs) text
    ∙ step_to (slashed_group n (s.0 ++ (p.0 ++ p.1))) (g, p.1) (λ g. more_groups_at n m (gs ++ g.0 ∷ []) g.1) _ read
    (more_groups_complete n m (gs ++ g ∷ []) hs p.1 p.4 (omega arith) (omega arith))
    ∙ ap (λ l. Some (l, [])) (append_assoc gs (g ∷ []) hs)

slash_first : (b : BlockName) (a v : List ℕ) → Slash b a v → first_block_at (a ++ v) ≡ Some (b, v)
unfolding first_block_at
slash_first b a v s = ap (λ y. first_block_at (y ++ v)) s.1 ∙ s.2

first_complete : (b : BlockName) (is : List Item) (a v z : List ℕ) → first_block b a → comma_list item is v
    → list_ends z ≡ true → first_block_at (a ++ (v ++ z)) ≡ Some (b, v ++ z)
unfolding first_block_at
first_complete block.Bare is a v z h k e =
    let q = items_begin is v z k e in
    ap (λ y. first_block_at (y ++ (v ++ z))) h
    ∙ when_false (begins (codes "/") (v ++ z)) _ _ (ap (begins (codes "/")) q.same
    ∙ name_apart 47 [] q.first q.rest refl q.is)
first_complete block.Slashes is a v z h k e = slash_first block.Slashes a (v ++ z)
    (slashed_complete block.Slashes a (v ++ z) h)
first_complete (block.Named x) is a v z h k e = slash_first (block.Named x) a (v ++ z)
    (slashed_complete (block.Named x) a (v ++ z) h)

pub groups_complete : (n : ℕ) (gs : List Group) (u : List ℕ) → groups gs u → length u < n
    → groups_at n u ≡ Some (gs, [])
unfolding groups_at
groups_complete n [] u h few = absurd h
groups_complete n (g ∷ gs) u h few =
    let p = h.4 in
    let ends = groups_end gs p.1 p.4 in
    let size = lengths u h.0 h.1 h.2 in
    let behind = lengths h.1 p.0 p.1 p.2 in
    ap (groups_at n) (h.2 ∙ ap (λ y. h.0 ++ y) p.2)
    ∙ step_to (first_block_at (h.0 ++ (p.0 ++ p.1))) (g.block, p.0 ++ p.1) (λ b. group_behind n b.0 b.1
    >>= λ g. more_groups_at n n (g.0 ∷ []) g.1) _
    (first_complete g.block g.items h.0 p.0 p.1 h.3 p.3 ends)
    (step_to (group_behind n g.block (p.0 ++ p.1)) (g, p.1) (λ g. more_groups_at n n (g.0 ∷ []) g.1) _
    (behind_complete n g p.0 p.1 p.3 (omega arith) ends)
    (more_groups_complete n n (g ∷ []) gs p.1 p.4 (omega arith) (omega arith)))
