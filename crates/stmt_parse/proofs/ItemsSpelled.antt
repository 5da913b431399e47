-- The item, the block or the groups that are read are spelled by the text before what is left.
use Rattle.std.proofs.Common.{◌≡◌, ℕ, zero, suc, true, Some, List, [], ◌∷◌, ◌++◌, drop, codes, inl, inr, refl, sym, ap, ◌∙◌, subst, append_assoc}
use Rattle.std.proofs.lemmas.List.{append-nil}
use Rattle.formula.specs.Atoms.{is_digit, starts}
use Rattle.fort_syntax.specs.declared.stmt.Dim.TheVariants as dimension
use Rattle.fort_syntax.specs.declared.stmt.BlockName.{BlockName}
use Rattle.fort_syntax.specs.declared.stmt.BlockName.TheVariants as block
use Rattle.fort_syntax.specs.declared.stmt.Group.{Group}
use Rattle.fort_syntax.specs.Spelled.{Texts, ◌⨾◌}
use Rattle.fort_syntax.specs.Grammar.{comma_list, dim, item, slashed, first_block, more_groups, groups}
use Rattle.fort_syntax.specs.Misspelled.{begins}
use Rattle.stmt_parse.specs.Tokens.{◌>>=◌, after, name_at, constant_at}
use Rattle.stmt_parse.specs.Statements.{list_of, brackets_at, dim_at, item_at, slashed_at, first_block_at, group_behind, slashed_group, more_groups_at, groups_at}
use Rattle.std.proofs.lemmas.Option.{same_Some}
use Rattle.stmt_parse.proofs.ExpressionsAnswers.{Begun, first_step, by_test, begun, followed}
use Rattle.stmt_parse.proofs.Readings.{IsSound, word_begun}
use Rattle.stmt_parse.proofs.TokensSpelled.{name_begun, constant_begun}
use Rattle.stmt_parse.proofs.ListsSpelled.{list_spelled, brackets_spelled}

pub dim_spelled : IsSound dim_at dim
unfolding dim_at
dim_spelled t z h = elim (by_test (starts is_digit t) (constant_at t
    >>= λ c. Some (dimension.Fixed c.0, c.1)) (name_at t >>= λ x. Some (dimension.Named x.0, x.1)) (Some z) h) [
      | inl p ↦
          let c = first_step (constant_at t) (λ c. Some (dimension.Fixed c.0, c.1)) z p.1 in
          subst (λ y. Begun (dim y.0) t y.1) (same_Some (dimension.Fixed c.0.0, c.0.1) z c.2) (constant_begun t c.0 c.1)
      | inr p ↦
          let x = first_step (name_at t) (λ x. Some (dimension.Named x.0, x.1)) z p.1 in
          subst (λ y. Begun (dim y.0) t y.1) (same_Some (dimension.Named x.0.0, x.0.1) z x.2) (name_begun t x.0 x.1)
    ]

pub item_spelled : (n : ℕ) → IsSound (item_at n) item
unfolding item_at
item_spelled n t z h =
    let x = first_step (name_at t) _ z h in
    let ds = first_step (brackets_at dim_at n x.0.1) _ z x.2 in
    subst (λ y. Begun (item y.0) t y.1) (same_Some (record { name = x.0.0; dims = ds.0.0 }, ds.0.1) z ds.2)
    (followed _ _ t x.0.1 ds.0.1 (name_begun t x.0 x.1) (brackets_spelled dim_at dim dim_spelled n x.0.1 ds.0 ds.1))

pub items_spelled : (n : ℕ) → IsSound (list_of (item_at n) n) (comma_list item)
items_spelled n = list_spelled (item_at n) item (item_spelled n) n

-- behind the first slash of a block
slash_begun : (t r : List ℕ) (b : BlockName) → begins (codes "/") t ≡ true
    → Begun (λ x. slashed b (codes "/" ++ x)) (drop 1 t) r → Begun (slashed b) t r
slash_begun t r b h p = (codes "/" ++ p.0, begun (codes "/") t h ∙ ap (λ x. codes "/" ++ x) p.1, p.2)

slashed_spelled : (t : List ℕ) (z : BlockName × List ℕ) → slashed_at t ≡ Some z
    → Begun (λ x. slashed z.0 (codes "/" ++ x)) t z.1
unfolding slashed_at
slashed_spelled t z h = elim (by_test (begins (codes "/") t) (Some (block.Slashes, drop 1 t)) (name_at t
    >>= λ x. after (codes "/") x.1 >>= λ rest. Some (block.Named x.0, rest)) (Some z) h) [
      | inl p ↦ subst (λ y. Begun (λ x. slashed y.0 (codes "/" ++ x)) t y.1) (same_Some (block.Slashes, drop 1 t) z p.1)
          (codes "/", begun (codes "/") t p.0, refl)
      | inr p ↦
          let x = first_step (name_at t) (λ x. after (codes "/") x.1 >>= λ rest. Some (block.Named x.0, rest)) z p.1 in
          let rest = first_step (after (codes "/") x.0.1) (λ rest. Some (block.Named x.0.0, rest)) z x.2 in
          let b = followed _ _ t x.0.1 rest.0 (name_begun t x.0 x.1) (word_begun (codes "/") x.0.1 rest.0 rest.1) in
          subst (λ y. Begun (λ x. slashed y.0 (codes "/" ++ x)) t y.1) (same_Some (block.Named x.0.0, rest.0) z rest.2)
          (b.0, b.1, (codes "/", b.0, refl, refl, b.2))
    ]

-- a block that is spelled in slashes may stand first
may_stand_first : (b : BlockName) (x : List ℕ) → slashed b x → first_block b x
may_stand_first block.Bare x h = absurd h
may_stand_first block.Slashes x h = h
may_stand_first (block.Named y) x h = h

first_spelled : IsSound first_block_at first_block
unfolding first_block_at
first_spelled t z h = elim (by_test (begins (codes "/") t) (slashed_at (drop 1 t)) (Some (block.Bare, t)) (Some z) h) [
  | inl p ↦ let b = slash_begun t z.1 z.0 p.0 (slashed_spelled (drop 1 t) z p.1) in
      (b.0, b.1, may_stand_first z.0 b.0 b.2)
  | inr p ↦ subst (λ y. Begun (first_block y.0) t y.1) (same_Some (block.Bare, t) z p.1) ([], refl, refl)
]

behind_spelled : (n : ℕ) (b : BlockName) (t : List ℕ) (z : Group × List ℕ) → group_behind n b t ≡ Some z
    → (z.0.block ≡ b) × Begun (comma_list item z.0.items) t z.1
unfolding group_behind
behind_spelled n b t z h =
    let is = first_step (list_of (item_at n) n t) _ z h in
    subst (λ y. (y.0.block ≡ b) × Begun (comma_list item y.0.items) t y.1)
    (same_Some (record { block = b; items = is.0.0 }, is.0.1) z is.2)
    (refl, items_spelled n t is.0 is.1)

slashed_group_spelled : (n : ℕ) (t : List ℕ) (z : Group × List ℕ) → begins (codes "/") t ≡ true
    → slashed_group n (drop 1 t) ≡ Some z
    → Begun (slashed z.0.block ⨾ comma_list item z.0.items) t z.1
unfolding slashed_group
slashed_group_spelled n t z s h =
    let b = first_step (slashed_at (drop 1 t)) _ z h in
    let g = behind_spelled n b.0.0 b.0.1 z b.2 in
    let first = slash_begun t b.0.1 b.0.0 s (slashed_spelled (drop 1 t) b.0 b.1) in
    followed _ _ t b.0.1 z.1 (subst (λ y. Begun (slashed y) t b.0.1) (sym g.0) first) g.1

-- what was added to groups is spelled
abbrev More : List Group → List ℕ → List Group × List ℕ → Type 0
More gs t z = (hs : List Group) × (z.0 ≡ gs ++ hs) × Begun (more_groups hs) t z.1

regroup : {P Q R : Texts} (t r : List ℕ) → Begun ((P ⨾ Q) ⨾ R) t r → Begun (P ⨾ Q ⨾ R) t r
regroup t r b =
    let p = b.2 in
    let q = p.3 in (
      b.0,
      b.1,
      (
        q.0,
        q.1 ++ p.1,
        p.2 ∙ ap (λ x. x ++ p.1) q.2
            ∙ append_assoc q.0 q.1 p.1,
        q.3,
        (q.1, p.1, refl, q.4, p.4),
      ),
    )

one_group : (gs : List Group) (t : List ℕ) (g : Group × List ℕ) (z : List Group × List ℕ)
    → Begun (slashed g.0.block ⨾ comma_list item g.0.items) t g.1 → More (gs ++ g.0 ∷ []) g.1 z → More gs t z
one_group gs t g z first more =
    (g.0 ∷ more.0, more.1 ∙ append_assoc gs (g.0 ∷ []) more.0, regroup t z.1 (followed _ _ t g.1 z.1 first more.2))

more_groups_spelled : (n m : ℕ) (gs : List Group) (t : List ℕ) (z : List Group × List ℕ)
    → more_groups_at n m gs t ≡ Some z → More gs t z
more_groups_spelled n zero gs t z h = absurd cc
more_groups_spelled n (suc m) gs t z h =
    elim (by_test (begins (codes "/") t) (slashed_group n (drop 1 t)
    >>= λ g. more_groups_at n m (gs ++ g.0 ∷ []) g.1) (Some (gs, t)) (Some z) h) [
      | inl p ↦
          let g = first_step (slashed_group n (drop 1 t)) (λ g. more_groups_at n m (gs ++ g.0 ∷ []) g.1) z p.1 in
          one_group gs t g.0 z (slashed_group_spelled n t g.0 p.0 g.1)
          (more_groups_spelled n m (gs ++ g.0.0 ∷ []) g.0.1 z g.2)
      | inr p ↦ subst (More gs t) (same_Some (gs, t) z p.1) ([], sym (append-nil gs), ([], refl, refl))
    ]

pub groups_spelled : (n : ℕ) → IsSound (groups_at n) groups
unfolding groups_at
groups_spelled n t z h =
    let b = first_step (first_block_at t) _ z h in
    let g = first_step (group_behind n b.0.0 b.0.1) _ z b.2 in
    let s = behind_spelled n b.0.0 b.0.1 g.0 g.1 in
    let m = more_groups_spelled n n (g.0.0 ∷ []) g.0.1 z g.2 in
    let first = subst (λ y. Begun (first_block y) t b.0.1) (sym s.0) (first_spelled t b.0 b.1) in
    subst (λ l. Begun (groups l) t z.1) (sym m.1)
    (followed _ _ t b.0.1 z.1 first (followed _ _ b.0.1 g.0.1 z.1 s.1 m.2))
