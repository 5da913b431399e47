-- The first statement on an uncut cycle has the least card.
use Rattle.std.proofs.Common.{◌≡◌, ℕ, zero, suc, ◌<◌, ◌≤◌, ◌⊎◌, inl, inr, Bool, true, false, ◌&&◌, IsTrue, List, [], ◌∷◌, Option, Some, None, slice_get, refl, sym, ap, ◌∙◌, subst, arith}
use Rattle.std.specs.Prelude.{nat_lt}
use Rattle.std.proofs.lemmas.Bool.{cases_lt}
use Rattle.std.proofs.lemmas.Bool.Decides.{nat_tests}
use Rattle.fort_syntax.specs.DeckOrder.{stand_between}
use Rattle.fort_syntax.specs.FirstFaults.{IsAtMost}
use Rattle.fort_syntax.specs.Rules.{rule_number}
use Rattle.fort_syntax.specs.declared.dialect.Dialect.{Dialect}
use Rattle.fort_syntax.specs.declared.rule.Rule.{Rule}
use Rattle.fort_syntax.specs.declared.rule.Rule.TheVariants.{UncutCycle}
use Rattle.fort_syntax.specs.declared.unit.Line.{Line}
use Rattle.fort_syntax.specs.declared.unit.Unit.{Unit as Routine}
use Rattle.fort_model.specs.Paths.{Uncut as UncutWay}
use Rattle.fort_model.specs.Program.{notes_of}
use Rattle.flow_cycles.specs.declared.graphs.Routes.TheVariants.{Uncut}
use Rattle.flow_cycles.specs.Routes.{IsFirstUncut, TellsFirstUncut, TellsRoutes}

none_some : {X : Type 0} (a : X) → ◌≡◌ {A = Option X} None (Some a) → ⊥
none_some a e = cc

some_is : {X : Type 0} (a b : X) → ◌≡◌ {A = Option X} (Some a) (Some b) → a ≡ b
some_is a b e = cc

both : (a b : Bool) → (a && b) ≡ true → (a ≡ true) × (b ≡ true)
both true b h = (refl, h)
both false b h = (cc, cc)

is_less : (a b : ℕ) → nat_lt a b ≡ true → a < b
is_less a b h = grind (arith, nat_tests)

-- ---- cards ascend

card_above : (low : ℕ) (lines : List Line) (high : ℕ) → stand_between low lines high ≡ true → (q : ℕ) (b : Line) → slice_get lines q ≡ Some b → low < b.card
card_above low [] high order q b e = absurd (none_some b e)
card_above low (line ∷ lines) high order zero b e =
    subst (λ (l : Line). low < l.card) (some_is line b e) (is_less low line.card (both (nat_lt low line.card) (stand_between line.card lines high) order).0)
card_above low (line ∷ lines) high order (suc q) b e =
    let parts = both (nat_lt low line.card) (stand_between line.card lines high) order in
    let first = is_less low line.card parts.0 in
    let rest = card_above line.card lines high parts.1 q b e in
    (let done : low < b.card = omega (arith, first, rest) in done)

cards_ascend : (low : ℕ) (lines : List Line) (high : ℕ) → stand_between low lines high ≡ true → (p q : ℕ) (a b : Line)
    → slice_get lines p ≡ Some a → slice_get lines q ≡ Some b → p < q → a.card < b.card
cards_ascend low [] high order p q a b ea eb lt = absurd (none_some a ea)
cards_ascend low (line ∷ lines) high order p zero a b ea eb lt = absurd (omega (arith, lt))
cards_ascend low (line ∷ lines) high order zero (suc q) a b ea eb lt =
    let parts = both (nat_lt low line.card) (stand_between line.card lines high) order in
    subst (λ (l : Line). l.card < b.card) (some_is line a ea) (card_above line.card lines high parts.1 q b eb)
cards_ascend low (line ∷ lines) high order (suc p) (suc q) a b ea eb lt =
    let parts = both (nat_lt low line.card) (stand_between line.card lines high) order in
    cards_ascend line.card lines high parts.1 p q a b ea eb (omega (arith, lt))

-- ---- the least card

same_number : (rule other : Rule) → other ≡ rule → rule_number rule ≤ rule_number other
same_number rule other e = subst (λ (r : Rule). rule_number rule ≤ rule_number r) (sym e) (omega arith)

module _ (dialect : Dialect) (u : Routine) (order : IsTrue (stand_between u.head u.lines u.«end»)) where
  at_least : (point q : ℕ) (line other : Line) (rule : Rule) → slice_get u.lines point ≡ Some line → slice_get u.lines q ≡ Some other → rule ≡ UncutCycle
      → (q < point → ⊥) → IsAtMost UncutCycle line.card rule other.card
  at_least point q line other rule at at' same not_before = by (cases_lt point q)
    where
      equal : q ≤ point → point ≡ q
      equal le = pick (cases_lt q point)
        where
          pick : (q < point) ⊎ (point ≤ q) → point ≡ q
          pick (inl lt) = absurd (not_before lt)
          pick (inr ge) = omega (arith, ge, le)

      by : (point < q) ⊎ (q ≤ point) → IsAtMost UncutCycle line.card rule other.card
      by (inl lt) = inl (cards_ascend u.head u.lines u.«end» order point q line other at at' lt)
      by (inr le) =
          let one : line ≡ other = some_is line other (sym at ∙ ap (λ k. slice_get u.lines k) (equal le) ∙ at') in
          inr (ap (λ (l : Line). l.card) one, same_number UncutCycle rule same)

  pub uncut_tells : (cuts : List ℕ) (point : ℕ) (line : Line) → slice_get u.lines point ≡ Some line → TellsFirstUncut dialect u cuts point
      → TellsRoutes dialect u cuts (Uncut (record { rule = UncutCycle; card = line.card }))
  uncut_tells cuts point line at tells p i same stand =
      let first : IsFirstUncut dialect u (notes_of p i) point = tells (notes_of p i) stand in (
        (
          (refl, record { point = point; line = line; at = at; is_card = refl; cycle = subst (λ d. UncutWay d u (notes_of p i) point point) (sym same) first.cycle }),
          λ rule card h.
              subst (λ n. IsAtMost UncutCycle line.card rule n) h.1.is_card
              (at_least point h.1.point line h.1.line rule at h.1.at h.0
              (λ lt. first.first h.1.point lt (subst (λ d. UncutWay d u (notes_of p i) h.1.point h.1.point) same h.1.cycle))),
        ),
        tt,
      )
