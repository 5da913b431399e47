-- Tables that agree on the units that a unit calls say the same of what it smashes.
use Rattle.std.proofs.Common.{◌≡◌, ℕ, Bool, ◌&&◌, ◌||◌, List, map, Option, Some, None, slice_get, refl, ap}
use Rattle.std.specs.List.{filter}
use Rattle.formula.specs.Atoms.{is_among}
use Rattle.fort_syntax.specs.Names.{has_common, commons}
use Rattle.fort_syntax.specs.declared.name.Name.{Name}
use Rattle.fort_syntax.specs.declared.unit.Line.{Line}
use Rattle.fort_syntax.specs.declared.unit.Unit.{Unit as Routine}
use Rattle.fort_model.specs.CallRules.{in_unit, of_unit, bare_names, smashed_at, stmt_smashes}
use Rattle.fort_model.specs.Calls.{CallSite, Calls, sites_of, callee_of}
use Rattle.fort_model.specs.Lists.{IsAmong}
use Rattle.fort_model.specs.Program.{names_if_any}
use Rattle.fort_model.specs.Smashes.{set_by}
use Rattle.smash_laws.specs.Ordered.{with_table, unit_smashes, smashed_row}
use Rattle.smash_laws.proofs.Tests.{any_same, filter_same}

-- two tables say the same of each unit that one calls
abbrev pub Agree : List Routine → List (List Name) → List (List Name) → ℕ → Type 0
Agree units t s i = (j : ℕ) → Calls units i j → slice_get t j ≡ slice_get s j

module _ (units : List Routine) (t s : List (List Name)) (i : ℕ) (u : Routine) (is : slice_get units i ≡ Some u) (agree : Agree units t s i) where
  -- by what a called unit smashes, whether a call smashes a name
  abbrev by_row : CallSite → Name → Routine → Option (List Name) → Bool
  by_row site x g row =
      is_among x (bare_names (λ y. is_among y (names_if_any row)) g.dummies site.actuals)
      || is_among x (filter (λ y. has_common g y && is_among y (names_if_any row)) (commons u))

  site_same : (line : Line) → IsAmong line u.lines → (x : Name) (site : CallSite) → IsAmong site (sites_of u line.stmt)
      → of_unit (with_table units t) (callee_of units site) (smashed_at (with_table units t) u site x) ≡ of_unit (with_table units s) (callee_of units site) (smashed_at (with_table units s) u site x)
  site_same line m x site k = by_callee (callee_of units site) refl
    where
      by_callee : (o : Option ℕ) → callee_of units site ≡ o
          → of_unit (with_table units t) o (smashed_at (with_table units t) u site x) ≡ of_unit (with_table units s) o (smashed_at (with_table units s) u site x)
      by_callee None e = refl
      by_callee (Some j) e = by_unit (slice_get units j) refl
        where
          by_unit : (o : Option Routine) → slice_get units j ≡ o → in_unit o (smashed_at (with_table units t) u site x j) ≡ in_unit o (smashed_at (with_table units s) u site x j)
          by_unit None f = refl
          by_unit (Some g) f =
              ap (by_row site x g) (agree j (record { caller = u; callee = g; is_caller = is; is_callee = f; line = line; is_line = m; site = site; is_site = k; is_of = e }))

  pub unit_same : (x : Name) → unit_smashes (with_table units t) u x ≡ unit_smashes (with_table units s) u x
  unit_same x =
      any_same (λ (line : Line). stmt_smashes (with_table units t) u line.stmt x) (λ (line : Line). stmt_smashes (with_table units s) u line.stmt x) u.lines
      (λ line m. ap (λ (b : Bool). is_among x (set_by line.stmt) || b)
      (any_same (λ (site : CallSite). of_unit (with_table units t) (callee_of units site) (smashed_at (with_table units t) u site x))
      (λ (site : CallSite). of_unit (with_table units s) (callee_of units site) (smashed_at (with_table units s) u site x)) (sites_of u line.stmt) (site_same line m x)))

  pub row_same : smashed_row (with_table units t) u ≡ smashed_row (with_table units s) u
  row_same = filter_same (unit_smashes (with_table units t) u) (unit_smashes (with_table units s) u) (map (λ d. d.name) u.names) (λ x m. unit_same x)
