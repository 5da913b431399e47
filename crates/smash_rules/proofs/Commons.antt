-- An actual mentions a smashed COMMON entity where a name in it is one.
use Rattle.std.proofs.Common.{◌≡◌, Bool, true, false, ◌&&◌, List, Option, Some, None, refl, sym, ◌∙◌, subst}
use Rattle.std.specs.List.{list_any}
use Rattle.formula.specs.Atoms.{is_among}
use Rattle.fort_syntax.specs.Names.{has_common, commons, data_name, has_role, is_in_common}
use Rattle.fort_syntax.specs.WellFormed.{IsWellFormedUnit, commons_of_unit}
use Rattle.fort_syntax.specs.declared.dialect.Dialect.{Dialect}
use Rattle.fort_syntax.specs.declared.expr.Expr.{Expr}
use Rattle.fort_syntax.specs.declared.name.Name.{Name}
use Rattle.fort_syntax.specs.declared.unit.DataName.{DataName}
use Rattle.fort_syntax.specs.declared.unit.Role.{Role}
use Rattle.fort_syntax.specs.declared.unit.Role.TheVariants.{Dummy, InCommon, OwnValue, Local}
use Rattle.fort_syntax.specs.declared.unit.Unit.{Unit as Routine}
use Rattle.fort_model.specs.Arguments.{mentions}
use Rattle.fort_model.specs.Lists.{IsAmong}
use Rattle.fort_laws.proofs.DeclaredNames.{among_named, named_among, data_among, found_named}
use Rattle.fort_laws.proofs.DeclaredUnits.{is_common, blocks_hold_commons, same_commons}
use Rattle.fort_laws.proofs.RulesKept.{passes_filter}
use Rattle.fort_laws.proofs.Small.{both_hold, both_parts, filter_passes, some_passes}
use Rattle.smash_laws.proofs.Tests.{any_passes}
use Rattle.call_tests.specs.Mentioned.{names_in}
use Rattle.call_tests.proofs.Mentions.{mentioned}
use Rattle.smash_table.specs.Smashed.{shared_in}
use Rattle.smash_rules.specs.Shared.{is_shared}

same_truth : (a b : Bool) → (a ≡ true → b ≡ true) → (b ≡ true → a ≡ true) → a ≡ b
same_truth true b f g = sym (f refl)
same_truth false true f g = g refl
same_truth false false f g = refl

module _ (dialect : Dialect) (u : Routine) (w : IsWellFormedUnit dialect u) (g : Routine) (smashed : List Name) (es : List Expr) where
  -- a COMMON entity stands in a block
  stands : (x : Name) → has_common u x ≡ true → IsAmong x (commons u)
  stands x h = by_data (data_name u x) refl h
    where
      by_role : (r : Role) → is_in_common r ≡ true → r ≡ InCommon
      by_role Dummy t = absurd (cc)
      by_role InCommon t = refl
      by_role OwnValue t = absurd (cc)
      by_role Local t = absurd (cc)

      by_data : (o : Option DataName) → data_name u x ≡ o → has_role is_in_common o ≡ true → IsAmong x (commons u)
      by_data None e t = absurd (cc)
      by_data (Some d) e t =
          let c = is_common dialect u w d (data_among u.names x d e) (by_role d.role t) in
          subst (λ (xs : List Name). IsAmong x xs) (same_commons u) (named_among (commons_of_unit u) x (subst (λ (z : Name). is_among z (commons_of_unit u) ≡ true) (found_named u.names x d e) c))

  abbrev found : Bool
  found = list_any (λ (e : Expr). list_any (is_shared u g smashed) (names_in e)) es

  abbrev told : Bool
  told = list_any (λ (x : Name). list_any (λ (e : Expr). mentions e x) es) (shared_in u g smashed)

  there : found ≡ true → told ≡ true
  there t =
      let e = some_passes (λ (e : Expr). list_any (is_shared u g smashed) (names_in e)) es t in
      let x = some_passes (is_shared u g smashed) (names_in e.0) e.2 in
      let b = both_parts (has_common u x.0) (has_common g x.0 && is_among x.0 smashed) x.2 in
      any_passes (λ (x : Name). list_any (λ (e : Expr). mentions e x) es) (shared_in u g smashed) x.0
      (passes_filter (λ y. has_common g y && is_among y smashed) (commons u) x.0 (stands x.0 b.0) b.1)
      (any_passes (λ (e : Expr). mentions e x.0) es e.0 e.1 (mentioned e.0 x.0 ∙ among_named (names_in e.0) x.0 x.1))

  back : told ≡ true → found ≡ true
  back t =
      let x = some_passes (λ (x : Name). list_any (λ (e : Expr). mentions e x) es) (shared_in u g smashed) t in
      let e = some_passes (λ (e : Expr). mentions e x.0) es x.2 in
      let f = filter_passes (λ y. has_common g y && is_among y smashed) (commons u) x.0 x.1 in
      any_passes (λ (e : Expr). list_any (is_shared u g smashed) (names_in e)) es e.0 e.1
      (any_passes (is_shared u g smashed) (names_in e.0) x.0 (named_among (names_in e.0) x.0 (sym (mentioned e.0 x.0) ∙ e.2))
      (both_hold (has_common u x.0) (has_common g x.0 && is_among x.0 smashed) (blocks_hold_commons dialect u w x.0 f.0) f.1))

  pub common_told : list_any (λ (e : Expr). list_any (is_shared u g smashed) (names_in e)) es ≡ list_any (λ (x : Name). list_any (λ (e : Expr). mentions e x) es) (shared_in u g smashed)
  common_told = same_truth found told there back
