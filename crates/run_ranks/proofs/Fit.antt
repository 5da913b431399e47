-- Calls fit the units that they are of.
use Rattle.std.proofs.Common.{sym, ◌≡◌, ℕ, suc, true, false, not, List, [], ◌∷◌, length, Option, Some, None, refl, ap, ◌∙◌, subst}
use Rattle.std.specs.List.{list_all}
use Rattle.fort_syntax.specs.Names.{has_common, has_role, is_in_common, data_name}
use Rattle.fort_syntax.specs.WellFormed.{AreWellFormedUnits, agree_on_blocks}
use Rattle.fort_syntax.specs.declared.dialect.Dialect.{Dialect}
use Rattle.fort_syntax.specs.declared.expr.Expr.{Expr}
use Rattle.fort_syntax.specs.declared.name.Name.{Name}
use Rattle.fort_syntax.specs.declared.rule.Rule.TheVariants.{BadArguments, BlockMissing}
use Rattle.fort_syntax.specs.declared.unit.DataName.{DataName}
use Rattle.fort_syntax.specs.declared.unit.Role.{Role}
use Rattle.fort_syntax.specs.declared.unit.Role.TheVariants.{Dummy, InCommon, OwnValue, Local}
use Rattle.fort_syntax.specs.declared.unit.Unit.{Unit as Routine}
use Rattle.fort_model.specs.Arguments.{all_fit, fits_dummy, actuals_fit, reference_fits}
use Rattle.fort_model.specs.CallRules.{mismatches}
use Rattle.fort_model.specs.Calls.{Calls}
use Rattle.fort_model.specs.Program.{Program}
use Rattle.fort_model.specs.Rules.{KeepsRule}
use Rattle.fort_model.specs.Stages.{KeepsAll, rules_of_calls}
use Rattle.fort_model.specs.CallFacts.{sites_of_unit}
use Rattle.fort_laws.proofs.DeclaredDecks.{well_at, is_shared}
use Rattle.fort_laws.proofs.DeclaredNames.{data_among, found_named}
use Rattle.fort_laws.proofs.DeclaredUnits.{blocks_hold_commons}
use Rattle.fort_laws.proofs.RulesKept.{neither, not_not, unbroken}
use Rattle.fort_laws.proofs.RulesKept as kept
use Rattle.run_ranks.specs.Runnable.{CanRun, FitCalls}
use Rattle.run_ranks.proofs.Ordered.{IsCoded, coded, HasLine, line_of}

-- as many actuals as dummies
counted : (g : Routine) (all : List Expr) (u : Routine) (ds : List Name) (es : List Expr) → all_fit g all u ds es ≡ true → length es ≡ length ds
counted g all u [] [] h = refl
counted g all u (d ∷ ds) [] h = absurd (cc)
counted g all u [] (e ∷ es) h = absurd (cc)
counted g all u (d ∷ ds) (e ∷ es) h = ap suc (counted g all u ds es (kept.split (fits_dummy g all u (data_name g d) e) (all_fit g all u ds es) h).1)

by_role : (r : Role) → is_in_common r ≡ true → r ≡ InCommon
by_role Dummy t = absurd (cc)
by_role InCommon t = refl
by_role OwnValue t = absurd (cc)
by_role Local t = absurd (cc)

module _ (dialect : Dialect) (p : Program) (wells : AreWellFormedUnits dialect p.units) (agree : list_all (λ u. list_all (agree_on_blocks u) p.units) p.units ≡ true)
    (keeps : KeepsAll p rules_of_calls) (i j : ℕ) (c : Calls p.units i j) where
  arguments_kept : KeepsRule p BadArguments
  arguments_kept = keeps BadArguments (3, refl)

  blocks_kept : KeepsRule p BlockMissing
  blocks_kept = keeps BlockMissing (4, refl)

  pub same_count : length c.site.actuals ≡ length c.callee.dummies
  same_count =
      let ok : mismatches c.caller c.site j c.callee ≡ false =
      unbroken p (mismatches c.caller) c (λ card m. arguments_kept i card (record { unit = c.caller; is_unit = c.is_caller; breaks = m })) in
      counted c.callee c.site.actuals c.caller c.callee.dummies c.site.actuals
      (not_not _ (neither (not (actuals_fit c.caller c.callee c.site.actuals)) (not (reference_fits c.caller c.callee c.site.reference)) ok).0)

  pub handed_on : (x : Name) → has_common c.callee x ≡ true → has_common c.caller x ≡ true
  handed_on x h = by_data (data_name c.callee x) refl h
    where
      by_data : (o : Option DataName) → data_name c.callee x ≡ o → has_role is_in_common o ≡ true → has_common c.caller x ≡ true
      by_data None e t = absurd (cc)
      by_data (Some d) e t =
          let s = is_shared dialect p wells agree blocks_kept i j c d (data_among c.callee.names x d e) (by_role d.role t) in
          subst (λ (z : Name). has_common c.caller z ≡ true) (found_named c.callee.names x d e)
          (blocks_hold_commons dialect c.caller (well_at dialect p.units i c.caller wells c.is_caller) d.name s.in_block)

-- such units have fit calls
pub fits : (dialect : Dialect) (units : List Routine) (order : List ℕ) → CanRun dialect units order → FitCalls units
fits dialect units order can i j k u g call is_u is_g at of = record {
  counted = c.counted ∙ same_count dialect p can.formed can.blocks kept_all i j the_call;
  handed_on = handed_on dialect p can.formed can.blocks kept_all i j the_call;
}
  where
    p : Program
    p = record { dialect = dialect; units = units; notes = []; functions = []; bound = 0; smashes = [] }

    kept_all : KeepsAll p rules_of_calls
    kept_all = can.keeps p refl

    c : IsCoded units (sites_of_unit u) call
    c = coded units 1 (sites_of_unit u) k call at

    l : HasLine u u.lines c.site
    l = line_of u u.lines c.site c.among

    the_call : Calls units i j
    the_call = record {
      caller = u;
      callee = g;
      is_caller = is_u;
      is_callee = is_g;
      line = l.line;
      is_line = l.is_line;
      site = c.site;
      is_site = l.is_site;
      is_of = sym c.same ∙ of;
    }
