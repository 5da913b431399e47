-- The calls of a well-formed unit are of units of the deck, and agree with them.
use Rattle.std.proofs.Common.{◌≡◌, ℕ, suc, ◌+◌, Bool, true, false, cond, not, ◌&&◌, ◌||◌, List, [], ◌∷◌, ◌++◌, length, Option, Some, None, is_some, slice_get, refl, sym, ap, ◌∙◌, subst, arith}
use Rattle.std.specs.List.{list_all}
use Rattle.std.specs.Cmp.Lexicographic.{same_text}
use Rattle.formula.specs.Atoms.{is_among, has_twin, is_name, same_bytes}
use Rattle.fort_syntax.specs.Names.{first_unit, function, subroutine, is_function, dims_of}
use Rattle.fort_syntax.specs.Scopes.{is_given_dims}
use Rattle.fort_syntax.specs.WellFormed.{IsWellFormedUnit, AreWellFormedUnits, names_of_unit, commons_of_unit, own_value_of_unit, agree_on_blocks}
use Rattle.fort_syntax.specs.TreePatterns as syntax
use Rattle.fort_syntax.specs.declared.dialect.Dialect.{Dialect}
use Rattle.fort_syntax.specs.declared.dialect.Sort.{Sort}
use Rattle.fort_syntax.specs.declared.dialect.Sort.TheVariants.{Integer, Logical}
use Rattle.fort_syntax.specs.declared.name.Name.{Name}
use Rattle.fort_syntax.specs.declared.rule.Rule.TheVariants.{UnknownUnit, BadArguments, BlockMissing}
use Rattle.fort_syntax.specs.declared.unit.DataName.{DataName}
use Rattle.fort_syntax.specs.declared.unit.Line.{Line}
use Rattle.fort_syntax.specs.declared.unit.Role.TheVariants.{InCommon, OwnValue}
use Rattle.fort_syntax.specs.declared.unit.Unit.{Unit as Routine}
use Rattle.fort_model.specs.Arguments.{reference_sort, is_own_sort, reference_fits, actuals_fit}
use Rattle.fort_model.specs.CallRules.{is_nobody, mismatches}
use Rattle.fort_model.specs.Calls.{CallSite, Calls, callee_of, sites_of}
use Rattle.fort_model.specs.Lists.{IsAmong}
use Rattle.fort_model.specs.Program.{Program}
use Rattle.fort_model.specs.Rules.{KeepsRules, calls_nobody}
use Rattle.fort_laws.specs.CallLaw.{HasNames}
use Rattle.fort_laws.specs.Called.{IsReferenceTo, IsCallTo}
use Rattle.fort_laws.specs.GoodDecks.{CallsAgree}
use Rattle.fort_laws.specs.StrictPrograms.{CallIsDeclared}
use Rattle.fort_laws.proofs.DeclaredDecks as decks
use Rattle.fort_laws.proofs.DeclaredNames.{IsNamed, among_named, has_own_name, one_data_name, among_joined_left, among_joined_right}
use Rattle.fort_laws.proofs.DeclaredTypes as types
use Rattle.fort_laws.proofs.DeclaredUnits as unit
use Rattle.fort_laws.proofs.DeclaredTypes.{AreReferred}
use Rattle.fort_laws.proofs.DeclaredUses.{Each, each_of, IsRightLine, right_line, own_is_scalar}
use Rattle.fort_laws.proofs.FrameEnter.{SameOrNot, same, other, same_or_not}
use Rattle.fort_laws.proofs.FrameSeats.{clash, same_self}
use Rattle.fort_laws.proofs.RulesKept.{card_found, is_false, neither, none_passes, not_not, split, unbroken}
use Rattle.fort_laws.proofs.Tests.{not_so, one_holds, one_item}

-- ---- units by their names

-- the first of some units that pass a test
first_found : (test : Routine → Bool) (us : List Routine) (i j : ℕ) → first_unit test us i ≡ Some j → (n : ℕ) × (j ≡ i + n) × (g : Routine) × (slice_get us n ≡ Some g) × (test g ≡ true)
first_found test [] i j h = absurd (cc)
first_found test (u ∷ us) i j h = by_test (test u) refl h (first_found test us (suc i) j)
  where
    same_number : Some i ≡ Some j → j ≡ i + 0
    same_number k = let e : i ≡ j = cc in omega arith

    by_test : (t : Bool) → test u ≡ t → cond t (Some i) (first_unit test us (suc i)) ≡ Some j
        → (first_unit test us (suc i) ≡ Some j → (n : ℕ) × (j ≡ suc i + n) × (g : Routine) × (slice_get us n ≡ Some g) × (test g ≡ true))
        → (n : ℕ) × (j ≡ i + n) × (g : Routine) × (slice_get (u ∷ us) n ≡ Some g) × (test g ≡ true)
    by_test true e k rec = (0, same_number k, u, refl, e)
    by_test false e k rec = let r = rec k in (suc r.0, (let q = r.1 in omega arith), r.2, r.3, r.4)

-- the unit that a call is of: it has the called name, and is a FUNCTION where the call is a reference
record IsCalled (units : List Routine) (site : CallSite) (j : ℕ) : Type 0 where
  unit : Routine
  at : slice_get units j ≡ Some unit
  name : unit.name ≡ site.callee
  function : site.reference ≡ true → is_function unit ≡ true

callee_found : (units : List Routine) (site : CallSite) (j : ℕ) → callee_of units site ≡ Some j → IsCalled units site j
callee_found units site j h = by_kind site.reference refl
  where
    at_start : (us : List Routine) (g : Routine) (n : ℕ) → j ≡ 0 + n → slice_get us n ≡ Some g → slice_get us j ≡ Some g
    at_start us g n e k = let q : n ≡ j = omega arith in ap (slice_get us) (sym q) ∙ k

    by_kind : (t : Bool) → site.reference ≡ t → IsCalled units site j
    by_kind true e =
        let r = first_found (λ g. is_function g && same_bytes g.name site.callee) units 0 j (ap (λ b. cond b (function units site.callee) (subroutine units site.callee)) (sym e) ∙ h) in
        let b = split (is_function r.2) (same_bytes (r.2).name site.callee) r.4 in
        record { unit = r.2; at = at_start units r.2 r.0 r.1 r.3; name = same_text (r.2).name site.callee (sym b.1); function = λ k. b.0 }
    by_kind false e =
        let r = first_found (λ g. not (is_function g) && same_bytes g.name site.callee) units 0 j (ap (λ b. cond b (function units site.callee) (subroutine units site.callee)) (sym e) ∙ h) in
        let b = split (not (is_function r.2)) (same_bytes (r.2).name site.callee) r.4 in
        record { unit = r.2; at = at_start units r.2 r.0 r.1 r.3; name = same_text (r.2).name site.callee (sym b.1); function = λ k. absurd (clash site.reference k e) }

called_name : (units : List Routine) (i j : ℕ) (c : Calls units i j) → c.callee.name ≡ c.site.callee
called_name units i j c =
    let r : IsCalled units c.site j = callee_found units c.site j c.is_of in
    ap (λ (g : Routine). g.name) (one_item (sym c.is_callee ∙ r.at)) ∙ r.name

-- ---- types of actuals and of references

own_type : (o : Option Sort) (q : Sort) → is_own_sort o (Some q) ≡ true → o ≡ Some q
own_type None q h = absurd (cc)
own_type (Some Integer) Integer h = refl
own_type (Some Integer) Logical h = absurd (cc)
own_type (Some Logical) Integer h = absurd (cc)
own_type (Some Logical) Logical h = refl

module _ (p : Program) (keeps : KeepsRules p) where
  reference_matches : (i j : ℕ) (c : Calls p.units i j) → reference_fits c.caller c.callee c.site.reference ≡ true
  reference_matches i j c =
      let ok : mismatches c.caller c.site j c.callee ≡ false =
      unbroken p (mismatches c.caller) c (λ card m. keeps BadArguments i card (record { unit = c.caller; is_unit = c.is_caller; breaks = m })) in
      not_not _ (neither (not (actuals_fit c.caller c.callee c.site.actuals)) (not (reference_fits c.caller c.callee c.site.reference)) ok).1

  module _ (dialect : Dialect) (i : ℕ) (u : Routine) (is : slice_get p.units i ≡ Some u) (line : Line) (m : IsAmong line u.lines) (site : CallSite) (k : IsAmong site (sites_of u line.stmt)) where
    known_unit : (j : ℕ) × (callee_of p.units site ≡ Some j)
    known_unit = some_unit (callee_of p.units site) (none_passes (λ s. is_nobody (callee_of p.units s)) (sites_of u line.stmt) site line_ok k)
      where
        line_ok : calls_nobody p u line.stmt ≡ false
        line_ok =
            is_false (calls_nobody p u line.stmt)
            (λ t. keeps UnknownUnit i line.card (record { unit = u; is_unit = is; breaks = card_found (λ pc s. calls_nobody p u s) 0 u.lines m.0 line m.1 t }))

        some_unit : (o : Option ℕ) → is_nobody o ≡ false → (j : ℕ) × (o ≡ Some j)
        some_unit None h = absurd (cc)
        some_unit (Some j) h = (j, refl)

    found : IsCalled p.units site known_unit.0
    found = callee_found p.units site known_unit.0 known_unit.1

    abbrev the_call : Calls p.units i known_unit.0
    the_call = record {
      caller = u;
      callee = found.unit;
      is_caller = is;
      is_callee = found.at;
      line = line;
      is_line = m;
      site = site;
      is_site = k;
      is_of = known_unit.1;
    }

    pub called_in_text : site.reference ≡ false → IsCallTo p i u site.callee site.actuals
    called_in_text e = record { number = known_unit.0; call = the_call; caller_is = refl; reference_is = e; callee_is = refl; actuals_are = refl }

    pub referred_in_text : (q : Sort) → site.reference ≡ true → reference_sort u.functions site.callee ≡ Some q → IsReferenceTo p i u q site.callee site.actuals
    referred_in_text q e told = record {
      number = known_unit.0;
      call = the_call;
      caller_is = refl;
      reference_is = e;
      callee_is = refl;
      actuals_are = refl;
      sort_is = own_type found.unit.sort q (ap (is_own_sort found.unit.sort) (sym told) ∙ (ap (λ n. is_own_sort found.unit.sort (reference_sort u.functions n)) (sym found.name) ∙ own));
      told = told;
    }
      where
        own : is_own_sort found.unit.sort (reference_sort u.functions found.unit.name) ≡ true
        own = one_holds (not site.reference) _ (reference_matches i known_unit.0 the_call) (ap not e)

-- ---- names

module _ (dialect : Dialect) (u : Routine) (w : IsWellFormedUnit dialect u) where
  -- the own name stands among no dummies and COMMON entities
  own_name_held : is_among u.name (u.dummies ++ commons_of_unit u) ≡ false
  own_name_held = (neither (is_among u.name (u.dummies ++ commons_of_unit u)) (has_twin (u.dummies ++ commons_of_unit u)) (not_so (has_twin (u.name ∷ u.dummies ++ commons_of_unit u)) w.held)).0

  own_alone : (o : Option Sort) (x : Name) → is_among x (cond (is_some o) (u.name ∷ []) []) ≡ true → (x ≡ u.name) × (is_some o ≡ true)
  own_alone None x h = absurd (cc)
  own_alone (Some q) x h = (by_name (same_or_not x u.name), refl)
    where
      by_name : SameOrNot x u.name → x ≡ u.name
      by_name (same e t) = e
      by_name (other n t) = absurd (clash (same_bytes x u.name || false) h (ap (λ b. b || false) t))

  function_value : is_function u ≡ true → (d : DataName) × IsAmong d u.names × (d.name ≡ u.name) × (d.role ≡ OwnValue)
  function_value f = (
    d.its,
    d.among,
    d.name,
    unit.own_role dialect u w d.its d.among (not_held u.dummies (λ t. among_joined_left u.dummies (commons_of_unit u) d.its.name t))
        (not_held (commons_of_unit u) (λ t. among_joined_right u.dummies (commons_of_unit u) d.its.name t)) (ap (λ x. is_among x (own_value_of_unit u)) d.name ∙ own),
  )
    where
      own : is_among u.name (own_value_of_unit u) ≡ true
      own = ap (λ b. is_among u.name (cond b (u.name ∷ []) [])) f ∙ ap (λ b. b || false) (same_self u.name)

      d : IsNamed u.names u.name
      d = unit.own_data dialect u w u.name own

      not_held : (xs : List Name) → (is_among d.its.name xs ≡ true → is_among d.its.name (u.dummies ++ commons_of_unit u) ≡ true) → is_among d.its.name xs ≡ false
      not_held xs on = is_false (is_among d.its.name xs) (λ t. clash (is_among u.name (u.dummies ++ commons_of_unit u)) (ap (λ x. is_among x (u.dummies ++ commons_of_unit u)) (sym d.name) ∙ on t) own_name_held)

  own_value : (d : DataName) → IsAmong d u.names → d.role ≡ OwnValue → (d.name ≡ u.name) × (u.sort ≡ Some d.sort) × (d.dims ≡ [])
  own_value d m r =
      let own = own_alone u.sort d.name (unit.is_own_value dialect u w d m r) in
      let e : IsNamed u.names d.name = unit.has_data dialect u w d.name (has_own_name u.names d m) in
      let same_one : e.its ≡ d = one_data_name u.names e.its d (unit.no_twins dialect u w) e.among m e.name in
      let scalar : is_given_dims (dims_of u d.name) ≡ false = ap (λ x. is_given_dims (dims_of u x)) own.0 ∙ (own_is_scalar dialect u w own.1).1 in (
        own.0,
        types.same_type_as d.sort u.sort (unit.own_type dialect u w d m r),
        unit.no_dims d.dims (ap (λ (z : DataName). is_given_dims z.dims) (sym same_one) ∙ (ap is_given_dims (sym e.dims) ∙ scalar)),
      )

  pub names_are_held : HasNames u
  names_are_held = record {
    dummies = λ n x e.
        decks.has_name dialect u w x
        (let d : IsNamed u.names x = unit.dummy_data dialect u w x (among_named u.dummies x (n, e)) in ap (λ y. is_among y (names_of_unit u)) (sym d.name) ∙ has_own_name u.names d.its d.among);
    own = own_value;
    function = function_value;
    common = λ d m r e.
        clash (is_among u.name (u.dummies ++ commons_of_unit u))
        (ap (λ x. is_among x (u.dummies ++ commons_of_unit u)) (sym e) ∙ among_joined_right u.dummies (commons_of_unit u) d.name (unit.is_common dialect u w d m r)) own_name_held;
  }

  -- a called name is no data name
  abbrev CallsOther : CallSite → Type 0
  CallsOther site = is_among site.callee (names_of_unit u) ≡ false

  calls_others : (line : Line) → IsAmong line u.lines → Each CallsOther (sites_of u line.stmt)
  calls_others line m =
      let r : IsRightLine u line.stmt = right_line dialect u w line m in
      each_of u CallsOther
      (λ f m args e k h. types.function_no_data dialect u w f (types.reference_is_function dialect u w f (length (syntax.listed args)) e k))
      (λ f args k h. not_so (is_among f (names_of_unit u)) (split (is_name f) (not (is_among f (names_of_unit u))) k).1)
      line.stmt r.form r.uses

-- ---- calls agree

module _ (dialect : Dialect) (p : Program) (wells : AreWellFormedUnits dialect p.units) (agree : list_all (λ u. list_all (agree_on_blocks u) p.units) p.units ≡ true) (keeps : KeepsRules p) where
  module _ (i j : ℕ) (c : Calls p.units i j) where
    caller_is : IsWellFormedUnit dialect c.caller
    caller_is = decks.well_at dialect p.units i c.caller wells c.is_caller

    callee_is : IsWellFormedUnit dialect c.callee
    callee_is = decks.well_at dialect p.units j c.callee wells c.is_callee

    common_types : (d e : DataName) → IsAmong d c.callee.names → d.role ≡ InCommon → IsAmong e c.caller.names → e.name ≡ d.name → e.sort ≡ d.sort
    common_types d e m r k q =
        let s = decks.is_shared dialect p wells agree (keeps BlockMissing) i j c d m r in
        ap (λ (z : DataName). z.sort) (one_data_name c.caller.names e s.its (unit.no_twins dialect c.caller caller_is) k s.among (q ∙ sym s.name)) ∙ s.sort

    pub agrees : CallIsDeclared c
    agrees = record {
      apart = λ d m e.
          clash (is_among d.name (names_of_unit c.caller)) (has_own_name c.caller.names d m)
          (ap (λ x. is_among x (names_of_unit c.caller)) (e ∙ called_name p.units i j c) ∙ calls_others dialect c.caller caller_is c.line c.is_line c.site c.is_site);
      commons = common_types;
    }

pub calls_agree : CallsAgree
calls_agree dialect deck p w units keeps i j c =
    agrees dialect p (subst (AreWellFormedUnits dialect) units w.units) (subst (λ us. list_all (λ u. list_all (agree_on_blocks u) us) us ≡ true) units w.blocks) keeps i j c
