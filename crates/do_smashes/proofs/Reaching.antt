-- A statement smashes a name that is kept at its point just where it smashes a name of a DO in whose range it stands.
use Rattle.std.proofs.Common.{◌≡◌, ℕ, zero, suc, ◌+◌, ◌<◌, ◌≤◌, ◌⊎◌, inl, inr, Bool, true, false, ◌&&◌, ◌||◌, List, [], ◌∷◌, ◌++◌, take, Option, Some, None, refl, sym, ap, ◌∙◌, subst, arith}
use Rattle.std.specs.Prelude.{max, nat_lt, nat_le}
use Rattle.std.specs.List.{list_any}
use Rattle.std.proofs.lemmas.Bool.{cases_lt}
use Rattle.std.proofs.lemmas.Bool.Decides.{nat_tests}
use Rattle.std.proofs.Math.Logic.{⊎_elim}
use Rattle.formula.specs.Atoms.{is_among}
use Rattle.fort_syntax.specs.WellFormed.{IsWellFormedUnit}
use Rattle.fort_syntax.specs.declared.dialect.Dialect.{Dialect}
use Rattle.fort_syntax.specs.declared.name.Name.{Name}
use Rattle.fort_syntax.specs.declared.stmt.Stmt.{Stmt}
use Rattle.fort_syntax.specs.declared.stmt.Stmt.TheVariants.{Do}
use Rattle.fort_syntax.specs.declared.unit.Line.{Line}
use Rattle.fort_syntax.specs.declared.unit.Unit.{Unit as Routine}
use Rattle.fort_model.specs.CallRules.{stmt_smashes}
use Rattle.fort_model.specs.Lists.{IsAmong}
use Rattle.fort_model.specs.Program.{Program}
use Rattle.fort_model.specs.Ranges.{DoRange, do_of, do_range, dos_from, dos, last_of_do, param_names, step_names}
use Rattle.fort_model.specs.Rules.{smashes_do, uses_itself, breaks_do}
use Rattle.fort_laws.proofs.DeclaredNames.{named_among, among_named}
use Rattle.fort_laws.proofs.Kept.{among_left, among_right}
use Rattle.fort_laws.proofs.Near.{known}
use Rattle.fort_laws.proofs.References.{among_either}
use Rattle.fort_laws.proofs.Small.{both_parts, both_hold, some_passes}
use Rattle.smash_laws.proofs.Tests.{any_passes}
use Rattle.smash_table.specs.Smashed.{stmt_names}
use Rattle.do_smashes.specs.Guards.{is_kept, further, kept_by, AreKept}
use Rattle.smash_table.proofs.Told.{stmt_told}

-- ---- what stands in lists

none_among : {X : Type 0} (x : X) → IsAmong x [] → ⊥
none_among x h = (let never = h.1 in cc)

among_cases : {X : Type 0} (x y : X) (ys : List X) → IsAmong x (y ∷ ys) → (x ≡ y) ⊎ IsAmong x ys
among_cases x y ys (zero, e) = inl (cc)
among_cases x y ys (suc k, e) = inr (k, e)

-- ---- numbers

le_means : (a b : ℕ) → nat_le a b ≡ true → a ≤ b
le_means a b h = grind (arith, nat_tests)

is_le : (a b : ℕ) → a ≤ b → nat_le a b ≡ true
is_le a b h = grind (arith, nat_tests)

lt_means : (a b : ℕ) → nat_lt a b ≡ true → a < b
lt_means a b h = grind (arith, nat_tests)

is_lt : (a b : ℕ) → a < b → nat_lt a b ≡ true
is_lt a b h = grind (arith, nat_tests)

of_most : (at had last : ℕ) → nat_lt at (max had (suc last)) ≡ true → (nat_lt at had ≡ true) ⊎ (nat_le at last ≡ true)
of_most at had last h = by (cases_lt at had)
  where
    by : (at < had) ⊎ (had ≤ at) → (nat_lt at had ≡ true) ⊎ (nat_le at last ≡ true)
    by (inl lt) = inl (is_lt at had lt)
    by (inr le) = inr (is_le at last (let lt : at < max had (suc last) = lt_means at (max had (suc last)) h in omega (arith, lt, le)))

most_had : (at had end : ℕ) → nat_lt at had ≡ true → nat_lt at (max had end) ≡ true
most_had at had end h = is_lt at (max had end) (let lt : at < had = lt_means at had h in omega (arith, lt))

most_last : (at had last : ℕ) → nat_le at last ≡ true → nat_lt at (max had (suc last)) ≡ true
most_last at had last h = is_lt at (max had (suc last)) (let le : at ≤ last = le_means at last h in omega (arith, le))

same_truth : (a b : Bool) → (a ≡ true → b ≡ true) → (b ≡ true → a ≡ true) → a ≡ b
same_truth true b f g = sym (f refl)
same_truth false true f g = g refl
same_truth false false f g = refl

-- ---- what DOs keep

-- a DO of these keeps a name, and ends at a point or behind it
record Keeper (ds : List DoRange) (x : Name) (at : ℕ) : Type 0 where
  loop : DoRange
  among : IsAmong loop ds
  has : is_among x loop.names ≡ true
  reaches : nat_le at loop.range.last ≡ true

one_behind : (d : DoRange) (ds : List DoRange) (x : Name) (at : ℕ) → Keeper ds x at → Keeper (d ∷ ds) x at
one_behind d ds x at k = record { loop = k.loop; among = (suc k.among.0, k.among.1); has = k.has; reaches = k.reaches }

reached : (ds : List DoRange) (x : Name) (had at : ℕ) → nat_lt at (kept_by ds x had) ≡ true → (nat_lt at had ≡ true) ⊎ Keeper ds x at
reached [] x had at h = inl h
reached (d ∷ ds) x had at h = ⊎_elim here (λ k. inr (one_behind d ds x at k)) (reached ds x (further (is_among x d.names) (suc d.range.last) had) at h)
  where
    first : is_among x d.names ≡ true → (nat_lt at had ≡ true) ⊎ (nat_le at d.range.last ≡ true) → (nat_lt at had ≡ true) ⊎ Keeper (d ∷ ds) x at
    first t (inl l) = inl l
    first t (inr r) = inr (record { loop = d; among = (0, refl); has = t; reaches = r })

    here : nat_lt at (further (is_among x d.names) (suc d.range.last) had) ≡ true → (nat_lt at had ≡ true) ⊎ Keeper (d ∷ ds) x at
    here l = known (is_among x d.names)
        (λ t. first t (of_most at had d.range.last (subst (λ (b : Bool). nat_lt at (further b (suc d.range.last) had) ≡ true) t l)))
        (λ f. inl (subst (λ (b : Bool). nat_lt at (further b (suc d.range.last) had) ≡ true) f l))

stays : (ds : List DoRange) (x : Name) (had at : ℕ) → nat_lt at had ≡ true → nat_lt at (kept_by ds x had) ≡ true
stays [] x had at h = h
stays (d ∷ ds) x had at h = stays ds x (further (is_among x d.names) (suc d.range.last) had) at (by (is_among x d.names))
  where
    by : (b : Bool) → nat_lt at (further b (suc d.range.last) had) ≡ true
    by true = most_had at had (suc d.range.last) h
    by false = h

reaches : (ds : List DoRange) (x : Name) (had at : ℕ) → Keeper ds x at → nat_lt at (kept_by ds x had) ≡ true
reaches [] x had at k = absurd (none_among k.loop k.among)
reaches (d ∷ ds) x had at k = ⊎_elim
    (λ (e : k.loop ≡ d).
    stays ds x (further (is_among x d.names) (suc d.range.last) had) at
    (subst (λ (b : Bool). nat_lt at (further b (suc d.range.last) had) ≡ true) (sym (sym (ap (λ (f : DoRange). is_among x f.names) e) ∙ k.has))
    (most_last at had d.range.last (sym (ap (λ (f : DoRange). nat_le at f.range.last) e) ∙ k.reaches))))
    (λ (m : IsAmong k.loop ds).
    reaches ds x (further (is_among x d.names) (suc d.range.last) had) at (record { loop = k.loop; among = m; has = k.has; reaches = k.reaches }))
    (among_cases k.loop d ds k.among)

-- ---- where DOs stand

module _ (u : Routine) where
  starts_range : (pc : ℕ) (names : List Name) (o : Option ℕ) (d : DoRange) → IsAmong d (do_range pc names o) → d.range.first ≡ suc pc
  starts_range pc names None d m = absurd (none_among d m)
  starts_range pc names (Some q) d m = ⊎_elim
      (λ (e : d ≡ record { head = pc; range = record { first = suc pc; last = q }; names = names }). ap (λ (f : DoRange). f.range.first) e)
      (λ (n : IsAmong d []). absurd (none_among d n))
      (among_cases d (record { head = pc; range = record { first = suc pc; last = q }; names = names }) [] m)

  starts_stmt : (pc : ℕ) (s : Stmt) (d : DoRange) → IsAmong d (do_of u pc s) → d.range.first ≡ suc pc
  starts_stmt pc (Do label x first last step) d m = starts_range pc (x ∷ param_names first ++ param_names last ++ step_names step) (last_of_do u pc label) d m
  starts_stmt pc s d m = absurd (none_among d m)

  starts_behind : (pc : ℕ) (lines : List Line) (d : DoRange) → IsAmong d (dos_from u pc lines) → pc < d.range.first
  starts_behind pc [] d m = absurd (none_among d m)
  starts_behind pc (line ∷ lines) d m = ⊎_elim
      (λ (k : IsAmong d (do_of u pc line.stmt)). (let e : d.range.first ≡ suc pc = starts_stmt pc line.stmt d k in omega (arith, e)))
      (λ (k : IsAmong d (dos_from u (suc pc) lines)). (let r : suc pc < d.range.first = starts_behind (suc pc) lines d k in omega (arith, r)))
      (among_either d (do_of u pc line.stmt) (dos_from u (suc pc) lines) m)

  starts_before : (pc n : ℕ) (lines : List Line) (d : DoRange) → IsAmong d (dos_from u pc (take n lines)) → d.range.first ≤ pc + n
  starts_before pc zero lines d m = absurd (none_among d (subst (λ (ls : List Line). IsAmong d (dos_from u pc ls)) (none lines) m))
    where
      none : (ls : List Line) → take 0 ls ≡ []
      none [] = refl
      none (l ∷ ls) = refl
  starts_before pc (suc n) [] d m = absurd (none_among d m)
  starts_before pc (suc n) (line ∷ lines) d m = ⊎_elim
      (λ (k : IsAmong d (do_of u pc line.stmt)). (let e : d.range.first ≡ suc pc = starts_stmt pc line.stmt d k in omega (arith, e)))
      (λ (k : IsAmong d (dos_from u (suc pc) (take n lines))). (let r : d.range.first ≤ suc pc + n = starts_before (suc pc) n lines d k in omega (arith, r)))
      (among_either d (do_of u pc line.stmt) (dos_from u (suc pc) (take n lines)) m)

  -- a DO stands before a point, or behind it or at it
  stands : (pc n : ℕ) (lines : List Line) (d : DoRange) → IsAmong d (dos_from u pc lines) → IsAmong d (dos_from u pc (take n lines)) ⊎ (pc + n < d.range.first)
  stands pc zero lines d m = inr (let lt : pc < d.range.first = starts_behind pc lines d m in omega (arith, lt))
  stands pc (suc n) [] d m = absurd (none_among d m)
  stands pc (suc n) (line ∷ lines) d m = ⊎_elim
      (λ (k : IsAmong d (do_of u pc line.stmt)). inl (among_left d (do_of u pc line.stmt) (dos_from u (suc pc) (take n lines)) k))
      (λ (k : IsAmong d (dos_from u (suc pc) lines)). later (stands (suc pc) n lines d k))
      (among_either d (do_of u pc line.stmt) (dos_from u (suc pc) lines) m)
    where
      later : IsAmong d (dos_from u (suc pc) (take n lines)) ⊎ (suc pc + n < d.range.first)
          → IsAmong d (do_of u pc line.stmt ++ dos_from u (suc pc) (take n lines)) ⊎ (pc + suc n < d.range.first)
      later (inl k) = inl (among_right d (do_of u pc line.stmt) (dos_from u (suc pc) (take n lines)) k)
      later (inr lt) = inr (omega (arith, lt))

  -- those before a point are DOs of the unit
  stands_in : (pc n : ℕ) (lines : List Line) (d : DoRange) → IsAmong d (dos_from u pc (take n lines)) → IsAmong d (dos_from u pc lines)
  stands_in pc zero lines d m = absurd (none_among d (subst (λ (ls : List Line). IsAmong d (dos_from u pc ls)) (none lines) m))
    where
      none : (ls : List Line) → take 0 ls ≡ []
      none [] = refl
      none (l ∷ ls) = refl
  stands_in pc (suc n) [] d m = m
  stands_in pc (suc n) (line ∷ lines) d m = ⊎_elim
      (λ (k : IsAmong d (do_of u pc line.stmt)). among_left d (do_of u pc line.stmt) (dos_from u (suc pc) lines) k)
      (λ (k : IsAmong d (dos_from u (suc pc) (take n lines))). among_right d (do_of u pc line.stmt) (dos_from u (suc pc) lines) (stands_in (suc pc) n lines d k))
      (among_either d (do_of u pc line.stmt) (dos_from u (suc pc) (take n lines)) m)

-- ---- the two tests

module _ (dialect : Dialect) (p : Program) (u : Routine) (well : IsWellFormedUnit dialect u) (at : ℕ) (s : Stmt) (table : List (Name × ℕ)) (kept : AreKept u at table) where
  abbrev before : List DoRange
  before = dos_from u 0 (take at u.lines)

  abbrev hit : Bool
  hit = list_any (is_kept table at) (stmt_names p u s)

  abbrev smashed : Bool
  smashed = list_any (smashes_do p u at s) (dos u)

  there : hit ≡ true → smashed ≡ true
  there h = by (some_passes (is_kept table at) (stmt_names p u s) h)
    where
      of_keeper : (x : Name) → IsAmong x (stmt_names p u s) → Keeper before x at → smashed ≡ true
      of_keeper x m k =
          let le : k.loop.range.first ≤ 0 + at = starts_before u 0 at u.lines k.loop k.among in
          any_passes (smashes_do p u at s) (dos u) k.loop (stands_in u 0 at u.lines k.loop k.among)
          (both_hold (nat_le k.loop.range.first at && nat_le at k.loop.range.last) (list_any (stmt_smashes p u s) k.loop.names)
          (both_hold (nat_le k.loop.range.first at) (nat_le at k.loop.range.last) (is_le k.loop.range.first at (omega (arith, le))) k.reaches)
          (any_passes (stmt_smashes p u s) k.loop.names x (named_among k.loop.names x k.has) (sym (stmt_told dialect u well p s x) ∙ among_named (stmt_names p u s) x m)))

      never : nat_lt at 0 ≡ true → ⊥
      never e = (let lt : at < 0 = lt_means at 0 e in omega (arith, lt))

      by : (x : Name) × IsAmong x (stmt_names p u s) × (is_kept table at x ≡ true) → smashed ≡ true
      by f = ⊎_elim (λ (e : nat_lt at 0 ≡ true). absurd (never e)) (of_keeper f.0 f.1)
          (reached before f.0 0 at (sym (ap (nat_lt at) (kept f.0)) ∙ f.2))

  back : smashed ≡ true → hit ≡ true
  back h = by (some_passes (smashes_do p u at s) (dos u) h)
    where
      of_name : (d : DoRange) → IsAmong d before → nat_le at d.range.last ≡ true → (y : Name) × IsAmong y d.names × (stmt_smashes p u s y ≡ true) → hit ≡ true
      of_name d m r y =
          any_passes (is_kept table at) (stmt_names p u s) y.0 (named_among (stmt_names p u s) y.0 (stmt_told dialect u well p s y.0 ∙ y.2))
          (ap (nat_lt at) (kept y.0) ∙ reaches before y.0 0 at (record { loop = d; among = m; has = among_named d.names y.0 y.1; reaches = r }))

      by : (d : DoRange) × IsAmong d (dos u) × (smashes_do p u at s d ≡ true) → hit ≡ true
      by f =
          let parts = both_parts (nat_le f.0.range.first at && nat_le at f.0.range.last) (list_any (stmt_smashes p u s) f.0.names) f.2 in
          let ends = both_parts (nat_le f.0.range.first at) (nat_le at f.0.range.last) parts.0 in
          let le : f.0.range.first ≤ at = le_means f.0.range.first at ends.0 in
          ⊎_elim (λ (m : IsAmong f.0 before). of_name f.0 m ends.1 (some_passes (stmt_smashes p u s) f.0.names parts.1))
          (λ (lt : 0 + at < f.0.range.first). absurd (omega (arith, le, lt)))
          (stands u 0 at u.lines f.0 f.1)

  -- a statement at the point smashes a kept name just where it smashes a name of a DO in whose range it stands
  pub hits_are : hit ≡ smashed
  hits_are = same_truth hit smashed there back

  -- a DO that does not use itself breaks the rule just where it smashes a kept name
  pub broken_is : (uses broken : Bool) → uses ≡ uses_itself s → uses ≡ false → broken ≡ hit → broken ≡ breaks_do p u at s
  broken_is uses broken is none e = e ∙ hits_are ∙ sym (ap (λ (b : Bool). b || smashed) (sym is ∙ none))
