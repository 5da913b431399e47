-- The targets of one statement more; and what is known once all DOs are tested.
use Rattle.std.proofs.Common.{◌≡◌, ℕ, zero, suc, ◌+◌, ◌<◌, ◌≤◌, ◌⊎◌, inl, inr, true, false, cond, Bool, List, [], ◌∷◌, ◌++◌, length, take, Option, Some, None, slice_get, refl, sym, ap, ◌∙◌, subst, arith}
use Rattle.std.specs.Prelude.{◌==◌, nat_lt}
use Rattle.std.proofs.lemmas.Bool.Decides.{nat_tests}
use Rattle.fort_syntax.specs.declared.dialect.Dialect.{Dialect}
use Rattle.fort_syntax.specs.declared.stmt.Stmt.{Stmt}
use Rattle.fort_syntax.specs.declared.stmt.Stmt.TheVariants.{Do}
use Rattle.fort_syntax.specs.declared.unit.Line.{Line}
use Rattle.fort_syntax.specs.declared.unit.Unit.{Unit as Routine}
use Rattle.fort_model.specs.declared.graph.Fork.{Fork}
use Rattle.fort_model.specs.declared.graph.Target.{Target}
use Rattle.fort_model.specs.Flow.{target, Loop, loop_of, loops_from, around, loops_around, next_point}
use Rattle.fort_model.specs.Graphs.{AreTests, AreTargetsOf, IsTargetOf, IsWithin}
use Rattle.unit_points.specs.Labels.{AreLabelsOf}
use Rattle.unit_points.specs.Turns.{AreTurnsOf}
use Rattle.flow_tests.specs.Growing.{Extends, AreFalling, Grown}
use Rattle.flow_tests.specs.Tests.{IsFlowing, IsOver, AreChains, do_label}
use Rattle.flow_tests.proofs.Extending.{same_some, none_some, pushed, within_more}
use Rattle.flow_targets.specs.Leading.{IsOverAt, IsKnown}
use Rattle.flow_targets.specs.declared.known.Known.{Known}
use Rattle.flow_targets.proofs.Knowing.{target_kept}
use Rattle.flow_forks.specs.Flows.{IsFlowOf, AreStarts}

pub take_whole : {X : Type 0} (xs : List X) → take (length xs) xs ≡ xs
take_whole [] = refl
take_whole (x ∷ xs) = ap (λ ys. x ∷ ys) (take_whole xs)

plus_none : (k : ℕ) → k + 0 ≡ k
plus_none k = omega arith

plus_suc : (k n : ℕ) → k + suc n ≡ suc k + n
plus_suc k n = omega arith

-- ---- targets

targets_kept : (dialect : Dialect) (u : Routine) (old new : List Fork) → Extends old new → (pc : ℕ) (lines : List Line) (ts : List Target)
    → AreTargetsOf dialect u old pc lines ts → AreTargetsOf dialect u new pc lines ts
targets_kept dialect u old new x pc [] [] h = h
targets_kept dialect u old new x pc [] (t ∷ ts) h = h
targets_kept dialect u old new x pc (line ∷ lines) [] h = h
targets_kept dialect u old new x pc (line ∷ lines) (t ∷ ts) h = (target_kept old new x u pc dialect line.stmt t h.0, targets_kept dialect u old new x (suc pc) lines ts h.1)

targets_push : (dialect : Dialect) (u : Routine) (forks : List Fork) (pc n : ℕ) (lines : List Line) (ts : List Target) (line : Line) (t : Target)
    → AreTargetsOf dialect u forks pc (take n lines) ts → slice_get lines n ≡ Some line → IsTargetOf dialect u forks (pc + n) line.stmt t
    → AreTargetsOf dialect u forks pc (take (suc n) lines) (ts ++ t ∷ [])
targets_push dialect u forks pc n [] ts line t h e is = absurd (none_some line e)
targets_push dialect u forks pc zero (x ∷ lines) [] line t h e is =
    (subst (λ k. IsTargetOf dialect u forks k x.stmt t) (plus_none pc) (subst (λ (l : Line). IsTargetOf dialect u forks (pc + 0) l.stmt t) (sym (same_some x line e)) is), tt)
targets_push dialect u forks pc zero (x ∷ lines) (s ∷ ts) line t h e is = absurd h
targets_push dialect u forks pc (suc n) (x ∷ lines) [] line t h e is = absurd h
targets_push dialect u forks pc (suc n) (x ∷ lines) (s ∷ ts) line t h e is =
    (h.0, targets_push dialect u forks (suc pc) n lines ts line t h.1 e (subst (λ k. IsTargetOf dialect u forks k line.stmt t) (plus_suc pc n) is))

none_plus : (n : ℕ) → n ≡ 0 + n
none_plus n = omega arith

pub start_more : (dialect : Dialect) (u : Routine) (at : ℕ) (old new : List Fork) (starts now : List Target) (t : Target) (line : Line) → AreStarts dialect u at old starts
    → Grown (length u.lines) 2 old new t → slice_get u.lines at ≡ Some line → IsTargetOf dialect u new at line.stmt t → now ≡ starts ++ t ∷ [] → AreStarts dialect u (at + 1) new now
start_more dialect u at old new starts now t line is grown here target same =
    subst (λ ts. AreStarts dialect u (at + 1) new ts) (sym same) (subst (λ n. AreStarts dialect u n new (starts ++ t ∷ [])) one (record {
      targets = targets_push dialect u new 0 at u.lines starts line t (targets_kept dialect u old new grown.extends 0 (take at u.lines) starts is.targets) here
          (subst (λ k. IsTargetOf dialect u new k line.stmt t) (none_plus at) target);
      within = λ pc x e. by pc x (pushed starts t pc x e);
      few = (let a = is.few in let b = grown.few in omega (arith, a, b));
    }))
  where
    one : suc at ≡ at + 1
    one = omega arith

    by : (pc : ℕ) (x : Target) → (slice_get starts pc ≡ Some x) ⊎ ((pc ≡ length starts) × (t ≡ x)) → IsWithin (length u.lines) (length new) x
    by pc x (inl e) = within_more (length u.lines) (length old) (length new) x grown.longer (is.within pc x e)
    by pc x (inr e) = subst (IsWithin (length u.lines) (length new)) e.1 grown.within

pub none_started : (dialect : Dialect) (u : Routine) (forks : List Fork) → length forks ≤ length u.lines → AreStarts dialect u 0 forks []
none_started dialect u forks few = record { targets = tt; within = λ pc t e. absurd (none_some t e); few = omega (arith, few) }

pub all_started : (dialect : Dialect) (u : Routine) (at : ℕ) (forks : List Fork) (starts : List Target) → at ≡ length u.lines → AreFalling (length u.lines) forks
    → AreStarts dialect u at forks starts → IsFlowOf dialect u forks starts
all_started dialect u at forks starts all falling is = record {
  targets = subst (λ lines. AreTargetsOf dialect u forks 0 lines starts) (ap (λ n. take n u.lines) all ∙ take_whole u.lines) is.targets;
  within = is.within;
  falling = falling;
  few = (let f = is.few in omega (arith, f, all));
}

-- ---- the DOs around another one

abbrev Below : ℕ → List Loop → Type 0
Below pc [] = Unit {0}
Below pc (d ∷ ds) = (d.at < pc) × Below pc ds

is_less : (a b : ℕ) → a < b → nat_lt a b ≡ true
is_less a b h = grind (arith, nat_tests)

is_not_less : (a b : ℕ) → b ≤ a → nat_lt a b ≡ false
is_not_less a b h = grind (arith, nat_tests)

around_below : (pc : ℕ) (ds : List Loop) → Below pc ds → around pc ds ≡ ds
around_below pc [] h = refl
around_below pc (d ∷ ds) h = ap (λ b. cond b (d ∷ around pc ds) (around pc ds)) (is_less d.at pc h.0) ∙ ap (λ es. d ∷ es) (around_below pc ds h.1)

below_more : (pc : ℕ) (ds : List Loop) → Below pc ds → Below (suc pc) ds
below_more pc [] h = tt
below_more pc (d ∷ ds) h = (let lt = h.0 in omega (arith, lt), below_more pc ds h.1)

module _ (all : List Line) (q : ℕ) where
  around_one : (pc i : ℕ) → pc ≤ i → (b : Bool) (d : Loop) → d.at ≡ i → (ds : List Loop) → around pc (cond b (d ∷ ds) ds) ≡ around pc ds
  around_one pc i le false d e ds = refl
  around_one pc i le true d e ds = ap (λ b. cond b (d ∷ around pc ds) (around pc ds)) (is_not_less d.at pc (omega (arith, le, e)))

  around_of : (pc i : ℕ) → pc ≤ i → (s : Stmt) (ds : List Loop) → around pc (loop_of all q i s ds) ≡ around pc ds
  around_of pc i le (Do label x first last step) ds =
      around_one pc i le (target all label == q) (record { at = i; variable = x; last = last; step = step }) refl ds
  around_of pc i le s ds = refl

  around_later : (pc i : ℕ) → pc ≤ i → (lines : List Line) (ds : List Loop) → around pc (loops_from all q i lines ds) ≡ around pc ds
  around_later pc i le [] ds = refl
  around_later pc i le (line ∷ lines) ds = around_later pc (suc i) (omega (arith, le)) lines (loop_of all q i line.stmt ds) ∙ around_of pc i le line.stmt ds

  below_one : (i : ℕ) (b : Bool) (d : Loop) → d.at ≡ i → (ds : List Loop) → Below i ds → Below (suc i) (cond b (d ∷ ds) ds)
  below_one i true d e ds h = (omega (arith, e), below_more i ds h)
  below_one i false d e ds h = below_more i ds h

  below_of : (i : ℕ) (s : Stmt) (ds : List Loop) → Below i ds → Below (suc i) (loop_of all q i s ds)
  below_of i (Do label x first last step) ds h = below_one i (target all label == q) (record { at = i; variable = x; last = last; step = step }) refl ds h
  below_of i s ds h = below_more i ds h

  below_all : (m k : ℕ) (ds : List Loop) → Below k ds → Below (k + m) ds
  below_all m k [] h = tt
  below_all m k (d ∷ ds) h = (let lt = h.0 in omega (arith, lt), below_all m k ds h.1)

  first_around : (m k : ℕ) (lines : List Line) (ds : List Loop) → Below k ds → around (k + m) (loops_from all q k lines ds) ≡ loops_from all q k (take m lines) ds
  first_around zero k [] ds h = around_below (k + 0) ds (below_all 0 k ds h)
  first_around (suc m) k [] ds h = around_below (k + suc m) ds (below_all (suc m) k ds h)
  first_around zero k (line ∷ lines) ds h = around_later (k + 0) k (omega arith) (line ∷ lines) ds ∙ around_below (k + 0) ds (below_all 0 k ds h)
  first_around (suc m) k (line ∷ lines) ds h =
      ap (λ n. around n (loops_from all q (suc k) lines (loop_of all q k line.stmt ds))) (plus_suc k m)
      ∙ first_around m (suc k) lines (loop_of all q k line.stmt ds) (below_of k line.stmt ds h)

around_are : (u : Routine) (q pc : ℕ) → loops_from u.lines q 0 (take pc u.lines) [] ≡ loops_around u q pc
around_are u q pc = sym (ap (λ n. around n (loops_from u.lines q 0 u.lines [])) (none_plus pc) ∙ first_around u.lines q pc 0 u.lines [] tt)

-- ---- what is known

over_at : (u : Routine) (forks : List Fork) (pc : ℕ) (o : Option ℕ) (t : Target) → IsOver u forks pc o t → IsOverAt u forks pc o t
over_at u forks pc None t h = tt
over_at u forks pc (Some label) t h = subst (λ ds. AreTests forks (next_point u (target u.lines label)) ds t) (around_are u (target u.lines label) pc) h

pub known_by : (k : Known) (forks : List Fork) → IsFlowing k.unit.now → AreLabelsOf k.unit.now.lines k.labels → AreTurnsOf k.unit.now k.turns
    → AreChains k.unit.now (length k.unit.now.lines) forks k.behind.items k.over.items → IsKnown k forks
known_by k forks flowing labels turns chains = record {
  flowing = flowing;
  known = record { labels = labels; few = flowing.few };
  turns = turns;
  falling = chains.falling;
  behind_long = chains.behind_long;
  over_long = chains.over_long;
  tests = λ q t e. (
    subst (λ lines. AreTests forks (next_point k.unit.now q) (loops_from k.unit.now.lines q 0 lines []) t) (take_whole k.unit.now.lines) (chains.tests q t e).0,
    (chains.tests q t e).1,
  );
  overs = λ q t line e h. (over_at k.unit.now forks q (do_label line.stmt) t (chains.overs q t line e h).0, (chains.overs q t line e h).1);
}
