-- All choices under which a statement leads on.
use Rattle.std.proofs.Common.{◌≡◌, ◌⊎◌, ℕ, zero, suc, ◌+◌, ◌<◌, Bool, true, false, cond, List, [], ◌∷◌, map, length, Option, Some, None, slice_get, refl, sym, ap, ◌∙◌, subst, inl, inr, arith}
use Rattle.std.specs.Prelude.{◌==◌}
use Rattle.std.proofs.lemmas.Bool.Decides.{nat_tests}
use Rattle.std.proofs.lemmas.Option.{slice_get_within}
use Rattle.fort_syntax.specs.TreePatterns.{carried}
use Rattle.fort_syntax.specs.declared.dialect.Dialect.{Dialect}
use Rattle.fort_syntax.specs.declared.dialect.Dialect.TheVariants.{Common, SeventySeven}
use Rattle.fort_syntax.specs.declared.expr.Expr.{Expr}
use Rattle.fort_syntax.specs.declared.stmt.Stmt.{Stmt}
use Rattle.fort_syntax.specs.declared.stmt.Stmt.TheVariants.{Subroutine, Function, Declare, Dimension, Common as CommonBlock, Assign, GoTo, Computed, ArithIf, LogicalIf', Do, Continue, Call, Return, End, BlockIf, ElseIf, Else, EndIf}
use Rattle.fort_syntax.specs.declared.unit.Unit.{Unit as Routine}
use Rattle.fort_model.specs.Flow.{leads, target, one_way, one_of, Loop, loops_at, loops_around, next_point, next_branch, through, behind, passed_over, leads_do, leads_computed}
use Rattle.fort_model.specs.Lists.{IsAmong}
use Rattle.note_laws.proofs.Small.{known, none_among}
use Rattle.path_laws.proofs.Pairs.{Below, below_heads, below_front, Pairs, Listing, none_listed, one_listed, retold, both_listed, made_listed}

-- choices lead somewhere
abbrev pub LeadsTo : (List ℕ → Option ℕ) → List ℕ → Type 0
LeadsTo lead cs = (q : ℕ) × (lead cs ≡ Some q)

abbrev pub itself : List ℕ → List ℕ
itself cs = cs

abbrev pub Choices : (List ℕ → Option ℕ) → Type 0
Choices lead = Listing (LeadsTo lead) itself

same_choices : (f g : List ℕ → Option ℕ) → ((cs : List ℕ) → f cs ≡ g cs) → Choices f → Choices g
same_choices f g e = retold (LeadsTo f) (LeadsTo g) itself (λ cs h. (h.0, sym (e cs) ∙ h.1)) (λ cs h. (h.0, e cs ∙ h.1))

no_choices : (f : List ℕ → Option ℕ) → ((cs : List ℕ) → f cs ≡ None) → Choices f
no_choices f e = none_listed (LeadsTo f) itself (λ cs h. clash (f cs) h.0 (e cs) h.1)
  where
    clash : (o : Option ℕ) (q : ℕ) → o ≡ None → o ≡ Some q → ⊥
    clash o q a b = absurd (cc)

one_choice : (q : ℕ) → Choices (one_way q)
one_choice q = one_listed (LeadsTo (one_way q)) itself [] (q, refl) only
  where
    only : (cs : List ℕ) → LeadsTo (one_way q) cs → [] ≡ cs
    only [] h = refl
    only (c ∷ cs) h = let e = h.1 in absurd (cc)

-- ---- the choice 1 and the choice 2

abbrev fork : (List ℕ → Option ℕ) → (List ℕ → Option ℕ) → List ℕ → Option ℕ
fork a b [] = None
fork a b (zero ∷ cs) = None
fork a b (suc zero ∷ cs) = a cs
fork a b (suc (suc zero) ∷ cs) = b cs
fork a b (suc (suc (suc i)) ∷ cs) = None

-- choices that begin with one, behind which others lead on
abbrev Begins : ℕ → (List ℕ → Option ℕ) → List ℕ → Type 0
Begins n lead cs = (rest : List ℕ) × (cs ≡ n ∷ rest) × LeadsTo lead rest

begun : (n : ℕ) (lead : List ℕ → Option ℕ) → Choices lead → Listing (Begins n lead) itself
begun n lead c =
    made_listed (LeadsTo lead) (Begins n lead) itself itself (λ cs. n ∷ cs) c (λ x y h. below_front (n ∷ []) x y h) (λ cs h. (cs, refl, h)) (λ cs h. (h.0, h.2, sym h.1))

-- what begins with a lesser number comes first
begins_below : (n m : ℕ) (f g : List ℕ → Option ℕ) → n < m → (x y : List ℕ) → Begins n f x → Begins m g y → Below x y
begins_below n m f g lt x y h k =
    subst (λ a. Below a y) (sym h.1) (subst (λ b. Below (n ∷ h.0) b) (sym k.1) (below_heads n m h.0 k.0 lt))

forked : (a b : List ℕ → Option ℕ) → Choices a → Choices b → Choices (fork a b)
forked a b c d =
    both_listed (Begins 1 a) (Begins 2 b) (LeadsTo (fork a b)) itself (begun 1 a c) (begun 2 b d) (begins_below 1 2 a b (omega arith))
    (λ cs h. (h.2.0, ap (fork a b) h.1 ∙ h.2.1)) (λ cs h. (h.2.0, ap (fork a b) h.1 ∙ h.2.1)) split
  where
    split : (cs : List ℕ) → LeadsTo (fork a b) cs → Begins 1 a cs ⊎ Begins 2 b cs
    split [] h = let e = h.1 in absurd (cc)
    split (zero ∷ cs) h = let e = h.1 in absurd (cc)
    split (suc zero ∷ cs) h = inl (cs, refl, h)
    split (suc (suc zero) ∷ cs) h = inr (cs, refl, h)
    split (suc (suc (suc i)) ∷ cs) h = let e = h.1 in absurd (cc)

-- ---- one of several points

singles : ℕ → List ℕ → List (List ℕ)
singles k [] = []
singles k (q ∷ qs) = (k ∷ []) ∷ singles (suc k) qs

record Single (k : ℕ) (qs : List ℕ) (cs : List ℕ) : Type 0 where
  place : ℕ
  point : ℕ
  at : slice_get qs place ≡ Some point
  is : cs ≡ (k + place) ∷ []

single_of : (k : ℕ) (qs : List ℕ) (cs : List ℕ) → IsAmong cs (singles k qs) → Single k qs cs
unfolding singles
single_of k [] cs m = none_among m
single_of k (q ∷ qs) cs (zero, e) =
    let same : (k ∷ []) ≡ cs = cc in
    let zeroth : k ≡ k + 0 = omega arith in
    record { place = 0; point = q; at = refl; is = sym same ∙ ap (λ n. n ∷ []) zeroth }
single_of k (q ∷ qs) cs (suc i, e) =
    let s = single_of (suc k) qs cs (i, e) in
    let next : suc k + s.place ≡ k + suc s.place = omega arith in
    record { place = suc s.place; point = s.point; at = s.at; is = s.is ∙ ap (λ n. n ∷ []) next }

single_there : (k : ℕ) (qs : List ℕ) (i q n : ℕ) → slice_get qs i ≡ Some q → n ≡ k + i → IsAmong (n ∷ []) (singles k qs)
unfolding singles
single_there k [] i q n e f = absurd (cc)
single_there k (p ∷ qs) zero q n e f = let same : k ≡ n = omega arith in (0, ap (λ (m : ℕ). Some (m ∷ [])) same)
single_there k (p ∷ qs) (suc i) q n e f = let next : n ≡ suc k + i = omega arith in let r = single_there (suc k) qs i q n e next in (suc r.0, r.1)

singles_apart : (k : ℕ) (qs : List ℕ) → Pairs (λ x y. Below x y) (singles k qs)
unfolding singles
singles_apart k [] = tt
singles_apart k (q ∷ qs) = (
  λ y m. let s = single_of (suc k) qs y m in
      let lt : k < suc k + s.place = omega arith in subst (λ b. Below (k ∷ []) b) (sym s.is) (below_heads k (suc k + s.place) [] [] lt),
  singles_apart (suc k) qs,
)

-- one of some points, counted from 1
abbrev IsSingle : List ℕ → List ℕ → Type 0
IsSingle qs cs = Single 1 qs cs

singles_listed : (qs : List ℕ) → Listing (IsSingle qs) itself
singles_listed qs = record {
  list = singles 1 qs;
  sound = λ cs m. single_of 1 qs cs m;
  whole = λ cs s. subst (λ x. IsAmong x (singles 1 qs)) (sym s.is) (single_there 1 qs s.place s.point (1 + s.place) s.at refl);
  apart = singles_apart 1 qs;
}

single_leads : (qs : List ℕ) (cs : List ℕ) → IsSingle qs cs → LeadsTo (one_of qs) cs
single_leads qs cs s =
    let next : 1 + s.place ≡ suc s.place = omega arith in
    (s.point, ap (one_of qs) (s.is ∙ ap (λ n. n ∷ []) next) ∙ s.at)

leads_single : (qs : List ℕ) (cs : List ℕ) → LeadsTo (one_of qs) cs → IsSingle qs cs
leads_single qs [] h = let e = h.1 in absurd (cc)
leads_single qs (zero ∷ []) h = let e = h.1 in absurd (cc)
leads_single qs (suc i ∷ []) h = let next : suc i ≡ 1 + i = omega arith in record { place = i; point = h.0; at = h.1; is = ap (λ n. n ∷ []) next }
leads_single qs (i ∷ (j ∷ cs)) h = let e = h.1 in absurd (cc)

several : (qs : List ℕ) → Choices (one_of qs)
several qs = retold (IsSingle qs) (LeadsTo (one_of qs)) itself (single_leads qs) (leads_single qs) (singles_listed qs)

-- ---- DOs that end

through_fork : (q : ℕ) (d : Loop) (ds : List Loop) (cs : List ℕ) → fork (one_way (suc d.at)) (λ cs. through q ds cs) cs ≡ through q (d ∷ ds) cs
through_fork q d ds [] = refl
through_fork q d ds (zero ∷ cs) = refl
through_fork q d ds (suc zero ∷ cs) = refl
through_fork q d ds (suc (suc zero) ∷ cs) = refl
through_fork q d ds (suc (suc (suc i)) ∷ cs) = refl

through_choices : (q : ℕ) (ds : List Loop) → Choices (λ cs. through q ds cs)
through_choices q [] = one_choice q
through_choices q (d ∷ ds) =
    same_choices (fork (one_way (suc d.at)) (λ cs. through q ds cs)) (λ cs. through q (d ∷ ds) cs) (through_fork q d ds)
    (forked (one_way (suc d.at)) (λ cs. through q ds cs) (one_choice (suc d.at)) (through_choices q ds))

behind_choices : (u : Routine) (pc : ℕ) → Choices (λ cs. behind u pc cs)
behind_choices u pc = through_choices (next_point u pc) (loops_at u pc)

-- ---- statements

do_fork : (u : Routine) (last pc : ℕ) (cs : List ℕ) → fork (one_way (suc pc)) (λ cs. passed_over u last pc cs) cs ≡ leads_do SeventySeven u last pc cs
do_fork u last pc [] = refl
do_fork u last pc (zero ∷ cs) = refl
do_fork u last pc (suc zero ∷ cs) = refl
do_fork u last pc (suc (suc zero) ∷ cs) = refl
do_fork u last pc (suc (suc (suc i)) ∷ cs) = refl

do_choices : (dialect : Dialect) (u : Routine) (last pc : ℕ) → Choices (λ cs. leads_do dialect u last pc cs)
do_choices Common u last pc = one_choice (suc pc)
do_choices SeventySeven u last pc =
    same_choices (fork (one_way (suc pc)) (λ cs. passed_over u last pc cs)) (λ cs. leads_do SeventySeven u last pc cs) (do_fork u last pc)
    (forked (one_way (suc pc)) (λ cs. passed_over u last pc cs) (one_choice (suc pc)) (through_choices (next_point u last) (loops_around u last pc)))

module _ (u : Routine) (pc : ℕ) (qs : List ℕ) where
  abbrev going : List ℕ → Option ℕ
  going cs = leads_computed SeventySeven u pc qs cs

  -- a choice of a label is not the one behind the last
  label_going : (cs : List ℕ) → IsSingle qs cs → LeadsTo going cs
  label_going cs s =
      let lt = slice_get_within qs s.place s.point s.at in
      let next : 1 + s.place ≡ suc s.place = omega arith in
      let is : cs ≡ suc s.place ∷ [] = s.is ∙ ap (λ n. n ∷ []) next in
      (s.point, ap going is ∙ (ap (λ (b : Bool). cond b (behind u pc []) (one_of qs (suc s.place ∷ []))) (not_last s.place (length qs) lt) ∙ s.at))
    where
      not_last : (i n : ℕ) → i < n → (suc i == suc n) ≡ false
      not_last i n lt = grind (arith, nat_tests)

  behind_going : (cs : List ℕ) → Begins (suc (length qs)) (λ cs. behind u pc cs) cs → LeadsTo going cs
  behind_going cs h = (h.2.0, ap going h.1 ∙ (ap (λ (b : Bool). cond b (behind u pc h.0) (one_of qs (suc (length qs) ∷ h.0))) (same (suc (length qs))) ∙ h.2.1))
    where
      same : (n : ℕ) → (n == n) ≡ true
      same n = grind (arith, nat_tests)

  going_split : (cs : List ℕ) → LeadsTo going cs → IsSingle qs cs ⊎ Begins (suc (length qs)) (λ cs. behind u pc cs) cs
  going_split [] h = let e = h.1 in absurd (cc)
  going_split (i ∷ cs) h = known (i == suc (length qs))
      (λ t. inr (cs, ap (λ n. n ∷ cs) (same i (suc (length qs)) t), (h.0, sym (ap (λ (b : Bool). cond b (behind u pc cs) (one_of qs (i ∷ cs))) t) ∙ h.1)))
      (λ f. inl (leads_single qs (i ∷ cs) (h.0, sym (ap (λ (b : Bool). cond b (behind u pc cs) (one_of qs (i ∷ cs))) f) ∙ h.1)))
    where
      same : (m n : ℕ) → (m == n) ≡ true → m ≡ n
      same m n e = grind (arith, nat_tests)

  label_below : (x y : List ℕ) → IsSingle qs x → Begins (suc (length qs)) (λ cs. behind u pc cs) y → Below x y
  label_below x y s h =
      let lt = slice_get_within qs s.place s.point s.at in
      let less : 1 + s.place < suc (length qs) = omega arith in
      subst (λ a. Below a y) (sym s.is) (subst (λ b. Below ((1 + s.place) ∷ []) b) (sym h.1) (below_heads (1 + s.place) (suc (length qs)) [] h.0 less))

  computed_77 : Choices going
  computed_77 =
      both_listed (IsSingle qs) (Begins (suc (length qs)) (λ cs. behind u pc cs)) (LeadsTo going) itself (singles_listed qs)
      (begun (suc (length qs)) (λ cs. behind u pc cs) (behind_choices u pc)) label_below label_going behind_going going_split

computed_choices : (dialect : Dialect) (u : Routine) (pc : ℕ) (qs : List ℕ) → Choices (λ cs. leads_computed dialect u pc qs cs)
computed_choices Common u pc qs = several qs
computed_choices SeventySeven u pc qs = computed_77 u pc qs

if_fork : (dialect : Dialect) (u : Routine) (pc : ℕ) (s : Stmt) (e : Expr) (cs : List ℕ)
    → fork (λ cs. leads dialect u pc s cs) (λ cs. behind u pc cs) cs ≡ leads dialect u pc (LogicalIf' e _ (carried s)) cs
if_fork dialect u pc s e [] = refl
if_fork dialect u pc s e (zero ∷ cs) = refl
if_fork dialect u pc s e (suc zero ∷ cs) = refl
if_fork dialect u pc s e (suc (suc zero) ∷ cs) = refl
if_fork dialect u pc s e (suc (suc (suc i)) ∷ cs) = refl

-- all choices under which a statement leads on
pub choices_of : (dialect : Dialect) (u : Routine) (pc : ℕ) (s : Stmt) → Choices (λ cs. leads dialect u pc s cs)
choices_of dialect u pc (Assign left right) = behind_choices u pc
choices_of dialect u pc (GoTo label) = one_choice (target u.lines label)
choices_of dialect u pc (Computed labels x) = computed_choices dialect u pc (map (target u.lines) labels)
choices_of dialect u pc (ArithIf e l m n) = several (map (target u.lines) (l ∷ m ∷ n ∷ []))
choices_of dialect u pc (LogicalIf' e _ (carried s)) =
    same_choices (fork (λ cs. leads dialect u pc s cs) (λ cs. behind u pc cs)) (λ cs. leads dialect u pc (LogicalIf' e _ (carried s)) cs) (if_fork dialect u pc s e)
    (forked (λ cs. leads dialect u pc s cs) (λ cs. behind u pc cs) (choices_of dialect u pc s) (behind_choices u pc))
choices_of dialect u pc (Do label x first last step) = do_choices dialect u (target u.lines label) pc
choices_of dialect u pc Continue = behind_choices u pc
choices_of dialect u pc (Call f args) = behind_choices u pc
choices_of dialect u pc Return = one_choice (length u.lines)
choices_of dialect u pc (BlockIf e) = several (next_point u pc ∷ next_branch u pc ∷ [])
choices_of dialect u pc (ElseIf e) = several (next_point u pc ∷ next_branch u pc ∷ [])
choices_of dialect u pc Else = behind_choices u pc
choices_of dialect u pc EndIf = behind_choices u pc
choices_of dialect u pc (Subroutine x xs) = no_choices (λ cs. leads dialect u pc (Subroutine x xs) cs) (λ cs. refl)
choices_of dialect u pc (Function o x xs) = no_choices (λ cs. leads dialect u pc (Function o x xs) cs) (λ cs. refl)
choices_of dialect u pc (Declare o items) = no_choices (λ cs. leads dialect u pc (Declare o items) cs) (λ cs. refl)
choices_of dialect u pc (Dimension items) = no_choices (λ cs. leads dialect u pc (Dimension items) cs) (λ cs. refl)
choices_of dialect u pc (CommonBlock groups) = no_choices (λ cs. leads dialect u pc (CommonBlock groups) cs) (λ cs. refl)
choices_of dialect u pc End = no_choices (λ cs. leads dialect u pc End cs) (λ cs. refl)
