-- By the rules RETURNs alone lead to the end of a unit.
use Rattle.std.proofs.Common.{◌≡◌, ℕ, zero, suc, ◌+◌, inl, inr, Bool, true, false, cond, not, ◌&&◌, ◌||◌, List, [], ◌∷◌, map, length, Option, Some, None, slice_get, nat_lt, refl, sym, ap, ◌∙◌, subst, arith}
use Rattle.std.specs.Prelude.{◌==◌}
use Rattle.std.specs.List.{list_any, list_all}
use Rattle.fort_syntax.specs.Grammar.{is_carried}
use Rattle.fort_syntax.specs.TreePatterns.{carried}
use Rattle.fort_syntax.specs.UseRules.{has_label}
use Rattle.fort_syntax.specs.Uses.{used_labels}
use Rattle.fort_syntax.specs.WellFormed.{IsWellFormedUnit, is_right_statement, has_right_form}
use Rattle.fort_syntax.specs.declared.dialect.Dialect.{Dialect}
use Rattle.fort_syntax.specs.declared.dialect.Dialect.TheVariants.{Common as CommonDialect, SeventySeven}
use Rattle.fort_syntax.specs.declared.expr.Expr.{Expr}
use Rattle.fort_syntax.specs.declared.name.Name.{Name}
use Rattle.fort_syntax.specs.declared.rule.Rule.TheVariants.{BadLastOfDo, FallsOffEnd}
use Rattle.fort_syntax.specs.declared.stmt.Stmt.{Stmt}
use Rattle.fort_syntax.specs.declared.stmt.Stmt.TheVariants.{Subroutine, Function, Declare, Dimension, Common, Assign, GoTo, Computed, ArithIf, LogicalIf', Do, Continue, Call, Return, End, BlockIf, ElseIf, Else, EndIf}
use Rattle.fort_syntax.specs.declared.unit.Line.{Line}
use Rattle.fort_syntax.specs.declared.unit.Unit.{Unit as Routine}
use Rattle.fort_model.specs.Flow.{Part, Opens, Branches, Closes, Plain, part_of, part_in, target, is_branch, is_close, next_by, next_point, next_branch, Loop, loop_of, loops_from, loops_at, around, loops_around, one_way, one_of, through, behind, leads_do, leads_computed, leads}
use Rattle.fort_model.specs.Lists.{IsAmong}
use Rattle.fort_model.specs.Program.{Program}
use Rattle.fort_model.specs.Ranges.{last_of_do, is_bad_last, is_bad_line, ends_badly, has_bad_last}
use Rattle.fort_model.specs.Rules.{KeepsRules, ends_flow, off_end}
use Rattle.fort_laws.specs.GoodDecks.{EndsAreReturns}
use Rattle.fort_laws.specs.Ways.{IsReturn}
use Rattle.fort_laws.proofs.BlocksClose.{IsAt, IsFork, fork_ends}
use Rattle.fort_laws.proofs.DeclaredNames.{among_mapped}
use Rattle.fort_laws.proofs.DeclaredUses.{right_line}
use Rattle.fort_laws.proofs.RulesKept.{card_found, is_false, split}
use Rattle.fort_laws.proofs.Tests.{all_among, one_item}

-- ---- statements

-- what may end a DO goes on behind itself
good_last_goes_on : (dialect : Dialect) (s : Stmt) → is_bad_last s ≡ false → ends_flow dialect s ≡ false
good_last_goes_on dialect (Subroutine f dummies) h = refl
good_last_goes_on dialect (Function sort f dummies) h = refl
good_last_goes_on dialect (Declare sort items) h = refl
good_last_goes_on dialect (Dimension items) h = refl
good_last_goes_on dialect (Common groups) h = refl
good_last_goes_on dialect (Assign left right) h = refl
good_last_goes_on dialect (GoTo label) h = absurd (cc)
good_last_goes_on dialect (Computed labels x) h = absurd (cc)
good_last_goes_on dialect (ArithIf e l m n) h = absurd (cc)
good_last_goes_on dialect (LogicalIf' e shape (carried s)) h = refl
good_last_goes_on dialect (Do label x first last step) h = refl
good_last_goes_on dialect Continue h = refl
good_last_goes_on dialect (Call f args) h = refl
good_last_goes_on dialect Return h = absurd (cc)
good_last_goes_on dialect End h = refl
good_last_goes_on dialect (BlockIf e) h = refl
good_last_goes_on dialect (ElseIf e) h = refl
good_last_goes_on dialect Else h = refl
good_last_goes_on dialect EndIf h = refl

-- ---- labels and lists of choices

label_at : (lines : List Line) (label : ℕ) → list_any (λ line. line.label == label) lines ≡ true → IsAt lines (target lines label)
label_at [] label h = absurd (cc)
label_at (line ∷ lines) label h = by_test (line.label == label) h (label_at lines label)
  where
    by_test : (t : Bool) → (t || list_any (λ line. line.label == label) lines) ≡ true → (list_any (λ line. line.label == label) lines ≡ true → IsAt lines (target lines label))
        → IsAt (line ∷ lines) (cond t 0 (suc (target lines label)))
    by_test true k rec = (line, refl)
    by_test false k rec = rec k

one_chosen : (qs : List ℕ) (cs : List ℕ) (q : ℕ) → one_of qs cs ≡ Some q → IsAmong q qs
one_chosen qs [] q h = absurd (cc)
one_chosen qs (zero ∷ []) q h = absurd (cc)
one_chosen qs (suc i ∷ []) q h = (i, h)
one_chosen qs (i ∷ (j ∷ cs)) q h = absurd (cc)

only_way : (q r : ℕ) (cs : List ℕ) → one_way q cs ≡ Some r → q ≡ r
only_way q r [] h = one_item h
only_way q r (c ∷ cs) h = absurd (cc)

-- ---- the last statement

last_goes_on : (dialect : Dialect) (u : Routine) (lines : List Line) (k : ℕ) (line : Line) → ((card : ℕ) → IsAmong card (off_end dialect u lines) → ⊥) → slice_get lines k ≡ Some line
    → ends_flow dialect line.stmt ≡ false → IsAt lines (suc k)
last_goes_on dialect u [] k line none e f = absurd (cc)
last_goes_on dialect u (x ∷ []) zero line none e f =
    let s : x ≡ line = cc in
    absurd (none x.card (subst (λ b. IsAmong x.card (cond b [] (x.card ∷ []))) (sym (ap (λ (z : Line). ends_flow dialect z.stmt) s ∙ f)) (0, refl)))
last_goes_on dialect u (x ∷ []) (suc k) line none e f = absurd (cc)
last_goes_on dialect u (x ∷ (y ∷ ys)) zero line none e f = (y, refl)
last_goes_on dialect u (x ∷ (y ∷ ys)) (suc k) line none e f = last_goes_on dialect u (y ∷ ys) k line none e f

module _ (dialect : Dialect) (p : Program) (i : ℕ) (u : Routine) (is : slice_get p.units i ≡ Some u) (w : IsWellFormedUnit dialect u) (keeps : KeepsRules p) where
  abbrev Inside : ℕ → Type 0
  Inside q = IsAt u.lines q

  not_off : (card : ℕ) → IsAmong card (off_end p.dialect u u.lines) → ⊥
  not_off card m = keeps FallsOffEnd i card (record { unit = u; is_unit = is; breaks = m })

  goes_on : (pc : ℕ) (line : Line) → slice_get u.lines pc ≡ Some line → ends_flow p.dialect line.stmt ≡ false → Inside (suc pc)
  goes_on pc line e f = last_goes_on p.dialect u u.lines pc line not_off e f

  -- the flow goes on to the next statement, or from the last of a block to its END IF
  next_inside : (pc : ℕ) → Inside (suc pc) → Inside (next_point u pc)
  next_inside pc (line, e) = by_part (part_of line.stmt) refl
    where
      here : (part : Part) → part_of line.stmt ≡ part → next_point u pc ≡ next_by part u pc
      here part q = ap (λ o. next_by (part_in o) u pc) e ∙ ap (λ k. next_by k u pc) q

      by_part : (part : Part) → part_of line.stmt ≡ part → Inside (next_point u pc)
      by_part Opens q = subst Inside (sym (here Opens q)) (line, e)
      by_part Closes q = subst Inside (sym (here Closes q)) (line, e)
      by_part Plain q = subst Inside (sym (here Plain q)) (line, e)
      by_part Branches q = subst Inside (sym (here Branches q)) (fork_ends dialect u w is_close refl (suc pc) line e (inr q))

  branch_inside : (pc : ℕ) (line : Line) → slice_get u.lines pc ≡ Some line → IsFork line.stmt → Inside (next_branch u pc)
  branch_inside pc line e fork = fork_ends dialect u w is_branch refl pc line e fork

  -- ---- DOs

  abbrev LoopsInside : List Loop → Type 0
  LoopsInside ds = (d : Loop) → IsAmong d ds → Inside (suc d.at)

  add_loop : (pc k : ℕ) (s : Stmt) (ds : List Loop) → (ends_flow p.dialect s ≡ false → Inside (suc k)) → LoopsInside ds → LoopsInside (loop_of u.lines pc k s ds)
  add_loop pc k (Do label x first last step) ds on h = put (target u.lines label == pc)
    where
      with_one : LoopsInside (record { at = k; variable = x; last = last; step = step } ∷ ds)
      with_one d (zero, e) = subst (λ (z : Loop). Inside (suc z.at)) (one_item e) (on refl)
      with_one d (suc n, e) = h d (n, e)

      put : (t : Bool) → LoopsInside (cond t (record { at = k; variable = x; last = last; step = step } ∷ ds) ds)
      put true = with_one
      put false = h
  add_loop pc k (Subroutine f dummies) ds on h = h
  add_loop pc k (Function sort f dummies) ds on h = h
  add_loop pc k (Declare sort items) ds on h = h
  add_loop pc k (Dimension items) ds on h = h
  add_loop pc k (Common groups) ds on h = h
  add_loop pc k (Assign left right) ds on h = h
  add_loop pc k (GoTo label) ds on h = h
  add_loop pc k (Computed labels x) ds on h = h
  add_loop pc k (ArithIf e l m n) ds on h = h
  add_loop pc k (LogicalIf' e shape (carried s)) ds on h = h
  add_loop pc k Continue ds on h = h
  add_loop pc k (Call f args) ds on h = h
  add_loop pc k Return ds on h = h
  add_loop pc k End ds on h = h
  add_loop pc k (BlockIf e) ds on h = h
  add_loop pc k (ElseIf e) ds on h = h
  add_loop pc k Else ds on h = h
  add_loop pc k EndIf ds on h = h

  loops_inside : (pc k : ℕ) (lines : List Line) (ds : List Loop) → ((n : ℕ) (line : Line) → slice_get lines n ≡ Some line → slice_get u.lines (k + n) ≡ Some line) → LoopsInside ds
      → LoopsInside (loops_from u.lines pc k lines ds)
  loops_inside pc k [] ds at h = h
  loops_inside pc k (line ∷ lines) ds at h =
      let here : slice_get u.lines k ≡ Some line = let e : k ≡ k + 0 = omega arith in ap (slice_get u.lines) e ∙ at 0 line refl in
      loops_inside pc (suc k) lines (loop_of u.lines pc k line.stmt ds)
      (λ n l e. let q : suc k + n ≡ k + suc n = omega arith in ap (slice_get u.lines) q ∙ at (suc n) l e)
      (add_loop pc k line.stmt ds (goes_on k line here) h)

  all_loops : (pc : ℕ) → LoopsInside (loops_at u pc)
  all_loops pc = loops_inside pc 0 u.lines [] (λ n line e. let q : 0 + n ≡ n = omega arith in ap (slice_get u.lines) q ∙ e) (λ d m. absurd (none d m))
    where
      none : (d : Loop) → IsAmong d [] → ⊥
      none d m = absurd (cc)

  fewer_loops : (pc : ℕ) (ds : List Loop) → LoopsInside ds → LoopsInside (around pc ds)
  fewer_loops pc [] h = h
  fewer_loops pc (d ∷ ds) h = put (nat_lt d.at pc) (fewer_loops pc ds (λ e m. h e (suc m.0, m.1)))
    where
      with_one : LoopsInside (around pc ds) → LoopsInside (d ∷ around pc ds)
      with_one rest e (zero, q) = h e (0, q)
      with_one rest e (suc n, q) = rest e (n, q)

      put : (t : Bool) → LoopsInside (around pc ds) → LoopsInside (cond t (d ∷ around pc ds) (around pc ds))
      put false rest = rest
      put true rest = with_one rest

  through_inside : (q : ℕ) (ds : List Loop) (cs : List ℕ) (r : ℕ) → Inside q → LoopsInside ds → through q ds cs ≡ Some r → Inside r
  through_inside q [] cs r inside h e = subst Inside (only_way q r cs e) inside
  through_inside q (d ∷ ds) [] r inside h e = absurd (cc)
  through_inside q (d ∷ ds) (zero ∷ cs) r inside h e = absurd (cc)
  through_inside q (d ∷ ds) (suc zero ∷ cs) r inside h e = subst Inside (only_way (suc d.at) r cs e) (h d (0, refl))
  through_inside q (d ∷ ds) (suc (suc zero) ∷ cs) r inside h e = through_inside q ds cs r inside (λ l m. h l (suc m.0, m.1)) e
  through_inside q (d ∷ ds) (suc (suc (suc j)) ∷ cs) r inside h e = absurd (cc)

  behind_inside : (pc : ℕ) (cs : List ℕ) (r : ℕ) → Inside (suc pc) → behind u pc cs ≡ Some r → Inside r
  behind_inside pc cs r on e = through_inside (next_point u pc) (loops_at u pc) cs r (next_inside pc on) (all_loops pc) e

  -- ---- labels

  abbrev Labelled : List ℕ → Type 0
  Labelled labels = (label : ℕ) → IsAmong label labels → Inside (target u.lines label)

  labelled : (labels : List ℕ) → list_all (λ label. has_label label u.lines) labels ≡ true → Labelled labels
  labelled labels h label m = label_at u.lines label (split (not (label == 0)) (list_any (λ line. line.label == label) u.lines) (all_among (λ label. has_label label u.lines) labels label h m)).1

  one_labelled : (labels cs : List ℕ) (r : ℕ) → Labelled labels → one_of (map (target u.lines) labels) cs ≡ Some r → Inside r
  one_labelled labels cs r h e =
      let m = among_mapped (target u.lines) labels r (one_chosen (map (target u.lines) labels) cs r e) in
      subst Inside m.2 (h m.0 m.1)

  -- ---- where statements lead

  -- the last statement of a DO goes on behind itself
  last_inside : (pc label : ℕ) → ends_badly u (last_of_do u pc label) ≡ false → Inside (suc (target u.lines label))
  last_inside pc label h = by_range (nat_lt pc (target u.lines label) && nat_lt (target u.lines label) (length u.lines)) h
    where
      by_line : (o : Option Line) → slice_get u.lines (target u.lines label) ≡ o → is_bad_line o ≡ false → Inside (suc (target u.lines label))
      by_line None q b = absurd (cc)
      by_line (Some line) q b = goes_on (target u.lines label) line q (good_last_goes_on p.dialect line.stmt b)

      by_range : (t : Bool) → ends_badly u (cond t (Some (target u.lines label)) None) ≡ false → Inside (suc (target u.lines label))
      by_range true b = by_line (slice_get u.lines (target u.lines label)) refl b
      by_range false b = absurd (cc)

  do_inside : (d : Dialect) (pc label : ℕ) (cs : List ℕ) (r : ℕ) → Inside (suc pc) → ends_badly u (last_of_do u pc label) ≡ false → leads_do d u (target u.lines label) pc cs ≡ Some r → Inside r
  do_inside CommonDialect pc label cs r on h e = subst Inside (only_way (suc pc) r cs e) on
  do_inside SeventySeven pc label [] r on h e = absurd (cc)
  do_inside SeventySeven pc label (zero ∷ cs) r on h e = absurd (cc)
  do_inside SeventySeven pc label (suc zero ∷ cs) r on h e = subst Inside (only_way (suc pc) r cs e) on
  do_inside SeventySeven pc label (suc (suc zero) ∷ cs) r on h e =
      through_inside (next_point u (target u.lines label)) (loops_around u (target u.lines label) pc) cs r (next_inside (target u.lines label) (last_inside pc label h))
      (fewer_loops pc (loops_at u (target u.lines label)) (all_loops (target u.lines label))) e
  do_inside SeventySeven pc label (suc (suc (suc j)) ∷ cs) r on h e = absurd (cc)

  computed_inside : (d : Dialect) (pc : ℕ) (labels cs : List ℕ) (x : Name) (r : ℕ) → (ends_flow d (Computed labels x) ≡ false → Inside (suc pc)) → Labelled labels
      → leads_computed d u pc (map (target u.lines) labels) cs ≡ Some r → Inside r
  computed_inside CommonDialect pc labels cs x r on h e = one_labelled labels cs r h e
  computed_inside SeventySeven pc labels [] x r on h e = absurd (cc)
  computed_inside SeventySeven pc labels (c ∷ cs) x r on h e = by_choice (c == suc (length (map (target u.lines) labels))) e
    where
      by_choice : (t : Bool) → cond t (behind u pc cs) (one_of (map (target u.lines) labels) (c ∷ cs)) ≡ Some r → Inside r
      by_choice true q = behind_inside pc cs r (on refl) q
      by_choice false q = one_labelled labels (c ∷ cs) r h q

  -- of two points
  one_of_two : (a b : ℕ) (cs : List ℕ) (r : ℕ) → Inside a → Inside b → one_of (a ∷ b ∷ []) cs ≡ Some r → Inside r
  one_of_two a b cs r first second e = pick (one_chosen (a ∷ b ∷ []) cs r e)
    where
      pick : IsAmong r (a ∷ b ∷ []) → Inside r
      pick (zero, q) = subst Inside (one_item q) first
      pick (suc zero, q) = subst Inside (one_item q) second
      pick (suc (suc n), q) = absurd (cc)

  -- what is known of a statement at a point
  record Placed (pc : ℕ) (s : Stmt) : Type 0 where
    on : ends_flow p.dialect s ≡ false → Inside (suc pc)
    labels : Labelled (used_labels s)
    fork : IsFork s → Inside (next_branch u pc)
    last : has_bad_last u pc s ≡ false
    form : has_right_form s ≡ true

  -- a statement leads to a statement, or is a RETURN
  abbrev Leads : ℕ → Stmt → Type 0
  Leads pc s = (cs : List ℕ) (q : ℕ) → leads p.dialect u pc s cs ≡ Some q → slice_get u.lines q ≡ None → IsReturn s cs

  outside : {A : Type 0} (q : ℕ) → Inside q → slice_get u.lines q ≡ None → A
  outside q inside e = absurd (unlike (sym inside.1 ∙ e))
    where
      unlike : Some inside.0 ≡ None → ⊥
      unlike h = absurd (cc)

  labelled_to : (labels : List ℕ) (label : ℕ) (cs : List ℕ) (q : ℕ) → Labelled labels → IsAmong label labels → one_way (target u.lines label) cs ≡ Some q → Inside q
  labelled_to labels label cs q h m e = subst Inside (only_way (target u.lines label) q cs e) (h label m)

  -- what a logical IF carries
  carried_leads : (pc : ℕ) (s : Stmt) → is_carried s ≡ true → Inside (suc pc) → Labelled (used_labels s) → Leads pc s
  carried_leads pc (Subroutine f dummies) t on labels cs q e n = absurd (cc)
  carried_leads pc (Function sort f dummies) t on labels cs q e n = absurd (cc)
  carried_leads pc (Declare sort items) t on labels cs q e n = absurd (cc)
  carried_leads pc (Dimension items) t on labels cs q e n = absurd (cc)
  carried_leads pc (Common groups) t on labels cs q e n = absurd (cc)
  carried_leads pc (Assign left right) t on labels cs q e n = outside q (behind_inside pc cs q on e) n
  carried_leads pc (GoTo label) t on labels cs q e n = outside q (labelled_to (label ∷ []) label cs q labels (0, refl) e) n
  carried_leads pc (Computed ls x) t on labels cs q e n = outside q (computed_inside p.dialect pc ls cs x q (λ f. on) labels e) n
  carried_leads pc (ArithIf c k l m) t on labels cs q e n = outside q (one_labelled (k ∷ l ∷ m ∷ []) cs q labels e) n
  carried_leads pc (LogicalIf' c shape s) t on labels cs q e n = absurd (cc)
  carried_leads pc (Do label x first last step) t on labels cs q e n = absurd (cc)
  carried_leads pc Continue t on labels cs q e n = outside q (behind_inside pc cs q on e) n
  carried_leads pc (Call f args) t on labels cs q e n = outside q (behind_inside pc cs q on e) n
  carried_leads pc Return t on labels cs q e n = tt
  carried_leads pc End t on labels cs q e n = absurd (cc)
  carried_leads pc (BlockIf c) t on labels cs q e n = absurd (cc)
  carried_leads pc (ElseIf c) t on labels cs q e n = absurd (cc)
  carried_leads pc Else t on labels cs q e n = absurd (cc)
  carried_leads pc EndIf t on labels cs q e n = absurd (cc)

  condition_leads : (pc : ℕ) (s : Stmt) → is_carried s ≡ true → Inside (suc pc) → Labelled (used_labels s) → (c : Expr) → Leads pc (LogicalIf' c _ (carried s))
  condition_leads pc s t on labels c [] q e n = absurd (cc)
  condition_leads pc s t on labels c (zero ∷ cs) q e n = absurd (cc)
  condition_leads pc s t on labels c (suc zero ∷ cs) q e n = carried_leads pc s t on labels cs q e n
  condition_leads pc s t on labels c (suc (suc zero) ∷ cs) q e n = outside q (behind_inside pc cs q on e) n
  condition_leads pc s t on labels c (suc (suc (suc j)) ∷ cs) q e n = absurd (cc)

  statement_leads : (pc : ℕ) (s : Stmt) → Placed pc s → Leads pc s
  statement_leads pc (Subroutine f dummies) h cs q e n = absurd (cc)
  statement_leads pc (Function sort f dummies) h cs q e n = absurd (cc)
  statement_leads pc (Declare sort items) h cs q e n = absurd (cc)
  statement_leads pc (Dimension items) h cs q e n = absurd (cc)
  statement_leads pc (Common groups) h cs q e n = absurd (cc)
  statement_leads pc (Assign left right) h cs q e n = outside q (behind_inside pc cs q (h.on refl) e) n
  statement_leads pc (GoTo label) h cs q e n = outside q (labelled_to (label ∷ []) label cs q h.labels (0, refl) e) n
  statement_leads pc (Computed ls x) h cs q e n = outside q (computed_inside p.dialect pc ls cs x q h.on h.labels e) n
  statement_leads pc (ArithIf c k l m) h cs q e n = outside q (one_labelled (k ∷ l ∷ m ∷ []) cs q h.labels e) n
  statement_leads pc (LogicalIf' c shape (carried s)) h cs q e n = condition_leads pc s (split (is_carried s) (has_right_form s) h.form).0 (h.on refl) h.labels c cs q e n
  statement_leads pc (Do label x first last step) h cs q e n = outside q (do_inside p.dialect pc label cs q (h.on refl) h.last e) n
  statement_leads pc Continue h cs q e n = outside q (behind_inside pc cs q (h.on refl) e) n
  statement_leads pc (Call f args) h cs q e n = outside q (behind_inside pc cs q (h.on refl) e) n
  statement_leads pc Return h cs q e n = tt
  statement_leads pc End h cs q e n = absurd (cc)
  statement_leads pc (BlockIf c) h cs q e n = outside q (one_of_two (next_point u pc) (next_branch u pc) cs q (next_inside pc (h.on refl)) (h.fork (inl refl)) e) n
  statement_leads pc (ElseIf c) h cs q e n = outside q (one_of_two (next_point u pc) (next_branch u pc) cs q (next_inside pc (h.on refl)) (h.fork (inr refl)) e) n
  statement_leads pc Else h cs q e n = outside q (behind_inside pc cs q (h.on refl) e) n
  statement_leads pc EndIf h cs q e n = outside q (behind_inside pc cs q (h.on refl) e) n

  placed : (pc : ℕ) (line : Line) → slice_get u.lines pc ≡ Some line → Placed pc line.stmt
  placed pc line e = record {
    on = goes_on pc line e;
    labels = labelled (used_labels line.stmt) (split _ _ (all_among (λ line. is_right_statement dialect u line.stmt) u.lines line w.statements (pc, e))).1;
    fork = branch_inside pc line e;
    last = is_false (has_bad_last u pc line.stmt)
        (λ t. keeps BadLastOfDo i line.card
        (record { unit = u; is_unit = is; breaks = card_found (has_bad_last u) 0 u.lines pc line e (ap (λ k. has_bad_last u k line.stmt) at_pc ∙ t) }));
    form = (right_line dialect u w line (pc, e)).form;
  }
    where
      at_pc : 0 + pc ≡ pc
      at_pc = omega arith

pub ends_are_returns : EndsAreReturns
ends_are_returns dialect p i u is w keeps pc line cs q e to n = statement_leads dialect p i u is w keeps pc line.stmt (placed dialect p i u is w keeps pc line e) cs q to n
