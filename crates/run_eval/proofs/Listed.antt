-- The start entities of a first state.
use Rattle.std.proofs.Common.{◌≡◌, ℕ, zero, suc, ◌+◌, ◌<◌, ◌≤◌, List, [], ◌∷◌, ◌++◌, length, map, drop, get_or, Option, Some, None, slice_get, slice_index_or, refl, sym, ap, ◌∙◌, arith, append_assoc, append-nil}
use Rattle.std.proofs.lemmas.List.{at_drop_more, drop_all}
use Rattle.fort_syntax.specs.declared.name.Name.{Name}
use Rattle.fort_model.specs.Storage.{Environment}
use Rattle.run_state.specs.Deeds.{no_cells}
use Rattle.run_state.specs.Near.{segment, shortened}
use Rattle.run_state.specs.declared.machine.Extent.{Extent}
use Rattle.run_eval.specs.Entries.{entries_in, entries_of, entry_of, placed_entries, side_entries}
use Rattle.run_eval.specs.declared.entries.Entry.{Entry}

-- ---- loops

module _ (names : List Name) (es : List Extent) (first : ℕ) where
  pub side_next : (old new whole : List Entry) (done : ℕ) (x d : Name) → done < length names → x ≡ get_or names done d
      → new ≡ old ++ record { name = x; cells = slice_index_or es (first + done) no_cells } ∷ []
      → old ++ side_entries (drop done names) (first + done) es ≡ whole → new ++ side_entries (drop (done + 1) names) (first + (done + 1)) es ≡ whole
  side_next old new whole done x d lt read put had =
      let more : first + (done + 1) ≡ suc (first + done) = omega arith in
      let rest = side_entries (drop (done + 1) names) (suc (first + done)) es in
      let entry : Entry = record { name = x; cells = slice_index_or es (first + done) no_cells } in
      ap (λ (i : ℕ). new ++ side_entries (drop (done + 1) names) i es) more
      ∙ ap (λ (t : List Entry). t ++ rest) put
      ∙ append_assoc old (entry ∷ []) rest
      ∙ ap (λ (y : Name). old ++ side_entries (y ∷ drop (done + 1) names) (first + done) es) read
      ∙ sym (at_drop_more (λ (xs : List Name). old ++ side_entries xs (first + done) es) names done d lt)
      ∙ had

  pub side_first : (old : List Entry) → old ++ side_entries (drop 0 names) (first + 0) es ≡ old ++ side_entries names first es
  side_first old = let none : first + 0 ≡ first = omega arith in ap (λ (i : ℕ). old ++ side_entries names i es) none

  pub side_last : (got whole : List Entry) (done : ℕ) → length names ≤ done → got ++ side_entries (drop done names) (first + done) es ≡ whole → got ≡ whole
  side_last got whole done past had =
      sym (ap (λ (xs : List Name). got ++ side_entries xs (first + done) es) (drop_all done names past) ∙ append-nil got) ∙ had

module _ (places : List ℕ) (names : List Name) (es : List Extent) where
  pub placed_next : (old new whole : List Entry) (done place d : ℕ) → done < length places → place ≡ get_or places done d
      → new ≡ old ++ entry_of (slice_get names place) (slice_index_or es place no_cells)
      → old ++ placed_entries (drop done places) names es ≡ whole → new ++ placed_entries (drop (done + 1) places) names es ≡ whole
  placed_next old new whole done place d lt read put had =
      let rest = placed_entries (drop (done + 1) places) names es in
      ap (λ (t : List Entry). t ++ rest) put
      ∙ append_assoc old (entry_of (slice_get names place) (slice_index_or es place no_cells)) rest
      ∙ ap (λ (i : ℕ). old ++ placed_entries (i ∷ drop (done + 1) places) names es) read
      ∙ sym (at_drop_more (λ (is : List ℕ). old ++ placed_entries is names es) places done d lt)
      ∙ had

  pub placed_last : (got whole : List Entry) (done : ℕ) → length places ≤ done → got ++ placed_entries (drop done places) names es ≡ whole → got ≡ whole
  placed_last got whole done past had =
      sym (ap (λ (is : List ℕ). got ++ placed_entries is names es) (drop_all done places past) ∙ append-nil got) ∙ had

-- ---- what a first state has

at_drop : (es : List Extent) (i : ℕ) (e : Extent) (rest : List Extent) → drop i es ≡ e ∷ rest → (slice_index_or es i no_cells ≡ e) × (drop (suc i) es ≡ rest)
at_drop [] zero e rest h = absurd cc
at_drop [] (suc i) e rest h = absurd cc
at_drop (x ∷ es) zero e rest h = (cc, cc)
at_drop (x ∷ es) (suc i) e rest h = at_drop es i e rest h

side_are : (env : Environment) (xs : List Name) (i : ℕ) (es : List Extent) → drop i es ≡ segment env xs → side_entries xs i es ≡ entries_in env xs
side_are env [] i es h = refl
side_are env (x ∷ xs) i es h =
    let r = at_drop es i (shortened (env x)) (segment env xs) h in
    ap (λ (e : Extent). record { name = x; cells = e } ∷ side_entries xs (suc i) es) r.0
    ∙ ap (λ (l : List Entry). record { name = x; cells = shortened (env x) } ∷ l) (side_are env xs (suc i) es r.1)

at_mapped : (env : Environment) (names : List Name) (rest : List Extent) (i : ℕ) (x : Name) → slice_get names i ≡ Some x → slice_index_or (segment env names ++ rest) i no_cells ≡ shortened (env x)
at_mapped env [] rest i x h = absurd cc
at_mapped env (y ∷ names) rest zero x h = let same : y ≡ x = cc in ap (λ (z : Name). shortened (env z)) same
at_mapped env (y ∷ names) rest (suc i) x h = at_mapped env names rest i x h

module _ (env : Environment) (names : List Name) (more : List Extent) where
  placed_one : (i : ℕ) (x : Name) → slice_get names i ≡ Some x → entry_of (slice_get names i) (slice_index_or (segment env names ++ more) i no_cells) ≡ record { name = x; cells = shortened (env x) } ∷ []
  placed_one i x h =
      ap (λ (o : Option Name). entry_of o (slice_index_or (segment env names ++ more) i no_cells)) h ∙ ap (λ (e : Extent). record { name = x; cells = e } ∷ []) (at_mapped env names more i x h)

  placed_are : (is : List ℕ) (xs : List Name) → map (slice_get names) is ≡ map Some xs → placed_entries is names (segment env names ++ more) ≡ entries_in env xs
  placed_are [] [] h = refl
  placed_are [] (x ∷ xs) h = absurd cc
  placed_are (i ∷ is) [] h = absurd cc
  placed_are (i ∷ is) (x ∷ xs) h =
      let head : slice_get names i ≡ Some x = cc in
      let tail : map (slice_get names) is ≡ map Some xs = cc in
      ap (λ (l : List Entry). l ++ placed_entries is names (segment env names ++ more)) (placed_one i x head)
      ∙ ap (λ (l : List Entry). record { name = x; cells = shortened (env x) } ∷ l) (placed_are is xs tail)

behind_segment : (env : Environment) (names : List Name) (more : List Extent) → drop (length names) (segment env names ++ more) ≡ more
behind_segment env [] more = refl
behind_segment env (x ∷ names) more = behind_segment env names more

mapped_apart : (env : Environment) (xs ys : List Name) → entries_in env xs ++ entries_in env ys ≡ entries_in env (xs ++ ys)
mapped_apart env [] ys = refl
mapped_apart env (x ∷ xs) ys = ap (λ (l : List Entry). record { name = x; cells = shortened (env x) } ∷ l) (mapped_apart env xs ys)

-- dummies and COMMON entities with their cells
pub entries_are : (env : Environment) (names dummies commons : List Name) (shared : List ℕ) (es : List Extent) → es ≡ segment env names ++ segment env dummies
    → map (slice_get names) shared ≡ map Some commons → entries_of names dummies shared es ≡ entries_in env (dummies ++ commons)
entries_are env names dummies commons shared es is told =
    ap (λ (l : List Extent). entries_of names dummies shared l) is
    ∙ ap (λ (l : List Entry). l ++ placed_entries shared names (segment env names ++ segment env dummies))
    (side_are env dummies (length names) (segment env names ++ segment env dummies) (behind_segment env names (segment env dummies)))
    ∙ ap (λ (l : List Entry). entries_in env dummies ++ l) (placed_are env names (segment env dummies) shared commons told)
    ∙ mapped_apart env dummies commons

-- ---- one name

pub none_found : (old : List Entry) (o : Option Name) (e : Extent) → o ≡ None → old ≡ old ++ entry_of o e
none_found old o e h = sym (ap (λ (p : Option Name). old ++ entry_of p e) h ∙ append-nil old)

pub some_found : (o : Option Name) (x : Name) (e f : Extent) → o ≡ Some x → e ≡ f → ◌≡◌ {A = List Entry} (record { name = x; cells = e } ∷ []) (entry_of o f)
some_found o x e f h same = ap (λ (c : Extent). record { name = x; cells = c } ∷ []) same ∙ sym (ap (λ (p : Option Name). entry_of p f) h)
