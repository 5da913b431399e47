-- All ways from a point to the next cut point, in order.
use Rattle.std.proofs.Common.{◌≡◌, ℕ, List, [], ◌∷◌, map, Option, Some, None, slice_get, refl, sym, subst}
use Rattle.std.specs.List.{concat, flat_map}
use Rattle.fort_syntax.specs.declared.dialect.Dialect.{Dialect}
use Rattle.fort_syntax.specs.declared.unit.Line.{Line}
use Rattle.fort_syntax.specs.declared.unit.Unit.{Unit as Routine}
use Rattle.fort_model.specs.Flow.{leads}
use Rattle.fort_model.specs.Lists.{IsAmong}
use Rattle.fort_model.specs.Paths.{Cut, NoCut, AtEnd, AtAssert, cut_at, Edge, over_or, goes_on, goes_from, IsWay}
use Rattle.fort_notes.specs.Assertions.{Notes}
use Rattle.fort_laws.proofs.Near.{Near, near}
use Rattle.note_laws.proofs.Small.{flat_among}
use Rattle.path_laws.proofs.Pairs.{Below, below_front, below_more, among_map, map_among, among_flat, Pairs, pairs_map, pairs_flat, Listing, none_listed, one_listed}
use Rattle.path_laws.proofs.StmtChoices.{LeadsTo, Choices, choices_of}

abbrev pub no_way : List (List ℕ)
no_way = []

module _ (dialect : Dialect) (u : Routine) (notes : Notes) where
  -- what goes on at a point, where it is a cut point or not
  pub over_listed : (on : List (List ℕ) → Type 0) (c : Cut) → (c ≡ NoCut → Listing on concat) → Listing (λ way. over_or dialect u notes c way (on way)) concat
  over_listed on NoCut h = h refl
  over_listed on AtEnd h = one_listed (λ way. way ≡ no_way) concat no_way refl (λ way e. sym e)
  over_listed on (AtAssert a) h = one_listed (λ way. way ≡ no_way) concat no_way refl (λ way e. sym e)

  module _ (pc : ℕ) (line : Line) (at : slice_get u.lines pc ≡ Some line) (rec : (cs : List ℕ) (q : ℕ) → Edge dialect u pc cs q → cut_at u notes q ≡ NoCut → Listing (IsWay dialect u notes q) concat) where
    -- what follows choices of the statement
    abbrev Follows : List ℕ → List (List ℕ) → Type 0
    Follows cs way = goes_on dialect u notes (leads dialect u pc line.stmt cs) way (λ q. IsWay dialect u notes q way)

    follows_at : (cs : List ℕ) (o : Option ℕ) → leads dialect u pc line.stmt cs ≡ o → Listing (λ way. goes_on dialect u notes o way (λ q. IsWay dialect u notes q way)) concat
    follows_at cs None e = none_listed (λ way. ⊥) concat (λ way h. h)
    follows_at cs (Some q) e = over_listed (IsWay dialect u notes q) (cut_at u notes q) (λ c. rec cs q (record { line = line; at = at; to = e }) c)

    follows : (cs : List ℕ) → Listing (Follows cs) concat
    follows cs = follows_at cs (leads dialect u pc line.stmt cs) refl

    ways_by : List ℕ → List (List (List ℕ))
    ways_by cs = map (λ way. cs ∷ way) (follows cs).list

    choices : Choices (λ cs. leads dialect u pc line.stmt cs)
    choices = choices_of dialect u pc line.stmt

    is_way : (cs : List ℕ) (way : List (List ℕ)) → Follows cs way → IsWay dialect u notes pc (cs ∷ way)
    is_way cs way h = subst (λ (o : Option Line). goes_from dialect u notes o pc cs way (λ q. IsWay dialect u notes q way)) (sym at) h

    way_follows : (cs : List ℕ) (way : List (List ℕ)) → IsWay dialect u notes pc (cs ∷ way) → Follows cs way
    way_follows cs way h = subst (λ (o : Option Line). goes_from dialect u notes o pc cs way (λ q. IsWay dialect u notes q way)) at h

    leads_somewhere : (cs : List ℕ) (way : List (List ℕ)) → Follows cs way → LeadsTo (λ cs. leads dialect u pc line.stmt cs) cs
    leads_somewhere cs way h = go (leads dialect u pc line.stmt cs) refl h
      where
        go : (o : Option ℕ) → leads dialect u pc line.stmt cs ≡ o → goes_on dialect u notes o way (λ q. IsWay dialect u notes q way) → LeadsTo (λ cs. leads dialect u pc line.stmt cs) cs
        go None e k = absurd k
        go (Some q) e k = (q, e)

    pub ways_here : Listing (IsWay dialect u notes pc) concat
    unfolding ways_by choices follows
    ways_here = record {
      list = flat_map ways_by choices.list;
      sound = λ way m. sound way (flat_among ways_by choices.list way m);
      whole = whole;
      apart = pairs_flat (λ x y. Below x y) (λ x y. Below (concat x) (concat y)) ways_by choices.list own cross choices.apart;
    }
      where
        sound : (way : List (List ℕ)) → (cs : List ℕ) × IsAmong cs choices.list × IsAmong way (ways_by cs) → IsWay dialect u notes pc way
        sound way r =
            let m = map_among (λ w. r.0 ∷ w) (follows r.0).list way r.2 in
            subst (IsWay dialect u notes pc) m.2 (is_way r.0 m.0 ((follows r.0).sound m.0 m.1))

        whole : (way : List (List ℕ)) → IsWay dialect u notes pc way → IsAmong way (flat_map ways_by choices.list)
        whole [] h = absurd h
        whole (cs ∷ way) h =
            let f = way_follows cs way h in
            among_flat ways_by choices.list cs (cs ∷ way) (choices.whole cs (leads_somewhere cs way f))
            (among_map (λ w. cs ∷ w) (follows cs).list way ((follows cs).whole way f))

        own : (cs : List ℕ) → Pairs (λ x y. Below (concat x) (concat y)) (ways_by cs)
        own cs =
            pairs_map (λ x y. Below (concat x) (concat y)) (λ x y. Below (concat x) (concat y)) (λ w. cs ∷ w) (follows cs).list
            (λ x y h. below_front cs (concat x) (concat y) h) (follows cs).apart

        cross : (x y : List ℕ) (a b : List (List ℕ)) → Below x y → IsAmong a (ways_by x) → IsAmong b (ways_by y) → Below (concat a) (concat b)
        cross x y a b h m n =
            let r = map_among (λ w. x ∷ w) (follows x).list a m in
            let s = map_among (λ w. y ∷ w) (follows y).list b n in
            subst (λ z. Below (concat z) (concat b)) r.2 (subst (λ z. Below (concat (x ∷ r.0)) (concat z)) s.2 (below_more x y (concat r.0) (concat s.0) h))

-- where no line stands there is no way
none_here : (dialect : Dialect) (u : Routine) (notes : Notes) (pc : ℕ) → slice_get u.lines pc ≡ None → Listing (IsWay dialect u notes pc) concat
none_here dialect u notes pc e = none_listed (IsWay dialect u notes pc) concat no
  where
    no : (way : List (List ℕ)) → IsWay dialect u notes pc way → ⊥
    no [] h = h
    no (cs ∷ way) h = subst (λ (o : Option Line). goes_from dialect u notes o pc cs way (λ q. IsWay dialect u notes q way)) e h

-- all ways from a point that is near a cut point
pub ways_from : (dialect : Dialect) (u : Routine) (notes : Notes) (pc : ℕ) → Near dialect u notes pc → Listing (IsWay dialect u notes pc) concat
ways_from dialect u notes pc (near h) = by (slice_get u.lines pc) refl (λ cs q e c. ways_from dialect u notes q (h cs q e c))
  where
    by : (o : Option Line) → slice_get u.lines pc ≡ o
        → ((cs : List ℕ) (q : ℕ) → Edge dialect u pc cs q → cut_at u notes q ≡ NoCut → Listing (IsWay dialect u notes q) concat) → Listing (IsWay dialect u notes pc) concat
    by None e rec = none_here dialect u notes pc e
    by (Some line) e rec = ways_here dialect u notes pc line e rec
