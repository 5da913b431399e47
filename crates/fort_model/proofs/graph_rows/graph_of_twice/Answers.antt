use Rattle.std.proofs.Common.{◌≡◌, ℕ, zero, suc, ◌<◌, List, [], ◌∷◌, Option, Some, slice_get, refl, sym, ap, ◌∙◌, subst, arith}
use Rattle.std.specs.Prelude.{get_or}
use Rattle.fort_syntax.specs.declared.dialect.Dialect.TheVariants.{Common}
use Rattle.fort_syntax.specs.declared.unit.Line.{Line}
use Rattle.fort_model.specs.declared.graph.Fork.{Fork}
use Rattle.fort_model.specs.declared.graph.Target.{Target}
use Rattle.fort_model.specs.declared.graph.Target.TheVariants.{Point, Fork as AtFork}
use Rattle.fort_model.specs.CheckRows.{twice_notes}
use Rattle.fort_model.specs.Flow.{leads_by, leads_at}
use Rattle.fort_model.specs.GraphRows.{twice_graph}
use Rattle.fort_model.specs.Graphs.{IsWithin}
use Rattle.fort_model.specs.Lists.{IsAmong}
use Rattle.fort_model.specs.Paths.{NoCut, cut_at, Edge}
use Rattle.fort_model.specs.Rows.{twice}
use Rattle.fort_model.proofs.graph_rows.graph_of_twice.Goals as goal

within : (pc : ℕ) (t : Target) → slice_get twice_graph.starts pc ≡ Some t → IsWithin 5 2 t
within zero t e = let f : Point 1 ≡ t = cc in subst (IsWithin 5 2) f (omega arith)
within (suc zero) t e = let f : Point 2 ≡ t = cc in subst (IsWithin 5 2) f (omega arith)
within (suc (suc zero)) t e = let f : AtFork 1 ≡ t = cc in subst (IsWithin 5 2) f (omega arith)
within (suc (suc (suc zero))) t e = let f : Point 4 ≡ t = cc in subst (IsWithin 5 2) f (omega arith)
within (suc (suc (suc (suc zero)))) t e = let f : Point 5 ≡ t = cc in subst (IsWithin 5 2) f (omega arith)
within (suc (suc (suc (suc (suc pc))))) t e = absurd cc

of_two : (k : ℕ) (a b : Target) → IsWithin 5 k a → IsWithin 5 k b → (t : Target) → IsAmong t (a ∷ b ∷ []) → IsWithin 5 k t
of_two k a b h g t (zero, e) = let f : a ≡ t = cc in subst (IsWithin 5 k) f h
of_two k a b h g t (suc zero, e) = let f : b ≡ t = cc in subst (IsWithin 5 k) f g
of_two k a b h g t (suc (suc i), e) = absurd cc

falling : (k : ℕ) (f : Fork) (t : Target) → slice_get twice_graph.forks k ≡ Some f → IsAmong t f.targets → IsWithin 5 k t
falling zero f t e m =
    let g : record { tested = Some 0; targets = Point 1 ∷ Point 3 ∷ [] } ≡ f = cc in
    of_two 0 (Point 1) (Point 3) (omega arith) (omega arith) t (subst (λ (x : Fork). IsAmong t x.targets) (sym g) m)
falling (suc zero) f t e m =
    let g : record { tested = Some 1; targets = Point 2 ∷ AtFork 0 ∷ [] } ≡ f = cc in
    of_two 1 (Point 2) (AtFork 0) (omega arith) (omega arith) t (subst (λ (x : Fork). IsAmong t x.targets) (sym g) m)
falling (suc (suc k)) f t e m = absurd cc

abbrev rank : ℕ → ℕ
rank p = get_or twice_graph.ranks p 0

grows_to : (p r q : ℕ) → Some r ≡ Some q → rank p < rank r → rank p < rank q
grows_to p r q e h = let f : r ≡ q = cc in subst (λ (x : ℕ). rank p < rank x) f h

-- at the ASSERT, and at the end, nothing is said
to_assert : (q : ℕ) → Some 2 ≡ Some q → cut_at twice twice_notes q ≡ NoCut → {C : Type 0} → C
to_assert q e c = let f : 2 ≡ q = cc in let d : cut_at twice twice_notes 2 ≡ NoCut = subst (λ (x : ℕ). cut_at twice twice_notes x ≡ NoCut) (sym f) c in absurd cc

to_end : (q : ℕ) → Some 5 ≡ Some q → cut_at twice twice_notes q ≡ NoCut → {C : Type 0} → C
to_end q e c = let f : 5 ≡ q = cc in let d : cut_at twice twice_notes 5 ≡ NoCut = subst (λ (x : ℕ). cut_at twice twice_notes x ≡ NoCut) (sym f) c in absurd cc

growing : (p q : ℕ) (cs : List ℕ) → leads_at Common twice p cs ≡ Some q → cut_at twice twice_notes q ≡ NoCut → rank p < rank q
growing zero q [] e c = grows_to 0 1 q e (omega arith)
growing zero q (i ∷ cs) e c = absurd cc
growing (suc zero) q [] e c = to_assert q e c
growing (suc zero) q (i ∷ cs) e c = absurd cc
growing (suc (suc zero)) q [] e c = absurd cc
growing (suc (suc zero)) q (zero ∷ cs) e c = absurd cc
growing (suc (suc zero)) q (suc zero ∷ []) e c = to_assert q e c
growing (suc (suc zero)) q (suc zero ∷ (i ∷ cs)) e c = absurd cc
growing (suc (suc zero)) q (suc (suc zero) ∷ []) e c = absurd cc
growing (suc (suc zero)) q (suc (suc zero) ∷ (zero ∷ cs)) e c = absurd cc
growing (suc (suc zero)) q (suc (suc zero) ∷ (suc zero ∷ [])) e c = grows_to 2 1 q e (omega arith)
growing (suc (suc zero)) q (suc (suc zero) ∷ (suc zero ∷ (i ∷ cs))) e c = absurd cc
growing (suc (suc zero)) q (suc (suc zero) ∷ (suc (suc zero) ∷ [])) e c = grows_to 2 3 q e (omega arith)
growing (suc (suc zero)) q (suc (suc zero) ∷ (suc (suc zero) ∷ (i ∷ cs))) e c = absurd cc
growing (suc (suc zero)) q (suc (suc zero) ∷ (suc (suc (suc j)) ∷ cs)) e c = absurd cc
growing (suc (suc zero)) q (suc (suc (suc i)) ∷ cs) e c = absurd cc
growing (suc (suc (suc zero))) q [] e c = grows_to 3 4 q e (omega arith)
growing (suc (suc (suc zero))) q (i ∷ cs) e c = absurd cc
growing (suc (suc (suc (suc zero)))) q [] e c = to_end q e c
growing (suc (suc (suc (suc zero)))) q (i ∷ cs) e c = absurd cc
growing (suc (suc (suc (suc (suc p))))) q cs e c = absurd cc

edge_leads : (p q : ℕ) (cs : List ℕ) → Edge Common twice p cs q → leads_at Common twice p cs ≡ Some q
edge_leads p q cs e = ap (λ (o : Option Line). leads_by Common twice p o cs) e.at ∙ e.to

pub returns : goal.returns
returns c = record {
  size = refl;
  starts = (refl, (refl, ((AtFork 0, refl, (Point 3, refl, refl)), (refl, (refl, tt)))));
  within = within;
  falling = falling;
  cuts = refl;
  ranks = refl;
  growing = λ p q cs e k. growing p q cs (edge_leads p q cs e) k;
}
