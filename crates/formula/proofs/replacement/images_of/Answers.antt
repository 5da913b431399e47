use Rattle.std.proofs.Common.{◌≡◌, ◌+◌, ◌<◌, ◌++◌, ◌∷◌, [], Contains, get_or, length, take, arith, subst, sym}
use Rattle.std.proofs.lemmas.List.{take_more}
use Rattle.std.proofs.lemmas.List.Elements.{AllZip-push}
use Rattle.formula.specs.declared.node.TermId.{TermId}
use Rattle.formula.specs.Substitution.{AreImages}
use Rattle.formula.proofs.replacement.images_of.Goals as goal

pub loop-id-preserved : goal.loop-id-preserved
loop-id-preserved c =
    let images = c.args.images.now in
    let ids = c.args.ids.now in
    let i = c.loop-id.id-index in
    let within : i < length ids = omega arith in
    let id : TermId = get_or ids i (record { place = 0 }) in
    let more : take (i + 1) ids ≡ take i ids ++ id ∷ [] = take_more ids i (record { place = 0 }) within in
    let pushed : AreImages images (take i ids ++ id ∷ []) (c.loop-id.made ++ c.image_of.result ∷ []) =
    AllZip-push (λ (x y : TermId). Contains images (record { id = x; made = y })) (take i ids) c.loop-id.made id c.image_of.result c.loop-id.invariant c.image_of.ensures in
    subst (λ l. AreImages images l c.push.new.self) (sym more) (subst (AreImages images (take i ids ++ id ∷ [])) (sym c.in_ok-push.ensures.ok) pushed)
