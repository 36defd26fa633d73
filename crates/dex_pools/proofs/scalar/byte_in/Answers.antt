use Rattle.std.proofs.Common.{◌≡◌, ◌∙◌, ap, sym, subst, rules, FitsSigned}
use mir.Val.{SFits, of_z, to_z}
use mir.Syntax.{w8, w64}
use Rattle.std.proofs.lemmas.Int.{to_z-of_z}
use Rattle.dex_pools.proofs.Extended.{fits_8}
use Rattle.dex_pools.proofs.scalar.byte_in.Goals as goal

pub overflow_cast-result : goal.overflow_cast-result
overflow_cast-result c =
    let wide : SFits w64 c.signed_in.result = search rules in
    rw (to_z-of_z w64 c.signed_in.result wide, c.signed_in.ensures) (fits_8 c.args.few.now c.requires (λ i. (c.type_inv.few i).fits))

pub returns : goal.returns
returns c =
    let wide : SFits w64 c.signed_in.result = search rules in
    let narrow : SFits w8 c.signed_in.result = rw c.signed_in.ensures (fits_8 c.args.few.now c.requires (λ i. (c.type_inv.few i).fits)) in
    ap (λ z. to_z w8 (of_z w8 z)) (to_z-of_z w64 c.signed_in.result wide) ∙ to_z-of_z w8 c.signed_in.result narrow ∙ c.signed_in.ensures
