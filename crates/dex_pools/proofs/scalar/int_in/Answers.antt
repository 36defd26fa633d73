use Rattle.std.proofs.Common.{◌≡◌, ◌∙◌, ap, sym, subst, rules, FitsSigned}
use mir.Val.{SFits, of_z, to_z}
use mir.Syntax.{w32, w64}
use Rattle.std.proofs.lemmas.Int.{to_z-of_z}
use Rattle.dex_pools.proofs.Extended.{fits_32}
use Rattle.dex_pools.proofs.scalar.int_in.Goals as goal

pub overflow_cast-result : goal.overflow_cast-result
overflow_cast-result c =
    let wide : SFits w64 c.signed_in.result = search rules in
    rw (to_z-of_z w64 c.signed_in.result wide, c.signed_in.ensures) (fits_32 c.args.few.now c.requires.some c.requires.most (λ i. (c.type_inv.few i).fits))

pub returns : goal.returns
returns c =
    let wide : SFits w64 c.signed_in.result = search rules in
    let narrow : SFits w32 c.signed_in.result = rw c.signed_in.ensures (fits_32 c.args.few.now c.requires.some c.requires.most (λ i. (c.type_inv.few i).fits)) in
    ap (λ z. to_z w32 (of_z w32 z)) (to_z-of_z w64 c.signed_in.result wide) ∙ to_z-of_z w32 c.signed_in.result narrow ∙ c.signed_in.ensures
