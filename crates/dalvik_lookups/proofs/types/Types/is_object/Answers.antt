use Rattle.std.proofs.Common.{eqb-true, ◌≡◌, Bool, true, false, refl, sym, ◌∙◌, nat_eq, true≢false}
use Rattle.std.specs.Prelude.{not}
use Rattle.dalvik_lookups.proofs.Descriptors.{object_is}
use Rattle.dalvik_lookups.proofs.types.Types.is_object.Goals as goal

marked : (b : Bool) → not b ≡ false → b ≡ true
marked true e = refl
marked false e = absurd (true≢false e)

pub returns-then-not-is_array : goal.returns-then-not-is_array
returns-then-not-is_array c = λ t w h. object_is t w c.args.kind h (eqb-true c.args.kind.depth 0 (marked (nat_eq c.args.kind.depth 0) (sym c.is_array.ensures.depth ∙ c.if-not-is_array.true)))
