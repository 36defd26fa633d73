use Rattle.std.proofs.Common.{rules, arith, ◌≡◌, ◌<◌, ◌^◌, sym, ◌∙◌}
use Rattle.std.specs.Int.{w64, cast_signed, cast_unsigned}
use Rattle.std.specs.Int.RustNames.{int_div}
use Rattle.dalvik_numbers.proofs.Signs.{signed_wide}
use Rattle.dalvik_numbers.proofs.arith.quotient_wide.Goals as goal

pub returns : goal.returns
returns c =
    let a : c.args.a < 2 ^ 64 = omega arith in
    let b : c.args.b < 2 ^ 64 = omega arith in
    let is : c.cast_unsigned.result ≡ cast_unsigned w64 (int_div (cast_signed w64 c.args.a) (cast_signed w64 c.args.b)) = search rules in
    is ∙ (λ i. cast_unsigned w64 (int_div (sym (signed_wide c.args.a a) i) (sym (signed_wide c.args.b b) i)))
