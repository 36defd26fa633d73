use Rattle.std.proofs.Common.{rules, arith, ◌≡◌, ◌<◌, ◌^◌, sym, ◌∙◌}
use Rattle.std.specs.Int.{w32, cast_signed, cast_unsigned}
use Rattle.std.specs.Int.RustNames.{int_div}
use Rattle.dalvik_numbers.proofs.Signs.{signed_word}
use Rattle.dalvik_numbers.proofs.arith.quotient_word.Goals as goal

pub returns : goal.returns
returns c =
    let a : c.args.a < 2 ^ 32 = omega arith in
    let b : c.args.b < 2 ^ 32 = omega arith in
    let is : c.cast_unsigned.result ≡ cast_unsigned w32 (int_div (cast_signed w32 c.args.a) (cast_signed w32 c.args.b)) = search rules in
    is ∙ (λ i. cast_unsigned w32 (int_div (sym (signed_word c.args.a a) i) (sym (signed_word c.args.b b) i)))
