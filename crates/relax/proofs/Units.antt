-- No format has more than five units.
use Rattle.std.proofs.Common.{◌≤◌, arith}
use Rattle.insn_set.specs.Formats.{format_units}
use Rattle.insn_set.specs.declared.format.Format.{Format}
use Rattle.insn_set.specs.declared.format.Format.TheVariants.{F10x, F12x, F11n, F11x, F10t, F20t, F22x, F21t, F21s, F21h, F21c, F23x, F22b, F22t, F22s, F22c, F30t, F32x, F31i, F31t, F31c, F35c, F3rc, F51l}

pub few_units : (format : Format) → format_units format ≤ 5
few_units F10x = omega arith
few_units F12x = omega arith
few_units F11n = omega arith
few_units F11x = omega arith
few_units F10t = omega arith
few_units F20t = omega arith
few_units F22x = omega arith
few_units F21t = omega arith
few_units F21s = omega arith
few_units F21h = omega arith
few_units F21c = omega arith
few_units F23x = omega arith
few_units F22b = omega arith
few_units F22t = omega arith
few_units F22s = omega arith
few_units F22c = omega arith
few_units F30t = omega arith
few_units F32x = omega arith
few_units F31i = omega arith
few_units F31t = omega arith
few_units F31c = omega arith
few_units F35c = omega arith
few_units F3rc = omega arith
few_units F51l = omega arith
