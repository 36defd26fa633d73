-- The formats of instructions (Dalvik bytecode, "Instruction formats").
use Rattle.std.specs.Prelude.{ℕ}
use Rattle.insn_set.specs.declared.format.Format.{Format}
use Rattle.insn_set.specs.declared.format.Format.TheVariants.{F10x, F12x, F11n, F11x, F10t, F30t, F32x, F31i, F31t, F31c, F35c, F3rc, F51l}

-- how many units an instruction of the format has
abbrev pub format_units : Format → ℕ
format_units F10x = 1
format_units F12x = 1
format_units F11n = 1
format_units F11x = 1
format_units F10t = 1
format_units F30t = 3
format_units F32x = 3
format_units F31i = 3
format_units F31t = 3
format_units F31c = 3
format_units F35c = 3
format_units F3rc = 3
format_units F51l = 5
format_units format = 2
