-- The fields of an instruction, by its format (Dalvik bytecode, "Instruction formats").
use Rattle.std.specs.Prelude.{ℕ, ◌+◌, ◌*◌, ◌/◌, ◌%◌, List, [], ◌∷◌, Option, Some, None, ◌==◌, if◌then◌else◌}
use Rattle.insn_set.specs.declared.format.Format.{Format}
use Rattle.insn_set.specs.declared.format.Format.TheVariants.{F10x, F12x, F11n, F20t, F23x, F22b, F22t, F22s, F22c, F30t, F32x, F35c, F3rc}
use Rattle.insn_set.specs.Formats.{format_units}
use Rattle.code_read.specs.declared.fields.Fields.{Fields}

abbrev pub fields : ℕ → ℕ → ℕ → ℕ → Fields
fields a b c wide = record { a = a; b = b; c = c; wide = wide }

-- one unit: B A op, or AA op
abbrev pub in_one : Format → ℕ → Fields
in_one F10x u = fields 0 0 0 0
in_one F12x u = fields (u / 256 % 16) (u / 4096) 0 0
in_one F11n u = fields (u / 256 % 16) (u / 4096) 0 0
in_one format u = fields (u / 256) 0 0 0

-- two units: 00 op and AAAA; AA op and CC BB; B A op and CCCC; AA op and BBBB
abbrev pub in_two : Format → ℕ → ℕ → Fields
in_two F20t u v = fields v 0 0 0
in_two F23x u v = fields (u / 256) (v % 256) (v / 256) 0
in_two F22b u v = fields (u / 256) (v % 256) (v / 256) 0
in_two F22t u v = fields (u / 256 % 16) (u / 4096) v 0
in_two F22s u v = fields (u / 256 % 16) (u / 4096) v 0
in_two F22c u v = fields (u / 256 % 16) (u / 4096) v 0
in_two format u v = fields (u / 256) v 0 0

-- three units: 00 op and A; 00 op, AAAA and BBBB; A G op, BBBB and F E D C; AA op, BBBB and CCCC; AA op and B
abbrev pub in_three : Format → ℕ → ℕ → ℕ → Fields
in_three F30t u v w = fields 0 0 0 (v + 65536 * w)
in_three F32x u v w = fields v w 0 0
in_three F35c u v w = fields (u / 4096) v w (u / 256 % 16)
in_three F3rc u v w = fields (u / 256) v w 0
in_three format u v w = fields (u / 256) 0 0 (v + 65536 * w)

-- five units: AA op, and four units from the lowest
abbrev pub in_five : ℕ → ℕ → ℕ → ℕ → ℕ → Fields
in_five u v w x y = fields (u / 256) 0 0 ((v + 65536 * w) + 4294967296 * (x + 65536 * y))

-- the fields of an instruction of so many units
abbrev pub of_units : ℕ → Format → List ℕ → Option Fields
of_units n format [] = None
of_units n format (u ∷ []) = if n == 1 then Some (in_one format u) else None
of_units n format (u ∷ v ∷ []) = if n == 1 then Some (in_one format u) else if n == 2 then Some (in_two format u v) else None
of_units n format (u ∷ v ∷ w ∷ []) = if n == 1 then Some (in_one format u) else if n == 2 then Some (in_two format u v) else if n == 3 then Some (in_three format u v w) else None
of_units n format (u ∷ v ∷ w ∷ x ∷ []) = if n == 1 then Some (in_one format u) else if n == 2 then Some (in_two format u v) else if n == 3 then Some (in_three format u v w) else None
of_units n format (u ∷ v ∷ w ∷ x ∷ y ∷ rest) = if n == 1 then Some (in_one format u) else if n == 2 then Some (in_two format u v) else if n == 3 then Some (in_three format u v w) else if n == 5 then Some (in_five u v w x y) else None

-- the fields of the instruction at the front
abbrev pub fields_in : Format → List ℕ → Option Fields
fields_in format units = of_units (format_units format) format units
