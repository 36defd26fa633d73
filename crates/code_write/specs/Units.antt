-- How fields lie in the units of a format (Dalvik bytecode, "Instruction formats").
use Rattle.std.specs.Prelude.{ℕ, ◌+◌, ◌*◌, ◌/◌, ◌%◌, List, [], ◌∷◌, ◌++◌, length, nat_le, if◌then◌else◌}
use Rattle.std.specs.List.{flat_map}
use Rattle.std.specs.Int.{w16, to_le_bytes}
use Rattle.insn_set.specs.declared.format.Format.{Format}
use Rattle.insn_set.specs.declared.format.Format.TheVariants.{F10x, F12x, F11n, F11x, F10t, F20t, F22x, F21t, F21s, F21h, F21c, F23x, F22b, F22t, F22s, F22c, F30t, F32x, F31i, F31t, F31c, F35c, F3rc, F51l}
use Rattle.code_write.specs.declared.fields.Fields.{Fields}

-- units as bytes, little-endian
abbrev pub unit_bytes : List ℕ → List ℕ
unit_bytes units = flat_map (to_le_bytes w16) units

-- the bytes, and a zero unit where they end at an odd one
abbrev pub pad_to_even : List ℕ → List ℕ
pad_to_even bytes = if nat_le 2 (length bytes % 4) then bytes ++ unit_bytes (0 ∷ []) else bytes

-- a unit of the opcode and a byte, or two nibbles, the lower one first
abbrev pub byte_unit : ℕ → ℕ → ℕ
byte_unit op a = op + 256 * (a % 256)

abbrev pub nibble_unit : ℕ → ℕ → ℕ → ℕ
nibble_unit op low high = op + 256 * (low % 16) + 4096 * (high % 16)

abbrev pub low : ℕ → ℕ
low n = n % 65536

abbrev pub high : ℕ → ℕ
high n = n / 65536

abbrev pub units_in : Format → ℕ → Fields → List ℕ
units_in F10x op f = op ∷ []
units_in F12x op f = nibble_unit op f.a f.b ∷ []
units_in F11n op f = nibble_unit op f.a f.b ∷ []
units_in F11x op f = byte_unit op f.a ∷ []
units_in F10t op f = byte_unit op f.a ∷ []
units_in F20t op f = op ∷ low f.b ∷ []
units_in F22x op f = byte_unit op f.a ∷ low f.b ∷ []
units_in F21t op f = byte_unit op f.a ∷ low f.b ∷ []
units_in F21s op f = byte_unit op f.a ∷ low f.b ∷ []
units_in F21h op f = byte_unit op f.a ∷ low f.b ∷ []
units_in F21c op f = byte_unit op f.a ∷ low f.b ∷ []
units_in F23x op f = byte_unit op f.a ∷ byte_unit (f.b % 256) f.c ∷ []
units_in F22b op f = byte_unit op f.a ∷ byte_unit (f.b % 256) f.c ∷ []
units_in F22t op f = nibble_unit op f.a f.b ∷ low f.c ∷ []
units_in F22s op f = nibble_unit op f.a f.b ∷ low f.c ∷ []
units_in F22c op f = nibble_unit op f.a f.b ∷ low f.c ∷ []
units_in F30t op f = op ∷ low f.b ∷ high f.b ∷ []
units_in F32x op f = op ∷ low f.a ∷ low f.b ∷ []
units_in F31i op f = byte_unit op f.a ∷ low f.b ∷ high f.b ∷ []
units_in F31t op f = byte_unit op f.a ∷ low f.b ∷ high f.b ∷ []
units_in F31c op f = byte_unit op f.a ∷ low f.b ∷ high f.b ∷ []
units_in F35c op f = nibble_unit op f.c f.a ∷ low f.b ∷ (f.long / 1 % 65536) ∷ []
units_in F3rc op f = byte_unit op f.a ∷ low f.b ∷ low f.c ∷ []
units_in F51l op f = byte_unit op f.a ∷ (f.long / 1 % 65536) ∷ (f.long / 65536 % 65536) ∷ (f.long / 4294967296 % 65536) ∷ (f.long / 281474976710656 % 65536) ∷ []
