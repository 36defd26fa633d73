-- Payloads (Dalvik bytecode, "packed-switch-payload", "sparse-switch-payload" and "fill-array-data-payload").
use Rattle.std.specs.Prelude.{ℕ, suc, ◌/◌, ◌%◌, min, List, [], ◌∷◌, ◌++◌, length, take, nat_eq, ◌&&◌, if◌then◌else◌}
use Rattle.std.specs.List.{flat_map}
use Rattle.std.specs.Int.{w32, w64, cast_unsigned, to_le_bytes}
use Rattle.insn_set.specs.declared.form.Insn.{Insn}
use Rattle.insn_set.specs.declared.form.Insn.TheVariants.{FillArray, PackedSwitch, SparseSwitch}
use Rattle.relax.specs.Payloads.{units_behind}
use Rattle.code_write.specs.Units.{unit_bytes, low, high, pad_to_even}
use Rattle.code_write.specs.Code.{Spots, place_at, far_of}

abbrev pub number_bytes : ℕ → List ℕ
number_bytes n = unit_bytes (low n ∷ high n ∷ [])

-- how far a target is from the switch
abbrev pub target_bytes : Spots → ℕ → ℕ → List ℕ
target_bytes layout from target = number_bytes (far_of from (place_at layout.starts layout.size target))

-- the lowest bytes of an item
abbrev pub item_bytes : ℕ → ℕ → List ℕ
item_bytes width item = take (min width 8) (to_le_bytes w64 item)

-- a zero byte where items of this width and number have an odd number of bytes
abbrev pub odd_byte : ℕ → ℕ → List ℕ
odd_byte width count = if nat_eq (width % 2) 1 && nat_eq (count % 2) 1 then 0 ∷ [] else []

abbrev pub length_low : ℕ → ℕ
length_low count = count % 65536

abbrev pub length_high : ℕ → ℕ
length_high count = count / 65536 % 65536

-- the payload of an instruction at `from`
abbrev pub payload_text : Spots → ℕ → Insn → List ℕ
payload_text layout from (PackedSwitch on first targets) = unit_bytes (0x0100 ∷ length_low (length targets) ∷ []) ++ (number_bytes (cast_unsigned w32 first) ++ flat_map (target_bytes layout from) targets)
payload_text layout from (SparseSwitch on keys targets) = unit_bytes (0x0200 ∷ length_low (length targets) ∷ []) ++ (flat_map (λ key. number_bytes (cast_unsigned w32 key)) keys ++ flat_map (target_bytes layout from) targets)
payload_text layout from (FillArray on width items) = unit_bytes (0x0300 ∷ width ∷ length_low (length items) ∷ length_high (length items) ∷ []) ++ (flat_map (item_bytes width) items ++ odd_byte width (length items))
payload_text layout from insn = []

-- the text, and the payload of the instruction in this position at the next even unit
abbrev pub payload_behind : Spots → List ℕ → ℕ → Insn → List ℕ
payload_behind layout text at insn = if nat_eq (units_behind insn) 0 then text else pad_to_even text ++ payload_text layout (place_at layout.starts layout.size at) insn

-- the text, and the payloads of the instructions from this position on
abbrev pub with_payloads : Spots → List ℕ → ℕ → List Insn → List ℕ
with_payloads layout text at [] = text
with_payloads layout text at (insn ∷ insns) = with_payloads layout (payload_behind layout text at insn) (suc at) insns
