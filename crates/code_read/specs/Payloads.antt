-- Payloads: the tables of switches and the items of arrays (Dalvik bytecode, "packed-switch-payload",
-- "sparse-switch-payload" and "fill-array-data-payload").
use Rattle.std.specs.Prelude.{ℕ, zero, suc, ℤ, ◌+◌, ◌*◌, ◌/◌, ◌%◌, List, [], ◌∷◌, map, drop, slice_index, Option, Some, None, Bool, ◌==◌, ◌||◌, ◌&&◌, if◌then◌else◌}
use Rattle.std.specs.Int.{w32, cast_signed}
use Rattle.insn_set.specs.Spelling.{is_width, keys_ascend}
use Rattle.insn_set.specs.declared.form.Insn.{Insn}
use Rattle.insn_set.specs.declared.form.Insn.TheVariants.{FillArray, PackedSwitch, SparseSwitch}

-- how many units a payload of this kind at the front has, none where they end before that is known
abbrev pub payload_size : ℕ → List ℕ → Option ℕ
payload_size kind (u ∷ size ∷ []) = if kind == 1 then Some (4 + 2 * size) else if kind == 2 then Some (2 + 4 * size) else None
payload_size kind (u ∷ size ∷ low ∷ []) = if kind == 1 then Some (4 + 2 * size) else if kind == 2 then Some (2 + 4 * size) else None
payload_size kind (u ∷ size ∷ low ∷ high ∷ rest) = if kind == 1 then Some (4 + 2 * size)
    else if kind == 2 then Some (2 + 4 * size)
    else if kind == 3 then Some (4 + (size * (low + 65536 * high) + 1) / 2)
    else None
payload_size kind units = None

-- ---- numbers in units

-- the number of 32 bits at the front, the lower unit first, and the same as a signed number; a unit that isn't there counts 0
abbrev pub double_in : List ℕ → ℕ
double_in units = slice_index units 0 + 65536 * slice_index units 1

abbrev pub signed_in : List ℕ → ℤ
signed_in units = cast_signed w32 (double_in units)

-- the number of 64 bits at the front
abbrev pub long_in : List ℕ → ℕ
long_in units = double_in units + 4294967296 * double_in (drop 2 units)

-- so many entries, each of which has so many units
abbrev pub entries : {X : Type 0} → (List ℕ → X) → ℕ → ℕ → List ℕ → List X
entries f width zero units = []
entries f width (suc n) units = f units ∷ entries f width n (drop width units)

-- so many bytes, the lower of each unit first
abbrev pub bytes_in : ℕ → List ℕ → List ℕ
bytes_in zero units = []
bytes_in (suc zero) units = (slice_index units 0 % 256) ∷ []
bytes_in (suc (suc n)) units = (slice_index units 0 % 256) ∷ (slice_index units 0 / 256) ∷ bytes_in n (drop 1 units)

-- the item of 2, 4 or 8 bytes at the front
abbrev pub item_in : ℕ → List ℕ → ℕ
item_in width units = if width == 2 then slice_index units 0 else if width == 4 then double_in units else long_in units

-- so many items of 1, 2, 4 or 8 bytes
abbrev pub items_in : ℕ → ℕ → List ℕ → List ℕ
items_in width n units = if width == 1 then bytes_in n units else entries (item_in width) (width / 2) n units

-- so many keys
abbrev pub keys_in : ℕ → List ℕ → List ℤ
keys_in n units = entries signed_in 2 n units

-- ---- the payload of an instruction

-- the instructions with a payload: fill-array-data, packed-switch and sparse-switch
abbrev pub has_payload : ℕ → Bool
has_payload op = op == 0x26 || (op == 0x2b || op == 0x2c)

-- the size that a payload says
abbrev pub size_of : ℕ → List ℕ → ℕ
size_of op payload = if op == 0x26 then double_in (drop 2 payload) else slice_index payload 1

-- whether a payload is one for this opcode: of its kind, with a right width of items, or with keys that ascend
abbrev pub is_right : ℕ → List ℕ → Bool
is_right op payload = if op == 0x26 then slice_index payload 0 == 0x0300 && is_width (slice_index payload 1)
    else if op == 0x2b then slice_index payload 0 == 0x0100
    else slice_index payload 0 == 0x0200 && keys_ascend (keys_in (slice_index payload 1) (drop 2 payload))

-- the targets to which so many offsets lead
abbrev pub targets_in : (ℤ → ℕ) → ℕ → List ℕ → List ℕ
targets_in target n units = entries (λ us. target (signed_in us)) 2 n units

-- the instruction on this register with its payload, by the opcode; `target` says where an offset leads
abbrev pub table_form : ℕ → ℕ → (ℤ → ℕ) → List ℕ → Insn
table_form op on target payload = if op == 0x26 then FillArray on (slice_index payload 1 % 256) (items_in (slice_index payload 1) (size_of op payload) (drop 4 payload))
    else if op == 0x2b then PackedSwitch on (signed_in (drop 2 payload)) (targets_in target (size_of op payload) (drop 4 payload))
    else SparseSwitch on (keys_in (size_of op payload) (drop 2 payload)) (targets_in target (size_of op payload) (drop (2 + 2 * size_of op payload) payload))
