-- Code items as they are written: in the least layout, with zeros where nothing is said (Dalvik executable format, "code_item";
-- Dalvik bytecode, "Instruction formats" and the payloads).
use Rattle.std.specs.Prelude.{◌≡◌, ◌+◌, ◌-◌, ◌*◌, ◌/◌, ◌%◌, ◌^◌, ℕ, suc, ℤ, pos, ◌-ℤ◌, List, [], ◌∷◌, ◌++◌, length, take, min, max, replicate, slice_index, nat_lt, if◌then◌else◌, Some}
use Rattle.std.specs.List.{flat_map, concat}
use Rattle.std.specs.Int.{w16, w32, w64, cast_unsigned, to_le_bytes}
use Rattle.dex_base.specs.Leb.{uleb_text}
use Rattle.insn_set.specs.Spelling.{shortest}
use Rattle.insn_set.specs.declared.format.Format.{Format}
use Rattle.insn_set.specs.declared.format.Format.TheVariants.{F10x, F12x, F11n, F11x, F10t, F20t, F22x, F21t, F21s, F21h, F21c, F23x, F22b, F22t, F22s, F22c, F30t, F32x, F31i, F31t, F31c, F35c, F3rc, F51l}
use Rattle.insn_set.specs.declared.form.Insn.{Insn}
use Rattle.insn_set.specs.declared.form.Insn.TheVariants.{Goto, Invoke, FillArray, PackedSwitch, SparseSwitch}
use Rattle.code_read.specs.declared.fields.Fields.{Fields}
use Rattle.code_read.specs.Opcodes.{format_at}
use Rattle.relax.specs.Sizes.{start}
use Rattle.program_model.specs.declared.body.Region.{Region}
use Rattle.program_model.specs.declared.body.Body.{Body}
use Rattle.dex_defs.specs.Sweep.{Piece, Places}
use Rattle.dex_defs.specs.Instructions.{opcode}
use Rattle.dex_defs.specs.LaysOut.{catches_text, written_lists, begins_from, is_same}

-- ---- instructions

-- one unit: an opcode with a byte, or with two nibbles
abbrev pub byte_unit : ℕ → ℕ → ℕ
byte_unit op a = op + 256 * a

abbrev pub nibble_unit : ℕ → ℕ → ℕ → ℕ
nibble_unit op a b = op + 256 * a + 4096 * b

-- the registers of a call that has so many: four bits each, the fifth one in the first unit, and zeros for the others
abbrev pub fifth_of : Fields → ℕ
fifth_of f = if nat_lt f.a 5 then 0 else f.wide

abbrev pub first_four : Fields → ℕ
first_four f = f.c % 16 ^ f.a

-- the units of an instruction of this format, by its opcode and its fields: the rows of "Instruction formats", and zeros between
abbrev pub units_of : Format → ℕ → Fields → List ℕ
units_of F10x op f = op ∷ []
units_of F12x op f = nibble_unit op f.a f.b ∷ []
units_of F11n op f = nibble_unit op f.a f.b ∷ []
units_of F11x op f = byte_unit op f.a ∷ []
units_of F10t op f = byte_unit op f.a ∷ []
units_of F20t op f = op ∷ f.a ∷ []
units_of F22x op f = byte_unit op f.a ∷ f.b ∷ []
units_of F21t op f = byte_unit op f.a ∷ f.b ∷ []
units_of F21s op f = byte_unit op f.a ∷ f.b ∷ []
units_of F21h op f = byte_unit op f.a ∷ f.b ∷ []
units_of F21c op f = byte_unit op f.a ∷ f.b ∷ []
units_of F23x op f = byte_unit op f.a ∷ byte_unit f.b f.c ∷ []
units_of F22b op f = byte_unit op f.a ∷ byte_unit f.b f.c ∷ []
units_of F22t op f = nibble_unit op f.a f.b ∷ f.c ∷ []
units_of F22s op f = nibble_unit op f.a f.b ∷ f.c ∷ []
units_of F22c op f = nibble_unit op f.a f.b ∷ f.c ∷ []
units_of F30t op f = op ∷ (f.wide % 65536) ∷ (f.wide / 65536) ∷ []
units_of F32x op f = op ∷ f.a ∷ f.b ∷ []
units_of F31i op f = byte_unit op f.a ∷ (f.wide % 65536) ∷ (f.wide / 65536) ∷ []
units_of F31t op f = byte_unit op f.a ∷ (f.wide % 65536) ∷ (f.wide / 65536) ∷ []
units_of F31c op f = byte_unit op f.a ∷ (f.wide % 65536) ∷ (f.wide / 65536) ∷ []
units_of F35c op f = nibble_unit op (fifth_of f) f.a ∷ f.b ∷ first_four f ∷ []
units_of F3rc op f = byte_unit op f.a ∷ f.b ∷ f.c ∷ []
units_of F51l op f = byte_unit op f.a ∷ (f.wide % 65536) ∷ (f.wide / 65536 % 65536) ∷ (f.wide / 4294967296 % 65536) ∷ (f.wide / 281474976710656) ∷ []

-- how far a goto goes, from where it begins
abbrev pub distance_of : Places → ℕ → Insn → ℤ
distance_of places from (Goto target) = pos (slice_index places.starts target) -ℤ pos from
distance_of places from insn = pos 0

-- an instruction has the units of its shortest spelling, and zeros in the bytes and nibbles that it leaves unused
pub record IsShortest (places : Places) (p : Piece) (insn : Insn) : Type 0 where
  pub format : Format
  pub is_shortest : format ≡ shortest insn (distance_of places p.start insn)
  pub row : format_at (opcode p) ≡ Some format
  pub fields : Fields
  pub units : p.text ≡ units_of format (opcode p) fields

abbrev pub AreShortest : Places → List Piece → List Insn → Type 0
AreShortest places [] [] = Unit {0}
AreShortest places [] (insn ∷ insns) = ⊥
AreShortest places (p ∷ ps) [] = ⊥
AreShortest places (p ∷ ps) (insn ∷ insns) = IsShortest places p insn × AreShortest places ps insns

-- ---- payloads

-- a number of 32 bits in two units, the lower one first
abbrev pub two_units : ℕ → List ℕ
two_units n = (n % 65536) ∷ (n / 65536) ∷ []

abbrev pub signed_units : ℤ → List ℕ
signed_units z = two_units (cast_unsigned w32 z)

-- how far a switch at this unit goes
abbrev pub target_units : List ℕ → ℕ → ℕ → List ℕ
target_units sizes from target = signed_units (pos (start sizes target) -ℤ pos from)

-- bytes in units, an odd last one with a zero
abbrev pub units_from : List ℕ → List ℕ
units_from [] = []
units_from (low ∷ []) = low ∷ []
units_from (low ∷ high ∷ bytes) = (low + 256 * high) ∷ units_from bytes

-- the payload of an instruction at this unit, where it has one
abbrev pub payload_text : List ℕ → ℕ → Insn → List ℕ
payload_text sizes from (PackedSwitch on first targets) = 0x0100 ∷ length targets ∷ (signed_units first ++ flat_map (target_units sizes from) targets)
payload_text sizes from (SparseSwitch on keys targets) = 0x0200 ∷ length targets ∷ (flat_map signed_units keys ++ flat_map (target_units sizes from) targets)
payload_text sizes from (FillArray on width items) = 0x0300 ∷ width ∷ (two_units (length items) ++ units_from (flat_map (λ item. take width (to_le_bytes w64 item)) items))
payload_text sizes from insn = []

-- behind a nop where it would stand at an odd unit
abbrev pub evenly : ℕ → List ℕ → List ℕ
evenly at [] = []
evenly at (unit ∷ units) = replicate (at % 2) 0 ++ unit ∷ units

-- the payloads of the instructions, the first of which has this position, one behind another from this unit on
abbrev pub payloads_text : List ℕ → ℕ → ℕ → List Insn → List ℕ
payloads_text sizes at position [] = []
payloads_text sizes at position (insn ∷ insns) = let text = evenly at (payload_text sizes (start sizes position) insn) in text ++ payloads_text sizes (at + length text) (suc position) insns

-- the units of a body whose instructions have these
abbrev pub body_units : List ℕ → List (List ℕ) → Body → List ℕ
body_units sizes texts body = concat texts ++ payloads_text sizes (length (concat texts)) 0 body.insns

-- ---- the code item

-- the most words that a call passes
abbrev pub words_passed : Insn → ℕ
words_passed (Invoke kind method args) = length args
words_passed insn = 0

abbrev pub most_passed : List Insn → ℕ
most_passed [] = 0
most_passed (insn ∷ insns) = max (words_passed insn) (most_passed insns)

-- the sixteen bytes with which it begins, as units
abbrev pub frame_units : Body → ℕ → ℕ → List ℕ
frame_units body debug size = body.registers ∷ body.ins ∷ most_passed body.insns ∷ length body.regions ∷ (two_units debug ++ two_units size)

-- a zero unit before the try items of an odd number of units
abbrev pub gap_units : List Region → List ℕ → List ℕ
gap_units [] units = []
gap_units (r ∷ rs) units = replicate (length units % 2) 0

-- the units of a region that its try item counts
abbrev pub covered : List ℕ → Region → ℕ
covered sizes r = min 65535 (start sizes r.end - start sizes r.first)

-- where a list stands among lists that begin at these places
abbrev pub place_of : List (List ℕ) → List ℕ → List ℕ → ℕ
place_of [] begins text = 0
place_of (x ∷ xs) [] text = 0
place_of (x ∷ xs) (at ∷ begins) text = if is_same x text then at else place_of xs begins text

-- the handler lists behind their count, each different one once, and where a region's list begins, in bytes from the count on
abbrev pub lists_text : List ℕ → List Region → List ℕ
lists_text sizes regions = let texts = written_lists sizes regions in uleb_text (length texts) ++ concat texts

abbrev pub list_offset : List ℕ → List Region → Region → ℕ
list_offset sizes regions r = let texts = written_lists sizes regions in place_of texts (begins_from (length (uleb_text (length texts))) texts) (catches_text sizes r)

abbrev pub try_units : List ℕ → List Region → Region → List ℕ
try_units sizes regions r = two_units (start sizes r.first) ++ (covered sizes r ∷ list_offset sizes regions r ∷ [])

-- the try items and the handler lists, where there are regions
abbrev pub tries_text : List ℕ → List Region → List ℕ
tries_text sizes [] = []
tries_text sizes (r ∷ rs) = flat_map (to_le_bytes w16) (flat_map (try_units sizes (r ∷ rs)) (r ∷ rs)) ++ lists_text sizes (r ∷ rs)

-- the code item of a body with a debug item there, whose instructions have these sizes and these units
abbrev pub code_text : List ℕ → List (List ℕ) → ℕ → Body → List ℕ
code_text sizes texts debug body = let units = body_units sizes texts body in
    flat_map (to_le_bytes w16) (frame_units body debug (length units) ++ (units ++ gap_units body.regions units)) ++ tries_text sizes body.regions
