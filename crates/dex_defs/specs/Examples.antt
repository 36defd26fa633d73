-- Files and bodies for the examples of `examples.rt`.
use Rattle.std.specs.Prelude.{ℕ, pos, List, [], ◌∷◌, ◌++◌, take, replicate, Some, None, codes}
use Rattle.std.specs.List.{flat_map}
use Rattle.std.specs.Int.{w16, to_le_bytes}
use Rattle.insn_set.specs.declared.form.Insn.{Insn}
use Rattle.insn_set.specs.declared.form.Insn.TheVariants.{PackedSwitch, ReturnVoid, Const, Binary, Return, Throw, MoveException}
use Rattle.insn_set.specs.declared.ops.BinaryOp.TheVariants.{AddInt}
use Rattle.insn_set.specs.declared.ops.Slot.TheVariants.{Word}
use Rattle.program_model.specs.declared.body.Body.{Body}
use Rattle.program_model.specs.declared.program.Version.TheVariants.{V035}
use Rattle.program_model.specs.declared.flags.Flags.{Flags}
use Rattle.program_model.specs.declared.program.Method.{Method}
use Rattle.program_model.specs.declared.program.Class.{Class}
use Rattle.program_model.specs.declared.program.Program.{Program}
use Rattle.dex_defs.specs.Header.{magic_of}
use Rattle.dex_defs.specs.Texts.{words}

-- a program of nothing
abbrev pub empty_program : Program
empty_program = record { strings = []; types = []; protos = []; fields = []; methods = []; classes = []; version = V035 }

-- its file from 32 on: the header, and a map of two entries
abbrev pub empty_rest : List ℕ
empty_rest = words (140 ∷ 112 ∷ 0x12345678 ∷ 0 ∷ 0 ∷ 112 ∷ 0 ∷ 0 ∷ 0 ∷ 0 ∷ 0 ∷ 0 ∷ 0 ∷ 0 ∷ 0 ∷ 0 ∷ 0 ∷ 0 ∷ 28 ∷ 112 ∷ [])
    ++ words (2 ∷ 0 ∷ 1 ∷ 0 ∷ 0x1000 ∷ 1 ∷ 112 ∷ [])

-- a file by its checksum, its signature and the rest
abbrev pub sealed_file : ℕ → List ℕ → List ℕ → List ℕ
sealed_file checksum signature rest = magic_of V035 ++ (words (checksum ∷ []) ++ (signature ++ rest))

-- with zeros for the signature, and with its own one
abbrev pub unsigned_file : List ℕ
unsigned_file = sealed_file 0x0f2f0391 (replicate 20 0) empty_rest

abbrev pub empty_file : List ℕ
empty_file = sealed_file 0xd9700bbe
    (0x1d ∷ 0x9c ∷ 0x3f ∷ 0x88 ∷ 0x73 ∷ 0x0d ∷ 0x0e ∷ 0xd6 ∷ 0xca ∷ 0xa3 ∷ 0x77 ∷ 0xd4 ∷ 0x52 ∷ 0x04 ∷ 0x65 ∷ 0xe7 ∷ 0x32 ∷ 0x2d ∷ 0x36 ∷ 0x5a ∷ []) empty_rest

-- ---- a class with a method

-- const/4 v0, #5; add-int/2addr v0, v1; return v0
abbrev pub run_body : Body
run_body = record { registers = 2; ins = 1; insns = Const 0 (pos 5) ∷ Binary AddInt 0 0 1 ∷ Return Word 0 ∷ []; regions = [] }

abbrev pub run_method : Method
run_method = record { name = 0; flags = record { 0 = 9 }; marks = []; parameter_marks = []; body = Some run_body; lines = [] }

abbrev pub run_class : Class
run_class = record { name = 1; flags = record { 0 = 1 }; superclass = 2; interfaces = []; source = None; marks = []; fields = []; methods = run_method ∷ [] }

abbrev pub run_program : Program
run_program = record {
  strings = codes "I" ∷ codes "II" ∷ codes "LW0;" ∷ codes "Ljava/lang/Object;" ∷ codes "run" ∷ [];
  types = 0 ∷ 2 ∷ 3 ∷ [];
  protos = record { shorty = 1; result = 0; parameters = 0 ∷ [] } ∷ [];
  fields = [];
  methods = record { class = 1; proto = 0; name = 4 } ∷ [];
  classes = run_class ∷ [];
  version = V035;
}

-- the header from 32 on, and the tables
abbrev pub run_tables : List ℕ
run_tables = words (408 ∷ 112 ∷ 0x12345678 ∷ 0 ∷ 0 ∷ 272 ∷ 5 ∷ 112 ∷ 3 ∷ 132 ∷ 1 ∷ 144 ∷ 0 ∷ 0 ∷ 1 ∷ 156 ∷ 1 ∷ 164 ∷ 212 ∷ 196 ∷ [])
    ++ (words (234 ∷ 237 ∷ 241 ∷ 247 ∷ 267 ∷ [])
    ++ (words (0 ∷ 2 ∷ 3 ∷ [])
    ++ (words (1 ∷ 0 ∷ 196 ∷ [])
    ++ (words (1 ∷ 4 ∷ []) ++ words (1 ∷ 1 ∷ 2 ∷ 0 ∷ 0xffffffff ∷ 0 ∷ 226 ∷ 0 ∷ [])))))

-- a type list, a code item, class data and strings
abbrev pub run_items : List ℕ
run_items = (1 ∷ 0 ∷ 0 ∷ 0 ∷ 0 ∷ 0 ∷ 0 ∷ 0 ∷ [])
    ++ ((2 ∷ 0 ∷ 1 ∷ 0 ∷ 0 ∷ 0 ∷ 0 ∷ 0 ∷ 0 ∷ 0 ∷ 0 ∷ 0 ∷ 3 ∷ 0 ∷ 0 ∷ 0 ∷ 0x12 ∷ 0x50 ∷ 0xb0 ∷ 0x10 ∷ 0x0f ∷ 0x00 ∷ [])
    ++ ((0 ∷ 0 ∷ 1 ∷ 0 ∷ 0 ∷ 9 ∷ 0xcc ∷ 0x01 ∷ [])
    ++ ((1 ∷ codes "I") ++ (0 ∷ 2 ∷ codes "II") ++ (0 ∷ 4 ∷ codes "LW0;") ++ (0 ∷ 18 ∷ codes "Ljava/lang/Object;") ++ (0 ∷ 3 ∷ codes "run") ++ 0 ∷ [])))

-- eleven entries: the header, five tables, four kinds of items, and the map itself
abbrev pub run_map : List ℕ
run_map = words (11 ∷ 0 ∷ 1 ∷ 0 ∷ 1 ∷ 5 ∷ 112 ∷ 2 ∷ 3 ∷ 132 ∷ 3 ∷ 1 ∷ 144 ∷ 5 ∷ 1 ∷ 156 ∷ 6 ∷ 1 ∷ 164
    ∷ 0x1001 ∷ 1 ∷ 196 ∷ 0x2001 ∷ 1 ∷ 204 ∷ 0x2000 ∷ 1 ∷ 226 ∷ 0x2002 ∷ 5 ∷ 234 ∷ 0x1000 ∷ 1 ∷ 272 ∷ [])

abbrev pub run_file : List ℕ
run_file = sealed_file 0xc0982c07
    (0xc5 ∷ 0x8d ∷ 0x2a ∷ 0x9c ∷ 0x0a ∷ 0xd6 ∷ 0x49 ∷ 0xc0 ∷ 0xf8 ∷ 0x87 ∷ 0x23 ∷ 0x9b ∷ 0xf7 ∷ 0xbc ∷ 0x51 ∷ 0x3e ∷ 0x51 ∷ 0x0e ∷ 0x04 ∷ 0x43 ∷ [])
    (run_tables ++ (run_items ++ run_map))

-- ---- what is no valid file

-- A class with a field named U+0081 and the source U+0008, whose first string_id leads into the tail of the last string: its number of
-- units is 81 00, and its unit the low byte of the map's count. The map counts four strings. Readers take it for what it spells.
abbrev pub escaping_tables : List ℕ
escaping_tables = words (324 ∷ 112 ∷ 0x12345678 ∷ 0 ∷ 0 ∷ 224 ∷ 5 ∷ 112 ∷ 3 ∷ 132 ∷ 0 ∷ 0 ∷ 1 ∷ 144 ∷ 0 ∷ 0 ∷ 1 ∷ 152 ∷ 140 ∷ 184 ∷ [])
    ++ (words (222 ∷ 190 ∷ 193 ∷ 200 ∷ 220 ∷ [])
    ++ (words (1 ∷ 2 ∷ 3 ∷ []) ++ (words (1 ∷ 4 ∷ []) ++ words (1 ∷ 1 ∷ 2 ∷ 0 ∷ 0 ∷ 0 ∷ 184 ∷ 0 ∷ []))))

abbrev pub escaping_items : List ℕ
escaping_items = (0 ∷ 1 ∷ 0 ∷ 0 ∷ 0 ∷ 1 ∷ []) ++ ((1 ∷ codes "I") ++ (0 ∷ 5 ∷ codes "LW00;") ++ (0 ∷ 18 ∷ codes "Ljava/lang/Object;") ++ (0 ∷ 1 ∷ 0xc2 ∷ 0x81 ∷ 0 ∷ []))

abbrev pub escaping_map : List ℕ
escaping_map = words (8 ∷ 0 ∷ 1 ∷ 0 ∷ 1 ∷ 5 ∷ 112 ∷ 2 ∷ 3 ∷ 132 ∷ 4 ∷ 1 ∷ 144 ∷ 6 ∷ 1 ∷ 152 ∷ 0x2000 ∷ 1 ∷ 184 ∷ 0x2002 ∷ 4 ∷ 190 ∷ 0x1000 ∷ 1 ∷ 224 ∷ [])

abbrev pub escaping_file : List ℕ
escaping_file = sealed_file 0x5fa72240
    (0x8d ∷ 0x3f ∷ 0xc8 ∷ 0x58 ∷ 0x77 ∷ 0xf0 ∷ 0x0c ∷ 0xd0 ∷ 0x44 ∷ 0x62 ∷ 0x50 ∷ 0xb9 ∷ 0xc5 ∷ 0x60 ∷ 0x16 ∷ 0xac ∷ 0x8b ∷ 0x2a ∷ 0x11 ∷ 0x8a ∷ [])
    (escaping_tables ++ (escaping_items ++ escaping_map))

-- throw v0 under a catch-all at move-exception v0, then throw v0: three units, and a gap before the try item
abbrev pub caught_body : Body
caught_body = record {
  registers = 1;
  ins = 0;
  insns = Throw 0 ∷ MoveException 0 ∷ Throw 0 ∷ [];
  regions = record { first = 0; end = 1; handlers = []; rest = Some 1 } ∷ [];
}

-- its code item with this unit for the gap
abbrev pub caught_item : ℕ → List ℕ
caught_item gap = flat_map (to_le_bytes w16) (1 ∷ 0 ∷ 0 ∷ 1 ∷ 0 ∷ 0 ∷ 3 ∷ 0 ∷ 0x0027 ∷ 0x000d ∷ 0x0027 ∷ gap ∷ 0 ∷ 0 ∷ 1 ∷ 1 ∷ []) ++ (1 ∷ 0 ∷ 1 ∷ [])

-- ---- files with a fault each

-- the unsigned file with its last byte 1, and 140 bytes that begin like an archive
abbrev pub damaged_file : List ℕ
damaged_file = take 139 unsigned_file ++ 1 ∷ []

abbrev pub archive_file : List ℕ
archive_file = 0x50 ∷ 0x4b ∷ 0x03 ∷ 0x04 ∷ replicate 136 0

-- two strings, of which the second is the lower one
abbrev pub unordered_file : List ℕ
unordered_file = replicate 56 0 ++ (words (2 ∷ 112 ∷ []) ++ (replicate 48 0 ++ (words (120 ∷ 123 ∷ []) ++ (1 ∷ 98 ∷ 0 ∷ 1 ∷ 97 ∷ 0 ∷ []))))

-- one class_def: without a superclass, and with first values of which the one has an unknown type
abbrev pub file_of_class : List ℕ → List ℕ → List ℕ
file_of_class def rest = replicate 96 0 ++ (words (1 ∷ 112 ∷ 0 ∷ 0 ∷ []) ++ (words def ++ rest))

abbrev pub rootless_file : List ℕ
rootless_file = file_of_class (0 ∷ 1 ∷ 0xffffffff ∷ 0 ∷ 0xffffffff ∷ 0 ∷ 0 ∷ 0 ∷ []) []

abbrev pub value_file : List ℕ
value_file = file_of_class (0 ∷ 1 ∷ 0 ∷ 0 ∷ 0xffffffff ∷ 0 ∷ 0 ∷ 144 ∷ []) (1 ∷ 1 ∷ [])

-- a code item of move-result v0 and a goto that leads nowhere
abbrev pub misplaced_item : List ℕ
misplaced_item = flat_map (to_le_bytes w16) (1 ∷ 0 ∷ 0 ∷ 0 ∷ 0 ∷ 0 ∷ 2 ∷ 0 ∷ 0x000a ∷ 0x6428 ∷ [])

-- ---- code

-- a switch on v0 whose one case, 0, is the return behind it
abbrev pub switch_insns : List Insn
switch_insns = PackedSwitch 0 (pos 0) (1 ∷ []) ∷ ReturnVoid ∷ []

abbrev pub switch_body : Body
switch_body = record { registers = 1; ins = 0; insns = switch_insns; regions = [] }

abbrev pub switch_units : List ℕ
switch_units = 0x002b ∷ 0x0004 ∷ 0x0000 ∷ 0x000e ∷ 0x0100 ∷ 0x0001 ∷ 0x0000 ∷ 0x0000 ∷ 0x0003 ∷ 0x0000 ∷ []

abbrev pub switch_sizes : List ℕ
switch_sizes = 3 ∷ 1 ∷ []

-- two classes, of which the first is under the second
abbrev pub bare_class : Flags → ℕ → ℕ → Class
bare_class flags name superclass = record {
  name = name;
  flags = flags;
  superclass = superclass;
  interfaces = [];
  source = None;
  marks = [];
  fields = [];
  methods = [];
}

abbrev pub lower_first : Flags → Program
lower_first flags = record {
  strings = codes "LA;" ∷ codes "LB;" ∷ codes "Ljava/lang/Object;" ∷ [];
  types = 0 ∷ 1 ∷ 2 ∷ [];
  protos = [];
  fields = [];
  methods = [];
  classes = bare_class flags 0 1 ∷ bare_class flags 1 2 ∷ [];
  version = V035;
}
