-- The 408 bytes of a class with a method spell it.
use Rattle.std.proofs.Common.{◌≡◌, ℕ, List, [], ◌∷◌, refl}
use Rattle.std.specs.Prelude.{Ok, true, false}
use Rattle.std.proofs.lemmas.List.Elements.{All-nil, All-cons}
use Rattle.dex_base.specs.Word.{u16_at, u32_at}
use Rattle.dex_base.specs.Adler.{adler_of}
use Rattle.dex_base.specs.Leb.{uleb_at, IsUlebAt}
use Rattle.dex_base.specs.Mutf8.{text_at, unit_in}
use Rattle.dex_base.specs.Descriptor.{is_alone, next_spot, descriptor_of}
use Rattle.insn_set.specs.declared.format.Format.TheVariants.{F11n, F12x, F11x}
use Rattle.code_read.specs.Opcodes.{format_at, binary_at}
use Rattle.code_read.specs.Forms.{plain, nibble}
use Rattle.dex_pools.specs.PoolTables.{strings_at, types_at, protos_at, fields_at, methods_at, pools_at}
use Rattle.dex_pools.specs.Tables.{extent_at, extents_at, begin_of, string_at, type_at, parameters_at, proto_at, field_at, method_at}
use Rattle.dex_pools.specs.Items.{spend, count_at, listed_at, type_list_at}
use Rattle.dex_pools.specs.Word.{index_at, half_index_at}
use Rattle.dex_pools.specs.Spelled.{SpellsPools}
use Rattle.dex_pools.proofs.PoolReading.{finds_pools}
use Rattle.program_model.specs.MemberRules.{is_static, is_direct}
use Rattle.dex_defs.specs.Header.{IsHeader}
use Rattle.dex_defs.specs.Spells.{Spells, pools_of, sizes_in}
use Rattle.dex_defs.specs.Annotations.{no_directory}
use Rattle.dex_defs.specs.ClassData.{Entry, Lists, IsClassData, IsMethodEntry}
use Rattle.dex_defs.specs.ClassDefs.{Def, IsDef, IsDefined, IsMethod, IsClass}
use Rattle.dex_defs.specs.Sweep.{Piece, IsSwept, places_of, instructions}
use Rattle.dex_defs.specs.Instructions.{AreInsns, Plain}
use Rattle.dex_defs.specs.CodeItems.{Frame, IsFrame, IsCode}
use Rattle.dex_defs.specs.Examples.{run_program, run_class, run_method, run_body, run_file}
use Rattle.dex_defs.proofs.Computing.{at_most, below, is_32, is_16, uleb}

header : IsHeader run_file run_program.version
unfolding adler_of
header = record {
  whole = at_most 112 408 refl;
  magic = refl;
  checksum = is_32 run_file 8 0xc0982c07 refl refl;
  file_size = is_32 run_file 32 408 refl refl;
  header_size = is_32 run_file 36 112 refl refl;
  endian_tag = is_32 run_file 40 0x12345678 refl refl;
  link_size = is_32 run_file 44 0 refl refl;
}

-- the tables are read, and so stand there
pools : SpellsPools run_file 16777216 (pools_of run_program)
unfolding pools_at strings_at types_at protos_at fields_at methods_at extent_at extents_at begin_of string_at type_at parameters_at proto_at field_at method_at spend count_at listed_at type_list_at index_at half_index_at u16_at u32_at uleb_at text_at unit_in is_alone next_spot descriptor_of
pools = ((finds_pools run_file 16777216).found (pools_of run_program, 16777215) refl).0

-- ---- the code

abbrev pub units : List ℕ
units = 0x5012 ∷ 0x10b0 ∷ 0x000f ∷ []

abbrev pub pieces : List Piece
pieces = record { start = 0; text = 0x5012 ∷ [] } ∷ record { start = 1; text = 0x10b0 ∷ [] } ∷ record { start = 2; text = 0x000f ∷ [] } ∷ []

pub swept : IsSwept units pieces
unfolding format_at
swept = (
  record { start = refl; size = refl; inside = at_most 1 3 refl; text = refl },
  (
    record { start = refl; size = refl; inside = at_most 2 3 refl; text = refl },
    (record { start = refl; size = refl; inside = at_most 3 3 refl; text = refl }, refl),
  ),
)

insns : AreInsns (places_of units pieces) (instructions pieces) run_body.insns
unfolding format_at plain nibble binary_at
insns = (
  Plain (record { a = 0; b = 5; c = 0; wide = 0 }) (record { format = F11n; row = refl; fields = refl }) refl refl,
  (
    Plain (record { a = 0; b = 1; c = 0; wide = 0 }) (record { format = F12x; row = refl; fields = refl }) refl refl,
    (Plain (record { a = 0; b = 0; c = 0; wide = 0 }) (record { format = F11x; row = refl; fields = refl }) refl refl, tt),
  ),
)

abbrev pub frame : Frame
frame = record { registers = 2; ins = 1; outs = 0; tries = 0; debug = 0; size = 3 }

frame_stands : IsFrame run_file 204 frame
frame_stands = record {
  registers = is_16 run_file 204 2 refl refl;
  ins = is_16 run_file 206 1 refl refl;
  outs = is_16 run_file 208 0 refl refl;
  tries = is_16 run_file 210 0 refl refl;
  debug = is_32 run_file 212 0 refl refl;
  size = is_32 run_file 216 3 refl refl;
}

pub code : IsCode run_file 3 204 frame (places_of units pieces) run_body
code = record {
  frame = frame_stands;
  registers = refl;
  ins = refl;
  units = units;
  many = refl;
  are_units = (is_16 run_file 220 0x5012 refl refl, (is_16 run_file 222 0x10b0 refl refl, (is_16 run_file 224 0x000f refl refl, tt)));
  pieces = pieces;
  swept = swept;
  placed = refl;
  insns = insns;
  tries = [];
  are_tries = (refl, tt);
  regions = tt;
}

-- ---- the class

abbrev pub entry : Entry
entry = record { number = 0; flags = 9; code = 204 }

abbrev pub lists : Lists
lists = record { statics = []; instances = []; directs = entry ∷ []; virtuals = [] }

uleb_stands : (at n stop : ℕ) → uleb_at run_file at ≡ Ok (n, stop) → IsUlebAt run_file at (n, stop)
uleb_stands at n stop e = uleb run_file at n stop e

entry_stands : IsMethodEntry run_file 0 230 entry 234
unfolding uleb_at
entry_stands = record {
  step = 0;
  mid = 231;
  next = 232;
  is_step = uleb_stands 230 0 231 refl;
  flags = uleb_stands 231 9 232 refl;
  code = uleb_stands 232 204 234 refl;
  number = refl;
}

pub class_data : IsClassData run_file 226 lists 234
unfolding uleb_at
class_data = record {
  begin = 230;
  instances_at = 230;
  directs_at = 230;
  virtuals_at = 234;
  counts = record {
    second = 227;
    third = 228;
    fourth = 229;
    statics = uleb_stands 226 0 227 refl;
    instances = uleb_stands 227 0 228 refl;
    directs = uleb_stands 228 1 229 refl;
    virtuals = uleb_stands 229 0 230 refl;
  };
  statics = refl;
  instances = refl;
  directs = (234, entry_stands, refl);
  virtuals = refl;
}

abbrev pub def : Def
def = record { name = 1; flags = 1; superclass = 2; interfaces = 0; source = 0xffffffff; annotations = 0; data_at = 226; values = 0 }

pub def_stands : IsDef run_file 164 def
def_stands = record {
  name = is_32 run_file 164 1 refl refl;
  flags = is_32 run_file 168 1 refl refl;
  superclass = is_32 run_file 172 2 refl refl;
  interfaces = is_32 run_file 176 0 refl refl;
  source = is_32 run_file 180 0xffffffff refl refl;
  annotations = is_32 run_file 184 0 refl refl;
  data_at = is_32 run_file 188 226 refl refl;
  values = is_32 run_file 192 0 refl refl;
}

method : IsMethod run_file (sizes_in run_program) 3 no_directory entry run_method
method = record {
  number = refl;
  flags = refl;
  marks = refl;
  parameter_marks = refl;
  code = record { frame = frame; places = places_of units pieces; code = code; are_lines = refl };
}

class : IsClass run_file run_program (sizes_in run_program) 164 run_class
unfolding is_direct
class = record {
  def = def;
  directory = no_directory;
  lists = lists;
  is_def = def_stands;
  parts = record {
    directory_is = refl;
    lists_are = (234, class_data);
    in_order = record { fields = tt; methods = tt; parameters = tt };
    fields = All-nil (IsDefined []);
    methods = All-nil (IsDefined (entry ∷ []));
    parameters = All-nil (IsDefined (entry ∷ []));
  };
  name = refl;
  is_type = below 1 3 refl;
  flags = refl;
  superclass = refl;
  above = below 2 3 refl;
  interfaces = refl;
  source = refl;
  marks = refl;
  statics = [];
  instances = [];
  fields = refl;
  are_statics = tt;
  are_instances = tt;
  values = [];
  are_values = refl;
  firsts = All-nil _;
  none_first = All-nil _;
  static = All-nil (λ f. is_static f.flags ≡ true);
  of_instance = All-nil (λ f. is_static f.flags ≡ false);
  directs = run_method ∷ [];
  virtuals = [];
  methods = refl;
  are_directs = (method, tt);
  are_virtuals = tt;
  direct = All-cons (λ m. is_direct run_program m ≡ true) run_method [] refl (All-nil _);
  virtual = All-nil (λ m. is_direct run_program m ≡ false);
}

pub spelled : Spells run_file run_program
spelled = record {
  header = header;
  pools = pools;
  table = record { size = 1; offset = 164 };
  stands = record { size = is_32 run_file 96 1 refl refl; offset = is_32 run_file 100 164 refl refl; inside = λ h. at_most 196 408 refl };
  classes = (refl, (class, tt));
}
