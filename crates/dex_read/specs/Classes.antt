-- Classes, as they are read (Dalvik executable format, "class_def_item").
use Rattle.std.specs.Prelude.{ℕ, ◌+◌, ◌*◌, List, [], ◌++◌, map, length, Bool, true, false, not, nat_eq, nat_lt, ◌&&◌, ◌||◌, Option, Some, None, Result, Ok, Err, if◌then◌else◌}
use Rattle.std.specs.List.{list_all}
use Rattle.dex_base.specs.Reading.{◌>>=◌, raise}
use Rattle.program_model.specs.Texts.{type_text, letter_of, is_class}
use Rattle.program_model.specs.MemberRules.{is_object}
use Rattle.program_model.specs.declared.program.Class.{Class}
use Rattle.program_model.specs.declared.program.Field.{Field}
use Rattle.program_model.specs.declared.program.Method.{Method}
use Rattle.program_model.specs.declared.program.Program.{Program}
use Rattle.dex_pools.specs.declared.fault.PoolFault.TheVariants.{Index}
use Rattle.dex_pools.specs.Items.{type_list_at}
use Rattle.dex_pools.specs.Run.{run}
use Rattle.dex_read.specs.declared.class_data.Listed.{Listed}
use Rattle.dex_read.specs.declared.class_data.Members.{Members}
use Rattle.dex_read.specs.declared.class_defs.ClassDef.{ClassDef}
use Rattle.dex_read.specs.declared.fault.DexFault.{DexFault}
use Rattle.dex_read.specs.declared.fault.DexFault.TheVariants.{Pool, Root}
use Rattle.dex_read.specs.declared.members.Budget.{Budget}
use Rattle.dex_read.specs.declared.members.Owner.{Owner}
use Rattle.dex_read.specs.ClassData.{flags_of, members_at}
use Rattle.dex_read.specs.Code.{method_at}
use Rattle.dex_read.specs.Directory.{Marked, directory_at}
use Rattle.dex_read.specs.FirstValues.{firsts_at}
use Rattle.dex_read.specs.Faults.{of_pool}
use Rattle.dex_read.specs.Header.{need_at}
use Rattle.dex_read.specs.Steps.{for_each}
use Rattle.dex_read.specs.Tables.{sizes_in}
use Rattle.dex_read.specs.Word.{word_at}

-- ---- the class_def

-- the index that stands for none
abbrev pub none : ℕ
none = 4294967295

-- an index below the size of its table, or none where it may be
unfoldable pub index_at : List ℕ → ℕ → ℕ → Bool → Result ℕ DexFault
index_at bytes at size may_be_none = word_at bytes at >>= λ n.
    if nat_lt n size || (may_be_none && nat_eq n none) then Ok n else Err (Pool (Index at n size))

-- its eight numbers
unfoldable pub def_at : List ℕ → Program → ℕ → Result ClassDef DexFault
def_at bytes p at = do
  class ← index_at bytes at (sizes_in p).types false
  flags ← word_at bytes (at + 4)
  superclass ← index_at bytes (at + 8) (sizes_in p).types true
  interfaces ← word_at bytes (at + 12)
  source ← index_at bytes (at + 16) (sizes_in p).strings true
  annotations ← word_at bytes (at + 20)
  data_at ← word_at bytes (at + 24)
  static_values ← word_at bytes (at + 28)
  Ok (record { class = class; flags = flags; superclass = superclass; interfaces = interfaces; source = source; annotations = annotations; data_at = data_at; static_values = static_values })

-- the interfaces, and what they leave of the items; the offset 0 stands for none
unfoldable pub interfaces_at : List ℕ → Program → ℕ → ℕ → Result (List ℕ × ℕ) DexFault
interfaces_at bytes p offset left = if nat_eq offset 0 then Ok ([], left) else raise of_pool (type_list_at bytes offset (sizes_in p).types left)

abbrev pub is_class_type : Program → ℕ → Bool
is_class_type p kind = is_class (letter_of p kind)

-- the class has a superclass and isn't the root, and it, its superclass and its interfaces are class types
unfoldable pub root_at : Program → ClassDef → List ℕ → ℕ → Result (Unit {0}) DexFault
root_at p def interfaces place =
    if not (nat_eq def.superclass none) && (not (is_object (type_text p def.class)) && (is_class_type p def.class && (is_class_type p def.superclass && list_all (is_class_type p) interfaces)))
    then Ok tt else Err (Root place)

-- ---- its members

abbrev pub field_with : Listed → Field
field_with e = record { name = e.number; flags = e.flags; first = None; marks = [] }

abbrev pub no_members : Members
no_members = record { statics = []; instances = []; directs = []; virtuals = [] }

-- the offset 0 stands for no members
abbrev pub listed_at : List ℕ → Program → Owner → ℕ → Result Members DexFault
listed_at bytes p owner offset = if nat_eq offset 0 then Ok no_members else members_at bytes p owner offset

-- the methods of class data, direct ones first, and what their code leaves
unfoldable pub methods_of : List ℕ → Program → Members → Budget → Result (List Method × Budget) DexFault
methods_of bytes p listed left = for_each (method_at bytes p) (listed.directs ++ listed.virtuals) left

-- the annotations that the directory at this offset names; the offset 0 stands for none
unfoldable pub marked_at : List ℕ → Program → ℕ → Members → ℕ → List Field → List Method → ℕ → Result Marked DexFault
marked_at bytes p class listed offset fields methods left =
    if nat_eq offset 0 then Ok (record { marks = []; fields = fields; methods = methods; left = left }) else directory_at bytes p class listed offset fields methods left

-- the first values at this offset; the offset 0 stands for none
unfoldable pub begun_at : List ℕ → Program → ℕ → ℕ → List Field → ℕ → Result (List Field × ℕ) DexFault
begun_at bytes p offset statics fields left = if nat_eq offset 0 then Ok (fields, left) else firsts_at bytes p offset statics fields left

abbrev pub source_of : ℕ → Option ℕ
source_of n = if nat_eq n none then None else Some n

-- ---- the class

abbrev pub class_with : ClassDef → List ℕ → Marked → List Field → Class
class_with def interfaces marked fields = record {
  name = def.class;
  flags = flags_of def.flags;
  superclass = def.superclass;
  interfaces = interfaces;
  source = source_of def.source;
  marks = marked.marks;
  fields = fields;
  methods = marked.methods;
}

-- The class at this place, whose class_def stands there, and what it leaves: its members, their code, its annotations and then its
-- first values.
unfoldable pub class_at : List ℕ → Program → ℕ → ℕ → Budget → Result (Class × Budget) DexFault
class_at bytes p at place left = do
  def ← def_at bytes p at
  interfaces ← interfaces_at bytes p def.interfaces left.items
  root ← root_at p def interfaces.0 place
  listed ← listed_at bytes p (record { place = place; kind = def.class }) def.data_at
  methods ← methods_of bytes p listed (record { items = interfaces.1; cells = left.cells })
  marked ← marked_at bytes p place listed def.annotations (map field_with (listed.statics ++ listed.instances)) methods.0 methods.1.items
  fields ← begun_at bytes p def.static_values (length listed.statics) marked.fields marked.left
  Ok (class_with def interfaces.0 marked fields.0, record { items = fields.1; cells = methods.1.cells })
