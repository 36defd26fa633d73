-- Code items, as they are read (Dalvik executable format, "code_item").
use Rattle.std.specs.Prelude.{ℕ, ◌+◌, ◌-◌, ◌*◌, ◌%◌, List, [], length, drop, Bool, not, nat_eq, nat_lt, nat_le, ◌&&◌, ◌==◌, Option, Some, None, Result, Ok, Err, if◌then◌else◌}
use Rattle.std.specs.List.{list_any}
use Rattle.dex_base.specs.Reading.{◌>>=◌, raise, each}
use Rattle.line_tables.specs.Item.{lines_at}
use Rattle.program_model.specs.Cells.{body_cells}
use Rattle.program_model.specs.Items.{body_items}
use Rattle.program_model.specs.Limits.{limit_of}
use Rattle.program_model.specs.MemberRules.{proto_of, takes_words}
use Rattle.program_model.specs.declared.body.Body.{Body}
use Rattle.program_model.specs.declared.limits.Counted.{Counted}
use Rattle.program_model.specs.declared.limits.Counted.TheVariants.{Cells, Items}
use Rattle.program_model.specs.declared.program.Method.{Method}
use Rattle.program_model.specs.declared.program.Program.{Program}
use Rattle.code_read.specs.declared.fault.CodeFault.{CodeFault}
use Rattle.code_read.specs.declared.fault.CodeFault.TheVariants as code
use Rattle.code_read.specs.declared.sizes.Sizes.{Sizes}
use Rattle.code_read.specs.Code.{code_of}
use Rattle.dex_read.specs.declared.class_data.Listed.{Listed}
use Rattle.dex_read.specs.declared.code.CodeItem.{CodeItem}
use Rattle.dex_read.specs.declared.fault.DexFault.{DexFault}
use Rattle.dex_read.specs.declared.fault.DexFault.TheVariants as dex
use Rattle.dex_read.specs.declared.members.Budget.{Budget}
use Rattle.dex_read.specs.Header.{need_at, past}
use Rattle.dex_read.specs.Tables.{sizes_in}
use Rattle.dex_read.specs.Word.{half_at, word_at}

-- ---- the item itself

-- the unit that stands before the try items of an odd number of units
abbrev pub gap : ℕ → ℕ → ℕ
gap tries size = if nat_lt 0 tries && size % 2 == 1 then 2 else 0

-- the numbers of the item, which does not pass the end up to its try items
unfoldable pub item_at : List ℕ → ℕ → Result CodeItem DexFault
item_at bytes at = do
  begins ← need_at bytes at 16
  registers ← half_at bytes at
  ins ← half_at bytes (at + 2)
  tries ← half_at bytes (at + 6)
  debug ← word_at bytes (at + 8)
  size ← word_at bytes (at + 12)
  whole ← need_at bytes at (16 + 2 * size + gap tries size + 8 * tries)
  Ok (record { registers = registers; ins = ins; tries = tries; debug = debug; size = size; units_at = at + 16; tries_at = at + (16 + 2 * size + gap tries size) })

-- the arguments are the receiver and the parameters of the method, and there is room for them
unfoldable pub frame_at : Program → Listed → CodeItem → Result (Unit {0}) DexFault
frame_at p e item = if takes_words p e.flags (proto_of p e.number) item.ins && nat_le item.ins item.registers then Ok tt else Err (dex.FrameSize e.number)

unfoldable pub units_at : List ℕ → ℕ → ℕ → Result (List ℕ) DexFault
units_at bytes at count = each (λ i. half_at bytes (at + 2 * i)) 0 count

-- ---- its body

-- what the registers and numbers of the code are compared with
abbrev pub sizes_for : Program → CodeItem → ℕ → Sizes
sizes_for p item left = record {
  registers = item.registers;
  ins = item.ins;
  tries = item.tries;
  strings = (sizes_in p).strings;
  types = (sizes_in p).types;
  fields = (sizes_in p).fields;
  methods = (sizes_in p).methods;
  items = left;
}

-- the quantities that code counts
abbrev pub in_code : Counted → Counted
in_code Cells = Cells
in_code _ = Items

-- want of memory and a passed limit, which is one of cells or of items, are handed on as such
abbrev pub of_code : ℕ → CodeFault → DexFault
of_code method code.NoMemory = dex.NoMemory
of_code method (code.Limit limit) = past (in_code limit.counted)
of_code method fault = dex.Code method fault

-- the body of a method, and where its instructions begin
unfoldable pub body_at : List ℕ → Program → ℕ → CodeItem → ℕ → Result (Body × List ℕ) DexFault
body_at bytes p method item left = do
  units ← units_at bytes item.units_at item.size
  raise (of_code method) (code_of units (drop item.tries_at bytes) (sizes_for p item left))

-- ---- its lines and its cells

-- no lines at all, where no position has one
abbrev pub kept_lines : Option (List ℕ) → List ℕ
kept_lines None = []
kept_lines (Some lines) = if list_any (λ line. not (nat_eq line 0)) lines then lines else []

-- the lines, where the opcodes that were read are no more than are left of the items
abbrev pub counted_lines : ℕ → Option (List ℕ) × ℕ → Result (List ℕ × ℕ) DexFault
counted_lines left read = if nat_le read.1 left then Ok (kept_lines read.0, left - read.1) else Err (past Items)

-- the lines that the debug item at this offset gives the positions; the offset 0 stands for none
unfoldable pub lined_at : List ℕ → ℕ → List ℕ → ℕ → Result (List ℕ × ℕ) DexFault
lined_at bytes debug starts left = if nat_eq debug 0 then Ok ([], left) else counted_lines left (lines_at bytes debug starts left)

unfoldable pub cells_with : Body → ℕ → Result ℕ DexFault
cells_with body cells = if nat_le (cells + body_cells body) (limit_of Cells) then Ok (cells + body_cells body) else Err (past Cells)

-- ---- methods

abbrev pub method_with : Listed → Option Body → List ℕ → Method
method_with e body lines = record { name = e.number; flags = e.flags; marks = []; parameter_marks = []; body = body; lines = lines }

-- the method with the code that its entry names. Handlers of regions and opcodes of lines are items.
unfoldable pub coded_at : List ℕ → Program → Listed → Budget → Result (Method × Budget) DexFault
coded_at bytes p e left = do
  item ← item_at bytes e.code
  frame ← frame_at p e item
  body ← body_at bytes p e.number item left.items
  lines ← lined_at bytes item.debug body.1 (left.items - body_items (Some body.0))
  cells ← cells_with body.0 left.cells
  Ok (method_with e (Some body.0) lines.0, record { items = lines.1; cells = cells })

-- the method of an entry, without its annotations; the offset 0 stands for no code
abbrev pub method_at : List ℕ → Program → Listed → Budget → Result (Method × Budget) DexFault
method_at bytes p e left = if nat_eq e.code 0 then Ok (method_with e None [], left) else coded_at bytes p e left
