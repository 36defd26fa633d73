-- Class_defs and code items, as they are read and as they stand.
use Rattle.std.specs.Prelude.{◌≡◌, ◌+◌, ◌<◌, ℕ, List, length}
use Rattle.program_model.specs.declared.program.Program.{Program}
use Rattle.dex_defs.specs.ClassDefs.{Def, IsDef, IsSource, none}
use Rattle.dex_defs.specs.CodeItems.{Frame, IsFrame, tries_at}
use Rattle.dex_read.specs.declared.class_defs.ClassDef.{ClassDef}
use Rattle.dex_read.specs.declared.code.CodeItem.{CodeItem}
use Rattle.dex_read.specs.Classes.{source_of}

abbrev pub def_of : ClassDef → Def
def_of d = record { name = d.class; flags = d.flags; superclass = d.superclass; interfaces = d.interfaces; source = d.source; annotations = d.annotations; data_at = d.data_at; values = d.static_values }

-- the class_def at this place, whose type and source are entries of the tables
pub record IsReadDef (bytes : List ℕ) (p : Program) (at : ℕ) (d : ClassDef) : Type 0 where
  pub is : IsDef bytes at (def_of d)
  pub is_type : d.class < length p.types
  pub above : (d.superclass ≡ none → ⊥) → d.superclass < length p.types
  pub source : IsSource (length p.strings) d.source (source_of d.source)

-- the fixed part of the code item at this place, which has that frame, and where its try items begin
pub record IsReadItem (bytes : List ℕ) (at : ℕ) (item : CodeItem) : Type 0 where
  pub frame : Frame
  pub is : IsFrame bytes at frame
  pub registers : item.registers ≡ frame.registers
  pub ins : item.ins ≡ frame.ins
  pub tries : item.tries ≡ frame.tries
  pub debug : item.debug ≡ frame.debug
  pub size : item.size ≡ frame.size
  pub units_at : item.units_at ≡ at + 16
  pub tries_begin : item.tries_at ≡ tries_at at frame
