-- What is said of a compacted body by number, and of its named body.
use Rattle.std.specs.Prelude.{◌≡◌, ℕ, Bool, true, List, Some, Contains}
use Rattle.program_model.specs.declared.body.Body.{Body}
use Rattle.program_model.specs.declared.program.Method.{Method}
use Rattle.program_model.specs.declared.program.Class.{Class}
use Rattle.program_model.specs.declared.program.Program.{Program}
use Rattle.dalvik_defs.specs.Naming.{body_of}
use Rattle.insn_regs.specs.Wides.{widths_of}
use Rattle.walk_marks.specs.Walks.{is_on}
use Rattle.compact.specs.Renamed.{IsCompacted, HasRegisters}
use Rattle.compact.specs.Packed as numbered
use Rattle.pass_defs.specs.Packed as named
use Rattle.form_laws.specs.Renamed.{IsRenamed}

abbrev pub RenamedByNumber : Type 0
RenamedByNumber = (p : Program) (b d : Body) → HasRegisters b → IsCompacted (widths_of p) b d → (new : ℕ → ℕ) × IsRenamed (body_of p b) (body_of p d) new

abbrev pub PackedByNumber : Type 0
PackedByNumber = (p : Program) (b : Body) → numbered.IsPacked (widths_of p) b → named.IsPacked (body_of p b)

abbrev pub SettlesByNumber : Type 0
SettlesByNumber = (p : Program) (b d : Body) → IsCompacted (widths_of p) b d → d ≡ b → named.IsPacked (body_of p b)

-- the bodies of admitted methods are packed, by name
abbrev pub AllPacked : List Bool → Program → Type 0
AllPacked admitted p = (c : Class) (m : Method) (b : Body) → Contains p.classes c → Contains c.methods m → is_on admitted m.name ≡ true → m.body ≡ Some b → named.IsPacked (body_of p b)
