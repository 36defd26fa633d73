-- What the types of numbers say of a program that a law speaks of: its numbers have the bits that an instruction or an
-- encoded value has for them (Dalvik bytecode, "Instruction formats"; Dalvik executable format, "encoded_value").
use Rattle.std.specs.Prelude.{◌≡◌, ◌<◌, ◌^◌, ℕ, Some, All, IfSome, slice_get}
use Rattle.std.specs.Int.{w32}
use Rattle.std.specs.Int.RustNames.{FitsSigned}
use Rattle.insn_set.specs.declared.form.Insn.{Insn}
use Rattle.insn_set.specs.declared.form.Insn.TheVariants as insn
use Rattle.program_model.specs.declared.body.Body.{Body}
use Rattle.program_model.specs.declared.program.Field.{Field}
use Rattle.program_model.specs.declared.program.Method.{Method}
use Rattle.program_model.specs.declared.program.Class.{Class}
use Rattle.program_model.specs.declared.program.Program.{Program}
use Rattle.program_model.specs.declared.value.EncValue.{EncValue, EncValue-F, out-EncValue}
use Rattle.program_model.specs.declared.value.EncValue.TheOpen as layer
use Rattle.program_model.specs.declared.value.Element.{Element}
use Rattle.program_model.specs.declared.value.Note.{Note}

-- the literals and keys of an instruction have 32 bits with their sign
abbrev pub HasWords : Insn → Type 0
HasWords (insn.Const to value) = FitsSigned w32 value
HasWords (insn.Literal op to a value) = FitsSigned w32 value
HasWords (insn.PackedSwitch on first targets) = FitsSigned w32 first
HasWords (insn.SparseSwitch on keys targets) = All (FitsSigned w32) keys
HasWords x = Unit {0}

-- a first value that is a word has 32 bits
abbrev pub LayerHasWords : EncValue-F EncValue Element Note → Type 0
LayerHasWords (layer.Byte z) = FitsSigned w32 z
LayerHasWords (layer.Short z) = FitsSigned w32 z
LayerHasWords (layer.Char n) = n < 2 ^ 32
LayerHasWords (layer.Int z) = FitsSigned w32 z
LayerHasWords (layer.Float n) = n < 2 ^ 32
LayerHasWords v = Unit {0}

abbrev pub ValueHasWords : EncValue → Type 0
ValueHasWords v = LayerHasWords (out-EncValue v)

abbrev pub BodyHasWords : Body → Type 0
BodyHasWords b = All HasWords b.insns

abbrev pub MethodHasWords : Method → Type 0
MethodHasWords m = IfSome m.body BodyHasWords

abbrev pub FieldHasWords : Field → Type 0
FieldHasWords f = IfSome f.first ValueHasWords

pub record ClassHasWords (c : Class) : Type 0 where
  pub methods : All MethodHasWords c.methods
  pub fields : All FieldHasWords c.fields

-- so it is in all code and in all fields
pub record AllHaveWords (p : Program) : Type 0 where
  pub insns : (i j n : ℕ) (c : Class) (m : Method) (b : Body) (x : Insn) → slice_get p.classes i ≡ Some c → slice_get c.methods j ≡ Some m → m.body ≡ Some b → slice_get b.insns n ≡ Some x → HasWords x
  pub firsts : (i j : ℕ) (c : Class) (f : Field) (v : EncValue) → slice_get p.classes i ≡ Some c → slice_get c.fields j ≡ Some f → f.first ≡ Some v → ValueHasWords v
