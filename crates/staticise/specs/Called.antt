-- What is known of the calls of methods that are made static.
use Rattle.std.specs.Prelude.{◌≡◌, ℕ, Bool, true, false, List, Some, slice_get, slice_index_or}
use Rattle.insn_set.specs.declared.ops.InvokeKind.{InvokeKind}
use Rattle.insn_set.specs.declared.form.Insn.TheVariants as insn
use Rattle.program_model.specs.declared.body.Body.{Body}
use Rattle.program_model.specs.declared.pools.MethodName.{MethodName}
use Rattle.program_model.specs.declared.program.Class.{Class}
use Rattle.program_model.specs.declared.program.Method.{Method}
use Rattle.program_model.specs.declared.program.Program.{Program}
use Rattle.facts.specs.declared.facts.Facts.{Facts}
use Rattle.static_protos.specs.Tables.{Tables}
use Rattle.loose_methods.specs.Loose.{concerns, has_receiver, is_plain_call}
use Rattle.staticise.specs.Loosened.{code_loosened, is_given}

-- a call that stands in the program
pub record IsCall (p : Program) (place at position : ℕ) (method : Method) (kind : InvokeKind) (called : ℕ) (args : List ℕ) : Type 0 where
  pub class : Class
  pub body : Body
  pub is_class : slice_get p.classes place ≡ Some class
  pub is_method : slice_get class.methods at ≡ Some method
  pub is_body : method.body ≡ Some body
  pub is_call : slice_get body.insns position ≡ Some (insn.Invoke kind called args)

-- Each call that names a method that is made static, or may find it, stands in a method that may be rewritten, is plain, and has a
-- receiver that is known as not null.
pub record AreKnown (p : Program) (facts : Facts) (admitted : List Bool) (t : Tables) : Type 0 where
  pub each : (n place at position : ℕ) (m : Method) (kind : InvokeKind) (called : ℕ) (args : List ℕ) (q : MethodName) → is_given t.given n ≡ true → IsCall p place at position m kind called args
      → slice_get p.methods called ≡ Some q → concerns p n place kind called q ≡ true
      → (slice_index_or admitted m.name false ≡ true) × ((is_plain_call p n place kind called q ≡ true) × (has_receiver facts m.name position kind args ≡ true))

-- The code of a method that may not be rewritten stays.
abbrev pub IsUntouched : Program → List Bool → Tables → Type 0
IsUntouched p admitted t = (place at : ℕ) (k : Class) (m : Method) → slice_get p.classes place ≡ Some k → slice_get k.methods at ≡ Some m → slice_index_or admitted m.name false ≡ false → code_loosened p t.given m.body ≡ m.body
