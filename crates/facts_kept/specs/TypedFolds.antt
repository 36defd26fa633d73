-- Bodies of which forms are folded by facts and by the kinds of a typing.
use Rattle.std.specs.Prelude.{◌≡◌, ◌⊎◌, ℕ, Bool, true, Option, Some, None, slice_get}
use Rattle.std.specs.Option.{option_map}
use Rattle.insn_set.specs.declared.form.Insn.{Insn}
use Rattle.program_model.specs.declared.body.Body.{Body}
use Rattle.program_model.specs.declared.program.Class.{Class}
use Rattle.program_model.specs.declared.program.Method.{Method}
use Rattle.program_model.specs.declared.program.MethodAt.{MethodAt}
use Rattle.program_model.specs.declared.program.Program.{Program}
use Rattle.hierarchy.specs.declared.build.Hierarchy.{Hierarchy}
use Rattle.dalvik_defs.specs.Naming.{body_of, named_class, named_method}
use Rattle.dalvik_defs.specs.Silence.{key_in}
use Rattle.dalvik_defs.specs.declared.names.MethodKey.{MethodKey}
use Rattle.dalvik_defs.specs.declared.program.NamedBody.{NamedBody}
use Rattle.facts.specs.declared.facts.Facts.{Facts}
use Rattle.verify.specs.Typings.{Table}
use Rattle.const_prop.specs.Allowed.{IsFoldOf}
use Rattle.const_prop.specs.Folds.{IsJudged}
use Rattle.const_prop.specs.Kinds.{is_narrow_move}
use Rattle.premises.specs.Numbers.{HasWords}

-- At each position stands the form that stood there, or one that the facts and the kinds allow, the typing being asked about moves of
-- one register.
pub record IsFoldedSo (p : Program) (facts : Facts) (table : Option Table) (asks : Bool) (class method : ℕ) (b d : Body) : Type 0 where
  pub insns : (n : ℕ) (f : Insn) → slice_get b.insns n ≡ Some f
      → (g : Insn) × (slice_get d.insns n ≡ Some g) × ((g ≡ f) ⊎ (IsFoldOf p facts table class method b n g × (is_narrow_move f ≡ true → asks ≡ true)))
  pub ends : (n : ℕ) → slice_get b.insns n ≡ None → slice_get d.insns n ≡ None
  pub regions : d.regions ≡ b.regions
  pub registers : d.registers ≡ b.registers
  pub ins : d.ins ≡ b.ins

-- the code of a method of the program, the same or folded
pub data FoldsSo (p : Program) (h : Hierarchy) (facts : Facts) (k : MethodKey) : Option Body → Option Body → Type 0 where
  NoCode : FoldsSo p h facts k None None
  Same : (b : Body) → FoldsSo p h facts k (Some b) (Some b)
  Folded : (at : MethodAt) (c : Class) (m : Method) (b d : Body) → slice_get p.classes at.class ≡ Some c → slice_get c.methods at.place ≡ Some m → m.body ≡ Some b → k ≡ key_in (named_class p c) (named_method p m)
      → (table : Option Table) (asks : Bool) → (asks ≡ true → IsJudged p h at table) → IsFoldedSo p facts table asks at.class m.name b d → FoldsSo p h facts k (Some b) (Some d)

-- the numbers of a body have their bits
abbrev pub CodeHasWords : Option Body → Type 0
CodeHasWords None = Unit {0}
CodeHasWords (Some d) = (n : ℕ) (g : Insn) → slice_get d.insns n ≡ Some g → HasWords g

-- by name, with numbers that have their bits
pub record FoldsNamedSo (p : Program) (h : Hierarchy) (facts : Facts) (k : MethodKey) (x y : Option NamedBody) : Type 0 where
  pub before : Option Body
  pub behind : Option Body
  pub old : x ≡ option_map (body_of p) before
  pub new : y ≡ option_map (body_of p) behind
  pub folds : FoldsSo p h facts k before behind
  pub words : CodeHasWords behind
