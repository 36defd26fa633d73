-- Bodies in which calls name another method, by number, and facts by number that say what facts by name say.
use Rattle.std.specs.Prelude.{◌≡◌, ◌⊎◌, ℕ, Option, Some, None, slice_get, Contains}
use Rattle.insn_set.specs.declared.form.Insn.{Insn}
use Rattle.program_model.specs.declared.body.Body.{Body}
use Rattle.program_model.specs.declared.program.Class.{Class}
use Rattle.program_model.specs.declared.program.Method.{Method}
use Rattle.program_model.specs.declared.program.MethodAt.{MethodAt}
use Rattle.program_model.specs.declared.program.Program.{Program}
use Rattle.hierarchy.specs.declared.build.Hierarchy.{Hierarchy}
use Rattle.dalvik_defs.specs.Naming.{named_class, named_method}
use Rattle.dalvik_defs.specs.Silence.{key_in}
use Rattle.dalvik_defs.specs.declared.names.MethodKey.{MethodKey}
use Rattle.domains.specs.Datum.{Within}
use Rattle.domains.specs.Values.{Parts, value_holds}
use Rattle.dom_frame.specs.Registers.{value_at}
use Rattle.dom_frame.specs.declared.frames.Frame.{Frame}
use Rattle.facts.specs.Lent.{frame_at}
use Rattle.facts.specs.declared.facts.Facts.{Facts}
use Rattle.pass_defs.specs.Facts as by_name
use Rattle.verify.specs.Methods.{TypesFor}
use Rattle.verify.specs.Typings.{Table}
use Rattle.devirt.specs.Rebound.{IsRebindingOf}

-- ---- bodies

-- At each position stands the instruction that stood there, or a call of the method that its receivers find.
pub record IsReboundBody (p : Program) (facts : Facts) (x : Table) (class method : ℕ) (b d : Body) : Type 0 where
  pub insns : (n : ℕ) (f : Insn) → slice_get b.insns n ≡ Some f → (g : Insn) × (slice_get d.insns n ≡ Some g) × ((g ≡ f) ⊎ IsRebindingOf p facts x class method b n g)
  pub ends : (n : ℕ) → slice_get b.insns n ≡ None → slice_get d.insns n ≡ None
  pub regions : d.regions ≡ b.regions
  pub registers : d.registers ≡ b.registers
  pub ins : d.ins ≡ b.ins

-- the code of a method of the program, the same or such code by the method's typing
pub data ReboundSo (p : Program) (h : Hierarchy) (facts : Facts) (k : MethodKey) : Option Body → Option Body → Type 0 where
  NoCode : ReboundSo p h facts k None None
  Same : (b : Body) → ReboundSo p h facts k (Some b) (Some b)
  Rebound : (at : MethodAt) (c : Class) (m : Method) (b d : Body) → slice_get p.classes at.class ≡ Some c → slice_get c.methods at.place ≡ Some m → m.body ≡ Some b → k ≡ key_in (named_class p c) (named_method p m)
      → (x : Table) → TypesFor p h at x → IsReboundBody p facts x at.class m.name b d → ReboundSo p h facts k (Some b) (Some d)

-- ---- facts

-- what a frame says of registers holds of all that these values hold of
abbrev pub StandsAt : (ℕ → Parts) → Option Frame → Type 0
StandsAt x None = ⊥
StandsAt x (Some frame) = (r : ℕ) → Within value_holds (x r) (value_at frame.registers r)

-- What the facts by number say of registers holds of all that the facts by name hold of.
abbrev pub FramesAreNamed : Program → Facts → by_name.Facts Parts → Type 0
FramesAreNamed p facts t = (class : ℕ) (c : Class) (m : Method) (n : ℕ) (x : ℕ → Parts) → slice_get p.classes class ≡ Some c → Contains c.methods m
    → t.registers (key_in (named_class p c) (named_method p m)) n ≡ Some x → StandsAt x (frame_at facts.frames.items m.name n)
