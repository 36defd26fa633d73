-- Bodies of which forms are folded by facts, and facts by number that say what facts by name say.
use Rattle.std.specs.Prelude.{◌≡◌, ◌⊎◌, ℕ, ◌+◌, List, Option, Some, None, slice_get, Contains}
use Rattle.std.specs.Option.{option_map}
use Rattle.insn_set.specs.declared.form.Insn.{Insn}
use Rattle.insn_set.specs.declared.form.Insn.TheVariants as insn
use Rattle.insn_set.specs.declared.ops.Slot.{Slot}
use Rattle.program_model.specs.declared.body.Body.{Body}
use Rattle.program_model.specs.declared.program.Class.{Class}
use Rattle.program_model.specs.declared.program.Method.{Method}
use Rattle.program_model.specs.declared.program.Program.{Program}
use Rattle.dalvik_defs.specs.Find.{finds_field}
use Rattle.dalvik_defs.specs.Naming.{named, named_class, named_method, body_of, form_of, field_at}
use Rattle.dalvik_defs.specs.Names.{Text}
use Rattle.dalvik_defs.specs.Outer.{Outer}
use Rattle.dalvik_defs.specs.Silence.{key_in}
use Rattle.dalvik_defs.specs.declared.names.MethodKey.{MethodKey}
use Rattle.dalvik_defs.specs.declared.program.NamedBody.{NamedBody}
use Rattle.dalvik_defs.specs.declared.program.NamedField.{NamedField}
use Rattle.domains.specs.Datum.{Within}
use Rattle.domains.specs.Values.{Parts, value_holds}
use Rattle.dom_frame.specs.Registers.{value_at}
use Rattle.dom_frame.specs.declared.frames.Frame.{Frame}
use Rattle.facts.specs.Lent.{frame_at}
use Rattle.facts.specs.declared.facts.Facts.{Facts}
use Rattle.pass_defs.specs.Facts as by_name
use Rattle.pass_defs.specs.Facts.{own_key}
use Rattle.run_facts.specs.Closed.{Results}
use Rattle.run_facts.specs.ValueAnalysis.{value_analysis}
use Rattle.cover_law.specs.Operators.{operators}
use Rattle.const_prop.specs.Given.{behind}
use Rattle.const_prop.specs.Known.{field_value}
use Rattle.const_prop.specs.Allowed.{IsAllowed, insn_before}
use Rattle.const_prop.specs.Given as by_number

-- ---- bodies

-- At each position stands the form that stood there, or one that the facts allow in its place.
pub record IsFoldedBody (p : Program) (facts : Facts) (class method : ℕ) (b d : Body) : Type 0 where
  pub insns : (n : ℕ) (f : Insn) → slice_get b.insns n ≡ Some f
      → (g : Insn) × (slice_get d.insns n ≡ Some g) × ((g ≡ f) ⊎ IsAllowed p (by_number.given p facts class (insn_before b.insns n) f) (frame_at facts.frames.items method n) n f g)
  pub ends : (n : ℕ) → slice_get b.insns n ≡ None → slice_get d.insns n ≡ None
  pub regions : d.regions ≡ b.regions
  pub registers : d.registers ≡ b.registers
  pub ins : d.ins ≡ b.ins

-- the code of a method of the program, the same or folded
pub data FoldsCode (p : Program) (facts : Facts) (k : MethodKey) : Option Body → Option Body → Type 0 where
  NoCode : FoldsCode p facts k None None
  Same : (b : Body) → FoldsCode p facts k (Some b) (Some b)
  Folded : (class : ℕ) (c : Class) (m : Method) (b d : Body) → slice_get p.classes class ≡ Some c → Contains c.methods m → m.body ≡ Some b → k ≡ key_in (named_class p c) (named_method p m)
      → IsFoldedBody p facts class m.name b d → FoldsCode p facts k (Some b) (Some d)

-- by name
pub record FoldsNamed (p : Program) (facts : Facts) (k : MethodKey) (x y : Option NamedBody) : Type 0 where
  pub before : Option Body
  pub behind : Option Body
  pub old : x ≡ option_map (body_of p) before
  pub new : y ≡ option_map (body_of p) behind
  pub folds : FoldsCode p facts k before behind

-- ---- facts

-- what a frame says of registers holds of all that these values hold of
abbrev pub StandsAt : (ℕ → Parts) → Option Frame → Type 0
StandsAt x None = ⊥
StandsAt x (Some frame) = (r : ℕ) → Within value_holds (x r) (value_at frame.registers r)

-- What the facts by number say of registers, fields and results holds of all that the facts by name hold of.
pub record AreNamed (p : Program) (o : Outer) (facts : Facts) (t : by_name.Facts Parts) : Type 0 where
  pub frames : (class : ℕ) (c : Class) (m : Method) (n : ℕ) (x : ℕ → Parts) → slice_get p.classes class ≡ Some c → Contains c.methods m
      → t.registers (key_in (named_class p c) (named_method p m)) n ≡ Some x → StandsAt x (frame_at facts.frames.items m.name n)
  pub fields : (field : ℕ) (r : Text × NamedField) → finds_field (named p) (field_at p field) ≡ Some r → Within value_holds (t.fields (own_key (field_at p field) r)) (field_value p facts field)
  pub results : (class : ℕ) (c : Class) (m : Method) (b : Body) (n : ℕ) (i : Insn) (x : ℕ → Parts) (v : Parts) → slice_get p.classes class ≡ Some c → Contains c.methods m → m.body ≡ Some b → slice_get b.insns n ≡ Some i
      → t.registers (key_in (named_class p c) (named_method p m)) n ≡ Some x
      → Results (value_analysis (named p) operators) (named p) o t (key_in (named_class p c) (named_method p m)) x (form_of p i) v → Within value_holds v (behind p facts class (Some i))
