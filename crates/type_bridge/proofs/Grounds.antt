-- What the code of a method is judged by, by number and by name.
use Rattle.std.proofs.Common.{◌≡◌, ℕ, ◌<◌, true, List, Some, length, sym, ap, ◌∙◌, subst}
use Rattle.std.specs.Prelude.{◌&&◌, not, slice_get}
use Rattle.class_defs.proofs.WellFormed.{below}
use Rattle.hierarchy.specs.Shapes.{IsResolved}
use Rattle.insn_set.specs.declared.form.Insn.TheVariants as insn
use Rattle.insn_set.specs.declared.ops.InvokeKind.{InvokeKind}
use Rattle.insn_set.specs.declared.ops.Item.{Item}
use Rattle.program_model.specs.MemberRules.{has_flag}
use Rattle.program_model.specs.OperandRules.{numbers_fit}
use Rattle.program_model.specs.declared.program.Class.{Class}
use Rattle.program_model.specs.declared.program.Method.{Method}
use Rattle.program_model.specs.declared.program.Program.{Program}
use Rattle.dalvik_defs.specs.Naming.{type_at, method_at, named_method}
use Rattle.name_bridge.proofs.Flags.{static_flag}
use Rattle.pass_defs.specs.Typed as typed
use Rattle.pass_defs.specs.Demands as asked
use Rattle.verify.specs.declared.setting.Setting.{Setting}
use Rattle.verify.specs.Methods.{constructs}
use Rattle.verify.specs.Names.{result_of}
use Rattle.type_bridge.proofs.Told.{Told}
use Rattle.type_bridge.proofs.Members.{MethodIs, constructor_is, result_is, result_below}

pub record IsSet (s : Setting) (c : Class) (m : Method) : Type 0 where
  pub told : Told s.program.now s.tables.now
  pub resolved : IsResolved s.program.now s.hierarchy.now
  pub class : slice_get s.program.now.classes s.class ≡ Some c
  pub kind : s.kind ≡ c.name
  pub superclass : s.superclass ≡ c.superclass
  pub result : s.result ≡ result_of s.program.now m.name
  pub begins : s.constructs ≡ constructs s.tables.now m
  pub name : MethodIs s.program.now s.tables.now told m.name

-- what an instruction names is in its table

pub type_fits_class : (p : Program) (to kind : ℕ) → numbers_fit (insn.NewInstance to kind) p ≡ true → kind < length p.types
unfolding numbers_fit
type_fits_class p to kind h = below kind (length p.types) h

pub filled_type_fits : (p : Program) (kind : ℕ) (args : List ℕ) → numbers_fit (insn.FilledNewArray kind args) p ≡ true → kind < length p.types
unfolding numbers_fit
filled_type_fits p kind args h = below kind (length p.types) h

pub get_fits : (p : Program) (i : Item) (to on field : ℕ) → numbers_fit (insn.InstanceGet i to on field) p ≡ true → field < length p.fields
unfolding numbers_fit
get_fits p i to on field h = below field (length p.fields) h

pub put_fits : (p : Program) (i : Item) (from on field : ℕ) → numbers_fit (insn.InstancePut i from on field) p ≡ true → field < length p.fields
unfolding numbers_fit
put_fits p i from on field h = below field (length p.fields) h

pub static_get_fits : (p : Program) (i : Item) (to field : ℕ) → numbers_fit (insn.StaticGet i to field) p ≡ true → field < length p.fields
unfolding numbers_fit
static_get_fits p i to field h = below field (length p.fields) h

pub static_put_fits : (p : Program) (i : Item) (from field : ℕ) → numbers_fit (insn.StaticPut i from field) p ≡ true → field < length p.fields
unfolding numbers_fit
static_put_fits p i from field h = below field (length p.fields) h

pub invoke_fits : (p : Program) (k : InvokeKind) (m : ℕ) (args : List ℕ) → numbers_fit (insn.Invoke k m args) p ≡ true → m < length p.methods
unfolding numbers_fit
invoke_fits p k m args h = below m (length p.methods) h

module _ (s : Setting) (c : Class) (m : Method) (i : IsSet s c m) where
  pub constructs_is : s.constructs ≡ typed.is_constructor (named_method s.program.now m)
  constructs_is =
      i.begins
      ∙ ap (λ b. b && not (has_flag m.flags 8)) (constructor_is s.program.now s.tables.now i.told m.name i.name)
      ∙ ap (λ b. asked.is_constructor_name (method_at s.program.now m.name).name && not b) (static_flag m.flags)

  pub result_named : type_at s.program.now s.result ≡ (method_at s.program.now m.name).signature.result
  result_named = ap (type_at s.program.now) i.result ∙ result_is s.program.now s.tables.now i.told m.name i.name

  pub result_small : s.result < length s.program.now.types
  result_small = subst (λ k. k < length s.program.now.types) (sym i.result) (result_below s.program.now s.tables.now i.told m.name i.name)
