-- What a call finds by the method number that it names.
use Rattle.std.specs.Prelude.{◌≡◌, ℕ, true, Option, Some, None}
use Rattle.class_defs.specs.Finding.{Search, finds_static, finds_super}
use Rattle.class_defs.specs.Finding as look
use Rattle.insn_set.specs.declared.ops.InvokeKind.{InvokeKind}
use Rattle.insn_set.specs.declared.ops.InvokeKind.TheVariants as call
use Rattle.program_model.specs.declared.program.MethodAt.{MethodAt}
use Rattle.program_model.specs.declared.program.Program.{Program}
use Rattle.program_model.specs.ProgramRules.{is_well_formed}
use Rattle.call_targets.specs.declared.bound.Target.{Target}
use Rattle.call_targets.specs.declared.bound.Target.TheVariants as target

abbrev pub target_of : Option MethodAt → Target
target_of None = target.Nothing
target_of (Some at) = target.One at

-- the answer to a look-up
abbrev pub target_found : Search → Target
target_found look.Nothing = target.Nothing
target_found look.Clash = target.Clash
target_found (look.Finds at) = target.One at

-- A static or direct call in the class at a place finds what its number does, a super call of a well-formed program what stands above
-- that class or what an interface gives, and a virtual or interface call nothing by its name alone.
abbrev pub BindsTo : Program → ℕ → InvokeKind → ℕ → Target → Type 0
BindsTo p caller call.Static method t = t ≡ target_of (finds_static p method)
BindsTo p caller call.Direct method t = t ≡ target_of (finds_static p method)
BindsTo p caller call.Super method t = is_well_formed p ≡ true → t ≡ target_found (finds_super p caller method)
BindsTo p caller call.Virtual method t = t ≡ target.Nothing
BindsTo p caller call.Interface method t = t ≡ target.Nothing
