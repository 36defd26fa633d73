-- The numbers of code as values of their types.
use Rattle.std.specs.Prelude.{◌<◌, ◌^◌, ℕ, List, Option, Some, None, FitsSigned}
use Rattle.std.specs.Int.{w16, w32, w64}
use Rattle.std.specs.List.{AllByRecursion}
use Rattle.insn_set.specs.declared.form.Insn.{Insn}
use Rattle.insn_set.specs.declared.form.Insn.TheVariants.{Move, Const, ConstWide, FilledNewArray, FillArray, PackedSwitch, SparseSwitch, Invoke, Literal}
use Rattle.program_model.specs.declared.body.Body.{Body}

abbrev pub InWidth : Insn → Type 0
InWidth (Move slot to from) = (to < 65536) × (from < 65536)
InWidth (Const to value) = FitsSigned w32 value
InWidth (ConstWide to value) = FitsSigned w64 value
InWidth (FilledNewArray kind args) = AllByRecursion (λ a. a < 65536) args
InWidth (FillArray on width items) = AllByRecursion (λ n. n < 2 ^ 64) items
InWidth (PackedSwitch on first targets) = FitsSigned w32 first
InWidth (SparseSwitch on keys targets) = AllByRecursion (FitsSigned w32) keys
InWidth (Invoke kind method args) = AllByRecursion (λ a. a < 65536) args
InWidth (Literal op to a value) = FitsSigned w16 value
InWidth insn = Unit {0}

pub record WideBody (b : Body) : Type 0 where
  pub registers : b.registers < 65536
  pub ins : b.ins < 65536
  pub insns : AllByRecursion InWidth b.insns

abbrev pub WideCode : Option Body → Type 0
WideCode None = Unit {0}
WideCode (Some b) = WideBody b
