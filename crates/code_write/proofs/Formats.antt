-- The format of every form but a string's.
use Rattle.std.proofs.Common.{◌≡◌, ℕ, refl, pos, ◌-ℤ◌}
use Rattle.insn_set.specs.Spelling.{shortest}
use Rattle.insn_set.specs.declared.form.Insn.{Insn}
use Rattle.insn_set.specs.declared.form.Insn.TheVariants.{ConstString, Nop, Move, MoveResult, MoveException, ReturnVoid, Return, Const, ConstWide, ConstClass, MonitorEnter, MonitorExit, CheckCast, InstanceOf, ArrayLength, NewInstance, NewArray, FilledNewArray, FillArray, Throw, Goto, PackedSwitch, SparseSwitch, Cmp, If, IfZero, ArrayGet, ArrayPut, InstanceGet, InstancePut, StaticGet, StaticPut, Invoke, Unary, Binary, Literal}
use Rattle.program_model.specs.declared.pass.Renumber.{Renumber}
use Rattle.code_write.specs.Code.{format_of}

pub other_format : (numbers : Renumber) (from to : ℕ) (insn : Insn) → ((r s : ℕ) → insn ≡ ConstString r s → ⊥) → shortest insn (pos to -ℤ pos from) ≡ format_of numbers from to insn
other_format numbers from to (ConstString r s) h = absurd (h r s refl)
other_format numbers from to Nop h = refl
other_format numbers from to (Move x0 x1 x2) h = refl
other_format numbers from to (MoveResult x0 x1) h = refl
other_format numbers from to (MoveException x0) h = refl
other_format numbers from to ReturnVoid h = refl
other_format numbers from to (Return x0 x1) h = refl
other_format numbers from to (Const x0 x1) h = refl
other_format numbers from to (ConstWide x0 x1) h = refl
other_format numbers from to (ConstClass x0 x1) h = refl
other_format numbers from to (MonitorEnter x0) h = refl
other_format numbers from to (MonitorExit x0) h = refl
other_format numbers from to (CheckCast x0 x1) h = refl
other_format numbers from to (InstanceOf x0 x1 x2) h = refl
other_format numbers from to (ArrayLength x0 x1) h = refl
other_format numbers from to (NewInstance x0 x1) h = refl
other_format numbers from to (NewArray x0 x1 x2) h = refl
other_format numbers from to (FilledNewArray x0 x1) h = refl
other_format numbers from to (FillArray x0 x1 x2) h = refl
other_format numbers from to (Throw x0) h = refl
other_format numbers from to (Goto x0) h = refl
other_format numbers from to (PackedSwitch x0 x1 x2) h = refl
other_format numbers from to (SparseSwitch x0 x1 x2) h = refl
other_format numbers from to (Cmp x0 x1 x2 x3) h = refl
other_format numbers from to (If x0 x1 x2 x3) h = refl
other_format numbers from to (IfZero x0 x1 x2) h = refl
other_format numbers from to (ArrayGet x0 x1 x2 x3) h = refl
other_format numbers from to (ArrayPut x0 x1 x2 x3) h = refl
other_format numbers from to (InstanceGet x0 x1 x2 x3) h = refl
other_format numbers from to (InstancePut x0 x1 x2 x3) h = refl
other_format numbers from to (StaticGet x0 x1 x2) h = refl
other_format numbers from to (StaticPut x0 x1 x2) h = refl
other_format numbers from to (Invoke x0 x1 x2) h = refl
other_format numbers from to (Unary x0 x1 x2) h = refl
other_format numbers from to (Binary x0 x1 x2 x3) h = refl
other_format numbers from to (Literal x0 x1 x2 x3) h = refl
