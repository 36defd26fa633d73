-- Where an instruction makes an array, by numbers and by names.
use Rattle.std.proofs.Common.{ℕ, subst, ◌∙◌, ap}
use Rattle.std.specs.Option.{option_map}
use Rattle.insn_set.specs.declared.form.Insn.{Insn}
use Rattle.insn_set.specs.declared.form.Insn.TheVariants as insn
use Rattle.program_model.specs.declared.program.Program.{Program}
use Rattle.dalvik_defs.specs.Naming.{form_of}
use Rattle.dalvik_defs.specs.Stack.{form_at}
use Rattle.dalvik_lookups.specs.Tables.{IsRight}
use Rattle.dalvik_lookups.specs.declared.lookups.Lookups.{Lookups}
use Rattle.dalvik_state.specs.Runs.{bodies_in}
use Rattle.dalvik_state.specs.States.{IsSoundFrame}
use Rattle.dalvik_state.specs.Views.{frame_of, names_in}
use Rattle.dalvik_state.specs.declared.frame.Frame.{Frame}
use Rattle.dalvik_state.proofs.Bodies.{frame_form}
use Rattle.dalvik_act.specs.Acted.{NamesArray}
use Rattle.dalvik_model.specs.Doing.{NamesNext}
use Rattle.array_law.specs.Making.{NamesArrayOf, NamesMaybe}

arrays_of : (p : Program) (x : Insn) → NamesArrayOf (form_of p x) → NamesArray p x
arrays_of p insn.Nop h = h
arrays_of p (insn.Move slot to from) h = h
arrays_of p (insn.MoveResult slot to) h = h
arrays_of p (insn.MoveException to) h = h
arrays_of p insn.ReturnVoid h = h
arrays_of p (insn.Return slot from) h = h
arrays_of p (insn.Const to value) h = h
arrays_of p (insn.ConstWide to value) h = h
arrays_of p (insn.ConstString to string) h = h
arrays_of p (insn.ConstClass to kind) h = h
arrays_of p (insn.MonitorEnter on) h = h
arrays_of p (insn.MonitorExit on) h = h
arrays_of p (insn.CheckCast on kind) h = h
arrays_of p (insn.InstanceOf to from kind) h = h
arrays_of p (insn.ArrayLength to from) h = h
arrays_of p (insn.NewInstance to kind) h = h
arrays_of p (insn.NewArray to size kind) h = h
arrays_of p (insn.FilledNewArray kind args) h = h
arrays_of p (insn.FillArray on width items) h = h
arrays_of p (insn.Throw on) h = h
arrays_of p (insn.Goto target) h = h
arrays_of p (insn.PackedSwitch on first targets) h = h
arrays_of p (insn.SparseSwitch on keys targets) h = h
arrays_of p (insn.Cmp op to a b) h = h
arrays_of p (insn.If test a b target) h = h
arrays_of p (insn.IfZero test a target) h = h
arrays_of p (insn.ArrayGet item to array index) h = h
arrays_of p (insn.ArrayPut item from array index) h = h
arrays_of p (insn.InstanceGet item to on field) h = h
arrays_of p (insn.InstancePut item from on field) h = h
arrays_of p (insn.StaticGet item to field) h = h
arrays_of p (insn.StaticPut item from field) h = h
arrays_of p (insn.Invoke kind method args) h = h
arrays_of p (insn.Unary op to from) h = h
arrays_of p (insn.Binary op to a b) h = h
arrays_of p (insn.Literal op to a value) h = h

pub names_next : (l : Lookups) → IsRight l → (size : ℕ) (f : Frame) → IsSoundFrame l size f → NamesMaybe (form_at (bodies_in l) (frame_of (names_in l) f)) → NamesNext l.program.now f
names_next l r size f sound h = record {
  next = λ x e. arrays_of l.program.now x (subst NamesMaybe (frame_form l r size f sound ∙ ap (option_map (form_of l.program.now)) e) h);
}
