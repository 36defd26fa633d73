use Rattle.std.proofs.Common.{subst, sym}
use Rattle.insn_set.specs.declared.ops.InvokeKind.TheVariants as call
use Rattle.loose_methods.specs.Sifting.{Sifts, allows_so}
use Rattle.loose_methods.proofs.calls.Sifter.judge_named.Goals as goal

pub returns-in-Static : goal.returns-in-Static
returns-in-Static c = λ o j e s still.
    let p = c.args.self.now.judged.program.now in
    let asked = c.args.call.now in
    let q = c.args.name.now in
    subst (λ k. Sifts p o (allows_so p asked.caller k asked.called q asked.safe) c.args.marks.now c.judge_static.new.marks) (sym c.in-Static.is)
    (subst (λ b. Sifts p o (allows_so p asked.caller call.Static asked.called q b) c.args.marks.now c.judge_static.new.marks) (sym (still c.in-Static.is)) (c.judge_static.ensures o q asked.caller j e s))

pub returns-in-Direct : goal.returns-in-Direct
returns-in-Direct c = λ o j e s still.
    let p = c.args.self.now.judged.program.now in
    let asked = c.args.call.now in
    let q = c.args.name.now in
    subst (λ k. Sifts p o (allows_so p asked.caller k asked.called q asked.safe) c.args.marks.now c.judge_found.new.marks) (sym c.in-Direct.is) (c.judge_found.ensures.direct o q j e s (c.found_static.ensures j))

pub returns-in_ok-judge_super-in-Super : goal.returns-in_ok-judge_super-in-Super
returns-in_ok-judge_super-in-Super c = λ o j e s still.
    let p = c.args.self.now.judged.program.now in
    let asked = c.args.call.now in
    let q = c.args.name.now in
    subst (λ k. Sifts p o (allows_so p asked.caller k asked.called q asked.safe) c.args.marks.now c.judge_super.new.marks) (sym c.in-Super.is) (c.in_ok-judge_super-in-Super.ensures o q j e s)

pub returns-in_ok-judge_virtual-in-Virtual : goal.returns-in_ok-judge_virtual-in-Virtual
returns-in_ok-judge_virtual-in-Virtual c = λ o j e s still.
    let p = c.args.self.now.judged.program.now in
    let asked = c.args.call.now in
    let q = c.args.name.now in
    subst (λ k. Sifts p o (allows_so p asked.caller k asked.called q asked.safe) c.args.marks.now c.judge_virtual.new.marks) (sym c.in-Virtual.is) (c.in_ok-judge_virtual-in-Virtual.ensures o j e s)

pub returns-in_ok-judge_interface-in-Interface : goal.returns-in_ok-judge_interface-in-Interface
returns-in_ok-judge_interface-in-Interface c = λ o j e s still.
    let p = c.args.self.now.judged.program.now in
    let asked = c.args.call.now in
    let q = c.args.name.now in
    subst (λ k. Sifts p o (allows_so p asked.caller k asked.called q asked.safe) c.args.marks.now c.judge_interface.new.marks) (sym c.in-Interface.is) (c.in_ok-judge_interface-in-Interface.ensures o j e s)
