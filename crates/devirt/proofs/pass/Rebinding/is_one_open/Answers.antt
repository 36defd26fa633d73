use Rattle.std.proofs.Common.{◌≡◌, ◌∙◌, Some, ap, sym, take_all}
use Rattle.std.specs.List.{list_any}
use Rattle.std.specs.Prelude.{slice_get}
use Rattle.std.proofs.lemmas.Option.{slice_get-get_or}
use Rattle.lemmas.proofs.Lists.{any_at}
use Rattle.devirt.specs.Rebound.{is_open}
use Rattle.devirt.proofs.Recalled.{none_next}
use Rattle.devirt.proofs.pass.Rebinding.is_one_open.Goals as goal

pub loop-insn-preserved : goal.loop-insn-preserved
loop-insn-preserved c = λ b.
    let p = c.args.self.now.binder.finder.program.now in
    let i = c.insn-item.result in
    none_next (is_open p) c.args.insns.now c.loop-insn.insn-index i c.loop-insn-test.true c.insn-item.is (c.loop-insn.invariant b) (sym (c.is_open.ensures b) ∙ c.if-is_open.false)

pub returns-then-is_open : goal.returns-then-is_open
returns-then-is_open c = λ b.
    let p = c.args.self.now.binder.finder.program.now in
    let xs = c.args.insns.now in
    let n = c.loop-insn.insn-index in
    let i = c.insn-item.result in
    let there : slice_get xs n ≡ Some i = slice_get-get_or xs n i c.loop-insn-test.true ∙ ap (λ y. Some y) (sym c.insn-item.is) in
    sym (any_at (is_open p) xs n i there (sym (c.is_open.ensures b) ∙ c.if-is_open.true))

pub returns : goal.returns
returns c = λ b.
    let p = c.args.self.now.binder.finder.program.now in
    sym (ap (list_any (is_open p)) (sym (take_all c.loop-insn.insn-index c.args.insns.now c.loop-insn-test.false)) ∙ c.loop-insn.invariant b)
