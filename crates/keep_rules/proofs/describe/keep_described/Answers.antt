use Rattle.std.proofs.Common.{◌≡◌, ◌<◌, ◌≤◌, subst, length, get_or}
use Rattle.std.specs.List.{list_any}
use Rattle.program_model.specs.declared.program.Class.{Class}
use Rattle.keep_rules.specs.Table.{has}
use Rattle.keep_rules.specs.Grown.{Grew}
use Rattle.keep_rules.specs.Described.{class_names}
use Rattle.keep_rules.proofs.GrownLemmas.{left_start}
use Rattle.keep_rules.proofs.DescribedLemmas.{described_more, described_end}
use Rattle.keep_rules.proofs.describe.keep_described.Goals as goal

pub loop-class-init : goal.loop-class-init
loop-class-init c = λ ready size. let p = c.args.view.now.program.now in left_start (λ n. list_any (λ (d : Class). class_names p c.args.fields.now c.args.methods.now d n) p.classes) c.args.classes.now.items

pub loop-class-preserved : goal.loop-class-preserved
loop-class-preserved c = λ ready size. let p = c.args.view.now.program.now in
    described_more p c.args.fields.now c.args.methods.now p.classes c.loop-class.class-index c.class-item.result c.in_ok-kinds.kinds.items c.args.classes.now.items c.loop-class.classes.items _ size (subst (λ l. c.loop-class.class-index < length l) c.as_slice-class-items.ensures c.loop-class-test.true) (subst (λ l. c.class-item.result ≡ get_or l c.loop-class.class-index c.class-item.result) c.as_slice-class-items.ensures c.class-item.is)
    (c.loop-class.invariant ready size) (c.in_ok-kinds.ensures ready) (subst (λ l. Grew (has l) c.loop-class.classes.items c.mark_each.new.marks.items) c.as_slice.ensures.value c.mark_each.ensures)

pub returns : goal.returns
returns c = λ ready size. let p = c.args.view.now.program.now in described_end p c.args.fields.now c.args.methods.now p.classes c.loop-class.class-index c.args.classes.now.items c.loop-class.classes.items (subst (λ l. length l ≤ c.loop-class.class-index) c.as_slice-class-items.ensures c.loop-class-test.false) (c.loop-class.invariant ready size)
