use Rattle.std.proofs.Common.{◌≡◌, nat_eq, ◌<◌, ◌≤◌, subst, [], length, get_or}
use Rattle.std.specs.Prelude.{◌&&◌, ◌||◌}
use Rattle.keep_rules.specs.Table.{has}
use Rattle.keep_rules.specs.Described.{has_both}
use Rattle.keep_rules.proofs.DescribedLemmas.{all_pairs_more, all_pairs_end}
use Rattle.keep_rules.proofs.describe.pairs_of.Goals as goal

pub loop-class-preserved : goal.loop-class-preserved
loop-class-preserved c = λ ready. let p = c.args.view.now.program.now in
    all_pairs_more p c.args.fields.now c.args.methods.now p.classes c.loop-class.class-index c.class-item.result c.in_ok-kinds.kinds.items [] c.loop-class.pairs.items _ (subst (λ l. c.loop-class.class-index < length l) c.as_slice-class-items.ensures c.loop-class-test.true) (subst (λ l. c.class-item.result ≡ get_or l c.loop-class.class-index c.class-item.result) c.as_slice-class-items.ensures c.class-item.is)
    (c.loop-class.invariant ready) (c.in_ok-kinds.ensures ready) (λ n k. subst (λ l. has_both c.add_pairs.new.pairs.items n k ≡ (has_both c.loop-class.pairs.items n k || (has l n && nat_eq k c.class-item.result.name))) c.as_slice.ensures.value (c.in_ok-add_pairs.ensures n k))

pub returns : goal.returns
returns c = λ ready. let p = c.args.view.now.program.now in all_pairs_end p c.args.fields.now c.args.methods.now p.classes c.loop-class.class-index [] c.loop-class.pairs.items (subst (λ l. length l ≤ c.loop-class.class-index) c.as_slice-class-items.ensures c.loop-class-test.false) (c.loop-class.invariant ready)
