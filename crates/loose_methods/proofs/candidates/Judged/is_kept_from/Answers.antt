use Rattle.std.proofs.Common.{sym, ◌∙◌, slice_index}
use Rattle.std.specs.Prelude.{◌&&◌}
use Rattle.std.specs.List.{list_any}
use Rattle.class_defs.specs.Places.{is_under}
use Rattle.receivers.proofs.Loops.{any_here, at_index, none_done, none_more}
use Rattle.loose_methods.specs.Marking.{keeps_from}
use Rattle.loose_methods.proofs.candidates.Judged.is_kept_from.Goals as goal

pub loop-definer-preserved : goal.loop-definer-preserved
loop-definer-preserved c = λ q j k under short.
    let p = c.args.self.now.program.now in
    let i = c.loop-definer.definer-index in
    let xs = c.args.definers.now in
    none_more (λ u. keeps_from p q c.args.place.now.class u && list_any (λ d. is_under p d u) c.args.place.now.under.now) xs i c.loop-definer-test.true (c.loop-definer.invariant q j k under short)
    (sym (c.is_kept_by.ensures q j k under (short i (slice_index xs i) (at_index xs i c.loop-definer-test.true))) ∙ c.if-is_kept_by.false)

pub returns-then-is_kept_by : goal.returns-then-is_kept_by
returns-then-is_kept_by c = λ q j k under short.
    let p = c.args.self.now.program.now in
    let i = c.loop-definer.definer-index in
    let xs = c.args.definers.now in
    sym (any_here (λ u. keeps_from p q c.args.place.now.class u && list_any (λ d. is_under p d u) c.args.place.now.under.now) xs i c.loop-definer-test.true
    (sym (c.is_kept_by.ensures q j k under (short i (slice_index xs i) (at_index xs i c.loop-definer-test.true))) ∙ c.if-is_kept_by.true))

pub returns : goal.returns
returns c = λ q j k under short.
    let p = c.args.self.now.program.now in
    sym (none_done (λ u. keeps_from p q c.args.place.now.class u && list_any (λ d. is_under p d u) c.args.place.now.under.now) c.args.definers.now c.loop-definer.definer-index c.loop-definer-test.false (c.loop-definer.invariant q j k under short))
