use Rattle.std.proofs.Common.{◌≡◌, ◌<◌, ◌+◌, if◌then◌else◌, length, rules}
use Rattle.std.proofs.lemmas.Result.{err_from_is_err_and}
use Rattle.if_text.specs.Faults.{HaltsItem, begins_item}
use Rattle.if_text.specs.Steps.{AddsItem}
use Rattle.if_text.proofs.Items.{counts_more, halted_item, reads_few}
use Rattle.if_text.proofs.read.read_items.Goals as goal

pub loop-at-preserved : goal.loop-at-preserved
loop-at-preserved c =
    let counts : c.in_ok-more.more ≡ c.loop-at.count + (if begins_item c.word_at.result.now then 1 else 0) = search rules in
    let adds : AddsItem c.args.tokens.now c.args.hidden.now c.loop-at.at c.read_item.new.at c.loop-at.rules c.read_item.new.rules = search rules in (
      search rules,
      search rules,
      counts_more c.args.tokens.now c.args.hidden.now c.loop-at.at c.read_item.new.at c.loop-at.count c.in_ok-more.more c.loop-at.rules c.read_item.new.rules c.word_at.result.now c.loop-at.invariant.2 c.word_at.ensures counts adds,
    )

pub returns-clause-step : goal.returns-clause-step
returns-clause-step c = reads_few c.args.tokens.now c.args.hidden.now c.loop-at.at c.loop-at.count c.loop-at.rules c.loop-at.invariant.2 (search rules) c.loop-at.invariant.0 c.loop-at.invariant.1

pub returns-in_err-read_item-clause-halt : goal.returns-in_err-read_item-clause-halt
returns-in_err-read_item-clause-halt c =
    let inside : c.loop-at.at < length c.args.tokens.now = search rules in
    let halts : HaltsItem c.args.tokens.now c.args.hidden.now c.loop-at.at c.read_item.new.at c.in_err-read_item.field-0.0 = c.in_err-read_item.ensures.halt in
    let counts : c.in_ok-more.more ≡ c.loop-at.count + (if begins_item c.word_at.result.now then 1 else 0) = search rules in
    let h = halted_item c.args.tokens.now c.args.hidden.now c.loop-at.at c.read_item.new.at c.loop-at.count c.in_ok-more.more c.loop-at.rules c.word_at.result.now c.in_err-read_item.field-0.0 c.loop-at.invariant.2 c.loop-at.invariant.1 inside
    c.word_at.ensures counts (search rules) halts in
    let p = err_from_is_err_and c.from_residual-in_err-read_item.result c.from_residual-in_err-read_item.ensures.1 in
    rw (p.1, p.2) h
