use Rattle.std.proofs.Common.{◌≡◌, length, sym, ap, ◌∙◌, arith, rules}
use Rattle.std.proofs.lemmas.List.{take_rest}
use Rattle.line_tables.proofs.Walking.{walk_starts, walk_breaks, walk_over, walk_goes, walk_done, walk_enters, walk_ends}
use Rattle.line_tables.proofs.read.walk.Goals.{in-GoesTo, in-EntersAt+in_ok-repeat-in-EntersAt+else-len-starts}
use Rattle.line_tables.proofs.read.walk.Goals as goal

pub loop-done-init : goal.loop-done-init
loop-done-init c = rw c.in_ok-lines.ensures.items (walk_starts c.args.bytes.now c.args.starts.now c.args.most c.args.first c.requires.address_low c.requires.line_low)

pub returns-in-Breaks : goal.returns-in-Breaks
returns-in-Breaks c =
    c.unreadable.ensures ∙ rw (c.from.ensures, c.one_more.ensures) (walk_breaks c.args.bytes.now c.args.starts.now c.args.most _ c.loop-done.done c.loop-done.lines.items c.loop-done.line c.loop-done.spot c.loop-done.invariant c.loop-done-test.true c.in-Breaks.ensures.gives)

pub returns-in-IsOver : goal.returns-in-IsOver
returns-in-IsOver c =
    let size : c.len.result ≡ length c.loop-done.lines.items = search rules in
    c.readable.ensures
    ∙ rw (c.from-in-IsOver.ensures, c.in_ok-repeat-in-IsOver.ensures.ok, size) (walk_over c.args.bytes.now c.args.starts.now c.args.most _ c.loop-done.done c.loop-done.lines.items c.loop-done.line c.loop-done.spot c.loop-done.invariant c.loop-done-test.true c.in-IsOver.ensures.gives)

pub returns-then-len-starts : goal.returns-then-len-starts
returns-then-len-starts c =
    let size : c.len-in-EntersAt.result ≡ length c.loop-done.lines.items = search rules in
    let count = rw (size, take_rest c.args.starts.now (length c.loop-done.lines.items)) at c.count_below-count.ensures.value in
    let items = c.in_ok-repeat-in-EntersAt.ensures.ok in
    let all : length c.repeat-in-EntersAt.new.lines.items ≡ length c.args.starts.now = search rules in
    c.readable-then-len-starts.ensures
    ∙ rw (c.from-then-len-starts.ensures, items) (walk_done c.args.bytes.now c.args.starts.now c.args.most _ c.loop-done.done c.loop-done.lines.items c.loop-done.line c.count_below-count.result c.loop-done.spot c.in-EntersAt.next c.loop-done.invariant c.loop-done-test.true c.in-EntersAt.ensures.gives count
    (sym (ap length items) ∙ all))

pub loop-done-preserved : goal.loop-done-preserved
loop-done-preserved c = elim c.match-turn_of.branch [
  | in-GoesTo w ↦ rw (w.lines-is, w.line-is, w.spot-is) (walk_goes c.args.bytes.now c.args.starts.now c.args.most _ c.loop-done.done c.loop-done.lines.items c.loop-done.line c.loop-done.spot w.in-GoesTo.next c.loop-done.invariant c.loop-done-test.true w.in-GoesTo.ensures.gives w.in-GoesTo.ensures.low)
  | in-EntersAt+in_ok-repeat-in-EntersAt+else-len-starts w ↦
      let size : w.len-in-EntersAt.result ≡ length c.loop-done.lines.items = search rules in
      let count = rw (size, take_rest c.args.starts.now (length c.loop-done.lines.items)) at w.count_below-count.ensures in
      let items = w.in_ok-repeat-in-EntersAt.ensures.ok in
      let not : length w.repeat-in-EntersAt.new.lines.items ≡ length c.args.starts.now → ⊥ = search rules in
      rw (w.lines-is, w.line-is, w.spot-is, items) (walk_enters c.args.bytes.now c.args.starts.now c.args.most _ c.loop-done.done c.loop-done.lines.items c.loop-done.line w.count_below-count.result c.loop-done.spot w.in-EntersAt.next c.loop-done.invariant c.loop-done-test.true w.in-EntersAt.ensures.gives count.value count.within
      (λ e. not (ap length items ∙ e)) w.in-EntersAt.ensures.low)
]

pub returns : goal.returns
returns c =
    let all : c.loop-done.done ≡ c.args.most = omega arith in
    c.unreadable-2.ensures ∙ rw (c.from-2.ensures, c.one_more-2.ensures) (walk_ends c.args.bytes.now c.args.starts.now c.args.most _ c.loop-done.done c.loop-done.lines.items c.loop-done.line c.loop-done.spot c.loop-done.invariant all)
