use Rattle.std.proofs.Common.{ap, ◌∙◌, ◌≤◌, arith, nat_eq}
use Rattle.std.specs.Prelude.{position}
use Rattle.dalvik_lookups.specs.Rows.{above_numbers}
use Rattle.dalvik_lookups.proofs.Standing.{rows_long, rows_at, all_above}
use Rattle.dalvik_lookups.proofs.graph.above_all.Goals as goal

pub loop-number-preserved : goal.loop-number-preserved
loop-number-preserved c = record {
  size = rows_long c.loop-number.above.items c.push.new.self.items c.in_ok-above_one.field-0 c.loop-number.number c.loop-number.invariant.size c.in_ok-push.ensures.items;
  rows = rows_at (above_numbers c.args.program.now c.args.names.now c.args.rows.now c.in_ok-placed.placed.items) c.loop-number.above.items c.push.new.self.items c.in_ok-above_one.field-0 c.loop-number.number c.loop-number.invariant.size c.loop-number.invariant.rows
      (c.in_ok-above_one.ensures ∙ ap (λ q. above_numbers c.args.program.now c.args.names.now c.args.rows.now q c.loop-number.number) c.as_slice-in-loop-number.ensures.value) c.in_ok-push.ensures.items;
}

pub returns : goal.returns
returns c = λ w h f r.
    all_above c.args.program.now f c.args.names.now c.args.rows.now c.in_ok-placed.placed.items c.loop-number.above c.len-count.result w h r c.len-count.ensures
    (λ n l. c.in_ok-placed.ensures n l ∙ ap (position (nat_eq n)) c.as_slice.ensures.value)
    (λ n l. c.loop-number.invariant.rows n (let e : c.len-count.result ≤ c.loop-number.number = c.loop-number-test.false in omega (arith, l, e)))
