use Rattle.std.proofs.Common.{◌≡◌, length, sym, ◌∙◌, subst, rules}
use Rattle.live_regs.specs.Liveness.{AreMarks}
use Rattle.live_regs.proofs.Seen.{none_marked, seen_marks}
use Rattle.live_regs.proofs.sight.live_before.Goals as goal

pub returns-then-is_empty : goal.returns-then-is_empty
returns-then-is_empty c =
    let empty : length c.args.readers.now ≡ 0 = search rules in
    subst (AreMarks c.args.body.now c.args.register) (sym c.new.ensures) (none_marked c.args.body.now c.args.register c.args.readers.now empty c.requires.readers)

pub returns : goal.returns
returns c = seen_marks c.args.body.now c.args.register c.args.back.now c.args.readers.now c.requires.long c.requires.turned c.requires.readers c.in_ok-marks.marks.items c.of_vec.result c.len.result
    c.len.ensures (c.of_vec.ensures ∙ c.truncate.ensures.items) c.in_ok-marks.ensures.long c.in_ok-marks.ensures.exact
