use Rattle.std.proofs.Common.{◌≡◌, [], rules, sym, ap, ◌∙◌, slice_get, length}
use Rattle.hierarchy.specs.Shapes.{IsResolved}
use Rattle.facts.specs.Lent.{frame_at}
use Rattle.quiet_code.specs.Idle.{does_nothing_at}
use Rattle.quiet_code.specs.Quiet.{AreDropped}
use Rattle.quiet_code.specs.Quieted.{NopsWell, nops_upto}
use Rattle.quiet_code.proofs.Dropped.{nops_none, nops_written, both_ok, none_dropped}
use Rattle.quiet_code.proofs.pass.DroppingRewriting.edits.Goals as goal

pub returns-then-not-is_small : goal.returns-then-not-is_small
returns-then-not-is_small c =
    let s = c.args.self.now.search in
    let e : c.new.result.items ≡ [] = search rules in
    record {
      dropped = none_dropped c.args.body.now c.new.result.items e;
      nops = λ r. nops_none s.program.now s.quiet.now c.args.self.now.facts.now.frames.items c.args.method.now c.args.body.now c.new.result.items (sym c.is_small.ensures.is ∙ c.if-not-is_small.true) e;
    }

pub returns : goal.returns
returns c =
    let s = c.args.self.now.search in
    let frames = c.args.self.now.facts.now.frames.items in
    let m = c.args.method.now in
    let b = c.args.body.now in
    both_ok c.nops.result (λ v. AreDropped b v.items) (λ v. v.items ≡ nops_upto (λ n. does_nothing_at s.program.now s.quiet.now (frame_at frames m.name) c.in_ok-later.later b n (slice_get b.insns n)) (length b.insns)) (λ v. NopsWell s.program.now s.hierarchy.now s.quiet.now frames m b v.items)
    (IsResolved s.program.now s.hierarchy.now)
    (λ v d e. record {
      dropped = d;
      nops = λ r. nops_written s.program.now s.quiet.now frames m b c.in_ok-later.later v.items (sym c.is_small.ensures.is ∙ c.if-not-is_small.false) c.in_ok-later.ensures (e r);
    })
    c.nops.ensures.dropped c.nops.ensures.nops
