use Rattle.std.proofs.Common.{◌≡◌, ◌∙◌, sym, arith}
use Rattle.std.specs.Prelude.{length}
use Rattle.facts_check.proofs.Filling.{all_filled, none_left}
use Rattle.facts_check.proofs.body.walk.Goals as goal

pub returns : goal.returns
returns c =
    let s = c.args.site.now in
    let insns : length s.body.now.insns ≡ c.loop-position.position = omega arith in
    let starts : length s.starts.now ≡ c.loop-position.position = omega arith in
    λ known. all_filled c.args.known.now s.class s.number s.body.now s.starts.now c.loop-position.frames.items c.loop-position.position c.loop-position.next (c.loop-position.invariant known)
    (none_left c.loop-position.next (sym c.is_some.ensures ∙ c.if-is_some.false)) insns starts
