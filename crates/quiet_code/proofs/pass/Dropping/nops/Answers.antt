use Rattle.std.proofs.Common.{◌≡◌, ℕ, Bool, Some, slice_get, length, sym, ap, ◌∙◌, arith}
use Rattle.std.proofs.lemmas.Option.{slice_get-get_or}
use Rattle.facts.specs.Lent.{frame_at}
use Rattle.quiet_code.specs.Idle.{does_nothing_at}
use Rattle.quiet_code.specs.Quieted.{nops_upto}
use Rattle.quiet_code.proofs.Dropped.{dropped_more, nops_more}
use Rattle.quiet_code.proofs.pass.Dropping.nops.Goals as goal

pub loop-place-preserved : goal.loop-place-preserved
loop-place-preserved c =
    let s = c.args.self.now in
    let d = c.args.code.now in
    let b = d.body.now in
    let n = c.loop-place.place in
    let i = c.index-insns-place.result in
    let there : slice_get b.insns n ≡ Some i = ap (λ l. slice_get l n) (sym c.as_slice-insns.ensures) ∙ slice_get-get_or c.as_slice-insns.result.now n i c.loop-place-test.true ∙ ap Some (sym c.index-insns-place.is) in
    record {
      dropped = dropped_more b c.loop-place.edits.items c.add_nop.new.edits.items n i c.in_ok-idle.idle there c.loop-place.invariant.dropped c.in_ok-idle.ensures.may c.in_ok-add_nop.ensures;
      nops = λ r.
          nops_more (λ k. does_nothing_at s.search.program.now s.search.quiet.now (frame_at s.facts.now.frames.items d.method) d.live.now b k (slice_get b.insns k)) c.loop-place.edits.items c.add_nop.new.edits.items n c.in_ok-idle.idle
          (c.loop-place.invariant.nops r)
          (c.in_ok-idle.ensures.is r ∙ ap (does_nothing_at s.search.program.now s.search.quiet.now (frame_at s.facts.now.frames.items d.method) d.live.now b n) (sym there))
          c.in_ok-add_nop.ensures;
    }
