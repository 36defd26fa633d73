use Rattle.inline_calls.proofs.Asks.{so_asks}
use Rattle.inline_calls.proofs.Looking.{with_origins}
use Rattle.inline_calls.proofs.pass.apply.Goals as goal

pub returns-clause-inlined : goal.returns-clause-inlined
returns-clause-inlined g c =
    so_asks _ _ _ _ _ _ (with_origins c.args.program c.args.hierarchy.now c.args.facts.now c.args.admitted.now.methods.items _ _ _ _ _ c.as_slice-marks.ensures.value c.origins_if.ensures) c.in_ok-done.ensures.inlined
