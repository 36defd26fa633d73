use Rattle.copy_prop.proofs.Behind.{behind_found}
use Rattle.copy_prop.proofs.stale.stands_behind.Goals as goal

pub returns : goal.returns
returns c = behind_found c.args.body.now c.args.steps.now c.requires.steps c.args.register c.args.at c.as_slice-3.result.now c.as_slice-2.result.now c.as_slice.result.now c.as_slice-seeds.result.now c.index.result.now c.in_ok-marks.marks.items c.as_slice-4.result.now c.args.good.now c.all_good.result
    c.as_slice-3.ensures.value c.as_slice-2.ensures.value c.as_slice.ensures c.requires.at c.index.ensures c.as_slice-seeds.ensures c.as_slice-4.ensures.value c.in_ok-marks.ensures.exact c.all_good.ensures
