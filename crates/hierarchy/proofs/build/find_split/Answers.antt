use Rattle.hierarchy.proofs.SplitFound.{found_split}
use Rattle.hierarchy.proofs.build.find_split.Goals as goal

pub returns : goal.returns
returns c = λ h made named. found_split c.args.program.now c.args.shape.now c.args.named.now c.as_slice.result.now c.as_slice-2.result.now c.as_slice-3.result.now c.as_slice-4.result.now c.first_split.result h made named
    c.as_slice.ensures.value c.as_slice-2.ensures.value c.as_slice-3.ensures.value c.as_slice-4.ensures.value c.first_split.ensures
