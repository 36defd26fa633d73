use Rattle.summaries.proofs.Certifying.{closed_by}
use Rattle.summaries.proofs.analysis.certified.Goals as goal

pub returns : goal.returns
returns c = λ formed classes.
    closed_by _ c.in_ok-frames.field-0 c.in-Some.frames c.with_frames.result c.in_ok-frames.ensures.filled c.in_ok-frames.ensures.holds c.in-Some.is formed classes.hierarchy classes c.requires c.with_frames.ensures
