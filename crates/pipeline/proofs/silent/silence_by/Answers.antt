use Rattle.std.proofs.Common.{Bool}
use Rattle.std.specs.Prelude.{Vec}
use Rattle.std.specs.declared.alloc.Global.{Global}
use Rattle.pipeline.proofs.Silencing.{by_found}
use Rattle.pipeline.proofs.silent.silence_by.Goals as goal

pub returns-in-Some : goal.returns-in-Some
returns-in-Some c = by_found (λ (v : Vec Bool Global). v.items) c.args.marks.now c.in-Some.marks c.args.admitted.now.methods.items c.deref-in-Some.result.now c.deref.result.now c.args.program c.silence_marked.result
    c.in-Some.is c.deref-in-Some.ensures.value c.deref.ensures.value c.silence_marked.ensures
