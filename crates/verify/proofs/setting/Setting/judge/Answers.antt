use Rattle.std.proofs.Common.{refl, rules}
use Rattle.verify.specs.Entry.{begun}
use Rattle.verify.specs.Frames.{kinds_of}
use Rattle.verify.proofs.Judged.{judged, refused}
use Rattle.verify.proofs.setting.Setting.judge.Goals as goal

pub returns-clause-typed : goal.returns-clause-typed
returns-clause-typed c = judged c.args.self.now c.args.body.now c.in_ok-covering.covering.items c.as_slice.result.now (kinds_of c.in_ok-entry.entry) (begun c.args.self.now c.args.body.now c.args.passed.now.receiver c.args.passed.now.kinds.now)
    c.in_ok-states.states.items c.as_slice-3.result.now c.as_slice-2.result.now c.as_slice-2.result.now _ c.word.result (search rules) c.in_ok-entry.ensures.frame (search rules) refl (search rules) (search rules) c.word.ensures c.in_ok-covering.ensures c.in_ok-states.ensures.least c.in-None.ensures.none c.requires (c.is_short.ensures c.if-not-is_short.false)

pub returns-in-Some-clause-refused : goal.returns-in-Some-clause-refused
returns-in-Some-clause-refused c = (
  refl,
  refused c.args.self.now c.args.body.now c.in_ok-covering.covering.items c.as_slice.result.now (kinds_of c.in_ok-entry.entry) (begun c.args.self.now c.args.body.now c.args.passed.now.receiver c.args.passed.now.kinds.now)
      c.in_ok-states.states.items c.as_slice-3.result.now c.as_slice-2.result.now c.as_slice-2.result.now c.in-Some.position c.in-Some.register (search rules) c.in_ok-entry.ensures.frame (search rules) refl (search rules) c.in_ok-covering.ensures c.in_ok-states.ensures.least c.in-Some.ensures.some c.in-Some.ensures.first c.requires (c.is_short.ensures c.if-not-is_short.false),
)
