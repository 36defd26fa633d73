use Rattle.std.proofs.Common.{sym, subst, slice_index, take, take_all}
use Rattle.std.proofs.lemmas.List.{take_more}
use Rattle.receivers.proofs.Loops.{at_index}
use Rattle.loose_methods.specs.Sifting.{Keeps, unfound_in}
use Rattle.loose_methods.proofs.Bars.{unfound_none, unfound_more, candidates_kept}
use Rattle.loose_methods.proofs.candidates.Judged.bar_definers.Goals as goal

pub loop-class-init : goal.loop-class-init
loop-class-init c = λ o q j k e short cand. unfound_none c.args.self.now.program.now q c.args.loose.now

pub loop-class-preserved : goal.loop-class-preserved
loop-class-preserved c = λ o q j k e short cand.
    let p = c.args.self.now.program.now in
    let i = c.loop-class.class-index in
    let xs = c.args.classes.now in
    let lt = c.loop-class-test.true in
    let was = c.loop-class.invariant o q j k e short cand in
    subst (λ cs. Keeps (unfound_in p q cs) c.args.loose.now c.bar_defined.new.loose) (sym (take_more xs i 0 lt))
    (unfound_more p q (take i xs) (slice_index xs i) c.args.loose.now c.loop-class.loose c.bar_defined.new.loose was
    (c.in_ok-bar_defined.ensures o q j k e (short i (slice_index xs i) (at_index xs i lt)) (candidates_kept p o (unfound_in p q (take i xs)) c.args.loose.now c.loop-class.loose was cand)))

pub returns : goal.returns
returns c = λ o q j k e short cand.
    subst (λ cs. Keeps (unfound_in c.args.self.now.program.now q cs) c.args.loose.now c.loop-class.loose) (take_all c.loop-class.class-index c.args.classes.now c.loop-class-test.false) (c.loop-class.invariant o q j k e short cand)
