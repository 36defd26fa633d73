use Rattle.std.proofs.Common.{sym, ap, length, arith}
use Rattle.loose_methods.proofs.Marking.{none_marked, marked_one, marked_all}
use Rattle.loose_methods.proofs.Placed.{got_in, entry_of}
use Rattle.loose_methods.proofs.candidates.Judged.mark_methods.Goals as goal

pub loop-method-init : goal.loop-method-init
loop-method-init c = λ o k j is same plain under out table size. none_marked c.args.self.now.program.now o c.args.place.now.class k c.args.marks.now

pub loop-method-preserved : goal.loop-method-preserved
loop-method-preserved c = λ o k j is same plain under out table size.
    let p = c.args.self.now.program.now in
    let place = c.args.place.now.class in
    let i = c.loop-method.method-index in
    let m = c.method-item.result in
    let there = got_in c.args.methods.now k.methods i m (sym same) c.loop-method-test.true c.method-item.is in
    let entry = entry_of p place i k m j.formed is there in
    marked_one p o place k c.args.kept.now i c.args.marks.now c.loop-method.marks c.mark_method.new.marks m entry.entry plain table is there entry.is size
    (c.loop-method.invariant o k j is same plain under out table size) (c.mark_method.ensures entry.entry j entry.is under out)

pub returns : goal.returns
returns c = λ o k j is same plain under out table size.
    let ge = c.loop-method-test.false in
    let long = ap length same in
    marked_all c.args.self.now.program.now o c.args.place.now.class k c.loop-method.method-index c.args.marks.now c.loop-method.marks (omega (arith, ge, long)) is
    (c.loop-method.invariant o k j is same plain under out table size)
