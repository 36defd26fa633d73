use Rattle.std.proofs.Common.{refl, subst}
use Rattle.loose_methods.specs.Sifting.{KeepsPlain}
use Rattle.loose_methods.proofs.Bars.{others_kept, plain_kept}
use Rattle.loose_methods.proofs.candidates.Judged.sift_virtual.Goals as goal

pub returns-then-plain : goal.returns-then-plain
returns-then-plain c = λ o j e cand.
    let p = c.args.self.now.program.now in
    let q = c.args.name.now in
    plain_kept p c.args.called q c.args.loose.now c.args.loose.now (subst (KeepsPlain p c.args.loose.now c.args.called q) c.if-plain.true (c.in_ok-plain.ensures o j e cand)) refl

pub returns : goal.returns
returns c = λ o j e cand.
    let p = c.args.self.now.program.now in
    let q = c.args.name.now in
    others_kept p c.args.called q c.args.loose.now c.bar_concerned.new.loose (subst (KeepsPlain p c.args.loose.now c.args.called q) c.if-plain.false (c.in_ok-plain.ensures o j e cand)) (c.in_ok-bar_concerned.ensures o j e cand)
