use Rattle.std.proofs.Common.{refl, subst}
use Rattle.loose_methods.specs.Sifting.{Keeps, unfound_in}
use Rattle.loose_methods.proofs.Bars.{unfound_all}
use Rattle.loose_methods.proofs.Under.{definers_short}
use Rattle.loose_methods.proofs.candidates.Judged.bar_found.Goals as goal

pub returns : goal.returns
returns c = λ o j e cand.
    let p = c.args.self.now.program.now in
    let q = c.args.name.now in
    let k = c.key_of_method-key.ensures.is p q e in
    let definers = c.definers_of.ensures p q.name q.proto j.resolved.of k in
    unfound_all p c.args.self.now.hierarchy.now j.formed j.resolved o q c.args.loose.now c.bar_definers.new.loose cand
    (subst (λ cs. Keeps (unfound_in p q cs) c.args.loose.now c.bar_definers.new.loose) definers (c.in_ok-bar_definers.ensures o q j k refl (definers_short p q c.definers_of.result.now definers) cand))
