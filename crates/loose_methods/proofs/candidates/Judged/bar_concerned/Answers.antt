use Rattle.loose_methods.proofs.Bars.{candidates_kept, unconcerned, keeps_one}
use Rattle.loose_methods.specs.Loose.{is_this}
use Rattle.std.proofs.Common.{refl}
use Rattle.std.specs.Prelude.{not}
use Rattle.loose_methods.proofs.candidates.Judged.bar_concerned.Goals as goal

pub returns : goal.returns
returns c = λ o j e cand.
    let p = c.args.self.now.program.now in
    let kept = candidates_kept p o (λ n. not (is_this n c.named.result)) c.args.loose.now c.bar.new.marks (keeps_one c.args.loose.now c.bar.new.marks (λ n. not (is_this n c.named.result)) c.named.result c.bar.ensures.are c.bar.ensures.long (λ n m. refl)) cand in
    unconcerned p c.args.called c.args.name.now c.args.loose.now c.bar.new.marks c.bar_found.new.loose c.named.result (c.named.ensures j) c.bar.ensures.are c.bar.ensures.long (c.in_ok-bar_found.ensures o j e kept)
