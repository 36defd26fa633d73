use Rattle.std.proofs.Common.{◌≡◌, ◌<◌, ◌∙◌, None, true, length, ap, sym, subst}
use Rattle.std.specs.Prelude.{cond}
use Rattle.std.proofs.lemmas.Result.{IfOk-weaker}
use Rattle.class_defs.specs.Finding.{finds_at}
use Rattle.receivers.specs.Receiving.{found_by, only, stands_under}
use Rattle.receivers.proofs.finding.Finder.find.Goals as goal

pub returns-clause-is : goal.returns-clause-is
returns-clause-is c = λ f r q n l.
    let p = c.args.self.now.program.now in
    let at = c.args.class in
    let stands : stands_under p at q.class ≡ true = ap (stands_under p at) (sym n.kind) ∙ (sym (c.is_under.ensures f l (subst (λ k. k < length p.types) (sym n.kind) n.short)) ∙ c.if-not-is_under.false) in
    IfOk-weaker c.find_any.result (λ o. o ≡ only (finds_at p at q.name q.proto)) (λ o. o ≡ found_by p q at)
    (λ v h. h ∙ sym (ap (λ b. cond b (only (finds_at p at q.name q.proto)) None) stands)) (c.find_any.ensures.is f r q.name q.proto n.key)
