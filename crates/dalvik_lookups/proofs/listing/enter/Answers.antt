use Rattle.std.proofs.Common.{◌≡◌, ◌∙◌, ◌∷◌, ap, sym, true}
use Rattle.std.specs.Prelude.{slice_set, cond}
use Rattle.hierarchy.specs.Walking.{waits}
use Rattle.dalvik_lookups.proofs.Upward.{is_new, left_new}
use Rattle.dalvik_lookups.proofs.listing.enter.Goals as goal

pub returns-in_ok-push-clause-left : goal.returns-in_ok-push-clause-left
returns-in_ok-push-clause-left c =
    let seen = c.args.walk.now.seen.items in
    let new : c.in_ok-see.field-0 ≡ true = c.if-branch.true in
    left_new c.args.class seen c.push.new.self.seen.items (waits c.args.walk.now) (waits c.push.new.self) (is_new c.args.class seen (sym c.in_ok-see.ensures.met ∙ new))
    (ap (λ v. v.items) c.in_ok-push.ensures.seen ∙ c.in_ok-see.ensures.seen ∙ ap (λ b. cond b (slice_set seen c.args.class true) seen) new) (c.in_ok-push.ensures.waits ∙ ap (λ l. c.args.class ∷ l) c.in_ok-see.ensures.waits)
