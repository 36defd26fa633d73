use Rattle.std.proofs.Common.{◌≡◌, ◌<◌, ◌∙◌, ℕ, None, Some, true, length, ltb-true, ap, sym}
use Rattle.std.specs.Prelude.{cond, nat_lt, slice_get}
use Rattle.lemmas.proofs.Lists.{all_at}
use Rattle.receivers.specs.Receiving.{agreed}
use Rattle.devirt.specs.Binding.{are_places, bound_above}
use Rattle.devirt.proofs.binding.Binder.by_places.Goals as goal

pub returns-clause-is : goal.returns-clause-is
returns-clause-is c = λ f n r.
    let p = c.args.self.now.finder.program.now in
    let q = c.args.old.now in
    let xs = c.args.classes.now in
    let are : are_places p xs ≡ true = sym c.are_places.ensures ∙ c.if-not-are_places.false in
    let short : (k x : ℕ) → slice_get xs k ≡ Some x → x < length p.classes = λ k x e. ltb-true x (length p.classes) (all_at (λ d. nat_lt d (length p.classes)) xs k x are e) in
    let found : c.in_ok-found.found ≡ agreed p q xs = c.in_ok-found.ensures.is f r q n short in
    c.bound_above.ensures f n are ∙ (ap (bound_above p c.args.call.now q xs) found ∙ sym (ap (λ b. cond b (bound_above p c.args.call.now q xs (agreed p q xs)) None) are))
