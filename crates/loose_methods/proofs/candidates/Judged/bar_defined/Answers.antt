use Rattle.std.proofs.Common.{◌≡◌, ◌<◌, ◌∙◌, Some, ap, length, refl, subst, sym}
use Rattle.class_defs.specs.Members.{own_virtual}
use Rattle.receivers.proofs.Owned.{own_class}
use Rattle.loose_methods.specs.Loose.{number_found}
use Rattle.loose_methods.specs.Sifting.{KeepsUnfound}
use Rattle.loose_methods.proofs.Bars.{none_defined}
use Rattle.loose_methods.proofs.candidates.Judged.bar_defined.Goals as goal

pub returns-in_ok-bar_own-in-Some : goal.returns-in_ok-bar_own-in-Some
returns-in_ok-bar_own-in-Some c = λ o q j k kind lt cand.
    let p = c.args.self.now.program.now in
    let at = c.in-Some.at in
    let own : own_virtual p q.name q.proto c.args.class ≡ Some at = sym (c.own_virtual.ensures q.name q.proto j.resolved.of k) ∙ c.in-Some.is in
    let class : at.class ≡ c.args.class = own_class p q.name q.proto c.args.class at own in
    subst (λ d. KeepsUnfound p q d c.args.loose.now c.bar_own.new.loose) class
    (c.in_ok-bar_own-in-Some.ensures o q j k kind (ap (own_virtual p q.name q.proto) class ∙ own) (subst (λ d. d < length p.classes) (sym class) lt) cand)

pub returns-in-None : goal.returns-in-None
returns-in-None c = λ o q j k kind lt cand.
    let p = c.args.self.now.program.now in
    none_defined p q c.args.class c.args.loose.now c.args.loose.now (ap (number_found p) (sym (c.own_virtual.ensures q.name q.proto j.resolved.of k) ∙ c.in-None.is)) refl
