use Rattle.std.proofs.Common.{refl, sym, ◌∙◌, arith}
use Rattle.std.proofs.lemmas.Option.{slice_get-get_or}
use Rattle.staticise.specs.Loosened.{IsLoosenedClass}
use Rattle.staticise.proofs.Edited.{one_edited, each_edited, none_edited}
use Rattle.staticise.proofs.loosening.Loosening.loosen_classes.Goals as goal

pub loop-place-init : goal.loop-place-init
loop-place-init c = λ p t o d. none_edited (IsLoosenedClass p c.args.self.now.given.now) c.args.classes.now

pub loop-place-preserved : goal.loop-place-preserved
loop-place-preserved c = λ p t o d.
    let was = c.loop-place.invariant p t o d in
    one_edited (IsLoosenedClass p c.args.self.now.given.now) c.args.classes.now c.loop-place.classes c.loop-place.place _ _ c.loosen_class.new.class (omega arith) refl was
    (c.in_ok-loosen_class.ensures p t o (d c.loop-place.place _ (sym (was.rest c.loop-place.place (omega arith)) ∙ slice_get-get_or c.loop-place.classes c.loop-place.place _ (omega arith))))

pub returns : goal.returns
returns c = λ p t o d. each_edited (IsLoosenedClass p c.args.self.now.given.now) c.args.classes.now c.loop-place.classes c.loop-place.place (omega arith) (c.loop-place.invariant p t o d)
