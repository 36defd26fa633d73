use Rattle.std.proofs.Common.{refl, subst}
use Rattle.dalvik_lookups.specs.Playing.{AreBoth, IsGift}
use Rattle.dalvik_state.proofs.Taking.{maybe_none, maybe_some}
use Rattle.dalvik_state.proofs.gifts.Gifts.take_option.Goals as goal

pub returns-in_ok-taken-in-Some : goal.returns-in_ok-taken-in-Some
returns-in_ok-taken-in-Some c = λ o g r reach h q.
    let l = c.args.tables.now.lookups in
    maybe_some l o c.args.world.now c.args.self.now c.take.new.self g c.in-Some.gift c.in_ok-taken-in-Some.taken (subst (AreBoth (IsGift l.types l.texts) g) c.in-Some.is q)
    (λ y i. c.in_ok-taken-in-Some.ensures o y r reach h i)

pub returns-in-None : goal.returns-in-None
returns-in-None c = λ o g r reach h q.
    let l = c.args.tables.now.lookups in
    maybe_none l o c.args.world.now c.args.self.now c.args.self.now g (subst (AreBoth (IsGift l.types l.texts) g) c.in-None.is q) refl
