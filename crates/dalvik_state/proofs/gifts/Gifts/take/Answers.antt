use Rattle.std.proofs.Common.{subst}
use Rattle.std.specs.Prelude.{IfOk}
use Rattle.dalvik_lookups.specs.declared.plays.Gift.TheVariants as gift
use Rattle.dalvik_state.specs.Giving.{Takes}
use Rattle.dalvik_state.proofs.Taking.{array_fine, given_is, new_fine}
use Rattle.dalvik_state.proofs.gifts.Gifts.take.Goals as goal

pub returns-in-Exposed : goal.returns-in-Exposed
returns-in-Exposed c = λ o g r reach h q.
    let l = c.args.tables.now.lookups in
    subst (λ x. Takes l o c.args.world.now c.args.self.now c.args.self.now x c.exposed.result) (given_is l g c.args.gift q (gift.Exposed c.in-Exposed.place) c.in-Exposed.is) (c.exposed.ensures l o h)

pub returns-in-New : goal.returns-in-New
returns-in-New c = λ o g r reach h q.
    let l = c.args.tables.now.lookups in
    subst (λ x. IfOk c.take_new.result (Takes l o c.args.world.now c.args.self.now c.take_new.new.self x)) (given_is l g c.args.gift q (gift.New c.in-New.kind) c.in-New.is)
    (c.take_new.ensures o r h (new_fine l g c.args.gift q c.in-New.kind c.in-New.is))

pub returns-in-Array : goal.returns-in-Array
returns-in-Array c = λ o g r reach h q.
    let l = c.args.tables.now.lookups in
    subst (λ x. IfOk c.take_array.result (Takes l o c.args.world.now c.args.self.now c.take_array.new.self x)) (given_is l g c.args.gift q (gift.Array c.in-Array.item c.in-Array.size) c.in-Array.is)
    (c.take_array.ensures o r reach h (array_fine l g c.args.gift q c.in-Array.item c.in-Array.size c.in-Array.is))
