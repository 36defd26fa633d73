use Rattle.std.proofs.Common.{arith}
use Rattle.dalvik_state.specs.Drafts.{given_world}
use Rattle.dalvik_state.specs.Views.{names_in}
use Rattle.dalvik_state.proofs.Taking.{takes_array}
use Rattle.dalvik_state.proofs.gifts.Gifts.take_array.Goals as goal

pub returns : goal.returns
returns c = λ o r reach h f.
    let l = c.args.tables.now.lookups in
    let w = c.args.world.now in
    let g = c.args.self.now in
    takes_array l o w g h c.add.new.self c.in_ok-thing.thing c.args.item c.args.size (record { datum = c.in_ok-datum.datum; allowed = c.may_give_array-allowed.result })
    (c.in_ok-thing.ensures r.tabled.named.types) c.in_ok-datum.ensures.things c.in_ok-datum.ensures.datum
    (c.may_give_array-allowed.ensures o (given_world (names_in l) w g) c.args.size r reach f.there) f (omega arith)
