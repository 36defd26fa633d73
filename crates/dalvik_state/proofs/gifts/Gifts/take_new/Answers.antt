use Rattle.dalvik_state.specs.Drafts.{given_world}
use Rattle.dalvik_state.specs.Views.{names_in}
use Rattle.dalvik_state.proofs.Taking.{takes_new}
use Rattle.dalvik_state.proofs.gifts.Gifts.take_new.Goals as goal

pub returns : goal.returns
returns c = λ o r h f.
    let l = c.args.tables.now.lookups in
    let w = c.args.world.now in
    let g = c.args.self.now in
    takes_new l o w g h c.add.new.self c.args.kind (record { datum = c.in_ok-datum.datum; allowed = c.may_give_new-allowed.result })
    c.in_ok-datum.ensures.things c.in_ok-datum.ensures.datum (c.may_give_new-allowed.ensures o (given_world (names_in l) w g) r f.there) f
