use Rattle.dalvik_moves.proofs.ItemMoves.{item_put}
use Rattle.dalvik_moves.proofs.touching.put_item.Goals as goal

pub returns : goal.returns
returns c = λ l o memo script steps owes first rest kind items h room space i fine there.
    item_put l o memo script steps c.args.state.now owes first rest h c.args.gifts c.give.new.world c.put_item.new.self (c.give.ensures.given l i room space) c.args.array c.args.place c.args.datum kind items there fine c.put_item.ensures
    c.done.new.state c.done.ensures.done
