use Rattle.std.proofs.Common.{◌≡◌, ◌+◌, ◌<◌, arith, length, take, get_or, sym, ◌∙◌}
use Rattle.std.proofs.lemmas.List.{take_more, length-take-le}
use Rattle.dalvik_lookups.specs.Declaring.{found_in}
use Rattle.dalvik_lookups.proofs.Indexed.{row_more}
use Rattle.dalvik_lookups.proofs.declared.Index.add_class.Goals as goal

pub loop-place-preserved : goal.loop-place-preserved
loop-place-preserved c = λ short. row_more c.args.class (get_or c.args.keys.now c.loop-place.place (0, (0, 0))) c.word.result (take c.loop-place.place c.args.keys.now) (take (c.loop-place.place + 1) c.args.keys.now) (found_in c.args.self.now) (found_in c.loop-place.self) (found_in c.add.new.self)
    (take_more c.args.keys.now c.loop-place.place (0, (0, 0)) c.loop-place-test.true)
    (let l : length (take c.loop-place.place c.args.keys.now) ≡ c.loop-place.place = length-take-le c.loop-place.place c.args.keys.now (let b = c.loop-place-test.true in omega arith) in c.word.ensures (let b : c.loop-place.place < length c.args.keys.now = c.loop-place-test.true in omega (arith, b, short)) ∙ sym l) (c.loop-place.invariant short) c.in_ok-add.ensures
