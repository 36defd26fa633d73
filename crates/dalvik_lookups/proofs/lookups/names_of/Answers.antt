use Rattle.std.proofs.Common.{refl}
use Rattle.dalvik_lookups.proofs.Making.{names_made}
use Rattle.dalvik_lookups.proofs.lookups.names_of.Goals as goal

pub returns : goal.returns
returns c = λ small.
    let n = c.in_ok-numbers.ensures in
    let made = c.in_ok-numbers.numbers in
    names_made c.args.program.now c.in_ok-types.types c.numbers_of.new.types c.numbers_of.new.texts made.kinds.items made.class_kinds.items made.strings.items made.class_of.items _
    c.in_ok-types.ensures (n.kinds c.in_ok-types.ensures.kept) (n.strings (record { once = c.new-texts.ensures.once })) n.own (n.places c.in_ok-types.ensures small)
    refl refl refl refl refl refl
