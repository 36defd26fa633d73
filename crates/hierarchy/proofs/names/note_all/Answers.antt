use Rattle.std.proofs.Common.{◌≡◌, ◌∙◌, get_or, false, length, ap, arith}
use Rattle.std.proofs.lemmas.List.{get_or_default, length-replicate}
use Rattle.program_model.specs.declared.pools.MethodName.{MethodName}
use Rattle.hierarchy.specs.Membership.{key_at}
use Rattle.hierarchy.proofs.Indexed.{AtPlace, at_items}
use Rattle.hierarchy.proofs.Fives.{common_none, common_more, all_common}
use Rattle.hierarchy.proofs.names.note_all.Goals as goal

pub loop-number-init : goal.loop-number-init
loop-number-init c = λ count k e. common_none c.args.program.now c.args.methods.now c.args.keys.now c.args.marks.now count e

pub loop-number-preserved : goal.loop-number-preserved
loop-number-preserved c = λ count k e.
    let x : MethodName = get_or c.args.methods.now c.loop-number.number (record { class = 0; proto = 0; name = 0 }) in
    let default = get_or_default c.args.methods.now c.loop-number.number (record { class = 0; proto = 0; name = 0 }) x c.loop-number-test.true in
    let at : AtPlace c.args.methods.now c.loop-number.number x = at_items c.args.methods.now c.loop-number.number x default c.loop-number-test.true in
    let small = k.small in
    let word_is : c.word.result ≡ c.loop-number.number = c.word.ensures (omega (arith, at.short, small)) in
    common_more c.args.program.now c.args.methods.now c.args.keys.now c.loop-number.marks c.note.new.marks c.loop-number.number c.key_of.result x c.is_of_object.result at.got (c.key_of.ensures ∙ ap (key_at c.args.keys.now) word_is) c.is_of_object.ensures c.note.ensures (c.loop-number.invariant count k e)

pub returns-clause-common : goal.returns-clause-common
returns-clause-common c = λ count k e. all_common c.args.program.now c.args.methods.now c.args.keys.now c.loop-number.marks c.loop-number.number count c.loop-number-test.false (c.loop-number.auto.marks ∙ ap length e ∙ length-replicate count false) k (c.loop-number.invariant count k e)
