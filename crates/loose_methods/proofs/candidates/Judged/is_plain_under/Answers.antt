use Rattle.std.proofs.Common.{◌∙◌, sym, subst}
use Rattle.receivers.proofs.Walks.{place_short}
use Rattle.loose_methods.specs.Marking.{AreUnder}
use Rattle.loose_methods.proofs.Plain.{interface_unplain, plain_is}
use Rattle.loose_methods.proofs.candidates.Judged.is_plain_under.Goals as goal

pub returns-then-is_interface : goal.returns-then-is_interface
returns-then-is_interface c = λ q j e static named o n cand it. sym (interface_unplain c.args.self.now.program.now n c.args.called q c.args.upper named (sym c.is_interface.ensures ∙ c.if-is_interface.true))

pub returns : goal.returns
returns c = λ q j e static named o n cand it.
    let p = c.args.self.now.program.now in
    let under = c.in_ok-under.ensures j (place_short p q.class c.args.upper named) in
    c.find_all.ensures q j (c.key_of_method.ensures.is p q e)
    ∙ plain_is p c.args.self.now.hierarchy.now j.formed j.resolved o n cand c.args.called q e c.args.at static it c.args.upper named (sym c.is_interface.ensures ∙ c.if-is_interface.false) c.as_slice.result.now
    (subst (AreUnder p c.args.upper) (sym c.as_slice.ensures.value) under)
