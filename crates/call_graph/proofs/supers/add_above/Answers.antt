use Rattle.std.proofs.Common.{◌≡◌, ◌∙◌, ◌++◌, Some, sym, ap, append-nil}
use Rattle.class_defs.specs.Places.{super_place}
use Rattle.class_defs.specs.Finding.{finds_from}
use Rattle.call_graph.specs.Follows.{found_facts}
use Rattle.call_graph.proofs.SuperCalls.{one_found, above_none}
use Rattle.call_graph.proofs.supers.add_above.Goals as goal

pub returns-in_ok-add_found-in-Some-clause-adds : goal.returns-in_ok-add_found-in-Some-clause-adds
returns-in_ok-add_found-in-Some-clause-adds c = λ is q key.
    let above : Some c.in-Some.above ≡ super_place c.args.at.now.program.now c.args.caller = c.in-Some.ensures.is c.args.at.now.program.now is.of in
    c.in_ok-add_found-in-Some.ensures ∙ ap (λ o. c.args.out.now.items ++ found_facts c.args.at.now.program.now o) (c.find_from.ensures c.args.at.now.program.now q.name q.proto is.of key ∙ ap (finds_from c.args.at.now.program.now q.name q.proto) above)
    ∙ ap (λ l. c.args.out.now.items ++ l) (sym (one_found c.args.at.now.program.now (finds_from c.args.at.now.program.now q.name q.proto (super_place c.args.at.now.program.now c.args.caller))))

pub returns-in-None-clause-adds : goal.returns-in-None-clause-adds
returns-in-None-clause-adds c = λ is q key.
    sym (ap (λ l. c.args.out.now.items ++ l) (above_none c.args.at.now.program.now c.args.caller q (sym (c.in-None.ensures.is c.args.at.now.program.now is.of))) ∙ append-nil c.args.out.now.items)
