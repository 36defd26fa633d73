use Rattle.std.proofs.Common.{ap, ◌∙◌}
use Rattle.std.specs.List.{list_any}
use Rattle.dalvik_lookups.specs.Views.{type_text}
use Rattle.dalvik_lookups.specs.Reached.{keeps_over}
use Rattle.dalvik_lookups.proofs.lookups.Lookups.has_keeper.Goals as goal

pub returns-clause-kept : goal.returns-clause-kept
returns-clause-kept c = λ o q r u m h e.
    c.keeps_over_any.ensures.kept o q.name q.proto (record { right = r; outer = u; key_is = c.key_of_method-key.ensures.is c.args.self.now.program.now q e }) m h

pub returns-clause-is : goal.returns-clause-is
returns-clause-is c = λ o q r u m h e.
    let key = c.key_of_method-key.ensures.is c.args.self.now.program.now q e in
    c.in_ok-found.ensures.is o q.name q.proto (record { right = r; outer = u; key_is = key }) m h
    ∙ ap (list_any (keeps_over c.args.self.now.program.now c.args.self.now.framework.now o q.name q.proto (type_text c.args.self.now.types c.args.lower)))
    (c.definers_of.ensures c.args.self.now.program.now q.name q.proto r.resolved.of key)

pub returns-in_err-found-clause-kept : goal.returns-in_err-found-clause-kept
returns-in_err-found-clause-kept c = λ o q r u m h e.
    c.keeps_over_any.ensures.kept o q.name q.proto (record { right = r; outer = u; key_is = c.key_of_method-key.ensures.is c.args.self.now.program.now q e }) m h
