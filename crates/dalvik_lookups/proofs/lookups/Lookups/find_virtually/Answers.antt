use Rattle.std.proofs.Common.{◌∙◌, sym, ap}
use Rattle.std.specs.Prelude.{cond}
use Rattle.class_defs.specs.Finding.{finds_at}
use Rattle.dalvik_lookups.specs.declared.finds.Search.TheVariants.{Nothing}
use Rattle.dalvik_lookups.specs.Walks.{search_by}
use Rattle.dalvik_lookups.proofs.Calls.{below, found_by}
use Rattle.dalvik_lookups.proofs.Placed.{method_class_is}
use Rattle.dalvik_lookups.proofs.lookups.Lookups.find_virtually.Goals as goal

pub returns-in_ok-found-clause-kept : goal.returns-in_ok-found-clause-kept
returns-in_ok-found-clause-kept c = λ k q r m hc hq.
    let receiver = c.kind_of_class-receiver.ensures r k hc in
    let own = c.class_of_method-named.ensures r (below c.args.self.now.program.now.methods c.args.method q hq) in
    c.find_at.ensures.kept (c.is_under.ensures.kept r m receiver.kind own.kind)

pub returns-in_ok-found-clause-is : goal.returns-in_ok-found-clause-is
returns-in_ok-found-clause-is c = λ k q r m hc hq.
    let receiver = c.kind_of_class-receiver.ensures r k hc in
    let own = c.class_of_method-named.ensures r (below c.args.self.now.program.now.methods c.args.method q hq) in
    c.in_ok-found.ensures.is q.name q.proto r (c.is_under.ensures.kept r m receiver.kind own.kind) (c.key_of_method.ensures.is c.args.self.now.program.now q hq)
    ∙ sym (found_by c.args.self.now c.args.class q k c.in_ok-is_under.field-0 _ _ hc receiver.text (own.text ∙ sym (method_class_is c.args.self.now.program.now c.args.method q hq)) (c.in_ok-is_under.ensures.answer r m receiver.kind own.kind)
    ∙ ap (λ b. cond b (search_by (finds_at c.args.self.now.program.now c.args.class q.name q.proto)) Nothing) c.if-branch.true)

pub returns-else-branch-clause-kept : goal.returns-else-branch-clause-kept
returns-else-branch-clause-kept c = λ k q r m hc hq.
    let receiver = c.kind_of_class-receiver.ensures r k hc in
    let own = c.class_of_method-named.ensures r (below c.args.self.now.program.now.methods c.args.method q hq) in
    c.is_under.ensures.kept r m receiver.kind own.kind

pub returns-else-branch-clause-is : goal.returns-else-branch-clause-is
returns-else-branch-clause-is c = λ k q r m hc hq.
    let receiver = c.kind_of_class-receiver.ensures r k hc in
    let own = c.class_of_method-named.ensures r (below c.args.self.now.program.now.methods c.args.method q hq) in
    sym (found_by c.args.self.now c.args.class q k c.in_ok-is_under.field-0 _ _ hc receiver.text (own.text ∙ sym (method_class_is c.args.self.now.program.now c.args.method q hq)) (c.in_ok-is_under.ensures.answer r m receiver.kind own.kind)
    ∙ ap (λ b. cond b (search_by (finds_at c.args.self.now.program.now c.args.class q.name q.proto)) Nothing) c.if-branch.false)

pub returns-in_err-is_under-clause-kept : goal.returns-in_err-is_under-clause-kept
returns-in_err-is_under-clause-kept c = λ k q r m hc hq.
    let receiver = c.kind_of_class-receiver.ensures r k hc in
    let own = c.class_of_method-named.ensures r (below c.args.self.now.program.now.methods c.args.method q hq) in
    c.is_under.ensures.kept r m receiver.kind own.kind

pub returns-in_err-found-clause-kept : goal.returns-in_err-found-clause-kept
returns-in_err-found-clause-kept c = λ k q r m hc hq.
    let receiver = c.kind_of_class-receiver.ensures r k hc in
    let own = c.class_of_method-named.ensures r (below c.args.self.now.program.now.methods c.args.method q hq) in
    c.find_at.ensures.kept (c.is_under.ensures.kept r m receiver.kind own.kind)
