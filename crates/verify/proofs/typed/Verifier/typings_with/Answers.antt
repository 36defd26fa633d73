use Rattle.std.proofs.Common.{sym, ap, ◌∙◌}
use Rattle.std.specs.Option.{option_copied}
use Rattle.verify.proofs.Bodies.{typed_with, refused_with, nothing_with, nothing_with_in}
use Rattle.verify.proofs.typed.Verifier.typings_with.Goals as goal

pub returns-in-None-clause-typed : goal.returns-in-None-clause-typed
returns-in-None-clause-typed c = nothing_with c.args.self.now c.args.method c.args.body.now _ (sym c.class_at.ensures ∙ ap option_copied c.in-None.is)

pub returns-in-None-method_at-clause-typed : goal.returns-in-None-method_at-clause-typed
returns-in-None-method_at-clause-typed c = nothing_with_in c.args.self.now c.args.method c.args.body.now _ (sym c.method_at.ensures ∙ ap option_copied c.in-None-method_at.is)

pub returns-clause-typed : goal.returns-clause-typed
returns-clause-typed c = typed_with c.args.self.now c.args.method c.args.body.now _ _ (sym c.class_at.ensures ∙ ap option_copied c.in-Some.is) (sym c.method_at.ensures ∙ ap option_copied c.in-Some-method_at.is) c.of_body.result (c.of_body.ensures.typed (c.new-scratch.ensures c.args.self.now.hierarchy.now))

pub returns-clause-refused : goal.returns-clause-refused
returns-clause-refused c = refused_with c.args.self.now c.args.method c.args.body.now _ _ (sym c.class_at.ensures ∙ ap option_copied c.in-Some.is) (sym c.method_at.ensures ∙ ap option_copied c.in-Some-method_at.is) c.of_body.result (c.of_body.ensures.refused (c.new-scratch.ensures c.args.self.now.hierarchy.now))
