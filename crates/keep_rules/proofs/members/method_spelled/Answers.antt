use Rattle.std.proofs.Common.{◌≡◌, ◌∙◌, ap, sym, map}
use Rattle.std.specs.Prelude.{◌&&◌}
use Rattle.std.proofs.lemmas.Result.{IfOk-weaker}
use Rattle.dalvik_defs.specs.Naming.{type_at}
use Rattle.rule_defs.specs.Patterns.{arguments_fit, member_name_fits, type_fits}
use Rattle.keep_rules.proofs.MemberLemmas.{three}
use Rattle.keep_rules.proofs.members.method_spelled.Goals as goal

pub returns : goal.returns
returns c = λ n k a is kind args.
    let p = c.args.program.now in
    let both = sym (sym (c.in_ok-named.ensures n k is kind) ∙ c.if-not-named.false) in
    IfOk-weaker c.arguments_fit.result (λ b. b ≡ arguments_fit a (map (type_at p) c.as_slice.result.now)) (λ b. b ≡ ((member_name_fits n c.args.units.now && type_fits k (type_at p c.args.proto.now.result)) && arguments_fit a (map (type_at p) c.args.proto.now.parameters)))
    (λ b e. three (member_name_fits n c.args.units.now) (type_fits k (type_at p c.args.proto.now.result)) (arguments_fit a (map (type_at p) c.args.proto.now.parameters)) b (both ∙ ap (λ d. member_name_fits n c.args.units.now && type_fits k d) c.descriptor.ensures) (e ∙ ap (λ l. arguments_fit a (map (type_at p) l)) c.as_slice.ensures)) (c.arguments_fit.ensures a args)
