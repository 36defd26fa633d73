use Rattle.std.proofs.Common.{◌≡◌, sym, ap, ◌∙◌}
use Rattle.std.specs.Option.{option_copied}
use Rattle.dom_frame.specs.Registers.{value_at}
use Rattle.inline_calls.proofs.Receivers.{knows_by}
use Rattle.inline_calls.proofs.site.knows_receiver.Goals as goal

pub returns-in-Some-clause-known : goal.returns-in-Some-clause-known
returns-in-Some-clause-known c =
    let e : c.get.result.now ≡ value_at c.in-Some.frame.now.registers c.args.register = cc (c.get.ensures, c.from.ensures) in
    knows_by c.args.facts.now c.args.method c.args.position c.args.register c.in-Some.frame.now (sym (ap option_copied c.in-Some.is) ∙ c.at.ensures) c.get.result.now e c.not_null.result c.not_null.ensures
