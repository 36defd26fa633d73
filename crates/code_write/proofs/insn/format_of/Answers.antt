use Rattle.std.proofs.Common.{rules, ◌≡◌, ap, ◌∙◌, ℤ}
use Rattle.insn_set.specs.Spelling.{shortest}
use Rattle.code_write.proofs.Formats.{other_format}
use Rattle.code_write.proofs.insn.format_of.Goals as goal

pub returns-in_default : goal.returns-in_default
returns-in_default c =
    let first : c.shortest-in_default.result ≡ shortest c.args.insn.now c.distance.result = search rules in
    first ∙ ap (λ (z : ℤ). shortest c.args.insn.now z) c.distance.ensures ∙ other_format c.args.numbers.now c.args.from c.args.to c.args.insn.now c.in_default.not-ConstString
