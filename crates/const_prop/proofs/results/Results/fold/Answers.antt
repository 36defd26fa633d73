use Rattle.std.proofs.Common.{◌≡◌, ◌+◌, refl, sym, ◌∙◌, arith}
use Rattle.std.specs.Option.{option_copied}
use Rattle.const_prop.proofs.Found.{choice_found, fold_number}
use Rattle.const_prop.proofs.results.Results.fold.Goals as goal

pub returns-in-Some-clause-found : goal.returns-in-Some-clause-found
returns-in-Some-clause-found c = choice_found c.args.position _ c.args.insn.now _ c.in_ok-way.way refl c.in-Some.ensures refl

pub returns-clause-is : goal.returns-clause-is
returns-clause-is c = λ k lt.
    let s = c.args.self.now in
    let code = c.args.code.now in
    let behind : c.saturating_add.result ≡ c.args.position + 1 = omega (arith, c.saturating_add.ensures) in
    fold_number s.program.now s.facts.now code.class code.method code.body.now.insns c.args.position c.saturating_add.result c.args.insn.now c.in_ok-way.way c.in_ok-way.ensures behind
    (option_copied c.before-before.result) c.in_ok-number.number c.constant.result (sym c.in_default.is ∙ c.chosen.ensures) c.before-before.ensures (c.in_ok-number.ensures k) c.constant.ensures.is
