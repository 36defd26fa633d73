use Rattle.std.proofs.Common.{◌≡◌, [], ◌∷◌, ◌++◌, sym, subst, rules}
use Rattle.rule_text.specs.Reads.{Reads, alone}
use Rattle.rule_text.specs.Related.{AreEach, IsTypeOf}
use Rattle.rule_text.specs.Spelling.{are_some, is_argument, separated}
use Rattle.rule_text.proofs.ReadLemmas.{first_of, names_more}
use Rattle.rule_text.proofs.RefusalLemmas.{passed}
use Rattle.rule_text.proofs.LineRefusals.{no_argument_here, later_argument}
use Rattle.rule_text.proofs.parse_member.read_argument_types.Goals as goal

pub loop-alloc-init : goal.loop-alloc-init
loop-alloc-init c =
    let is : c.push.new.self.items ≡ c.in_ok-read_argument.field-0 ∷ [] = search rules in
    let one : Reads IsTypeOf is_argument alone c.args.tokens.now c.args.at.now c.read_argument.new.at c.in_ok-read_argument.field-0 = search rules in
    (search rules, search rules, subst (λ items. Reads (AreEach IsTypeOf) (are_some is_argument) separated c.args.tokens.now c.args.at.now c.read_argument.new.at items) (sym is) (first_of IsTypeOf is_argument c.args.tokens.now c.args.at.now c.read_argument.new.at c.in_ok-read_argument.field-0 one))

pub loop-alloc-preserved : goal.loop-alloc-preserved
loop-alloc-preserved c =
    let is : c.push-in-loop-alloc.new.self.items ≡ c.loop-alloc.types.items ++ c.in_ok-read_argument-2.field-0 ∷ [] = search rules in
    let one : Reads IsTypeOf is_argument alone c.args.tokens.now c.accept.new.at c.read_argument-in-loop-alloc.new.at c.in_ok-read_argument-2.field-0 = search rules in (
      search rules,
      search rules,
      subst (λ items. Reads (AreEach IsTypeOf) (are_some is_argument) separated c.args.tokens.now c.args.at.now c.read_argument-in-loop-alloc.new.at items) (sym is)
          (names_more IsTypeOf is_argument c.args.tokens.now c.args.at.now c.loop-alloc.at c.accept.new.at c.read_argument-in-loop-alloc.new.at c.loop-alloc.types.items c.in_ok-read_argument-2.field-0 c.loop-alloc.invariant.2 (search rules) one),
    )

pub returns-in_err-read_argument-clause-halt : goal.returns-in_err-read_argument-clause-halt
returns-in_err-read_argument-clause-halt c assumed =
    passed c.from_residual.result c.in_err-read_argument.field-0.0 c.from_residual.ensures.1 (no_argument_here assumed c.args.tokens.now c.args.at.now c.read_argument.new.at) c.in_err-read_argument.ensures.stop

pub returns-in_err-read_argument-2-clause-halt : goal.returns-in_err-read_argument-2-clause-halt
returns-in_err-read_argument-2-clause-halt c assumed =
    passed c.from_residual-in_err-read_argument-2.result c.in_err-read_argument-2.field-0.0 c.from_residual-in_err-read_argument-2.ensures.1
    (later_argument assumed c.args.tokens.now c.args.at.now c.loop-alloc.at c.accept.new.at c.read_argument-in-loop-alloc.new.at c.loop-alloc.types.items c.loop-alloc.invariant.2 (search rules)) c.in_err-read_argument-2.ensures.stop
