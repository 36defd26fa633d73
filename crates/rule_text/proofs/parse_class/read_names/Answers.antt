use Rattle.std.proofs.Common.{◌≡◌, [], ◌∷◌, ◌++◌, sym, subst, rules}
use Rattle.rule_text.specs.Reads.{Reads, alone}
use Rattle.rule_text.specs.Related.{AreEach, IsPatternOf}
use Rattle.rule_text.specs.Spelling.{are_names, is_name, separated}
use Rattle.rule_text.proofs.ReadLemmas.{first_of, names_more}
use Rattle.rule_text.proofs.RefusalLemmas.{passed}
use Rattle.rule_text.proofs.ClassRefusals.{no_name_here, later_name}
use Rattle.rule_text.proofs.parse_class.read_names.Goals as goal

pub loop-alloc-init : goal.loop-alloc-init
loop-alloc-init c =
    let is : c.push.new.self.items ≡ c.in_ok-read_name.field-0 ∷ [] = search rules in
    let one : Reads IsPatternOf is_name alone c.args.tokens.now c.args.at.now c.read_name.new.at c.in_ok-read_name.field-0 = search rules in
    (search rules, search rules, subst (λ items. Reads (AreEach IsPatternOf) are_names separated c.args.tokens.now c.args.at.now c.read_name.new.at items) (sym is) (first_of IsPatternOf is_name c.args.tokens.now c.args.at.now c.read_name.new.at c.in_ok-read_name.field-0 one))

pub loop-alloc-preserved : goal.loop-alloc-preserved
loop-alloc-preserved c =
    let is : c.push-in-loop-alloc.new.self.items ≡ c.loop-alloc.names.items ++ c.in_ok-read_name-2.field-0 ∷ [] = search rules in
    let one : Reads IsPatternOf is_name alone c.args.tokens.now c.accept.new.at c.read_name-in-loop-alloc.new.at c.in_ok-read_name-2.field-0 = search rules in (
      search rules,
      search rules,
      subst (λ items. Reads (AreEach IsPatternOf) are_names separated c.args.tokens.now c.args.at.now c.read_name-in-loop-alloc.new.at items) (sym is)
          (names_more IsPatternOf is_name c.args.tokens.now c.args.at.now c.loop-alloc.at c.accept.new.at c.read_name-in-loop-alloc.new.at c.loop-alloc.names.items c.in_ok-read_name-2.field-0 c.loop-alloc.invariant.2 (search rules) one),
    )

pub returns-in_err-read_name-clause-halt : goal.returns-in_err-read_name-clause-halt
returns-in_err-read_name-clause-halt c assumed =
    passed c.from_residual.result c.in_err-read_name.field-0.0 c.from_residual.ensures.1 (no_name_here assumed c.args.tokens.now c.args.at.now c.read_name.new.at) c.in_err-read_name.ensures.stop

pub returns-in_err-read_name-2-clause-halt : goal.returns-in_err-read_name-2-clause-halt
returns-in_err-read_name-2-clause-halt c assumed =
    passed c.from_residual-in_err-read_name-2.result c.in_err-read_name-2.field-0.0 c.from_residual-in_err-read_name-2.ensures.1 (later_name assumed c.args.tokens.now c.args.at.now c.loop-alloc.at c.accept.new.at c.read_name-in-loop-alloc.new.at c.loop-alloc.names.items c.loop-alloc.invariant.2 (search rules)) c.in_err-read_name-2.ensures.stop
