use Rattle.std.proofs.Common.{◌≡◌, ◌++◌, subst}
use Rattle.std.specs.Prelude.{ℕ, OnOk}
use Rattle.if_text.specs.Wildcards.{numbered}
use Rattle.if_text.specs.declared.slots.Source.TheVariants.{Name}
use Rattle.if_text.proofs.Loops.{many_names, only_name}
use Rattle.if_text.proofs.slots.push_class_names.Goals as goal

pub returns-then-not-one : goal.returns-then-not-one
returns-then-not-one c = λ ws are. subst (λ ss. OnOk c.push_blank_names.result (c.push_blank_names.new.out.items ≡ c.args.out.now.items ++ ss)) (many_names c.args.names.now ws c.if-not-one.true are) (c.push_blank_names.ensures ws are)

pub returns : goal.returns
returns c = λ ws are. only_name (λ ss. OnOk c.push_names.result (c.push_names.new.out.items ≡ c.args.out.now.items ++ ss)) c.args.names.now c.index-names-0.result ws c.if-not-one.false c.index-names-0.is are
    (λ w of. subst (λ (k : ℕ). OnOk c.push_names.result (c.push_names.new.out.items ≡ c.args.out.now.items ++ numbered (λ i. Name i) 0 k)) (c.name_wilds.ensures w of) c.push_names.ensures)
