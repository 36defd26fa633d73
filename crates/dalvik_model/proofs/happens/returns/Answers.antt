use Rattle.std.proofs.Common.{◌≡◌, ◌∙◌, ℕ, ◌<◌, length, ap, subst, sym}
use Rattle.dalvik_defs.specs.Naming.{method_at}
use Rattle.dalvik_lookups.specs.Views.{type_text}
use Rattle.dalvik_steps.proofs.Begun.{nothing_given}
use Rattle.dalvik_model.proofs.Returned.{back_fine, no_method, returned, running_low, same_method}
use Rattle.dalvik_model.proofs.happens.returns.Goals as goal

pub returns-in-Some-clause-ok : goal.returns-in-Some-clause-ok
returns-in-Some-clause-ok c = λ o floats script steps f h fine.
    let l = c.args.tables.now.lookups in
    let old = c.args.state.now in
    let p = l.program.now in
    let kind = c.result_kind-kind.result in
    let none = c.new.ensures in
    let same = same_method c.running_method.result c.in-Some.method old.stack.items f c.running_method.ensures c.in-Some.is h.top in
    let low = subst (λ (n : ℕ). n < length p.methods) (sym same) (running_low l steps old f h) in
    let result : type_text l.types kind ≡ (method_at p f.method).signature.result = c.result_kind-kind.ensures.named h.right low ∙ ap (λ (n : ℕ). (method_at p n).signature.result) same in
    returned l o floats script steps old c.gives.new.state f kind c.new.result c.args.value c.gives.result result none
    (c.gives.ensures.ok steps script h.early h.right h.state h.on (nothing_given l old.world c.new.result none h.state.world) (back_fine l old.world c.new.result c.args.value none fine))

pub returns-in-Some-clause-err : goal.returns-in-Some-clause-err
returns-in-Some-clause-err c = λ steps f h. c.gives.ensures.err steps h.right h.state h.on

pub returns-in-None-clause-ok : goal.returns-in-None-clause-ok
returns-in-None-clause-ok c = λ o floats script steps f h fine. no_method c.running_method.result c.args.state.now.stack.items f c.running_method.ensures c.in-None.is h.top
