use Rattle.std.proofs.Common.{◌≡◌, Bool, sym, subst, ◌∙◌}
use Rattle.std.specs.Prelude.{IfOk}
use Rattle.dalvik_lookups.specs.Views.{type_text}
use Rattle.dalvik_lookups.proofs.Keeping.{keeps_class, over_class, not_over}
use Rattle.dalvik_lookups.proofs.lookups.Lookups.keeps_over.Goals as goal

pub returns-then-keeps_virtual-clause-kept : goal.returns-then-keeps_virtual-clause-kept
returns-then-keeps_virtual-clause-kept c = λ o name proto w m h.
    let k = keeps_class c.args.self.now.program.now o name proto c.args.class (sym (c.keeps_virtual.ensures o name proto w) ∙ c.if-keeps_virtual.true) in
    c.is_under.ensures.kept w.right m h (c.kind_of_class.ensures w.right k.0 k.1).kind

pub returns-then-keeps_virtual-clause-is : goal.returns-then-keeps_virtual-clause-is
returns-then-keeps_virtual-clause-is c = λ o name proto w m h.
    let e = sym (c.keeps_virtual.ensures o name proto w) ∙ c.if-keeps_virtual.true in
    let k = keeps_class c.args.self.now.program.now o name proto c.args.class e in
    let upper = c.kind_of_class.ensures w.right k.0 k.1 in
    subst (λ (x : Bool). IfOk c.is_under.result (λ r. r ≡ x))
    (over_class c.args.self.now.program.now c.args.self.now.framework.now o name proto (type_text c.args.self.now.types c.args.lower) (type_text c.args.self.now.types c.kind_of_class.result) c.args.class k.0 k.1 upper.text e)
    (c.is_under.ensures.answer w.right m h upper.kind)

pub returns-else-keeps_virtual-clause-is : goal.returns-else-keeps_virtual-clause-is
returns-else-keeps_virtual-clause-is c = λ o name proto w m h.
    not_over c.args.self.now.program.now c.args.self.now.framework.now o name proto (type_text c.args.self.now.types c.args.lower) c.args.class (sym (c.keeps_virtual.ensures o name proto w) ∙ c.if-keeps_virtual.false)
