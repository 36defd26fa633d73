use Rattle.std.proofs.Common.{◌∙◌, ap, sym, not, inl, inr}
use Rattle.std.specs.Prelude.{◌&&◌}
use Rattle.dalvik_defs.specs.Naming.{named}
use Rattle.dalvik_defs.specs.Under.{is_under}
use Rattle.dalvik_lookups.specs.Views.{type_text}
use Rattle.dalvik_lookups.proofs.Unders.{whole_under, same_under}
use Rattle.dalvik_lookups.proofs.lookups.Lookups.is_under.Goals as goal

pub returns-then-is_same-clause-answer : goal.returns-then-is_same-clause-answer
returns-then-is_same-clause-answer c = λ r k h h'.
    ap not (c.is_empty_type-full.ensures r.tabled.named.types) ∙ same_under c.args.self.now c.args.lower c.args.upper (c.is_same.ensures.same c.if-is_same.true)

pub returns-in_ok-answer-clause-answer : goal.returns-in_ok-answer-clause-answer
returns-in_ok-answer-clause-answer c = λ r k h h'.
    c.in_ok-answer.ensures.answer r k (c.inside-low.ensures.kind c.args.self.now.types h) (c.inside-high.ensures.kind c.args.self.now.types h')
    (elim c.shared-shared.ensures.all [ inl e ↦ inl (c.inside-low.ensures.depth ∙ e) | inr e ↦ inr (c.inside-high.ensures.depth ∙ e) ])
    ∙ sym (whole_under c.args.self.now r c.args.lower c.args.upper c.inside-low.result c.inside-high.result c.shared-shared.result h h' (c.is_same.ensures.other c.if-is_same.false) c.shared-shared.ensures.within c.shared-shared.ensures.other
    c.inside-low.ensures.base c.inside-low.ensures.depth c.inside-high.ensures.base c.inside-high.ensures.depth
    ∙ ap (λ b. b && is_under (named c.args.self.now.program.now) c.args.self.now.framework.now (type_text c.args.self.now.types c.inside-low.result) (type_text c.args.self.now.types c.inside-high.result)) (sym (c.may_stand.ensures r.tabled.named.types) ∙ c.if-may_stand.true))

pub returns-else-may_stand-clause-answer : goal.returns-else-may_stand-clause-answer
returns-else-may_stand-clause-answer c = λ r k h h'.
    sym (whole_under c.args.self.now r c.args.lower c.args.upper c.inside-low.result c.inside-high.result c.shared-shared.result h h' (c.is_same.ensures.other c.if-is_same.false) c.shared-shared.ensures.within c.shared-shared.ensures.other
    c.inside-low.ensures.base c.inside-low.ensures.depth c.inside-high.ensures.base c.inside-high.ensures.depth
    ∙ ap (λ b. b && is_under (named c.args.self.now.program.now) c.args.self.now.framework.now (type_text c.args.self.now.types c.inside-low.result) (type_text c.args.self.now.types c.inside-high.result)) (sym (c.may_stand.ensures r.tabled.named.types) ∙ c.if-may_stand.false))
