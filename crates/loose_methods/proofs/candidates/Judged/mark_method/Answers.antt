use Rattle.std.proofs.Common.{◌∙◌, ap, cond, sym, true}
use Rattle.std.specs.Prelude.{slice_set}
use Rattle.loose_methods.proofs.candidates.Judged.mark_method.Goals as goal

pub returns-then-not-is_candidate : goal.returns-then-not-is_candidate
returns-then-not-is_candidate c = λ q j e under outward.
    sym (ap (λ b. cond b (slice_set c.args.marks.now c.args.method.now.name true) c.args.marks.now) (sym (c.is_candidate.ensures q j e under outward) ∙ c.if-not-is_candidate.true))

pub returns : goal.returns
returns c = λ q j e under outward.
    c.turn.ensures ∙ sym (ap (λ b. cond b (slice_set c.args.marks.now c.args.method.now.name true) c.args.marks.now) (sym (c.is_candidate.ensures q j e under outward) ∙ c.if-not-is_candidate.false))
