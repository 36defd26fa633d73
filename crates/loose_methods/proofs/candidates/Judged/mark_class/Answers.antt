use Rattle.std.proofs.Common.{◌≡◌, ◌∙◌, ap, subst, sym, true, false, refl}
use Rattle.std.specs.Prelude.{◌&&◌, not}
use Rattle.lemmas.proofs.Bools.{and_both, and_false}
use Rattle.lemmas.proofs.Lists.{got_short}
use Rattle.program_model.specs.MemberRules.{has_flag}
use Rattle.class_defs.specs.Starts.{is_trivial}
use Rattle.loose_methods.specs.Candidates.{is_plain_class}
use Rattle.loose_methods.specs.Marking.{AreUnder}
use Rattle.loose_methods.proofs.Marking.{no_candidates}
use Rattle.loose_methods.proofs.Under.{outward_under}
use Rattle.loose_methods.proofs.candidates.Judged.mark_class.Goals as goal

pub returns-then-has : goal.returns-then-has
returns-then-has c = λ o j e kept outward size.
    let p = c.args.self.now.program.now in
    let k = c.args.class.now in
    no_candidates p o c.args.place k c.args.marks.now c.args.marks.now e (ap (λ b. not b && is_trivial p c.args.place) (sym c.has.ensures ∙ c.if-has.true)) refl

pub returns-then-not-trivially_initialised : goal.returns-then-not-trivially_initialised
returns-then-not-trivially_initialised c = λ o j e kept outward size.
    let p = c.args.self.now.program.now in
    let k = c.args.class.now in
    let trivial : is_trivial p c.args.place ≡ false = sym (c.trivially_initialised.ensures.is p j.resolved (got_short p.classes c.args.place k e)) ∙ c.if-not-trivially_initialised.true in
    no_candidates p o c.args.place k c.args.marks.now c.args.marks.now e (ap (λ b. not (has_flag k.flags 512) && b) trivial ∙ and_false (not (has_flag k.flags 512))) refl

pub returns : goal.returns
returns c = λ o j e kept outward size.
    let p = c.args.self.now.program.now in
    let k = c.args.class.now in
    let short = got_short p.classes c.args.place k e in
    let under = c.in_ok-under.ensures j short in
    let plain : is_plain_class p c.args.place k ≡ true =
    and_both (not (has_flag k.flags 512)) (is_trivial p c.args.place) (ap not (sym c.has.ensures ∙ c.if-has.false)) (sym (c.trivially_initialised.ensures.is p j.resolved short) ∙ c.if-not-trivially_initialised.false) in
    c.mark_methods.ensures o k j e (sym c.as_slice-3.ensures) plain (subst (AreUnder p c.args.place) (sym c.as_slice.ensures.value) under)
    (c.is_any_on.ensures ∙ outward_under p c.args.place c.as_slice-2.result.now c.args.outward.now (subst (AreUnder p c.args.place) (sym c.as_slice-2.ensures.value) under) outward) kept size
