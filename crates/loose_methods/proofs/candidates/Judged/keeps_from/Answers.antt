use Rattle.std.proofs.Common.{◌∙◌, ap, sym}
use Rattle.std.specs.Prelude.{◌&&◌, ◌||◌, is_some, nat_eq, not}
use Rattle.lemmas.proofs.Bools.{or_right, or_none}
use Rattle.class_defs.proofs.Positions.{number_test}
use Rattle.class_defs.specs.Members.{own_virtual}
use Rattle.receivers.specs.Receiving.{interface_at}
use Rattle.loose_methods.proofs.Marks.{differ_test}
use Rattle.loose_methods.proofs.candidates.Judged.keeps_from.Goals as goal

pub returns-then-is_interface : goal.returns-then-is_interface
returns-then-is_interface c = λ q j k.
    let p = c.args.self.now.program.now in
    sym (or_right (not (nat_eq c.args.definer c.args.class) && is_some (own_virtual p q.name q.proto c.args.definer)) (interface_at p c.args.definer) (sym c.is_interface.ensures ∙ c.if-is_interface.true))

pub returns-then-definer-class : goal.returns-then-definer-class
returns-then-definer-class c = λ q j k.
    let p = c.args.self.now.program.now in
    let plain = sym c.is_interface.ensures ∙ c.if-is_interface.false in
    sym (ap (λ b. (not (nat_eq c.args.definer c.args.class) && is_some (own_virtual p q.name q.proto c.args.definer)) || b) plain
    ∙ (or_none (not (nat_eq c.args.definer c.args.class) && is_some (own_virtual p q.name q.proto c.args.definer))
    ∙ ap (λ b. not b && is_some (own_virtual p q.name q.proto c.args.definer)) (number_test c.args.definer c.args.class c.if-definer-class.true)))

pub returns : goal.returns
returns c = λ q j k.
    let p = c.args.self.now.program.now in
    let plain = sym c.is_interface.ensures ∙ c.if-is_interface.false in
    c.is_some.ensures ∙ (ap is_some (c.own_virtual.ensures q.name q.proto j.resolved.of k)
    ∙ sym (ap (λ b. (not (nat_eq c.args.definer c.args.class) && is_some (own_virtual p q.name q.proto c.args.definer)) || b) plain
    ∙ (or_none (not (nat_eq c.args.definer c.args.class) && is_some (own_virtual p q.name q.proto c.args.definer))
    ∙ ap (λ b. not b && is_some (own_virtual p q.name q.proto c.args.definer)) (differ_test c.args.definer c.args.class c.if-definer-class.false))))
