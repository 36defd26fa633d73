use Rattle.std.proofs.Common.{◌≡◌, ◌<◌, ◌-◌, ◌∙◌, false, length, eq-eqb, ne_eqb, sym, subst}
use Rattle.std.specs.Prelude.{nat_eq}
use Rattle.verify.specs.Building.{class_above}
use Rattle.devirt.specs.Binding.{in_line}
use Rattle.devirt.proofs.Chains.{hits_here, hits_none, hits_on}
use Rattle.devirt.proofs.binding.Binder.in_line.Goals as goal

pub loop-done-preserved : goal.loop-done-preserved
loop-done-preserved c = λ h.
    let p = c.args.self.now.finder.program.now in
    let lt : c.loop-done.done < length p.classes = subst (λ m. c.loop-done.done < m) c.len-done-end.ensures c.loop-done-test.true in
    let other : nat_eq c.args.upper c.in-Some.one ≡ false = ne_eqb c.args.upper c.in-Some.one (λ e. c.if-one-upper.false (sym e)) in
    hits_on (class_above p) c.args.upper (length p.classes) c.loop-done.done c.in-Some.one c.loop-done.at c.class_above-at.result (in_line p c.args.lower c.args.upper) lt c.in-Some.is other (c.class_above-at.ensures h) (c.loop-done.invariant h)

pub returns-then-one-upper : goal.returns-then-one-upper
returns-then-one-upper c = λ h.
    let p = c.args.self.now.finder.program.now in
    let lt : c.loop-done.done < length p.classes = subst (λ m. c.loop-done.done < m) c.len-done-end.ensures c.loop-done-test.true in
    hits_here (class_above p) c.args.upper (length p.classes) c.loop-done.done c.in-Some.one c.loop-done.at (in_line p c.args.lower c.args.upper) lt c.in-Some.is (eq-eqb c.args.upper c.in-Some.one (sym c.if-one-upper.true)) (c.loop-done.invariant h)

pub returns-in-None : goal.returns-in-None
returns-in-None c = λ h.
    let p = c.args.self.now.finder.program.now in
    sym (hits_none (class_above p) c.args.upper (length p.classes - c.loop-done.done) c.loop-done.at c.in-None.is) ∙ c.loop-done.invariant h
