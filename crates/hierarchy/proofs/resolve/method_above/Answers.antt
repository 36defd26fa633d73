use Rattle.std.proofs.Common.{◌≡◌, ◌<◌, ◌-◌, ◌∙◌, length, Some, ap, sym, subst, arith}
use Rattle.class_defs.specs.Places.{super_place, chain_of}
use Rattle.class_defs.specs.Finding.{first_among}
use Rattle.hierarchy.specs.Walking.{waits, IsSpent, in_interfaces, in_lists}
use Rattle.hierarchy.proofs.Looked.{among_on, among_found, among_none}
use Rattle.hierarchy.proofs.Marks.{fair_same}
use Rattle.hierarchy.proofs.Resolving.{lists_answer}
use Rattle.hierarchy.proofs.resolve.method_above.Goals as goal

pub loop-done-preserved : goal.loop-done-preserved
loop-done-preserved c = record {
  fair = λ f. c.in_ok-found.ensures.fair (fair_same c.loop-done.walk c.push_all.new.self c.in_ok-push_all.ensures.seen c.in_ok-push_all.ensures.list (c.loop-done.invariant.fair f));
  size = c.in_ok-found.ensures.size ∙ ap (λ v. length v.items) c.in_ok-push_all.ensures.seen ∙ c.loop-done.invariant.size;
  going = λ p name proto is k clear.
      let g = c.loop-done.invariant.going p name proto is k clear in
      let spent : IsSpent (in_interfaces p name proto) (length p.classes) c.push_all.new.self.seen.items = subst (λ v. IsSpent (in_interfaces p name proto) (length p.classes) v.items) (sym c.in_ok-push_all.ensures.seen) g.1 in
      let answer : in_lists p name proto c.in-Some.one ≡ c.in_ok-found.field-0 = lists_answer p name proto c.in-Some.one (waits c.push_all.new.self) c.row.result.now (waits c.loop-done.walk) c.in_ok-found.field-0 c.in_ok-push_all.ensures.waits g.0 (c.row.ensures ∙ is.lists c.in-Some.one) (c.in_ok-found.ensures.is p name proto is k spent) in
      let count = is.count in
      let lt : c.loop-done.done < length p.classes = omega (arith, c.len-done-end.ensures, count) in
      let whole = first_among (in_lists p name proto) (chain_of p (Some c.args.class)) in
      let after = c.in_ok-found.ensures.spent p name proto is k spent c.in-None-2.is in (
        after.0,
        after.1,
        among_on (in_lists p name proto) (super_place p) (length p.classes) c.loop-done.done c.in-Some.one c.loop-done.at c.super_of-at.result whole lt c.in-Some.is (c.super_of-at.ensures.is p is) (answer ∙ c.in-None-2.is) g.2,
      );
}

pub returns-in-Some-2-clause-is : goal.returns-in-Some-2-clause-is
returns-in-Some-2-clause-is c = λ p name proto is k clear.
    let g = c.loop-done.invariant.going p name proto is k clear in
    let spent : IsSpent (in_interfaces p name proto) (length p.classes) c.push_all.new.self.seen.items = subst (λ v. IsSpent (in_interfaces p name proto) (length p.classes) v.items) (sym c.in_ok-push_all.ensures.seen) g.1 in
    let answer : in_lists p name proto c.in-Some.one ≡ c.in_ok-found.field-0 = lists_answer p name proto c.in-Some.one (waits c.push_all.new.self) c.row.result.now (waits c.loop-done.walk) c.in_ok-found.field-0 c.in_ok-push_all.ensures.waits g.0 (c.row.ensures ∙ is.lists c.in-Some.one) (c.in_ok-found.ensures.is p name proto is k spent) in
    let count = is.count in
    let lt : c.loop-done.done < length p.classes = omega (arith, c.len-done-end.ensures, count) in
    let whole = first_among (in_lists p name proto) (chain_of p (Some c.args.class)) in
    among_found (in_lists p name proto) (super_place p) (length p.classes) c.loop-done.done c.in-Some.one c.loop-done.at c.in-Some-2.found whole lt c.in-Some.is (answer ∙ c.in-Some-2.is) g.2

pub returns-in-None-clause-is : goal.returns-in-None-clause-is
returns-in-None-clause-is c = λ p name proto is k clear.
    let g = c.loop-done.invariant.going p name proto is k clear in
    among_none (in_lists p name proto) (super_place p) (length p.classes - c.loop-done.done) c.loop-done.at (first_among (in_lists p name proto) (chain_of p (Some c.args.class))) c.in-None.is g.2
