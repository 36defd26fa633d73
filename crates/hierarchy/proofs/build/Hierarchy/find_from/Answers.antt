use Rattle.std.proofs.Common.{◌≤◌, ◌<◌, ◌-◌, ◌∙◌, length, Some, sym, arith}
use Rattle.class_defs.specs.Places.{super_place}
use Rattle.class_defs.specs.Members.{own_method}
use Rattle.class_defs.specs.Finding.{finds_from}
use Rattle.hierarchy.proofs.Looked.{among_on, among_found, among_done, among_none}
use Rattle.hierarchy.proofs.build.Hierarchy.find_from.Goals as goal

pub loop-done-preserved : goal.loop-done-preserved
loop-done-preserved c = λ p name proto h k.
    let count = h.count in
    let lt : c.loop-done.done < length p.classes = omega (arith, c.len-done-end.ensures, count) in
    among_on (own_method p name proto) (super_place p) (length p.classes) c.loop-done.done c.in-Some.one c.loop-done.at c.super_of-at.result (finds_from p name proto (Some c.args.class))
    lt c.in-Some.is (c.super_of-at.ensures.is p h) (sym (c.own_method.ensures p name proto h k) ∙ c.in-None-own_method.is) (c.loop-done.invariant p name proto h k)

pub returns-in-Some-own_method : goal.returns-in-Some-own_method
returns-in-Some-own_method c = λ p name proto h k.
    let count = h.count in
    let lt : c.loop-done.done < length p.classes = omega (arith, c.len-done-end.ensures, count) in
    among_found (own_method p name proto) (super_place p) (length p.classes) c.loop-done.done c.in-Some.one c.loop-done.at c.in-Some-own_method.found (finds_from p name proto (Some c.args.class)) lt c.in-Some.is (sym (c.own_method.ensures p name proto h k) ∙ c.in-Some-own_method.is) (c.loop-done.invariant p name proto h k)

pub returns-in-None : goal.returns-in-None
returns-in-None c = λ p name proto h k. among_none (own_method p name proto) (super_place p) (length p.classes - c.loop-done.done) c.loop-done.at (finds_from p name proto (Some c.args.class)) c.in-None.is (c.loop-done.invariant p name proto h k)

pub returns-after-loop-done : goal.returns-after-loop-done
returns-after-loop-done c = λ p name proto h k.
    let count = h.count in
    let le : length p.classes ≤ c.loop-done.done = omega (arith, c.len-done-end.ensures, count) in
    among_done (own_method p name proto) (super_place p) (length p.classes) c.loop-done.done c.loop-done.at (finds_from p name proto (Some c.args.class)) le (c.loop-done.invariant p name proto h k)
