use Rattle.std.proofs.Common.{◌≤◌, ◌<◌, ◌-◌, ◌∙◌, length, sym, arith}
use Rattle.class_defs.specs.Places.{super_place}
use Rattle.class_defs.specs.Members.{own_virtual}
use Rattle.class_defs.specs.Finding.{finds_virtual}
use Rattle.hierarchy.proofs.Looked.{among_on, among_found, among_done, among_none}
use Rattle.hierarchy.proofs.build.Hierarchy.find_virtual.Goals as goal

pub loop-done-preserved : goal.loop-done-preserved
loop-done-preserved c = λ name proto h k.
    let count = h.count in
    let lt : c.loop-done.done < length c.args.program.now.classes = omega (arith, c.len-done-end.ensures, count) in
    among_on (own_virtual c.args.program.now name proto) (super_place c.args.program.now) (length c.args.program.now.classes) c.loop-done.done c.in-Some.one c.loop-done.at c.super_of-at.result (finds_virtual c.args.program.now name proto c.args.class)
    lt c.in-Some.is (c.super_of-at.ensures.is c.args.program.now h) (sym (c.own_virtual.ensures name proto h k) ∙ c.in-None-own_virtual.is) (c.loop-done.invariant name proto h k)

pub returns-in-Some-own_virtual : goal.returns-in-Some-own_virtual
returns-in-Some-own_virtual c = λ name proto h k.
    let count = h.count in
    let lt : c.loop-done.done < length c.args.program.now.classes = omega (arith, c.len-done-end.ensures, count) in
    among_found (own_virtual c.args.program.now name proto) (super_place c.args.program.now) (length c.args.program.now.classes) c.loop-done.done c.in-Some.one c.loop-done.at c.in-Some-own_virtual.found (finds_virtual c.args.program.now name proto c.args.class) lt c.in-Some.is (sym (c.own_virtual.ensures name proto h k) ∙ c.in-Some-own_virtual.is) (c.loop-done.invariant name proto h k)

pub returns-in-None : goal.returns-in-None
returns-in-None c = λ name proto h k. among_none (own_virtual c.args.program.now name proto) (super_place c.args.program.now) (length c.args.program.now.classes - c.loop-done.done) c.loop-done.at (finds_virtual c.args.program.now name proto c.args.class) c.in-None.is (c.loop-done.invariant name proto h k)

pub returns-after-loop-done : goal.returns-after-loop-done
returns-after-loop-done c = λ name proto h k.
    let count = h.count in
    let le : length c.args.program.now.classes ≤ c.loop-done.done = omega (arith, c.len-done-end.ensures, count) in
    among_done (own_virtual c.args.program.now name proto) (super_place c.args.program.now) (length c.args.program.now.classes) c.loop-done.done c.loop-done.at (finds_virtual c.args.program.now name proto c.args.class) le (c.loop-done.invariant name proto h k)
