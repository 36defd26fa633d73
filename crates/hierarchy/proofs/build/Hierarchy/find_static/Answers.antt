use Rattle.std.proofs.Common.{sym}
use Rattle.hierarchy.proofs.Indexed.{AtPlace, at_place}
use Rattle.hierarchy.proofs.Looked.{static_none}
use Rattle.hierarchy.proofs.build.Hierarchy.find_static.Goals as goal

pub returns-in-None-place_of : goal.returns-in-None-place_of
returns-in-None-place_of c = λ h.
    let look = c.in-Some.ensures.lookup in
    let at : AtPlace c.args.program.now.methods c.args.method c.in-Some.name.now = at_place c.args.program.now.methods c.as_slice.result.now c.args.method c.in-Some.name.now c.as_slice.ensures look.1 look.3.0 in
    static_none c.args.program.now c.args.method c.in-Some.name.now at.got (sym (c.in-None-place_of.ensures.is c.args.program.now h))
