use Rattle.std.proofs.Common.{subst, sym}
use Rattle.hierarchy.specs.Quieting.{Serves}
use Rattle.hierarchy.proofs.Served.{serves}
use Rattle.hierarchy.proofs.Started.{starts_are, few_of}
use Rattle.hierarchy.proofs.build.find_starts.Goals as goal

pub returns-clause-starts : goal.returns-clause-starts
returns-clause-starts c = λ h. record { is = starts_are c.args.program.now c.in_ok-initialisers.initialisers.items h (c.in_ok-initialisers.ensures (few_of c.args.program.now h)) }

pub returns-clause-trivial : goal.returns-clause-trivial
returns-clause-trivial c = λ h made.
    let table = c.in_ok-initialisers.ensures (few_of c.args.program.now h) in
    c.in_ok-trivial.ensures c.args.program.now
    (subst (λ l. Serves c.args.program.now l c.as_slice-2.result.now c.args.shape.now.lists.rows c.as_slice-3.result.now) (sym c.as_slice.ensures.value)
    (serves c.args.program.now c.args.shape.now c.in_ok-initialisers.initialisers.items c.as_slice-2.result.now c.as_slice-3.result.now h made (record { is = starts_are c.args.program.now c.in_ok-initialisers.initialisers.items h table }) table
    c.as_slice-2.ensures.value c.as_slice-3.ensures.value))
