-- A table of facts that is closed by number is closed by names.
use Rattle.program_model.specs.declared.pass.Outside.{Outside}
use Rattle.program_model.specs.declared.program.Program.{Program}
use Rattle.call_graph.specs.declared.live_set.LiveSet.{LiveSet}
use Rattle.call_targets.specs.Targeted.{IsTargeted}
use Rattle.call_targets.specs.declared.table.Targets.{Targets}
use Rattle.closed_facts.specs.Closed.{AreClosed}
use Rattle.closed_facts.specs.Entries.{OpensEntries}
use Rattle.dalvik_defs.specs.Naming.{named}
use Rattle.dalvik_defs.specs.Outer.{outer_of}
use Rattle.facts.specs.declared.facts.Facts as table
use Rattle.reach.specs.Marked.{IsMarked}
use Rattle.reach_bridge.proofs.Based.{S}
use Rattle.removal_bridge.proofs.Formed.{no_object}
use Rattle.run_facts.specs.Closed as name
use Rattle.facts_kept.specs.Names.{named_facts, values}
use Rattle.facts_kept.proofs.Beginning.{begins_named}
use Rattle.facts_kept.proofs.Begun.{firsts_named, opened_named}
use Rattle.facts_kept.proofs.Entering.{calls_named}
use Rattle.facts_kept.proofs.Fielding.{gets_same}
use Rattle.facts_kept.proofs.Fits.{all_fit}
use Rattle.facts_kept.proofs.Flowing.{goes_on_named, returns_named, throws_named}
use Rattle.facts_kept.proofs.Holding.{puts_named}
use Rattle.facts_kept.proofs.Opening.{methods_open, statics_open}
use Rattle.facts_kept.proofs.Starting.{initialisers_entered}
use Rattle.facts_kept.proofs.Taking.{taken_named}

pub entries_named : (p : Program) (o : Outside) (live : LiveSet) (targets : Targets) (t : table.Facts) → IsMarked p o live → IsTargeted p o live targets → OpensEntries p targets t
    → name.OpensEntries (values p) (named p) (outer_of p o) (named_facts p t)
entries_named p o live targets t g exact entries = record {
  statics = statics_open p o live g targets exact t entries.opens;
  methods = methods_open p o live g targets exact t entries.opens;
  initialisers = initialisers_entered p o live g targets exact t entries.starts;
}

pub closed_named : (p : Program) (o : Outside) (live : LiveSet) (targets : Targets) (t : table.Facts) → IsMarked p o live → IsTargeted p o live targets → AreClosed p o live targets t
    → name.IsClosed (values p) (named p) (outer_of p o) (named_facts p t)
closed_named p o live targets t g exact closed =
    let s = S p o live g in
    record {
      entries = entries_named p o live targets t g exact closed.entries;
      begins = begins_named p s t closed.begins;
      fields = record { firsts = firsts_named p s o t closed.fields; opened = opened_named p s o t closed.fields; puts = puts_named p s o t (all_fit p s t) closed.fields };
      flows = record {
        onward = goes_on_named p s t g.once (no_object p g.formed) (all_fit p s t) (gets_same p s t g.once (no_object p g.formed)) closed.flows.onward;
        taken = λ k n to r v at taker e results. taken_named p o live g targets exact t closed.reached_live closed.flows k n to r at taker e v results;
        thrown = throws_named p s t closed.flows.thrown;
      };
      calls = calls_named p o live g targets exact t closed.reached_live closed.calls;
      returns = returns_named p s t closed.returns;
    }
