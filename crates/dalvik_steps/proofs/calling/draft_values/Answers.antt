use Rattle.std.proofs.Common.{List, map, subst}
use Rattle.dalvik_defs.specs.Names.{Text}
use Rattle.dalvik_lookups.specs.Views.{type_text}
use Rattle.dalvik_lookups.specs.declared.types.Kind.{Kind}
use Rattle.dalvik_state.specs.Drafts.{AreDraftsOf}
use Rattle.dalvik_state.specs.Views.{names_in, values_of, world_of}
use Rattle.dalvik_steps.proofs.calling.draft_values.Goals as goal

pub returns : goal.returns
returns c = λ r sound low fine.
    let l = c.args.tables.now.lookups in
    let n = names_in l in
    let drafted = c.in_ok-drafts.ensures (record { types = r.tabled.named.types; sound = sound; fine = fine }) in
    subst (λ (ts : List Text). AreDraftsOf (world_of n c.args.world.now) ts (values_of n c.args.values.now) c.in_ok-drafts.drafts) (c.in_ok-kinds.ensures.named r low)
    (subst (λ (ks : List Kind). AreDraftsOf (world_of n c.args.world.now) (map (type_text l.types) ks) (values_of n c.args.values.now) c.in_ok-drafts.drafts) c.as_slice.ensures.value drafted)
