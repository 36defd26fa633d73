use Rattle.std.proofs.Common.{ap, subst, sym}
use Rattle.std.specs.Prelude.{Option, Some, None}
use Rattle.dalvik_lookups.specs.declared.types.Kind.{Kind}
use Rattle.dalvik_state.specs.Drafts.{given_world}
use Rattle.dalvik_state.specs.Views.{names_in}
use Rattle.dalvik_state.proofs.Later.{later_self}
use Rattle.dalvik_steps.specs.Flights.{thrown_value, thrown_world, IsFlying, IsThrownWith}
use Rattle.dalvik_steps.specs.declared.throwing.Thrown.{Thrown}
use Rattle.dalvik_steps.proofs.Flying.{flying_made, flying_value}
use Rattle.dalvik_steps.proofs.throwing.flying_of.Goals as goal

pub returns-in-Value : goal.returns-in-Value
returns-in-Value c = λ l r i h.
    let base = c.args.world.now in
    let g = c.args.gifts.now in
    let w = given_world (names_in l) base g in
    let fine = subst (IsThrownWith l base g) c.in-Value.is h in
    subst (λ (t : Thrown). IsFlying l base g (thrown_world l w t) (thrown_value l w t) (record { datum = Some c.in-Value.datum; kind = c.kind_of.result })) (sym c.in-Value.is)
    (flying_value l r base g c.in-Value.datum (record { datum = Some c.in-Value.datum; kind = c.kind_of.result }) i fine (ap (λ (k : Option Kind). record { datum = Some c.in-Value.datum; kind = k }) c.kind_of.ensures))

pub returns-in-New : goal.returns-in-New
returns-in-New c = λ l r i h.
    let base = c.args.world.now in
    let g = c.args.gifts.now in
    let w = given_world (names_in l) base g in
    let low = subst (IsThrownWith l base g) c.in-New.is h in
    subst (λ (t : Thrown). IsFlying l base g (thrown_world l w t) (thrown_value l w t) (record { datum = None; kind = Some c.plain.result })) (sym c.in-New.is)
    (flying_made l r base g w c.in-New.class (record { datum = None; kind = Some c.plain.result }) low (later_self w) (ap (λ (k : Kind). record { datum = None; kind = Some k }) c.plain.ensures))
