use Rattle.std.proofs.Common.{◌≡◌, ◌+◌, ◌++◌, ◌∙◌, List, Bool, drop, false, length, take, ap, refl, sym, subst, arith}
use Rattle.std.proofs.lemmas.List.{length-replicate}
use Rattle.rule_text.specs.Related.{AreEach}
use Rattle.if_text.specs.Items.{plain_of, ifs_of}
use Rattle.if_text.specs.Readings.{IsIfOf}
use Rattle.if_rules.specs.Added.{AddsBy, IsSoFar, left_of}
use Rattle.if_rules.proofs.Rounds.{items_after, left_replicate, settled, so_far_more, so_far_none}
use Rattle.if_rules.proofs.fire.settle.Goals as goal

pub loop-added-init : goal.loop-added-init
loop-added-init c = (
  ap length c.in_ok-added.ensures ∙ length-replicate (length c.args.instances.now) false,
  left_replicate (length c.args.instances.now) ∙ ap left_of (sym c.in_ok-added.ensures),
  refl,
  λ items formed resolved read are. so_far_none c.args.program.now (plain_of items) (ifs_of items) c.args.instances.now (length c.args.instances.now) c.in_ok-added.added.items c.args.rules.now.plain.entries.items c.in_ok-added.ensures read.plain,
)

pub overflow_sub-left : goal.overflow_sub-left
overflow_sub-left c = omega (arith, c.in_ok-count.ensures.counts, c.loop-added.invariant.1, ap left_of c.as_mut_slice.ensures.value)

pub loop-added-smaller : goal.loop-added-smaller
loop-added-smaller c = omega (arith, c.in_ok-count.ensures.counts, c.loop-added.invariant.1, ap left_of c.as_mut_slice.ensures.value, c.if-done.false)

pub loop-added-preserved : goal.loop-added-preserved
loop-added-preserved c =
    let long : length c.add_by.new.added ≡ c.loop-added.added.len = omega arith in
    let after : take c.loop-added.added.len (c.add_by.new.added ++ drop (length c.add_by.new.added) c.loop-added.added.items) ≡ c.add_by.new.added = items_after c.loop-added.added.len c.add_by.new.added c.loop-added.added.items long in
    let counts : c.in_ok-count.count + left_of c.add_by.new.added ≡ left_of c.as_mut_slice.result.now = c.in_ok-count.ensures.counts in (
      ap length after ∙ c.add_by.ensures.size ∙ ap length c.as_mut_slice.ensures.value ∙ c.loop-added.invariant.0,
      omega (arith, counts, c.loop-added.invariant.1, ap left_of c.as_mut_slice.ensures.value, ap left_of after),
      c.add_by.ensures.ifs ∙ c.loop-added.invariant.2,
      λ items formed resolved read are. subst (λ (bs : List Bool). IsSoFar c.args.program.now (plain_of items) (ifs_of items) c.args.instances.now bs c.add_by.new.rules.plain.entries.items) (sym after)
          (so_far_more c.args.program.now (plain_of items) (ifs_of items) c.args.instances.now c.in_ok-table.table c.loop-added.added.items c.add_by.new.added c.loop-added.rules.plain.entries.items c.add_by.new.rules.plain.entries.items c.in_ok-count.count
          (λ es of. c.in_ok-table.ensures.table es formed resolved.of of)
          (subst (λ (bs : List Bool). AddsBy c.args.program.now c.in_ok-table.table (ifs_of items) c.args.instances.now bs c.add_by.new.added c.loop-added.rules.plain.entries.items c.add_by.new.rules.plain.entries.items c.in_ok-count.count) c.as_mut_slice.ensures.value
          (c.in_ok-count.ensures.adds (ifs_of items) formed resolved (subst (λ (rs : List _). AreEach IsIfOf rs (ifs_of items)) (sym c.loop-added.invariant.2) read.ifs) are.sound))
          (c.loop-added.invariant.3 items formed resolved read are)),
    )

pub returns-then-done : goal.returns-then-done
returns-then-done c = λ items formed resolved read are. settled c.args.program.now (plain_of items) (ifs_of items) c.args.instances.now c.in_ok-table.table c.loop-added.added.items c.add_by.new.added c.loop-added.rules.plain.entries.items c.add_by.new.rules.plain.entries.items c.in_ok-count.count
    c.if-done.true are (λ es of. c.in_ok-table.ensures.table es formed resolved.of of)
    (subst (λ (bs : List Bool). AddsBy c.args.program.now c.in_ok-table.table (ifs_of items) c.args.instances.now bs c.add_by.new.added c.loop-added.rules.plain.entries.items c.add_by.new.rules.plain.entries.items c.in_ok-count.count) c.as_mut_slice.ensures.value
    (c.in_ok-count.ensures.adds (ifs_of items) formed resolved (subst (λ (rs : List _). AreEach IsIfOf rs (ifs_of items)) (sym c.loop-added.invariant.2) read.ifs) are.sound))
    (c.loop-added.invariant.3 items formed resolved read are)
