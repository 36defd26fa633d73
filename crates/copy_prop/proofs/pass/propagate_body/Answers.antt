use Rattle.std.proofs.Common.{◌≡◌, List, length, refl, ap, subst}
use Rattle.copy_prop.specs.Propagated.{AreReread}
use Rattle.copy_prop.specs.declared.copied.Copied.{Copied}
use Rattle.copy_prop.proofs.Reread.{body_counted, body_propagated}
use Rattle.copy_prop.proofs.pass.propagate_body.Goals as goal

pub returns-clause-is : goal.returns-clause-is
returns-clause-is c =
    let P : List (List Copied) → Type 0 = λ t. AreReread t (length c.args.body.now.insns) c.in_ok-count.count c.args.body.now.insns c.reread_body.new.body.insns in
    body_propagated c.args.widths.now c.args.body.now c.reread_body.new.body c.in_ok-table.table.items c.in_ok-count.count (length c.args.body.now.insns) refl c.in_ok-table.ensures (subst P c.as_slice.ensures.value c.in_ok-count.ensures.insns)
    (ap (λ x. x.registers) c.in_ok-count.ensures.rest) (ap (λ x. x.ins) c.in_ok-count.ensures.rest) (ap (λ x. x.regions) c.in_ok-count.ensures.rest)

pub returns-clause-count : goal.returns-clause-count
returns-clause-count c =
    let P : List (List Copied) → Type 0 = λ t. AreReread t (length c.args.body.now.insns) c.in_ok-count.count c.args.body.now.insns c.reread_body.new.body.insns in
    body_counted c.args.widths.now c.args.body.now c.reread_body.new.body c.in_ok-table.table.items c.in_ok-count.count (length c.args.body.now.insns) refl c.in_ok-table.ensures (subst P c.as_slice.ensures.value c.in_ok-count.ensures.insns)
    (ap (λ x. x.registers) c.in_ok-count.ensures.rest) (ap (λ x. x.ins) c.in_ok-count.ensures.rest) (ap (λ x. x.regions) c.in_ok-count.ensures.rest)
