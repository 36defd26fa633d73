use native.Mathlib.Omega.{arith}
use Rattle.std.proofs.Common.{refl, ap, sym, subst, length, ◌<◌, ◌∙◌, ◌++◌, ◌∷◌, []}
use Rattle.std.specs.Prelude.{IsSome}
use Rattle.keep_rules.proofs.ViewLemmas.{row_added, row_value}
use Rattle.keep_rules.proofs.tables.add_to.Goals as goal

pub returns-in_ok-push-in-Some : goal.returns-in_ok-push-in-Some
returns-in_ok-push-in-Some c =
    let low = c.get_mut.ensures.variant.0 (subst IsSome (sym c.in-Some.is) refl) in
    let fit = c.args.lists.now.ok.0 in
    let inside : c.args.kind < length c.args.lists.now.items = omega (arith, low, fit) in
    row_added c.args.lists.now.items _ c.args.kind c.args.number c.push.new.self inside refl
    (c.in_ok-push-in-Some.ensures.items ∙ ap (λ l. l ++ c.args.number ∷ []) (sym (row_value c.args.lists.now.items c.args.kind c.in-Some.list.now inside c.in-Some.ensures.value)))
