use Rattle.std.proofs.Common.{◌≡◌, ◌∙◌, ◌≤◌, length, arith, subst}
use Rattle.std.specs.Prelude.{insert}
use Rattle.std.proofs.lemmas.Grind.{common_steps}
use Rattle.domains.specs.ClassSets.{inserted, kept_at, put_at, overfull_at}
use Rattle.domains.proofs.class_sets.insert.Goals as goal

pub returns-then-stands_at-clause-put : goal.returns-then-stands_at-clause-put
returns-then-stands_at-clause-put c = kept_at _ _ _ _ _ c.as_slice.ensures.value c.as_slice-2.ensures.value c.place_of-place.ensures.is (c.stands_at.ensures.0 c.if-stands_at.true)

pub returns-then-is_full-clause-full : goal.returns-then-is_full-clause-full
returns-then-is_full-clause-full c =
    let e : insert c.args.classes.now.items c.place_of-place.result c.args.class ≡ inserted c.args.classes.now.items c.args.class = put_at _ _ _ _ _ c.as_slice.ensures.value c.as_slice-2.ensures.value c.place_of-place.ensures.is c.if-stands_at.ensures.1 in
    let le : c.place_of-place.result ≤ length c.args.classes.now.items = subst (λ l. c.place_of-place.result ≤ length l) c.as_slice.ensures.value c.place_of-place.ensures.within in
    let full : length c.args.classes.now.items ≡ 8 = grind (arith, common_steps) in
    overfull_at _ _ _ e le full

pub returns-clause-put : goal.returns-clause-put
returns-clause-put c = c.insert.ensures.items ∙ put_at _ _ _ _ _ c.as_slice.ensures.value c.as_slice-2.ensures.value c.place_of-place.ensures.is c.if-stands_at.ensures.1
