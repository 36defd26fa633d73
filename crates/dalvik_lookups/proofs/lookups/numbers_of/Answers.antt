use Rattle.std.proofs.Common.{map, ap, ◌∙◌, subst}
use Rattle.dalvik_lookups.specs.Tables.{kind_in, ArePlaces}
use Rattle.dalvik_lookups.proofs.Making.{own_below, few_own}
use Rattle.dalvik_lookups.proofs.lookups.numbers_of.Goals as goal

pub returns-clause-own : goal.returns-clause-own
returns-clause-own c = c.in_ok-class_kinds.ensures ∙ ap (λ v. map (λ k. kind_in v k.name) c.args.program.now.classes) c.as_slice.ensures.value

pub returns-clause-places : goal.returns-clause-places
returns-clause-places c = λ are small.
    let o = c.in_ok-class_kinds.ensures ∙ ap (λ v. map (λ k. kind_in v k.name) c.args.program.now.classes) c.as_slice.ensures.value in
    let q = c.as_slice-2.ensures.value ∙ o in
    subst (λ v. ArePlaces v c.in_ok-class_of.class_of.items) c.as_slice-2.ensures.value
    (c.in_ok-class_of.ensures (few_own c.args.program.now.classes (λ k. kind_in c.in_ok-kinds.kinds.items k.name) c.as_slice-2.result.now 4294967296 q small) (own_below c.args.program.now c.kinds_of.new.types c.in_ok-kinds.kinds.items _ c.args.types.now (c.in_ok-kinds.ensures are.kept) are c.args.program.now.classes c.len.result c.as_slice-2.result.now c.len.ensures q))
