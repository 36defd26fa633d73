-- Each list is made by `numbers`, over the marks of its table.
use Rattle.std.proofs.Common.{subst, sym, ◌<◌}
use Rattle.keep_rules.proofs.MarkLemmas.{listed_is}
use Rattle.keep_rules.proofs.NumberLemmas.{are_numbers, all_classes, all_owners}
use Rattle.keep_rules.proofs.outside.listed.Goals as goal

pub returns-clause-within : goal.returns-clause-within
returns-clause-within c = record {
  classes = are_numbers _ _ _ _ c.in_ok-numbers.ensures c.len-types.ensures;
  methods = are_numbers _ _ _ _ c.in_ok-numbers-2.ensures c.len-methods.ensures;
  fields = are_numbers _ _ _ _ c.in_ok-numbers-3.ensures c.len-fields.ensures;
  methods_if = are_numbers _ _ _ _ c.in_ok-numbers-4.ensures c.len-methods.ensures;
  fields_if = are_numbers _ _ _ _ c.in_ok-numbers-5.ensures c.len-fields.ensures;
  classes_if = all_classes _ _ _ c.in_ok-conditional.ensures.classes c.len-types.ensures;
  owners = all_owners _ _ _ c.in_ok-conditional.ensures.owners c.len-types.ensures;
  silent = are_numbers _ _ _ _ c.in_ok-numbers-6.ensures c.len-methods.ensures;
}

pub returns-clause-lists : goal.returns-clause-lists
returns-clause-lists c = record {
  classes = listed_is _ c.args.marks.now.classes.items _ _ _ c.in_ok-numbers.ensures c.as_slice.ensures.value c.len-types.ensures;
  methods = listed_is _ c.args.marks.now.methods.kept.items _ _ _ c.in_ok-numbers-2.ensures c.as_slice-2.ensures.value c.len-methods.ensures;
  fields = listed_is _ c.args.marks.now.fields.kept.items _ _ _ c.in_ok-numbers-3.ensures c.as_slice-3.ensures.value c.len-fields.ensures;
  methods_if = listed_is _ c.args.marks.now.methods.live.items _ _ _ c.in_ok-numbers-4.ensures c.as_slice-4.ensures.value c.len-methods.ensures;
  fields_if = listed_is _ c.args.marks.now.fields.live.items _ _ _ c.in_ok-numbers-5.ensures c.as_slice-5.ensures.value c.len-fields.ensures;
  classes_if = λ n k h l. c.in_ok-conditional.ensures.pairs n k (subst (λ size. n < size) (sym c.len-types.ensures) h) (subst (λ size. k < size) (sym c.len-types.ensures) l);
  silent = listed_is _ c.args.marks.now.silent.items _ _ _ c.in_ok-numbers-6.ensures c.as_slice-8.ensures.value c.len-methods.ensures;
}
