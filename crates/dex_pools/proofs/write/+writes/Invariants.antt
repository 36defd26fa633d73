use Rattle.std.proofs.Common.{◌≡◌, ◌++◌, take, min, length}
use Rattle.std.specs.List.{flat_map}
use Rattle.dex_base.specs.Leb.{uleb_text}
use Rattle.dex_pools.specs.Written.{value_text, element_text}
use Rattle.dex_pools.proofs.write.+writes.Given as goal

abbrev pub invariant-push_values-loop-value : goal.invariant-push_values-loop-value
invariant-push_values-loop-value l = record {
  text : l.out.items ≡ l.fn.out.items ++ uleb_text (min (length l.values) 4294967295) ++ flat_map (value_text l.numbers) (take l.value-index l.values);
  front : take (length l.fn.out.items) l.out.items ≡ l.fn.out.items;
}

abbrev pub invariant-push_elements-loop-element : goal.invariant-push_elements-loop-element
invariant-push_elements-loop-element l = record {
  text : l.out.items ≡ l.fn.out.items ++ uleb_text (min (length l.elements) 4294967295) ++ flat_map (element_text l.numbers) (take l.element-index l.elements);
  front : take (length l.fn.out.items) l.out.items ≡ l.fn.out.items;
}
