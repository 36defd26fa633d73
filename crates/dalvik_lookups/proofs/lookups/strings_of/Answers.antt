use Rattle.std.proofs.Common.{ap, subst, sym, ◌∙◌, ◌≡◌, Some, get_or}
use Rattle.std.specs.Prelude.{slice_get}
use Rattle.dalvik_defs.specs.Names.{Text}
use Rattle.dalvik_lookups.proofs.Making.{got, strings_more, string_here}
use Rattle.dalvik_lookups.proofs.lookups.strings_of.Goals as goal

pub loop-string-preserved : goal.loop-string-preserved
loop-string-preserved c = record {
  made = λ k. let m = c.loop-string.invariant.made k in
      let t : Text = get_or c.as_slice-string-items.result.now c.loop-string.string-index c.string-item.result in
      strings_more c.args.program.now c.loop-string.texts c.add.new.self c.loop-string.strings.items c.push.new.self.items c.loop-string.string-index c.units.result.now c.in_ok-add.field-0 m (c.in_ok-add.ensures m.are)
      (string_here c.args.program.now c.loop-string.string-index c.units.result.now
      (subst (λ xs. slice_get xs c.loop-string.string-index ≡ Some t) c.as_slice-string-items.ensures (got c.as_slice-string-items.result.now c.loop-string.string-index c.string-item.result c.loop-string-test.true) ∙ ap (λ u. Some u) (sym (c.units.ensures ∙ c.string-item.is)))) c.in_ok-push.ensures.items;
}
