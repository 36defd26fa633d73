use Rattle.std.proofs.Common.{ap, subst, ◌∙◌, ◌≡◌, Some, ℕ, get_or}
use Rattle.std.specs.Prelude.{slice_get}
use Rattle.dalvik_lookups.specs.Tables.{text_among}
use Rattle.dalvik_lookups.proofs.Making.{got, kinds_more, type_here}
use Rattle.dalvik_lookups.proofs.lookups.kinds_of.Goals as goal

pub loop-string-preserved : goal.loop-string-preserved
loop-string-preserved c = record {
  made = λ k. let m = c.loop-string.invariant.made k in
      let n : ℕ = get_or c.as_slice-string-items.result.now c.loop-string.string-index 0 in
      kinds_more c.args.program.now c.args.types.now c.loop-string.types c.add.new.self c.loop-string.kinds.items c.push.new.self.items c.loop-string.string-index c.units_at.result.now c.in_ok-add.field-0 m (c.in_ok-add.ensures m.kept)
      (type_here c.args.program.now c.loop-string.string-index n c.units_at.result.now
      (subst (λ xs. slice_get xs c.loop-string.string-index ≡ Some n) c.as_slice-string-items.ensures (got c.as_slice-string-items.result.now c.loop-string.string-index 0 c.loop-string-test.true))
      (c.units_at.ensures ∙ ap (λ ts. text_among ts n) c.as_slice.ensures)) c.in_ok-push.ensures.items;
}
