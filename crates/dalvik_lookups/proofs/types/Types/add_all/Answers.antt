use Rattle.std.proofs.Common.{refl}
use Rattle.dalvik_defs.specs.Names.{text_eq}
use Rattle.dalvik_lookups.specs.Views.{names_of}
use Rattle.dalvik_lookups.proofs.Interned.{texts_more}
use Rattle.dalvik_lookups.proofs.types.Types.add_all.Goals as goal

pub loop-name-preserved : goal.loop-name-preserved
loop-name-preserved c = record {
  kept = λ k. (c.in_ok-add_whole.ensures.added (c.loop-name.invariant.kept k)).kept;
  names = texts_more (λ u. u.now) (λ a b. text_eq a.now b.now) (λ a b. refl) (names_of c.args.self.now) (names_of c.loop-name.self) (names_of c.add_whole.new.self) c.args.names.now c.loop-name.name-index _ c.loop-name-test.true c.in_ok-add_whole.ensures.names c.loop-name.invariant.names;
}
