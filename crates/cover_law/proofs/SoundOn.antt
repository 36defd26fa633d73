-- What is sound on all operands is so on those that the typing has.
use Rattle.dalvik_defs.specs.Names.{Text}
use Rattle.dalvik_defs.specs.declared.tables.Floats.{Floats}
use Rattle.std.specs.Prelude.{Bool}
use Rattle.pass_defs.specs.Analysis.{Analysis, IsSound}
use Rattle.cover_law.specs.Sound.{IsSoundOn}

pub sound_on : {V : Type 0} (a : Analysis V) (under : Text → Text → Bool) (floats : Floats) → IsSound a under floats → IsSoundOn a under floats
sound_on a under floats s = record {
  grows = s.grows;
  all = s.all;
  knows = s.knows;
  makes = s.makes;
  lengths = s.lengths;
  truths = s.truths;
  items = s.items;
  outers = s.outers;
  catches = s.catches;
  unaries = λ op x k l v o h. s.unaries op x k l v h;
  binaries = λ op x y k l m v u z o q h i e. s.binaries op x y k l m v u z h i e;
  literals = λ op x c k l v n o b h e. s.literals op x c k l v n h e;
  comparisons = λ op x y k l m v u o q h i. s.comparisons op x y k l m v u h i;
  stores = λ i x k v o h. s.stores i x k v h;
  holders = s.holders;
  casts = s.casts;
  tests = λ t x y k l v u o q h i. s.tests t x y k l v u h i;
  keys = λ z x k v o h e. s.keys z x k v h e;
  others = λ zs x k v o b h e. s.others zs x k v h e;
}
