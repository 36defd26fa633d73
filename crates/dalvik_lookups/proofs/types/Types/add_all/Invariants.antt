use Rattle.std.proofs.Common.{◌≡◌, map, take}
use Rattle.std.specs.Prelude.{fold}
use Rattle.dalvik_lookups.specs.Views.{names_of, insert_text, AreKept}
use Rattle.dalvik_lookups.proofs.types.Types.add_all.Given as goal

abbrev pub invariant-loop-name : goal.invariant-loop-name
invariant-loop-name l = record {
  kept : AreKept l.initial.self → AreKept l.self;
  names : names_of l.self ≡ fold insert_text (names_of l.initial.self) (map (λ u. u.now) (take l.name-index l.names));
}
