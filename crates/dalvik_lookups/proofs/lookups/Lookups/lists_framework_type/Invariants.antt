use Rattle.std.proofs.Common.{◌≡◌, false, true, map, take}
use Rattle.std.specs.List.{list_any, list_all}
use Rattle.program_model.specs.Texts.{has_type}
use Rattle.dalvik_defs.specs.Naming.{type_at, named}
use Rattle.dalvik_lookups.specs.Tables.{IsRight}
use Rattle.dalvik_lookups.specs.Reached.{is_framework_type}
use Rattle.dalvik_lookups.proofs.lookups.Lookups.lists_framework_type.Given as goal

abbrev pub invariant-loop-kind : goal.invariant-loop-kind
invariant-loop-kind l = record {
  none : IsRight l.self → list_all (has_type l.self.program.now) l.kinds ≡ true → list_any (is_framework_type (named l.self.program.now)) (map (type_at l.self.program.now) (take l.kind-index l.kinds)) ≡ false;
}
