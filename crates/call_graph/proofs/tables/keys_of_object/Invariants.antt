use Rattle.std.proofs.Common.{◌≡◌, ◌<◌, ℕ, true}
use Rattle.std.specs.Prelude.{slice_get, Some, Contains}
use Rattle.program_model.specs.declared.pools.MethodName.{MethodName}
use Rattle.program_model.specs.ProgramRules.{is_well_formed}
use Rattle.class_defs.specs.Members.{is_common}
use Rattle.hierarchy.specs.Shapes.{IsResolved}
use Rattle.hierarchy.specs.Membership.{key_at}
use Rattle.call_graph.specs.Least.{AreCommon}
use Rattle.call_graph.proofs.tables.keys_of_object.Given as goal

abbrev pub invariant-loop-number : goal.invariant-loop-number
invariant-loop-number l = record {
  has : is_well_formed l.program ≡ true → IsResolved l.program l.hierarchy → (n : ℕ) (q : MethodName) → n < l.number → slice_get l.program.methods n ≡ Some q → is_common l.program q.name q.proto ≡ true → Contains l.keys.items (key_at l.hierarchy.named.method_keys.keys.items n);
  only : is_well_formed l.program ≡ true → IsResolved l.program l.hierarchy → AreCommon l.program l.hierarchy l.keys.items;
}
