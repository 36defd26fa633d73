-- The methods that nothing said of them alone lets the framework enter, by tables.
use Rattle.std.specs.Prelude.{ℕ, ◌&&◌, not, Bool, true, false, List, [], ◌∷◌, length, replicate, flat_map, slice_index_or, cond}
use Rattle.program_model.specs.MemberRules.{has_flag, is_direct}
use Rattle.program_model.specs.declared.program.Method.{Method}
use Rattle.program_model.specs.declared.program.Class.{Class}
use Rattle.program_model.specs.declared.program.Program.{Program}
use Rattle.class_defs.specs.Finding.{is_037}
use Rattle.hierarchy.specs.Membership.{key_at}
use Rattle.hierarchy.specs.declared.build.Hierarchy.{Hierarchy}
use Rattle.stub_library.specs.Marking.{is_on, set_all}

abbrev pub is_free : Program → Class → Bool
is_free p k = not (is_037 p.version && has_flag k.flags 512)

abbrev pub loose_with_key : Program → Hierarchy → List Bool → List Bool → Class → Method → ℕ → Bool
loose_with_key p h kept called k m key = not (is_direct p m) && (not (is_on kept m.name) && (not (slice_index_or h.named.of_object.items key false) && (is_free p k && not (is_on called key))))

abbrev pub is_loose_by : Program → Hierarchy → List Bool → List Bool → Class → Method → Bool
is_loose_by p h kept called k m = loose_with_key p h kept called k m (key_at h.named.method_keys.keys.items m.name)

abbrev pub loose_among : Program → Hierarchy → List Bool → List Bool → Class → List Method → List ℕ
loose_among p h kept called k ms = flat_map (λ m. cond (is_loose_by p h kept called k m) (m.name ∷ []) []) ms

abbrev pub loose_numbers : Program → Hierarchy → List Bool → List Bool → Class → List ℕ
loose_numbers p h kept called k = loose_among p h kept called k k.methods

-- the marks of all of them
abbrev pub loose_marks : Program → Hierarchy → List Bool → List Bool → List Bool
loose_marks p h kept called = set_all true (replicate (length p.methods) false) (flat_map (loose_numbers p h kept called) p.classes)
