-- Which methods are made static, by number: one after another in class and method order, and what the tables get for each (Dalvik
-- executable format, "proto_id_item"; this project's profile).
use Rattle.std.specs.Prelude.{ℕ, suc, ◌&&◌, Bool, false, List, [], ◌∷◌, Option, Some, None, slice_get, if◌then◌else◌}
use Rattle.program_model.specs.declared.pass.Outside.{Outside}
use Rattle.program_model.specs.declared.pools.MethodName.{MethodName}
use Rattle.program_model.specs.declared.pools.Proto.{Proto}
use Rattle.program_model.specs.declared.program.Class.{Class}
use Rattle.program_model.specs.declared.program.Method.{Method}
use Rattle.program_model.specs.declared.program.Program.{Program}
use Rattle.facts.specs.declared.facts.Facts.{Facts}
use Rattle.loose_methods.specs.Candidates.{may_be_static}
use Rattle.static_protos.specs.Tables.{Tables, tables_of, wanted, has_room, with_new}

module _ (p : Program) (facts : Facts) (o : Outside) (admitted : List Bool) where
  -- A method is loose, behind those for which the tables have grown.
  abbrev pub is_loose : Tables → ℕ → Class → Method → MethodName → Proto → Bool
  is_loose t place k m q proto = may_be_static p facts o admitted place k q m && has_room p t (wanted p k m q proto)

  abbrev pub is_loose_by : Tables → ℕ → Class → Method → MethodName → Option Proto → Bool
  is_loose_by t place k m q None = false
  is_loose_by t place k m q (Some proto) = is_loose t place k m q proto

  abbrev pub is_loose_named : Tables → ℕ → Class → Method → Option MethodName → Bool
  is_loose_named t place k m None = false
  is_loose_named t place k m (Some q) = is_loose_by t place k m q (slice_get p.protos q.proto)

  -- the method of a class at a place is loose
  abbrev pub is_loose_at : Tables → ℕ → Class → Method → Bool
  is_loose_at t place k m = is_loose_named t place k m (slice_get p.methods m.name)

  -- the tables behind a method
  abbrev pub behind_proto : Tables → ℕ → Class → Method → MethodName → Option Proto → Tables
  behind_proto t place k m q None = t
  behind_proto t place k m q (Some proto) = if is_loose t place k m q proto then with_new t (wanted p k m q proto) else t

  abbrev pub behind_entry : Tables → ℕ → Class → Method → Option MethodName → Tables
  behind_entry t place k m None = t
  behind_entry t place k m (Some q) = behind_proto t place k m q (slice_get p.protos q.proto)

  abbrev pub behind_method : Tables → ℕ → Class → Method → Tables
  behind_method t place k m = behind_entry t place k m (slice_get p.methods m.name)

  -- behind methods of a class, and behind classes of which the first stands at a place
  abbrev pub behind_methods : Tables → ℕ → Class → List Method → Tables
  behind_methods t place k [] = t
  behind_methods t place k (m ∷ ms) = behind_methods (behind_method t place k m) place k ms

  abbrev pub behind_classes : Tables → ℕ → List Class → Tables
  behind_classes t place [] = t
  behind_classes t place (k ∷ ks) = behind_classes (behind_methods t place k k.methods) (suc place) ks

  -- All loose methods of the program, judged in class and method order: none where nothing is to be rewritten.
  abbrev pub judged : Tables
  judged = if o.optimise then behind_classes (tables_of p) 0 p.classes else tables_of p
