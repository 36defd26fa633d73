-- The face of a run's program, by what the queries of the run answer.
use Rattle.std.specs.Prelude.{◌≡◌, ◌<◌, ℕ, Bool, true, length, map, nat_lt, Option, Some, slice_get, option_and_then}
use Rattle.std.specs.List.{list_all}
use Rattle.std.specs.Option.{option_map}
use Rattle.program_model.specs.declared.pools.MethodName.{MethodName}
use Rattle.program_model.specs.declared.program.Class.{Class}
use Rattle.program_model.specs.declared.program.Program.{Program}
use Rattle.class_defs.specs.Finding.{finds_static, finds_super, resolves_field}
use Rattle.class_defs.specs.Starts.{initialiser_place, is_trivial}
use Rattle.name_bridge.specs.Named.{finds, found_at, field_at_place}
use Rattle.dalvik_defs.specs.Find as name
use Rattle.dalvik_defs.specs.Names.{Text}
use Rattle.dalvik_defs.specs.Naming.{type_at, method_at, field_at, named}
use Rattle.dalvik_defs.specs.Initialised.{initialiser_key}
use Rattle.dalvik_defs.specs.Face.{Face, Place, place_of, face_of}
use Rattle.dalvik_defs.specs.declared.names.FieldKey.{FieldKey}
use Rattle.dalvik_lookups.specs.Declaring.{declared_method, declared_field}
use Rattle.dalvik_lookups.specs.declared.finds.Search.{Search}
use Rattle.dalvik_lookups.specs.declared.finds.Search.TheVariants as find
use Rattle.dalvik_lookups.specs.declared.lookups.Lookups.{Lookups}
use Rattle.dalvik_lookups.specs.Tables.{search_of, place_named}
use Rattle.dalvik_lookups.specs.Walks.{search_by, class_text, found_of}
use Rattle.dalvik_lookups.specs.Starting.{initialised_first}

-- the face of the program of a run
abbrev pub run_face : Lookups → Face
run_face l = face_of (named l.program.now) l.framework.now

-- what a call finds, by names
abbrev pub named_search : Program → Search → name.Search
named_search p find.Nothing = name.Search.Nothing
named_search p find.Clash = name.Search.Clash
named_search p (find.Finds at) = finds (found_at p at)

-- the field of a class by the places of both, by names
abbrev pub place_at : Program → ℕ × ℕ → Option Place
place_at p at = option_map (λ c. place_of c.0 c.1) (field_at_place p at)

-- a class has this place
abbrev pub is_place : Program → ℕ → Bool
is_place p c = nat_lt c (length p.classes)

-- What the face of the program says of each name is what the queries answer of the numbers: of a type by the place of its class
-- (`class_at`), of a method or a field by the number of its name. Its `under` and `outward` are what `is_under` and `is_outward`
-- answer, by definition.
pub record IsFace (l : Lookups) : Type 0 where
  pub flags : (t : Text) → (run_face l).flags t ≡ option_map (λ k. k.flags.0) (option_and_then (slice_get l.program.now.classes) (place_named l.program.now t))
  pub statically : (m : ℕ) → m < length l.program.now.methods → (run_face l).statically (method_at l.program.now m) ≡ named_search l.program.now (search_of (finds_static l.program.now m))
  pub above : (c m : ℕ) (k : Class) → slice_get l.program.now.classes c ≡ Some k → m < length l.program.now.methods
      → (run_face l).above (type_at l.program.now k.name) (method_at l.program.now m) ≡ named_search l.program.now (search_by (finds_super l.program.now c m))
  pub virtually : (t : Text) (m : ℕ) (q : MethodName) → slice_get l.program.now.methods m ≡ Some q → (run_face l).virtually t (method_at l.program.now m) ≡ named_search l.program.now (found_of l (place_named l.program.now t) q)
  pub declared : (t n q : Text) → (run_face l).declared t n q ≡ option_and_then (found_at l.program.now) (declared_method l.program.now t n q)
  pub own_field : (k : FieldKey) → (run_face l).own_field k ≡ option_and_then (place_at l.program.now) (declared_field l.program.now k.class k.name k.kind)
  pub field : (f : ℕ) → f < length l.program.now.fields → (run_face l).field (field_at l.program.now f) ≡ option_and_then (place_at l.program.now) (resolves_field l.program.now f)
  pub initialiser : (t : Text) → (run_face l).initialiser t ≡ option_map (λ i. initialiser_key t) (option_and_then (initialiser_place l.program.now) (place_named l.program.now t))
  pub first : (c : ℕ) (k : Class) → slice_get l.program.now.classes c ≡ Some k → (run_face l).first (type_at l.program.now k.name) ≡ map (class_text l.program.now) (initialised_first l.program.now c)
  pub started : (c : ℕ) → list_all (is_place l.program.now) (initialised_first l.program.now c) ≡ true
  pub trivial : (c : ℕ) (k : Class) → slice_get l.program.now.classes c ≡ Some k → (run_face l).trivial (type_at l.program.now k.name) ≡ is_trivial l.program.now c
