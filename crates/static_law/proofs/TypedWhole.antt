-- The loose methods of a typed, regular program, made static: it stays typed.
use Rattle.std.proofs.Common.{◌≡◌, ℕ, Bool, false, List, length, Some, None, sym, ap, ◌∙◌}
use Rattle.program_model.specs.declared.program.Program.{Program}
use Rattle.lemmas.proofs.Options.{some_same}
use Rattle.dalvik_defs.specs.Find.{defined_method}
use Rattle.dalvik_defs.specs.Names.{object_type}
use Rattle.dalvik_defs.specs.Outer.{Outer}
use Rattle.dalvik_defs.specs.Shown.{Fit, SameShown}
use Rattle.dalvik_defs.specs.Silence.{key_in}
use Rattle.dalvik_defs.specs.Under.{class_named}
use Rattle.dalvik_defs.specs.declared.names.MethodKey.{MethodKey}
use Rattle.dalvik_defs.specs.declared.program.NamedMethod.{NamedMethod}
use Rattle.dalvik_defs.specs.declared.program.NamedProgram.{NamedProgram}
use Rattle.dalvik_defs.specs.declared.script.Move.{Move}
use Rattle.dalvik_defs.specs.declared.tables.Floats.{Floats}
use Rattle.dalvik_defs.specs.declared.tables.Framework.{Framework}
use Rattle.pass_defs.specs.Loose.{AreLoose, staticised}
use Rattle.pass_defs.specs.Numbered.{tables_of}
use Rattle.pass_defs.specs.Typed.{IsTyped}
use Rattle.program_laws.specs.Rooted.{IsRooted}
use Rattle.removal_law.specs.Reach.{IsAcyclic, IsDescribed, DefinesOnce, NamesOnce, AgreesInside}
use Rattle.removal_law.specs.Left.{In}
use Rattle.removal_law.specs.Reach as reach
use Rattle.removal_law.proofs.Levels.{enough_steps}
use Rattle.removal_law.proofs.Lists.{contained}
use Rattle.removal_law.proofs.Protos.{told_apart}
use Rattle.removal_law.proofs.Trees.{class_in, defined}
use Rattle.run_laws.specs.Regular.{IsRegular}
use Rattle.static_law.specs.Static.{AreInTables, FreeInterfaces, MayAllBeStatic}
use Rattle.static_law.proofs.Judged.{may_be_static}
use Rattle.static_law.proofs.Upright.{ends_within}
use Rattle.static_law.proofs.Typed.{typed_static}
use Rattle.static_law.proofs.Upward.{fits_upward}
use Rattle.static_law.proofs.Upright.{names_once, defines_once, stands_up}

module _ (p : NamedProgram) (regular : IsRegular p) (upright : reach.IsRegular p) where
  free : FreeInterfaces p
  free t c e i = (regular.above_interfaces t c e i).0

  rooted : class_named p object_type ≡ None → IsRooted p
  rooted e = record {
    ends = λ t. let g = upright.grounded t in ends_within p (length p.classes) t (enough_steps p t g.0 g.1);
    named = λ t c i. regular.class_types t (defined p t c i);
    rooted = e;
  }

-- methods that may be static
pub known_typed : (p : NamedProgram) (o : Outer) (methods : List MethodKey) (loose : MethodKey → Bool) → MayAllBeStatic p o methods loose → AreInTables p o methods → IsRegular p → reach.IsRegular p → IsDescribed p
    → class_named p object_type ≡ None → IsTyped (staticised p loose)
known_typed p o methods loose given in_tables regular upright described e = typed_static p o methods loose given in_tables
    regular.class_types (told_apart p described (defines_once p regular)) (names_once p regular) (fits_upward p (rooted p regular upright e) (free p regular upright)) regular.typed

module _ (base : Program) (p : NamedProgram) (o : Outer) (optimise : Bool) (fits : Program → Type 0) (admitted : MethodKey → Bool) (not_null : MethodKey → ℕ → ℕ → Type 0) (loose : MethodKey → Bool)
    (given : AreLoose base p o optimise fits admitted not_null loose) (in_tables : AreInTables p o (tables_of base).methods) (regular : IsRegular p) (acyclic : IsAcyclic p) (described : IsDescribed p) where
  pub loose_typed : class_named p object_type ≡ None → IsTyped (staticised p loose)
  loose_typed e = known_typed p o (tables_of base).methods loose (may_be_static base p o optimise fits admitted not_null loose given) in_tables regular (stands_up p regular acyclic) described e
