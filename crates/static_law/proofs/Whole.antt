-- The loose methods of a typed, regular program, made static: it shows the same where what facts know of receivers holds.
use Rattle.std.proofs.Common.{◌≡◌, ℕ, Bool, false, List, length, Some, None, sym, ap, ◌∙◌}
use Rattle.program_model.specs.declared.program.Program.{Program}
use Rattle.lemmas.proofs.Options.{some_same}
use Rattle.dalvik_defs.specs.Find.{defined_method}
use Rattle.dalvik_defs.specs.Names.{object_type}
use Rattle.dalvik_defs.specs.Outer.{Outer}
use Rattle.dalvik_defs.specs.Shown.{Fit, SameShown}
use Rattle.dalvik_defs.specs.Silence.{key_in}
use Rattle.dalvik_defs.specs.Under.{class_named}
use Rattle.dalvik_defs.specs.declared.names.MethodKey.{MethodKey}
use Rattle.dalvik_defs.specs.declared.program.NamedMethod.{NamedMethod}
use Rattle.dalvik_defs.specs.declared.program.NamedProgram.{NamedProgram}
use Rattle.dalvik_defs.specs.declared.script.Move.{Move}
use Rattle.dalvik_defs.specs.declared.tables.Floats.{Floats}
use Rattle.dalvik_defs.specs.declared.tables.Framework.{Framework}
use Rattle.pass_defs.specs.Loose.{AreLoose, staticised}
use Rattle.pass_defs.specs.Numbered.{tables_of}
use Rattle.pass_defs.specs.Typed.{IsTyped}
use Rattle.removal_law.specs.Reach.{IsAcyclic, IsDescribed, DefinesOnce, NamesOnce, AgreesInside}
use Rattle.removal_law.specs.Left.{In}
use Rattle.removal_law.specs.Reach as reach
use Rattle.removal_law.proofs.Levels.{enough_steps}
use Rattle.removal_law.proofs.Lists.{contained}
use Rattle.removal_law.proofs.Protos.{told_apart}
use Rattle.removal_law.proofs.Trees.{class_in, defined}
use Rattle.run_laws.specs.Regular.{IsRegular}
use Rattle.static_law.specs.Receiving.{HoldNoNull, KnowsReceivers}
use Rattle.static_law.specs.Static.{AreInTables, MayAllBeStatic, NamesDescribed}
use Rattle.static_law.proofs.Judged.{may_be_static, knows_receivers}
use Rattle.static_law.proofs.Loosened.{static_shown}
use Rattle.static_law.proofs.Receivers.{receivers_reached}
use Rattle.static_law.proofs.Upright.{names_once, defines_once, stands_up}

-- methods that may be static, where facts know the receivers of calls that resolve to one
pub known_static : (p : NamedProgram) (o : Outer) (methods : List MethodKey) (not_null : MethodKey → ℕ → ℕ → Type 0) (loose : MethodKey → Bool) → MayAllBeStatic p o methods loose → AreInTables p o methods
    → KnowsReceivers p loose not_null → IsRegular p → reach.IsRegular p → IsDescribed p → NamesDescribed p → AgreesInside o
    → ((f : Framework) (a : Floats) (script : List Move) → Fit p o f script → HoldNoNull p o not_null f a script) → SameShown p (staticised p loose) o
known_static p o methods not_null loose given in_tables knows regular upright described names inside no_null =
    static_shown p o methods loose given in_tables upright described names (defines_once p regular) inside
    (λ f a script fit. receivers_reached p o methods loose given not_null knows regular f a script fit (no_null f a script fit))

module _ (base : Program) (p : NamedProgram) (o : Outer) (optimise : Bool) (fits : Program → Type 0) (admitted : MethodKey → Bool) (not_null : MethodKey → ℕ → ℕ → Type 0) (loose : MethodKey → Bool)
    (given : AreLoose base p o optimise fits admitted not_null loose) (in_tables : AreInTables p o (tables_of base).methods) (regular : IsRegular p) (acyclic : IsAcyclic p) (described : IsDescribed p) where
  pub loose_static : NamesDescribed p → AgreesInside o → ((f : Framework) (a : Floats) (script : List Move) → Fit p o f script → HoldNoNull p o not_null f a script) → SameShown p (staticised p loose) o
  loose_static names inside no_null = known_static p o (tables_of base).methods not_null loose (may_be_static base p o optimise fits admitted not_null loose given) in_tables
      (knows_receivers base p o optimise fits admitted not_null loose given) regular (stands_up p regular acyclic) described names inside no_null
