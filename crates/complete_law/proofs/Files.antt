-- A good file and a good library are not refused but for a passed limit.
use Rattle.std.proofs.Common.{◌≡◌, ◌<◌, ℕ, List, Result, Ok, Err, refl, ap}
use Rattle.std.specs.Prelude.{slice_index}
use Rattle.dex_base.specs.Reading.{◌>>=◌}
use Rattle.dex_base.proofs.Decides.{err_is}
use Rattle.dex_defs.specs.Parts as parts
use Rattle.dex_defs.specs.ClassFaults.{BadGraph, DefinedTwice, OwnAncestor, Split}
use Rattle.dex_defs.specs.Spells.{Spells}
use Rattle.dex_read.specs.File.{program_at}
use Rattle.dex_read.specs.declared.fault.DexFault.{DexFault}
use Rattle.dex_read.specs.declared.fault.DexFault.TheVariants as dex
use Rattle.hierarchy.specs.Shapes.{IsCause}
use Rattle.hierarchy.specs.declared.fault.HierarchyFault.{HierarchyFault}
use Rattle.hierarchy.specs.declared.fault.HierarchyFault.TheVariants as classes
use Rattle.program_model.specs.declared.program.Program.{Program}
use Rattle.redex_cli.specs.Accepted.{IsTypeCause}
use Rattle.redex_cli.specs.Files.{FileRefused}
use Rattle.redex_cli.specs.Refusals.{IsDexFault, IsHierarchyFault, IsTypeFault, IsInputFault}
use Rattle.redex_cli.specs.declared.status.InputFault.{InputFault}
use Rattle.redex_cli.specs.declared.status.InputFault.TheVariants as input
use Rattle.redex_cli.specs.declared.status.Status.TheVariants.{BadDex}
use Rattle.refused_code.proofs.Faultless.{only_limits}
use Rattle.refused_code.proofs.Joined.{fails_program}
use Rattle.refused_code.specs.Faultless.{IsFaultless, IsLimit}
use Rattle.spelled_law.proofs.Whole.{read_is_spelled}
use Rattle.stub_library.specs.Stubs.{library_of, library_at}
use Rattle.stub_library.specs.declared.library.Library.{Library}
use Rattle.verify.specs.declared.fault.TypeFault.{TypeFault}
use Rattle.verify.specs.declared.fault.TypeFault.TheVariants as typing
use Rattle.complete_law.specs.Complete.{IsGoodFile}

not_limit : (e : DexFault) → IsLimit e → IsDexFault e → ⊥
not_limit (dex.Limit limit) h g = g
not_limit e h g = h

-- reading answers no fault of such bytes
pub none_read : (bytes : List ℕ) → ((i : ℕ) → slice_index bytes i < 256) → IsFaultless bytes → (e : DexFault) → IsDexFault e → program_at bytes ≡ Err e → ⊥
none_read bytes are none e is h = not_limit e (only_limits bytes none e ((fails_program bytes are).fault e h)) is

module _ (bytes : List ℕ) (good : IsGoodFile bytes) where
  faultless : IsFaultless bytes
  faultless fault h = absurd (good.faultless fault h)

  spelled : (program : Program) → program_at bytes ≡ Ok program → Spells bytes program
  spelled program h = read_is_spelled bytes program good.are_bytes h

  graph_fault : (program : Program) → Spells bytes program → (e : HierarchyFault) → IsHierarchyFault e → IsCause program e → ⊥
  graph_fault program spells classes.NoMemory is cause = is
  graph_fault program spells (classes.Cycle class) is cause = good.faultless (parts.Cycle class) (BadGraph program spells (OwnAncestor class cause.is refl))
  graph_fault program spells (classes.Twice class) is cause = good.faultless (parts.Twice class) (BadGraph program spells (DefinedTwice class cause.twice refl))
  graph_fault program spells (classes.SplitOverride class method) is cause = good.faultless (parts.SplitOverride class method) (BadGraph program spells (Split class method cause.is.is refl))

  type_fault : (program : Program) → Spells bytes program → (e : TypeFault) → IsTypeFault e → IsTypeCause program e → ⊥
  type_fault program spells typing.NoMemory is cause = is
  type_fault program spells (typing.IllTyped method position register) is cause = cause.untyped (good.typed program spells)

  pub none_refused : (fault : InputFault) → IsInputFault fault → FileRefused bytes (BadDex fault) → ⊥
  none_refused (input.Dex e) is h = none_read bytes good.are_bytes faultless e is h
  none_refused (input.Hierarchy e) is h = graph_fault h.program (spelled h.program h.reads) e is h.cause
  none_refused (input.Typing e) is h = type_fault h.program (spelled h.program h.reads) e is h.cause
  none_refused (input.Library e) is h = h

-- a library is refused as what it spells is
pub of_library : (bytes : List ℕ) (e : DexFault) → library_at bytes ≡ Err e → program_at bytes ≡ Err e
of_library bytes e h = by_read (program_at bytes) h
  where
    by_read : (read : Result Program DexFault) → (read >>= λ p. Ok (library_of p)) ≡ Err e → read ≡ Err e
    by_read (Ok program) h = absurd cc
    by_read (Err k) h = ap (λ (x : DexFault). Err x) (err_is {A = Library} k e h)
