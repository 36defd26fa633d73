-- The tables of a well-formed program are kept, and with them what they say of its classes and types.
use Rattle.std.proofs.Common.{◌≡◌, ◌<◌, ◌≤◌, true, length, sym, subst, arith}
use Rattle.hierarchy.specs.declared.build.Hierarchy.{Hierarchy}
use Rattle.hierarchy.specs.Shapes.{IsOf}
use Rattle.program_model.specs.ProgramRules.{is_well_formed}
use Rattle.program_model.specs.declared.program.Program.{Program}
use Rattle.verify.specs.declared.tables.Tables.{Tables}
use Rattle.verify.specs.Building.{AreChainsOf}
use Rattle.verify.specs.Chains.{longest}
use Rattle.verify.specs.Descriptors.{AreTypesOf}
use Rattle.verify.specs.Flow.{greatest}
use Rattle.verify.specs.Meeting.{AreSound}
use Rattle.verify.proofs.Bounds.{few}
use Rattle.verify.proofs.Passing.{passes}

module _ (p : Program) (h : Hierarchy) (t : Tables) (w : is_well_formed p ≡ true) (of : IsOf p h) (made : IsOf p h → length p.classes < longest → AreChainsOf p t.chains) (few_above : length t.chains.supers.items ≤ greatest) (types : AreTypesOf p t) where
  pub chains_made : AreChainsOf p t.chains
  chains_made = made of (let f = few p w of.once in omega (arith, f))

  module _ (r : Tables) (kept : AreSound t → r ≡ t) where
    same : r ≡ t
    same = kept (passes p w of.once t types chains_made few_above)

    pub chains_kept : AreChainsOf p r.chains
    chains_kept = subst (λ (x : Tables). AreChainsOf p x.chains) (sym same) chains_made

    pub types_kept : AreTypesOf p r
    types_kept = subst (λ (x : Tables). AreTypesOf p x) (sym same) types
