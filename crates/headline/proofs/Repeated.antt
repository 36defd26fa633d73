-- What optimise leaves without silent calls.
use Rattle.std.proofs.Common.{◌≡◌, ◌⊎◌, inl, inr, ℕ, Bool, true, false, List, [], subst}
use Rattle.program_model.specs.declared.pass.Origin.{Origin}
use Rattle.program_model.specs.declared.pass.Outside.{Outside}
use Rattle.program_model.specs.declared.program.Program.{Program}
use Rattle.program_model.specs.ProgramRules.{is_well_formed}
use Rattle.hierarchy.specs.Shapes.{IsAcyclic, IsResolved}
use Rattle.hierarchy.specs.Splitting.{NoSplit}
use Rattle.hierarchy.specs.declared.build.Hierarchy.{Hierarchy}
use Rattle.verify.specs.Methods.{TypesAll}
use Rattle.type_bridge.proofs.Programs.{typed_program}
use Rattle.pipeline.specs.declared.traces.Traced.{Traced}
use Rattle.pipeline.specs.Rounds.{Rounds, first_of, IsOptimised}
use Rattle.pipeline.proofs.Silencing.{none_is_same}
use Rattle.headline.specs.Owed.{IsSound, Owes}
use Rattle.headline.proofs.Keeping.{each_keeps}
use Rattle.headline.proofs.Owing.{rounds_owe}

pub all_rounds_owe : (o : Outside) (admitted : List Bool) (n : ℕ) (t u : Traced) → Rounds o admitted n t u → IsSound t.program → Owes o t.program u.program
all_rounds_owe o admitted n t u rounds sound = rounds_owe o admitted (each_keeps o) n t u rounds sound

-- what hierarchy and verify accept is sound
pub accepted_sound : (p : Program) (h : Hierarchy) → is_well_formed p ≡ true → IsResolved p h → IsAcyclic p → NoSplit p → TypesAll p h → IsSound p
accepted_sound p h formed resolved acyclic whole types = record { formed = formed; once = resolved.of.once; grounded = acyclic; whole = whole; typed = typed_program p h formed resolved types }

-- where no call is silent, the rounds begin with the program
module _ (p r : Program) (origins : List (List Origin)) (o : Outside) (advisers spared n : ℕ) (before after : List Bool) (sound : IsSound p)
    (done : IsOptimised o p advisers before after spared r origins n) (silent : (o.optimise ≡ false) ⊎ (o.silent ≡ []))
  where
    unchanged : done.silenced ≡ p
    unchanged = by silent
      where
        by : (o.optimise ≡ false) ⊎ (o.silent ≡ []) → done.silenced ≡ p
        by (inl e) = done.unsilenced e
        by (inr e) = none_is_same o.silent done.admitted p done.silenced e done.silent

    pub optimised_owes : Owes o p r
    optimised_owes = all_rounds_owe o done.admitted done.ran.changing (first_of p) (record { program = r; origins = origins })
        (subst (λ (x : Program). Rounds o done.admitted done.ran.changing (first_of x) (record { program = r; origins = origins })) unchanged done.ran.rounds) sound
