-- What is left of a program that was read lays out, and so does what is written for it.
use Rattle.std.proofs.Common.{◌≡◌, ℕ, Bool, true, false, List, Ok, sym, ap, subst, ◌∙◌}
use Rattle.std.specs.Prelude.{nat_lt}
use Rattle.program_model.specs.ProgramRules.{is_well_formed}
use Rattle.program_model.specs.declared.pass.Origin.{Origin}
use Rattle.program_model.specs.declared.pass.Outside.{Outside}
use Rattle.program_model.specs.declared.program.Program.{Program}
use Rattle.program_model.proofs.Formed.{formed}
use Rattle.hierarchy.specs.Shapes.{IsAcyclic, IsResolved}
use Rattle.hierarchy.specs.Splitting.{NoSplit}
use Rattle.hierarchy.specs.declared.build.Hierarchy.{Hierarchy}
use Rattle.verify.specs.Methods.{TypesAll}
use Rattle.dex_pools.specs.Finds.{Ascends}
use Rattle.dex_pools.specs.Order.{list_below}
use Rattle.dex_read.specs.File.{program_at}
use Rattle.dex_defs.specs.LaysOut.{LaysOut}
use Rattle.dex_defs.specs.Written.{written_by}
use Rattle.dex_write.specs.Written.{IsWritten}
use Rattle.pipeline.specs.declared.traces.Traced.{Traced}
use Rattle.pipeline.specs.Inlining.{IsInlining}
use Rattle.pipeline.specs.Rounds.{first_of, HaveRunFrom}
use Rattle.pipeline.specs.Silence.{IsSilent}
use Rattle.inline_calls.specs.Asked.{Row}
use Rattle.read_laws.proofs.Told.{is_read}
use Rattle.redex_outside.specs.Voices.{Voice}
use Rattle.redex_cli.specs.Accepted.{IsAccepted}
use Rattle.redex_cli.specs.Finished.{LeavesBy}
use Rattle.layout_law.proofs.Programs.{program_lies}
use Rattle.layout_law.proofs.Falling.{read_ascends}
use Rattle.layout_steps.proofs.Silenced.{silent_lies}
use Rattle.layout_law.specs.Ascending.{TextsAscend}
use Rattle.layout_law.proofs.Written.{interned_lies}
use Rattle.headline.specs.Owed.{IsSound, Owes}
use Rattle.headline.proofs.Inlining.{inlining_owes}
use Rattle.headline.proofs.Optimised.{silent_sound}
use Rattle.headline.proofs.LaidRounds.{silent_ascends, inlining_ascends, inlining_lies, rounds_lie, rounds_ascend}

-- what was read has tables that ascend
pub read_rises : (bytes : List ℕ) (p : Program) → program_at bytes ≡ Ok p → is_well_formed p ≡ true → TextsAscend p
read_rises bytes p h well =
    let r = is_read bytes p h in
    let strings : p.strings ≡ r.pools.strings = ap (λ (q : Program). q.strings) r.is ∙ ap (λ (q : Program). q.strings) r.made in
    let types : p.types ≡ r.pools.types = ap (λ (q : Program). q.types) r.is ∙ ap (λ (q : Program). q.types) r.made in
    read_ascends p (formed p well).tables (subst (Ascends list_below) (sym strings) r.spells.strings_ascend) (subst (Ascends nat_lt) (sym types) r.spells.types_ascend)

module _ (p : Program) (h : Hierarchy) (well : is_well_formed p ≡ true) (resolved : IsResolved p h) (acyclic : IsAcyclic p) (whole : NoSplit p) (o : Outside) (types : TypesAll p h)
    (admitted : List Bool) (q : Program) (silent : IsSilent o.silent admitted p q) (formed_so : is_well_formed q ≡ true)
  where
    begun : IsSound q
    begun = silent_sound p h well resolved acyclic whole o types admitted q silent formed_so

    optimised_lies : (t : Traced) (n : ℕ) → HaveRunFrom o admitted (first_of q) t n → LaysOut p → LaysOut t.program
    optimised_lies t n ran l = rounds_lie o admitted ran.changing (first_of q) t ran.rounds begun (silent_lies o.silent admitted p q silent l)

    optimised_ascends : (t : Traced) (n : ℕ) → HaveRunFrom o admitted (first_of q) t n → TextsAscend p → TextsAscend t.program
    optimised_ascends t n ran a = rounds_ascend o admitted ran.changing (first_of q) t ran.rounds begun (silent_ascends o admitted p q silent a)

    module _ (u : Traced) (rows : List Row) (inlining : IsInlining o admitted q u rows) where
      owed : Owes o q u.program
      owed = inlining_owes o admitted q u rows begun inlining

      inlined_lies : (t : Traced) (n : ℕ) → HaveRunFrom o admitted u t n → LaysOut p → LaysOut t.program
      inlined_lies t n ran l = rounds_lie o admitted ran.changing u t ran.rounds owed.sound (inlining_lies o admitted q u rows inlining (silent_lies o.silent admitted p q silent l))

      inlined_ascends : (t : Traced) (n : ℕ) → HaveRunFrom o admitted u t n → TextsAscend p → TextsAscend t.program
      inlined_ascends t n ran a = rounds_ascend o admitted ran.changing u t ran.rounds owed.sound (inlining_ascends o admitted q u rows inlining (silent_ascends o admitted p q silent a))

-- ---- what optimise leaves

abbrev traced : Program → List (List Origin) → Traced
traced r origins = record { program = r; origins = origins }

module _ (p r : Program) (o : Outside) (rounds spared : ℕ) (voices : List Voice) (given : List Bool) (a : IsAccepted p) where
  accepted_lies : LaysOut p
  accepted_lies = program_lies a.read.bytes a.read.are_bytes p a.read.reads

  pub left_lies : (inline : Bool) → LeavesBy inline voices given p o r rounds spared → LaysOut r
  left_lies false leaves =
      let done = leaves.optimised in
      optimised_lies p a.hierarchy a.formed a.graph.resolved a.graph.acyclic a.graph.unsplit o a.types done.admitted done.silenced done.prepared.silent done.prepared.formed (traced r leaves.origins) rounds done.ran accepted_lies
  left_lies true leaves =
      let done = leaves.optimised in
      inlined_lies p a.hierarchy a.formed a.graph.resolved a.graph.acyclic a.graph.unsplit o a.types done.admitted done.silenced done.prepared.silent done.prepared.formed done.inlined done.calls done.inlining
      (traced r leaves.origins) rounds done.ran accepted_lies

  left_ascends : (inline : Bool) → LeavesBy inline voices given p o r rounds spared → TextsAscend p → TextsAscend r
  left_ascends false leaves t =
      let done = leaves.optimised in
      optimised_ascends p a.hierarchy a.formed a.graph.resolved a.graph.acyclic a.graph.unsplit o a.types done.admitted done.silenced done.prepared.silent done.prepared.formed (traced r leaves.origins) rounds done.ran t
  left_ascends true leaves t =
      let done = leaves.optimised in
      inlined_ascends p a.hierarchy a.formed a.graph.resolved a.graph.acyclic a.graph.unsplit o a.types done.admitted done.silenced done.prepared.silent done.prepared.formed done.inlined done.calls done.inlining
      (traced r leaves.origins) rounds done.ran t

  -- what is written for what is left of a program that was read lays out
  pub written_left_lies : (inline : Bool) (bytes output : List ℕ) → program_at bytes ≡ Ok p → LeavesBy inline voices given p o r rounds spared → is_well_formed r ≡ true → (w : IsWritten r output) → LaysOut (written_by w.interner r)
  written_left_lies inline bytes output reads leaves well w = interned_lies r w.interner well (left_ascends inline leaves (read_rises bytes p reads a.formed)) w.interned (left_lies inline leaves)
