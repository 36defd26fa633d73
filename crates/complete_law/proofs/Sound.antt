-- No fault stands in what a run has fetched that reads it all.
use Rattle.std.proofs.Common.{◌≡◌, ◌<◌, ◌≤◌, ℕ, List, [], ◌∷◌, length, Result, Ok, Err, refl, sym, subst, ◌∙◌}
use Rattle.std.specs.Prelude.{slice_index}
use Rattle.lemmas.proofs.Options.{some_same}
use Rattle.command_line.specs.Spelling.{Spells as SpellsCommand}
use Rattle.command_line.specs.declared.command.CommandWords.{CommandWords}
use Rattle.clean_files.proofs.Whole.{no_fault, only_graph}
use Rattle.dex_defs.specs.ClassFaults.{HasFault, InGraph, DefinedTwice, OwnAncestor, Split}
use Rattle.dex_defs.specs.Parts.{Fault}
use Rattle.dex_defs.specs.Spells.{Spells}
use Rattle.dex_base.specs.Reading.{◌>>=◌}
use Rattle.dex_read.specs.File.{program_at}
use Rattle.dex_read.specs.declared.fault.DexFault.{DexFault}
use Rattle.program_model.specs.Limits.{limit_of}
use Rattle.stub_library.specs.Stubs.{library_of}
use Rattle.program_model.specs.declared.program.Program.{Program}
use Rattle.redex_cli.specs.Accepted.{IsAccepted}
use Rattle.redex_cli.specs.Commands.{Fetch, counted_as, fetches}
use Rattle.redex_cli.specs.Fetching.{AllWithin, HoldsWithin}
use Rattle.redex_cli.specs.Files.{AllReadAs, AreRules, HoldsRead, IsRead, IsReadAs, IsDeclared}
use Rattle.redex_cli.specs.Refusals.{IsRuleFault, ReadsAll}
use Rattle.redex_cli.specs.declared.fetching.Kind.{Kind}
use Rattle.redex_cli.specs.declared.fetching.Kind.TheVariants as kind
use Rattle.redex_outside.specs.Held.{Held}
use Rattle.refused_code.specs.Faultless.{IsFaultless}
use Rattle.spelled_law.proofs.Whole.{read_is_spelled}
use Rattle.spelled_law.proofs.OnceFile.{spells_once}
use Rattle.rule_laws.proofs.Refuted.{no_item_fault}
use Rattle.rule_text.specs.declared.fault.RuleFault.{RuleFault}
use Rattle.rule_text.specs.declared.fault.RuleFault.TheVariants as rule
use Rattle.complete_law.specs.Complete.{AreGoodRules}
use Rattle.complete_law.specs.Standing.{AreBytes, IsSound, IsSoundAs, HoldsSound, AllSound}

none_of_graph : (program : Program) → IsAccepted program → (fault : Fault) → InGraph program fault → ⊥
none_of_graph program it fault (DefinedTwice class h is) = let graph = it.graph in graph.once class h
none_of_graph program it fault (OwnAncestor class h is) = let graph = it.graph in graph.acyclic class h.own
none_of_graph program it fault (Split class method h is) = let graph = it.graph in graph.unsplit class method h

read_sound : (bytes : List ℕ) → ((i : ℕ) → slice_index bytes i < 256) → IsRead bytes → IsSound bytes
read_sound bytes are it = record { faultless = none; program = it.program; spells = spelled; typed = let accepted = it.accepted in accepted.typed }
  where
    spelled : Spells bytes it.program
    spelled = read_is_spelled bytes it.program are it.reads

    none : (fault : Fault) → HasFault bytes fault → ⊥
    none fault h =
        let o = only_graph bytes are it.program it.reads fault h in
        none_of_graph it.program it.accepted fault (subst (λ (p : Program). InGraph p fault) (spells_once bytes o.program it.program are o.spells spelled) o.stands)

-- a library is read as a program is
declared_read : (bytes : List ℕ) → IsDeclared bytes → (p : Program) × (program_at bytes ≡ Ok p)
declared_read bytes it = by (program_at bytes) refl it.declares
  where
    by : (read : Result Program DexFault) → program_at bytes ≡ read → (read >>= λ p. Ok (library_of p)) ≡ Ok it.library → (p : Program) × (program_at bytes ≡ Ok p)
    by (Ok p) h e = (p, h)
    by (Err k) h e = absurd cc

library_sound : (bytes : List ℕ) → ((i : ℕ) → slice_index bytes i < 256) → IsDeclared bytes → IsFaultless bytes
library_sound bytes are it = let r = declared_read bytes it in no_fault bytes are r.0 r.1

rules_sound : (bytes : List ℕ) → AreRules bytes → AreGoodRules bytes
rules_sound bytes it fault is h = no_item_fault bytes it.items it.spells fault (λ e. no_memory fault e is) h
  where
    no_memory : (fault : RuleFault) → fault ≡ rule.NoMemory → IsRuleFault fault → ⊥
    no_memory fault e is = subst IsRuleFault e is

sound_as : (k : Kind) (bytes : List ℕ) → ((i : ℕ) → slice_index bytes i < 256) → IsReadAs k bytes → IsSoundAs k bytes
sound_as kind.Rules bytes are it = rules_sound bytes it
sound_as kind.File bytes are it = read_sound bytes are it
sound_as kind.Library bytes are it = library_sound bytes are it
sound_as kind.Script bytes are it = it

module _ (held : Held) (are : AreBytes held) where
  holds : (fetch : Fetch) → HoldsWithin held fetch → HoldsRead held fetch → HoldsSound held fetch
  holds fetch w r = record {
    bytes = r.bytes;
    there = r.there;
    within = subst (λ (bytes : List ℕ). length bytes ≤ limit_of (counted_as fetch.kind)) (some_same w.bytes r.bytes (sym w.there ∙ r.there)) w.within;
    sound = sound_as fetch.kind r.bytes (are fetch.name r.bytes r.there) r.read;
  }

  all_sound : (names : List Fetch) → AllWithin held names → AllReadAs kind.Rules held names → AllReadAs kind.File held names → AllReadAs kind.Library held names → AllReadAs kind.Script held names
      → AllSound held names
  all_sound [] w r f l s = tt
  all_sound (fetch ∷ later) w r f l s = (holds fetch w.0 (by fetch.kind refl), all_sound later w.1 r.1 f.1 l.1 s.1)
    where
      by : (k : Kind) → fetch.kind ≡ k → HoldsRead held fetch
      by kind.Rules is = r.0 is
      by kind.File is = f.0 is
      by kind.Library is = l.0 is
      by kind.Script is = s.0 is

pub sound : (words : List (List ℕ)) (held : Held) → AreBytes held → ReadsAll words held → (command : CommandWords) → SpellsCommand words command → AllSound held (fetches command)
sound words held are reads command spelled =
    let all = reads command spelled in
    let inputs = all.inputs in
    all_sound held are (fetches command) all.within inputs.rules inputs.files inputs.libraries all.scripts
