-- From what a run gives to what it shows.
use Rattle.std.proofs.Common.{◌≡◌, ℕ, Bool, true, false, List, [], length, Option, None, Some, ◌⊎◌, inl, inr, ◌∙◌}
use Rattle.program_model.specs.declared.pass.Origin.{Origin}
use Rattle.program_model.specs.declared.pass.Outside.{Outside}
use Rattle.program_model.specs.declared.program.Program.{Program}
use Rattle.program_model.specs.ProgramRules.{is_well_formed}
use Rattle.class_defs.specs.ClassGraph.{IsTwice}
use Rattle.dalvik_defs.specs.Naming.{named}
use Rattle.dalvik_defs.specs.Outer.{outer_of}
use Rattle.dalvik_defs.specs.Silence.{silenced}
use Rattle.if_text.specs.Items.{Item}
use Rattle.if_rules.specs.Fired.{IsTableOf, Without, With}
use Rattle.removal_law.specs.Reach.{ShutsHold}
use Rattle.reach_bridge.proofs.Unshut.{unshut}
use Rattle.library_bridge.proofs.Narrowing.{narrowed_holds}
use Rattle.command_line.specs.Spelling.{Spells}
use Rattle.dex_defs.specs.Spells as dex
use Rattle.spelled_law.proofs.OnceFile.{spells_once}
use Rattle.spelled_law.proofs.Whole.{read_is_spelled}
use Rattle.command_line.specs.declared.command.Tell.{Tell}
use Rattle.command_line.specs.declared.command.CommandWords.{CommandWords}
use Rattle.command_line.specs.declared.command.CommandWords.TheVariants.{Nothing, Optimise, Check, Live, Trace, Workload}
use Rattle.headline.proofs.Optimised.{optimised_shows, optimised_sound, optimised_reached, optimised_folded, optimised_bound, optimised_loosened, optimised_quiet, optimised_skips, optimised_dead, optimised_fresh, optimised_packed, optimised_stays}
use Rattle.headline.proofs.Inlined.{inlined_shows, inlined_sound, inlined_reached, inlined_folded, inlined_bound, inlined_loosened, inlined_quiet, inlined_skips, inlined_dead, inlined_fresh, inlined_packed, inlined_stays}
use Rattle.pipeline.specs.Advised.{IsAdvised}
use Rattle.pipeline.specs.Asks.{Verdict}
use Rattle.pipeline.specs.Prepared.{IsAdvisedBy}
use Rattle.pipeline.specs.Rounds.{IsOptimised, IsOptimisedBy}
use Rattle.redex_outside.specs.Turns.{Turn}
use Rattle.redex_outside.specs.Voices.{Voice}
use Rattle.redex_outside.specs.Held.{Held}
use Rattle.redex_cli.specs.Accepted.{IsAccepted, IsGraphOf}
use Rattle.redex_cli.specs.Finished.{Finished, FinishedOf, IsOutputOf, Leaves, LeavesInlined, LeavesBy}
use Rattle.redex_cli.specs.Refusals.{OutputBy}
use Rattle.redex_cli.specs.Tables.{IsTableWith}
use Rattle.redex_cli.specs.declared.fetching.Inputs.{Inputs}
use Rattle.headline.proofs.LaidOut.{left_lies, written_left_lies}
use Rattle.headline.specs.Headline.{Headline, KeepsMeaning, IsSpelled, Shrinks}
use Rattle.headline.specs.Admitted.{admitted_in}
use Rattle.headline.proofs.Rising.{names_rise_for, fields_ascend_for, is_spelled}
use Rattle.written_kept.proofs.Looks.{shown_on}

-- the table of rules, with conditions or without, shuts no method
none_shut : (p : Program) (items : List Item) (o : Outside) → IsTableOf p items o → o.shut ≡ []
none_shut p items o (Without none table) = table.shut
none_shut p items o (With settled) = settled.table.shut

-- rules alone shut no method, and what a library shuts is shut by the definition
table_holds : (rules : List ℕ) (library : Option (List ℕ)) (p : Program) (o : Outside) → is_well_formed p ≡ true → ((class : ℕ) → IsTwice p class → ⊥)
    → IsTableWith rules library p o
    → ShutsHold (named p) (outer_of p o)
table_holds rules None p o well once table = unshut p o (table.closes.shut ∙ none_shut p table.table.items table.ruled table.table.table)
table_holds rules (Some bytes) p o well once table = narrowed_holds p well once table.closed o table.library table.narrowed

-- the advisers were asked about methods first
was_advised : (o : Outside) (p : Program) (advisers : ℕ) (before after : List Bool) (v : Verdict) (turns : List Turn) → IsAdvisedBy o p advisers before after v turns → IsAdvised o p advisers before after v
was_advised o p advisers before after v turns (inl asked) = inl asked.asked
was_advised o p advisers before after v turns (inr none) = inr none.unasked

-- what is left is what such advisers left of it, however many they were
abbrev as_plain : (o : Outside) (p : Program) (olds news : List Voice) (before after : List Bool) (spared : ℕ) (r : Program) (origins : List (List Origin)) (rounds : ℕ)
    → IsOptimisedBy o p olds news before after spared r origins rounds → IsOptimised o p (length olds) before after spared r origins rounds
as_plain o p olds news before after spared r origins rounds done = record {
  admitted = done.admitted;
  advised = was_advised o p (length olds) before after (record { admitted = done.admitted; spared = spared }) done.methods done.prepared.advised;
  silenced = done.silenced;
  silent = done.prepared.silent;
  unsilenced = done.prepared.unsilenced;
  formed = done.prepared.formed;
  ran = done.ran;
}

module _ (p r : Program) (o : Outside) (rounds spared : ℕ) (voices : List Voice) (given : List Bool) (accepted : IsAccepted p) (holds : ShutsHold (named p) (outer_of p o)) where
  abbrev well : is_well_formed p ≡ true
  well = accepted.formed

  abbrev graph : IsGraphOf p accepted.hierarchy
  graph = accepted.graph

  keeps_plainly : Leaves voices given p o r rounds spared → KeepsMeaning false voices given p o r
  keeps_plainly leaves =
      let done : IsOptimised o p (length voices) given leaves.answers spared r leaves.origins rounds = as_plain o p voices leaves.news given leaves.answers spared r leaves.origins rounds leaves.optimised in record {
        admitted = leaves.optimised.admitted;
        advised = record {
          turns = leaves.optimised.methods;
          news = leaves.news;
          answers = leaves.answers;
          spared = spared;
          advised = leaves.optimised.prepared.advised;
          replied = leaves.optimised.replied;
        };
        shown = optimised_shows p accepted.hierarchy well graph.resolved graph.acyclic graph.unsplit o accepted.types r leaves.origins (length voices) spared rounds given leaves.answers done holds;
        formed = (optimised_sound p accepted.hierarchy well graph.resolved graph.acyclic graph.unsplit o accepted.types r leaves.origins (length voices) spared rounds given leaves.answers done).formed;
        typed = (optimised_sound p accepted.hierarchy well graph.resolved graph.acyclic graph.unsplit o accepted.types r leaves.origins (length voices) spared rounds given leaves.answers done).typed;
        once = (optimised_sound p accepted.hierarchy well graph.resolved graph.acyclic graph.unsplit o accepted.types r leaves.origins (length voices) spared rounds given leaves.answers done).once;
        grounded = (optimised_sound p accepted.hierarchy well graph.resolved graph.acyclic graph.unsplit o accepted.types r leaves.origins (length voices) spared rounds given leaves.answers done).grounded;
        lays = left_lies p r o rounds spared voices given accepted false leaves;
        reached = optimised_reached p accepted.hierarchy well graph.resolved graph.acyclic graph.unsplit o accepted.types r leaves.origins (length voices) spared rounds given leaves.answers done;
        folded = optimised_folded p accepted.hierarchy well graph.resolved graph.acyclic graph.unsplit o accepted.types r leaves.origins (length voices) spared rounds given leaves.answers done;
        bound = optimised_bound p accepted.hierarchy well graph.resolved graph.acyclic graph.unsplit o accepted.types r leaves.origins (length voices) spared rounds given leaves.answers done;
        loosened = optimised_loosened p accepted.hierarchy well graph.resolved graph.acyclic graph.unsplit o accepted.types r leaves.origins (length voices) spared rounds given leaves.answers done;
        quieted = optimised_quiet p accepted.hierarchy well graph.resolved graph.acyclic graph.unsplit o accepted.types r leaves.origins (length voices) spared rounds given leaves.answers done;
        squeezed = optimised_skips p accepted.hierarchy well graph.resolved graph.acyclic graph.unsplit o accepted.types r leaves.origins (length voices) spared rounds given leaves.answers done;
        cleaned = optimised_dead p accepted.hierarchy well graph.resolved graph.acyclic graph.unsplit o accepted.types r leaves.origins (length voices) spared rounds given leaves.answers done;
        fresh = optimised_fresh p accepted.hierarchy well graph.resolved graph.acyclic graph.unsplit o accepted.types r leaves.origins (length voices) spared rounds given leaves.answers done;
        packed = optimised_packed p accepted.hierarchy well graph.resolved graph.acyclic graph.unsplit o accepted.types r leaves.origins (length voices) spared rounds given leaves.answers done;
        stays = optimised_stays p accepted.hierarchy well graph.resolved graph.acyclic graph.unsplit o accepted.types r leaves.origins (length voices) spared rounds given leaves.answers done;
      }

  keeps_inlined : LeavesInlined voices given p o r rounds spared → KeepsMeaning true voices given p o r
  keeps_inlined leaves =
      let done = leaves.optimised in record {
        admitted = done.admitted;
        advised = record { turns = done.methods; news = done.between; answers = done.middle; spared = spared; advised = done.prepared.advised; replied = done.told };
        shown = inlined_shows p accepted.hierarchy well graph.resolved graph.acyclic graph.unsplit o accepted.types r leaves.origins voices leaves.news spared rounds given leaves.answers done holds;
        formed = (inlined_sound p accepted.hierarchy well graph.resolved graph.acyclic graph.unsplit o accepted.types r leaves.origins voices leaves.news spared rounds given leaves.answers done).formed;
        typed = (inlined_sound p accepted.hierarchy well graph.resolved graph.acyclic graph.unsplit o accepted.types r leaves.origins voices leaves.news spared rounds given leaves.answers done).typed;
        once = (inlined_sound p accepted.hierarchy well graph.resolved graph.acyclic graph.unsplit o accepted.types r leaves.origins voices leaves.news spared rounds given leaves.answers done).once;
        grounded = (inlined_sound p accepted.hierarchy well graph.resolved graph.acyclic graph.unsplit o accepted.types r leaves.origins voices leaves.news spared rounds given leaves.answers done).grounded;
        lays = left_lies p r o rounds spared voices given accepted true leaves;
        reached = inlined_reached p accepted.hierarchy well graph.resolved graph.acyclic graph.unsplit o accepted.types r leaves.origins voices leaves.news spared rounds given leaves.answers done;
        folded = inlined_folded p accepted.hierarchy well graph.resolved graph.acyclic graph.unsplit o accepted.types r leaves.origins voices leaves.news spared rounds given leaves.answers done;
        bound = inlined_bound p accepted.hierarchy well graph.resolved graph.acyclic graph.unsplit o accepted.types r leaves.origins voices leaves.news spared rounds given leaves.answers done;
        loosened = inlined_loosened p accepted.hierarchy well graph.resolved graph.acyclic graph.unsplit o accepted.types r leaves.origins voices leaves.news spared rounds given leaves.answers done;
        quieted = inlined_quiet p accepted.hierarchy well graph.resolved graph.acyclic graph.unsplit o accepted.types r leaves.origins voices leaves.news spared rounds given leaves.answers done;
        squeezed = inlined_skips p accepted.hierarchy well graph.resolved graph.acyclic graph.unsplit o accepted.types r leaves.origins voices leaves.news spared rounds given leaves.answers done;
        cleaned = inlined_dead p accepted.hierarchy well graph.resolved graph.acyclic graph.unsplit o accepted.types r leaves.origins voices leaves.news spared rounds given leaves.answers done;
        fresh = inlined_fresh p accepted.hierarchy well graph.resolved graph.acyclic graph.unsplit o accepted.types r leaves.origins voices leaves.news spared rounds given leaves.answers done;
        packed = inlined_packed p accepted.hierarchy well graph.resolved graph.acyclic graph.unsplit o accepted.types r leaves.origins voices leaves.news spared rounds given leaves.answers done;
        stays = inlined_stays p accepted.hierarchy well graph.resolved graph.acyclic graph.unsplit o accepted.types r leaves.origins voices leaves.news spared rounds given leaves.answers done;
      }

pub keeps : (inline : Bool) (voices : List Voice) (given : List Bool) (p r : Program) (o : Outside) (rounds spared : ℕ) → IsAccepted p → ShutsHold (named p) (outer_of p o)
    → LeavesBy inline voices given p o r rounds spared → KeepsMeaning inline voices given p o r
keeps false voices given p r o rounds spared accepted holds leaves = keeps_plainly p r o rounds spared voices given accepted holds leaves
keeps true voices given p r o rounds spared accepted holds leaves = keeps_inlined p r o rounds spared voices given accepted holds leaves

shrinks : (inline : Bool) (voices : List Voice) (tells : List Tell) (inputs : Inputs) (output summary : List ℕ) → Finished inline voices tells inputs output summary → Shrinks inline voices tells inputs output
shrinks inline voices tells inputs output summary f =
    let accepted = f.accepted in
    let means : dex.Spells inputs.file f.program = read_is_spelled inputs.file f.program f.small f.reads in
    let kept : KeepsMeaning inline f.told [] f.program f.outside f.shrunk.left =
    keeps inline f.told [] f.program f.shrunk.left f.outside f.shrunk.rounds f.shrunk.spared accepted (table_holds inputs.rules inputs.library f.program f.outside accepted.formed accepted.graph.once f.table) f.shrunk.leaves in
    let spells : IsSpelled f.shrunk.left output = is_spelled f.shrunk.left output f.shrunk.written kept.formed kept.once kept.grounded kept.typed (names_rise_for inline inputs.file f.program f.shrunk.left kept.admitted f.reads accepted.formed kept.stays) (fields_ascend_for inline inputs.file f.program f.shrunk.left kept.admitted f.reads accepted.formed kept.stays)
    (written_left_lies f.program f.shrunk.left f.outside f.shrunk.rounds f.shrunk.spared f.told [] accepted inline inputs.file output f.reads f.shrunk.leaves kept.formed f.shrunk.written) f.shrunk.are_bytes in record {
      program = f.program;
      reads = f.reads;
      means = means;
      only = λ other spelled. spells_once inputs.file other f.program f.small spelled means;
      outside = f.outside;
      table = f.table;
      told = f.told;
      are_told = f.are_told;
      left = f.shrunk.left;
      written = f.shrunk.written;
      spells = spells;
      keeps = kept;
      shown = shown_on (silenced (named f.program) (outer_of f.program f.outside) (admitted_in f.program kept.admitted)) (named f.shrunk.left) (named spells.spelled) (outer_of f.program f.outside)
          (spells.shows (outer_of f.program f.outside)) kept.shown;
    }

of_command : (words : List (List ℕ)) (voices : List Voice) (held : Held) (output summary : List ℕ) (command : CommandWords) → Spells words command
    → IsOutputOf voices true held command output summary → Headline words voices held output
of_command words voices held output summary (Optimise asked) spelled f = record {
  asked = asked;
  spelled = spelled;
  inputs = f.inputs;
  are = f.are;
  shrinks = shrinks asked.inline voices asked.tells f.inputs output summary f.finished;
}
of_command words voices held output summary Nothing spelled f = absurd f
of_command words voices held output summary (Check input) spelled f = absurd f
of_command words voices held output summary (Live rules input library) spelled f = absurd f
of_command words voices held output summary (Trace rules input script steps library) spelled f = absurd f
of_command words voices held output summary (Workload count) spelled f = absurd f

pub joined : (words : List (List ℕ)) (voices : List Voice) (held : Held) (output summary : List ℕ) → OutputBy words voices true held output summary → Headline words voices held output
joined words voices held output summary by = of_command words voices held output summary by.command by.spelled by.final
