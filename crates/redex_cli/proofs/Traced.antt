-- What `trace` says, from what the machine says of a run.
use Rattle.std.proofs.Common.{◌≡◌, ◌≤◌, ℕ, List, true, length, subst, Option, Result, Ok, Some, sym}
use Rattle.std.specs.Prelude.{IfOk}
use Rattle.array_law.proofs.Runs.{make_arrays}
use Rattle.dalvik_defs.specs.Naming.{named}
use Rattle.dalvik_defs.specs.Outer.{outer_of}
use Rattle.dalvik_defs.specs.Step.{shows}
use Rattle.dalvik_defs.specs.declared.events.Event.{Event}
use Rattle.dalvik_defs.specs.declared.script.Move.{Move}
use Rattle.dalvik_defs.specs.declared.tables.Floats.{Floats}
use Rattle.dalvik_defs.specs.declared.tables.Framework.{Framework}
use Rattle.dalvik_model.specs.Standing.{IsSubject, MakesOnlyArrays, shown_by, subject_of}
use Rattle.dex_read.specs.File.{program_at}
use Rattle.hierarchy.specs.Shapes.{IsResolved}
use Rattle.hierarchy.specs.declared.build.Hierarchy.{Hierarchy}
use Rattle.if_rules.specs.Fired.{IsTableOf}
use Rattle.if_text.specs.Items.{Item}
use Rattle.if_text.specs.Readings.{AreRead, IsIfReading}
use Rattle.if_text.specs.declared.rules.IfRules.{IfRules}
use Rattle.program_model.specs.declared.pass.Outside.{Outside}
use Rattle.program_model.specs.declared.program.Program.{Program}
use Rattle.program_model.specs.ProgramRules.{is_well_formed}
use Rattle.reach.specs.Closing.{Closes}
use Rattle.text_defs.specs.EventLines.{event_lines}
use Rattle.text_defs.specs.Plays.{play_of}
use Rattle.text_defs.specs.declared.play.Play.{Play}
use Rattle.redex_cli.specs.Accepted.{IsAccepted}
use Rattle.stub_library.specs.Shut.{IsNarrowed}
use Rattle.stub_library.specs.Stubs.{library_at}
use Rattle.stub_library.specs.declared.library.Library.{Library}
use Rattle.redex_cli.specs.Tables.{IsTableBy, IsTableFor, IsTableWith}
use Rattle.redex_cli.specs.Traces.{Traces, TracesFile}
use Rattle.redex_cli.specs.declared.fetching.Inputs.{Inputs}
use Rattle.redex_cli.specs.declared.status.Status.{Status}

-- ---- a run

makes_arrays : (p : Program) (o : Outside) (f : Framework) (a : Floats) (script : List Move) (n : ℕ)
    → IsAccepted p → MakesOnlyArrays (subject_of p o f a script) n
makes_arrays p o f a script n accepted = make_arrays (named p) accepted.typed (outer_of p o) f a script n

subject : (p : Program) (o : Outside) (f : Framework) (a : Floats) (script : List Move)
    → IsAccepted p → IsSubject (subject_of p o f a script)
subject p o f a script accepted =
    let graph = accepted.graph in
    record { well = accepted.formed; accepted = record { once = graph.once; acyclic = graph.acyclic; unsplit = graph.unsplit } }

-- what the table of the rules is, from what is answered for all items that are those of the rules
pub table_for : (rules : IfRules) (text : List ℕ) (p : Program) (h : Hierarchy) (ruled outside : Outside) → is_well_formed p ≡ true → IsResolved p h
    → ((items : List Item) → is_well_formed p ≡ true → IsResolved p h → AreRead items rules → IsTableOf p items ruled)
    → IsIfReading text rules → Closes p ruled outside → IsTableFor text p outside
table_for rules text p h ruled outside well resolved tables reading closes = record {
  ruled = ruled;
  table = record { items = reading.items; spells = reading.spells; table = tables reading.items well resolved reading.read };
  closes = closes;
}

-- the table of a text that is found to be this one
pub table_of_text : (given text : List ℕ) (library : Option (List ℕ)) (p : Program) (outside : Outside) → given ≡ text → IsTableWith given library p outside
    → IsTableWith text library p outside
table_of_text given text library p outside same table = subst (λ (rules : List ℕ). IsTableWith rules library p outside) same table

-- and behind a library, whose bytes were found to be these
pub table_by : (rules given bytes : List ℕ) (p : Program) (closed outside : Outside) (library : Library) → given ≡ bytes → IsTableFor rules p closed → library_at given ≡ Ok library
    → IsNarrowed p closed library outside → IsTableBy rules bytes p outside
table_by rules given bytes p closed outside library same table declares narrowed = record {
  closed = closed;
  table = table;
  library = library;
  declares = subst (λ (bs : List ℕ). library_at bs ≡ Ok library) same declares;
  narrowed = narrowed;
}

-- where there is a library, whose bytes are these
pub table_with_library : (library : Option (List ℕ)) (bytes : List ℕ) (p : Program) (closed : Outside) (result : Result Outside Status) → library ≡ Some bytes
    → ((rules : List ℕ) → IsTableFor rules p closed → IfOk result (IsTableBy rules bytes p))
    → (rules : List ℕ) → IsTableFor rules p closed → IfOk result (IsTableWith rules library p)
table_with_library library bytes p closed result is by rules table =
    subst (λ (l : Option (List ℕ)). IfOk result (IsTableWith rules l p)) (sym is) (by rules table)

-- what the machine answers of a run of an accepted program, where the script that it was given is this one
pub shown : {T E : Type 0} (r : Result T E) (items : T → List Event) (p : Program) (o : Outside) (f : Framework) (a : Floats) (given script : List Move) (n : ℕ)
    → given ≡ script → IsAccepted p
    → (IsSubject (subject_of p o f a given) → MakesOnlyArrays (subject_of p o f a given) n → IfOk r (λ x. items x ≡ shown_by (subject_of p o f a given) n))
    → IfOk r (λ x. items x ≡ shows (named p) (outer_of p o) f a script n)
shown r items p o f a given script n same accepted says =
    subst (λ (moves : List Move). IfOk r (λ x. items x ≡ shows (named p) (outer_of p o) f a moves n)) same
    (says (subject p o f a given accepted) (makes_arrays p o f a given n accepted))

pub traces : (rules : List ℕ) (library : Option (List ℕ)) (p : Program) (play : Play) (outside : Outside) (steps : ℕ) (events : List Event) (text : List ℕ)
    → IsTableWith rules library p outside → length events ≤ steps
    → events ≡ shows (named p) (outer_of p outside) play.framework play.floats play.moves steps
    → text ≡ event_lines events → Traces rules library p play steps text
traces rules library p play outside steps events text table few shown says = record {
  outside = outside;
  table = table;
  events = events;
  says = says;
  few = few;
  shown = shown;
}

pub traces_file : (inputs : Inputs) (p : Program) (play : Play) (script : List ℕ) (steps : ℕ) (text : List ℕ)
    → program_at inputs.file ≡ Ok p → IsAccepted p → play_of script ≡ Ok play → Traces inputs.rules inputs.library p play steps text → TracesFile inputs script steps text
traces_file inputs p play script steps text reads accepted plays traces = record {
  program = p;
  reads = reads;
  accepted = accepted;
  play = play;
  plays = plays;
  traces = traces;
}
