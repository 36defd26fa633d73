-- From what fetching, working and putting say to what a command says.
use Rattle.std.proofs.Common.{◌≡◌, ◌⊎◌, ◌++◌, ℕ, List, [], ◌∷◌, Bool, IsTrue, Option, None, Some, refl, sym, ap, subst, ◌∙◌, inl, inr}
use Rattle.redex_outside.specs.Counts.{NoneFell}
use Rattle.if_text.specs.Faults.{IsIfFault}
use Rattle.rule_text.specs.declared.fault.RuleFault.{RuleFault}
use Rattle.redex_outside.specs.Held.{Held, AllSame, OthersSame, OldOrPrefix}
use Rattle.redex_outside.specs.Voices.{Voice}
use Rattle.dex_read.specs.declared.fault.DexFault.{DexFault}
use Rattle.program_model.specs.declared.limits.Counted.{Counted}
use Rattle.command_line.specs.declared.command.CommandWords.{CommandWords}
use Rattle.command_line.specs.declared.command.OptimiseWords.{OptimiseWords}
use Rattle.command_line.specs.declared.command.Tell.{Tell}
use Rattle.redex_cli.specs.Commands.{Fetch, fetches, file_alone, input_files, library_file, output_of, script_alone, trace_files}
use Rattle.redex_cli.specs.Fetching.{Failures, AllWithin, FirstTooLong, FetchRefused, HoldsBadLine, OneBadLine, PutRefused}
use Rattle.redex_cli.specs.Files.{AllInputsRead, AllRead, AllReadAs, AreHeld, AreRead, AreRules, BytesRefused, FileCause, FileRefused, HasLibrary, HoldsBadRules, HoldsNamed, HoldsRead, HoldsRefused, IsDeclared, IsPlay, IsRead, IsReadAs, LibraryRefused, OneBadLibrary, RefusedBehind, RulesCause}
use Rattle.redex_cli.specs.Finished.{Checks, Finished, FinishedOf, IsChecked, IsOutputOf, IsResult, IsSummary}
use Rattle.redex_cli.specs.Lists.{IsListed, ListsFile}
use Rattle.redex_cli.specs.Refusals.{Cause, EndsTooLong, Gives, HoldsSummed, IsDexFault, IsLibraryFault, MadeRefused, ReadRefused, Refuses, TraceRefused, WorkRefused}
use Rattle.redex_cli.specs.Stays.{OutputHolds, Stays}
use Rattle.redex_cli.specs.Traces.{IsTraced, TracesFile}
use Rattle.redex_cli.specs.declared.fetching.Inputs.{Inputs}
use Rattle.redex_cli.specs.declared.fetching.Kind.{Kind}
use Rattle.redex_cli.specs.declared.fetching.Kind.TheVariants as kind
use Rattle.redex_cli.specs.declared.status.InputFault.TheVariants as input
use Rattle.redex_cli.specs.declared.status.Status.{Status}
use Rattle.redex_cli.specs.declared.status.Status.TheVariants.{Done, Usage, BadRules, BadDex, Limit, ReadFault, WriteFault, NoMemory, BadScript}
use Rattle.redex_cli.proofs.FetchLemmas.{KeepsAll, passes_ends, rose_since, stays_same, within_or_long}

-- ---- fetching

fetch_cause : (names : List Fetch) (output : Option (List ℕ)) (tells : Bool) (old : Held) (f g p q : Failures) (status : Status)
    → FetchRefused tells old f g names status → Cause names output tells old f g p q status
fetch_cause names output tells old f g p q ReadFault r = r
fetch_cause names output tells old f g p q (Limit fault) r = inl r
fetch_cause names output tells old f g p q NoMemory r = tt
fetch_cause names output tells old f g p q _ r = absurd r

fetch_keeps : (names : List Fetch) (tells : Bool) (old : Held) (f g : Failures) (status : Status)
    → FetchRefused tells old f g names status → KeepsAll status
fetch_keeps names tells old f g ReadFault r = tt
fetch_keeps names tells old f g (Limit fault) r = tt
fetch_keeps names tells old f g NoMemory r = tt
fetch_keeps names tells old f g _ r = absurd r

fetch_ends : (names : List Fetch) (tells : Bool) (old : Held) (f g : Failures) (status : Status) (counted : Counted)
    → FetchRefused tells old f g names status → IsTrue tells → FirstTooLong old names counted → EndsTooLong counted status
fetch_ends names tells old f g ReadFault counted r told long = tt
fetch_ends names tells old f g (Limit fault) counted r told long = passes_ends tells old names fault counted r told long
fetch_ends names tells old f g NoMemory counted r told long = tt
fetch_ends names tells old f g _ counted r told long = absurd r

pub fetch_refuses : (names : List Fetch) (output : Option (List ℕ)) (IsFinal : List ℕ → List ℕ → Type 0) (tells : Bool) (old new : Held) (f g p q : Failures) (status : Status)
    → FetchRefused tells old f g names status → (IsTrue tells → AllSame old new)
    → Refuses names output IsFinal tells old new f g p q status
fetch_refuses names output IsFinal tells old new f g p q status r same = record {
  cause = fetch_cause names output tells old f g p q status r;
  too_long = λ counted told long. fetch_ends names tells old f g status counted r told long;
  stays = λ told. stays_same (λ name. output ≡ Some name) IsFinal status p q old new (fetch_keeps names tells old f g status r) (same told);
}

-- ---- what the names of the inputs hold

holds_bad : (held : Held) (name text : List ℕ) (fault : RuleFault) → held name ≡ Some text → IsIfFault text fault
    → HoldsBadRules held (record { name = name; kind = kind.Rules }) fault
holds_bad held name text fault there bad = record { are_rules = refl; bytes = text; there = there; bad = bad }

holds_refused : (held : Held) (name bytes : List ℕ) (status : Status) → held name ≡ Some bytes → FileRefused bytes status
    → HoldsRefused held (record { name = name; kind = kind.File }) status
holds_refused held name bytes status there refused = record { is_file = refl; bytes = bytes; there = there; refused = refused }

holds_read : (wanted : Kind) (held : Held) (name bytes : List ℕ) → held name ≡ Some bytes → IsReadAs wanted bytes → HoldsRead held (record { name = name; kind = wanted })
holds_read wanted held name bytes there read = record { bytes = bytes; there = there; read = read }

rules_no_file : kind.Rules ≡ kind.File → ⊥
rules_no_file e = cc

rules_no_library : kind.Rules ≡ kind.Library → ⊥
rules_no_library e = cc

file_no_library : kind.File ≡ kind.Library → ⊥
file_no_library e = cc

library_no_file : kind.Library ≡ kind.File → ⊥
library_no_file e = cc

rules_no_script : kind.Rules ≡ kind.Script → ⊥
rules_no_script e = cc

file_no_rules : kind.File ≡ kind.Rules → ⊥
file_no_rules e = cc

file_no_script : kind.File ≡ kind.Script → ⊥
file_no_script e = cc

library_no_rules : kind.Library ≡ kind.Rules → ⊥
library_no_rules e = cc

library_no_script : kind.Library ≡ kind.Script → ⊥
library_no_script e = cc

script_no_rules : kind.Script ≡ kind.Rules → ⊥
script_no_rules e = cc

script_no_file : kind.Script ≡ kind.File → ⊥
script_no_file e = cc

script_no_library : kind.Script ≡ kind.Library → ⊥
script_no_library e = cc

-- what the names say by what the inputs say
record AreInputs (names : List Fetch) (tells : Bool) (held : Held) (inputs : Inputs) : Type 0 where
  rules : IsTrue tells → (fault : RuleFault) → IsIfFault inputs.rules fault → RulesCause held names fault
  refused : IsTrue tells → (status : Status) → BytesRefused inputs status → FileCause held names status
  library : (fault : DexFault) → IsLibraryFault inputs.library fault → IsDexFault fault × HasLibrary names
  ruled : IsTrue tells → AreRules inputs.rules → AllReadAs kind.Rules held names
  read : IsTrue tells → AreRead inputs → AllInputsRead held names

-- names behind the file, among which a library is, if there is one
record AreBehind (names : List Fetch) (tells : Bool) (held : Held) (library : Option (List ℕ)) : Type 0 where
  rules : AllReadAs kind.Rules held names
  files : AllReadAs kind.File held names
  read : IsTrue tells → ((bytes : List ℕ) → library ≡ Some bytes → IsDeclared bytes) → AllReadAs kind.Library held names
  refused : IsTrue tells → (status : Status) (bytes : List ℕ) → library ≡ Some bytes → LibraryRefused bytes status → OneBadLibrary held names status
  is : (fault : DexFault) → IsLibraryFault library fault → HasLibrary names

none_some : (bytes : List ℕ) → None ≡ Some bytes → ⊥
none_some bytes e = cc

library_behind : (tells : Bool) (held : Held) (name library : Option (List ℕ)) (more : List Fetch) → HoldsNamed tells held name library
    → AllReadAs kind.Rules held more → AllReadAs kind.File held more → AllReadAs kind.Library held more → AreBehind (library_file name ++ more) tells held library
library_behind tells held None None more named rules files libraries = record {
  rules = rules;
  files = files;
  read = λ _ _. libraries;
  refused = λ _ status bytes e _. absurd (none_some bytes e);
  is = λ fault r. absurd r;
}
library_behind tells held (Some name) (Some library) more named rules files libraries = record {
  rules = (λ e. absurd (library_no_rules e), rules);
  files = (λ e. absurd (library_no_file e), files);
  read = λ told declared. (λ _. holds_read kind.Library held name library (named told) (declared library refl), libraries);
  refused = λ told status bytes e refused. inl (record { is_library = refl; bytes = bytes; there = named told ∙ e; refused = refused });
  is = λ _ _. inl refl;
}
library_behind tells held None (Some library) more named rules files libraries = absurd named
library_behind tells held (Some name) None more named rules files libraries = absurd named

library_alone : (tells : Bool) (held : Held) (name library : Option (List ℕ)) → HoldsNamed tells held name library
    → AreBehind (library_file name) tells held library
library_alone tells held None library named = library_behind tells held None library [] named tt tt tt
library_alone tells held (Some name) library named = library_behind tells held (Some name) library [] named tt tt tt

dex_fault : (library : Option (List ℕ)) (fault : DexFault) → IsLibraryFault library fault → IsDexFault fault
dex_fault None fault r = absurd r
dex_fault (Some bytes) fault r = r

files_behind : (held : Held) (rules input file : List ℕ) (more : List Fetch) → held input ≡ Some file → IsRead file → AllReadAs kind.File held more
    → AllReadAs kind.File held (record { name = rules; kind = kind.Rules } ∷ record { name = input; kind = kind.File } ∷ more)
files_behind held rules input file more there read files = (λ e. absurd (rules_no_file e), (λ _. holds_read kind.File held input file there read, files))

rules_behind : (held : Held) (rules input text : List ℕ) (more : List Fetch) → held rules ≡ Some text → AreRules text → AllReadAs kind.Rules held more
    → AllReadAs kind.Rules held (record { name = rules; kind = kind.Rules } ∷ record { name = input; kind = kind.File } ∷ more)
rules_behind held rules input text more there read behind = (λ _. holds_read kind.Rules held rules text there read, (λ e. absurd (file_no_rules e), behind))

refused_by : (tells : Bool) (held : Held) (rules input : List ℕ) (more : List Fetch) (inputs : Inputs) (status : Status) → IsTrue tells → held input ≡ Some inputs.file
    → AreBehind more tells held inputs.library → FileRefused inputs.file status ⊎ RefusedBehind inputs status
    → FileCause held (record { name = rules; kind = kind.Rules } ∷ record { name = input; kind = kind.File } ∷ more) status
refused_by tells held rules input more inputs status told there behind (inl r) = inl (inr (inl (holds_refused held input inputs.file status there r)))
refused_by tells held rules input more inputs status told there behind (inr r) =
    inr (files_behind held rules input inputs.file more there r.read behind.files, inr (inr (behind.refused told status r.bytes r.is r.refused)))

two_names : (tells : Bool) (held : Held) (rules input : List ℕ) (library : Option (List ℕ)) (more : List Fetch) (inputs : Inputs)
    → AreHeld tells held rules input library inputs → AreBehind more tells held inputs.library
    → AreInputs (record { name = rules; kind = kind.Rules } ∷ record { name = input; kind = kind.File } ∷ more) tells held inputs
two_names tells held rules input library more inputs are behind = record {
  rules = λ told fault bad. inl (holds_bad held rules inputs.rules fault (are.ruled told) bad);
  refused = λ told status r. refused_by tells held rules input more inputs status told (are.filed told) behind r.bytes;
  library = λ fault r. (dex_fault inputs.library fault r, inr (inr (behind.is fault r)));
  ruled = λ told read. rules_behind held rules input inputs.rules more (are.ruled told) read behind.rules;
  read = λ told read. record {
    rules = rules_behind held rules input inputs.rules more (are.ruled told) read.rules behind.rules;
    files = files_behind held rules input inputs.file more (are.filed told) read.file behind.files;
    libraries = (λ e. absurd (rules_no_library e), (λ e. absurd (file_no_library e), behind.read told read.library));
  };
}

inputs_are : (tells : Bool) (held : Held) (rules input : List ℕ) (library : Option (List ℕ)) (inputs : Inputs)
    → AreHeld tells held rules input library inputs → AreInputs (input_files rules input library) tells held inputs
inputs_are tells held rules input library inputs are =
    two_names tells held rules input library (library_file library) inputs are (library_alone tells held library inputs.library are.named)

trace_are : (tells : Bool) (held : Held) (rules input : List ℕ) (library : Option (List ℕ)) (script : List ℕ) (inputs : Inputs)
    → AreHeld tells held rules input library inputs → AreInputs (trace_files rules input library script) tells held inputs
trace_are tells held rules input library script inputs are =
    two_names tells held rules input library (library_file library ++ script_alone script) inputs are
    (library_behind tells held library inputs.library (script_alone script) are.named
    (λ e. absurd (script_no_rules e), tt) (λ e. absurd (script_no_file e), tt) (λ e. absurd (script_no_library e), tt))

-- the inputs are fetched before a script, and one alone
no_script : (held : Held) (rules input : List ℕ) (library : Option (List ℕ)) → AllReadAs kind.Script held (input_files rules input library)
no_script held rules input None = (λ e. absurd (rules_no_script e), (λ e. absurd (file_no_script e), tt))
no_script held rules input (Some name) = (λ e. absurd (rules_no_script e), (λ e. absurd (file_no_script e), (λ e. absurd (library_no_script e), tt)))

one_script : (held : Held) (rules input : List ℕ) (library : Option (List ℕ)) (script text : List ℕ) → held script ≡ Some text → IsPlay text
    → AllReadAs kind.Script held (trace_files rules input library script)
one_script held rules input None script text there play =
    (λ e. absurd (rules_no_script e), (λ e. absurd (file_no_script e), (λ _. holds_read kind.Script held script text there play, tt)))
one_script held rules input (Some name) script text there play =
    (λ e. absurd (rules_no_script e), (λ e. absurd (file_no_script e), (λ e. absurd (library_no_script e), (λ _. holds_read kind.Script held script text there play, tt))))

alone_fault : (library : Option (List ℕ)) (fault : DexFault) → library ≡ None → IsLibraryFault library fault → ⊥
alone_fault None fault alone r = r
alone_fault (Some bytes) fault alone r = none_some bytes (sym alone)

-- a command that fetches nothing
none_are : (tells : Bool) (held : Held) (inputs : Inputs) → inputs.library ≡ None → AreInputs [] tells held inputs
none_are tells held inputs alone = record {
  rules = λ _ fault _. tt;
  refused = λ _ status _. tt;
  library = λ fault r. absurd (alone_fault inputs.library fault alone r);
  ruled = λ _ _. tt;
  read = λ _ _. record { rules = tt; files = tt; libraries = tt };
}

-- ---- the work

work_cause : (names : List Fetch) (output : Option (List ℕ)) (inputs : Inputs) (tells : Bool) (old : Held) (f g p q : Failures) (status : Status)
    → WorkRefused inputs status → BytesRefused inputs status → AreInputs names tells old inputs → (IsTrue tells → AllWithin old names)
    → Cause names output tells old f g p q status
work_cause names output inputs tells old f g p q (BadRules fault) r bytes are within =
    record { carried = r.0; within = within; ruling = λ told. are.rules told fault r.1 }
work_cause names output inputs tells old f g p q (BadDex (input.Library fault)) r bytes are within =
    record { carried = are.library fault r; within = within; rules = λ told. are.ruled told bytes.before; file = λ told. are.refused told (BadDex (input.Library fault)) bytes }
work_cause names output inputs tells old f g p q (BadDex (input.Dex fault)) r bytes are within =
    record { carried = r; within = within; rules = λ told. are.ruled told bytes.before; file = λ told. are.refused told (BadDex (input.Dex fault)) bytes }
work_cause names output inputs tells old f g p q (BadDex (input.Hierarchy fault)) r bytes are within =
    record { carried = r; within = within; rules = λ told. are.ruled told bytes.before; file = λ told. are.refused told (BadDex (input.Hierarchy fault)) bytes }
work_cause names output inputs tells old f g p q (BadDex (input.Typing fault)) r bytes are within =
    record { carried = r; within = within; rules = λ told. are.ruled told bytes.before; file = λ told. are.refused told (BadDex (input.Typing fault)) bytes }
work_cause names output inputs tells old f g p q (Limit fault) r bytes are within =
    inr (record { inside = r; within = within; rules = λ told. are.ruled told bytes.before; file = λ told. are.refused told (Limit fault) bytes })
work_cause names output inputs tells old f g p q NoMemory r bytes are within = tt
work_cause names output inputs tells old f g p q Done r bytes are within = absurd r
work_cause names output inputs tells old f g p q Usage r bytes are within = absurd r
work_cause names output inputs tells old f g p q ReadFault r bytes are within = absurd r
work_cause names output inputs tells old f g p q WriteFault r bytes are within = absurd r
work_cause names output inputs tells old f g p q (BadScript line) r bytes are within = absurd r

work_keeps : (inputs : Inputs) (status : Status) → WorkRefused inputs status → KeepsAll status
work_keeps inputs (BadRules fault) r = tt
work_keeps inputs (BadDex fault) r = tt
work_keeps inputs (Limit fault) r = tt
work_keeps inputs NoMemory r = tt
work_keeps inputs Done r = absurd r
work_keeps inputs Usage r = absurd r
work_keeps inputs ReadFault r = absurd r
work_keeps inputs WriteFault r = absurd r
work_keeps inputs (BadScript line) r = absurd r

work_refuses : (names : List Fetch) (output : Option (List ℕ)) (IsFinal : List ℕ → List ℕ → Type 0) (inputs : Inputs) (tells : Bool) (old new : Held) (f g p q : Failures) (status : Status)
    → WorkRefused inputs status → BytesRefused inputs status → AreInputs names tells old inputs → (IsTrue tells → AllWithin old names) → (IsTrue tells → AllSame old new)
    → Refuses names output IsFinal tells old new f g p q status
work_refuses names output IsFinal inputs tells old new f g p q status r bytes are within same = record {
  cause = work_cause names output inputs tells old f g p q status r bytes are within;
  too_long = λ counted told long. absurd (within_or_long old names counted (within told) long);
  stays = λ told. stays_same (λ name. output ≡ Some name) IsFinal status p q old new (work_keeps inputs status r) (same told);
}

pub inputs_refuse : (rules input : List ℕ) (library output : Option (List ℕ)) (IsFinal : List ℕ → List ℕ → Type 0) (inputs : Inputs) (tells : Bool) (old new : Held) (f g p q : Failures) (status : Status)
    → WorkRefused inputs status → BytesRefused inputs status → AreHeld tells old rules input library inputs
    → (IsTrue tells → AllWithin old (input_files rules input library)) → (IsTrue tells → AllSame old new)
    → Refuses (input_files rules input library) output IsFinal tells old new f g p q status
inputs_refuse rules input library output IsFinal inputs tells old new f g p q status r bytes are within same =
    work_refuses (input_files rules input library) output IsFinal inputs tells old new f g p q status r bytes (inputs_are tells old rules input library inputs are) within same

pub made_refuses : (IsFinal : List ℕ → List ℕ → Type 0) (tells : Bool) (held : Held) (f p : Failures) (status : Status)
    → MadeRefused status → Refuses [] None IsFinal tells held held f f p p status
made_refuses IsFinal tells held f p status r =
    work_refuses [] None IsFinal r.inputs tells held held f f p p status r.refused r.bytes (none_are tells held r.inputs r.alone) (λ _. tt) (λ _ name. refl)

read_cause : (names : List Fetch) (output : Option (List ℕ)) (tells : Bool) (old : Held) (f g p q : Failures) (status : Status)
    → ReadRefused status → (IsTrue tells → AllWithin old names) → (IsTrue tells → AllReadAs kind.Rules old names) → (IsTrue tells → FileCause old names status)
    → Cause names output tells old f g p q status
read_cause names output tells old f g p q (BadDex (input.Library fault)) r within rules file = absurd r
read_cause names output tells old f g p q (BadDex (input.Dex fault)) r within rules file = record { carried = r; within = within; rules = rules; file = file }
read_cause names output tells old f g p q (BadDex (input.Hierarchy fault)) r within rules file = record { carried = r; within = within; rules = rules; file = file }
read_cause names output tells old f g p q (BadDex (input.Typing fault)) r within rules file = record { carried = r; within = within; rules = rules; file = file }
read_cause names output tells old f g p q (Limit fault) r within rules file = inr (record { inside = r; within = within; rules = rules; file = file })
read_cause names output tells old f g p q NoMemory r within rules file = tt
read_cause names output tells old f g p q _ r within rules file = absurd r

read_keeps : (status : Status) → ReadRefused status → KeepsAll status
read_keeps (BadDex fault) r = tt
read_keeps (Limit fault) r = tt
read_keeps NoMemory r = tt
read_keeps _ r = absurd r

-- a command without rules
pub check_refuses : (input bytes : List ℕ) (IsFinal : List ℕ → List ℕ → Type 0) (tells : Bool) (old new : Held) (f g p q : Failures) (status : Status)
    → ReadRefused status → FileRefused bytes status → (IsTrue tells → AllWithin old (file_alone input))
    → (IsTrue tells → old input ≡ Some bytes) → (IsTrue tells → AllSame old new)
    → Refuses (file_alone input) None IsFinal tells old new f g p q status
check_refuses input bytes IsFinal tells old new f g p q status r refused within there same = record {
  cause = read_cause (file_alone input) None tells old f g p q status r within (λ _. (λ e. absurd (file_no_rules e), tt))
      (λ told. inl (inl (holds_refused old input bytes status (there told) refused)));
  too_long = λ counted told long. absurd (within_or_long old (file_alone input) counted (within told) long);
  stays = λ told. stays_same (λ name. None ≡ Some name) IsFinal status p q old new (read_keeps status r) (same told);
}

bad_line : (held : Held) (rules input : List ℕ) (library : Option (List ℕ)) (script : List ℕ) (line : ℕ)
    → HoldsBadLine held (record { name = script; kind = kind.Script }) line → OneBadLine held (trace_files rules input library script) line
bad_line held rules input None script line bad = inr (inr (inl bad))
bad_line held rules input (Some library) script line bad = inr (inr (inr (inl bad)))

-- what the work on inputs may cause, where a script is fetched too
trace_cause : (rules input : List ℕ) (library : Option (List ℕ)) (script text : List ℕ) (inputs : Inputs) (tells : Bool) (old : Held) (f g p q : Failures) (status : Status)
    → TraceRefused inputs text status → BytesRefused inputs status → AreHeld tells old rules input library inputs
    → (IsTrue tells → AllWithin old (trace_files rules input library script)) → (IsTrue tells → old script ≡ Some text)
    → Cause (trace_files rules input library script) None tells old f g p q status
trace_cause rules input library script text inputs tells old f g p q (BadScript line) r bytes are within there =
    record {
      within = within;
      read = λ told. (trace_are tells old rules input library script inputs are).read told bytes.before;
      bad = λ told. bad_line old rules input library script line (record { is_script = refl; bytes = text; there = there told; says = r });
    }
trace_cause rules input library script text inputs tells old f g p q (BadRules fault) r bytes are within there =
    work_cause (trace_files rules input library script) None inputs tells old f g p q (BadRules fault) r bytes (trace_are tells old rules input library script inputs are) within
trace_cause rules input library script text inputs tells old f g p q (BadDex fault) r bytes are within there =
    work_cause (trace_files rules input library script) None inputs tells old f g p q (BadDex fault) r bytes (trace_are tells old rules input library script inputs are) within
trace_cause rules input library script text inputs tells old f g p q (Limit fault) r bytes are within there =
    work_cause (trace_files rules input library script) None inputs tells old f g p q (Limit fault) r bytes (trace_are tells old rules input library script inputs are) within
trace_cause rules input library script text inputs tells old f g p q NoMemory r bytes are within there = tt
trace_cause rules input library script text inputs tells old f g p q Done r bytes are within there = absurd r
trace_cause rules input library script text inputs tells old f g p q Usage r bytes are within there = absurd r
trace_cause rules input library script text inputs tells old f g p q ReadFault r bytes are within there = absurd r
trace_cause rules input library script text inputs tells old f g p q WriteFault r bytes are within there = absurd r

trace_keeps : (inputs : Inputs) (text : List ℕ) (status : Status) → TraceRefused inputs text status → KeepsAll status
trace_keeps inputs text (BadScript line) r = tt
trace_keeps inputs text Done r = absurd r
trace_keeps inputs text Usage r = absurd r
trace_keeps inputs text (BadRules fault) r = tt
trace_keeps inputs text (BadDex fault) r = tt
trace_keeps inputs text (Limit fault) r = tt
trace_keeps inputs text ReadFault r = absurd r
trace_keeps inputs text WriteFault r = absurd r
trace_keeps inputs text NoMemory r = tt

pub work_traces : (inputs : Inputs) (text : List ℕ) (status : Status) → WorkRefused inputs status → TraceRefused inputs text status
work_traces inputs text (BadScript line) r = absurd r
work_traces inputs text Done r = r
work_traces inputs text Usage r = r
work_traces inputs text (BadRules fault) r = r
work_traces inputs text (BadDex fault) r = r
work_traces inputs text (Limit fault) r = r
work_traces inputs text ReadFault r = r
work_traces inputs text WriteFault r = r
work_traces inputs text NoMemory r = r

pub trace_refuses : (rules input : List ℕ) (library : Option (List ℕ)) (script text : List ℕ) (IsFinal : List ℕ → List ℕ → Type 0) (inputs : Inputs) (tells : Bool) (old new : Held) (f g p q : Failures) (status : Status)
    → TraceRefused inputs text status → BytesRefused inputs status → AreHeld tells old rules input library inputs
    → (IsTrue tells → AllWithin old (trace_files rules input library script)) → (IsTrue tells → old script ≡ Some text) → (IsTrue tells → AllSame old new)
    → Refuses (trace_files rules input library script) None IsFinal tells old new f g p q status
trace_refuses rules input library script text IsFinal inputs tells old new f g p q status r bytes are within there same = record {
  cause = trace_cause rules input library script text inputs tells old f g p q status r bytes are within there;
  too_long = λ counted told long. absurd (within_or_long old (trace_files rules input library script) counted (within told) long);
  stays = λ told. stays_same (λ name. None ≡ Some name) IsFinal status p q old new (trace_keeps inputs text status r) (same told);
}

-- ---- what is given

-- a command that puts nothing
pub keeps_gives : (names : List Fetch) (IsFinal : List ℕ → List ℕ → Type 0) (IsAnswer : List ℕ → Type 0) (tells : Bool) (old new : Held) (text : List ℕ)
    → (IsTrue tells → AllWithin old names) → (IsTrue tells → AllRead old names) → IsAnswer text → (IsTrue tells → AllSame old new)
    → Gives names None IsFinal IsAnswer tells old new text
keeps_gives names IsFinal IsAnswer tells old new text within read answer same = record {
  within = within;
  read = read;
  answer = answer;
  others = λ told name _. same told name;
  put = λ told name e. absurd (none_some name e);
}

-- a command that fetches nothing
pub made_gives : (IsFinal : List ℕ → List ℕ → Type 0) (IsAnswer : List ℕ → Type 0) (tells : Bool) (held : Held) (text : List ℕ) → IsAnswer text → Gives [] None IsFinal IsAnswer tells held held text
made_gives IsFinal IsAnswer tells held text answer =
    keeps_gives [] IsFinal IsAnswer tells held held text (λ _. tt) (λ _. record { within = tt; inputs = record { rules = tt; files = tt; libraries = tt }; scripts = tt }) answer (λ _ name. refl)

-- inputs without a script that are read
all_inputs : (rules input : List ℕ) (library : Option (List ℕ)) (inputs : Inputs) (tells : Bool) (old : Held) → AreRead inputs → AreHeld tells old rules input library inputs
    → (IsTrue tells → AllWithin old (input_files rules input library)) → IsTrue tells → AllRead old (input_files rules input library)
all_inputs rules input library inputs tells old read are within told =
    record { within = within told; inputs = (inputs_are tells old rules input library inputs are).read told read; scripts = no_script old rules input library }

pub live_given : (rules input : List ℕ) (library : Option (List ℕ)) (IsFinal : List ℕ → List ℕ → Type 0) (inputs : Inputs) (tells : Bool) (old new : Held) (text : List ℕ)
    → AreRead inputs → ListsFile inputs text → AreHeld tells old rules input library inputs
    → (IsTrue tells → AllWithin old (input_files rules input library)) → (IsTrue tells → AllSame old new)
    → Gives (input_files rules input library) None IsFinal (IsListed tells old rules input library) tells old new text
live_given rules input library IsFinal inputs tells old new text read lists are within same =
    keeps_gives (input_files rules input library) IsFinal (IsListed tells old rules input library) tells old new text within
    (all_inputs rules input library inputs tells old read are within) (record { inputs = inputs; are = are; lists = lists }) same

pub check_gives : (input bytes : List ℕ) (IsFinal : List ℕ → List ℕ → Type 0) (tells : Bool) (old new : Held) (text : List ℕ)
    → Checks bytes text → (IsTrue tells → AllWithin old (file_alone input)) → (IsTrue tells → old input ≡ Some bytes) → (IsTrue tells → AllSame old new)
    → Gives (file_alone input) None IsFinal (IsChecked tells old input) tells old new text
check_gives input bytes IsFinal tells old new text checks within there same =
    keeps_gives (file_alone input) IsFinal (IsChecked tells old input) tells old new text within
    (λ told. record {
      within = within told;
      inputs = record {
        rules = (λ e. absurd (file_no_rules e), tt);
        files = (λ _. holds_read kind.File old input bytes (there told) (record { program = checks.program; reads = checks.reads; accepted = checks.accepted }), tt);
        libraries = (λ e. absurd (file_no_library e), tt);
      };
      scripts = (λ e. absurd (file_no_script e), tt);
    })
    (record {
      program = checks.program;
      holds = λ told. record { bytes = bytes; there = there told; reads = checks.reads };
      accepted = checks.accepted;
      says = checks.says;
    }) same

pub trace_given : (rules input : List ℕ) (library : Option (List ℕ)) (script play : List ℕ) (steps : ℕ) (IsFinal : List ℕ → List ℕ → Type 0) (inputs : Inputs) (tells : Bool) (old new : Held) (text : List ℕ)
    → AreRead inputs → TracesFile inputs play steps text → AreHeld tells old rules input library inputs
    → (IsTrue tells → AllWithin old (trace_files rules input library script)) → (IsTrue tells → old script ≡ Some play) → (IsTrue tells → AllSame old new)
    → Gives (trace_files rules input library script) None IsFinal (IsTraced tells old rules input library script steps) tells old new text
trace_given rules input library script play steps IsFinal inputs tells old new text read traces are within there same =
    keeps_gives (trace_files rules input library script) IsFinal (IsTraced tells old rules input library script steps) tells old new text within
    (λ told. record {
      within = within told;
      inputs = (trace_are tells old rules input library script inputs are).read told read;
      scripts = one_script old rules input library script play (there told) (record { play = traces.play; spells = traces.plays });
    })
    (record { inputs = inputs; are = are; play = play; plays = there; traces = traces }) same

-- ---- the put

other_name : (name other : List ℕ) → (Some name ≡ Some other → ⊥) → other ≡ name → ⊥
other_name name other differs e = differs (ap Some (sym e))

same_name : (name other : List ℕ) → Some name ≡ Some other → name ≡ other
same_name name other e = cc

others_since : (name : List ℕ) (old mid new : Held) → AllSame old mid → OthersSame name mid new
    → (other : List ℕ) → (Some name ≡ Some other → ⊥) → new other ≡ old other
others_since name old mid new same others other differs = others other (other_name name other differs) ∙ same other

put_cause : (names : List Fetch) (name : List ℕ) (tells tells' : Bool) (old mid new : Held) (f g p m q : Failures) (bytes : List ℕ) (status : Status)
    → (IsTrue tells → AllRead old names) → NoneFell p m → PutRefused tells' (m name) (q name) (mid name) (new name) bytes status
    → Cause names (Some name) tells old f g p q status
put_cause names name tells tells' old mid new f g p m q bytes WriteFault read fell r =
    record { rose = record { name = name; is_output = refl; rose = rose_since (p name) (m name) (q name) (fell name).no_less r.0 }; read = read }
put_cause names name tells tells' old mid new f g p m q bytes NoMemory read fell r = tt
put_cause names name tells tells' old mid new f g p m q bytes _ read fell r = absurd r

put_stays : (IsFinal : List ℕ → List ℕ → Type 0) (name : List ℕ) (tells' : Bool) (old mid new : Held) (p m q : Failures) (bytes summary : List ℕ) (status : Status)
    → IsFinal bytes summary → NoneFell p m → IsTrue tells' → AllSame old mid → OthersSame name mid new
    → PutRefused tells' (m name) (q name) (mid name) (new name) bytes status
    → Stays (λ other. Some name ≡ Some other) IsFinal status p q old new
put_stays IsFinal name tells' old mid new p m q bytes summary WriteFault final fell told same others r = record {
  refused = λ x. absurd x;
  others = others_since name old mid new same others;
  output = λ other e. subst (λ (n : List ℕ). OutputHolds IsFinal WriteFault (p n) (q n) (old n) (new n)) (same_name name other e) (inr (record {
    output = bytes;
    summary = summary;
    final = final;
    rose = rose_since (p name) (m name) (q name) (fell name).no_less r.0;
    there = subst (λ (before : Option (List ℕ)). OldOrPrefix before (new name) bytes) (same name) (r.1 told);
  }));
}
put_stays IsFinal name tells' old mid new p m q bytes summary NoMemory final fell told same others r = record {
  refused = λ x. absurd x;
  others = others_since name old mid new same others;
  output = λ other e. subst (λ (n : List ℕ). OutputHolds IsFinal NoMemory (p n) (q n) (old n) (new n)) (same_name name other e) (inl (r told ∙ same name));
}
put_stays IsFinal name tells' old mid new p m q bytes summary _ final fell told same others r = absurd r

pub put_refuses : (names : List Fetch) (IsFinal : List ℕ → List ℕ → Type 0) (name : List ℕ) (tells tells' : Bool) (old mid new : Held) (f g p m q : Failures) (bytes summary : List ℕ) (status : Status)
    → (IsTrue tells → AllRead old names) → IsFinal bytes summary → tells' ≡ tells → (IsTrue tells → AllSame old mid) → NoneFell p m
    → PutRefused tells' (m name) (q name) (mid name) (new name) bytes status → (IsTrue tells' → OthersSame name mid new)
    → Refuses names (Some name) IsFinal tells old new f g p q status
put_refuses names IsFinal name tells tells' old mid new f g p m q bytes summary status read final e same fell r others = record {
  cause = put_cause names name tells tells' old mid new f g p m q bytes status read fell r;
  too_long = λ counted told long. absurd (within_or_long old names counted (read told).within long);
  stays = λ told. put_stays IsFinal name tells' old mid new p m q bytes summary status final fell (e ∙ told) (same told) (others (e ∙ told)) r;
}

-- the advisers were told what is found to be in the words
pub told_words : (words : OptimiseWords) (voices : List Voice) (tells : List Tell) (inputs : Inputs) (bytes summary : List ℕ) → tells ≡ words.tells
    → Finished words.inline voices tells inputs bytes summary → Finished words.inline voices words.tells inputs bytes summary
told_words words voices tells inputs bytes summary e finished = subst (λ (l : List Tell). Finished words.inline voices l inputs bytes summary) e finished

-- the finished output of what the names hold, put from bytes that are found to be these
pub output_refuses : (words : OptimiseWords) (voices : List Voice) (inputs : Inputs) (tells tells' : Bool) (old mid new : Held) (f g p m q : Failures) (bytes content summary : List ℕ) (status : Status)
    → content ≡ bytes → AreRead inputs → AreHeld tells old words.rules words.input words.library inputs → (IsTrue tells → AllWithin old (input_files words.rules words.input words.library))
    → Finished words.inline voices words.tells inputs bytes summary → tells' ≡ tells → (IsTrue tells → AllSame old mid) → NoneFell p m
    → PutRefused tells' (m words.output) (q words.output) (mid words.output) (new words.output) content status → (IsTrue tells' → OthersSame words.output mid new)
    → Refuses (input_files words.rules words.input words.library) (Some words.output) (FinishedOf voices tells old words) tells old new f g p q status
output_refuses words voices inputs tells tells' old mid new f g p m q bytes content summary status is read are within finished e same fell r others =
    put_refuses (input_files words.rules words.input words.library) (FinishedOf voices tells old words) words.output tells tells' old mid new f g p m q bytes summary status
    (all_inputs words.rules words.input words.library inputs tells old read are within)
    (record { inputs = inputs; are = are; finished = finished }) e same fell
    (subst (λ (bs : List ℕ). PutRefused tells' (m words.output) (q words.output) (mid words.output) (new words.output) bs status) is r) others

put_gives : (words : OptimiseWords) (voices : List Voice) (inputs : Inputs) (tells tells' : Bool) (old mid new : Held) (bytes summary : List ℕ)
    → AreRead inputs → AreHeld tells old words.rules words.input words.library inputs → (IsTrue tells → AllWithin old (input_files words.rules words.input words.library))
    → Finished words.inline voices words.tells inputs bytes summary → tells' ≡ tells → (IsTrue tells → AllSame old mid)
    → (IsTrue tells' → new words.output ≡ Some bytes) → (IsTrue tells' → OthersSame words.output mid new)
    → Gives (input_files words.rules words.input words.library) (Some words.output) (FinishedOf voices tells old words) (IsSummary (FinishedOf voices tells old words)) tells old new summary
put_gives words voices inputs tells tells' old mid new bytes summary read are within finished e same put others =
    let final : FinishedOf voices tells old words bytes summary = record { inputs = inputs; are = are; finished = finished } in record {
      within = within;
      read = all_inputs words.rules words.input words.library inputs tells old read are within;
      answer = record { output = bytes; final = final };
      others = λ told. others_since words.output old mid new (same told) (others (e ∙ told));
      put = λ told other is. subst (λ (n : List ℕ). HoldsSummed (FinishedOf voices tells old words) summary (new n)) (same_name words.output other is)
          (record { output = bytes; final = final; there = put (e ∙ told) });
    }

pub output_gives : (words : OptimiseWords) (voices : List Voice) (inputs : Inputs) (tells tells' : Bool) (old mid new : Held) (bytes content summary text : List ℕ)
    → content ≡ bytes → text ≡ summary
    → AreRead inputs → AreHeld tells old words.rules words.input words.library inputs → (IsTrue tells → AllWithin old (input_files words.rules words.input words.library))
    → Finished words.inline voices words.tells inputs bytes summary → tells' ≡ tells → (IsTrue tells → AllSame old mid)
    → (IsTrue tells' → new words.output ≡ Some content) → (IsTrue tells' → OthersSame words.output mid new)
    → Gives (input_files words.rules words.input words.library) (Some words.output) (FinishedOf voices tells old words) (IsSummary (FinishedOf voices tells old words)) tells old new text
output_gives words voices inputs tells tells' old mid new bytes content summary text is_bytes is_text read are within finished e same put others =
    subst (λ (t : List ℕ). Gives (input_files words.rules words.input words.library) (Some words.output) (FinishedOf voices tells old words) (IsSummary (FinishedOf voices tells old words)) tells old new t) (sym is_text)
    (put_gives words voices inputs tells tells' old mid new bytes summary read are within finished e same (λ told. put told ∙ ap Some is_bytes) others)

-- ---- a command that is found to be this one

pub found_gives : (voices : List Voice) (command other : CommandWords) (tells : Bool) (old new : Held) (text : List ℕ) → command ≡ other
    → Gives (fetches other) (output_of other) (IsOutputOf voices tells old other) (IsResult voices tells old other) tells old new text
    → Gives (fetches command) (output_of command) (IsOutputOf voices tells old command) (IsResult voices tells old command) tells old new text
found_gives voices command other tells old new text e gives =
    subst (λ (c : CommandWords). Gives (fetches c) (output_of c) (IsOutputOf voices tells old c) (IsResult voices tells old c) tells old new text) (sym e) gives

pub found_refuses : (voices : List Voice) (command other : CommandWords) (tells : Bool) (old new : Held) (f g p q : Failures) (status : Status) → command ≡ other
    → Refuses (fetches other) (output_of other) (IsOutputOf voices tells old other) tells old new f g p q status
    → Refuses (fetches command) (output_of command) (IsOutputOf voices tells old command) tells old new f g p q status
found_refuses voices command other tells old new f g p q status e refuses =
    subst (λ (c : CommandWords). Refuses (fetches c) (output_of c) (IsOutputOf voices tells old c) tells old new f g p q status) (sym e) refuses
