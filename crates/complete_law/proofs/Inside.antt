-- A run of good inputs that pass no limit inside doesn't end at a limit.
use Rattle.std.proofs.Common.{◌≡◌, ◌⊎◌, ◌<◌, inl, inr, ℕ, true, List, [], ◌∷◌, sym, subst, ◌∙◌}
use Rattle.std.specs.Prelude.{slice_index}
use Rattle.lemmas.proofs.Options.{some_same}
use Rattle.command_line.specs.Spelling.{Spells}
use Rattle.command_line.specs.declared.command.CommandWords.{CommandWords}
use Rattle.program_model.specs.declared.limits.LimitFault.{LimitFault}
use Rattle.redex_cli.specs.Commands.{Fetch, fetches}
use Rattle.redex_cli.specs.Ends.{Caused}
use Rattle.redex_cli.specs.Fetching.{Failures}
use Rattle.redex_cli.specs.declared.fetching.Kind.{Kind}
use Rattle.redex_cli.specs.declared.fetching.Kind.TheVariants as kind
use Rattle.redex_cli.specs.declared.status.Status.{Status}
use Rattle.redex_cli.specs.declared.status.Status.TheVariants.{Done, Usage, BadRules, BadDex, Limit, ReadFault, WriteFault, NoMemory, BadScript}
use Rattle.redex_outside.specs.Held.{Held}
use Rattle.complete_law.specs.Complete.{IsGoodAs, AllGood, AreGood, AllInside, OnePast, EndsWithin}
use Rattle.complete_law.proofs.Completing.{all_of, its_fetches, completes}
use Rattle.complete_law.proofs.Standing.{passes}

-- what is good as a file or a library are bytes
bytes_of : (k : Kind) (bytes : List ℕ) → (k ≡ kind.File) ⊎ (k ≡ kind.Library) → IsGoodAs k bytes → (i : ℕ) → slice_index bytes i < 256
bytes_of kind.File bytes is good = good.are_bytes
bytes_of kind.Library bytes is good = good.are_bytes
bytes_of kind.Rules bytes (inl e) good = absurd cc
bytes_of kind.Rules bytes (inr e) good = absurd cc
bytes_of kind.Script bytes (inl e) good = absurd cc
bytes_of kind.Script bytes (inr e) good = absurd cc

none_past : (held : Held) (names : List Fetch) → AllGood held names → AllInside held names → (fault : LimitFault) → OnePast held names fault → ⊥
none_past held [] all inside fault h = h
none_past held (fetch ∷ later) all inside fault (inl h) =
    let good = all.0 in
    let same : good.bytes ≡ h.bytes = some_same good.bytes h.bytes (sym good.there ∙ h.there) in
    let are = bytes_of fetch.kind h.bytes h.is_dex (subst (λ (bytes : List ℕ). IsGoodAs fetch.kind bytes) same good.good) in
    inside.0 h.is_dex h.bytes h.there fault (passes h.bytes are fault h.passes)
none_past held (fetch ∷ later) all inside fault (inr h) = none_past held later all.1 inside.1 fault h

pub ends : (words : List (List ℕ)) (held : Held) (fetches_old fetches_new puts_old puts_new : Failures) (notes_old notes_new : ℕ) (status : Status)
    → AreGood words held → ((command : CommandWords) → Spells words command → AllInside held (fetches command))
    → Caused words true held fetches_old fetches_new puts_old puts_new notes_old notes_new status → EndsWithin words held fetches_old fetches_new puts_old puts_new notes_old notes_new status
ends words held fo fn po pn ns nn Done good inside h = completes words held fo fn po pn ns nn Done good h
ends words held fo fn po pn ns nn Usage good inside h = completes words held fo fn po pn ns nn Usage good h
ends words held fo fn po pn ns nn (BadRules fault) good inside h = completes words held fo fn po pn ns nn (BadRules fault) good h
ends words held fo fn po pn ns nn (BadDex fault) good inside h = completes words held fo fn po pn ns nn (BadDex fault) good h
ends words held fo fn po pn ns nn (Limit fault) good inside h =
    let one = completes words held fo fn po pn ns nn (Limit fault) good h in
    none_past held (fetches one.command) (all_of held (fetches one.command) (its_fetches words held good one.command one.spelled)) (inside one.command one.spelled) fault one.one
ends words held fo fn po pn ns nn ReadFault good inside h = completes words held fo fn po pn ns nn ReadFault good h
ends words held fo fn po pn ns nn WriteFault good inside h = completes words held fo fn po pn ns nn WriteFault good h
ends words held fo fn po pn ns nn NoMemory good inside h = completes words held fo fn po pn ns nn NoMemory good h
ends words held fo fn po pn ns nn (BadScript line) good inside h = completes words held fo fn po pn ns nn (BadScript line) good h
