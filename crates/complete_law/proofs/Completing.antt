-- A run of good inputs is done.
use Rattle.std.proofs.Common.{◌≡◌, ◌≤◌, ◌<◌, inl, inr, ℕ, true, List, [], ◌∷◌, length, Some, refl, sym, subst, ◌∙◌, arith}
use Rattle.lemmas.proofs.Options.{some_same}
use Rattle.command_line.proofs.SpellsLemmas.{spells-again}
use Rattle.command_line.specs.Spelling.{Spells}
use Rattle.command_line.specs.declared.command.CommandWords.{CommandWords}
use Rattle.program_model.specs.declared.limits.Counted.{Counted}
use Rattle.program_model.specs.declared.limits.LimitFault.{LimitFault}
use Rattle.dex_read.specs.declared.fault.DexFault.{DexFault}
use Rattle.dex_read.specs.declared.fault.DexFault.TheVariants as dex
use Rattle.redex_cli.specs.Commands.{Fetch, fetches}
use Rattle.redex_cli.specs.Ends.{Caused}
use Rattle.redex_cli.specs.Fetching.{Failures, FirstTooLong, OneBadLine}
use Rattle.redex_cli.specs.Files.{LibraryRefused, OneRefused, OneBadLibrary, FileCause, OneBadRules, RulesCause}
use Rattle.redex_cli.specs.Refusals.{IsRuleFault, IsDexFault, IsFaultOf, IsInputFault, LimitCause}
use Rattle.redex_cli.specs.declared.fetching.Kind.{Kind}
use Rattle.redex_cli.specs.declared.fetching.Kind.TheVariants as kind
use Rattle.redex_cli.specs.declared.status.InputFault.{InputFault}
use Rattle.redex_cli.specs.declared.status.InputFault.TheVariants as input
use Rattle.redex_cli.specs.declared.status.Status.{Status}
use Rattle.redex_cli.specs.declared.status.Status.TheVariants.{Done, Usage, BadRules, BadDex, Limit, ReadFault, WriteFault, NoMemory, BadScript}
use Rattle.redex_outside.specs.Held.{Held}
use Rattle.rule_text.specs.declared.fault.RuleFault.{RuleFault}
use Rattle.complete_law.specs.Complete.{IsGoodLibrary, IsGoodAs, HoldsGood, AllGood, GoodFetches, AreGood, OnePast, EndsGood}
use Rattle.complete_law.proofs.Files.{none_refused, none_read, of_library}

-- the bytes under a name, of whatever kind they are, are good
good_as : (held : Held) (fetch : Fetch) (h : HoldsGood held fetch) (k : Kind) (bytes : List ℕ) → fetch.kind ≡ k → held fetch.name ≡ Some bytes → IsGoodAs k bytes
good_as held fetch h k bytes is there = subst (λ (k : Kind). IsGoodAs k bytes) is (subst (λ (bs : List ℕ). IsGoodAs fetch.kind bs) (some_same h.bytes bytes (sym h.there ∙ there)) h.good)

module _ (held : Held) where
  -- ---- rules and scripts

  none_bad_rules : (names : List Fetch) → AllGood held names → (fault : RuleFault) → IsRuleFault fault → OneBadRules held names fault → ⊥
  none_bad_rules [] all fault is h = h
  none_bad_rules (fetch ∷ later) all fault is (inl h) = good_as held fetch all.0 kind.Rules h.bytes h.are_rules h.there fault is h.bad
  none_bad_rules (fetch ∷ later) all fault is (inr h) = none_bad_rules later all.1 fault is h

  rules_cause : (names : List Fetch) → GoodFetches held names → (fault : RuleFault) → IsRuleFault fault → RulesCause held names fault → ⊥
  rules_cause [] all fault is h = all
  rules_cause (fetch ∷ later) all fault is h = none_bad_rules (fetch ∷ later) all fault is h

  pub all_of : (names : List Fetch) → GoodFetches held names → AllGood held names
  all_of [] all = tt
  all_of (fetch ∷ later) all = all

  none_bad_line : (names : List Fetch) → AllGood held names → (line : ℕ) → OneBadLine held names line → ⊥
  none_bad_line [] all line h = h
  none_bad_line (fetch ∷ later) all line (inl h) = good_as held fetch all.0 kind.Script h.bytes h.is_script h.there line h.says
  none_bad_line (fetch ∷ later) all line (inr h) = none_bad_line later all.1 line h

  -- ---- limits of bytes

  none_too_long : (names : List Fetch) → AllGood held names → (counted : Counted) → FirstTooLong held names counted → ⊥
  none_too_long [] all counted h = h
  none_too_long (fetch ∷ later) all counted (inl h) =
      let much = h.0 in
      let few = all.0 in
      let same : few.bytes ≡ much.bytes = some_same few.bytes much.bytes (sym few.there ∙ much.there) in
      let within = few.within in
      let passed = much.passed in
      too_many (length few.bytes) (length much.bytes) _ (by_same same) within passed
    where
      by_same : {xs ys : List ℕ} → xs ≡ ys → length xs ≡ length ys
      by_same e = cc

      too_many : (m n most : ℕ) → m ≡ n → m ≤ most → most < n → ⊥
      too_many m n most e a b = omega (arith, e, a, b)
  none_too_long (fetch ∷ later) all counted (inr h) = none_too_long later all.1 counted h.1

  -- ---- files

  none_refused_one : (names : List Fetch) → AllGood held names → (fault : InputFault) → IsInputFault fault → OneRefused held names (BadDex fault) → ⊥
  none_refused_one [] all fault is h = h
  none_refused_one (fetch ∷ later) all fault is (inl h) = none_refused h.bytes (good_as held fetch all.0 kind.File h.bytes h.is_file h.there) fault is h.refused
  none_refused_one (fetch ∷ later) all fault is (inr h) = none_refused_one later all.1 fault is h

  -- a library that is refused with a fault
  none_bad_library : (names : List Fetch) → AllGood held names → (e : DexFault) → IsDexFault e → OneBadLibrary held names (BadDex (input.Library e)) → ⊥
  none_bad_library [] all e is h = h
  none_bad_library (fetch ∷ later) all e is (inl h) =
      let good : IsGoodLibrary h.bytes = good_as held fetch all.0 kind.Library h.bytes h.is_library h.there in
      none_read h.bytes good.are_bytes good.faultless e is (of_library h.bytes e h.refused)
  none_bad_library (fetch ∷ later) all e is (inr h) = none_bad_library later all.1 e is h

  -- no other fault is one of a library
  none_other : (names : List Fetch) (status : Status) → ((bytes : List ℕ) → LibraryRefused bytes status → ⊥) → OneBadLibrary held names status → ⊥
  none_other [] status never h = h
  none_other (fetch ∷ later) status never (inl h) = never h.bytes h.refused
  none_other (fetch ∷ later) status never (inr h) = none_other later status never h

  library_cause : (names : List Fetch) → AllGood held names → (fault : InputFault) → IsFaultOf names fault → OneBadLibrary held names (BadDex fault) → ⊥
  library_cause names all (input.Dex e) is h = none_other names (BadDex (input.Dex e)) (λ bytes g. g) h
  library_cause names all (input.Hierarchy e) is h = none_other names (BadDex (input.Hierarchy e)) (λ bytes g. g) h
  library_cause names all (input.Typing e) is h = none_other names (BadDex (input.Typing e)) (λ bytes g. g) h
  library_cause names all (input.Library e) is h = none_bad_library names all e is.0 h

  -- a file that is refused
  refused_cause : (names : List Fetch) → AllGood held names → (fault : InputFault) → IsFaultOf names fault → OneRefused held names (BadDex fault) → ⊥
  refused_cause names all (input.Dex e) is h = none_refused_one names all (input.Dex e) is h
  refused_cause names all (input.Hierarchy e) is h = none_refused_one names all (input.Hierarchy e) is h
  refused_cause names all (input.Typing e) is h = none_refused_one names all (input.Typing e) is h
  refused_cause names all (input.Library e) is h = none_as_file names h
    where
      none_as_file : (names : List Fetch) → OneRefused held names (BadDex (input.Library e)) → ⊥
      none_as_file [] h = h
      none_as_file (fetch ∷ later) (inl h) = h.refused
      none_as_file (fetch ∷ later) (inr h) = none_as_file later h

  file_cause : (names : List Fetch) → GoodFetches held names → (fault : InputFault) → IsFaultOf names fault → FileCause held names (BadDex fault) → ⊥
  file_cause [] all fault is h = all
  file_cause (fetch ∷ later) all fault is (inl h) = refused_cause (fetch ∷ later) all fault is h
  file_cause (fetch ∷ later) all fault is (inr h) = library_cause (fetch ∷ later) all fault is h.1

  -- ---- limits inside

  refused_past : (names : List Fetch) (fault : LimitFault) → OneRefused held names (Limit fault) → OnePast held names fault
  refused_past [] fault h = h
  refused_past (fetch ∷ later) fault (inl h) = inl (record { is_dex = inl h.is_file; bytes = h.bytes; there = h.there; passes = h.refused })
  refused_past (fetch ∷ later) fault (inr h) = inr (refused_past later fault h)

  library_past : (names : List Fetch) (fault : LimitFault) → OneBadLibrary held names (Limit fault) → OnePast held names fault
  library_past [] fault h = h
  library_past (fetch ∷ later) fault (inl h) = inl (record { is_dex = inr h.is_library; bytes = h.bytes; there = h.there; passes = of_library h.bytes (dex.Limit fault) h.refused })
  library_past (fetch ∷ later) fault (inr h) = inr (library_past later fault h)

  file_past : (names : List Fetch) → GoodFetches held names → (fault : LimitFault) → FileCause held names (Limit fault) → OnePast held names fault
  file_past [] all fault h = absurd all
  file_past (fetch ∷ later) all fault (inl h) = refused_past (fetch ∷ later) fault h
  file_past (fetch ∷ later) all fault (inr h) = library_past (fetch ∷ later) fault h.1

  limit_past : (names : List Fetch) → GoodFetches held names → (fault : LimitFault) → LimitCause true held names fault → OnePast held names fault
  limit_past names all fault (inl h) = absurd (none_too_long names (all_of names all) fault.counted (h.first refl))
  limit_past names all fault (inr h) = file_past names all fault (h.file refl)

-- the words spell one command
pub its_fetches : (words : List (List ℕ)) (held : Held) (good : AreGood words held) (command : CommandWords) → Spells words command → GoodFetches held (fetches command)
its_fetches words held good command spelled = subst (λ (c : CommandWords). GoodFetches held (fetches c)) (some_same good.command command (sym (spells-again words good.command good.spelled) ∙ spells-again words command spelled)) good.good

pub completes : (words : List (List ℕ)) (held : Held) (fetches_old fetches_new puts_old puts_new : Failures) (notes_old notes_new : ℕ) (status : Status)
    → AreGood words held → Caused words true held fetches_old fetches_new puts_old puts_new notes_old notes_new status → EndsGood words held fetches_old fetches_new puts_old puts_new notes_old notes_new status
completes words held old_fetches new_fetches old_puts new_puts old_notes new_notes Done good h = tt
completes words held old_fetches new_fetches old_puts new_puts old_notes new_notes Usage good h = h good.command good.spelled
completes words held old_fetches new_fetches old_puts new_puts old_notes new_notes (BadRules fault) good h = let cause = h.cause in rules_cause held (fetches h.command) (its_fetches words held good h.command h.spelled) fault cause.carried (cause.ruling refl)
completes words held old_fetches new_fetches old_puts new_puts old_notes new_notes (BadDex fault) good h = let cause = h.cause in file_cause held (fetches h.command) (its_fetches words held good h.command h.spelled) fault cause.carried (cause.file refl)
completes words held old_fetches new_fetches old_puts new_puts old_notes new_notes (Limit fault) good h = record { command = h.command; spelled = h.spelled; one = limit_past held (fetches h.command) (its_fetches words held good h.command h.spelled) fault h.cause }
completes words held old_fetches new_fetches old_puts new_puts old_notes new_notes ReadFault good h = h
completes words held old_fetches new_fetches old_puts new_puts old_notes new_notes WriteFault good h = h
completes words held old_fetches new_fetches old_puts new_puts old_notes new_notes NoMemory good h = tt
completes words held old_fetches new_fetches old_puts new_puts old_notes new_notes (BadScript line) good h = let cause = h.cause in none_bad_line held (fetches h.command) (all_of held (fetches h.command) (its_fetches words held good h.command h.spelled)) line (cause.bad refl)
