-- From what a command says to what the words say.
use Rattle.std.proofs.Common.{◌≡◌, ℕ, List, Bool, Option, Some, refl, sym, subst, inl, inr}
use Rattle.redex_outside.specs.Held.{Held}
use Rattle.redex_outside.specs.Voices.{Voice}
use Rattle.program_model.specs.declared.limits.Counted.{Counted}
use Rattle.command_line.specs.Spelling.{Spells, AsksFor, sorted_of}
use Rattle.command_line.specs.Spelling as spelling
use Rattle.command_line.specs.declared.sorted.Sorted.{Sorted}
use Rattle.command_line.specs.declared.command.CommandWords.{CommandWords}
use Rattle.command_line.specs.declared.command.CommandWords.TheVariants.{Workload}
use Rattle.redex_cli.specs.Commands.{CountsWithin, Puts, SpellsNothing, fetches, output_of}
use Rattle.redex_cli.specs.Fetching.{Failures, FirstTooLong}
use Rattle.redex_cli.specs.Files.{AllRead}
use Rattle.redex_cli.specs.Finished.{IsOutputOf, IsResult}
use Rattle.redex_cli.specs.Refusals.{Cause, CauseFor, EndsTooLong, EndsUnspelled, Gives, GivesFor, OutputBy, Refuses, RefusesFor, TooLong, WordsRefused}
use Rattle.redex_cli.specs.Stays.{HoldsFinished, OutputHolds}
use Rattle.redex_cli.specs.declared.status.Status.{Status}
use Rattle.redex_cli.specs.declared.status.Status.TheVariants.{Done, Usage, BadRules, BadDex, Limit, ReadFault, WriteFault, NoMemory, BadScript}
use Rattle.redex_cli.proofs.FetchLemmas.{KeepsAll, stays_same, within_or_long}

-- ---- which command the words spell

asked_within : (s : Sorted) (command : CommandWords) → AsksFor s command → CountsWithin command
asked_within s (Workload count) asks = asks.4
asked_within s _ asks = tt

pub spelled_within : (words : List (List ℕ)) (command : CommandWords) → Spells words command → CountsWithin command
spelled_within _ _ spelling.silent = tt
spelled_within _ _ (spelling.command c rest pieces says asks) = asked_within (sorted_of pieces) c asks

pub only_spelled : (words : List (List ℕ)) (command other : CommandWords)
    → ((c : CommandWords) → Spells words c → Some command ≡ Some c) → Spells words other → other ≡ command
only_spelled words command other only spelled = let e : Some command ≡ Some other = only other spelled in cc

pub none_spelled : (words : List (List ℕ)) → ((c : CommandWords) → Spells words c → ⊥) → SpellsNothing words
none_spelled words none command spelled = none command spelled

-- ---- refusals

words_cause : (words : List (List ℕ)) (command : CommandWords) (tells : Bool) (old : Held) (f g p q : Failures) (status : Status)
    → Spells words command → Cause (fetches command) (output_of command) tells old f g p q status
    → CauseFor words tells old f g p q status
words_cause words command tells old f g p q Done spelled c = c
words_cause words command tells old f g p q Usage spelled c = absurd c
words_cause words command tells old f g p q (BadRules fault) spelled c = record { command = command; spelled = spelled; cause = c }
words_cause words command tells old f g p q (BadDex fault) spelled c = record { command = command; spelled = spelled; cause = c }
words_cause words command tells old f g p q (Limit fault) spelled c = record { command = command; spelled = spelled; cause = c }
words_cause words command tells old f g p q ReadFault spelled c = record { command = command; spelled = spelled; cause = c }
words_cause words command tells old f g p q WriteFault spelled c = record { command = command; spelled = spelled; cause = c }
words_cause words command tells old f g p q NoMemory spelled c = tt
words_cause words command tells old f g p q (BadScript line) spelled c = record { command = command; spelled = spelled; cause = c }

long_of : (words : List (List ℕ)) (command : CommandWords) (old : Held) (counted : Counted)
    → ((c : CommandWords) → Spells words c → c ≡ command) → TooLong words old counted → FirstTooLong old (fetches command) counted
long_of words command old counted only long =
    subst (λ (c : CommandWords). FirstTooLong old (fetches c) counted) (only long.command long.spelled) long.first

output_by_words : (words : List (List ℕ)) (command : CommandWords) (name : List ℕ)
    → ((c : CommandWords) → Spells words c → c ≡ command) → Puts words name → output_of command ≡ Some name
output_by_words words command name only puts =
    subst (λ (c : CommandWords). output_of c ≡ Some name) (only puts.command puts.spelled) puts.output

output_by : (words : List (List ℕ)) (voices : List Voice) (command : CommandWords) (tells : Bool) (held : Held) → Spells words command
    → (output summary : List ℕ) → IsOutputOf voices tells held command output summary → OutputBy words voices tells held output summary
output_by words voices command tells held spelled output summary final = record { command = command; spelled = spelled; final = final }

holds_finished : (words : List (List ℕ)) (voices : List Voice) (command : CommandWords) (tells : Bool) (old : Held) → Spells words command → (new : Option (List ℕ))
    → HoldsFinished (IsOutputOf voices tells old command) new → HoldsFinished (OutputBy words voices tells old) new
holds_finished words voices command tells old spelled new h =
    record { output = h.output; summary = h.summary; final = output_by words voices command tells old spelled h.output h.summary h.final; there = h.there }

-- what the output's name holds, from what a command says to what its words say
output_holds : (words : List (List ℕ)) (voices : List Voice) (command : CommandWords) (tells : Bool) (held : Held) → Spells words command → (status : Status) (p q : ℕ) (old new : Option (List ℕ))
    → OutputHolds (IsOutputOf voices tells held command) status p q old new → OutputHolds (OutputBy words voices tells held) status p q old new
output_holds words voices command tells held spelled Done p q old new h = holds_finished words voices command tells held spelled new h
output_holds words voices command tells held spelled WriteFault p q old new (inl h) = inl (holds_finished words voices command tells held spelled new h)
output_holds words voices command tells held spelled WriteFault p q old new (inr h) = inr (record {
  output = h.output;
  summary = h.summary;
  final = output_by words voices command tells held spelled h.output h.summary h.final;
  rose = h.rose;
  there = h.there;
})
output_holds words voices command tells held spelled NoMemory p q old new (inl e) = inl e
output_holds words voices command tells held spelled NoMemory p q old new (inr h) = inr (holds_finished words voices command tells held spelled new h)
output_holds words voices command tells held spelled Usage p q old new e = e
output_holds words voices command tells held spelled (BadRules fault) p q old new e = e
output_holds words voices command tells held spelled (BadDex fault) p q old new e = e
output_holds words voices command tells held spelled (Limit fault) p q old new e = e
output_holds words voices command tells held spelled ReadFault p q old new e = e
output_holds words voices command tells held spelled (BadScript line) p q old new e = e

pub words_refuse : (words : List (List ℕ)) (voices : List Voice) (command : CommandWords) (tells : Bool) (old new : Held) (f g p q : Failures) (status : Status)
    → Spells words command → ((c : CommandWords) → Spells words c → c ≡ command)
    → Refuses (fetches command) (output_of command) (IsOutputOf voices tells old command) tells old new f g p q status
    → RefusesFor words voices tells old new f g p q status
words_refuse words voices command tells old new f g p q status spelled only r = record {
  cause = words_cause words command tells old f g p q status spelled r.cause;
  unspelled = λ none. absurd (none command spelled);
  too_long = λ counted told long. r.too_long counted told (long_of words command old counted only long);
  stays = λ told. record {
    refused = (r.stays told).refused;
    others = λ name differs. (r.stays told).others name (λ e. differs (record { command = command; spelled = spelled; output = e }));
    output = λ name puts. output_holds words voices command tells old spelled status (p name) (q name) (old name) (new name)
        ((r.stays told).output name (output_by_words words command name only puts));
  };
}

pub words_give : (words : List (List ℕ)) (voices : List Voice) (command : CommandWords) (tells : Bool) (old new : Held) (text : List ℕ)
    → Spells words command → ((c : CommandWords) → Spells words c → c ≡ command)
    → Gives (fetches command) (output_of command) (IsOutputOf voices tells old command) (IsResult voices tells old command) tells old new text
    → GivesFor words voices tells old new text
words_give words voices command tells old new text spelled only g = record {
  answer = record { command = command; spelled = spelled; result = g.answer };
  read = λ told c is. subst (λ (d : CommandWords). AllRead old (fetches d)) (sym (only c is)) (g.read told);
  within = λ counted told long. within_or_long old (fetches command) counted (g.within told) (long_of words command old counted only long);
  others = λ told name differs. g.others told name (λ e. differs (record { command = command; spelled = spelled; output = e }));
  put = λ told name puts. let h = g.put told name (output_by_words words command name only puts) in
      record { output = h.output; final = output_by words voices command tells old spelled h.output text h.final; there = h.there };
}

-- ---- words that are refused before anything is fetched

early_cause : (words : List (List ℕ)) (tells : Bool) (held : Held) (f p : Failures) (status : Status)
    → WordsRefused words status → CauseFor words tells held f f p p status
early_cause words tells held f p Usage r = r
early_cause words tells held f p NoMemory r = tt
early_cause words tells held f p _ r = absurd r

early_unspelled : (words : List (List ℕ)) (status : Status) → WordsRefused words status → EndsUnspelled status
early_unspelled words Usage r = tt
early_unspelled words NoMemory r = tt
early_unspelled words _ r = absurd r

early_long : (words : List (List ℕ)) (held : Held) (status : Status) (counted : Counted)
    → WordsRefused words status → TooLong words held counted → EndsTooLong counted status
early_long words held Usage counted r long = absurd (r long.command long.spelled)
early_long words held NoMemory counted r long = tt
early_long words held _ counted r long = absurd r

early_keeps : (words : List (List ℕ)) (status : Status) → WordsRefused words status → KeepsAll status
early_keeps words Usage r = tt
early_keeps words NoMemory r = tt
early_keeps words _ r = absurd r

pub early_refuses : (words : List (List ℕ)) (voices : List Voice) (tells : Bool) (held : Held) (f p : Failures) (status : Status)
    → WordsRefused words status → RefusesFor words voices tells held held f f p p status
early_refuses words voices tells held f p status r = record {
  cause = early_cause words tells held f p status r;
  unspelled = λ _. early_unspelled words status r;
  too_long = λ counted told long. early_long words held status counted r long;
  stays = λ told. stays_same (Puts words) (OutputBy words voices tells held) status p p held held (early_keeps words status r) (λ name. refl);
}
