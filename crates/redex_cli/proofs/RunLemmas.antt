-- How a run ends, from what the words give or are refused with, and from the saying.
use Rattle.std.proofs.Common.{◌≡◌, ◌⊎◌, ℕ, List, Bool, IsTrue, sym, subst, inl, inr}
use Rattle.redex_outside.specs.Held.{Held}
use Rattle.redex_outside.specs.Voices.{Voice}
use Rattle.program_model.specs.declared.limits.Counted.{Counted}
use Rattle.redex_cli.specs.Commands.{Puts, SpellsNothing}
use Rattle.redex_cli.specs.Ends.{Caused, Ends}
use Rattle.redex_cli.specs.Fetching.{Failures}
use Rattle.redex_cli.specs.Finished.{Results}
use Rattle.redex_cli.specs.Refusals.{CauseFor, EndsTooLong, EndsUnspelled, GivesFor, OutputBy, RefusesFor, TooLong}
use Rattle.redex_cli.specs.Said.{Said, SaysResult, SaysStatus, unsaid}
use Rattle.redex_cli.specs.Stays.{HoldsFinished, IsRefusal}
use Rattle.redex_cli.specs.declared.status.Status.{Status}
use Rattle.redex_cli.specs.declared.status.Status.TheVariants.{Done, Usage, BadRules, BadDex, Limit, ReadFault, WriteFault, NoMemory, BadScript}
use Rattle.redex_cli.proofs.FetchLemmas.{stays_same}
use Rattle.redex_cli.proofs.SaidLemmas.{none_said, said_for}

-- ---- where there is a result

put_holds : (words : List (List ℕ)) (voices : List Voice) (tells : Bool) (old new : Held) (text name : List ℕ) → GivesFor words voices tells old new text
    → IsTrue tells → Puts words name → HoldsFinished (OutputBy words voices tells old) (new name)
put_holds words voices tells old new text name g told puts =
    let h = g.put told name puts in record { output = h.output; summary = text; final = h.final; there = h.there }

result_long : (words : List (List ℕ)) (voices : List Voice) (tells : Bool) (old new : Held) (text : List ℕ) (counted : Counted) (status : Status)
    → GivesFor words voices tells old new text → IsTrue tells → TooLong words old counted → EndsTooLong counted status
result_long words voices tells old new text counted status g told long = absurd (g.within counted told long)

result_spelled : (words : List (List ℕ)) (voices : List Voice) (tells : Bool) (old new : Held) (text : List ℕ) (status : Status)
    → GivesFor words voices tells old new text → SpellsNothing words → EndsUnspelled status
result_spelled words voices tells old new text status g none = absurd (none g.answer.command g.answer.spelled)

pub result_ends : (words : List (List ℕ)) (voices : List Voice) (tells : Bool) (old new : Held) (f g p q : Failures) (notes_tell : Bool) (so sn : List ℕ) (n m : ℕ) (text : List ℕ) (status : Status)
    → GivesFor words voices tells old new text → SaysResult text notes_tell n m so sn status
    → Ends words voices tells old new f g p q notes_tell so sn n m status
result_ends words voices tells old new f g p q notes_tell so sn n m text Done r s = record {
  cause = tt;
  unspelled = λ none. result_spelled words voices tells old new text Done r none;
  too_long = λ counted told long. result_long words voices tells old new text counted Done r told long;
  stays = λ told. record {
    refused = λ x. absurd x;
    others = r.others told;
    output = λ name puts. put_holds words voices tells old new text name r told puts;
  };
  said = λ told. record { text = text; result = r.answer; said = s told };
  read = λ _ told. r.read told;
  done = λ _ told notes_told. record { text = text; answer = r.answer; said = s notes_told; put = r.put told };
}
result_ends words voices tells old new f g p q notes_tell so sn n m text NoMemory r s = record {
  cause = tt;
  unspelled = λ none. result_spelled words voices tells old new text NoMemory r none;
  too_long = λ counted told long. result_long words voices tells old new text counted NoMemory r told long;
  stays = λ told. record {
    refused = λ x. absurd x;
    others = r.others told;
    output = λ name puts. inr (put_holds words voices tells old new text name r told puts);
  };
  said = λ told. none_said _ so sn (s told);
  read = λ e. absurd (no_memory_done e);
  done = λ e. absurd (no_memory_done e);
}
  where
    no_memory_done : NoMemory ≡ Done → ⊥
    no_memory_done e = cc
result_ends words voices tells old new f g p q notes_tell so sn n m text WriteFault r s = record {
  cause = inr (record { command = r.answer.command; spelled = r.answer.spelled; rose = s.0; read = λ told. r.read told r.answer.command r.answer.spelled });
  unspelled = λ none. result_spelled words voices tells old new text WriteFault r none;
  too_long = λ counted told long. result_long words voices tells old new text counted WriteFault r told long;
  stays = λ told. record {
    refused = λ x. absurd x;
    others = r.others told;
    output = λ name puts. inl (put_holds words voices tells old new text name r told puts);
  };
  said = λ told. inr (record { text = text; result = r.answer; said = s.1 told });
  read = λ e. absurd (write_fault_done e);
  done = λ e. absurd (write_fault_done e);
}
  where
    write_fault_done : WriteFault ≡ Done → ⊥
    write_fault_done e = cc
result_ends words voices tells old new f g p q notes_tell so sn n m text _ r s = absurd s

-- ---- where the words are refused

refused_cause : (words : List (List ℕ)) (tells : Bool) (old : Held) (f g p q : Failures) (n m : ℕ) (status : Status)
    → CauseFor words tells old f g p q status → Caused words tells old f g p q n m status
refused_cause words tells old f g p q n m Done c = tt
refused_cause words tells old f g p q n m WriteFault c = inl c
refused_cause words tells old f g p q n m NoMemory c = tt
refused_cause words tells old f g p q n m _ c = c

not_done : (words : List (List ℕ)) (tells : Bool) (old : Held) (f g p q : Failures) (status : Status)
    → CauseFor words tells old f g p q status → status ≡ Done → ⊥
not_done words tells old f g p q status c e = subst (λ (s : Status). CauseFor words tells old f g p q s) e c

said_ends : (words : List (List ℕ)) (voices : List Voice) (tells : Bool) (old new : Held) (f g p q : Failures) (notes_tell : Bool) (so sn : List ℕ) (n m : ℕ) (status : Status)
    → RefusesFor words voices tells old new f g p q status → (IsTrue notes_tell → Said (λ _. ⊥) status n m so sn)
    → Ends words voices tells old new f g p q notes_tell so sn n m status
said_ends words voices tells old new f g p q notes_tell so sn n m status r s = record {
  cause = refused_cause words tells old f g p q n m status r.cause;
  unspelled = r.unspelled;
  too_long = r.too_long;
  stays = r.stays;
  said = λ told. said_for (Results words voices tells old) status n m so sn (s told);
  read = λ e. absurd (not_done words tells old f g p q status r.cause e);
  done = λ e. absurd (not_done words tells old f g p q status r.cause e);
}

-- A refusal whose line found no memory is want of memory.
memory_refuses : (words : List (List ℕ)) (voices : List Voice) (tells : Bool) (old new : Held) (f g p q : Failures) (status : Status)
    → IsRefusal status → RefusesFor words voices tells old new f g p q status → RefusesFor words voices tells old new f g p q NoMemory
memory_refuses words voices tells old new f g p q status refusal r = record {
  cause = tt;
  unspelled = λ _. tt;
  too_long = λ _ _ _. tt;
  stays = λ told. stays_same (Puts words) (OutputBy words voices tells old) NoMemory p q old new tt ((r.stays told).refused refusal);
}

unsaid_refuses : (words : List (List ℕ)) (voices : List Voice) (tells : Bool) (old new : Held) (f g p q : Failures) (status : Status)
    → RefusesFor words voices tells old new f g p q status → RefusesFor words voices tells old new f g p q (unsaid status)
unsaid_refuses words voices tells old new f g p q Done r = absurd r.cause
unsaid_refuses words voices tells old new f g p q WriteFault r = r
unsaid_refuses words voices tells old new f g p q NoMemory r = r
unsaid_refuses words voices tells old new f g p q Usage r = memory_refuses words voices tells old new f g p q Usage tt r
unsaid_refuses words voices tells old new f g p q (BadRules fault) r = memory_refuses words voices tells old new f g p q (BadRules fault) tt r
unsaid_refuses words voices tells old new f g p q (BadDex fault) r = memory_refuses words voices tells old new f g p q (BadDex fault) tt r
unsaid_refuses words voices tells old new f g p q (Limit fault) r = memory_refuses words voices tells old new f g p q (Limit fault) tt r
unsaid_refuses words voices tells old new f g p q ReadFault r = memory_refuses words voices tells old new f g p q ReadFault tt r
unsaid_refuses words voices tells old new f g p q (BadScript line) r = memory_refuses words voices tells old new f g p q (BadScript line) tt r

last_refuses : (words : List (List ℕ)) (voices : List Voice) (tells : Bool) (old new : Held) (f g p q : Failures) (status last : Status)
    → RefusesFor words voices tells old new f g p q status → (last ≡ status) ⊎ (last ≡ unsaid status)
    → RefusesFor words voices tells old new f g p q last
last_refuses words voices tells old new f g p q status last r (inl e) =
    subst (λ (s : Status). RefusesFor words voices tells old new f g p q s) (sym e) r
last_refuses words voices tells old new f g p q status last r (inr e) =
    subst (λ (s : Status). RefusesFor words voices tells old new f g p q s) (sym e) (unsaid_refuses words voices tells old new f g p q status r)

pub status_ends : (words : List (List ℕ)) (voices : List Voice) (tells : Bool) (old new : Held) (f g p q : Failures) (notes_tell : Bool) (so sn : List ℕ) (n m : ℕ) (status last : Status)
    → RefusesFor words voices tells old new f g p q status → SaysStatus status notes_tell n m so sn last
    → Ends words voices tells old new f g p q notes_tell so sn n m last
status_ends words voices tells old new f g p q notes_tell so sn n m status last r s =
    said_ends words voices tells old new f g p q notes_tell so sn n m last (last_refuses words voices tells old new f g p q status last r s.becomes)
    (s.said (not_done words tells old f g p q status r.cause))
