use Rattle.std.proofs.Common.{◌<◌, length, ◌≡◌, ◌+◌, [], ◌∷◌, ◌++◌, if◌then◌else◌, rules}
use Rattle.rule_text.specs.Reads.{Reads}
use Rattle.rule_text.specs.Halts.{HaltsBefore}
use Rattle.rule_text.specs.Related.{IsEntryOf}
use Rattle.rule_text.specs.Spelling.{is_entry, entry_words, begins_rule}
use Rattle.std.proofs.lemmas.Result.{err_from_is_err_and}
use Rattle.rule_text.proofs.HaltLemmas.{too_many, halted}
use Rattle.rule_text.proofs.EntryLemmas.{none_counted, more_counted, few_counted}
use Rattle.rule_text.proofs.EntryRefusals.{none_whole, more_whole}
use Rattle.rule_text.proofs.parse_file.read_entries.Goals as goal

pub loop-at-init : goal.loop-at-init
loop-at-init c = (search rules, search rules, search rules, none_counted c.args.tokens.now c.args.at.now c.new-entries.result.items c.new-entries.ensures.items, none_whole c.args.tokens.now c.args.at.now)

pub loop-at-preserved : goal.loop-at-preserved
loop-at-preserved c =
    let is : c.push.new.self.items ≡ c.loop-at.entries.items ++ c.in_ok-read_entry.field-0 ∷ [] = search rules in
    let one : Reads IsEntryOf is_entry entry_words c.args.tokens.now c.loop-at.at c.read_entry.new.at c.in_ok-read_entry.field-0 = search rules in
    let counts : c.in_ok-rules.rules ≡ c.loop-at.rules + (if begins_rule c.word_at.result.now then 1 else 0) = search rules in (
      search rules,
      search rules,
      search rules,
      more_counted c.args.tokens.now c.args.at.now c.loop-at.at c.read_entry.new.at c.loop-at.entries.items c.push.new.self.items c.in_ok-read_entry.field-0 c.word_at.result.now c.loop-at.rules c.in_ok-rules.rules c.loop-at.invariant.3 one c.word_at.ensures counts is,
      more_whole c.args.tokens.now c.args.at.now c.loop-at.at c.read_entry.new.at (search rules) c.loop-at.invariant.4 (search rules),
    )

pub returns-clause-step : goal.returns-clause-step
returns-clause-step c = few_counted c.args.tokens.now c.args.at.now c.loop-at.at c.loop-at.entries.items c.loop-at.rules c.loop-at.invariant.3 c.loop-at.invariant.2

pub returns-in_err-rules-clause-halt : goal.returns-in_err-rules-clause-halt
returns-in_err-rules-clause-halt c =
    let p = err_from_is_err_and c.from_residual.result c.from_residual.ensures.1 in
    let inside : c.loop-at.at < length c.args.tokens.now = search rules in
    let err = c.in_err-rules.ensures.err in
    rw (p.1, p.2) (too_many c.args.tokens.now c.args.at.now c.loop-at.at c.loop-at.entries.items c.loop-at.rules c.word_at.result.now c.in_err-rules.field-0.0 c.loop-at.invariant.3 inside c.word_at.ensures err.0 err.1 err.2)

pub returns-in_err-read_entry-clause-halt : goal.returns-in_err-read_entry-clause-halt
returns-in_err-read_entry-clause-halt c =
    let inside : c.loop-at.at < length c.args.tokens.now = search rules in
    let before : HaltsBefore c.args.tokens.now c.loop-at.at c.read_entry.new.at c.in_err-read_entry.field-0.0 = c.in_err-read_entry.ensures.halt in
    let counts : c.in_ok-rules.rules ≡ c.loop-at.rules + (if begins_rule c.word_at.result.now then 1 else 0) = search rules in
    let h = halted c.args.tokens.now c.args.at.now c.loop-at.at c.read_entry.new.at c.loop-at.entries.items c.loop-at.rules c.in_ok-rules.rules c.word_at.result.now c.in_err-read_entry.field-0.0
    c.loop-at.invariant.3 c.loop-at.invariant.4 c.loop-at.invariant.2 inside c.word_at.ensures counts (search rules) before in
    let p = err_from_is_err_and c.from_residual-in_err-read_entry.result c.from_residual-in_err-read_entry.ensures.1 in
    rw (p.1, p.2) h
