use Rattle.std.proofs.Common.{◌≡◌, ◌<◌, length, ap, subst, ◌∙◌, MatchOption, rules, arith}
use Rattle.std.specs.Str.{IsUtf8, IsValidUpTo}
use Rattle.rule_text.specs.Fronts.{AreTokensOf}
use Rattle.rule_text.specs.Halts.{HaltsAt}
use Rattle.rule_text.specs.ReadEntries.{ReadsFew}
use Rattle.rule_text.proofs.EntryLemmas.{whole_read}
use Rattle.rule_text.proofs.FaultLemmas.{few_ends, faults}
use Rattle.rule_text.proofs.SyntaxLemmas.{byte_behind}
use Rattle.rule_text.proofs.parse_file.read_rules.Goals as goal

pub fault_of-requires-clause-halt : goal.fault_of-requires-clause-halt
fault_of-requires-clause-halt c =
    let items : c.as_slice.result.now ≡ c.in_ok-tokens.tokens.items.items = search rules in
    let halts : HaltsAt c.as_slice.result.now 0 c.read_entries.new.at c.in-Err.halt = search rules in
    subst (λ xs. HaltsAt xs 0 c.read_entries.new.at c.in-Err.halt) items halts

pub fault_of-requires-clause-lines : goal.fault_of-requires-clause-lines
fault_of-requires-clause-lines c =
    let few : c.in_ok-tokens.tokens.ends < length c.readable.result.now = few_ends c.readable.result.now c.in_ok-tokens.tokens (search rules) (search rules) in
    omega (arith, few, c.readable.ensures.short, c.requires)

pub returns-in-None-clause-ok : goal.returns-in-None-clause-ok
returns-in-None-clause-ok c =
    let same : c.readable.result.now ≡ c.args.text.now = c.readable.ensures.all c.in-None.is in
    let characters : IsUtf8 c.args.text.now = subst (λ o. MatchOption o (IsUtf8 c.args.text.now) (IsValidUpTo c.args.text.now)) c.in-None.is c.bad_byte-bad.ensures in
    let are : AreTokensOf c.readable.result.now c.in_ok-tokens.tokens = search rules in
    let items : c.as_slice.result.now ≡ c.in_ok-tokens.tokens.items.items = search rules in
    let few : ReadsFew c.as_slice.result.now 0 c.read_entries.new.at c.in-Ok.entries.items = search rules in
    let all : c.read_entries.new.at ≡ length c.as_slice.result.now = search rules in
    whole_read c.args.text.now c.in_ok-tokens.tokens c.read_entries.new.at _ characters (subst (λ text. AreTokensOf text c.in_ok-tokens.tokens) same are)
    (subst (λ xs. ReadsFew xs 0 c.read_entries.new.at c.in-Ok.entries.items) items few) (all ∙ ap length items)

pub returns-clause-fault : goal.returns-clause-fault
returns-clause-fault c =
    faults c.args.text.now c.readable.result.now c.bad_byte-bad.result c.in_ok-tokens.tokens c.fault_of.result
    c.bad_byte-bad.ensures c.readable.ensures.readable c.readable.ensures.all (search rules) c.fault_of.ensures

pub returns-in-Ok-clause-fault : goal.returns-in-Ok-clause-fault
returns-in-Ok-clause-fault c =
    let valid : IsValidUpTo c.args.text.now c.in-Some.at = subst (λ o. MatchOption o (IsUtf8 c.args.text.now) (IsValidUpTo c.args.text.now)) c.in-Some.is c.bad_byte-bad.ensures in
    let are : AreTokensOf c.readable.result.now c.in_ok-tokens.tokens = search rules in
    let items : c.as_slice.result.now ≡ c.in_ok-tokens.tokens.items.items = search rules in
    let few : ReadsFew c.as_slice.result.now 0 c.read_entries.new.at c.in-Ok.entries.items = search rules in
    let all : c.read_entries.new.at ≡ length c.as_slice.result.now = search rules in
    byte_behind c.args.text.now c.readable.result.now c.in_ok-tokens.tokens c.in-Some.at c.read_entries.new.at c.in-Ok.entries.items c.readable.ensures.readable valid are
    (subst (λ xs. ReadsFew xs 0 c.read_entries.new.at c.in-Ok.entries.items) items few) (all ∙ ap length items)
