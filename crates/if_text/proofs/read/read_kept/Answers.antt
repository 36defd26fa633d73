use Rattle.std.proofs.Common.{◌≡◌, ◌<◌, ◌≤◌, ◌-◌, ◌∙◌, List, true, map, take, drop, length, slice_index_or, Vec, false, refl, sym, ap, subst, arith, rules}
use Rattle.std.specs.List.{list_all}
use Rattle.std.specs.declared.alloc.Global.{Global}
use Rattle.std.proofs.lemmas.List.{take_all}
use Rattle.rule_text.specs.Places.{Between, is_keep}
use Rattle.rule_text.specs.Reads.{Reads}
use Rattle.rule_text.specs.Refusals.{EndsWhole}
use Rattle.rule_text.specs.Related.{IsEntryOf}
use Rattle.rule_text.specs.Spelling.{is_entry, entry_words}
use Rattle.rule_text.specs.Steps.{first_word, words_at}
use Rattle.if_text.specs.Parts.{parts_of}
use Rattle.if_text.specs.Wildcards.{is_good_in}
use Rattle.if_text.specs.declared.parts.Part.{Part}
use Rattle.if_text.proofs.Halts.{no_option}
use Rattle.if_text.proofs.Items.{same_length}
use Rattle.if_text.proofs.Kept.{bad_halts, bad_inside, kept_read}
use Rattle.if_text.proofs.read.read_kept.Goals as goal

pub returns-then-not-keeps-clause-halt : goal.returns-then-not-keeps-clause-halt
returns-then-not-keeps-clause-halt c = no_option c.args.tokens.now c.args.hidden.now c.args.slots.now c.args.at.now c.word_at.result.now c.is_keep-keeps.result c.word_at.ensures c.is_keep-keeps.ensures c.if-not-keeps.true

pub returns-then-bad-len-clause-inside : goal.returns-then-bad-len-clause-inside
returns-then-bad-len-clause-inside c =
    let le : c.args.at.now ≤ c.read_entry.new.at = search rules in
    let found : map (λ parts. parts.items) c.in_ok-words.words.items ≡ map (λ t. parts_of t.word.now) (take (c.read_entry.new.at - c.args.at.now) (drop c.args.at.now c.args.tokens.now)) = search rules in
    let inside : c.first_bad-bad.result < length c.in_ok-words.words.items = search rules in
    let most : c.read_entry.new.at ≤ length c.args.tokens.now = omega (arith, c.read_entry.ensures.inside, same_length c.args.tokens.now c.args.hidden.now c.requires.masked) in
    bad_inside c.args.tokens.now c.args.at.now c.read_entry.new.at c.first_bad-bad.result _ c.in_ok-words.words.items refl le most found inside

pub returns-then-bad-len-clause-halt : goal.returns-then-bad-len-clause-halt
returns-then-bad-len-clause-halt c =
    let option : is_keep (first_word (words_at c.args.hidden.now c.args.at.now)) ≡ true = search rules in
    let one : Reads IsEntryOf is_entry entry_words c.args.hidden.now c.args.at.now c.read_entry.new.at c.in_ok-_rule._rule = search rules in
    let whole : EndsWhole Between c.args.hidden.now c.args.at.now c.read_entry.new.at = search rules in
    let le : c.args.at.now ≤ c.read_entry.new.at = search rules in
    let found : map (λ parts. parts.items) c.in_ok-words.words.items ≡ map (λ t. parts_of t.word.now) (take (c.read_entry.new.at - c.args.at.now) (drop c.args.at.now c.args.tokens.now)) = search rules in
    let inside : c.first_bad-bad.result < length c.in_ok-words.words.items = search rules in
    let before : list_all (λ parts. list_all (is_good_in c.args.slots.now) parts.items) (take c.first_bad-bad.result c.in_ok-words.words.items) ≡ true = search rules in
    bad_halts c.args.tokens.now c.args.hidden.now c.args.slots.now c.args.at.now c.read_entry.new.at c.first_bad-bad.result _ c.in_ok-words.words c.in_ok-_rule._rule refl le option one whole found before inside
    (subst (λ (xs : List (Vec Part Global)). (p : Vec Part Global) → c.first_bad-bad.result < length xs → p ≡ slice_index_or xs c.first_bad-bad.result p → list_all (is_good_in c.args.slots.now) p.items ≡ false) c.as_slice.ensures.value c.first_bad-bad.ensures.there)

pub returns-clause-step : goal.returns-clause-step
returns-clause-step c =
    let option : is_keep (first_word (words_at c.args.hidden.now c.args.at.now)) ≡ true = search rules in
    let one : Reads IsEntryOf is_entry entry_words c.args.hidden.now c.args.at.now c.read_entry.new.at c.in_ok-_rule._rule = search rules in
    let whole : EndsWhole Between c.args.hidden.now c.args.at.now c.read_entry.new.at = search rules in
    let le : c.args.at.now ≤ c.read_entry.new.at = search rules in
    let found : map (λ parts. parts.items) c.in_ok-words.words.items ≡ map (λ t. parts_of t.word.now) (take (c.read_entry.new.at - c.args.at.now) (drop c.args.at.now c.args.tokens.now)) = search rules in
    let past : length c.in_ok-words.words.items ≤ c.first_bad-bad.result = search rules in
    let before : list_all (λ parts. list_all (is_good_in c.args.slots.now) parts.items) (take c.first_bad-bad.result c.in_ok-words.words.items) ≡ true = search rules in
    let good : list_all (λ parts. list_all (is_good_in c.args.slots.now) parts.items) c.in_ok-words.words.items ≡ true =
    sym (ap (list_all (λ parts. list_all (is_good_in c.args.slots.now) parts.items)) (take_all c.first_bad-bad.result c.in_ok-words.words.items past)) ∙ before in
    kept_read c.args.tokens.now c.args.hidden.now c.args.slots.now c.args.at.now c.read_entry.new.at _ c.in_ok-words.words c.in_ok-_rule._rule refl le option one whole found good
