use Rattle.std.proofs.Common.{◌≡◌, ◌∷◌, true, false, IfErr, codes, sym, subst, ◌∙◌, rules, OnOk, refl}
use Rattle.rule_text.specs.Refusals.{EndsWhole}
use Rattle.rule_text.specs.Spelling.{keep_word, begins_rule}
use Rattle.rule_text.specs.Steps.{words_at, first_word, BeginOtherwise}
use Rattle.rule_text.specs.Halts.{IsNoNameOf, HaltsBefore}
use Rattle.rule_text.proofs.HaltLemmas.{no_rule_begins}
use Rattle.rule_text.proofs.EntryLemmas.{keep_entry, assume_entry}
use Rattle.rule_text.proofs.EntryRefusals.{passed_halt, inside_one, entry_whole}
use Rattle.rule_text.proofs.PlaceLemmas.{keep_leads}
use Rattle.rule_text.specs.Places.{BeforeClass, BehindKeep, Between}
use Rattle.rule_text.proofs.parse_file.read_entry.Goals as goal

pub returns-then-accept-clause-step : goal.returns-then-accept-clause-step
returns-then-accept-clause-step c = assume_entry c.args.tokens.now c.args.at.now c.accept.new.at c.read_assume.new.at c.in_ok-rule.rule (search rules) (search rules)

pub returns-in-Some-clause-step : goal.returns-in-Some-clause-step
returns-in-Some-clause-step c =
    let same : c.accept.new.at ≡ c.args.at.now = search rules in
    let is : words_at c.args.tokens.now c.accept.new.at ≡ keep_word c.in-Some.kind ∷ words_at c.args.tokens.now c.read_keep_kind.new.at = search rules in
    keep_entry c.in-Some.kind c.args.tokens.now c.args.at.now c.read_keep_kind.new.at c.read_keep.new.at c.in_ok-rule-2.rule (subst (λ at. words_at c.args.tokens.now at ≡ keep_word c.in-Some.kind ∷ words_at c.args.tokens.now c.read_keep_kind.new.at) same is) (search rules)

pub returns-clause-halt : goal.returns-clause-halt
returns-clause-halt c =
    let same : c.accept.new.at ≡ c.args.at.now = search rules in
    let stays : c.read_keep_kind.new.at ≡ c.accept.new.at = search rules in
    let other : BeginOtherwise (codes "-assumenosideeffects") (words_at c.args.tokens.now c.args.at.now) = c.accept.ensures.otherwise (search rules) in
    let none : IsNoNameOf (λ _. true) keep_word (first_word (words_at c.args.tokens.now c.accept.new.at)) = search rules in
    let rule : begins_rule (first_word (words_at c.args.tokens.now c.args.at.now)) ≡ false =
    no_rule_begins (words_at c.args.tokens.now c.args.at.now) other (subst (λ k. IsNoNameOf (λ _. true) keep_word (first_word (words_at c.args.tokens.now k))) same none) in
    let here : c.read_keep_kind.new.at ≡ c.args.at.now = stays ∙ same in
    subst (λ k. IfErr c.read_setting.result (HaltsBefore c.args.tokens.now k c.read_setting.new.at)) here
    (c.read_setting.ensures.halt (subst (λ k. begins_rule (first_word (words_at c.args.tokens.now k)) ≡ false) (sym here) rule))

pub returns-in_err-rule-clause-halt : goal.returns-in_err-rule-clause-halt
returns-in_err-rule-clause-halt c =
    passed_halt c.from_residual.result c.in_err-rule.field-0.0 c.args.tokens.now c.args.at.now c.read_assume.new.at c.from_residual.ensures.1 (inside_one c.args.tokens.now c.args.at.now c.args.at.now c.accept.new.at c.read_assume.new.at (codes "-assumenosideeffects") BeforeClass refl (search rules) refl) c.in_err-rule.ensures.refused

pub returns-in_err-rule-2-clause-halt : goal.returns-in_err-rule-2-clause-halt
returns-in_err-rule-2-clause-halt c =
    passed_halt c.from_residual-in_err-rule-2.result c.in_err-rule-2.field-0.0 c.args.tokens.now c.args.at.now c.read_keep.new.at c.from_residual-in_err-rule-2.ensures.1 (inside_one c.args.tokens.now c.args.at.now c.accept.new.at c.read_keep_kind.new.at c.read_keep.new.at (keep_word c.in-Some.kind) BehindKeep (search rules) (search rules) (keep_leads c.in-Some.kind)) c.in_err-rule-2.ensures.refused

pub returns-then-accept-clause-whole : goal.returns-then-accept-clause-whole
returns-then-accept-clause-whole c =
    entry_whole c.args.tokens.now c.args.at.now c.args.at.now c.accept.new.at c.read_assume.new.at (codes "-assumenosideeffects") BeforeClass refl (search rules) refl (search rules)

pub returns-in-Some-clause-whole : goal.returns-in-Some-clause-whole
returns-in-Some-clause-whole c =
    entry_whole c.args.tokens.now c.args.at.now c.accept.new.at c.read_keep_kind.new.at c.read_keep.new.at (keep_word c.in-Some.kind) BehindKeep (search rules) (search rules) (keep_leads c.in-Some.kind) (search rules)

pub returns-clause-whole : goal.returns-clause-whole
returns-clause-whole c =
    let first : c.accept.new.at ≡ c.args.at.now = search rules in
    let second : c.read_keep_kind.new.at ≡ c.accept.new.at = search rules in
    let same : c.read_keep_kind.new.at ≡ c.args.at.now = second ∙ first in
    subst (λ k. OnOk c.read_setting.result (EndsWhole Between c.args.tokens.now k c.read_setting.new.at)) same c.read_setting.ensures.whole
