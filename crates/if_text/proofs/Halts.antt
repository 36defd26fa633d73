-- Where reading a rule with a condition halts.
use Rattle.std.proofs.Common.{◌≡◌, ◌<◌, ◌≤◌, ◌-◌, ℕ, zero, suc, Bool, true, false, ◌&&◌, ◌||◌, List, [], ◌∷◌, map, drop, length, Vec, Option, Some, None, is_some, refl, sym, ap, subst, ◌∙◌, arith, length-drop}
use Rattle.std.specs.declared.alloc.Global.{Global}
use Rattle.std.proofs.lemmas.List.{length-map}
use Rattle.rule_text.specs.Halts.{is_known, HaltsBefore}
use Rattle.rule_text.specs.Places.{InHead, is_keep}
use Rattle.rule_text.specs.Reads.{Reads}
use Rattle.rule_text.specs.Refusals.{IsRefused, EndsWhole}
use Rattle.rule_text.specs.Related.{IsClassOf}
use Rattle.rule_text.specs.Rules.{ClassRule}
use Rattle.rule_text.specs.Spelling.{word_eq, keep_word, is_class_rule, class_rule_words}
use Rattle.rule_text.specs.Steps.{AtSyntax, BeginOtherwise, first_word, words_at}
use Rattle.rule_text.specs.Tokens.{Word}
use Rattle.rule_text.specs.Words.{IsNameOf}
use Rattle.rule_text.specs.declared.rules.ClassRule.{ClassRule as ReadClass}
use Rattle.rule_text.specs.declared.rules.KeepKind.{KeepKind}
use Rattle.rule_text.specs.declared.rules.KeepKind.TheVariants as keep
use Rattle.rule_text.specs.declared.stop.Halt.{Halt}
use Rattle.rule_text.specs.declared.stop.Halt.TheVariants as halt
use Rattle.rule_text.specs.declared.stop.Stop.{Stop}
use Rattle.rule_text.specs.declared.stop.Stop.TheVariants as stop
use Rattle.rule_text.specs.declared.token.Token.{Token as Lexed}
use Rattle.if_text.specs.Faults.{is_if_at, IsConditionTo, IsRefusedItem, InEntry, InCondition, NoRule, InKept, AtReference, HaltsItem}
use Rattle.if_text.specs.Items.{if_word}
use Rattle.if_text.specs.Steps.{good_words, ReadsKept, ReadsIf, IsNotKept, NoOption, Refused, Bad, HaltsKept}
use Rattle.if_text.specs.Wildcards.{slots}
use Rattle.if_text.specs.declared.parts.Part.{Part}
use Rattle.if_text.specs.declared.slots.Source.{Source}
use Rattle.if_text.specs.declared.rules.IfRule.{IfRule as ReadIf}
use Rattle.rule_text.proofs.EntryLemmas.{other_word}
use Rattle.if_text.proofs.Items.{word_of}

-- a keep option stands at a place inside
keep_there : (ws : List Word) (at : ℕ) → is_keep (first_word (drop at ws)) ≡ true → at < length ws
keep_there [] zero is = cc
keep_there [] (suc at) is = cc
keep_there (w ∷ ws) zero is = omega arith
keep_there (w ∷ ws) (suc at) is =
    let more : at < length ws = keep_there ws at is in
    omega (arith, more)

pub keep_inside : (tokens : List Lexed) (at : ℕ) → is_keep (first_word (words_at tokens at)) ≡ true → at < length tokens
keep_inside tokens at is = subst (λ n. at < n) (length-map tokens word_of) (keep_there (map word_of tokens) at is)

or_right : (a b c : Bool) → b ≡ true → ((a || b) || c) ≡ true
or_right true b c is = refl
or_right false true c is = refl
or_right false false c is = cc

keep_known : (w : Word) → is_keep w ≡ true → is_known w ≡ false → ⊥
keep_known w is none =
    let known : is_known w ≡ true = or_right _ (is_keep w) _ is in
    let no : true ≡ false = sym known ∙ none in
    cc

keep_is : (kind : KeepKind) → is_keep (keep_word kind) ≡ true
keep_is keep.Keep = refl
keep_is keep.ClassMembers = refl
keep_is keep.ClassesWithMembers = refl
keep_is keep.Names = refl
keep_is keep.ClassMemberNames = refl
keep_is keep.ClassesWithMemberNames = refl

no_keep : (w : Word) → ((kind : KeepKind) → keep_word kind ≡ w → ⊥) → (kind : KeepKind) → word_eq w (keep_word kind) ≡ false
no_keep w none kind = other_word w (keep_word kind) (word_eq w (keep_word kind)) refl (λ e. none kind (sym e))

-- a keep option has its name
pub keep_found : (w : Word) (found : Option KeepKind) → IsNameOf keep_word w found → is_some found ≡ is_keep w
keep_found w (Some kind) named = sym (subst (λ w. is_keep w ≡ true) named (keep_is kind))
keep_found w None named = sym (rw (
  no_keep w named keep.Keep,
  no_keep w named keep.ClassMembers,
  no_keep w named keep.ClassesWithMembers,
  no_keep w named keep.Names,
  no_keep w named keep.ClassMemberNames,
  no_keep w named keep.ClassesWithMemberNames,
) refl)

-- where no keep option stands
pub no_option : (tokens hidden : List Lexed) (ss : List Source) (at : ℕ) (w : Word) (b : Bool) → w ≡ first_word (words_at hidden at) → b ≡ is_keep w → b ≡ false → HaltsKept tokens hidden ss at at (halt.Inside stop.Syntax)
no_option tokens hidden ss at w b is says none = NoOption at (sym (says ∙ ap is_keep is) ∙ none)

-- where the keep rule is refused
pub entry_halts : (tokens hidden : List Lexed) (ss : List Source) (at next : ℕ) (h : Halt) → is_keep (first_word (words_at hidden at)) ≡ true → HaltsBefore hidden at next h → HaltsKept tokens hidden ss at next h
entry_halts tokens hidden ss at next (halt.Inside stop.NoMemory) is before = tt
entry_halts tokens hidden ss at next (halt.Inside stop.Syntax) is before = Refused at next is before
entry_halts tokens hidden ss at next halt.Option is before = keep_known (first_word (words_at hidden at)) is before.2
entry_halts tokens hidden ss at next halt.TooMany is before = before

-- the class specification
pub condition_to : (tokens : List Lexed) (at mid : ℕ) (one : ReadClass) → is_if_at tokens at ≡ true → (reads : Reads IsClassOf is_class_rule class_rule_words tokens (suc at) mid one) → EndsWhole InHead tokens (suc at) mid
    → IsConditionTo tokens at mid reads.thing
condition_to tokens at mid one is reads whole = record { is_if = is; written = reads.written; words = reads.spelled; whole = whole }

pub condition_halts : (tokens hidden : List Lexed) (at next : ℕ) (s : Stop) → is_if_at tokens at ≡ true → AtSyntax (IsRefused InHead tokens (suc at) next) s → HaltsItem tokens hidden at next (halt.Inside s)
condition_halts tokens hidden at next stop.NoMemory is refused = tt
condition_halts tokens hidden at next stop.Syntax is refused = InCondition at next is refused

not_kept : (tokens hidden : List Lexed) (at mid next : ℕ) (c : ClassRule) → IsConditionTo tokens at mid c → IsNotKept tokens hidden (slots c) mid next → IsRefusedItem tokens hidden at next
not_kept tokens hidden at _ _ c condition (NoOption mid none) = NoRule at mid c condition none
not_kept tokens hidden at _ _ c condition (Refused mid next is refused) = InKept at mid next c condition is refused
not_kept tokens hidden at _ _ c condition (Bad mid next bad) =
    AtReference at mid next bad.behind c bad.front bad.rest bad.word condition bad.are bad.there bad.good (ap (λ b. b && true) bad.bad)

kept_halts_by : (tokens hidden : List Lexed) (at mid next : ℕ) (c : ClassRule) (h : Halt) → IsConditionTo tokens at mid c → HaltsKept tokens hidden (slots c) mid next h → HaltsItem tokens hidden at next h
kept_halts_by tokens hidden at mid next c (halt.Inside stop.NoMemory) condition h = tt
kept_halts_by tokens hidden at mid next c (halt.Inside stop.Syntax) condition h = not_kept tokens hidden at mid next c condition h
kept_halts_by tokens hidden at mid next c halt.Option condition h = absurd h
kept_halts_by tokens hidden at mid next c halt.TooMany condition h = absurd h

pub kept_halts : (tokens hidden : List Lexed) (ss : List Source) (at mid next : ℕ) (c : ClassRule) (h : Halt) → ss ≡ slots c → IsConditionTo tokens at mid c → HaltsKept tokens hidden ss mid next h → HaltsItem tokens hidden at next h
kept_halts tokens hidden ss at mid next c h is condition halts = kept_halts_by tokens hidden at mid next c h condition (subst (λ xs. HaltsKept tokens hidden xs mid next h) is halts)

-- the rule with its condition
pub reads_if : (tokens hidden : List Lexed) (at mid next : ℕ) (class : ReadClass) (ss : Vec Source Global) (words : Vec (Vec Part Global) Global) (read : ReadIf) → is_if_at tokens at ≡ true
    → Reads IsClassOf is_class_rule class_rule_words tokens (suc at) mid class → EndsWhole InHead tokens (suc at) mid → ((c : ClassRule) → IsClassOf class c → ss.items ≡ slots c) → ReadsKept tokens hidden ss.items mid next words
    → read.condition ≡ class → read.slots ≡ ss → read.words ≡ words → ReadsIf tokens hidden at next read
reads_if tokens hidden at mid next class ss words read is reads whole says kept one two three = record {
  rule = record { condition = reads.thing; words = kept.words };
  mid = mid;
  condition = condition_to tokens at mid class is reads whole;
  kept = kept.are;
  good = subst (λ xs. good_words xs kept.words) (says reads.thing reads.related) kept.good;
  related = record {
    condition = subst (λ r. IsClassOf r reads.thing) (sym one) reads.related;
    slots = ap (λ v. v.items) two ∙ says reads.thing reads.related;
    words = ap (λ v. map (λ parts. parts.items) v.items) three ∙ kept.read_as;
  };
}

-- a rule or an option without a condition
pub plain_halts : (tokens hidden : List Lexed) (at next : ℕ) (h : Halt) → is_if_at tokens at ≡ false → HaltsBefore tokens at next h → HaltsItem tokens hidden at next h
plain_halts tokens hidden at next (halt.Inside stop.NoMemory) other before = tt
plain_halts tokens hidden at next (halt.Inside stop.Syntax) other before = InEntry at next before
plain_halts tokens hidden at next halt.Option other before = (before.0, before.1, before.2, other)
plain_halts tokens hidden at next halt.TooMany other before = before

-- ---- one word on

pub next_is : (tokens : List Lexed) (at next : ℕ) (w : Word) → words_at tokens at ≡ w ∷ words_at tokens next → at ≤ length tokens → next ≤ length tokens → next ≡ suc at
next_is tokens at next w is here there =
    let size : length (map word_of tokens) ≡ length tokens = length-map tokens word_of in
    let one : length (words_at tokens at) ≡ length (map word_of tokens) - at = length-drop at (map word_of tokens) in
    let two : length (words_at tokens next) ≡ length (map word_of tokens) - next = length-drop next (map word_of tokens) in
    let more : length (words_at tokens at) ≡ suc (length (words_at tokens next)) = ap length is in
    omega (arith, size, one, two, more, here, there)

pub if_there : (tokens : List Lexed) (at next : ℕ) → words_at tokens at ≡ if_word ∷ words_at tokens next → is_if_at tokens at ≡ true
if_there tokens at next is = ap (λ ws. word_eq (first_word ws) if_word) is

other_first : (ws : List Word) → BeginOtherwise if_word ws → word_eq (first_word ws) if_word ≡ false
other_first [] other = refl
other_first (w ∷ ws) other = other_word w if_word (word_eq w if_word) refl (λ e. other ws (ap (λ v. v ∷ ws) e))

pub not_if : (tokens : List Lexed) (at : ℕ) → BeginOtherwise if_word (words_at tokens at) → is_if_at tokens at ≡ false
not_if tokens at other = other_first (words_at tokens at) other
