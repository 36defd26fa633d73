-- What was read up to a place stands at the front of what the text spells.
use Rattle.std.proofs.Common.{◌≡◌, ◌+◌, ℕ, zero, suc, Bool, true, false, if◌then◌else◌, map, drop, length, List, [], ◌∷◌, ◌++◌, Some, None, refl, sym, ap, ◌∙◌, arith}
use Rattle.std.specs.List.{flat_map}
use Rattle.std.specs.Cmp.Lexicographic.{bytes_decides}
use Rattle.std.proofs.lemmas.List.{append_assoc, append_cancel_right, length-map}
use Rattle.rule_text.specs.Tokens.{Word}
use Rattle.rule_text.specs.Rules.{ClassRule, Entry}
use Rattle.rule_text.specs.Spelling.{word_eq, begins_option, begins_rule, class_rule_words, is_entry, entry_words, is_rule}
use Rattle.rule_text.specs.Steps.{first_word, words_at}
use Rattle.rule_text.specs.ReadEntries.{behind}
use Rattle.rule_text.specs.Places.{Place, Between, InHead, from_option}
use Rattle.rule_text.specs.Refusals.{EndsWhole}
use Rattle.rule_text.specs.declared.token.Token.{Token as Lexed}
use Rattle.rule_text.proofs.OptionLemmas.{class_plain}
use Rattle.rule_text.proofs.PlaceLemmas.{clash, entry_word, entry_option}
use Rattle.if_text.specs.Faults.{AreMasked, is_if_at, IsConditionTo, IsKeptTo, ItemsTo, OfNone, OfEntry, OfIf}
use Rattle.if_text.specs.Items.{IfRule, Item, Plain, If, if_word, item_words, IsKeepRule, IsIfRule, AreItems, count_items}
use Rattle.if_text.specs.Parts.{masked}
use Rattle.rule_laws.proofs.Stretches.{begins, same_end}
use Rattle.rule_laws.proofs.Firsts.{first_entry, place_first, entry_from, word_rule, ends, entries_same, class_stretch}
use Rattle.rule_laws.proofs.Masks.{masked_at, map_append, same_front, kept_begins, items_begin, items_masked}

-- the items behind so many rules
pub record Behind (n : ℕ) (items : List Item) (ws : List Word) : Type 0 where
  pub rest : List Item
  pub are : AreItems rest
  pub words : flat_map item_words rest ≡ ws
  pub count : count_items items ≡ n + count_items rest

further : (m n k : ℕ) (items : List Item) (ws vs : List Word) → (b : Behind m items ws) → Behind n b.rest vs → k ≡ m + n → Behind k items vs
further m n k items ws vs b c is =
    let one : count_items items ≡ m + count_items b.rest = b.count in
    let two : count_items b.rest ≡ n + count_items c.rest = c.count in
    record { rest = c.rest; are = c.are; words = c.words; count = omega (arith, one, two, is) }

-- ---- no `-if` begins a rule or an option without a condition

no_some : (p : Place) → None ≡ Some p → ⊥
no_some p e = cc

pub no_if : (e : Entry) → entry_word e ≡ if_word → ⊥
no_if e is =
    let none : from_option if_word ≡ None = refl in
    no_some (place_first e) (sym none ∙ ap from_option (sym is) ∙ entry_from e)

pub if_there : (w : Word) → word_eq w if_word ≡ true → w ≡ if_word
if_there w is = (bytes_decides w if_word).0 is

-- ---- a rule or an option without a condition

pub none_there : (e : Entry) (rest : List Word) → [] ≡ entry_words e ++ rest → ⊥
none_there e rest is = clash (ap (λ xs. begins_option (first_word xs)) is ∙ ap begins_option (first_entry e rest) ∙ entry_option e)

abbrev one_of : Bool → ℕ
one_of b = if b then 1 else 0

entry_behind : (tokens : List Lexed) (at next : ℕ) (e : Entry) (items : List Item) → AreItems items → flat_map item_words items ≡ words_at tokens at → is_entry e ≡ true → words_at tokens at ≡ entry_words e ++ words_at tokens next
    → EndsWhole Between tokens at next → Behind (one_of (is_rule e)) items (words_at tokens next)
entry_behind tokens at next e [] are mine is theirs whole = absurd (none_there e (words_at tokens next) (mine ∙ theirs))
entry_behind tokens at next e (Plain f ∷ fs) are mine is theirs whole =
    let rest : List Word = flat_map item_words fs in
    let both : (entry_words f ≡ entry_words e) × (rest ≡ words_at tokens next) = entries_same e f rest tokens at next is are.0 (items_begin fs) (sym mine) theirs whole in
    let first : entry_word f ≡ entry_word e = sym (first_entry f rest) ∙ ap first_word (mine ∙ theirs) ∙ first_entry e (words_at tokens next) in
    let same : is_rule f ≡ is_rule e = sym (word_rule f) ∙ ap begins_rule first ∙ word_rule e in
    record { rest = fs; are = are.1; words = both.1; count = ap (λ b. one_of b + count_items fs) same }
entry_behind tokens at next e (If q ∷ qs) are mine is theirs whole = absurd (no_if e (sym (first_entry e (words_at tokens next)) ∙ ap first_word (sym (mine ∙ theirs))))

-- ---- one with a condition

if_at : (ws : List Word) (at : ℕ) → word_eq (first_word (drop at ws)) if_word ≡ true → drop at ws ≡ if_word ∷ drop (suc at) ws
if_at [] zero is = cc
if_at [] (suc at) is = cc
if_at (w ∷ ws) zero is = ap (λ v. v ∷ ws) (if_there w is)
if_at (w ∷ ws) (suc at) is = if_at ws at is

pub if_step : (tokens : List Lexed) (at : ℕ) → is_if_at tokens at ≡ true → words_at tokens at ≡ if_word ∷ words_at tokens (suc at)
if_step tokens at is = if_at (map (λ t. t.word.now) tokens) at is

-- the words behind `-if`
pub behind_if : (tokens : List Lexed) (at : ℕ) (q : IfRule) (rest : List Word) → is_if_at tokens at ≡ true → item_words (If q) ++ rest ≡ words_at tokens at → words_at tokens (suc at) ≡ class_rule_words q.condition ++ (q.words ++ rest)
behind_if tokens at q rest is mine = ap behind (sym (if_step tokens at is) ∙ sym mine) ∙ append_assoc (class_rule_words q.condition) q.words rest

-- The condition is as it was read.
pub condition_same : (tokens : List Lexed) (at mid : ℕ) (q : IfRule) (rest : List Word) (c : ClassRule) → IsIfRule q → item_words (If q) ++ rest ≡ words_at tokens at → IsConditionTo tokens at mid c
    → (class_rule_words q.condition ≡ class_rule_words c) × (q.words ++ rest ≡ words_at tokens mid)
condition_same tokens at mid q rest c is mine to =
    let there : words_at tokens (suc at) ≡ class_rule_words q.condition ++ (q.words ++ rest) = behind_if tokens at q rest to.is_if mine in
    same_end InHead (class_rule_words q.condition) (q.words ++ rest) (class_rule_words c) (words_at tokens mid) (class_stretch q.condition (q.words ++ rest) is.condition (kept_begins q.words rest is.keep.option))
    (ends InHead (class_rule_words c) tokens (suc at) mid (class_plain c to.written) to.words to.whole) (sym there ∙ to.words)

-- the keep rule, with names in place of words with references
pub hidden_words : (tokens hidden : List Lexed) (mid : ℕ) (ws rest : List Word) → AreMasked tokens hidden → (k : IsKeepRule ws) → ws ++ rest ≡ words_at tokens mid → words_at hidden mid ≡ entry_words k.entry ++ map masked rest
hidden_words tokens hidden mid ws rest m k mine = masked_at tokens hidden mid m ∙ ap (map masked) (sym mine) ∙ map_append ws rest ∙ ap (λ xs. xs ++ map masked rest) (sym k.words)

kept_words : (tokens hidden : List Lexed) (at next : ℕ) (ws : List Word) → AreMasked tokens hidden → (k : IsKeptTo tokens hidden at next ws) → entry_words k.entry ≡ map masked ws
kept_words tokens hidden at next ws m k = append_cancel_right (entry_words k.entry) (map masked ws) (words_at hidden next) (
    sym k.words ∙ masked_at tokens hidden at m ∙ ap (map masked) k.spelled ∙ map_append ws (words_at tokens next) ∙ ap (λ xs. map masked ws ++ xs) (sym (masked_at tokens hidden next m))
    )

pub kept_same : (tokens hidden : List Lexed) (mid next : ℕ) (qs ws rest : List Word) → AreMasked tokens hidden → IsKeepRule qs → begins (map masked rest) ≡ true → qs ++ rest ≡ words_at tokens mid → IsKeptTo tokens hidden mid next ws
    → (qs ≡ ws) × (rest ≡ words_at tokens next)
kept_same tokens hidden mid next qs ws rest m k begun mine to =
    let both : (entry_words k.entry ≡ entry_words to.entry) × (map masked rest ≡ words_at hidden next) =
    entries_same to.entry k.entry (map masked rest) hidden mid next to.written k.written begun (hidden_words tokens hidden mid qs rest m k mine) to.words to.whole in
    let same : map masked qs ≡ map masked ws = sym k.words ∙ both.0 ∙ kept_words tokens hidden mid next ws m to in
    same_front qs ws rest (words_at tokens next) (sym (length-map qs masked) ∙ ap length same ∙ length-map ws masked) (mine ∙ to.spelled)

no_if_left : (tokens : List Lexed) (at : ℕ) → [] ≡ words_at tokens at → is_if_at tokens at ≡ true → ⊥
no_if_left tokens at none is = clash (ap (λ xs. word_eq (first_word xs) if_word) none ∙ is)

if_behind : (tokens hidden : List Lexed) (at mid next : ℕ) (r : IfRule) (items : List Item) → AreMasked tokens hidden → AreItems items → flat_map item_words items ≡ words_at tokens at → IsConditionTo tokens at mid r.condition
    → IsKeptTo tokens hidden mid next r.words → Behind 1 items (words_at tokens next)
if_behind tokens hidden at mid next r [] m are mine c k = absurd (no_if_left tokens at mine c.is_if)
if_behind tokens hidden at mid next r (Plain f ∷ fs) m are mine c k = absurd (no_if f (sym (first_entry f (flat_map item_words fs)) ∙ ap first_word mine ∙ if_there (first_word (words_at tokens at)) c.is_if))
if_behind tokens hidden at mid next r (If q ∷ qs) m are mine c k =
    let rest : List Word = flat_map item_words qs in
    let one : (class_rule_words q.condition ≡ class_rule_words r.condition) × (q.words ++ rest ≡ words_at tokens mid) = condition_same tokens at mid q rest r.condition are.0 mine c in
    let two : (q.words ≡ r.words) × (rest ≡ words_at tokens next) = kept_same tokens hidden mid next q.words r.words rest m are.0.keep (items_masked qs) one.1 k in
    record { rest = qs; are = are.1; words = two.1; count = refl }

-- ---- all that was read

count_more : (is : List Item) (i : Item) → count_items (is ++ i ∷ []) ≡ count_items is + count_items (i ∷ [])
count_more [] i =
    let e : count_items (i ∷ []) ≡ 0 + count_items (i ∷ []) = omega arith in
    e
count_more (Plain e ∷ is) i =
    let more : count_items (is ++ i ∷ []) ≡ count_items is + count_items (i ∷ []) = count_more is i in
    let one : count_items (Plain e ∷ (is ++ i ∷ [])) ≡ (if is_rule e then 1 else 0) + count_items (is ++ i ∷ []) = refl in
    let two : count_items (Plain e ∷ is) ≡ (if is_rule e then 1 else 0) + count_items is = refl in
    omega (arith, more, one, two)
count_more (If r ∷ is) i =
    let more : count_items (is ++ i ∷ []) ≡ count_items is + count_items (i ∷ []) = count_more is i in
    let one : count_items (If r ∷ (is ++ i ∷ [])) ≡ 1 + count_items (is ++ i ∷ []) = refl in
    let two : count_items (If r ∷ is) ≡ 1 + count_items is = refl in
    omega (arith, more, one, two)

one_more : (b : Bool) → one_of b + 0 ≡ one_of b
one_more true = refl
one_more false = refl

pub split_to : (tokens hidden : List Lexed) (at : ℕ) (done items : List Item) → AreMasked tokens hidden → AreItems items → flat_map item_words items ≡ words_at tokens 0 → ItemsTo tokens hidden at done → Behind (count_items done) items (words_at tokens at)
split_to tokens hidden _ _ items m are mine OfNone = record { rest = items; are = are; words = mine; count = omega arith }
split_to tokens hidden _ _ items m are mine (OfEntry at next done e before written words whole) =
    let b : Behind (count_items done) items (words_at tokens at) = split_to tokens hidden at done items m are mine before in
    further (count_items done) (one_of (is_rule e)) (count_items (done ++ Plain e ∷ [])) items (words_at tokens at) (words_at tokens next) b (entry_behind tokens at next e b.rest b.are b.words written words whole)
    (count_more done (Plain e) ∙ ap (λ n. count_items done + n) (one_more (is_rule e)))
split_to tokens hidden _ _ items m are mine (OfIf at mid next done r before c k good) =
    let b : Behind (count_items done) items (words_at tokens at) = split_to tokens hidden at done items m are mine before in
    further (count_items done) 1 (count_items (done ++ If r ∷ [])) items (words_at tokens at) (words_at tokens next) b (if_behind tokens hidden at mid next r b.rest m b.are b.words c k) (count_more done (If r))
