-- Conditions: the access words and the annotations apart.
use Rattle.std.proofs.Common.{map, subst, ◌≡◌, ℕ, zero, suc, ◌*◌, ◌<◌, Bool, true, false, true≢false, List, [], ◌∷◌, length, nat_eq, refl, sym, ap, ◌∙◌, arith, eqb-true, eq-eqb}
use Rattle.std.specs.Prelude.{◌&&◌, ◌||◌, ◌==◌, not, filter, if◌then◌else◌}
use Rattle.std.specs.List.{list_any, list_all}
use Rattle.std.specs.Int.RustNames.{bit_and}
use Rattle.std.specs.Int.{bit_at}
use Rattle.std.proofs.lemmas.Nat.Bits.{and_pow, bit_at-lt}
use Rattle.dalvik_defs.specs.Names.{Text}
use Rattle.dalvik_defs.specs.Flags.{has_bit}
use Rattle.dalvik_defs.specs.declared.encoded.NamedMark.{NamedMark}
use Rattle.dalvik_defs.specs.declared.encoded.NamedValue.{NamedValue}
use Rattle.dalvik_defs.specs.declared.encoded.NamedElement.{NamedElement}
use Rattle.dalvik_defs.specs.declared.encoded.NamedNote.{NamedNote, fold-roll-NamedNote}
use Rattle.dalvik_defs.specs.Naming.{type_at, note_of, value_layer, element_layer, note_layer}
use Rattle.program_model.specs.declared.value.Element.{fold-Element}
use Rattle.program_model.specs.declared.value.Note.{Note, out-Note, fold_out-Note}
use Rattle.program_model.specs.declared.program.Program.{Program}
use Rattle.rule_text.specs.declared.pattern.NamePattern.{NamePattern}
use Rattle.rule_text.specs.declared.rules.Access.{Access}
use Rattle.rule_text.specs.declared.rules.Condition.{Condition as ReadCondition}
use Rattle.rule_text.specs.declared.rules.Condition.TheVariants as condition
use Rattle.rule_text.specs.Related.{IsConditionOf, OfMark, OfAccess}
use Rattle.rule_text.specs.Rules.{Condition, Mark, Has}
use Rattle.rule_defs.specs.Members.{Role, access_holds, asks_visibility, is_visibility, type_of_note, has_mark, condition_holds, some_holds, conditions_hold}
use Rattle.name_bridge.proofs.Lists.{same_test}
use Rattle.keep_rules.specs.Fits.{is_seen, other_holds, others_hold, sees, words_hold, marks_hold}

-- ---- flags

test : (x m b : ℕ) → x ≡ b * m → 0 < m → b < 2 → (x == m) ≡ nat_eq b 1
test x m zero e pos lt = same_test (x == m) false (λ h. absurd (let k = eqb-true x m h in omega (arith, k))) (λ h. absurd (true≢false (sym h)))
test x m (suc zero) e pos lt = eq-eqb x m (omega (arith, e))
test x m (suc (suc b)) e pos lt = absurd (omega arith)

pub bit_0 : (f : ℕ) → (bit_and f 1 == 1) ≡ has_bit 1 f
bit_0 f = test (bit_and f 1) 1 (bit_at f 0) (and_pow f 0) (omega arith) (bit_at-lt f 0)

pub bit_1 : (f : ℕ) → (bit_and f 2 == 2) ≡ has_bit 2 f
bit_1 f = test (bit_and f 2) 2 (bit_at f 1) (and_pow f 1) (omega arith) (bit_at-lt f 1)

pub bit_2 : (f : ℕ) → (bit_and f 4 == 4) ≡ has_bit 4 f
bit_2 f = test (bit_and f 4) 4 (bit_at f 2) (and_pow f 2) (omega arith) (bit_at-lt f 2)

pub bit_3 : (f : ℕ) → (bit_and f 8 == 8) ≡ has_bit 8 f
bit_3 f = test (bit_and f 8) 8 (bit_at f 3) (and_pow f 3) (omega arith) (bit_at-lt f 3)

pub bit_4 : (f : ℕ) → (bit_and f 16 == 16) ≡ has_bit 16 f
bit_4 f = test (bit_and f 16) 16 (bit_at f 4) (and_pow f 4) (omega arith) (bit_at-lt f 4)

pub bit_5 : (f : ℕ) → (bit_and f 32 == 32) ≡ has_bit 32 f
bit_5 f = test (bit_and f 32) 32 (bit_at f 5) (and_pow f 5) (omega arith) (bit_at-lt f 5)

pub bit_6 : (f : ℕ) → (bit_and f 64 == 64) ≡ has_bit 64 f
bit_6 f = test (bit_and f 64) 64 (bit_at f 6) (and_pow f 6) (omega arith) (bit_at-lt f 6)

pub bit_7 : (f : ℕ) → (bit_and f 128 == 128) ≡ has_bit 128 f
bit_7 f = test (bit_and f 128) 128 (bit_at f 7) (and_pow f 7) (omega arith) (bit_at-lt f 7)

pub bit_8 : (f : ℕ) → (bit_and f 256 == 256) ≡ has_bit 256 f
bit_8 f = test (bit_and f 256) 256 (bit_at f 8) (and_pow f 8) (omega arith) (bit_at-lt f 8)

pub bit_9 : (f : ℕ) → (bit_and f 512 == 512) ≡ has_bit 512 f
bit_9 f = test (bit_and f 512) 512 (bit_at f 9) (and_pow f 9) (omega arith) (bit_at-lt f 9)

pub bit_10 : (f : ℕ) → (bit_and f 1024 == 1024) ≡ has_bit 1024 f
bit_10 f = test (bit_and f 1024) 1024 (bit_at f 10) (and_pow f 10) (omega arith) (bit_at-lt f 10)

pub bit_11 : (f : ℕ) → (bit_and f 2048 == 2048) ≡ has_bit 2048 f
bit_11 f = test (bit_and f 2048) 2048 (bit_at f 11) (and_pow f 11) (omega arith) (bit_at-lt f 11)

pub bit_12 : (f : ℕ) → (bit_and f 4096 == 4096) ≡ has_bit 4096 f
bit_12 f = test (bit_and f 4096) 4096 (bit_at f 12) (and_pow f 12) (omega arith) (bit_at-lt f 12)

pub bit_13 : (f : ℕ) → (bit_and f 8192 == 8192) ≡ has_bit 8192 f
bit_13 f = test (bit_and f 8192) 8192 (bit_at f 13) (and_pow f 13) (omega arith) (bit_at-lt f 13)

pub bit_14 : (f : ℕ) → (bit_and f 16384 == 16384) ≡ has_bit 16384 f
bit_14 f = test (bit_and f 16384) 16384 (bit_at f 14) (and_pow f 14) (omega arith) (bit_at-lt f 14)

pub bit_17 : (f : ℕ) → (bit_and f 131072 == 131072) ≡ has_bit 131072 f
bit_17 f = test (bit_and f 131072) 131072 (bit_at f 17) (and_pow f 17) (omega arith) (bit_at-lt f 17)

pub ruleset bits = (bit_0, bit_1, bit_2, bit_3, bit_4, bit_5, bit_6, bit_7, bit_8, bit_9, bit_10, bit_11, bit_12, bit_13, bit_14, bit_17)

-- ---- conditions are access words and annotations

any_filtered : (f g : Condition → Bool) (cs : List Condition) → list_any f (filter g cs) ≡ list_any (λ c. g c && f c) cs
any_filtered f g [] = refl
any_filtered f g (c ∷ cs) = step (any_filtered f g cs) (g c)
  where
    step : list_any f (filter g cs) ≡ list_any (λ d. g d && f d) cs → (v : Bool) → list_any f (if v then c ∷ filter g cs else filter g cs) ≡ ((v && f c) || list_any (λ d. g d && f d) cs)
    step r true = ap (λ b. f c || b) r
    step r false = r

none_filtered : (g : Condition → Bool) (cs : List Condition) → nat_eq (length (filter g cs)) 0 ≡ not (list_any g cs)
none_filtered g [] = refl
none_filtered g (c ∷ cs) = step (none_filtered g cs) (g c)
  where
    some : (xs : List Condition) → nat_eq (length (c ∷ xs)) 0 ≡ false
    some xs = same_test (nat_eq (length (c ∷ xs)) 0) false (λ h. absurd (let k = eqb-true (length (c ∷ xs)) 0 h in omega (arith, k))) (λ h. absurd (true≢false (sym h)))

    step : nat_eq (length (filter g cs)) 0 ≡ not (list_any g cs) → (v : Bool) → nat_eq (length (if v then c ∷ filter g cs else filter g cs)) 0 ≡ not (v || list_any g cs)
    step r true = some (filter g cs)
    step r false = r

sees_some : (role : Role) (flags : ℕ) (cs : List Condition) → is_seen role flags cs ≡ some_holds (filter asks_visibility cs) (condition_holds role flags [])
sees_some role flags cs =
    swapped (list_any (sees role flags) cs) (not (list_any asks_visibility cs))
    ∙ ap (λ b. b || list_any (sees role flags) cs) (sym (none_filtered asks_visibility cs))
    ∙ ap (λ b. nat_eq (length (filter asks_visibility cs)) 0 || b) (sym (any_filtered (condition_holds role flags []) asks_visibility cs))
  where
    swapped : (a b : Bool) → (a || b) ≡ (b || a)
    swapped true true = refl
    swapped true false = refl
    swapped false true = refl
    swapped false false = refl

-- what is asked of who may see a member is nothing of annotations
asked_same : (role : Role) (flags : ℕ) (marks : List NamedMark) (cs : List Condition) → list_any (condition_holds role flags marks) (filter asks_visibility cs) ≡ list_any (condition_holds role flags []) (filter asks_visibility cs)
asked_same role flags marks [] = refl
asked_same role flags marks (Mark name ∷ cs) = asked_same role flags marks cs
asked_same role flags marks (Has negated access ∷ cs) = step (asked_same role flags marks cs) (asks_visibility (Has negated access))
  where
    step : list_any (condition_holds role flags marks) (filter asks_visibility cs) ≡ list_any (condition_holds role flags []) (filter asks_visibility cs) → (v : Bool) → list_any (condition_holds role flags marks) (if v then Has negated access ∷ filter asks_visibility cs else filter asks_visibility cs) ≡ list_any (condition_holds role flags []) (if v then Has negated access ∷ filter asks_visibility cs else filter asks_visibility cs)
    step r true = ap (λ b. condition_holds role flags [] (Has negated access) || b) r
    step r false = r

all_apart : (role : Role) (flags : ℕ) (marks : List NamedMark) (cs : List Condition) → list_all (λ c. asks_visibility c || condition_holds role flags marks c) cs ≡ (others_hold role flags cs && marks_hold marks cs)
all_apart role flags marks [] = refl
all_apart role flags marks (Mark name ∷ cs) = ap (λ b. has_mark name marks && b) (all_apart role flags marks cs) ∙ moved (has_mark name marks) (others_hold role flags cs) (marks_hold marks cs)
  where
    moved : (a b c : Bool) → (a && (b && c)) ≡ (b && (a && c))
    moved true b c = refl
    moved false true c = refl
    moved false false c = refl
all_apart role flags marks (Has negated access ∷ cs) =
    ap (λ b. (asks_visibility (Has negated access) || condition_holds role flags [] (Has negated access)) && b) (all_apart role flags marks cs)
    ∙ moved (asks_visibility (Has negated access) || condition_holds role flags [] (Has negated access)) (others_hold role flags cs) (marks_hold marks cs)
  where
    moved : (a b c : Bool) → (a && (b && c)) ≡ ((a && b) && c)
    moved true b c = refl
    moved false b c = refl

pub conditions_apart : (role : Role) (flags : ℕ) (marks : List NamedMark) (cs : List Condition) → conditions_hold role flags marks cs ≡ (words_hold role flags cs && marks_hold marks cs)
conditions_apart role flags marks cs =
    ap (λ b. (nat_eq (length (filter asks_visibility cs)) 0 || b) && list_all (λ c. asks_visibility c || condition_holds role flags marks c) cs) (asked_same role flags marks cs)
    ∙ ap (λ b. some_holds (filter asks_visibility cs) (condition_holds role flags []) && b) (all_apart role flags marks cs)
    ∙ ap (λ b. b && (others_hold role flags cs && marks_hold marks cs)) (sym (sees_some role flags cs))
    ∙ moved (is_seen role flags cs) (others_hold role flags cs) (marks_hold marks cs)
  where
    moved : (a b c : Bool) → (a && (b && c)) ≡ ((a && b) && c)
    moved true b c = refl
    moved false b c = refl

pub conditions_fail : (role : Role) (flags : ℕ) (marks : List NamedMark) (cs : List Condition) → words_hold role flags cs ≡ false → false ≡ conditions_hold role flags marks cs
conditions_fail role flags marks cs e = sym (conditions_apart role flags marks cs ∙ ap (λ b. b && marks_hold marks cs) e)

pub conditions_left : (role : Role) (flags : ℕ) (marks : List NamedMark) (cs : List Condition) → words_hold role flags cs ≡ true → marks_hold marks cs ≡ conditions_hold role flags marks cs
conditions_left role flags marks cs e = sym (conditions_apart role flags marks cs ∙ ap (λ b. b && marks_hold marks cs) e)

-- ---- annotations

pub note_type : (p : Program) (n : Note) → type_of_note (note_of p n) ≡ type_at p (out-Note n).class
note_type p n =
    ap type_of_note (fold_out-Note NamedValue NamedElement NamedNote (value_layer p) (element_layer p) (note_layer p) n)
    ∙ fold-roll-NamedNote ℕ ℕ Text (λ v. 0) (λ e. 0) (λ m. m.class) (record { class = type_at p (out-Note n).class; elements = map (fold-Element NamedValue NamedElement NamedNote (value_layer p) (element_layer p) (note_layer p)) (out-Note n).elements })

-- ---- a condition as it is read

asks_at : (n : Bool) (a : Access) (c : Condition) → IsConditionOf (condition.Access n a) c → ((is_visibility a && not n) && true) ≡ asks_visibility c
asks_at _ _ _ (OfAccess n a) = last (is_visibility a && not n)
  where
    last : (b : Bool) → (b && true) ≡ b
    last true = refl
    last false = refl

pub asks_of : (n : Bool) (a : Access) (x : ReadCondition) (c : Condition) → x ≡ condition.Access n a → IsConditionOf x c → ((is_visibility a && not n) && true) ≡ asks_visibility c
asks_of n a x c e is = asks_at n a c (subst (λ y. IsConditionOf y c) e is)

sees_at : (role : Role) (flags : ℕ) (n : Bool) (a : Access) (c : Condition) → IsConditionOf (condition.Access n a) c → ((is_visibility a && not n) && access_holds role a flags) ≡ sees role flags c
sees_at role flags _ _ _ (OfAccess n a) = shown n (is_visibility a) (access_holds role a flags)
  where
    shown : (n v h : Bool) → ((v && not n) && h) ≡ ((v && not n) && (if n then not h else h))
    shown true true h = refl
    shown true false h = refl
    shown false v h = refl

pub sees_of : (role : Role) (flags : ℕ) (n : Bool) (a : Access) (x : ReadCondition) (c : Condition) → x ≡ condition.Access n a → IsConditionOf x c → ((is_visibility a && not n) && access_holds role a flags) ≡ sees role flags c
sees_of role flags n a x c e is = sees_at role flags n a c (subst (λ y. IsConditionOf y c) e is)

other_at : (role : Role) (flags : ℕ) (n : Bool) (a : Access) (c : Condition) → IsConditionOf (condition.Access n a) c
    → ((is_visibility a && not n) || (if n then not (access_holds role a flags) else access_holds role a flags)) ≡ other_holds role flags c
other_at role flags _ _ _ (OfAccess n a) = refl

pub other_of : (role : Role) (flags : ℕ) (n : Bool) (a : Access) (x : ReadCondition) (c : Condition) → x ≡ condition.Access n a → IsConditionOf x c
    → ((is_visibility a && not n) || (if n then not (access_holds role a flags) else access_holds role a flags)) ≡ other_holds role flags c
other_of role flags n a x c e is = other_at role flags n a c (subst (λ y. IsConditionOf y c) e is)

marked_at : (role : Role) (flags : ℕ) (p : NamePattern) (c : Condition) → IsConditionOf (condition.Mark p) c → true ≡ other_holds role flags c
marked_at role flags _ _ (OfMark p name is) = refl

pub other_mark : (role : Role) (flags : ℕ) (p : NamePattern) (x : ReadCondition) (c : Condition) → x ≡ condition.Mark p → IsConditionOf x c → true ≡ other_holds role flags c
other_mark role flags p x c e is = marked_at role flags p c (subst (λ y. IsConditionOf y c) e is)
