-- The words of a class specification tell what a reference may name of it.
use Rattle.std.proofs.Common.{◌≡◌, ◌+◌, ℕ, Bool, true, false, not, ◌&&◌, ◌||◌, if◌then◌else◌, nat_eq, List, [], ◌∷◌, ◌++◌, Option, Some, None, refl, sym, ap, ◌∙◌, codes, eqb-true, arith}
use Rattle.std.specs.List.{list_all, flat_map}
use Rattle.std.specs.Cmp.Lexicographic.{bytes_decides}
use Rattle.std.proofs.lemmas.List.{append-nil, append_assoc, append_cancel_right}
use Rattle.rule_text.specs.Tokens.{Word}
use Rattle.rule_text.specs.Rules.{Condition, Mark, Has, Arguments, Any, These, What, All, Fields, Methods, Init, Field, Method, MemberRule, Above, ClassRule}
use Rattle.rule_text.specs.Spelling.{word_eq, member_words, is_name, is_argument, is_other, is_first_type, bang, marked, access_word, kind_word, condition_words, separated, argument_words, what_words, member_rule_words, braces, mark_words, above_words, braces_words, class_rule_words, is_class_condition, is_member_condition, are_arguments, is_what, is_member_rule, are_names, is_above, are_members, is_class_rule}
use Rattle.rule_text.specs.Steps.{first_word}
use Rattle.rule_text.specs.ReadEntries.{behind}
use Rattle.rule_text.specs.Places.{is_kind, is_access}
use Rattle.rule_text.specs.Refusals.{begins_mark}
use Rattle.rule_text.specs.declared.rules.Access.{Access}
use Rattle.rule_text.specs.declared.rules.Access.TheVariants as access
use Rattle.rule_text.specs.declared.rules.ClassKind.{ClassKind}
use Rattle.rule_text.specs.declared.rules.ClassKind.TheVariants as class
use Rattle.rule_text.proofs.PlaceLemmas.{first_true, second_true, not_true, clash}
use Rattle.if_text.specs.Items.{are_good}
use Rattle.if_text.specs.Parts.{parts_of}
use Rattle.if_text.specs.Wildcards.{name_wilds, type_wilds, types_wilds, argument_wilds, what_wilds, blanks, numbered, condition_slots, name_slots, mark_slots, above_slots, line_slots, lines_slots, members_slots, slots, is_good_in}
use Rattle.if_text.specs.declared.slots.Source.{Source}
use Rattle.if_text.specs.declared.slots.Source.TheVariants.{Line}

-- ---- lists of words that are the same

both : (a b : Bool) → a ≡ true → b ≡ true → (a && b) ≡ true
both true true one two = refl
both true false one two = two
both false b one two = one

all_append : (f : Word → Bool) (xs ys : List Word) → list_all f xs ≡ true → list_all f ys ≡ true → list_all f (xs ++ ys) ≡ true
all_append f [] ys one two = two
all_append f (x ∷ xs) ys one two = both (f x) (list_all f (xs ++ ys)) (first_true (f x) (list_all f xs) one) (all_append f xs ys (second_true (f x) (list_all f xs) one) two)

-- the words of each
all_each : {S : Type 0} (f : Word → Bool) (words : S → List Word) (is : S → Bool) → ((s : S) → is s ≡ true → list_all f (words s) ≡ true) → (ss : List S) → list_all is ss ≡ true → list_all f (flat_map words ss) ≡ true
all_each f words is one [] e = refl
all_each f words is one (s ∷ ss) e = all_append f (words s) (flat_map words ss) (one s (first_true (is s) (list_all is ss) e)) (all_each f words is one ss (second_true (is s) (list_all is ss) e))

abbrev lacks : (Word → Bool) → Word → Bool
lacks f w = not (f w)

unlike : (f : Word → Bool) (v w : Word) → v ≡ w → f v ≡ true → f w ≡ false → ⊥
unlike f v w is one two = clash (sym two ∙ ap f (sym is) ∙ one)

-- up to the first word that passes a test
first_split : (f : Word → Bool) (vs ws xs ys : List Word) (k l : Word) → list_all (lacks f) vs ≡ true → list_all (lacks f) ws ≡ true → f k ≡ true → f l ≡ true → vs ++ k ∷ xs ≡ ws ++ l ∷ ys → (vs ≡ ws) × (xs ≡ ys)
first_split f [] [] xs ys k l one two fk fl is = (refl, ap behind is)
first_split f [] (w ∷ ws) xs ys k l one two fk fl is = absurd (unlike f k w (ap first_word is) fk (not_true (f w) (first_true (not (f w)) (list_all (lacks f) ws) two)))
first_split f (v ∷ vs) [] xs ys k l one two fk fl is = absurd (unlike f l v (sym (ap first_word is)) fl (not_true (f v) (first_true (not (f v)) (list_all (lacks f) vs) one)))
first_split f (v ∷ vs) (w ∷ ws) xs ys k l one two fk fl is =
    let more : (vs ≡ ws) × (xs ≡ ys) = first_split f vs ws xs ys k l (second_true (not (f v)) (list_all (lacks f) vs) one) (second_true (not (f w)) (list_all (lacks f) ws) two) fk fl (ap behind is) in
    (ap (λ x. x ∷ vs) (ap first_word is) ∙ ap (λ zs. w ∷ zs) more.0, more.1)

-- as long as words pass it
front_split : (f : Word → Bool) (vs ws xs ys : List Word) → list_all f vs ≡ true → list_all f ws ≡ true → f (first_word xs) ≡ false → f (first_word ys) ≡ false → vs ++ xs ≡ ws ++ ys → (vs ≡ ws) × (xs ≡ ys)
front_split f [] [] xs ys one two fx fy is = (refl, is)
front_split f [] (w ∷ ws) xs ys one two fx fy is = absurd (unlike f w (first_word xs) (sym (ap first_word is)) (first_true (f w) (list_all f ws) two) fx)
front_split f (v ∷ vs) [] xs ys one two fx fy is = absurd (unlike f v (first_word ys) (ap first_word is) (first_true (f v) (list_all f vs) one) fy)
front_split f (v ∷ vs) (w ∷ ws) xs ys one two fx fy is =
    let more : (vs ≡ ws) × (xs ≡ ys) = front_split f vs ws xs ys (second_true (f v) (list_all f vs) one) (second_true (f w) (list_all f ws) two) fx fy (ap behind is) in
    (ap (λ x. x ∷ vs) (ap first_word is) ∙ ap (λ zs. w ∷ zs) more.0, more.1)

no_words : (vs ws : List Word) (w : Word) → [] ≡ vs ++ w ∷ ws → ⊥
no_words [] ws w is = cc
no_words (v ∷ vs) ws w is = cc

-- a name is none of the words that are no names
not_named : (w q : Word) (b : Bool) → word_eq w q ≡ b → is_name w ≡ true → is_name q ≡ false → b ≡ false
not_named w q true e one two = absurd (unlike is_name w q ((bytes_decides w q).0 e) one two)
not_named w q false e one two = refl

-- ---- conditions

-- an annotation tells what it names
abbrev mark_slot : Word → List Source
mark_slot [] = []
mark_slot (c ∷ cs) = if nat_eq c 64 then blanks (name_wilds cs) else []

access_slot : (a : Access) → mark_slot (access_word a) ≡ []
access_slot access.Public = refl
access_slot access.Private = refl
access_slot access.Protected = refl
access_slot access.Static = refl
access_slot access.Final = refl
access_slot access.Synchronized = refl
access_slot access.Native = refl
access_slot access.Abstract = refl
access_slot access.Strict = refl
access_slot access.Volatile = refl
access_slot access.Transient = refl
access_slot access.Varargs = refl
access_slot access.Bridge = refl
access_slot access.Synthetic = refl

condition_slot : (c : Condition) → flat_map mark_slot (condition_words c) ≡ condition_slots c
condition_slot (Mark name) = append-nil (blanks (name_wilds name))
condition_slot (Has true a) = ap (λ xs. xs ++ []) (access_slot a)
condition_slot (Has false a) = ap (λ xs. xs ++ []) (access_slot a)

slots_append : (xs ys : List Word) → flat_map mark_slot (xs ++ ys) ≡ flat_map mark_slot xs ++ flat_map mark_slot ys
slots_append [] ys = refl
slots_append (x ∷ xs) ys = ap (λ zs. mark_slot x ++ zs) (slots_append xs ys) ∙ sym (append_assoc (mark_slot x) (flat_map mark_slot xs) (flat_map mark_slot ys))

conditions_slot : (cs : List Condition) → flat_map mark_slot (flat_map condition_words cs) ≡ flat_map condition_slots cs
conditions_slot [] = refl
conditions_slot (c ∷ cs) = slots_append (condition_words c) (flat_map condition_words cs) ∙ ap (λ xs. xs ++ flat_map mark_slot (flat_map condition_words cs)) (condition_slot c) ∙ ap (λ xs. condition_slots c ++ xs) (conditions_slot cs)

-- ---- the kind of a class

access_no_kind : (a : Access) → is_kind (access_word a) ≡ false
access_no_kind access.Public = refl
access_no_kind access.Private = refl
access_no_kind access.Protected = refl
access_no_kind access.Static = refl
access_no_kind access.Final = refl
access_no_kind access.Synchronized = refl
access_no_kind access.Native = refl
access_no_kind access.Abstract = refl
access_no_kind access.Strict = refl
access_no_kind access.Volatile = refl
access_no_kind access.Transient = refl
access_no_kind access.Varargs = refl
access_no_kind access.Bridge = refl
access_no_kind access.Synthetic = refl

kind_is : (k : ClassKind) → is_kind (kind_word k) ≡ true
kind_is class.Class = refl
kind_is class.Interface = refl
kind_is class.Enum = refl
kind_is class.Annotation = refl

mark_no_kind : (name : Word) → word_eq name (codes "interface") ≡ false → is_kind (marked name) ≡ false
mark_no_kind name e = rw e refl

not_kind : (w : Word) → is_kind w ≡ false → not (is_kind w) ≡ true
not_kind w e = ap not e

condition_no_kind : (c : Condition) → is_class_condition c ≡ true → list_all (lacks is_kind) (condition_words c) ≡ true
condition_no_kind (Mark name) is = both (not (is_kind (marked name))) true (not_kind (marked name) (mark_no_kind name (not_true (word_eq name (codes "interface")) (second_true (is_name name) (not (word_eq name (codes "interface"))) is)))) refl
condition_no_kind (Has true a) is = both (not (is_kind (access_word a))) true (not_kind (access_word a) (access_no_kind a)) refl
condition_no_kind (Has false a) is = both (not (is_kind (access_word a))) true (not_kind (access_word a) (access_no_kind a)) refl

bang_no_kind : (negated : Bool) → list_all (lacks is_kind) (bang negated) ≡ true
bang_no_kind true = refl
bang_no_kind false = refl

bang_slot : (negated : Bool) → flat_map mark_slot (bang negated) ≡ []
bang_slot true = refl
bang_slot false = refl

abbrev head : List Condition → Bool → List Word
head cs negated = flat_map condition_words cs ++ bang negated

head_slots : (cs : List Condition) (negated : Bool) → flat_map mark_slot (head cs negated) ≡ flat_map condition_slots cs
head_slots cs negated = slots_append (flat_map condition_words cs) (bang negated) ∙ ap (λ xs. flat_map mark_slot (flat_map condition_words cs) ++ xs) (bang_slot negated) ∙ append-nil (flat_map mark_slot (flat_map condition_words cs)) ∙ conditions_slot cs

head_no_kind : (cs : List Condition) (negated : Bool) → list_all is_class_condition cs ≡ true → list_all (lacks is_kind) (head cs negated) ≡ true
head_no_kind cs negated is = all_append (lacks is_kind) (flat_map condition_words cs) (bang negated) (all_each (lacks is_kind) condition_words is_class_condition condition_no_kind cs is) (bang_no_kind negated)

-- ---- names

no_comma : (w : Word) (ws : List Word) (xs : List Word) → word_eq (first_word xs) (codes ",") ≡ false → xs ≡ codes "," ∷ ws → ⊥
no_comma w ws xs e is = clash (sym e ∙ ap (λ zs. word_eq (first_word zs) (codes ",")) is)

names_from : (w v : Word) (ws vs xs ys : List Word) → word_eq (first_word xs) (codes ",") ≡ false → word_eq (first_word ys) (codes ",") ≡ false → separated (w ∷ ws) ++ xs ≡ separated (v ∷ vs) ++ ys → ((w ∷ ws) ≡ (v ∷ vs)) × (xs ≡ ys)
names_from w v [] [] xs ys one two is = (ap (λ x. x ∷ []) (ap first_word is), ap behind is)
names_from w v [] (u ∷ us) xs ys one two is = absurd (no_comma u (separated (u ∷ us) ++ ys) xs one (ap behind is))
names_from w v (u ∷ us) [] xs ys one two is = absurd (no_comma u (separated (u ∷ us) ++ xs) ys two (sym (ap behind is)))
names_from w v (a ∷ more) (b ∷ others) xs ys one two is =
    let next : ((a ∷ more) ≡ (b ∷ others)) × (xs ≡ ys) = names_from a b more others xs ys one two (ap behind (ap behind is)) in
    (ap (λ x. x ∷ a ∷ more) (ap first_word is) ∙ ap (λ zs. v ∷ zs) next.0, next.1)

names_split : (ws vs xs ys : List Word) → are_names ws ≡ true → are_names vs ≡ true → word_eq (first_word xs) (codes ",") ≡ false → word_eq (first_word ys) (codes ",") ≡ false → separated ws ++ xs ≡ separated vs ++ ys → (ws ≡ vs) × (xs ≡ ys)
names_split [] vs xs ys isw isv one two is = absurd (clash isw)
names_split (w ∷ ws) [] xs ys isw isv one two is = absurd (clash isv)
names_split (w ∷ ws) (v ∷ vs) xs ys isw isv one two is = names_from w v ws vs xs ys one two is

word_no_comma : (extends : Bool) → word_eq (if extends then codes "extends" else codes "implements") (codes ",") ≡ false
word_no_comma true = refl
word_no_comma false = refl

above_no_comma : (a : Option Above) (m : Option (List MemberRule)) → word_eq (first_word (above_words a ++ braces_words m)) (codes ",") ≡ false
above_no_comma (Some a) m = word_no_comma a.extends
above_no_comma None (Some ms) = refl
above_no_comma None None = refl

-- ---- what a class extends

abbrev tail_of : Word → Word
tail_of [] = []
tail_of (c ∷ cs) = cs

no_mark : (w name : Word) → w ≡ marked name → is_name w ≡ true → ⊥
no_mark w name is named = clash (ap is_name (sym is) ∙ named)

marks_split : (k l : Option Word) (x y : Word) (ms ns : List Word) → is_name x ≡ true → is_name y ≡ true → (mark_words k ++ x ∷ []) ++ ms ≡ (mark_words l ++ y ∷ []) ++ ns
    → (mark_slots k ++ blanks (name_wilds x) ≡ mark_slots l ++ blanks (name_wilds y)) × (ms ≡ ns)
marks_split (Some k) (Some l) x y ms ns isx isy is =
    (ap (λ w. blanks (name_wilds w) ++ blanks (name_wilds x)) (ap (λ xs. tail_of (first_word xs)) is) ∙ ap (λ w. blanks (name_wilds l) ++ blanks (name_wilds w)) (ap (λ xs. first_word (behind xs)) is), ap (λ xs. behind (behind xs)) is)
marks_split (Some k) None x y ms ns isx isy is = absurd (no_mark y k (sym (ap first_word is)) isy)
marks_split None (Some l) x y ms ns isx isy is = absurd (no_mark x l (ap first_word is) isx)
marks_split None None x y ms ns isx isy is = (ap (λ w. blanks (name_wilds w)) (ap first_word is), ap behind is)

abbrev above_word : Bool → Word
above_word extends = if extends then codes "extends" else codes "implements"

no_above : (m : Option (List MemberRule)) (extends : Bool) (ws : List Word) → braces_words m ≡ above_word extends ∷ ws → ⊥
no_above None true ws is = clash (ap (λ xs. word_eq (first_word xs) (codes "extends")) is)
no_above None false ws is = clash (ap (λ xs. word_eq (first_word xs) (codes "implements")) is)
no_above (Some ms) true ws is = clash (ap (λ xs. word_eq (first_word xs) (codes "extends")) is)
no_above (Some ms) false ws is = clash (ap (λ xs. word_eq (first_word xs) (codes "implements")) is)

above_named : (a : Above) → is_above (Some a) ≡ true → is_name a.name ≡ true
above_named a is = first_true (is_name a.name) _ is

above_split : (a b : Option Above) (m n : Option (List MemberRule)) → is_above a ≡ true → is_above b ≡ true → above_words a ++ braces_words m ≡ above_words b ++ braces_words n → (above_slots a ≡ above_slots b) × (braces_words m ≡ braces_words n)
above_split None None m n isa isb is = (refl, is)
above_split None (Some b) m n isa isb is = absurd (no_above m b.extends ((mark_words b.mark ++ b.name ∷ []) ++ braces_words n) is)
above_split (Some a) None m n isa isb is = absurd (no_above n a.extends ((mark_words a.mark ++ a.name ∷ []) ++ braces_words m) (sym is))
above_split (Some a) (Some b) m n isa isb is = marks_split a.mark b.mark a.name b.name (braces_words m) (braces_words n) (above_named a isa) (above_named b isb) (ap behind is)

-- ---- lines

abbrev is_end : Word → Bool
is_end w = word_eq w (codes ";")

access_no_end : (a : Access) → is_end (access_word a) ≡ false
access_no_end access.Public = refl
access_no_end access.Private = refl
access_no_end access.Protected = refl
access_no_end access.Static = refl
access_no_end access.Final = refl
access_no_end access.Synchronized = refl
access_no_end access.Native = refl
access_no_end access.Abstract = refl
access_no_end access.Strict = refl
access_no_end access.Volatile = refl
access_no_end access.Transient = refl
access_no_end access.Varargs = refl
access_no_end access.Bridge = refl
access_no_end access.Synthetic = refl

condition_no_end : (c : Condition) → is_member_condition c ≡ true → list_all (lacks is_end) (condition_words c) ≡ true
condition_no_end (Mark name) is = refl
condition_no_end (Has true a) is = both (not (is_end (access_word a))) true (ap not (access_no_end a)) refl
condition_no_end (Has false a) is = both (not (is_end (access_word a))) true (ap not (access_no_end a)) refl

name_no_end : (w : Word) → is_name w ≡ true → not (is_end w) ≡ true
name_no_end w is = ap not (not_named w (codes ";") (is_end w) refl is refl)

argument_named : (w : Word) → is_argument w ≡ true → is_name w ≡ true
argument_named w is = first_true (is_name w) (is_other w (codes "..." ∷ [])) is

types_no_end : (ws : List Word) → list_all is_argument ws ≡ true → list_all (lacks is_end) (separated ws) ≡ true
types_no_end [] is = refl
types_no_end (w ∷ []) is = both (not (is_end w)) true (name_no_end w (argument_named w (first_true (is_argument w) true is))) refl
types_no_end (w ∷ v ∷ vs) is = both (not (is_end w)) (list_all (lacks is_end) (separated (v ∷ vs))) (name_no_end w (argument_named w (first_true (is_argument w) (list_all is_argument (v ∷ vs)) is)))
    (types_no_end (v ∷ vs) (second_true (is_argument w) (list_all is_argument (v ∷ vs)) is))

arguments_no_end : (a : Arguments) → are_arguments a ≡ true → list_all (lacks is_end) (argument_words a) ≡ true
arguments_no_end Any is = refl
arguments_no_end (These ws) is = all_append (lacks is_end) (separated ws) (codes ")" ∷ []) (types_no_end ws is) refl

type_named : (w : Word) → is_first_type w ≡ true → is_name w ≡ true
type_named w is = first_true (is_name w) (is_other w member_words) is

what_no_end : (w : What) → is_what w ≡ true → list_all (lacks is_end) (what_words w) ≡ true
what_no_end All is = refl
what_no_end Fields is = refl
what_no_end Methods is = refl
what_no_end (Init a) is = arguments_no_end a is
what_no_end (Field kind name) is = both (not (is_end kind)) (not (is_end name) && true) (name_no_end kind (type_named kind (first_true (is_first_type kind) (is_name name) is)))
    (both (not (is_end name)) true (name_no_end name (second_true (is_first_type kind) (is_name name) is)) refl)
what_no_end (Method result name a) is =
    let two : (is_first_type result && is_name name) ≡ true = first_true (is_first_type result && is_name name) (are_arguments a) is in
    both (not (is_end result)) (not (is_end name) && list_all (lacks is_end) (argument_words a)) (name_no_end result (type_named result (first_true (is_first_type result) (is_name name) two)))
    (both (not (is_end name)) (list_all (lacks is_end) (argument_words a)) (name_no_end name (second_true (is_first_type result) (is_name name) two)) (arguments_no_end a (second_true (is_first_type result && is_name name) (are_arguments a) is)))

-- a line without its end
abbrev body : MemberRule → List Word
body m = flat_map condition_words m.conditions ++ what_words m.what

body_no_end : (m : MemberRule) → is_member_rule m ≡ true → list_all (lacks is_end) (body m) ≡ true
body_no_end m is = all_append (lacks is_end) (flat_map condition_words m.conditions) (what_words m.what) (all_each (lacks is_end) condition_words is_member_condition condition_no_end m.conditions (first_true (list_all is_member_condition m.conditions) (is_what m.what) is))
    (what_no_end m.what (second_true (list_all is_member_condition m.conditions) (is_what m.what) is))

line_shape : (m : MemberRule) (rest : List Word) → member_rule_words m ++ rest ≡ body m ++ codes ";" ∷ rest
line_shape m rest = ap (λ xs. xs ++ rest) (sym (append_assoc (flat_map condition_words m.conditions) (what_words m.what) (codes ";" ∷ []))) ∙ append_assoc (body m) (codes ";" ∷ []) rest

-- the words of conditions
abbrev is_conditional : Word → Bool
is_conditional w = begins_mark w || word_eq w (codes "!") || is_access w

access_conditional : (a : Access) → is_conditional (access_word a) ≡ true
access_conditional access.Public = refl
access_conditional access.Private = refl
access_conditional access.Protected = refl
access_conditional access.Static = refl
access_conditional access.Final = refl
access_conditional access.Synchronized = refl
access_conditional access.Native = refl
access_conditional access.Abstract = refl
access_conditional access.Strict = refl
access_conditional access.Volatile = refl
access_conditional access.Transient = refl
access_conditional access.Varargs = refl
access_conditional access.Bridge = refl
access_conditional access.Synthetic = refl

condition_conditional : (c : Condition) → is_member_condition c ≡ true → list_all is_conditional (condition_words c) ≡ true
condition_conditional (Mark name) is = refl
condition_conditional (Has true a) is = both (is_conditional (access_word a)) true (access_conditional a) refl
condition_conditional (Has false a) is = both (is_conditional (access_word a)) true (access_conditional a) refl

marked_no_name : (c : ℕ) (cs : Word) → nat_eq c 64 ≡ true → is_name (c ∷ cs) ≡ false
marked_no_name c cs e = ap (λ x. is_name (x ∷ cs)) (eqb-true c 64 e)

mark_by : (c : ℕ) (cs : Word) (b : Bool) → nat_eq c 64 ≡ b → is_name (c ∷ cs) ≡ true → b ≡ false
mark_by c cs true e is =
    let no : is_name (c ∷ cs) ≡ false = marked_no_name c cs e in
    absurd (clash (sym no ∙ is))
mark_by c cs false e is = refl

name_no_mark : (w : Word) → is_name w ≡ true → begins_mark w ≡ false
name_no_mark [] is = refl
name_no_mark (c ∷ cs) is = mark_by c cs (nat_eq c 64) refl is

three : (a b d : Bool) → a ≡ false → b ≡ false → d ≡ false → (a || b || d) ≡ false
three false false false one two more = refl
three false false true one two more = more
three false true d one two more = two
three true b d one two more = one

type_plain : (w : Word) → is_first_type w ≡ true → is_conditional w ≡ false
type_plain w is = three (begins_mark w) (word_eq w (codes "!")) (is_access w) (name_no_mark w (type_named w is)) (not_named w (codes "!") (word_eq w (codes "!")) refl (type_named w is) refl)
    (not_true (is_access w) (second_true (is_name w) (is_other w member_words) is))

what_plain : (w : What) → is_what w ≡ true → is_conditional (first_word (what_words w)) ≡ false
what_plain All is = refl
what_plain Fields is = refl
what_plain Methods is = refl
what_plain (Init a) is = refl
what_plain (Field kind name) is = type_plain kind (first_true (is_first_type kind) (is_name name) is)
what_plain (Method result name a) is = type_plain result (first_true (is_first_type result) (is_name name) (first_true (is_first_type result && is_name name) (are_arguments a) is))

-- ---- wildcards of what a line names

abbrev argument_wild : Word → ℕ
argument_wild w = if is_argument w then type_wilds w else 0

abbrev arguments_wild : List Word → ℕ
arguments_wild [] = 0
arguments_wild (w ∷ ws) = argument_wild w + arguments_wild ws

abbrev wilds_in : List Word → ℕ
wilds_in [] = 0
wilds_in (w ∷ []) = 0
wilds_in (w ∷ v ∷ ws) = if word_eq v (codes "(") then arguments_wild ws else type_wilds w + (name_wilds v + arguments_wild ws)

plus_none : (n : ℕ) → n + 0 ≡ n
plus_none n = omega arith

none_plus : (n : ℕ) → 0 + n ≡ n
none_plus n = omega arith

one_wild : (w : Word) → is_argument w ≡ true → argument_wild w ≡ type_wilds w
one_wild w is = ap (λ b. if b then type_wilds w else 0) is

types_wild : (ws : List Word) → list_all is_argument ws ≡ true → arguments_wild (separated ws ++ codes ")" ∷ []) ≡ types_wilds ws
types_wild [] is = refl
types_wild (w ∷ []) is = ap (λ n. n + 0) (one_wild w (first_true (is_argument w) true is))
types_wild (w ∷ v ∷ vs) is =
    let one : argument_wild w ≡ type_wilds w = one_wild w (first_true (is_argument w) (list_all is_argument (v ∷ vs)) is) in
    let more : arguments_wild (separated (v ∷ vs) ++ codes ")" ∷ []) ≡ types_wilds (v ∷ vs) = types_wild (v ∷ vs) (second_true (is_argument w) (list_all is_argument (v ∷ vs)) is) in
    let rest : ℕ = arguments_wild (separated (v ∷ vs) ++ codes ")" ∷ []) in
    ap (λ n. n + (0 + rest)) one ∙ ap (λ n. type_wilds w + n) (none_plus rest ∙ more)

abbrev inner : Arguments → List Word
inner Any = codes "..." ∷ codes ")" ∷ []
inner (These ws) = separated ws ++ codes ")" ∷ []

inner_words : (a : Arguments) → argument_words a ≡ codes "(" ∷ inner a
inner_words Any = refl
inner_words (These ws) = refl

inner_wild : (a : Arguments) → are_arguments a ≡ true → arguments_wild (inner a) ≡ argument_wilds a
inner_wild Any is = refl
inner_wild (These ws) is = types_wild ws is

named_wild : (w v : Word) (ws : List Word) → is_name v ≡ true → wilds_in (w ∷ v ∷ ws) ≡ type_wilds w + (name_wilds v + arguments_wild ws)
named_wild w v ws is = ap (λ b. if b then arguments_wild ws else type_wilds w + (name_wilds v + arguments_wild ws)) (not_named v (codes "(") (word_eq v (codes "(")) refl is refl)

what_wild : (w : What) → is_what w ≡ true → wilds_in (what_words w) ≡ what_wilds w
what_wild All is = refl
what_wild Fields is = refl
what_wild Methods is = refl
what_wild (Init a) is = ap (λ xs. wilds_in (codes "<init>" ∷ xs)) (inner_words a) ∙ inner_wild a is
what_wild (Field kind name) is = named_wild kind name [] (second_true (is_first_type kind) (is_name name) is) ∙ ap (λ n. type_wilds kind + n) (plus_none (name_wilds name))
what_wild (Method result name a) is =
    let named : is_name name ≡ true = second_true (is_first_type result) (is_name name) (first_true (is_first_type result && is_name name) (are_arguments a) is) in
    named_wild result name (argument_words a) named ∙ ap (λ n. type_wilds result + (name_wilds name + n)) (ap arguments_wild (inner_words a) ∙ none_plus (arguments_wild (inner a)) ∙ inner_wild a (second_true (is_first_type result && is_name name) (are_arguments a) is))

-- ---- lines that are the same

same_line : (m n : MemberRule) → is_member_rule m ≡ true → is_member_rule n ≡ true → body m ≡ body n → line_slots m ≡ line_slots n
same_line m n ism isn is =
    let whatm : is_what m.what ≡ true = second_true (list_all is_member_condition m.conditions) (is_what m.what) ism in
    let whatn : is_what n.what ≡ true = second_true (list_all is_member_condition n.conditions) (is_what n.what) isn in
    let two : (flat_map condition_words m.conditions ≡ flat_map condition_words n.conditions) × (what_words m.what ≡ what_words n.what) = front_split is_conditional (flat_map condition_words m.conditions) (flat_map condition_words n.conditions) (what_words m.what) (what_words n.what)
    (all_each is_conditional condition_words is_member_condition condition_conditional m.conditions (first_true (list_all is_member_condition m.conditions) (is_what m.what) ism))
    (all_each is_conditional condition_words is_member_condition condition_conditional n.conditions (first_true (list_all is_member_condition n.conditions) (is_what n.what) isn))
    (what_plain m.what whatm) (what_plain n.what whatn) is in
    let ahead : flat_map condition_slots m.conditions ≡ flat_map condition_slots n.conditions = sym (conditions_slot m.conditions) ∙ ap (flat_map mark_slot) two.0 ∙ conditions_slot n.conditions in
    let wilds : what_wilds m.what ≡ what_wilds n.what = sym (what_wild m.what whatm) ∙ ap wilds_in two.1 ∙ what_wild n.what whatn in
    ap (λ xs. xs ++ numbered (λ i. Line i) 0 (what_wilds m.what)) ahead ∙ ap (λ k. flat_map condition_slots n.conditions ++ numbered (λ i. Line i) 0 k) wilds

abbrev lines : List MemberRule → List Word
lines ms = flat_map member_rule_words ms

no_line : (m : MemberRule) (ms : List MemberRule) → [] ≡ lines (m ∷ ms) → ⊥
no_line m ms is = no_words (body m) (lines ms) (codes ";") (is ∙ line_shape m (lines ms))

line_split : (m n : MemberRule) (ms ns : List MemberRule) → is_member_rule m ≡ true → is_member_rule n ≡ true → lines (m ∷ ms) ≡ lines (n ∷ ns) → (body m ≡ body n) × (lines ms ≡ lines ns)
line_split m n ms ns ism isn is = first_split is_end (body m) (body n) (lines ms) (lines ns) (codes ";") (codes ";") (body_no_end m ism) (body_no_end n isn) refl refl (sym (line_shape m (lines ms)) ∙ is ∙ line_shape n (lines ns))

lines_by : (m n : MemberRule) (ms ns : List MemberRule) → line_slots m ≡ line_slots n → lines ms ≡ lines ns → lines_slots (m ∷ ms) ≡ lines_slots (n ∷ ns)
lines_by m n [] [] same is = same
lines_by m n [] (k ∷ ks) same is = absurd (no_line k ks is)
lines_by m n (k ∷ ks) [] same is = absurd (no_line k ks (sym is))
lines_by m n (k ∷ ks) (l ∷ ls) same is = refl

same_lines : (ms ns : List MemberRule) → list_all is_member_rule ms ≡ true → list_all is_member_rule ns ≡ true → lines ms ≡ lines ns → lines_slots ms ≡ lines_slots ns
same_lines [] [] ism isn is = refl
same_lines [] (n ∷ ns) ism isn is = absurd (no_line n ns is)
same_lines (m ∷ ms) [] ism isn is = absurd (no_line m ms (sym is))
same_lines (m ∷ ms) (n ∷ ns) ism isn is =
    let one : is_member_rule m ≡ true = first_true (is_member_rule m) (list_all is_member_rule ms) ism in
    let two : is_member_rule n ≡ true = first_true (is_member_rule n) (list_all is_member_rule ns) isn in
    let split : (body m ≡ body n) × (lines ms ≡ lines ns) = line_split m n ms ns one two is in
    lines_by m n ms ns (same_line m n one two split.0) split.1

no_braces : (ms : List MemberRule) → [] ≡ braces ms → ⊥
no_braces ms is = clash (ap (λ xs. word_eq (first_word xs) (codes "{")) is)

same_members : (m n : Option (List MemberRule)) → are_members m ≡ true → are_members n ≡ true → braces_words m ≡ braces_words n → members_slots m ≡ members_slots n
same_members None None ism isn is = refl
same_members None (Some ns) ism isn is = absurd (no_braces ns is)
same_members (Some ms) None ism isn is = absurd (no_braces ms (sym is))
same_members (Some ms) (Some ns) ism isn is = same_lines ms ns ism isn (append_cancel_right (lines ms) (lines ns) (codes "}" ∷ []) (ap behind is))

-- ---- a class specification

abbrev rest_of : ClassRule → List Word
rest_of c = separated c.names ++ (above_words c.above ++ braces_words c.members)

class_shape : (c : ClassRule) → class_rule_words c ≡ head c.conditions c.negated ++ kind_word c.kind ∷ rest_of c
class_shape c = sym (append_assoc (flat_map condition_words c.conditions) (bang c.negated) (kind_word c.kind ∷ rest_of c))

record IsWritten (c : ClassRule) : Type 0 where
  conditions : list_all is_class_condition c.conditions ≡ true
  names : are_names c.names ≡ true
  above : is_above c.above ≡ true
  members : are_members c.members ≡ true

written : (c : ClassRule) → is_class_rule c ≡ true → IsWritten c
written c is =
    let three_of : (list_all is_class_condition c.conditions && are_names c.names && is_above c.above) ≡ true = first_true (list_all is_class_condition c.conditions && are_names c.names && is_above c.above) (are_members c.members) is in
    let two_of : (list_all is_class_condition c.conditions && are_names c.names) ≡ true = first_true (list_all is_class_condition c.conditions && are_names c.names) (is_above c.above) three_of in
    record {
      conditions = first_true (list_all is_class_condition c.conditions) (are_names c.names) two_of;
      names = second_true (list_all is_class_condition c.conditions) (are_names c.names) two_of;
      above = second_true (list_all is_class_condition c.conditions && are_names c.names) (is_above c.above) three_of;
      members = second_true (list_all is_class_condition c.conditions && are_names c.names && is_above c.above) (are_members c.members) is;
    }

same_slots : (c d : ClassRule) → is_class_rule c ≡ true → is_class_rule d ≡ true → class_rule_words c ≡ class_rule_words d → slots c ≡ slots d
same_slots c d isc isd same =
    let wc : IsWritten c = written c isc in
    let wd : IsWritten d = written d isd in
    let one : (head c.conditions c.negated ≡ head d.conditions d.negated) × (rest_of c ≡ rest_of d) = first_split is_kind (head c.conditions c.negated) (head d.conditions d.negated) (rest_of c) (rest_of d) (kind_word c.kind) (kind_word d.kind)
    (head_no_kind c.conditions c.negated wc.conditions) (head_no_kind d.conditions d.negated wd.conditions) (kind_is c.kind) (kind_is d.kind) (sym (class_shape c) ∙ same ∙ class_shape d) in
    let conditions : flat_map condition_slots c.conditions ≡ flat_map condition_slots d.conditions = sym (head_slots c.conditions c.negated) ∙ ap (flat_map mark_slot) one.0 ∙ head_slots d.conditions d.negated in
    let two : (c.names ≡ d.names) × (above_words c.above ++ braces_words c.members ≡ above_words d.above ++ braces_words d.members) =
    names_split c.names d.names (above_words c.above ++ braces_words c.members) (above_words d.above ++ braces_words d.members) wc.names wd.names (above_no_comma c.above c.members) (above_no_comma d.above d.members) one.1 in
    let more : (above_slots c.above ≡ above_slots d.above) × (braces_words c.members ≡ braces_words d.members) = above_split c.above d.above c.members d.members wc.above wd.above two.1 in
    let members : members_slots c.members ≡ members_slots d.members = same_members c.members d.members wc.members wd.members more.1 in
    ap (λ xs. xs ++ (name_slots c.names ++ (above_slots c.above ++ members_slots c.members))) conditions
    ∙ ap (λ ws. flat_map condition_slots d.conditions ++ (name_slots ws ++ (above_slots c.above ++ members_slots c.members))) two.0
    ∙ ap (λ xs. flat_map condition_slots d.conditions ++ (name_slots d.names ++ (xs ++ members_slots c.members))) more.0
    ∙ ap (λ xs. flat_map condition_slots d.conditions ++ (name_slots d.names ++ (above_slots d.above ++ xs))) members

-- ---- references

abbrev good_in : List Source → Word → Bool
good_in ss w = list_all (is_good_in ss) (parts_of w)

one_good : (ss : List Source) (front rest : List Word) (w : Word) → list_all (good_in ss) (front ++ w ∷ rest) ≡ true → list_all (good_in ss) (w ∷ []) ≡ true
one_good ss [] rest w is = both (good_in ss w) true (first_true (good_in ss w) (list_all (good_in ss) rest) is) refl
one_good ss (v ∷ vs) rest w is = one_good ss vs rest w (second_true (good_in ss v) (list_all (good_in ss) (vs ++ w ∷ rest)) is)

-- A word among good ones is good.
pub same_good : (c d : ClassRule) (front rest : List Word) (w : Word) → is_class_rule c ≡ true → is_class_rule d ≡ true → class_rule_words c ≡ class_rule_words d → are_good c (front ++ w ∷ rest) ≡ true → are_good d (w ∷ []) ≡ true
same_good c d front rest w isc isd same is = ap (λ ss. list_all (good_in ss) (w ∷ [])) (sym (same_slots c d isc isd same)) ∙ one_good (slots c) front rest w is
