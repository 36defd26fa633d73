-- What the wildcards of types and members matched.
use Rattle.std.proofs.Common.{◌≡◌, ◌+◌, ℕ, zero, suc, Bool, true, false, List, [], ◌∷◌, ◌++◌, map, drop, get_or, length, codes, refl, sym, ap, subst, ◌∙◌, arith, length-append}
use Rattle.std.specs.Cmp.Lexicographic.{bytes_decides}
use Rattle.std.proofs.lemmas.List.{append_assoc}
use Rattle.dalvik_defs.specs.Names.{Text, item_of}
use Rattle.dalvik_defs.specs.declared.names.Signature.{Signature}
use Rattle.rule_defs.specs.Patterns.{inner}
use Rattle.rule_text.specs.declared.pattern.Named.TheVariants as named
use Rattle.rule_text.specs.declared.pattern.NamePattern.{NamePattern}
use Rattle.rule_text.specs.declared.rules.Arguments.{Arguments as ReadArguments}
use Rattle.rule_text.specs.declared.rules.ItemPattern.{ItemPattern}
use Rattle.rule_text.specs.declared.rules.ItemPattern.TheVariants as item
use Rattle.rule_text.specs.declared.rules.TypePattern.{TypePattern}
use Rattle.rule_text.specs.declared.rules.What.{What as ReadWhat}
use Rattle.rule_text.specs.declared.rules.What.TheVariants as what
use Rattle.rule_text.specs.Pieces.{is_primitive_word, ends_in_brackets}
use Rattle.rule_text.specs.Related.{AreEach, IsPatternOf, IsItemOf, IsTypeOf, AreArgumentsOf, IsWhatOf, OfInit, OfField, OfMethod, brackets}
use Rattle.rule_text.specs.Rules.{Arguments, What}
use Rattle.rule_text.specs.Spelling.{word_eq}
use Rattle.rule_text.specs.Tokens.{Word}
use Rattle.if_text.specs.Wildcards.{bare}
use Rattle.if_text.proofs.Counts.{bare_of}
use Rattle.if_rules.specs.Matched.{java, name_texts, item_texts, depth_of, type_texts, types_texts, argument_texts, method_texts, field_texts, class_texts}

-- ---- items

word_is : (w q : Word) → word_eq w q ≡ true → w ≡ q
word_is w q e = (bytes_decides w q).0 e

clash : true ≡ false → ⊥
clash e = cc

other_by : (w : Word) (t : Text) (out : List Text) (b c d : Bool) → word_eq w (codes "***") ≡ b → word_eq w (codes "%") ≡ c → is_primitive_word w ≡ d → (w ≡ codes "***" → ⊥) → (w ≡ codes "%" → ⊥) → (d ≡ true → out ≡ [])
    → (d ≡ false → out ≡ name_texts named.Class w (inner (item_of t))) → out ≡ item_texts w t
other_by w t out true c d eb ec ed one two letter name = absurd (one (word_is w (codes "***") eb))
other_by w t out false true d eb ec ed one two letter name = absurd (two (word_is w (codes "%") ec))
other_by w t out false false true eb ec ed one two letter name = rw (eb, ec, ed) (letter refl)
other_by w t out false false false eb ec ed one two letter name = rw (eb, ec, ed) (name refl)

-- with what is said of the texts of each kind of item it is said of the item's
pub any_item : (P : List Text → Type 0) (x : ItemPattern) (w : Word) (t : Text) → x ≡ item.Any → IsItemOf x w → P (java t ∷ []) → P (item_texts w t)
any_item P x w t e is says = subst P (ap (λ w. item_texts w t) (sym (subst (λ x. IsItemOf x w) e is))) says

pub primitive_item : (P : List Text → Type 0) (x : ItemPattern) (w : Word) (t : Text) → x ≡ item.Primitive → IsItemOf x w → P (java t ∷ []) → P (item_texts w t)
primitive_item P x w t e is says = subst P (ap (λ w. item_texts w t) (sym (subst (λ x. IsItemOf x w) e is))) says

item_named : (p : NamePattern) (w : Word) (t : Text) → IsItemOf (item.Class p) w → name_texts named.Class w (inner (item_of t)) ≡ item_texts w t
item_named p w t is =
    other_by w t (name_texts named.Class w (inner (item_of t))) (word_eq w (codes "***")) (word_eq w (codes "%")) false refl refl is.1 is.2 is.3 (λ e. absurd (clash (sym e))) (λ e. refl)

pub class_item : (P : List Text → Type 0) (x : ItemPattern) (p : NamePattern) (w : Word) (t : Text) → x ≡ item.Class p → IsItemOf x w → (IsPatternOf p w → P (name_texts named.Class w (inner (item_of t)))) → P (item_texts w t)
class_item P x p w t e is says =
    let here : IsItemOf (item.Class p) w = subst (λ x. IsItemOf x w) e is in
    subst P (item_named p w t here) (says here.0)

-- ---- types

length_brackets : (n : ℕ) → length (brackets n) ≡ n + n
length_brackets zero = refl
length_brackets (suc n) = let more = length_brackets n in omega (arith, more)

depth_by : (front : Word) (n : ℕ) → ends_in_brackets front ≡ false → depth_of (front ++ brackets n) ≡ n
depth_by front n last =
    let one : length (front ++ brackets n) ≡ length front + length (brackets n) = length-append front (brackets n) in
    let two : length (bare (front ++ brackets n)) ≡ length front = ap length (bare_of front n last) in
    omega (arith, one, two, length_brackets n)

pub of_type : (P : List Text → Type 0) (k : TypePattern) (w : Word) (t : Text) → IsTypeOf k w → ((v : Word) → IsItemOf k.item v → P (item_texts v (drop k.depth t))) → P (type_texts w t)
of_type P k w t is says =
    let bare_is : is.front ≡ bare w = sym (bare_of is.front k.depth is.last) ∙ ap bare is.word in
    let depth_is : k.depth ≡ depth_of w = sym (depth_by is.front k.depth is.last) ∙ ap depth_of is.word in
    subst P (ap (λ v. item_texts v (drop k.depth t)) bare_is ∙ ap (λ n. item_texts (bare w) (drop n t)) depth_is) (says is.front is.item)

-- ---- types of arguments

-- what is left to add is what belongs to the rest
pub record LeftTypes (f : ℕ → Text) (patterns : List TypePattern) (kinds : List ℕ) (out init : List Text) (ws : List Word) (all : List ℕ) : Type 0 where
  pub left : List Word
  pub are : AreEach IsTypeOf patterns left
  pub is : out ++ types_texts left (map f kinds) ≡ init ++ types_texts ws (map f all)

more_by : (f : ℕ → Text) (t : TypePattern) (ts : List TypePattern) (k : ℕ) (ks : List ℕ) (out new init : List Text) (ws left : List Word) (all : List ℕ) → ((w : Word) → IsTypeOf t w → new ≡ out ++ type_texts w (f k))
    → AreEach IsTypeOf (t ∷ ts) left → out ++ types_texts left (f k ∷ map f ks) ≡ init ++ types_texts ws (map f all) → LeftTypes f ts ks new init ws all
more_by f t ts k ks out new init ws [] all more are is = absurd are
more_by f t ts k ks out new init ws (w ∷ left) all more are is =
    record { left = left; are = are.1; is = ap (λ x. x ++ types_texts left (map f ks)) (more w are.0) ∙ append_assoc out (type_texts w (f k)) (types_texts left (map f ks)) ∙ is }

pub types_more : (f : ℕ → Text) (t : TypePattern) (now ts : List TypePattern) (k : ℕ) (there ks : List ℕ) (out new init : List Text) (ws : List Word) (all : List ℕ) → now ≡ t ∷ ts → there ≡ k ∷ ks
    → ((w : Word) → IsTypeOf t w → new ≡ out ++ type_texts w (f k)) → LeftTypes f now there out init ws all → LeftTypes f ts ks new init ws all
types_more f t now ts k there ks out new init ws all is at more l =
    more_by f t ts k ks out new init ws l.left all more (subst (λ (ps : List TypePattern). AreEach IsTypeOf ps l.left) is l.are) (subst (λ xs. out ++ types_texts l.left (map f xs) ≡ init ++ types_texts ws (map f all)) at l.is)

-- ---- members

init_by : (P : List Text → Type 0) (read : ReadArguments) (w : What) (name : Text) (s : Signature) → IsWhatOf (what.Init read) w → ((a : Arguments) → AreArgumentsOf read a → P (argument_texts a s.parameters)) → P (method_texts w name s)
init_by P _ _ name s (OfInit read a are) says = says a are

pub init_texts : (P : List Text → Type 0) (x : ReadWhat) (read : ReadArguments) (w : What) (name : Text) (s : Signature) → x ≡ what.Init read → IsWhatOf x w → ((a : Arguments) → AreArgumentsOf read a → P (argument_texts a s.parameters)) → P (method_texts w name s)
init_texts P x read w name s e is says = init_by P read w name s (subst (λ x. IsWhatOf x w) e is) says

method_by : (P : List Text → Type 0) (t : TypePattern) (p : NamePattern) (read : ReadArguments) (w : What) (name : Text) (s : Signature) → IsWhatOf (what.Method t p read) w
    → ((k n : Word) (a : Arguments) → IsTypeOf t k → IsPatternOf p n → AreArgumentsOf read a → P (type_texts k s.result ++ (name_texts named.Member n name ++ argument_texts a s.parameters))) → P (method_texts w name s)
method_by P _ _ _ _ name s (OfMethod t p read k n a of is are) says = says k n a of is are

pub spelled_method : (P : List Text → Type 0) (x : ReadWhat) (t : TypePattern) (p : NamePattern) (read : ReadArguments) (w : What) (name : Text) (s : Signature) → x ≡ what.Method t p read → IsWhatOf x w
    → ((k n : Word) (a : Arguments) → IsTypeOf t k → IsPatternOf p n → AreArgumentsOf read a → P (type_texts k s.result ++ (name_texts named.Member n name ++ argument_texts a s.parameters))) → P (method_texts w name s)
spelled_method P x t p read w name s e is says = method_by P t p read w name s (subst (λ x. IsWhatOf x w) e is) says

field_by : (P : List Text → Type 0) (t : TypePattern) (p : NamePattern) (w : What) (name kind : Text) → IsWhatOf (what.Field t p) w
    → ((k n : Word) → IsTypeOf t k → IsPatternOf p n → P (type_texts k kind ++ name_texts named.Member n name)) → P (field_texts w name kind)
field_by P _ _ _ name kind (OfField t p k n of is) says = says k n of is

pub spelled_field : (P : List Text → Type 0) (x : ReadWhat) (t : TypePattern) (p : NamePattern) (w : What) (name kind : Text) → x ≡ what.Field t p → IsWhatOf x w
    → ((k n : Word) → IsTypeOf t k → IsPatternOf p n → P (type_texts k kind ++ name_texts named.Member n name)) → P (field_texts w name kind)
spelled_field P x t p w name kind e is says = field_by P t p w name kind (subst (λ x. IsWhatOf x w) e is) says

-- ---- the name of a class

-- with what is said of the texts of the only name it is said of those of the class
pub only_name : (P : List Text → Type 0) (names : List NamePattern) (n : NamePattern) (ws : List Word) (t : Text) → length names ≡ 1 → n ≡ get_or names 0 n → AreEach IsPatternOf names ws
    → ((w : Word) → IsPatternOf n w → P (name_texts named.Class w (inner (item_of t)))) → P (class_texts ws t)
only_name P [] n ws t size is are says = absurd (omega (arith, size))
only_name P (x ∷ []) n [] t size is are says = absurd are
only_name P (x ∷ []) n (w ∷ []) t size is are says = says w (subst (λ y. IsPatternOf y w) (sym is) are.0)
only_name P (x ∷ []) n (w ∷ v ∷ ws) t size is are says = absurd are.1
only_name P (x ∷ y ∷ names) n ws t size is are says = absurd (omega (arith, size))

pub other_names : (names : List NamePattern) (ws : List Word) (t : Text) → (length names ≡ 1 → ⊥) → AreEach IsPatternOf names ws → [] ≡ class_texts ws t
other_names names [] t many are = refl
other_names [] (w ∷ []) t many are = absurd are
other_names (n ∷ []) (w ∷ []) t many are = absurd (many refl)
other_names (n ∷ m ∷ names) (w ∷ []) t many are = absurd are.1
other_names names (w ∷ v ∷ ws) t many are = refl

-- ---- texts behind texts

pub both_added : (old mid new a b : List Text) → mid ≡ old ++ a → new ≡ mid ++ b → new ≡ old ++ (a ++ b)
both_added old mid new a b first next = next ∙ ap (λ x. x ++ b) first ∙ append_assoc old a b

pub three_added : (old mid new a b c : List Text) → mid ≡ old ++ (a ++ b) → new ≡ mid ++ c → new ≡ old ++ (a ++ (b ++ c))
three_added old mid new a b c first next = both_added old mid new (a ++ b) c first next ∙ ap (λ x. old ++ x) (append_assoc a b c)
