-- What may follow each place of a text, and that a word that leads on in a line of members may stand before what follows.
use Rattle.std.proofs.Common.{◌≡◌, inl, inr, ◌⊎◌, Bool, true, false, not, ◌&&◌, ◌||◌, List, [], ◌∷◌, ◌++◌, map, Option, Some, None, refl, sym, ap, subst, ◌∙◌, codes, nat_eq, eqb-true}
use Rattle.std.specs.List.{list_all, list_any, flat_map}
use Rattle.std.proofs.lemmas.List.{append_assoc}
use Rattle.std.specs.Cmp.Lexicographic.{bytes_decides}
use Rattle.rule_text.specs.Tokens.{Word}
use Rattle.rule_text.specs.Rules.{Condition, Mark, Has, Arguments, Any, These, What, All, Fields, Methods, Init, Field, Method, MemberRule, Above}
use Rattle.rule_text.specs.Spelling.{word_eq, is_name, is_argument, is_first_type, access_word, condition_words, is_member_condition, is_plain_condition, separated, are_arguments, argument_words, is_what, is_assumed_what, what_words, member_rule_words, marked, bang, kind_word, modifier_word, modifier_words, begins_option, is_class_condition, is_above, above_words, are_members, braces_words}
use Rattle.rule_text.specs.Places.{Place, Between, InWords, BehindKeep, BehindComma, InHead, BehindBang, BeforeName, BehindName, BeforeClass, BehindAbove, BehindMark, BehindAncestor, is_class_access, BeforeArguments, InArguments, BehindDots, BeforeArgument, BehindArgument, AtEnd, InLine, BehindNot, BehindStar, BehindType, BehindMember, BeforeBrace, InBraces, next_place, from_argument, from_line, from_field, from_keep_line, leads, or_else, is_access, is_mark}
use Rattle.rule_text.specs.Faults.{AreRules}
use Rattle.rule_text.specs.declared.rules.Access.{Access}
use Rattle.rule_text.specs.declared.rules.Access.TheVariants as access
use Rattle.rule_text.specs.declared.rules.ClassKind.{ClassKind}
use Rattle.rule_text.specs.declared.rules.Modifier.{Modifier}
use Rattle.rule_text.proofs.PlaceLemmas.{clash, first_true, second_true, line_test}
use Rattle.rule_text.proofs.RefusalLemmas.{place_or}

-- ---- which test a word passed

pub joined : (a b : Bool) → a ≡ true → b ≡ true → (a && b) ≡ true
joined true true ea eb = refl
joined true false ea eb = eb
joined false b ea eb = ea

pub led : (b : Bool) (p q : Place) (o : Option Place) → leads b p o ≡ Some q → ((b ≡ true) × (p ≡ q)) ⊎ ((b ≡ false) × (o ≡ Some q))
led true p q o e = inl (refl, ap (place_or p) e)
led false p q o e = inr (refl, e)

pub led_either : (o more : Option Place) (q : Place) → or_else o more ≡ Some q → (o ≡ Some q) ⊎ (more ≡ Some q)
led_either (Some p) more q e = inl e
led_either None more q e = inr e

pub led_last : (b : Bool) (p q : Place) → leads b p None ≡ Some q → (b ≡ true) × (p ≡ q)
led_last true p q e = (refl, ap (place_or p) e)
led_last false p q e = cc

pub word_is : (w q : Word) → word_eq w q ≡ true → q ≡ w
word_is w q e = sym ((bytes_decides w q).0 e)

pub any_by : {K : Type 0} (spell : K → Word) (w : Word) (n : K) (ns : List K) (b : Bool) → word_eq w (spell n) ≡ b → list_any (word_eq w) (map spell (n ∷ ns)) ≡ true
    → (list_any (word_eq w) (map spell ns) ≡ true → (name : K) × (spell name ≡ w)) → (name : K) × (spell name ≡ w)
any_by spell w n ns true is e more = (n, word_is w (spell n) is)
any_by spell w n ns false is e more = more (ap (λ b. b || list_any (word_eq w) (map spell ns)) (sym is) ∙ e)

pub any_name : {K : Type 0} (spell : K → Word) (w : Word) (names : List K) → list_any (word_eq w) (map spell names) ≡ true → (name : K) × (spell name ≡ w)
any_name spell w [] e = absurd (clash e)
any_name spell w (n ∷ ns) e = any_by spell w n ns (word_eq w (spell n)) refl e (any_name spell w ns)

pub any_access : (w : Word) → is_access w ≡ true → (name : Access) × (access_word name ≡ w)
any_access w e = any_name access_word w (
    access.Public ∷ access.Final ∷ access.Abstract ∷ access.Private ∷ access.Protected ∷ access.Static ∷ access.Synchronized ∷ access.Native ∷ access.Strict ∷ access.Volatile ∷ access.Transient
    ∷ access.Varargs ∷ access.Bridge ∷ access.Synthetic ∷ []
    ) e

-- ---- what may follow in lines of members

abbrev pub condition_test : Bool → Condition → Bool
condition_test true = is_plain_condition
condition_test false = is_member_condition

abbrev pub what_test : Bool → What → Bool
what_test true = is_assumed_what
what_test false = is_what

pub record FitsBraces (a : Bool) (tail : List Word) : Type 0 where
  pub lines : List MemberRule
  pub rest : List Word
  pub written : list_all (line_test a) lines ≡ true
  pub split : tail ≡ flat_map member_rule_words lines ++ (codes "}" ∷ rest)
  pub rules : AreRules rest

pub record FitsLine (a : Bool) (tail : List Word) : Type 0 where
  pub conditions : List Condition
  pub what : What
  pub rest : List Word
  pub tested : list_all (condition_test a) conditions ≡ true
  pub named : what_test a what ≡ true
  pub split : tail ≡ flat_map condition_words conditions ++ (what_words what ++ (codes ";" ∷ rest))
  pub braces : FitsBraces a rest

pub record FitsEnd (a : Bool) (tail : List Word) : Type 0 where
  pub rest : List Word
  pub split : tail ≡ codes ";" ∷ rest
  pub braces : FitsBraces a rest

pub record FitsDots (a : Bool) (tail : List Word) : Type 0 where
  pub rest : List Word
  pub split : tail ≡ codes ")" ∷ rest
  pub end : FitsEnd a rest

pub record FitsArguments (a : Bool) (tail : List Word) : Type 0 where
  pub arguments : Arguments
  pub rest : List Word
  pub written : are_arguments arguments ≡ true
  pub split : tail ≡ argument_words arguments ++ rest
  pub end : FitsEnd a rest

pub record FitsTypes (a : Bool) (tail : List Word) : Type 0 where
  pub first : Word
  pub types : List Word
  pub rest : List Word
  pub written : list_all is_argument (first ∷ types) ≡ true
  pub split : tail ≡ separated (first ∷ types) ++ (codes ")" ∷ rest)
  pub end : FitsEnd a rest

pub record FitsComma (a : Bool) (tail : List Word) : Type 0 where
  pub rest : List Word
  pub split : tail ≡ codes "," ∷ rest
  pub types : FitsTypes a rest

pub record FitsAny (a : Bool) (tail : List Word) : Type 0 where
  pub rest : List Word
  pub split : tail ≡ codes "..." ∷ rest
  pub dots : FitsDots a rest

abbrev pub FitsMember : Bool → List Word → Type 0
FitsMember a tail = FitsArguments a tail ⊎ ((a ≡ false) × FitsEnd a tail)

pub record FitsName (a : Bool) (tail : List Word) : Type 0 where
  pub name : Word
  pub rest : List Word
  pub named : is_name name ≡ true
  pub split : tail ≡ name ∷ rest
  pub member : FitsMember a rest

pub record FitsNot (a : Bool) (tail : List Word) : Type 0 where
  pub access : Access
  pub rest : List Word
  pub split : tail ≡ access_word access ∷ rest
  pub line : FitsLine a rest

pub record FitsOpen (a : Bool) (tail : List Word) : Type 0 where
  pub rest : List Word
  pub split : tail ≡ codes "{" ∷ rest
  pub braces : FitsBraces a rest

-- ---- what may follow in class rules and options

pub record FitsMembers (tail : List Word) : Type 0 where
  pub members : Option (List MemberRule)
  pub rest : List Word
  pub written : are_members members ≡ true
  pub split : tail ≡ braces_words members ++ rest
  pub rules : AreRules rest

pub record FitsAbove (tail : List Word) : Type 0 where
  pub above : Option Above
  pub rest : List Word
  pub written : is_above above ≡ true
  pub split : tail ≡ above_words above ++ rest
  pub members : FitsMembers rest

abbrev pub FitsBehind : Bool → List Word → Type 0
FitsBehind true tail = FitsOpen true tail
FitsBehind false tail = FitsAbove tail

pub record FitsNames (a : Bool) (tail : List Word) : Type 0 where
  pub first : Word
  pub names : List Word
  pub rest : List Word
  pub written : list_all is_name (first ∷ names) ≡ true
  pub split : tail ≡ separated (first ∷ names) ++ rest
  pub behind : FitsBehind a rest

pub record FitsMore (a : Bool) (tail : List Word) : Type 0 where
  pub rest : List Word
  pub split : tail ≡ codes "," ∷ rest
  pub names : FitsNames a rest

pub record FitsAncestor (tail : List Word) : Type 0 where
  pub name : Word
  pub rest : List Word
  pub named : is_name name ≡ true
  pub split : tail ≡ name ∷ rest
  pub members : FitsMembers rest

pub record FitsMarked (tail : List Word) : Type 0 where
  pub mark : Word
  pub rest : List Word
  pub named : is_name mark ≡ true
  pub split : tail ≡ marked mark ∷ rest
  pub ancestor : FitsAncestor rest

pub record FitsHead (tail : List Word) : Type 0 where
  pub conditions : List Condition
  pub negated : Bool
  pub kind : ClassKind
  pub rest : List Word
  pub written : list_all is_class_condition conditions ≡ true
  pub split : tail ≡ flat_map condition_words conditions ++ (bang negated ++ (kind_word kind ∷ rest))
  pub names : FitsNames false rest

pub record FitsNotAccess (tail : List Word) : Type 0 where
  pub access : Access
  pub rest : List Word
  pub written : is_class_access (access_word access) ≡ true
  pub split : tail ≡ access_word access ∷ rest
  pub head : FitsHead rest

pub record FitsNotKind (tail : List Word) : Type 0 where
  pub kind : ClassKind
  pub rest : List Word
  pub split : tail ≡ kind_word kind ∷ rest
  pub names : FitsNames false rest

pub record FitsKeep (tail : List Word) : Type 0 where
  pub modifiers : List Modifier
  pub rest : List Word
  pub split : tail ≡ modifier_words modifiers ++ rest
  pub head : FitsHead rest

pub record FitsModifier (tail : List Word) : Type 0 where
  pub modifier : Modifier
  pub rest : List Word
  pub split : tail ≡ modifier_word modifier ∷ rest
  pub keep : FitsKeep rest

pub record FitsClass (tail : List Word) : Type 0 where
  pub rest : List Word
  pub split : tail ≡ codes "class" ∷ rest
  pub names : FitsNames true rest

pub record FitsWords (tail : List Word) : Type 0 where
  pub words : List Word
  pub rest : List Word
  pub written : list_all (λ w. not (begins_option w)) words ≡ true
  pub split : tail ≡ words ++ rest
  pub rules : AreRules rest

-- what may follow a place
abbrev pub Fits : Place → List Word → Type 0
Fits Between tail = AreRules tail
Fits InWords tail = FitsWords tail
Fits BehindKeep tail = FitsKeep tail
Fits BehindComma tail = FitsModifier tail
Fits InHead tail = FitsHead tail
Fits BehindBang tail = FitsNotAccess tail ⊎ FitsNotKind tail
Fits (BeforeName a) tail = FitsNames a tail
Fits (BehindName a) tail = FitsMore a tail ⊎ FitsBehind a tail
Fits BeforeClass tail = FitsClass tail
Fits BehindAbove tail = FitsAncestor tail ⊎ FitsMarked tail
Fits BehindMark tail = FitsAncestor tail
Fits BehindAncestor tail = FitsMembers tail
Fits (BeforeBrace a) tail = FitsOpen a tail
Fits (InBraces a) tail = FitsBraces a tail
Fits (InLine a) tail = FitsLine a tail
Fits (BehindNot a) tail = FitsNot a tail
Fits (BehindStar a) tail = FitsName a tail ⊎ FitsEnd a tail
Fits (BehindType a) tail = FitsName a tail
Fits (BehindMember a) tail = FitsMember a tail
Fits (BeforeArguments a) tail = FitsArguments a tail
Fits (InArguments a) tail = FitsDots a tail ⊎ (FitsTypes a tail ⊎ FitsAny a tail)
Fits (BehindDots a) tail = FitsDots a tail
Fits (BeforeArgument a) tail = FitsTypes a tail
Fits (BehindArgument a) tail = FitsDots a tail ⊎ FitsComma a tail
Fits (AtEnd a) tail = FitsEnd a tail

-- ---- arguments

pub type_before : (a : Bool) (w : Word) (tail : List Word) → is_argument w ≡ true → FitsDots a tail ⊎ FitsComma a tail → FitsTypes a (w ∷ tail)
type_before a w tail is (inl dots) = record { first = w; types = []; rest = dots.rest; written = joined (is_argument w) true is refl; split = ap (λ ws. w ∷ ws) dots.split; end = dots.end }
type_before a w tail is (inr comma) = record {
  first = w;
  types = comma.types.first ∷ comma.types.types;
  rest = comma.types.rest;
  written = joined (is_argument w) (list_all is_argument (comma.types.first ∷ comma.types.types)) is comma.types.written;
  split = ap (λ ws. w ∷ ws) (comma.split ∙ ap (λ ws. codes "," ∷ ws) comma.types.split);
  end = comma.types.end;
}

pub arguments_before : (a : Bool) (tail : List Word) → FitsDots a tail ⊎ (FitsTypes a tail ⊎ FitsAny a tail) → FitsArguments a (codes "(" ∷ tail)
arguments_before a tail (inl dots) = record { arguments = These []; rest = dots.rest; written = refl; split = ap (λ ws. codes "(" ∷ ws) dots.split; end = dots.end }
arguments_before a tail (inr (inl types)) = record {
  arguments = These (types.first ∷ types.types);
  rest = types.rest;
  written = types.written;
  split = ap (λ ws. codes "(" ∷ ws) (types.split ∙ sym (append_assoc (separated (types.first ∷ types.types)) (codes ")" ∷ []) types.rest));
  end = types.end;
}
arguments_before a tail (inr (inr any)) = record { arguments = Any; rest = any.dots.rest; written = refl; split = ap (λ ws. codes "(" ∷ ws) (any.split ∙ ap (λ ws. codes "..." ∷ ws) any.dots.split); end = any.dots.end }

-- ---- lines

pub what_before : (a : Bool) (what : What) (tail : List Word) → what_test a what ≡ true → FitsEnd a tail → FitsLine a (what_words what ++ tail)
what_before a what tail is end = record { conditions = []; what = what; rest = end.rest; tested = refl; named = is; split = ap (λ ws. what_words what ++ ws) end.split; braces = end.braces }

pub condition_before : (a : Bool) (c : Condition) (tail : List Word) → condition_test a c ≡ true → FitsLine a tail → FitsLine a (condition_words c ++ tail)
condition_before a c tail is line = record {
  conditions = c ∷ line.conditions;
  what = line.what;
  rest = line.rest;
  tested = joined (condition_test a c) (list_all (condition_test a) line.conditions) is line.tested;
  named = line.named;
  split = ap (λ ws. condition_words c ++ ws) line.split ∙ sym (append_assoc (condition_words c) (flat_map condition_words line.conditions) (what_words line.what ++ (codes ";" ∷ line.rest)));
  braces = line.braces;
}

pub access_test : (a negated : Bool) (name : Access) → condition_test a (Has negated name) ≡ true
access_test true negated name = refl
access_test false negated name = refl

pub access_before : (a : Bool) (w : Word) (tail : List Word) → is_access w ≡ true → FitsLine a tail → FitsLine a (w ∷ tail)
access_before a w tail is line =
    let found : (name : Access) × (access_word name ≡ w) = any_access w is in
    subst (λ v. FitsLine a (v ∷ tail)) found.1 (condition_before a (Has false found.0) tail (access_test a false found.0) line)

pub not_before : (a : Bool) (tail : List Word) → FitsNot a tail → FitsLine a (codes "!" ∷ tail)
not_before a tail fits = subst (λ ws. FitsLine a (codes "!" ∷ ws)) (sym fits.split) (condition_before a (Has true fits.access) fits.rest (access_test a true fits.access) fits.line)

pub method_test : (a : Bool) (kind name : Word) (arguments : Arguments) → is_first_type kind ≡ true → is_name name ≡ true → are_arguments arguments ≡ true → what_test a (Method kind name arguments) ≡ true
method_test true kind name arguments first named are = joined (is_first_type kind && is_name name) (are_arguments arguments) (joined (is_first_type kind) (is_name name) first named) are
method_test false kind name arguments first named are = joined (is_first_type kind && is_name name) (are_arguments arguments) (joined (is_first_type kind) (is_name name) first named) are

pub field_test : (a : Bool) (kind name : Word) → a ≡ false → is_first_type kind ≡ true → is_name name ≡ true → what_test a (Field kind name) ≡ true
field_test true kind name keep first named = absurd (clash (sym keep))
field_test false kind name keep first named = joined (is_first_type kind) (is_name name) first named

pub member_before : (a : Bool) (kind name : Word) (tail : List Word) → is_first_type kind ≡ true → is_name name ≡ true → FitsMember a tail → FitsLine a (kind ∷ name ∷ tail)
member_before a kind name tail first named (inl fits) =
    subst (λ ws. FitsLine a (kind ∷ name ∷ ws)) (sym fits.split) (what_before a (Method kind name fits.arguments) fits.rest (method_test a kind name fits.arguments first named fits.written) fits.end)
member_before a kind name tail first named (inr field) = what_before a (Field kind name) tail (field_test a kind name field.0 first named) field.1

pub typed_before : (a : Bool) (kind : Word) (tail : List Word) → is_access kind ≡ false → is_name kind ≡ true → FitsName a tail → FitsLine a (kind ∷ tail)
typed_before a kind tail other named fits =
    subst (λ ws. FitsLine a (kind ∷ ws)) (sym fits.split) (member_before a kind fits.name fits.rest (joined (is_name kind) (not (is_access kind)) named (ap not other)) fits.named fits.member)

pub all_test : (a : Bool) → what_test a All ≡ true
all_test true = refl
all_test false = refl

pub methods_test : (a : Bool) → what_test a Methods ≡ true
methods_test true = refl
methods_test false = refl

pub star_before : (a : Bool) (tail : List Word) → FitsName a tail ⊎ FitsEnd a tail → FitsLine a (codes "*" ∷ tail)
star_before a tail (inl name) = typed_before a (codes "*") tail refl refl name
star_before a tail (inr end) = what_before a All tail (all_test a) end

pub init_before : (tail : List Word) → FitsArguments false tail → FitsLine false (codes "<init>" ∷ tail)
init_before tail fits = subst (λ ws. FitsLine false (codes "<init>" ∷ ws)) (sym fits.split) (what_before false (Init fits.arguments) fits.rest fits.written fits.end)

pub marked_by : (w : Word) → is_mark w ≡ true → (name : Word) × (64 ∷ name ≡ w) × (is_name name ≡ true)
marked_by [] e = absurd (clash e)
marked_by (c ∷ cs) e = (cs, ap (λ x. x ∷ cs) (sym (eqb-true c 64 (first_true (nat_eq c 64) (is_name cs) e))), second_true (nat_eq c 64) (is_name cs) e)

pub mark_before : (w : Word) (tail : List Word) → is_mark w ≡ true → FitsLine false tail → FitsLine false (w ∷ tail)
mark_before w tail is line =
    let found : (name : Word) × (64 ∷ name ≡ w) × (is_name name ≡ true) = marked_by w is in
    subst (λ v. FitsLine false (v ∷ tail)) found.1 (condition_before false (Mark found.0) tail found.2 line)

pub keep_line_before : (a : Bool) (w : Word) (q : Place) (tail : List Word) → from_keep_line a w ≡ Some q → Fits q tail → FitsLine a (w ∷ tail)
keep_line_before true w q tail e fits = cc
keep_line_before false w q tail e fits = elim (led (is_mark w) (InLine false) q (leads (word_eq w (codes "<fields>")) (AtEnd false) (leads (word_eq w (codes "<init>")) (BeforeArguments false) None)) e) [
  | inl mark ↦ mark_before w tail mark.0 (subst (λ p. Fits p tail) (sym mark.1) fits)
  | inr other ↦ elim (led (word_eq w (codes "<fields>")) (AtEnd false) q (leads (word_eq w (codes "<init>")) (BeforeArguments false) None) other.1) [
    | inl fields ↦ subst (λ v. FitsLine false (v ∷ tail)) (word_is w (codes "<fields>") fields.0) (what_before false Fields tail refl (subst (λ p. Fits p tail) (sym fields.1) fits))
    | inr last ↦ let init = led_last (word_eq w (codes "<init>")) (BeforeArguments false) q last.1 in
        subst (λ v. FitsLine false (v ∷ tail)) (word_is w (codes "<init>") init.0) (init_before tail (subst (λ p. Fits p tail) (sym init.1) fits))
  ]
]

pub line_before : (a : Bool) (w : Word) (q : Place) (tail : List Word) → from_line a w ≡ Some q → Fits q tail → FitsLine a (w ∷ tail)
line_before a w q tail e fits = elim (led (is_access w) (InLine a) q _ e) [
  | inl access ↦ access_before a w tail access.0 (subst (λ p. Fits p tail) (sym access.1) fits)
  | inr r1 ↦ elim (led (word_eq w (codes "*")) (BehindStar a) q _ r1.1) [
    | inl star ↦ subst (λ v. FitsLine a (v ∷ tail)) (word_is w (codes "*") star.0) (star_before a tail (subst (λ p. Fits p tail) (sym star.1) fits))
    | inr r2 ↦ elim (led (is_name w) (BehindType a) q _ r2.1) [
      | inl named ↦ typed_before a w tail r1.0 named.0 (subst (λ p. Fits p tail) (sym named.1) fits)
      | inr r3 ↦ elim (led (word_eq w (codes "!")) (BehindNot a) q _ r3.1) [
        | inl bang ↦ subst (λ v. FitsLine a (v ∷ tail)) (word_is w (codes "!") bang.0) (not_before a tail (subst (λ p. Fits p tail) (sym bang.1) fits))
        | inr r4 ↦ elim (led (word_eq w (codes "<methods>")) (AtEnd a) q _ r4.1) [
          | inl methods ↦ subst (λ v. FitsLine a (v ∷ tail)) (word_is w (codes "<methods>") methods.0) (what_before a Methods tail (methods_test a) (subst (λ p. Fits p tail) (sym methods.1) fits))
          | inr r5 ↦ keep_line_before a w q tail r5.1 fits
        ]
      ]
    ]
  ]
]

pub line_written : (a : Bool) (cs : List Condition) (what : What) → list_all (condition_test a) cs ≡ true → what_test a what ≡ true → line_test a (record { conditions = cs; what = what }) ≡ true
line_written true cs what tested named = joined (list_all is_plain_condition cs) (is_assumed_what what) tested named
line_written false cs what tested named = joined (list_all is_member_condition cs) (is_what what) tested named

-- a line before the others
pub line_first : (a : Bool) (tail : List Word) → FitsLine a tail → FitsBraces a tail
line_first a tail line =
    let C : List Word = flat_map condition_words line.conditions in
    let W : List Word = what_words line.what in
    let F : List Word = flat_map member_rule_words line.braces.lines in
    let X : List Word = codes "}" ∷ line.braces.rest in
    record {
      lines = record { conditions = line.conditions; what = line.what } ∷ line.braces.lines;
      rest = line.braces.rest;
      written = joined (line_test a (record { conditions = line.conditions; what = line.what })) (list_all (line_test a) line.braces.lines) (line_written a line.conditions line.what line.tested line.named) line.braces.written;
      split = line.split ∙ ap (λ ws. C ++ (W ++ (codes ";" ∷ ws))) line.braces.split
          ∙ sym (append_assoc (C ++ (W ++ codes ";" ∷ [])) F X ∙ append_assoc C (W ++ codes ";" ∷ []) (F ++ X) ∙ ap (λ ws. C ++ ws) (append_assoc W (codes ";" ∷ []) (F ++ X)));
      rules = line.braces.rules;
    }

pub closed_before : (a : Bool) (tail : List Word) → AreRules tail → FitsBraces a (codes "}" ∷ tail)
closed_before a tail rules = record { lines = []; rest = tail; written = refl; split = refl; rules = rules }

-- ---- arguments and lines, by the place

pub argument_step : (a : Bool) (w : Word) (q : Place) (tail : List Word) → from_argument a w ≡ Some q → Fits q tail → FitsTypes a (w ∷ tail)
argument_step a w q tail e fits =
    let last = led_last (is_argument w) (BehindArgument a) q e in
    type_before a w tail last.0 (subst (λ p. Fits p tail) (sym last.1) fits)

pub inside_step : (a : Bool) (w : Word) (q : Place) (tail : List Word) → next_place (InArguments a) w ≡ Some q → Fits q tail → FitsDots a (w ∷ tail) ⊎ (FitsTypes a (w ∷ tail) ⊎ FitsAny a (w ∷ tail))
inside_step a w q tail e fits = elim (led_either (from_argument a w) _ q e) [
  | inl one ↦ inr (inl (argument_step a w q tail one fits))
  | inr more ↦ elim (led (word_eq w (codes ")")) (AtEnd a) q _ more) [
    | inl closes ↦ inl (record { rest = tail; split = ap (λ v. v ∷ tail) (sym (word_is w (codes ")") closes.0)); end = subst (λ p. Fits p tail) (sym closes.1) fits })
    | inr other ↦ let last = led_last (word_eq w (codes "...")) (BehindDots a) q other.1 in
        inr (inr (record { rest = tail; split = ap (λ v. v ∷ tail) (sym (word_is w (codes "...") last.0)); dots = subst (λ p. Fits p tail) (sym last.1) fits }))
  ]
]

pub behind_step : (a : Bool) (w : Word) (q : Place) (tail : List Word) → next_place (BehindArgument a) w ≡ Some q → Fits q tail → FitsDots a (w ∷ tail) ⊎ FitsComma a (w ∷ tail)
behind_step a w q tail e fits = elim (led (word_eq w (codes ",")) (BeforeArgument a) q _ e) [
  | inl comma ↦ inr (record { rest = tail; split = ap (λ v. v ∷ tail) (sym (word_is w (codes ",") comma.0)); types = subst (λ p. Fits p tail) (sym comma.1) fits })
  | inr other ↦ let last = led_last (word_eq w (codes ")")) (AtEnd a) q other.1 in
      inl (record { rest = tail; split = ap (λ v. v ∷ tail) (sym (word_is w (codes ")") last.0)); end = subst (λ p. Fits p tail) (sym last.1) fits })
]

pub opens_step : (a : Bool) (w : Word) (q : Place) (tail : List Word) → (word_eq w (codes "(") ≡ true) × (InArguments a ≡ q) → Fits q tail → FitsArguments a (w ∷ tail)
opens_step a w q tail is fits = subst (λ v. FitsArguments a (v ∷ tail)) (word_is w (codes "(") is.0) (arguments_before a tail (subst (λ p. Fits p tail) (sym is.1) fits))

pub end_step : (a : Bool) (w : Word) (q : Place) (tail : List Word) → (word_eq w (codes ";") ≡ true) × (InBraces a ≡ q) → Fits q tail → FitsEnd a (w ∷ tail)
end_step a w q tail is fits = record { rest = tail; split = ap (λ v. v ∷ tail) (sym (word_is w (codes ";") is.0)); braces = subst (λ p. Fits p tail) (sym is.1) fits }

pub field_step : (a : Bool) (w : Word) (q : Place) (tail : List Word) → from_field a w ≡ Some q → Fits q tail → (a ≡ false) × FitsEnd a (w ∷ tail)
field_step true w q tail e fits = cc
field_step false w q tail e fits = (refl, end_step false w q tail (led_last (word_eq w (codes ";")) (InBraces false) q e) fits)

pub member_step : (a : Bool) (w : Word) (q : Place) (tail : List Word) → next_place (BehindMember a) w ≡ Some q → Fits q tail → FitsMember a (w ∷ tail)
member_step a w q tail e fits = elim (led (word_eq w (codes "(")) (InArguments a) q _ e) [
  | inl opens ↦ inl (opens_step a w q tail opens fits)
  | inr other ↦ inr (field_step a w q tail other.1 fits)
]

pub name_step : (a : Bool) (w : Word) (q : Place) (tail : List Word) → (is_name w ≡ true) × (BehindMember a ≡ q) → Fits q tail → FitsName a (w ∷ tail)
name_step a w q tail is fits = record { name = w; rest = tail; named = is.0; split = refl; member = subst (λ p. Fits p tail) (sym is.1) fits }

pub star_step : (a : Bool) (w : Word) (q : Place) (tail : List Word) → next_place (BehindStar a) w ≡ Some q → Fits q tail → FitsName a (w ∷ tail) ⊎ FitsEnd a (w ∷ tail)
star_step a w q tail e fits = elim (led (is_name w) (BehindMember a) q _ e) [
  | inl named ↦ inl (name_step a w q tail named fits)
  | inr other ↦ inr (end_step a w q tail (led_last (word_eq w (codes ";")) (InBraces a) q other.1) fits)
]

pub not_step : (a : Bool) (w : Word) (q : Place) (tail : List Word) → next_place (BehindNot a) w ≡ Some q → Fits q tail → FitsNot a (w ∷ tail)
not_step a w q tail e fits =
    let last = led_last (is_access w) (InLine a) q e in
    let found : (name : Access) × (access_word name ≡ w) = any_access w last.0 in
    record { access = found.0; rest = tail; split = ap (λ v. v ∷ tail) (sym found.1); line = subst (λ p. Fits p tail) (sym last.1) fits }

pub braces_step : (a : Bool) (w : Word) (q : Place) (tail : List Word) → next_place (InBraces a) w ≡ Some q → Fits q tail → FitsBraces a (w ∷ tail)
braces_step a w q tail e fits = elim (led_either (from_line a w) _ q e) [
  | inl line ↦ line_first a (w ∷ tail) (line_before a w q tail line fits)
  | inr more ↦ let last = led_last (word_eq w (codes "}")) Between q more in
      subst (λ v. FitsBraces a (v ∷ tail)) (word_is w (codes "}") last.0) (closed_before a tail (subst (λ p. Fits p tail) (sym last.1) fits))
]

pub open_step : (a : Bool) (w : Word) (q : Place) (tail : List Word) → (word_eq w (codes "{") ≡ true) × (InBraces a ≡ q) → Fits q tail → FitsOpen a (w ∷ tail)
open_step a w q tail is fits = record { rest = tail; split = ap (λ v. v ∷ tail) (sym (word_is w (codes "{") is.0)); braces = subst (λ p. Fits p tail) (sym is.1) fits }
