-- What is read of a text unit by unit is what the grammar of descriptors says.
use Rattle.std.proofs.Common.{◌≡◌, ℕ, zero, suc, ◌+◌, ◌-◌, ◌<◌, ◌≤◌, Bool, true, false, ◌⊎◌, inl, inr, List, [], ◌∷◌, ◌++◌, length, take, drop, Option, Some, None, Result, Ok, Err, refl, sym, ap, subst, ◌∙◌, append_assoc, arith, eqb, cond}
use Rattle.std.specs.Prelude.{replicate, IsTrue, nat_lt, ◌==◌, ◌&&◌, ◌||◌}
use Rattle.std.specs.List.{AllByRecursion, concat, join_with_byte}
use Rattle.std.proofs.lemmas.Bool.{cases_lt, cases_eq, lt-ltb, le-ltb, eq-eqb, ne_eqb, eqb-true}
use Rattle.std.proofs.lemmas.Bool.Decides.{nat_tests}
use Rattle.dex_base.specs.declared.fault.BaseFault.{BaseFault}
use Rattle.dex_base.specs.declared.fault.BaseFault.TheVariants.{BadDescriptor}
use Rattle.dex_base.specs.declared.descriptor.Descriptor.{Descriptor}
use Rattle.dex_base.specs.declared.descriptor.Descriptor.TheVariants.{Void, Primitive, Class, Array}
use Rattle.dex_base.specs.declared.descriptor.Spot.{Spot}
use Rattle.dex_base.specs.declared.descriptor.Spot.TheVariants.{Element, Name, Inside, Low, End}
use Rattle.dex_base.specs.Descriptor.{is_primitive, is_alone, is_high, is_low, of_depth, behind_bracket, in_name, behind_character, is_from, next_spot, ended, go_on, ends_in, descriptor_of}
use Rattle.dex_base.specs.Grammar.{IsCharacter, IsName, AreNames, IsElement, OfLetter, OfClass, IsDescriptor, OfVoid, OfElement, OfArray}
use Rattle.dex_base.proofs.Decides.{ok_is, not_both}

-- ---- from the spots to the grammar

-- what stands behind some characters of a name
data Rest (text : List ℕ) : Type 0 where
  ToEnd : (characters : List (List ℕ)) → AllByRecursion IsCharacter characters → text ≡ concat characters ++ 59 ∷ [] → Rest text
  ToName : (characters : List (List ℕ)) (more : List ℕ) → AllByRecursion IsCharacter characters → AreNames more → text ≡ concat characters ++ 47 ∷ more → Rest text

-- a character before what stands behind some characters
Rest-cons : (character text : List ℕ) → IsCharacter character → Rest text → Rest (character ++ text)
Rest-cons character text is (ToEnd cs are e) = ToEnd (character ∷ cs) (is, are) (ap (λ (xs : List ℕ). character ++ xs) e ∙ sym (append_assoc character (concat cs) (59 ∷ [])))
Rest-cons character text is (ToName cs more are names e) = ToName (character ∷ cs) more (is, are) names (ap (λ (xs : List ℕ). character ++ xs) e ∙ sym (append_assoc character (concat cs) (47 ∷ more)))

name_of : (character : List ℕ) (cs : List (List ℕ)) → IsCharacter character → AllByRecursion IsCharacter cs → IsName (concat (character ∷ cs))
name_of character cs is are = record { characters = character ∷ cs; some = omega arith; are = (is, are); is = refl }

-- one name before others
names_more : (name more : List ℕ) → IsName name → AreNames more → AreNames (name ++ 47 ∷ more)
names_more name more is others = behind others.names others.some others.are others.is
  where
    behind : (names : List (List ℕ)) → 0 < length names → AllByRecursion IsName names → more ≡ join_with_byte 47 names ++ 59 ∷ [] → AreNames (name ++ 47 ∷ more)
    behind [] some are e = absurd (omega arith)
    behind (n ∷ ns) some are e = record {
      names = name ∷ n ∷ ns;
      some = omega arith;
      are = (is, are);
      is = ap (λ (xs : List ℕ). name ++ 47 ∷ xs) e ∙ sym (append_assoc name (47 ∷ join_with_byte 47 (n ∷ ns)) (59 ∷ []));
    }

-- a character, and what stands behind it, are names
names_of : (character text : List ℕ) → IsCharacter character → Rest text → AreNames (character ++ text)
names_of character text is (ToEnd cs are e) = record {
  names = concat (character ∷ cs) ∷ [];
  some = omega arith;
  are = (name_of character cs is are, tt);
  is = ap (λ (xs : List ℕ). character ++ xs) e ∙ sym (append_assoc character (concat cs) (59 ∷ []));
}
names_of character text is (ToName cs more are names e) =
    subst AreNames (append_assoc character (concat cs) (47 ∷ more) ∙ ap (λ (xs : List ℕ). character ++ xs) (sym e)) (names_more (concat (character ∷ cs)) more (name_of character cs is are) names)

-- what stands behind the brackets
data IsBase (depth : ℕ) (text : List ℕ) (of : Descriptor) : Type 0 where
  BaseElement : IsElement text of → IsBase depth text of
  BaseVoid : depth ≡ 0 → text ≡ 86 ∷ [] → of ≡ Void → IsBase depth text of

record GoodElement (depth : ℕ) (text : List ℕ) (kind : Descriptor) : Type 0 where
  pub more : ℕ
  pub element : List ℕ
  pub of : Descriptor
  pub few : depth + more ≤ 255
  pub is : text ≡ replicate more 91 ++ element
  pub base : IsBase (depth + more) element of
  pub kind_is : kind ≡ of_depth (depth + more) of

record GoodLow (depth : ℕ) (text : List ℕ) (kind : Descriptor) : Type 0 where
  pub low : ℕ
  pub more : List ℕ
  pub is_second : IsTrue (is_low low)
  pub is : text ≡ low ∷ more
  pub rest : Rest more
  pub kind_is : kind ≡ of_depth depth Class

-- what a text is that ends well from a spot on
abbrev Good : Spot → List ℕ → Descriptor → Type 0
Good (Element depth) text kind = depth ≤ 255 → GoodElement depth text kind
Good (Name depth) text kind = AreNames text × (kind ≡ of_depth depth Class)
Good (Inside depth) text kind = Rest text × (kind ≡ of_depth depth Class)
Good (Low depth) text kind = GoodLow depth text kind
Good (End k) text kind = (text ≡ []) × (kind ≡ k)

both : (b : Bool) → (b ≡ true) ⊎ (b ≡ false)
both true = inl refl
both false = inr refl

-- what may stand behind the brackets, and where the text is then
data Bracket (depth u : ℕ) (next : Option Spot) : Type 0 where
  Opens : u ≡ 91 → depth < 255 → next ≡ Some (Element (suc depth)) → Bracket depth u next
  Begins : u ≡ 76 → next ≡ Some (Name depth) → Bracket depth u next
  Letter : IsTrue (is_primitive u) → next ≡ Some (End (of_depth depth (Primitive u))) → Bracket depth u next
  Voids : u ≡ 86 → depth ≡ 0 → next ≡ Some (End Void) → Bracket depth u next
  Stops : next ≡ None → Bracket depth u next

bracket_other : (depth u : ℕ) → (u ≡ 91 → ⊥) → Bracket depth u (behind_bracket depth u)
bracket_other depth u not =
    elim (cases_eq u 76) [
      | inl e ↦ Begins e (rw e refl)
      | inr no_name ↦ elim (both (is_primitive u)) [
        | inl holds ↦ Letter holds (rw (ne_eqb u 91 not, ne_eqb u 76 no_name, holds) refl)
        | inr no_letter ↦ elim (cases_eq u 86) [
          | inl e ↦ elim (cases_eq depth 0) [
            | inl none ↦ Voids e none (rw (e, none) refl)
            | inr some ↦ Stops (rw (e, ne_eqb depth 0 some) refl)
          ]
          | inr no_void ↦ Stops (rw (ne_eqb u 91 not, ne_eqb u 76 no_name, no_letter, ne_eqb u 86 no_void) refl)
        ]
      ]
    ]

bracket_cases : (depth u : ℕ) → Bracket depth u (behind_bracket depth u)
bracket_cases depth u =
    elim (cases_eq u 91) [
      | inl e ↦ elim (cases_lt depth 255) [
        | inl lt ↦ Opens e lt (rw (e, lt-ltb depth 255 lt) refl)
        | inr ge ↦ Stops (rw (e, le-ltb depth 255 ge) refl)
      ]
      | inr not ↦ bracket_other depth u not
    ]

-- what may begin a character
data Character (depth u : ℕ) (next : Option Spot) : Type 0 where
  Alone : IsTrue (is_alone u) → next ≡ Some (Inside depth) → Character depth u next
  First : IsTrue (is_high u) → next ≡ Some (Low depth) → Character depth u next
  NoCharacter : next ≡ None → Character depth u next

character_cases : (depth u : ℕ) → Character depth u (in_name depth u)
character_cases depth u =
    elim (both (is_alone u)) [
      | inl holds ↦ Alone holds (rw holds refl)
      | inr no_alone ↦ elim (both (is_high u)) [ inl holds ↦ First holds (rw (no_alone, holds) refl) | inr no_high ↦ NoCharacter (rw (no_alone, no_high) refl) ]
    ]

-- what may stand behind a character
data Behind (depth u : ℕ) (next : Option Spot) : Type 0 where
  Slash : u ≡ 47 → next ≡ Some (Name depth) → Behind depth u next
  Semicolon : u ≡ 59 → next ≡ Some (End (of_depth depth Class)) → Behind depth u next
  Other : Character depth u next → Behind depth u next

behind_cases : (depth u : ℕ) → Behind depth u (behind_character depth u)
behind_cases depth u =
    elim (cases_eq u 47) [
      | inl e ↦ Slash e (rw e refl)
      | inr no_slash ↦ elim (cases_eq u 59) [
        | inl e ↦ Semicolon e (rw e refl)
        | inr no_end ↦ Other (rw (ne_eqb u 47 no_slash, ne_eqb u 59 no_end) (character_cases depth u))
      ]
    ]

-- the spot behind a unit, where a text ends well
data Continues (place : ℕ) (next : Option Spot) (us : List ℕ) (kind : Descriptor) : Type 0 where
  Then : (spot : Spot) → next ≡ Some spot → ends_in (suc place) spot us ≡ Ok kind → Continues place next us kind

continues : (place : ℕ) (next : Option Spot) (us : List ℕ) (kind : Descriptor) → go_on place next (λ spot. ends_in (suc place) spot us) ≡ Ok kind → Continues place next us kind
continues place (Some spot) us kind e = Then spot refl e
continues place None us kind e = absurd (not_both (BadDescriptor place) kind e)

some_is : (a b : Spot) → Some a ≡ Some b → a ≡ b
some_is a b e = cc

none_some : (a : Spot) → None ≡ Some a → ⊥
none_some a e = absurd cc

-- a character, and what is good behind it
good_character : (depth u : ℕ) (us : List ℕ) (kind : Descriptor) (next : Option Spot) (spot : Spot) → Character depth u next → next ≡ Some spot → Good spot us kind
    → (character text : List ℕ) × IsCharacter character × (u ∷ us ≡ character ++ text) × Rest text × (kind ≡ of_depth depth Class)
good_character depth u us kind next spot (Alone is e) at good =
    let g = subst (λ (s : Spot). Good s us kind) (some_is spot (Inside depth) (sym at ∙ e)) good in
    (u ∷ [], us, is, refl, g.0, g.1)
good_character depth u us kind next spot (First is e) at good =
    let g = subst (λ (s : Spot). Good s us kind) (some_is spot (Low depth) (sym at ∙ e)) good in
    (u ∷ g.low ∷ [], g.more, (is, g.is_second), ap (λ (xs : List ℕ). u ∷ xs) g.is, g.rest, g.kind_is)
good_character depth u us kind next spot (NoCharacter e) at good = absurd (none_some spot (sym e ∙ at))

good_behind : (depth u : ℕ) (us : List ℕ) (kind : Descriptor) (next : Option Spot) (spot : Spot) → Behind depth u next → next ≡ Some spot → Good spot us kind → Rest (u ∷ us) × (kind ≡ of_depth depth Class)
good_behind depth u us kind next spot (Slash is e) at good =
    let g = subst (λ (s : Spot). Good s us kind) (some_is spot (Name depth) (sym at ∙ e)) good in
    (ToName [] us tt g.0 (ap (λ (n : ℕ). n ∷ us) is), g.1)
good_behind depth u us kind next spot (Semicolon is e) at good =
    let g = subst (λ (s : Spot). Good s us kind) (some_is spot (End (of_depth depth Class)) (sym at ∙ e)) good in
    (ToEnd [] tt (ap (λ (n : ℕ). n ∷ us) is ∙ ap (λ (xs : List ℕ). 59 ∷ xs) g.0), g.1)
good_behind depth u us kind next spot (Other c) at good =
    let p = good_character depth u us kind next spot c at good in
    (subst Rest (sym p.3) (Rest-cons p.0 p.1 p.2 p.4), p.5)

-- one bracket more
opened : (depth : ℕ) (us : List ℕ) (kind : Descriptor) → GoodElement (suc depth) us kind → GoodElement depth (91 ∷ us) kind
opened depth us kind g =
    let n : suc depth + g.more ≡ depth + suc g.more = omega arith in
    record {
      more = suc g.more;
      element = g.element;
      of = g.of;
      few = omega (arith, g.few);
      is = ap (λ (xs : List ℕ). 91 ∷ xs) g.is;
      base = subst (λ (d : ℕ). IsBase d g.element g.of) n g.base;
      kind_is = subst (λ (d : ℕ). kind ≡ of_depth d g.of) n g.kind_is;
    }

-- no bracket more
closed : (depth : ℕ) (text : List ℕ) (kind of : Descriptor) → depth ≤ 255 → IsBase depth text of → kind ≡ of_depth depth of → GoodElement depth text kind
closed depth text kind of few base is =
    let n : depth ≡ depth + 0 = omega arith in
    record {
      more = 0;
      element = text;
      of = of;
      few = omega arith;
      is = refl;
      base = subst (λ (d : ℕ). IsBase d text of) n base;
      kind_is = subst (λ (d : ℕ). kind ≡ of_depth d of) n is;
    }

good_bracket : (depth u : ℕ) (us : List ℕ) (kind : Descriptor) (next : Option Spot) (spot : Spot) → Bracket depth u next → next ≡ Some spot → Good spot us kind → depth ≤ 255 → GoodElement depth (u ∷ us) kind
good_bracket depth u us kind next spot (Opens is lt e) at good few =
    let g = subst (λ (s : Spot). Good s us kind) (some_is spot (Element (suc depth)) (sym at ∙ e)) good in
    subst (λ (n : ℕ). GoodElement depth (n ∷ us) kind) (sym is) (opened depth us kind (g (omega arith)))
good_bracket depth u us kind next spot (Begins is e) at good few =
    let g = subst (λ (s : Spot). Good s us kind) (some_is spot (Name depth) (sym at ∙ e)) good in
    closed depth (u ∷ us) kind Class few (BaseElement (OfClass us g.0 (ap (λ (n : ℕ). n ∷ us) is) refl)) g.1
good_bracket depth u us kind next spot (Letter is e) at good few =
    let g = subst (λ (s : Spot). Good s us kind) (some_is spot (End (of_depth depth (Primitive u))) (sym at ∙ e)) good in
    closed depth (u ∷ us) kind (Primitive u) few (BaseElement (OfLetter u is (ap (λ (xs : List ℕ). u ∷ xs) g.0) refl)) g.1
good_bracket depth u us kind next spot (Voids is none e) at good few =
    let g = subst (λ (s : Spot). Good s us kind) (some_is spot (End Void) (sym at ∙ e)) good in
    closed depth (u ∷ us) kind Void few (BaseVoid none (ap (λ (n : ℕ). n ∷ us) is ∙ ap (λ (xs : List ℕ). 86 ∷ xs) g.0) refl) (g.1 ∙ rw none refl)
good_bracket depth u us kind next spot (Stops e) at good few = absurd (none_some spot (sym e ∙ at))

good_low : (depth u : ℕ) (us : List ℕ) (kind : Descriptor) (b : Bool) (spot : Spot) → is_low u ≡ b → cond b (Some (Inside depth)) None ≡ Some spot → Good spot us kind → GoodLow depth (u ∷ us) kind
good_low depth u us kind true spot is at good =
    let g = subst (λ (s : Spot). Good s us kind) (some_is spot (Inside depth) (sym at)) good in
    record { low = u; more = us; is_second = is; is = refl; rest = g.0; kind_is = g.1 }
good_low depth u us kind false spot is at good = absurd (none_some spot at)

good_step : (spot next : Spot) (u : ℕ) (us : List ℕ) (kind : Descriptor) → next_spot spot u ≡ Some next → Good next us kind → Good spot (u ∷ us) kind
unfolding next_spot
good_step (Element depth) next u us kind at good = good_bracket depth u us kind (behind_bracket depth u) next (bracket_cases depth u) at good
good_step (Name depth) next u us kind at good =
    let p = good_character depth u us kind (in_name depth u) next (character_cases depth u) at good in
    (subst AreNames (sym p.3) (names_of p.0 p.1 p.2 p.4), p.5)
good_step (Inside depth) next u us kind at good = good_behind depth u us kind (behind_character depth u) next (behind_cases depth u) at good
good_step (Low depth) next u us kind at good = good_low depth u us kind (is_low u) next refl at good
good_step (End k) next u us kind at good = absurd (none_some next at)

good_end : (place : ℕ) (spot : Spot) (kind : Descriptor) → ended place spot ≡ Ok kind → Good spot [] kind
good_end place (Element depth) kind e = absurd (not_both (BadDescriptor place) kind e)
good_end place (Name depth) kind e = absurd (not_both (BadDescriptor place) kind e)
good_end place (Inside depth) kind e = absurd (not_both (BadDescriptor place) kind e)
good_end place (Low depth) kind e = absurd (not_both (BadDescriptor place) kind e)
good_end place (End k) kind e = (refl, sym (ok_is k kind e))

is_good : (place : ℕ) (spot : Spot) (text : List ℕ) (kind : Descriptor) → ends_in place spot text ≡ Ok kind → Good spot text kind
is_good place spot [] kind e = good_end place spot kind e
is_good place spot (u ∷ us) kind e =
    elim (continues place (next_spot spot u) us kind e) [ Then next at more ↦ good_step spot next u us kind at (is_good (suc place) next us kind more) ]

array_is : (depth : ℕ) (of : Descriptor) → of_depth (suc depth) of ≡ Array (suc depth)
array_is depth of = rw (ne_eqb (suc depth) 0 (omega arith)) refl

-- what is read is a descriptor
is_base : (depth more : ℕ) (element text : List ℕ) (of kind : Descriptor) → depth ≡ more → more ≤ 255 → text ≡ replicate more 91 ++ element → IsBase depth element of → kind ≡ of_depth depth of → IsDescriptor text kind
is_base zero zero element text of kind same few is (BaseElement e) at = subst (λ (k : Descriptor). IsDescriptor text k) (sym at) (OfElement (subst (λ (xs : List ℕ). IsElement xs of) (sym is) e))
is_base zero zero element text of kind same few is (BaseVoid none e void) at = OfVoid (is ∙ e) (at ∙ void)
is_base zero (suc more) element text of kind same few is base at = absurd (omega (arith, same))
is_base (suc depth) more element text of kind same few is (BaseElement e) at = OfArray more element of (omega (arith, same)) few is e (at ∙ array_is depth of ∙ ap Array same)
is_base (suc depth) more element text of kind same few is (BaseVoid none e void) at = absurd (omega (arith, none))

pub descriptor_found : (text : List ℕ) (kind : Descriptor) → descriptor_of text ≡ Ok kind → IsDescriptor text kind
unfolding descriptor_of
descriptor_found text kind e =
    let g = is_good 0 (Element 0) text kind e (omega arith) in
    is_base (0 + g.more) g.more g.element text g.of kind (omega arith) (omega (arith, g.few)) g.is g.base g.kind_is

-- ---- from the grammar to the spots

pub same_tail : (n m : ℕ) (spot : Spot) (text : List ℕ) (kind : Descriptor) → ends_in n spot text ≡ Ok kind → ends_in m spot text ≡ Ok kind
same_tail n m (Element depth) [] kind e = absurd (not_both (BadDescriptor n) kind e)
same_tail n m (Name depth) [] kind e = absurd (not_both (BadDescriptor n) kind e)
same_tail n m (Inside depth) [] kind e = absurd (not_both (BadDescriptor n) kind e)
same_tail n m (Low depth) [] kind e = absurd (not_both (BadDescriptor n) kind e)
same_tail n m (End k) [] kind e = e
same_tail n m spot (u ∷ us) kind e =
    elim (continues n (next_spot spot u) us kind e) [ Then next at more ↦ rw at (same_tail (suc n) (suc m) next us kind more) ]

from_true : (low high u : ℕ) → is_from low high u ≡ true → (low ≤ u) × (u ≤ high)
from_true low high u e = grind (arith, nat_tests)

alone_not : (u v : ℕ) → IsTrue (is_alone u) → is_alone v ≡ false → u ≡ v → ⊥
alone_not u v is not e = absurd cc (sym is ∙ ap is_alone e ∙ not)

high_alone : (u : ℕ) → IsTrue (is_high u) → is_alone u ≡ false
unfolding is_alone
high_alone u is = let r = from_true 55296 56319 u is in grind (arith, nat_tests)

not_47 : is_alone 47 ≡ false
unfolding is_alone
not_47 = refl

not_59 : is_alone 59 ≡ false
unfolding is_alone
not_59 = refl

alone_inside : (depth u : ℕ) → IsTrue (is_alone u) → next_spot (Inside depth) u ≡ Some (Inside depth)
unfolding next_spot
alone_inside depth u is = rw (ne_eqb u 47 (alone_not u 47 is not_47), ne_eqb u 59 (alone_not u 59 is not_59), is) refl

high_inside : (depth u : ℕ) → IsTrue (is_high u) → next_spot (Inside depth) u ≡ Some (Low depth)
unfolding next_spot
high_inside depth u is =
    let r = from_true 55296 56319 u is in
    rw (ne_eqb u 47 (λ e. omega (arith, r.0)), ne_eqb u 59 (λ e. omega (arith, r.0)), high_alone u is, is) refl

pub name_alone : (depth u : ℕ) → IsTrue (is_alone u) → next_spot (Name depth) u ≡ Some (Inside depth)
unfolding next_spot
name_alone depth u is = rw is refl

name_high : (depth u : ℕ) → IsTrue (is_high u) → next_spot (Name depth) u ≡ Some (Low depth)
unfolding next_spot
name_high depth u is = rw (high_alone u is, is) refl

pub low_second : (depth v : ℕ) → IsTrue (is_low v) → next_spot (Low depth) v ≡ Some (Inside depth)
unfolding next_spot
low_second depth v is = rw is refl

inside_slash : (depth : ℕ) → next_spot (Inside depth) 47 ≡ Some (Name depth)
unfolding next_spot
inside_slash depth = refl

pub inside_end : (depth : ℕ) → next_spot (Inside depth) 59 ≡ Some (End (of_depth depth Class))
unfolding next_spot
inside_end depth = refl

bracket_more : (depth : ℕ) → depth < 255 → next_spot (Element depth) 91 ≡ Some (Element (suc depth))
unfolding next_spot
bracket_more depth lt = rw (lt-ltb depth 255 lt) refl

bracket_name : (depth : ℕ) → next_spot (Element depth) 76 ≡ Some (Name depth)
unfolding next_spot
bracket_name depth = refl

letter_not : (u v : ℕ) → IsTrue (is_primitive u) → is_primitive v ≡ false → u ≡ v → ⊥
letter_not u v is not e = absurd cc (sym is ∙ ap is_primitive e ∙ not)

pub bracket_letter : (depth u : ℕ) → IsTrue (is_primitive u) → next_spot (Element depth) u ≡ Some (End (of_depth depth (Primitive u)))
unfolding next_spot
bracket_letter depth u is = rw (ne_eqb u 91 (letter_not u 91 is refl), ne_eqb u 76 (letter_not u 76 is refl), is) refl

-- the text ends well from the spot on
abbrev pub EndsWell : Spot → List ℕ → Descriptor → Type 0
EndsWell spot text kind = ends_in 0 spot text ≡ Ok kind

pub well_step : (spot next : Spot) (u : ℕ) (us : List ℕ) (kind : Descriptor) → next_spot spot u ≡ Some next → EndsWell next us kind → EndsWell spot (u ∷ us) kind
well_step spot next u us kind at more = rw at (same_tail 0 1 next us kind more)

well_character : (depth : ℕ) (character text : List ℕ) (kind : Descriptor) → IsCharacter character → EndsWell (Inside depth) text kind → EndsWell (Inside depth) (character ++ text) kind × EndsWell (Name depth) (character ++ text) kind
well_character depth [] text kind is more = absurd is
well_character depth (u ∷ []) text kind is more = (
  well_step (Inside depth) (Inside depth) u text kind (alone_inside depth u is) more,
  well_step (Name depth) (Inside depth) u text kind (name_alone depth u is) more,
)
well_character depth (u ∷ v ∷ []) text kind is more =
    let low = well_step (Low depth) (Inside depth) v text kind (low_second depth v is.1) more in (
      well_step (Inside depth) (Low depth) u (v ∷ text) kind (high_inside depth u is.0) low,
      well_step (Name depth) (Low depth) u (v ∷ text) kind (name_high depth u is.0) low,
    )
well_character depth (u ∷ v ∷ w ∷ us) text kind is more = absurd is

well_characters : (depth : ℕ) (cs : List (List ℕ)) (text : List ℕ) (kind : Descriptor) → AllByRecursion IsCharacter cs → EndsWell (Inside depth) text kind → EndsWell (Inside depth) (concat cs ++ text) kind
well_characters depth [] text kind are more = more
well_characters depth (c ∷ cs) text kind are more =
    subst (λ (xs : List ℕ). EndsWell (Inside depth) xs kind) (sym (append_assoc c (concat cs) text)) (well_character depth c (concat cs ++ text) kind are.0 (well_characters depth cs text kind are.1 more)).0

well_name : (depth : ℕ) (cs : List (List ℕ)) (text : List ℕ) (kind : Descriptor) → 0 < length cs → AllByRecursion IsCharacter cs → EndsWell (Inside depth) text kind → EndsWell (Name depth) (concat cs ++ text) kind
well_name depth [] text kind some are more = absurd (omega arith)
well_name depth (c ∷ cs) text kind some are more =
    subst (λ (xs : List ℕ). EndsWell (Name depth) xs kind) (sym (append_assoc c (concat cs) text)) (well_character depth c (concat cs ++ text) kind are.0 (well_characters depth cs text kind are.1 more)).1

name_before : (depth : ℕ) (name text : List ℕ) (kind : Descriptor) → IsName name → EndsWell (Inside depth) text kind → EndsWell (Name depth) (name ++ text) kind
name_before depth name text kind is more =
    subst (λ (xs : List ℕ). EndsWell (Name depth) (xs ++ text) kind) (sym is.is) (well_name depth is.characters text kind is.some is.are more)

well_names : (depth : ℕ) (names : List (List ℕ)) → 0 < length names → AllByRecursion IsName names → EndsWell (Name depth) (join_with_byte 47 names ++ 59 ∷ []) (of_depth depth Class)
well_names depth [] some are = absurd (omega arith)
well_names depth (n ∷ []) some are = name_before depth n (59 ∷ []) (of_depth depth Class) are.0 (well_step (Inside depth) (End (of_depth depth Class)) 59 [] (of_depth depth Class) (inside_end depth) refl)
well_names depth (n ∷ m ∷ ns) some are =
    let others = join_with_byte 47 (m ∷ ns) in
    subst (λ (xs : List ℕ). EndsWell (Name depth) xs (of_depth depth Class)) (sym (append_assoc n (47 ∷ others) (59 ∷ [])))
    (name_before depth n (47 ∷ (others ++ 59 ∷ [])) (of_depth depth Class) are.0
    (well_step (Inside depth) (Name depth) 47 (others ++ 59 ∷ []) (of_depth depth Class) (inside_slash depth) (well_names depth (m ∷ ns) (omega arith) are.1)))

well_element : (depth : ℕ) (text : List ℕ) (of : Descriptor) → IsElement text of → EndsWell (Element depth) text (of_depth depth of)
well_element depth text of (OfLetter u is e at) =
    rw (e, at) (well_step (Element depth) (End (of_depth depth (Primitive u))) u [] (of_depth depth (Primitive u)) (bracket_letter depth u is) refl)
well_element depth text of (OfClass names are e at) =
    rw (e, at) (well_step (Element depth) (Name depth) 76 names (of_depth depth Class) (bracket_name depth)
    (subst (λ (xs : List ℕ). EndsWell (Name depth) xs (of_depth depth Class)) (sym are.is) (well_names depth are.names are.some are.are)))

well_brackets : (depth more : ℕ) (text : List ℕ) (kind : Descriptor) → depth + more ≤ 255 → EndsWell (Element (depth + more)) text kind → EndsWell (Element depth) (replicate more 91 ++ text) kind
well_brackets depth zero text kind few well = let e : depth + 0 ≡ depth = omega arith in subst (λ (d : ℕ). EndsWell (Element d) text kind) e well
well_brackets depth (suc more) text kind few well =
    let e : depth + suc more ≡ suc depth + more = omega arith in
    well_step (Element depth) (Element (suc depth)) 91 (replicate more 91 ++ text) kind (bracket_more depth (omega arith))
    (well_brackets (suc depth) more text kind (omega arith) (subst (λ (d : ℕ). EndsWell (Element d) text kind) e well))

well_array : (depth : ℕ) (element : List ℕ) (of : Descriptor) → 0 < depth → depth ≤ 255 → IsElement element of → EndsWell (Element 0) (replicate depth 91 ++ element) (Array depth)
well_array zero element of some few is = absurd (omega arith)
well_array (suc depth) element of some few is =
    let e : suc depth ≡ 0 + suc depth = omega arith in
    well_brackets 0 (suc depth) element (Array (suc depth)) (omega arith)
    (subst (λ (d : ℕ). EndsWell (Element d) element (Array (suc depth))) e (subst (EndsWell (Element (suc depth)) element) (array_is depth of) (well_element (suc depth) element of is)))

void_well : EndsWell (Element 0) (86 ∷ []) Void
unfolding next_spot
void_well = refl

pub descriptor_again : (text : List ℕ) (kind : Descriptor) → IsDescriptor text kind → descriptor_of text ≡ Ok kind
unfolding descriptor_of
descriptor_again text kind (OfVoid e at) = rw (e, at) void_well
descriptor_again text kind (OfElement is) = well_element 0 text kind is
descriptor_again text kind (OfArray depth element of some few e is at) = rw (e, at) (well_array depth element of some few is)
