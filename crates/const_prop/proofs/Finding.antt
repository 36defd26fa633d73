-- What calls bring, found method by found method.
use Rattle.std.proofs.Common.{◌≡◌, ℕ, zero, suc, ◌+◌, ◌<◌, ◌≤◌, Bool, true, false, List, [], ◌∷◌, ◌++◌, length, take, get_or, Option, Some, None, refl, sym, ap, ◌∙◌, subst, arith}
use Rattle.std.specs.Prelude.{fold, filter, slice_get, position, option_and_then, is_some, nat_eq, nat_lt, cond, ◌&&◌, if◌then◌else◌}
use Rattle.std.specs.List.{range_with_len, position_or_len}
use Rattle.std.specs.Option.{option_map, option_or}
use Rattle.std.proofs.lemmas.List.Sums.{fold_more}
use Rattle.std.proofs.lemmas.Option.{slice_get-get_or}
use Rattle.std.proofs.lemmas.Bool.{ltb-true}
use Rattle.insn_set.specs.declared.ops.InvokeKind.{InvokeKind}
use Rattle.program_model.specs.declared.pools.FieldName.{FieldName}
use Rattle.program_model.specs.declared.pools.MethodName.{MethodName}
use Rattle.program_model.specs.declared.program.Class.{Class}
use Rattle.program_model.specs.declared.program.Program.{Program}
use Rattle.program_model.specs.Lookups.{class_place}
use Rattle.class_defs.specs.Finding.{beside, field_by, field_from, first_among, resolves_field}
use Rattle.hierarchy.specs.Naming.{definers_of}
use Rattle.class_defs.specs.Members.{own_method, own_field, field_of_class, is_field}
use Rattle.class_defs.specs.Places.{interface_places, super_place}
use Rattle.class_defs.specs.Starts.{is_trivial}
use Rattle.domains.specs.Values.{Parts, any_value}
use Rattle.facts.specs.declared.facts.Facts.{Facts}
use Rattle.const_prop.specs.declared.results.Results.{Results}
use Rattle.const_prop.specs.Asked.{IsKnown, IsKeyOf, AreBelow, count_of}
use Rattle.const_prop.specs.Given.{with_definer, kind_value, named_value, call_value}
use Rattle.const_prop.specs.Known.{is_quiet_field}

-- what is known with the first of some classes
abbrev pub DefinersSo : Results → ℕ → ℕ → Parts → List ℕ → ℕ → Parts → Type 0
DefinersSo s class key first definers n known = IsKnown s → (name proto : ℕ) → IsKeyOf s key name proto → class < count_of s → AreBelow (count_of s) definers
    → known ≡ fold (with_definer s.program.now s.facts.now name proto class) first (take n definers)

pub definers_more : (s : Results) (class key : ℕ) (first : Parts) (definers : List ℕ) (n : ℕ) (known more : Parts) → DefinersSo s class key first definers n known → n < length definers
    → (IsKnown s → (name proto : ℕ) → IsKeyOf s key name proto → class < count_of s → get_or definers n 0 < count_of s → more ≡ with_definer s.program.now s.facts.now name proto class known (get_or definers n 0))
    → DefinersSo s class key first definers (n + 1) more
definers_more s class key first definers n known more old l step k name proto is lt below =
    let f = with_definer s.program.now s.facts.now name proto class in
    let at : get_or definers n 0 < count_of s = below n (get_or definers n 0) (slice_get-get_or definers n 0 l) in
    step k name proto is lt at ∙ (ap (λ v. f v (get_or definers n 0)) (old k name proto is lt below) ∙ sym (fold_more f first definers n 0 l))

-- one item more
pub fold_step : (f : Parts → ℕ → Parts) (first : Parts) (xs : List ℕ) (n : ℕ) (known more : Parts) → n < length xs → known ≡ fold f first (take n xs) → more ≡ f known (get_or xs n 0) → more ≡ fold f first (take (n + 1) xs)
fold_step f first xs n known more l old step = step ∙ (ap (λ v. f v (get_or xs n 0)) old ∙ sym (fold_more f first xs n 0 l))

-- ---- places of classes

range_below : (count a n : ℕ) → a + n ≤ count → AreBelow count (range_with_len a n)
range_below count a zero l k x e = absurd (cc)
range_below count a (suc n) l zero x e = let same : a ≡ x = cc in omega (arith, l, same)
range_below count a (suc n) l (suc k) x e = range_below count (a + 1) n (omega (arith, l)) k x e

filter_below : (count : ℕ) (t : ℕ → Bool) (xs : List ℕ) → AreBelow count xs → AreBelow count (filter t xs)
filter_below count t [] h k x e = absurd (cc)
filter_below count t (y ∷ ys) h k x e = by (t y) (filter_below count t ys (λ k x e. h (suc k) x e)) k x e
  where
    by : (v : Bool) → AreBelow count (filter t ys) → (k x : ℕ) → slice_get (cond v (y ∷ filter t ys) (filter t ys)) k ≡ Some x → x < count
    by true r zero x e = let same : y ≡ x = cc in subst (λ (z : ℕ). z < count) same (h 0 y refl)
    by true r (suc k) x e = r k x e
    by false r k x e = r k x e

-- the definers of a name are classes of the program
pub definers_below : (p : Program) (name proto : ℕ) → AreBelow (length p.classes) (definers_of p name proto)
definers_below p name proto = filter_below (length p.classes) (λ c. is_some (own_method p name proto c)) (range_with_len 0 (length p.classes)) (range_below (length p.classes) 0 (length p.classes) (omega arith))

position_below : {X : Type 0} (t : X → Bool) (xs : List X) (i : ℕ) → position t xs ≡ Some i → i < length xs
position_below t xs i e = by (nat_lt (position_or_len t xs) (length xs)) refl e
  where
    by : (v : Bool) → nat_lt (position_or_len t xs) (length xs) ≡ v → cond v (Some (position_or_len t xs)) None ≡ Some i → i < length xs
    by true l h = let same : position_or_len t xs ≡ i = cc in subst (λ (z : ℕ). z < length xs) same (ltb-true (position_or_len t xs) (length xs) l)
    by false l h = absurd (cc)

-- the class that a type names is one of the program
pub class_below : (p : Program) (kind class : ℕ) → class_place p kind ≡ Some class → class < length p.classes
class_below p kind class e = position_below (λ c. nat_eq c.name kind) p.classes class e

-- ---- a field resolves to one of a class of the program

some_is : {A : Type 0} (x y : A) → Some x ≡ Some y → x ≡ y
some_is x y e = cc

get_inside : {A : Type 0} (xs : List A) (n : ℕ) (x : A) → slice_get xs n ≡ Some x → n < length xs
get_inside [] n x e = absurd (cc)
get_inside (y ∷ xs) zero x e = omega arith
get_inside (y ∷ xs) (suc n) x e = let l : n < length xs = get_inside xs n x e in omega (arith, l)

module _ (p : Program) (name kind : ℕ) where
  abbrev Inside : ℕ × ℕ → Type 0
  Inside at = at.0 < length p.classes

  own_inside : (c : ℕ) (at : ℕ × ℕ) → own_field p name kind c ≡ Some at → Inside at
  own_inside c at h = by_class (slice_get p.classes c) refl h
    where
      by_place : (k : Class) (o : Option ℕ) → slice_get p.classes c ≡ Some k → ◌≡◌ {A = Option (ℕ × ℕ)} (option_map (λ (i : ℕ). (c, i)) o) (Some at) → Inside at
      by_place k None g e = absurd (cc)
      by_place k (Some i) g e = let same : ◌≡◌ {A = ℕ × ℕ} (c, i) at = cc in subst Inside same (get_inside p.classes c k g)

      by_class : (o : Option Class) → slice_get p.classes c ≡ o → field_of_class p name kind c o ≡ Some at → Inside at
      by_class None g e = absurd (cc)
      by_class (Some k) g e = by_place k (position (is_field p name kind) k.fields) g e

  first_inside : (f : ℕ → Option (ℕ × ℕ)) → ((c : ℕ) (at : ℕ × ℕ) → f c ≡ Some at → Inside at) → (cs : List ℕ) (at : ℕ × ℕ) → first_among f cs ≡ Some at → Inside at
  first_inside f h [] at g = absurd (cc)
  first_inside f h (c ∷ cs) at g = by_first (first_inside f h cs at) (f c) refl g
    where
      by_first : (first_among f cs ≡ Some at → Inside at) → (o : Option (ℕ × ℕ)) → f c ≡ o → option_or o (first_among f cs) ≡ Some at → Inside at
      by_first more None x g = more g
      by_first more (Some one) x g = h c at (x ∙ g)

  from_inside : (n c : ℕ) (at : ℕ × ℕ) → field_from n p name kind c ≡ Some at → Inside at
  from_inside zero c at h = absurd (cc)
  from_inside (suc n) c at h = by_own (first_inside (field_from n p name kind) (from_inside n) (interface_places p c ++ beside (super_place p c)) at) (own_field p name kind c) refl h
    where
      by_own : (first_among (field_from n p name kind) (interface_places p c ++ beside (super_place p c)) ≡ Some at → Inside at) → (o : Option (ℕ × ℕ)) → own_field p name kind c ≡ o
          → option_or o (first_among (field_from n p name kind) (interface_places p c ++ beside (super_place p c))) ≡ Some at → Inside at
      by_own more None g e = more e
      by_own more (Some one) g e = own_inside c at (g ∙ e)

  place_inside : (o : Option ℕ) (at : ℕ × ℕ) → option_and_then (field_from (length p.classes) p name kind) o ≡ Some at → Inside at
  place_inside None at h = absurd (cc)
  place_inside (Some c) at h = from_inside (length p.classes) c at h

field_inside : (p : Program) (o : Option FieldName) (at : ℕ × ℕ) → field_by p o ≡ Some at → at.0 < length p.classes
field_inside p None at h = absurd (cc)
field_inside p (Some q) at h = place_inside p q.name q.kind (class_place p q.class) at h

-- a field is quiet whose class is trivially initialised
pub quiet_there : (p : Program) (field : ℕ) (at : ℕ × ℕ) (r : Bool) → resolves_field p field ≡ Some at → (at.0 < length p.classes → r ≡ is_trivial p at.0) → r ≡ is_quiet_field p field
quiet_there p field at r there trivial = trivial (field_inside p (slice_get p.fields field) at there) ∙ sym (ap (λ (o : Option (ℕ × ℕ)). elim o as (λ o. Bool) [ Some at ↦ is_trivial p at.0 | None ↦ false ]) there)

-- ---- calls

-- what is looked up in a list
pub looked_up : {A : Type 0} (xs ys : List A) (i : ℕ) (x : A) → ys ≡ xs → true ≡ nat_lt i (length ys) → x ≡ get_or ys i x → slice_get xs i ≡ Some x
looked_up xs ys i x s l e = sym (ap (λ zs. slice_get zs i) s) ∙ (slice_get-get_or ys i x (ltb-true i (length ys) (sym l)) ∙ ap (λ y. Some y) (sym e))

-- what a call of a name of a program class brings
pub call_named : (p : Program) (facts : Facts) (caller : ℕ) (kind : InvokeKind) (method : ℕ) (q : MethodName) (class : ℕ) → slice_get p.methods method ≡ Some q → class_place p q.class ≡ Some class
    → kind_value p facts caller kind q.name q.proto class ≡ call_value p facts caller kind method
call_named p facts caller kind method q class e i =
    sym (ap (named_value p facts caller kind) e ∙ ap (λ (o : Option ℕ). elim o as (λ o. Parts) [ Some class ↦ kind_value p facts caller kind q.name q.proto class | None ↦ any_value ]) i)

-- and of a name of another class
pub call_unnamed : (p : Program) (facts : Facts) (caller : ℕ) (kind : InvokeKind) (method : ℕ) (q : MethodName) → slice_get p.methods method ≡ Some q → class_place p q.class ≡ None → any_value ≡ call_value p facts caller kind method
call_unnamed p facts caller kind method q e i =
    sym (ap (named_value p facts caller kind) e ∙ ap (λ (o : Option ℕ). elim o as (λ o. Parts) [ Some class ↦ kind_value p facts caller kind q.name q.proto class | None ↦ any_value ]) i)

-- ---- super calls

pub both_on : {A : Type 0} (a b : Bool) (x y : A) → a ≡ true → b ≡ true → x ≡ (if a && b then x else y)
both_on true true x y e f = refl
both_on true false x y e f = absurd (cc)
both_on false b x y e f = absurd (cc)

pub first_off : {A : Type 0} (a b : Bool) (x y : A) → a ≡ false → y ≡ (if a && b then x else y)
first_off true b x y e = absurd (cc)
first_off false b x y e = refl

pub second_off : {A : Type 0} (a b : Bool) (x y : A) → b ≡ false → y ≡ (if a && b then x else y)
second_off true true x y e = absurd (cc)
second_off true false x y e = refl
second_off false b x y e = refl
