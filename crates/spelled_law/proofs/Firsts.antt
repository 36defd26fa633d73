-- First values that are read are spelled, and the static fields have them in their order.
use Rattle.std.proofs.Common.{◌≡◌, ◌≤◌, ◌<◌, ◌⊎◌, inl, inr, ℕ, zero, suc, ◌+◌, Bool, true, cond, ltb, List, [], ◌∷◌, ◌++◌, length, Some, None, Ok, refl, sym, ap, subst, ◌∙◌, arith, true≢false, append_assoc}
use Rattle.std.specs.Prelude.{slice_get}
use Rattle.std.proofs.lemmas.Bool.{ltb-true, eqb-true, eq-eqb}
use Rattle.std.proofs.lemmas.List.{length-append}
use Rattle.lemmas.proofs.Bools.{and_parts}
use Rattle.dex_base.specs.Decides.{ChainOf}
use Rattle.dex_base.specs.Leb.{IsUlebAt}
use Rattle.program_model.specs.MemberRules.{field_letter}
use Rattle.program_model.specs.declared.limits.Counted.TheVariants.{Items}
use Rattle.program_model.specs.declared.program.Field.{Field}
use Rattle.program_model.specs.declared.program.Program.{Program}
use Rattle.program_model.specs.declared.value.EncValue.{EncValue, EncValue-F, out-EncValue}
use Rattle.program_model.specs.declared.value.EncValue.TheOpen as value
use Rattle.program_model.specs.declared.value.Element.{Element}
use Rattle.program_model.specs.declared.value.Note.{Note}
use Rattle.dex_pools.specs.Items.{spend}
use Rattle.dex_pools.specs.Value.{whole_value_at}
use Rattle.dex_defs.specs.Values.{IsValue, AreValues, AreValuesOf, suits, tag_of}
use Rattle.dex_defs.specs.Values as defs
use Rattle.dex_read.specs.Classes.{begun_at}
use Rattle.dex_read.specs.Faults.{of_pool}
use Rattle.dex_read.specs.FirstValues.{layer_is_of, layer_is_zero, is_of, first_of, with_first, takes, give_first, firsts_at}
use Rattle.dex_read.specs.Steps.{change_at, steps}
use Rattle.dex_read.specs.Tables.{sizes_in}
use Rattle.file_laws.specs.Founds.{Founds}
use Rattle.file_laws.proofs.Founding.{known, weaker, done, when, either, next, lifted}
use Rattle.file_laws.proofs.Bodies.{whatever}
use Rattle.file_laws.proofs.Words.{finds_number}
use Rattle.spelled_law.proofs.Values.{founds_value}

-- ---- the same tests

pub layer_same : (letter : ℕ) (x : EncValue-F EncValue Element Note) → layer_is_of letter x ≡ suits letter (tag_of x)
layer_same letter (value.Byte n) = refl
layer_same letter (value.Short n) = refl
layer_same letter (value.Char n) = refl
layer_same letter (value.Int n) = refl
layer_same letter (value.Long n) = refl
layer_same letter (value.Float n) = refl
layer_same letter (value.Double n) = refl
layer_same letter (value.Str n) = refl
layer_same letter (value.Class n) = refl
layer_same letter (value.Field n) = refl
layer_same letter (value.Method n) = refl
layer_same letter (value.Enum n) = refl
layer_same letter (value.Array n) = refl
layer_same letter (value.Annotation n) = refl
layer_same letter value.Null = refl
layer_same letter (value.Bool n) = refl

zero_same : (x : EncValue-F EncValue Element Note) → layer_is_zero x ≡ defs.layer_is_zero x
zero_same (value.Byte n) = refl
zero_same (value.Short n) = refl
zero_same (value.Char n) = refl
zero_same (value.Int n) = refl
zero_same (value.Long n) = refl
zero_same (value.Float n) = refl
zero_same (value.Double n) = refl
zero_same (value.Str n) = refl
zero_same (value.Class n) = refl
zero_same (value.Field n) = refl
zero_same (value.Method n) = refl
zero_same (value.Enum n) = refl
zero_same (value.Array n) = refl
zero_same (value.Annotation n) = refl
zero_same value.Null = refl
zero_same (value.Bool n) = refl

pub first_same : (v : EncValue) → first_of v ≡ defs.first_of v
first_same v = ap (λ (b : Bool). cond b None (Some v)) (zero_same (out-EncValue v))

-- ---- fields with values, one by one

abbrev pub Begun : Program → List EncValue → List Field → List Field → Type 0
Begun p [] xs ys = ys ≡ xs
Begun p (v ∷ vs) [] ys = ⊥
Begun p (v ∷ vs) (x ∷ xs) [] = ⊥
Begun p (v ∷ vs) (x ∷ xs) (y ∷ ys) = (is_of (field_letter p (slice_get p.fields x.name)) v ≡ true) × (y ≡ with_first v x) × Begun p vs xs ys

pub record IsGiven (bytes : List ℕ) (p : Program) (statics i : ℕ) (s r : List Field × (ℕ × ℕ)) : Type 0 where
  pub v : EncValue
  pub is : IsValue bytes (sizes_in p) 64 s.1.0 (v, r.1.0)
  pub inside : i < statics
  pub fits : takes p v (slice_get s.0 i) ≡ true
  pub fields : r.0 ≡ change_at (with_first v) i s.0

pub founds_give : (bytes : List ℕ) (p : Program) (statics i : ℕ) (s : List Field × (ℕ × ℕ)) → Founds (IsGiven bytes p statics i s) (give_first bytes p statics i s)
unfolding give_first whole_value_at
founds_give bytes p statics i s = weaker (give_first bytes p statics i s)
    (next (lifted of_pool (founds_value bytes (sizes_in p) 64 s.1)) (λ v _. when _ (done (change_at (with_first v.0) i s.0, v.1))))
    (λ y q. let t = and_parts (ltb i statics) (takes p q.0.0 (slice_get s.0 i)) q.2.0 in record {
      v = q.0.0;
      is = subst (λ (n : ℕ). IsValue bytes (sizes_in p) 64 s.1.0 (q.0.0, n)) (ap (λ (r : List Field × (ℕ × ℕ)). r.1.0) (sym q.2.1)) q.1;
      inside = ltb-true i statics t.0;
      fits = t.1;
      fields = ap (λ (r : List Field × (ℕ × ℕ)). r.0) q.2.1;
    })

-- ---- the field behind those that were given a value

record IsOpened (p : Program) (v : EncValue) (rest : List Field) : Type 0 where
  x : Field
  xs : List Field
  is : rest ≡ x ∷ xs
  fits : is_of (field_letter p (slice_get p.fields x.name)) v ≡ true

none_behind : (front : List Field) → slice_get (front ++ []) (length front) ≡ None
none_behind [] = refl
none_behind (x ∷ xs) = none_behind xs

one_behind : (front : List Field) (x : Field) (xs : List Field) → slice_get (front ++ x ∷ xs) (length front) ≡ Some x
one_behind [] x xs = refl
one_behind (y ∷ ys) x xs = one_behind ys x xs

changed_behind : (front : List Field) (change : Field → Field) (x : Field) (xs : List Field) → change_at change (length front) (front ++ x ∷ xs) ≡ front ++ change x ∷ xs
changed_behind [] change x xs = refl
changed_behind (y ∷ ys) change x xs = ap (λ zs. y ∷ zs) (changed_behind ys change x xs)

opened : (p : Program) (v : EncValue) (front rest : List Field) → takes p v (slice_get (front ++ rest) (length front)) ≡ true → IsOpened p v rest
opened p v front [] h = absurd (true≢false (sym h ∙ ap (takes p v) (none_behind front)))
opened p v front (x ∷ xs) h = record { x = x; xs = xs; is = refl; fits = sym (ap (takes p v) (one_behind front x xs)) ∙ h }

-- ---- so many values

record AreGiven (bytes : List ℕ) (p : Program) (statics from n : ℕ) (front rest : List Field) (s r : List Field × (ℕ × ℕ)) : Type 0 where
  values : List EncValue
  many : length values ≡ n
  chain : ChainOf (IsValue bytes (sizes_in p) 64) s.1.0 values r.1.0
  behind : List Field
  is : r.0 ≡ front ++ behind
  begun : Begun p values rest behind
  few : (n ≡ 0) ⊎ (from + n ≤ statics)

abbrev Given : List ℕ → Program → ℕ → ℕ → ℕ → List Field × (ℕ × ℕ) → List Field × (ℕ × ℕ) → Type 0
Given bytes p statics from n s r = (front rest : List Field) → length front ≡ from → s.0 ≡ front ++ rest → AreGiven bytes p statics from n front rest s r

fewer : (from n statics : ℕ) → from < statics → (n ≡ 0) ⊎ (suc from + n ≤ statics) → from + suc n ≤ statics
fewer from n statics less (inl e) = omega (arith, less, e)
fewer from n statics less (inr e) = omega (arith, e)

begun_with : (p : Program) (v : EncValue) (vs : List EncValue) (rest behind : List Field) (o : IsOpened p v rest) → Begun p vs o.xs behind → Begun p (v ∷ vs) rest (with_first v o.x ∷ behind)
begun_with p v vs rest behind o h = subst (λ (zs : List Field). Begun p (v ∷ vs) zs (with_first v o.x ∷ behind)) (sym o.is) (o.fits, refl, h)

founds_given : (bytes : List ℕ) (p : Program) (statics from n : ℕ) (s : List Field × (ℕ × ℕ)) → Founds (Given bytes p statics from n s) (steps (give_first bytes p statics) from n s)
founds_given bytes p statics from zero s = weaker (steps (give_first bytes p statics) from zero s) (done s)
    (λ y e front rest long is. record {
      values = [];
      many = refl;
      chain = ap (λ (r : List Field × (ℕ × ℕ)). r.1.0) e;
      behind = rest;
      is = ap (λ (r : List Field × (ℕ × ℕ)). r.0) e ∙ is;
      begun = refl;
      few = inl refl;
    })
founds_given bytes p statics from (suc n) s = weaker (steps (give_first bytes p statics) from (suc n) s)
    (next (founds_give bytes p statics from s) (λ t _. founds_given bytes p statics (suc from) n t))
    (λ y q front rest long is.
    let h = q.1 in
    let o : IsOpened p h.v rest = opened p h.v front rest
    (subst (λ (k : ℕ). takes p h.v (slice_get (front ++ rest) k) ≡ true) (sym long) (subst (λ (fs : List Field). takes p h.v (slice_get fs from) ≡ true) is h.fits)) in
    let put = with_first h.v o.x in
    let here : q.0.0 ≡ front ++ put ∷ o.xs = h.fields ∙ ap (change_at (with_first h.v) from) is ∙ ap (λ (k : ℕ). change_at (with_first h.v) k (front ++ rest)) (sym long)
    ∙ ap (λ (zs : List Field). change_at (with_first h.v) (length front) (front ++ zs)) o.is ∙ changed_behind front (with_first h.v) o.x o.xs in
    let longer : length (front ++ put ∷ []) ≡ suc from = omega (arith, length-append front (put ∷ []), long) in
    let g = q.2 (front ++ put ∷ []) o.xs longer (here ∙ sym (append_assoc front (put ∷ []) o.xs)) in
    record {
      values = h.v ∷ g.values;
      many = ap suc g.many;
      chain = (q.0.1.0, h.is, g.chain);
      behind = put ∷ g.behind;
      is = g.is ∙ append_assoc front (put ∷ []) g.behind;
      begun = begun_with p h.v g.values rest g.behind o g.begun;
      few = inr (fewer from n statics h.inside g.few);
    })

-- ---- the array at an offset

-- the values that stand at the offset, and the fields that have them
pub record AreBegun (bytes : List ℕ) (p : Program) (offset statics : ℕ) (fields behind : List Field) : Type 0 where
  pub values : List EncValue
  pub are : AreValuesOf bytes (sizes_in p) offset values
  pub few : length values ≤ statics
  pub begun : Begun p values fields behind

few_values : (vs : List EncValue) (n statics : ℕ) → length vs ≡ n → (n ≡ 0) ⊎ (0 + n ≤ statics) → length vs ≤ statics
few_values vs n statics many (inl e) = omega (arith, many, e)
few_values vs n statics many (inr e) = omega (arith, many, e)

by_place : (bytes : List ℕ) (p : Program) (offset : ℕ) (vs : List EncValue) → (offset ≡ 0 → ⊥) → AreValues bytes (sizes_in p) offset vs → AreValuesOf bytes (sizes_in p) offset vs
by_place bytes p zero vs other h = absurd (other refl)
by_place bytes p (suc k) vs other h = h

founds_firsts : (bytes : List ℕ) (p : Program) (at statics : ℕ) (fields : List Field) (left : ℕ) → (at ≡ 0 → ⊥) → Founds (λ r. AreBegun bytes p at statics fields r.0) (firsts_at bytes p at statics fields left)
unfolding firsts_at
founds_firsts bytes p at statics fields left other = weaker (firsts_at bytes p at statics fields left)
    (next (known (finds_number bytes at)) (λ count _. next (lifted of_pool (whatever (spend Items count.0 left))) (λ behind _.
    next (founds_given bytes p statics 0 count.0 (fields, (count.1, behind))) (λ given _. done (given.0, given.1.1)))))
    (λ y q. let given = q.2.2 in
    let g : AreGiven bytes p statics 0 q.0.0 [] fields (fields, (q.0.1, q.2.0)) given.0 = given.1 [] fields refl refl in
    subst (λ (r : List Field × ℕ). AreBegun bytes p at statics fields r.0) (sym given.2) (record {
      values = g.values;
      are = by_place bytes p at g.values other (record {
        stop = given.0.1.0;
        are = record { begin = q.0.1; count = subst (λ (k : ℕ). IsUlebAt bytes at (k, q.0.1)) (sym g.many) q.1; are = g.chain };
      });
      few = few_values g.values q.0.0 statics g.many g.few;
      begun = subst (Begun p g.values fields) (sym g.is) g.begun;
    }))

pub founds_begun : (bytes : List ℕ) (p : Program) (offset statics : ℕ) (fields : List Field) (left : ℕ) → Founds (λ r. AreBegun bytes p offset statics fields r.0) (begun_at bytes p offset statics fields left)
unfolding begun_at
founds_begun bytes p offset statics fields left = either
    (λ e. weaker (Ok (fields, left)) (done (fields, left)) (λ y q. subst (λ (r : List Field × ℕ). AreBegun bytes p offset statics fields r.0) (sym q) (record {
      values = [];
      are = subst (λ (n : ℕ). AreValuesOf bytes (sizes_in p) n []) (sym (eqb-true offset 0 e)) refl;
      few = omega arith;
      begun = refl;
    })))
    (λ e. founds_firsts bytes p offset statics fields left (λ is. true≢false (sym (eq-eqb offset 0 is) ∙ e)))

-- ---- the static fields alone

pub split : (p : Program) (vs : List EncValue) (xs zs ys : List Field) → length vs ≤ length xs → Begun p vs (xs ++ zs) ys → (front : List Field) × (ys ≡ front ++ zs) × Begun p vs xs front
split p [] xs zs ys few h = (xs, h, refl)
split p (v ∷ vs) [] zs ys few h = absurd (omega (arith, few))
split p (v ∷ vs) (x ∷ xs) zs [] few h = absurd h
split p (v ∷ vs) (x ∷ xs) zs (y ∷ ys) few h =
    let r = split p vs xs zs ys (omega (arith, few)) h.2 in
    (y ∷ r.0, ap (λ (fs : List Field). y ∷ fs) r.1, (h.0, h.1, r.2))
