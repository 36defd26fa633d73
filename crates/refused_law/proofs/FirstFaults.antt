-- A fault of first values that is answered stands there.
use Rattle.std.proofs.Common.{◌≡◌, ◌≤◌, ◌<◌, ℕ, zero, suc, ◌+◌, Bool, true, false, cond, ltb, List, [], ◌∷◌, ◌++◌, map, length, Option, Some, None, Result, Ok, refl, sym, ap, ◌∙◌, arith, true≢false}
use Rattle.std.specs.Prelude.{◌&&◌, ◌==◌, slice_get, nat_le, if◌then◌else◌}
use Rattle.std.specs.Int.{w16, w32, w64}
use Rattle.std.specs.Option.{option_map}
use Rattle.std.proofs.lemmas.Bool.{ltb-true, ltb-false, leb-true, eqb-true, eq-eqb}
use Rattle.lemmas.proofs.Bools.{none_or, untrue}
use Rattle.lemmas.proofs.Lists.{get_there, get_map}
use Rattle.lemmas.proofs.Options.{some_same, before_map}
use Rattle.dex_base.specs.Leb.{IsUlebAt}
use Rattle.program_model.specs.MemberRules.{field_letter}
use Rattle.program_model.specs.declared.limits.Counted.TheVariants.{Items}
use Rattle.program_model.specs.declared.program.Field.{Field}
use Rattle.program_model.specs.declared.program.Program.{Program}
use Rattle.program_model.specs.declared.value.EncValue.{EncValue, EncValue-F, roll-EncValue, out-EncValue, out-roll-EncValue}
use Rattle.program_model.specs.declared.value.EncValue.TheOpen as layer
use Rattle.program_model.specs.declared.value.EncValue.TheVariants as value
use Rattle.program_model.specs.declared.value.Element.{Element}
use Rattle.program_model.specs.declared.value.Note.{Note}
use Rattle.dex_pools.specs.declared.fault.PoolFault.TheVariants as pool
use Rattle.dex_pools.specs.declared.scalar.TableSizes.{TableSizes}
use Rattle.dex_pools.specs.Value.{most_argument, is_within, sign_extended, right_extended, numeric, naming, zero_extended, whole_value_at}
use Rattle.dex_defs.specs.Places.{IsEntryAt, Repeat, IsItemOf, HasArray, HasEntry}
use Rattle.dex_defs.specs.Places as places
use Rattle.dex_defs.specs.Placed.{ArrayCount}
use Rattle.dex_defs.specs.Placed as placed
use Rattle.dex_defs.specs.Faults.{HasLetter, HasFieldLetter, HasStatics}
use Rattle.dex_defs.specs.Faults as orders
use Rattle.dex_defs.specs.Values.{tag_at, argument_at, HasTag, IsValueIn, IsValue, suits, tag_of}
use Rattle.dex_defs.specs.Values as defs
use Rattle.dex_defs.specs.ClassFaults.{BadValues}
use Rattle.dex_read.specs.declared.class_data.Listed.{Listed}
use Rattle.dex_read.specs.declared.fault.DexFault.TheVariants as dex
use Rattle.dex_read.specs.Faults.{of_pool}
use Rattle.dex_read.specs.FirstValues.{is_of, with_first, takes, give_first, firsts_at}
use Rattle.dex_read.specs.Steps.{change_at, steps}
use Rattle.dex_read.specs.Tables.{sizes_in}
use Rattle.file_laws.specs.ClassData.{entry_of}
use Rattle.file_laws.proofs.Words.{finds_number}
use Rattle.file_laws.proofs.Founding.{lifted}
use Rattle.spelled_law.proofs.Firsts.{layer_same, founds_give}
use Rattle.spelled_law.proofs.Values.{founds_value}
use Rattle.refused_law.specs.Just.{IsJust}
use Rattle.refused_law.proofs.Entries.{fails_dex_number}
use Rattle.refused_law.proofs.Failing.{Fails, sound, unless, fails_next, fails_lifted, fails_more}
use Rattle.refused_law.proofs.Tables.{fails_spend}
use Rattle.refused_law.proofs.ValueFaults.{AreSizes, ends_of, repeat_more, fails_value}
use Rattle.refused_law.proofs.Whole.{just_pool}

-- ---- the type of a value that is read

differs : (m n : ℕ) → (m ≡ n → ⊥) → (m == n) ≡ false
differs m n other = untrue (m == n) (λ e. other (eqb-true m n e))

abbrev no_argument : Option ℕ
no_argument = None

no_most : (a b c d : Bool) → a ≡ false → b ≡ false → c ≡ false → d ≡ false → (if a then Some 0 else if b then Some 1 else if c then Some 3 else if d then Some 7 else None) ≡ no_argument
no_most true b c d h1 h2 h3 h4 = absurd cc
no_most false true c d h1 h2 h3 h4 = absurd cc
no_most false false true d h1 h2 h3 h4 = absurd cc
no_most false false false true h1 h2 h3 h4 = absurd cc
no_most false false false false h1 h2 h3 h4 = refl

layer_tag : (x : EncValue-F EncValue Element Note) (v : EncValue) → roll-EncValue x ≡ v → tag_of (out-EncValue v) ≡ tag_of x
layer_tag x v e = ap tag_of (ap out-EncValue (sym e) ∙ out-roll-EncValue x)

-- the only type of a number that none of these is
last_number_type : (kind argument : ℕ) → kind < 23 → is_within argument (most_argument kind) ≡ true → (kind == 0) ≡ false → (kind == 2) ≡ false → (kind == 3) ≡ false → (kind == 4) ≡ false → (kind == 6) ≡ false → (kind == 16) ≡ false → kind ≡ 17
last_number_type kind argument low within e0 e2 e3 e4 e6 e16 = by_last (kind == 17) refl
  where
    high : (n : ℕ) → 23 ≤ n → (kind == n) ≡ false
    high n le = differs kind n (λ is. omega (arith, is, le, low))

    middle : (nat_le 23 kind && nat_le kind 27) ≡ false
    middle = ap (λ (b : Bool). b && nat_le kind 27) (untrue (nat_le 23 kind) (λ e. let le = leb-true 23 kind e in omega (arith, le, low)))

    by_last : (b : Bool) → (kind == 17) ≡ b → kind ≡ 17
    by_last true e = eqb-true kind 17 e
    by_last false e = absurd (true≢false (sym within ∙ ap (is_within argument) (no_most _ _ _ _
        (none_or _ _ (none_or _ _ (none_or _ _ e0 (high 28 (omega arith))) (high 29 (omega arith))) (high 30 (omega arith)))
        (none_or _ _ (none_or _ _ e2 e3) (high 31 (omega arith)))
        (none_or _ _ (none_or _ _ e4 e16) middle) (none_or _ _ e6 e))))

number_tags : (few : List ℕ) (a b c d e f : Bool) → tag_of (out-EncValue (cond a (value.Byte (sign_extended few)) (cond b (value.Short (sign_extended few)) (cond c (value.Char (zero_extended w16 few)) (cond d (value.Int (sign_extended few))
    (cond e (value.Long (sign_extended few)) (cond f (value.Float (right_extended w32 few)) (value.Double (right_extended w64 few))))))))) ≡ cond a 0 (cond b 2 (cond c 3 (cond d 4 (cond e 6 (cond f 16 17)))))
number_tags few true b c d e f = layer_tag (layer.Byte (sign_extended few)) _ (value.rolls-Byte (sign_extended few))
number_tags few false true c d e f = layer_tag (layer.Short (sign_extended few)) _ (value.rolls-Short (sign_extended few))
number_tags few false false true d e f = layer_tag (layer.Char (zero_extended w16 few)) _ (value.rolls-Char (zero_extended w16 few))
number_tags few false false false true e f = layer_tag (layer.Int (sign_extended few)) _ (value.rolls-Int (sign_extended few))
number_tags few false false false false true f = layer_tag (layer.Long (sign_extended few)) _ (value.rolls-Long (sign_extended few))
number_tags few false false false false false true = layer_tag (layer.Float (right_extended w32 few)) _ (value.rolls-Float (right_extended w32 few))
number_tags few false false false false false false = layer_tag (layer.Double (right_extended w64 few)) _ (value.rolls-Double (right_extended w64 few))

number_chain : (kind : ℕ) (a b c d e f : Bool) → (kind == 0) ≡ a → (kind == 2) ≡ b → (kind == 3) ≡ c → (kind == 4) ≡ d → (kind == 6) ≡ e → (kind == 16) ≡ f
    → ((kind == 0) ≡ false → (kind == 2) ≡ false → (kind == 3) ≡ false → (kind == 4) ≡ false → (kind == 6) ≡ false → (kind == 16) ≡ false → kind ≡ 17) → cond a 0 (cond b 2 (cond c 3 (cond d 4 (cond e 6 (cond f 16 17))))) ≡ kind
number_chain kind true b c d e f ea eb ec ed ee ef last = sym (eqb-true kind 0 ea)
number_chain kind false true c d e f ea eb ec ed ee ef last = sym (eqb-true kind 2 eb)
number_chain kind false false true d e f ea eb ec ed ee ef last = sym (eqb-true kind 3 ec)
number_chain kind false false false true e f ea eb ec ed ee ef last = sym (eqb-true kind 4 ed)
number_chain kind false false false false true f ea eb ec ed ee ef last = sym (eqb-true kind 6 ee)
number_chain kind false false false false false true ea eb ec ed ee ef last = sym (eqb-true kind 16 ef)
number_chain kind false false false false false false ea eb ec ed ee ef last = sym (last ea eb ec ed ee ef)

number_tag : (kind argument : ℕ) (few : List ℕ) → kind < 23 → is_within argument (most_argument kind) ≡ true → tag_of (out-EncValue (numeric kind few)) ≡ kind
number_tag kind argument few low within = number_tags few (kind == 0) (kind == 2) (kind == 3) (kind == 4) (kind == 6) (kind == 16)
    ∙ number_chain kind (kind == 0) (kind == 2) (kind == 3) (kind == 4) (kind == 6) (kind == 16) refl refl refl refl refl refl (last_number_type kind argument low within)

name_tags : (n : ℕ) (a b c d : Bool) → tag_of (out-EncValue (cond a (value.Str n) (cond b (value.Class n) (cond c (value.Field n) (cond d (value.Method n) (value.Enum n)))))) ≡ cond a 23 (cond b 24 (cond c 25 (cond d 26 27)))
name_tags n true b c d = layer_tag (layer.Str n) _ (value.rolls-Str n)
name_tags n false true c d = layer_tag (layer.Class n) _ (value.rolls-Class n)
name_tags n false false true d = layer_tag (layer.Field n) _ (value.rolls-Field n)
name_tags n false false false true = layer_tag (layer.Method n) _ (value.rolls-Method n)
name_tags n false false false false = layer_tag (layer.Enum n) _ (value.rolls-Enum n)

name_chain : (kind : ℕ) (a b c d : Bool) → 23 ≤ kind → kind < 28 → (kind == 23) ≡ a → (kind == 24) ≡ b → (kind == 25) ≡ c → (kind == 26) ≡ d → cond a 23 (cond b 24 (cond c 25 (cond d 26 27))) ≡ kind
name_chain kind true b c d high low ea eb ec ed = sym (eqb-true kind 23 ea)
name_chain kind false true c d high low ea eb ec ed = sym (eqb-true kind 24 eb)
name_chain kind false false true d high low ea eb ec ed = sym (eqb-true kind 25 ec)
name_chain kind false false false true high low ea eb ec ed = sym (eqb-true kind 26 ed)
name_chain kind false false false false high low ea eb ec ed =
    let not_it : (n : ℕ) → (kind == n) ≡ false → kind ≡ n → ⊥ = λ n e is. true≢false (sym (eq-eqb kind n is) ∙ e) in
    omega (arith, high, low, not_it 23 ea, not_it 24 eb, not_it 25 ec, not_it 26 ed)

name_tag : (kind n : ℕ) → 23 ≤ kind → kind < 28 → tag_of (out-EncValue (naming kind n)) ≡ kind
name_tag kind n high low = name_tags n (kind == 23) (kind == 24) (kind == 25) (kind == 26) ∙ name_chain kind (kind == 23) (kind == 24) (kind == 25) (kind == 26) high low refl refl refl refl

pub record HasType (bytes : List ℕ) (at : ℕ) (v : EncValue) : Type 0 where
  pub has : HasTag bytes at
  pub is : tag_of (out-EncValue v) ≡ tag_at bytes at

pub value_type : (bytes : List ℕ) (sizes : TableSizes) (Is : ℕ → EncValue × ℕ → Type 0) (at : ℕ) (r : EncValue × ℕ) → IsValueIn bytes sizes Is at r → HasType bytes at r.0
value_type bytes sizes Is at r (defs.Number few tag low h is) = record { has = tag; is = ap (λ (x : EncValue × ℕ). tag_of (out-EncValue x.0)) is ∙ number_tag (tag_at bytes at) (argument_at bytes at) few low tag.1 }
value_type bytes sizes Is at r (defs.Name few tag high low h below is) = record { has = tag; is = ap (λ (x : EncValue × ℕ). tag_of (out-EncValue x.0)) is ∙ name_tag (tag_at bytes at) (zero_extended w32 few) high low }
value_type bytes sizes Is at r (defs.Array items stop tag e h is) = record { has = tag; is = ap (λ (x : EncValue × ℕ). tag_of (out-EncValue x.0)) is ∙ layer_tag (layer.Array items) (value.Array items) (value.rolls-Array items) ∙ sym e }
value_type bytes sizes Is at r (defs.Annotation note stop tag e h is) = record { has = tag; is = ap (λ (x : EncValue × ℕ). tag_of (out-EncValue x.0)) is ∙ layer_tag (layer.Annotation note) (value.Annotation note) (value.rolls-Annotation note) ∙ sym e }
value_type bytes sizes Is at r (defs.Null tag e is) = record { has = tag; is = ap (λ (x : EncValue × ℕ). tag_of (out-EncValue x.0)) is ∙ layer_tag layer.Null value.Null value.rolls-Null ∙ sym e }
value_type bytes sizes Is at r (defs.Boolean tag e is) = record {
  has = tag;
  is = ap (λ (x : EncValue × ℕ). tag_of (out-EncValue x.0)) is ∙ layer_tag (layer.Bool (argument_at bytes at == 1)) (value.Bool (argument_at bytes at == 1)) (value.rolls-Bool (argument_at bytes at == 1)) ∙ sym e;
}

-- ---- one value behind another

pub fails_steps : {S F : Type 0} {Has : F → Type 0} (f : ℕ → S → Result S F) (Good : ℕ → S → Type 0) → ((i : ℕ) (s t : S) → Good i s → f i s ≡ Ok t → Good (suc i) t) → (total : ℕ) → ((i : ℕ) (s : S) → i < total → Good i s → Fails Has (f i s))
    → (from n : ℕ) (s : S) → from + n ≡ total → Good from s → Fails Has (steps f from n s)
fails_steps f Good more total each from zero s all good = sound s
fails_steps f Good more total each from (suc n) s all good = fails_next (each from s (omega (arith, all)) good) (λ t h. fails_steps f Good more total each (suc from) n t (omega (arith, all)) (more from s t good h))

names_kept : (v : EncValue) (place : ℕ) (fs : List Field) → map (λ (f : Field). f.name) (change_at (with_first v) place fs) ≡ map (λ (f : Field). f.name) fs
names_kept v place [] = refl
names_kept v zero (f ∷ fs) = refl
names_kept v (suc place) (f ∷ fs) = ap (λ (ns : List ℕ). f.name ∷ ns) (names_kept v place fs)

-- what is known of a class whose first values are read
pub record HasStatic (bytes : List ℕ) (p : Program) (class : ℕ) (statics : List Listed) : Type 0 where
  pub count : HasStatics bytes class (length statics)
  pub entries : (i : ℕ) (e : Listed) → slice_get statics i ≡ Some e → HasEntry bytes class 0 i (entry_of e)
  pub letters : (i : ℕ) (e : Listed) → slice_get statics i ≡ Some e → HasFieldLetter bytes e.number (field_letter p (slice_get p.fields e.number))

module _ (bytes : List ℕ) (p : Program) (are : AreSizes bytes (sizes_in p)) (class at : ℕ) (has : HasArray bytes class at) (statics : List Listed) (known_of : HasStatic bytes p class statics) (more_names : List ℕ) where
  -- the values before, and the fields by their numbers
  record IsGood (begin i : ℕ) (s : List Field × (ℕ × ℕ)) : Type 0 where
    behind : Repeat (places.Ends bytes) i begin s.1.0
    named : map (λ (f : Field). f.name) s.0 ≡ map (λ (e : Listed). e.number) statics ++ more_names

  front_at : (es : List Listed) (ns : List ℕ) (i : ℕ) (e : Listed) → slice_get es i ≡ Some e → slice_get (map (λ (e : Listed). e.number) es ++ ns) i ≡ Some e.number
  front_at [] ns i e h = absurd cc
  front_at (x ∷ xs) ns zero e h = ap (λ (y : Listed). Some y.number) (some_same x e h)
  front_at (x ∷ xs) ns (suc i) e h = front_at xs ns i e h

  module _ (count begin : ℕ) (is_count : IsUlebAt bytes at (count, begin)) (i : ℕ) (s : List Field × (ℕ × ℕ)) (less : i < count) (good : IsGood begin i s) where
    item : IsItemOf bytes at i s.1.0
    item = places.Item count begin is_count less good.behind

    unfit : (v : EncValue) (stop : ℕ) → IsValue bytes (sizes_in p) 64 s.1.0 (v, stop) → i < length statics → takes p v (slice_get s.0 i) ≡ false → IsJust bytes (dex.Pool (pool.BadValue s.1.0))
    unfit v stop is inside h =
        let e = get_there statics i inside in
        let named : option_map (λ (f : Field). f.name) (slice_get s.0 i) ≡ Some e.0.number = sym (get_map (λ (f : Field). f.name) s.0 i) ∙ ap (λ (ns : List ℕ). slice_get ns i) good.named ∙ front_at statics more_names i e.0 e.1 in
        let f = before_map (λ (f : Field). f.name) (slice_get s.0 i) e.0.number named in
        let type_of = value_type bytes (sizes_in p) (IsValue bytes (sizes_in p) 63) s.1.0 (v, stop) is in
        let letter = field_letter p (slice_get p.fields e.0.number) in
        let not_of : is_of letter v ≡ false = ap (λ (n : ℕ). is_of (field_letter p (slice_get p.fields n)) v) (sym f.1.1) ∙ sym (ap (takes p v) f.1.0) ∙ h in
        BadValues (orders.Unfit class at i s.1.0 letter (entry_of e.0) has item type_of.has (known_of.entries i e.0 e.1) (known_of.letters i e.0 e.1)
        (ap (suits letter) (sym type_of.is) ∙ sym (layer_same letter (out-EncValue v)) ∙ not_of) refl)

    past_or_unfit : (v : EncValue) (stop : ℕ) → IsValue bytes (sizes_in p) 64 s.1.0 (v, stop) → (b : Bool) → ltb i (length statics) ≡ b → (b && takes p v (slice_get s.0 i)) ≡ false → IsJust bytes (dex.Pool (pool.BadValue s.1.0))
    past_or_unfit v stop is true e h = unfit v stop is (ltb-true i (length statics) e) h
    past_or_unfit v stop is false e h = BadValues (orders.Past class at i s.1.0 (length statics) has item known_of.count (ltb-false i (length statics) e) refl)

    fails_give : Fails (IsJust bytes) (give_first bytes p (length statics) i s)
    unfolding give_first whole_value_at
    fails_give = fails_next (fails_lifted of_pool (fails_more (just_pool bytes) (fails_value bytes (sizes_in p) are 64 1 (omega arith) s.1 (places.First class at i has item)))) (λ v h.
        unless (dex.Pool (pool.BadValue s.1.0)) (λ none. past_or_unfit v.0 v.1.0 ((lifted of_pool (founds_value bytes (sizes_in p) 64 s.1)).found v h) (ltb i (length statics)) refl none) (λ _. sound (change_at (with_first v.0) i s.0, v.1)))

  give_more : (begin i : ℕ) (s t : List Field × (ℕ × ℕ)) → IsGood begin i s → give_first bytes p (length statics) i s ≡ Ok t → IsGood begin (suc i) t
  give_more begin i s t good h = let g = (founds_give bytes p (length statics) i s).found t h in record {
    behind = repeat_more (places.Ends bytes) i begin s.1.0 t.1.0 good.behind (ends_of bytes (sizes_in p) 64 s.1.0 (g.v, t.1.0) g.is);
    named = ap (λ (fs : List Field). map (λ (f : Field). f.name) fs) g.fields ∙ names_kept g.v i s.0 ∙ good.named;
  }

  pub fails_firsts : (fields : List Field) (left : ℕ) → map (λ (f : Field). f.name) fields ≡ map (λ (e : Listed). e.number) statics ++ more_names → Fails (IsJust bytes) (firsts_at bytes p at (length statics) fields left)
  unfolding firsts_at
  fails_firsts fields left named = fails_next (fails_dex_number bytes at (placed.Classes (ArrayCount class at has))) (λ count h.
      fails_next (fails_lifted of_pool (fails_more (just_pool bytes) (fails_spend bytes Items count.0 left))) (λ behind _.
      let is_count = (finds_number bytes at).found count h in
      fails_next (fails_steps (give_first bytes p (length statics)) (IsGood count.1) (give_more count.1) count.0
      (λ i s less good. fails_give count.0 count.1 is_count i s less good) 0 count.0 (fields, (count.1, behind)) (omega arith) (record { behind = refl; named = named })) (λ given _. sound (given.0, given.1.1))))
