-- Values and annotations are spelled where their texts stand.
use Rattle.std.proofs.Common.{◌≡◌, ◌≤◌, ◌<◌, ◌+◌, ◌-◌, ◌*◌, ◌/◌, ◌%◌, ◌^◌, ℕ, zero, suc, ℤ, pos, negsuc, Bool, true, false, List, [], ◌∷◌, ◌++◌, length, map, take, drop, refl, sym, ap, subst, ◌∙◌, arith, length-append, get_or, ltb-true}
use Rattle.std.specs.Prelude.{slice_index, nat_lt, nat_le, min, ◌==◌, if◌then◌else◌, FitsSigned, Some}
use Rattle.std.specs.Int.{Width, w8, w16, w32, w64, to_le_bytes, cast_unsigned}
use Rattle.std.specs.List.{concat, flat_map, AllByRecursion}
use Rattle.std.proofs.Math.Seq.{drop-cons}
use Rattle.std.proofs.lemmas.Bool.{le-leb, lt-ltb}
use Rattle.std.proofs.lemmas.List.{length-map, length-take-le}
use Rattle.dex_base.specs.Leb.{uleb_text, IsUlebAt}
use Rattle.dex_base.specs.Decides.{ChainOf}
use Rattle.dex_pools.specs.declared.scalar.TableSizes.{TableSizes}
use Rattle.dex_pools.specs.Finds.{Ascends}
use Rattle.dex_pools.specs.Value.{most_argument, is_within, numeric, naming, size_for, zero_extended, right_extended, sign_extended, element_below}
use Rattle.dex_pools.specs.Written.{tagged, unsigned_len, unsigned_few, magnitude, signed_len, signed_few, float_zeros, float_few, double_zeros, double_few, listed, list_text}
use Rattle.program_model.specs.declared.value.EncValue.{EncValue, EncValue-F, roll-EncValue, out-EncValue, out-roll-EncValue, fold-roll-EncValue}
use Rattle.program_model.specs.declared.value.EncValue.TheOpen as layer
use Rattle.program_model.specs.declared.value.EncValue.TheVariants as variant
use Rattle.program_model.specs.declared.value.EncValue.TheFolds as folds
use Rattle.program_model.specs.declared.value.EncValue.TheFolds.{ind-EncValue, ind-Note}
use Rattle.program_model.specs.declared.value.Element.{Element, fold-Element, fold_out-Element}
use Rattle.program_model.specs.declared.value.Note.{Note, Note-F, roll-Note, out-Note, out-roll-Note, fold_out-Note}
use Rattle.program_model.specs.declared.value.Mark.{Mark}
use Rattle.dex_defs.specs.Here.{Here}
use Rattle.dex_defs.specs.Values.{tag_at, argument_at, HasTag, HasFew, AreItems, IsElement, IsNote, IsValueIn, Number, Name, Array, Annotation, Null, Boolean, IsValue, AreValues}
use Rattle.dex_defs.specs.Annotations.{IsMark}
use Rattle.dex_defs.specs.ValueTexts.{layer_text, element_text, note_layer_text, value_text, note_text, mark_text, array_text}
use Rattle.write_laws.proofs.Here.{here_left, here_right, here_is, here_same, here_uleb}
use Rattle.written_file.specs.Fitting.{SizesFit, NoteFits, LayerFits, ValueFits, MarkFits}
use Rattle.written_file.proofs.Numbers.{unsigned_back, half_back, signed_back, float_back, double_back}

-- ---- the first byte

pub first_byte : (bytes : List ℕ) (at b : ℕ) (t : List ℕ) → Here bytes at (b ∷ t) → (at < length bytes) × (slice_index bytes at ≡ b)
first_byte bytes at b t h =
    let lt : at < length bytes = omega (arith, h.inside) in
    let cons : drop at bytes ≡ get_or bytes at 0 ∷ drop (suc at) bytes = drop-cons bytes at 0 lt in
    (lt, ap (λ (l : List ℕ). slice_index l 0) (sym (ap (λ (l : List ℕ). take (suc (length t)) l) cons) ∙ h.is))

-- what a first byte says of a type and an argument
record Tagged (bytes : List ℕ) (at kind argument : ℕ) : Type 0 where
  tag : tag_at bytes at ≡ kind
  argument_is : argument_at bytes at ≡ argument
  has : is_within argument (most_argument kind) ≡ true → HasTag bytes at

tag_is : (bytes : List ℕ) (at kind argument : ℕ) (t : List ℕ) → kind < 32 → Here bytes at ((kind + 32 * argument) ∷ t) → Tagged bytes at kind argument
tag_is bytes at kind argument t lt h =
    let first = first_byte bytes at (kind + 32 * argument) t h in
    let tag : tag_at bytes at ≡ kind = ap (λ (n : ℕ). n % 32) first.1 ∙ omega (arith, lt) in
    let argument_is : argument_at bytes at ≡ argument = ap (λ (n : ℕ). n / 32) first.1 ∙ omega (arith, lt) in
    record {
      tag = tag;
      argument_is = argument_is;
      has = λ w. (first.0, ap (λ (a : ℕ). is_within a (most_argument (tag_at bytes at))) argument_is ∙ (ap (λ (k : ℕ). is_within argument (most_argument k)) tag ∙ w));
    }

-- ---- numbers, and names of entries

few_here : (bytes : List ℕ) (at kind : ℕ) (few : List ℕ) → 1 ≤ length few → Tagged bytes at kind (length few - 1) → Here bytes at (tagged kind few) → HasFew bytes at few
few_here bytes at kind few some t h = record {
  many = omega (arith, t.argument_is, some);
  here = here_is bytes (at + length ((kind + 32 * (length few - 1)) ∷ [])) (at + 1) few (omega arith) (here_right bytes at ((kind + 32 * (length few - 1)) ∷ []) few h);
}

pair_is : {X : Type 0} (x y : X) (m n : ℕ) → x ≡ y → m ≡ n → ◌≡◌ {A = X × ℕ} (x, m) (y, n)
pair_is x y m n a b = λ k. (a k, b k)

number_stands : (bytes : List ℕ) (sizes : TableSizes) (Inner : ℕ → EncValue × ℕ → Type 0) (at kind : ℕ) (few : List ℕ) (v : EncValue) → kind < 23 → 1 ≤ length few → is_within (length few - 1) (most_argument kind) ≡ true → v ≡ numeric kind few
    → Here bytes at (tagged kind few) → IsValueIn bytes sizes Inner at (v, at + length (tagged kind few))
number_stands bytes sizes Inner at kind few v lt some within is h =
    let t : Tagged bytes at kind (length few - 1) = tag_is bytes at kind (length few - 1) few (omega (arith, lt)) h in
    Number few (t.has within) (omega (arith, t.tag, lt)) (few_here bytes at kind few some t h) (pair_is v (numeric (tag_at bytes at) few) (at + length (tagged kind few)) (at + 1 + length few) (is ∙ ap (λ (k : ℕ). numeric k few) (sym t.tag)) (omega arith))

name_stands : (bytes : List ℕ) (sizes : TableSizes) (Inner : ℕ → EncValue × ℕ → Type 0) (at kind n : ℕ) (few : List ℕ) (v : EncValue) → 23 ≤ kind → kind < 28 → 1 ≤ length few → is_within (length few - 1) (most_argument kind) ≡ true → zero_extended w32 few ≡ n → n < size_for sizes kind → v ≡ naming kind n
    → Here bytes at (tagged kind few) → IsValueIn bytes sizes Inner at (v, at + length (tagged kind few))
name_stands bytes sizes Inner at kind n few v low lt some within back below is h =
    let t : Tagged bytes at kind (length few - 1) = tag_is bytes at kind (length few - 1) few (omega (arith, lt)) h in
    let size : size_for sizes (tag_at bytes at) ≡ size_for sizes kind = ap (λ (k : ℕ). size_for sizes k) t.tag in
    let named : v ≡ naming (tag_at bytes at) (zero_extended w32 few) = is ∙ (ap (λ (k : ℕ). naming k n) (sym t.tag) ∙ ap (λ (m : ℕ). naming (tag_at bytes at) m) (sym back)) in
    Name few (t.has within) (omega (arith, t.tag, low)) (omega (arith, t.tag, lt)) (few_here bytes at kind few some t h) (omega (arith, back, below, size)) (pair_is v (naming (tag_at bytes at) (zero_extended w32 few)) (at + length (tagged kind few)) (at + 1 + length few) named (omega arith))

-- ---- how many bytes

within_is : (few : List ℕ) (most : ℕ) → length few ≤ suc most → is_within (length few - 1) (Some most) ≡ true
within_is few most le = le-leb (length few - 1) most (omega (arith, le))

le_long : (k n : ℕ) → k ≤ 8 → length (take k (to_le_bytes w64 n)) ≡ k
le_long k n le = length-take-le k (to_le_bytes w64 n) le

signed_low : (n : ℕ) → (1 ≤ signed_len n) × (signed_len n ≤ 8)
signed_low n = by1 (nat_lt n (2 ^ 7)) (nat_lt n (2 ^ 15)) (nat_lt n (2 ^ 23)) (nat_lt n (2 ^ 31)) (nat_lt n (2 ^ 39)) (nat_lt n (2 ^ 47)) (nat_lt n (2 ^ 55))
  where
    by1 : (a b c d e f g : Bool) → (1 ≤ (if a then 1 else if b then 2 else if c then 3 else if d then 4 else if e then 5 else if f then 6 else if g then 7 else 8)) × ((if a then 1 else if b then 2 else if c then 3 else if d then 4 else if e then 5 else if f then 6 else if g then 7 else 8) ≤ 8)
    by1 true b c d e f g = (omega arith, omega arith)
    by1 false true c d e f g = (omega arith, omega arith)
    by1 false false true d e f g = (omega arith, omega arith)
    by1 false false false true e f g = (omega arith, omega arith)
    by1 false false false false true f g = (omega arith, omega arith)
    by1 false false false false false true g = (omega arith, omega arith)
    by1 false false false false false false true = (omega arith, omega arith)
    by1 false false false false false false false = (omega arith, omega arith)

one_byte : (n : ℕ) → n < 2 ^ 7 → signed_len n ≤ 1
one_byte n lt = let t : nat_lt n (2 ^ 7) ≡ true = lt-ltb n (2 ^ 7) lt in rw t (omega arith)

two_bytes : (n : ℕ) → n < 2 ^ 15 → signed_len n ≤ 2
two_bytes n lt = let t : nat_lt n (2 ^ 15) ≡ true = lt-ltb n (2 ^ 15) lt in rw t (by (nat_lt n (2 ^ 7)))
  where
    by : (a : Bool) → (if a then 1 else 2) ≤ 2
    by true = omega arith
    by false = omega arith

four_bytes : (n : ℕ) → n < 2 ^ 31 → signed_len n ≤ 4
four_bytes n lt = let t : nat_lt n (2 ^ 31) ≡ true = lt-ltb n (2 ^ 31) lt in rw t (by (nat_lt n (2 ^ 7)) (nat_lt n (2 ^ 15)) (nat_lt n (2 ^ 23)))
  where
    by : (a b c : Bool) → (if a then 1 else if b then 2 else if c then 3 else 4) ≤ 4
    by true b c = omega arith
    by false true c = omega arith
    by false false true = omega arith
    by false false false = omega arith

signed_long : (z : ℤ) → length (signed_few z) ≡ signed_len (magnitude z)
unfolding signed_few
signed_long z = le_long (signed_len (magnitude z)) (cast_unsigned w64 z) (signed_low (magnitude z)).1

unsigned_long : (n : ℕ) → (1 ≤ length (unsigned_few n)) × (length (unsigned_few n) ≤ 4)
unfolding unsigned_few
unsigned_long n = by (nat_lt n (2 ^ 8)) (nat_lt n (2 ^ 16)) (nat_lt n (2 ^ 24))
  where
    by : (a b c : Bool) → (1 ≤ length (take (if a then 1 else if b then 2 else if c then 3 else 4) (to_le_bytes w32 n))) × (length (take (if a then 1 else if b then 2 else if c then 3 else 4) (to_le_bytes w32 n)) ≤ 4)
    by true b c = (omega arith, omega arith)
    by false true c = (omega arith, omega arith)
    by false false true = (omega arith, omega arith)
    by false false false = (omega arith, omega arith)

half_long : (n : ℕ) → n < 2 ^ 16 → length (unsigned_few n) ≤ 2
unfolding unsigned_few
half_long n lt = let t : nat_lt n (2 ^ 16) ≡ true = lt-ltb n (2 ^ 16) lt in rw t (by (nat_lt n (2 ^ 8)))
  where
    by : (a : Bool) → length (take (if a then 1 else 2) (to_le_bytes w32 n)) ≤ 2
    by true = omega arith
    by false = omega arith

float_long : (n : ℕ) → (1 ≤ length (float_few n)) × (length (float_few n) ≤ 4)
unfolding float_few
float_long n = by (n % 2 ^ 24 == 0) (n % 2 ^ 16 == 0) (n % 2 ^ 8 == 0)
  where
    by : (a b c : Bool) → (1 ≤ length (drop (if a then 3 else if b then 2 else if c then 1 else 0) (to_le_bytes w32 n))) × (length (drop (if a then 3 else if b then 2 else if c then 1 else 0) (to_le_bytes w32 n)) ≤ 4)
    by true b c = (omega arith, omega arith)
    by false true c = (omega arith, omega arith)
    by false false true = (omega arith, omega arith)
    by false false false = (omega arith, omega arith)

double_long : (n : ℕ) → (1 ≤ length (double_few n)) × (length (double_few n) ≤ 8)
unfolding double_few
double_long n = by (n % 2 ^ 56 == 0) (n % 2 ^ 48 == 0) (n % 2 ^ 40 == 0) (n % 2 ^ 32 == 0) (n % 2 ^ 24 == 0) (n % 2 ^ 16 == 0) (n % 2 ^ 8 == 0)
  where
    by : (a b c d e f g : Bool) → (1 ≤ length (drop (if a then 7 else if b then 6 else if c then 5 else if d then 4 else if e then 3 else if f then 2 else if g then 1 else 0) (to_le_bytes w64 n))) × (length (drop (if a then 7 else if b then 6 else if c then 5 else if d then 4 else if e then 3 else if f then 2 else if g then 1 else 0) (to_le_bytes w64 n)) ≤ 8)
    by true b c d e f g = (omega arith, omega arith)
    by false true c d e f g = (omega arith, omega arith)
    by false false true d e f g = (omega arith, omega arith)
    by false false false true e f g = (omega arith, omega arith)
    by false false false false true f g = (omega arith, omega arith)
    by false false false false false true g = (omega arith, omega arith)
    by false false false false false false true = (omega arith, omega arith)
    by false false false false false false false = (omega arith, omega arith)

-- ---- lists

chain_stands : {X : Type 0} (bytes : List ℕ) (Is : ℕ → X × ℕ → Type 0) (text : X → List ℕ) (P : X → Type 0) → ((x : X) (at : ℕ) → P x → Here bytes at (text x) → Is at (x, at + length (text x))) → (xs : List X) (at : ℕ) → AllByRecursion P xs → Here bytes at (concat (map text xs)) → ChainOf Is at xs (at + length (concat (map text xs)))
chain_stands bytes Is text P each [] at all h = omega arith
chain_stands bytes Is text P each (x ∷ xs) at all h =
    let rest : List ℕ = concat (map text xs) in
    let long : at + length (text x) + length rest ≡ at + length (text x ++ rest) = omega (arith, length-append (text x) rest) in
    (at + length (text x), each x at all.0 (here_left bytes at (text x) rest h), subst (λ n. ChainOf Is (at + length (text x)) xs n) long (chain_stands bytes Is text P each xs (at + length (text x)) all.1 (here_right bytes at (text x) rest h)))

-- a count and what is counted
record Counted (bytes : List ℕ) (at many : ℕ) (texts : List (List ℕ)) : Type 0 where
  count : IsUlebAt bytes at (many, at + length (uleb_text many))
  items : Here bytes (at + length (uleb_text many)) (concat texts)
  long : at + length (uleb_text many) + length (concat texts) ≡ at + length (listed texts)

listed_stands : (bytes : List ℕ) (at many : ℕ) (texts : List (List ℕ)) → length texts ≡ many → many < 2 ^ 32 → Here bytes at (listed texts) → Counted bytes at many texts
listed_stands bytes at many texts e lt h =
    let low : min (length texts) 4294967295 ≡ many = omega (arith, e, lt) in
    let whole : listed texts ≡ uleb_text many ++ concat texts = ap (λ (n : ℕ). uleb_text n ++ concat texts) low in
    let here : Here bytes at (uleb_text many ++ concat texts) = here_same bytes at (listed texts) (uleb_text many ++ concat texts) whole h in
    record {
      count = here_uleb bytes at many lt (here_left bytes at (uleb_text many) (concat texts) here);
      items = here_right bytes at (uleb_text many) (concat texts) here;
      long = omega (arith, length-append (uleb_text many) (concat texts), ap (λ (l : List ℕ). length l) whole);
    }

flat_concat : {X : Type 0} (f : X → List ℕ) (xs : List X) → flat_map f xs ≡ concat (map f xs)
flat_concat f [] = refl
flat_concat f (x ∷ xs) = ap (λ (t : List ℕ). f x ++ t) (flat_concat f xs)

array_listed : (v : EncValue) (vs : List EncValue) → array_text (v ∷ vs) ≡ listed (map value_text (v ∷ vs))
unfolding list_text
array_listed v vs = ap (λ (n : ℕ). uleb_text (min n 4294967295) ++ flat_map value_text (v ∷ vs)) (sym (length-map (v ∷ vs) value_text)) ∙ ap (λ (t : List ℕ). uleb_text (min (length (map value_text (v ∷ vs))) 4294967295) ++ t) (flat_concat value_text (v ∷ vs))

-- ---- values

abbrev whole_element : Element → List ℕ
whole_element e = fold-Element (List ℕ) (List ℕ) (List ℕ) layer_text element_text note_layer_text e

element_spelled : (e : Element) → whole_element e ≡ uleb_text e.name ++ value_text e.value
element_spelled e = fold_out-Element (List ℕ) (List ℕ) (List ℕ) layer_text element_text note_layer_text e

value_spelled : (x : EncValue-F EncValue Element Note) → value_text (roll-EncValue x) ≡ layer_text (folds.map-EncValue EncValue Element Note (List ℕ) (List ℕ) (List ℕ) value_text whole_element note_text x)
value_spelled x = fold-roll-EncValue (List ℕ) (List ℕ) (List ℕ) layer_text element_text note_layer_text x

note_spelled : (n : Note) → note_text n ≡ uleb_text (out-Note n).class ++ listed (map whole_element (out-Note n).elements)
note_spelled n = fold_out-Note (List ℕ) (List ℕ) (List ℕ) layer_text element_text note_layer_text n

-- a value has a layer, and an annotation is what it has
abbrev Layered : EncValue → Type 0
Layered v = (x : EncValue-F EncValue Element Note) × (v ≡ roll-EncValue x)

layered : (v : EncValue) → Layered v
layered = ind-EncValue Layered (λ e. Unit {0}) (λ n. Unit {0}) (λ x y is. (x, refl)) (λ x y is. tt) (λ x y is. tt)

abbrev Rolled : Note → Type 0
Rolled n = n ≡ roll-Note (record { class = (out-Note n).class; elements = (out-Note n).elements })

rolled : (n : Note) → Rolled n
rolled = ind-Note (λ v. Unit {0}) (λ e. Unit {0}) Rolled (λ x y is. tt) (λ x y is. tt) (λ x y is. sym (ap (λ (z : Note-F EncValue Element Note). roll-Note (record { class = z.class; elements = z.elements })) (out-roll-Note x)))

module _ (bytes : List ℕ) (sizes : TableSizes) (fit : SizesFit sizes) where
  abbrev Stands : (EncValue → Type 0) → (ℕ → EncValue × ℕ → Type 0) → Type 0
  Stands Inner Is = (v : EncValue) (at : ℕ) → Inner v → Here bytes at (value_text v) → Is at (v, at + length (value_text v))

  element_stands : (Inner : EncValue → Type 0) (Is : ℕ → EncValue × ℕ → Type 0) → Stands Inner Is → (e : Element) (at : ℕ) → (e.name < sizes.strings) × Inner e.value → Here bytes at (whole_element e) → IsElement bytes sizes Is at (e, at + length (whole_element e))
  element_stands Inner Is each e at f h =
      let name : List ℕ = uleb_text e.name in
      let value : List ℕ = value_text e.value in
      let here : Here bytes at (name ++ value) = here_same bytes at (whole_element e) (name ++ value) (element_spelled e) h in
      let long : at + length name + length value ≡ at + length (whole_element e) = omega (arith, length-append name value, ap (λ (l : List ℕ). length l) (element_spelled e)) in
      record {
        mid = at + length name;
        name = here_uleb bytes at e.name (omega (arith, f.0, fit.strings)) (here_left bytes at name value here);
        below = f.0;
        value = subst (λ (n : ℕ). Is (at + length name) (e.value, n)) long (each e.value (at + length name) f.1 (here_right bytes at name value here));
      }

  note_stands : (Inner : EncValue → Type 0) (Is : ℕ → EncValue × ℕ → Type 0) → Stands Inner Is → (n : Note) (at : ℕ) → NoteFits sizes Inner n → Here bytes at (note_text n) → IsNote bytes sizes Is at (n, at + length (note_text n))
  note_stands Inner Is each n at f h =
      let class : ℕ = (out-Note n).class in
      let elements : List Element = (out-Note n).elements in
      let first : List ℕ = uleb_text class in
      let rest : List ℕ = listed (map whole_element elements) in
      let here : Here bytes at (first ++ rest) = here_same bytes at (note_text n) (first ++ rest) (note_spelled n) h in
      let many : length (map whole_element elements) ≡ length elements = length-map elements whole_element in
      let counted : Counted bytes (at + length first) (length elements) (map whole_element elements) = listed_stands bytes (at + length first) (length elements) (map whole_element elements) many f.few (here_right bytes at first rest here) in
      let begin : ℕ = at + length first + length (uleb_text (length elements)) in
      let chain : ChainOf (IsElement bytes sizes Is) begin elements (begin + length (concat (map whole_element elements))) = chain_stands bytes (IsElement bytes sizes Is) whole_element (λ e. (e.name < sizes.strings) × Inner e.value) (λ e place g k. element_stands Inner Is each e place g k) elements begin f.elements counted.items in
      let long : begin + length (concat (map whole_element elements)) ≡ at + length (note_text n) = omega (arith, counted.long, length-append first rest, ap (λ (l : List ℕ). length l) (note_spelled n)) in
      record {
        class = class;
        mid = at + length first;
        begin = begin;
        is_class = here_uleb bytes at class (omega (arith, f.class, fit.types)) (here_left bytes at first rest here);
        below = f.class;
        elements = elements;
        count = counted.count;
        are = subst (λ (m : ℕ). ChainOf (IsElement bytes sizes Is) begin elements m) long chain;
        ascend = f.ascend;
        is = rolled n;
      }

  -- by a layer, whose text stands there
  abbrev layer_spelled : EncValue-F EncValue Element Note → List ℕ
  layer_spelled x = layer_text (folds.map-EncValue EncValue Element Note (List ℕ) (List ℕ) (List ℕ) value_text whole_element note_text x)

  unsigned_within : (n : ℕ) → is_within (length (unsigned_few n) - 1) (Some 3) ≡ true
  unsigned_within n = within_is (unsigned_few n) 3 (unsigned_long n).1

  signed_some : (z : ℤ) → 1 ≤ length (signed_few z)
  signed_some z = omega (arith, signed_long z, (signed_low (magnitude z)).0)

  layer_stands : (Inner : EncValue → Type 0) (Is : ℕ → EncValue × ℕ → Type 0) → Stands Inner Is → (x : EncValue-F EncValue Element Note) (at : ℕ) → LayerFits sizes Inner x → Here bytes at (layer_spelled x) → IsValueIn bytes sizes Is at (roll-EncValue x, at + length (layer_spelled x))
  layer_stands Inner Is each (layer.Byte z) at f h = number_stands bytes sizes Is at 0 (signed_few z) (roll-EncValue (layer.Byte z)) (omega arith) (signed_some z) (within_is (signed_few z) 0 (omega (arith, signed_long z, one_byte (magnitude z) (small z f)))) ((variant.rolls-Byte z) ∙ ap (λ (y : ℤ). variant.Byte y) (sym (signed_back z (wide z f)))) h
    where
      small : (z : ℤ) → FitsSigned w8 z → magnitude z < 2 ^ 7
      small (pos n) g = g.sfits
      small (negsuc n) g = g.sfits

      wide : (z : ℤ) → FitsSigned w8 z → FitsSigned w64 z
      wide (pos n) g = record { sfits = omega (arith, g.sfits) }
      wide (negsuc n) g = record { sfits = omega (arith, g.sfits) }
  layer_stands Inner Is each (layer.Short z) at f h = number_stands bytes sizes Is at 2 (signed_few z) (roll-EncValue (layer.Short z)) (omega arith) (signed_some z) (within_is (signed_few z) 1 (omega (arith, signed_long z, two_bytes (magnitude z) (small z f)))) ((variant.rolls-Short z) ∙ ap (λ (y : ℤ). variant.Short y) (sym (signed_back z (wide z f)))) h
    where
      small : (z : ℤ) → FitsSigned w16 z → magnitude z < 2 ^ 15
      small (pos n) g = g.sfits
      small (negsuc n) g = g.sfits

      wide : (z : ℤ) → FitsSigned w16 z → FitsSigned w64 z
      wide (pos n) g = record { sfits = omega (arith, g.sfits) }
      wide (negsuc n) g = record { sfits = omega (arith, g.sfits) }
  layer_stands Inner Is each (layer.Char n) at f h = number_stands bytes sizes Is at 3 (unsigned_few n) (roll-EncValue (layer.Char n)) (omega arith) (unsigned_long n).0 (within_is (unsigned_few n) 1 (half_long n f)) ((variant.rolls-Char n) ∙ ap (λ (m : ℕ). variant.Char m) (sym (half_back n f))) h
  layer_stands Inner Is each (layer.Int z) at f h = number_stands bytes sizes Is at 4 (signed_few z) (roll-EncValue (layer.Int z)) (omega arith) (signed_some z) (within_is (signed_few z) 3 (omega (arith, signed_long z, four_bytes (magnitude z) (small z f)))) ((variant.rolls-Int z) ∙ ap (λ (y : ℤ). variant.Int y) (sym (signed_back z (wide z f)))) h
    where
      small : (z : ℤ) → FitsSigned w32 z → magnitude z < 2 ^ 31
      small (pos n) g = g.sfits
      small (negsuc n) g = g.sfits

      wide : (z : ℤ) → FitsSigned w32 z → FitsSigned w64 z
      wide (pos n) g = record { sfits = omega (arith, g.sfits) }
      wide (negsuc n) g = record { sfits = omega (arith, g.sfits) }
  layer_stands Inner Is each (layer.Long z) at f h = number_stands bytes sizes Is at 6 (signed_few z) (roll-EncValue (layer.Long z)) (omega arith) (signed_some z) (within_is (signed_few z) 7 (omega (arith, signed_long z, (signed_low (magnitude z)).1))) ((variant.rolls-Long z) ∙ ap (λ (y : ℤ). variant.Long y) (sym (signed_back z f))) h
  layer_stands Inner Is each (layer.Float n) at f h = number_stands bytes sizes Is at 16 (float_few n) (roll-EncValue (layer.Float n)) (omega arith) (float_long n).0 (within_is (float_few n) 3 (float_long n).1) ((variant.rolls-Float n) ∙ ap (λ (m : ℕ). variant.Float m) (sym (float_back n f))) h
  layer_stands Inner Is each (layer.Double n) at f h = number_stands bytes sizes Is at 17 (double_few n) (roll-EncValue (layer.Double n)) (omega arith) (double_long n).0 (within_is (double_few n) 7 (double_long n).1) ((variant.rolls-Double n) ∙ ap (λ (m : ℕ). variant.Double m) (sym (double_back n f))) h
  layer_stands Inner Is each (layer.Str n) at f h = name_stands bytes sizes Is at 23 n (unsigned_few n) (roll-EncValue (layer.Str n)) (omega arith) (omega arith) (unsigned_long n).0 (unsigned_within n) (unsigned_back n (omega (arith, f, fit.strings))) f ((variant.rolls-Str n)) h
  layer_stands Inner Is each (layer.Class n) at f h = name_stands bytes sizes Is at 24 n (unsigned_few n) (roll-EncValue (layer.Class n)) (omega arith) (omega arith) (unsigned_long n).0 (unsigned_within n) (unsigned_back n (omega (arith, f, fit.types))) f ((variant.rolls-Class n)) h
  layer_stands Inner Is each (layer.Field n) at f h = name_stands bytes sizes Is at 25 n (unsigned_few n) (roll-EncValue (layer.Field n)) (omega arith) (omega arith) (unsigned_long n).0 (unsigned_within n) (unsigned_back n (omega (arith, f, fit.fields))) f ((variant.rolls-Field n)) h
  layer_stands Inner Is each (layer.Method n) at f h = name_stands bytes sizes Is at 26 n (unsigned_few n) (roll-EncValue (layer.Method n)) (omega arith) (omega arith) (unsigned_long n).0 (unsigned_within n) (unsigned_back n (omega (arith, f, fit.methods))) f ((variant.rolls-Method n)) h
  layer_stands Inner Is each (layer.Enum n) at f h = name_stands bytes sizes Is at 27 n (unsigned_few n) (roll-EncValue (layer.Enum n)) (omega arith) (omega arith) (unsigned_long n).0 (unsigned_within n) (unsigned_back n (omega (arith, f, fit.fields))) f ((variant.rolls-Enum n)) h
  layer_stands Inner Is each (layer.Array vs) at f h =
      let texts : List (List ℕ) = map value_text vs in
      let t : Tagged bytes at 28 0 = tag_is bytes at 28 0 (listed texts) (omega arith) h in
      let rest : Here bytes (at + 1) (listed texts) = here_is bytes (at + length {A = ℕ} (28 ∷ [])) (at + 1) (listed texts) (omega arith) (here_right bytes at (28 ∷ []) (listed texts) h) in
      let counted : Counted bytes (at + 1) (length vs) texts = listed_stands bytes (at + 1) (length vs) texts (length-map vs value_text) f.0 rest in
      let begin : ℕ = at + 1 + length (uleb_text (length vs)) in
      let chain : ChainOf Is begin vs (begin + length (concat texts)) = chain_stands bytes Is value_text Inner each vs begin f.1 counted.items in
      let long : begin + length (concat texts) ≡ at + length {A = ℕ} (28 ∷ listed texts) = omega (arith, counted.long) in
      Array vs (begin + length (concat texts)) (t.has refl) t.tag (record { begin = begin; count = counted.count; are = chain }) (pair_is (roll-EncValue (layer.Array vs)) (variant.Array vs) (at + length {A = ℕ} (28 ∷ listed texts)) (begin + length (concat texts)) ((variant.rolls-Array vs)) (sym long))
  layer_stands Inner Is each (layer.Annotation n) at f h =
      let t : Tagged bytes at 29 0 = tag_is bytes at 29 0 (note_text n) (omega arith) h in
      let rest : Here bytes (at + 1) (note_text n) = here_is bytes (at + length {A = ℕ} (29 ∷ [])) (at + 1) (note_text n) (omega arith) (here_right bytes at (29 ∷ []) (note_text n) h) in
      Annotation n (at + 1 + length (note_text n)) (t.has refl) t.tag (note_stands Inner Is each n (at + 1) f rest) (pair_is (roll-EncValue (layer.Annotation n)) (variant.Annotation n) (at + length {A = ℕ} (29 ∷ note_text n)) (at + 1 + length (note_text n)) ((variant.rolls-Annotation n)) (omega arith))
  layer_stands Inner Is each layer.Null at f h =
      let t : Tagged bytes at 30 0 = tag_is bytes at 30 0 [] (omega arith) h in
      Null (t.has refl) t.tag (pair_is (roll-EncValue layer.Null) variant.Null (at + length {A = ℕ} (30 ∷ [])) (at + 1) (variant.rolls-Null) (omega arith))
  layer_stands Inner Is each (layer.Bool true) at f h =
      let t : Tagged bytes at 31 1 = tag_is bytes at 31 1 [] (omega arith) h in
      Boolean (t.has refl) t.tag (pair_is (roll-EncValue (layer.Bool true)) (variant.Bool (argument_at bytes at == 1)) (at + length {A = ℕ} (63 ∷ [])) (at + 1) ((variant.rolls-Bool true) ∙ ap (λ (a : ℕ). variant.Bool (a == 1)) (sym t.argument_is)) (omega arith))
  layer_stands Inner Is each (layer.Bool false) at f h =
      let t : Tagged bytes at 31 0 = tag_is bytes at 31 0 [] (omega arith) h in
      Boolean (t.has refl) t.tag (pair_is (roll-EncValue (layer.Bool false)) (variant.Bool (argument_at bytes at == 1)) (at + length {A = ℕ} (31 ∷ [])) (at + 1) ((variant.rolls-Bool false) ∙ ap (λ (a : ℕ). variant.Bool (a == 1)) (sym t.argument_is)) (omega arith))

  pub value_stands : (depth : ℕ) (v : EncValue) (at : ℕ) → ValueFits sizes depth v → Here bytes at (value_text v) → IsValue bytes sizes depth at (v, at + length (value_text v))
  value_stands zero v at f h = absurd f
  value_stands (suc depth) v at f h = by_layer (layered v) (λ w place g k. value_stands depth w place g k)
    where
      by_layer : Layered v → Stands (ValueFits sizes depth) (IsValue bytes sizes depth) → IsValueIn bytes sizes (IsValue bytes sizes depth) at (v, at + length (value_text v))
      by_layer l each =
          let x : EncValue-F EncValue Element Note = l.0 in
          let own : LayerFits sizes (ValueFits sizes depth) x = subst (λ y. LayerFits sizes (ValueFits sizes depth) y) (ap (λ (w : EncValue). out-EncValue w) l.1 ∙ out-roll-EncValue x) f in
          let text : value_text v ≡ layer_spelled x = ap (λ (w : EncValue). value_text w) l.1 ∙ value_spelled x in
          let there = layer_stands (ValueFits sizes depth) (IsValue bytes sizes depth) each x at own (here_same bytes at (value_text v) (layer_spelled x) text h) in
          subst (λ (r : EncValue × ℕ). IsValueIn bytes sizes (IsValue bytes sizes depth) at r) (pair_is (roll-EncValue x) v (at + length (layer_spelled x)) (at + length (value_text v)) (sym l.1) (ap (λ (t : List ℕ). at + length t) (sym text))) there

  pub mark_stands : (m : Mark) (at : ℕ) → MarkFits sizes m → Here bytes at (mark_text m) → IsMark bytes sizes at m
  mark_stands m at f h =
      let first = first_byte bytes at m.visibility (note_text m.note) h in
      record {
        inside = first.0;
        visibility = sym first.1;
        stop = at + 1 + length (note_text m.note);
        note = note_stands (ValueFits sizes 64) (IsValue bytes sizes 64) (value_stands 64) m.note (at + 1) f (here_is bytes (at + length (m.visibility ∷ [])) (at + 1) (note_text m.note) (omega arith) (here_right bytes at (m.visibility ∷ []) (note_text m.note) h));
      }

  pub array_stands : (v : EncValue) (vs : List EncValue) (at : ℕ) → AllByRecursion (ValueFits sizes 64) (v ∷ vs) → length (v ∷ vs) < 2 ^ 32 → Here bytes at (array_text (v ∷ vs)) → AreValues bytes sizes at (v ∷ vs)
  array_stands v vs at f few h =
      let texts : List (List ℕ) = map value_text (v ∷ vs) in
      let counted : Counted bytes at (length (v ∷ vs)) texts = listed_stands bytes at (length (v ∷ vs)) texts (length-map (v ∷ vs) value_text) few (here_same bytes at (array_text (v ∷ vs)) (listed texts) (array_listed v vs) h) in
      let begin : ℕ = at + length (uleb_text (length (v ∷ vs))) in
      record {
        stop = begin + length (concat texts);
        are = record { begin = begin; count = counted.count; are = chain_stands bytes (IsValue bytes sizes 64) value_text (ValueFits sizes 64) (λ w place g k. value_stands 64 w place g k) (v ∷ vs) begin f counted.items };
      }
