-- What is read of an array's items stands there.
use Rattle.std.proofs.Common.{◌≡◌, ◌⊎◌, inl, inr, ℕ, zero, suc, ◌+◌, ◌*◌, Bool, true, false, eqb, List, [], ◌∷◌, length, take, drop, refl, sym, ap, subst, ◌∙◌, arith}
use Rattle.std.specs.Prelude.{◌||◌, ◌%◌, ◌/◌, slice_index}
use Rattle.std.specs.Int.{w64, from_le_bytes}
use Rattle.std.specs.List.{flat_map}
use Rattle.std.proofs.lemmas.Bool.{eqb-true}
use Rattle.std.proofs.lemmas.List.{drop-drop}
use Rattle.class_defs.proofs.WellFormed.{and_left, and_right}
use Rattle.dex_base.specs.Decides.{Each}
use Rattle.insn_set.specs.Spelling.{is_width}
use Rattle.insn_set.specs.declared.form.Insn.{Insn}
use Rattle.insn_set.specs.declared.form.Insn.TheVariants.{FillArray}
use Rattle.code_read.specs.declared.fields.Fields.{Fields}
use Rattle.code_read.specs.Payloads.{entries, double_in, bytes_in, item_in, items_in, is_right, table_form}
use Rattle.code_read.specs.Positions.{target_from}
use Rattle.code_read.specs.Decoded.{payload_of}
use Rattle.dex_defs.specs.Sweep.{Piece, Places}
use Rattle.dex_defs.specs.Instructions.{IsFill, unit_bytes, item_at, double_at}
use Rattle.file_laws.proofs.Payloads.{found_payload, is_payload, at_drop, many_entries, each_entry}

-- a number by its eight bytes
le : (bs : List ℕ) → from_le_bytes w64 bs ≡ slice_index bs 0 + 256 * slice_index bs 1 + 65536 * slice_index bs 2 + 16777216 * slice_index bs 3
    + 4294967296 * slice_index bs 4 + 1099511627776 * slice_index bs 5 + 281474976710656 * slice_index bs 6 + 72057594037927936 * slice_index bs 7
le bs = omega arith

pub bytes_of : List ℕ → List ℕ
bytes_of us = flat_map unit_bytes us

drop_bytes : (k : ℕ) (us : List ℕ) → drop (2 * k) (flat_map unit_bytes us) ≡ flat_map unit_bytes (drop k us)
drop_bytes zero us = refl
drop_bytes (suc k) [] = let e : 2 * suc k ≡ suc (suc (2 * k)) = omega arith in ap (λ (n : ℕ). drop n (flat_map unit_bytes [])) e
drop_bytes (suc k) (u ∷ us) = let e : 2 * suc k ≡ suc (suc (2 * k)) = omega arith in ap (λ (n : ℕ). drop n (flat_map unit_bytes (u ∷ us))) e ∙ drop_bytes k us

two : (us : List ℕ) → item_in 2 us ≡ from_le_bytes w64 (take 2 (flat_map unit_bytes us))
two [] = refl
two (u ∷ us) = omega (arith, le (take 2 (flat_map unit_bytes (u ∷ us))))

four : (us : List ℕ) → item_in 4 us ≡ from_le_bytes w64 (take 4 (flat_map unit_bytes us))
four [] = refl
four (u ∷ []) = omega (arith, le (take 4 (flat_map unit_bytes (u ∷ []))))
four (u ∷ v ∷ us) = omega (arith, le (take 4 (flat_map unit_bytes (u ∷ v ∷ us))))

eight : (us : List ℕ) → item_in 8 us ≡ from_le_bytes w64 (take 8 (flat_map unit_bytes us))
eight [] = refl
eight (u ∷ []) = omega (arith, le (take 8 (flat_map unit_bytes (u ∷ []))))
eight (u ∷ v ∷ []) = omega (arith, le (take 8 (flat_map unit_bytes (u ∷ v ∷ []))))
eight (u ∷ v ∷ w ∷ []) = omega (arith, le (take 8 (flat_map unit_bytes (u ∷ v ∷ w ∷ []))))
eight (u ∷ v ∷ w ∷ x ∷ us) = omega (arith, le (take 8 (flat_map unit_bytes (u ∷ v ∷ w ∷ x ∷ us))))

one : (bs : List ℕ) → slice_index bs 0 ≡ from_le_bytes w64 (take 1 bs)
one [] = refl
one (b ∷ bs) = omega (arith, le (take 1 (b ∷ bs)))

low : (us : List ℕ) → slice_index us 0 % 256 ≡ slice_index (flat_map unit_bytes us) 0
low [] = refl
low (u ∷ us) = refl

high : (us : List ℕ) → slice_index us 0 / 256 ≡ slice_index (drop 1 (flat_map unit_bytes us)) 0
high [] = refl
high (u ∷ us) = refl

after : (us : List ℕ) → drop 2 (flat_map unit_bytes us) ≡ flat_map unit_bytes (drop 1 us)
after [] = refl
after (u ∷ us) = refl

-- ---- each item

single : (n : ℕ) → n ≡ 1 * n
single n = omega arith

byte_there : (bytes bs : List ℕ) (from : ℕ) → bs ≡ drop from bytes → slice_index bs 0 ≡ item_at bytes 1 from
byte_there bytes bs from e = one bs ∙ ap (λ (xs : List ℕ). from_le_bytes w64 (take 1 xs)) (e ∙ ap (λ (n : ℕ). drop n bytes) (single from))

each_byte : (bytes : List ℕ) (n from : ℕ) (us : List ℕ) → flat_map unit_bytes us ≡ drop from bytes → Each (λ i item. item ≡ item_at bytes 1 i) from (bytes_in n us)
each_byte bytes zero from us e = tt
each_byte bytes (suc zero) from us e = (low us ∙ byte_there bytes (flat_map unit_bytes us) from e, tt)
each_byte bytes (suc (suc n)) from us e =
    let next : from + 1 ≡ suc from = omega arith in
    let last : from + 2 ≡ suc (suc from) = omega arith in
    let second : drop 1 (flat_map unit_bytes us) ≡ drop (suc from) bytes = ap (λ (xs : List ℕ). drop 1 xs) e ∙ drop-drop 1 from bytes ∙ ap (λ (k : ℕ). drop k bytes) next in
    let third : flat_map unit_bytes (drop 1 us) ≡ drop (suc (suc from)) bytes = sym (after us) ∙ ap (λ (xs : List ℕ). drop 2 xs) e ∙ drop-drop 2 from bytes ∙ ap (λ (k : ℕ). drop k bytes) last in
    (low us ∙ byte_there bytes (flat_map unit_bytes us) from e, (high us ∙ byte_there bytes (drop 1 (flat_map unit_bytes us)) (suc from) second, each_byte bytes n (suc (suc from)) (drop 1 us) third))

-- items of two bytes or more
wide : (width half n : ℕ) (us : List ℕ) → ((i : ℕ) → 2 * (half * i) ≡ width * i) → ((xs : List ℕ) → item_in width xs ≡ from_le_bytes w64 (take width (flat_map unit_bytes xs)))
    → Each (λ i item. item ≡ item_at (flat_map unit_bytes us) width i) 0 (entries (item_in width) half n us)
wide width half n us double is = each_entry (λ i item. item ≡ item_at (flat_map unit_bytes us) width i) (item_in width) half n us
    (λ i. is (drop (half * i) us) ∙ ap (λ (xs : List ℕ). from_le_bytes w64 (take width xs)) (sym (drop_bytes (half * i) us) ∙ ap (λ (k : ℕ). drop k (flat_map unit_bytes us)) (double i)))

abbrev IsOneOf : ℕ → Type 0
IsOneOf w = ((w ≡ 1) ⊎ (w ≡ 2)) ⊎ ((w ≡ 4) ⊎ (w ≡ 8))

either_true : (a b : Bool) {A B : Type 0} → (a || b) ≡ true → (a ≡ true → A) → (b ≡ true → B) → A ⊎ B
either_true true b h f g = inl (f refl)
either_true false b h f g = inr (g h)

one_of : (w : ℕ) → is_width w ≡ true → IsOneOf w
one_of w h = either_true (eqb w 1 || eqb w 2) (eqb w 4 || eqb w 8) h (λ a. either_true (eqb w 1) (eqb w 2) a (eqb-true w 1) (eqb-true w 2)) (λ a. either_true (eqb w 4) (eqb w 8) a (eqb-true w 4) (eqb-true w 8))

pub record AreItems (w n : ℕ) (us items : List ℕ) : Type 0 where
  pub same : w % 256 ≡ w
  pub many : length items ≡ n
  pub are : Each (λ i item. item ≡ item_at (flat_map unit_bytes us) w i) 0 items

many_bytes : (n : ℕ) (us : List ℕ) → length (bytes_in n us) ≡ n
many_bytes zero us = refl
many_bytes (suc zero) us = refl
many_bytes (suc (suc n)) us = ap (λ (k : ℕ). suc (suc k)) (many_bytes n (drop 1 us))

pub are_items : (w n : ℕ) (us : List ℕ) → IsOneOf w → AreItems w n us (items_in w n us)
are_items w n us h = elim h [
  | inl a ↦ elim a [
    | inl e ↦ subst (λ k. AreItems k n us (items_in k n us)) (sym e) (record { same = refl; many = many_bytes n us; are = each_byte (flat_map unit_bytes us) n 0 us refl })
    | inr e ↦ subst (λ k. AreItems k n us (items_in k n us)) (sym e) (record { same = refl; many = many_entries (item_in 2) 1 n us; are = wide 2 1 n us (λ i. omega arith) two })
  ]
  | inr a ↦ elim a [
    | inl e ↦ subst (λ k. AreItems k n us (items_in k n us)) (sym e) (record { same = refl; many = many_entries (item_in 4) 2 n us; are = wide 4 2 n us (λ i. omega arith) four })
    | inr e ↦ subst (λ k. AreItems k n us (items_in k n us)) (sym e) (record { same = refl; many = many_entries (item_in 8) 4 n us; are = wide 8 4 n us (λ i. omega arith) eight })
  ]
]

-- ---- the instruction

pub is_fill : (places : Places) (p : Piece) (f : Fields) (insn : Insn) → is_right 0x26 (payload_of places p.start f) ≡ true → insn ≡ table_form 0x26 f.a (target_from places.starts p.start) (payload_of places p.start f) → IsFill places p f insn
is_fill places p f insn right is =
    let payload : List ℕ = payload_of places p.start f in
    let w : ℕ = slice_index payload 1 in
    let kind : slice_index payload 0 ≡ 768 = eqb-true (slice_index payload 0) 768 (and_left (eqb (slice_index payload 0) 768) (is_width w) right) in
    let width : is_width w ≡ true = and_right (eqb (slice_index payload 0) 768) (is_width w) right in
    let h = found_payload places p.start f 768 kind (omega arith) in
    let n : ℕ = double_in (drop 2 payload) in
    let items : List ℕ = items_in w n (drop 4 payload) in
    let are = are_items w n (drop 4 payload) (one_of w width) in
    let here : (i : ℕ) → slice_index payload i ≡ slice_index places.units (h.unit + i) = λ i. ap (λ (us : List ℕ). slice_index us i) h.units ∙ at_drop places.units h.unit i in
    let behind : drop 4 payload ≡ drop (h.unit + 4) places.units = ap (λ (us : List ℕ). drop 4 us) h.units ∙ drop-drop 4 h.unit places.units in
    let second : drop 2 payload ≡ drop (h.unit + 2) places.units = ap (λ (us : List ℕ). drop 2 us) h.units ∙ drop-drop 2 h.unit places.units in
    let start : h.unit + 2 + 0 ≡ h.unit + 2 = omega arith in
    let size : double_in (drop (h.unit + 2) places.units) ≡ double_at places.units (h.unit + 2)
    = ap (λ (a : ℕ). a + 65536 * slice_index (drop (h.unit + 2) places.units) 1) (at_drop places.units (h.unit + 2) 0 ∙ ap (λ (i : ℕ). slice_index places.units i) start)
    ∙ ap (λ (b : ℕ). slice_index places.units (h.unit + 2) + 65536 * b) (at_drop places.units (h.unit + 2) 1) in
    record {
      unit = h.unit;
      payload = is_payload places p.start 3 f payload h kind;
      items = items;
      width = ap (λ (k : ℕ). is_width k) (sym (here 1)) ∙ width;
      size = sym (ap (λ (us : List ℕ). double_in us) second ∙ size) ∙ sym are.many;
      are = subst (λ us. Each (λ i item. item ≡ item_at (flat_map unit_bytes us) (slice_index places.units (h.unit + 1)) i) 0 items) behind (subst (λ k. Each (λ i item. item ≡ item_at (flat_map unit_bytes (drop 4 payload)) k i) 0 items) (here 1) are.are);
      is = is ∙ ap (λ (k : ℕ). FillArray f.a k items) (are.same ∙ here 1);
    }
