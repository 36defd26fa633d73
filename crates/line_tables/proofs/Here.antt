-- What is read at a place, by the bytes from there on.
use Rattle.std.proofs.Common.{◌≡◌, ℕ, ℤ, ◌+◌, ◌-◌, ◌*◌, ◌/◌, ◌%◌, ◌<◌, ◌^◌, List, [], ◌∷◌, ◌++◌, length, get_or, take, drop, Ok, refl, sym, ap, ◌∙◌, arith}
use Rattle.std.specs.Prelude.{pos, ◌-ℤ◌, FitsSigned}
use Rattle.std.specs.Int.{w32}
use Rattle.std.proofs.lemmas.Bool.{lt-ltb, ne_eqb}
use Rattle.std.proofs.lemmas.List.{take_at, drop_at, drop-drop, get_or-drop, length-append, length-drop}
use Rattle.dex_base.specs.Reading.{◌>>=◌}
use Rattle.dex_base.specs.Leb.{uleb_at, sleb_at, uleb_text, sleb_text, IsLeb, IsLebAt}
use Rattle.dex_base.proofs.LebReading.{is_uleb, is_sleb, some_byte}
use Rattle.dex_base.proofs.Written.{uleb_spelled, sleb_spelled}
use Rattle.line_tables.specs.declared.opcode.Kind.TheVariants.{Step, Entry, End}
use Rattle.line_tables.specs.Item.{effect, effect_to, effect_at, opcode_at}

leb_here : (bytes text rest : List ℕ) (at : ℕ) → drop at bytes ≡ text ++ rest → IsLeb text → IsLebAt bytes at text
leb_here bytes text rest at here is = record {
  is = is;
  inside = omega (arith, some_byte text is.ends, ap length here, length-append text rest, length-drop at bytes);
  here = ap (take (length text)) here ∙ take_at text rest (length text) refl;
}

-- the bytes behind a text
pub behind_here : (bytes text rest : List ℕ) (at : ℕ) → drop at bytes ≡ text ++ rest → drop (at + length text) bytes ≡ rest
behind_here bytes text rest at here = sym (drop-drop (length text) at bytes) ∙ ap (drop (length text)) here ∙ drop_at text rest (length text) refl

abbrev pub to_place : {A : Type 0} → A → ℕ → A × ℕ
to_place n place = (n, place)

pub uleb_here : (bytes rest : List ℕ) (at n : ℕ) → n < 2 ^ 32 → drop at bytes ≡ uleb_text n ++ rest → uleb_at bytes at ≡ Ok (to_place n (at + length (uleb_text n)))
uleb_here bytes rest at n fits here =
    let s = uleb_spelled n fits in
    (is_uleb bytes at).again (n, at + length (uleb_text n)) (record { text = uleb_text n; stands = leb_here bytes (uleb_text n) rest at here s.is; value = s.value; behind = refl })

pub sleb_here : (bytes rest : List ℕ) (at : ℕ) (z : ℤ) → FitsSigned w32 z → drop at bytes ≡ sleb_text z ++ rest → sleb_at bytes at ≡ Ok (to_place z (at + length (sleb_text z)))
sleb_here bytes rest at z fits here =
    let s = sleb_spelled z fits in
    (is_sleb bytes at).again (z, at + length (sleb_text z)) (record { text = sleb_text z; stands = leb_here bytes (sleb_text z) rest at here s.is; value = s.value; behind = refl })

-- an opcode, and the bytes behind it
pub opcode_here : (bytes rest : List ℕ) (at code : ℕ) → drop at bytes ≡ code ∷ rest → opcode_at bytes at ≡ effect_at bytes code (at + 1)
unfolding opcode_at
opcode_here bytes rest at code here =
    let inside : at < length bytes = omega (arith, ap length here, length-drop at bytes) in
    let plain : at + 0 ≡ at = omega arith in
    let is : get_or bytes at 0 ≡ code = ap (λ (k : ℕ). get_or bytes k 0) (sym plain) ∙ sym (get_or-drop at bytes 0 0) ∙ ap (λ (xs : List ℕ). get_or xs 0 0) here in
    rw (lt-ltb at (length bytes) inside, is) refl

pub behind_code : (bytes rest : List ℕ) (at code : ℕ) → drop at bytes ≡ code ∷ rest → drop (at + 1) bytes ≡ rest
behind_code bytes rest at code here = behind_here bytes (code ∷ []) rest at here

pub effect_end : (bytes : List ℕ) (at : ℕ) → effect_at bytes 0 at ≡ Ok (effect_to (effect 0 (pos 0) End) at)
unfolding effect_at
effect_end bytes at = refl

pub effect_address : (bytes : List ℕ) (at : ℕ) → effect_at bytes 1 at ≡ (uleb_at bytes at >>= λ r. Ok (effect_to (effect r.0 (pos 0) Step) r.1))
unfolding effect_at
effect_address bytes at = refl

pub effect_line : (bytes : List ℕ) (at : ℕ) → effect_at bytes 2 at ≡ (sleb_at bytes at >>= λ r. Ok (effect_to (effect 0 r.0 Step) r.1))
unfolding effect_at
effect_line bytes at = refl

pub effect_entry : (bytes : List ℕ) (at step low : ℕ) → low < 15 → effect_at bytes (10 + low + 15 * step) at ≡ Ok (effect_to (effect step (pos low -ℤ pos 4) Entry) at)
unfolding effect_at
effect_entry bytes at step low few =
    let code = 10 + low + 15 * step in
    let s : (code - 10) / 15 ≡ step = omega arith in
    let l : (code - 10) % 15 ≡ low = omega arith in
    rw (
      ne_eqb code 0 (λ e. omega arith),
      ne_eqb code 1 (λ e. omega arith),
      ne_eqb code 2 (λ e. omega arith),
      ne_eqb code 3 (λ e. omega arith),
      ne_eqb code 4 (λ e. omega arith),
      ne_eqb code 5 (λ e. omega arith),
      ne_eqb code 6 (λ e. omega arith),
      ne_eqb code 9 (λ e. omega arith),
      ne_eqb code 7 (λ e. omega arith),
      ne_eqb code 8 (λ e. omega arith),
      s,
      l,
    ) refl
