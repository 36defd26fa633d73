-- What stands in the bytes from a place on stands in all bytes.
use Rattle.std.proofs.Common.{◌<◌, ℕ, zero, suc, ◌+◌, List, [], ◌∷◌, length, take, drop, Option, sym, ap, ◌∙◌, arith}
use Rattle.std.specs.Prelude.{ℤ, pos, negsuc}
use Rattle.std.specs.Int.{w16, w32, from_le_bytes}
use Rattle.std.proofs.lemmas.List.{length-drop, drop-drop}
use Rattle.dex_base.specs.Decides.{ChainOf}
use Rattle.dex_base.specs.Leb.{EndsLeb, IsLebAt, IsUlebAt, IsSlebAt}
use Rattle.dex_base.specs.Word.{Is16, Is32}
use Rattle.dex_defs.specs.Handlers.{Catches, IsPair, IsRestAt, AreCatches}

pub shift_16 : (bytes : List ℕ) (from at n : ℕ) → Is16 (drop from bytes) at n → Is16 bytes (from + at) n
shift_16 bytes from at n h = record { inside = omega (arith, h.inside, length-drop from bytes); spelled = h.spelled ∙ ap (λ (bs : List ℕ). from_le_bytes w16 (take 2 bs)) (drop-drop at from bytes) }

pub shift_32 : (bytes : List ℕ) (from at n : ℕ) → Is32 (drop from bytes) at n → Is32 bytes (from + at) n
shift_32 bytes from at n h = record { inside = omega (arith, h.inside, length-drop from bytes); spelled = h.spelled ∙ ap (λ (bs : List ℕ). from_le_bytes w32 (take 4 bs)) (drop-drop at from bytes) }

has_byte : (text : List ℕ) → EndsLeb text → 0 < length text
has_byte [] h = absurd h
has_byte (b ∷ bs) h = omega arith

shift_leb : (bytes : List ℕ) (from at : ℕ) (text : List ℕ) → IsLebAt (drop from bytes) at text → IsLebAt bytes (from + at) text
shift_leb bytes from at text h = record {
  is = h.is;
  inside = omega (arith, h.inside, length-drop from bytes, has_byte text h.is.ends);
  here = ap (λ (bs : List ℕ). take (length text) bs) (sym (drop-drop at from bytes)) ∙ h.here;
}

pub shift_uleb : (bytes : List ℕ) (from at n stop : ℕ) → IsUlebAt (drop from bytes) at (n, stop) → IsUlebAt bytes (from + at) (n, from + stop)
shift_uleb bytes from at n stop h = record { text = h.text; stands = shift_leb bytes from at h.text h.stands; value = h.value; behind = omega (arith, h.behind) }

pub shift_sleb : (bytes : List ℕ) (from at : ℕ) (z : ℤ) (stop : ℕ) → IsSlebAt (drop from bytes) at (z, stop) → IsSlebAt bytes (from + at) (z, from + stop)
shift_sleb bytes from at z stop h = record { text = h.text; stands = shift_leb bytes from at h.text h.stands; value = h.value; behind = omega (arith, h.behind) }

pub shift_chain : {X : Type 0} (Is There : ℕ → X × ℕ → Type 0) (from : ℕ) → ((at : ℕ) (x : X) (stop : ℕ) → Is at (x, stop) → There (from + at) (x, from + stop)) → (at : ℕ) (xs : List X) (stop : ℕ) → ChainOf Is at xs stop → ChainOf There (from + at) xs (from + stop)
shift_chain Is There from g at [] stop h = ap (λ (n : ℕ). from + n) h
shift_chain Is There from g at (x ∷ xs) stop h = (from + h.0, g at x h.0 h.1, shift_chain Is There from g h.0 xs stop h.2)

shift_pair : (bytes : List ℕ) (from at : ℕ) (x : ℕ × ℕ) (stop : ℕ) → IsPair (drop from bytes) at (x, stop) → IsPair bytes (from + at) (x, from + stop)
shift_pair bytes from at x stop h = record { mid = from + h.mid; kind = shift_uleb bytes from at x.0 h.mid h.kind; unit = shift_uleb bytes from h.mid x.1 stop h.unit }

shift_rest : (bytes : List ℕ) (from : ℕ) (size : ℤ) (at : ℕ) (rest : Option ℕ) (stop : ℕ) → IsRestAt (drop from bytes) size at rest stop → IsRestAt bytes size (from + at) rest (from + stop)
shift_rest bytes from (pos (suc n)) at rest stop h = (h.0, ap (λ (k : ℕ). from + k) h.1)
shift_rest bytes from (pos zero) at rest stop h = (h.0, shift_uleb bytes from at h.0 stop h.1, h.2)
shift_rest bytes from (negsuc n) at rest stop h = (h.0, shift_uleb bytes from at h.0 stop h.1, h.2)

pub shift_catches : (bytes : List ℕ) (from at : ℕ) (c : Catches) (stop : ℕ) → AreCatches (drop from bytes) at (c, stop) → AreCatches bytes (from + at) (c, from + stop)
shift_catches bytes from at c stop h = record {
  size = h.size;
  begin = from + h.begin;
  mid = from + h.mid;
  is_size = shift_sleb bytes from at h.size h.begin h.is_size;
  many = h.many;
  pairs = shift_chain (IsPair (drop from bytes)) (IsPair bytes) from (shift_pair bytes from) h.begin c.pairs h.mid h.pairs;
  rest = shift_rest bytes from h.size h.mid c.rest stop h.rest;
}
