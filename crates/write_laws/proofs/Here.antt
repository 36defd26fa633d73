-- What stands in a text stands in the bytes in which the text stands.
use Rattle.std.proofs.Common.{◌≡◌, ◌<◌, ◌+◌, ◌^◌, ℕ, List, ◌++◌, length, take, drop, refl, sym, ap, subst, ◌∙◌, length-append, arith}
use Rattle.std.specs.Int.{w32, from_le_bytes, to_le_bytes}
use Rattle.std.proofs.lemmas.List.{take_at, drop_at, take-take, drop-drop, drop-take, take_all}
use Rattle.std.proofs.lemmas.Nat.{from_le_bytes-to_le_bytes_4}
use Rattle.dex_base.specs.Word.{Is32}
use Rattle.dex_base.specs.Leb.{IsUlebAt, uleb_text}
use Rattle.dex_base.specs.Mutf8.{AreUnits, IsTextAt, text_bytes}
use Rattle.dex_base.proofs.Written.{uleb_spelled}
use Rattle.dex_defs.specs.Here.{Here}

pub here_left : (bytes : List ℕ) (at : ℕ) (a b : List ℕ) → Here bytes at (a ++ b) → Here bytes at a
here_left bytes at a b h = record {
  inside = omega (arith, h.inside, length-append a b);
  is = sym (take-take (length a) (length (a ++ b)) (drop at bytes) (omega (arith, length-append a b))) ∙ ap (λ (l : List ℕ). take (length a) l) h.is ∙ take_at a b (length a) refl;
}

pub here_right : (bytes : List ℕ) (at : ℕ) (a b : List ℕ) → Here bytes at (a ++ b) → Here bytes (at + length a) b
here_right bytes at a b h =
    let long : take (length a + length b) (drop at bytes) ≡ a ++ b = subst (λ n. take n (drop at bytes) ≡ a ++ b) (length-append a b) h.is in
    record {
      inside = omega (arith, h.inside, length-append a b);
      is = rw (← drop-drop (length a) at bytes) (sym (drop-take (length a) (length b) (drop at bytes)) ∙ ap (λ (l : List ℕ). drop (length a) l) long ∙ drop_at a b (length a) refl);
    }

pub here_whole : (bytes : List ℕ) → Here bytes 0 bytes
here_whole bytes = record { inside = omega arith; is = take_all (length bytes) bytes (omega arith) }

pub here_is : (bytes : List ℕ) (at other : ℕ) (text : List ℕ) → at ≡ other → Here bytes at text → Here bytes other text
here_is bytes at other text e h = subst (λ n. Here bytes n text) e h

pub here_same : (bytes : List ℕ) (at : ℕ) (text other : List ℕ) → text ≡ other → Here bytes at text → Here bytes at other
here_same bytes at text other e h = subst (λ l. Here bytes at l) e h

-- ---- numbers

pub here_32 : (bytes : List ℕ) (at n : ℕ) → n < 2 ^ 32 → Here bytes at (to_le_bytes w32 n) → Is32 bytes at n
here_32 bytes at n lt h = record { inside = h.inside; spelled = sym (ap (λ (l : List ℕ). from_le_bytes w32 l) h.is ∙ from_le_bytes-to_le_bytes_4 n lt) }

pub here_uleb : (bytes : List ℕ) (at n : ℕ) → n < 2 ^ 32 → Here bytes at (uleb_text n) → IsUlebAt bytes at (n, at + length (uleb_text n))
here_uleb bytes at n lt h = record {
  text = uleb_text n;
  stands = record { is = (uleb_spelled n lt).is; inside = h.inside; here = h.is };
  value = (uleb_spelled n lt).value;
  behind = refl;
}

-- ---- texts

pub here_text : (bytes : List ℕ) (at : ℕ) (text : List ℕ) → AreUnits (length text) text → Here bytes at (text_bytes text) → IsTextAt bytes at (length text) (text, at + length (text_bytes text))
here_text bytes at text are h = record { are = are; inside = h.inside; here = h.is; behind = refl }
