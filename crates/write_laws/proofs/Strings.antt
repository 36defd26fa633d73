-- Strings are spelled where they lie.
use Rattle.std.proofs.Common.{◌≡◌, ◌<◌, ◌+◌, ◌*◌, ℕ, suc, List, [], ◌∷◌, length, sym, ap, length-append, arith, map}
use Rattle.std.specs.List.{AllByRecursion, flat_map}
use Rattle.dex_base.specs.Word.{Is32}
use Rattle.dex_base.specs.Leb.{uleb_text}
use Rattle.dex_base.specs.Mutf8.{text_bytes, unit_bytes}
use Rattle.dex_base.specs.Decides.{Each, Entries}
use Rattle.dex_pools.specs.declared.header.Extent.{Extent}
use Rattle.dex_pools.specs.Spelled.{IsString}
use Rattle.dex_defs.specs.Here.{Here}
use Rattle.dex_defs.specs.Texts.{string_text}
use Rattle.write_laws.specs.Fits.{FitsText}
use Rattle.dex_defs.specs.Arranged.{Lie, IsAt, Nothing, Something}
use Rattle.write_laws.proofs.Here.{here_left, here_right, here_uleb, here_text}

bytes_some : (text : List ℕ) → 0 < length (text_bytes text)
unfolding text_bytes
bytes_some text = omega (arith, length-append (flat_map unit_bytes text) (0 ∷ []))

pub text_some : (text : List ℕ) → string_text text ≡ [] → ⊥
text_some text e = absurd (omega (arith, ap length e, length-append (uleb_text (length text)) (text_bytes text), bytes_some text))

string_here : (bytes : List ℕ) (strings : Extent) (i at : ℕ) (text : List ℕ) → FitsText text → Is32 bytes (strings.offset + 4 * i) at → Here bytes at (string_text text) → IsString bytes strings i text
string_here bytes strings i at text fit word h = record {
  begin = (length text, at + length (uleb_text (length text)));
  begins = record { at = at; offset = word; units = here_uleb bytes at (length text) fit.few (here_left bytes at (uleb_text (length text)) (text_bytes text) h) };
  stop = at + length (uleb_text (length text)) + length (text_bytes text);
  is_text = here_text bytes (at + length (uleb_text (length text))) text fit.units (here_right bytes at (uleb_text (length text)) (text_bytes text) h);
}

string_at_is : (bytes : List ℕ) (strings : Extent) (i from at stop : ℕ) (text : List ℕ) → FitsText text → Is32 bytes (strings.offset + 4 * i) at → IsAt bytes 1 from at (string_text text) stop → IsString bytes strings i text
string_at_is bytes strings i from at stop text fit word (Nothing a b c) = absurd (text_some text b)
string_at_is bytes strings i from at stop text fit word (Something a b c d e f) = string_here bytes strings i at text fit word e

each_string : (bytes : List ℕ) (strings : Extent) (i from : ℕ) (offsets : List ℕ) (texts : List (List ℕ)) (to : ℕ) → AllByRecursion FitsText texts → Each (λ k at. Is32 bytes (strings.offset + 4 * k) at) i offsets → Lie bytes 1 from offsets (map string_text texts) to → Each (IsString bytes strings) i texts
each_string bytes strings i from [] [] to fit words h = tt
each_string bytes strings i from [] (t ∷ ts) to fit words h = absurd h
each_string bytes strings i from (o ∷ os) [] to fit words h = absurd h
each_string bytes strings i from (o ∷ os) (t ∷ ts) to fit words h =
    (string_at_is bytes strings i from o h.0 t fit.0 words.0 h.1, each_string bytes strings (suc i) h.0 os ts to fit.1 words.1 h.2)

-- strings that lie where their table names them are spelled
pub strings_spelled : (bytes : List ℕ) (strings : Extent) (from : ℕ) (offsets : List ℕ) (texts : List (List ℕ)) (to : ℕ) → strings.size ≡ length texts → AllByRecursion FitsText texts → Each (λ k at. Is32 bytes (strings.offset + 4 * k) at) 0 offsets → Lie bytes 1 from offsets (map string_text texts) to
    → Entries strings.size (IsString bytes strings) texts
strings_spelled bytes strings from offsets texts to size fit words h = (sym size, each_string bytes strings 0 from offsets texts to fit words h)
