-- A part that is good where it is placed is not bad.
use Rattle.std.proofs.Common.{◌≡◌, ◌<◌, ◌≤◌, ◌⊎◌, inl, inr, ℕ, ◌+◌, List, length, sym, ap, ◌∙◌, arith}
use Rattle.dex_base.specs.declared.fault.BaseFault.{BaseFault}
use Rattle.dex_base.specs.Leb.{IsUlebAt}
use Rattle.dex_base.specs.Mutf8.{IsTextAt}
use Rattle.dex_base.specs.Word.{Is16, Is32}
use Rattle.dex_base.proofs.Decides.{ok_is}
use Rattle.dex_base.proofs.LebReading.{is_uleb}
use Rattle.dex_base.proofs.Texts.{is_text}
use Rattle.dex_defs.specs.Parts.{Fault, Part, Bytes, Number, Units, IndexOf, HalfIndexOf, NumberIndexOf, IndexOrNone, IsBad}
use Rattle.spelled_law.proofs.Once.{once_16, once_32, once_uleb}

-- what is right of a part
abbrev pub Good : List ℕ → Part → Type 0
Good bytes (Bytes at size) = at + size ≤ length bytes
Good bytes (Number at) = (r : ℕ × ℕ) × IsUlebAt bytes at r
Good bytes (Units at units) = (r : List ℕ × ℕ) × IsTextAt bytes at units r
Good bytes (IndexOf at size) = (n : ℕ) × Is32 bytes at n × (n < size)
Good bytes (HalfIndexOf at size) = (n : ℕ) × Is16 bytes at n × (n < size)
Good bytes (NumberIndexOf at size) = (r : ℕ × ℕ) × IsUlebAt bytes at r × (r.0 < size)
Good bytes (IndexOrNone at size) = (n : ℕ) × Is32 bytes at n × ((n < size) ⊎ (n ≡ 4294967295))

pub not_bad : (bytes : List ℕ) (part : Part) (f : Fault) → Good bytes part → IsBad bytes part f → ⊥
not_bad bytes (Bytes at size) f g b = omega (arith, g, b.0)
not_bad bytes (Number at) f g b = let d = is_uleb bytes at in d.clean g.0 b.0 (d.again g.0 g.1) b.1
not_bad bytes (Units at units) f g b = let d = is_text bytes at units in d.clean g.0 b.0 (d.again g.0 g.1) b.1
not_bad bytes (IndexOf at size) f g b = let e = once_32 bytes at g.0 b.0 g.1 b.1 in omega (arith, e, g.2, b.2)
not_bad bytes (HalfIndexOf at size) f g b = let e = once_16 bytes at g.0 b.0 g.1 b.1 in omega (arith, e, g.2, b.2)
not_bad bytes (NumberIndexOf at size) f g b = let e = ap (λ (r : ℕ × ℕ). r.0) (once_uleb bytes at g.0 (b.0, b.1) g.1 b.2) in omega (arith, e, g.2, b.3)
not_bad bytes (IndexOrNone at size) f g b = let e = once_32 bytes at g.0 b.0 g.1 b.1 in elim g.2 [
  | inl less ↦ omega (arith, e, less, b.2)
  | inr none ↦ omega (arith, e, none, b.3)
]

-- one text stands at a place
pub once_text : (bytes : List ℕ) (at units : ℕ) (x y : List ℕ × ℕ) → IsTextAt bytes at units x → IsTextAt bytes at units y → x ≡ y
once_text bytes at units x y a b = let d = is_text bytes at units in ok_is {F = BaseFault} x y (sym (d.again x a) ∙ d.again y b)
